use Rattle.std.proofs.Common.{sym, ◌∙◌, ap}
use Rattle.driver_laws.specs.Commands.{OpenCommand, free_tag}
use Rattle.driver_laws.specs.Drive.{last_tag}
use Rattle.driver_laws.proofs.Booking.{last_tag_more}
use Rattle.driver_commands.proofs.Tags.{some_tag}
use Rattle.driver_commands.proofs.opening.open_command.Goals as goal

pub unwrap-tag-requires : goal.unwrap-tag-requires
unwrap-tag-requires c = some_tag c.args.commands.now.items c.free_tag.result c.requires.few (c.free_tag.ensures ∙ ap free_tag c.deref.ensures.value)

pub returns-clause-last : goal.returns-clause-last
returns-clause-last c =
    let new = c.push_reserved.ensures.items in
    sym (ap last_tag new ∙ last_tag_more c.args.commands.now.items c.new.result ∙ ap (λ (o : OpenCommand). o.tag) c.new.ensures)

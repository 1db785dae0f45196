use Rattle.std.proofs.Common.{◌∙◌}
use Rattle.driver_laws.specs.Commands.{has}
use Rattle.driver_commands.proofs.Places.{first_any}
use Rattle.driver_commands.proofs.queue.uses.Goals as goal

pub returns : goal.returns
returns c = c.is_some.ensures ∙ first_any (has c.args.tag) c.args.commands.now c.first_with_tag.result c.first_with_tag.ensures

use Rattle.std.proofs.Common.{◌<◌, ◌^◌, length, arith, rules, ap, ◌∙◌}
use Rattle.std.proofs.lemmas.List.{length-append}
use Rattle.flat_unit.specs.declared.event.Event.TheVariants.{Moved}
use Rattle.flat_unit.specs.Print.{line_of}
use Rattle.trace_text.proofs.Lengths.{length-Moved-le}
use Rattle.run_output.proofs.gather.push_moved.Goals as goal

pub push_event-requires : goal.push_event-requires
push_event-requires c =
    let lun : c.in-Some.lun < 2 ^ 8 = search rules in
    let lba : c.in-Some.lba < 2 ^ 32 = search rules in
    let few = length-Moved-le c.in-Some.lun c.in-Some.lba lun lba in
    omega (arith, few, c.requires.room)

pub returns-in-Some-clause-few : goal.returns-in-Some-clause-few
returns-in-Some-clause-few c =
    let lun : c.in-Some.lun < 2 ^ 8 = search rules in
    let lba : c.in-Some.lba < 2 ^ 32 = search rules in
    let few = length-Moved-le c.in-Some.lun c.in-Some.lba lun lba in
    let all = ap length c.push_event.ensures ∙ length-append c.args.output.now (line_of (Moved c.in-Some.lun c.in-Some.lba)) in
    omega (arith, few, all)

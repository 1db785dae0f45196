use Rattle.std.proofs.Common.{◌≡◌, ◌<◌, true, false, List, map, drop, sym, ◌∙◌, subst, rules, refl}
use Rattle.upiu_wire.specs.Upiu.{upiu_at}
use Rattle.hpb_device.specs.declared.task.Task.{Task}
use Rattle.hpb_device.specs.Accept.{goes_on}
use Rattle.hpb_device.specs.Keeps.{KeepsTasks, waiting_of}
use Rattle.hpb_device.proofs.Commands.{first_of}
use Rattle.hpb_device.proofs.Replies.{by_data}
use Rattle.hpb_device.proofs.accept.judge_data.Goals as goal

pub returns-then-not-goes_on-clause-follows : goal.returns-then-not-goes_on-clause-follows
returns-then-not-goes_on-clause-follows c = λ held tasks keeps.
    let v = upiu_at c.args.view.now in
    let task = c.in-Some.task in
    let waits : task.come < task.asked = search rules in
    let lun : task.lun ≡ v.lun = search rules in
    let tag : task.tag ≡ v.tag = search rules in
    let test : goes_on task v ≡ false = search rules in
    let first = first_of c.args.tasks.now task (sym c.head_of.ensures ∙ c.in-Some.is) in
    let P : List Task → Type 0 = λ kept. KeepsTasks kept held tasks in
    let kept = subst P first keeps in
    rw kept.2 (by_data held task kept.0 (map waiting_of (drop 1 c.args.tasks.now)) v false kept.1 waits lun tag test ∙ rw (← c.lun-lun.ensures, ← c.tag-tag.ensures) refl)

pub returns-clause-follows : goal.returns-clause-follows
returns-clause-follows c = λ held tasks keeps.
    let v = upiu_at c.args.view.now in
    let task = c.in-Some.task in
    let waits : task.come < task.asked = search rules in
    let lun : task.lun ≡ v.lun = search rules in
    let tag : task.tag ≡ v.tag = search rules in
    let test : goes_on task v ≡ true = search rules in
    let first = first_of c.args.tasks.now task (sym c.head_of.ensures ∙ c.in-Some.is) in
    let P : List Task → Type 0 = λ kept. KeepsTasks kept held tasks in
    let kept = subst P first keeps in
    (rw kept.2 (by_data held task kept.0 (map waiting_of (drop 1 c.args.tasks.now)) v true kept.1 waits lun tag test), c.segment.ensures)

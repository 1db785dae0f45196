use Rattle.std.proofs.Common.{◌≡◌, ◌<◌, ◌≤◌, ◌==◌, nat_lt, true, false, length, Ok, Err, ◌∙◌, arith, rules}
use Rattle.std.specs.List.{list_any}
use Rattle.std.proofs.lemmas.Bool.Decides.{nat_tests}
use Rattle.flat_unit.specs.Command.{command_of}
use Rattle.hpb_cdb.specs.Cdb.{needed_by}
use Rattle.upiu_wire.specs.Upiu.{upiu_at}
use Rattle.hpb_device.specs.Accept.{IsCommandOf}
use Rattle.hpb_device.specs.Sizes.{sizes}
use Rattle.hpb_device.specs.declared.task.Task.{Task}
use Rattle.hpb_device.proofs.Replies.{free_of, by_length, by_fault, refuses_tag, refuses_unit, refuses_full}
use Rattle.hpb_device.proofs.accept.judge_command.Goals as goal

pub returns-then-expected-needed-clause-judged : goal.returns-then-expected-needed-clause-judged
returns-then-expected-needed-clause-judged c = λ geometry held tasks keeps.
    let v = upiu_at c.args.view.now in
    let alone : list_any (λ (task : Task). task.tag == v.tag) c.args.tasks.now ≡ false = search rules in
    let inside : v.lun < c.args.luns = omega arith in
    let room : length c.args.tasks.now < 32 = search rules in
    let free = free_of c.args.luns v c.args.tasks.now held tasks keeps alone inside room in
    let is : command_of (sizes c.args.luns c.args.limits geometry) v.cdb ≡ Ok c.in-Ok.command = rw (← c.cdb.ensures.value) (c.in-Ok.ensures.command_of c.args.luns geometry) in
    let short : nat_lt v.first (needed_by c.args.limits c.in-Ok.command) ≡ true = grind (arith, nat_tests) in
    let refused = by_length c.args.luns geometry c.args.limits v tasks c.in-Ok.command true is free short in
    refused ∙ search rules

pub returns-in-Err-clause-judged : goal.returns-in-Err-clause-judged
returns-in-Err-clause-judged c = λ geometry held tasks keeps.
    let v = upiu_at c.args.view.now in
    let alone : list_any (λ (task : Task). task.tag == v.tag) c.args.tasks.now ≡ false = search rules in
    let inside : v.lun < c.args.luns = omega arith in
    let room : length c.args.tasks.now < 32 = search rules in
    let free = free_of c.args.luns v c.args.tasks.now held tasks keeps alone inside room in
    let is : IsCommandOf (sizes c.args.luns c.args.limits geometry) v.cdb (Err c.in-Err.cause) = rw (← c.cdb.ensures.value) (c.in-Err.ensures.command_of c.args.luns geometry) in
    let refused = by_fault c.args.luns geometry c.args.limits v tasks c.in-Err.cause is free in
    refused ∙ search rules

pub returns-else-expected-needed-clause-judged : goal.returns-else-expected-needed-clause-judged
returns-else-expected-needed-clause-judged c = λ geometry held tasks keeps.
    let v = upiu_at c.args.view.now in
    let alone : list_any (λ (task : Task). task.tag == v.tag) c.args.tasks.now ≡ false = search rules in
    let inside : v.lun < c.args.luns = omega arith in
    let room : length c.args.tasks.now < 32 = search rules in
    let free = free_of c.args.luns v c.args.tasks.now held tasks keeps alone inside room in
    let is : command_of (sizes c.args.luns c.args.limits geometry) v.cdb ≡ Ok c.in-Ok.command = rw (← c.cdb.ensures.value) (c.in-Ok.ensures.command_of c.args.luns geometry) in
    let long : nat_lt v.first (needed_by c.args.limits c.in-Ok.command) ≡ false = grind (arith, nat_tests) in
    record {
      unopposed = by_length c.args.luns geometry c.args.limits v tasks c.in-Ok.command false is free long;
      command = is ∙ search rules;
    }

pub returns-then-is_in_use-clause-judged : goal.returns-then-is_in_use-clause-judged
returns-then-is_in_use-clause-judged c = λ geometry held tasks keeps.
    let v = upiu_at c.args.view.now in
    let used : list_any (λ (task : Task). task.tag == v.tag) c.args.tasks.now ≡ true = search rules in
    refuses_tag c.args.luns geometry c.args.limits v c.args.tasks.now held tasks keeps used ∙ search rules

pub returns-then-lun-luns-clause-judged : goal.returns-then-lun-luns-clause-judged
returns-then-lun-luns-clause-judged c = λ geometry held tasks keeps.
    let v = upiu_at c.args.view.now in
    let alone : list_any (λ (task : Task). task.tag == v.tag) c.args.tasks.now ≡ false = search rules in
    let outside : c.args.luns ≤ v.lun = omega arith in
    refuses_unit c.args.luns geometry c.args.limits v c.args.tasks.now held tasks keeps alone outside ∙ search rules

pub returns-then-tasks-ge-TASKS-clause-judged : goal.returns-then-tasks-ge-TASKS-clause-judged
returns-then-tasks-ge-TASKS-clause-judged c = λ geometry held tasks keeps.
    let v = upiu_at c.args.view.now in
    let alone : list_any (λ (task : Task). task.tag == v.tag) c.args.tasks.now ≡ false = search rules in
    let inside : v.lun < c.args.luns = omega arith in
    let full : 32 ≤ length c.args.tasks.now = search rules in
    refuses_full c.args.luns geometry c.args.limits v c.args.tasks.now held tasks keeps alone inside full ∙ search rules

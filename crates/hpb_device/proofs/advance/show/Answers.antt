use Rattle.std.proofs.Common.{ℕ, ◌+◌, ◌/◌, ◌<◌, List, length, arith, sym, rules, refl, ap, ◌∙◌}
use Rattle.hpb_outside.specs.Faults.{Rose}
use Rattle.flash_pages.specs.Place.{Place}
use Rattle.flash_pages.specs.Unit.{block_of}
use Rattle.upiu_wire.specs.Upiu.{upiu_out}
use Rattle.upiu_wire.specs.Written.{data_upiu}
use Rattle.upiu_wire.specs.declared.kind.Kind.TheVariants.{DataIn}
use Rattle.hpb_device.proofs.Commands.{block_fewer, block_ok, page_looked_up, read_fails, reads}
use Rattle.hpb_device.proofs.advance.show.Goals as goal

pub overflow_add-lba : goal.overflow_add-lba
overflow_add-lba g c =
    let moves = reads c.args.store.now.luns c.args.limits c.args.task c.requires.task c.requires.reads in
    omega (arith, moves.range, moves.gives, c.requires.first, c.requires.task.within.sent)

pub read_mapped-requires-clause-lba : goal.read_mapped-requires-clause-lba
read_mapped-requires-clause-lba g c =
    let task = c.args.task in
    let moves = reads c.args.store.now.luns c.args.limits task c.requires.task c.requires.reads in
    let more : task.sent < task.given = search rules in
    omega (arith, moves.within, moves.gives, c.requires.first, c.requires.units, more)

pub returns-in-Ok-clause-advances : goal.returns-in-Ok-clause-advances
returns-in-Ok-clause-advances g c =
    let task = c.args.task in
    let moves = reads c.args.store.now.luns c.args.limits task c.requires.task c.requires.reads in
    let block_at : ℕ → List ℕ =
    λ lba. let p : Place = record { lun = task.lun; lba = lba + task.sent / 4096 } in block_of c.args.store.now.pages p in
    let block = c.in-Ok.ensures.block ∙ ap block_at (sym c.requires.first) in
    λ held. (
      record {
        reads = c.requires.reads;
        more = search rules;
        size = ap (λ (lba : ℕ). length (block_at lba)) c.requires.first ∙ (ap (λ (xs : List ℕ). length xs) (sym c.in-Ok.ensures.block) ∙ c.in-Ok.ensures.size);
        sent = c.put_data_in.ensures.written ∙ ap (λ (bytes : List ℕ). upiu_out (data_upiu DataIn task.lun task.tag task.sent bytes)) block;
        task_is = c.with_block.ensures;
      },
      search rules,
      refl,
    )

pub returns-in-Err-clause-advances : goal.returns-in-Err-clause-advances
returns-in-Err-clause-advances g c = λ held.
    let old = c.args.store.now in
    let new = c.read_mapped.follows.lender-at-none in
    let task = c.args.task in
    let rose : Rose old.faults new.faults = search rules in
    (read_fails old new task c.check.result c.requires.reads (search rules) rose (search rules) c.check.ensures, search rules)

pub returns-in-Err-clause-entries : goal.returns-in-Err-clause-entries
returns-in-Err-clause-entries g c = λ entry none. (none, page_looked_up c.args.store.now c.args.task c.args.lba c.requires.first c.in-Err.ensures.called)

pub returns-in-Ok-clause-ok : goal.returns-in-Ok-clause-ok
returns-in-Ok-clause-ok g c =
    let task = c.args.task in
    let more : task.sent < task.given = search rules in
    rw c.with_block.ensures (block_ok c.args.store.now.luns c.args.limits task c.requires.task c.requires.reads more)

pub returns-in-Ok-clause-fewer : goal.returns-in-Ok-clause-fewer
returns-in-Ok-clause-fewer g c =
    let task = c.args.task in
    let more : task.sent < task.given = search rules in
    λ pages wait. rw c.with_block.ensures (block_fewer c.args.store.now.luns c.args.limits task c.requires.task c.requires.reads more pages wait)

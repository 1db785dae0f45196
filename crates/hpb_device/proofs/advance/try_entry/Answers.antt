use Rattle.std.proofs.Common.{◌≡◌, ℕ, ◌/◌, List, length, arith, sym, rules, refl, ap, subst, ◌∙◌, ◌+◌}
use Rattle.flash_pages.specs.Place.{Place}
use Rattle.flash_pages.specs.Unit.{block_of}
use Rattle.flash_store.specs.Entries.{IsHonoured}
use Rattle.upiu_wire.specs.Upiu.{upiu_out}
use Rattle.upiu_wire.specs.Written.{data_upiu}
use Rattle.upiu_wire.specs.declared.kind.Kind.TheVariants.{DataIn}
use Rattle.hpb_device.specs.Advance.{next_place}
use Rattle.hpb_device.proofs.Commands.{block_fewer, block_ok, missed_fewer, missed_ok, reads}
use Rattle.hpb_device.proofs.advance.try_entry.Goals as goal

pub overflow_add-lba : goal.overflow_add-lba
overflow_add-lba g c =
    let moves = reads c.args.store.now.luns c.args.limits c.args.task c.requires.task c.requires.reads in
    omega (arith, moves.range, moves.gives, c.requires.first, c.requires.task.within.sent)

pub read_by_entry-requires-clause-lba : goal.read_by_entry-requires-clause-lba
read_by_entry-requires-clause-lba g c =
    let task = c.args.task in
    let moves = reads c.args.store.now.luns c.args.limits task c.requires.task c.requires.reads in
    omega (arith, moves.within, moves.gives, c.requires.first, c.requires.units, c.requires.more)

pub returns-in-Ok-Some-clause-advances : goal.returns-in-Ok-Some-clause-advances
returns-in-Ok-Some-clause-advances g c =
    let task = c.args.task in
    let at : ℕ → Place = λ lba. record { lun = task.lun; lba = lba + task.sent / 4096 } in
    let here : at c.args.lba ≡ next_place task = ap at (sym c.requires.first) in
    let got : c.in-Ok-Some.block.now ≡ block_of c.args.store.now.pages (at c.args.lba) = search rules in
    let whole : length c.in-Ok-Some.block.now ≡ 4096 = search rules in
    let block = got ∙ ap (block_of c.args.store.now.pages) here in
    λ held. (
      record {
        reads = c.requires.reads;
        more = c.requires.more;
        size = ap (λ (xs : List ℕ). length xs) (sym block) ∙ whole;
        sent = c.put_data_in.ensures.written ∙ ap (λ (bytes : List ℕ). upiu_out (data_upiu DataIn task.lun task.tag task.sent bytes)) block;
        task_is = c.with_block.ensures;
      },
      search rules,
      refl,
    )

pub returns-in-Ok-Some-clause-entries : goal.returns-in-Ok-Some-clause-entries
returns-in-Ok-Some-clause-entries g c =
    let task = c.args.task in
    let at : ℕ → Place = λ lba. record { lun = task.lun; lba = lba + task.sent / 4096 } in
    let honoured : IsHonoured c.args.store.now.pages (at c.args.lba) c.args.entry = search rules in
    λ tries. (c.args.entry, tries, subst (λ (p : Place). IsHonoured c.args.store.now.pages p c.args.entry) (ap at (sym c.requires.first)) honoured)

pub returns-in-Ok-Some-clause-ok : goal.returns-in-Ok-Some-clause-ok
returns-in-Ok-Some-clause-ok g c = rw c.with_block.ensures (block_ok c.args.store.now.luns c.args.limits c.args.task c.requires.task c.requires.reads c.requires.more)

pub returns-in-Ok-Some-clause-fewer : goal.returns-in-Ok-Some-clause-fewer
returns-in-Ok-Some-clause-fewer g c = λ pages wait.
    rw c.with_block.ensures (block_fewer c.args.store.now.luns c.args.limits c.args.task c.requires.task c.requires.reads c.requires.more pages wait)

pub returns-in-Ok-None-clause-advances : goal.returns-in-Ok-None-clause-advances
returns-in-Ok-None-clause-advances g c = λ held.
    ((record { reads = c.requires.reads; more = c.requires.more; untried = c.requires.untried; task_is = refl }, search rules), refl)

pub returns-in-Ok-None-clause-entries : goal.returns-in-Ok-None-clause-entries
returns-in-Ok-None-clause-entries g c =
    let task = c.args.task in
    let at : ℕ → Place = λ lba. record { lun = task.lun; lba = lba + task.sent / 4096 } in
    let refused : ¬ IsHonoured c.args.store.now.pages (at c.args.lba) c.args.entry = search rules in
    λ tries. (c.args.entry, tries, subst (λ (p : Place). ¬ IsHonoured c.args.store.now.pages p c.args.entry) (ap at (sym c.requires.first)) refused)

pub returns-in-Ok-None-clause-ok : goal.returns-in-Ok-None-clause-ok
returns-in-Ok-None-clause-ok g c = missed_ok c.args.store.now.luns c.args.limits c.args.task c.requires.task

pub returns-in-Ok-None-clause-fewer : goal.returns-in-Ok-None-clause-fewer
returns-in-Ok-None-clause-fewer g c = missed_fewer c.args.store.now.luns c.args.limits c.args.task c.requires.task c.requires.reads c.requires.more c.requires.untried

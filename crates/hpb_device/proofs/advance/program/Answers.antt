use Rattle.std.proofs.Common.{◌≡◌, ◌≢◌, ℕ, ◌+◌, ◌-◌, ◌*◌, ◌^◌, ◌<◌, length, slice_range, arith, sym, rules, refl, ap, subst}
use Rattle.flash_pages.specs.Place.{Place}
use Rattle.flash_pages.specs.Unit.{next_seq}
use Rattle.collector_laws.specs.Changes.{until_room}
use Rattle.collector_laws.proofs.Sound.{next_seq-le}
use Rattle.flash_store.specs.Store.{Collects, StoreState, Writes as StoreWrites, collecting}
use Rattle.flat_unit.specs.Command.{is_write}
use Rattle.hpb_device.specs.Left.{wait_of}
use Rattle.hpb_device.proofs.Commands.{writes}
use Rattle.hpb_device.proofs.Left.{collected_fewer, programmed_fewer, wait_most}
use Rattle.hpb_device.proofs.advance.program.Goals as goal

pub overflow_add-lba : goal.overflow_add-lba
overflow_add-lba g c =
    let moves = writes c.args.store.now.luns c.args.limits c.args.lba c.args.n c.args.task c.requires.task c.requires.command in
    omega (arith, moves.range, moves.takes)

pub returns-in-Ok-Done-clause-advances : goal.returns-in-Ok-Done-clause-advances
returns-in-Ok-Done-clause-advances g c =
    let task = c.args.task in
    let old : StoreState = c.args.store.now in
    let at = (c.requires.stands.ready c.requires.ready) in
    let moves = writes old.luns c.args.limits c.args.lba c.args.n task c.requires.task c.requires.command in
    let start = 4096 * task.programmed + length c.args.held.now - task.come in
    let place : ℕ → Place = λ lba. record { lun = task.lun; lba = lba + task.programmed } in
    let bytes = slice_range c.args.held.now start (start + 4096) in
    let Written : ℕ → Type 0 = λ lba. StoreWrites old (place lba) bytes c.write_step.new.self in
    let written : Written c.args.lba = search rules in
    let other : next_seq old.pages ≢ 2 ^ 62 = search rules in
    let most = next_seq-le old.geometry old.luns old.units old.pages at.within at.count at.sound in
    λ out. (
      (
        start,
        record {
          write = ap is_write c.requires.command;
          more = c.requires.more;
          numbered = omega (arith, most, other);
          starts = omega (arith, c.requires.held.rest);
          writes = subst Written (sym moves.first) written;
          task_is = refl;
        },
      ),
      refl,
    )

pub returns-in-Ok-Done-clause-fewer : goal.returns-in-Ok-Done-clause-fewer
returns-in-Ok-Done-clause-fewer g c =
    let task = c.args.task in
    let old : StoreState = c.args.store.now in
    let new : StoreState = c.write_step.new.self in
    let moves = writes old.luns c.args.limits c.args.lba c.args.n task c.requires.task c.requires.command in
    let pages : new.geometry.pages ≡ old.geometry.pages = search rules in
    let some = c.requires.stands.served.limits.least_pages in
    let few = wait_most new (omega (arith, some, pages)) in
    programmed_fewer c.args.limits old.geometry.pages (wait_of old) (wait_of new) task c.args.lba c.args.n (omega (arith, few, pages)) c.requires.command
    (omega (arith, moves.takes, c.requires.more, c.requires.task.within.come, c.requires.task.within.asked))

pub returns-in-Ok-Collected-clause-fewer : goal.returns-in-Ok-Collected-clause-fewer
returns-in-Ok-Collected-clause-fewer g c =
    let task = c.args.task in
    let old : StoreState = c.args.store.now in
    let new : StoreState = c.write_step.new.self in
    let moves = writes old.luns c.args.limits c.args.lba c.args.n task c.requires.task c.requires.command in
    let pages : new.geometry.pages ≡ old.geometry.pages = search rules in
    let most = c.requires.stands.most_before c.requires.ready in
    let geometry : new.geometry ≡ old.geometry = search rules in
    let collects : Collects old c.in-Ok-Collected.moved new = search rules in
    let sooner : until_room new.geometry (collecting new) < until_room old.geometry (collecting old) =
    subst (λ g. until_room g (collecting new) < until_room old.geometry (collecting old)) (sym geometry) collects.sooner in
    let less : wait_of new < wait_of old = omega (arith, sooner, most, pages) in
    collected_fewer c.args.limits old.geometry.pages (wait_of old) (wait_of new) task c.args.lba c.args.n less c.requires.command
    (omega (arith, moves.takes, c.requires.more, c.requires.task.within.come, c.requires.task.within.asked))

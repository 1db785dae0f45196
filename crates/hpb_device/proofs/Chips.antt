-- What a step makes of the chip: it stays sound, and keeps the number of its pages.
use Rattle.std.proofs.Common.{◌≡◌, ℕ, ◌+◌, ◌*◌, ◌<◌, List, length, slice_range, arith, ap, refl, sym, subst, ◌∙◌, true}
use Rattle.flash_pages.specs.Chip.{Page}
use Rattle.flash_pages.specs.Place.{IsPlace}
use Rattle.flash_pages.specs.Sound.{ChipOk}
use Rattle.collector_laws.specs.CollectStep.{CollectState, IsCollectable, Step}
use Rattle.collector_laws.proofs.Keeps.{collect_keeps}
use Rattle.collector_laws.proofs.Writes.{write_keeps}
use Rattle.flash_store.specs.declared.answers.Moved.{Moved}
use Rattle.flash_store.specs.Store.{IsCollected, StoreState, collecting}
use Rattle.hpb_cdb.specs.declared.limits.Limits.{Limits}
use Rattle.hpb_device.specs.declared.advance.Progress.{Progress}
use Rattle.hpb_device.specs.declared.advance.Progress.TheVariants.{Sends, Silent, Ended, Failed}
use Rattle.hpb_device.specs.declared.advance.Internal.TheVariants.{Missed, Programmed, Collected}
use Rattle.hpb_device.specs.declared.task.Task.{Task}
use Rattle.hpb_device.specs.Advance.{Advances, Programs, nth_place}
use Rattle.hpb_device.specs.Task.{IsTaskOk}
use Rattle.flat_unit.specs.Command.{is_write}
use Rattle.hpb_device.proofs.Commands.{is_written, writes}

-- the chip of a store that can be collected from
abbrev pub IsCollectableIn : StoreState → CollectState → Type 0
IsCollectableIn old s = IsCollectable old.geometry old.luns old.units s

-- the chip is sound, and has as many pages as before
pub record IsWholeAfter (old : StoreState) (chip : List Page) : Type 0 where
  pub sound : ChipOk old.geometry old.luns old.units chip
  pub count : length chip ≡ length old.pages

whole_of : (old : StoreState) (s : CollectState) → IsCollectableIn old (collecting old) → IsCollectableIn old s → IsWholeAfter old s.chip
whole_of old s before at = record { sound = at.sound; count = at.count ∙ sym before.count }

whole_along : (old : StoreState) (chip now : List Page) → now ≡ chip → IsWholeAfter old chip → IsWholeAfter old now
whole_along old chip now is whole = subst (IsWholeAfter old) (sym is) whole

pub pages_of : (old new : StoreState) → collecting new ≡ collecting old → new.pages ≡ old.pages
pages_of old new kept = ap (λ (s : CollectState). s.chip) kept

-- the same pages
pub whole_same : (old new : StoreState) → IsCollectableIn old (collecting old) → new.pages ≡ old.pages → IsWholeAfter old new.pages
whole_same old new before same = whole_along old old.pages new.pages same (record { sound = before.sound; count = refl })

-- a step of the collector
pub whole_collected : (old new : StoreState) (moved : Moved) → IsCollectableIn old (collecting old) → IsCollected old moved new → IsWholeAfter old new.pages
whole_collected old new moved before step =
    let after = (collect_keeps old.geometry old.luns old.units (collecting old) before).0 in
    whole_along old _ new.pages (sym (ap (λ (t : Step). t.state.chip) step)) (whole_of old _ before after)

-- the place of a block that is programmed
place_of_write : (old : StoreState) (lim : Limits) (task : Task) → IsTaskOk old.luns lim task → lim.units ≡ old.units → is_write task.command ≡ true → 4096 * task.programmed < task.come
    → IsPlace old.luns old.units (nth_place task task.programmed)
place_of_write old lim task ok units write more =
    let command = is_written task.command write in
    let blocks = writes old.luns lim command.0 command.1 task ok command.2 in
    record { lun = ok.accepted.lun; lba = omega (arith, blocks.within, blocks.first, blocks.takes, more, ok.within.come, ok.within.asked, units) }

whole_programmed : (old new : StoreState) (lim : Limits) (held : List ℕ) (task rest : Task) (start : ℕ) → IsTaskOk old.luns lim task → lim.units ≡ old.units
    → IsCollectableIn old (collecting old) → Programs old new held task rest start → IsWholeAfter old new.pages
whole_programmed old new lim held task rest start ok units before programs =
    let place = place_of_write old lim task ok units programs.write programs.more in
    let after = write_keeps old.geometry old.luns old.units (collecting old) before (nth_place task task.programmed) (slice_range held start (start + 4096)) place programs.numbered
    programs.writes.enough in
    whole_along old _ new.pages (ap (λ (s : CollectState). s.chip) programs.writes.at_frontier) (whole_of old _ before after)

-- a step of a task, whatever it came to
pub whole_after : (lim : Limits) (old new : StoreState) (held held_now : List ℕ) (task : Task) (progress : Progress) (out : List ℕ) → IsTaskOk old.luns lim task → lim.units ≡ old.units
    → IsCollectableIn old (collecting old) → Advances lim old new held held_now task progress out → IsWholeAfter old new.pages
whole_after lim old new held held_now task (Sends what rest) out ok units before advances = whole_same old new before (pages_of old new advances.1)
whole_after lim old new held held_now task (Silent Missed rest) out ok units before advances = whole_same old new before (pages_of old new advances.0.1)
whole_after lim old new held held_now task (Silent Programmed rest) out ok units before advances =
    whole_programmed old new lim held task rest advances.0.0 ok units before advances.0.1
whole_after lim old new held held_now task (Silent (Collected moved) rest) out ok units before advances = whole_collected old new moved before advances.0.collects.step
whole_after lim old new held held_now task (Ended reply) out ok units before advances = whole_same old new before (pages_of old new advances.1)
whole_after lim old new held held_now task (Failed what reply) out ok units before advances = whole_same old new before advances.1

-- The failures that a call of a device tells are those that its count of faults has.
use Rattle.std.proofs.Common.{◌≡◌, ℕ, ◌+◌, ◌≤◌, false, List, [], None, refl, arith}
use Rattle.hpb_outside.specs.Faults.{Rose}
use Rattle.flash_store.specs.declared.answers.Moved.{Moved}
use Rattle.flash_store.specs.declared.answers.Moved.TheVariants.{Idle, Read as ReadPage, Page as MovedPage, Erased as ErasedBlock}
use Rattle.flat_unit.specs.Causes.{FailuresAre, failures}
use Rattle.flat_unit.specs.History.{History, followed_by}
use Rattle.flat_unit.specs.Replays.{events_of}
use Rattle.hpb_device.specs.Calls.{moved_by, stepped}
use Rattle.hpb_device.specs.Standing.{group_of}

pub none_failed : (before now : ℕ) (e : History) → failures e ≡ 0 → now ≡ before → FailuresAre before now e
none_failed before now e none same = record { least = omega (arith, none, same); most = omega (arith, none, same) }

pub one_failed : (before now : ℕ) (e : History) → failures e ≡ 1 → Rose before now → now ≤ before + 1 → FailuresAre before now e
one_failed before now e one rose once = record { least = rw one rose; most = omega (arith, one, once) }

-- a step of the collector that was made
pub moved_fails_none : (moved : Moved) (out : List ℕ) → failures (followed_by [] (events_of (group_of (stepped None (moved_by moved) false) out))) ≡ 0
moved_fails_none Idle out = refl
moved_fails_none ReadPage out = refl
moved_fails_none (MovedPage lun lba) out = refl
moved_fails_none (ErasedBlock block) out = refl

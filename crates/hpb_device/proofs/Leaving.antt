-- What a step leaves, whatever it came to.
use Rattle.std.proofs.Common.{◌≡◌, ℕ, Bool, true, false, ◌≤◌, Option, List, [], ◌∷◌, length, refl, sym, ◌∙◌, ap, subst, arith}
use Rattle.std.specs.Bool.{OnFalse}
use Rattle.std.specs.List.{AllByRecursion}
use Rattle.flash_store.specs.Store.{StoreState}
use Rattle.hpb_cdb.specs.declared.limits.Limits.{Limits}
use Rattle.hpb_device.specs.declared.advance.FailedCall.TheVariants.{MappedRead, EntryRead, WriteStep}
use Rattle.hpb_device.specs.declared.advance.Progress.{Progress}
use Rattle.hpb_device.specs.declared.advance.Progress.TheVariants.{Sends, Silent, Ended, Failed}
use Rattle.hpb_device.specs.declared.advance.Transfer.TheVariants.{LookedUp, ByEntry}
use Rattle.hpb_device.specs.declared.advance.Internal.TheVariants.{Missed, Programmed, Collected}
use Rattle.hpb_device.specs.declared.device.Stepped.{Stepped}
use Rattle.hpb_device.specs.declared.task.Task.{Task}
use Rattle.hpb_device.specs.declared.counts.Counts.{Counts}
use Rattle.hpb_device.specs.Counts.{counted}
use Rattle.entry_lists.specs.Lists.{EntryList}
use Rattle.hpb_device.specs.Lists.{lists_stepped}
use Rattle.hpb_device.specs.Advance.{Advances, AllTasks, Transfers, WhereOver}
use Rattle.hpb_device.specs.Calls.{Leaves, Stays}
use Rattle.hpb_device.specs.Task.{HoldsData, IsQueue, IsTaskOk, IsWaiting, bytes_taken}

-- no step of the collector
abbrev pub IsOfTask : Progress → Type 0
IsOfTask (Silent (Collected moved) rest) = ⊥
IsOfTask _ = Unit {0}

pub on_false : (b : Bool) {P : Type 0} → P → OnFalse b P
on_false true p = tt
on_false false p = p

-- what a step came to stays so when the device has left the task
pub still_advances : (lim : Limits) (old new : StoreState) (held held_mid held_now : List ℕ) (task : Task) (progress : Progress) (mid out : List ℕ) → Stays progress held_mid held_now mid out
    → Advances lim old new held held_mid task progress mid → Advances lim old new held held_now task progress out
still_advances lim old new held held_mid held_now task (Sends what rest) mid out stays advances =
    (subst (λ (b : List ℕ). Transfers lim old what task rest b) (sym stays.1) advances.0, advances.1, stays.0 ∙ advances.2)
still_advances lim old new held held_mid held_now task (Silent what rest) mid out stays advances = (advances.0, stays.0 ∙ advances.1)
still_advances lim old new held held_mid held_now task (Ended reply) mid out stays advances = advances
still_advances lim old new held held_mid held_now task (Failed what reply) mid out stays advances = advances

-- nothing is done yet for the next task
pub waiting_queue : (luns : ℕ) (lim : Limits) (held : List ℕ) (others : List Task) → held ≡ [] → AllByRecursion (IsWaiting luns lim) others → IsQueue luns lim held others
waiting_queue luns lim held [] none all = none
waiting_queue luns lim held (next ∷ others) none all =
    let is = all.0 in
    rw none (is.ok, record { part = omega arith; rest = omega (arith, is.none_come); room = omega (arith, is.none_asked, is.none_come) }, all.1)

kept_queue : (luns : ℕ) (lim : Limits) (rest : Task) (others tasks : List Task) (held_mid held : List ℕ) → tasks ≡ rest ∷ others → held ≡ held_mid
    → IsTaskOk luns lim rest → HoldsData held_mid rest → AllByRecursion (IsWaiting luns lim) others → IsQueue luns lim held tasks
kept_queue luns lim rest others tasks held_mid held is same ok holds all = rw (is, same) (ok, holds, all)

pub leaves_queue : (segment : List ℕ) (luns : ℕ) (lim : Limits) (progress : Progress) (others tasks : List Task) (held_mid held : List ℕ) (result : Stepped) (mid out : List ℕ)
    → Leaves progress segment others tasks held result out
    → Stays progress held_mid held mid out → AllTasks (IsTaskOk luns lim) progress → AllTasks (HoldsData held_mid) progress → AllByRecursion (IsWaiting luns lim) others → IsQueue luns lim held tasks
leaves_queue segment luns lim (Sends what rest) others tasks held_mid held result mid out leaves stays ok holds all = kept_queue luns lim rest others tasks held_mid held leaves.0 stays.0 ok holds all
leaves_queue segment luns lim (Silent what rest) others tasks held_mid held result mid out leaves stays ok holds all = kept_queue luns lim rest others tasks held_mid held leaves.0 stays.0 ok holds all
leaves_queue segment luns lim (Ended reply) others tasks held_mid held result mid out leaves stays ok holds all = rw (leaves.0) (waiting_queue luns lim held others leaves.1 all)
leaves_queue segment luns lim (Failed what reply) others tasks held_mid held result mid out leaves stays ok holds all = rw (leaves.0) (waiting_queue luns lim held others leaves.1 all)

-- no step but one of the collector erases
pub none_erased : (counts : Counts) (progress : Progress) → IsOfTask progress → (counted counts progress).erased ≡ counts.erased
none_erased counts (Sends LookedUp rest) own = refl
none_erased counts (Sends ByEntry rest) own = refl
none_erased counts (Sends _ rest) own = refl
none_erased counts (Silent Missed rest) own = refl
none_erased counts (Silent Programmed rest) own = refl
none_erased counts (Silent (Collected moved) rest) own = absurd own
none_erased counts (Ended reply) own = refl
none_erased counts (Failed MappedRead reply) own = refl
none_erased counts (Failed EntryRead reply) own = refl
none_erased counts (Failed (WriteStep op) reply) own = refl

-- where a command is over, what it held is no more than it takes
pub over_short : (luns : ℕ) (lim : Limits) (held held_now : List ℕ) (task : Task) (progress : Progress) → IsTaskOk luns lim task → HoldsData held task → WhereOver progress (held_now ≡ held)
    → WhereOver progress (length held_now ≤ bytes_taken task.command)
over_short luns lim held held_now task (Ended reply) ok holds same = let is = ap length same in omega (arith, is, holds.part, ok.within.come, ok.within.asked)
over_short luns lim held held_now task (Failed what reply) ok holds same = let is = ap length same in omega (arith, is, holds.part, ok.within.come, ok.within.asked)
over_short luns lim held held_now task (Sends what rest) ok holds same = tt
over_short luns lim held held_now task (Silent what rest) ok holds same = tt

-- the lists after a step, by what was held before it
pub stepped_same : (lists : List (Option EntryList)) (task : Task) (held held_now : List ℕ) (progress : Progress) → WhereOver progress (held_now ≡ held)
    → lists_stepped lists task held_now progress ≡ lists_stepped lists task held progress
stepped_same lists task held held_now (Ended reply) same = ap (λ (h : List ℕ). lists_stepped lists task h (Ended reply)) same
stepped_same lists task held held_now (Failed what reply) same = ap (λ (h : List ℕ). lists_stepped lists task h (Failed what reply)) same
stepped_same lists task held held_now (Sends what rest) same = refl
stepped_same lists task held held_now (Silent what rest) same = refl

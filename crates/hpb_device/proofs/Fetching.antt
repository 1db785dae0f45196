-- The lists of entries that a device keeps are those of its history.
use Rattle.std.proofs.Common.{zero, suc, ◌≡◌, ℕ, ◌-◌, ◌*◌, ◌<◌, ◌≤◌, ◌==◌, Bool, true, false, cond, List, [], ◌∷◌, map}
use Rattle.std.proofs.Common.{length, drop, Option, Some, None, refl, sym, ◌∙◌, ap, subst, arith, inl, inr, zero}
use Rattle.std.specs.Prelude.{find, if◌then◌else◌, slice_index_or, slice_set, replicate}
use Rattle.std.proofs.lemmas.Bool.{false≢true}
use Rattle.std.proofs.lemmas.List.{get_or-set_other, get_or-set_same}
use Rattle.std.proofs.lemmas.Bool.Decides.{nat_tests}
use Rattle.entry_lists.specs.Lists.{EntryList, entry_by, list_at, place_of, with_list}
use Rattle.flat_unit.specs.Contents.{Leaving, leaving, answered}
use Rattle.flat_unit.specs.declared.event.Event.{Event}
use Rattle.flat_unit.specs.declared.event.Event.TheVariants.{Device, Host, Failed as CallFailed, Moved as MovedEvent, Reset}
use Rattle.flat_unit.specs.History.{History, ◌▹◌, followed_by}
use Rattle.flat_unit.specs.Lists.{Fetched, entry_by_list, entry_in, entry_of_block, is_list, lists_after, lists_left, lists_left_by, without_list}
use Rattle.flat_unit.specs.Queue.{tasks_after, after_reply, tasks_changed}
use Rattle.flat_unit.specs.Sizes.{Sizes}
use Rattle.flat_unit.specs.Task.{Task as Waiting}
use Rattle.flat_unit.proofs.entries.Fetched.{found_of, is_same_list, lists_of, without_other, without_same}
use Rattle.hpb_cdb.specs.declared.cdb.Cdb.{Cdb}
use Rattle.hpb_cdb.specs.declared.cdb.Cdb.TheVariants.{HpbRead, Prefetch}
use Rattle.hpb_cdb.specs.declared.limits.Limits.{Limits}
use Rattle.hpb_device.specs.Lists.{AreListsAfter, fetched_as, lists_ended, ListsStand, lists_stepped, lists_unread}
use Rattle.hpb_device.specs.Task.{IsServed, entry_of, IsTaskOk, IsQueue, bytes_taken, HoldsData}
use Rattle.flash_pages.specs.declared.chip.ChipOp.{ChipOp}
use Rattle.flash_pages.specs.declared.chip.ChipOp.TheVariants.{Read as ReadCall}
use Rattle.flash_store.specs.Store.{StoreState}
use Rattle.flash_store.specs.declared.answers.Moved.{Moved}
use Rattle.flash_store.specs.declared.answers.Moved.TheVariants.{Idle, Read as ReadPage, Page as MovedPage, Erased as ErasedBlock}
use Rattle.flash_store.specs.declared.answers.Phase.{Phase}
use Rattle.flash_store.specs.declared.answers.Phase.TheVariants.{Scanning, Ready, Foreign}
use Rattle.flat_unit.proofs.Counting.{data_leaves_none, response_ends, transfer_leaves_none}
use Rattle.flat_unit.specs.Replays.{events_of}
use Rattle.hpb_device.proofs.StepStands.{first_is, flat, sizes_same, IsFirst}
use Rattle.hpb_device.proofs.Stepping.{IsWell, serves_same}
use Rattle.hpb_device.proofs.Transfers.{transfer_is}
use Rattle.hpb_device.specs.Advance.{Advances, Transfers, check, op_of}
use Rattle.hpb_device.specs.Calls.{EndsUnread, Leaves, StepsIn, moved_by, stepped}
use Rattle.hpb_device.specs.Keeps.{waiting_of, KeepsTasks}
use Rattle.hpb_device.specs.Limits.{limits_of}
use Rattle.hpb_device.specs.Regions.{KeepsHistory}
use Rattle.hpb_device.specs.Reply.{reply_upiu, told_upiu}
use Rattle.hpb_device.specs.Standing.{group_of, sizes_of, answer_events}
use Rattle.hpb_device.specs.State.{DeviceState, IsDevice}
use Rattle.hpb_device.specs.declared.advance.Internal.TheVariants.{Missed, Programmed, Collected}
use Rattle.hpb_device.specs.declared.advance.Progress.{Progress}
use Rattle.hpb_device.specs.declared.advance.Progress.TheVariants.{Sends, Silent, Ended, Failed}
use Rattle.hpb_device.specs.declared.advance.Transfer.{Transfer}
use Rattle.hpb_device.specs.declared.device.Stepped.{Stepped}
use Rattle.hpb_device.specs.declared.reply.Cause.TheVariants.{ChipFailed}
use Rattle.hpb_device.specs.declared.reply.Reply.{Reply}
use Rattle.hpb_device.specs.declared.task.Task.{Task}
use Rattle.upiu_wire.specs.Upiu.{upiu_out, Upiu, upiu_at}
use Rattle.upiu_wire.specs.Written.{response_upiu}
use Rattle.flat_unit.proofs.queue.Ends.{out_leaves, reply_is, EndsBadly}
use Rattle.flat_unit.proofs.queue.Tasks.{queue_after}
use Rattle.flat_unit.specs.Reply.{effects_of, reply_of, waits_for_data}
use Rattle.flat_unit.specs.Sound.{answers_to, reply_events}
use Rattle.flat_unit.specs.Tasks.{IsQueue as IsWaitingQueue}
use Rattle.hpb_device.proofs.Collecting.{IsCollecting, moves_on}
use Rattle.hpb_device.specs.declared.device.Sent.{Sent}
use Rattle.hpb_device.specs.declared.device.Sent.TheVariants.{Nothing, Upiu as Answered}

-- a command that brings a list
abbrev pub IsPrefetch : Cdb → Type 0
IsPrefetch (Prefetch lba id len) = Unit {0}
IsPrefetch _ = ⊥

abbrev IsHpbRead : Cdb → Type 0
IsHpbRead (HpbRead lba entry n id) = Unit {0}
IsHpbRead _ = ⊥

-- the list that was put in place, and the others
at_same : (lists : List (Option EntryList)) (lun id luns : ℕ) (l : Option EntryList) → lun < luns → 0 < id → id ≤ 127 → length lists ≡ 127 * luns → list_at (with_list lists lun id l) lun id ≡ l
at_same lists lun id luns l inside some few count =
    let real : (id == 0) ≡ false = grind (arith, nat_tests, some) in
    rw real (get_or-set_same lists (place_of lun id) l None (omega (arith, inside, some, few, count)))

at_other : (lists : List (Option EntryList)) (lun id other_lun other_id : ℕ) (l : Option EntryList) → id ≤ 127 → other_id ≤ 127 → is_same_list lun id other_lun other_id ≡ false
    → list_at (with_list lists lun id l) other_lun other_id ≡ list_at lists other_lun other_id
at_other lists lun id other_lun other_id l few other_few apart = by_ids (id == 0) (other_id == 0) refl refl
  where
    by_ids : (a b : Bool) → (id == 0) ≡ a → (other_id == 0) ≡ b
        → (if b then None else slice_index_or (if a then lists else slice_set lists (place_of lun id) l) (place_of other_lun other_id) None)
        ≡ (if b then None else slice_index_or lists (place_of other_lun other_id) None)
    by_ids a true is other = refl
    by_ids true false is other = refl
    by_ids false false is other =
        let some : 0 < id = grind (arith, nat_tests, is) in
        let other_some : 0 < other_id = grind (arith, nat_tests, other) in
        get_or-set_other lists (place_of lun id) (place_of other_lun other_id) l None (λ same.
        let luns : lun ≡ other_lun = omega (arith, same, some, few, other_some, other_few) in
        let ids : id ≡ other_id = omega (arith, same, some, few, other_some, other_few) in
        let both : is_same_list lun id other_lun other_id ≡ true = grind (arith, nat_tests, luns, ids) in
        false≢true (sym apart ∙ both))

-- read id 0 has no list
none_at : (lists : List (Option EntryList)) (lun : ℕ) → list_at lists lun 0 ≡ None
none_at lists lun = refl

module _ (lists : List (Option EntryList)) (s : Sizes) (e : History) where
  -- the entry that the next block has by the history is the one that it has by these lists
  pub entry_is : (t : Waiting) (command : Cdb) (k : ℕ) (lim : Limits) → AreListsAfter lists s e → t.lun < s.luns → IsServed lim command
      → entry_of_block (lists_after s e) t command k ≡ entry_of lists t.lun command k
  entry_is t (HpbRead lba entry n id) k lim are inside served =
      ap (λ (o : Option Fetched). entry_by_list o entry k) (found_of t.lun id lba (lists_after s e))
      ∙ (ap (λ (ls : List Fetched). entry_by_list (find (λ (l : Fetched). l.lba == lba) ls) entry k) (are t.lun id inside served.1)
      ∙ by_list (list_at lists t.lun id))
    where
      by_lba : (b : Bool) (l : EntryList)
          → entry_by_list (cond b (Some (record { lun = t.lun; id = id; lba = l.lba; bytes = l.bytes })) None) entry k
          ≡ (if b then entry_in l.bytes k else (if k == 0 then Some entry else None))
      by_lba true l = refl
      by_lba false l = refl

      by_list : (o : Option EntryList) → entry_by_list (find (λ (l : Fetched). l.lba == lba) (fetched_as t.lun id o)) entry k ≡ entry_by o lba entry k
      by_list None = refl
      by_list (Some l) = by_lba (l.lba == lba) l
  entry_is t _ k lim are inside served = refl

  -- the lists after an event that leaves them
  pub lists_same : (x : Event) → lists_after s (e ▹ x) ≡ lists_after s e → AreListsAfter lists s e → AreListsAfter lists s (e ▹ x)
  lists_same x same are lun id inside few = ap (lists_of lun id) same ∙ are lun id inside few

  -- a list takes the place of another one
  put : (lun id : ℕ) (o : Option EntryList) (now : List Fetched) → lun < s.luns → id ≤ 127 → length lists ≡ 127 * s.luns
      → (id ≡ 0 → o ≡ None) → lists_of lun id now ≡ fetched_as lun id o
      → ((other_lun other_id : ℕ) → is_same_list lun id other_lun other_id ≡ false → lists_of other_lun other_id now ≡ lists_of other_lun other_id (lists_after s e))
      → AreListsAfter lists s e
      → (other_lun other_id : ℕ) → other_lun < s.luns → other_id ≤ 127 → lists_of other_lun other_id now ≡ fetched_as other_lun other_id (list_at (with_list lists lun id o) other_lun other_id)
  put lun id o now inside few count none same others are other_lun other_id other_inside other_few = by_pair (is_same_list lun id other_lun other_id) refl
    where
      one : (other_lun other_id : ℕ) → lun ≡ other_lun → id ≡ other_id → lists_of lun id now ≡ fetched_as lun id (list_at (with_list lists lun id o) lun id)
          → lists_of other_lun other_id now ≡ fetched_as other_lun other_id (list_at (with_list lists lun id o) other_lun other_id)
      one other_lun other_id luns ids is =
          subst (λ (n : ℕ). lists_of other_lun n now ≡ fetched_as other_lun n (list_at (with_list lists lun id o) other_lun n)) ids
          (subst (λ (n : ℕ). lists_of n id now ≡ fetched_as n id (list_at (with_list lists lun id o) n id)) luns is)

      here : (b : Bool) → (id == 0) ≡ b → list_at (with_list lists lun id o) lun id ≡ o
      here true is =
          let zero : id ≡ 0 = grind (arith, nat_tests, is) in
          subst (λ (n : ℕ). list_at (with_list lists lun n o) lun n ≡ o) (sym zero) (sym (none zero))
      here false is = at_same lists lun id s.luns o inside (grind (arith, nat_tests, is)) few count

      by_pair : (b : Bool) → is_same_list lun id other_lun other_id ≡ b
          → lists_of other_lun other_id now ≡ fetched_as other_lun other_id (list_at (with_list lists lun id o) other_lun other_id)
      by_pair true is =
          let luns : lun ≡ other_lun = grind (arith, nat_tests, is) in
          let ids : id ≡ other_id = grind (arith, nat_tests, is) in
          one other_lun other_id luns ids (same ∙ ap (fetched_as lun id) (sym (here (id == 0) refl)))
      by_pair false is =
          others other_lun other_id is
          ∙ (are other_lun other_id other_inside other_few
          ∙ ap (fetched_as other_lun other_id) (sym (at_other lists lun id other_lun other_id o few other_few is)))

  -- a task ends
  ended_by : (l : Leaving) (command : Cdb) (lim : Limits) (held : List ℕ) → l.task.lun < s.luns → IsServed lim command → length lists ≡ 127 * s.luns
      → (IsPrefetch command → l.good ≡ true → l.task.come ≡ held) → AreListsAfter lists s e
      → (lun id : ℕ) → lun < s.luns → id ≤ 127 → lists_of lun id (lists_left_by (lists_after s e) l command) ≡ fetched_as lun id (list_at (lists_ended lists l.task.lun command l.good held) lun id)
  ended_by l (HpbRead lba entry n id) lim held inside served count come are =
      put l.task.lun id None (without_list l.task.lun id (lists_after s e)) inside served.1 count (λ zero. refl) (without_same l.task.lun id (lists_after s e))
      (λ other_lun other_id apart. without_other l.task.lun id other_lun other_id (lists_after s e) apart) are
  ended_by l (Prefetch lba id len) lim held inside served count come are = by_good l.good refl
    where
      new : Fetched
      new = record { lun = l.task.lun; id = id; lba = lba; bytes = l.task.come }

      old : List Fetched
      old = without_list l.task.lun id (lists_after s e)

      itself : is_list l.task.lun id new ≡ true
      itself = grind (arith, nat_tests)

      first : lists_of l.task.lun id (new ∷ old) ≡ new ∷ []
      first =
          ap (λ (b : Bool). cond b (new ∷ lists_of l.task.lun id old) (lists_of l.task.lun id old)) itself
          ∙ ap (λ (ls : List Fetched). new ∷ ls) (without_same l.task.lun id (lists_after s e))

      others : (other_lun other_id : ℕ) → is_same_list l.task.lun id other_lun other_id ≡ false → lists_of other_lun other_id (new ∷ old) ≡ lists_of other_lun other_id (lists_after s e)
      others other_lun other_id apart =
          ap (λ (b : Bool). cond b (new ∷ lists_of other_lun other_id old) (lists_of other_lun other_id old)) apart
          ∙ without_other l.task.lun id other_lun other_id (lists_after s e) apart

      kept : EntryList
      kept = record { lba = lba; bytes = held }

      by_good : (good : Bool) → l.good ≡ good → (lun id_of : ℕ) → lun < s.luns → id_of ≤ 127
          → lists_of lun id_of (if good then new ∷ old else lists_after s e)
          ≡ fetched_as lun id_of (list_at (if good then with_list lists l.task.lun id (Some kept) else lists) lun id_of)
      by_good true is =
          put l.task.lun id (Some kept) (new ∷ old) inside served.2 count (λ zero. absurd (omega (arith, zero, served.1)))
          (first ∙ ap (λ (xs : List ℕ). record { lun = l.task.lun; id = id; lba = lba; bytes = xs } ∷ []) (come tt is)) others are
      by_good false is = are
  ended_by l _ lim held inside served count come are = are

  -- an answer that ends one task
  pub lists_answered : (out : List ℕ) (l : Leaving) (lim : Limits) (held : List ℕ) → leaving (tasks_after s e) (Device out) ≡ l ∷ [] → l.task.lun < s.luns → IsServed lim l.task.command
      → length lists ≡ 127 * s.luns → (IsPrefetch l.task.command → l.good ≡ true → l.task.come ≡ held) → AreListsAfter lists s e
      → AreListsAfter (lists_ended lists l.task.lun l.task.command l.good held) s (e ▹ Device out)
  lists_answered out l lim held leaves inside served count come are lun id of_unit few =
      ap (λ (ls : List Leaving). lists_of lun id (lists_left (lists_after s e) ls)) leaves ∙ ended_by l l.task.command lim held inside served count come are lun id of_unit few

  -- and one that ends none
  pub lists_unanswered : (out : List ℕ) → leaving (tasks_after s e) (Device out) ≡ [] → AreListsAfter lists s e → AreListsAfter lists s (e ▹ Device out)
  lists_unanswered out none are = lists_same (Device out) (ap (lists_left (lists_after s e)) none) are

lists_moved : (d now : DeviceState) (e : History) → now.lists ≡ d.lists → sizes_of d ≡ sizes_of now → ListsStand d e → ListsStand now e
lists_moved d now e lists sizes stand = subst (λ (s : Sizes). AreListsAfter now.lists s e) sizes (subst (λ (l : List (Option EntryList)). AreListsAfter l (sizes_of d) e) (sym lists) stand)

-- a device that keeps these lists
lists_now : (d now : DeviceState) (lists : List (Option EntryList)) (e : History) → now.lists ≡ lists → sizes_of d ≡ sizes_of now → AreListsAfter lists (sizes_of d) e → ListsStand now e
lists_now d now lists e is sizes stand = lists_moved (record d { lists = lists }) now e is sizes stand

-- the data that came for a prefetch are all held
held_whole : (luns : ℕ) (lim : Limits) (held come : List ℕ) (task : Task) → IsTaskOk luns lim task → HoldsData held task → IsPrefetch task.command → length come ≡ task.come
    → drop (task.come - length held) come ≡ held → come ≡ held
held_whole luns lim held come task ok holds is counted last =
    let most : bytes_taken task.command ≤ 2040 = by_command task.command ok.accepted.served is in
    let none : task.come - length held ≡ 0 = omega (arith, most, ok.within.programmed, ok.within.come, ok.within.asked, holds.rest) in
    sym (ap (λ (n : ℕ). drop n come) none) ∙ last
  where
    by_command : (command : Cdb) → IsServed lim command → IsPrefetch command → bytes_taken command ≤ 2040
    by_command (Prefetch lba id len) served is = served.4
    by_command _ served is = absurd is

-- a step of the first task
module _ (old new : DeviceState) (task : Task) (others : List Task) (result : Stepped) (out : List ℕ) (e : History) (well : IsWell old)
    (same_sizes : sizes_of old ≡ sizes_of new) (keeps : KeepsHistory old e) (was : old.tasks ≡ task ∷ others) (stand : ListsStand old e) where
  abbrev s : Sizes
  s = sizes_of old

  only : IsFirst task others old.held keeps.tasks
  only = first_is old.tasks old.held keeps.tasks task others was keeps.keeps

  queue : IsQueue old.store.luns (limits_of old.shape) old.held (task ∷ others)
  queue = subst (IsQueue old.store.luns (limits_of old.shape) old.held) was well.queue

  abbrev t : Waiting
  t = flat task only.come

  tasks_now : tasks_after s e ≡ t ∷ map waiting_of others
  tasks_now = keeps.same ∙ only.first

  come_held : IsPrefetch task.command → only.come ≡ old.held
  come_held is = held_whole old.store.luns (limits_of old.shape) old.held only.come task queue.0 queue.1 is only.counted only.last

  -- it is answered, after these events
  answered_as : (h : History) (status residual : ℕ) (segment : List ℕ) (held : List ℕ) → tasks_after s h ≡ t ∷ map waiting_of others → AreListsAfter old.lists s h
      → out ≡ upiu_out (response_upiu task.lun task.tag status residual segment) → (IsPrefetch task.command → (status == 0) ≡ true → only.come ≡ held)
      → new.lists ≡ lists_ended old.lists task.lun task.command (status == 0) held → ListsStand new (h ▹ Device out)
  answered_as h status residual segment held tasks are sent come lists =
      let l : Leaving = record { task = t; good = status == 0 } in
      let leaves : leaving (tasks_after s h) (Device out) ≡ l ∷ [] =
      ap (λ (b : List ℕ). leaving (tasks_after s h) (Device b)) sent ∙ response_ends s h t (map waiting_of others) status residual segment tasks in
      lists_now old new (lists_ended old.lists task.lun task.command (status == 0) held) (h ▹ Device out) lists same_sizes
      (lists_answered old.lists s h out l (limits_of old.shape) held leaves queue.0.accepted.lun queue.0.accepted.served well.lists come are)

  -- it isn't answered
  unanswered : (what : Transfer) (rest : Task) → Transfers (limits_of old.shape) old.store what task rest out → leaving (tasks_after s e) (Device out) ≡ []
  unanswered what rest sends = elim (transfer_is (limits_of old.shape) old.store what task rest out sends) [
    | inl data_in ↦ ap (λ (b : List ℕ). leaving (tasks_after s e) (Device b)) data_in.1 ∙ data_leaves_none (tasks_after s e) task.lun task.tag task.sent data_in.0
    | inr ready ↦ ap (λ (b : List ℕ). leaving (tasks_after s e) (Device b)) ready.1 ∙ transfer_leaves_none (tasks_after s e) task.lun task.tag task.asked ready.0
  ]

  collected : (moved : Moved) → new.lists ≡ old.lists → ListsStand new (followed_by e (events_of (group_of (stepped None (moved_by moved) false) out)))
  collected Idle lists = lists_moved old new e lists same_sizes stand
  collected ReadPage lists = lists_moved old new e lists same_sizes stand
  collected (MovedPage lun lba) lists = lists_now old new old.lists (e ▹ MovedEvent lun lba) lists same_sizes (lists_same old.lists s e (MovedEvent lun lba) refl stand)
  collected (ErasedBlock block) lists = lists_moved old new e lists same_sizes stand

  failed_first : (op : ChipOp) → AreListsAfter old.lists s (e ▹ CallFailed op)
  failed_first op = lists_same old.lists s e (CallFailed op) refl stand

  lists_by : (segment : List ℕ) (progress : Progress) → Advances (limits_of old.shape) old.store new.store old.held new.held task progress out
      → Leaves progress segment others new.tasks new.held result out → new.lists ≡ lists_stepped old.lists task old.held progress
      → ListsStand new (followed_by e (events_of (group_of result out)))
  lists_by segment (Sends what rest) advances leaves lists =
      rw (leaves.1) (lists_now old new old.lists (e ▹ Device out) lists same_sizes (lists_unanswered old.lists s e out (unanswered what rest advances.0) stand))
  lists_by segment (Silent Missed rest) advances leaves lists = rw (leaves.1) (lists_moved old new e lists same_sizes stand)
  lists_by segment (Silent Programmed rest) advances leaves lists = rw (leaves.1) (lists_moved old new e lists same_sizes stand)
  lists_by segment (Silent (Collected moved) rest) advances leaves lists = rw (leaves.1) (collected moved lists)
  lists_by segment (Ended reply) advances leaves lists =
      let sent : (r : Reply) → reply ≡ r → out ≡ upiu_out (told_upiu segment r) = λ r is. leaves.3 ∙ ap (λ (r : Reply). upiu_out (told_upiu segment r)) is in
      let changed : (r : Reply) → reply ≡ r → new.lists ≡ lists_stepped old.lists task old.held (Ended r) =
      λ r is. lists ∙ ap (λ (r : Reply). lists_stepped old.lists task old.held (Ended r)) is in
      rw (leaves.2) (elim advances.0 [
        | inl good ↦ answered_as e 0 _ segment old.held tasks_now stand (sent _ good.1) (λ is good. come_held is) (changed _ good.1)
        | inr full ↦ answered_as e 2 _ _ old.held tasks_now stand (sent _ full.1) (λ is good. absurd (false≢true good)) (changed _ full.1)
      ])
  lists_by segment (Failed what reply) advances leaves lists =
      rw (leaves.2) (answered_as (e ▹ CallFailed (op_of what)) 2 _ _ old.held tasks_now (failed_first (op_of what))
      (leaves.3 ∙ ap (λ (r : Reply). upiu_out (reply_upiu r)) advances.0.answer) (λ is good. absurd (false≢true good)) lists)

  -- it ends because the chip could not be read
  unread_by : (failed : Option ChipOp) → out ≡ upiu_out (reply_upiu (check task ChipFailed)) → new.lists ≡ lists_ended old.lists task.lun task.command false []
      → ListsStand new (followed_by e (events_of (group_of (stepped failed None true) out)))
  unread_by None sent lists = answered_as e 2 _ _ [] tasks_now stand sent (λ is good. absurd (false≢true good)) lists
  unread_by (Some op) sent lists = answered_as (e ▹ CallFailed op) 2 _ _ [] tasks_now (failed_first op) sent (λ is good. absurd (false≢true good)) lists

unread_lists : (old new : DeviceState) (failed : Option ChipOp) (tasks : List Task) (result : Stepped) (out : List ℕ) (e : History) → IsWell old → sizes_of old ≡ sizes_of new → KeepsHistory old e
    → old.tasks ≡ tasks → EndsUnread failed tasks new.tasks result out → new.lists ≡ lists_unread old.lists tasks → ListsStand old e
    → ListsStand new (followed_by e (events_of (group_of result out)))
unread_lists old new None [] result out e well sizes keeps was ends lists stand = rw (ends.1) (lists_moved old new e lists sizes stand)
unread_lists old new (Some op) [] result out e well sizes keeps was ends lists stand =
    rw (ends.1) (lists_now old new old.lists (e ▹ CallFailed op) lists sizes (lists_same old.lists (sizes_of old) e (CallFailed op) refl stand))
unread_lists old new failed (task ∷ others) result out e well sizes keeps was ends lists stand =
    rw (ends.1) (unread_by old new task others result out e well sizes keeps was stand failed ends.2 lists)

-- what a step makes of the lists, whatever is known of the chip
pub steps_lists : (phase : Phase) (old new : DeviceState) (result : Stepped) (out : List ℕ) (e : History) → IsWell old → StepsIn phase old new result out
    → new.shape ≡ old.shape → KeepsHistory old e → ListsStand old e → ListsStand new (followed_by e (events_of (group_of result out)))
steps_lists Scanning old new result out e well scans shape keeps stand =
    let sizes = sizes_same old new scans.same shape in
    elim scans.outcome [
      | inl reads ↦ rw (reads.result_is) (lists_moved old new e reads.lists sizes stand)
      | inr misses ↦ unread_lists old new (Some ReadCall) old.tasks result out e well sizes keeps refl misses.ends misses.lists stand
    ]
steps_lists Ready old new result out e well goes shape keeps stand =
    let sizes = sizes_same old new (serves_same old.store new.store goes.same) shape in
    lists_by old new goes.task goes.others result out e well sizes keeps goes.was stand _ goes.progress goes.advances goes.leaves goes.lists
steps_lists Foreign old new result out e well refuses shape keeps stand =
    let store = refuses.store in
    let sizes = sizes_same old new (record {
      geometry = ap (λ (z : StoreState). z.geometry) store;
      luns = ap (λ (z : StoreState). z.luns) store;
      units = ap (λ (z : StoreState). z.units) store;
    }) shape in
    unread_lists old new None old.tasks result out e well sizes keeps refl refuses.ends refuses.lists stand

-- what waits for data reads no blocks
waits_no_read : (command : Cdb) → 0 < bytes_taken command → IsHpbRead command → ⊥
waits_no_read (HpbRead lba entry n id) some is = omega (arith, some)
waits_no_read _ some is = is

badly_left : (lists : List Fetched) (l : Leaving) (command : Cdb) → l.good ≡ false → (IsHpbRead command → ⊥) → lists_left_by lists l command ≡ lists
badly_left lists l (HpbRead lba entry n id) bad other = absurd (other tt)
badly_left lists l (Prefetch lba id len) bad other = rw bad refl
badly_left lists l _ bad other = refl

-- the first task of a history that a device keeps takes the data that it waits for
first_takes : (luns : ℕ) (lim : Limits) (kept : List Task) (held : List ℕ) (tasks : List Waiting) (task : Waiting) (others : List Waiting) → IsQueue luns lim held kept → KeepsTasks kept held tasks
    → tasks ≡ task ∷ others → waits_for_data task ≡ true → 0 < bytes_taken task.command
first_takes luns lim [] held tasks task others queue keeps is waits = absurd (no_task (sym keeps ∙ is))
  where
    no_task : {t : Waiting} {ts : List Waiting} → [] ≡ t ∷ ts → ⊥
    no_task is = cc
first_takes luns lim (head ∷ others_kept) held tasks task others queue keeps is waits =
    let same : keeps.0 ≡ task = same_first (sym keeps.2 ∙ is) in
    let asked : 0 < keeps.0.asked = subst (λ (t : Waiting). 0 < t.asked) (sym same) (asked_some task waits) in
    let takes : 0 < bytes_taken head.command = omega (arith, asked, keeps.1.asked, queue.0.within.asked) in
    subst (λ (c : Cdb). 0 < bytes_taken c) (sym keeps.1.command ∙ ap (λ (t : Waiting). t.command) same) takes
  where
    same_first : {a b : Waiting} {xs ys : List Waiting} → a ∷ xs ≡ b ∷ ys → a ≡ b
    same_first is = cc

    asked_some : (t : Waiting) → waits_for_data t ≡ true → 0 < t.asked
    asked_some t waits = grind (arith, nat_tests, waits)

-- bytes of the host, and what answers them at once, leave the lists as they were
pub answered_lists : (d : DeviceState) (bytes : List ℕ) (sent : Sent) (out : List ℕ) (e : History) → IsQueue d.store.luns (limits_of d.shape) d.held d.tasks → KeepsHistory d e
    → ((tasks : List Waiting) → KeepsTasks d.tasks d.held tasks → answers_to (sizes_of d) true tasks bytes ≡ answer_events sent out) → ListsStand d e
    → ListsStand d (followed_by (e ▹ Host bytes) (answer_events sent out))
answered_lists d bytes Nothing out e kept keeps answers stand = lists_same d.lists (sizes_of d) e (Host bytes) refl stand
answered_lists d bytes Answered out e kept keeps answers stand =
    by_reply (reply_of s true keeps.tasks bytes) refl (answers keeps.tasks keeps.keeps)
  where
    s : Sizes
    s = sizes_of d

    queue : IsWaitingQueue s keeps.tasks
    queue = subst (IsWaitingQueue s) keeps.same (queue_after s e)

    same_bytes : {a b : List ℕ} {xs : List Event} → Device a ∷ xs ≡ Device b ∷ [] → a ≡ b
    same_bytes is = cc

    no_answer : {x : Event} → [] ≡ x ∷ [] → ⊥
    no_answer is = cc

    tasks_same : (v : Upiu) → reply_of s true keeps.tasks bytes ≡ Some v → tasks_after s (e ▹ Host bytes) ≡ keeps.tasks
    tasks_same v is =
        (λ i. tasks_changed s (keeps.on i) (keeps.same i) (Host bytes))
        ∙ ap (after_reply s keeps.tasks (upiu_at bytes)) is

    host : AreListsAfter d.lists s (e ▹ Host bytes)
    host = lists_same d.lists s e (Host bytes) refl stand

    left_same : (ls : List Leaving) → EndsBadly keeps.tasks ls → lists_left (lists_after s (e ▹ Host bytes)) ls ≡ lists_after s (e ▹ Host bytes)
    left_same [] badly = refl
    left_same (l ∷ []) badly =
        badly_left (lists_after s (e ▹ Host bytes)) l l.task.command badly.1
        (waits_no_read l.task.command (first_takes d.store.luns (limits_of d.shape) d.tasks d.held keeps.tasks l.task badly.0.0 kept keeps.keeps badly.0.1 badly.2))
    left_same (l ∷ m ∷ ls) badly = absurd badly

    by_reply : (reply : Option Upiu) → reply_of s true keeps.tasks bytes ≡ reply → reply_events (effects_of s true keeps.tasks bytes) (reply_of s true keeps.tasks bytes) ≡ Device out ∷ []
        → ListsStand d (e ▹ Host bytes ▹ Device out)
    by_reply None is events = absurd (no_answer (sym (ap (reply_events (effects_of s true keeps.tasks bytes)) is) ∙ events))
    by_reply (Some v) is events =
        let out_is : upiu_out v ≡ out = same_bytes (sym (ap (reply_events (effects_of s true keeps.tasks bytes)) is) ∙ events) in
        let reply = reply_is s true keeps.tasks bytes v queue is in
        let leaves : leaving (tasks_after s (e ▹ Host bytes)) (Device out) ≡ answered v v.kind keeps.tasks =
        ap (λ (b : List ℕ). leaving (tasks_after s (e ▹ Host bytes)) (Device b)) (sym out_is)
        ∙ (ap (λ (ts : List Waiting). leaving ts (Device (upiu_out v))) (tasks_same v is) ∙ out_leaves keeps.tasks v) in
        lists_same d.lists s (e ▹ Host bytes) (Device out)
        (ap (lists_left (lists_after s (e ▹ Host bytes))) leaves ∙ left_same (answered v v.kind keeps.tasks) reply.0) host

-- a device that serves the same blocks keeps the same lists
pub lists_still : (d now : DeviceState) (e : History) → now.store ≡ d.store → now.shape ≡ d.shape → now.lists ≡ d.lists → ListsStand d e → ListsStand now e
lists_still d now e store shape lists stand =
    lists_moved d now e lists (sizes_same d now (record {
      geometry = ap (λ (z : StoreState). z.geometry) store;
      luns = ap (λ (z : StoreState). z.luns) store;
      units = ap (λ (z : StoreState). z.units) store;
    }) shape) stand

-- a step of the collector, and its call that failed
pub collect_lists : (d n : DeviceState) (is : IsCollecting d n) (moved : Moved) (e : History) → ListsStand d e → ListsStand n (moves_on moved [] e)
collect_lists d n is moved e stand = by_moved moved
  where
    sizes_now : sizes_of d ≡ sizes_of n
    sizes_now = sizes_same d n (serves_same d.store n.store is.same) is.shape

    by_moved : (moved : Moved) → ListsStand n (moves_on moved [] e)
    by_moved Idle = lists_moved d n e is.lists sizes_now stand
    by_moved ReadPage = lists_moved d n e is.lists sizes_now stand
    by_moved (MovedPage lun lba) = lists_now d n d.lists (e ▹ MovedEvent lun lba) is.lists sizes_now (lists_same d.lists (sizes_of d) e (MovedEvent lun lba) refl stand)
    by_moved (ErasedBlock block) = lists_moved d n e is.lists sizes_now stand

pub unmoved_lists : (d n : DeviceState) (is : IsCollecting d n) (op : ChipOp) (e : History) → ListsStand d e → ListsStand n (e ▹ CallFailed op)
unmoved_lists d n is op e stand =
    lists_now d n d.lists (e ▹ CallFailed op) is.lists (sizes_same d n (serves_same d.store n.store is.same) is.shape) (lists_same d.lists (sizes_of d) e (CallFailed op) refl stand)

-- no list is kept
pub same_everywhere : {A : Type 0} (count place : ℕ) (x : A) → slice_index_or (replicate count x) place x ≡ x
same_everywhere zero place x = refl
same_everywhere (suc count) zero x = refl
same_everywhere (suc count) (suc place) x = same_everywhere count place x

none_kept : (count lun id : ℕ) → list_at (replicate count None) lun id ≡ None
none_kept count lun id = by_id (id == 0)
  where
    nothing : Option EntryList
    nothing = None

    by_id : (b : Bool) → (if b then nothing else slice_index_or (replicate count nothing) (place_of lun id) nothing) ≡ nothing
    by_id true = refl
    by_id false = same_everywhere count (place_of lun id) nothing

pub reset_lists : (n : DeviceState) (count : ℕ) (e : History) → n.lists ≡ replicate count None → ListsStand n (e ▹ Reset)
reset_lists n count e lists = λ lun id inside few. sym (ap (fetched_as lun id) (ap (λ (l : List (Option EntryList)). list_at l lun id) lists ∙ none_kept count lun id))

pub begins_lists : (device : DeviceState) (count : ℕ) → device.lists ≡ replicate count None → ListsStand device []
begins_lists device count lists = λ lun id inside few. sym (ap (fetched_as lun id) (ap (λ (l : List (Option EntryList)). list_at l lun id) lists ∙ none_kept count lun id))

-- the queue of a device
pub queue_in : (d now : DeviceState) (luns room : ℕ) → d ≡ now → IsDevice d.store d.shape luns d.regions d.lists d.tasks d.held room → IsQueue now.store.luns (limits_of now.shape) now.held now.tasks
queue_in d now luns room same is =
    subst (λ (x : DeviceState). IsQueue x.store.luns (limits_of x.shape) x.held x.tasks) same
    (subst (λ (n : ℕ). IsQueue n (limits_of d.shape) d.held d.tasks) (sym is.luns_served) is.queue)

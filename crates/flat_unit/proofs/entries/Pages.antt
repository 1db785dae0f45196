-- Which pages the chip of a device has after one more event, and that fresh entries are its pages.
use Rattle.std.proofs.Common.{◌≡◌, ℕ, ◌+◌, ◌<◌, Bool, true, false, ◌&&◌, ◌||◌, List, [], ◌∷◌, length, Option, Some, None, refl, sym, ◌∙◌, ap, subst, arith}
use Rattle.std.specs.Prelude.{if◌then◌else◌, is_some}
use Rattle.std.specs.List.{list_any}
use Rattle.std.proofs.lemmas.Bool.{false≢true}
use Rattle.std.proofs.lemmas.Bool.Decides.{nat_tests}
use Rattle.flash_pages.specs.declared.chip.ChipOp.{ChipOp}
use Rattle.flash_pages.specs.Place.{Place, IsPlace}
use Rattle.hpb_cdb.specs.declared.cdb.Cdb.{Cdb}
use Rattle.hpb_cdb.specs.declared.cdb.Cdb.TheVariants.{Write}
use Rattle.flat_unit.specs.declared.event.Event.{Event}
use Rattle.flat_unit.specs.declared.event.Event.TheVariants.{Reset, Moved, Failed}
use Rattle.flat_unit.specs.Contents.{Leaving, is_among, is_same, leaving, leaving_all}
use Rattle.flat_unit.specs.History.{History, ◌▹◌}
use Rattle.flat_unit.specs.Pages.{HasPages, HeadTouched}
use Rattle.flat_unit.specs.Queue.{tasks_after}
use Rattle.flat_unit.specs.Sizes.{Sizes}
use Rattle.flat_unit.specs.Stands.{Kept, is_programmed, is_programmed_for}
use Rattle.flat_unit.specs.Task.{Task}
use Rattle.flat_unit.specs.Writes.{covers, is_settled, is_touched, is_written_by}
use Rattle.flat_unit.proofs.standing.Sending.{left_with, none_programmed, with_tasks}
use Rattle.flat_unit.proofs.standing.OneCall.{among_next, programmed_more, same_place}
use Rattle.flat_unit.proofs.entries.Told.{come_touched}

-- the event settles the place
abbrev pub settles : Place → List Leaving → Bool
settles p ls = list_any (λ (l : Leaving). l.good && covers p l.task) ls

either_holds : (a b c d : Bool) {P : Type 0} → (a ≡ true → P) → (b ≡ true → P) → (c ≡ true → P) → (d ≡ true → P) → (a || ((b || c) || d)) ≡ true → P
either_holds true b c d f g h k is = f refl
either_holds false true c d f g h k is = g refl
either_holds false false true d f g h k is = h refl
either_holds false false false true f g h k is = k refl
either_holds false false false false f g h k is = absurd (false≢true is)

neither : (a b c : Bool) → (a || (b || c)) ≡ false → (a || c) ≡ false
neither true b c is = is
neither false true c is = absurd (false≢true (sym is))
neither false false c is = is

first_holds : (a b : Bool) → a ≡ true → (a || b) ≡ true
first_holds a b is = ap (λ (x : Bool). x || b) is

second_holds : (a b c : Bool) → b ≡ true → (a || (b || c)) ≡ true
second_holds true b c is = refl
second_holds false b c is = ap (λ (x : Bool). x || c) is

third_holds : (a b c : Bool) → c ≡ true → (a || (b || c)) ≡ true
third_holds true b c is = refl
third_holds false true c is = refl
third_holds false false c is = is

-- the same pages serve one more event
pub pages_event : (s : Sizes) (had : Place → Bool) (kept now : Kept) (page_of : Place → Option ℕ) (e : History) (x : Event)
    → ((p : Place) → IsPlace s.luns s.units p → settles p (leaving (tasks_after s e) x) ≡ true → is_some (page_of p) ≡ true)
    → ((p : Place) → IsPlace s.luns s.units p → is_programmed now.programmed now.tasks p ≡ true → is_some (page_of p) ≡ true)
    → HasPages s had kept page_of e → HasPages s had now page_of (e ▹ x)
pages_event s had kept now page_of e x settled programmed has = record {
  there = λ p place is. either_holds (had p) (settles p (leaving (tasks_after s e) x)) (is_settled s e p) (is_programmed now.programmed now.tasks p)
      (λ one. has.there p place (first_holds (had p) _ one))
      (settled p place)
      (λ one. has.there p place (second_holds (had p) (is_settled s e p) _ one))
      (programmed p place)
      is;
  absent = λ p place is. has.absent p place (neither (had p) _ (is_touched s e p) is);
}

-- an event that no write is answered GOOD by, after which no more is programmed
pub pages_stay : (s : Sizes) (had : Place → Bool) (kept now : Kept) (page_of : Place → Option ℕ) (e : History) (x : Event)
    → ((p : Place) → settles p (leaving (tasks_after s e) x) ≡ false)
    → ((p : Place) → is_programmed now.programmed now.tasks p ≡ true → is_programmed kept.programmed kept.tasks p ≡ true)
    → HasPages s had kept page_of e → HasPages s had now page_of (e ▹ x)
pages_stay s had kept now page_of e x none fewer has =
    pages_event s had kept now page_of e x
    (λ p place one. absurd (false≢true (sym (none p) ∙ one)))
    (λ p place one. has.there p place (third_holds (had p) (is_settled s e p) _ (fewer p one)))
    has

-- the same pages, of which no more are programmed for the first task
pub pages_as : (s : Sizes) (had : Place → Bool) (kept now : Kept) (page_of : Place → Option ℕ) (e : History)
    → ((p : Place) → is_programmed now.programmed now.tasks p ≡ true → is_programmed kept.programmed kept.tasks p ≡ true)
    → HasPages s had kept page_of e → HasPages s had now page_of e
pages_as s had kept now page_of e fewer has = record {
  there = λ p place one. has.there p place (or_fewer (had p) (is_settled s e p) _ _ (fewer p) one);
  absent = has.absent;
}
  where
    or_fewer : (a b c d : Bool) → (c ≡ true → d ≡ true) → (a || (b || c)) ≡ true → (a || (b || d)) ≡ true
    or_fewer true b c d f one = refl
    or_fewer false true c d f one = refl
    or_fewer false false c d f one = f one

-- a place has a page where it had one, though it may be another one
pub pages_elsewhere : (s : Sizes) (had : Place → Bool) (kept : Kept) (old new : Place → Option ℕ) (e : History)
    → ((p : Place) → IsPlace s.luns s.units p → is_some (new p) ≡ is_some (old p)) → HasPages s had kept old e → HasPages s had kept new e
pages_elsewhere s had kept old new e same has = record {
  there = λ p place one. same p place ∙ has.there p place one;
  absent = λ p place none. without (new p) (same p place ∙ ap is_some (has.absent p place none));
}
  where
    without : (o : Option ℕ) → is_some o ≡ false → o ≡ None
    without None is = refl
    without (Some x) is = absurd (false≢true (sym is))

-- pages that are the same ones: an erase block without a valid page was erased
pub pages_along : (s : Sizes) (had : Place → Bool) (kept : Kept) (old new : Place → Option ℕ) (e : History)
    → ((p : Place) → IsPlace s.luns s.units p → new p ≡ old p) → HasPages s had kept old e → HasPages s had kept new e
pages_along s had kept old new e same has = pages_elsewhere s had kept old new e (λ p place. ap is_some (same p place)) has

-- a call of the chip failed
pub pages_failed : (s : Sizes) (had : Place → Bool) (kept : Kept) (page_of : Place → Option ℕ) (e : History) (op : ChipOp)
    → HasPages s had kept page_of e → HasPages s had kept page_of (e ▹ Failed op)
pages_failed s had kept page_of e op has = pages_stay s had kept kept page_of e (Failed op) (λ p. refl) (λ p one. one) has

-- collection moved a page
pub pages_moved : (s : Sizes) (had : Place → Bool) (kept : Kept) (old new : Place → Option ℕ) (e : History) (lun lba : ℕ)
    → ((p : Place) → IsPlace s.luns s.units p → is_some (new p) ≡ is_some (old p)) → HasPages s had kept old e → HasPages s had kept new (e ▹ Moved lun lba)
pages_moved s had kept old new e lun lba same has =
    pages_stay s had kept kept new e (Moved lun lba) (λ p. refl) (λ p one. one) (pages_elsewhere s had kept old new e same has)

-- tasks that leave without GOOD settle nothing
pub bad_settles_none : (p : Place) (tasks : List Task) → settles p (leaving_all false tasks) ≡ false
bad_settles_none p [] = refl
bad_settles_none p (task ∷ others) = bad_settles_none p others

-- a reset drops all tasks
pub pages_reset : (s : Sizes) (had : Place → Bool) (kept now : Kept) (page_of : Place → Option ℕ) (e : History) → now.tasks ≡ []
    → HasPages s had kept page_of e → HasPages s had now page_of (e ▹ Reset)
pages_reset s had kept now page_of e none has =
    pages_stay s had kept now page_of e Reset (λ p. bad_settles_none p (tasks_after s e))
    (λ p one. absurd (false≢true (sym (ap (λ (ts : List Task). is_programmed now.programmed ts p) none) ∙ one)))
    has

-- a write that is answered GOOD has a page of each of its blocks
pub pages_good : (s : Sizes) (had : Place → Bool) (kept : Kept) (page_of : Place → Option ℕ) (e : History) (x : Event) (task : Task) (others : List Task) (lba n : ℕ)
    → task.command ≡ Write lba n → kept.programmed ≡ n → leaving (tasks_after s e) x ≡ record { task = task; good = true } ∷ []
    → HasPages s had (with_tasks (task ∷ others) kept) page_of e → HasPages s had (left_with others kept) page_of (e ▹ x)
pages_good s had kept page_of e x task others lba n is all leaves has =
    pages_event s had (with_tasks (task ∷ others) kept) (left_with others kept) page_of e x
    (λ p place one. has.there p place (third_holds (had p) (is_settled s e p) _ (covered p (sym (ap (settles p) leaves) ∙ one))))
    (λ p place one. absurd (false≢true (sym (none_programmed others p) ∙ one)))
    has
  where
    or_false : (b : Bool) → (b || false) ≡ true → b ≡ true
    or_false true is = refl
    or_false false is = is

    covered : (p : Place) → (covers p task || false) ≡ true → is_programmed kept.programmed (task ∷ others) p ≡ true
    covered p one =
        subst (λ (c : Cdb). is_programmed_for kept.programmed task c p ≡ true) (sym is)
        (ap (λ (m : ℕ). is_among task.lun lba m p) all ∙ ap (is_written_by p task) (sym is) ∙ or_false (covers p task) one)

-- the page of a place is another one from here on
abbrev pub with_page : Place → ℕ → (Place → Option ℕ) → Place → Option ℕ
with_page place page page_of p = if is_same place p then Some page else page_of p

-- a block of the first task is programmed
pub pages_programmed : (s : Sizes) (had : Place → Bool) (kept : Kept) (page_of : Place → Option ℕ) (e : History) (task : Task) (others : List Task) (lba n free page : ℕ)
    → task.command ≡ Write lba n → kept.programmed < n → 0 < length task.come → tasks_after s e ≡ task ∷ others
    → HasPages s had (with_tasks (task ∷ others) kept) page_of e
    → HasPages s had (programmed_more s (task ∷ others) task lba free kept) (with_page (record { lun = task.lun; lba = lba + kept.programmed }) page page_of) e
pages_programmed s had kept page_of e task others lba n free page is more come keeps has = record {
  there = λ p place one. by_place p place (is_same (record { lun = task.lun; lba = lba + kept.programmed }) p) refl one;
  absent = λ p place none. gone_place p place (is_same (record { lun = task.lun; lba = lba + kept.programmed }) p) refl none;
}
  where
    fewer : (p : Place) → is_same (record { lun = task.lun; lba = lba + kept.programmed }) p ≡ false → is_programmed (kept.programmed + 1) (task ∷ others) p ≡ true
        → is_programmed kept.programmed (task ∷ others) p ≡ true
    fewer p other one =
        subst (λ (c : Cdb). is_programmed_for kept.programmed task c p ≡ true) (sym is)
        (sym (among_next task.lun lba kept.programmed p other) ∙ subst (λ (c : Cdb). is_programmed_for (kept.programmed + 1) task c p ≡ true) is one)

    split : (a b c d : Bool) → (c ≡ true → d ≡ true) → (a || (b || c)) ≡ true → (a || (b || d)) ≡ true
    split true b c d f one = refl
    split false true c d f one = refl
    split false false c d f one = f one

    by_place : (p : Place) → IsPlace s.luns s.units p → (b : Bool) → is_same (record { lun = task.lun; lba = lba + kept.programmed }) p ≡ b
        → (had p || (is_settled s e p || is_programmed (kept.programmed + 1) (task ∷ others) p)) ≡ true → is_some (if b then Some page else page_of p) ≡ true
    by_place p place true same one = refl
    by_place p place false same one = has.there p place (split (had p) (is_settled s e p) (is_programmed (kept.programmed + 1) (task ∷ others) p) (is_programmed kept.programmed (task
        ∷ others) p) (fewer p same) one)

    right_false : (a b : Bool) → (a || b) ≡ false → b ≡ false
    right_false false b none = none
    right_false true b none = absurd (false≢true (sym none))

    here : is_among task.lun lba n (record { lun = task.lun; lba = lba + kept.programmed }) ≡ true
    here = grind (arith, nat_tests)

    touched : is_touched s e (record { lun = task.lun; lba = lba + kept.programmed }) ≡ true
    touched = subst (λ (ts : List Task). HeadTouched (record { lun = task.lun; lba = lba + kept.programmed }) (is_touched s e (record { lun = task.lun; lba = lba + kept.programmed })) ts) keeps
        (come_touched s (record { lun = task.lun; lba = lba + kept.programmed }) e) come
        (ap (is_written_by (record { lun = task.lun; lba = lba + kept.programmed }) task) is ∙ here)

    gone_place : (p : Place) → IsPlace s.luns s.units p → (b : Bool) → is_same (record { lun = task.lun; lba = lba + kept.programmed }) p ≡ b
        → (had p || is_touched s e p) ≡ false → (if b then Some page else page_of p) ≡ None
    gone_place p place false same none = has.absent p place none
    gone_place p place true same none =
        let q : record { lun = task.lun; lba = lba + kept.programmed } ≡ p = same_place (record { lun = task.lun; lba = lba + kept.programmed }) p same in
        absurd (false≢true (sym (right_false (had p) (is_touched s e p) none) ∙ subst (λ (r : Place). is_touched s e r ≡ true) q touched))

-- What holds after all turns of a drive.
use Rattle.std.proofs.Common.{◌≡◌, ℕ, Bool, true, false, cond, List, [], ◌∷◌, ◌++◌, map, filter, drop, Option, Some, None, Result, Ok, Err, refl, sym, ◌∙◌, ap, subst, arith, append_assoc, append-nil}
use Rattle.std.specs.Prelude.{if◌then◌else◌, fold}
use Rattle.std.specs.List.{AllByRecursion, find}
use Rattle.flash_pages.specs.Place.{Place}
use Rattle.upiu_wire.specs.Upiu.{Upiu}
use Rattle.flat_unit.specs.declared.event.Event.TheVariants.{Device}
use Rattle.flat_unit.specs.Contents.{Block, candidates, leaving_all, left_by, with_block}
use Rattle.flat_unit.specs.History.{History, ◌▹◌}
use Rattle.flat_unit.specs.Sizes.{Sizes}
use Rattle.flat_unit.specs.Sound.{SoundSoFar}
use Rattle.flat_unit.specs.Task.{Task}
use Rattle.flat_unit.proofs.standing.Sending.{no_write_holds}
use Rattle.driver_laws.specs.declared.answer.Done.{Done}
use Rattle.driver_laws.specs.declared.fault.DriverFault.{DriverFault}
use Rattle.driver_laws.specs.Commands.{OpenCommand, Wanted, after_next, change_first, free_tag, is_caller, is_out, open_as, opened_with, is_waiting}
use Rattle.driver_laws.specs.Commands.{next_of, next_owing, next_waiting, opened, owes_data, upiu_of_next, with_begin, with_piece}
use Rattle.driver_laws.specs.Deliver.{Delivered, delivered}
use Rattle.driver_laws.specs.Drive.{last_tag, Asks, Fails, Gets, Moment, Moves, Resets, Sends, Turn, Wants, answered_for, cut, gets}
use Rattle.driver_laws.specs.Drive.{has_asked, moment_after, resets, sends, sent_events, turned, with_delivered, with_done}
use Rattle.driver_laws.specs.Requests.{commands_of, submitted}
use Rattle.driver_laws.specs.Flat.{Answered, Asked, Flat, flat_after, flat_of}
use Rattle.driver_laws.specs.Fits.{AllGood, FirstGot, Fits, GotFrom, IsBook, IsFlat, IsProper, MayLead, MayTurn, Serves, kept_as, numbers_asked, numbers_answered, serving, serving_asked}
use Rattle.driver_laws.specs.Laws.{IsTaken}
use Rattle.driver_laws.proofs.Answering.{got_none}
use Rattle.driver_laws.proofs.Booking.{asks_book, gets_book, resets_book, sends_book, wants_book}
use Rattle.driver_laws.proofs.Delivering.{FirstSent, Goes, after_answer, done_after, first_sent, goes, may_send}
use Rattle.driver_laws.proofs.Flatness.{after, first_flat}
use Rattle.driver_laws.proofs.Opening.{opened_fits, submitted_fits}
use Rattle.driver_laws.proofs.Sending.{sends_fit}

-- what taking an answer leaves as it is
pub done_opens : (d : Option Done) (m : Moment) → (with_done d m).opens ≡ m.opens
done_opens None m = refl
done_opens (Some done) m = refl

pub done_events : (d : Option Done) (m : Moment) → (with_done d m).events ≡ m.events
done_events None m = refl
done_events (Some done) m = refl

pub gets_events : (s : Sizes) (bytes : List ℕ) (m : Moment) → (gets s bytes m).events ≡ m.events ▹ Device bytes
gets_events s bytes m = by_result (delivered s m.opens bytes)
  where
    by_result : (r : Result Delivered DriverFault) → (with_delivered r (record m { events = m.events ▹ Device bytes })).events ≡ m.events ▹ Device bytes
    by_result (Ok d) = done_events d.done (record m { opens = d.opens; events = m.events ▹ Device bytes })
    by_result (Err fault) = refl

-- what the device sent, and what the driver makes of it
pub record Takes (s : Sizes) (m : Moment) (bytes : List ℕ) : Type 0 where
  pub o : OpenCommand
  pub os : List OpenCommand
  pub is : m.opens ≡ o ∷ os
  pub sent : FirstSent s o bytes
  pub goes : Goes s o os m.events bytes sent.a
  pub leads : gets s bytes m ≡ after s m o os bytes sent.a

pub takes : (s : Sizes) (u : List Block) (m : Moment) (bytes : List ℕ) → Serves s → Fits s m.opens m.events → SoundSoFar s u (m.events ▹ Device bytes) → Takes s m bytes
takes s u m bytes serves fits sound =
    let f = first_sent s m.opens m.events bytes fits (may_send s u m.opens m.events bytes fits sound).0 in
    let g : Goes s f.0 f.1 m.events bytes f.3.a = goes s f.0 f.1 m.events bytes f.3 serves (subst (λ (os : List OpenCommand). Fits s os m.events) f.2 fits) in
    record {
      o = f.0;
      os = f.1;
      is = f.2;
      sent = f.3;
      goes = g;
      leads = ap (λ (os : List OpenCommand). with_delivered (delivered s os bytes) (record m { events = m.events ▹ Device bytes })) f.2
          ∙ ap (λ (r : Result Delivered DriverFault). with_delivered r (record m { events = m.events ▹ Device bytes })) g.takes;
    }

-- the driver's commands stay the device's tasks
gets_fit : (s : Sizes) (u : List Block) (m : Moment) (bytes : List ℕ) → Serves s → Fits s m.opens m.events → SoundSoFar s u (m.events ▹ Device bytes)
    → Fits s (gets s bytes m).opens (gets s bytes m).events
gets_fit s u m bytes serves fits sound =
    let t : Takes s m bytes = takes s u m bytes serves fits sound in
    let now : Moment = record m { opens = after_answer t.o t.os t.sent.a; events = m.events ▹ Device bytes } in
    subst (λ (n : Moment). Fits s n.opens n.events) (sym t.leads)
    (subst (λ (e : History). Fits s (after s m t.o t.os bytes t.sent.a).opens e) (sym (done_events (done_after s t.o t.sent.a) now))
    (subst (λ (os : List OpenCommand). Fits s os (m.events ▹ Device bytes)) (sym (done_opens (done_after s t.o t.sent.a) now)) t.goes.fits))

turned_fits : (s : Sizes) (u : List Block) (turn : Turn) (m : Moment) → Serves s → MayTurn s turn m → SoundSoFar s u (turned s turn m).events → Fits s m.opens m.events
    → Fits s (turned s turn m).opens (turned s turn m).events
turned_fits s u (Asks number way request) m serves may sound fits = submitted_fits s way request m.opens m.events serves may.0 may.1 may.2 fits
turned_fits s u (Wants w) m serves may sound fits = opened_fits s m.opens w m.events may.0 (let r = may.2 in omega arith) fits
turned_fits s u Sends m serves may sound fits = sends_fit s m.opens m.events serves fits
turned_fits s u (Gets bytes) m serves may sound fits = gets_fit s u m bytes serves fits (subst (SoundSoFar s u) (gets_events s bytes m) sound)
turned_fits s u (Moves lun lba) m serves may sound fits = record {
  keeps = fits.keeps;
  in_order = fits.in_order;
  apart = fits.apart;
  proper = fits.proper;
  room = fits.room;
  switch = fits.switch;
  nothing_owed = ap (drop 1) fits.nothing_owed;
}
turned_fits s u (Fails op) m serves may sound fits = record {
  keeps = fits.keeps;
  in_order = fits.in_order;
  apart = fits.apart;
  proper = fits.proper;
  room = fits.room;
  switch = fits.switch;
  nothing_owed = ap (drop 1) fits.nothing_owed;
}
turned_fits s u Resets m serves may sound fits = record {
  keeps = refl;
  in_order = tt;
  apart = tt;
  proper = tt;
  room = omega arith;
  switch = refl;
  nothing_owed = ap (drop 1) fits.nothing_owed;
}

-- the requests are booked
turned_book : (s : Sizes) (u : List Block) (turn : Turn) (m : Moment) → Serves s → MayTurn s turn m → SoundSoFar s u (turned s turn m).events → Fits s m.opens m.events
    → IsBook m → IsBook (turned s turn m)
turned_book s u (Asks number way request) m serves may sound fits book = asks_book s number way request m may.2 book
turned_book s u (Wants w) m serves may sound fits book = wants_book w m may.2 may.1 book
turned_book s u Sends m serves may sound fits book = sends_book s m book
turned_book s u (Gets bytes) m serves may sound fits book =
    let t : Takes s m bytes = takes s u m bytes serves fits (subst (SoundSoFar s u) (gets_events s bytes m) sound) in
    subst IsBook (sym t.leads) (gets_book s m t.o t.os bytes t.sent.a (subst (λ (os : List OpenCommand). IsBook (record m { opens = os })) t.is book))
turned_book s u (Moves lun lba) m serves may sound fits book = record { serves = book.serves; order = book.order }
turned_book s u (Fails op) m serves may sound fits book = record { serves = book.serves; order = book.order }
turned_book s u Resets m serves may sound fits book = resets_book m book

-- good answers were good before
good_before : (xs ys : List Answered) → AllGood (xs ++ ys) → AllGood xs
good_before [] ys all = tt
good_before (x ∷ xs) ys all = (all.0, good_before xs ys all.1)

turned_good : (s : Sizes) (turn : Turn) (m : Moment) → AllGood (turned s turn m).answers → AllGood m.answers
turned_good s (Gets bytes) m good = by_result (delivered s m.opens bytes) good
  where
    by_done : (d : Option Done) (now : Moment) → now.answers ≡ m.answers → AllGood (with_done d now).answers → AllGood m.answers
    by_done None now is good = subst AllGood is good
    by_done (Some done) now is good = subst AllGood is (good_before now.answers (answered_for done (find (has_asked done.tag) now.callers)) good)

    by_result : (r : Result Delivered DriverFault) → AllGood (with_delivered r (record m { events = m.events ▹ Device bytes })).answers → AllGood m.answers
    by_result (Ok d) good = by_done d.done (record m { opens = d.opens; events = m.events ▹ Device bytes }) refl good
    by_result (Err fault) good = good
turned_good s Resets m good = good_before m.answers (map cut m.callers) good
turned_good s _ m good = good

-- what the first command got stays the flat unit's
first_more : (s : Sizes) (flat : Flat) (opens : List OpenCommand) (w : Wanted) → FirstGot s flat opens → FirstGot s flat (opened opens w)
first_more s flat opens w first = by_tag (free_tag opens)
  where
    by_opens : (opens : List OpenCommand) → (tag : ℕ) → FirstGot s flat opens → FirstGot s flat (opens ++ open_as w tag ∷ [])
    by_opens [] tag first = got_none s flat w.command w.lun
    by_opens (o ∷ os) tag first = first

    by_tag : (x : Option ℕ) → FirstGot s flat (opened_with opens w x)
    by_tag None = first
    by_tag (Some tag) = by_opens opens tag first

first_all : (s : Sizes) (flat : Flat) (ws : List Wanted) (opens : List OpenCommand) → FirstGot s flat opens → FirstGot s flat (fold opened opens ws)
first_all s flat [] opens first = first
first_all s flat (w ∷ ws) opens first = first_all s flat ws (opened opens w) (first_more s flat opens w first)

first_changed : (s : Sizes) (flat : Flat) (test : OpenCommand → Bool) (f : OpenCommand → OpenCommand)
    → ((o : OpenCommand) → GotFrom s flat o.command o.lun o.got → GotFrom s flat (f o).command (f o).lun (f o).got)
    → (opens : List OpenCommand) → FirstGot s flat opens → FirstGot s flat (change_first test f opens)
first_changed s flat test f same [] first = tt
first_changed s flat test f same (o ∷ os) first = by_test (test o)
  where
    by_test : (b : Bool) → FirstGot s flat (if b then f o ∷ os else o ∷ change_first test f os)
    by_test true = same o first
    by_test false = first

sends_flat : (s : Sizes) (u : List Block) (m : Moment) → IsBook (sends s m) → IsFlat s u m → IsFlat s u (sends s m)
sends_flat s u m book flat = record {
  done = flat.done;
  order = flat.order;
  answers = flat.answers;
  serves = book.serves;
  alone = λ p. by_upiu (upiu_of_next s (next_of m.opens)) p ∙ flat.alone p;
  first = by_owing (find owes_data m.opens);
}
  where
    unit : Flat
    unit = flat_after s (flat_of s u) flat.done

    by_upiu : (v : Option Upiu) (p : Place) → candidates s u (sent_events m.events v) p ≡ candidates s u m.events p
    by_upiu (Some v) p = refl
    by_upiu None p = refl

    by_waiting : (x : Option OpenCommand) → FirstGot s unit (after_next s m.opens (next_waiting x))
    by_waiting (Some o) = first_changed s unit is_waiting with_begin (λ o got. got) m.opens flat.first
    by_waiting None = flat.first

    by_owing : (x : Option OpenCommand) → FirstGot s unit (after_next s m.opens (next_owing m.opens x))
    by_owing (Some o) = first_changed s unit owes_data (with_piece s) (λ o got. got) m.opens flat.first
    by_owing None = by_waiting (find is_waiting m.opens)

-- a reset that cuts no request of a caller cuts no write
no_cut : (callers : List Asked) → AllGood (map cut callers) → callers ≡ []
no_cut [] good = refl
no_cut (a ∷ rest) good = absurd good.0

own_left : (s : Sizes) (opens : List OpenCommand) (blocks : List Block) (p : Place) → AllByRecursion (IsProper s) opens → map serving (filter is_caller opens) ≡ []
    → fold (left_by s p) blocks (leaving_all false (map (kept_as s) (filter is_out opens))) ≡ blocks
own_left s [] blocks p proper own = refl
own_left s (o ∷ os) blocks p proper own = by_caller (λ rest. own_left s os blocks p proper.1 rest) o.caller refl own
  where
    some_serving : serving o ∷ map serving (filter is_caller os) ≡ [] → ⊥
    some_serving is = cc

    by_out : o.caller ≡ false → fold (left_by s p) blocks (leaving_all false (map (kept_as s) (filter is_out os))) ≡ blocks → (b : Bool)
        → fold (left_by s p) blocks (leaving_all false (map (kept_as s) (cond b (o ∷ filter is_out os) (filter is_out os)))) ≡ blocks
    by_out caller rest true =
        ap (λ (bs : List Block). fold (left_by s p) bs (leaving_all false (map (kept_as s) (filter is_out os))))
        (ap (with_block false blocks) (no_write_holds s o.command (kept_as s o) p (proper.0.own caller))) ∙ rest
    by_out caller rest false = rest

    by_caller : (map serving (filter is_caller os) ≡ [] → fold (left_by s p) blocks (leaving_all false (map (kept_as s) (filter is_out os))) ≡ blocks)
        → (b : Bool) → o.caller ≡ b → map serving (cond b (o ∷ filter is_caller os) (filter is_caller os)) ≡ []
        → fold (left_by s p) blocks (leaving_all false (map (kept_as s) (filter is_out (o ∷ os)))) ≡ blocks
    by_caller behind true caller own = absurd (some_serving own)
    by_caller behind false caller own = by_out caller (behind own) o.out

all_behind : (xs ys : List Answered) → AllGood (xs ++ ys) → AllGood ys
all_behind [] ys all = all
all_behind (x ∷ xs) ys all = all_behind xs ys all.1

resets_flat : (s : Sizes) (u : List Block) (m : Moment) → Fits s m.opens m.events → AllGood (resets m).answers → IsFlat s u m → IsFlat s u (resets m)
resets_flat s u m fits good flat =
    let none : m.callers ≡ [] = no_cut m.callers (all_behind m.answers (map cut m.callers) good) in
    record {
      done = flat.done;
      order = flat.order ∙ ap (λ (cs : List Asked). flat.done ++ cs) none;
      answers = ap (λ (cs : List Asked). m.answers ++ map cut cs) none ∙ append-nil m.answers ∙ flat.answers;
      serves = refl;
      alone = λ p. ap (λ (ts : List Task). fold (left_by s p) (candidates s u m.events p) (leaving_all false ts)) fits.keeps
          ∙ own_left s m.opens (candidates s u m.events p) p fits.proper (sym flat.serves ∙ ap (map serving_asked) none) ∙ flat.alone p;
      first = tt;
    }

turned_flat : (s : Sizes) (u : List Block) (turn : Turn) (m : Moment) → Serves s → MayTurn s turn m → SoundSoFar s u (turned s turn m).events → Fits s m.opens m.events
    → IsBook (turned s turn m) → AllGood (turned s turn m).answers → IsFlat s u m → IsFlat s u (turned s turn m)
turned_flat s u (Asks number way request) m serves may sound fits book good flat = record {
  done = flat.done;
  order = ap (λ (xs : List Asked). xs ++ record { number = number; tag = last_tag (submitted way request m.opens); request = request } ∷ []) flat.order
      ∙ append_assoc flat.done m.callers _;
  answers = flat.answers;
  serves = book.serves;
  alone = flat.alone;
  first = first_all s (flat_after s (flat_of s u) flat.done) (commands_of way request) m.opens flat.first;
}
turned_flat s u (Wants w) m serves may sound fits book good flat = record {
  done = flat.done;
  order = flat.order;
  answers = flat.answers;
  serves = book.serves;
  alone = flat.alone;
  first = first_more s (flat_after s (flat_of s u) flat.done) m.opens w flat.first;
}
turned_flat s u Sends m serves may sound fits book good flat = sends_flat s u m book flat
turned_flat s u (Gets bytes) m serves may sound fits book good flat =
    let comes : SoundSoFar s u (m.events ▹ Device bytes) = subst (SoundSoFar s u) (gets_events s bytes m) sound in
    let t : Takes s m bytes = takes s u m bytes serves fits comes in
    subst (IsFlat s u) (sym t.leads)
    (first_flat s u m t.o t.os bytes t.sent serves (subst (λ (os : List OpenCommand). Fits s os m.events) t.is fits)
    (subst (λ (os : List OpenCommand). IsFlat s u (record m { opens = os })) t.is flat)
    (may_send s u m.opens m.events bytes fits comes).1
    (subst (λ (n : Moment). AllGood n.answers) t.leads good))
turned_flat s u (Moves lun lba) m serves may sound fits book good flat = record {
  done = flat.done;
  order = flat.order;
  answers = flat.answers;
  serves = flat.serves;
  alone = flat.alone;
  first = flat.first;
}
turned_flat s u (Fails op) m serves may sound fits book good flat = record {
  done = flat.done;
  order = flat.order;
  answers = flat.answers;
  serves = flat.serves;
  alone = flat.alone;
  first = flat.first;
}
turned_flat s u Resets m serves may sound fits book good flat = resets_flat s u m fits good flat

-- a turn goes on a history
pub sound_before : (s : Sizes) (u : List Block) (turn : Turn) (m : Moment) → SoundSoFar s u (turned s turn m).events → SoundSoFar s u m.events
sound_before s u (Asks number way request) m sound = sound
sound_before s u (Wants w) m sound = sound
sound_before s u Sends m sound = by_upiu (upiu_of_next s (next_of m.opens)) sound
  where
    by_upiu : (v : Option Upiu) → SoundSoFar s u (sent_events m.events v) → SoundSoFar s u m.events
    by_upiu (Some v) sound = sound.0
    by_upiu None sound = sound
sound_before s u (Gets bytes) m sound = (subst (SoundSoFar s u) (gets_events s bytes m) sound).0
sound_before s u (Moves lun lba) m sound = sound.0
sound_before s u (Fails op) m sound = sound.0
sound_before s u Resets m sound = sound.0

-- what holds after all turns
pub record Together (s : Sizes) (u : List Block) (m : Moment) : Type 0 where
  pub fits : Fits s m.opens m.events
  pub book : IsBook m
  pub flat : AllGood m.answers → IsFlat s u m

pub together : (s : Sizes) (u : List Block) (turns : List Turn) → Serves s → MayLead s turns → SoundSoFar s u (moment_after s turns).events → Together s u (moment_after s turns)
together s u [] serves may sound = record {
  fits = record { keeps = refl; in_order = tt; apart = tt; proper = tt; room = omega arith; switch = refl; nothing_owed = refl };
  book = record { serves = refl; order = refl };
  flat = λ _. record { done = []; order = refl; answers = refl; serves = refl; alone = λ p. refl; first = tt };
}
together s u (turn ∷ turns) serves may sound =
    let before : Together s u (moment_after s turns) = together s u turns serves may.0 (sound_before s u turn (moment_after s turns) sound) in
    let book = turned_book s u turn (moment_after s turns) serves may.1 sound before.fits before.book in
    record {
      fits = turned_fits s u turn (moment_after s turns) serves may.1 sound before.fits;
      book = book;
      flat = λ good. turned_flat s u turn (moment_after s turns) serves may.1 sound before.fits book good (before.flat (turned_good s turn (moment_after s turns) good));
    }

-- the driver takes whatever the device sends
pub no_fault : (s : Sizes) (u : List Block) (turns : List Turn) (bytes : List ℕ) → Serves s → MayLead s turns → SoundSoFar s u ((moment_after s turns).events ▹ Device bytes)
    → IsTaken (delivered s (moment_after s turns).opens bytes)
no_fault s u turns bytes serves may sound =
    let m : Moment = moment_after s turns in
    let t : Takes s m bytes = takes s u m bytes serves (together s u turns serves may sound.0).fits sound in
    subst IsTaken (sym (ap (λ (os : List OpenCommand). delivered s os bytes) t.is ∙ t.goes.takes)) tt

-- requests end in order
pub in_order : (s : Sizes) (u : List Block) (turns : List Turn) → Serves s → MayLead s turns → SoundSoFar s u (moment_after s turns).events
    → numbers_asked (moment_after s turns).asked ≡ numbers_answered (moment_after s turns).answers ++ numbers_asked (moment_after s turns).callers
in_order s u turns serves may sound = (together s u turns serves may sound).book.order

pub fit : (s : Sizes) (u : List Block) (turns : List Turn) → Serves s → MayLead s turns → SoundSoFar s u (moment_after s turns).events
    → Fits s (moment_after s turns).opens (moment_after s turns).events
fit s u turns serves may sound = (together s u turns serves may sound).fits

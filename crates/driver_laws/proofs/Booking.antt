-- The requests that are open are those that the open commands serve, and they end in order of submission.
use Rattle.std.proofs.Common.{◌≡◌, ℕ, ◌+◌, ◌*◌, ◌≤◌, Bool, true, false, cond, List, [], ◌∷◌, ◌++◌, length, length-append, map}
use Rattle.std.proofs.Common.{filter, Option, Some, None, refl, sym, ◌∙◌, ap, subst, arith, append_assoc, append-nil}
use Rattle.std.specs.Prelude.{if◌then◌else◌, slice_index}
use Rattle.std.specs.List.{find}
use Rattle.std.proofs.lemmas.List.{map-append}
use Rattle.std.proofs.lemmas.List.Elements.{filter-append}
use Rattle.hpb_cdb.specs.declared.cdb.Cdb.TheVariants.{Read, Write, HpbRead, Prefetch, Sync, TestReady}
use Rattle.flat_unit.specs.declared.event.Event.TheVariants.{Device}
use Rattle.flat_unit.specs.History.{◌▹◌}
use Rattle.flat_unit.specs.Sends.{Answer, Data, Ask, Good as GoodAnswer, Check as CheckAnswer}
use Rattle.flat_unit.specs.Sizes.{Sizes}
use Rattle.driver_laws.specs.declared.answer.Answer.{Answer as Given}
use Rattle.driver_laws.specs.declared.request.Request.{Request}
use Rattle.driver_laws.specs.declared.request.Request.TheVariants.{Read as ReadOf, Write as WriteOf, Sync as SyncAll, Ready}
use Rattle.driver_laws.specs.Commands.{OpenCommand, Wanted, after_next, change_first, is_caller, is_waiting, next_owing, next_waiting}
use Rattle.driver_laws.specs.Commands.{open_as, opened, opened_with, owes_data, tags, with_begin, with_piece}
use Rattle.driver_laws.specs.Requests.{Way, Plainly, WithEntry, WithList, commands_of, list_bytes, submitted}
use Rattle.driver_laws.specs.Deliver.{with_asked, with_got}
use Rattle.driver_laws.specs.Drive.{Moment, answered_for, asks, resets, sends, wants, has_asked, last_tag, with_done, without_asked, cut}
use Rattle.driver_laws.specs.Flat.{Answered, Asked, Came}
use Rattle.driver_laws.specs.Fits.{IsBook, Serving, numbers_asked, numbers_answered, served_by, serving, serving_asked}
use Rattle.driver_laws.proofs.Flatness.{FirstCaller, after, find_asked, first_caller, serves_same, without_first_asked}
use Rattle.driver_laws.proofs.Tags.{tag_is_free}

-- one more command
pub serving_more : (opens : List OpenCommand) (o : OpenCommand) → map serving (filter is_caller (opens ++ o ∷ [])) ≡ map serving (filter is_caller opens) ++ map serving (filter is_caller (o ∷ []))
serving_more opens o = ap (map serving) (filter-append is_caller opens (o ∷ [])) ∙ map-append serving (filter is_caller opens) (filter is_caller (o ∷ []))

pub last_tag_more : (opens : List OpenCommand) (o : OpenCommand) → last_tag (opens ++ o ∷ []) ≡ o.tag
last_tag_more [] o = refl
last_tag_more (x ∷ []) o = refl
last_tag_more (x ∷ y ∷ ys) o = last_tag_more (y ∷ ys) o

-- a command that is opened, with its tag
pub record Opens (opens : List OpenCommand) (w : Wanted) : Type 0 where
  pub tag : ℕ
  pub is : opened opens w ≡ opens ++ open_as w tag ∷ []

pub opens_one : (opens : List OpenCommand) (w : Wanted) → length opens + 1 ≤ tags → Opens opens w
opens_one opens w few = let t = tag_is_free opens (omega arith) in record { tag = t.0; is = ap (opened_with opens w) t.1 }

-- a request is served by the last command that is opened for it
record ServesMore (opens now : List OpenCommand) (request : Request) : Type 0 where
  more : map serving (filter is_caller now) ≡ map serving (filter is_caller opens) ++ record { tag = last_tag now; request = request } ∷ []

one_serves : (opens : List OpenCommand) (w : Wanted) (request : Request) → length opens + 1 ≤ tags → w.caller ≡ true
    → served_by w.command w.lun w.bytes ≡ request → ServesMore opens (opened opens w) request
one_serves opens w request few caller serves =
    let o : Opens opens w = opens_one opens w few in
    subst (λ (now : List OpenCommand). ServesMore opens now request) (sym o.is) (record {
      more = serving_more opens (open_as w o.tag)
          ∙ ap (λ (b : Bool). map serving (filter is_caller opens) ++ map serving (cond b (open_as w o.tag ∷ []) [])) caller
          ∙ ap (λ (r : Request). map serving (filter is_caller opens) ++ record { tag = o.tag; request = r } ∷ []) serves
          ∙ ap (λ (t : ℕ). map serving (filter is_caller opens) ++ record { tag = t; request = request } ∷ []) (sym (last_tag_more opens (open_as w o.tag)));
    })

-- a command of the driver's own serves none
pub own_serves : (opens : List OpenCommand) (w : Wanted) → length opens + 1 ≤ tags → w.caller ≡ false → map serving (filter is_caller (opened opens w)) ≡ map serving (filter is_caller opens)
own_serves opens w few own =
    let o : Opens opens w = opens_one opens w few in
    ap (λ (now : List OpenCommand). map serving (filter is_caller now)) o.is
    ∙ serving_more opens (open_as w o.tag)
    ∙ ap (λ (b : Bool). map serving (filter is_caller opens) ++ map serving (cond b (open_as w o.tag ∷ []) [])) own
    ∙ append-nil (map serving (filter is_caller opens))

submitted_serves : (way : Way) (request : Request) (opens : List OpenCommand) → length opens + length (commands_of way request) ≤ tags → ServesMore opens (submitted way request opens) request
submitted_serves Plainly (ReadOf lun lba n) opens few = one_serves opens (record { lun = lun; command = Read lba n; bytes = []; caller = true }) (ReadOf lun lba n) few refl refl
submitted_serves (WithEntry entry) (ReadOf lun lba n) opens few = one_serves opens (record { lun = lun; command = HpbRead lba entry n 0; bytes = []; caller = true }) (ReadOf lun lba n) few refl refl
submitted_serves (WithList id entries) (ReadOf lun lba n) opens few =
    let list : Wanted = record { lun = lun; command = Prefetch lba id (8 * length entries); bytes = list_bytes entries; caller = false } in
    let o : Opens opens list = opens_one opens list (omega arith) in
    let l = length-append opens (open_as list o.tag ∷ []) in
    let e = ap length o.is in
    let read : Wanted = record { lun = lun; command = HpbRead lba (slice_index entries 0) n id; bytes = []; caller = true } in
    let two = one_serves (opened opens list) read (ReadOf lun lba n) (omega (arith, l, e, few)) refl refl in
    let more : Serving = record { tag = last_tag (submitted (WithList id entries) (ReadOf lun lba n) opens); request = ReadOf lun lba n } in
    record { more = two.more ∙ ap (λ (xs : List Serving). xs ++ more ∷ []) (own_serves opens list (omega arith) refl) }
submitted_serves _ (WriteOf lun lba n bytes) opens few = one_serves opens (record { lun = lun; command = Write lba n; bytes = bytes; caller = true }) (WriteOf lun lba n bytes) few refl refl
submitted_serves _ SyncAll opens few = one_serves opens (record { lun = 0; command = Sync 0 0; bytes = []; caller = true }) SyncAll few refl refl
submitted_serves _ Ready opens few = one_serves opens (record { lun = 0; command = TestReady; bytes = []; caller = true }) Ready few refl refl

-- a request is taken
pub asks_book : (s : Sizes) (number : ℕ) (way : Way) (request : Request) (m : Moment) → length m.opens + length (commands_of way request) ≤ tags → IsBook m → IsBook (asks number way request m)
asks_book s number way request m few book =
    let now : List OpenCommand = submitted way request m.opens in
    let a : Asked = record { number = number; tag = last_tag now; request = request } in
    let more = submitted_serves way request m.opens few in
    record {
      serves = map-append serving_asked m.callers (a ∷ []) ∙ ap (λ (xs : List Serving). xs ++ serving_asked a ∷ []) book.serves ∙ sym more.more;
      order = map-append (λ (x : Asked). x.number) m.asked (a ∷ [])
          ∙ ap (λ (xs : List ℕ). xs ++ number ∷ []) book.order
          ∙ append_assoc (numbers_answered m.answers) (numbers_asked m.callers) (number ∷ [])
          ∙ ap (λ (xs : List ℕ). numbers_answered m.answers ++ xs) (sym (map-append (λ (x : Asked). x.number) m.callers (a ∷ [])));
    }

pub wants_book : (w : Wanted) (m : Moment) → length m.opens + 1 ≤ tags → w.caller ≡ false → IsBook m → IsBook (wants w m)
wants_book w m few own book = record { serves = book.serves ∙ sym (own_serves m.opens w few own); order = book.order }

-- what a send leaves as it is
changed_serves : (test : OpenCommand → Bool) (f : OpenCommand → OpenCommand) → ((o : OpenCommand) → (f o).caller ≡ o.caller) → ((o : OpenCommand) → serving (f o) ≡ serving o)
    → (opens : List OpenCommand) → map serving (filter is_caller (change_first test f opens)) ≡ map serving (filter is_caller opens)
changed_serves test f caller same [] = refl
changed_serves test f caller same (o ∷ os) = by_test (changed_serves test f caller same os) (test o)
  where
    by_caller : map serving (filter is_caller (change_first test f os)) ≡ map serving (filter is_caller os) → (b : Bool)
        → map serving (cond b (o ∷ filter is_caller (change_first test f os)) (filter is_caller (change_first test f os))) ≡ map serving (cond b (o ∷ filter is_caller os) (filter is_caller os))
    by_caller rest true = ap (λ (xs : List Serving). serving o ∷ xs) rest
    by_caller rest false = rest

    by_test : map serving (filter is_caller (change_first test f os)) ≡ map serving (filter is_caller os) → (b : Bool)
        → map serving (filter is_caller (if b then f o ∷ os else o ∷ change_first test f os)) ≡ map serving (filter is_caller (o ∷ os))
    by_test rest true = serves_same o (f o) os (caller o) (same o)
    by_test rest false = by_caller rest o.caller

pub sends_book : (s : Sizes) (m : Moment) → IsBook m → IsBook (sends s m)
sends_book s m book = record { serves = book.serves ∙ sym (by_owing (find owes_data m.opens)); order = book.order }
  where
    by_waiting : (x : Option OpenCommand) → map serving (filter is_caller (after_next s m.opens (next_waiting x))) ≡ map serving (filter is_caller m.opens)
    by_waiting (Some o) = changed_serves is_waiting with_begin (λ o. refl) (λ o. refl) m.opens
    by_waiting None = refl

    by_owing : (x : Option OpenCommand) → map serving (filter is_caller (after_next s m.opens (next_owing m.opens x))) ≡ map serving (filter is_caller m.opens)
    by_owing (Some o) = changed_serves owes_data (with_piece s) (λ o. refl) (λ o. refl) m.opens
    by_owing None = by_waiting (find is_waiting m.opens)

-- a request of the first command ends
ends_book : (m : Moment) (o : OpenCommand) (os : List OpenCommand) (bytes : List ℕ) (answer : Given) → o.caller ≡ true → IsBook (record m { opens = o ∷ os })
    → IsBook (with_done (Some (record { tag = o.tag; answer = answer })) (record m { opens = os; events = m.events ▹ Device bytes }))
ends_book m o os bytes answer caller book =
    let f : FirstCaller m.callers o (map serving (filter is_caller os)) =
    first_caller m.callers o _ (book.serves ∙ ap (λ (b : Bool). map serving (cond b (o ∷ filter is_caller os) (filter is_caller os))) caller) in
    let rest : without_asked o.tag m.callers ≡ f.others = ap (without_asked o.tag) f.is ∙ without_first_asked f.a f.others o.tag f.tag in
    let found : find (has_asked o.tag) m.callers ≡ Some f.a = ap (find (has_asked o.tag)) f.is ∙ find_asked f.a f.others o.tag f.tag in
    record {
      serves = ap (map serving_asked) rest ∙ f.others_are;
      order = book.order
          ∙ ap (λ (cs : List Asked). numbers_answered m.answers ++ numbers_asked cs) f.is
          ∙ sym (append_assoc (numbers_answered m.answers) (f.a.number ∷ []) (numbers_asked f.others))
          ∙ ap (λ (xs : List ℕ). xs ++ numbers_asked f.others) (sym (map-append (λ (x : Answered). x.number) m.answers (record { number = f.a.number; outcome = Came answer } ∷ [])))
          ∙ ap (λ (x : Option Asked). numbers_answered (m.answers ++ answered_for (record { tag = o.tag; answer = answer }) x) ++ numbers_asked f.others) (sym found)
          ∙ ap (λ (cs : List Asked). numbers_answered (m.answers ++ answered_for (record { tag = o.tag; answer = answer }) (find (has_asked o.tag) m.callers)) ++ numbers_asked cs) (sym rest);
    }

response_book : (m : Moment) (o : OpenCommand) (os : List OpenCommand) (bytes : List ℕ) (answer : Given) → IsBook (record m { opens = o ∷ os })
    → IsBook (with_done (if o.caller then Some (record { tag = o.tag; answer = answer }) else None) (record m { opens = os; events = m.events ▹ Device bytes }))
response_book m o os bytes answer book = by_caller o.caller refl
  where
    by_caller : (b : Bool) → o.caller ≡ b → IsBook (with_done (if b then Some (record { tag = o.tag; answer = answer }) else None) (record m { opens = os; events = m.events ▹ Device bytes }))
    by_caller true caller = ends_book m o os bytes answer caller book
    by_caller false own = record { serves = book.serves ∙ ap (λ (b : Bool). map serving (cond b (o ∷ filter is_caller os) (filter is_caller os))) own; order = book.order }

pub gets_book : (s : Sizes) (m : Moment) (o : OpenCommand) (os : List OpenCommand) (bytes : List ℕ) (a : Answer) → IsBook (record m { opens = o ∷ os }) → IsBook (after s m o os bytes a)
gets_book s m o os bytes (Data piece) book = record { serves = book.serves ∙ sym (serves_same o (with_got piece o) os refl refl); order = book.order }
gets_book s m o os bytes (Ask count) book = record { serves = book.serves ∙ sym (serves_same o (with_asked (o.asked + count) o) os refl refl); order = book.order }
gets_book s m o os bytes (GoodAnswer segment) book = response_book m o os bytes _ book
gets_book s m o os bytes (CheckAnswer sense) book = response_book m o os bytes _ book

-- a reset cuts what is open
cut_numbers : (callers : List Asked) → numbers_answered (map cut callers) ≡ numbers_asked callers
cut_numbers [] = refl
cut_numbers (a ∷ rest) = ap (λ (xs : List ℕ). a.number ∷ xs) (cut_numbers rest)

pub resets_book : (m : Moment) → IsBook m → IsBook (resets m)
resets_book m book = record {
  serves = refl;
  order = book.order
      ∙ ap (λ (xs : List ℕ). numbers_answered m.answers ++ xs) (sym (cut_numbers m.callers))
      ∙ sym (map-append (λ (x : Answered). x.number) m.answers (map cut m.callers))
      ∙ sym (append-nil (numbers_answered (m.answers ++ map cut m.callers)));
}

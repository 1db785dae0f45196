-- Where no request was answered otherwise than GOOD, the answers are those of the flat unit.
use Rattle.std.proofs.Common.{◌≡◌, ℕ, ◌+◌, Bool, true, false, cond, List, [], ◌∷◌, ◌++◌, map, filter, take, Option, Some, None, refl, sym, ◌∙◌, ap, subst, ◌==◌, append_assoc}
use Rattle.std.specs.Prelude.{if◌then◌else◌, fold}
use Rattle.std.specs.List.{find}
use Rattle.flash_pages.specs.Place.{Place}
use Rattle.hpb_sense.specs.declared.sense.FixedSense.{FixedSense}
use Rattle.hpb_sense.specs.Sense.{fixed_out}
use Rattle.upiu_wire.specs.Upiu.{Upiu, upiu_out}
use Rattle.flat_unit.specs.declared.event.Event.TheVariants.{Device}
use Rattle.flat_unit.specs.Command.{is_write}
use Rattle.flat_unit.specs.Contents.{Block, Leaving, block_written, candidates, left_by, next_place, seen_at, shown, shown_at, shown_by_kind, with_block}
use Rattle.flat_unit.specs.History.{◌▹◌}
use Rattle.flat_unit.specs.Queue.{tasks_after}
use Rattle.flat_unit.specs.Reply.{has_tag}
use Rattle.flat_unit.specs.Sends.{Answer, Data, Ask, Good as GoodAnswer, Check as CheckAnswer, Allows, upiu_of}
use Rattle.flat_unit.specs.Sizes.{Sizes}
use Rattle.flat_unit.specs.Sound.{IsCandidate}
use Rattle.flat_unit.specs.Task.{Task}
use Rattle.flat_unit.specs.Tasks.{IsQueue}
use Rattle.flat_unit.proofs.standing.Sending.{no_write_holds}
use Rattle.flat_unit.proofs.standing.Changes.{device_shows}
use Rattle.flat_unit.proofs.queue.Tasks.{queue_after, same_tag}
use Rattle.driver_laws.specs.declared.answer.Answer.{Answer as Given}
use Rattle.driver_laws.specs.declared.answer.Answer.TheVariants.{Good}
use Rattle.driver_laws.specs.declared.request.Request.{Request}
use Rattle.driver_laws.specs.Commands.{OpenCommand, is_caller, is_out}
use Rattle.driver_laws.specs.Deliver.{check_or_status, fixed_in, with_asked, with_got}
use Rattle.driver_laws.specs.Drive.{Moment, answered_for, has_asked, with_done, without_asked}
use Rattle.driver_laws.specs.Flat.{Answered, Asked, Came, Flat, flat_after, flat_answer, flat_of, written_by}
use Rattle.driver_laws.specs.Fits.{AllGood, Fits, IsFlat, IsGood, IsProper, Serves, Serving, kept_as, served_by, serving, serving_asked}
use Rattle.driver_laws.proofs.Answering.{Grows, after_one_more, all_sent, answer_flat, answers_one_more, candidates_after, first_none, grows, one_leaves, written_alone}
use Rattle.driver_laws.proofs.Delivering.{FirstSent, after_answer, consistent, done_after}

-- the requests that are served are the same where the first command only goes on
pub serves_same : (o now : OpenCommand) (os : List OpenCommand) → now.caller ≡ o.caller → serving now ≡ serving o → map serving (filter is_caller (now ∷ os)) ≡ map serving (filter is_caller (o ∷ os))
serves_same o now os caller same =
    ap (λ (b : Bool). map serving (cond b (now ∷ filter is_caller os) (filter is_caller os))) caller ∙ by_caller o.caller
  where
    by_caller : (b : Bool) → map serving (cond b (now ∷ filter is_caller os) (filter is_caller os)) ≡ map serving (cond b (o ∷ filter is_caller os) (filter is_caller os))
    by_caller true = ap (λ (x : Serving). x ∷ map serving (filter is_caller os)) same
    by_caller false = refl

-- the request that the first command serves is the first that is open
pub record FirstCaller (callers : List Asked) (o : OpenCommand) (rest : List Serving) : Type 0 where
  pub a : Asked
  pub others : List Asked
  pub is : callers ≡ a ∷ others
  pub tag : a.tag ≡ o.tag
  pub request : a.request ≡ served_by o.command o.lun o.bytes
  pub others_are : map serving_asked others ≡ rest

pub first_caller : (callers : List Asked) (o : OpenCommand) (rest : List Serving) → map serving_asked callers ≡ serving o ∷ rest → FirstCaller callers o rest
first_caller [] o rest is = absurd (none is)
  where
    none : [] ≡ serving o ∷ rest → ⊥
    none is = cc
first_caller (a ∷ others) o rest is =
    let same : serving_asked a ≡ serving o = first is in
    record { a = a; others = others; is = refl; tag = ap (λ (x : Serving). x.tag) same; request = ap (λ (x : Serving). x.request) same; others_are = behind is }
  where
    first : serving_asked a ∷ map serving_asked others ≡ serving o ∷ rest → serving_asked a ≡ serving o
    first is = cc

    behind : serving_asked a ∷ map serving_asked others ≡ serving o ∷ rest → map serving_asked others ≡ rest
    behind is = cc

pub find_asked : (a : Asked) (others : List Asked) (tag : ℕ) → a.tag ≡ tag → find (has_asked tag) (a ∷ others) ≡ Some a
find_asked a others tag is = ap (λ (b : Bool). cond b (Some a) (find (has_asked tag) others)) (ap (λ (t : ℕ). t == tag) is ∙ same_tag tag)

pub without_first_asked : (a : Asked) (others : List Asked) (tag : ℕ) → a.tag ≡ tag → without_asked tag (a ∷ others) ≡ others
without_first_asked a others tag is = ap (λ (b : Bool). if b then others else a ∷ without_asked tag others) (ap (λ (t : ℕ). t == tag) is ∙ same_tag tag)

pub all_good_last : (xs : List Answered) (x : Answered) → AllGood (xs ++ x ∷ []) → IsGood x.outcome
all_good_last [] x all = all.0
all_good_last (y ∷ ys) x all = all_good_last ys x all.1

check_is_bad : (status : ℕ) (sense : Option FixedSense) → IsGood (Came (check_or_status status sense)) → ⊥
check_is_bad status (Some sense) is = is
check_is_bad status None is = is

-- the moment after an answer to the first command
abbrev pub after : Sizes → Moment → OpenCommand → List OpenCommand → List ℕ → Answer → Moment
after s m o os bytes a = with_done (done_after s o a) (record m { opens = after_answer o os a; events = m.events ▹ Device bytes })

pub first_flat : (s : Sizes) (u : List Block) (m : Moment) (o : OpenCommand) (os : List OpenCommand) (bytes : List ℕ) (sent : FirstSent s o bytes)
    → Serves s → Fits s (o ∷ os) m.events → IsFlat s u (record m { opens = o ∷ os })
    → IsCandidate (candidates s u m.events) (shown s (tasks_after s m.events) (Device bytes))
    → AllGood (after s m o os bytes sent.a).answers → IsFlat s u (after s m o os bytes sent.a)
first_flat s u m o os bytes sent serves fits flat candidate good = by_answer sent.a sent.allows sent.is good
  where
    ts : List Task
    ts = map (kept_as s) (filter is_out os)

    unit : Flat
    unit = flat_after s (flat_of s u) flat.done

    keeps : tasks_after s m.events ≡ kept_as s o ∷ ts
    keeps = fits.keeps ∙ ap (λ (b : Bool). map (kept_as s) (cond b (o ∷ filter is_out os) (filter is_out os))) sent.out

    queue : IsQueue s (kept_as s o ∷ ts)
    queue = subst (IsQueue s) keeps (queue_after s m.events)

    proper : IsProper s o
    proper = fits.proper.0

    -- what a command that ends without a write leaves
    no_write : (good : Bool) (p : Place) → is_write o.command ≡ false → left_by s p (candidates s u m.events p) (record { task = kept_as s o; good = good }) ≡ unit p ∷ []
    no_write good p other = ap (with_block good (candidates s u m.events p)) (no_write_holds s o.command (kept_as s o) p other) ∙ flat.alone p

    -- a command of the driver's own ends
    own_ends : (a : Answer) → (good : Bool) → o.caller ≡ false
        → ((p : Place) → candidates s u (m.events ▹ Device bytes) p ≡ left_by s p (candidates s u m.events p) (record { task = kept_as s o; good = good }))
        → IsFlat s u (record m { opens = os; events = m.events ▹ Device bytes })
    own_ends a good own left = record {
      done = flat.done;
      order = flat.order;
      answers = flat.answers;
      serves = flat.serves ∙ ap (λ (b : Bool). map serving (cond b (o ∷ filter is_caller os) (filter is_caller os))) own;
      alone = λ p. left p ∙ no_write good p (proper.own own);
      first = first_none s unit os fits.proper.1 queue.others_wait;
    }

    good_ends : (segment : List ℕ) → Allows s (kept_as s o) (GoodAnswer segment) → o.caller ≡ true
        → ((p : Place) → candidates s u (m.events ▹ Device bytes) p ≡ left_by s p (candidates s u m.events p) (record { task = kept_as s o; good = true }))
        → IsFlat s u (with_done (Some (record { tag = o.tag; answer = Good o.got })) (record m { opens = os; events = m.events ▹ Device bytes }))
    good_ends segment allows caller left =
        let f : FirstCaller m.callers o (map serving (filter is_caller os)) =
        first_caller m.callers o _ (flat.serves ∙ ap (λ (b : Bool). map serving (cond b (o ∷ filter is_caller os) (filter is_caller os))) caller) in
        let a : Asked = f.a in
        let serving_one = proper.serving caller in
        let rest : without_asked o.tag m.callers ≡ f.others = ap (without_asked o.tag) f.is ∙ without_first_asked a f.others o.tag f.tag in
        let found : find (has_asked o.tag) m.callers ≡ Some a = ap (find (has_asked o.tag)) f.is ∙ find_asked a f.others o.tag f.tag in
        let got : Good o.got ≡ flat_answer unit a.request =
        answer_flat s unit o.command o.lun o.bytes o.got serves.block serving_one allows.0 flat.first ∙ ap (flat_answer unit) (sym f.request) in
        let come : take o.given o.bytes ≡ o.bytes = all_sent s o proper allows.1 in
        record {
          done = flat.done ++ a ∷ [];
          order = flat.order ∙ ap (λ (cs : List Asked). flat.done ++ cs) f.is ∙ sym (append_assoc flat.done (a ∷ []) f.others) ∙ ap (λ (cs : List Asked). (flat.done ++ a ∷ []) ++ cs) (sym rest);
          answers = ap (λ (x : Option Asked). m.answers ++ answered_for (record { tag = o.tag; answer = Good o.got }) x) found
              ∙ ap (λ (x : Given). m.answers ++ record { number = a.number; outcome = Came x } ∷ []) got
              ∙ ap (λ (xs : List Answered). xs ++ record { number = a.number; outcome = Came (flat_answer unit a.request) } ∷ []) flat.answers
              ∙ sym (answers_one_more s (flat_of s u) flat.done a);
          serves = ap (map serving_asked) rest ∙ f.others_are;
          alone = λ p. left p
              ∙ ap (λ (bs : List Block). with_block true bs (block_written s (kept_as s o) o.command p)) (flat.alone p)
              ∙ written_alone s unit o.command (kept_as s o) o.bytes p serving_one come proper.bytes
              ∙ ap (λ (r : Request). written_by s r unit p ∷ []) (sym f.request)
              ∙ ap (λ (g : Flat). g p ∷ []) (sym (after_one_more s (flat_of s u) flat.done a));
          first = first_none s (flat_after s (flat_of s u) (flat.done ++ a ∷ [])) os fits.proper.1 queue.others_wait;
        }

    by_answer : (a : Answer) → Allows s (kept_as s o) a → bytes ≡ upiu_out (upiu_of s (kept_as s o) a) → AllGood (after s m o os bytes a).answers → IsFlat s u (after s m o os bytes a)
    by_answer (Data piece) allows is good =
        let v : Upiu = upiu_of s (kept_as s o) (Data piece) in
        let h = consistent s o (Data piece) serves proper allows in
        let mine : has_tag o.tag (kept_as s o) ≡ true = same_tag o.tag in
        let one : shown_by_kind s v v.kind (kept_as s o ∷ ts) ≡ shown_at v (next_place s (kept_as s o) o.command) =
        ap (λ (b : Bool). if b then shown_at v (next_place s (kept_as s o) o.command) else None) mine in
        let shows : shown s (tasks_after s m.events) (Device bytes) ≡ shown_at v (next_place s (kept_as s o) o.command) =
        ap (λ (b : List ℕ). shown s (tasks_after s m.events) (Device b)) is ∙ device_shows s (tasks_after s m.events) v h ∙ ap (shown_by_kind s v v.kind) keeps ∙ one in
        let g : Grows s unit o.command o (kept_as s o) v (candidates s u m.events) piece =
        grows s unit o.command o (kept_as s o) v (candidates s u m.events) serves.block refl refl flat.alone allows.1 (subst (IsCandidate (candidates s u m.events)) shows candidate) flat.first in
        record {
          done = flat.done;
          order = flat.order;
          answers = flat.answers;
          serves = flat.serves ∙ sym (serves_same o (with_got piece o) os refl refl);
          alone = λ p. candidates_after s u m.events bytes v (kept_as s o ∷ ts) p h is keeps ∙ ap (seen_at p (candidates s u m.events p)) one ∙ g.alone p;
          first = g.got;
        }
    by_answer (Ask count) allows is good =
        let v : Upiu = upiu_of s (kept_as s o) (Ask count) in
        let h = consistent s o (Ask count) serves proper allows in
        record {
          done = flat.done;
          order = flat.order;
          answers = flat.answers;
          serves = flat.serves ∙ sym (serves_same o (with_asked (o.asked + count) o) os refl refl);
          alone = λ p. candidates_after s u m.events bytes v (kept_as s o ∷ ts) p h is keeps ∙ flat.alone p;
          first = flat.first;
        }
    by_answer (GoodAnswer segment) allows is good =
        let v : Upiu = upiu_of s (kept_as s o) (GoodAnswer segment) in
        let h = consistent s o (GoodAnswer segment) serves proper allows in
        by_caller o.caller refl (λ p. candidates_after s u m.events bytes v (kept_as s o ∷ ts) p h is keeps
        ∙ ap (λ (ls : List Leaving). fold (left_by s p) (candidates s u m.events p) ls) (one_leaves true (kept_as s o) ts queue.apart.0))
      where
        by_caller : (b : Bool) → o.caller ≡ b
            → ((p : Place) → candidates s u (m.events ▹ Device bytes) p ≡ left_by s p (candidates s u m.events p) (record { task = kept_as s o; good = true }))
            → IsFlat s u (with_done (if b then Some (record { tag = o.tag; answer = Good o.got }) else None) (record m { opens = os; events = m.events ▹ Device bytes }))
        by_caller true caller left = good_ends segment allows caller left
        by_caller false caller left = own_ends (GoodAnswer segment) true caller left
    by_answer (CheckAnswer sense) allows is good =
        let v : Upiu = upiu_of s (kept_as s o) (CheckAnswer sense) in
        let h = consistent s o (CheckAnswer sense) serves proper allows in
        by_caller o.caller refl (λ p. candidates_after s u m.events bytes v (kept_as s o ∷ ts) p h is keeps
        ∙ ap (λ (ls : List Leaving). fold (left_by s p) (candidates s u m.events p) ls) (one_leaves false (kept_as s o) ts queue.apart.0)) good
      where
        bad : Given
        bad = check_or_status 2 (fixed_in (fixed_out sense))

        ended : o.caller ≡ true → AllGood (with_done (Some (record { tag = o.tag; answer = bad })) (record m { opens = os; events = m.events ▹ Device bytes })).answers → ⊥
        ended caller good =
            let f : FirstCaller m.callers o (map serving (filter is_caller os)) =
            first_caller m.callers o _ (flat.serves ∙ ap (λ (b : Bool). map serving (cond b (o ∷ filter is_caller os) (filter is_caller os))) caller) in
            let found : find (has_asked o.tag) m.callers ≡ Some f.a = ap (find (has_asked o.tag)) f.is ∙ find_asked f.a f.others o.tag f.tag in
            check_is_bad 2 (fixed_in (fixed_out sense)) (all_good_last m.answers (record { number = f.a.number; outcome = Came bad })
            (subst (λ (x : Option Asked). AllGood (m.answers ++ answered_for (record { tag = o.tag; answer = bad }) x)) found good))

        by_caller : (b : Bool) → o.caller ≡ b
            → ((p : Place) → candidates s u (m.events ▹ Device bytes) p ≡ left_by s p (candidates s u m.events p) (record { task = kept_as s o; good = false }))
            → AllGood (with_done (if b then Some (record { tag = o.tag; answer = bad }) else None) (record m { opens = os; events = m.events ▹ Device bytes })).answers
            → IsFlat s u (with_done (if b then Some (record { tag = o.tag; answer = bad }) else None) (record m { opens = os; events = m.events ▹ Device bytes }))
        by_caller true caller left good = absurd (ended caller good)
        by_caller false caller left good = own_ends (CheckAnswer sense) false caller left

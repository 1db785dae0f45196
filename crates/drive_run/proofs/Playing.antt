-- Texts of what was said, one call after another.
use Rattle.std.proofs.Common.{◌≡◌, ℕ, Bool, List, ◌++◌, Option, Result, Ok, Err, sym, ◌∙◌, ap, subst}
use Rattle.std.proofs.lemmas.List.{append_assoc}
use Rattle.std.specs.Prelude.{IsErr}
use Rattle.flat_unit.specs.Sizes.{Sizes}
use Rattle.drive_rules.specs.Lines.{Drive}
use Rattle.drive_rules.specs.Said.{Said}
use Rattle.drive_rules.specs.Text.{said_text}
use Rattle.hpb_link.specs.State.{LinkState}
use Rattle.hpb_outside.specs.Writes.{AppendsFront, HasWrittenUpTo}
use Rattle.run_output.specs.Writes.{Grows, KeepsText}
use Rattle.hpb_outside.proofs.Written.{nothing_yet}
use Rattle.run_output.proofs.Written.{cut_of, gathers_more, whole_of}
use Rattle.drive_run.specs.Moments.{Adds, Plays, Prints, PrintsFront, Stands}

pub prints_same : (only : Bool) (w : Option (List ℕ)) (g : List ℕ) (said : List Said) → Prints only w w g g said said
prints_same only w g said before so_far = so_far

pub prints_then : (only : Bool) (a b c : Option (List ℕ)) (one two three : List ℕ) (said mid now : List Said) → Prints only a b one two said mid → Prints only b c two three mid now
    → Prints only a c one three said now
prints_then only a b c one two three said mid now first then before so_far = then before (first before so_far)

pub front_then : (only : Bool) (a b c : Option (List ℕ)) (one two : List ℕ) (said mid now : List Said) → Prints only a b one two said mid → PrintsFront only b c two mid now
    → PrintsFront only a c one said now
front_then only a b c one two said mid now first then before so_far = then before (first before so_far)

-- what was gathered is written, or stays
pub prints_kept : {T E : Type 0} (only : Bool) (a b : Option (List ℕ)) (one two : List ℕ) (said : List Said) (r : Result T E) → KeepsText a b one two r → ¬ IsErr r → Prints only a b one two said said
prints_kept only a b one two said r keeps worked before so_far = whole_of r _ _ worked (keeps before (said_text only said) so_far)

pub front_kept : {T E : Type 0} (only : Bool) (a b : Option (List ℕ)) (one two : List ℕ) (said : List Said) (r : Result T E) → KeepsText a b one two r → IsErr r → PrintsFront only a b one said said
front_kept only a b one two said r keeps failed before so_far = cut_of r _ _ failed (keeps before (said_text only said) so_far)

-- the text of more that was said is gathered
pub prints_gathered : (only : Bool) (a b : Option (List ℕ)) (one two three more : List ℕ) (said mid now : List Said) → Prints only a b one two said mid → three ≡ two ++ more
    → said_text only now ≡ said_text only mid ++ more → Prints only a b one three said now
prints_gathered only a b one two three more said mid now first is text before so_far =
    rw is (subst (λ (t : List ℕ). HasWrittenUpTo before b t (two ++ more)) (sym text) (gathers_more before b (said_text only mid) two more (first before so_far)))

-- the same where it was written in part
pub prints_added : {T E : Type 0} (only : Bool) (a b : Option (List ℕ)) (one two more : List ℕ) (said now : List Said) (r : Result T E) → Adds more a b one two r → ¬ IsErr r
    → said_text only now ≡ said_text only said ++ more → Prints only a b one two said now
prints_added only a b one two more said now r adds worked text before so_far =
    subst (λ (t : List ℕ). HasWrittenUpTo before b t two) (sym text) (whole_of r _ _ worked (adds before (said_text only said) so_far))

pub front_added : {T E : Type 0} (only : Bool) (a b : Option (List ℕ)) (one two more : List ℕ) (said now : List Said) (r : Result T E) → Adds more a b one two r → IsErr r
    → said_text only now ≡ said_text only said ++ more → PrintsFront only a b one said now
front_added only a b one two more said now r adds failed text before so_far =
    subst (AppendsFront before b) (sym text) (cut_of r _ _ failed (adds before (said_text only said) so_far))

-- a front of a text is one of a longer text
pub front_longer : (only : Bool) (a b : Option (List ℕ)) (one more : List ℕ) (said mid now : List Said) → PrintsFront only a b one said mid → said_text only now ≡ said_text only mid ++ more
    → PrintsFront only a b one said now
front_longer only a b one more said mid now cut text before so_far =
    let front = cut before so_far in
    subst (AppendsFront before b) (sym text) (record {
      front = front.front;
      rest = front.rest ++ more;
      parts = sym (append_assoc front.front front.rest more) ∙ ap (λ (l : List ℕ). l ++ more) front.parts;
      appended = front.appended;
    })

-- a text and more behind it, and more behind that
pub adds_then : {T U E F : Type 0} (first then : List ℕ) (a b c : Option (List ℕ)) (one two three : List ℕ) (r : Result T E) (q : Result U F) → Adds first a b one two r → ¬ IsErr r
    → Adds then b c two three q → Adds (first ++ then) a c one three q
adds_then first then a b c one two three r (Ok x) adds worked more before text so_far =
    let whole = whole_of r _ _ worked (adds before text so_far) in
    subst (λ (t : List ℕ). HasWrittenUpTo before c t three) (append_assoc text first then) (more before (text ++ first) whole)
adds_then first then a b c one two three r (Err x) adds worked more before text so_far =
    let whole = whole_of r _ _ worked (adds before text so_far) in
    subst (AppendsFront before c) (append_assoc text first then) (more before (text ++ first) whole)

-- from where two ends stand, a call that worked leaves them standing
pub stands_after : {T E : Type 0} (next cut : Sizes → Drive → Drive → Type 0) (only : Bool) (old new : LinkState) (a b : Option (List ℕ)) (one two : List ℕ) (r : Result T E) → ¬ IsErr r
    → Plays next cut only old new a b one two r → Stands old → Stands new
stands_after next cut only old new a b one two r worked plays (start, (d, at)) =
    let leads = whole_of r _ _ worked (plays start d at) in
    (start, (leads.moment, leads.stands))

-- a call that failed before a text was gathered
pub cut_before : {T E : Type 0} (more : List ℕ) (a b : Option (List ℕ)) (one two : List ℕ) (r : Result T E) → KeepsText a b one two r → IsErr r
    → (before : Option (List ℕ)) (text : List ℕ) → HasWrittenUpTo before a text one → AppendsFront before b (text ++ more)
cut_before more a b one two r keeps failed before text so_far =
    let cut = cut_of r _ _ failed (keeps before text so_far) in
    record {
      front = cut.front;
      rest = cut.rest ++ more;
      parts = sym (append_assoc cut.front cut.rest more) ∙ ap (λ (l : List ℕ). l ++ more) cut.parts;
      appended = cut.appended;
    }

-- a call that adds a text writes a front of it, if anything
pub adds_grows : {T E : Type 0} (more : List ℕ) (a b : Option (List ℕ)) (one two : List ℕ) (r : Result T E) → Adds more a b one two r → Grows a b
adds_grows more a b one two (Ok x) adds = let up_to = adds a one (nothing_yet a one) in (up_to.front, up_to.appended)
adds_grows more a b one two (Err x) adds = let cut = adds a one (nothing_yet a one) in (cut.front, cut.appended)

-- a call that failed while the first text was added
pub cut_first : {T E : Type 0} (first then : List ℕ) (a b : Option (List ℕ)) (one two : List ℕ) (r : Result T E) → Adds first a b one two r → IsErr r
    → (before : Option (List ℕ)) (text : List ℕ) → HasWrittenUpTo before a text one → AppendsFront before b (text ++ (first ++ then))
cut_first first then a b one two r adds failed before text so_far =
    let cut = cut_of r _ _ failed (adds before text so_far) in
    record {
      front = cut.front;
      rest = cut.rest ++ then;
      parts = sym (append_assoc cut.front cut.rest then) ∙ ap (λ (l : List ℕ). l ++ then) cut.parts ∙ append_assoc text first then;
      appended = cut.appended;
    }

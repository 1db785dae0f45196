-- A request: a tag is freed first where all are in use, it is taken or out of range, and then an exchange is made.
use Rattle.std.proofs.Common.{◌≡◌, ℕ, ◌+◌, Bool, ◌&&◌, List, ◌∷◌, ◌++◌, Option, Result, Ok, Err, inl, inr, refl, sym, ◌∙◌, ap, subst, nat_le, nat_lt}
use Rattle.std.specs.Prelude.{IsErr}
use Rattle.std.proofs.lemmas.Bool.{false≢true}
use Rattle.hpb_outside.specs.Faults.{HasCause}
use Rattle.hpb_device.specs.Standing.{sizes_of}
use Rattle.hpb_device.specs.State.{DeviceState}
use Rattle.driver_laws.specs.declared.request.Request.{Request}
use Rattle.driver_laws.specs.declared.request.Request.TheVariants.{Read as ReadOf, Write as WriteOf, Sync as SyncAll, Ready}
use Rattle.drive_rules.specs.Cuts.{CutDrain, CutExchange, CutRequest}
use Rattle.drive_rules.specs.Lines.{Drive, Exchanges, FreesTags, Requests, are_there, requested}
use Rattle.drive_rules.specs.Said.{Outside, Said}
use Rattle.hpb_link.specs.declared.link.Submitted.{Submitted}
use Rattle.hpb_link.specs.declared.link.Submitted.TheVariants.{Taken, Range as OutOfRange, Memory as NoRoom}
use Rattle.std.proofs.lemmas.List.{append-nil}
use Rattle.drive_rules.specs.Text.{said_text}
use Rattle.hpb_driver.specs.State.{has_blocks, is_inside}
use Rattle.hpb_link.specs.Stands.{AtDrive, IsSubmittedAt}
use Rattle.hpb_link.specs.State.{LinkState}
use Rattle.trace_text.specs.declared.ending.Ending.TheVariants.{Range}
use Rattle.trace_text.specs.Written.{ending_line}
use Rattle.drive_run.specs.Moments.{Adds, Cuts, Leads, Plays, Prints, submitted_text}
use Rattle.run_output.proofs.Written.{cut_of, whole_of}
use Rattle.drive_run.proofs.Playing.{front_added, front_then, prints_added, prints_then}
use Rattle.drive_run.proofs.Saying.{said_more}

-- which blocks are there doesn't change while a drive goes on
blocks_there : (start : DeviceState) (now : LinkState) (d : Drive) (lun lba n : ℕ) → AtDrive start now d → has_blocks d.machine lun lba n ≡ are_there (sizes_of start) lun lba n
blocks_there start now d lun lba n at = λ i. nat_lt lun (at.luns i) && (nat_le n 255 && nat_le (lba + n) (at.shape i).units)

pub inside_same : (start : DeviceState) (old now : LinkState) (d e : Drive) → AtDrive start old d → AtDrive start now e → (request : Request)
    → is_inside e.machine request ≡ is_inside d.machine request
inside_same start old now d e at there (ReadOf lun lba n) = blocks_there start now e lun lba n there ∙ sym (blocks_there start old d lun lba n at)
inside_same start old now d e at there (WriteOf lun lba n bytes) = blocks_there start now e lun lba n there ∙ sym (blocks_there start old d lun lba n at)
inside_same start old now d e at there SyncAll = refl
inside_same start old now d e at there Ready = refl

pub read_there : (start : DeviceState) (now : LinkState) (d : Drive) (lba n : ℕ) → AtDrive start now d → is_inside d.machine (ReadOf d.lun lba n) ≡ are_there (sizes_of start) d.lun lba n
read_there start now d lba n at = blocks_there start now d d.lun lba n at

pub write_there : (start : DeviceState) (now : LinkState) (d : Drive) (lba n : ℕ) (bytes : List ℕ) → AtDrive start now d
    → is_inside d.machine (WriteOf d.lun lba n bytes) ≡ are_there (sizes_of start) d.lun lba n
write_there start now d lba n bytes at = blocks_there start now d d.lun lba n at

-- what is known before the exchange of a request
pub record Asked (start : DeviceState) (only : Bool) (now : LinkState) (a b : Option (List ℕ)) (one two : List ℕ) (request : Request) (there : Bool) (d : Drive) : Type 0 where
  pub free : Drive
  pub frees : FreesTags (sizes_of start) d free
  pub stands : AtDrive start now (requested there request free)
  pub prints : Prints only a b one two d.said (requested there request free).said

-- its number is told where it is out of range
range_text : (only : Bool) (number count : ℕ) (said : List Said) → number ≡ count + 1 → said_text only (Outside (count + 1) ∷ said) ≡ said_text only said ++ ending_line number Range
range_text only number count said is = said_more only (Outside (count + 1)) said ∙ ap (λ (n : ℕ). said_text only said ++ ending_line n Range) (sym is)

-- which it is, and what is said of it
pub record Told (start : DeviceState) (only : Bool) (now : LinkState) (request : Request) (number : ℕ) (submitted : Submitted) (there : Bool) (free : Drive) : Type 0 where
  pub stands : AtDrive start now (requested there request free)
  pub text : said_text only (requested there request free).said ≡ said_text only free.said ++ submitted_text submitted number

told_of : (start : DeviceState) (only : Bool) (mid now : LinkState) (request : Request) (number : ℕ) (free : Drive) → (submitted : Submitted) → (submitted ≡ NoRoom → ⊥) → number ≡ now.count
    → IsSubmittedAt start mid now request free submitted → Told start only now request number submitted (is_inside free.machine request) free
told_of start only mid now request number free Taken other is (inside, at) =
    subst (λ (there : Bool). Told start only now request number Taken there free) (sym inside) (record { stands = at; text = sym (append-nil (said_text only free.said)) })
told_of start only mid now request number free OutOfRange other is (outside, at) =
    subst (λ (there : Bool). Told start only now request number OutOfRange there free) (sym outside)
    (record { stands = at; text = range_text only number free.count free.said (is ∙ at.count) })
told_of start only mid now request number free NoRoom other is told = absurd (other refl)

-- it was taken, or it is out of range
pub asked_told : {T E : Type 0} (start : DeviceState) (only : Bool) (old mid now : LinkState) (a b c : Option (List ℕ)) (one two three : List ℕ) (request : Request) (number : ℕ)
    (submitted : Submitted) (d : Drive) (r : Result T E)
    → AtDrive start old d → (leads : Leads (FreesTags (sizes_of start) d) start only mid a b one two d.said) → (submitted ≡ NoRoom → ⊥) → number ≡ now.count
    → IsSubmittedAt start mid now request leads.moment submitted → Adds (submitted_text submitted number) b c two three r → ¬ IsErr r
    → Asked start only now a c one three request (is_inside d.machine request) d
asked_told start only old mid now a b c one two three request number submitted d r at leads other is told adds worked =
    let free = leads.moment in
    let there = is_inside free.machine request in
    let t = told_of start only mid now request number free submitted other is told in
    subst (λ (b : Bool). Asked start only now a c one three request b d) (inside_same start old mid d free at leads.stands request) (record {
      free = free;
      frees = leads.reached;
      stands = t.stands;
      prints = prints_then only a b c one two three d.said free.said (requested there request free).said leads.prints
          (prints_added only b c two three (submitted_text submitted number) free.said (requested there request free).said r adds worked t.text);
    })

-- the sink failed where its number is told
pub told_is_cut : {T E : Type 0} (start : DeviceState) (only : Bool) (old mid now : LinkState) (a b c : Option (List ℕ)) (one two three : List ℕ) (request : Request) (number : ℕ)
    (submitted : Submitted) (d : Drive) (r : Result T E)
    → AtDrive start old d → (leads : Leads (FreesTags (sizes_of start) d) start only mid a b one two d.said) → (submitted ≡ NoRoom → ⊥) → number ≡ now.count
    → IsSubmittedAt start mid now request leads.moment submitted → Adds (submitted_text submitted number) b c two three r → IsErr r
    → Cuts (CutRequest (sizes_of start) (is_inside d.machine request) request d) start only now a c one d.said
told_is_cut start only old mid now a b c one two three request number submitted d r at leads other is told adds failed =
    let free = leads.moment in
    let there = is_inside free.machine request in
    let t = told_of start only mid now request number free submitted other is told in
    subst (λ (b : Bool). Cuts (CutRequest (sizes_of start) b request d) start only now a c one d.said) (inside_same start old mid d free at leads.stands request) (record {
      moment = requested there request free;
      reached = inr (record { free = free; frees = leads.reached; exchange = (0, refl) });
      stands = t.stands;
      prints = front_then only a b c one two d.said free.said (requested there request free).said leads.prints
          (front_added only b c two three (submitted_text submitted number) free.said (requested there request free).said r adds failed t.text);
    })

-- there was no memory for it
pub starved : (start : DeviceState) (only : Bool) (mid now : LinkState) (a b : Option (List ℕ)) (one two : List ℕ) (d : Drive) → now ≡ mid
    → Leads (FreesTags (sizes_of start) d) start only mid a b one two d.said
    → Leads (FreesTags (sizes_of start) d) start only now a b one two d.said
starved start only mid now a b one two d is leads = subst (λ (x : LinkState). Leads (FreesTags (sizes_of start) d) start only x a b one two d.said) (sym is) leads

-- no tag could be freed
pub freeing_is_cut : (start : DeviceState) (only : Bool) (now : LinkState) (a b : Option (List ℕ)) (one : List ℕ) (request : Request) (there : Bool) (d : Drive)
    → Cuts (CutDrain (sizes_of start) d) start only now a b one d.said
    → Cuts (CutRequest (sizes_of start) there request d) start only now a b one d.said
freeing_is_cut start only now a b one request there d cuts = record { moment = cuts.moment; reached = inl cuts.reached; stands = cuts.stands; prints = cuts.prints }

-- the exchange behind it
pub request_made : {T E : Type 0} (start : DeviceState) (only : Bool) (mid new : LinkState) (a b c : Option (List ℕ)) (one two three : List ℕ) (request : Request) (there : Bool) (d : Drive)
    (r : Result T E)
    → Asked start only mid a b one two request there d → Plays Exchanges CutExchange only mid new b c two three r → ¬ IsErr r
    → Leads (Requests (sizes_of start) there request d) start only new a c one three d.said
request_made start only mid new a b c one two three request there d r asked plays worked =
    let after = requested there request asked.free in
    let leads = whole_of r _ _ worked (plays start after asked.stands) in
    record {
      moment = leads.moment;
      reached = record { free = asked.free; frees = asked.frees; exchange = leads.reached };
      stands = leads.stands;
      prints = prints_then only a b c one two three d.said after.said leads.moment.said asked.prints leads.prints;
    }

pub request_is_cut : {T E : Type 0} (start : DeviceState) (only : Bool) (mid new : LinkState) (a b c : Option (List ℕ)) (one two three : List ℕ) (request : Request) (there : Bool)
    (d : Drive) (r : Result T E)
    → Asked start only mid a b one two request there d → Plays Exchanges CutExchange only mid new b c two three r → IsErr r
    → Cuts (CutRequest (sizes_of start) there request d) start only new a c one d.said
request_is_cut start only mid new a b c one two three request there d r asked plays failed =
    let after = requested there request asked.free in
    let cuts = cut_of r _ _ failed (plays start after asked.stands) in
    record {
      moment = cuts.moment;
      reached = inr (record { free = asked.free; frees = asked.frees; exchange = cuts.reached });
      stands = cuts.stands;
      prints = front_then only a b c one two d.said after.said cuts.moment.said asked.prints cuts.prints;
    }

-- a call behind others that worked has its cause
pub cause_behind : {T E F : Type 0} (U : Type 0) (a b c : ℕ) (r : Result T E) (e : F) → b ≡ a → HasCause b c r → IsErr r → HasCause {T = U} a c (Err e)
cause_behind U a b c (Ok x) e same cause failed = absurd (false≢true failed)
cause_behind U a b c (Err x) e same cause failed = subst (λ (n : ℕ). HasCause {T = U} n c (Err e)) same (record { later = cause.later; failed = cause.failed; given = tt; once = cause.once })

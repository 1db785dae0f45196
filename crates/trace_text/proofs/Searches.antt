-- What a search of a window's bytes says of those that are held.
use Rattle.std.proofs.Common.{◌≡◌, ◌≢◌, ℕ, ◌+◌, ◌-◌, ◌<◌, ◌≤◌, length, get_or, drop, arith, sym, ap, ◌∙◌, inl, inr, None, Some}
use Rattle.std.proofs.lemmas.Bool.{cases_lt}
use Rattle.std.proofs.lemmas.List.{get_or-take, get_or-drop, get_or_default}
use Rattle.std.specs.Prelude.{slice_range}
use Rattle.memchr.specs.Find.{IsFirstByte, is_byte}
use Rattle.trace_text.specs.declared.window.Window.{Window}
use Rattle.trace_text.specs.Lines.{IsWithinLine, HoldsLine}
use Rattle.trace_text.specs.Window.{held_bytes}
use Rattle.trace_text.proofs.Windows.{length-slice_range, whole-IsWithinLine, FoundLine, found-line}

pub length-held : (w : Window) → length (held_bytes w) ≡ w.end - w.start
length-held w = length-slice_range w.bytes.items w.start w.end w.ordered (rw w.whole w.within)

-- the first bytes that are held were searched before, and have no end
pub record IsScanned (w : Window) (scanned : ℕ) : Type 0 where
  pub within : scanned ≤ length (held_bytes w)
  pub none : (k : ℕ) → k < scanned → get_or (held_bytes w) k 0 ≢ 10

pub all-IsWithinLine : (w : Window) (scanned : ℕ) → IsScanned w scanned
    → IsFirstByte (is_byte 10) (slice_range w.bytes.items (w.start + scanned) w.end) None → IsWithinLine (held_bytes w)
all-IsWithinLine w scanned before behind =
    let size = length-held w in
    let few = before.within in
    let order = w.ordered in
    whole-IsWithinLine w.bytes.items w.start w.end scanned order (omega arith) (rw w.whole w.within) before.none behind

pub line-held : (w : Window) (scanned at : ℕ) → IsScanned w scanned
    → IsFirstByte (is_byte 10) (slice_range w.bytes.items (w.start + scanned) w.end) (Some at)
    → FoundLine w.bytes.items w.start (w.start + scanned + at) w.end
line-held w scanned at before behind =
    let size = length-held w in
    let few = before.within in
    let order = w.ordered in
    found-line w.bytes.items w.start w.end scanned at order (omega arith) (rw w.whole w.within) before.none behind

held-at : (w : Window) (k : ℕ) → w.start + k < w.end → get_or (held_bytes w) k 0 ≡ get_or w.bytes.items (w.start + k) 0
held-at w k below = get_or-take (w.end - w.start) (drop w.start w.bytes.items) k 0 (omega arith) ∙ get_or-drop w.start w.bytes.items k 0

-- where the last end of a line stands tells whether there is one
pub behind-HoldsLine : (w : Window) → w.start < w.behind → HoldsLine (held_bytes w)
behind-HoldsLine w below =
    let told = w.told in
    let inside = told.within in
    let size = length-held w in
    let k = w.behind - 1 - w.start in
    let lt : k < length (held_bytes w) = omega arith in
    let place : w.start + k ≡ w.behind - 1 = omega arith in
    let is : get_or (held_bytes w) k 0 ≡ 10 = held-at w k (omega arith) ∙ ap (λ n. get_or w.bytes.items n 0) place ∙ told.is_end (omega arith) in
    inl (k, lt, sym (get_or_default (held_bytes w) k 0 10 lt) ∙ is)

pub HoldsLine-behind : (w : Window) → w.end - w.start ≤ 131200 → HoldsLine (held_bytes w) → w.start < w.behind
HoldsLine-behind w short (inr long) = let size = length-held w in absurd (omega arith)
HoldsLine-behind w short (inl (k, lt, is)) =
    let told = w.told in
    let size = length-held w in
    let at : get_or w.bytes.items (w.start + k) 0 ≡ 10 = sym (held-at w k (omega arith)) ∙ get_or_default (held_bytes w) k 0 10 lt ∙ is in
    elim (cases_lt w.start w.behind) [
      | inl below ↦ below
      | inr above ↦ absurd (told.none (w.start + k) (omega arith) (omega arith) at)
    ]

use Rattle.std.proofs.Common.{rules, ◌≡◌, ℕ, ◌+◌, ◌-◌, ◌≤◌, ◌<◌, List, ◌++◌, arith, length, take, sym, ap, ap₂, ◌∙◌, subst, le_refl, drop, drop_at, length-take-le}
use Rattle.std.proofs.lemmas.List.{append-nil}
use Rattle.std.proofs.lemmas.Slice.{take-put_mid_below}
use Rattle.std.specs.Io.KnownBytes.{Consumes}
use Rattle.std.proofs.KnownBytes.{Consumes-trans, Consumes-kept}
use borrow.Rule.Slice.PartMut.{put_mid, post_of}
use lib.Seq.{take-add, take-append-le}
use Rattle.chip_image.proofs.transfer.read_whole.Goals as goal

-- the first bytes of a buffer of which a piece was filled
piece : (a k n : ℕ) (xs ys : List ℕ) → a ≤ length xs → n ≤ length ys → take (a + n) (put_mid a k xs ys) ≡ take a xs ++ take n ys
piece a k n xs ys within fits =
    let after = post_of a k xs in
    take-add a n (put_mid a k xs ys)
    ∙ ap₂ (λ (l m : List ℕ). l ++ m) (take-put_mid_below a k xs ys a (le_refl a) within)
    (ap (take n) (drop_at (take a xs) (ys ++ after) a (length-take-le a xs within)) ∙ take-append-le n ys after fits)

pub loop-filled-preserved : goal.loop-filled-preserved
loop-filled-preserved g c =
    let from = c.loop-filled.filled in
    let room = length c.loop-filled.buf - from in
    let within = c.loop-filled.invariant.few in
    let part = piece from room c.in-Ok.count c.loop-filled.buf c.read.new.buf within c.in-Ok.ensures.bound.0 in
    record {
      taken = subst (Consumes _ _) (sym part) (Consumes-trans _ _ _ _ _ c.loop-filled.invariant.taken c.in-Ok.ensures.bytes.0);
      few = search rules;
      len = search rules;
      none = search rules;
    }

pub returns-in-Ok-eq0-clause-bytes : goal.returns-in-Ok-eq0-clause-bytes
returns-in-Ok-eq0-clause-bytes g c =
    let from = c.loop-filled.filled in
    let within = c.loop-filled.invariant.few in
    let more = c.loop-filled-test.true in
    let same : length (put_mid from (length c.loop-filled.buf - from) c.loop-filled.buf c.read.new.buf) ≡ length c.loop-filled.buf = search rules in
    let nothing : take from c.loop-filled.buf ++ take c.in-Ok-eq0.field-0 c.read.new.buf ≡ take from c.loop-filled.buf =
    ap (λ (n : ℕ). take from c.loop-filled.buf ++ take n c.read.new.buf) c.in-Ok-eq0.field-0-test ∙ append-nil (take from c.loop-filled.buf) in (
      record {
        bytes = take from c.loop-filled.buf;
        fewer = omega (arith, same, more, length-take-le from c.loop-filled.buf within);
        taken = subst (Consumes _ _) nothing (Consumes-trans _ _ _ _ _ c.loop-filled.invariant.taken c.in-Ok-eq0.ensures.bytes.0);
      },
      c.in-Ok-eq0.ensures.bytes.1 c.in-Ok-eq0.field-0-test (omega (arith, c.read.auto.buf, more)),
    )

pub returns-in-Err-clause-bytes : goal.returns-in-Err-clause-bytes
returns-in-Err-clause-bytes g c =
    let from = c.loop-filled.filled in
    let within = c.loop-filled.invariant.few in
    let more = c.loop-filled-test.true in
    let same : length (put_mid from (length c.loop-filled.buf - from) c.loop-filled.buf c.read.new.buf) ≡ length c.loop-filled.buf = search rules in
    record {
      bytes = take from c.loop-filled.buf;
      fewer = omega (arith, same, more, length-take-le from c.loop-filled.buf within);
      taken = Consumes-kept _ _ _ _ c.loop-filled.invariant.taken c.in-Err.ensures.bytes;
    }

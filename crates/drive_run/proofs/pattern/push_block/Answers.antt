use Rattle.std.proofs.Common.{◌≡◌, ◌+◌, ◌++◌, ℕ, List, [], ◌∷◌, length, map, ap, arith, sym, ◌∙◌, subst}
use Rattle.std.specs.List.{range_with_len}
use Rattle.std.proofs.lemmas.List.{append_assoc, length-append}
use Rattle.std.proofs.lemmas.List.FromFn.{length-map-range_with_len, map-range_with_len_more}
use Rattle.drive_rules.specs.Lines.{pattern}
use Rattle.drive_run.proofs.pattern.push_block.Goals as goal

pub push_reserved-requires : goal.push_reserved-requires
push_reserved-requires c =
    let invariant = c.loop-place.invariant in
    let before = c.args.bytes.now.items in
    let block = map (pattern c.args.seed c.args.lba) (range_with_len 0 c.loop-place.place) in
    let items : length c.loop-place.bytes.items ≡ length before + c.loop-place.place =
    ap length invariant.bytes ∙ length-append before block ∙ ap (λ (n : ℕ). length before + n) (length-map-range_with_len (pattern c.args.seed c.args.lba) 0 c.loop-place.place) in
    let whole = c.loop-place.bytes.ok.0 in
    omega (arith, items, whole, invariant.capacity, c.requires.room, c.loop-place-test.true)

pub loop-place-preserved : goal.loop-place-preserved
loop-place-preserved c =
    let invariant = c.loop-place.invariant in
    let f = pattern c.args.seed c.args.lba in
    let before = c.args.bytes.now.items in
    record {
      bytes = c.push_reserved.ensures.items
          ∙ ap (λ (xs : List ℕ). xs ++ f c.loop-place.place ∷ []) invariant.bytes
          ∙ append_assoc before (map f (range_with_len 0 c.loop-place.place)) (f c.loop-place.place ∷ [])
          ∙ ap (λ (xs : List ℕ). before ++ xs) (sym (map-range_with_len_more f 0 c.loop-place.place c.loop-place.place (omega arith)));
      capacity = c.push_reserved.ensures.capacity ∙ invariant.capacity;
    }

pub returns-clause-bytes : goal.returns-clause-bytes
returns-clause-bytes c =
    let all : c.loop-place.place ≡ 4096 = omega (arith, c.loop-place-test.false, c.loop-place.auto.place-end) in
    subst (λ (n : ℕ). c.loop-place.bytes.items ≡ c.args.bytes.now.items ++ map (pattern c.args.seed c.args.lba) (range_with_len 0 n)) all c.loop-place.invariant.bytes

use Rattle.std.proofs.Common.{◌≡◌, ◌+◌, ◌++◌, ◌∷◌, List, Option, Some, ℕ, [], length, map, sym, ◌∙◌, ap, arith, refl}
use Rattle.std.specs.List.{range_with_len}
use Rattle.std.proofs.lemmas.List.FromFn.{length-map-range_with_len, map-range_with_len_more}
use Rattle.std.proofs.lemmas.List.{map_push, length-map}
use Rattle.host_map_cache.specs.Cache.{entry_of}
use Rattle.read_planner.proofs.Covered.{covered-at}
use Rattle.read_planner.proofs.entries_of.Goals as goal

pub entry_in-requires-clause-covered : goal.entry_in-requires-clause-covered
entry_in-requires-clause-covered c = covered-at c.args.cache.now c.args.lba c.args.n c.loop-place.place c.requires.covered c.loop-place-test.true

pub push-requires : goal.push-requires
push-requires c =
    let entry : ℕ → Option ℕ = entry_of c.args.cache.now in
    let count : length c.loop-place.entries.items ≡ c.loop-place.place =
    sym (length-map c.loop-place.entries.items (λ e. Some e)) ∙ ap (λ (xs : List (Option ℕ)). length xs) c.loop-place.invariant ∙ length-map-range_with_len entry c.args.lba c.loop-place.place in
    omega (arith, count, c.loop-place-test.true, c.requires.few)

pub loop-place-preserved : goal.loop-place-preserved
loop-place-preserved c =
    let entry : ℕ → Option ℕ = entry_of c.args.cache.now in
    ap (λ (xs : List ℕ). map (λ e. Some e) xs) c.push.ensures.items
    ∙ map_push (λ e. Some e) c.loop-place.entries.items c.entry_in.result
    ∙ ap (λ (xs : List (Option ℕ)). xs ++ Some c.entry_in.result ∷ []) c.loop-place.invariant
    ∙ ap (λ (e : Option ℕ). map entry (range_with_len c.args.lba c.loop-place.place) ++ e ∷ []) c.entry_in.ensures
    ∙ sym (map-range_with_len_more entry c.args.lba c.loop-place.place (c.args.lba + c.loop-place.place) refl)

pub returns : goal.returns
returns c =
    let all : c.loop-place.place ≡ c.args.n = omega (arith, c.loop-place-test.false, c.loop-place.auto.place-end) in
    c.loop-place.invariant ∙ ap (λ (k : ℕ). map (entry_of c.args.cache.now) (range_with_len c.args.lba k)) all

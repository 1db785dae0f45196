use Rattle.std.proofs.Common.{◌≡◌, ◌∙◌, ℕ, List, ap, arith, ◌<◌, ◌++◌, drop, get_or, length, map, rules, take, sym}
use Rattle.std.proofs.Math.ListN.{drop_of_length-le}
use Rattle.std.proofs.Math.Seq.{take-length}
use Rattle.std.proofs.lemmas.List.{append-nil, get_or_default}
use Rattle.std.proofs.lemmas.List.Edits.{map_over_more}
use Rattle.region_state.specs.Machine.{Machine, after_reset}
use Rattle.hpb_device.proofs.Machines.{reset_shapes, shape_of, written_whole}
use Rattle.hpb_device.proofs.regions.reset_all.Goals as goal

pub loop-regions-preserved : goal.loop-regions-preserved
loop-regions-preserved c =
    let within : c.loop-regions.regions-index < length c.loop-regions.regions-items = omega arith in
    let one : Machine = get_or c.loop-regions.regions-items c.loop-regions.regions-index c.regions-item.result in
    rw c.reset.ensures.new
    (map_over_more after_reset c.deref_mut-regions-items.result.now c.loop-regions.regions-items c.loop-regions.regions-index one (omega arith) c.loop-regions.invariant
    (get_or_default c.loop-regions.regions-items c.loop-regions.regions-index c.regions-item.result one within))

pub returns-clause-shapes : goal.returns-clause-shapes
returns-clause-shapes c =
    let items = c.args.machines.now.items in
    let before = c.deref_mut-regions-items.result.now in
    let after = c.loop-regions.regions-items in
    let same : length after ≡ length before = c.loop-regions.auto.regions-items in
    let count : c.args.machines.now.len ≡ length items = search rules in
    let value : before ≡ items = c.deref_mut-regions-items.ensures.value in
    let sizes = ap length value in
    let end : c.loop-regions.regions-index ≡ length before = omega arith in
    let all : after ≡ map after_reset before =
    c.loop-regions.invariant
    ∙ (ap (λ (n : ℕ). map after_reset (take n before) ++ drop n before) end
    ∙ (ap (λ (l : List Machine). map after_reset l ++ drop (length before) before) (take-length before)
    ∙ (ap (λ (l : List Machine). map after_reset before ++ l) (drop_of_length-le before (omega arith)) ∙ append-nil (map after_reset before)))) in
    ap (map shape_of) (written_whole c.args.machines.now.len after items (omega (arith, same, sizes, count)) (sym count) ∙ (all ∙ ap (map after_reset) value)) ∙ reset_shapes items

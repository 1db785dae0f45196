use Rattle.std.proofs.Common.{◌≡◌, drop, Some, None, sym, ap, ◌∙◌}
use Rattle.std.specs.List.{slice_get}
use Rattle.std.specs.Option.{option_map}
use Rattle.region_state.specs.Shape.{place_of}
use Rattle.region_state.specs.Machine.{due, after_told}
use Rattle.region_state.proofs.Telling.{after_told-twice}
use Rattle.hint_issuer.proofs.Laws.{due-none, places-one, places-two, after_told-none, later}
use Rattle.hint_issuer.proofs.take_active.Goals as goal

pub returns-in_default-clause-told : goal.returns-in_default-clause-told
returns-in_default-clause-told c =
    let none : None ≡ option_map (place_of c.args.regions.now.shape) (slice_get (due c.args.regions.now) 0) = sym c.in_default.is ∙ c.take_active.ensures.first in
    c.take_active.ensures.told ∙ after_told-none c.args.regions.now (due-none (place_of c.args.regions.now.shape) (due c.args.regions.now) none)

pub returns-in_default-take_active-clause-places : goal.returns-in_default-take_active-clause-places
returns-in_default-take_active-clause-places c =
    let none : None ≡ option_map (place_of c.args.regions.now.shape) (slice_get (drop 1 (due c.args.regions.now)) 0) =
    later c.args.regions.now c.take_active.new.self None c.take_active.ensures.told (sym c.in_default-take_active.is ∙ c.take_active-2.ensures.first) in
    rw (c.push.ensures.items, c.new-active.ensures)
    (places-one (place_of c.args.regions.now.shape) (due c.args.regions.now) c.in-Some.first c.in-Some.ensures.first none)

pub returns-in_default-take_active-clause-told : goal.returns-in_default-take_active-clause-told
returns-in_default-take_active-clause-told c =
    c.take_active-2.ensures.told ∙ ap (after_told 1) c.take_active.ensures.told ∙ after_told-twice c.args.regions.now

pub returns-clause-places : goal.returns-clause-places
returns-clause-places c =
    let second : Some c.in-Some-take_active.second ≡ option_map (place_of c.args.regions.now.shape) (slice_get (drop 1 (due c.args.regions.now)) 0) =
    later c.args.regions.now c.take_active.new.self (Some c.in-Some-take_active.second) c.take_active.ensures.told c.in-Some-take_active.ensures.first in
    rw (c.push-2.ensures.items, c.push.ensures.items, c.new-active.ensures)
    (places-two (place_of c.args.regions.now.shape) (due c.args.regions.now) c.in-Some.first c.in-Some-take_active.second c.in-Some.ensures.first second)

pub returns-clause-told : goal.returns-clause-told
returns-clause-told c = c.take_active-2.ensures.told ∙ ap (after_told 1) c.take_active.ensures.told ∙ after_told-twice c.args.regions.now

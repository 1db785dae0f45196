use Rattle.std.proofs.Common.{◌≡◌, Bool, [], true, false, refl, sym, ◌∙◌}
use Rattle.std.proofs.lemmas.Bool.{false≢true}
use Rattle.flat_unit.specs.Replays.{events_of}
use Rattle.hpb_device.specs.Standing.{group_of}
use Rattle.replay_standing.specs.Calls.{HasCalled}
use Rattle.replay_standing.proofs.Collecting.{busy_called, calling_of, idle_called, rests_of}
use Rattle.replay_standing.proofs.calls.collect.Goals as goal

pub returns-clause-leads : goal.returns-clause-leads
returns-clause-leads g c start p at = by_idle c.collect-stepped.result.idle refl
  where
    by_idle : (b : Bool) → c.collect-stepped.result.idle ≡ b → HasCalled start c.collect-stepped.new.self p (events_of (group_of c.collect-stepped.result []))
    by_idle true idle = rw (c.collect-stepped.ensures.unchanged idle)
        (idle_called start c.args.device.now p c.collect-stepped.result (c.collect-stepped.ensures.nothing idle)
        (rests_of c.args.device.now (c.collect-stepped.ensures.rests idle) c.collect-stepped.ensures.none_left) at)
    by_idle false busy = busy_called start c.args.device.now c.collect-stepped.new.self p c.collect-stepped.result
        (calling_of c.args.device.now c.collect-stepped.new.self c.collect-stepped.result
        c.collect-stepped.ensures.stands c.collect-stepped.ensures.foreign c.collect-stepped.ensures.entries c.collect-stepped.ensures.listings
        c.collect-stepped.ensures.counted c.collect-stepped.ensures.hints c.collect-stepped.ensures.fetched c.collect-stepped.ensures.sound
        (λ idle. false≢true (sym busy ∙ idle)) c.collect-stepped.ensures.collects c.collect-stepped.ensures.fewer c.collect-stepped.ensures.most
        c.collect-stepped.ensures.over c.collect-stepped.ensures.left c.collect-stepped.ensures.shape c.see_place.ensures) at

use Rattle.std.proofs.Common.{◌≡◌, Bool, true, false, refl, sym, ◌∙◌}
use Rattle.std.proofs.lemmas.Bool.{false≢true}
use Rattle.hpb_device.specs.Standing.{group_of}
use Rattle.replay_standing.specs.Calls.{HasStepped}
use Rattle.replay_standing.proofs.Making.{idle_stepped}
use Rattle.replay_standing.proofs.Standing.{busy_stepped, idle_rests, stepping_of}
use Rattle.replay_standing.proofs.calls.step.Goals as goal

pub returns-clause-leads : goal.returns-clause-leads
returns-clause-leads g c start p at = by_idle c.step-stepped.result.idle refl
  where
    by_idle : (b : Bool) → c.step-stepped.result.idle ≡ b
        → HasStepped start c.step-stepped.new.self p (group_of c.step-stepped.result c.step-stepped.new.out)
    by_idle true idle = rw (c.step-stepped.ensures.unchanged idle)
        (idle_stepped start c.args.device.now p c.step-stepped.result c.step-stepped.new.out (c.step-stepped.ensures.nothing idle)
        (idle_rests c.args.device.now.store.phase c.args.device.now.tasks (c.step-stepped.ensures.idle.0 idle)) (c.step-stepped.ensures.looked idle) at)
    by_idle false busy = busy_stepped start c.args.device.now c.step-stepped.new.self p c.step-stepped.result c.step-stepped.new.out at
        (stepping_of c.args.device.now c.step-stepped.new.self c.step-stepped.result c.step-stepped.new.out
        c.step-stepped.ensures.stands c.step-stepped.ensures.foreign c.step-stepped.ensures.entries c.step-stepped.ensures.listings
        c.step-stepped.ensures.counted c.step-stepped.ensures.hints c.step-stepped.ensures.fetched
        (λ idle. false≢true (sym busy ∙ idle)) c.step-stepped.ensures.idle.1 c.step-stepped.ensures.steps c.step-stepped.ensures.fewer
        c.step-stepped.ensures.shape (λ sends. c.see_upiu.ensures) c.see_place.ensures)

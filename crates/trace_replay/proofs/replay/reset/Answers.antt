use Rattle.std.proofs.Common.{refl}
use Rattle.std.proofs.lemmas.Result.{err_from_is_err_and}
use Rattle.flat_unit.specs.Print.{print}
use Rattle.replay_standing.proofs.Receiving.{WasReset}
use Rattle.trace_replay.proofs.Receiving.{reset_leads}
use Rattle.run_output.proofs.Written.{keeps_grows}
use Rattle.trace_replay.proofs.replay.reset.Goals as goal

pub returns-in_err-make_room-clause-serves : goal.returns-in_err-make_room-clause-serves
returns-in_err-make_room-clause-serves g c start before p at printed =
    let failed = err_from_is_err_and c.from_residual.result c.from_residual.ensures.1 in
    rw failed.1 (record { moment = p; reached = refl; standing = at; printed = c.in_err-make_room.ensures.text before (print p.events) printed })

pub returns-clause-serves : goal.returns-clause-serves
returns-clause-serves g c start before p at printed =
    let was : WasReset c.args.device.now c.reset.new.self = record {
      reset = c.reset.ensures.reset;
      stands = c.reset.ensures.stands;
      foreign = c.reset.ensures.foreign;
      entries = c.reset.ensures.entries;
      listings = c.reset.ensures.listings;
      counted = c.reset.ensures.counted;
      hints = c.reset.ensures.hints;
      fetched = c.reset.ensures.fetched;
    } in
    reset_leads start c.args.device.now c.reset.new.self before _ _ c.push_event.new.self p was at (c.in_ok-make_room.ensures.text before (print p.events) printed) c.push_event.ensures

pub returns-in_err-make_room-clause-grows : goal.returns-in_err-make_room-clause-grows
returns-in_err-make_room-clause-grows g c = keeps_grows _ _ _ _ c.make_room.result c.make_room.ensures.text

pub returns-clause-grows : goal.returns-clause-grows
returns-clause-grows g c = keeps_grows _ _ _ _ c.make_room.result c.make_room.ensures.text

use Rattle.std.proofs.Common.{rules, ◌∙◌}
use Rattle.std.proofs.lemmas.Result.{err_from_is_err_and}
use Rattle.run_output.proofs.Written.{grows_more, keeps_grows}
use Rattle.drive_run.proofs.Exchanging.{exchanging_ends, exchanging_goes_on, exchanging_is_cut, held_so_far, left_more}
use Rattle.drive_run.proofs.exchange.exchange.Goals as goal

pub returns-in_err-make_room-clause-plays : goal.returns-in_err-make_room-clause-plays
returns-in_err-make_room-clause-plays g c start d at =
    let so_far = c.loop-desk.invariant.sends start d at in
    let failed = err_from_is_err_and c.from_residual.result c.from_residual.ensures.1 in
    rw failed.1 (exchanging_is_cut start _ c.send.result _ _ _ _ _ _ _ _ d c.send.new.out c.make_room.result so_far c.loop-desk-test.true (c.send.ensures.leads start so_far.moment so_far.stands)
    (c.send.ensures.said start so_far.moment so_far.stands) c.make_room.ensures.text (search rules))

pub returns-in_err-make_room-clause-steps : goal.returns-in_err-make_room-clause-steps
returns-in_err-make_room-clause-steps g c start d at held all =
    let so_far = c.loop-desk.invariant.sends start d at in
    let (still, out) = held_so_far start _ c.args.link.now c.loop-desk.link _ _ _ _ d at held all so_far in
    left_more c.args.link.now.device c.loop-desk.link.device c.send.new.self.device (c.loop-desk.invariant.steps start d at held all) (c.send.ensures.left start so_far.moment so_far.stands still out)

pub returns-in_err-make_room-clause-grows : goal.returns-in_err-make_room-clause-grows
returns-in_err-make_room-clause-grows g c = grows_more _ _ _ c.loop-desk.invariant.grows (keeps_grows _ _ _ _ c.make_room.result c.make_room.ensures.text)

pub loop-desk-preserved : goal.loop-desk-preserved
loop-desk-preserved g c = record {
  sends = λ start d at.
      let so_far = c.loop-desk.invariant.sends start d at in
      exchanging_goes_on start _ c.send.result _ _ _ _ _ _ _ _ _ d c.send.new.out c.make_room.result so_far c.loop-desk-test.true (c.send.ensures.leads start so_far.moment so_far.stands)
      (c.send.ensures.said start so_far.moment so_far.stands) c.make_room.ensures.text (search rules) c.push_sent.ensures.text;
  steps = λ start d at held all.
      let so_far = c.loop-desk.invariant.sends start d at in
      let (still, out) = held_so_far start _ c.args.link.now c.loop-desk.link _ _ _ _ d at held all so_far in
      left_more c.args.link.now.device c.loop-desk.link.device c.send.new.self.device (c.loop-desk.invariant.steps start d at held all)
      (c.send.ensures.left start so_far.moment so_far.stands still out);
  grows = grows_more _ _ _ c.loop-desk.invariant.grows (keeps_grows _ _ _ _ c.make_room.result c.make_room.ensures.text);
  none = c.in_ok-make_room.ensures.cause.given ∙ c.loop-desk.invariant.none;
}

pub returns-clause-plays : goal.returns-clause-plays
returns-clause-plays g c start d at =
    let so_far = c.loop-desk.invariant.sends start d at in
    exchanging_ends start _ c.send.result _ _ _ _ _ _ d _ c.send.new.out so_far c.loop-desk-test.false (c.send.ensures.leads start so_far.moment so_far.stands)
    (c.send.ensures.said start so_far.moment so_far.stands) c.send.ensures.sends

pub returns-clause-steps : goal.returns-clause-steps
returns-clause-steps g c start d at held all =
    let so_far = c.loop-desk.invariant.sends start d at in
    let (still, out) = held_so_far start _ c.args.link.now c.loop-desk.link _ _ _ _ d at held all so_far in
    left_more c.args.link.now.device c.loop-desk.link.device c.send.new.self.device (c.loop-desk.invariant.steps start d at held all) (c.send.ensures.left start so_far.moment so_far.stands still out)

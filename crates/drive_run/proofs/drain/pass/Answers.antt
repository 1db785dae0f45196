use Rattle.std.proofs.Common.{rules, ◌≡◌, arith, ◌∙◌, length}
use Rattle.std.proofs.lemmas.Result.{err_from_is_err_and}
use Rattle.run_output.proofs.Written.{grows_more}
use Rattle.drive_run.proofs.Drains.{exchange_is_cut, passing_begins, passing_ends, passing_fewer, passing_goes_on, passing_is_cut, some_open}
use Rattle.drive_run.proofs.drain.pass.Goals as goal

pub returns-in_err-exchange-clause-plays : goal.returns-in_err-exchange-clause-plays
returns-in_err-exchange-clause-plays g c start d at =
    let failed = err_from_is_err_and c.from_residual.result c.from_residual.ensures.1 in
    rw failed.1 (exchange_is_cut start _ _ _ _ _ _ _ d c.exchange.result at c.exchange.ensures.plays (search rules))

pub loop-link-init : goal.loop-link-init
loop-link-init g c = record {
  passes = λ start d at. passing_begins start _ _ c.exchange.new.link _ _ _ _ _ d c.exchange.result at c.exchange.ensures.plays (search rules) c.hold.ensures;
  stands = c.requires;
  grows = c.exchange.ensures.grows;
  none = c.in_ok-exchange.ensures.cause.given;
}

pub loop-link-smaller : goal.loop-link-smaller
loop-link-smaller g c =
    let (start, (d, at)) = c.loop-link.invariant.stands in
    let so_far = c.loop-link.invariant.passes start d at in
    let some = some_open c.loop-link.link.driver.opens c.tags_used.result c.tags_used.ensures (omega (arith, c.loop-link-test.true)) in
    passing_fewer start _ c.loop-link.link c.make_step.new.link _ _ _ _ d so_far c.in_ok-make_step.ensures.fewer some

pub loop-link-preserved : goal.loop-link-preserved
loop-link-preserved g c =
    let some = some_open c.loop-link.link.driver.opens c.tags_used.result c.tags_used.ensures (omega (arith, c.loop-link-test.true)) in
    record {
      passes = λ start d at.
          passing_goes_on start _ c.loop-link.link c.make_step.new.link _ _ _ _ _ _ d c.make_step.result (c.loop-link.invariant.passes start d at) c.make_step.ensures.plays
          (search rules) c.in_ok-make_step.ensures.fewer some;
      stands = c.loop-link.invariant.stands;
      grows = grows_more _ _ _ c.loop-link.invariant.grows c.make_step.ensures.grows;
      none = c.in_ok-make_step.ensures.cause.given ∙ c.loop-link.invariant.none;
    }

pub returns-in_err-make_step-clause-plays : goal.returns-in_err-make_step-clause-plays
returns-in_err-make_step-clause-plays g c start d at =
    let failed = err_from_is_err_and c.from_residual-in_err-make_step.result c.from_residual-in_err-make_step.ensures.1 in
    let some = some_open c.loop-link.link.driver.opens c.tags_used.result c.tags_used.ensures (omega (arith, c.loop-link-test.true)) in
    rw failed.1 (passing_is_cut start _ c.loop-link.link c.make_step.new.link _ _ _ _ _ _ d c.make_step.result (c.loop-link.invariant.passes start d at) some c.make_step.ensures.plays (search rules))

pub returns-in_err-make_step-clause-grows : goal.returns-in_err-make_step-clause-grows
returns-in_err-make_step-clause-grows g c = grows_more _ _ _ c.loop-link.invariant.grows c.make_step.ensures.grows

pub returns-clause-plays : goal.returns-clause-plays
returns-clause-plays g c start d at =
    let none : length c.loop-link.link.driver.opens ≡ 0 = omega (arith, c.loop-link-test.false, c.tags_used.ensures) in
    passing_ends start _ c.loop-link.link c.hold-2.new.self _ _ _ _ d (c.loop-link.invariant.passes start d at) none c.hold-2.ensures

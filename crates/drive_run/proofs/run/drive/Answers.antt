use Rattle.std.proofs.Common.{◌≡◌, ◌≤◌, ℕ, None, [], refl, sym, ap, subst, ◌∙◌, arith}
use Rattle.std.proofs.lemmas.Bool.{false≢true}
use Rattle.trace_text.specs.Lines.{ReaderState}
use Rattle.drive_rules.specs.Text.{said_text}
use Rattle.hpb_link.specs.Stands.{AtDrive}
use Rattle.hpb_link.specs.State.{LinkState}
use Rattle.replay_standing.specs.Standing.{AreCountsOf}
use Rattle.run_output.specs.Ends.{CountsFault, SinkEnds, SourceEnds}
use Rattle.hpb_outside.specs.Writes.{HasWrittenUpTo}
use Rattle.run_output.specs.declared.status.Status.TheVariants.{BadLine, Memory}
use Rattle.run_output.proofs.Ended.{sink_ended, source_ended}
use Rattle.hpb_outside.proofs.Written.{all_written, up_to_end}
use Rattle.run_output.proofs.Written.{keeps_same}
use Rattle.drive_run.proofs.Runs.{drove_begins, drove_few, drove_more, ends_bad, ends_in_source, ends_last, ends_starved, ends_unread, ends_unwritten, ends_whole, sink_whole, source_whole}
use Rattle.drive_run.proofs.run.drive.Goals as goal

pub loop-number-init : goal.loop-number-init
loop-number-init g c = record {
  drove = drove_begins c.args.link.now.device c.args.only c.args.link.now _ _ _ c.requires.begun c.requires.fresh;
  at_end = λ ended. absurd (false≢true (sym (ap (λ (r : ReaderState). r.ended) c.requires.unread) ∙ ended));
  source_same = refl;
  sink_same = refl;
}

pub take_turn-requires-clause-stands : goal.take_turn-requires-clause-stands
take_turn-requires-clause-stands g c =
    let drove = c.loop-number.invariant.drove in
    (c.args.link.now.device, (drove.moment, drove.shows.0))

pub take_turn-requires-clause-few : goal.take_turn-requires-clause-few
take_turn-requires-clause-few g c =
    let few = drove_few c.args.link.now.device c.args.only c.args.link.now.driver c.loop-number.link _ _ _ _ _ c.loop-number.number c.loop-number.invariant.drove in
    omega (arith, few, c.loop-number-test.true)

pub loop-number-preserved : goal.loop-number-preserved
loop-number-preserved g c =
    let drove = c.loop-number.invariant.drove in
    let turn = c.in-Served.ensures.turn c.args.link.now.device drove.moment drove.shows.0 in
    record {
      drove = drove_more c.args.link.now.device c.args.only c.args.link.now.driver c.loop-number.link c.take_turn.new.link _ _ _ _ _ _ _ _ c.loop-number.number _ drove turn.0 turn.1 turn.2 refl;
      at_end = c.take_turn.ensures.at_end;
      source_same = c.in-Served.ensures.source_faults ∙ c.loop-number.invariant.source_same;
      sink_same = c.in-Served.ensures.sink_faults ∙ c.loop-number.invariant.sink_same;
    }

-- there is no memory for a request
pub returns-in-Starved-clause-run : goal.returns-in-Starved-clause-run
returns-in-Starved-clause-run g c =
    let start = c.args.link.now.device in
    let drove = c.loop-number.invariant.drove in
    let turn = c.in-Starved.ensures.turn start drove.moment drove.shows.0 in
    let leads = turn.2 in
    ends_starved _ _ c.args.only (AtDrive start c.take_turn.new.link) (λ d. AreCountsOf start d.progress) _ _ _ _ _ 1000000 c.loop-number.number _ drove c.finish.result leads.moment _ turn.0
    c.loop-number-test.true turn.1 leads.reached leads.stands (c.take_turn.new.buffers.reader.held, keeps_same _)
    (c.finish.ensures.ends _ (said_text c.args.only leads.moment.said) (leads.prints _ drove.shows.1))

pub returns-in-Starved-clause-source_faults : goal.returns-in-Starved-clause-source_faults
returns-in-Starved-clause-source_faults g c =
    let drove = c.loop-number.invariant.drove in
    let leads = (c.in-Starved.ensures.turn c.args.link.now.device drove.moment drove.shows.0).2 in
    let same = c.in-Starved.ensures.source_faults ∙ c.loop-number.invariant.source_same in
    source_ended _ _ c.finish.result Memory same same (c.finish.ensures.ends _ (said_text c.args.only leads.moment.said) (leads.prints _ drove.shows.1))

pub returns-in-Starved-clause-sink_faults : goal.returns-in-Starved-clause-sink_faults
returns-in-Starved-clause-sink_faults g c =
    let drove = c.loop-number.invariant.drove in
    let leads = (c.in-Starved.ensures.turn c.args.link.now.device drove.moment drove.shows.0).2 in
    let same = c.in-Starved.ensures.sink_faults ∙ c.loop-number.invariant.sink_same in
    subst (λ (n : ℕ). SinkEnds n (g.K.Sink.faults c.finish.new.sink) c.finish.result) same
    (sink_ended _ _ c.finish.result Memory (λ none. none) (c.finish.ensures.ends _ (said_text c.args.only leads.moment.said) (leads.prints _ drove.shows.1)))

-- the drive is at its end
pub end_of_drive-requires : goal.end_of_drive-requires
end_of_drive-requires g c =
    let drove = c.loop-number.invariant.drove in
    let turn = c.in-Ended.ensures.turn c.args.link.now.device drove.moment drove.shows.0 in
    (c.args.link.now.device, (drove.moment, subst (λ (l : LinkState). AtDrive c.args.link.now.device l drove.moment) (sym turn.1) drove.shows.0))

pub returns-in-Ended-clause-run : goal.returns-in-Ended-clause-run
returns-in-Ended-clause-run g c =
    let start = c.args.link.now.device in
    let drove = c.loop-number.invariant.drove in
    let turn = c.in-Ended.ensures.turn start drove.moment drove.shows.0 in
    let at = subst (λ (l : LinkState). AtDrive start l drove.moment) (sym turn.1) drove.shows.0 in
    let few : c.loop-number.number ≤ 1000000 = omega (arith, c.loop-number-test.true) in
    ends_whole start _ c.args.only c.end_of_drive.new.link _ _ _ _ _ 1000000 c.loop-number.number _ drove c.end_of_drive.result few (ends_in_source _ _ _ turn.0)
    (c.end_of_drive.ensures.ends start _ drove.moment at (turn.2 _ drove.shows.1))

pub returns-in-Ended-clause-source_faults : goal.returns-in-Ended-clause-source_faults
returns-in-Ended-clause-source_faults g c =
    let start = c.args.link.now.device in
    let drove = c.loop-number.invariant.drove in
    let turn = c.in-Ended.ensures.turn start drove.moment drove.shows.0 in
    let at = subst (λ (l : LinkState). AtDrive start l drove.moment) (sym turn.1) drove.shows.0 in
    source_whole _ _ _ _ c.end_of_drive.result (c.in-Ended.ensures.source_faults ∙ c.loop-number.invariant.source_same)
    (c.end_of_drive.ensures.ends start _ drove.moment at (turn.2 _ drove.shows.1))

pub returns-in-Ended-clause-sink_faults : goal.returns-in-Ended-clause-sink_faults
returns-in-Ended-clause-sink_faults g c =
    let start = c.args.link.now.device in
    let drove = c.loop-number.invariant.drove in
    let turn = c.in-Ended.ensures.turn start drove.moment drove.shows.0 in
    let at = subst (λ (l : LinkState). AtDrive start l drove.moment) (sym turn.1) drove.shows.0 in
    let same = c.in-Ended.ensures.sink_faults ∙ c.loop-number.invariant.sink_same in
    subst (λ (n : ℕ). SinkEnds n (g.K.Sink.faults c.end_of_drive.new.sink) c.end_of_drive.result) same
    (sink_whole _ _ c.end_of_drive.result (c.end_of_drive.ensures.ends start _ drove.moment at (turn.2 _ drove.shows.1)))

-- the source failed
pub returns-in-Unread-clause-run : goal.returns-in-Unread-clause-run
returns-in-Unread-clause-run g c =
    let start = c.args.link.now.device in
    let drove = c.loop-number.invariant.drove in
    let turn = c.in-Unread.ensures.turn start drove.moment drove.shows.0 in
    let at = subst (λ (l : LinkState). AtDrive start l drove.moment) (sym turn.1) drove.shows.0 in
    let few : c.loop-number.number ≤ 1000000 = omega (arith, c.loop-number-test.true) in
    let held = c.in-Unread.ensures.unread refl in
    ends_unread _ _ c.args.only (AtDrive start c.take_turn.new.link) (λ d. AreCountsOf start d.progress) _ _ _ _ _ 1000000 c.loop-number.number _ drove at few
    (record { held = c.take_turn.new.buffers.reader.held; within = held.0; size = held.1; follows = turn.0 })
    (up_to_end _ _ (said_text c.args.only drove.moment.said) [] refl (turn.2 _ drove.shows.1))

pub returns-in-Unread-clause-source_faults : goal.returns-in-Unread-clause-source_faults
returns-in-Unread-clause-source_faults g c =
    subst (λ (n : ℕ). CountsFault n (g.S.Source.faults c.take_turn.new.source)) c.loop-number.invariant.source_same c.in-Unread.ensures.source_faults

-- the sink failed
pub returns-in-Unwritten-clause-run : goal.returns-in-Unwritten-clause-run
returns-in-Unwritten-clause-run g c =
    let start = c.args.link.now.device in
    let drove = c.loop-number.invariant.drove in
    let turn = c.in-Unwritten.ensures.turn start drove.moment drove.shows.0 in
    ends_unwritten _ _ c.args.only (AtDrive start c.take_turn.new.link) (λ d. AreCountsOf start d.progress) _ _ None _ _ 1000000 c.loop-number.number _ drove turn.moment c.loop-number-test.true
    turn.reached turn.stands (turn.prints _ drove.shows.1)

pub returns-in-Unwritten-clause-sink_faults : goal.returns-in-Unwritten-clause-sink_faults
returns-in-Unwritten-clause-sink_faults g c =
    subst (λ (n : ℕ). CountsFault n (g.K.Sink.faults c.take_turn.new.sink)) c.loop-number.invariant.sink_same c.in-Unwritten.ensures.sink_faults

-- a line that a drive can't have
pub returns-in-Bad-clause-run : goal.returns-in-Bad-clause-run
returns-in-Bad-clause-run g c =
    let start = c.args.link.now.device in
    let drove = c.loop-number.invariant.drove in
    let turn = c.in-Bad.ensures.turn start drove.moment drove.shows.0 in
    let at = subst (λ (l : LinkState). AtDrive start l drove.moment) (sym turn.1) drove.shows.0 in
    ends_bad _ _ c.args.only (AtDrive start c.take_turn.new.link) (λ d. AreCountsOf start d.progress) _ _ _ _ _ 1000000 c.loop-number.number _ drove c.refuse_line.result _ _ at refl
    c.loop-number-test.true turn.0 (c.take_turn.new.buffers.reader.held, keeps_same _)
    (c.refuse_line.ensures.ends _ (said_text c.args.only drove.moment.said) (turn.2 _ drove.shows.1))

pub returns-in-Bad-clause-source_faults : goal.returns-in-Bad-clause-source_faults
returns-in-Bad-clause-source_faults g c =
    let drove = c.loop-number.invariant.drove in
    let turn = c.in-Bad.ensures.turn c.args.link.now.device drove.moment drove.shows.0 in
    let same = c.in-Bad.ensures.source_faults ∙ c.loop-number.invariant.source_same in
    source_ended _ _ c.refuse_line.result (BadLine _) same same (c.refuse_line.ensures.ends _ (said_text c.args.only drove.moment.said) (turn.2 _ drove.shows.1))

pub returns-in-Bad-clause-sink_faults : goal.returns-in-Bad-clause-sink_faults
returns-in-Bad-clause-sink_faults g c =
    let drove = c.loop-number.invariant.drove in
    let turn = c.in-Bad.ensures.turn c.args.link.now.device drove.moment drove.shows.0 in
    let same = c.in-Bad.ensures.sink_faults ∙ c.loop-number.invariant.sink_same in
    subst (λ (n : ℕ). SinkEnds n (g.K.Sink.faults c.refuse_line.new.sink) c.refuse_line.result) same
    (sink_ended _ _ c.refuse_line.result (BadLine _) (λ none. none) (c.refuse_line.ensures.ends _ (said_text c.args.only drove.moment.said) (turn.2 _ drove.shows.1)))

-- all lines that may be taken were taken, and the drive ends there
pub end_of_drive-requires-in-Done : goal.end_of_drive-requires-in-Done
end_of_drive-requires-in-Done g c =
    let drove = c.loop-number.invariant.drove in
    (c.args.link.now.device, (drove.moment, drove.shows.0))

pub returns-in-Done-clause-run : goal.returns-in-Done-clause-run
returns-in-Done-clause-run g c =
    let start = c.args.link.now.device in
    let drove = c.loop-number.invariant.drove in
    let text = said_text c.args.only drove.moment.said in
    let last = rw c.in-Done.is at (c.end_long.ensures.ends _ text drove.shows.1) in
    let whole : HasWrittenUpTo (g.K.Sink.written c.args.sink.now) (g.K.Sink.written c.end_long.new.sink) text c.end_long.new.output = rw (c.end_long.ensures.written c.in-Done.is)
    (all_written _ _ text last.0) in
    ends_whole start _ c.args.only c.end_of_drive-in-Done.new.link _ _ _ _ _ 1000000 c.loop-number.number _ drove c.end_of_drive-in-Done.result c.loop-number.auto.number-end last.1
    (c.end_of_drive-in-Done.ensures.ends start _ drove.moment drove.shows.0 whole)

pub returns-in-Done-clause-source_faults : goal.returns-in-Done-clause-source_faults
returns-in-Done-clause-source_faults g c =
    let start = c.args.link.now.device in
    let drove = c.loop-number.invariant.drove in
    let text = said_text c.args.only drove.moment.said in
    let last = rw c.in-Done.is at (c.end_long.ensures.ends _ text drove.shows.1) in
    let whole : HasWrittenUpTo (g.K.Sink.written c.args.sink.now) (g.K.Sink.written c.end_long.new.sink) text c.end_long.new.output = rw (c.end_long.ensures.written c.in-Done.is)
    (all_written _ _ text last.0) in
    source_whole _ _ _ _ c.end_of_drive-in-Done.result ((rw c.in-Done.is at c.end_long.ensures.source_faults) ∙ c.loop-number.invariant.source_same)
    (c.end_of_drive-in-Done.ensures.ends start _ drove.moment drove.shows.0 whole)

pub returns-in-Done-clause-sink_faults : goal.returns-in-Done-clause-sink_faults
returns-in-Done-clause-sink_faults g c =
    let start = c.args.link.now.device in
    let drove = c.loop-number.invariant.drove in
    let text = said_text c.args.only drove.moment.said in
    let last = rw c.in-Done.is at (c.end_long.ensures.ends _ text drove.shows.1) in
    let whole : HasWrittenUpTo (g.K.Sink.written c.args.sink.now) (g.K.Sink.written c.end_long.new.sink) text c.end_long.new.output = rw (c.end_long.ensures.written c.in-Done.is)
    (all_written _ _ text last.0) in
    let same = (rw c.in-Done.is at c.end_long.ensures.sink_faults) ∙ c.loop-number.invariant.sink_same in
    subst (λ (n : ℕ). SinkEnds n (g.K.Sink.faults c.end_of_drive-in-Done.new.sink) c.end_of_drive-in-Done.result) same
    (sink_whole _ _ c.end_of_drive-in-Done.result (c.end_of_drive-in-Done.ensures.ends start _ drove.moment drove.shows.0 whole))

-- they were taken, and more follow, or the source or the sink failed
pub returns-in_default-clause-run : goal.returns-in_default-clause-run
returns-in_default-clause-run g c =
    let start = c.args.link.now.device in
    let drove = c.loop-number.invariant.drove in
    let all : c.loop-number.number ≡ 1000000 = omega (arith, c.loop-number-test.false, c.loop-number.auto.number-end) in
    ends_last _ _ c.args.only (AtDrive start c.loop-number.link) (λ d. AreCountsOf start d.progress) _ _ _ _ _ 1000000 c.loop-number.number _ drove c.end_long.result drove.shows.0 all
    c.in_default.not-Done
    (c.end_long.ensures.ends _ (said_text c.args.only drove.moment.said) drove.shows.1)

pub returns-in_default-clause-source_faults : goal.returns-in_default-clause-source_faults
returns-in_default-clause-source_faults g c =
    subst (λ (n : ℕ). SourceEnds n (g.S.Source.faults c.end_long.new.source) c.end_long.result) c.loop-number.invariant.source_same c.end_long.ensures.source_faults

pub returns-in_default-clause-sink_faults : goal.returns-in_default-clause-sink_faults
returns-in_default-clause-sink_faults g c =
    subst (λ (n : ℕ). SinkEnds n (g.K.Sink.faults c.end_long.new.sink) c.end_long.result) c.loop-number.invariant.sink_same c.end_long.ensures.sink_faults

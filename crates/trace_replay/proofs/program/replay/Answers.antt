use Rattle.std.proofs.Common.{◌≡◌, ◌<◌, ◌≤◌, ℕ, None, refl, sym, ap, subst, ◌∙◌, arith}
use Rattle.std.proofs.lemmas.Bool.{false≢true}
use Rattle.trace_text.specs.Lines.{ReaderState}
use Rattle.flat_unit.specs.Print.{print}
use Rattle.run_output.specs.Ends.{CountsFault, SinkEnds, SourceEnds}
use Rattle.run_output.specs.declared.status.Status.TheVariants.{Done, BadLine}
use Rattle.trace_replay.proofs.Runs.{ran_begins, ran_more, ends_done, ends_unread, ends_bad, ends_last, ends_unwritten}
use Rattle.run_output.proofs.Ended.{sink_ended, source_ended}
use Rattle.trace_replay.proofs.Transcripts.{counts_of, ends_in_source}
use Rattle.hpb_device.specs.State.{DeviceState}
use Rattle.replay_standing.specs.Standing.{AreCountsOf, Standing}
use Rattle.hpb_outside.specs.Writes.{HasWrittenUpTo}
use Rattle.hpb_outside.proofs.Written.{all_written}
use Rattle.run_output.proofs.Written.{keeps_same}
use Rattle.trace_replay.proofs.program.replay.Goals as goal

pub loop-number-init : goal.loop-number-init
loop-number-init g c = record {
  ran = ran_begins c.args.device.now _ _ _ c.requires.begun c.requires.uncounted c.requires.hints c.requires.fetched c.requires.counted c.requires.scanned c.requires.some_page c.requires.fresh;
  at_end = λ ended. absurd (false≢true (sym (ap (λ (r : ReaderState). r.ended) c.requires.unread) ∙ ended));
  source_same = refl;
  sink_same = refl;
}

pub loop-number-preserved : goal.loop-number-preserved
loop-number-preserved g c =
    let ran = c.loop-number.invariant.ran in
    let turn = c.in-Served.ensures.turn c.args.device.now _ ran.moment ran.shows.0 ran.shows.1 in
    record {
      ran = ran_more c.args.device.now c.loop-number.device c.take_turn.new.device _ _ _ _ _ _ _ _ c.loop-number.number _ ran turn.0 turn.1 turn.2 turn.3 turn.4 turn.5 (omega arith);
      at_end = c.take_turn.ensures.at_end;
      source_same = c.in-Served.ensures.source_faults ∙ c.loop-number.invariant.source_same;
      sink_same = c.in-Served.ensures.sink_faults ∙ c.loop-number.invariant.sink_same;
    }

pub returns-in-Ended-clause-run : goal.returns-in-Ended-clause-run
returns-in-Ended-clause-run g c =
    let ran = c.loop-number.invariant.ran in
    let turn = c.in-Ended.ensures.turn c.args.device.now _ ran.moment ran.shows.0 ran.shows.1 in
    let few : c.loop-number.number ≤ 1000000 = omega (arith, c.loop-number-test.true) in
    let at = subst (λ (d : DeviceState). Standing c.args.device.now d ran.moment) (sym turn.1) ran.shows.0 in
    ends_done _ _ _ _ _ _ _ _ _ c.loop-number.number _ ran at c.take_turn.new.device.counts c.end_of_trace.result (counts_of c.args.device.now c.take_turn.new.device ran.moment at) few
    (ends_in_source _ _ _ turn.0)
    (c.end_of_trace.ensures.ends _ (print ran.moment.events) turn.2)

pub returns-in-Ended-clause-source_faults : goal.returns-in-Ended-clause-source_faults
returns-in-Ended-clause-source_faults g c =
    let ran = c.loop-number.invariant.ran in
    let turn = c.in-Ended.ensures.turn c.args.device.now _ ran.moment ran.shows.0 ran.shows.1 in
    let same = c.in-Ended.ensures.source_faults ∙ c.loop-number.invariant.source_same in
    source_ended _ _ c.end_of_trace.result Done same same (c.end_of_trace.ensures.ends _ (print ran.moment.events) turn.2)

pub returns-in-Ended-clause-sink_faults : goal.returns-in-Ended-clause-sink_faults
returns-in-Ended-clause-sink_faults g c =
    let ran = c.loop-number.invariant.ran in
    let turn = c.in-Ended.ensures.turn c.args.device.now _ ran.moment ran.shows.0 ran.shows.1 in
    let same = c.in-Ended.ensures.sink_faults ∙ c.loop-number.invariant.sink_same in
    subst (λ (n : ℕ). SinkEnds n (g.K.Sink.faults c.end_of_trace.new.sink) c.end_of_trace.result) same
    (sink_ended _ _ c.end_of_trace.result Done (λ none. none) (c.end_of_trace.ensures.ends _ (print ran.moment.events) turn.2))

pub returns-in-Unread-clause-run : goal.returns-in-Unread-clause-run
returns-in-Unread-clause-run g c =
    let ran = c.loop-number.invariant.ran in
    let turn = c.in-Unread.ensures.turn c.args.device.now _ ran.moment ran.shows.0 ran.shows.1 in
    let few : c.loop-number.number ≤ 1000000 = omega (arith, c.loop-number-test.true) in
    let held = c.in-Unread.ensures.unread refl in
    let at = subst (λ (d : DeviceState). Standing c.args.device.now d ran.moment) (sym turn.1) ran.shows.0 in
    ends_unread _ _ (AreCountsOf c.args.device.now) _ _ _ _ _ _ c.loop-number.number _ ran at few
    (record { held = c.take_turn.new.buffers.reader.held; within = held.0; size = held.1; follows = turn.0 }) turn.2

pub returns-in-Unread-clause-source_faults : goal.returns-in-Unread-clause-source_faults
returns-in-Unread-clause-source_faults g c =
    subst (λ (n : ℕ). CountsFault n (g.S.Source.faults c.take_turn.new.source)) c.loop-number.invariant.source_same c.in-Unread.ensures.source_faults

pub returns-in-Unwritten-clause-run : goal.returns-in-Unwritten-clause-run
returns-in-Unwritten-clause-run g c =
    let ran = c.loop-number.invariant.ran in
    let turn = c.in-Unwritten.ensures.turn c.args.device.now _ ran.moment ran.shows.0 ran.shows.1 in
    ends_unwritten _ _ _ _ _ None _ _ 1000000 c.loop-number.number _ ran c.args.device.now c.take_turn.new.device (omega (arith, c.loop-number-test.true)) turn turn.standing

pub returns-in-Unwritten-clause-sink_faults : goal.returns-in-Unwritten-clause-sink_faults
returns-in-Unwritten-clause-sink_faults g c =
    subst (λ (n : ℕ). CountsFault n (g.K.Sink.faults c.take_turn.new.sink)) c.loop-number.invariant.sink_same c.in-Unwritten.ensures.sink_faults

pub returns-in-Bad-clause-run : goal.returns-in-Bad-clause-run
returns-in-Bad-clause-run g c =
    let ran = c.loop-number.invariant.ran in
    let turn = c.in-Bad.ensures.turn c.args.device.now _ ran.moment ran.shows.0 ran.shows.1 in
    let few : c.loop-number.number < 1000000 = omega (arith, c.loop-number-test.true) in
    let at = subst (λ (d : DeviceState). Standing c.args.device.now d ran.moment) (sym turn.1) ran.shows.0 in
    ends_bad _ _ _ _ _ _ _ _ _ c.loop-number.number _ ran at c.refuse_line.result _ _ (omega arith) few turn.0
    (c.take_turn.new.buffers.reader.held, keeps_same _) (c.refuse_line.ensures.ends _ (print ran.moment.events) turn.2)

pub returns-in-Bad-clause-source_faults : goal.returns-in-Bad-clause-source_faults
returns-in-Bad-clause-source_faults g c =
    let ran = c.loop-number.invariant.ran in
    let turn = c.in-Bad.ensures.turn c.args.device.now _ ran.moment ran.shows.0 ran.shows.1 in
    let same = c.in-Bad.ensures.source_faults ∙ c.loop-number.invariant.source_same in
    source_ended _ _ c.refuse_line.result (BadLine _) same same (c.refuse_line.ensures.ends _ (print ran.moment.events) turn.2)

pub returns-in-Bad-clause-sink_faults : goal.returns-in-Bad-clause-sink_faults
returns-in-Bad-clause-sink_faults g c =
    let ran = c.loop-number.invariant.ran in
    let turn = c.in-Bad.ensures.turn c.args.device.now _ ran.moment ran.shows.0 ran.shows.1 in
    let same = c.in-Bad.ensures.sink_faults ∙ c.loop-number.invariant.sink_same in
    subst (λ (n : ℕ). SinkEnds n (g.K.Sink.faults c.refuse_line.new.sink) c.refuse_line.result) same
    (sink_ended _ _ c.refuse_line.result (BadLine _) (λ none. none) (c.refuse_line.ensures.ends _ (print ran.moment.events) turn.2))

-- all lines that may be taken were taken, and the trace ends there
pub returns-in-Done-clause-run : goal.returns-in-Done-clause-run
returns-in-Done-clause-run g c =
    let ran = c.loop-number.invariant.ran in
    let all : c.loop-number.number ≡ 1000000 = omega (arith, c.loop-number-test.false, c.loop-number.auto.number-end) in
    let last = rw c.in-Done.is at (c.end_long.ensures.ends _ (print ran.moment.events) ran.shows.1) in
    let whole : HasWrittenUpTo (g.K.Sink.written c.args.sink.now) (g.K.Sink.written c.end_long.new.sink) (print ran.moment.events) c.end_long.new.output =
    rw (c.end_long.ensures.written c.in-Done.is) (all_written _ _ (print ran.moment.events) last.0) in
    ends_done _ _ _ _ _ _ _ _ _ c.loop-number.number _ ran ran.shows.0 c.loop-number.device.counts c.end_of_trace-in-Done.result
    (counts_of c.args.device.now c.loop-number.device ran.moment ran.shows.0) (omega (arith, all)) last.1
    (c.end_of_trace-in-Done.ensures.ends _ (print ran.moment.events) whole)

pub returns-in-Done-clause-source_faults : goal.returns-in-Done-clause-source_faults
returns-in-Done-clause-source_faults g c =
    let ran = c.loop-number.invariant.ran in
    let last = rw c.in-Done.is at (c.end_long.ensures.ends _ (print ran.moment.events) ran.shows.1) in
    let whole : HasWrittenUpTo (g.K.Sink.written c.args.sink.now) (g.K.Sink.written c.end_long.new.sink) (print ran.moment.events) c.end_long.new.output =
    rw (c.end_long.ensures.written c.in-Done.is) (all_written _ _ (print ran.moment.events) last.0) in
    let same = (rw c.in-Done.is at c.end_long.ensures.source_faults) ∙ c.loop-number.invariant.source_same in
    source_ended _ _ c.end_of_trace-in-Done.result Done same same (c.end_of_trace-in-Done.ensures.ends _ (print ran.moment.events) whole)

pub returns-in-Done-clause-sink_faults : goal.returns-in-Done-clause-sink_faults
returns-in-Done-clause-sink_faults g c =
    let ran = c.loop-number.invariant.ran in
    let last = rw c.in-Done.is at (c.end_long.ensures.ends _ (print ran.moment.events) ran.shows.1) in
    let whole : HasWrittenUpTo (g.K.Sink.written c.args.sink.now) (g.K.Sink.written c.end_long.new.sink) (print ran.moment.events) c.end_long.new.output =
    rw (c.end_long.ensures.written c.in-Done.is) (all_written _ _ (print ran.moment.events) last.0) in
    let same = (rw c.in-Done.is at c.end_long.ensures.sink_faults) ∙ c.loop-number.invariant.sink_same in
    subst (λ (n : ℕ). SinkEnds n (g.K.Sink.faults c.end_of_trace-in-Done.new.sink) c.end_of_trace-in-Done.result) same
    (sink_ended _ _ c.end_of_trace-in-Done.result Done (λ none. none) (c.end_of_trace-in-Done.ensures.ends _ (print ran.moment.events) whole))

pub returns-in_default-clause-run : goal.returns-in_default-clause-run
returns-in_default-clause-run g c =
    let ran = c.loop-number.invariant.ran in
    let all : c.loop-number.number ≡ 1000000 = omega (arith, c.loop-number-test.false, c.loop-number.auto.number-end) in
    ends_last _ _ _ _ _ _ _ _ _ c.loop-number.number _ ran ran.shows.0 c.end_long.result all c.in_default.not-Done
    (c.end_long.ensures.ends _ (print ran.moment.events) ran.shows.1)

pub returns-in_default-clause-source_faults : goal.returns-in_default-clause-source_faults
returns-in_default-clause-source_faults g c =
    subst (λ (n : ℕ). SourceEnds n (g.S.Source.faults c.end_long.new.source) c.end_long.result) c.loop-number.invariant.source_same c.end_long.ensures.source_faults

pub returns-in_default-clause-sink_faults : goal.returns-in_default-clause-sink_faults
returns-in_default-clause-sink_faults g c =
    subst (λ (n : ℕ). SinkEnds n (g.K.Sink.faults c.end_long.new.sink) c.end_long.result) c.loop-number.invariant.sink_same c.end_long.ensures.sink_faults

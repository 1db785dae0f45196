use Rattle.std.proofs.Common.{◌≡◌, ◌<◌, ◌≤◌, ◌++◌, ℕ, [], refl, sym, ap, subst, ◌∙◌, inl, arith}
use Rattle.std.proofs.lemmas.Bool.{false≢true}
use Rattle.trace_text.specs.Lines.{ReaderState}
use Rattle.run_output.specs.Ends.{CountsFault, SinkEnds, SourceEnds}
use Rattle.run_output.specs.declared.status.Status.TheVariants.{Done, BadLine}
use Rattle.run_output.proofs.Written.{front_wordless, keeps_same}
use Rattle.run_output.proofs.Ended.{sink_ended, source_ended}
use Rattle.trace_replay.proofs.Shown.{shows_begin, shows_more, show_done, show_bad, show_last}
use Rattle.trace_replay.proofs.Transcripts.{ends_in_source}
use Rattle.trace_replay.proofs.show.show.Goals as goal

pub loop-number-init : goal.loop-number-init
loop-number-init g c = record {
  ran = shows_begin _ _ _ c.requires.fresh;
  at_end = λ ended. absurd (false≢true (sym (ap (λ (r : ReaderState). r.ended) c.requires.begun) ∙ ended));
  source_same = refl;
  sink_same = refl;
}

pub loop-number-preserved : goal.loop-number-preserved
loop-number-preserved g c =
    let ran = c.loop-number.invariant.ran in
    let turn = c.in-Served.ensures.turn _ ran.0 ran.2 in
    record {
      ran = (ran.0 ++ turn.1, shows_more _ _ _ c.loop-number.number _ ran.0 turn.0 turn.1 ran.1 turn.2 turn.3 turn.4 (omega arith), turn.5);
      at_end = c.show_line.ensures.at_end;
      source_same = c.in-Served.ensures.source_faults ∙ c.loop-number.invariant.source_same;
      sink_same = c.in-Served.ensures.sink_faults ∙ c.loop-number.invariant.sink_same;
    }

pub returns-in-Ended-clause-show : goal.returns-in-Ended-clause-show
returns-in-Ended-clause-show g c =
    let ran = c.loop-number.invariant.ran in
    let turn = c.in-Ended.ensures.turn _ ran.0 ran.2 in
    let few : c.loop-number.number ≤ 1000000 = omega (arith, c.loop-number-test.true) in
    show_done _ _ _ _ _ _ c.loop-number.number ran.0 ran.1 c.finish.result few (ends_in_source _ _ _ turn.0) (c.finish.ensures.ends _ ran.0 turn.1)

pub returns-in-Ended-clause-source_faults : goal.returns-in-Ended-clause-source_faults
returns-in-Ended-clause-source_faults g c =
    let ran = c.loop-number.invariant.ran in
    let turn = c.in-Ended.ensures.turn _ ran.0 ran.2 in
    let same = c.in-Ended.ensures.source_faults ∙ c.loop-number.invariant.source_same in
    source_ended _ _ c.finish.result Done same same (c.finish.ensures.ends _ ran.0 turn.1)

pub returns-in-Ended-clause-sink_faults : goal.returns-in-Ended-clause-sink_faults
returns-in-Ended-clause-sink_faults g c =
    let ran = c.loop-number.invariant.ran in
    let turn = c.in-Ended.ensures.turn _ ran.0 ran.2 in
    let same = c.in-Ended.ensures.sink_faults ∙ c.loop-number.invariant.sink_same in
    subst (λ (n : ℕ). SinkEnds n (g.K.Sink.faults c.finish.new.sink) c.finish.result) same (sink_ended _ _ c.finish.result Done (λ none. none) (c.finish.ensures.ends _ ran.0 turn.1))

pub returns-in-Unread-clause-show : goal.returns-in-Unread-clause-show
returns-in-Unread-clause-show g c =
    let ran = c.loop-number.invariant.ran in
    let turn = c.in-Unread.ensures.turn _ ran.0 ran.2 in
    let few : c.loop-number.number ≤ 1000000 = omega (arith, c.loop-number-test.true) in
    let held = c.in-Unread.ensures.unread refl in
    (_, c.loop-number.number, ran.0, ran.1, turn.1, few, record { held = c.show_line.new.buffers.reader.held; within = held.0; size = held.1; follows = turn.0 })

pub returns-in-Unread-clause-source_faults : goal.returns-in-Unread-clause-source_faults
returns-in-Unread-clause-source_faults g c =
    subst (λ (n : ℕ). CountsFault n (g.S.Source.faults c.show_line.new.source)) c.loop-number.invariant.source_same c.in-Unread.ensures.source_faults

pub returns-in-Unwritten-clause-show : goal.returns-in-Unwritten-clause-show
returns-in-Unwritten-clause-show g c =
    let ran = c.loop-number.invariant.ran in
    let turn = c.in-Unwritten.ensures.turn _ ran.0 ran.2 in
    let few : c.loop-number.number ≤ 1000000 = omega (arith, c.loop-number-test.true) in
    (_, c.loop-number.number, ran.0, [], ran.1, inl (few, refl), front_wordless _ _ ran.0 turn)

pub returns-in-Unwritten-clause-sink_faults : goal.returns-in-Unwritten-clause-sink_faults
returns-in-Unwritten-clause-sink_faults g c =
    subst (λ (n : ℕ). CountsFault n (g.K.Sink.faults c.show_line.new.sink)) c.loop-number.invariant.sink_same c.in-Unwritten.ensures.sink_faults

pub returns-in-Bad-clause-show : goal.returns-in-Bad-clause-show
returns-in-Bad-clause-show g c =
    let ran = c.loop-number.invariant.ran in
    let turn = c.in-Bad.ensures.turn _ ran.0 ran.2 in
    let few : c.loop-number.number < 1000000 = omega (arith, c.loop-number-test.true) in
    show_bad _ _ _ _ _ _ c.loop-number.number ran.0 ran.1 c.refuse_line.result _ _ (omega arith) few turn.0 (c.show_line.new.buffers.reader.held, keeps_same _)
    (c.refuse_line.ensures.ends _ ran.0 turn.1)

pub returns-in-Bad-clause-source_faults : goal.returns-in-Bad-clause-source_faults
returns-in-Bad-clause-source_faults g c =
    let ran = c.loop-number.invariant.ran in
    let turn = c.in-Bad.ensures.turn _ ran.0 ran.2 in
    let same = c.in-Bad.ensures.source_faults ∙ c.loop-number.invariant.source_same in
    source_ended _ _ c.refuse_line.result (BadLine _) same same (c.refuse_line.ensures.ends _ ran.0 turn.1)

pub returns-in-Bad-clause-sink_faults : goal.returns-in-Bad-clause-sink_faults
returns-in-Bad-clause-sink_faults g c =
    let ran = c.loop-number.invariant.ran in
    let turn = c.in-Bad.ensures.turn _ ran.0 ran.2 in
    let same = c.in-Bad.ensures.sink_faults ∙ c.loop-number.invariant.sink_same in
    subst (λ (n : ℕ). SinkEnds n (g.K.Sink.faults c.refuse_line.new.sink) c.refuse_line.result) same
    (sink_ended _ _ c.refuse_line.result (BadLine _) (λ none. none) (c.refuse_line.ensures.ends _ ran.0 turn.1))

pub returns-clause-show : goal.returns-clause-show
returns-clause-show g c =
    let ran = c.loop-number.invariant.ran in
    let all : c.loop-number.number ≡ 1000000 = omega (arith, c.loop-number-test.false, c.loop-number.auto.number-end) in
    show_last _ _ _ _ _ _ c.loop-number.number ran.0 ran.1 c.end_long.result all (c.end_long.ensures.ends _ ran.0 ran.2)

pub returns-clause-source_faults : goal.returns-clause-source_faults
returns-clause-source_faults g c =
    subst (λ (n : ℕ). SourceEnds n (g.S.Source.faults c.end_long.new.source) c.end_long.result) c.loop-number.invariant.source_same c.end_long.ensures.source_faults

pub returns-clause-sink_faults : goal.returns-clause-sink_faults
returns-clause-sink_faults g c =
    subst (λ (n : ℕ). SinkEnds n (g.K.Sink.faults c.end_long.new.sink) c.end_long.result) c.loop-number.invariant.sink_same c.end_long.ensures.sink_faults

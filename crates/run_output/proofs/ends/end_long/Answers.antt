use Rattle.std.proofs.Common.{◌≡◌, ◌++◌, ℕ, [], refl, sym, ap, subst, rules, inl, arith, ◌∙◌, ◌⊎◌, inr}
use Rattle.trace_text.specs.Lines.{IsWithinLine, ReaderState}
use Rattle.trace_text.proofs.LinesOf.{within-nil}
use Rattle.run_output.specs.Ends.{SinkEnds}
use Rattle.run_output.specs.Texts.{long_text}
use Rattle.run_output.specs.declared.status.Status.{Status}
use Rattle.run_output.specs.declared.status.Status.TheVariants.{Done, LongTrace, WriteFault}
use Rattle.run_output.proofs.Ended.{ends_wordless, last_long, more_of, sink_ended, source_ended}
use Rattle.hpb_outside.proofs.Written.{nothing_yet, up_to_end}
use Rattle.run_output.proofs.Written.{front_wordless, cut_of, whole_of, flushed, gathers_more}
use Rattle.hpb_outside.specs.Writes.{HasWrittenUpTo}
use Rattle.run_output.proofs.ends.end_long.Goals as goal

pub returns-then-is_err-clause-ends : goal.returns-then-is_err-clause-ends
returns-then-is_err-clause-ends g c before text so_far =
    let cut = cut_of c.flush.result _ _ (search rules) (flushed _ _ _ c.flush.result c.flush.ensures.writes before text so_far) in
    ([], inl refl, front_wordless before _ text cut)

pub returns-in-Ok-true-clause-ends : goal.returns-in-Ok-true-clause-ends
returns-in-Ok-true-clause-ends g c before text so_far =
    let whole = whole_of c.flush.result _ _ (search rules) (flushed _ _ _ c.flush.result c.flush.ensures.writes before text so_far) in
    let gathered : HasWrittenUpTo before (g.K.Sink.written c.flush.new.sink) (text ++ long_text) c.push_text.new.self =
    rw (c.push_text.ensures, c.flush.ensures.empty) (gathers_more before _ text [] long_text whole) in
    let more = rw c.in-Ok-true.field-0-test at c.in-Ok-true.ensures.more in
    last_long before _ text _ _ c.finish.result (more_of _ c.has_more.new.self.held _ c.has_more.ensures.text more) (c.has_more.new.self.held, c.has_more.ensures.text)
    (ends_wordless before _ (text ++ long_text) c.finish.result _ (c.finish.ensures.ends before (text ++ long_text) gathered))

-- a trace that is too long doesn't end Done
long_not_done : LongTrace ≡ Done → ⊥
long_not_done same = cc

fault_not_done : WriteFault ≡ Done → ⊥
fault_not_done same = cc

ended_otherwise : {A B C D : Type 0} (result : Status) → ((result ≡ LongTrace) × A × B) ⊎ ((result ≡ WriteFault) × C × D) → result ≡ Done → ⊥
ended_otherwise result (inl (is, _, _)) done = long_not_done (sym is ∙ done)
ended_otherwise result (inr (is, _, _)) done = fault_not_done (sym is ∙ done)

pub returns-in-Ok-true-clause-written : goal.returns-in-Ok-true-clause-written
returns-in-Ok-true-clause-written g c done = absurd (ended_otherwise c.finish.result (c.finish.ensures.ends _ _ (nothing_yet _ c.push_text.new.self)) done)

pub returns-in-Ok-true-clause-source_faults : goal.returns-in-Ok-true-clause-source_faults
returns-in-Ok-true-clause-source_faults g c =
    let same = c.in-Ok-true.ensures.cause.given in
    source_ended _ _ c.finish.result LongTrace same same (c.finish.ensures.ends _ _ (nothing_yet _ c.push_text.new.self))

pub returns-in-Ok-true-clause-sink_faults : goal.returns-in-Ok-true-clause-sink_faults
returns-in-Ok-true-clause-sink_faults g c =
    let none : g.K.Sink.faults c.flush.new.sink ≡ g.K.Sink.faults c.args.sink.now = search rules in
    subst (λ (n : ℕ). SinkEnds n (g.K.Sink.faults c.finish.new.sink) c.finish.result) none
    (sink_ended _ _ c.finish.result LongTrace (λ same. same) (c.finish.ensures.ends _ _ (nothing_yet _ c.push_text.new.self)))

pub returns-in-Err-clause-ends : goal.returns-in-Err-clause-ends
returns-in-Err-clause-ends g c before text so_far =
    let all = up_to_end before _ text _ refl (whole_of c.flush.result _ _ (search rules) (flushed _ _ _ c.flush.result c.flush.ensures.writes before text so_far)) in
    let none : c.has_more.new.self.held ≡ [] = ap (λ (r : ReaderState). r.held) c.in-Err.ensures.same ∙ c.in-Err.ensures.asked in
    (all, record { held = c.has_more.new.self.held; within = subst IsWithinLine (sym none) within-nil; size = rw none (omega arith); follows = c.has_more.ensures.text })

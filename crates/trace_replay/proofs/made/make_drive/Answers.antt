use Rattle.std.proofs.Common.{◌≡◌, ◌≤◌, ◌∙◌, ◌++◌, [], Some, ap, inr, subst, sym}
use Rattle.std.proofs.lemmas.Bool.{false≢true}
use Rattle.region_state.specs.declared.shape.Shape.{Shape}
use Rattle.made_drive.specs.Counts.{reads_in, writes_in}
use Rattle.made_drive.specs.Generator.{made_lines}
use Rattle.made_drive.specs.Scan.{scanned}
use Rattle.made_drive.specs.Text.{lines_text}
use Rattle.run_output.specs.declared.status.Status.TheVariants.{Done}
use Rattle.run_output.specs.Texts.{counts_text}
use Rattle.trace_text.specs.Lines.{ReaderState}
use Rattle.trace_replay.specs.Making.{summary_line}
use Rattle.trace_replay.proofs.MadeDrives.{made_is, made_of_chip, made_whole, made_summary, no_read, no_write, quiet_sink, starved, starved_status, summary_reads, summary_sink}
use Rattle.trace_replay.proofs.made.make_drive.Goals as goal

pub returns-then-is_done-clause-run : goal.returns-then-is_done-clause-run
returns-then-is_done-clause-run g c unit geometry pages faults unit_is fresh =
    let done = c.is_done.ensures.0 c.if-is_done.true in
    let now = c.drive-ended.new.link in
    let bytes = c.drive-ended.new.sink in
    let back = c.into_flash-then-is_done.result in
    let some : 1 ≤ unit.units = subst (λ (u : Shape). 1 ≤ u.units) unit_is c.requires.units in
    let told = ap Some (c.new-source.ensures ∙ ap (λ (u : Shape). lines_text (made_lines u.units c.args.generated.seed 2000)) unit_is) in
    let run = rw c.new-tally.ensures at c.drive-ended.ensures.run in
    let ends = made_of_chip unit geometry c.args.link now c.args.generated.plain c.args.generated.seed pages (g.F.Flash.pages back) faults (g.F.Flash.faults back) _ bytes
    c.in-Ok.buffers.reader.held _ c.drive-ended.result some fresh c.requires.link (ap (λ (r : ReaderState). r.held) c.in-Ok.ensures.reader) told c.into_flash-then-is_done.ensures.pages
    c.into_flash-then-is_done.ensures.faults run (no_read _ c.drive-ended.ensures.source_faults) (no_write _ c.drive-ended.ensures.sink_faults) in
    let made = made_whole _ done ends in
    let lines = ap (λ (u : Shape). summary_line (reads_in (made_lines u.units c.args.generated.seed 2000)) (writes_in (made_lines u.units c.args.generated.seed 2000)) (scanned bytes).good (scanned bytes).cut
    ++ counts_text now.device.counts) unit_is in
    inr (made_is unit geometry c.args.link now c.args.generated.plain c.args.generated.seed pages (g.F.Flash.pages back) faults (g.F.Flash.faults back) (Some []) bytes
    (g.K.Sink.written c.args.sink.now) (g.K.Sink.written c.summarize-status.new.sink) _ (g.K.Sink.faults c.args.sink.now) (g.K.Sink.faults c.summarize-status.new.sink) c.summarize-status.result made
    (lines ∙ made_summary unit geometry c.args.link now c.args.generated.plain c.args.generated.seed pages (g.F.Flash.pages back) faults (g.F.Flash.faults back) (Some []) bytes made.last made.counts made.written)
    c.summarize-status.ensures.ends)

pub returns-then-is_done-clause-reads : goal.returns-then-is_done-clause-reads
returns-then-is_done-clause-reads g c =
    summary_reads (g.K.Sink.written c.args.sink.now) (g.K.Sink.written c.summarize-status.new.sink) _ (g.K.Sink.faults c.args.sink.now) (g.K.Sink.faults c.summarize-status.new.sink) c.summarize-status.result
    c.summarize-status.ensures.ends

pub returns-then-is_done-clause-sink_faults : goal.returns-then-is_done-clause-sink_faults
returns-then-is_done-clause-sink_faults g c =
    summary_sink (g.K.Sink.written c.args.sink.now) (g.K.Sink.written c.summarize-status.new.sink) _ (g.K.Sink.faults c.args.sink.now) (g.K.Sink.faults c.summarize-status.new.sink) c.summarize-status.result
    c.summarize-status.ensures.ends

pub returns-clause-run : goal.returns-clause-run
returns-clause-run g c unit geometry pages faults unit_is fresh =
    let other = λ (is : c.drive-ended.result ≡ Done). false≢true (sym c.if-is_done.false ∙ c.is_done.ensures.1 is) in
    let now = c.drive-ended.new.link in
    let bytes = c.drive-ended.new.sink in
    let back = c.into_flash-2.result in
    let some : 1 ≤ unit.units = subst (λ (u : Shape). 1 ≤ u.units) unit_is c.requires.units in
    let told = ap Some (c.new-source.ensures ∙ ap (λ (u : Shape). lines_text (made_lines u.units c.args.generated.seed 2000)) unit_is) in
    let run = rw c.new-tally.ensures at c.drive-ended.ensures.run in
    let ends = made_of_chip unit geometry c.args.link now c.args.generated.plain c.args.generated.seed pages (g.F.Flash.pages back) faults (g.F.Flash.faults back) _ bytes
    c.in-Ok.buffers.reader.held _ c.drive-ended.result some fresh c.requires.link (ap (λ (r : ReaderState). r.held) c.in-Ok.ensures.reader) told c.into_flash-2.ensures.pages
    c.into_flash-2.ensures.faults run (no_read _ c.drive-ended.ensures.source_faults) (no_write _ c.drive-ended.ensures.sink_faults) in
    let (is, (last, known)) = starved_status _ other ends in
    inr (starved unit geometry c.args.generated.plain c.args.generated.seed pages (g.F.Flash.pages back) faults (g.F.Flash.faults back) (g.K.Sink.written c.args.sink.now) c.drive-ended.result is last known.0)

pub returns-clause-reads : goal.returns-clause-reads
returns-clause-reads g c = no_read _ c.drive-ended.ensures.source_faults

pub returns-clause-sink_faults : goal.returns-clause-sink_faults
returns-clause-sink_faults g c = quiet_sink (g.K.Sink.faults c.args.sink.now) c.drive-ended.result (no_write _ c.drive-ended.ensures.sink_faults)

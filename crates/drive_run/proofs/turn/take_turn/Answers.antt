use Rattle.std.proofs.Common.{◌≡◌, ℕ, Some, None, refl, subst, ◌∙◌, rules, inl, inr}
use Rattle.std.specs.Io.KnownBytes.{prepend_known}
use Rattle.hpb_device.specs.Standing.{sizes_of}
use Rattle.trace_text.specs.Drives.{drive_line}
use Rattle.drive_rules.specs.Lines.{DriveLineTo}
use Rattle.run_output.specs.Ends.{CountsFault}
use Rattle.run_output.proofs.Ended.{long_text_of}
use Rattle.run_output.proofs.Written.{asked_after, empty_unless, grows_none}
use Rattle.drive_run.specs.Play.{WantsMemory}
use Rattle.drive_run.specs.Run.{TakesNext}
use Rattle.drive_run.proofs.Playing.{front_kept, prints_kept}
use Rattle.drive_run.proofs.Runs.{counted_none, leads_since, prints_emptied, turn_cut}
use Rattle.drive_run.proofs.turn.take_turn.Goals as goal

pub returns-then-is_err-clause-turn : goal.returns-then-is_err-clause-turn
returns-then-is_err-clause-turn g c start d at =
    record { moment = d; reached = inl refl; stands = at; prints = front_kept _ _ _ _ _ d.said c.write_before_read.result c.write_before_read.ensures.text (search rules) }

pub returns-in-Ok-None-clause-turn : goal.returns-in-Ok-None-clause-turn
returns-in-Ok-None-clause-turn g c start d at =
    let reads = rw (c.in-Ok-None.is, c.in-Ok-None.field-0-is) at c.next_line.follows.holds-at-none in
    (reads.0.0, refl, prints_kept _ _ _ _ _ d.said c.write_before_read.result c.write_before_read.ensures.text (search rules))

pub returns-in-Err-TooLong-clause-turn : goal.returns-in-Err-TooLong-clause-turn
returns-in-Err-TooLong-clause-turn g c start d at =
    let reads = rw (c.in-Err-TooLong.is, c.in-Err-TooLong.field-0-is) at c.next_line.follows.holds-at-none in
    (inl (long_text_of _ _ _ reads.0.0 reads.0.1, reads.0.0), refl, prints_kept _ _ _ _ _ d.said c.write_before_read.result c.write_before_read.ensures.text (search rules))

pub returns-in-Err-ReadFault-clause-turn : goal.returns-in-Err-ReadFault-clause-turn
returns-in-Err-ReadFault-clause-turn g c start d at =
    let reads = rw (c.in-Err-ReadFault.is, c.in-Err-ReadFault.field-0-is) at c.next_line.follows.holds-at-none in
    let none = empty_unless _ _ c.write_before_read.result (search rules) c.write_before_read.ensures.all ((rw c.in-Err-ReadFault.field-0-is at c.in-Err-ReadFault.ensures.asked) refl) in
    (reads.0.0, refl, prints_emptied _ _ _ _ _ d.said none (prints_kept _ _ _ _ _ d.said c.write_before_read.result c.write_before_read.ensures.text (search rules)))

pub returns-in_default-clause-turn : goal.returns-in_default-clause-turn
returns-in_default-clause-turn g c start d at =
    let reads = rw (c.in-Ok-Some.is, c.in-Ok-Some.field-0-is) at c.next_line.follows.holds-at-none in
    let none : drive_line c.in-Ok-Some.line.now ≡ None = search rules in
    (inr (c.in-Ok-Some.line.now, reads.0, none), refl, prints_kept _ _ _ _ _ d.said c.write_before_read.result c.write_before_read.ensures.text (search rules))

pub returns-in-Ok-Whole-clause-turn : goal.returns-in-Ok-Whole-clause-turn
returns-in-Ok-Whole-clause-turn g c start d at =
    let reads = rw (c.in-Ok-Some.is, c.in-Ok-Some.field-0-is) at c.next_line.follows.holds-at-none in
    let whole = rw c.in-Ok-Some.field-0-is at c.in-Ok-Some.ensures.line in
    let parses : drive_line c.in-Ok-Some.line.now ≡ Some c.in-Some.line = search rules in (
      c.in-Some.line,
      record { text = c.in-Ok-Some.line.now; whole = whole; takes = reads.0; parses = parses },
      leads_since (DriveLineTo (sizes_of start) c.in-Some.line d) start _ c.serve.new.link _ _ _ _ _ _ d.said
          (prints_kept _ _ _ _ _ d.said c.write_before_read.result c.write_before_read.ensures.text (search rules)) (rw c.in-Ok-Whole.field-0-is at (c.in-Ok-Whole.ensures.serves start d at)),
    )

pub returns-in-Ok-NoMemory-clause-turn : goal.returns-in-Ok-NoMemory-clause-turn
returns-in-Ok-NoMemory-clause-turn g c start d at =
    let reads = rw (c.in-Ok-Some.is, c.in-Ok-Some.field-0-is) at c.next_line.follows.holds-at-none in
    let whole = rw c.in-Ok-Some.field-0-is at c.in-Ok-Some.ensures.line in
    let parses : drive_line c.in-Ok-Some.line.now ≡ Some c.in-Some.line = search rules in (
      c.in-Some.line,
      record { text = c.in-Ok-Some.line.now; whole = whole; takes = reads.0; parses = parses },
      leads_since (WantsMemory (sizes_of start) c.in-Some.line d) start _ c.serve.new.link _ _ _ _ _ _ d.said
          (prints_kept _ _ _ _ _ d.said c.write_before_read.result c.write_before_read.ensures.text (search rules)) (rw c.in-Ok-NoMemory.field-0-is at (c.in-Ok-NoMemory.ensures.serves start d at)),
    )

pub returns-in-Err-clause-turn : goal.returns-in-Err-clause-turn
returns-in-Err-clause-turn g c start d at =
    let reads = rw (c.in-Ok-Some.is, c.in-Ok-Some.field-0-is) at c.next_line.follows.holds-at-none in
    let whole = rw c.in-Ok-Some.field-0-is at c.in-Ok-Some.ensures.line in
    let parses : drive_line c.in-Ok-Some.line.now ≡ Some c.in-Some.line = search rules in
    let takes : TakesNext (prepend_known c.args.buffers.now.reader.held (g.S.Source.left c.args.source.now)) (prepend_known c.next_line.follows.lender-at-none.held
    (g.S.Source.left c.next_line.new.source)) c.in-Some.line =
    record { text = c.in-Ok-Some.line.now; whole = whole; takes = reads.0; parses = parses } in
    turn_cut start _ d c.serve.new.link _ _ _ _ _ _ _ c.in-Some.line takes (prints_kept _ _ _ _ _ d.said c.write_before_read.result c.write_before_read.ensures.text (search rules))
    (c.in-Err.ensures.serves start d at)

pub returns-in-Ok-None-clause-asked : goal.returns-in-Ok-None-clause-asked
returns-in-Ok-None-clause-asked g c = asked_after _ _ _ _ _ _ _ c.write_before_read.result c.write_before_read.ensures.text
    (search rules) c.write_before_read.ensures.all c.in-Ok-None.ensures.still (grows_none _)

pub returns-in-Err-TooLong-clause-asked : goal.returns-in-Err-TooLong-clause-asked
returns-in-Err-TooLong-clause-asked g c = asked_after _ _ _ _ _ _ _ c.write_before_read.result c.write_before_read.ensures.text
    (search rules) c.write_before_read.ensures.all c.in-Err-TooLong.ensures.still (grows_none _)

pub returns-in-Err-ReadFault-clause-asked : goal.returns-in-Err-ReadFault-clause-asked
returns-in-Err-ReadFault-clause-asked g c = asked_after _ _ _ _ _ _ _ c.write_before_read.result c.write_before_read.ensures.text
    (search rules) c.write_before_read.ensures.all c.in-Err-ReadFault.ensures.still (grows_none _)

pub returns-in_default-clause-asked : goal.returns-in_default-clause-asked
returns-in_default-clause-asked g c = asked_after _ _ _ _ _ _ _ c.write_before_read.result c.write_before_read.ensures.text
    (search rules) c.write_before_read.ensures.all c.in-Ok-Some.ensures.still (grows_none _)

pub returns-in-Ok-Whole-clause-asked : goal.returns-in-Ok-Whole-clause-asked
returns-in-Ok-Whole-clause-asked g c = asked_after _ _ _ _ _ _ _ c.write_before_read.result c.write_before_read.ensures.text
    (search rules) c.write_before_read.ensures.all c.in-Ok-Some.ensures.still c.serve.ensures.grows

pub returns-in-Ok-NoMemory-clause-asked : goal.returns-in-Ok-NoMemory-clause-asked
returns-in-Ok-NoMemory-clause-asked g c = asked_after _ _ _ _ _ _ _ c.write_before_read.result c.write_before_read.ensures.text
    (search rules) c.write_before_read.ensures.all c.in-Ok-Some.ensures.still c.serve.ensures.grows

pub returns-in-Err-clause-asked : goal.returns-in-Err-clause-asked
returns-in-Err-clause-asked g c = asked_after _ _ _ _ _ _ _ c.write_before_read.result c.write_before_read.ensures.text
    (search rules) c.write_before_read.ensures.all c.in-Ok-Some.ensures.still c.serve.ensures.grows

pub returns-in-Ok-Whole-clause-sink_faults : goal.returns-in-Ok-Whole-clause-sink_faults
returns-in-Ok-Whole-clause-sink_faults g c = c.in-Ok-Whole.ensures.cause.given ∙ counted_none _ _ c.write_before_read.result c.write_before_read.ensures.cause (search rules)

pub returns-in-Ok-NoMemory-clause-sink_faults : goal.returns-in-Ok-NoMemory-clause-sink_faults
returns-in-Ok-NoMemory-clause-sink_faults g c = c.in-Ok-NoMemory.ensures.cause.given ∙ counted_none _ _ c.write_before_read.result c.write_before_read.ensures.cause (search rules)

pub returns-in-Err-clause-sink_faults : goal.returns-in-Err-clause-sink_faults
returns-in-Err-clause-sink_faults g c =
    let cause = c.in-Err.ensures.cause in
    let none = counted_none _ _ c.write_before_read.result c.write_before_read.ensures.cause (search rules) in
    subst (λ (n : ℕ). CountsFault n (g.K.Sink.faults c.serve.new.sink)) none (record { later = cause.later; rose = cause.failed; once = cause.once })

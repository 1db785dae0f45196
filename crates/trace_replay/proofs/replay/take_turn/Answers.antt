use Rattle.std.proofs.Common.{length, ◌≡◌, Some, None, refl, rules, inl, inr}
use Rattle.std.specs.Io.KnownBytes.{prepend_known}
use Rattle.flat_unit.specs.Print.{print}
use Rattle.trace_text.specs.Grammar.{line_said, trace_line}
use Rattle.trace_replay.proofs.Turns.{turn_cut, turn_served, whole_room}
use Rattle.run_output.proofs.Ended.{long_text_of}
use Rattle.hpb_outside.proofs.Written.{up_to_end}
use Rattle.run_output.proofs.Written.{asked_after, cut_of, empty_unless, grows_none, whole_of}
use Rattle.trace_replay.proofs.replay.take_turn.Goals as goal

pub returns-then-is_err-clause-turn : goal.returns-then-is_err-clause-turn
returns-then-is_err-clause-turn g c start before p at printed =
    record { moment = p; reached = inl refl; standing = at; printed = cut_of c.write_before_read.result _ _ (search rules) (c.write_before_read.ensures.text before (print p.events) printed) }

pub returns-in-Ok-None-clause-turn : goal.returns-in-Ok-None-clause-turn
returns-in-Ok-None-clause-turn g c start before p at printed =
    let reads = rw (c.in-Ok-None.is, c.in-Ok-None.field-0-is) at c.next_line.follows.holds-at-none in
    (reads.0.0, refl, whole_of c.write_before_read.result _ _ (search rules) (c.write_before_read.ensures.text before (print p.events) printed))

pub returns-in-Err-TooLong-clause-turn : goal.returns-in-Err-TooLong-clause-turn
returns-in-Err-TooLong-clause-turn g c start before p at printed =
    let reads = rw (c.in-Err-TooLong.is, c.in-Err-TooLong.field-0-is) at c.next_line.follows.holds-at-none in
    (inl (long_text_of _ _ _ reads.0.0 reads.0.1, reads.0.0), refl, whole_of c.write_before_read.result _ _ (search rules) (c.write_before_read.ensures.text before (print p.events) printed))

pub returns-in-Err-ReadFault-clause-turn : goal.returns-in-Err-ReadFault-clause-turn
returns-in-Err-ReadFault-clause-turn g c start before p at printed =
    let reads = rw (c.in-Err-ReadFault.is, c.in-Err-ReadFault.field-0-is) at c.next_line.follows.holds-at-none in (
      reads.0.0,
      refl,
      up_to_end _ _ _ _ (empty_unless _ _ c.write_before_read.result (search rules) c.write_before_read.ensures.all
          ((rw c.in-Err-ReadFault.field-0-is at c.in-Err-ReadFault.ensures.asked) refl))
          (whole_of c.write_before_read.result _ _ (search rules) (c.write_before_read.ensures.text before (print p.events) printed)),
    )

pub returns-in-Ok-clause-turn : goal.returns-in-Ok-clause-turn
returns-in-Ok-clause-turn g c start before p at printed =
    let reads = rw (c.in-Ok-Some.is, c.in-Ok-Some.field-0-is) at c.next_line.follows.holds-at-none in
    let line = line_said c.parse_line-parsed.new.room c.in-Some.line in
    let len : length c.parse_line-parsed.new.room ≡ c.args.buffers.now.room.len = search rules in
    let parsed : trace_line c.in-Ok-Some.line.now ≡ Some line = search rules in
    turn_served start before p c.args.device.now c.serve.new.device _ _ _ c.serve.new.buffers.output c.in-Ok-Some.line.now line (rw c.in-Ok-Some.field-0-is at c.in-Ok-Some.ensures.line)
    (rw c.serve.ensures.reader reads.0) parsed
    (rw (whole_room _ _ _ len) at (c.in-Ok.ensures.serves start before p at
    (whole_of c.write_before_read.result _ _ (search rules) (c.write_before_read.ensures.text before (print p.events) printed))))

pub returns-in-Err-clause-turn : goal.returns-in-Err-clause-turn
returns-in-Err-clause-turn g c start before p at printed =
    let reads = rw (c.in-Ok-Some.is, c.in-Ok-Some.field-0-is) at c.next_line.follows.holds-at-none in
    let line = line_said c.parse_line-parsed.new.room c.in-Some.line in
    let len : length c.parse_line-parsed.new.room ≡ c.args.buffers.now.room.len = search rules in
    let parsed : trace_line c.in-Ok-Some.line.now ≡ Some line = search rules in
    turn_cut start before p c.args.device.now c.serve.new.device _ (prepend_known c.serve.new.buffers.reader.held (g.S.Source.left c.next_line.new.source)) _ c.serve.new.buffers.output
    c.in-Ok-Some.line.now line (rw c.serve.ensures.reader reads.0) parsed
    (rw (whole_room _ _ _ len) at (c.in-Err.ensures.serves start before p at
    (whole_of c.write_before_read.result _ _ (search rules) (c.write_before_read.ensures.text before (print p.events) printed))))

pub returns-in_default-clause-turn : goal.returns-in_default-clause-turn
returns-in_default-clause-turn g c start before p at printed =
    let reads = rw (c.in-Ok-Some.is, c.in-Ok-Some.field-0-is) at c.next_line.follows.holds-at-none in
    let none : trace_line c.in-Ok-Some.line.now ≡ None = search rules in
    (inr (c.in-Ok-Some.line.now, reads.0, none), refl, whole_of c.write_before_read.result _ _ (search rules) (c.write_before_read.ensures.text before (print p.events) printed))

pub returns-in-Ok-None-clause-asked : goal.returns-in-Ok-None-clause-asked
returns-in-Ok-None-clause-asked g c = asked_after _ _ _ _ _ _ _ c.write_before_read.result c.write_before_read.ensures.text (search rules) c.write_before_read.ensures.all c.in-Ok-None.ensures.still
    (grows_none _)

pub returns-in-Err-TooLong-clause-asked : goal.returns-in-Err-TooLong-clause-asked
returns-in-Err-TooLong-clause-asked g c = asked_after _ _ _ _ _ _ _ c.write_before_read.result c.write_before_read.ensures.text (search rules) c.write_before_read.ensures.all
    c.in-Err-TooLong.ensures.still (grows_none _)

pub returns-in-Err-ReadFault-clause-asked : goal.returns-in-Err-ReadFault-clause-asked
returns-in-Err-ReadFault-clause-asked g c = asked_after _ _ _ _ _ _ _ c.write_before_read.result c.write_before_read.ensures.text (search rules) c.write_before_read.ensures.all
    c.in-Err-ReadFault.ensures.still (grows_none _)

pub returns-in_default-clause-asked : goal.returns-in_default-clause-asked
returns-in_default-clause-asked g c = asked_after _ _ _ _ _ _ _ c.write_before_read.result c.write_before_read.ensures.text (search rules) c.write_before_read.ensures.all c.in-Ok-Some.ensures.still
    (grows_none _)

pub returns-in-Ok-clause-asked : goal.returns-in-Ok-clause-asked
returns-in-Ok-clause-asked g c = asked_after _ _ _ _ _ _ _ c.write_before_read.result c.write_before_read.ensures.text (search rules) c.write_before_read.ensures.all c.in-Ok-Some.ensures.still
    c.serve.ensures.grows

pub returns-in-Err-clause-asked : goal.returns-in-Err-clause-asked
returns-in-Err-clause-asked g c = asked_after _ _ _ _ _ _ _ c.write_before_read.result c.write_before_read.ensures.text (search rules) c.write_before_read.ensures.all c.in-Ok-Some.ensures.still
    c.serve.ensures.grows

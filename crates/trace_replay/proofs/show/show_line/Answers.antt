use Rattle.std.proofs.Common.{refl, rules, sym, ◌∙◌, inl, inr}
use Rattle.trace_text.specs.Shown.{shown_line}
use Rattle.run_output.specs.Texts.{shown_text}
use Rattle.trace_replay.proofs.Shown.{none_of, nothing_shown, some_of}
use Rattle.run_output.proofs.Ended.{long_text_of}
use Rattle.hpb_outside.proofs.Written.{up_to_end}
use Rattle.run_output.proofs.Written.{asked_after, cut_of, empty_unless, gathers_more, keeps_grows, still_none, whole_of}
use Rattle.trace_replay.proofs.show.show_line.Goals as goal

pub returns-then-is_err-clause-turn : goal.returns-then-is_err-clause-turn
returns-then-is_err-clause-turn g c before text so_far = cut_of c.write_before_read.result _ _ (search rules) (c.write_before_read.ensures.text before text so_far)

pub returns-then-is_err-2-clause-turn : goal.returns-then-is_err-2-clause-turn
returns-then-is_err-2-clause-turn g c before text so_far =
    let first = whole_of c.write_before_read.result _ _ (search rules) (c.write_before_read.ensures.text before text so_far) in
    cut_of c.make_room.result _ _ (search rules) (c.make_room.ensures.text before text first)

pub returns-then-push_shown-clause-turn : goal.returns-then-push_shown-clause-turn
returns-then-push_shown-clause-turn g c before text so_far =
    let first = whole_of c.write_before_read.result _ _ (search rules) (c.write_before_read.ensures.text before text so_far) in
    let second = whole_of c.make_room.result _ _ (search rules) (c.make_room.ensures.text before text first) in
    let reads = rw (c.in-Ok-Some.is, c.in-Ok-Some.field-0-is) at c.next_line.follows.holds-at-none in
    let line = c.in-Ok-Some.line.now in (
      line,
      shown_text line,
      rw c.in-Ok-Some.field-0-is at c.in-Ok-Some.ensures.line,
      reads.0,
      some_of (shown_line line) (sym c.push_shown.ensures.known
          ∙ c.if-push_shown.true),
      rw c.push_shown.ensures.shown (gathers_more before _ text _ (shown_text line) second),
    )

pub returns-else-push_shown-clause-turn : goal.returns-else-push_shown-clause-turn
returns-else-push_shown-clause-turn g c before text so_far =
    let first = whole_of c.write_before_read.result _ _ (search rules) (c.write_before_read.ensures.text before text so_far) in
    let second = whole_of c.make_room.result _ _ (search rules) (c.make_room.ensures.text before text first) in
    let reads = rw (c.in-Ok-Some.is, c.in-Ok-Some.field-0-is) at c.next_line.follows.holds-at-none in
    let line = c.in-Ok-Some.line.now in
    let none = sym c.push_shown.ensures.known ∙ c.if-push_shown.false in
    (inr (line, reads.0, none_of (shown_line line) none), rw (c.push_shown.ensures.shown ∙ nothing_shown (shown_line line) c.make_room.new.output none) second)

pub returns-in-Err-TooLong-clause-turn : goal.returns-in-Err-TooLong-clause-turn
returns-in-Err-TooLong-clause-turn g c before text so_far =
    let first = whole_of c.write_before_read.result _ _ (search rules) (c.write_before_read.ensures.text before text so_far) in
    let second = whole_of c.make_room.result _ _ (search rules) (c.make_room.ensures.text before text first) in
    let reads = rw (c.in-Err-TooLong.is, c.in-Err-TooLong.field-0-is) at c.next_line.follows.holds-at-none in
    (inl (long_text_of _ _ _ reads.0.0 reads.0.1, reads.0.0), second)

pub returns-in-Err-ReadFault-clause-turn : goal.returns-in-Err-ReadFault-clause-turn
returns-in-Err-ReadFault-clause-turn g c before text so_far =
    let reads = rw (c.in-Err-ReadFault.is, c.in-Err-ReadFault.field-0-is) at c.next_line.follows.holds-at-none in
    let first = whole_of c.write_before_read.result _ _ (search rules) (c.write_before_read.ensures.text before text so_far) in
    let second = whole_of c.make_room.result _ _ (search rules) (c.make_room.ensures.text before text first) in
    let none = empty_unless _ _ c.write_before_read.result (search rules) c.write_before_read.ensures.all ((rw c.in-Err-ReadFault.field-0-is at c.in-Err-ReadFault.ensures.asked) refl) in
    (reads.0.0, up_to_end before _ text _ (still_none _ _ none c.make_room.ensures.kept) second)

pub returns-in-Ok-None-clause-asked : goal.returns-in-Ok-None-clause-asked
returns-in-Ok-None-clause-asked g c = asked_after _ _ _ _ _ _ _ c.write_before_read.result c.write_before_read.ensures.text (search rules) c.write_before_read.ensures.all c.in-Ok-None.ensures.still
    (keeps_grows _ _ _ _ c.make_room.result c.make_room.ensures.text)

pub returns-in-Err-TooLong-clause-asked : goal.returns-in-Err-TooLong-clause-asked
returns-in-Err-TooLong-clause-asked g c = asked_after _ _ _ _ _ _ _ c.write_before_read.result c.write_before_read.ensures.text (search rules) c.write_before_read.ensures.all
    c.in-Err-TooLong.ensures.still (keeps_grows _ _ _ _ c.make_room.result c.make_room.ensures.text)

pub returns-in-Err-ReadFault-clause-asked : goal.returns-in-Err-ReadFault-clause-asked
returns-in-Err-ReadFault-clause-asked g c = asked_after _ _ _ _ _ _ _ c.write_before_read.result c.write_before_read.ensures.text (search rules) c.write_before_read.ensures.all
    c.in-Err-ReadFault.ensures.still (keeps_grows _ _ _ _ c.make_room.result c.make_room.ensures.text)

pub returns-then-push_shown-clause-asked : goal.returns-then-push_shown-clause-asked
returns-then-push_shown-clause-asked g c = asked_after _ _ _ _ _ _ _ c.write_before_read.result c.write_before_read.ensures.text (search rules) c.write_before_read.ensures.all
    c.in-Ok-Some.ensures.still (keeps_grows _ _ _ _ c.make_room.result c.make_room.ensures.text)

pub returns-else-push_shown-clause-asked : goal.returns-else-push_shown-clause-asked
returns-else-push_shown-clause-asked g c = asked_after _ _ _ _ _ _ _ c.write_before_read.result c.write_before_read.ensures.text (search rules) c.write_before_read.ensures.all
    c.in-Ok-Some.ensures.still (keeps_grows _ _ _ _ c.make_room.result c.make_room.ensures.text)

use Rattle.std.proofs.Common.{◌≡◌, ◌++◌, refl, inr, rules}
use Rattle.run_output.specs.Ends.{CountsFault}
use Rattle.run_output.specs.Texts.{counts_text}
use Rattle.hpb_outside.specs.Writes.{HasWrittenUpTo}
use Rattle.run_output.proofs.Ended.{ends_wordless, last_since}
use Rattle.run_output.proofs.Written.{front_longer, cut_of, gathers_more, whole_of}
use Rattle.trace_replay.proofs.program.end_of_trace.Goals as goal

pub returns-then-is_err : goal.returns-then-is_err
returns-then-is_err g c = record {
  ends = λ before text so_far.
      let cut = cut_of c.make_room.result _ _ (search rules) (c.make_room.ensures.text before text so_far) in
      let one : CountsFault (g.K.Sink.faults c.args.sink.now) (g.K.Sink.faults c.make_room.new.sink) = record { later = search rules; rose = search rules; once = search rules } in
      inr (refl, front_longer before _ text (counts_text c.args.device.now.counts) cut, one);
}

pub returns : goal.returns
returns g c = record {
  ends = λ before text so_far.
      let whole = whole_of c.make_room.result _ _ (search rules) (c.make_room.ensures.text before text so_far) in
      let words = counts_text c.args.device.now.counts in
      let all : HasWrittenUpTo before (g.K.Sink.written c.make_room.new.sink) (text ++ words) c.push_counts.new.self =
      rw (c.push_counts.ensures, c.counts.ensures) (gathers_more before _ text _ words whole) in
      let none : g.K.Sink.faults c.make_room.new.sink ≡ g.K.Sink.faults c.args.sink.now = search rules in
      last_since _ _ _ c.finish.result _ none (ends_wordless before _ (text ++ words) c.finish.result _ (c.finish.ensures.ends before (text ++ words) all));
}

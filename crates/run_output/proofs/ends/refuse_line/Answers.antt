use Rattle.std.proofs.Common.{◌≡◌, ◌++◌, refl, rules, inr, decimal, codes}
use Rattle.run_output.specs.Ends.{CountsFault}
use Rattle.run_output.specs.Texts.{bad_line_text}
use Rattle.run_output.proofs.Ended.{ends_wordless, last_since}
use Rattle.run_output.proofs.Written.{front_longer, three_more, cut_of, whole_of}
use Rattle.run_output.proofs.ends.refuse_line.Goals as goal

pub returns-then-is_err : goal.returns-then-is_err
returns-then-is_err g c = record {
  ends = λ before text so_far.
      let cut = cut_of c.make_room.result _ _ (search rules) (c.make_room.ensures.text before text so_far) in
      let one : CountsFault (g.K.Sink.faults c.args.sink.now) (g.K.Sink.faults c.make_room.new.sink) = record { later = search rules; rose = search rules; once = search rules } in
      inr (refl, front_longer before _ text (bad_line_text c.args.number) cut, one);
}

pub returns : goal.returns
returns g c = record {
  ends = λ before text so_far.
      let whole = whole_of c.make_room.result _ _ (search rules) (c.make_room.ensures.text before text so_far) in
      let number : c.push_text-2.new.self ≡ c.push_text.new.self ++ decimal c.args.number = search rules in
      let all = three_more before _ text _ c.push_text.new.self c.push_text-2.new.self c.push_text-3.new.self (codes "E line ") (decimal c.args.number) (codes "\n") whole
      c.push_text.ensures number c.push_text-3.ensures in
      let none : g.K.Sink.faults c.make_room.new.sink ≡ g.K.Sink.faults c.args.sink.now = search rules in
      last_since _ _ _ c.finish.result _ none (ends_wordless before _ (text ++ bad_line_text c.args.number) c.finish.result _ (c.finish.ensures.ends before (text ++ bad_line_text c.args.number) all));
}

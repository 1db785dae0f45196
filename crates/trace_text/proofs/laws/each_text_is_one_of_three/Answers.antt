use Rattle.trace_text.proofs.LinesOf.{empty_has_no_line, empty_is_not_long, line_is_not_long, one_of_three}
use Rattle.trace_text.proofs.laws.each_text_is_one_of_three.Goals as goal

pub returns : goal.returns
returns c = record { one = one_of_three; empty_no_line = empty_has_no_line; empty_not_long = empty_is_not_long; line_not_long = line_is_not_long }

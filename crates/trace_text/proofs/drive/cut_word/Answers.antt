use Rattle.trace_text.proofs.Cuts.{words-none, words-parts}
use Rattle.trace_text.proofs.drive.cut_word.Goals as goal

pub returns-in-Some : goal.returns-in-Some
returns-in-Some c = words-parts c.args.text.now c.in-Some.at c.in-Some.ensures

pub returns-in-None : goal.returns-in-None
returns-in-None c = words-none c.args.text.now c.in-None.ensures

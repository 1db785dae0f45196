use Rattle.command_words.proofs.Reading.{left_true}
use Rattle.command_words.proofs.words.read.Goals as goal

pub returns-in-Ok-clause-read : goal.returns-in-Ok-clause-read
returns-in-Ok-clause-read c = (c.in-Ok.ensures.kinds c.requires.simple, (c.in-Ok.ensures.matches (left_true _ _ c.requires.simple)).0)

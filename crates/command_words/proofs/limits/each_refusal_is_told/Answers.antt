use Rattle.command_words.proofs.Broken.{none_broken}
use Rattle.command_words.proofs.limits.each_refusal_is_told.Goals as goal

pub returns : goal.returns
returns c = none_broken

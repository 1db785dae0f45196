use Rattle.std.proofs.Common.{sym, ◌∙◌, ap}
use Rattle.command_words.specs.Words.{is_number}
use Rattle.command_words.specs.Options.{number_said}
use Rattle.command_words.proofs.Numbers.{number_read}
use Rattle.command_words.proofs.words.number_said.Goals as goal

pub returns : goal.returns
unfolding number_said
returns c =
    let is = ap is_number (sym c.as_bytes.ensures.value) ∙ (sym c.is_number.ensures ∙ c.if-not-is_number.false) in
    c.ok.ensures.value ∙ number_read c.args.word.now c.parse.result is c.parse.ensures.value.0

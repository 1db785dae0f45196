use Rattle.clap.specs.Words.{app_of}
use Rattle.command_words.specs.Words.{gen_app}
use Rattle.command_words.proofs.Reading.{not_read_as, read_as}
use Rattle.command_words.proofs.words.gen_of.Goals as goal

pub returns-clause-given : goal.returns-clause-given
returns-clause-given c = read_as gen_app (app_of c.in-Ok.command) _ c.given_by.result c.in-Ok.ensures.app c.given_by.ensures.given

pub returns-clause-usage : goal.returns-clause-usage
returns-clause-usage c = not_read_as gen_app (app_of c.in-Ok.command) _ c.in-Ok.ensures.app c.given_by.ensures.usage

use Rattle.std.proofs.Common.{ap}
use Rattle.made_drive.specs.declared.scan.Scan.{Scan}
use Rattle.made_drive.proofs.Tallies.{said_tally, said_tally-counts}
use Rattle.made_drive.proofs.laws.answers_are_tallied.Goals as goal

pub returns-clause-good : goal.returns-clause-good
returns-clause-good c = λ said. ap (λ (s : Scan). s.good) (said_tally said)

pub returns-clause-cut : goal.returns-clause-cut
returns-clause-cut c = λ said. ap (λ (s : Scan). s.cut) (said_tally said)

pub returns-clause-good_at_end : goal.returns-clause-good_at_end
returns-clause-good_at_end c = λ said counts. ap (λ (s : Scan). s.good) (said_tally-counts said counts)

pub returns-clause-cut_at_end : goal.returns-clause-cut_at_end
returns-clause-cut_at_end c = λ said counts. ap (λ (s : Scan). s.cut) (said_tally-counts said counts)

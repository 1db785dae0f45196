use Rattle.std.proofs.Common.{◌≡◌, rules, sym, ◌∙◌, List, ℕ, Result, Err}
use Rattle.hpb_cdb.specs.declared.cdb.Cdb.{Cdb}
use Rattle.hpb_cdb.specs.declared.fault.CdbFault.{CdbFault}
use Rattle.hpb_cdb.specs.declared.fault.CdbFault.TheVariants.{Field, Range}
use Rattle.hpb_cdb.specs.declared.limits.Limits.{Limits}
use Rattle.hpb_cdb.specs.Cdb.{IsFault}
use Rattle.hpb_cdb.specs.Read.{cdb_of}
use Rattle.hpb_cdb.proofs.Reading.{cdb_of-is_cdb, cdb_of-is_fault}
use Rattle.hpb_cdb.proofs.read.parse.Goals as goal

-- an answer that tells a fault is the one that computes
refused_as : (lim : Limits) (cdb : List ℕ) (r : Result Cdb CdbFault) (fault : CdbFault) → r ≡ Err fault → IsFault cdb lim fault → r ≡ cdb_of lim cdb
refused_as lim cdb r fault is h = is ∙ sym (cdb_of-is_fault lim cdb fault h)

pub returns-in_err-command-clause-answer : goal.returns-in_err-command-clause-answer
returns-in_err-command-clause-answer c = refused_as c.args.lim c.args.cdb.now c.from_residual.result c.in_err-command.field-0.0 (search rules) (search rules)

pub returns-then-not-has_good_fields-clause-answer : goal.returns-then-not-has_good_fields-clause-answer
returns-then-not-has_good_fields-clause-answer c = sym (cdb_of-is_fault c.args.lim c.args.cdb.now Field (search rules))

pub returns-then-not-is_in_unit-clause-answer : goal.returns-then-not-is_in_unit-clause-answer
returns-then-not-is_in_unit-clause-answer c = sym (cdb_of-is_fault c.args.lim c.args.cdb.now Range (search rules))

pub returns-clause-answer : goal.returns-clause-answer
returns-clause-answer c = sym (cdb_of-is_cdb c.args.lim c.args.cdb.now c.in_ok-command.command (search rules))

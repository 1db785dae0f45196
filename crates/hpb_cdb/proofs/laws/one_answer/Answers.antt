use Rattle.hpb_cdb.proofs.Reading.{cdb_of-is_cdb, cdb_of-is_fault, is_cdb-cdb_of, is_fault-cdb_of}
use Rattle.hpb_cdb.proofs.laws.one_answer.Goals as goal

pub returns-clause-command : goal.returns-clause-command
returns-clause-command c = λ lim cdb command. (is_cdb-cdb_of lim cdb command, cdb_of-is_cdb lim cdb command)

pub returns-clause-fault : goal.returns-clause-fault
returns-clause-fault c = λ lim cdb fault. (is_fault-cdb_of lim cdb fault, cdb_of-is_fault lim cdb fault)

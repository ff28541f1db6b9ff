use Rattle.proxy_record.proofs.Scripts.{is_record_of, is_spelled}
use Rattle.proxy_record.proofs.record_laws.a_record_is_a_script.Goals as goal

pub returns-clause-records : goal.returns-clause-records
returns-clause-records c = is_record_of

pub returns-clause-spelled : goal.returns-clause-spelled
returns-clause-spelled c = is_spelled

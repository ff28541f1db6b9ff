use Rattle.proxy_record.proofs.TurnRecords.{turns_are_recorded}
use Rattle.proxy_record.proofs.record_laws.what_a_turn_takes_is_recorded.Goals as goal

pub returns : goal.returns
returns c = turns_are_recorded

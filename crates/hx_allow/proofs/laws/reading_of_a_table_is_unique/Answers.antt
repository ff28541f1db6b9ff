use Rattle.hx_allow.proofs.Readings.{one_reading}
use Rattle.hx_allow.proofs.laws.reading_of_a_table_is_unique.Goals as goal

pub returns : goal.returns
returns c = one_reading

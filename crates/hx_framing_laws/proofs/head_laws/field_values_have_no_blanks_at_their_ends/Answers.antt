use Rattle.hx_framing_laws.proofs.FieldValues.{trimmed_of_value, value_of_trimmed}
use Rattle.hx_framing_laws.proofs.head_laws.field_values_have_no_blanks_at_their_ends.Goals as goal

pub returns-clause-trimmed : goal.returns-clause-trimmed
returns-clause-trimmed c = trimmed_of_value

pub returns-clause-each : goal.returns-clause-each
returns-clause-each c = value_of_trimmed

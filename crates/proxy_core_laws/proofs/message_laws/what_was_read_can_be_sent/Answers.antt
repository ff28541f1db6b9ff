use Rattle.proxy_core_laws.proofs.ReadTables.{names_a_token, stores_none_too_long}
use Rattle.proxy_core_laws.proofs.HeldValues.{asks_by_field_values, holds_what_fits}
use Rattle.proxy_core_laws.proofs.OpenRequests.{keeps_what_was_read}
use Rattle.proxy_core_laws.proofs.message_laws.what_was_read_can_be_sent.Goals as goal

pub returns : goal.returns
returns c = record { name = names_a_token; short = stores_none_too_long; conditions = asks_by_field_values; fits = holds_what_fits; requests = keeps_what_was_read }

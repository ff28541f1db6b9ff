use Rattle.hx_allow.proofs.PurgeOrders.{stale_where_said, said_where_stale, removed_without, mode_known}
use Rattle.hx_allow.proofs.purge_mode_cases.a_purge_expires_where_its_mode_says_stale.Goals as goal

pub returns : goal.returns
returns c = record { stale = stale_where_said; nothing_else = said_where_stale; without = removed_without; known = mode_known }

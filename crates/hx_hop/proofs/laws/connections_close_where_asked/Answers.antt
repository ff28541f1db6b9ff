use Rattle.hx_hop.proofs.SentLines.{closes_where_asked, stays_open}
use Rattle.hx_hop.proofs.laws.connections_close_where_asked.Goals as goal

pub returns : goal.returns
returns c = record { closes = closes_where_asked; stays = stays_open }

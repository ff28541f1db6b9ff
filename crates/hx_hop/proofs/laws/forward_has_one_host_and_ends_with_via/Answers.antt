use Rattle.hx_hop.proofs.Forwards.{sends_one_host, ends_with_via}
use Rattle.hx_hop.proofs.laws.forward_has_one_host_and_ends_with_via.Goals as goal

pub returns : goal.returns
returns c = record { host = sends_one_host; via = ends_with_via }

use Rattle.hx_hop.proofs.SentLines.{leaves_out_the_default_port, writes_other_ports, shows_the_version}
use Rattle.hx_hop.proofs.laws.host_and_via_show_port_and_version.Goals as goal

pub returns : goal.returns
returns c = record { default_port = leaves_out_the_default_port; other_port = writes_other_ports; version = shows_the_version }

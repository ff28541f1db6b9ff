use Rattle.hx_hop.proofs.SentLines.{sends_no_hop_field, sends_no_expect, sends_no_length, sends_what_was_asked}
use Rattle.hx_hop.proofs.laws.only_what_was_asked_goes_forward.Goals as goal

pub returns : goal.returns
returns c = record { hop = sends_no_hop_field; expect = sends_no_expect; length = sends_no_length; asked = sends_what_was_asked }

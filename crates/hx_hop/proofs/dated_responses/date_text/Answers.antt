use Rattle.std.proofs.Common.{◌∙◌}
use Rattle.hx_hop.proofs.Moments.{date_text_of_is}
use Rattle.hx_hop.proofs.dated_responses.date_text.Goals as goal

pub returns : goal.returns
returns c = c.to_bytes.ensures ∙ date_text_of_is c.in-Ok.date c.args.now c.in-Ok.ensures.value c.requires

use Rattle.std.proofs.Common.{◌∙◌, ap}
use Rattle.proxy_engine.specs.Held.{open_end_has_flag, link_may_send}
use Rattle.proxy_engine.proofs.Readable.{answer_at}
use Rattle.proxy_engine.proofs.endpoints.links.MarkedEnds+Link.may_read.Goals as goal

pub returns-in-Some : goal.returns-in-Some
returns-in-Some c ss both = c.answers.ensures ∙ (ap (open_end_has_flag link_may_send) c.in-Some.ensures ∙ answer_at c.args.self.now.items ss both c.args.j)

pub returns-in-None : goal.returns-in-None
returns-in-None c ss both = ap (open_end_has_flag link_may_send) c.in-None.ensures ∙ answer_at c.args.self.now.items ss both c.args.j

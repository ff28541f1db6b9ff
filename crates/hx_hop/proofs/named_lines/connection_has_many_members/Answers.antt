use Rattle.std.proofs.Common.{sym, ◌∙◌}
use Rattle.hx_hop.proofs.NoneNamed.{no_many_members}
use Rattle.hx_hop.proofs.named_lines.connection_has_many_members.Goals as goal

pub returns-in-0 : goal.returns-in-0
returns-in-0 c = sym (no_many_members c.args.fields.now (sym c.count.ensures ∙ c.in-0.is))

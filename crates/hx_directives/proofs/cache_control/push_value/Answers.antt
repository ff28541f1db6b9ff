use Rattle.std.proofs.Common.{rules}
use Rattle.hx_directives.proofs.ShortMembers.{short_members_spell_none}
use Rattle.hx_directives.proofs.cache_control.push_value.Goals as goal

pub returns : goal.returns
returns c = search (rules, short_members_spell_none c.args.value.now)

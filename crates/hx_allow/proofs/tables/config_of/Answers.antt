use Rattle.std.proofs.Common.{rules}
use Rattle.toml.specs.View.{table_view}
use Rattle.hx_allow.specs.Tables.{table_of_members}
use Rattle.hx_allow.proofs.Readings.{said_by_a_text}
use Rattle.hx_allow.proofs.tables.config_of.Goals as goal

pub invariant_of-result : goal.invariant_of-result
unfolding table_of_members
invariant_of-result c =
    (search rules, search rules, said_by_a_text (table_view c.args.table.now) _ c.requires.toml c.requires.faultless (search rules), search rules)

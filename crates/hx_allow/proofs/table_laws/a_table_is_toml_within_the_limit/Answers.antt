use Rattle.hx_allow.proofs.TomlTables.{taken, judged, too_long, no_text, no_toml}
use Rattle.hx_allow.proofs.table_laws.a_table_is_toml_within_the_limit.Goals as goal

pub returns-clause-taken : goal.returns-clause-taken
returns-clause-taken c = taken

pub returns-clause-judged : goal.returns-clause-judged
returns-clause-judged c = judged

pub returns-clause-too_long : goal.returns-clause-too_long
returns-clause-too_long c = too_long

pub returns-clause-no_text : goal.returns-clause-no_text
returns-clause-no_text c = no_text

pub returns-clause-no_toml : goal.returns-clause-no_toml
returns-clause-no_toml c = no_toml

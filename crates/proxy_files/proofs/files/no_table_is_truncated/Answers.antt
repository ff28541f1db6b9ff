use Rattle.std.proofs.Common.{subst, Ok, List, ℕ}
use Rattle.hx_allow.specs.Tables.{BytesReadAsTable}
use Rattle.proxy_files.proofs.Reading.{whole_where_few}
use Rattle.proxy_files.proofs.files.no_table_is_truncated.Goals as goal

pub returns : goal.returns
returns c = λ text file table is reads.
    let same = whole_where_few text file (c.a_table_is_toml_within_the_limit.ensures.taken text table reads).0 is in
    (subst (λ (t : List ℕ). BytesReadAsTable t (Ok table)) same reads, same)

use Rattle.hx_allow.proofs.Purging.{none_keyed, each_purges_by_its_key}
use Rattle.hx_allow.proofs.Versions.{each_is_of_three}
use Rattle.hx_allow.proofs.purge_laws.a_line_with_purge_key_has_no_origin.Goals as goal

pub returns : goal.returns
returns c = record {
  keys = λ t table is. each_purges_by_its_key t table is;
  earlier_versions = λ t table line before is. none_keyed table.lines (λ i d within. (each_is_of_three t table before is i d within).14) line;
}

use Rattle.hx_store.proofs.PassingEntries.{finds_passing, passing_ascend, others_stay}
use Rattle.proxy_core.specs.Scopes.{is_purged_by_request}
use Rattle.proxy_core.proofs.PurgedTags.{its_tag, its_target}
use Rattle.proxy_core.proofs.laws.purge_cases.a_purge_selects_what_is_within_its_scope.Goals as goal

pub returns : goal.returns
returns c = record {
  those = λ asked s es. finds_passing (is_purged_by_request asked) s es;
  ascending = λ asked es. passing_ascend (is_purged_by_request asked) es;
  others = λ asked es distinct. others_stay (is_purged_by_request asked) es distinct;
  its_target = its_target;
  its_tag = its_tag;
}

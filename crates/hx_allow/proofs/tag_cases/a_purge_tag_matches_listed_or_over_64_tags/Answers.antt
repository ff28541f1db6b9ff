use Rattle.hx_allow.proofs.TagsNamed.{named_told}
use Rattle.hx_allow.proofs.tag_cases.a_purge_tag_matches_listed_or_over_64_tags.Goals as goal

pub returns-clause-named : goal.returns-clause-named
returns-clause-named c = named_told

use Rattle.hx_reuse.proofs.WordLemmas.{words_differ, error_words_differ}
use Rattle.hx_reuse.proofs.laws.cache_status_words_tell_rules_apart.Goals as goal

pub returns : goal.returns
returns c = record { reuse = words_differ; error = error_words_differ }

use Rattle.hx_reuse.proofs.PromiseLemmas.{is_fresh, keeps_its_own, has_no_no_cache, never_on_error}
use Rattle.hx_reuse.proofs.WhileRevalidatingLemmas.{never_where_forbidden}
use Rattle.hx_reuse.proofs.laws.forbidden_responses_are_never_sent_unvalidated.Goals as goal

pub returns : goal.returns
returns c = record { stale = is_fresh; stated = keeps_its_own; no_cache = has_no_no_cache; error = never_on_error; while_revalidating = never_where_forbidden }

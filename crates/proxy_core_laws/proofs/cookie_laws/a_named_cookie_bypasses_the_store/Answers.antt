use Rattle.proxy_core_laws.proofs.PastStore.{passes_the_store, leads_nobody, tells_of_the_cookie}
use Rattle.proxy_core_laws.proofs.cookie_laws.a_named_cookie_bypasses_the_store.Goals as goal

pub returns : goal.returns
returns c = record { passes = passes_the_store; leads = leads_nobody; told = tells_of_the_cookie }

use Rattle.proxy_core.proofs.Told.{passed_says, purge_says, refusal_says, stored_says}
use Rattle.proxy_core.proofs.ToldSteps.{each_says}
use Rattle.proxy_core.proofs.laws.about_cases.a_reply_shows_its_status_and_cache_status.Goals as goal

pub returns : goal.returns
returns c = record { stored = stored_says; passed = passed_says; refusal = refusal_says; purge = purge_says; step = each_says }

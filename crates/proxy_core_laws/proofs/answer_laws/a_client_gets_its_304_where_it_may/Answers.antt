use Rattle.proxy_core_laws.proofs.ClientConditions.{answers_no_other, answers_the_condition}
use Rattle.proxy_core_laws.proofs.answer_laws.a_client_gets_its_304_where_it_may.Goals as goal

pub returns : goal.returns
returns c = record { every = answers_the_condition; only = answers_no_other }

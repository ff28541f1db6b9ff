use Rattle.proxy_core_laws.proofs.OneResponse.{passes_one_response, purges_as_one_response, refuses_as_one_response}
use Rattle.proxy_core_laws.proofs.answer_laws.a_client_gets_one_response.Goals as goal

pub returns : goal.returns
returns c = record { passed = passes_one_response; own = refuses_as_one_response; purge = purges_as_one_response }

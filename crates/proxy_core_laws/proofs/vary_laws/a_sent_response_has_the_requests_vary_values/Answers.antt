use Rattle.proxy_core_laws.proofs.Varied.{named_so, sends_the_same_values}
use Rattle.proxy_core_laws.proofs.vary_laws.a_sent_response_has_the_requests_vary_values.Goals as goal

pub returns : goal.returns
returns c = record { sent = sends_the_same_values; named = named_so }

-- What the operator's table says of a request that arrives, and for whom it may wait.
use Rattle.std.specs.Prelude.{Bool, true, false, List, [], if◌then◌else◌}
use Rattle.hx_hop.specs.declared.request_view.Asked.{Asked}
use Rattle.hx_allow.specs.TableLines.{Table}
use Rattle.hx_allow.specs.Matching.{verdict_of_request, request_is_refused_as_loop}
use Rattle.hx_allow.specs.declared.verdicts.RouteOverLine.{RouteOverLine}
use Rattle.hx_allow.specs.declared.verdicts.Verdict.{Verdict}
use Rattle.hx_allow.specs.declared.verdicts.Verdict.TheVariants as verdict
use Rattle.proxy_core.specs.declared.open.exchange.Exchange.{Exchange}

-- by its method, its target and its fields, of which Via tells where it was before
abbrev pub verdict_of_asked : Table → Asked → Verdict
verdict_of_asked table asked = verdict_of_request table asked.method asked.target asked.fields

abbrev pub is_purge_verdict : Verdict → Bool
is_purge_verdict (verdict.Allowed line) = false
is_purge_verdict (verdict.DeniedBy line) = false
is_purge_verdict verdict.NoLine = false
is_purge_verdict (verdict.Looped line) = false
is_purge_verdict (verdict.Purged line) = true

-- the request purges what is held within its scope, by the first line that matches
abbrev pub request_purges : Table → Asked → Bool
request_purges table asked = is_purge_verdict (verdict_of_asked table asked)

-- over a line that refuses loops the request was here before
abbrev pub is_refused_as_loop : Table → RouteOverLine → Asked → Bool
is_refused_as_loop table line asked = request_is_refused_as_loop table line asked.fields

-- the open exchanges for whose answer a request may wait
-- own: one that came back waits for none, which could be its own ("A request that came back waits for nobody")
abbrev pub exchanges_to_wait_for : Table → RouteOverLine → Asked → List Exchange → List Exchange
exchanges_to_wait_for table line asked xs = if is_refused_as_loop table line asked then [] else xs

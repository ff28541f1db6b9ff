use Rattle.proxy_core.proofs.PurgesExpire.{stays_so, a_304_leaves, made_fresh_behind}
use Rattle.proxy_core.proofs.laws.expiring_cases.an_expired_response_is_stale_until_made_fresh.Goals as goal

pub returns : goal.returns
returns c = record { stays = stays_so; by_a_304 = a_304_leaves; asked_behind = made_fresh_behind }

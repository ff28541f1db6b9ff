use Rattle.proxy_core.proofs.PurgesExpire.{leaves_expired, leaves_removed}
use Rattle.proxy_core.proofs.laws.expiring_cases.a_purge_changes_nothing_outside_its_scope.Goals as goal

pub returns : goal.returns
returns c = record { expired = leaves_expired; removed = leaves_removed }

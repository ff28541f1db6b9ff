use Rattle.hx_store.proofs.ExpiredEntries.{find-expired, matching-expired, not_expired, of_key-expired, serials-expired, times_alone, times_expired, total-expired}
use Rattle.hx_store.proofs.laws.expiring_changes_only_times.Goals as goal

pub returns : goal.returns
returns c = record {
  times = times_expired;
  others = not_expired;
  nothing_else = times_alone;
  serials = serials-expired;
  weight = total-expired;
  found = find-expired;
  of_key = of_key-expired;
  matching = matching-expired;
}

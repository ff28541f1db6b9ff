use Rattle.hx_store.proofs.Recency.{law, is_in-held, held_front, held_more, Decides-recent}
use Rattle.hx_store.proofs.RecencyOrder.{ordered}
use Rattle.hx_store.proofs.laws.lru_list_equals_held_serials.Goals as goal

pub returns : goal.returns
returns c = record { listed = Decides-recent; ordered = ordered; same = law; counted = is_in-held; front = held_front; more = held_more }

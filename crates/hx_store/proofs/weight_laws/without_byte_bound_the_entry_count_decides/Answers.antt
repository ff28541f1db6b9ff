use Rattle.hx_store.proofs.WeightedRecency.{bounded_by_number, held_by_number, same_words_by_number}
use Rattle.hx_store.proofs.weight_laws.without_byte_bound_the_entry_count_decides.Goals as goal

pub returns : goal.returns
returns c = record { list = bounded_by_number; serials = held_by_number; held = same_words_by_number }

use Rattle.proxy_engine.proofs.Exhausting.{hides_no_answer, hides_no_wake}
use Rattle.proxy_engine.proofs.laws.out_of_memory_never_hides_exhausted_link_numbers.Goals as goal

pub returns : goal.returns
returns c = record { wakes = hides_no_wake; answers = hides_no_answer }

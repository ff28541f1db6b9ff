use Rattle.hx_validate.proofs.RangeLemmas.{of_another_method, of_another_response, of_another_status, of_no_range}
use Rattle.hx_validate.proofs.range_laws.without_a_valid_range_the_whole_is_sent.Goals as goal

pub returns : goal.returns
returns c = record { method = of_another_method; status = of_another_status; range = of_no_range; if_range = of_another_response }

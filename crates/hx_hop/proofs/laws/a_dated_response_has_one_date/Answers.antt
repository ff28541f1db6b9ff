use Rattle.hx_hop.proofs.Dating.{shows_the_moment, has_one, dates_once}
use Rattle.hx_hop.proofs.laws.a_dated_response_has_one_date.Goals as goal

pub returns : goal.returns
returns c = record { moment = shows_the_moment; one = has_one; once = dates_once }

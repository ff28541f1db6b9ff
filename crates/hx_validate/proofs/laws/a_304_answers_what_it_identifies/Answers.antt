use Rattle.hx_validate.proofs.IdentifiedLemmas.{answers_nothing_else, answers_what_it_identifies}
use Rattle.hx_validate.proofs.laws.a_304_answers_what_it_identifies.Goals as goal

pub returns : goal.returns
returns c = record { every = answers_what_it_identifies; only = answers_nothing_else }

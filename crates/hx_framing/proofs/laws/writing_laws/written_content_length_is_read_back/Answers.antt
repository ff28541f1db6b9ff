use Rattle.hx_framing.proofs.WrittenFields.{lengths_none, lengths_some, codings_none, expectations_none, decimal_back}
use Rattle.hx_framing.proofs.laws.writing_laws.written_content_length_is_read_back.Goals as goal

pub returns-clause-none : goal.returns-clause-none
returns-clause-none c = lengths_none

pub returns-clause-some : goal.returns-clause-some
returns-clause-some c = lengths_some

pub returns-clause-digits : goal.returns-clause-digits
returns-clause-digits c = λ n small. (decimal_back n small).1

pub returns-clause-number : goal.returns-clause-number
returns-clause-number c = λ n small. let back = decimal_back n small in (back.0, back.2)

pub returns-clause-coding : goal.returns-clause-coding
returns-clause-coding c = codings_none

pub returns-clause-expectation : goal.returns-clause-expectation
returns-clause-expectation c = expectations_none

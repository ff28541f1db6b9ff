use Rattle.hx_status.proofs.AboutLemmas.{member_is_told, refusal_is_told}
use Rattle.hx_status.proofs.laws.reason_is_the_text_of_its_header_line.Goals as goal

pub returns : goal.returns
returns c = record { member = member_is_told; refusal = refusal_is_told }

use Rattle.hx_framing.proofs.ReadResponses.{final_status, none_announced, without_length}
use Rattle.hx_framing.proofs.laws.response_laws.responses_read_are_final.Goals as goal

pub returns : goal.returns
returns c = record {
  status = final_status;
  lengths = without_length;
  announced = none_announced;
}

use Rattle.std.proofs.Common.{◌∷◌, [], codes, arith}
use Rattle.httpdate.proofs.OnLiterals.{httpdate_on_literals}
use Rattle.hx_allow.specs.Matching.{policy_of}
use Rattle.hx_storable.specs.Rules.{rule_against_storing}
use Rattle.hx_validate.specs.Answering.{freshened_of}
use Rattle.hx_validate.proofs.Rooms.{leaves_room_to_the_byte}
use Rattle.proxy_core.specs.Cases.{etag_field}
use Rattle.proxy_core.proofs.laws.worked_cases.worked_stored_responses_after_a_304.Goals as goal

pub returns-clause-bytes : goal.returns-clause-bytes
unfolding httpdate_on_literals rule_against_storing policy_of freshened_of
returns-clause-bytes c value = leaves_room_to_the_byte value (etag_field (codes "\"e\"") ∷ []) (omega arith)

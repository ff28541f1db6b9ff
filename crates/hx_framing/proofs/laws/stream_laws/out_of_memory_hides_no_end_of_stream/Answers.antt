use Rattle.std.proofs.Common.{◌≡◌, true, false}
use Rattle.hx_framing.specs.declared.messages.Next.TheVariants as next
use Rattle.hx_framing.specs.declared.frame_fault.FrameFault.TheVariants as fault
use Rattle.hx_framing.proofs.laws.stream_laws.out_of_memory_hides_no_end_of_stream.Goals as goal

pub returns-clause-requests : goal.returns-clause-requests
returns-clause-requests c p answers needs = let no : false ≡ true = needs next.End answers in cc

pub returns-clause-no_request : goal.returns-clause-no_request
returns-clause-no_request c p answers needs = let no : false ≡ true = needs (next.Refused fault.Head) answers in cc

pub returns-clause-other_request : goal.returns-clause-other_request
returns-clause-other_request c p answers needs = let no : false ≡ true = needs (next.Refused fault.Version) answers in cc

pub returns-clause-response : goal.returns-clause-response
returns-clause-response c p answers needs = let no : false ≡ true = needs next.End answers in cc

pub returns-clause-no_response : goal.returns-clause-no_response
returns-clause-no_response c p answers needs = let no : false ≡ true = needs (next.Refused fault.Head) answers in cc

pub returns-clause-other_response : goal.returns-clause-other_response
returns-clause-other_response c p answers needs = let no : false ≡ true = needs (next.Refused fault.Version) answers in cc

use Rattle.std.proofs.Common.{◌≤◌, List, [], ◌∷◌, length, arith}
use Rattle.hx_framing.specs.declared.messages.Response.{Response}
use Rattle.hx_framing.specs.Progress.{Progress}
use Rattle.hx_framing.specs.ResponseStream.{StreamSpellsGivenResponse}
use Rattle.hx_framing.proofs.laws.response_laws.at_most_one_response_is_given.Goals as goal

at_most_one : (p : Progress Response) (given : List Response) → StreamSpellsGivenResponse p given → length given ≤ 1
at_most_one p [] is = omega arith
at_most_one p (message ∷ []) is = omega arith
at_most_one p (message ∷ other ∷ more) is = absurd is

pub returns : goal.returns
returns c = λ p answer answered. at_most_one p p.given answered.spells

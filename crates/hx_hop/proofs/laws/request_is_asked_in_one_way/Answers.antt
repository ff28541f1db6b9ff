use Rattle.std.proofs.Common.{◌≡◌, List, ℕ, ap, sym, ◌∙◌, codes}
use Rattle.std.specs.Prelude.{Result}
use Rattle.hx_fields.specs.FieldLines.{values_of}
use Rattle.hx_framing.specs.declared.messages.Request.{Request}
use Rattle.hx_target.specs.declared.target_fault.TargetFault.{TargetFault}
use Rattle.hx_target.specs.declared.targets.Target.{Target}
use Rattle.hx_target.specs.Judgement.{TargetIsJudged}
use Rattle.hx_hop.specs.declared.request_view.Asked.{Asked}
use Rattle.hx_hop.specs.Asking.{RequestIsReadAsAsked, asked_with_judged_target}
use Rattle.hx_hop.proofs.laws.request_is_asked_in_one_way.Goals as goal

one :
    ((target : List ℕ) (hosts : List (List ℕ)) (t u : Result Target TargetFault) → TargetIsJudged target hosts t → TargetIsJudged target hosts u → t ≡ u)
    → (request : Request) (r s : Result Asked TargetFault) → RequestIsReadAsAsked request r → RequestIsReadAsAsked request s → r ≡ s
one one_judgement request r s (t, judged, h) (u, also, k) =
    h ∙ (ap (asked_with_judged_target request) (one_judgement request.target (values_of request.fields (codes "Host")) t u judged also) ∙ sym k)

pub returns : goal.returns
returns c = one c.judgement_of_a_target_is_unique.ensures

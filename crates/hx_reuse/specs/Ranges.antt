-- A request for a range is decided as one for the whole (RFC 9110, section 14.2), over a line that doesn't forward
-- ranges.
--
-- RequestsAskForTheSameResponse: two requests that differ in nothing that a rule looks at, but in their ranges
-- RangeDoesNotChangeTheDecision: they are decided alike     ForwardedRangesGoPastTheStore: over another line
use Rattle.std.specs.Prelude.{◌≡◌, ℕ, true, false, List}
use Rattle.hx_directives.specs.Occurrences.{occurrences_of}
use Rattle.hx_hop.specs.declared.request_view.Asked.{Asked}
use Rattle.hx_hop.specs.Bypass.{request_has_content, asks_for_range, has_precondition_for_origin}
use Rattle.hx_policy.specs.declared.words.Policy.{Policy}
use Rattle.hx_store.specs.Stored.{Stored}
use Rattle.hx_reuse.specs.Chosen.{chosen_of}
use Rattle.hx_reuse.specs.Rules.{decision_of}
use Rattle.hx_reuse.specs.declared.decision.Decision.TheVariants.{Hit}

-- two requests for one key by one method, with the same directives, for which the same response is chosen; whether the
-- one or the other asks for a range isn't said
pub record RequestsAskForTheSameResponse (held : List Stored) (asked other : Asked) : Type 0 where
  pub one_key : asked.target.key ≡ other.target.key
  pub same_method : asked.method ≡ other.method
  pub same_content : request_has_content asked ≡ request_has_content other
  pub same_precondition : has_precondition_for_origin asked ≡ has_precondition_for_origin other
  pub same_chosen_response : chosen_of held asked ≡ chosen_of held other
  pub same_directives : occurrences_of asked.fields ≡ occurrences_of other.fields

-- so a part is sent of no response that wouldn't be sent whole, and of each that would be
abbrev pub RangeDoesNotChangeTheDecision : Type 0
RangeDoesNotChangeTheDecision = (policy : Policy) (held : List Stored) (asked other : Asked) (now : ℕ) →
    policy.forwards_ranges ≡ false → RequestsAskForTheSameResponse held asked other
    → decision_of policy held asked now ≡ decision_of policy held other now

-- over a line that forwards ranges no stored response answers a request for one
abbrev pub ForwardedRangesGoPastTheStore : Type 0
ForwardedRangesGoPastTheStore = (policy : Policy) (held : List Stored) (asked : Asked) (now serial : ℕ) →
    policy.forwards_ranges ≡ true → asks_for_range asked ≡ true → decision_of policy held asked now ≡ Hit serial → ⊥

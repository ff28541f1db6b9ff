-- What the reuse rules come to, without their table: which response is chosen, which may be sent, which rule is named
-- (RFC 9111, sections 4 and 4.1).
--
-- ResponseMatchesRequest, ResponseIsChosen: a held response that matches, the one of these that comes before the others
-- ResponseMayBeSent: it, where no rule stands
-- IsLeastReuseRule: a rule that stands, and none before it
-- RuleOnChosenNamesItsSerial: the response that a rule is named with
-- Below them are the statements that the laws of `src/laws.rt` prove.
use Rattle.std.specs.Prelude.{◌≡◌, ℕ, ◌<◌, ◌≤◌, ◌⊎◌, true, false, List, Option, Some, None}
use Rattle.std.specs.List.{Contains}
use Rattle.hx_target.specs.Keys.{same_key}
use Rattle.hx_vary.specs.Vary.{vary_matches}
use Rattle.hx_hop.specs.declared.request_view.Asked.{Asked}
use Rattle.hx_store.specs.Stored.{Stored}
use Rattle.hx_policy.specs.declared.words.Policy.{Policy}
use Rattle.hx_store.specs.Serials.{SerialsAreDistinct}
use Rattle.hx_store.specs.Shelf.{serials, find_entry_of_serial}
use Rattle.hx_reuse.specs.Chosen.{nominates, is_preferred_over, chosen_of}
use Rattle.hx_reuse.specs.RuleNames.{reuse_rule_number, reuse_rule_reason, reuse_rule_detail, error_rule_word}
use Rattle.hx_reuse.specs.Rules.{reuse_rule_applies, is_rule_on_chosen, decision_of}
use Rattle.hx_reuse.specs.declared.rule.ReuseRule.{ReuseRule}
use Rattle.hx_reuse.specs.declared.rule.ReuseRule.TheVariants.{Operator}
use Rattle.hx_reuse.specs.declared.rule.ErrorRule.{ErrorRule}
use Rattle.hx_reuse.specs.declared.decision.Decision.TheVariants.{Hit, Forward}

-- the response could answer the request: it is held, for the request's key, and was asked for with the same nominated
-- values (RFC 9111, sections 4 and 4.1)
pub record ResponseMatchesRequest (held : List Stored) (asked : Asked) (response : Stored) : Type 0 where
  pub is_held : Contains held response
  pub has_the_same_key : same_key response.key asked.target.key ≡ true
  pub matches_nominated_values : vary_matches response.nominated asked.fields ≡ true

-- of all that could answer none is preferred to it (RFC 9111, sections 4 and 4.1)
pub record ResponseIsChosen (held : List Stored) (asked : Asked) (response : Stored) : Type 0 where
  pub is_candidate : ResponseMatchesRequest held asked response
  pub no_other_is_preferred : (other : Stored) → ResponseMatchesRequest held asked other
      → is_preferred_over other response ≡ false

-- the chosen response has this serial, and no rule stands
pub record ResponseMayBeSent (policy : Policy) (held : List Stored) (asked : Asked) (now serial : ℕ) : Type 0 where
  pub response : Stored
  pub chosen_is : chosen_of held asked ≡ Some response
  pub serial_is : response.serial ≡ serial
  pub no_rule : (rule : ReuseRule) → reuse_rule_applies rule policy held asked now ≡ false

-- the rule stands, and none of a smaller number does
pub record IsLeastReuseRule (policy : Policy) (held : List Stored) (asked : Asked) (now : ℕ)
    (rule : ReuseRule) : Type 0 where
  pub rule_applies : reuse_rule_applies rule policy held asked now ≡ true
  pub none_before : (other : ReuseRule) → reuse_rule_number other < reuse_rule_number rule
      → reuse_rule_applies other policy held asked now ≡ false

-- a rule on the chosen response is named with it, the others are named alone
abbrev pub RuleOnChosenNamesItsSerial : List Stored → Asked → ReuseRule → Option ℕ → Type 0
RuleOnChosenNamesItsSerial held asked rule named =
    ((is_rule_on_chosen rule ≡ false) × (named ≡ None))
    ⊎ ((is_rule_on_chosen rule ≡ true)
    × ((response : Stored) × (chosen_of held asked ≡ Some response) × (named ≡ Some response.serial)))

-- ---- the statements

abbrev pub ChosenIsPreferredCandidate : Type 0
ChosenIsPreferredCandidate = (held : List Stored) (asked : Asked) (response : Stored) →
    chosen_of held asked ≡ Some response → ResponseIsChosen held asked response

-- where one that could answer has a Vary, the chosen one has, so none without it hides what an origin made for such
-- requests (RFC 9111, section 4.1)
abbrev pub ChosenHasAVaryWhereOneHas : Type 0
ChosenHasAVaryWhereOneHas = (held : List Stored) (asked : Asked) (response other : Stored) →
    chosen_of held asked ≡ Some response → ResponseMatchesRequest held asked other → nominates other ≡ true
    → nominates response ≡ true

-- of those with a Vary, and of those without, "the most recent one (as determined by the Date header field)"
-- (RFC 9111, section 4); own: of one Date the greater serial
abbrev pub ChosenIsLatestOfThoseAlikeInVary : Type 0
ChosenIsLatestOfThoseAlikeInVary = (held : List Stored) (asked : Asked) (response other : Stored) →
    chosen_of held asked ≡ Some response → ResponseMatchesRequest held asked other → nominates other
    ≡ nominates response →
    (other.times.date ≤ response.times.date) × (other.times.date ≡ response.times.date → other.serial ≤ response.serial)

abbrev pub AResponseIsChosenIfAnyMatches : Type 0
AResponseIsChosenIfAnyMatches = (held : List Stored) (asked : Asked) (response : Stored) →
    chosen_of held asked ≡ None → ResponseMatchesRequest held asked response → ⊥

-- where each serial names one response, the preferred one is one
abbrev pub PreferredCandidateIsChosen : Type 0
PreferredCandidateIsChosen = (held : List Stored) (asked : Asked) (response : Stored) →
    SerialsAreDistinct (serials held) → ResponseIsChosen held asked response → chosen_of held asked ≡ Some response

abbrev pub SendableResponseIsSent : Type 0
SendableResponseIsSent = (policy : Policy) (held : List Stored) (asked : Asked) (now serial : ℕ) →
    ResponseMayBeSent policy held asked now serial → decision_of policy held asked now ≡ Hit serial

abbrev pub OnlySendableResponseIsSent : Type 0
OnlySendableResponseIsSent = (policy : Policy) (held : List Stored) (asked : Asked) (now serial : ℕ) →
    decision_of policy held asked now ≡ Hit serial → ResponseMayBeSent policy held asked now serial

-- what is sent is held, for this request
abbrev pub AHitIsAStoredResponse : Type 0
AHitIsAStoredResponse = (policy : Policy) (held : List Stored) (asked : Asked) (now serial : ℕ) →
    decision_of policy held asked now ≡ Hit serial
    → (response : Stored) × ResponseIsChosen held asked response × (response.serial ≡ serial)

-- where each serial names one response, that of a hit finds the chosen one in the store
abbrev pub AHitIsFoundInTheStore : Type 0
AHitIsFoundInTheStore = (policy : Policy) (held : List Stored) (asked : Asked) (now serial : ℕ) →
    SerialsAreDistinct (serials held) → decision_of policy held asked now ≡ Hit serial
    → find_entry_of_serial serial held ≡ chosen_of held asked

abbrev pub LeastReuseRuleIsNamed : Type 0
LeastReuseRuleIsNamed = (policy : Policy) (held : List Stored) (asked : Asked) (now : ℕ) (rule : ReuseRule)
    (named : Option ℕ) →
    decision_of policy held asked now ≡ Forward rule named
    → IsLeastReuseRule policy held asked now rule × RuleOnChosenNamesItsSerial held asked rule named

abbrev pub LeastReuseRuleForwards : Type 0
LeastReuseRuleForwards = (policy : Policy) (held : List Stored) (asked : Asked) (now : ℕ) (rule : ReuseRule) →
    IsLeastReuseRule policy held asked now rule → (named : Option ℕ) × (decision_of policy held asked now
    ≡ Forward rule named)

-- own: what the operator keeps from the store goes forward by its rule, whatever is held
abbrev pub UncachedLineForwards : Type 0
UncachedLineForwards = (policy : Policy) (held : List Stored) (asked : Asked) (now : ℕ) →
    policy.caches ≡ false → decision_of policy held asked now ≡ Forward Operator None

-- a reader of Cache-Status knows the rule (RFC 9211, sections 2.2 and 2.8)
abbrev pub WordsOfReuseRulesDiffer : Type 0
WordsOfReuseRulesDiffer =
    (rule other : ReuseRule) → reuse_rule_reason rule ≡ reuse_rule_reason other → reuse_rule_detail rule
    ≡ reuse_rule_detail other → rule ≡ other

abbrev pub WordsOfErrorRulesDiffer : Type 0
WordsOfErrorRulesDiffer = (rule other : ErrorRule) → error_rule_word rule ≡ error_rule_word other → rule ≡ other

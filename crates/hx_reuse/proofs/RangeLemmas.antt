-- A request for a range is decided as one for the whole, over a line that doesn't forward ranges.
use Rattle.std.proofs.Common.{◌≡◌, ℕ, false, List, refl, sym, ◌∙◌, ap}
use Rattle.std.specs.Prelude.{not, ◌||◌, ◌==◌, bytes_eq, codes, length, find, filter, is_none, Option, option_map}
use Rattle.hx_directives.specs.Occurrences.{occurrences_of}
use Rattle.hx_directives.specs.declared.occurrences.Occurrence.{Occurrence}
use Rattle.hx_target.specs.declared.keys.Key.{Key}
use Rattle.hx_target.specs.Keys.{same_key}
use Rattle.hx_age.specs.Age.{age_of}
use Rattle.hx_hop.specs.declared.request_view.Asked.{Asked}
use Rattle.hx_hop.specs.Bypass.{asks_for_range}
use Rattle.hx_store.specs.Stored.{Stored}
use Rattle.hx_policy.specs.declared.words.Policy.{Policy}
use Rattle.hx_reuse.specs.declared.rule.ReuseRule.{ReuseRule}
use Rattle.hx_reuse.specs.declared.rule.ReuseRule.TheVariants.{Operator, Method, Content, Range, Precondition, UriMiss, VaryMiss}
use Rattle.hx_reuse.specs.Chosen.{chosen_of}
use Rattle.hx_reuse.specs.Lifetimes.{lifetime_of_stored_response}
use Rattle.hx_reuse.specs.Rules.{situation_with, situation_of_request, is_some_and, reuse_rule_condition, reuse_rule_applies, reuse_rules, least_reuse_rule_of, decision_by_rule, decision_of}
use Rattle.hx_reuse.specs.Ranges.{RequestsAskForTheSameResponse, RangeDoesNotChangeTheDecision, ForwardedRangesGoPastTheStore}
use Rattle.hx_fields.proofs.JoinedTests.{never, first_absent, second_false}
use Rattle.hx_reuse.proofs.LineLemmas.{same_found, same_of_some}
use Rattle.hx_reuse.proofs.MeaningLemmas.{may_be_sent}

module _ (policy : Policy) (held : List Stored) (asked other : Asked) (now : ℕ) (served : policy.forwards_ranges ≡ false) (like : RequestsAskForTheSameResponse held asked other) where
  same_apply : (which : ReuseRule) → reuse_rule_applies which policy held asked now ≡ reuse_rule_applies which policy held other now
  same_apply Operator = refl
  same_apply Method = ap (λ (m : List ℕ). not (bytes_eq m (codes "GET") || bytes_eq m (codes "HEAD"))) like.same_method
  same_apply Content = like.same_content
  same_apply Range = first_absent policy.forwards_ranges (asks_for_range asked) served ∙ sym (first_absent policy.forwards_ranges (asks_for_range other) served)
  same_apply Precondition = like.same_precondition
  same_apply UriMiss = ap (λ (k : Key). length (filter (λ e. same_key e.key k) held) == 0) like.one_key
  same_apply VaryMiss = ap is_none like.same_chosen_response
  same_apply which =
      same_of_some (λ e. reuse_rule_condition which (situation_of_request policy e asked now)) (λ e. reuse_rule_condition which (situation_of_request policy e other now)) (chosen_of held asked)
      (λ e. ap (λ (found : List Occurrence). reuse_rule_condition which (situation_with policy (lifetime_of_stored_response policy e) (age_of e.times now) (occurrences_of e.fields) found)) like.same_directives)
      ∙ ap (is_some_and (λ e. reuse_rule_condition which (situation_of_request policy e other now))) like.same_chosen_response

  pub decides_alike : decision_of policy held asked now ≡ decision_of policy held other now
  unfolding decision_of least_reuse_rule_of
  decides_alike =
      let rule = same_found (λ which. reuse_rule_applies which policy held asked now) (λ which. reuse_rule_applies which policy held other now) reuse_rules same_apply in
      ap (λ (o : Option ReuseRule). decision_by_rule o (option_map (λ e. e.serial) (chosen_of held asked))) rule
      ∙ ap (λ (c : Option Stored). decision_by_rule (find (λ which. reuse_rule_applies which policy held other now) reuse_rules) (option_map (λ e. e.serial) c)) like.same_chosen_response

pub range_decides_nothing : RangeDoesNotChangeTheDecision
range_decides_nothing policy held asked other now served like = decides_alike policy held asked other now served like

pub forwarded_go_past : ForwardedRangesGoPastTheStore
forwarded_go_past policy held asked now serial forwards asks h =
    let none = (may_be_sent policy held asked now serial h).no_rule Range in
    never (sym asks ∙ second_false policy.forwards_ranges (asks_for_range asked) forwards none)

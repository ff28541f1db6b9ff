-- Nobody waits in vain: a rule that keeps all that is held for its key from a request that waited looks at a response.
use Rattle.std.proofs.Common.{◌≡◌, inl, inr, ℕ, ◌<◌, ◌≤◌, Bool, true, false, not, ◌&&◌, Option, None, Some, List, sym, ◌∙◌, ap, refl, arith}
use Rattle.std.specs.Prelude.{length, nat_eq}
use Rattle.std.specs.List.{Contains}
use Rattle.std.proofs.lemmas.Bool.{false≢true}
use Rattle.hx_fields.proofs.JoinedTests.{second_false}
use Rattle.hx_policy.specs.declared.words.Policy.{Policy}
use Rattle.hx_target.specs.Keys.{same_key}
use Rattle.hx_hop.specs.declared.request_view.Asked.{Asked}
use Rattle.hx_store.specs.Stored.{Stored}
use Rattle.hx_reuse.specs.Chosen.{entries_of_key, chosen_of}
use Rattle.hx_reuse.specs.RuleNames.{reuse_rule_number}
use Rattle.hx_reuse.specs.Rules.{reuse_rule_applies, situation_of_request, situation_is_fresh, is_some_and, is_rule_on_chosen, decision_of}
use Rattle.hx_reuse.specs.ChosenAndNamed.{IsLeastReuseRule}
use Rattle.hx_reuse.specs.declared.rule.ReuseRule.{ReuseRule}
use Rattle.hx_reuse.specs.declared.rule.ReuseRule.TheVariants as rules
use Rattle.hx_reuse.specs.declared.decision.Decision.{Decision}
use Rattle.hx_reuse.specs.declared.decision.Decision.TheVariants as decision
use Rattle.hx_reuse.proofs.MeaningLemmas.{names_the_least}
use Rattle.hx_reuse.proofs.Preferred.{member_filter}
use Rattle.hx_reuse.proofs.RuleLemmas.{some_there}
use Rattle.hx_reuse.proofs.Choice.{member_contained}
use Rattle.proxy_core.specs.declared.open.awaited.Awaited.{Awaited}
use Rattle.proxy_core.specs.declared.open.awaited.Awaited.TheVariants.{Missing, Expired}
use Rattle.proxy_core.specs.Awaiting.{no_cache_request_is_heeded, RuleAllowsAwaiting, RequestMayAwaitAnother, rule_depends_on_the_response, IsServedUnlessTheResponseForbids, WaiterIsServedUnlessTheResponseForbids}

late_if_named : (rule : ReuseRule) → is_rule_on_chosen rule ≡ true → 5 ≤ reuse_rule_number rule
late_if_named rules.Operator h = absurd (false≢true h)
late_if_named rules.Method h = absurd (false≢true h)
late_if_named rules.Content h = absurd (false≢true h)
late_if_named rules.Range h = absurd (false≢true h)
late_if_named rules.Precondition h = absurd (false≢true h)
late_if_named rules.UriMiss h = omega arith
late_if_named rules.VaryMiss h = omega arith
late_if_named rules.ResponseNoCache h = omega arith
late_if_named rules.RequestNoCache h = omega arith
late_if_named rules.AboveMaxAge h = omega arith
late_if_named rules.BelowMinFresh h = omega arith
late_if_named rules.MustRevalidate h = omega arith
late_if_named rules.NoLifetime h = omega arith
late_if_named rules.StaleNoCache h = omega arith
late_if_named rules.NoMaxStale h = omega arith
late_if_named rules.PastMaxStale h = omega arith
late_if_named rules.StaleMaxAge h = omega arith
late_if_named rules.StaleMinFresh h = omega arith

-- what is awaited is left by none of the request's own rules
late_enough : (policy : Policy) (held : List Stored) (asked : Asked) (now : ℕ) (rule : ReuseRule) (awaited : Awaited) → RuleAllowsAwaiting policy held asked now rule awaited → 5 ≤ reuse_rule_number rule
late_enough policy held asked now rule Missing is = le_of_eq (reuse_rule_number rule) (ap reuse_rule_number is)
  where
    le_of_eq : (n : ℕ) → n ≡ 5 → 5 ≤ n
    le_of_eq n h = omega (arith, h)
late_enough policy held asked now rule (Expired serial) is = late_if_named rule is.1

module _ (policy : Policy) (held later : List Stored) (asked : Asked) (now moment : ℕ) (awaited : Awaited) (response : Stored)
    (word : policy.waits_for_stale ≡ true) (w : RequestMayAwaitAnother policy held asked now awaited) (is_held : Contains later response) (of_key : same_key response.key asked.target.key ≡ true) where
  own : (r : ReuseRule) → reuse_rule_number r < 5 → reuse_rule_applies r policy held asked now ≡ false
  own r early = w.is_least.none_before r (before (reuse_rule_number r) (reuse_rule_number w.rule) early (late_enough policy held asked now w.rule awaited w.leaves))
    where
      before : (m n : ℕ) → m < 5 → 5 ≤ n → m < n
      before m n a b = omega (arith, a, b)

  held_for_it : nat_eq (length (entries_of_key later asked)) 0 ≡ false
  held_for_it = some_there (entries_of_key later asked) response (member_filter (λ x. same_key x.key asked.target.key) later response of_key (member_contained later response is_held))

  unasked : no_cache_request_is_heeded policy asked ≡ false
  unasked = second_false policy.waits_for_stale (no_cache_request_is_heeded policy asked) word w.no_cache_is_not_heeded

  no_cache : (test : Stored → Bool) (c : Option Stored) → is_some_and (λ e. test e && no_cache_request_is_heeded policy asked) c ≡ true → ⊥
  no_cache test None h = false≢true h
  no_cache test (Some e) h = by_test (test e) (no_cache_request_is_heeded policy asked) unasked h
    where
      by_test : (a b : Bool) → b ≡ false → (a && b) ≡ true → ⊥
      by_test true b k h = false≢true (sym k ∙ h)
      by_test false b k h = false≢true h

  looks : (rule : ReuseRule) → IsLeastReuseRule policy later asked moment rule → rule_depends_on_the_response rule ≡ true
  looks rules.Operator least = absurd (false≢true (sym (own rules.Operator (omega arith)) ∙ least.rule_applies))
  looks rules.Method least = absurd (false≢true (sym (own rules.Method (omega arith)) ∙ least.rule_applies))
  looks rules.Content least = absurd (false≢true (sym (own rules.Content (omega arith)) ∙ least.rule_applies))
  looks rules.Range least = absurd (false≢true (sym (own rules.Range (omega arith)) ∙ least.rule_applies))
  looks rules.Precondition least = absurd (false≢true (sym (own rules.Precondition (omega arith)) ∙ least.rule_applies))
  looks rules.UriMiss least = absurd (false≢true (sym held_for_it ∙ least.rule_applies))
  looks rules.VaryMiss least = refl
  looks rules.ResponseNoCache least = refl
  looks rules.RequestNoCache least = absurd (no_cache (λ e. situation_is_fresh (situation_of_request policy e asked moment)) (chosen_of later asked) least.rule_applies)
  looks rules.AboveMaxAge least = refl
  looks rules.BelowMinFresh least = refl
  looks rules.MustRevalidate least = refl
  looks rules.NoLifetime least = refl
  looks rules.StaleNoCache least = absurd (no_cache (λ e. not (situation_is_fresh (situation_of_request policy e asked moment))) (chosen_of later asked) least.rule_applies)
  looks rules.NoMaxStale least = refl
  looks rules.PastMaxStale least = refl
  looks rules.StaleMaxAge least = refl
  looks rules.StaleMinFresh least = refl

  kept_back : (d : Decision) → decision_of policy later asked moment ≡ d → IsServedUnlessTheResponseForbids policy later asked moment
  kept_back (decision.Hit serial) d = inl (serial, d)
  kept_back (decision.Forward rule named) d =
      let least = (names_the_least policy later asked moment rule named d).0 in
      inr (rule, least, looks rule least)

pub kept_back_by_the_answer_alone : WaiterIsServedUnlessTheResponseForbids
kept_back_by_the_answer_alone policy held later asked now moment awaited response word w is_held of_key =
    kept_back policy held later asked now moment awaited response word w is_held of_key (decision_of policy later asked moment) refl

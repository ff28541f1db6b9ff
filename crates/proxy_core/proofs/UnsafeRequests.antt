-- No stored response answers an unsafe request: by its method it goes forward, and about none that is held.
use Rattle.std.proofs.Common.{◌≡◌, ℕ, Bool, true, false, not, cond, ◌||◌, List, [], ◌∷◌, None, Some, refl, sym, ap, inl, inr}
use Rattle.std.specs.List.{find, list_any}
use Rattle.std.proofs.lemmas.Bool.{cases_Bool, false≢true}
use Rattle.http.specs.Method.{safe_methods, is_among}
use Rattle.std.specs.Prelude.{bytes_eq, codes}
use Rattle.hx_policy.specs.declared.words.Policy.{Policy}
use Rattle.hx_hop.specs.declared.request_view.Asked.{Asked}
use Rattle.hx_store.specs.Stored.{Stored}
use Rattle.hx_reuse.specs.Rules.{decision_of, reuse_rule_applies}
use Rattle.hx_reuse.specs.declared.rule.ReuseRule.{ReuseRule}
use Rattle.hx_reuse.specs.declared.rule.ReuseRule.TheVariants as rules
use Rattle.hx_reuse.specs.declared.decision.Decision.TheVariants as decision
use Rattle.hx_reuse.proofs.RuleLemmas.{by_operator, by_request}
use Rattle.proxy_core.specs.declared.steps.fallback.FallbackDecision.TheVariants.{Refuses}
use Rattle.proxy_core.specs.Outcomes.{fallback_for_failed_answer}

pub by_no_method : (m : List ℕ) → is_among safe_methods m ≡ false → not (bytes_eq m (codes "GET") || bytes_eq m (codes "HEAD")) ≡ true
by_no_method m h = turned (bytes_eq m (codes "GET")) (bytes_eq m (codes "HEAD")) (list_any (bytes_eq m) (codes "OPTIONS" ∷ codes "TRACE" ∷ codes "QUERY" ∷ [])) h
  where
    turned : (a b c : Bool) → (a || (b || c)) ≡ false → not (a || b) ≡ true
    turned true b c h = absurd (false≢true (sym h))
    turned false true c h = absurd (false≢true (sym h))
    turned false false c h = refl

unsafe_forwards : (policy : Policy) (es : List Stored) (asked : Asked) (now : ℕ) → is_among safe_methods asked.method ≡ false → (rule : ReuseRule) × (decision_of policy es asked now ≡ decision.Forward rule None)
unsafe_forwards policy es asked now u = elim (cases_Bool policy.caches) [
  | inl t ↦ (
    rules.Method,
    sym (by_request policy t es asked now rules.Method
        (ap (λ b. cond b (Some rules.Method) (find (λ r. reuse_rule_applies r policy es asked now) (rules.Content ∷ rules.Range ∷ rules.Precondition ∷ []))) (by_no_method asked.method u))),
  )
  | inr f ↦ (rules.Operator, sym (by_operator policy es asked now f))
]

-- so where its origin fails none is sent
pub unsafe_refuses : (policy : Policy) (es : List Stored) (asked : Asked) (now : ℕ) → is_among safe_methods asked.method ≡ false → (rule : ReuseRule) × (fallback_for_failed_answer policy es asked now (decision_of policy es asked now) ≡ Refuses rule None)
unsafe_refuses policy es asked now u =
    let forwards = unsafe_forwards policy es asked now u in
    (forwards.0, ap (fallback_for_failed_answer policy es asked now) forwards.1)

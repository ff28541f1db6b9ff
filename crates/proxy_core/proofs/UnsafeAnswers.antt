-- What an answer to an unsafe request invalidates is told by its status alone: the request carries no conditions of the
-- proxy, so that no 304 validates anything.
use Rattle.std.proofs.Common.{◌≡◌, ◌<◌, ◌⊎◌, ℕ, Bool, true, false, not, cond, ◌&&◌, ◌==◌, List, Option, None, Some, is_some, refl, sym, ◌∙◌, ap, arith, inl, inr}
use Rattle.std.specs.Prelude.{nat_le}
use Rattle.std.proofs.lemmas.Bool.{cases_Bool, false≢true}
use Rattle.http.specs.Method.{safe_methods, is_among}
use Rattle.hx_framing.specs.declared.messages.Response.{Response}
use Rattle.hx_allow.specs.TableLines.{Table}
use Rattle.hx_allow.specs.Matching.{policy_of}
use Rattle.hx_store.specs.Stored.{Stored}
use Rattle.hx_reuse.specs.Rules.{decision_of, is_rule_on_chosen}
use Rattle.hx_reuse.specs.RuleNames.{reuse_rule_number}
use Rattle.hx_reuse.specs.ChosenAndNamed.{RuleOnChosenNamesItsSerial}
use Rattle.hx_reuse.specs.declared.rule.ReuseRule.{ReuseRule}
use Rattle.hx_reuse.specs.declared.rule.ReuseRule.TheVariants as rules
use Rattle.proxy_core.specs.declared.steps.condition.Condition.{Condition}
use Rattle.proxy_core.specs.declared.open.exchange.Exchange.{Exchange}
use Rattle.proxy_core.specs.Histories.{held_entries}
use Rattle.proxy_core.specs.Traces.{Item}
use Rattle.proxy_core.specs.Outcomes.{outcome_of_answer}
use Rattle.proxy_core.specs.Storing.{status_invalidates, key_invalidated}
use Rattle.proxy_core.specs.Validating.{condition_to_revalidate_serial, is_304_to_own_conditions}
use Rattle.proxy_core.specs.Promises.{key_invalidated_by_answer}
use Rattle.proxy_core.specs.Carrying.{ExchangeWasJudged, ExchangeWentForwardOnce, ExchangeWentForwardASecondTime, HasWaitedSinceItsArrival}
use Rattle.proxy_core.proofs.Moves.{and_none, key_taken_by_answer, same_key_invalidated}
use Rattle.proxy_core.proofs.UnsafeRequests.{by_no_method}
use Rattle.proxy_core.specs.Starts.{StoreAtStart}

-- the rule of the method comes before those on the chosen response
behind_the_method : (r : ReuseRule) → is_rule_on_chosen r ≡ true → reuse_rule_number rules.Method < reuse_rule_number r
behind_the_method rules.Operator h = absurd (false≢true h)
behind_the_method rules.Method h = absurd (false≢true h)
behind_the_method rules.Content h = absurd (false≢true h)
behind_the_method rules.Range h = absurd (false≢true h)
behind_the_method rules.Precondition h = absurd (false≢true h)
behind_the_method rules.UriMiss h = absurd (false≢true h)
behind_the_method rules.VaryMiss h = absurd (false≢true h)
behind_the_method rules.ResponseNoCache h = omega arith
behind_the_method rules.RequestNoCache h = omega arith
behind_the_method rules.AboveMaxAge h = omega arith
behind_the_method rules.BelowMinFresh h = omega arith
behind_the_method rules.MustRevalidate h = omega arith
behind_the_method rules.NoLifetime h = omega arith
behind_the_method rules.StaleNoCache h = omega arith
behind_the_method rules.NoMaxStale h = omega arith
behind_the_method rules.PastMaxStale h = omega arith
behind_the_method rules.StaleMaxAge h = omega arith
behind_the_method rules.StaleMinFresh h = omega arith

module _ (table : Table) (start : StoreAtStart) (x : Exchange) (past : List Item) (a : ExchangeWasJudged table start x past) where
  -- an unsafe request asks about no held response
  no_condition : is_among safe_methods x.asked.method ≡ false → x.condition ≡ None
  no_condition u = by_going a.went
    where
      late : is_rule_on_chosen x.rule ≡ true → ⊥
      late h = false≢true (sym (a.rule_is_least.none_before rules.Method (behind_the_method x.rule h)) ∙ by_no_method x.asked.method u)

      by_name : (against : Option ℕ) → RuleOnChosenNamesItsSerial (held_entries table start a.before) x.asked x.rule against → against ≡ None
      by_name against (inl low) = low.1
      by_name against (inr high) = absurd (late high.0)

      by_going : ExchangeWentForwardOnce table start x a.since a.before a.now a.item.outcome ⊎ (ExchangeWentForwardASecondTime table x a.since ⊎ HasWaitedSinceItsArrival table start x a.since a.before a.item.outcome) → x.condition ≡ None
      by_going (inl once) = once.condition ∙ ap (condition_to_revalidate_serial (held_entries table start a.before)) (by_name once.against once.names)
      by_going (inr (inl more)) = more.condition
      by_going (inr (inr waits)) = waits.condition ∙ ap (condition_to_revalidate_serial (held_entries table start a.before)) (by_name waits.against waits.names)

  validates_nothing : (r : Response) → is_among safe_methods x.asked.method ≡ false → is_304_to_own_conditions x r ≡ false
  validates_nothing r u = ap (λ (c : Option Condition). (r.status == 304) && is_some c) (no_condition u) ∙ and_none (r.status == 304)

  by_status : (r : Response) → key_invalidated_by_answer x.asked r ≡ key_invalidated x r
  by_status r = elim (cases_Bool (is_among safe_methods x.asked.method)) [
    | inl s ↦ (
        let c = nat_le 200 r.status && nat_le r.status 399 in
        ap (λ b. cond (not b && c) (Some x.asked.target.key) None) s
        ∙ sym (ap (λ b. cond ((not b && c) && not (is_304_to_own_conditions x r)) (Some x.asked.target.key) None) s)
        )
    | inr u ↦ (
        let i = status_invalidates x.asked r.status in
        ap (λ b. cond b (Some x.asked.target.key) None) (whole i)
        ∙ sym (ap (λ b. cond (i && not b) (Some x.asked.target.key) None) (validates_nothing r u))
        )
  ]
    where
      whole : (b : Bool) → b ≡ (b && true)
      whole true = refl
      whole false = refl

  -- what the status says is what the outcome shows
  pub status_is_shown : (es : List Stored) (now : ℕ) (r : Response) (next : Option ℕ) →
      key_invalidated_by_answer x.asked r ≡ key_taken_by_answer x.asked r (outcome_of_answer table es now x r next (decision_of (policy_of table.lines x.line) es x.asked now))
  status_is_shown es now r next = by_status r ∙ same_key_invalidated table es now x r next

-- What a request could be sent of the answer to another, in the standard's words, and by the first rule.
use Rattle.std.proofs.Common.{◌≡◌, ℕ, ◌<◌, Bool, true, false, cond, not, ◌&&◌, ◌||◌, Option, None, Some, List, refl, sym, ◌∙◌, ap, subst, inl, inr, arith}
use Rattle.std.specs.Prelude.{nat_lt, if◌then◌else◌, codes}
use Rattle.std.proofs.lemmas.Bool.{false≢true}
use Rattle.std.proofs.lemmas.Option.{same_Some}
use Rattle.hx_fields.specs.Line.{Field}
use Rattle.hx_fields.specs.FieldLines.{has_field as has_line}
use Rattle.hx_fields.proofs.JoinedTests.{below, is_below, first_absent, last_absent, not_first, second_false, not_true}
use Rattle.hx_policy.specs.declared.words.Policy.{Policy}
use Rattle.hx_policy.specs.Policies.{lifetime_given_by_policy}
use Rattle.hx_directives.specs.Occurrences.{occurrences_of}
use Rattle.hx_directives.specs.Answers.{directive_occurs, seconds_of_directive}
use Rattle.hx_directives.specs.declared.names.Directive.TheVariants as directive
use Rattle.hx_age.specs.declared.lifetimes.Lifetime.{Lifetime}
use Rattle.hx_age.specs.declared.moments.Times.{Times}
use Rattle.hx_age.specs.Age.{lifetime_shortened_to_end_by}
use Rattle.hx_age.specs.Lifetime.{lifetime_of, explicit_lifetime, seconds_or_zero, seconds_from_date_to_expires}
use Rattle.hx_hop.specs.declared.request_view.Asked.{Asked}
use Rattle.hx_store.specs.Stored.{Stored}
use Rattle.hx_store.specs.Serials.{SerialsAreDistinct}
use Rattle.hx_store.specs.Shelf.{serials, find_entry_of_serial}
use Rattle.std.specs.Option.{option_and_then}
use Rattle.hx_reuse.proofs.Choice.{found_by_serial, chosen_is_held}
use Rattle.hx_reuse.specs.Lifetimes.{lifetime_of_stored_response, lifetime_under_policy, lifetime_capped_at, lifetime_or_given_by_operator}
use Rattle.hx_reuse.specs.Chosen.{chosen_of}
use Rattle.hx_reuse.specs.RuleNames.{reuse_rule_number}
use Rattle.hx_reuse.specs.Rules.{ReuseSituation, reuse_rule_condition, reuse_rule_applies, rule_applies_to_chosen, situation_of_request, situation_is_fresh, is_some_and, is_rule_on_chosen, decision_of}
use Rattle.hx_reuse.specs.ChosenAndNamed.{IsLeastReuseRule, RuleOnChosenNamesItsSerial}
use Rattle.hx_reuse.specs.declared.rule.ReuseRule.{ReuseRule}
use Rattle.hx_reuse.specs.declared.rule.ReuseRule.TheVariants as rules
use Rattle.hx_reuse.specs.declared.decision.Decision.TheVariants as decision
use Rattle.hx_reuse.proofs.MeaningLemmas.{forwards, names_the_least}
use Rattle.proxy_core.specs.declared.open.awaited.Awaited.{Awaited}
use Rattle.proxy_core.specs.declared.open.awaited.Awaited.TheVariants.{Missing, Expired}
use Rattle.proxy_core.specs.Leading.{is_get, is_uri_miss}
use Rattle.proxy_core.specs.Awaiting.{no_cache_request_is_heeded, StaleResponseCanBeFreshAgain, RuleAllowsAwaiting, RequestMayAwaitAnother, is_staleness_rule, awaited_for_chosen_response, response_awaited_by_rule, chosen_by_serial, response_awaited_by_request}

-- ---- a lifetime above 0 is stated, or given

no_seconds : (n : ℕ) → n ≡ 0 → nat_lt 0 n ≡ true → {P : Type 0} → P
no_seconds n z h = absurd (false≢true (ap (nat_lt 0) (sym z) ∙ h))

unstated_is_zero : (a b c : Bool) (k l m : ℕ) →
    (if a then explicit_lifetime k else if b then explicit_lifetime l else if c then explicit_lifetime m else record { explicit = false; seconds = 0 }).explicit ≡ false →
    (if a then explicit_lifetime k else if b then explicit_lifetime l else if c then explicit_lifetime m else record { explicit = false; seconds = 0 }).seconds ≡ 0
unstated_is_zero true b c k l m h = absurd (false≢true (sym h))
unstated_is_zero false true c k l m h = absurd (false≢true (sym h))
unstated_is_zero false false true k l m h = absurd (false≢true (sym h))
unstated_is_zero false false false k l m h = refl

stated_or_zero : (fields : List Field) → (lifetime_of fields).explicit ≡ false → (lifetime_of fields).seconds ≡ 0
stated_or_zero fields h =
    unstated_is_zero (directive_occurs (occurrences_of fields) directive.SMaxage) (directive_occurs (occurrences_of fields) directive.MaxAge) (has_line fields (codes "Expires"))
    (seconds_or_zero (seconds_of_directive (occurrences_of fields) directive.SMaxage)) (seconds_or_zero (seconds_of_directive (occurrences_of fields) directive.MaxAge)) (seconds_from_date_to_expires fields) h

lifetime_is_stated : (policy : Policy) (status : ℕ) (fields : List Field) → nat_lt 0 (lifetime_under_policy policy status fields).seconds ≡ true → (lifetime_under_policy policy status fields).explicit ≡ true
lifetime_is_stated policy status fields h = by_test (lifetime_of fields).explicit refl h
  where
    by_given : (given : Option ℕ) → (lifetime_of fields).explicit ≡ false → nat_lt 0 (lifetime_or_given_by_operator given (lifetime_of fields)).seconds ≡ true → (lifetime_or_given_by_operator given (lifetime_of fields)).explicit ≡ true
    by_given None k h = no_seconds (lifetime_of fields).seconds (stated_or_zero fields k) h
    by_given (Some n) k h = refl

    at_most : (most : Option ℕ) → (lifetime_of fields).explicit ≡ true → (lifetime_capped_at most (lifetime_of fields)).explicit ≡ true
    at_most None k = k
    at_most (Some most) k = k

    by_test : (b : Bool) → (lifetime_of fields).explicit ≡ b →
        nat_lt 0 (if b then lifetime_capped_at policy.lifetime_most (lifetime_of fields) else lifetime_or_given_by_operator (lifetime_given_by_policy policy status) (lifetime_of fields)).seconds ≡ true →
        (if b then lifetime_capped_at policy.lifetime_most (lifetime_of fields) else lifetime_or_given_by_operator (lifetime_given_by_policy policy status) (lifetime_of fields)).explicit ≡ true
    by_test true k h = at_most policy.lifetime_most k
    by_test false k h = by_given (lifetime_given_by_policy policy status) k h

-- a purge ends a lifetime, which stays one that is stated or given
same_explicit : (purge : Option ℕ) (times : Times) (lifetime : Lifetime) → (lifetime_shortened_to_end_by purge times lifetime).explicit ≡ lifetime.explicit
same_explicit None times lifetime = refl
same_explicit (Some moment) times lifetime = refl

held_is_stated : (policy : Policy) (e : Stored) → nat_lt 0 (lifetime_under_policy policy e.status e.fields).seconds ≡ true → (lifetime_of_stored_response policy e).explicit ≡ true
held_is_stated policy e h =
    same_explicit e.times.expired e.times (lifetime_under_policy policy e.status e.fields) ∙ lifetime_is_stated policy e.status e.fields h

-- ---- rules

pub miss_alone : (rule : ReuseRule) → is_uri_miss rule ≡ true → rule ≡ rules.UriMiss
miss_alone rules.Operator h = absurd (false≢true h)
miss_alone rules.Method h = absurd (false≢true h)
miss_alone rules.Content h = absurd (false≢true h)
miss_alone rules.Range h = absurd (false≢true h)
miss_alone rules.Precondition h = absurd (false≢true h)
miss_alone rules.UriMiss h = refl
miss_alone rules.VaryMiss h = absurd (false≢true h)
miss_alone rules.ResponseNoCache h = absurd (false≢true h)
miss_alone rules.RequestNoCache h = absurd (false≢true h)
miss_alone rules.AboveMaxAge h = absurd (false≢true h)
miss_alone rules.BelowMinFresh h = absurd (false≢true h)
miss_alone rules.MustRevalidate h = absurd (false≢true h)
miss_alone rules.NoLifetime h = absurd (false≢true h)
miss_alone rules.StaleNoCache h = absurd (false≢true h)
miss_alone rules.NoMaxStale h = absurd (false≢true h)
miss_alone rules.PastMaxStale h = absurd (false≢true h)
miss_alone rules.StaleMaxAge h = absurd (false≢true h)
miss_alone rules.StaleMinFresh h = absurd (false≢true h)

pub expired_names : (rule : ReuseRule) → is_staleness_rule rule ≡ true → is_rule_on_chosen rule ≡ true
expired_names rules.Operator h = absurd (false≢true h)
expired_names rules.Method h = absurd (false≢true h)
expired_names rules.Content h = absurd (false≢true h)
expired_names rules.Range h = absurd (false≢true h)
expired_names rules.Precondition h = absurd (false≢true h)
expired_names rules.UriMiss h = absurd (false≢true h)
expired_names rules.VaryMiss h = absurd (false≢true h)
expired_names rules.ResponseNoCache h = absurd (false≢true h)
expired_names rules.RequestNoCache h = absurd (false≢true h)
expired_names rules.AboveMaxAge h = absurd (false≢true h)
expired_names rules.BelowMinFresh h = absurd (false≢true h)
expired_names rules.MustRevalidate h = refl
expired_names rules.NoLifetime h = absurd (false≢true h)
expired_names rules.StaleNoCache h = absurd (false≢true h)
expired_names rules.NoMaxStale h = refl
expired_names rules.PastMaxStale h = refl
expired_names rules.StaleMaxAge h = refl
expired_names rules.StaleMinFresh h = refl

pub named_is_no_miss : (rule : ReuseRule) → is_rule_on_chosen rule ≡ true → is_uri_miss rule ≡ false
named_is_no_miss rules.Operator h = refl
named_is_no_miss rules.Method h = refl
named_is_no_miss rules.Content h = refl
named_is_no_miss rules.Range h = refl
named_is_no_miss rules.Precondition h = refl
named_is_no_miss rules.UriMiss h = absurd (false≢true h)
named_is_no_miss rules.VaryMiss h = refl
named_is_no_miss rules.ResponseNoCache h = refl
named_is_no_miss rules.RequestNoCache h = refl
named_is_no_miss rules.AboveMaxAge h = refl
named_is_no_miss rules.BelowMinFresh h = refl
named_is_no_miss rules.MustRevalidate h = refl
named_is_no_miss rules.NoLifetime h = refl
named_is_no_miss rules.StaleNoCache h = refl
named_is_no_miss rules.NoMaxStale h = refl
named_is_no_miss rules.PastMaxStale h = refl
named_is_no_miss rules.StaleMaxAge h = refl
named_is_no_miss rules.StaleMinFresh h = refl

-- no-cache of the response comes before each of the five
after_no_cache : (rule : ReuseRule) → is_staleness_rule rule ≡ true → reuse_rule_number rules.ResponseNoCache < reuse_rule_number rule
after_no_cache rules.Operator h = absurd (false≢true h)
after_no_cache rules.Method h = absurd (false≢true h)
after_no_cache rules.Content h = absurd (false≢true h)
after_no_cache rules.Range h = absurd (false≢true h)
after_no_cache rules.Precondition h = absurd (false≢true h)
after_no_cache rules.UriMiss h = absurd (false≢true h)
after_no_cache rules.VaryMiss h = absurd (false≢true h)
after_no_cache rules.ResponseNoCache h = absurd (false≢true h)
after_no_cache rules.RequestNoCache h = absurd (false≢true h)
after_no_cache rules.AboveMaxAge h = absurd (false≢true h)
after_no_cache rules.BelowMinFresh h = absurd (false≢true h)
after_no_cache rules.MustRevalidate h = omega arith
after_no_cache rules.NoLifetime h = absurd (false≢true h)
after_no_cache rules.StaleNoCache h = absurd (false≢true h)
after_no_cache rules.NoMaxStale h = omega arith
after_no_cache rules.PastMaxStale h = omega arith
after_no_cache rules.StaleMaxAge h = omega arith
after_no_cache rules.StaleMinFresh h = omega arith

-- what the operator keeps from the store is kept for nobody
pub operator_awaits_nothing : (policy : Policy) (es : List Stored) (asked : Asked) → response_awaited_by_request policy es asked rules.Operator ≡ None
operator_awaits_nothing policy es asked = by_tests (not (is_get asked) || (policy.waits_for_stale && no_cache_request_is_heeded policy asked)) policy.waits_for_stale
  where
    by_tests : (b w : Bool) → cond b None (cond (w && false) (awaited_for_chosen_response policy (chosen_by_serial es asked)) None) ≡ None
    by_tests true w = refl
    by_tests false true = refl
    by_tests false false = refl

module _ (policy : Policy) (es : List Stored) (asked : Asked) (now : ℕ) where
  pub one_rule : (a b : ReuseRule) → IsLeastReuseRule policy es asked now a → IsLeastReuseRule policy es asked now b → a ≡ b
  one_rule a b least more =
      let one = forwards policy es asked now a least in
      let other = forwards policy es asked now b more in
      let same : decision.Forward a one.0 ≡ decision.Forward b other.0 = sym one.1 ∙ other.1 in
      cc

  pub one_named : (rule : ReuseRule) (a b : Option ℕ) → RuleOnChosenNamesItsSerial es asked rule a → RuleOnChosenNamesItsSerial es asked rule b → a ≡ b
  one_named rule a b (inl m) (inl n) = m.1 ∙ sym n.1
  one_named rule a b (inl m) (inr n) = absurd (false≢true (sym m.0 ∙ n.0))
  one_named rule a b (inr m) (inl n) = absurd (false≢true (sym n.0 ∙ m.0))
  one_named rule a b (inr m) (inr n) =
      m.1.2 ∙ ap (λ (e : Stored). Some e.serial) (same_Some m.1.0 n.1.0 (sym m.1.1 ∙ n.1.1)) ∙ sym n.1.2

  module _ (e : Stored) (chosen : chosen_of es asked ≡ Some e) where
    abbrev here : ReuseSituation
    here = situation_of_request policy e asked now

    condition_of : (rule : ReuseRule) (b : Bool) → rule_applies_to_chosen rule policy es asked now ≡ b → reuse_rule_condition rule here ≡ b
    condition_of rule b h = sym (ap (λ c. is_some_and (λ e. reuse_rule_condition rule (situation_of_request policy e asked now)) c) chosen) ∙ h

    -- of the rules on a stale response five are left
    five_are_left : situation_is_fresh here ≡ false → directive_occurs here.response directive.NoCache ≡ false → no_cache_request_is_heeded policy asked ≡ false → here.lifetime.explicit ≡ true →
        (rule : ReuseRule) → is_rule_on_chosen rule ≡ true → reuse_rule_applies rule policy es asked now ≡ true → is_staleness_rule rule ≡ true
    five_are_left stale cache asks stated rules.Operator names h = absurd (false≢true names)
    five_are_left stale cache asks stated rules.Method names h = absurd (false≢true names)
    five_are_left stale cache asks stated rules.Content names h = absurd (false≢true names)
    five_are_left stale cache asks stated rules.Range names h = absurd (false≢true names)
    five_are_left stale cache asks stated rules.Precondition names h = absurd (false≢true names)
    five_are_left stale cache asks stated rules.UriMiss names h = absurd (false≢true names)
    five_are_left stale cache asks stated rules.VaryMiss names h = absurd (false≢true names)
    five_are_left stale cache asks stated rules.ResponseNoCache names h = absurd (false≢true (sym cache ∙ condition_of rules.ResponseNoCache true h))
    five_are_left stale cache asks stated rules.RequestNoCache names h = absurd (false≢true (sym (first_absent (situation_is_fresh here) _ stale) ∙ condition_of rules.RequestNoCache true h))
    five_are_left stale cache asks stated rules.AboveMaxAge names h = absurd (false≢true (sym (first_absent (situation_is_fresh here) _ stale) ∙ condition_of rules.AboveMaxAge true h))
    five_are_left stale cache asks stated rules.BelowMinFresh names h = absurd (false≢true (sym (first_absent (situation_is_fresh here) _ stale) ∙ condition_of rules.BelowMinFresh true h))
    five_are_left stale cache asks stated rules.MustRevalidate names h = refl
    five_are_left stale cache asks stated rules.NoLifetime names h = absurd (false≢true (sym (last_absent (not (situation_is_fresh here)) (not here.lifetime.explicit) (not_true here.lifetime.explicit stated)) ∙ condition_of rules.NoLifetime true h))
    five_are_left stale cache asks stated rules.StaleNoCache names h = absurd (false≢true (sym (last_absent (not (situation_is_fresh here)) (no_cache_request_is_heeded policy asked) asks) ∙ condition_of rules.StaleNoCache true h))
    five_are_left stale cache asks stated rules.NoMaxStale names h = refl
    five_are_left stale cache asks stated rules.PastMaxStale names h = refl
    five_are_left stale cache asks stated rules.StaleMaxAge names h = refl
    five_are_left stale cache asks stated rules.StaleMinFresh names h = refl

    -- by each of these the response is stale
    is_stale_by : (rule : ReuseRule) → is_staleness_rule rule ≡ true → reuse_rule_applies rule policy es asked now ≡ true → situation_is_fresh here ≡ false
    is_stale_by rule expired h = by_fresh (situation_is_fresh here) refl
      where
        by_fresh : (b : Bool) → situation_is_fresh here ≡ b → b ≡ false
        by_fresh false k = refl
        by_fresh true k = absurd (against rule expired h)
          where
            against : (rule : ReuseRule) → is_staleness_rule rule ≡ true → reuse_rule_applies rule policy es asked now ≡ true → ⊥
            against rules.Operator expired h = false≢true expired
            against rules.Method expired h = false≢true expired
            against rules.Content expired h = false≢true expired
            against rules.Range expired h = false≢true expired
            against rules.Precondition expired h = false≢true expired
            against rules.UriMiss expired h = false≢true expired
            against rules.VaryMiss expired h = false≢true expired
            against rules.ResponseNoCache expired h = false≢true expired
            against rules.RequestNoCache expired h = false≢true expired
            against rules.AboveMaxAge expired h = false≢true expired
            against rules.BelowMinFresh expired h = false≢true expired
            against rules.MustRevalidate expired h = false≢true (sym (not_first (situation_is_fresh here) _ k) ∙ condition_of rules.MustRevalidate true h)
            against rules.NoLifetime expired h = false≢true expired
            against rules.StaleNoCache expired h = false≢true expired
            against rules.NoMaxStale expired h = false≢true (sym (not_first (situation_is_fresh here) _ k) ∙ condition_of rules.NoMaxStale true h)
            against rules.PastMaxStale expired h = false≢true (sym (not_first (situation_is_fresh here) _ k) ∙ condition_of rules.PastMaxStale true h)
            against rules.StaleMaxAge expired h = false≢true (sym (not_first (situation_is_fresh here) _ k) ∙ condition_of rules.StaleMaxAge true h)
            against rules.StaleMinFresh expired h = false≢true (sym (not_first (situation_is_fresh here) _ k) ∙ condition_of rules.StaleMinFresh true h)

  -- ---- from the words to the rule

  by_word : policy.waits_for_stale ≡ true → (policy.waits_for_stale && no_cache_request_is_heeded policy asked) ≡ false → no_cache_request_is_heeded policy asked ≡ false
  by_word w h = second_false policy.waits_for_stale (no_cache_request_is_heeded policy asked) w h

  abbrev left_by : ReuseRule → Option Awaited
  left_by rule = cond (is_uri_miss rule) (Some Missing) (cond (policy.waits_for_stale && is_staleness_rule rule) (awaited_for_chosen_response policy (chosen_of es asked)) None)

  left_by_words : (rule : ReuseRule) (awaited : Awaited) → (policy.waits_for_stale && no_cache_request_is_heeded policy asked) ≡ false → IsLeastReuseRule policy es asked now rule → RuleAllowsAwaiting policy es asked now rule awaited → left_by rule ≡ Some awaited
  left_by_words rule Missing takes least l = ap left_by l
  left_by_words rule (Expired serial) takes least l =
      let e = l.2.0 in
      let chosen = l.2.1 in
      let over = l.2.2 in
      let seconds = is_below 0 (lifetime_under_policy policy e.status e.fields).seconds over.had_lifetime in
      let expired = five_are_left e chosen over.is_over over.response_lacks_no_cache (by_word l.0 takes) (held_is_stated policy e seconds) rule l.1 least.rule_applies in
      ap (λ b. cond b (Some Missing) (cond (policy.waits_for_stale && is_staleness_rule rule) (awaited_for_chosen_response policy (chosen_of es asked)) None)) (named_is_no_miss rule l.1)
      ∙ (ap (λ b. cond (b && is_staleness_rule rule) (awaited_for_chosen_response policy (chosen_of es asked)) None) l.0
      ∙ (ap (λ b. cond b (awaited_for_chosen_response policy (chosen_of es asked)) None) expired
      ∙ (ap (awaited_for_chosen_response policy) chosen
      ∙ (ap (λ b. cond b (Some (Expired e.serial)) None) seconds
      ∙ ap (λ n. Some (Expired n)) l.2.3))))

  found_is : SerialsAreDistinct (serials es) → chosen_by_serial es asked ≡ chosen_of es asked
  found_is distinct = by_chosen (chosen_of es asked) refl
    where
      by_chosen : (c : Option Stored) → chosen_of es asked ≡ c → option_and_then (λ e. find_entry_of_serial e.serial es) c ≡ c
      by_chosen None k = refl
      by_chosen (Some e) k = found_by_serial es distinct e (chosen_is_held es asked e k)

  pub awaited_by_words : SerialsAreDistinct (serials es) → (rule : ReuseRule) (awaited : Awaited) → IsLeastReuseRule policy es asked now rule → RequestMayAwaitAnother policy es asked now awaited → response_awaited_by_request policy es asked rule ≡ Some awaited
  awaited_by_words distinct rule awaited least w =
      ap (response_awaited_by_request policy es asked) (one_rule rule w.rule least w.is_least)
      ∙ (ap (λ c. response_awaited_by_rule policy c asked w.rule) (found_is distinct)
      ∙ (ap (λ b. cond (not b || (policy.waits_for_stale && no_cache_request_is_heeded policy asked)) None (left_by w.rule)) w.gets
      ∙ (ap (λ b. cond b None (left_by w.rule)) w.no_cache_is_not_heeded
      ∙ left_by_words w.rule awaited w.no_cache_is_not_heeded w.is_least w.leaves)))

  -- ---- and back

  never_some : (awaited : Awaited) → ◌≡◌ {A = Option Awaited} None (Some awaited) → {P : Type 0} → P
  never_some awaited h = absurd (cc)

  of_chosen : (rule : ReuseRule) (awaited : Awaited) (c : Option Stored) → policy.waits_for_stale ≡ true → is_staleness_rule rule ≡ true → IsLeastReuseRule policy es asked now rule →
      chosen_of es asked ≡ c → awaited_for_chosen_response policy c ≡ Some awaited → RuleAllowsAwaiting policy es asked now rule awaited
  of_chosen rule awaited None waits expired least chosen h = never_some awaited h
  of_chosen rule awaited (Some e) waits expired least chosen h = by_seconds (nat_lt 0 (lifetime_under_policy policy e.status e.fields).seconds) refl h
    where
      over : nat_lt 0 (lifetime_under_policy policy e.status e.fields).seconds ≡ true → StaleResponseCanBeFreshAgain policy now e
      over k = record {
        had_lifetime = below 0 (lifetime_under_policy policy e.status e.fields).seconds k;
        is_over = is_stale_by e chosen rule expired least.rule_applies;
        response_lacks_no_cache = condition_of e chosen rules.ResponseNoCache false (least.none_before rules.ResponseNoCache (after_no_cache rule expired));
      }

      by_seconds : (b : Bool) → nat_lt 0 (lifetime_under_policy policy e.status e.fields).seconds ≡ b → cond b (Some (Expired e.serial)) None ≡ Some awaited → RuleAllowsAwaiting policy es asked now rule awaited
      by_seconds false k h = never_some awaited h
      by_seconds true k h =
          subst (RuleAllowsAwaiting policy es asked now rule) (same_Some (Expired e.serial) awaited h) (waits, expired_names rule expired, (e, chosen, over k, refl))

  pub awaited_in_words : SerialsAreDistinct (serials es) → (rule : ReuseRule) (awaited : Awaited) → IsLeastReuseRule policy es asked now rule → response_awaited_by_request policy es asked rule ≡ Some awaited → RequestMayAwaitAnother policy es asked now awaited
  awaited_in_words distinct rule awaited least h =
      by_request (is_get asked) (policy.waits_for_stale && no_cache_request_is_heeded policy asked) refl refl (sym (ap (λ c. response_awaited_by_rule policy c asked rule) (found_is distinct)) ∙ h)
    where
      by_rule : (m w x : Bool) → is_uri_miss rule ≡ m → policy.waits_for_stale ≡ w → is_staleness_rule rule ≡ x →
          cond m (Some Missing) (cond (w && x) (awaited_for_chosen_response policy (chosen_of es asked)) None) ≡ Some awaited → RuleAllowsAwaiting policy es asked now rule awaited
      by_rule true w x m waits expired h = subst (RuleAllowsAwaiting policy es asked now rule) (same_Some Missing awaited h) (miss_alone rule m)
      by_rule false true true m waits expired h = of_chosen rule awaited (chosen_of es asked) waits expired least refl h
      by_rule false true false m waits expired h = never_some awaited h
      by_rule false false x m waits expired h = never_some awaited h

      by_request : (g t : Bool) → is_get asked ≡ g → (policy.waits_for_stale && no_cache_request_is_heeded policy asked) ≡ t → cond (not g || t) None (left_by rule) ≡ Some awaited → RequestMayAwaitAnother policy es asked now awaited
      by_request true true gets takes h = never_some awaited h
      by_request false t gets takes h = never_some awaited h
      by_request true false gets takes h = record {
        gets = gets;
        no_cache_is_not_heeded = takes;
        rule = rule;
        is_least = least;
        leaves = by_rule (is_uri_miss rule) policy.waits_for_stale (is_staleness_rule rule) refl refl refl h;
      }

-- ---- what the code looks up

never_both : (b : Bool) → b ≡ true → b ≡ false → {P : Type 0} → P
never_both b h k = absurd (false≢true (sym k ∙ h))

abbrev left : Policy → Asked → ReuseRule → Option Stored → Bool → Option Awaited
left policy asked rule c x =
    cond (not (is_get asked) || (policy.waits_for_stale && no_cache_request_is_heeded policy asked)) None (cond (is_uri_miss rule) (Some Missing) (cond (policy.waits_for_stale && x) (awaited_for_chosen_response policy c) None))

pub awaited_is : (policy : Policy) (es : List Stored) (asked : Asked) (now : ℕ) (rule : ReuseRule) (named : Option ℕ) → decision_of policy es asked now ≡ decision.Forward rule named →
    response_awaited_by_rule policy (option_and_then (λ s. find_entry_of_serial s es) named) asked rule ≡ response_awaited_by_request policy es asked rule
awaited_is policy es asked now rule named d = by_name (names_the_least policy es asked now rule named d).1
  where
    nothing_more : (w : Bool) (a b : Option Awaited) → cond (w && false) a None ≡ cond (w && false) b None
    nothing_more true a b = refl
    nothing_more false a b = refl

    by_expired : (x : Bool) → is_staleness_rule rule ≡ x → is_rule_on_chosen rule ≡ false → (a b : Option Stored) → left policy asked rule a x ≡ left policy asked rule b x
    by_expired true k h a b = never_both (is_rule_on_chosen rule) (expired_names rule k) h
    by_expired false k h a b =
        ap (λ o. cond (not (is_get asked) || (policy.waits_for_stale && no_cache_request_is_heeded policy asked)) None (cond (is_uri_miss rule) (Some Missing) o))
        (nothing_more policy.waits_for_stale (awaited_for_chosen_response policy a) (awaited_for_chosen_response policy b))

    by_name : RuleOnChosenNamesItsSerial es asked rule named → response_awaited_by_rule policy (option_and_then (λ s. find_entry_of_serial s es) named) asked rule ≡ response_awaited_by_request policy es asked rule
    by_name (inl m) = by_expired (is_staleness_rule rule) refl m.0 (option_and_then (λ s. find_entry_of_serial s es) named) (chosen_by_serial es asked)
    by_name (inr m) =
        ap (λ (n : Option ℕ). response_awaited_by_rule policy (option_and_then (λ s. find_entry_of_serial s es) n) asked rule) m.1.2
        ∙ sym (ap (λ (c : Option Stored). response_awaited_by_rule policy (option_and_then (λ e. find_entry_of_serial e.serial es) c) asked rule) m.1.1)

pub awaited_where : (policy : Policy) (es : List Stored) (asked : Asked) (now : ℕ) (rule : ReuseRule) (named : Option ℕ) (found : Option Stored) → decision_of policy es asked now ≡ decision.Forward rule named →
    found ≡ option_and_then (λ s. find_entry_of_serial s es) named → response_awaited_by_rule policy found asked rule ≡ response_awaited_by_request policy es asked rule
awaited_where policy es asked now rule named found d is = ap (λ o. response_awaited_by_rule policy o asked rule) is ∙ awaited_is policy es asked now rule named d

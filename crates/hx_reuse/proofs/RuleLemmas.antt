-- Which rule is the least, from what is known of the request and of the chosen entry.
use Rattle.std.proofs.Common.{◌≡◌, ℕ, inl, Bool, true, false, cond, List, [], ◌∷◌, ◌++◌, length, refl, sym, ◌∙◌, ap, arith}
use Rattle.std.specs.Prelude.{◌==◌, not, filter, find, Option, Some, None, option_map, is_none}
use Rattle.std.specs.List.{AllByRecursion}
use Rattle.std.proofs.lemmas.Grind.{common_steps}
use Rattle.hx_vary.specs.Vary.{vary_matches}
use Rattle.hx_hop.specs.declared.request_view.Asked.{Asked}
use Rattle.hx_store.specs.Stored.{Stored}
use Rattle.hx_policy.specs.declared.words.Policy.{Policy}
use Rattle.hx_store.specs.Shelf.{serials_of_key}
use Rattle.hx_reuse.specs.declared.decision.Decision.TheVariants.{Hit, Forward}
use Rattle.hx_reuse.specs.declared.rule.ReuseRule.{ReuseRule}
use Rattle.hx_reuse.specs.declared.rule.ReuseRule.TheVariants.{Operator, UriMiss, VaryMiss, ResponseNoCache, RequestNoCache, AboveMaxAge, BelowMinFresh, MustRevalidate, NoLifetime, StaleNoCache, NoMaxStale, PastMaxStale, StaleMaxAge, StaleMinFresh}
use Rattle.hx_reuse.specs.Chosen.{entries_of_key, chosen_of, most_preferred_response}
use Rattle.hx_reuse.specs.Rules.{reuse_rule_condition, situation_of_request, reuse_rule_applies, is_some_and, request_bypass_rules, rules_on_chosen, least_reuse_rule_of, is_rule_on_chosen, decision_by_rule, decision_of}
use Rattle.hx_fields.proofs.FirstThat.{IsMember}
use Rattle.hx_reuse.proofs.Members.{AreSerialsOf, are_serials}

-- the first of a list that has it, and the first of the rest
find_front : {X : Type 0} (p : X → Bool) (xs ys : List X) (r : X) → find p xs ≡ Some r → find p (xs ++ ys) ≡ Some r
find_front p [] ys r h = absurd cc
find_front p (x ∷ xs) ys r h = at_head p x xs ys r (p x) h (find_front p xs ys r)
  where
    at_head : {X : Type 0} (p : X → Bool) (x : X) (xs ys : List X) (r : X) (t : Bool) → cond t (Some x) (find p xs) ≡ Some r → (find p xs ≡ Some r → find p (xs ++ ys) ≡ Some r) → cond t (Some x) (find p (xs ++ ys)) ≡ Some r
    at_head p x xs ys r true h rest = h
    at_head p x xs ys r false h rest = rest h

find_rest : {X : Type 0} (p : X → Bool) (xs ys : List X) → find p xs ≡ None → find p (xs ++ ys) ≡ find p ys
find_rest p [] ys h = refl
find_rest p (x ∷ xs) ys h = at_head p x xs ys (p x) h (find_rest p xs ys)
  where
    at_head : {X : Type 0} (p : X → Bool) (x : X) (xs ys : List X) (t : Bool) → cond t (Some x) (find p xs) ≡ None → (find p xs ≡ None → find p (xs ++ ys) ≡ find p ys) → cond t (Some x) (find p (xs ++ ys)) ≡ find p ys
    at_head p x xs ys true h rest = absurd cc
    at_head p x xs ys false h rest = rest h

-- what holds of each holds of the first that passes
find_each : {X : Type 0} (P : X → Type 0) (p : X → Bool) (xs : List X) (r : X) → AllByRecursion P xs → find p xs ≡ Some r → P r
find_each P p [] r all h = absurd cc
find_each P p (x ∷ xs) r all h = at_head P p x xs r (p x) all.0 h (find_each P p xs r all.1)
  where
    same : {X : Type 0} (x r : X) → Some x ≡ Some r → x ≡ r
    same x r h = cc

    at_head : {X : Type 0} (P : X → Type 0) (p : X → Bool) (x : X) (xs : List X) (r : X) (t : Bool) → P x → cond t (Some x) (find p xs) ≡ Some r → (find p xs ≡ Some r → P r) → P r
    at_head P p x xs r true first h rest = rw (← same x r h) first
    at_head P p x xs r false first h rest = rest h

-- two tests that agree find the same
find_same : {X : Type 0} (p q : X → Bool) (xs : List X) → AllByRecursion (λ x. p x ≡ q x) xs → find p xs ≡ find q xs
find_same p q [] all = refl
find_same p q (x ∷ xs) all = rw (all.0, find_same p q xs all.1) refl

find_head : {X : Type 0} (p : X → Bool) (x : X) (xs : List X) → p x ≡ true → find p (x ∷ xs) ≡ Some x
find_head p x xs h = rw h refl

find_skip : {X : Type 0} (p : X → Bool) (x : X) (xs : List X) → p x ≡ false → find p (x ∷ xs) ≡ find p xs
find_skip p x xs h = rw h refl

none_there : (xs : List Stored) → ((e : Stored) → IsMember e xs → ⊥) → xs ≡ []
none_there [] h = refl
none_there (x ∷ xs) h = absurd (h x (inl refl))

pub some_there : (xs : List Stored) (e : Stored) → IsMember e xs → (length xs == 0) ≡ false
some_there [] e m = absurd m
some_there (x ∷ xs) e m = grind (arith, common_steps)

-- the serials of a key, none or some, and its entries
pub none_of_key : (held : List Stored) (asked : Asked) (serials : List ℕ) → AreSerialsOf held asked serials → (length serials == 0) ≡ true → entries_of_key held asked ≡ []
none_of_key held asked [] are h = none_there (entries_of_key held asked) are.none_missing
none_of_key held asked (s ∷ ss) are h = absurd (not_empty s ss h)
  where
    not_empty : (s : ℕ) (ss : List ℕ) → (length (s ∷ ss) == 0) ≡ true → ⊥
    not_empty s ss h = grind (arith, common_steps)

pub some_of_key : (held : List Stored) (asked : Asked) (serials : List ℕ) → AreSerialsOf held asked serials → (length serials == 0) ≡ false → (length (entries_of_key held asked) == 0) ≡ false
some_of_key held asked [] are h = absurd cc
some_of_key held asked (s ∷ ss) are h = let e = are.each_held s (inl refl) in some_there (entries_of_key held asked) e.0 e.1

-- the same by the shelf's word, whether the key is held
pub unheld : (held : List Stored) (asked : Asked) → not (length (serials_of_key asked.target.key held) == 0) ≡ false → entries_of_key held asked ≡ []
unheld held asked h =
    let ss = serials_of_key asked.target.key held in
    none_of_key held asked ss (are_serials held asked ss refl) (turned (length ss == 0) h)
  where
    turned : (b : Bool) → not b ≡ false → b ≡ true
    turned true h = refl
    turned false h = sym h

pub key_held : (held : List Stored) (asked : Asked) → not (length (serials_of_key asked.target.key held) == 0) ≡ true → (length (entries_of_key held asked) == 0) ≡ false
key_held held asked h =
    let ss = serials_of_key asked.target.key held in
    some_of_key held asked ss (are_serials held asked ss refl) (turned (length ss == 0) h)
  where
    turned : (b : Bool) → not b ≡ true → b ≡ false
    turned true h = sym h
    turned false h = refl

-- where a response is chosen the key is held
pub chosen_key : (held : List Stored) (asked : Asked) (e : Stored) → chosen_of held asked ≡ Some e → (length (entries_of_key held asked) == 0) ≡ false
chosen_key held asked e h = at (entries_of_key held asked) h
  where
    at : (xs : List Stored) → most_preferred_response (filter (λ x. vary_matches x.nominated asked.fields) xs) ≡ Some e → (length xs == 0) ≡ false
    at [] k = absurd cc
    at (x ∷ xs) k = grind (arith, common_steps)

-- the outcome at a rule below 7, at one from 7 on, and at none
forward_low : (o : Option ReuseRule) (s : Option ℕ) (r : ReuseRule) → o ≡ Some r → is_rule_on_chosen r ≡ false → Forward r None ≡ decision_by_rule o s
forward_low o s r h k = rw (h, k) refl

forward_high : (o : Option ReuseRule) (s : Option ℕ) (r : ReuseRule) (n : ℕ) → o ≡ Some r → is_rule_on_chosen r ≡ true → s ≡ Some n → Forward r (Some n) ≡ decision_by_rule o s
forward_high o s r n h k l = rw (h, k, l) refl

hit : (o : Option ReuseRule) (s : Option ℕ) (n : ℕ) → o ≡ None → s ≡ Some n → Hit n ≡ decision_by_rule o s
hit o s n h k = rw (h, k) refl

-- where the operator keeps the request from the store
pub by_operator : (policy : Policy) (held : List Stored) (asked : Asked) (now : ℕ) → policy.caches ≡ false → Forward Operator None ≡ decision_of policy held asked now
unfolding least_reuse_rule_of decision_of
by_operator policy held asked now h =
    forward_low (least_reuse_rule_of policy held asked now) (option_map (λ e. e.serial) (chosen_of held asked)) Operator
    (find_head (λ r. reuse_rule_applies r policy held asked now) Operator (request_bypass_rules ++ (UriMiss ∷ VaryMiss ∷ rules_on_chosen)) (ap not h)) refl

-- where the operator doesn't
module _ (policy : Policy) (caches : policy.caches ≡ true) (held : List Stored) (asked : Asked) (now : ℕ) where
  serial_of : Option ℕ
  serial_of = option_map (λ e. e.serial) (chosen_of held asked)

  -- the operator's rule doesn't stand
  after_operator : least_reuse_rule_of policy held asked now ≡ find (λ r. reuse_rule_applies r policy held asked now) (request_bypass_rules ++ (UriMiss ∷ VaryMiss ∷ rules_on_chosen))
  unfolding least_reuse_rule_of
  after_operator = find_skip (λ r. reuse_rule_applies r policy held asked now) Operator (request_bypass_rules ++ (UriMiss ∷ VaryMiss ∷ rules_on_chosen)) (ap not caches)

  -- a rule on the request alone
  pub by_request : (rule : ReuseRule) → find (λ r. reuse_rule_applies r policy held asked now) request_bypass_rules ≡ Some rule → Forward rule None ≡ decision_of policy held asked now
  unfolding serial_of least_reuse_rule_of decision_of
  by_request rule h =
      forward_low (least_reuse_rule_of policy held asked now) serial_of rule
      (after_operator ∙ find_front (λ r. reuse_rule_applies r policy held asked now) request_bypass_rules (UriMiss ∷ VaryMiss ∷ rules_on_chosen) rule h)
      (find_each (λ r. is_rule_on_chosen r ≡ false) (λ r. reuse_rule_applies r policy held asked now) request_bypass_rules rule (refl, (refl, (refl, (refl, tt)))) h)

  module _ (free : find (λ r. reuse_rule_applies r policy held asked now) request_bypass_rules ≡ None) where
    after_request : least_reuse_rule_of policy held asked now ≡ find (λ r. reuse_rule_applies r policy held asked now) (UriMiss ∷ VaryMiss ∷ rules_on_chosen)
    unfolding least_reuse_rule_of
    after_request = after_operator ∙ find_rest (λ r. reuse_rule_applies r policy held asked now) request_bypass_rules (UriMiss ∷ VaryMiss ∷ rules_on_chosen) free

    -- no entry of the key
    pub by_uri : entries_of_key held asked ≡ [] → Forward UriMiss None ≡ decision_of policy held asked now
    unfolding serial_of least_reuse_rule_of decision_of
    by_uri h =
        forward_low (least_reuse_rule_of policy held asked now) serial_of UriMiss
        (after_request ∙ find_head (λ r. reuse_rule_applies r policy held asked now) UriMiss (VaryMiss ∷ rules_on_chosen) (ap (λ xs. length xs == 0) h)) refl

    module _ (some : (length (entries_of_key held asked) == 0) ≡ false) where
      after_uri : least_reuse_rule_of policy held asked now ≡ find (λ r. reuse_rule_applies r policy held asked now) (VaryMiss ∷ rules_on_chosen)
      unfolding least_reuse_rule_of
      after_uri = after_request ∙ find_skip (λ r. reuse_rule_applies r policy held asked now) UriMiss (VaryMiss ∷ rules_on_chosen) some

      -- none matches by Vary
      pub by_vary : chosen_of held asked ≡ None → Forward VaryMiss None ≡ decision_of policy held asked now
      unfolding serial_of least_reuse_rule_of decision_of
      by_vary h =
          forward_low (least_reuse_rule_of policy held asked now) serial_of VaryMiss
          (after_uri ∙ find_head (λ r. reuse_rule_applies r policy held asked now) VaryMiss rules_on_chosen (ap is_none h)) refl

      module _ (e : Stored) (is : chosen_of held asked ≡ Some e) where
        -- the rules on the chosen entry
        by_entry : least_reuse_rule_of policy held asked now ≡ find (λ r. reuse_rule_condition r (situation_of_request policy e asked now)) rules_on_chosen
        unfolding least_reuse_rule_of
        by_entry =
            after_uri ∙ find_skip (λ r. reuse_rule_applies r policy held asked now) VaryMiss rules_on_chosen (ap is_none is)
            ∙ find_same (λ r. reuse_rule_applies r policy held asked now) (λ r. reuse_rule_condition r (situation_of_request policy e asked now)) rules_on_chosen (
              at ResponseNoCache,
              (
                at RequestNoCache,
                (
                  at AboveMaxAge,
                  (
                    at BelowMinFresh,
                    (
                      at MustRevalidate,
                      (
                        at NoLifetime,
                        (
                          at StaleNoCache,
                          (at NoMaxStale, (at PastMaxStale, (at StaleMaxAge, (at StaleMinFresh, tt)))),
                        ),
                      ),
                    ),
                  ),
                ),
              ),
            )
          where
            at : (r : ReuseRule) → is_some_and (λ x. reuse_rule_condition r (situation_of_request policy x asked now)) (chosen_of held asked) ≡ reuse_rule_condition r (situation_of_request policy e asked now)
            at r = ap (is_some_and (λ x. reuse_rule_condition r (situation_of_request policy x asked now))) is

        pub by_rule : (rule : ReuseRule) → find (λ r. reuse_rule_condition r (situation_of_request policy e asked now)) rules_on_chosen ≡ Some rule → Forward rule (Some e.serial) ≡ decision_of policy held asked now
        unfolding serial_of least_reuse_rule_of decision_of
        by_rule rule h =
            forward_high (least_reuse_rule_of policy held asked now) serial_of rule e.serial (by_entry ∙ h)
            (find_each (λ r. is_rule_on_chosen r ≡ true) (λ r. reuse_rule_condition r (situation_of_request policy e asked now)) rules_on_chosen rule
            (refl, (refl, (refl, (refl, (refl, (refl, (refl, (refl, (refl, (refl, (refl, tt))))))))))) h)
            (ap (option_map (λ x. x.serial)) is)

        pub by_none : find (λ r. reuse_rule_condition r (situation_of_request policy e asked now)) rules_on_chosen ≡ None → Hit e.serial ≡ decision_of policy held asked now
        unfolding serial_of least_reuse_rule_of decision_of
        by_none h = hit (least_reuse_rule_of policy held asked now) serial_of e.serial (by_entry ∙ h) (ap (option_map (λ x. x.serial)) is)

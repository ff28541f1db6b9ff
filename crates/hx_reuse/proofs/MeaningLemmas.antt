-- What a decision says: a response that may be sent, or the least rule that stands.
use Rattle.std.proofs.Common.{◌≡◌, ℕ, ◌⊎◌, inl, inr, Bool, true, false, cond, List, refl, sym, ◌∙◌, ap}
use Rattle.std.specs.Prelude.{is_none, Option, Some, None, option_map}
use Rattle.hx_hop.specs.declared.request_view.Asked.{Asked}
use Rattle.hx_store.specs.Stored.{Stored}
use Rattle.hx_policy.specs.declared.words.Policy.{Policy}
use Rattle.hx_store.specs.Serials.{SerialsAreDistinct}
use Rattle.hx_store.specs.Shelf.{serials, find_entry_of_serial}
use Rattle.hx_reuse.specs.declared.decision.Decision.TheVariants.{Hit, Forward}
use Rattle.hx_reuse.specs.declared.rule.ReuseRule.{ReuseRule}
use Rattle.hx_reuse.specs.declared.rule.ReuseRule.TheVariants.{Operator, Method, Content, Range, Precondition, UriMiss, VaryMiss}
use Rattle.hx_reuse.specs.Chosen.{chosen_of}
use Rattle.hx_reuse.specs.Rules.{reuse_rule_applies, reuse_rule_condition, situation_of_request, is_some_and, is_rule_on_chosen, least_reuse_rule_of, decision_by_rule, decision_of}
use Rattle.hx_reuse.specs.ChosenAndNamed.{ResponseIsChosen, ResponseMayBeSent, IsLeastReuseRule, RuleOnChosenNamesItsSerial}
use Rattle.hx_reuse.proofs.LeastRule.{rule_is_least, least_is_rule, no_rule_applies, no_rule_found}
use Rattle.hx_reuse.proofs.Choice.{chosen_is_preferred, chosen_is_held, found_by_serial}

same_hit : (m n : ℕ) → Hit m ≡ Hit n → m ≡ n
same_hit m n h = cc

never_hit : (rule : ReuseRule) (named : Option ℕ) (n : ℕ) → Forward rule named ≡ Hit n → ⊥
never_hit rule named n h = cc

never_forward : (rule : ReuseRule) (named : Option ℕ) (n : ℕ) → Hit n ≡ Forward rule named → ⊥
never_forward rule named n h = cc

same_rule : (r q : ReuseRule) (m n : Option ℕ) → Forward r m ≡ Forward q n → r ≡ q
same_rule r q m n h = cc

same_named : (r q : ReuseRule) (m n : Option ℕ) → Forward r m ≡ Forward q n → m ≡ n
same_named r q m n h = cc

serial_of : Option Stored → Option ℕ
serial_of o = option_map (λ e. e.serial) o

-- a hit: no rule, and a chosen response, since else one of the rules would stand
hit_of : (o : Option ReuseRule) (c : Option Stored) (n : ℕ) → decision_by_rule o (serial_of c) ≡ Hit n → (o ≡ None → is_none c ≡ false) → (o ≡ None) × ((e : Stored) × (c ≡ Some e) × (e.serial ≡ n))
unfolding serial_of
hit_of (Some rule) c n h some = absurd (never_hit rule (cond (is_rule_on_chosen rule) (serial_of c) None) n h)
hit_of None None n h some = absurd (never (some refl))
  where
    never : true ≡ false → ⊥
    never k = cc
hit_of None (Some e) n h some = (refl, (e, refl, same_hit e.serial n h))

-- a test that some value passes has one
some_and : (test : Stored → Bool) (o : Option Stored) → is_some_and test o ≡ true → (e : Stored) × (o ≡ Some e)
some_and test None h = absurd (never h)
  where
    never : false ≡ true → ⊥
    never k = cc
some_and test (Some e) h = (e, refl)

never_true : false ≡ true → ⊥
never_true h = cc

-- a rule on the chosen response stands only where there is one
entry_there : (policy : Policy) (held : List Stored) (asked : Asked) (now : ℕ) (rule : ReuseRule) → reuse_rule_applies rule policy held asked now ≡ true → is_rule_on_chosen rule ≡ true → (e : Stored) × (chosen_of held asked ≡ Some e)
entry_there policy held asked now Operator h l = absurd (never_true l)
entry_there policy held asked now Method h l = absurd (never_true l)
entry_there policy held asked now Content h l = absurd (never_true l)
entry_there policy held asked now Range h l = absurd (never_true l)
entry_there policy held asked now Precondition h l = absurd (never_true l)
entry_there policy held asked now UriMiss h l = absurd (never_true l)
entry_there policy held asked now VaryMiss h l = absurd (never_true l)
entry_there policy held asked now rule h l = some_and (λ e. reuse_rule_condition rule (situation_of_request policy e asked now)) (chosen_of held asked) h

-- a forward: the rule, and what is named with it
forward_of : (o : Option ReuseRule) (s : Option ℕ) (rule : ReuseRule) (named : Option ℕ) → decision_by_rule o s ≡ Forward rule named → (o ≡ Some rule) × (named ≡ cond (is_rule_on_chosen rule) s None)
forward_of None None rule named h = absurd (never_forward rule named _ h)
forward_of None (Some n) rule named h = absurd (never_forward rule named n h)
forward_of (Some r) s rule named h =
    let same : r ≡ rule = same_rule r rule (cond (is_rule_on_chosen r) s None) named h in
    (ap Some same, sym (same_named r rule (cond (is_rule_on_chosen r) s None) named h) ∙ ap (λ (q : ReuseRule). cond (is_rule_on_chosen q) s None) same)

named_by : (rule : ReuseRule) (s named : Option ℕ) (b : Bool) → is_rule_on_chosen rule ≡ b → named ≡ cond b s None → ((is_rule_on_chosen rule ≡ false) × (named ≡ None)) ⊎ ((is_rule_on_chosen rule ≡ true) × (named ≡ s))
named_by rule s named true h k = inr (h, k)
named_by rule s named false h k = inl (h, k)

module _ (policy : Policy) (held : List Stored) (asked : Asked) (now : ℕ) where
  pub may_be_sent : (serial : ℕ) → decision_of policy held asked now ≡ Hit serial → ResponseMayBeSent policy held asked now serial
  unfolding decision_of serial_of
  may_be_sent serial h =
      let r = hit_of (least_reuse_rule_of policy held asked now) (chosen_of held asked) serial h (λ none. no_rule_applies policy held asked now none VaryMiss) in
      record { response = r.1.0; chosen_is = r.1.1; serial_is = r.1.2; no_rule = no_rule_applies policy held asked now r.0 }

  pub is_sent : (serial : ℕ) → ResponseMayBeSent policy held asked now serial → decision_of policy held asked now ≡ Hit serial
  unfolding decision_of
  is_sent serial may =
      let none : least_reuse_rule_of policy held asked now ≡ None = no_rule_found policy held asked now may.no_rule in
      let some : option_map (λ e. e.serial) (chosen_of held asked) ≡ Some serial = ap (option_map (λ e. e.serial)) may.chosen_is ∙ ap Some may.serial_is in
      rw (none, some) refl

  pub is_held : (serial : ℕ) → decision_of policy held asked now ≡ Hit serial → (response : Stored) × ResponseIsChosen held asked response × (response.serial ≡ serial)
  is_held serial h =
      let may = may_be_sent serial h in
      (may.response, chosen_is_preferred held asked may.response may.chosen_is, may.serial_is)

  pub is_found : (serial : ℕ) → SerialsAreDistinct (serials held) → decision_of policy held asked now ≡ Hit serial → find_entry_of_serial serial held ≡ chosen_of held asked
  is_found serial distinct h =
      let may = may_be_sent serial h in
      ap (λ (s : ℕ). find_entry_of_serial s held) (sym may.serial_is) ∙ found_by_serial held distinct may.response (chosen_is_held held asked may.response may.chosen_is) ∙ sym may.chosen_is

  names_the_response : (rule : ReuseRule) (named : Option ℕ) → reuse_rule_applies rule policy held asked now ≡ true
      → ((is_rule_on_chosen rule ≡ false) × (named ≡ None)) ⊎ ((is_rule_on_chosen rule ≡ true) × (named ≡ option_map (λ e. e.serial) (chosen_of held asked))) → RuleOnChosenNamesItsSerial held asked rule named
  names_the_response rule named h (inl low) = inl low
  names_the_response rule named h (inr high) =
      let there = entry_there policy held asked now rule h high.0 in
      inr (high.0, (there.0, there.1, high.1 ∙ ap (option_map (λ e. e.serial)) there.1))

  pub names_the_least : (rule : ReuseRule) (named : Option ℕ) → decision_of policy held asked now ≡ Forward rule named → IsLeastReuseRule policy held asked now rule × RuleOnChosenNamesItsSerial held asked rule named
  unfolding decision_of
  names_the_least rule named h =
      let r = forward_of (least_reuse_rule_of policy held asked now) (option_map (λ e. e.serial) (chosen_of held asked)) rule named h in
      let least = rule_is_least policy held asked now rule r.0 in
      (least, names_the_response rule named least.rule_applies (named_by rule (option_map (λ e. e.serial) (chosen_of held asked)) named (is_rule_on_chosen rule) refl r.1))

  pub forwards : (rule : ReuseRule) → IsLeastReuseRule policy held asked now rule → (named : Option ℕ) × (decision_of policy held asked now ≡ Forward rule named)
  unfolding decision_of
  forwards rule least =
      let some : least_reuse_rule_of policy held asked now ≡ Some rule = least_is_rule policy held asked now rule least in
      (cond (is_rule_on_chosen rule) (option_map (λ e. e.serial) (chosen_of held asked)) None, rw some refl)

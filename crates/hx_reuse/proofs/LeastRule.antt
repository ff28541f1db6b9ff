-- The first rule of the table that stands is the least that does.
use Rattle.std.proofs.Common.{◌≡◌, ℕ, inl, inr, true, false, List, refl}
use Rattle.std.specs.Prelude.{Some, None}
use Rattle.hx_hop.specs.declared.request_view.Asked.{Asked}
use Rattle.hx_store.specs.Stored.{Stored}
use Rattle.hx_policy.specs.declared.words.Policy.{Policy}
use Rattle.hx_reuse.specs.declared.rule.ReuseRule.{ReuseRule}
use Rattle.hx_reuse.specs.declared.rule.ReuseRule.TheVariants.{Operator, Method, Content, Range, Precondition, UriMiss, VaryMiss, ResponseNoCache, RequestNoCache, AboveMaxAge, BelowMinFresh, MustRevalidate, NoLifetime, StaleNoCache, NoMaxStale, PastMaxStale, StaleMaxAge, StaleMinFresh}
use Rattle.hx_reuse.specs.RuleNames.{reuse_rule_number}
use Rattle.hx_reuse.specs.Rules.{reuse_rule_applies, reuse_rules, least_reuse_rule_of}
use Rattle.hx_reuse.specs.ChosenAndNamed.{IsLeastReuseRule}
use Rattle.hx_fields.proofs.FirstThat.{IsMember, ascends, passes, fails_before, none_passes, none_found, first_found}

-- each rule is in the table
listed : (r : ReuseRule) → IsMember r reuse_rules
listed Operator = inl refl
listed Method = inr (inl refl)
listed Content = inr (inr (inl refl))
listed Range = inr (inr (inr (inl refl)))
listed Precondition = inr (inr (inr (inr (inl refl))))
listed UriMiss = inr (inr (inr (inr (inr (inl refl)))))
listed VaryMiss = inr (inr (inr (inr (inr (inr (inl refl))))))
listed ResponseNoCache = inr (inr (inr (inr (inr (inr (inr (inl refl)))))))
listed RequestNoCache = inr (inr (inr (inr (inr (inr (inr (inr (inl refl))))))))
listed AboveMaxAge = inr (inr (inr (inr (inr (inr (inr (inr (inr (inl refl)))))))))
listed BelowMinFresh = inr (inr (inr (inr (inr (inr (inr (inr (inr (inr (inl refl))))))))))
listed MustRevalidate = inr (inr (inr (inr (inr (inr (inr (inr (inr (inr (inr (inl refl)))))))))))
listed NoLifetime = inr (inr (inr (inr (inr (inr (inr (inr (inr (inr (inr (inr (inl refl))))))))))))
listed StaleNoCache = inr (inr (inr (inr (inr (inr (inr (inr (inr (inr (inr (inr (inr (inl refl)))))))))))))
listed NoMaxStale = inr (inr (inr (inr (inr (inr (inr (inr (inr (inr (inr (inr (inr (inr (inl refl))))))))))))))
listed PastMaxStale = inr (inr (inr (inr (inr (inr (inr (inr (inr (inr (inr (inr (inr (inr (inr (inl refl)))))))))))))))
listed StaleMaxAge = inr (inr (inr (inr (inr (inr (inr (inr (inr (inr (inr (inr (inr (inr (inr (inr (inl refl))))))))))))))))
listed StaleMinFresh = inr (inr (inr (inr (inr (inr (inr (inr (inr (inr (inr (inr (inr (inr (inr (inr (inr (inl refl)))))))))))))))))

in_order : ascends reuse_rule_number 0 reuse_rules ≡ true
unfolding ascends
in_order = refl

module _ (policy : Policy) (held : List Stored) (asked : Asked) (now : ℕ) where
  pub rule_is_least : (rule : ReuseRule) → least_reuse_rule_of policy held asked now ≡ Some rule → IsLeastReuseRule policy held asked now rule
  unfolding least_reuse_rule_of
  rule_is_least rule h =
      record {
        rule_applies = passes reuse_rule_number (λ r. reuse_rule_applies r policy held asked now) reuse_rules rule h;
        none_before = λ r l. fails_before reuse_rule_number (λ r. reuse_rule_applies r policy held asked now) 0 reuse_rules rule r in_order h (listed r) l;
      }

  pub least_is_rule : (rule : ReuseRule) → IsLeastReuseRule policy held asked now rule → least_reuse_rule_of policy held asked now ≡ Some rule
  unfolding least_reuse_rule_of
  least_is_rule rule least = first_found reuse_rule_number (λ r. reuse_rule_applies r policy held asked now) 0 reuse_rules rule in_order (listed rule) least.rule_applies least.none_before

  pub no_rule_applies : least_reuse_rule_of policy held asked now ≡ None → (rule : ReuseRule) → reuse_rule_applies rule policy held asked now ≡ false
  unfolding least_reuse_rule_of
  no_rule_applies h rule = none_passes reuse_rule_number (λ r. reuse_rule_applies r policy held asked now) reuse_rules rule h (listed rule)

  pub no_rule_found : ((rule : ReuseRule) → reuse_rule_applies rule policy held asked now ≡ false) → least_reuse_rule_of policy held asked now ≡ None
  unfolding least_reuse_rule_of
  no_rule_found none = none_found reuse_rule_number (λ r. reuse_rule_applies r policy held asked now) reuse_rules none

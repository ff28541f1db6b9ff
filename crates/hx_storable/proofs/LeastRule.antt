-- The first storage rule of the table that stands is the least that does.
use Rattle.std.proofs.Common.{◌≡◌, inl, inr, true, false, refl}
use Rattle.std.specs.Prelude.{Some}
use Rattle.hx_hop.specs.declared.request_view.Asked.{Asked}
use Rattle.hx_hop.specs.declared.response_view.Answered.{Answered}
use Rattle.hx_storable.specs.declared.known_facts.StoringFacts.{StoringFacts}
use Rattle.hx_storable.specs.declared.rule.StoreRule.{StoreRule}
use Rattle.hx_storable.specs.declared.rule.StoreRule.TheVariants.{Operator, Method, Bypass, Status, MustUnderstand, ResponseNoStore, RequestNoStore, Private, Authorization, NothingAllows, VaryStar, ConnectionField, NothingToReuse, TooLarge, Overtaken, Serials, SetCookie, ErrorStatus, RequestCookie}
use Rattle.hx_storable.specs.Rules.{storing_rule_applies, storing_rule_number, storage_rules, rule_against_storing}
use Rattle.hx_storable.specs.Storable.{IsLeastRuleAgainstStoring, ResponseIsStored}
use Rattle.hx_fields.proofs.FirstThat.{IsMember, ascends, passes, fails_before, none_passes, none_found, first_found}

-- each rule is in the table
listed : (r : StoreRule) → IsMember r storage_rules
listed Operator = inl refl
listed Method = inr (inl refl)
listed Bypass = inr (inr (inl refl))
listed Status = inr (inr (inr (inl refl)))
listed MustUnderstand = inr (inr (inr (inr (inl refl))))
listed ResponseNoStore = inr (inr (inr (inr (inr (inl refl)))))
listed RequestNoStore = inr (inr (inr (inr (inr (inr (inl refl))))))
listed Private = inr (inr (inr (inr (inr (inr (inr (inl refl)))))))
listed Authorization = inr (inr (inr (inr (inr (inr (inr (inr (inl refl))))))))
listed NothingAllows = inr (inr (inr (inr (inr (inr (inr (inr (inr (inl refl)))))))))
listed VaryStar = inr (inr (inr (inr (inr (inr (inr (inr (inr (inr (inl refl))))))))))
listed ConnectionField = inr (inr (inr (inr (inr (inr (inr (inr (inr (inr (inr (inl refl)))))))))))
listed NothingToReuse = inr (inr (inr (inr (inr (inr (inr (inr (inr (inr (inr (inr (inl refl))))))))))))
listed TooLarge = inr (inr (inr (inr (inr (inr (inr (inr (inr (inr (inr (inr (inr (inl refl)))))))))))))
listed Overtaken = inr (inr (inr (inr (inr (inr (inr (inr (inr (inr (inr (inr (inr (inr (inl refl))))))))))))))
listed Serials = inr (inr (inr (inr (inr (inr (inr (inr (inr (inr (inr (inr (inr (inr (inr (inl refl)))))))))))))))
listed SetCookie = inr (inr (inr (inr (inr (inr (inr (inr (inr (inr (inr (inr (inr (inr (inr (inr (inl refl))))))))))))))))
listed ErrorStatus = inr (inr (inr (inr (inr (inr (inr (inr (inr (inr (inr (inr (inr (inr (inr (inr (inr (inl refl)))))))))))))))))
listed RequestCookie = inr (inr (inr (inr (inr (inr (inr (inr (inr (inr (inr (inr (inr (inr (inr (inr (inr (inr (inl refl))))))))))))))))))

in_order : ascends storing_rule_number 0 storage_rules ≡ true
unfolding ascends
in_order = refl

module _ (asked : Asked) (answered : Answered) (facts : StoringFacts) where
  pub rule_is_least : (least : StoreRule) → rule_against_storing asked answered facts ≡ Some least → IsLeastRuleAgainstStoring asked answered facts least
  unfolding rule_against_storing
  rule_is_least least h =
      record {
        rule_applies = passes storing_rule_number (λ r. storing_rule_applies r asked answered facts) storage_rules least h;
        none_before = λ r l. fails_before storing_rule_number (λ r. storing_rule_applies r asked answered facts) 0 storage_rules least r in_order h (listed r) l;
      }

  pub least_is_rule : (least : StoreRule) → IsLeastRuleAgainstStoring asked answered facts least → rule_against_storing asked answered facts ≡ Some least
  unfolding rule_against_storing
  least_is_rule least is =
      first_found storing_rule_number (λ r. storing_rule_applies r asked answered facts) 0 storage_rules least in_order (listed least) is.rule_applies is.none_before

  pub no_rule_applies : (any : StoreRule) → ResponseIsStored asked answered facts → storing_rule_applies any asked answered facts ≡ false
  unfolding rule_against_storing
  no_rule_applies any h = none_passes storing_rule_number (λ r. storing_rule_applies r asked answered facts) storage_rules any h (listed any)

  pub no_rule_found : ((any : StoreRule) → storing_rule_applies any asked answered facts ≡ false) → ResponseIsStored asked answered facts
  unfolding rule_against_storing
  no_rule_found none = none_found storing_rule_number (λ r. storing_rule_applies r asked answered facts) storage_rules none

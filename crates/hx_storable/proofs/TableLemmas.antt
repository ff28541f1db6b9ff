-- Each storing rule is found by its number.
use Rattle.std.proofs.Common.{◌≡◌, refl}
use Rattle.std.specs.Prelude.{◌==◌, find, Some}
use Rattle.hx_storable.specs.declared.rule.StoreRule.{StoreRule}
use Rattle.hx_storable.specs.declared.rule.StoreRule.TheVariants.{Operator, Method, Bypass, Status, MustUnderstand, ResponseNoStore, RequestNoStore, Private, Authorization, NothingAllows, VaryStar, ConnectionField, NothingToReuse, TooLarge, Overtaken, Serials, SetCookie, ErrorStatus, RequestCookie}
use Rattle.hx_storable.specs.Rules.{storing_rule_number, storage_rules}

pub each_is_listed : (rule : StoreRule) → find (λ other. storing_rule_number other == storing_rule_number rule) storage_rules ≡ Some rule
each_is_listed Operator = refl
each_is_listed Method = refl
each_is_listed Bypass = refl
each_is_listed Status = refl
each_is_listed MustUnderstand = refl
each_is_listed ResponseNoStore = refl
each_is_listed RequestNoStore = refl
each_is_listed Private = refl
each_is_listed Authorization = refl
each_is_listed NothingAllows = refl
each_is_listed VaryStar = refl
each_is_listed ConnectionField = refl
each_is_listed NothingToReuse = refl
each_is_listed TooLarge = refl
each_is_listed Overtaken = refl
each_is_listed Serials = refl
each_is_listed SetCookie = refl
each_is_listed ErrorStatus = refl
each_is_listed RequestCookie = refl

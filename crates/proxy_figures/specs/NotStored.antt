-- Answers that weren't stored, by the storing rule that they name (docs/LINE_OPTIONS.md, `explain`).
--
-- storing_rule_place: where those of a rule are counted      not_stored_counts_with: counts, with one answer more
use Rattle.std.specs.Prelude.{ℕ, List, Option, None, Some}
use Rattle.hx_storable.specs.declared.rule.StoreRule.{StoreRule}
use Rattle.hx_storable.specs.declared.rule.StoreRule.TheVariants as storing
use Rattle.proxy_figures.specs.Counts.{counts_with_one_more}

abbrev pub storing_rule_place : StoreRule → ℕ
storing_rule_place storing.Operator = 0
storing_rule_place storing.Method = 1
storing_rule_place storing.Bypass = 2
storing_rule_place storing.Status = 3
storing_rule_place storing.MustUnderstand = 4
storing_rule_place storing.ResponseNoStore = 5
storing_rule_place storing.RequestNoStore = 6
storing_rule_place storing.Private = 7
storing_rule_place storing.Authorization = 8
storing_rule_place storing.NothingAllows = 9
storing_rule_place storing.VaryStar = 10
storing_rule_place storing.ConnectionField = 11
storing_rule_place storing.NothingToReuse = 12
storing_rule_place storing.TooLarge = 13
storing_rule_place storing.Overtaken = 14
storing_rule_place storing.Serials = 15
storing_rule_place storing.SetCookie = 16
storing_rule_place storing.ErrorStatus = 17
storing_rule_place storing.RequestCookie = 18

abbrev pub not_stored_counts_with : Option StoreRule → List ℕ → List ℕ
not_stored_counts_with None counts = counts
not_stored_counts_with (Some rule) counts = counts_with_one_more counts (storing_rule_place rule)

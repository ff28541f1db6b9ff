-- The tables of the rules agree: by each rule they compute to the same.
use Rattle.std.proofs.Common.{◌≡◌, ℕ, true, false, List, refl, sym}
use Rattle.std.specs.Prelude.{◌==◌, find, Some}
use Rattle.hx_hop.specs.declared.request_view.Asked.{Asked}
use Rattle.hx_store.specs.Stored.{Stored}
use Rattle.hx_policy.specs.declared.words.Policy.{Policy}
use Rattle.hx_reuse.specs.declared.rule.ReuseRule.{ReuseRule}
use Rattle.hx_reuse.specs.declared.rule.ReuseRule.TheVariants.{Operator, Method, Content, Range, Precondition, UriMiss, VaryMiss, ResponseNoCache, RequestNoCache, AboveMaxAge, BelowMinFresh, MustRevalidate, NoLifetime, StaleNoCache, NoMaxStale, PastMaxStale, StaleMaxAge, StaleMinFresh}
use Rattle.hx_reuse.specs.declared.rule.ErrorRule.{ErrorRule}
use Rattle.hx_reuse.specs.declared.rule.ErrorRule.TheVariants as on_error
use Rattle.hx_reuse.specs.RuleNames.{reuse_rule_number, error_rule_number}
use Rattle.hx_reuse.specs.Rules.{ReuseSituation, reuse_rule_condition, rule_applies_to_chosen, reuse_rule_applies, reuse_rules, is_rule_on_chosen}
use Rattle.hx_reuse.specs.ErrorRules.{error_rules}
use Rattle.hx_fields.proofs.JoinedTests.{never}

pub each_is_listed : (rule : ReuseRule) → find (λ other. reuse_rule_number other == reuse_rule_number rule) reuse_rules ≡ Some rule
each_is_listed Operator = refl
each_is_listed Method = refl
each_is_listed Content = refl
each_is_listed Range = refl
each_is_listed Precondition = refl
each_is_listed UriMiss = refl
each_is_listed VaryMiss = refl
each_is_listed ResponseNoCache = refl
each_is_listed RequestNoCache = refl
each_is_listed AboveMaxAge = refl
each_is_listed BelowMinFresh = refl
each_is_listed MustRevalidate = refl
each_is_listed NoLifetime = refl
each_is_listed StaleNoCache = refl
each_is_listed NoMaxStale = refl
each_is_listed PastMaxStale = refl
each_is_listed StaleMaxAge = refl
each_is_listed StaleMinFresh = refl

pub on_the_chosen : (rule : ReuseRule) (policy : Policy) (held : List Stored) (asked : Asked) (now : ℕ) → is_rule_on_chosen rule ≡ true → reuse_rule_applies rule policy held asked now ≡ rule_applies_to_chosen rule policy held asked now
on_the_chosen Operator policy held asked now h = absurd (never (sym h))
on_the_chosen Method policy held asked now h = absurd (never (sym h))
on_the_chosen Content policy held asked now h = absurd (never (sym h))
on_the_chosen Range policy held asked now h = absurd (never (sym h))
on_the_chosen Precondition policy held asked now h = absurd (never (sym h))
on_the_chosen UriMiss policy held asked now h = absurd (never (sym h))
on_the_chosen VaryMiss policy held asked now h = absurd (never (sym h))
on_the_chosen rule policy held asked now h = refl

pub against_none : (rule : ReuseRule) (s : ReuseSituation) → is_rule_on_chosen rule ≡ false → reuse_rule_condition rule s ≡ false
against_none Operator s h = refl
against_none Method s h = refl
against_none Content s h = refl
against_none Range s h = refl
against_none Precondition s h = refl
against_none UriMiss s h = refl
against_none VaryMiss s h = refl
against_none rule s h = absurd (never h)

pub each_error_rule_is_listed : (rule : ErrorRule) → find (λ other. error_rule_number other == error_rule_number rule) error_rules ≡ Some rule
each_error_rule_is_listed on_error.NoCache = refl
each_error_rule_is_listed on_error.MustRevalidate = refl
each_error_rule_is_listed on_error.NoLifetime = refl
each_error_rule_is_listed on_error.RequestNoCache = refl
each_error_rule_is_listed on_error.NoDirective = refl
each_error_rule_is_listed on_error.TooStale = refl

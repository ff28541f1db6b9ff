-- The numbers and the words of the reuse rules and of the rules after an error (RFC 9211, sections 2.2 and 2.8).
--
-- reuse_rule_number: its place among the rules
-- reuse_rule_reason: the value of fwd
-- reuse_rule_detail: the value of detail
-- error_rule_number, error_rule_word: the same of a rule after an error
use Rattle.std.specs.Prelude.{ℕ, List, codes, Option, Some, None}
use Rattle.hx_reuse.specs.declared.rule.ReuseRule.{ReuseRule}
use Rattle.hx_reuse.specs.declared.rule.ReuseRule.TheVariants.{Operator, Method, Content, Range, Precondition, UriMiss}
use Rattle.hx_reuse.specs.declared.rule.ReuseRule.TheVariants.{VaryMiss, ResponseNoCache, RequestNoCache, AboveMaxAge}
use Rattle.hx_reuse.specs.declared.rule.ReuseRule.TheVariants.{BelowMinFresh, MustRevalidate, NoLifetime, StaleNoCache}
use Rattle.hx_reuse.specs.declared.rule.ReuseRule.TheVariants.{NoMaxStale, PastMaxStale, StaleMaxAge, StaleMinFresh}
use Rattle.hx_reuse.specs.declared.rule.ErrorRule.{ErrorRule}
use Rattle.hx_reuse.specs.declared.rule.ErrorRule.TheVariants as on_error

abbrev pub reuse_rule_number : ReuseRule → ℕ
reuse_rule_number Operator = 0
reuse_rule_number Method = 1
reuse_rule_number Content = 2
reuse_rule_number Range = 3
reuse_rule_number Precondition = 4
reuse_rule_number UriMiss = 5
reuse_rule_number VaryMiss = 6
reuse_rule_number ResponseNoCache = 7
reuse_rule_number RequestNoCache = 8
reuse_rule_number AboveMaxAge = 9
reuse_rule_number BelowMinFresh = 10
reuse_rule_number MustRevalidate = 11
reuse_rule_number NoLifetime = 12
reuse_rule_number StaleNoCache = 13
reuse_rule_number NoMaxStale = 14
reuse_rule_number PastMaxStale = 15
reuse_rule_number StaleMaxAge = 16
reuse_rule_number StaleMinFresh = 17

-- own: `stale` also names a fresh response that has to be validated because of its own no-cache
abbrev pub reuse_rule_reason : ReuseRule → List ℕ
reuse_rule_reason Operator = codes "bypass"
reuse_rule_reason Method = codes "method"
reuse_rule_reason Content = codes "bypass"
reuse_rule_reason Range = codes "bypass"
reuse_rule_reason Precondition = codes "bypass"
reuse_rule_reason UriMiss = codes "uri-miss"
reuse_rule_reason VaryMiss = codes "vary-miss"
reuse_rule_reason ResponseNoCache = codes "stale"
reuse_rule_reason RequestNoCache = codes "request"
reuse_rule_reason AboveMaxAge = codes "request"
reuse_rule_reason BelowMinFresh = codes "request"
reuse_rule_reason MustRevalidate = codes "stale"
reuse_rule_reason NoLifetime = codes "stale"
reuse_rule_reason StaleNoCache = codes "stale"
reuse_rule_reason NoMaxStale = codes "stale"
reuse_rule_reason PastMaxStale = codes "stale"
reuse_rule_reason StaleMaxAge = codes "stale"
reuse_rule_reason StaleMinFresh = codes "stale"

abbrev pub reuse_rule_detail : ReuseRule → Option (List ℕ)
reuse_rule_detail Operator = Some (codes "operator")
reuse_rule_detail Method = None
reuse_rule_detail Content = Some (codes "content")
reuse_rule_detail Range = Some (codes "range")
reuse_rule_detail Precondition = Some (codes "precondition")
reuse_rule_detail UriMiss = None
reuse_rule_detail VaryMiss = None
reuse_rule_detail ResponseNoCache = Some (codes "response-no-cache")
reuse_rule_detail RequestNoCache = Some (codes "no-cache")
reuse_rule_detail AboveMaxAge = Some (codes "max-age")
reuse_rule_detail BelowMinFresh = Some (codes "min-fresh")
reuse_rule_detail MustRevalidate = Some (codes "must-revalidate")
reuse_rule_detail NoLifetime = Some (codes "no-lifetime")
reuse_rule_detail StaleNoCache = Some (codes "no-cache")
reuse_rule_detail NoMaxStale = None
reuse_rule_detail PastMaxStale = Some (codes "max-stale")
reuse_rule_detail StaleMaxAge = Some (codes "max-age")
reuse_rule_detail StaleMinFresh = Some (codes "min-fresh")

abbrev pub error_rule_number : ErrorRule → ℕ
error_rule_number on_error.NoCache = 1
error_rule_number on_error.MustRevalidate = 2
error_rule_number on_error.NoLifetime = 3
error_rule_number on_error.RequestNoCache = 4
error_rule_number on_error.NoDirective = 5
error_rule_number on_error.TooStale = 6

abbrev pub error_rule_word : ErrorRule → List ℕ
error_rule_word on_error.NoCache = codes "no-cache"
error_rule_word on_error.MustRevalidate = codes "must-revalidate"
error_rule_word on_error.NoLifetime = codes "no-lifetime"
error_rule_word on_error.RequestNoCache = codes "request-no-cache"
error_rule_word on_error.NoDirective = codes "no-directive"
error_rule_word on_error.TooStale = codes "too-stale"

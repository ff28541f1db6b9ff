-- What a request meets in a table, and whether that is what was expected of it.
use Rattle.std.specs.Prelude.{ℕ, Bool, true, false, ◌==◌}
use Rattle.hx_allow.specs.declared.verdicts.Verdict.{Verdict}
use Rattle.hx_allow.specs.declared.verdicts.Verdict.TheVariants as verdict
use Rattle.proxy_check.specs.declared.meeting.TableVerdict.{TableVerdict}
use Rattle.proxy_check.specs.declared.meeting.TableVerdict.TheVariants.{Allowed, DeniedBy, NoLine}
use Rattle.proxy_check.specs.declared.meeting.TableVerdict.TheVariants.{Looped, Purged, Refused}
use Rattle.proxy_check.specs.declared.questions.Expected.{Expected}
use Rattle.proxy_check.specs.declared.questions.Expected.TheVariants as expected

abbrev pub table_verdict_from_verdict : Verdict → TableVerdict
table_verdict_from_verdict (verdict.Allowed route) = Allowed route.number
table_verdict_from_verdict (verdict.DeniedBy line) = DeniedBy line
table_verdict_from_verdict verdict.NoLine = NoLine
table_verdict_from_verdict (verdict.Looped line) = Looped line
table_verdict_from_verdict (verdict.Purged line) = Purged line

-- a line denies it or refuses its loop, or none allows it
abbrev pub is_denied : TableVerdict → Bool
is_denied (Allowed line) = false
is_denied (DeniedBy line) = true
is_denied NoLine = true
is_denied (Looped line) = true
is_denied (Purged line) = false
is_denied Refused = false

abbrev pub is_allowed_by : TableVerdict → ℕ → Bool
is_allowed_by (Allowed line) n = line == n
is_allowed_by (DeniedBy line) n = false
is_allowed_by NoLine n = false
is_allowed_by (Looped line) n = false
is_allowed_by (Purged line) n = false
is_allowed_by Refused n = false

abbrev pub is_denied_by : TableVerdict → ℕ → Bool
is_denied_by (Allowed line) n = false
is_denied_by (DeniedBy line) n = line == n
is_denied_by NoLine n = false
is_denied_by (Looped line) n = false
is_denied_by (Purged line) n = false
is_denied_by Refused n = false

abbrev pub is_on_no_line : TableVerdict → Bool
is_on_no_line (Allowed line) = false
is_on_no_line (DeniedBy line) = false
is_on_no_line NoLine = true
is_on_no_line (Looped line) = false
is_on_no_line (Purged line) = false
is_on_no_line Refused = false

abbrev pub is_refused : TableVerdict → Bool
is_refused (Allowed line) = false
is_refused (DeniedBy line) = false
is_refused NoLine = false
is_refused (Looped line) = false
is_refused (Purged line) = false
is_refused Refused = true

abbrev pub expectation_is_met : Expected → TableVerdict → Bool
expectation_is_met (expected.Line n) met = is_allowed_by met n
expectation_is_met expected.Denied met = is_denied met
expectation_is_met (expected.DeniedBy n) met = is_denied_by met n
expectation_is_met expected.NoLine met = is_on_no_line met
expectation_is_met expected.Refused met = is_refused met

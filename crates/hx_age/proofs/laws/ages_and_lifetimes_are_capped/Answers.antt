use Rattle.std.proofs.Common.{ℕ, ◌≤◌, Bool, true, false, codes, arith}
use Rattle.std.specs.Prelude.{if◌then◌else◌}
use Rattle.std.proofs.Math.Nat.{min-le_right}
use Rattle.hx_fields.specs.FieldLines.{has_field as has_line}
use Rattle.hx_directives.specs.Occurrences.{occurrences_of}
use Rattle.hx_directives.specs.Answers.{directive_occurs, seconds_of_directive}
use Rattle.hx_directives.specs.declared.names.Directive.TheVariants.{MaxAge, SMaxage}
use Rattle.hx_age.specs.declared.lifetimes.Lifetime.{Lifetime}
use Rattle.hx_age.specs.Lifetime.{explicit_lifetime, seconds_or_zero, seconds_from_date_to_expires}
use Rattle.hx_age.proofs.laws.ages_and_lifetimes_are_capped.Goals as goal

none : Lifetime
none = record { explicit = false; seconds = 0 }

by_tests : (shared own expires : Bool) (a b c : ℕ)
    → (if shared then explicit_lifetime a else if own then explicit_lifetime b else if expires then explicit_lifetime c else none).seconds ≤ 2147483648
unfolding none
by_tests true own expires a b c = min-le_right a 2147483648
by_tests false true expires a b c = min-le_right b 2147483648
by_tests false false true a b c = min-le_right c 2147483648
by_tests false false false a b c = omega arith

pub returns-clause-lifetime : goal.returns-clause-lifetime
unfolding none
returns-clause-lifetime c = λ fields.
    let found = occurrences_of fields in
    by_tests (directive_occurs found SMaxage) (directive_occurs found MaxAge) (has_line fields (codes "Expires")) (seconds_or_zero (seconds_of_directive found SMaxage)) (seconds_or_zero (seconds_of_directive found MaxAge)) (seconds_from_date_to_expires fields)

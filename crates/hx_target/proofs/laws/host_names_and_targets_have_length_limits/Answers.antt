use Rattle.std.proofs.Common.{◌≡◌, ℕ, ◌<◌, ◌≤◌, ◌∷◌, length, nat_lt, true, false, refl, arith}
use Rattle.std.proofs.lemmas.Bool.Decides.{nat_tests}
use Rattle.hx_target.specs.Hosts.{is_host, number_of_few_digits, port_of_text}
use Rattle.hx_target.specs.Paths.{has_dot_segment}
use Rattle.hx_target.specs.Judgement.{judged_of}
use Rattle.hx_target.proofs.laws.host_names_and_targets_have_length_limits.Goals as goal

is_longer : (n : ℕ) → 8192 < n → nat_lt 8192 n ≡ true
is_longer n h = grind (arith, nat_tests)

is_within : (n : ℕ) → n ≤ 8192 → nat_lt 8192 n ≡ false
is_within n h = grind (arith, nat_tests)

pub returns-clause-longer : goal.returns-clause-longer
unfolding judged_of is_host number_of_few_digits port_of_text has_dot_segment
returns-clause-longer c = λ text h. rw (is_longer (length (47 ∷ text)) h) refl

pub returns-clause-longest : goal.returns-clause-longest
unfolding judged_of is_host number_of_few_digits port_of_text has_dot_segment
returns-clause-longest c = λ text h. rw (is_within (length (47 ∷ text)) h) refl

pub returns-clause-dots : goal.returns-clause-dots
unfolding judged_of is_host number_of_few_digits port_of_text has_dot_segment
returns-clause-dots c = λ text. refl

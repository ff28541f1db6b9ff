-- Tests of a value that may be absent.
use Rattle.std.proofs.Common.{◌≡◌, ℕ, Bool, false, refl, sym, ◌∙◌, ap}
use Rattle.std.specs.Prelude.{Option, Some, None}
use Rattle.hx_reuse.specs.Rules.{is_some_and}

pub test_false : (test : ℕ → Bool) (o : Option ℕ) (n : ℕ) → is_some_and test o ≡ false → o ≡ Some n → test n ≡ false
test_false test None n h k = absurd cc
test_false test (Some m) n h k = let same : m ≡ n = cc in sym (ap test same) ∙ h

pub none_tests : (test : ℕ → Bool) (o : Option ℕ) → ((n : ℕ) → o ≡ Some n → test n ≡ false) → is_some_and test o ≡ false
none_tests test None all = refl
none_tests test (Some n) all = all n refl

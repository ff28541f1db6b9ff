-- Steps through the digits of a length, and the only value of a name.
use Rattle.std.proofs.Common.{◌≡◌, ℕ, ◌+◌, ◌<◌, ◌&&◌, Bool, true, List, drop, get_or, length, sym, ap, ◌∙◌}
use Rattle.std.specs.List.{list_all}
use Rattle.std.proofs.lemmas.List.{drop_more}

pub list_all_drop : (p : ℕ → Bool) (xs : List ℕ) (i : ℕ) → i < length xs → p (get_or xs i 0) ≡ true
    → list_all p (drop (i + 1) xs) ≡ list_all p (drop i xs)
list_all_drop p xs i inside matches = sym (ap (list_all p) (drop_more xs i 0 inside) ∙ ap (λ b. b && list_all p (drop (i + 1) xs)) matches)

-- A list that keeps to its bound by number, and goes on to keep to that of bytes.
use Rattle.std.proofs.Common.{◌≡◌, ℕ, ◌<◌, ◌≤◌, ◌-◌, ◌^◌, arith, min, Option, List, length, sym, ap}
use Rattle.std.specs.Prelude.{nat_lt}
use Rattle.std.proofs.lemmas.Bool.Decides.{nat_tests}
use Rattle.std.proofs.lemmas.List.{take_all}
use Rattle.hx_store.specs.Stored.{Stored}
use Rattle.hx_store.specs.Weights.{weight_of_entry, prefix_of_weight_if_any, cut_to_bounds}

pub shed_is_cut : (limit : ℕ) (most : Option ℕ) (es : List Stored) → length es ≤ limit →
    prefix_of_weight_if_any weight_of_entry most es ≡ cut_to_bounds (record { entries = limit; bytes = most }) es
shed_is_cut limit most es h = ap (prefix_of_weight_if_any weight_of_entry most) (sym (take_all limit es h))

-- a weight that is counted as far as 64 bits go is above a bound where the exact one is
pub above_counted : (most exact weight : ℕ) → most < 2 ^ 64 - 1 → weight ≡ min exact (2 ^ 64 - 1) → nat_lt most weight ≡ nat_lt most exact
above_counted most exact weight h e = grind (arith, nat_tests, h, e)

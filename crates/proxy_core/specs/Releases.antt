-- Where among the exchanges, by the numbers of their arrivals, the released ones stand.
--
-- first_released_arrival: the number of the first     ReleasedStatesFirstReleasedArrival: what is known of them is
-- right
use Rattle.std.specs.Prelude.{◌≡◌, ℕ, ◌-◌, ◌&&◌, Bool, true, false, nat_le, min, max, List, [], ◌∷◌, Option, Some, None}
use Rattle.std.specs.Prelude.{cond, slice_get}
use Rattle.std.specs.BTreeSet.{BTreeSet, IsEmpty, btree_set_len}
use Rattle.proxy_core.specs.declared.open.exchange.Exchange.{Exchange}
use Rattle.proxy_core.specs.declared.open.released.Released.{Released}
use Rattle.proxy_core.specs.Leading.{is_released}
use Rattle.proxy_core.specs.Arrivals.{SelectedArrivalsPassTest}

abbrev pub first_released_arrival : List (ℕ × Exchange) → Option ℕ
first_released_arrival [] = None
first_released_arrival (e ∷ es) = cond (is_released e.1.stage) (Some e.0) (first_released_arrival es)

-- from the one number, if there is one, to the other
abbrev pub is_between_arrivals : Option ℕ → ℕ → ℕ → Bool
is_between_arrivals None last n = false
is_between_arrivals (Some first) last n = nat_le first n && nat_le n last

abbrev pub arrival_may_be_released : Released → ℕ → Bool
arrival_may_be_released r n = is_between_arrivals r.first r.last n

abbrev pub ReleasedArrivalsPassTest : (ℕ → Bool) → List (ℕ × Exchange) → Type 0
ReleasedArrivalsPassTest test es = SelectedArrivalsPassTest (λ x. is_released x.stage) test es

abbrev pub FirstReleasedIsNone : Released → Type 0
FirstReleasedIsNone r = r.first ≡ None

-- what was within is so still, and these numbers are
abbrev pub ReleasedRangeIsNotNarrowed : Released → Released → Type 0
ReleasedRangeIsNotNarrowed old new = (n : ℕ) → arrival_may_be_released old n ≡ true → arrival_may_be_released new n
    ≡ true

abbrev pub ReleasedNumbersCoverRange : ℕ → ℕ → Released → Type 0
ReleasedNumbersCoverRange first last r = (n : ℕ) → nat_le first n ≡ true → nat_le n last ≡ true
    → arrival_may_be_released r n
    ≡ true

-- what is known once those from the one number to the other may be released: no more than the
-- stretch that takes them in
abbrev pub range_stretched_to : ℕ → ℕ → Option ℕ → ℕ → Released
range_stretched_to first last None known_last = record { first = Some first; last = last }
range_stretched_to first last (Some known_first) known_last =
    record { first = Some (min first known_first); last = max last known_last }

abbrev pub released_arrival_range_with : ℕ → ℕ → Released → Released
released_arrival_range_with first last r = range_stretched_to first last r.first r.last

-- the same of the numbers of a set, which ascend
pub record ReleasedRangeIsWidenedToSet (set : BTreeSet ℕ) (old new : Released) : Type 0 where
  pub none : IsEmpty set → new ≡ old
  pub some : (first last : ℕ) → slice_get set.keys 0 ≡ Some first
      → slice_get set.keys (btree_set_len set - 1) ≡ Some last → new ≡ released_arrival_range_with first last old

pub record ReleasedStatesFirstReleasedArrival (r : Released) (es : List (ℕ × Exchange)) : Type 0 where
  pub first_is : r.first ≡ first_released_arrival es
  pub within : ReleasedArrivalsPassTest (arrival_may_be_released r) es

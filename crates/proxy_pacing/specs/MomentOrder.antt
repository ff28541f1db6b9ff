-- Moments with their holders, the earliest first; of one moment the least holder first.
--
-- moment_order: which of two comes first       with_moment, without_moment: with one more, and with one fewer
-- earliest_moment_if_due, moments_without_earliest_due: the earliest, once it has come, and what is left without it
use Rattle.std.specs.Prelude.{ℕ, Option, None, Some, List, [], ◌∷◌, nat_lt, if◌then◌else◌}
use Rattle.std.specs.declared.cmp.Ordering.{Ordering}
use Rattle.std.specs.Ordering.{nat_cmp, ordering_then, is_eq}
use Rattle.std.specs.BTreeSet.{insert_key}
use Rattle.std.specs.Set.{remove_key}
use Rattle.proxy_pacing.specs.declared.moments.Moment.{Moment}

abbrev pub moment_order : Moment → Moment → Ordering
moment_order a b = ordering_then (nat_cmp a.at b.at) (nat_cmp a.id b.id)

-- it stands once, at its place in that order
abbrev pub with_moment : Moment → List Moment → List Moment
with_moment moment moments = insert_key moment_order moments moment

abbrev pub without_moment : Moment → List Moment → List Moment
without_moment moment moments = remove_key (λ m. is_eq (moment_order moment m)) moments

abbrev pub earliest_moment_if_due : ℕ → List Moment → Option Moment
earliest_moment_if_due now [] = None
earliest_moment_if_due now (moment ∷ later) = if nat_lt now moment.at then None else Some moment

abbrev pub moments_without_earliest_due : ℕ → List Moment → List Moment
moments_without_earliest_due now [] = []
moments_without_earliest_due now (moment ∷ later) = if nat_lt now moment.at then moment ∷ later else later

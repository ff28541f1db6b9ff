use Rattle.std.proofs.Common.{◌≡◌, ℕ, length, Contains}
use Rattle.std.specs.Ordering.{nat_cmp}
use Rattle.std.specs.BTreeMap.{get}
use Rattle.proxy_engine.specs.ReadyList.{FlaggedPlacesAreMarked}
use Rattle.proxy_engine.specs.Marked.{ContentsOfPlacesAreRelated}
use Rattle.proxy_engine.proofs.steps.finds.first_due_place.Given as goal

abbrev pub invariant-loop-place : goal.invariant-loop-place
invariant-loop-place g l = record {
  marked : FlaggedPlacesAreMarked g.E.Endpoint.may_show (get nat_cmp l.ends) (length l.ends.entries) l.marked;
  fewer : (q : ℕ) → Contains l.marked.places q → Contains l.initial.marked.places q;
  alike : ContentsOfPlacesAreRelated g.E.Endpoint.LooksLike (get nat_cmp l.initial.ends) (get nat_cmp l.ends);
  size : length l.ends.entries ≡ length l.initial.ends.entries;
}

abbrev pub decreases-loop-place : goal.decreases-loop-place
decreases-loop-place g l = length l.marked.places

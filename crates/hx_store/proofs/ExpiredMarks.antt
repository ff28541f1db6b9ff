-- The index stays that of the entries, and the marks those of them, where some are expired.
use Rattle.std.proofs.Common.{◌≡◌, ℕ, Option, None, Some, List, [], ◌∷◌, sym, ◌∙◌, subst}
use Rattle.std.specs.Prelude.{IfSome, option_map}
use Rattle.hx_vary.specs.declared.marks.VariantMark.{VariantMark}
use Rattle.hx_vary.specs.Marks.{mark_of_values}
use Rattle.hx_store.specs.declared.key_index.KeyIndex.{KeyIndex}
use Rattle.hx_store.specs.Stored.{Stored}
use Rattle.hx_store.specs.Shelf.{find_entry_of_serial, expired_entry, entries_with_serials_expired}
use Rattle.hx_store.specs.Index.{EachMarkIsOfItsEntry, MarksAreOfTheirEntries, serials_and_marks_at}
use Rattle.hx_store.proofs.ExpiredEntries.{by_times, SerialsAreDistinct-expired, find-expired, of_key-expired}
use Rattle.hx_store.proofs.IndexedLists.{IsKept}

marks_expired_by : (seed : ℕ) (ended : List ℕ) (now : ℕ) (m : VariantMark) (o : Option Stored) → IfSome o (λ e. m ≡ mark_of_values seed e.nominated) →
    IfSome (option_map (expired_entry ended now) o) (λ e. m ≡ mark_of_values seed e.nominated)
marks_expired_by seed ended now m None h = tt
marks_expired_by seed ended now m (Some e) h = by_times (λ x. m ≡ mark_of_values seed x.nominated) ended now e (λ times. h)

marks-expired : (seed : ℕ) (ended : List ℕ) (now : ℕ) (es : List Stored) (ps : List (ℕ × VariantMark)) → EachMarkIsOfItsEntry seed es ps →
    EachMarkIsOfItsEntry seed (entries_with_serials_expired ended now es) ps
marks-expired seed ended now es [] h = tt
marks-expired seed ended now es (p ∷ ps) h = (
  subst (λ o. IfSome o (λ e. p.1 ≡ mark_of_values seed e.nominated)) (sym (find-expired ended now p.0 es)) (marks_expired_by seed ended now p.1 (find_entry_of_serial p.0 es) h.0),
  marks-expired seed ended now es ps h.1,
)

pub kept-expired : (ended : List ℕ) (now : ℕ) (es : List Stored) (index : KeyIndex) → IsKept es index → IsKept (entries_with_serials_expired ended now es) index
kept-expired ended now es index k = (SerialsAreDistinct-expired ended now es k.0, λ q. k.1 q ∙ sym (of_key-expired ended now q es))

pub marked-expired : (seed : ℕ) (ended : List ℕ) (now : ℕ) (es : List Stored) (index : KeyIndex) → MarksAreOfTheirEntries seed es index →
    MarksAreOfTheirEntries seed (entries_with_serials_expired ended now es) index
marked-expired seed ended now es index k q = marks-expired seed ended now es (serials_and_marks_at index q) (k q)

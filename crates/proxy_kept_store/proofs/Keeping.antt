-- What was read of a store may be held at first.
use Rattle.std.proofs.Common.{◌≡◌, ℕ, ◌≤◌, ◌<◌, ◌||◌, Bool, true, false, eqb, List, [], ◌∷◌, ◌++◌, Option, refl, sym, ◌∙◌, ap, subst, arith, Ok}
use Rattle.std.proofs.lemmas.Bool.{leb-false, ne_eqb}
use Rattle.hx_allow.specs.TableLines.{Table}
use Rattle.hx_store.specs.Stored.{Stored}
use Rattle.hx_store.specs.Shelf.{holds_serial}
use Rattle.hx_store.specs.Weights.{StoreBounds}
use Rattle.proxy_engine.specs.Beginnings.{ResponsesMayBeHeldAtStart}
use Rattle.proxy_store_file.specs.Fits.{EntriesAreValidInStore, StoreContentsAreValid}
use Rattle.proxy_store_file.specs.Stores.{StoreContents, read_store}
use Rattle.proxy_store_file.specs.Streams.{ReaderGaveReading, bounds_of, store_contents_of}

-- each serial is below the next
below_next : (most : Option ℕ) (next : ℕ) (es : List Stored) → EntriesAreValidInStore most next es → (s : ℕ) → next ≤ s → holds_serial s es ≡ false
below_next most next [] h s l = refl
below_next most next (e ∷ es) h s l =
    let less : e.serial < next = leb-false next e.serial h.0.below_next in
    ap (λ b. b || holds_serial s es) (ne_eqb e.serial s (λ q. absurd (omega arith))) ∙ below_next most next es h.1 s l

pub may_begin : (table : Table) (entries : List Stored) (next : ℕ) (old new : Option (List ℕ)) →
    ((bounds : StoreBounds) (text : List ℕ) (store : StoreContents) → read_store bounds text ≡ Ok store → StoreContentsAreValid bounds store) →
    ReaderGaveReading (read_store (bounds_of table.capacity table.max_store)) old new (Ok (store_contents_of entries next)) → ResponsesMayBeHeldAtStart table entries next
may_begin table entries next old new stands read =
    let s = stands (bounds_of table.capacity table.max_store) (read.bytes ++ []) (store_contents_of entries next) (read.reads [] (λ e. refl)) in
    record { distinct = s.distinct; below_next = below_next table.max_store next entries s.entries; within = s.within }

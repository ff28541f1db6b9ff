-- What was read may stand in the store.
use Rattle.std.proofs.Common.{◌≡◌, ℕ, zero, suc, ◌+◌, ◌<◌, ◌≤◌, List, [], ◌∷◌, length, refl, ap, sym, ◌∙◌, subst, Bool, true, false, cond, ◌&&◌, ◌||◌, nat_le, Option, None, Some, Ok, Err, arith}
use Rattle.std.specs.Prelude.{bytes_eq}
use Rattle.std.specs.Prelude.{IfSome}
use Rattle.std.specs.List.{sum_by}
use Rattle.std.proofs.lemmas.Bool.{leb-true, leb-false}
use Rattle.hx_store.specs.Stored.{Stored}
use Rattle.hx_store.specs.Serials.{serial_is_in, SerialsAreDistinct}
use Rattle.hx_store.specs.Shelf.{serials}
use Rattle.hx_store.specs.Weights.{StoreBounds, IsWithinBounds, weight_of_entry, total_weight}
use Rattle.proxy_store_file.specs.declared.store_faults.EntryPart.{EntryPart}
use Rattle.proxy_store_file.specs.declared.store_faults.StoreReadFault.{StoreReadFault}
use Rattle.proxy_store_file.specs.declared.store_faults.StoreReadFault.TheVariants as fault
use Rattle.proxy_store_file.specs.Texts.{number_of, is_number, cut}
use Rattle.proxy_store_file.specs.Parts.{first_invalid_part}
use Rattle.proxy_store_file.specs.Fits.{EntryIsValidInStore, EntriesAreValidInStore, StoreContentsAreValid}
use Rattle.proxy_store_file.specs.Stores.{StoreContents, first_line_words, first_line, digest_spelling, LeadingEntryReading, Cut, Shapeless, Found, leading_entry, entry_fault, fault_of_part, entry_fault_against_held, store_weight_exceeds_bound, StoreReading, reading_or_short_file_fault, reading_of_digest, reading_of_end, reading_unless_entry_fault, reading_after_entry, reading_of_entries, reading_by_opening_numbers, reading_by_first_line, read_store}

-- no fault was found
fault_by : (o : Option EntryPart) (a b c : Bool) (n : ℕ) (f g : StoreReadFault)
    → fault_of_part n o (cond {A = Option StoreReadFault} (a || b) (Some f) (cond {A = Option StoreReadFault} c (Some g) None)) ≡ None
    → (o ≡ None) × ((a ≡ false) × ((b ≡ false) × (c ≡ false)))
fault_by None false false false n f g e = (refl, (refl, (refl, refl)))
fault_by None false false true n f g e = absurd (cc)
fault_by None false true false n f g e = absurd (cc)
fault_by None false true true n f g e = absurd (cc)
fault_by None true false false n f g e = absurd (cc)
fault_by None true false true n f g e = absurd (cc)
fault_by None true true false n f g e = absurd (cc)
fault_by None true true true n f g e = absurd (cc)
fault_by (Some p) a b c n f g e = absurd (cc)

stands_by : (n : ℕ) (most : Option ℕ) (next : ℕ) (held : List Stored) (e : Stored) → entry_fault n most next held e ≡ None → EntryIsValidInStore most next held e
stands_by n most next held e none =
    let p = fault_by (first_invalid_part e) (serial_is_in e.serial (serials held)) (nat_le next e.serial) (store_weight_exceeds_bound most (total_weight (e ∷ held))) n (fault.Serial n) (fault.Weight n) none in
    record { parts = p.0; is_new = p.1.0; below_next = p.1.1.0; weighs = p.1.1.1 }

taken_by : (o : Option StoreReadFault) (reading : StoreReading) (store : StoreContents) → reading_unless_entry_fault o reading ≡ Ok store → (o ≡ None) × (reading ≡ Ok store)
taken_by None reading store e = (refl, e)
taken_by (Some f) reading store e = absurd (cc)

-- the entries that were read stand in front of those that stood, so many more
record Sound (most : Option ℕ) (next many : ℕ) (store : StoreContents) : Type 0 where
  stand : EntriesAreValidInStore most next store.entries
  number : length store.entries ≡ many
  next_serial : store.next_serial ≡ next

ended_by : (t u : Bool) (own store : StoreContents) → cond {A = StoreReading} t (cond {A = StoreReading} u (Ok own) (Err fault.Long)) (Err fault.Digest) ≡ Ok store → own ≡ store
ended_by true true own store e = cc
ended_by true false own store e = absurd (cc)
ended_by false u own store e = absurd (cc)

end_sound : (o : Option (List ℕ × List ℕ)) (body : List ℕ) (n : ℕ) (own store : StoreContents) → reading_or_short_file_fault n o (reading_of_digest body own) ≡ Ok store → own ≡ store
end_sound None body n own store e = absurd (cc)
end_sound (Some p) body n own store e = ended_by (bytes_eq p.0 (digest_spelling body)) _ own store e

step_sound : (r : LeadingEntryReading) (text : List ℕ) (most : Option ℕ) (next left many : ℕ) (held : List Stored) (store : StoreContents)
    → ((e : Stored) (more : List ℕ) → EntryIsValidInStore most next held e → reading_of_entries text most next left (e ∷ held) more ≡ Ok store → Sound most next many store)
    → reading_after_entry most next held (λ e more. reading_of_entries text most next left (e ∷ held) more) r ≡ Ok store → Sound most next many store
step_sound Cut text most next left many held store later e = absurd (cc)
step_sound Shapeless text most next left many held store later e = absurd (cc)
step_sound (Found x more) text most next left many held store later e =
    let t = taken_by (entry_fault (length held + 1) most next held x) (reading_of_entries text most next left (x ∷ held) more) store e in
    later x more (stands_by (length held + 1) most next held x t.0) t.1

entries_sound : (left many : ℕ) (text : List ℕ) (most : Option ℕ) (next : ℕ) (held : List Stored) (rest : List ℕ) (store : StoreContents) → many ≡ length held + left
    → EntriesAreValidInStore most next held → reading_of_entries text most next left held rest ≡ Ok store → Sound most next many store
entries_sound zero many text most next held rest store n stand e =
    let own : StoreContents = record { entries = held; next_serial = next } in
    let same = end_sound (cut 8 rest) _ (length held) own store e in
    record {
      stand = subst (λ (s : StoreContents). EntriesAreValidInStore most next s.entries) same stand;
      number = ap (λ (s : StoreContents). length s.entries) (sym same) ∙ omega (arith, n);
      next_serial = ap (λ (s : StoreContents). s.next_serial) (sym same);
    }
entries_sound (suc left) many text most next held rest store n stand e =
    step_sound (leading_entry rest) text most next left many held store
    (λ x more stands later. entries_sound left many text most next (x ∷ held) more store (omega (arith, n)) (stands, stand) later) e

counted_by : (t u : Bool) (reading : StoreReading) (store : StoreContents)
    → cond {A = StoreReading} t (cond {A = StoreReading} u reading (Err fault.Entries)) (Err fault.NotAStore) ≡ Ok store → (u ≡ true) × (reading ≡ Ok store)
counted_by true true reading store e = (refl, e)
counted_by true false reading store e = absurd (cc)
counted_by false u reading store e = absurd (cc)

line_by : (t u : Bool) (reading : StoreReading) (store : StoreContents)
    → cond {A = StoreReading} t reading (cond {A = StoreReading} u (Err fault.Version) (Err fault.NotAStore)) ≡ Ok store → reading ≡ Ok store
line_by true u reading store e = e
line_by false true reading store e = absurd (cc)
line_by false false reading store e = absurd (cc)

short_by : (n : ℕ) (o : Option (List ℕ × List ℕ)) (k : List ℕ → List ℕ → StoreReading) (store : StoreContents) (P : Type 0)
    → ((a b : List ℕ) → k a b ≡ Ok store → P) → reading_or_short_file_fault n o k ≡ Ok store → P
short_by n None k store P then e = absurd (cc)
short_by n (Some p) k store P then e = then p.0 p.1 e

distinct_by : (most : Option ℕ) (next : ℕ) (es : List Stored) → EntriesAreValidInStore most next es → SerialsAreDistinct (serials es)
distinct_by most next [] stand = tt
distinct_by most next (e ∷ es) stand = (stand.0.is_new, distinct_by most next es stand.1)

weighs_by : (bytes : Option ℕ) (next : ℕ) (es : List Stored) → EntriesAreValidInStore bytes next es → IfSome bytes (λ most. sum_by weight_of_entry es ≤ most)
weighs_by None next es stand = tt
weighs_by (Some most) next [] stand = omega arith
weighs_by (Some most) next (e ∷ es) stand =
    let light : total_weight (e ∷ es) < suc most = leb-false (suc most) (total_weight (e ∷ es)) stand.0.weighs in omega (arith, light)

counted_sound : (bounds : StoreBounds) (text a b rest : List ℕ) (store : StoreContents) → reading_by_opening_numbers bounds text a b rest ≡ Ok store → StoreContentsAreValid bounds store
counted_sound bounds text a b rest store e =
    let n = counted_by (is_number a && is_number b) (nat_le (number_of b) bounds.entries) (reading_of_entries text bounds.bytes (number_of a) (number_of b) [] rest) store e in
    let s = entries_sound (number_of b) (number_of b) text bounds.bytes (number_of a) [] rest store (omega arith) tt n.1 in
    record {
      entries = subst (λ k. EntriesAreValidInStore bounds.bytes k store.entries) (sym s.next_serial) s.stand;
      distinct = distinct_by bounds.bytes (number_of a) store.entries s.stand;
      within = record {
        number = subst (λ k. k ≤ bounds.entries) (sym s.number) (leb-true (number_of b) bounds.entries n.0);
        weighs = weighs_by bounds.bytes (number_of a) store.entries s.stand;
      };
    }

pub read_stores_stand : (bounds : StoreBounds) (text : List ℕ) (store : StoreContents) → read_store bounds text ≡ Ok store → StoreContentsAreValid bounds store
unfolding read_store
read_stores_stand bounds text store e =
    short_by 0 (cut 17 text) (reading_by_first_line bounds text) store (StoreContentsAreValid bounds store)
    (λ line rest is. short_by 0 (cut 8 rest) (λ next more. reading_or_short_file_fault 0 (cut 8 more) (reading_by_opening_numbers bounds text next)) store (StoreContentsAreValid bounds store)
    (λ next more is2. short_by 0 (cut 8 more) (reading_by_opening_numbers bounds text next) store (StoreContentsAreValid bounds store)
    (λ number behind is3. counted_sound bounds text next number behind store is3) is2)
    (line_by (bytes_eq line first_line) _ (reading_or_short_file_fault 0 (cut 8 rest) (λ next more. reading_or_short_file_fault 0 (cut 8 more) (reading_by_opening_numbers bounds text next))) store is)) e

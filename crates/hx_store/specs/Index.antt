-- An index from keys to serials, each beside the mark of its entry.
use Rattle.std.specs.Prelude.{◌≡◌, ℕ, Bool, true, false, not, ◌||◌, ◌==◌, List, [], ◌∷◌, if◌then◌else◌, IfSome}
use Rattle.std.specs.Prelude.{unwrap_or, Option, Some, None}
use Rattle.std.specs.List.{filter}
use Rattle.std.specs.Map.{keys_of, remove_entry, set_value}
use Rattle.std.specs.Option.{ForSome}
use Rattle.std.specs.Ordering.{nat_cmp}
use Rattle.std.specs.BTreeMap.{BTreeMap, insert_entry, is_at}
use Rattle.std.specs.HashMap.{get}
use Rattle.hx_target.specs.declared.keys.Key.{Key}
use Rattle.hx_target.specs.Keys.{same_key}
use Rattle.hx_store.specs.declared.key_index.KeyIndex.{KeyIndex}
use Rattle.hx_vary.specs.Marks.{mark_of_values, mark_may_match}
use Rattle.hx_vary.specs.declared.marks.VariantMark.{VariantMark}
use Rattle.hx_vary.specs.Combined.{values_match_all_nominated}
use Rattle.hx_store.specs.Serials.{serial_is_in}
use Rattle.hx_store.specs.Stored.{Stored}
use Rattle.hx_store.specs.Shelf.{find_entry_of_serial, serials_of_key}

-- the serials that the index has at a key, beside their marks
abbrev pub serials_and_marks_at : KeyIndex → Key → List (ℕ × VariantMark)
serials_and_marks_at index key = unwrap_or (get same_key index.serials key) []

-- the serials alone
abbrev pub serials_at_key_in_index : KeyIndex → Key → List ℕ
serials_at_key_in_index index key = keys_of (serials_and_marks_at index key)

-- the serials whose marks a request with these tags may match
abbrev pub serials_that_may_match : (ℕ → Bool) → List (ℕ × VariantMark) → List ℕ
serials_that_may_match has marks = keys_of (filter (λ p. mark_may_match has p.1) marks)

-- the entry that was found nominates what these values have
abbrev pub entry_matches_values : BTreeMap (List ℕ) (List ℕ) → Option Stored → Bool
entry_matches_values values None = false
entry_matches_values values (Some e) = values_match_all_nominated values e.nominated

-- serials but the first that is this one
abbrev pub serials_without_first_match : ℕ → List ℕ → List ℕ
serials_without_first_match s [] = []
serials_without_first_match s (x ∷ xs) = if x == s then xs else x ∷ serials_without_first_match s xs

-- at a key, what is there once a serial was put in at another with its mark, once it was marked anew there, and once it
-- was taken out there
abbrev pub SerialIsInsertedInIndex : KeyIndex → Key → ℕ → VariantMark → KeyIndex → Type 0
SerialIsInsertedInIndex old key s mark new =
    (q : Key) → serials_and_marks_at new q
    ≡ (if same_key key q then insert_entry nat_cmp (serials_and_marks_at old q) s mark else serials_and_marks_at old q)

abbrev pub SerialMarkIsReplacedInIndex : KeyIndex → Key → ℕ → VariantMark → KeyIndex → Type 0
SerialMarkIsReplacedInIndex old key s mark new =
    (q : Key) → serials_and_marks_at new q
    ≡ (if same_key key q then set_value (is_at (nat_cmp s)) (serials_and_marks_at old q) mark
    else serials_and_marks_at old q)

abbrev pub SerialIsRemovedFromIndex : KeyIndex → Key → ℕ → KeyIndex → Type 0
SerialIsRemovedFromIndex old key s new =
    (q : Key) → serials_and_marks_at new q
    ≡ (if same_key key q then remove_entry (is_at (nat_cmp s)) (serials_and_marks_at old q)
    else serials_and_marks_at old q)

abbrev pub IsSameKeyIndex : KeyIndex → KeyIndex → Type 0
IsSameKeyIndex old new = (q : Key) → serials_and_marks_at new q ≡ serials_and_marks_at old q

-- the serial was put in where its key has others, and else nothing was done
abbrev pub SerialIsInsertedInIndexIf : Bool → KeyIndex → Key → ℕ → VariantMark → KeyIndex → Type 0
SerialIsInsertedInIndexIf true old key s mark new = SerialIsInsertedInIndex old key s mark new
SerialIsInsertedInIndexIf false old key s mark new = IsSameKeyIndex old new × (serials_and_marks_at old key ≡ [])

-- no key is in the index for nothing
abbrev pub IndexHasNoEmptyKey : KeyIndex → Type 0
IndexHasNoEmptyKey index = (q : Key) → ForSome (get same_key index.serials q) (λ marks. marks ≡ [] → ⊥)

-- the same of each key but this one
abbrev pub IndexHasNoEmptyKeyExcept : Key → KeyIndex → Type 0
IndexHasNoEmptyKeyExcept key index =
    (q : Key) → same_key key q ≡ false → ForSome (get same_key index.serials q) (λ marks. marks ≡ [] → ⊥)

-- the index has the serials of these entries at each key
abbrev pub IsKeyIndexOf : List Stored → KeyIndex → Type 0
IsKeyIndexOf es index = (q : Key) → serials_at_key_in_index index q ≡ serials_of_key q es

-- each mark is that of the entry that its serial finds, by the seed, if it finds one
abbrev pub EachMarkIsOfItsEntry : ℕ → List Stored → List (ℕ × VariantMark) → Type 0
EachMarkIsOfItsEntry seed es [] = Unit {0}
EachMarkIsOfItsEntry seed es (p ∷ ps) = IfSome (find_entry_of_serial p.0 es)
    (λ e. p.1 ≡ mark_of_values seed e.nominated)
    × EachMarkIsOfItsEntry seed es ps

abbrev pub MarksAreOfTheirEntries : ℕ → List Stored → KeyIndex → Type 0
MarksAreOfTheirEntries seed es index = (q : Key) → EachMarkIsOfItsEntry seed es (serials_and_marks_at index q)

-- the entries but those with these serials, and that of the serial `kept` in any case
abbrev pub entries_without_serials_but_one : ℕ → List ℕ → List Stored → List Stored
entries_without_serials_but_one kept gone es = filter (λ e. (e.serial == kept) || not (serial_is_in e.serial gone)) es

-- Where the origins of the lines of a table stand among the origins.
--
-- LinesHavePlacesOfTheirOrigins: each line has the place of its origin, and one that denies has none
-- NextLineHasPlaceOfItsOrigin: so it is with one line more
-- place_of_line, address_of_line: of a line, counted from 1
use Rattle.std.specs.Prelude.{◌≡◌, ℕ, zero, suc, List, [], ◌∷◌, ◌++◌, Option, None, Some, slice_get, unwrap_or}
use Rattle.std.specs.declared.net.socket_addr.SocketAddrV4.{SocketAddrV4}
use Rattle.proxy_figures.specs.OriginsModel.{OriginsModel, addresses}

abbrev pub LineHasPlaceOfItsOrigin : Option SocketAddrV4 → Option ℕ → OriginsModel → Type 0
LineHasPlaceOfItsOrigin None place known = place ≡ None
LineHasPlaceOfItsOrigin (Some address) None known = ⊥
LineHasPlaceOfItsOrigin (Some address) (Some place) known = slice_get (addresses known.items) place ≡ Some address

abbrev pub LinesHavePlacesOfTheirOrigins : List (Option SocketAddrV4) → List (Option ℕ) → OriginsModel → Type 0
LinesHavePlacesOfTheirOrigins [] [] known = Unit {0}
LinesHavePlacesOfTheirOrigins [] (p ∷ ps) known = ⊥
LinesHavePlacesOfTheirOrigins (l ∷ ls) [] known = ⊥
LinesHavePlacesOfTheirOrigins (l ∷ ls) (p ∷ ps) known = LineHasPlaceOfItsOrigin l p known
    × LinesHavePlacesOfTheirOrigins ls ps known

-- the next line has this place, and those in front of it keep theirs
abbrev pub NextLineHasPlaceOfItsOrigin : Option SocketAddrV4 → Option ℕ → OriginsModel → OriginsModel → Type 0
NextLineHasPlaceOfItsOrigin address place old new =
    (lines : List (Option SocketAddrV4)) (places : List (Option ℕ)) → LinesHavePlacesOfTheirOrigins lines places old
    → LinesHavePlacesOfTheirOrigins (lines ++ address ∷ []) (places ++ place ∷ []) new

-- what a list has for a line, counted from 1
abbrev pub entry_of_line_number : {A : Type 0} → List (Option A) → Option ℕ → Option A
entry_of_line_number entries None = None
entry_of_line_number entries (Some zero) = None
entry_of_line_number entries (Some (suc n)) = unwrap_or (slice_get entries n) None

abbrev pub place_of_line : List (Option ℕ) → Option ℕ → Option ℕ
place_of_line places line = entry_of_line_number places line

abbrev pub address_of_line : List (Option SocketAddrV4) → Option ℕ → Option SocketAddrV4
address_of_line addresses line = entry_of_line_number addresses line

-- ---- the statement

-- what is looked up for a line is the place of its own origin, and of none where the line has none
abbrev pub EachLineHasItsOrigin : Type 0
EachLineHasItsOrigin =
    (lines : List (Option SocketAddrV4)) (places : List (Option ℕ)) (known : OriginsModel) (line : Option ℕ)
    → LinesHavePlacesOfTheirOrigins lines places known
    → LineHasPlaceOfItsOrigin (address_of_line lines line) (place_of_line places line) known

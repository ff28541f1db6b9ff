-- Lines keep the places of their origins where an origin is added, and each is looked up at its own.
use Rattle.std.proofs.Common.{◌≡◌, ◌⊎◌, ℕ, zero, suc, ◌++◌, ◌∷◌, [], List, length, map, Option, None, Some, refl, sym, ap, subst, ◌∙◌, inl, inr}
use Rattle.std.specs.Prelude.{slice_get, unwrap_or}
use Rattle.std.proofs.lemmas.List.{map-append, length-map}
use Rattle.std.proofs.lemmas.Option.{none-some}
use Rattle.std.specs.declared.net.socket_addr.SocketAddrV4.{SocketAddrV4}
use Rattle.proxy_figures.specs.declared.origins.Origin.{Origin}
use Rattle.proxy_figures.specs.Origins.{IsFreshOriginOfAddress}
use Rattle.proxy_figures.specs.OriginsModel.{OriginsModel, addresses, OriginWithAddressIsFoundOrAdded}
use Rattle.proxy_figures.specs.LineOrigins.{LineHasPlaceOfItsOrigin, LinesHavePlacesOfTheirOrigins, EachLineHasItsOrigin, entry_of_line_number}

-- what stands in front stays where more is added behind it
get_front : {A : Type 0} (xs ys : List A) (i : ℕ) (a : A) → slice_get xs i ≡ Some a → slice_get (xs ++ ys) i ≡ Some a
get_front [] ys i a is = absurd (none-some a is)
get_front (x ∷ xs) ys zero a is = is
get_front (x ∷ xs) ys (suc i) a is = get_front xs ys i a is

get_behind : {A : Type 0} (xs : List A) (a : A) → slice_get (xs ++ a ∷ []) (length xs) ≡ Some a
get_behind [] a = refl
get_behind (x ∷ xs) a = get_behind xs a

-- the addresses with one origin more
addresses_push : (xs : List Origin) (o : Origin) → addresses (xs ++ o ∷ []) ≡ addresses xs ++ o.address ∷ []
addresses_push xs o = map-append (λ (one : Origin). one.address) xs (o ∷ [])

-- ---- an origin is added

line_stays : (l : Option SocketAddrV4) (p : Option ℕ) (old : OriginsModel) (o : Origin)
    → LineHasPlaceOfItsOrigin l p old → LineHasPlaceOfItsOrigin l p (record old { items = old.items ++ o ∷ [] })
line_stays None p old o is = is
line_stays (Some a) None old o is = is
line_stays (Some a) (Some i) old o is = ap (λ xs. slice_get xs i) (addresses_push old.items o) ∙ get_front (addresses old.items) (o.address ∷ []) i a is

lines_stay : (ls : List (Option SocketAddrV4)) (ps : List (Option ℕ)) (old : OriginsModel) (o : Origin)
    → LinesHavePlacesOfTheirOrigins ls ps old → LinesHavePlacesOfTheirOrigins ls ps (record old { items = old.items ++ o ∷ [] })
lines_stay [] [] old o are = are
lines_stay [] (p ∷ ps) old o are = are
lines_stay (l ∷ ls) [] old o are = are
lines_stay (l ∷ ls) (p ∷ ps) old o are = (line_stays l p old o are.0, lines_stay ls ps old o are.1)

stays_placed : (ls : List (Option SocketAddrV4)) (ps : List (Option ℕ)) (a : SocketAddrV4) (place : ℕ) (old new : OriginsModel)
    → OriginWithAddressIsFoundOrAdded a old place new → LinesHavePlacesOfTheirOrigins ls ps old → LinesHavePlacesOfTheirOrigins ls ps new
stays_placed ls ps a place old new (inl same) are = subst (λ (k : OriginsModel). LinesHavePlacesOfTheirOrigins ls ps k) (sym same.0) are
stays_placed ls ps a place old new (inr more) are =
    subst (λ (k : OriginsModel). LinesHavePlacesOfTheirOrigins ls ps k) (sym more.2.2) (lines_stay ls ps old more.2.0 are)

is_placed : (a : SocketAddrV4) (place : ℕ) (old new : OriginsModel) → OriginWithAddressIsFoundOrAdded a old place new → LineHasPlaceOfItsOrigin (Some a) (Some place) new
is_placed a place old new (inl same) = subst (λ (k : OriginsModel). LineHasPlaceOfItsOrigin (Some a) (Some place) k) (sym same.0) same.1
is_placed a place old new (inr more) =
    let o : Origin = more.2.0 in
    let at : slice_get (addresses (old.items ++ o ∷ [])) (length old.items) ≡ Some o.address
    = ap (λ xs. slice_get xs (length old.items)) (addresses_push old.items o)
    ∙ ap (λ n. slice_get (addresses old.items ++ o.address ∷ []) n) (sym (length-map old.items (λ (one : Origin). one.address))) ∙ get_behind (addresses old.items) o.address in
    let address : o.address ≡ a = ap (λ (one : Origin). one.address) more.2.1.rest in
    subst (λ (k : OriginsModel). LineHasPlaceOfItsOrigin (Some a) (Some place) k) (sym more.2.2)
    (subst (λ n. slice_get (addresses (old.items ++ o ∷ [])) n ≡ Some a) (sym more.1) (at ∙ ap (λ b. Some b) address))

-- one line more
placed_push : (ls : List (Option SocketAddrV4)) (ps : List (Option ℕ)) (l : Option SocketAddrV4) (p : Option ℕ) (known : OriginsModel)
    → LinesHavePlacesOfTheirOrigins ls ps known → LineHasPlaceOfItsOrigin l p known → LinesHavePlacesOfTheirOrigins (ls ++ l ∷ []) (ps ++ p ∷ []) known
placed_push [] [] l p known are is = (is, tt)
placed_push [] (q ∷ ps) l p known are is = absurd are
placed_push (k ∷ ls) [] l p known are is = absurd are
placed_push (k ∷ ls) (q ∷ ps) l p known are is = (are.0, placed_push ls ps l p known are.1 is)

pub known_line : (ls : List (Option SocketAddrV4)) (ps : List (Option ℕ)) (a : SocketAddrV4) (place : ℕ) (old new : OriginsModel)
    → OriginWithAddressIsFoundOrAdded a old place new → LinesHavePlacesOfTheirOrigins ls ps old → LinesHavePlacesOfTheirOrigins (ls ++ Some a ∷ []) (ps ++ Some place ∷ []) new
known_line ls ps a place old new placed are =
    placed_push ls ps (Some a) (Some place) new (stays_placed ls ps a place old new placed are) (is_placed a place old new placed)

pub denying_line : (ls : List (Option SocketAddrV4)) (ps : List (Option ℕ)) (known : OriginsModel)
    → LinesHavePlacesOfTheirOrigins ls ps known → LinesHavePlacesOfTheirOrigins (ls ++ None ∷ []) (ps ++ None ∷ []) known
denying_line ls ps known are = placed_push ls ps None None known are refl

-- ---- a line is looked up

at_place : (ls : List (Option SocketAddrV4)) (ps : List (Option ℕ)) (known : OriginsModel) (n : ℕ)
    → LinesHavePlacesOfTheirOrigins ls ps known → LineHasPlaceOfItsOrigin (unwrap_or (slice_get ls n) None) (unwrap_or (slice_get ps n) None) known
at_place [] [] known n are = refl
at_place [] (p ∷ ps) known n are = absurd are
at_place (l ∷ ls) [] known n are = absurd are
at_place (l ∷ ls) (p ∷ ps) known zero are = are.0
at_place (l ∷ ls) (p ∷ ps) known (suc n) are = at_place ls ps known n are.1

pub each_line : EachLineHasItsOrigin
each_line ls ps known None are = refl
each_line ls ps known (Some zero) are = refl
each_line ls ps known (Some (suc n)) are = at_place ls ps known n are

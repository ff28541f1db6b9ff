-- Laws of the segments between slashes.
use Rattle.std.proofs.Common.{◌≡◌, ℕ, suc, ◌+◌, ◌<◌, true, false, List, [], ◌∷◌, ◌++◌, length, get_or, take, drop, refl, sym, ◌∙◌, ap, cond, append_assoc, add-one, append-nil, ◌==◌}
use Rattle.std.proofs.Math.Seq.{drop-cons, take-suc}
use Rattle.hx_target.specs.Paths.{segments, in_front}

-- these bytes in front of the first segment
abbrev pub all_in_front : List ℕ → List (List ℕ) → List (List ℕ)
all_in_front front [] = front ∷ []
all_in_front front (s ∷ ss) = (front ++ s) ∷ ss

-- a byte in front is one more byte of the front
pub all_in_front-in_front : (front : List ℕ) (b : ℕ) (ss : List (List ℕ)) → all_in_front front (in_front b ss) ≡ all_in_front (front ++ b ∷ []) ss
all_in_front-in_front front b [] = refl
all_in_front-in_front front b (s ∷ ss) = ap (λ q. q ∷ ss) (sym (append_assoc front (b ∷ []) s))

-- nothing in front changes nothing
pub all_in_front-nil : (text : List ℕ) → all_in_front [] (segments text) ≡ segments text
all_in_front-nil [] = refl
all_in_front-nil (b ∷ bs) =
    elim (b == 47) as (λ t. all_in_front [] (cond t ([] ∷ segments bs) (in_front b (segments bs))) ≡ cond t ([] ∷ segments bs) (in_front b (segments bs)))
    [ true ↦ refl | false ↦ front_of b (segments bs) ]
  where
    front_of : (b : ℕ) (ss : List (List ℕ)) → all_in_front [] (in_front b ss) ≡ in_front b ss
    front_of b [] = refl
    front_of b (s ∷ ss) = refl

-- the segments at a byte that is no slash, and at one that is
pub segments-goes_on : (b : ℕ) (bs : List ℕ) → (b == 47) ≡ false → segments (b ∷ bs) ≡ in_front b (segments bs)
segments-goes_on b bs h = rw h refl

pub segments-cut : (b : ℕ) (bs : List ℕ) → (b == 47) ≡ true → segments (b ∷ bs) ≡ [] ∷ segments bs
segments-cut b bs h = rw h refl

-- one byte more that is no slash
pub front_grows : (text : List ℕ) (i : ℕ) → i < length text → (get_or text i 0 == 47) ≡ false → all_in_front (take i text) (segments (drop i text)) ≡ all_in_front (take (i + 1) text) (segments (drop (i + 1) text))
front_grows text i within test =
    ap (λ s. all_in_front (take i text) (segments s)) (drop-cons text i 0 within)
    ∙ (ap (all_in_front (take i text)) (segments-goes_on (get_or text i 0) (drop (suc i) text) test)
    ∙ (all_in_front-in_front (take i text) (get_or text i 0) (segments (drop (suc i) text))
    ∙ rw (add-one, sym (take-suc text i 0 within)) refl))

-- the first segment ends at a slash
pub front_ends : (text : List ℕ) (i : ℕ) → i < length text → (get_or text i 0 == 47) ≡ true → all_in_front (take i text) (segments (drop i text)) ≡ take i text ∷ segments (drop (i + 1) text)
front_ends text i within test =
    ap (λ s. all_in_front (take i text) (segments s)) (drop-cons text i 0 within)
    ∙ (ap (all_in_front (take i text)) (segments-cut (get_or text i 0) (drop (suc i) text) test)
    ∙ rw (add-one, append-nil) refl)

-- Values without white space round them.
use Rattle.std.proofs.Common.{◌≡◌, ℕ, ◌<◌, ◌≤◌, Bool, true, false, not, cond, List, [], ◌∷◌, ◌++◌, length, reverse, refl, sym, ap, ◌∙◌, subst, arith}
use Rattle.std.specs.Prelude.{All}
use Rattle.std.proofs.lemmas.List.{reverse-append, reverse-reverse, length-reverse}
use Rattle.std.proofs.lemmas.List.Elements.{All-head}
use Rattle.httparse.specs.Grammar.{AllPass, is_ows, skip_ows, trim_ows}
use Rattle.httparse.proofs.TrimLemmas.{AllPass-reverse}

abbrev pub IsSeen : ℕ → Type 0
IsSeen b = not (is_ows b) ≡ true

-- what is trimmed at both ends stays
pub trim_stays : (v : List ℕ) → skip_ows v ≡ v → skip_ows (reverse v) ≡ reverse v → trim_ows v ≡ v
unfolding trim_ows
trim_stays v front back = ap (λ t. reverse (skip_ows (reverse t))) front ∙ ap reverse back ∙ reverse-reverse v

-- a first byte that is seen
pub skip_seen : (b : ℕ) (v : List ℕ) → IsSeen b → skip_ows (b ∷ v) ≡ b ∷ v
skip_seen b v seen = by_test (is_ows b) seen
  where
    by_test : (t : Bool) → not t ≡ true → cond t (skip_ows v) (b ∷ v) ≡ b ∷ v
    by_test true h = absurd cc
    by_test false h = refl

pub skip_front : (u v : List ℕ) → 0 < length u → All IsSeen u → skip_ows (u ++ v) ≡ u ++ v
skip_front [] v some seen = absurd (omega arith)
skip_front (b ∷ u) v some seen = skip_seen b (u ++ v) (All-head IsSeen b u seen)

-- a value that begins with a seen byte and ends in a word of them
pub trim_words : (b : ℕ) (middle word : List ℕ) → IsSeen b → 0 < length word → AllPass (λ c. not (is_ows c)) word → trim_ows ((b ∷ middle) ++ word) ≡ (b ∷ middle) ++ word
trim_words b middle word first some seen =
    trim_stays ((b ∷ middle) ++ word) (skip_seen b (middle ++ word) first)
    (ap skip_ows (reverse-append (b ∷ middle) word)
    ∙ skip_front (reverse word) (reverse (b ∷ middle)) (omega (arith, length-reverse word)) (AllPass-reverse (λ c. not (is_ows c)) word seen)
    ∙ sym (reverse-append (b ∷ middle) word))

-- one word
pub trim_word : (word : List ℕ) → AllPass (λ c. not (is_ows c)) word → trim_ows word ≡ word
trim_word [] seen = trim_stays [] refl refl
trim_word (b ∷ word) seen =
    let all : All IsSeen (reverse (b ∷ word)) = AllPass-reverse (λ c. not (is_ows c)) (b ∷ word) seen in
    trim_stays (b ∷ word) (skip_seen b word (All-head IsSeen b word seen))
    (sym (ap skip_ows (nothing_behind (reverse (b ∷ word)))) ∙ skip_front (reverse (b ∷ word)) [] (omega (arith, length-reverse (b ∷ word))) all ∙ nothing_behind (reverse (b ∷ word)))
  where
    nothing_behind : (v : List ℕ) → v ++ [] ≡ v
    nothing_behind [] = refl
    nothing_behind (c ∷ v) = ap (λ t. c ∷ t) (nothing_behind v)

-- ---- trimming twice is trimming once

skip_shorter : (v : List ℕ) → length (skip_ows v) ≤ length v
skip_shorter [] = omega arith
skip_shorter (b ∷ v) = by_test (is_ows b) (skip_shorter v)
  where
    by_test : (t : Bool) → length (skip_ows v) ≤ length v → length (cond t (skip_ows v) (b ∷ v)) ≤ length (b ∷ v)
    by_test true h = omega arith
    by_test false h = omega arith

-- what has nothing to skip begins with a seen byte
first_seen : (b : ℕ) (v : List ℕ) → skip_ows (b ∷ v) ≡ b ∷ v → IsSeen b
first_seen b v stays = by_test (is_ows b) stays
  where
    by_test : (t : Bool) → cond t (skip_ows v) (b ∷ v) ≡ b ∷ v → not t ≡ true
    by_test true h = absurd (omega (arith, skip_shorter v, ap length h))
    by_test false h = refl

skip_twice : (v : List ℕ) → skip_ows (skip_ows v) ≡ skip_ows v
skip_twice [] = refl
skip_twice (b ∷ v) = by_test (is_ows b) refl (skip_twice v)
  where
    by_test : (t : Bool) → is_ows b ≡ t → skip_ows (skip_ows v) ≡ skip_ows v → skip_ows (skip_ows (b ∷ v)) ≡ skip_ows (b ∷ v)
    by_test true p h = rw p h
    by_test false p h = rw (p, p) refl

record Skipped (v : List ℕ) : Type 0 where
  pub front : List ℕ
  pub whole : v ≡ front ++ skip_ows v

skipped : (v : List ℕ) → Skipped v
skipped [] = record { front = []; whole = refl }
skipped (b ∷ v) = by_test (is_ows b) refl (skipped v)
  where
    by_test : (t : Bool) → is_ows b ≡ t → Skipped v → Skipped (b ∷ v)
    by_test true p h = record { front = b ∷ h.front; whole = rw p (ap (λ t. b ∷ t) h.whole) }
    by_test false p h = record { front = []; whole = rw p refl }

-- the front of what has nothing to skip
front_stays : (u w : List ℕ) → skip_ows (u ++ w) ≡ u ++ w → skip_ows u ≡ u
front_stays [] w stays = refl
front_stays (b ∷ u) w stays = skip_seen b u (first_seen b (u ++ w) stays)

pub trim_twice : (v : List ℕ) → trim_ows (trim_ows v) ≡ trim_ows v
unfolding trim_ows
trim_twice v =
    let s = skip_ows v in
    let t = skip_ows (reverse s) in
    let cut = skipped (reverse s) in
    let split : s ≡ reverse t ++ reverse cut.front = sym (reverse-reverse s) ∙ ap reverse cut.whole ∙ reverse-append cut.front t in
    let front : skip_ows (reverse t) ≡ reverse t = front_stays (reverse t) (reverse cut.front) (subst (λ (u : List ℕ). skip_ows u ≡ u) split (skip_twice v)) in
    let back : skip_ows (reverse (reverse t)) ≡ reverse (reverse t) = ap skip_ows (reverse-reverse t) ∙ skip_twice (reverse s) ∙ sym (reverse-reverse t) in
    trim_stays (reverse t) front back

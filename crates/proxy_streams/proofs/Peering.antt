-- What was taken of bytes and what is left of them are those bytes, in order.
use Rattle.std.proofs.Common.{◌≡◌, ◌-◌, ℕ, List, [], ◌++◌, length, take, drop, Result, Ok, Err, refl, sym, ap, ◌∙◌, OnErr, append-nil, append_assoc, take-append-drop}
use Rattle.std.proofs.lemmas.List.{take_rest}
use Rattle.proxy_streams.specs.Peers.{prefix_taken_by_write, BytesAreWrittenOrKept, AFrontOfBytesIsWritten}

-- a write behind the front of some bytes
pub part_taken : {E : Type 0} (Took : List ℕ → Type 0) (r : Result ℕ E) (xs : List ℕ) (at : ℕ)
    → Took (take at xs ++ prefix_taken_by_write r (take (length xs - at) (drop at xs))) → AFrontOfBytesIsWritten Took xs
part_taken Took (Ok n) xs at took = (
  drop n (drop at xs),
  (
    take at xs ++ take n (take (length xs - at) (drop at xs)),
    took,
    ap (λ l. (take at xs ++ take n l) ++ drop n (drop at xs)) (take_rest xs at) ∙ append_assoc (take at xs) (take n (drop at xs)) (drop n (drop at xs))
        ∙ ap (λ l. take at xs ++ l) (take-append-drop n (drop at xs)) ∙ take-append-drop at xs,
  ),
)
part_taken Took (Err e) xs at took =
    (drop at xs, (take at xs ++ [], took, ap (λ l. l ++ drop at xs) (append-nil (take at xs)) ∙ take-append-drop at xs))

pub handed_front : (Took : List ℕ → Type 0) (xs kept : List ℕ) (n : ℕ) → Took (take n xs) → kept ≡ drop n xs → BytesAreWrittenOrKept Took xs kept
handed_front Took xs kept n took rest = (take n xs, took, ap (λ l. take n xs ++ l) rest ∙ take-append-drop n xs)

pub handed_behind : (Took : List ℕ → Type 0) (old kept new bytes : List ℕ) → BytesAreWrittenOrKept Took old kept → new ≡ kept ++ bytes → BytesAreWrittenOrKept Took (old ++ bytes) new
handed_behind Took old kept new bytes h is =
    (h.0, h.1, ap (λ l. h.0 ++ l) is ∙ sym (append_assoc h.0 kept bytes) ∙ ap (λ l. l ++ bytes) h.2)

pub handed_joined : (First Then Took : List ℕ → Type 0) (old kept bytes new : List ℕ) → ((a b : List ℕ) → First a → Then b → Took (a ++ b))
    → BytesAreWrittenOrKept First old kept → kept ≡ [] → BytesAreWrittenOrKept Then bytes new → BytesAreWrittenOrKept Took (old ++ bytes) new
handed_joined First Then Took old kept bytes new join h none k =
    let whole : h.0 ≡ old = sym (append-nil h.0) ∙ ap (λ l. h.0 ++ l) (sym none) ∙ h.2 in
    (h.0 ++ k.0, join h.0 k.0 h.1 k.1, append_assoc h.0 k.0 new ∙ ap (λ l. h.0 ++ l) k.2 ∙ ap (λ l. l ++ bytes) whole)

pub part_behind : (Took : List ℕ → Type 0) (old bytes : List ℕ) → AFrontOfBytesIsWritten Took old → AFrontOfBytesIsWritten Took (old ++ bytes)
part_behind Took old bytes h = (h.0 ++ bytes, handed_behind Took old h.0 (h.0 ++ bytes) bytes h.1 refl)

pub on_err : {A E P : Type 0} (r : Result A E) → P → OnErr r P
on_err (Ok x) p = tt
on_err (Err e) p = p

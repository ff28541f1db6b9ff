-- What was read and written so far, one call further.
use Rattle.std.proofs.Common.{take-add, ◌≡◌, ℕ, ◌+◌, ◌-◌, ◌<◌, ◌≤◌, List, ◌++◌, length, take, drop, ap, sym, ◌∙◌, subst, false, Option, arith, append_assoc}
use Rattle.std.specs.Io.KnownBytes.{Consumes, Appends}
use Rattle.std.proofs.KnownBytes.{Consumes-trans, Appends-trans}
use Rattle.std.proofs.lemmas.List.{take-append-drop, take-take, take_rest, length-append, length-take-le}
use Rattle.proxy_replay.specs.Bytes.{ReaderGaveAtMost}

pub more_written : (a b c : Option (List ℕ)) (bytes : List ℕ) (at n k : ℕ) → k ≡ at + n → Appends a b (take at bytes) → Appends b c (take n (take (length bytes - at) (drop at bytes))) → Appends a c (take k bytes)
more_written a b c bytes at n k e before now =
    subst (Appends a c) (sym (ap (λ j. take j bytes) e ∙ take-add at n bytes))
    (Appends-trans a b c (take at bytes) (take n (drop at bytes)) before (subst (λ xs. Appends b c (take n xs)) (take_rest bytes at) now))

pub partly_read : (limit : ℕ) (a b c : Option (List ℕ)) (old buf new : List ℕ) (room n : ℕ) → Consumes a b old → Consumes b c (take n buf) → new ≡ old ++ take room buf → length old ≤ limit → room ≡ limit - length old → room < n → n ≤ length buf → ReaderGaveAtMost limit new false a c
partly_read limit a b c old buf new room n before now is few left more within =
    let front : take room buf ≡ take room (take n buf) = sym (take-take room n buf (omega arith)) in
    let all : old ++ take n buf ≡ new ++ drop room (take n buf) =
    sym (ap (λ xs. xs ++ drop room (take n buf)) (is ∙ ap (λ xs. old ++ xs) front) ∙ (append_assoc old (take room (take n buf)) (drop room (take n buf)) ∙ ap (λ xs. old ++ xs) (take-append-drop room (take n buf)))) in
    let long : length new ≡ limit = ap length is ∙ (length-append old (take room buf) ∙ omega (arith, length-take-le room buf (omega arith))) in
    record {
      over = drop room (take n buf);
      consumes = subst (Consumes a c) all (Consumes-trans a b c old (take n buf) before now);
      few = omega (arith, long);
      whole = λ e. cc;
      full = λ e. long;
    }

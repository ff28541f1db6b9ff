-- What is read of a file up to a byte more than a table may have.
use Rattle.std.proofs.Common.{◌≡◌, ℕ, ◌≤◌, List, [], ◌++◌, length, take, arith, sym, ap, ◌∙◌, subst, inl, inr, Option, None, Some, IfSome, take_all, length-take-le}
use Rattle.std.specs.Option.{option_map}
use Rattle.std.proofs.lemmas.Bool.{cases_lt}
use Rattle.proxy_files.specs.TableFiles.{IsWholeOrTooLong}

pub read_to_limit : (file : List ℕ) → IsWholeOrTooLong (take 1048577 file) file
read_to_limit file = elim (cases_lt 1048576 (length file)) [
  | inl more ↦ inr (omega (arith, more, length-take-le 1048577 file (omega (arith, more))))
  | inr few ↦ inl (take_all 1048577 file (omega (arith, few)))
]

pub whole_where_few : (text file : List ℕ) → length text ≤ 1048576 → IsWholeOrTooLong text file → text ≡ file
whole_where_few text file few (inl same) = same
whole_where_few text file few (inr more) = absurd (omega (arith, few, more))

-- what a reader gave of which no more is taken
pub read_start : (known : Option (List ℕ)) (limit : ℕ) (before text : List ℕ) → limit ≡ 1048577 → before ≡ [] → IfSome (option_map (take limit) known) (λ xs. text ≡ before ++ xs) → IfSome known (IsWholeOrTooLong text)
read_start None limit before text most none read = tt
read_start (Some file) limit before text most none read =
    let whole : text ≡ take 1048577 file = read ∙ (ap (λ (xs : List ℕ). xs ++ take limit file) none ∙ ap (λ (n : ℕ). take n file) most) in
    subst (λ (t : List ℕ). IsWholeOrTooLong t file) (sym whole) (read_to_limit file)

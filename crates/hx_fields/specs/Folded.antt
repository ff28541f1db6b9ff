-- Names in lower case, and their order: by a number of each, then by bytes. Two tie in it exactly where they are one.
--
-- folded: a name in lower case            number_of: what tells most of two apart
-- folded_names_cmp: which of two comes first
use Rattle.std.specs.Prelude.{◌≡◌, ◌==◌, ◌&&◌, ◌+◌, ◌*◌, ◌%◌, ◌^◌, ℕ, List, Bool, true, false, bytes_eq, refl}
use Rattle.std.specs.List.{fold}
use Rattle.std.specs.Str.{str_to_ascii_lowercase}
use Rattle.std.specs.declared.cmp.Ordering.{Ordering}
use Rattle.std.specs.Ordering.{nat_cmp, ordering_then, eq_by_cmp}
use Rattle.std.specs.Cmp.{IsTotalOrder, both_tied, on_total, then_total, nat_cmp_total, unsigned_ties}
use Rattle.std.specs.Cmp.Lexicographic.{slice_cmp, lists_ties, nat_list_cmp_total}
use Rattle.std.proofs.Common.{◌∙◌, ap, sym}
use Rattle.std.proofs.lemmas.Bool.{eq-eqb}
use Rattle.std.proofs.lemmas.Slice.Eq.{bytes_eq-Decides}

-- a name in lower case: field names compare without ASCII case (RFC 9110, section 5.1)
abbrev pub folded : List ℕ → List ℕ
folded name = str_to_ascii_lowercase name

-- the bytes as digits to a base of 257, so that no two names of up to seven bytes have one number
abbrev pub number_with_byte_as_digit : ℕ → ℕ → ℕ
number_with_byte_as_digit number byte = ((number * 257) % 2 ^ 64 + byte) % 2 ^ 64

unfoldable pub number_of : List ℕ → ℕ
number_of name = fold number_with_byte_as_digit 0 name

abbrev pub folded_names_cmp : List ℕ → List ℕ → Ordering
folded_names_cmp a b = ordering_then (nat_cmp (number_of a) (number_of b)) (slice_cmp nat_cmp a b)

pub folded_cmp_total : IsTotalOrder folded_names_cmp
folded_cmp_total = then_total (on_total number_of nat_cmp_total) nat_list_cmp_total

-- equal bytes have one number, so the numbers may be asked first
as_numbered : (same numbers : Bool) → (same ≡ true → numbers ≡ true) → same ≡ (numbers && same)
as_numbered true true h = refl
as_numbered true false h = sym (h refl)
as_numbered false true h = refl
as_numbered false false h = refl

pub folded_cmp_ties_are_equal : (a b : List ℕ) → bytes_eq a b ≡ eq_by_cmp folded_names_cmp a b
folded_cmp_ties_are_equal a b =
    as_numbered (bytes_eq a b) (number_of a == number_of b)
    (λ e. eq-eqb (number_of a) (number_of b) (ap number_of ((bytes_eq-Decides a b).0 e)))
    ∙ both_tied _ _ (nat_cmp (number_of a) (number_of b)) _
    (unsigned_ties (number_of a) (number_of b)) (lists_ties nat_cmp unsigned_ties a b)

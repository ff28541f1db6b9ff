-- Parts are of what is there, and are what is asked for.
use Rattle.std.proofs.Common.{◌≡◌, ℕ, ◌≤◌, ◌<◌, ◌+◌, ◌-◌, Bool, true, false, cond, List, length, refl, sym, ◌∙◌, ap, subst, arith}
use Rattle.std.proofs.lemmas.Bool.Decides.{nat_tests}
use Rattle.std.specs.Prelude.{◌==◌, ◌&&◌, nat_le, nat_lt, min, not, bytes_eq, codes, take, drop, Option, Some, None, option_map, option_and_then}
use Rattle.hx_fields.specs.Line.{Field}
use Rattle.hx_fields.specs.FieldLines.{only_value}
use Rattle.hx_fields.specs.Names.{split_at_first_byte, is_nonempty, is_same_name}
use Rattle.hx_hop.specs.declared.request_view.Asked.{Asked}
use Rattle.hx_store.specs.Stored.{Stored}
use Rattle.hx_validate.specs.Ranges.{answer_to_range, answer_to_range_if_any, range_is_answered, if_range_holds, response_as_range_answer, byte_range_of_positions, range_asked, byte_range_of_value, byte_range_of_texts_if_split, byte_range_of_texts, range_answer, range_answer_of, range_number_of_digits, PartLiesWithinTotal}
use Rattle.hx_validate.specs.RangeWords.{FailedIfRangeSendsTheWhole, ByteIsAskedForByRange, RangeIsInOrder, OnlyA200HasParts, PartHasExactlyTheBytesAskedFor, PartIsWithinTheContent, RangeOfAnotherMethodIsIgnored, UnsatisfiableRangeAsksForNoByte, WithoutOneByteRangeTheWholeIsSent}
use Rattle.hx_validate.specs.declared.ranges.ByteRange.{ByteRange}
use Rattle.hx_validate.specs.declared.ranges.ByteRange.TheVariants.{FromTo, From, Last}
use Rattle.hx_validate.specs.declared.ranges.RangeAnswer.{RangeAnswer}
use Rattle.hx_validate.specs.declared.ranges.RangeAnswer.TheVariants.{Whole, Part, Unsatisfiable}
use Rattle.hx_fields.proofs.JoinedTests.{is_below, below, first_absent, last_absent, not_equal}
use Rattle.std.proofs.lemmas.Slice.Eq.{bytes_eq-Decides}

le_of : (m n : ℕ) → nat_le m n ≡ true → m ≤ n
le_of m n h = grind (arith, nat_tests)

not_none : (n : ℕ) → (n == 0) ≡ false → 0 < n
not_none n h = grind (arith, nat_tests)

-- ---- what is read isn't turned

by_order : (first last : ℕ) (range : ByteRange) (t : Bool) → nat_le first last ≡ t → cond t (Some (FromTo first last)) None ≡ Some range → RangeIsInOrder range
by_order first last range true le h = subst RangeIsInOrder (some_same h) (le_of first last le)
  where
    some_same : Some (FromTo first last) ≡ Some range → FromTo first last ≡ range
    some_same e = cc
by_order first last range false le h = cc

in_order : (first last : Option ℕ) (range : ByteRange) → byte_range_of_positions first last ≡ Some range → RangeIsInOrder range
in_order (Some first) (Some last) range h = by_order first last range (nat_le first last) refl h
in_order (Some first) None range h = cc
in_order None last range h = cc

last_read : (most : Option ℕ) (range : ByteRange) → option_map Last most ≡ Some range → RangeIsInOrder range
last_read (Some n) range h = let same : Last n ≡ range = cc in subst RangeIsInOrder same tt
last_read None range h = cc

from_read : (first : Option ℕ) (range : ByteRange) → option_map From first ≡ Some range → RangeIsInOrder range
from_read (Some n) range h = let same : From n ≡ range = cc in subst RangeIsInOrder same tt
from_read None range h = cc

parts_read : (first last : List ℕ) (range : ByteRange) → byte_range_of_texts first last ≡ Some range → RangeIsInOrder range
parts_read first last range h = by_first (is_nonempty first) (is_nonempty last) h
  where
    by_first : (f l : Bool) → cond (not f) (option_map Last (range_number_of_digits last)) (cond (not l) (option_map From (range_number_of_digits first)) (byte_range_of_positions (range_number_of_digits first) (range_number_of_digits last))) ≡ Some range → RangeIsInOrder range
    by_first false l e = last_read (range_number_of_digits last) range e
    by_first true false e = from_read (range_number_of_digits first) range e
    by_first true true e = in_order (range_number_of_digits first) (range_number_of_digits last) range e

cut_read : (cut : Option (List ℕ × List ℕ)) (range : ByteRange) → byte_range_of_texts_if_split cut ≡ Some range → RangeIsInOrder range
cut_read (Some (first, last)) range h = parts_read first last range h
cut_read None range h = cc

value_read : (value : List ℕ) (range : ByteRange) → byte_range_of_value value ≡ Some range → RangeIsInOrder range
value_read value range h = by_unit (is_same_name (take 6 value) (codes "bytes=")) h
  where
    by_unit : (t : Bool) → cond t (byte_range_of_texts_if_split (split_at_first_byte 45 (drop 6 value))) None ≡ Some range → RangeIsInOrder range
    by_unit true e = cut_read (split_at_first_byte 45 (drop 6 value)) range e
    by_unit false e = cc

-- ---- a part

pub within : PartIsWithinTheContent
within total (FromTo first last) a b h read = by_test (nat_lt first total) refl h
  where
    by_test : (t : Bool) → nat_lt first total ≡ t → cond t (Part first (min last (total - 1))) Unsatisfiable ≡ Part a b → (a ≤ b) × (b < total)
    by_test true lt e =
        let one : first ≡ a = cc in
        let other : min last (total - 1) ≡ b = cc in
        let low : first < total = below first total lt in
        (omega (arith, one, other, low, read), omega (arith, other, low))
    by_test false lt e = cc
within total (From first) a b h read = by_test (nat_lt first total) refl h
  where
    by_test : (t : Bool) → nat_lt first total ≡ t → cond t (Part first (total - 1)) Unsatisfiable ≡ Part a b → (a ≤ b) × (b < total)
    by_test true lt e =
        let one : first ≡ a = cc in
        let other : total - 1 ≡ b = cc in
        let low : first < total = below first total lt in
        (omega (arith, one, other, low), omega (arith, other, low))
    by_test false lt e = cc
within total (Last most) a b h read = by_test (most == 0) (total == 0) refl refl h
  where
    by_test : (m t : Bool) → (most == 0) ≡ m → (total == 0) ≡ t → cond m Unsatisfiable (cond t Whole (Part (total - most) (total - 1))) ≡ Part a b → (a ≤ b) × (b < total)
    by_test true t some is e = cc
    by_test false true some is e = cc
    by_test false false some is e =
        let one : total - most ≡ a = cc in
        let other : total - 1 ≡ b = cc in
        let asks : 0 < most = not_none most some in
        let there : 0 < total = not_none total is in
        (omega (arith, one, other, asks, there), omega (arith, other, there))

-- ---- what answers a request

by_range : (total : ℕ) (asked : Option ByteRange) → ((range : ByteRange) → asked ≡ Some range → RangeIsInOrder range) → PartLiesWithinTotal (answer_to_range_if_any total asked) total
by_range total None read = tt
by_range total (Some range) read = by_answer (answer_to_range total range) refl
  where
    by_answer : (answer : RangeAnswer) → answer_to_range total range ≡ answer → PartLiesWithinTotal answer total
    by_answer Whole e = tt
    by_answer Unsatisfiable e = tt
    by_answer (Part a b) e = within total range a b e (read range refl)

value_if_one : (value : Option (List ℕ)) (range : ByteRange) → option_and_then byte_range_of_value value ≡ Some range → RangeIsInOrder range
value_if_one None range h = cc
value_if_one (Some value) range h = value_read value range h

pub answer_is_in : (asked : Asked) (status date : ℕ) (fields : List Field) (total : ℕ) → PartLiesWithinTotal (range_answer_of asked status date fields total) total
answer_is_in asked status date fields total = by_test (range_is_answered asked status date fields)
  where
    by_test : (t : Bool) → PartLiesWithinTotal (cond t (answer_to_range_if_any total (range_asked asked.fields)) Whole) total
    by_test true = by_range total (range_asked asked.fields) (λ range is. value_if_one (only_value asked.fields (codes "Range")) range is)
    by_test false = tt

-- ---- just what is asked for

pub what_is_asked : PartHasExactlyTheBytesAskedFor
what_is_asked total (FromTo first last) a b at h there = by_test (nat_lt first total) refl h
  where
    by_test : (t : Bool) → nat_lt first total ≡ t → cond t (Part first (min last (total - 1))) Unsatisfiable ≡ Part a b → ((a ≤ at) × (at ≤ b) → (first ≤ at) × (at ≤ last)) × ((first ≤ at) × (at ≤ last) → (a ≤ at) × (at ≤ b))
    by_test true lt e =
        let one : first ≡ a = cc in
        let other : min last (total - 1) ≡ b = cc in
        (λ in_it. (omega (arith, one, in_it.0), omega (arith, other, in_it.1)), λ asked. (omega (arith, one, asked.0), omega (arith, other, asked.1, there)))
    by_test false lt e = cc
what_is_asked total (From first) a b at h there = by_test (nat_lt first total) refl h
  where
    by_test : (t : Bool) → nat_lt first total ≡ t → cond t (Part first (total - 1)) Unsatisfiable ≡ Part a b → ((a ≤ at) × (at ≤ b) → first ≤ at) × (first ≤ at → (a ≤ at) × (at ≤ b))
    by_test true lt e =
        let one : first ≡ a = cc in
        let other : total - 1 ≡ b = cc in
        (λ in_it. omega (arith, one, in_it.0), λ asked. (omega (arith, one, asked), omega (arith, other, there)))
    by_test false lt e = cc
what_is_asked total (Last most) a b at h there = by_test (most == 0) (total == 0) h
  where
    by_test : (m t : Bool) → cond m Unsatisfiable (cond t Whole (Part (total - most) (total - 1))) ≡ Part a b → ((a ≤ at) × (at ≤ b) → total ≤ at + most) × (total ≤ at + most → (a ≤ at) × (at ≤ b))
    by_test true t e = cc
    by_test false true e = cc
    by_test false false e =
        let one : total - most ≡ a = cc in
        let other : total - 1 ≡ b = cc in
        (λ in_it. omega (arith, one, in_it.0), λ asked. (omega (arith, one, asked), omega (arith, other, there)))

not_below : (m n : ℕ) → nat_lt m n ≡ false → n ≤ m
not_below m n h = grind (arith, nat_tests)

is_none_at_all : (n : ℕ) → (n == 0) ≡ true → n ≡ 0
is_none_at_all n h = grind (arith, nat_tests)

pub none_is_asked : UnsatisfiableRangeAsksForNoByte
none_is_asked total (FromTo first last) at h there asked = by_test (nat_lt first total) refl h
  where
    by_test : (t : Bool) → nat_lt first total ≡ t → cond t (Part first (min last (total - 1))) Unsatisfiable ≡ Unsatisfiable → ⊥
    by_test true lt e = cc
    by_test false lt e = let high : total ≤ first = not_below first total lt in omega (arith, high, there, asked.0)
none_is_asked total (From first) at h there asked = by_test (nat_lt first total) refl h
  where
    by_test : (t : Bool) → nat_lt first total ≡ t → cond t (Part first (total - 1)) Unsatisfiable ≡ Unsatisfiable → ⊥
    by_test true lt e = cc
    by_test false lt e = let high : total ≤ first = not_below first total lt in omega (arith, high, there, asked)
none_is_asked total (Last most) at h there asked = by_test (most == 0) (total == 0) refl h
  where
    by_test : (m t : Bool) → (most == 0) ≡ m → cond m Unsatisfiable (cond t Whole (Part (total - most) (total - 1))) ≡ Unsatisfiable → ⊥
    by_test true t is e = let none : most ≡ 0 = is_none_at_all most is in omega (arith, none, there, asked)
    by_test false true is e = cc
    by_test false false is e = cc

-- ---- what is sent whole

unheeded : (asked : Asked) (e : Stored) → range_is_answered asked e.status e.times.date e.fields ≡ false → response_as_range_answer (range_answer asked e) e ≡ e
unheeded asked e off = ap (λ t. response_as_range_answer (cond t (answer_to_range_if_any (length e.content) (range_asked asked.fields)) Whole) e) off

method_is_not : (m : List ℕ) → (m ≡ codes "GET" → ⊥) → bytes_eq m (codes "GET") ≡ false
method_is_not m other = by_test (bytes_eq m (codes "GET")) refl
  where
    by_test : (t : Bool) → bytes_eq m (codes "GET") ≡ t → t ≡ false
    by_test true e = absurd (other ((bytes_eq-Decides m (codes "GET")).0 e))
    by_test false e = refl

pub of_another_method : RangeOfAnotherMethodIsIgnored
of_another_method asked e other =
    unheeded asked e (first_absent (bytes_eq asked.method (codes "GET")) ((e.status == 200) && if_range_holds asked.fields e.times.date e.fields) (method_is_not asked.method other))

pub of_another_status : OnlyA200HasParts
of_another_status asked e other =
    unheeded asked e
    (last_absent (bytes_eq asked.method (codes "GET")) ((e.status == 200) && if_range_holds asked.fields e.times.date e.fields)
    (first_absent (e.status == 200) (if_range_holds asked.fields e.times.date e.fields) (not_equal e.status 200 other)))

pub of_another_response : FailedIfRangeSendsTheWhole
of_another_response asked e off =
    unheeded asked e
    (last_absent (bytes_eq asked.method (codes "GET")) ((e.status == 200) && if_range_holds asked.fields e.times.date e.fields)
    (last_absent (e.status == 200) (if_range_holds asked.fields e.times.date e.fields) off))

pub of_no_range : WithoutOneByteRangeTheWholeIsSent
of_no_range asked e none = by_test (range_is_answered asked e.status e.times.date e.fields)
  where
    by_asked : (o : Option ByteRange) → o ≡ None → response_as_range_answer (answer_to_range_if_any (length e.content) o) e ≡ e
    by_asked None is = refl
    by_asked (Some range) is = cc

    by_test : (t : Bool) → response_as_range_answer (cond t (answer_to_range_if_any (length e.content) (range_asked asked.fields)) Whole) e ≡ e
    by_test true = by_asked (range_asked asked.fields) none
    by_test false = refl

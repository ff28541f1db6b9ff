-- Of the faults that stand at the end of a head the least is told.
use Rattle.std.proofs.Common.{◌≡◌, ℕ, ◌≤◌, ◌&&◌, ◌||◌, ◌==◌, Bool, true, false, not, cond, refl, sym, ap, ◌∙◌, subst, arith, Result, Ok, Err}
use Rattle.hx_framing.specs.declared.frame_fault.FrameFault.{FrameFault}
use Rattle.hx_framing.specs.declared.frame_fault.FrameFault.TheVariants as fault
use Rattle.hx_framing.specs.declared.lengths.framing.Framing.{Framing}
use Rattle.hx_framing.specs.declared.lengths.framing.Framing.TheVariants as framing
use Rattle.hx_framing.specs.declared.lengths.framing.RequestFraming.{RequestFraming}
use Rattle.hx_framing.specs.declared.heads.request_head.Head.{Head}
use Rattle.hx_framing.specs.declared.heads.status_head.StatusHead.{StatusHead}
use Rattle.hx_framing.specs.Fault.{frame_fault_number}
use Rattle.hx_framing.specs.FaultOrder.{fault_applies_to_request_head, response_heeds_length_fields, fault_applies_to_response_head, IsLeastFault}
use Rattle.hx_framing.specs.Lengths.{has_both_length_fields, has_bad_length_fields, has_coding_of_unknown_end, has_coding_other_than_chunked, is_too_large, expects_other_than_100_continue, framing_has_content, expects_continue, expectation_of_head, framing_of_faultless_fields, framing_of_response, response_has_no_content, is_accepted_status, request_framing_of, framing_with_expectation, framing_if_accepted_status}

-- the faults of a head, of which some stand
abbrev applies : Bool → Bool → Bool → Bool → Bool → Bool → FrameFault → Bool
applies both length coding large expect status fault.Head = false
applies both length coding large expect status fault.Version = false
applies both length coding large expect status fault.BothLengths = both
applies both length coding large expect status fault.Length = length
applies both length coding large expect status fault.Coding = coding
applies both length coding large expect status fault.Chunk = false
applies both length coding large expect status fault.TooLarge = large
applies both length coding large expect status fault.Expect = expect
applies both length coding large expect status fault.Truncated = false
applies both length coding large expect status fault.Status = status

-- the first of them
abbrev first_bytes : {A : Type 0} → Bool → Bool → Bool → Bool → Bool → Bool → A → Result A FrameFault
first_bytes both length coding large expect status a =
    cond both (Err fault.BothLengths)
    (cond length (Err fault.Length)
    (cond coding (Err fault.Coding)
    (cond large (Err fault.TooLarge)
    (cond expect (Err fault.Expect)
    (cond status (Err fault.Status)
    (Ok a))))))

-- ---- a fault that stands has at least the number of the first

from_both : (length coding large expect status : Bool) → (f : FrameFault) → applies true length coding large expect status f ≡ true → 3 ≤ frame_fault_number f
from_both length coding large expect status fault.Head s = absurd cc
from_both length coding large expect status fault.Version s = absurd cc
from_both length coding large expect status fault.BothLengths s = omega arith
from_both length coding large expect status fault.Length s = omega arith
from_both length coding large expect status fault.Coding s = omega arith
from_both length coding large expect status fault.Chunk s = absurd cc
from_both length coding large expect status fault.TooLarge s = omega arith
from_both length coding large expect status fault.Expect s = omega arith
from_both length coding large expect status fault.Truncated s = absurd cc
from_both length coding large expect status fault.Status s = omega arith

from_length : (coding large expect status : Bool) → (f : FrameFault) → applies false true coding large expect status f ≡ true → 4 ≤ frame_fault_number f
from_length coding large expect status fault.Head s = absurd cc
from_length coding large expect status fault.Version s = absurd cc
from_length coding large expect status fault.BothLengths s = absurd cc
from_length coding large expect status fault.Length s = omega arith
from_length coding large expect status fault.Coding s = omega arith
from_length coding large expect status fault.Chunk s = absurd cc
from_length coding large expect status fault.TooLarge s = omega arith
from_length coding large expect status fault.Expect s = omega arith
from_length coding large expect status fault.Truncated s = absurd cc
from_length coding large expect status fault.Status s = omega arith

from_coding : (large expect status : Bool) → (f : FrameFault) → applies false false true large expect status f ≡ true → 5 ≤ frame_fault_number f
from_coding large expect status fault.Head s = absurd cc
from_coding large expect status fault.Version s = absurd cc
from_coding large expect status fault.BothLengths s = absurd cc
from_coding large expect status fault.Length s = absurd cc
from_coding large expect status fault.Coding s = omega arith
from_coding large expect status fault.Chunk s = absurd cc
from_coding large expect status fault.TooLarge s = omega arith
from_coding large expect status fault.Expect s = omega arith
from_coding large expect status fault.Truncated s = absurd cc
from_coding large expect status fault.Status s = omega arith

from_large : (expect status : Bool) → (f : FrameFault) → applies false false false true expect status f ≡ true → 7 ≤ frame_fault_number f
from_large expect status fault.Head s = absurd cc
from_large expect status fault.Version s = absurd cc
from_large expect status fault.BothLengths s = absurd cc
from_large expect status fault.Length s = absurd cc
from_large expect status fault.Coding s = absurd cc
from_large expect status fault.Chunk s = absurd cc
from_large expect status fault.TooLarge s = omega arith
from_large expect status fault.Expect s = omega arith
from_large expect status fault.Truncated s = absurd cc
from_large expect status fault.Status s = omega arith

from_expect : (status : Bool) → (f : FrameFault) → applies false false false false true status f ≡ true → 8 ≤ frame_fault_number f
from_expect status fault.Head s = absurd cc
from_expect status fault.Version s = absurd cc
from_expect status fault.BothLengths s = absurd cc
from_expect status fault.Length s = absurd cc
from_expect status fault.Coding s = absurd cc
from_expect status fault.Chunk s = absurd cc
from_expect status fault.TooLarge s = absurd cc
from_expect status fault.Expect s = omega arith
from_expect status fault.Truncated s = absurd cc
from_expect status fault.Status s = omega arith

from_status : (f : FrameFault) → applies false false false false false true f ≡ true → 10 ≤ frame_fault_number f
from_status fault.Head s = absurd cc
from_status fault.Version s = absurd cc
from_status fault.BothLengths s = absurd cc
from_status fault.Length s = absurd cc
from_status fault.Coding s = absurd cc
from_status fault.Chunk s = absurd cc
from_status fault.TooLarge s = absurd cc
from_status fault.Expect s = absurd cc
from_status fault.Truncated s = absurd cc
from_status fault.Status s = omega arith

nothing : (f : FrameFault) → applies false false false false false false f ≡ false
nothing fault.Head = refl
nothing fault.Version = refl
nothing fault.BothLengths = refl
nothing fault.Length = refl
nothing fault.Coding = refl
nothing fault.Chunk = refl
nothing fault.TooLarge = refl
nothing fault.Expect = refl
nothing fault.Truncated = refl
nothing fault.Status = refl

same_error : {A : Type 0} (f g : FrameFault) → ◌≡◌ {A = Result A FrameFault} (Err g) (Err f) → g ≡ f
same_error f g e = cc

least : {A : Type 0} (both length coding large expect status : Bool) (a : A) (f : FrameFault) → first_bytes both length coding large expect status a ≡ Err f
    → IsLeastFault (applies both length coding large expect status) f
least true length coding large expect status a f h =
    subst (λ (g : FrameFault). IsLeastFault (applies true length coding large expect status) g) (same_error f fault.BothLengths h)
    (record { this = refl; least = from_both length coding large expect status })
least false true coding large expect status a f h =
    subst (λ (g : FrameFault). IsLeastFault (applies false true coding large expect status) g) (same_error f fault.Length h)
    (record { this = refl; least = from_length coding large expect status })
least false false true large expect status a f h =
    subst (λ (g : FrameFault). IsLeastFault (applies false false true large expect status) g) (same_error f fault.Coding h)
    (record { this = refl; least = from_coding large expect status })
least false false false true expect status a f h =
    subst (λ (g : FrameFault). IsLeastFault (applies false false false true expect status) g) (same_error f fault.TooLarge h)
    (record { this = refl; least = from_large expect status })
least false false false false true status a f h =
    subst (λ (g : FrameFault). IsLeastFault (applies false false false false true status) g) (same_error f fault.Expect h)
    (record { this = refl; least = from_expect status })
least false false false false false true a f h =
    subst (λ (g : FrameFault). IsLeastFault (applies false false false false false true) g) (same_error f fault.Status h)
    (record { this = refl; least = from_status })
least false false false false false false a f h = absurd cc

none_applies : {A : Type 0} (both length coding large expect status : Bool) (a b : A) (f : FrameFault) → first_bytes both length coding large expect status a ≡ Ok b
    → applies both length coding large expect status f ≡ false
none_applies true length coding large expect status a b f h = absurd cc
none_applies false true coding large expect status a b f h = absurd cc
none_applies false false true large expect status a b f h = absurd cc
none_applies false false false true expect status a b f h = absurd cc
none_applies false false false false true status a b f h = absurd cc
none_applies false false false false false true a b f h = absurd cc
none_applies false false false false false false a b f h = nothing f

-- the same table
same_least : (table other : FrameFault → Bool) (f : FrameFault) → ((g : FrameFault) → table g ≡ other g) → IsLeastFault table f → IsLeastFault other f
same_least table other f same is = record { this = sym (same f) ∙ is.this; least = λ g s. is.least g (same g ∙ s) }

-- ---- requests

shown_request_body : Head → RequestFraming
shown_request_body head =
    let shown : Framing = framing_of_faultless_fields framing.Nothing head.fields in
    record { framing = shown; wants_continue = expects_continue (expectation_of_head head) && framing_has_content shown }

request_first : (max : ℕ) (head : Head) → request_framing_of max head
    ≡ first_bytes (has_both_length_fields head.fields) (has_bad_length_fields head.minor head.fields || has_coding_of_unknown_end head.fields) (has_coding_other_than_chunked head.fields)
    (is_too_large max head.fields) (expects_other_than_100_continue (expectation_of_head head)) false (shown_request_body head)
unfolding shown_request_body
request_first max head =
    by_tests (has_both_length_fields head.fields) (has_bad_length_fields head.minor head.fields || has_coding_of_unknown_end head.fields) (has_coding_other_than_chunked head.fields) (is_too_large max head.fields)
  where
    by_tests : (a b c d : Bool) → framing_with_expectation (expectation_of_head head) (cond a (Err fault.BothLengths) (cond b (Err fault.Length) (cond c (Err fault.Coding)
        (cond d (Err fault.TooLarge) (Ok (framing_of_faultless_fields framing.Nothing head.fields))))))
        ≡ first_bytes a b c d (expects_other_than_100_continue (expectation_of_head head)) false (shown_request_body head)
    by_tests true b c d = refl
    by_tests false true c d = refl
    by_tests false false true d = refl
    by_tests false false false true = refl
    by_tests false false false false = refl

request_table : (max : ℕ) (head : Head) (f : FrameFault)
    → applies (has_both_length_fields head.fields) (has_bad_length_fields head.minor head.fields || has_coding_of_unknown_end head.fields) (has_coding_other_than_chunked head.fields)
    (is_too_large max head.fields) (expects_other_than_100_continue (expectation_of_head head)) false f
    ≡ fault_applies_to_request_head max head f
request_table max head fault.Head = refl
request_table max head fault.Version = refl
request_table max head fault.BothLengths = refl
request_table max head fault.Length = refl
request_table max head fault.Coding = refl
request_table max head fault.Chunk = refl
request_table max head fault.TooLarge = refl
request_table max head fault.Expect = refl
request_table max head fault.Truncated = refl
request_table max head fault.Status = refl

pub request_least : (max : ℕ) (head : Head) (f : FrameFault) → request_framing_of max head ≡ Err f → IsLeastFault (fault_applies_to_request_head max head) f
request_least max head f h =
    same_least _ (fault_applies_to_request_head max head) f (request_table max head)
    (least (has_both_length_fields head.fields) (has_bad_length_fields head.minor head.fields || has_coding_of_unknown_end head.fields) (has_coding_other_than_chunked head.fields)
    (is_too_large max head.fields) (expects_other_than_100_continue (expectation_of_head head)) false (shown_request_body head) f (sym (request_first max head) ∙ h))

pub request_none : (max : ℕ) (head : Head) (request_body : RequestFraming) → request_framing_of max head ≡ Ok request_body → (f : FrameFault) → fault_applies_to_request_head max head f ≡ false
request_none max head request_body h f =
    sym (request_table max head f)
    ∙ none_applies (has_both_length_fields head.fields) (has_bad_length_fields head.minor head.fields || has_coding_of_unknown_end head.fields) (has_coding_other_than_chunked head.fields)
    (is_too_large max head.fields) (expects_other_than_100_continue (expectation_of_head head)) false (shown_request_body head) request_body f (sym (request_first max head) ∙ h)

-- ---- responses

response_framing : Bool → StatusHead → Framing
response_framing to_head head = cond (response_heeds_length_fields to_head head) (framing_of_faultless_fields framing.UntilClose head.fields) framing.Nothing

abbrev table_of : ℕ → Bool → StatusHead → FrameFault → Bool
table_of max to_head head =
    let judged : Bool = response_heeds_length_fields to_head head in
    applies (judged && has_both_length_fields head.fields) (judged && has_bad_length_fields head.minor head.fields) (judged && has_coding_other_than_chunked head.fields)
    (judged && is_too_large max head.fields) false (not (is_accepted_status head.status))

or_false : (t : Bool) → (t || false) ≡ t
or_false true = refl
or_false false = refl

-- with_status, by its test
abbrev with_status_by : Bool → Result Framing FrameFault → Result Framing FrameFault
with_status_by taken (Err f) = Err f
with_status_by taken (Ok shown) = cond taken (Ok shown) (Err fault.Status)

same_status : (status : ℕ) (r : Result Framing FrameFault) → framing_if_accepted_status status r ≡ with_status_by (is_accepted_status status) r
same_status status (Err f) = refl
same_status status (Ok shown) = refl

response_order : (max : ℕ) (to_head : Bool) (head : StatusHead) → framing_of_response max to_head head
    ≡ first_bytes (response_heeds_length_fields to_head head && has_both_length_fields head.fields) (response_heeds_length_fields to_head head && has_bad_length_fields head.minor head.fields)
    (response_heeds_length_fields to_head head && has_coding_other_than_chunked head.fields) (response_heeds_length_fields to_head head && is_too_large max head.fields) false
    (not (is_accepted_status head.status)) (response_framing to_head head)
unfolding response_framing
response_order max to_head head =
    ap (λ (t : Bool). framing_if_accepted_status head.status (cond (head.status == 101 || response_has_no_content to_head head.status) (Ok framing.Nothing)
    (cond (has_both_length_fields head.fields) (Err fault.BothLengths) (cond t (Err fault.Length) (cond (has_coding_other_than_chunked head.fields) (Err fault.Coding)
    (cond (is_too_large max head.fields) (Err fault.TooLarge) (Ok (framing_of_faultless_fields framing.UntilClose head.fields))))))))
    (or_false (has_bad_length_fields head.minor head.fields))
    ∙ same_status head.status _
    ∙ by_tests (head.status == 101 || response_has_no_content to_head head.status) (has_both_length_fields head.fields) (has_bad_length_fields head.minor head.fields) (has_coding_other_than_chunked head.fields)
    (is_too_large max head.fields) (is_accepted_status head.status)
  where
    by_tests : (w a b c d s : Bool)
        → with_status_by s (cond w (Ok framing.Nothing) (cond a (Err fault.BothLengths) (cond b (Err fault.Length) (cond c (Err fault.Coding)
        (cond d (Err fault.TooLarge) (Ok (framing_of_faultless_fields framing.UntilClose head.fields)))))))
        ≡ first_bytes (not w && a) (not w && b) (not w && c) (not w && d) false (not s) (cond (not w) (framing_of_faultless_fields framing.UntilClose head.fields) framing.Nothing)
    by_tests true a b c d true = refl
    by_tests true a b c d false = refl
    by_tests false true b c d s = refl
    by_tests false false true c d s = refl
    by_tests false false false true d s = refl
    by_tests false false false false true s = refl
    by_tests false false false false false true = refl
    by_tests false false false false false false = refl

response_table : (max : ℕ) (to_head : Bool) (head : StatusHead) (f : FrameFault) → table_of max to_head head f ≡ fault_applies_to_response_head max to_head head f
response_table max to_head head fault.Head = refl
response_table max to_head head fault.Version = refl
response_table max to_head head fault.BothLengths = refl
response_table max to_head head fault.Length = refl
response_table max to_head head fault.Coding = refl
response_table max to_head head fault.Chunk = refl
response_table max to_head head fault.TooLarge = refl
response_table max to_head head fault.Expect = refl
response_table max to_head head fault.Truncated = refl
response_table max to_head head fault.Status = refl

pub response_least : (max : ℕ) (to_head : Bool) (head : StatusHead) (f : FrameFault) → framing_of_response max to_head head ≡ Err f
    → IsLeastFault (fault_applies_to_response_head max to_head head) f
response_least max to_head head f h =
    same_least (table_of max to_head head) (fault_applies_to_response_head max to_head head) f (response_table max to_head head)
    (least (response_heeds_length_fields to_head head && has_both_length_fields head.fields) (response_heeds_length_fields to_head head && has_bad_length_fields head.minor head.fields)
    (response_heeds_length_fields to_head head && has_coding_other_than_chunked head.fields) (response_heeds_length_fields to_head head && is_too_large max head.fields) false
    (not (is_accepted_status head.status)) (response_framing to_head head) f (sym (response_order max to_head head) ∙ h))

pub response_none : (max : ℕ) (to_head : Bool) (head : StatusHead) (framing : Framing) → framing_of_response max to_head head ≡ Ok framing
    → (f : FrameFault) → fault_applies_to_response_head max to_head head f ≡ false
response_none max to_head head shown h f =
    sym (response_table max to_head head f)
    ∙ none_applies (response_heeds_length_fields to_head head && has_both_length_fields head.fields) (response_heeds_length_fields to_head head && has_bad_length_fields head.minor head.fields)
    (response_heeds_length_fields to_head head && has_coding_other_than_chunked head.fields) (response_heeds_length_fields to_head head && is_too_large max head.fields) false
    (not (is_accepted_status head.status)) (response_framing to_head head) shown f (sym (response_order max to_head head) ∙ h)

-- The values of the lines that the proxy adds are field values.
use Rattle.std.proofs.Common.{◌≡◌, ℕ, zero, suc, ◌+◌, ◌/◌, ◌%◌, ◌<◌, ◌≤◌, ◌&&◌, ◌==◌, Bool, true, false, not, cond, List, [], ◌∷◌, ◌++◌, length, length-append, append_assoc, nat_lt, refl, subst, arith}
use Rattle.std.specs.Prelude.{All, Option, Some, None, codes, decimal, ℤ, pos, negsuc}
use Rattle.std.specs.Fmt.{digit_glyph, digits, digits_onto, signed_decimal}
use Rattle.std.specs.List.{list_all}
use Rattle.std.proofs.lemmas.Bool.Decides.{nat_tests}
use Rattle.std.proofs.lemmas.List.Elements.{All-nil, All-cons, All-append, All-weaker}
use Rattle.httparse.specs.Grammar.{IsToken, is_ows, is_token_byte, is_value_byte}
use Rattle.http_header.proofs.TokenLemmas.{AllPass-from_test}
use Rattle.hx_framing.specs.declared.frame_fault.FrameFault.{FrameFault}
use Rattle.hx_framing.specs.declared.frame_fault.FrameFault.TheVariants as frame
use Rattle.hx_target.specs.declared.target_fault.TargetFault.{TargetFault}
use Rattle.hx_target.specs.declared.target_fault.TargetFault.TheVariants as target
use Rattle.hx_reuse.specs.declared.rule.ReuseRule.{ReuseRule}
use Rattle.hx_reuse.specs.declared.rule.ReuseRule.TheVariants.{UriMiss}
use Rattle.hx_reuse.specs.declared.rule.ErrorRule.{ErrorRule}
use Rattle.hx_reuse.specs.declared.rule.ErrorRule.TheVariants as on_error
use Rattle.hx_reuse.specs.RuleNames.{reuse_rule_detail, error_rule_word, reuse_rule_reason}
use Rattle.hx_status.specs.declared.cause.Cause.{Cause}
use Rattle.hx_status.specs.declared.cause.Cause.TheVariants.{Denied, NoLine, Looped, OnlyIfCached, Origin, Frame, Target}
use Rattle.hx_status.specs.declared.cause.FailKind.{FailKind}
use Rattle.hx_status.specs.declared.cause.FailKind.TheVariants.{Refused}
use Rattle.hx_status.specs.declared.status.Detail.{Detail}
use Rattle.hx_status.specs.declared.status.Detail.TheVariants.{StaleIfError}
use Rattle.hx_status.specs.declared.status.How.{How}
use Rattle.hx_status.specs.declared.status.How.TheVariants.{Hit, Fwd}
use Rattle.hx_status.specs.declared.status.Status.{Status}
use Rattle.hx_storable.specs.declared.rule.StoreRule.{StoreRule}
use Rattle.hx_storable.specs.declared.rule.StoreRule.TheVariants.{Operator}
use Rattle.hx_status.specs.Member.{detail_of_step_or_rule, text_if_flag, fwd_status_text, hit_or_forward_text, member_text, not_stored_word, ttl_text, detail_word, detail_word_or_not_stored, parameter_of_detail_word}
use Rattle.hx_status.specs.Refusals.{error_rule_text, frame_fault_word, fail_kind_word, origin_failure_text, fwd_parameters_of_rule, target_fault_word, refusal_text}
use Rattle.hx_validate.specs.Ranges.{part_text, unsatisfied_text}
use Rattle.hx_hop_laws.specs.OneMessage.{IsFieldValue}
use Rattle.hx_hop_laws.proofs.ReadTargets.{IsVisible, pass_visible}
use Rattle.hx_hop_laws.proofs.SentRequests.{visible_seen, visible_value}
use Rattle.hx_hop_laws.proofs.Values.{trim_word, trim_words}

-- ---- visible bytes

-- (a record, so that what it is of can be read off it)
record AreVisible (text : List ℕ) : Type 0 where
  all : All IsVisible text

abbrev seen : ℕ → Bool
seen b = nat_lt 32 b && nat_lt b 127

seen_visible : (b : ℕ) → seen b ≡ true → IsVisible b
seen_visible b h = record { above = grind (arith, nat_tests); below = grind (arith, nat_tests) }

word : (text : List ℕ) → list_all seen text ≡ true → AreVisible text
word text test = record { all = pass_visible seen seen_visible text test }

joined : (a b : List ℕ) → AreVisible a → AreVisible b → AreVisible (a ++ b)
joined a b x y = record { all = All-append IsVisible a b x.all y.all }

token_visible : (b : ℕ) → is_token_byte b ≡ true → IsVisible b
unfolding is_token_byte
token_visible b token = record { above = grind (arith, nat_tests); below = grind (arith, nat_tests) }

name_visible : (name : List ℕ) → IsToken name → AreVisible name
name_visible name token = record { all = All-weaker (λ b. is_token_byte b ≡ true) IsVisible token_visible name token.1 }

digit_visible : (d : ℕ) → d < 10 → IsVisible (48 + d)
digit_visible d small = record { above = omega arith; below = omega arith }

glyph_visible : (n : ℕ) → IsVisible (digit_glyph false (n % 10))
glyph_visible n = by_test (nat_lt (n % 10) 10) refl
  where
    small : n % 10 < 10
    small = omega arith

    by_test : (t : Bool) → nat_lt (n % 10) 10 ≡ t → IsVisible (cond t (48 + n % 10) (87 + n % 10))
    by_test true p = digit_visible (n % 10) small
    by_test false p = absurd (grind (arith, nat_tests, small))

onto_visible : (k n : ℕ) (acc : List ℕ) → All IsVisible acc → All IsVisible (digits_onto k 10 false n acc)
onto_visible zero n acc all = all
onto_visible (suc k) n acc all =
    let more : All IsVisible (digit_glyph false (n % 10) ∷ acc) = All-cons IsVisible (digit_glyph false (n % 10)) acc (glyph_visible n) all in
    either (n / 10 == 0) (digit_glyph false (n % 10) ∷ acc) (digits_onto k 10 false (n / 10) (digit_glyph false (n % 10) ∷ acc)) more (onto_visible k (n / 10) (digit_glyph false (n % 10) ∷ acc) more)
  where
    either : (t : Bool) (a b : List ℕ) → All IsVisible a → All IsVisible b → All IsVisible (cond t a b)
    either true a b x y = x
    either false a b x y = y

decimal_visible : (n : ℕ) → AreVisible (decimal n)
unfolding digits
decimal_visible n = record { all = onto_visible 64 n [] (All-nil IsVisible) }

signed_visible : (n : ℤ) → AreVisible (signed_decimal n)
signed_visible (pos n) = decimal_visible n
signed_visible (negsuc n) = joined (codes "-") (decimal (suc n)) (word (codes "-") refl) (decimal_visible (suc n))

-- ---- words

reason_visible : (rule : ReuseRule) → list_all seen (reuse_rule_reason rule) ≡ true
reason_visible UriMiss = refl
reason_visible _ = refl

detail_visible : (rule : ReuseRule) → list_all seen (parameter_of_detail_word (reuse_rule_detail rule)) ≡ true
detail_visible UriMiss = refl
detail_visible _ = refl

error_visible : (rule : ErrorRule) → list_all seen (codes ";stale-if-error=" ++ error_rule_word rule) ≡ true
error_visible on_error.NoDirective = refl
error_visible _ = refl

kind_visible : (kind : FailKind) → list_all seen (fail_kind_word kind) ≡ true
kind_visible Refused = refl
kind_visible _ = refl

frame_visible : (fault : FrameFault) → list_all seen (frame_fault_word fault) ≡ true
frame_visible frame.Head = refl
frame_visible _ = refl

target_visible : (fault : TargetFault) → list_all seen (target_fault_word fault) ≡ true
target_visible target.Form = refl
target_visible _ = refl

step_visible : (detail : Detail) → list_all seen (parameter_of_detail_word (Some (detail_word detail))) ≡ true
step_visible StaleIfError = refl
step_visible _ = refl

-- ---- the member of Cache-Status

how_visible : (how : How) → AreVisible (hit_or_forward_text how)
how_visible Hit = word (codes ";hit") refl
how_visible (Fwd rule) = joined (codes ";fwd=") (reuse_rule_reason rule) (word (codes ";fwd=") refl) (word (reuse_rule_reason rule) (reason_visible rule))

came_visible : (came : Option ℕ) → AreVisible (fwd_status_text came)
came_visible None = word [] refl
came_visible (Some status) = joined (codes ";fwd-status=") (decimal status) (word (codes ";fwd-status=") refl) (decimal_visible status)

ttl_visible : (ttl : Option ℤ) → AreVisible (ttl_text ttl)
ttl_visible None = word [] refl
ttl_visible (Some seconds) = joined (codes ";ttl=") (signed_decimal seconds) (word (codes ";ttl=") refl) (signed_visible seconds)

flag_visible : (flag : Bool) (text : List ℕ) → AreVisible text → AreVisible (text_if_flag flag text)
flag_visible true text all = all
flag_visible false text all = word [] refl

named_visible : (detail : Option Detail) (how : How) → AreVisible (parameter_of_detail_word (detail_of_step_or_rule detail how))
named_visible (Some detail) how = word (parameter_of_detail_word (Some (detail_word detail))) (step_visible detail)
named_visible None Hit = word [] refl
named_visible None (Fwd rule) = word (parameter_of_detail_word (reuse_rule_detail rule)) (detail_visible rule)

not_stored_visible : (rule : StoreRule) → list_all seen (parameter_of_detail_word (Some (not_stored_word rule))) ≡ true
not_stored_visible Operator = refl
not_stored_visible _ = refl

visible_or : (o : Option (List ℕ)) (rule : Option StoreRule) → AreVisible (parameter_of_detail_word o) → AreVisible (parameter_of_detail_word (detail_word_or_not_stored o rule))
visible_or (Some text) rule are = are
visible_or None None are = are
visible_or None (Some rule) are = word (parameter_of_detail_word (Some (not_stored_word rule))) (not_stored_visible rule)

visible_field_value : (text : List ℕ) → AreVisible text → IsFieldValue text
visible_field_value text are = (visible_value text are.all, trim_word text (visible_seen text are.all))

pub member_value : (name : List ℕ) (status : Status) → IsToken name → IsFieldValue (member_text name status)
member_value name status token =
    let how = joined name (hit_or_forward_text status.how) (name_visible name token) (how_visible status.how) in
    let came = joined _ (fwd_status_text status.fwd_status) how (came_visible status.fwd_status) in
    let ttl = joined _ (ttl_text status.ttl) came (ttl_visible status.ttl) in
    let stored = joined _ (text_if_flag status.stored (codes ";stored")) ttl (flag_visible status.stored (codes ";stored") (word (codes ";stored") refl)) in
    let collapsed = joined _ (text_if_flag status.collapsed (codes ";collapsed")) stored (flag_visible status.collapsed (codes ";collapsed") (word (codes ";collapsed") refl)) in
    visible_field_value (member_text name status) (joined _ (parameter_of_detail_word (detail_word_or_not_stored (detail_of_step_or_rule status.detail status.how) status.not_stored)) collapsed
    (visible_or (detail_of_step_or_rule status.detail status.how) status.not_stored (named_visible status.detail status.how)))

-- ---- the proxy's own texts

rule_visible : (rule : ReuseRule) → AreVisible (fwd_parameters_of_rule rule)
rule_visible rule =
    joined (codes ";fwd=" ++ reuse_rule_reason rule) (parameter_of_detail_word (reuse_rule_detail rule)) (how_visible (Fwd rule)) (word (parameter_of_detail_word (reuse_rule_detail rule)) (detail_visible rule))

errors_visible : (error : Option ErrorRule) → AreVisible (error_rule_text error)
errors_visible None = word [] refl
errors_visible (Some rule) = word (error_rule_text (Some rule)) (error_visible rule)

-- a front of words with blanks between them, and a last word
fronted : (b : ℕ) (middle last : List ℕ) → seen b ≡ true → list_all is_value_byte (b ∷ middle) ≡ true → 0 < length last → AreVisible last → IsFieldValue ((b ∷ middle) ++ last)
fronted b middle last first value some are = (
  All-append (λ c. is_value_byte c ≡ true) (b ∷ middle) last (AllPass-from_test is_value_byte (b ∷ middle) value) (visible_value last are.all),
  trim_words b middle last (first_seen b first) some (visible_seen last are.all),
)
  where
    first_seen : (c : ℕ) → seen c ≡ true → not (is_ows c) ≡ true
    first_seen c h = grind (arith, nat_tests, h)

onto_longer : (k n : ℕ) (acc : List ℕ) → length acc ≤ length (digits_onto k 10 false n acc)
onto_longer zero n acc = omega arith
onto_longer (suc k) n acc =
    either (n / 10 == 0) (digit_glyph false (n % 10) ∷ acc) (digits_onto k 10 false (n / 10) (digit_glyph false (n % 10) ∷ acc)) (omega arith)
    (let more : length (digit_glyph false (n % 10) ∷ acc) ≤ length (digits_onto k 10 false (n / 10) (digit_glyph false (n % 10) ∷ acc)) = onto_longer k (n / 10) (digit_glyph false (n % 10) ∷ acc) in omega arith)
  where
    either : (t : Bool) (a b : List ℕ) → length acc ≤ length a → length acc ≤ length b → length acc ≤ length (cond t a b)
    either true a b x y = x
    either false a b x y = y

some_decimal : (n : ℕ) → 0 < length (decimal n)
unfolding digits
some_decimal n = by_test (n / 10 == 0)
  where
    more : length (digit_glyph false (n % 10) ∷ []) ≤ length (digits_onto 63 10 false (n / 10) (digit_glyph false (n % 10) ∷ []))
    more = onto_longer 63 (n / 10) (digit_glyph false (n % 10) ∷ [])

    by_test : (t : Bool) → 0 < length (cond t (digit_glyph false (n % 10) ∷ []) (digits_onto 63 10 false (n / 10) (digit_glyph false (n % 10) ∷ [])))
    by_test true = omega arith
    by_test false = omega (arith, more)

some_kind : (kind : FailKind) → nat_lt 0 (length (fail_kind_word kind)) ≡ true
some_kind Refused = refl
some_kind _ = refl

some_frame : (fault : FrameFault) → nat_lt 0 (length (frame_fault_word fault)) ≡ true
some_frame frame.Head = refl
some_frame _ = refl

some_target : (fault : TargetFault) → nat_lt 0 (length (target_fault_word fault)) ≡ true
some_target target.Form = refl
some_target _ = refl

some_by : (text : List ℕ) → nat_lt 0 (length text) ≡ true → 0 < length text
some_by text h = grind (arith, nat_tests)

origin_value : (kind : FailKind) (rule : ReuseRule) (error : Option ErrorRule) → IsFieldValue (origin_failure_text kind rule error)
origin_value kind rule error =
    let last : List ℕ = fail_kind_word kind ++ fwd_parameters_of_rule rule ++ error_rule_text error in
    let are : AreVisible last = joined (fail_kind_word kind ++ fwd_parameters_of_rule rule) (error_rule_text error) (joined (fail_kind_word kind) (fwd_parameters_of_rule rule) (word (fail_kind_word kind) (kind_visible kind)) (rule_visible rule)) (errors_visible error) in
    let kinds : 0 < length (fail_kind_word kind) = some_by (fail_kind_word kind) (some_kind kind) in
    let some : 0 < length last = omega (arith, kinds, length-append (fail_kind_word kind ++ fwd_parameters_of_rule rule) (error_rule_text error), length-append (fail_kind_word kind) (fwd_parameters_of_rule rule)) in
    subst IsFieldValue (regroup (fail_kind_word kind) (fwd_parameters_of_rule rule) (error_rule_text error)) (fronted 111 (codes "rigin ") last refl refl some are)
  where
    regroup : (a b c : List ℕ) → codes "origin " ++ (a ++ b ++ c) ≡ codes "origin " ++ a ++ b ++ c
    regroup a b c = simp append_assoc refl

pub text_value : (cause : Cause) → IsFieldValue (refusal_text cause)
text_value (Denied line) = fronted 100 (codes "enied by line ") (decimal line) refl refl (some_decimal line) (decimal_visible line)
text_value (Looped line) = fronted 108 (codes "oop refused by line ") (decimal line) refl refl (some_decimal line) (decimal_visible line)
text_value NoLine = fronted 110 (codes "o line allows ") (codes "it") refl refl (omega arith) (word (codes "it") refl)
text_value (OnlyIfCached rule) = visible_field_value (codes "only-if-cached" ++ fwd_parameters_of_rule rule) (joined (codes "only-if-cached") (fwd_parameters_of_rule rule) (word (codes "only-if-cached") refl) (rule_visible rule))
text_value (Origin kind rule error) = origin_value kind rule error
text_value (Frame fault) = fronted 114 (codes "efused: ") (frame_fault_word fault) refl refl (some_by (frame_fault_word fault) (some_frame fault)) (word (frame_fault_word fault) (frame_visible fault))
text_value (Target fault) = fronted 114 (codes "efused: ") (target_fault_word fault) refl refl (some_by (target_fault_word fault) (some_target fault)) (word (target_fault_word fault) (target_visible fault))

-- what Content-Range tells
pub part_value : (first last total : ℕ) → IsFieldValue (part_text first last total)
part_value first last total =
    let last_word : List ℕ = decimal first ++ codes "-" ++ decimal last ++ codes "/" ++ decimal total in
    let are : AreVisible last_word =
    joined (decimal first ++ codes "-" ++ decimal last ++ codes "/") (decimal total)
    (joined (decimal first ++ codes "-" ++ decimal last) (codes "/")
    (joined (decimal first ++ codes "-") (decimal last) (joined (decimal first) (codes "-") (decimal_visible first) (word (codes "-") refl)) (decimal_visible last)) (word (codes "/") refl)) (decimal_visible total) in
    let some : 0 < length last_word = omega (arith, some_decimal total, length-append (decimal first ++ codes "-" ++ decimal last ++ codes "/") (decimal total)) in
    subst IsFieldValue (regroup (decimal first) (codes "-") (decimal last) (codes "/") (decimal total)) (fronted 98 (codes "ytes ") last_word refl refl some are)
  where
    regroup : (a b c d e : List ℕ) → codes "bytes " ++ (a ++ b ++ c ++ d ++ e) ≡ codes "bytes " ++ a ++ b ++ c ++ d ++ e
    regroup a b c d e = simp append_assoc refl

pub unsatisfied_value : (total : ℕ) → IsFieldValue (unsatisfied_text total)
unsatisfied_value total = fronted 98 (codes "ytes */") (decimal total) refl refl (some_decimal total) (decimal_visible total)

pub plain_value : IsFieldValue (codes "text/plain")
plain_value = visible_field_value (codes "text/plain") (word (codes "text/plain") refl)

pub decimal_value : (n : ℕ) → IsFieldValue (decimal n)
decimal_value n = visible_field_value (decimal n) (decimal_visible n)

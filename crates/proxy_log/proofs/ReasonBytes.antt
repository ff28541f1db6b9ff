-- What a reply tells of itself has no byte that has to be escaped.
use Rattle.std.proofs.Common.{◌≡◌, ℕ, zero, suc, ◌+◌, ◌/◌, ◌%◌, ◌<◌, ◌==◌, Bool, true, false, cond, List, [], ◌∷◌, ◌++◌, nat_lt, refl, ap, sym, ◌∙◌, arith}
use Rattle.std.specs.Prelude.{Option, Some, None, codes, decimal, ℤ, pos, negsuc}
use Rattle.std.specs.Fmt.{digit_glyph, digits, digits_onto, signed_decimal}
use Rattle.std.specs.List.{list_all}
use Rattle.std.proofs.lemmas.Bool.Decides.{nat_tests}
use Rattle.std.proofs.lemmas.Grind.{common_steps}
use Rattle.std.proofs.lemmas.List.{append_assoc}
use Rattle.hx_framing.specs.declared.frame_fault.FrameFault.{FrameFault}
use Rattle.hx_framing.specs.declared.frame_fault.FrameFault.TheVariants as frame
use Rattle.hx_target.specs.declared.target_fault.TargetFault.{TargetFault}
use Rattle.hx_target.specs.declared.target_fault.TargetFault.TheVariants as target
use Rattle.hx_reuse.specs.declared.rule.ReuseRule.{ReuseRule}
use Rattle.hx_reuse.specs.declared.rule.ReuseRule.TheVariants.{UriMiss}
use Rattle.hx_reuse.specs.declared.rule.ErrorRule.{ErrorRule}
use Rattle.hx_reuse.specs.declared.rule.ErrorRule.TheVariants as on_error
use Rattle.hx_reuse.specs.RuleNames.{reuse_rule_detail, error_rule_word, reuse_rule_reason}
use Rattle.hx_status.specs.Abouts.{cache_status_parameters_text, handling_text, reply_reason_text}
use Rattle.hx_status.specs.Member.{detail_of_step_or_rule, text_if_flag, fwd_status_text, not_stored_word, ttl_text, detail_word, detail_word_or_not_stored, parameter_of_detail_word}
use Rattle.hx_status.specs.Refusals.{error_rule_text, frame_fault_word, fail_kind_word, fwd_parameters_of_rule, target_fault_word, refusal_text}
use Rattle.hx_status.specs.declared.about.Told.{Told}
use Rattle.hx_status.specs.declared.about.Told.TheVariants as told
use Rattle.hx_status.specs.declared.cause.Cause.{Cause}
use Rattle.hx_status.specs.declared.cause.Cause.TheVariants.{Denied, NoLine, Looped, OnlyIfCached, Origin, Frame, Target}
use Rattle.hx_status.specs.declared.cause.FailKind.{FailKind}
use Rattle.hx_status.specs.declared.cause.FailKind.TheVariants.{Refused}
use Rattle.hx_status.specs.declared.status.Detail.{Detail}
use Rattle.hx_status.specs.declared.status.Detail.TheVariants.{StaleIfError}
use Rattle.hx_status.specs.declared.status.How.{How}
use Rattle.hx_status.specs.declared.status.How.TheVariants.{Hit, Fwd}
use Rattle.hx_status.specs.declared.status.Status.{Status}
use Rattle.hx_storable.specs.declared.rule.StoreRule.{StoreRule}
use Rattle.hx_storable.specs.declared.rule.StoreRule.TheVariants.{Operator}
use Rattle.proxy_log.specs.Line.{is_logged_unescaped, logged_byte, logged_text, unanswered_reason}
use Rattle.proxy_log.proofs.LineBytes.{all_both, both}

abbrev stands : ℕ → Bool
stands b = is_logged_unescaped true b

-- (a record, so that what it is of can be read off it)
record Stands (text : List ℕ) : Type 0 where
  all : list_all stands text ≡ true

word : (text : List ℕ) → list_all stands text ≡ true → Stands text
word text all = record { all = all }

joined : {a b : List ℕ} → Stands a → Stands b → Stands (a ++ b)
joined {a} {b} first second = record { all = all_both stands a b first.all second.all }

-- ---- numbers

digit_stands : (d : ℕ) → d < 10 → stands (48 + d) ≡ true
digit_stands d small = grind (arith, common_steps)

glyph_stands : (n : ℕ) → stands (digit_glyph false (n % 10)) ≡ true
glyph_stands n = by_test (nat_lt (n % 10) 10) refl
  where
    small : n % 10 < 10
    small = omega arith

    by_test : (t : Bool) → nat_lt (n % 10) 10 ≡ t → stands (cond t (48 + n % 10) (87 + n % 10)) ≡ true
    by_test true p = digit_stands (n % 10) small
    by_test false p = absurd (grind (arith, nat_tests, small))

onto_stands : (k n : ℕ) (acc : List ℕ) → list_all stands acc ≡ true → list_all stands (digits_onto k 10 false n acc) ≡ true
onto_stands zero n acc all = all
onto_stands (suc k) n acc all =
    let more : list_all stands (digit_glyph false (n % 10) ∷ acc) ≡ true = rw (glyph_stands n) all in
    either (n / 10 == 0) (digit_glyph false (n % 10) ∷ acc) (digits_onto k 10 false (n / 10) (digit_glyph false (n % 10) ∷ acc)) more (onto_stands k (n / 10) (digit_glyph false (n % 10) ∷ acc) more)
  where
    either : (t : Bool) (a b : List ℕ) → list_all stands a ≡ true → list_all stands b ≡ true → list_all stands (cond t a b) ≡ true
    either true a b x y = x
    either false a b x y = y

decimal_stands : (n : ℕ) → Stands (decimal n)
unfolding digits
decimal_stands n = record { all = onto_stands 64 n [] refl }

signed_stands : (n : ℤ) → Stands (signed_decimal n)
signed_stands (pos n) = decimal_stands n
signed_stands (negsuc n) = joined (word (codes "-") refl) (decimal_stands (suc n))

-- ---- words

reason_stands : (rule : ReuseRule) → list_all stands (reuse_rule_reason rule) ≡ true
reason_stands UriMiss = refl
reason_stands _ = refl

detail_stands : (rule : ReuseRule) → list_all stands (parameter_of_detail_word (reuse_rule_detail rule)) ≡ true
detail_stands UriMiss = refl
detail_stands _ = refl

error_stands : (rule : ErrorRule) → list_all stands (codes ";stale-if-error=" ++ error_rule_word rule) ≡ true
error_stands on_error.NoDirective = refl
error_stands _ = refl

kind_stands : (kind : FailKind) → list_all stands (fail_kind_word kind) ≡ true
kind_stands Refused = refl
kind_stands _ = refl

frame_stands : (fault : FrameFault) → list_all stands (frame_fault_word fault) ≡ true
frame_stands frame.Head = refl
frame_stands _ = refl

target_stands : (fault : TargetFault) → list_all stands (target_fault_word fault) ≡ true
target_stands target.Form = refl
target_stands _ = refl

step_stands : (detail : Detail) → list_all stands (parameter_of_detail_word (Some (detail_word detail))) ≡ true
step_stands StaleIfError = refl
step_stands _ = refl

not_stored_stands : (rule : StoreRule) → list_all stands (parameter_of_detail_word (Some (not_stored_word rule))) ≡ true
not_stored_stands Operator = refl
not_stored_stands _ = refl

-- ---- the parameters of Cache-Status

how_stands : (how : How) → Stands (handling_text how)
how_stands Hit = word (codes "hit") refl
how_stands (Fwd rule) = joined (word (codes "fwd=") refl) (word (reuse_rule_reason rule) (reason_stands rule))

came_stands : (came : Option ℕ) → Stands (fwd_status_text came)
came_stands None = word [] refl
came_stands (Some status) = joined (word (codes ";fwd-status=") refl) (decimal_stands status)

ttl_stands : (ttl : Option ℤ) → Stands (ttl_text ttl)
ttl_stands None = word [] refl
ttl_stands (Some seconds) = joined (word (codes ";ttl=") refl) (signed_stands seconds)

flag_stands : (flag : Bool) (text : List ℕ) → Stands text → Stands (text_if_flag flag text)
flag_stands true text all = all
flag_stands false text all = word [] refl

named_stands : (detail : Option Detail) (how : How) → Stands (parameter_of_detail_word (detail_of_step_or_rule detail how))
named_stands (Some detail) how = word (parameter_of_detail_word (Some (detail_word detail))) (step_stands detail)
named_stands None Hit = word [] refl
named_stands None (Fwd rule) = word (parameter_of_detail_word (reuse_rule_detail rule)) (detail_stands rule)

stands_or : (o : Option (List ℕ)) (rule : Option StoreRule) → Stands (parameter_of_detail_word o) → Stands (parameter_of_detail_word (detail_word_or_not_stored o rule))
stands_or (Some text) rule all = all
stands_or None None all = all
stands_or None (Some rule) all = word (parameter_of_detail_word (Some (not_stored_word rule))) (not_stored_stands rule)

parameters_stand : (status : Status) → Stands (cache_status_parameters_text status)
parameters_stand status =
    joined (joined (joined (joined (joined (how_stands status.how) (came_stands status.fwd_status)) (ttl_stands status.ttl))
    (flag_stands status.stored (codes ";stored") (word (codes ";stored") refl)))
    (flag_stands status.collapsed (codes ";collapsed") (word (codes ";collapsed") refl)))
    (stands_or (detail_of_step_or_rule status.detail status.how) status.not_stored (named_stands status.detail status.how))

-- ---- the proxy's own texts

rule_stands : (rule : ReuseRule) → Stands (fwd_parameters_of_rule rule)
rule_stands rule =
    joined (joined (word (codes ";fwd=") refl) (word (reuse_rule_reason rule) (reason_stands rule))) (word (parameter_of_detail_word (reuse_rule_detail rule)) (detail_stands rule))

errors_stand : (error : Option ErrorRule) → Stands (error_rule_text error)
errors_stand None = word [] refl
errors_stand (Some rule) = word (error_rule_text (Some rule)) (error_stands rule)

cause_stands : (cause : Cause) → Stands (refusal_text cause)
cause_stands (Denied line) = joined (word (codes "denied by line ") refl) (decimal_stands line)
cause_stands NoLine = word (codes "no line allows it") refl
cause_stands (Looped line) = joined (word (codes "loop refused by line ") refl) (decimal_stands line)
cause_stands (OnlyIfCached rule) = joined (word (codes "only-if-cached") refl) (rule_stands rule)
cause_stands (Origin kind rule error) =
    joined (joined (joined (word (codes "origin ") refl) (word (fail_kind_word kind) (kind_stands kind))) (rule_stands rule)) (errors_stand error)
cause_stands (Frame fault) = joined (word (codes "refused: ") refl) (word (frame_fault_word fault) (frame_stands fault))
cause_stands (Target fault) = joined (word (codes "refused: ") refl) (word (target_fault_word fault) (target_stands fault))

reply_stands : (told : Told) → Stands (reply_reason_text told)
reply_stands (told.Handled status) = parameters_stand status
reply_stands (told.Refused cause) = cause_stands cause
reply_stands (told.Purged count) = joined (word (codes "Purged: ") refl) (decimal_stands count)

-- ---- as they stand in a line

unescaped : (bs : List ℕ) → list_all stands bs ≡ true → logged_text true bs ≡ bs
unescaped [] all = refl
unescaped (b ∷ bs) all =
    let parts = both (stands b) (list_all stands bs) all in
    rw parts.0 (ap (λ (text : List ℕ). b ∷ text) (unescaped bs parts.1))

pub told_unescaped : (told : Told) → logged_text true (reply_reason_text told) ≡ reply_reason_text told
told_unescaped told = unescaped (reply_reason_text told) (reply_stands told).all

behind : (front cause : List ℕ) → logged_text true (front ++ cause) ≡ logged_text true front ++ logged_text true cause
behind [] cause = refl
behind (b ∷ bs) cause = ap (λ (text : List ℕ). logged_byte true b ++ text) (behind bs cause) ∙ sym (append_assoc (logged_byte true b) (logged_text true bs) (logged_text true cause))

pub cause_behind : (cause : List ℕ) → logged_text true (unanswered_reason cause) ≡ codes "left;cause=" ++ logged_text true cause
cause_behind cause = behind (codes "left;cause=") cause

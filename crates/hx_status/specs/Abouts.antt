-- What a reply is, as data: what each function gives, and how its text follows from it.
--
-- refusal_status_and_reason, purge_status_and_reason: what the proxy's own answers are
-- reply_reason_text: what a reply tells, as a line of a log has it
-- CacheStatusMemberHasTheReason, RefusalTextIsTheReason: what is told as data is what the reply's own line says
use Rattle.std.specs.Prelude.{◌≡◌, ℕ, List, ◌++◌, codes, None}
use Rattle.std.specs.Fmt.{decimal}
use Rattle.hx_reuse.specs.RuleNames.{reuse_rule_reason}
use Rattle.hx_status.specs.Member.{member_text, fwd_status_text, ttl_text, text_if_flag, detail_parameter_text}
use Rattle.hx_status.specs.Refusals.{refusal_status, refusal_text}
use Rattle.hx_status.specs.declared.about.StatusAndReason.{StatusAndReason}
use Rattle.hx_status.specs.declared.about.Told.{Told}
use Rattle.hx_status.specs.declared.about.Told.TheVariants.{Handled, Refused, Purged}
use Rattle.hx_status.specs.declared.cause.Cause.{Cause}
use Rattle.hx_status.specs.declared.status.How.{How}
use Rattle.hx_status.specs.declared.status.How.TheVariants.{Hit, Fwd}
use Rattle.hx_status.specs.declared.status.Status.{Status}

-- the proxy answers by itself, by no origin's word, with so many bytes of content
abbrev pub refusal_status_and_reason : Cause → ℕ → StatusAndReason
refusal_status_and_reason cause content_length = record {
  status = refusal_status cause;
  told = Refused cause;
  content_length = content_length;
  origin_line = None;
}

-- 204: a purge took so many
abbrev pub purge_status_and_reason : ℕ → StatusAndReason
purge_status_and_reason count = record { status = 204; told = Purged count; content_length = 0; origin_line = None }

abbrev pub handling_text : How → List ℕ
handling_text Hit = codes "hit"
handling_text (Fwd rule) = codes "fwd=" ++ reuse_rule_reason rule

-- the parameters of the member of Cache-Status, parted by semicolons
abbrev pub cache_status_parameters_text : Status → List ℕ
cache_status_parameters_text status =
    handling_text status.how ++ fwd_status_text status.fwd_status ++ ttl_text status.ttl
    ++ text_if_flag status.stored (codes ";stored") ++ text_if_flag status.collapsed (codes ";collapsed") ++ detail_parameter_text status

-- those, the text of Refusal, or the line of Purged
abbrev pub reply_reason_text : Told → List ℕ
reply_reason_text (Handled status) = cache_status_parameters_text status
reply_reason_text (Refused cause) = refusal_text cause
reply_reason_text (Purged count) = codes "Purged: " ++ decimal count

-- ---- the statement

abbrev pub CacheStatusMemberHasTheReason : Type 0
CacheStatusMemberHasTheReason = (name : List ℕ) (status : Status)
    → member_text name status ≡ name ++ (codes ";" ++ reply_reason_text (Handled status))

abbrev pub RefusalTextIsTheReason : Type 0
RefusalTextIsTheReason = (cause : Cause) (n : ℕ) → refusal_text cause
    ≡ reply_reason_text (refusal_status_and_reason cause n).told

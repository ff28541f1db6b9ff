-- The proxy's own answers: a status, and a text that names the first rule against the request. The text is
-- the value of the field Refusal and the content (own, so that an answer to HEAD names its cause too).
--
-- refusal_status, refusal_text: the answer to a cause    origin_failure_text: where the origin failed
-- frame_fault_word, target_fault_word: the words of faults
-- TextsOfReuseRulesDiffer and those below it: a reader of the text knows the rule, the fault, the failure
use Rattle.std.specs.Prelude.{◌≡◌, ◌⊎◌, ℕ, List, [], ◌++◌, codes, Option, Some, None}
use Rattle.std.specs.Fmt.{decimal}
use Rattle.hx_framing.specs.declared.frame_fault.FrameFault.{FrameFault}
use Rattle.hx_framing.specs.declared.frame_fault.FrameFault.TheVariants as frame
use Rattle.hx_target.specs.declared.target_fault.TargetFault.{TargetFault}
use Rattle.hx_target.specs.declared.target_fault.TargetFault.TheVariants as target
use Rattle.hx_reuse.specs.declared.rule.ReuseRule.{ReuseRule}
use Rattle.hx_reuse.specs.declared.rule.ErrorRule.{ErrorRule}
use Rattle.hx_reuse.specs.RuleNames.{reuse_rule_reason, reuse_rule_detail, error_rule_word}
use Rattle.hx_status.specs.Member.{parameter_of_detail_word}
use Rattle.hx_status.specs.declared.cause.FailKind.{FailKind}
use Rattle.hx_status.specs.declared.cause.FailKind.TheVariants.{Refused, TimedOut, Closed, BadAnswer, TooLarge}
use Rattle.hx_status.specs.declared.cause.Cause.{Cause}
use Rattle.hx_status.specs.declared.cause.Cause.TheVariants.{Denied, NoLine, Looped, OnlyIfCached, Origin, Frame}
use Rattle.hx_status.specs.declared.cause.Cause.TheVariants.{Target}

-- reason and detail of a reuse rule, as in Cache-Status
abbrev pub fwd_parameters_of_rule : ReuseRule → List ℕ
fwd_parameters_of_rule rule = codes ";fwd=" ++ reuse_rule_reason rule ++ parameter_of_detail_word (reuse_rule_detail rule)

abbrev pub fail_kind_word : FailKind → List ℕ
fail_kind_word Refused = codes "refused"
fail_kind_word TimedOut = codes "timed-out"
fail_kind_word Closed = codes "closed"
fail_kind_word BadAnswer = codes "bad-answer"
fail_kind_word TooLarge = codes "too-large"

abbrev pub error_rule_text : Option ErrorRule → List ℕ
error_rule_text None = []
error_rule_text (Some rule) = codes ";stale-if-error=" ++ error_rule_word rule

-- how the origin failed, and the rules against a stored response
abbrev pub origin_failure_text : FailKind → ReuseRule → Option ErrorRule → List ℕ
origin_failure_text kind rule error =
    codes "origin " ++ fail_kind_word kind ++ fwd_parameters_of_rule rule ++ error_rule_text error

-- 502 Bad Gateway, 504 Gateway Timeout (RFC 9110, sections 15.6.3 and 15.6.5)
abbrev pub status_of_origin_failure : FailKind → ℕ
status_of_origin_failure Refused = 502
status_of_origin_failure TimedOut = 504
status_of_origin_failure Closed = 502
status_of_origin_failure BadAnswer = 502
status_of_origin_failure TooLarge = 502

abbrev pub frame_fault_word : FrameFault → List ℕ
frame_fault_word frame.Head = codes "head"
frame_fault_word frame.Version = codes "version"
frame_fault_word frame.BothLengths = codes "both-lengths"
frame_fault_word frame.Length = codes "length"
frame_fault_word frame.Coding = codes "coding"
frame_fault_word frame.Chunk = codes "chunk"
frame_fault_word frame.TooLarge = codes "too-large"
frame_fault_word frame.Expect = codes "expect"
frame_fault_word frame.Truncated = codes "truncated"
frame_fault_word frame.Status = codes "status"

-- 400 but for: 505, 501, 413 and 417 (RFC 9110, sections 15.5 and 15.6). A truncated request gets no answer,
-- and only answers of origins have a status, so these two are never sent.
abbrev pub frame_fault_status : FrameFault → ℕ
frame_fault_status frame.Head = 400
frame_fault_status frame.Version = 505
frame_fault_status frame.BothLengths = 400
frame_fault_status frame.Length = 400
frame_fault_status frame.Coding = 501
frame_fault_status frame.Chunk = 400
frame_fault_status frame.TooLarge = 413
frame_fault_status frame.Expect = 417
frame_fault_status frame.Truncated = 400
frame_fault_status frame.Status = 400

abbrev pub target_fault_word : TargetFault → List ℕ
target_fault_word target.Form = codes "form"
target_fault_word target.Scheme = codes "scheme"
target_fault_word target.Host = codes "host"
target_fault_word target.Port = codes "port"
target_fault_word target.Userinfo = codes "userinfo"
target_fault_word target.Escape = codes "escape"
target_fault_word target.DotSegment = codes "dot-segment"
target_fault_word target.TooLong = codes "too-long"
target_fault_word target.OutOfMemory = codes "out-of-memory"

-- 400, or 414 for a target that is too long (RFC 9110, sections 15.5.1 and 15.5.15). Out of memory is never sent.
abbrev pub target_fault_status : TargetFault → ℕ
target_fault_status target.Form = 400
target_fault_status target.Scheme = 400
target_fault_status target.Host = 400
target_fault_status target.Port = 400
target_fault_status target.Userinfo = 400
target_fault_status target.Escape = 400
target_fault_status target.DotSegment = 400
target_fault_status target.TooLong = 414
target_fault_status target.OutOfMemory = 400

-- 508 Loop Detected (RFC 5842, section 7.2)
abbrev pub refusal_status : Cause → ℕ
refusal_status (Denied line) = 403
refusal_status NoLine = 403
refusal_status (Looped line) = 508
refusal_status (OnlyIfCached rule) = 504
refusal_status (Origin kind rule error) = status_of_origin_failure kind
refusal_status (Frame fault) = frame_fault_status fault
refusal_status (Target fault) = target_fault_status fault

abbrev pub refusal_text : Cause → List ℕ
refusal_text (Denied line) = codes "denied by line " ++ decimal line
refusal_text NoLine = codes "no line allows it"
refusal_text (Looped line) = codes "loop refused by line " ++ decimal line
refusal_text (OnlyIfCached rule) = codes "only-if-cached" ++ fwd_parameters_of_rule rule
refusal_text (Origin kind rule error) = origin_failure_text kind rule error
refusal_text (Frame fault) = codes "refused: " ++ frame_fault_word fault
refusal_text (Target fault) = codes "refused: " ++ target_fault_word fault

-- no two reuse rules are named by the same text, in a refusal as in Cache-Status
abbrev pub TextsOfReuseRulesDiffer : Type 0
TextsOfReuseRulesDiffer =
    (rule other : ReuseRule) → fwd_parameters_of_rule rule ≡ fwd_parameters_of_rule other → rule ≡ other

-- no two faults of messages have one word, nor two faults of targets, nor two ways in which an origin fails
abbrev pub WordsOfFrameFaultsDiffer : Type 0
WordsOfFrameFaultsDiffer = (fault other : FrameFault) → frame_fault_word fault ≡ frame_fault_word other → fault ≡ other

abbrev pub WordsOfTargetFaultsDiffer : Type 0
WordsOfTargetFaultsDiffer = (fault other : TargetFault) → target_fault_word fault ≡ target_fault_word other → fault
    ≡ other

abbrev pub WordsOfFailKindsDiffer : Type 0
WordsOfFailKindsDiffer = (kind other : FailKind) → fail_kind_word kind ≡ fail_kind_word other → kind ≡ other

-- 403 Forbidden is the operator's answer and no other's (RFC 9110, section 15.5.4)
abbrev pub CauseIsDenialByTheTable : Cause → Type 0
CauseIsDenialByTheTable cause = ((line : ℕ) × (cause ≡ Denied line)) ⊎ (cause ≡ NoLine)

abbrev pub Status403IsOnlyForDenialByTheTable : Type 0
Status403IsOnlyForDenialByTheTable = (cause : Cause) → refusal_status cause ≡ 403 → CauseIsDenialByTheTable cause

abbrev pub DenialByTheTableHas403 : Type 0
DenialByTheTableHas403 = (cause : Cause) → CauseIsDenialByTheTable cause → refusal_status cause ≡ 403

-- 508 is the answer to a loop and to nothing else (RFC 5842, section 7.2)
abbrev pub OnlyALoopHas508 : Type 0
OnlyALoopHas508 = (cause : Cause) → refusal_status cause ≡ 508 → (line : ℕ) × (cause ≡ Looped line)

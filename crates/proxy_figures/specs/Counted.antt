-- What a reply tells of itself has its own figure, whose label is the word that Cache-Status or Refusal has.
--
-- ReasonLabelsMatchCacheStatus, DetailLabelsMatchCacheStatus, StepDetailLabelsMatchCacheStatus, CausesAreTold: labels
-- are the words that are told
-- AHitCountsAsAHit, OnlyAHitCountsAsAHit: what comes from the store without a word against it
-- RefusalIsOfCause: what a figure of refusals counts      ARefusalCountsAtItsCause, OnlyARefusalHasACause: and nothing
-- else
-- AStoringRuleCountsWhereReported: an answer that wasn't stored
-- StandsAtItsPlace: each figure has a place        PlacesDiffer: no two have one
use Rattle.std.specs.Prelude.{◌≡◌, ℕ, ◌<◌, List, ◌++◌, codes, Option, None, Some, IfSome, slice_get, option_map}
use Rattle.hx_framing.specs.declared.frame_fault.FrameFault.{FrameFault}
use Rattle.hx_framing.specs.declared.frame_fault.FrameFault.TheVariants as frame
use Rattle.hx_target.specs.declared.target_fault.TargetFault.{TargetFault}
use Rattle.hx_target.specs.declared.target_fault.TargetFault.TheVariants as target
use Rattle.hx_reuse.specs.RuleNames.{reuse_rule_reason, reuse_rule_detail}
use Rattle.hx_reuse.specs.declared.rule.ErrorRule.{ErrorRule}
use Rattle.hx_reuse.specs.declared.rule.ReuseRule.{ReuseRule}
use Rattle.hx_status.specs.Member.{detail_word}
use Rattle.hx_status.specs.Refusals.{fail_kind_word, frame_fault_word, target_fault_word}
use Rattle.hx_status.specs.declared.about.Told.{Told}
use Rattle.hx_status.specs.declared.about.Told.TheVariants.{Handled, Refused}
use Rattle.hx_status.specs.declared.cause.Cause.{Cause as Refusal}
use Rattle.hx_status.specs.declared.cause.Cause.TheVariants as refusal
use Rattle.hx_status.specs.declared.cause.FailKind.{FailKind}
use Rattle.hx_status.specs.declared.cause.FailKind.TheVariants as kind
use Rattle.hx_status.specs.declared.status.Detail.{Detail as StepDetail}
use Rattle.hx_status.specs.declared.status.How.TheVariants.{Hit}
use Rattle.hx_status.specs.declared.status.Status.{Status}
use Rattle.hx_storable.specs.declared.rule.StoreRule.{StoreRule}
use Rattle.proxy_figures.specs.NotStored.{storing_rule_place}
use Rattle.proxy_figures.specs.ReplyCounts.{reason_row, detail_column, reply_place, cause_place}
use Rattle.proxy_figures.specs.ReplySorts.{reason_of_rule, detail_of_rule, detail_of_step, cause_of_failure}
use Rattle.proxy_figures.specs.ReplySorts.{cause_of_message, cause_of_target_fault, detail_told_by_status}
use Rattle.proxy_figures.specs.ReplySorts.{reply_sort_of_told}
use Rattle.proxy_figures.specs.Sorts.{reason_name, detail_name, cause_name}
use Rattle.proxy_figures.specs.Unanswered.{unanswered_place}
use Rattle.proxy_figures.specs.declared.not_stored.TheConstants.{ALL_STORING_RULES, STORING_RULE_COUNT}
use Rattle.proxy_figures.specs.declared.reply_counts.TheConstants.{REPLY_PLACE_COUNT}
use Rattle.proxy_figures.specs.declared.sorts.TheConstants.{ALL_CAUSES, ALL_DETAILS, ALL_REASONS, CAUSE_COUNT}
use Rattle.proxy_figures.specs.declared.sorts.Cause.{Cause}
use Rattle.proxy_figures.specs.declared.sorts.Cause.TheVariants as cause
use Rattle.proxy_figures.specs.declared.sorts.Detail.{Detail}
use Rattle.proxy_figures.specs.declared.sorts.Detail.TheVariants as detail
use Rattle.proxy_figures.specs.declared.sorts.Reason.{Reason}
use Rattle.proxy_figures.specs.declared.sorts.Reason.TheVariants as reason
use Rattle.proxy_figures.specs.declared.unanswered.TheConstants.{ALL_UNANSWERED_CAUSES, UNANSWERED_CAUSE_COUNT}
use Rattle.proxy_figures.specs.declared.unanswered.UnansweredCause.{UnansweredCause}

-- ---- labels

abbrev pub ReasonLabelsMatchCacheStatus : Type 0
ReasonLabelsMatchCacheStatus = (rule : ReuseRule) → reason_name (reason_of_rule rule) ≡ reuse_rule_reason rule

abbrev pub DetailLabelsMatchCacheStatus : Type 0
DetailLabelsMatchCacheStatus = (rule : ReuseRule) → option_map detail_name (detail_of_rule rule)
    ≡ reuse_rule_detail rule

abbrev pub StepDetailLabelsMatchCacheStatus : Type 0
StepDetailLabelsMatchCacheStatus = (step : StepDetail) → detail_name (detail_of_step step) ≡ detail_word step

abbrev pub FailureLabelsMatchRefusal : Type 0
FailureLabelsMatchRefusal = (kind : FailKind) → cause_name (cause_of_failure kind) ≡ codes "origin-" ++ fail_kind_word kind

abbrev pub MessageFaultLabelsMatchRefusal : Type 0
MessageFaultLabelsMatchRefusal = (fault : FrameFault)
    → IfSome (cause_of_message fault) (λ c. cause_name c ≡ frame_fault_word fault)

abbrev pub TargetFaultLabelsMatchRefusal : Type 0
TargetFaultLabelsMatchRefusal = (fault : TargetFault)
    → IfSome (cause_of_target_fault fault) (λ c. cause_name c ≡ target_fault_word fault)

-- ---- what a reply counts as

abbrev pub AHitCountsAsAHit : Type 0
AHitCountsAsAHit = (status : Status) → status.how ≡ Hit → (reply_sort_of_told (Handled status)).reason ≡ reason.Hit

-- a reply of any other kind doesn't: no answer that went forward, no refusal and no purge
abbrev pub ReplyReportsHit : Told → Type 0
ReplyReportsHit told = (status : Status) × (told ≡ Handled status) × (status.how ≡ Hit)

abbrev pub OnlyAHitCountsAsAHit : Type 0
OnlyAHitCountsAsAHit = (told : Told) → (reply_sort_of_told told).reason ≡ reason.Hit → ReplyReportsHit told

-- what a figure of refusals counts: whatever line of the table or rules are named besides
abbrev pub IsRefusalForOriginFailure : FailKind → Refusal → Type 0
IsRefusalForOriginFailure kind why = (rule : ReuseRule)
    × ((error : Option ErrorRule) × (why ≡ refusal.Origin kind rule error))

abbrev pub RefusalIsOfCause : Cause → Refusal → Type 0
RefusalIsOfCause cause.Denied why = (line : ℕ) × (why ≡ refusal.Denied line)
RefusalIsOfCause cause.NoLine why = why ≡ refusal.NoLine
RefusalIsOfCause cause.Loop why = (line : ℕ) × (why ≡ refusal.Looped line)
RefusalIsOfCause cause.OnlyIfCached why = (rule : ReuseRule) × (why ≡ refusal.OnlyIfCached rule)
RefusalIsOfCause cause.OriginRefused why = IsRefusalForOriginFailure kind.Refused why
RefusalIsOfCause cause.OriginTimedOut why = IsRefusalForOriginFailure kind.TimedOut why
RefusalIsOfCause cause.OriginClosed why = IsRefusalForOriginFailure kind.Closed why
RefusalIsOfCause cause.OriginBadAnswer why = IsRefusalForOriginFailure kind.BadAnswer why
RefusalIsOfCause cause.OriginTooLarge why = IsRefusalForOriginFailure kind.TooLarge why
RefusalIsOfCause cause.Head why = why ≡ refusal.Frame frame.Head
RefusalIsOfCause cause.Version why = why ≡ refusal.Frame frame.Version
RefusalIsOfCause cause.BothLengths why = why ≡ refusal.Frame frame.BothLengths
RefusalIsOfCause cause.Length why = why ≡ refusal.Frame frame.Length
RefusalIsOfCause cause.Coding why = why ≡ refusal.Frame frame.Coding
RefusalIsOfCause cause.Chunk why = why ≡ refusal.Frame frame.Chunk
RefusalIsOfCause cause.TooLarge why = why ≡ refusal.Frame frame.TooLarge
RefusalIsOfCause cause.Expect why = why ≡ refusal.Frame frame.Expect
RefusalIsOfCause cause.Form why = why ≡ refusal.Target target.Form
RefusalIsOfCause cause.Scheme why = why ≡ refusal.Target target.Scheme
RefusalIsOfCause cause.Host why = why ≡ refusal.Target target.Host
RefusalIsOfCause cause.Port why = why ≡ refusal.Target target.Port
RefusalIsOfCause cause.Userinfo why = why ≡ refusal.Target target.Userinfo
RefusalIsOfCause cause.Escape why = why ≡ refusal.Target target.Escape
RefusalIsOfCause cause.DotSegment why = why ≡ refusal.Target target.DotSegment
RefusalIsOfCause cause.TooLong why = why ≡ refusal.Target target.TooLong

abbrev pub ARefusalCountsAtItsCause : Type 0
ARefusalCountsAtItsCause = (c : Cause) (why : Refusal) → RefusalIsOfCause c why
    → (reply_sort_of_told (Refused why)).cause ≡ Some c

-- nothing else counts there: no answer of an origin or of the store, no purge, and no refusal for another cause
abbrev pub ReplyReportsRefusalForCause : Cause → Told → Type 0
ReplyReportsRefusalForCause c told = (why : Refusal) × (told ≡ Refused why) × RefusalIsOfCause c why

abbrev pub OnlyARefusalCountsAtItsCause : Type 0
OnlyARefusalCountsAtItsCause = (c : Cause) (told : Told) → (reply_sort_of_told told).cause ≡ Some c
    → ReplyReportsRefusalForCause c told

-- an answer that wasn't stored counts at a rule where its line tells that rule, and nothing else
abbrev pub AStoringRuleCountsWhereReported : Type 0
AStoringRuleCountsWhereReported = (status : Status) → detail_told_by_status status ≡ None
    → (reply_sort_of_told (Handled status)).not_stored ≡ status.not_stored

abbrev pub IsNotStoredByRule : StoreRule → Told → Type 0
IsNotStoredByRule rule told =
    (status : Status) × (told ≡ Handled status) × (status.not_stored ≡ Some rule)
    × (detail_told_by_status status ≡ None)

abbrev pub OnlyItsReportCountsAtAStoringRule : Type 0
OnlyItsReportCountsAtAStoringRule = (rule : StoreRule) (told : Told) → (reply_sort_of_told told).not_stored ≡ Some rule
    → IsNotStoredByRule rule told

-- ---- places

-- each stands in the list of all that a page has, at its place
abbrev pub EachReasonIsListedAtItsRow : Type 0
EachReasonIsListedAtItsRow = (reason : Reason) → slice_get ALL_REASONS.now (reason_row reason) ≡ Some reason

abbrev pub EachDetailIsListedAtItsColumn : Type 0
EachDetailIsListedAtItsColumn = (detail : Detail) → slice_get ALL_DETAILS.now (detail_column detail) ≡ Some detail

abbrev pub EachCauseIsListedAtItsPlace : Type 0
EachCauseIsListedAtItsPlace = (c : Cause) → slice_get ALL_CAUSES.now (cause_place c) ≡ Some c

abbrev pub EachStoringRuleIsListedAtItsPlace : Type 0
EachStoringRuleIsListedAtItsPlace =
    (rule : StoreRule) → slice_get ALL_STORING_RULES.now (storing_rule_place rule) ≡ Some rule

abbrev pub EachUnansweredCauseIsListedAtItsPlace : Type 0
EachUnansweredCauseIsListedAtItsPlace =
    (c : UnansweredCause) → slice_get ALL_UNANSWERED_CAUSES.now (unanswered_place c) ≡ Some c

-- the lists of counts are long enough
abbrev pub ReplyPlacesAreWithin : Type 0
ReplyPlacesAreWithin = (reason : Reason) (detail : Detail) → reply_place reason detail < REPLY_PLACE_COUNT

abbrev pub CausePlacesAreWithin : Type 0
CausePlacesAreWithin = (c : Cause) → cause_place c < CAUSE_COUNT

abbrev pub StoringRulePlacesAreWithin : Type 0
StoringRulePlacesAreWithin = (rule : StoreRule) → storing_rule_place rule < STORING_RULE_COUNT

abbrev pub UnansweredPlacesAreWithin : Type 0
UnansweredPlacesAreWithin = (c : UnansweredCause) → unanswered_place c < UNANSWERED_CAUSE_COUNT

-- no two share a place
abbrev pub ReplyPlacesDiffer : Type 0
ReplyPlacesDiffer = (reason other : Reason) (detail another : Detail)
    → reply_place reason detail ≡ reply_place other another → (reason ≡ other) × (detail ≡ another)

abbrev pub CausePlacesDiffer : Type 0
CausePlacesDiffer = (c other : Cause) → cause_place c ≡ cause_place other → c ≡ other

abbrev pub StoringRulePlacesDiffer : Type 0
StoringRulePlacesDiffer =
    (rule other : StoreRule) → storing_rule_place rule ≡ storing_rule_place other → rule ≡ other

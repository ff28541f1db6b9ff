-- What a reply counts as, by what it tells of itself: in Cache-Status (RFC 9211, section 2), in Refusal or in Purged.
--
-- reason_of_rule, detail_of_rule: of a rule that sent a request forward
-- detail_of_step: of a step behind it      detail_told_by_status: of the two, the one that is told
-- reason_of_refusal, cause_of_refusal: of an answer of the proxy's own
-- reply_sort_of_told: what a reply counts as
use Rattle.std.specs.Prelude.{Option, Some, None, false}
use Rattle.hx_framing.specs.declared.frame_fault.FrameFault.{FrameFault}
use Rattle.hx_framing.specs.declared.frame_fault.FrameFault.TheVariants as frame
use Rattle.hx_target.specs.declared.target_fault.TargetFault.{TargetFault}
use Rattle.hx_target.specs.declared.target_fault.TargetFault.TheVariants as target
use Rattle.hx_reuse.specs.declared.rule.ReuseRule.{ReuseRule}
use Rattle.hx_reuse.specs.declared.rule.ReuseRule.TheVariants as rule
use Rattle.hx_storable.specs.declared.rule.StoreRule.{StoreRule}
use Rattle.hx_status.specs.declared.about.Told.{Told}
use Rattle.hx_status.specs.declared.about.Told.TheVariants.{Handled, Refused, Purged}
use Rattle.hx_status.specs.declared.cause.Cause.{Cause as Refusal}
use Rattle.hx_status.specs.declared.cause.Cause.TheVariants as refusal
use Rattle.hx_status.specs.declared.cause.FailKind.{FailKind}
use Rattle.hx_status.specs.declared.cause.FailKind.TheVariants as kind
use Rattle.hx_status.specs.declared.status.Detail.{Detail as StepDetail}
use Rattle.hx_status.specs.declared.status.Detail.TheVariants as step
use Rattle.hx_status.specs.declared.status.How.{How}
use Rattle.hx_status.specs.declared.status.How.TheVariants.{Hit, Fwd}
use Rattle.hx_status.specs.declared.status.Status.{Status}
use Rattle.proxy_figures.specs.declared.sorts.Cause.{Cause}
use Rattle.proxy_figures.specs.declared.sorts.Cause.TheVariants as cause
use Rattle.proxy_figures.specs.declared.sorts.Detail.{Detail}
use Rattle.proxy_figures.specs.declared.sorts.Detail.TheVariants as detail
use Rattle.proxy_figures.specs.declared.sorts.Reason.{Reason}
use Rattle.proxy_figures.specs.declared.sorts.Reason.TheVariants as reason
use Rattle.proxy_figures.specs.declared.sorts.ReplySort.{ReplySort}

abbrev pub reason_of_rule : ReuseRule → Reason
reason_of_rule rule.Operator = reason.Bypass
reason_of_rule rule.Method = reason.Method
reason_of_rule rule.Content = reason.Bypass
reason_of_rule rule.Range = reason.Bypass
reason_of_rule rule.Precondition = reason.Bypass
reason_of_rule rule.UriMiss = reason.UriMiss
reason_of_rule rule.VaryMiss = reason.VaryMiss
reason_of_rule rule.ResponseNoCache = reason.Stale
reason_of_rule rule.RequestNoCache = reason.Request
reason_of_rule rule.AboveMaxAge = reason.Request
reason_of_rule rule.BelowMinFresh = reason.Request
reason_of_rule rule.MustRevalidate = reason.Stale
reason_of_rule rule.NoLifetime = reason.Stale
reason_of_rule rule.StaleNoCache = reason.Stale
reason_of_rule rule.NoMaxStale = reason.Stale
reason_of_rule rule.PastMaxStale = reason.Stale
reason_of_rule rule.StaleMaxAge = reason.Stale
reason_of_rule rule.StaleMinFresh = reason.Stale

abbrev pub reason_of_handling : How → Reason
reason_of_handling Hit = reason.Hit
reason_of_handling (Fwd rule) = reason_of_rule rule

abbrev pub reason_of_refusal : Refusal → Reason
reason_of_refusal (refusal.Denied line) = reason.Denied
reason_of_refusal refusal.NoLine = reason.Denied
reason_of_refusal (refusal.Looped line) = reason.Denied
reason_of_refusal (refusal.OnlyIfCached rule) = reason.OnlyIfCached
reason_of_refusal (refusal.Origin kind rule error) = reason.OriginFailed
reason_of_refusal (refusal.Frame fault) = reason.Refused
reason_of_refusal (refusal.Target fault) = reason.Refused

-- what tells a rule from others of its reason
abbrev pub detail_of_rule : ReuseRule → Option Detail
detail_of_rule rule.Operator = Some detail.Operator
detail_of_rule rule.Method = None
detail_of_rule rule.Content = Some detail.Content
detail_of_rule rule.Range = Some detail.Range
detail_of_rule rule.Precondition = Some detail.Precondition
detail_of_rule rule.UriMiss = None
detail_of_rule rule.VaryMiss = None
detail_of_rule rule.ResponseNoCache = Some detail.ResponseNoCache
detail_of_rule rule.RequestNoCache = Some detail.NoCache
detail_of_rule rule.AboveMaxAge = Some detail.MaxAge
detail_of_rule rule.BelowMinFresh = Some detail.MinFresh
detail_of_rule rule.MustRevalidate = Some detail.MustRevalidate
detail_of_rule rule.NoLifetime = Some detail.NoLifetime
detail_of_rule rule.StaleNoCache = Some detail.NoCache
detail_of_rule rule.NoMaxStale = None
detail_of_rule rule.PastMaxStale = Some detail.MaxStale
detail_of_rule rule.StaleMaxAge = Some detail.MaxAge
detail_of_rule rule.StaleMinFresh = Some detail.MinFresh

abbrev pub detail_of_step : StepDetail → Detail
detail_of_step step.StaleIfError = detail.StaleIfError
detail_of_step step.ReuseAfterError = detail.ReuseAfterError
detail_of_step step.ReuseAfter304 = detail.ReuseAfter304
detail_of_step step.StaleWhileRevalidate = detail.StaleWhileRevalidate
detail_of_step step.SessionCookie = detail.SessionCookie

abbrev pub detail_of_handling : How → Option Detail
detail_of_handling Hit = None
detail_of_handling (Fwd rule) = detail_of_rule rule

-- that of a step stands in place of the rule's
abbrev pub detail_of_step_or_handling : Option StepDetail → How → Option Detail
detail_of_step_or_handling (Some step) how = Some (detail_of_step step)
detail_of_step_or_handling None how = detail_of_handling how

abbrev pub detail_told_by_status : Status → Option Detail
detail_told_by_status status = detail_of_step_or_handling status.detail status.how

-- a storing rule is told where nothing else is; it counts among others there, and by a figure of its own
abbrev pub detail_or_other_if_not_stored : Option Detail → Option StoreRule → Detail
detail_or_other_if_not_stored (Some detail) rule = detail
detail_or_other_if_not_stored None (Some rule) = detail.Other
detail_or_other_if_not_stored None None = detail.Nothing

abbrev pub storing_rule_if_no_detail : Option Detail → Option StoreRule → Option StoreRule
storing_rule_if_no_detail (Some detail) rule = None
storing_rule_if_no_detail None rule = rule

-- how an origin failed
abbrev pub cause_of_failure : FailKind → Cause
cause_of_failure kind.Refused = cause.OriginRefused
cause_of_failure kind.TimedOut = cause.OriginTimedOut
cause_of_failure kind.Closed = cause.OriginClosed
cause_of_failure kind.BadAnswer = cause.OriginBadAnswer
cause_of_failure kind.TooLarge = cause.OriginTooLarge

-- What is wrong with a message, or with its target. A truncated request, a status that no answer has and want of memory
-- are answered by nothing, and have no figure.
abbrev pub cause_of_message : FrameFault → Option Cause
cause_of_message frame.Head = Some cause.Head
cause_of_message frame.Version = Some cause.Version
cause_of_message frame.BothLengths = Some cause.BothLengths
cause_of_message frame.Length = Some cause.Length
cause_of_message frame.Coding = Some cause.Coding
cause_of_message frame.Chunk = Some cause.Chunk
cause_of_message frame.TooLarge = Some cause.TooLarge
cause_of_message frame.Expect = Some cause.Expect
cause_of_message frame.Truncated = None
cause_of_message frame.Status = None

abbrev pub cause_of_target_fault : TargetFault → Option Cause
cause_of_target_fault target.Form = Some cause.Form
cause_of_target_fault target.Scheme = Some cause.Scheme
cause_of_target_fault target.Host = Some cause.Host
cause_of_target_fault target.Port = Some cause.Port
cause_of_target_fault target.Userinfo = Some cause.Userinfo
cause_of_target_fault target.Escape = Some cause.Escape
cause_of_target_fault target.DotSegment = Some cause.DotSegment
cause_of_target_fault target.TooLong = Some cause.TooLong
cause_of_target_fault target.OutOfMemory = None

abbrev pub cause_of_refusal : Refusal → Option Cause
cause_of_refusal (refusal.Denied line) = Some cause.Denied
cause_of_refusal refusal.NoLine = Some cause.NoLine
cause_of_refusal (refusal.Looped line) = Some cause.Loop
cause_of_refusal (refusal.OnlyIfCached rule) = Some cause.OnlyIfCached
cause_of_refusal (refusal.Origin kind rule error) = Some (cause_of_failure kind)
cause_of_refusal (refusal.Frame fault) = cause_of_message fault
cause_of_refusal (refusal.Target fault) = cause_of_target_fault fault

-- a reply for this reason, of which nothing else is said
abbrev pub reply_sort_without_detail : Reason → ReplySort
reply_sort_without_detail why = record {
  reason = why;
  detail = detail.Nothing;
  cause = None;
  fwd_status = None;
  stored = false;
  collapsed = false;
  not_stored = None;
}

-- an answer of an origin or of the store
abbrev pub reply_sort_of_handled : Status → ReplySort
reply_sort_of_handled status = record {
  reason = reason_of_handling status.how;
  detail = detail_or_other_if_not_stored (detail_told_by_status status) status.not_stored;
  cause = None;
  fwd_status = status.fwd_status;
  stored = status.stored;
  collapsed = status.collapsed;
  not_stored = storing_rule_if_no_detail (detail_told_by_status status) status.not_stored;
}

-- an answer of the proxy's own
abbrev pub reply_sort_of_refusal : Refusal → ReplySort
reply_sort_of_refusal why = record (reply_sort_without_detail (reason_of_refusal why)) { cause = cause_of_refusal why }

abbrev pub reply_sort_of_told : Told → ReplySort
reply_sort_of_told (Handled status) = reply_sort_of_handled status
reply_sort_of_told (Refused why) = reply_sort_of_refusal why
reply_sort_of_told (Purged count) = reply_sort_without_detail reason.Purged

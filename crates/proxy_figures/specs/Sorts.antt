-- The labels by which replies are counted, and who an answer comes from.
--
-- reason_name, detail_name, cause_name: the labels: words of Cache-Status (RFC 9211, section 2) and of Refusal
-- source_of_reply_sort: who an answer comes from      is_failure_covered_by_store: whether it stands in for a failure
-- of the
-- origin
use Rattle.std.specs.Prelude.{ℕ, List, [], ◌++◌, codes, Bool, true, false, not, ◌&&◌, if◌then◌else◌, is_some}
use Rattle.hx_framing.specs.declared.frame_fault.FrameFault.TheVariants as frame
use Rattle.hx_target.specs.declared.target_fault.TargetFault.TheVariants as target
use Rattle.hx_status.specs.declared.cause.FailKind.TheVariants.{Refused, TimedOut, Closed, BadAnswer, TooLarge}
use Rattle.hx_status.specs.Refusals.{fail_kind_word, frame_fault_word, target_fault_word}
use Rattle.proxy_figures.specs.declared.sorts.Reason.{Reason}
use Rattle.proxy_figures.specs.declared.sorts.Reason.TheVariants as reason
use Rattle.proxy_figures.specs.declared.sorts.Detail.{Detail}
use Rattle.proxy_figures.specs.declared.sorts.Detail.TheVariants as detail
use Rattle.proxy_figures.specs.declared.sorts.Cause.{Cause}
use Rattle.proxy_figures.specs.declared.sorts.Cause.TheVariants as cause
use Rattle.proxy_figures.specs.declared.sorts.ReplySort.{ReplySort}
use Rattle.proxy_figures.specs.declared.sorts.Source.{Source}
use Rattle.proxy_figures.specs.declared.sorts.Source.TheVariants as source

abbrev pub reason_name : Reason → List ℕ
reason_name reason.Hit = codes "hit"
reason_name reason.UriMiss = codes "uri-miss"
reason_name reason.VaryMiss = codes "vary-miss"
reason_name reason.Stale = codes "stale"
reason_name reason.Request = codes "request"
reason_name reason.Method = codes "method"
reason_name reason.Bypass = codes "bypass"
reason_name reason.Denied = codes "denied"
reason_name reason.OnlyIfCached = codes "only-if-cached"
reason_name reason.OriginFailed = codes "origin-failed"
reason_name reason.Refused = codes "refused"
reason_name reason.Purged = codes "purged"

abbrev pub detail_name : Detail → List ℕ
detail_name detail.Nothing = []
detail_name detail.Operator = codes "operator"
detail_name detail.Content = codes "content"
detail_name detail.Range = codes "range"
detail_name detail.Precondition = codes "precondition"
detail_name detail.ResponseNoCache = codes "response-no-cache"
detail_name detail.MustRevalidate = codes "must-revalidate"
detail_name detail.NoLifetime = codes "no-lifetime"
detail_name detail.NoCache = codes "no-cache"
detail_name detail.MaxStale = codes "max-stale"
detail_name detail.MaxAge = codes "max-age"
detail_name detail.MinFresh = codes "min-fresh"
detail_name detail.StaleIfError = codes "stale-if-error"
detail_name detail.ReuseAfterError = codes "reuse-after-error"
detail_name detail.ReuseAfter304 = codes "reuse-after-304"
detail_name detail.StaleWhileRevalidate = codes "stale-while-revalidate"
detail_name detail.SessionCookie = codes "cookie"
detail_name detail.Other = codes "other"

-- what an origin did, and what is wrong with a message or its target, have the words of Refusal
abbrev pub cause_name : Cause → List ℕ
cause_name cause.Denied = codes "denied"
cause_name cause.NoLine = codes "no-line"
cause_name cause.Loop = codes "loop"
cause_name cause.OnlyIfCached = codes "only-if-cached"
cause_name cause.OriginRefused = codes "origin-" ++ fail_kind_word Refused
cause_name cause.OriginTimedOut = codes "origin-" ++ fail_kind_word TimedOut
cause_name cause.OriginClosed = codes "origin-" ++ fail_kind_word Closed
cause_name cause.OriginBadAnswer = codes "origin-" ++ fail_kind_word BadAnswer
cause_name cause.OriginTooLarge = codes "origin-" ++ fail_kind_word TooLarge
cause_name cause.Head = frame_fault_word frame.Head
cause_name cause.Version = frame_fault_word frame.Version
cause_name cause.BothLengths = frame_fault_word frame.BothLengths
cause_name cause.Length = frame_fault_word frame.Length
cause_name cause.Coding = frame_fault_word frame.Coding
cause_name cause.Chunk = frame_fault_word frame.Chunk
cause_name cause.TooLarge = frame_fault_word frame.TooLarge
cause_name cause.Expect = frame_fault_word frame.Expect
cause_name cause.Form = target_fault_word target.Form
cause_name cause.Scheme = target_fault_word target.Scheme
cause_name cause.Host = target_fault_word target.Host
cause_name cause.Port = target_fault_word target.Port
cause_name cause.Userinfo = target_fault_word target.Userinfo
cause_name cause.Escape = target_fault_word target.Escape
cause_name cause.DotSegment = target_fault_word target.DotSegment
cause_name cause.TooLong = target_fault_word target.TooLong

-- who an answer comes from: the proxy itself, the store, also where another request had asked an origin, or an origin
abbrev pub source_by_reason : Reason → Bool → Source
source_by_reason reason.Hit collapsed = source.Store
source_by_reason reason.Denied collapsed = source.Proxy
source_by_reason reason.OnlyIfCached collapsed = source.Proxy
source_by_reason reason.Refused collapsed = source.Proxy
source_by_reason reason.Purged collapsed = source.Proxy
source_by_reason _ collapsed = if collapsed then source.Store else source.Origin

abbrev pub source_of_reply_sort : ReplySort → Source
source_of_reply_sort sort = source_by_reason sort.reason sort.collapsed

-- a stored response was sent in place of a failure of the origin (RFC 5861, section 4): no status of an answer is named
abbrev pub detail_tells_stored_after_failure : Detail → Bool
detail_tells_stored_after_failure detail.StaleIfError = true
detail_tells_stored_after_failure detail.ReuseAfterError = true
detail_tells_stored_after_failure _ = false

abbrev pub is_failure_covered_by_store : ReplySort → Bool
is_failure_covered_by_store sort = detail_tells_stored_after_failure sort.detail && not (is_some sort.fwd_status)

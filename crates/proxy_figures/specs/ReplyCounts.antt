-- How replies are counted: by reason and detail, by cause, by status, and by the time that they took.
--
-- reply_place, cause_place: where replies of a reason with a detail, and of a cause, are counted
-- empty_reply_times: the times of no reply
-- cause_counts_with, reply_times_with: counts, with one reply more
-- times_with_reply_if_from_store, times_with_reply_if_from_origin, times_with_reply_if_by_proxy: the times of a source,
-- with one reply more of any
use Rattle.std.specs.Prelude.{ℕ, ◌+◌, ◌*◌, List, replicate, Option, Some, None}
use Rattle.proxy_figures.specs.Counts.{count_plus, counts_with_one_more}
use Rattle.proxy_figures.specs.Times.{time_bucket_of}
use Rattle.proxy_figures.specs.declared.reply_counts.ReplyTimes.{ReplyTimes}
use Rattle.proxy_figures.specs.declared.reply_counts.TheConstants.{TIME_BUCKET_COUNT}
use Rattle.proxy_figures.specs.declared.sorts.TheConstants.{DETAIL_COUNT}
use Rattle.proxy_figures.specs.declared.sorts.Reason.{Reason}
use Rattle.proxy_figures.specs.declared.sorts.Reason.TheVariants as reason
use Rattle.proxy_figures.specs.declared.sorts.Detail.{Detail}
use Rattle.proxy_figures.specs.declared.sorts.Detail.TheVariants as detail
use Rattle.proxy_figures.specs.declared.sorts.Cause.{Cause}
use Rattle.proxy_figures.specs.declared.sorts.Cause.TheVariants as cause
use Rattle.proxy_figures.specs.declared.sorts.Source.{Source}
use Rattle.proxy_figures.specs.declared.sorts.Source.TheVariants as source

-- the row of a reason
abbrev pub reason_row : Reason → ℕ
reason_row reason.Hit = 0
reason_row reason.UriMiss = 1
reason_row reason.VaryMiss = 2
reason_row reason.Stale = 3
reason_row reason.Request = 4
reason_row reason.Method = 5
reason_row reason.Bypass = 6
reason_row reason.Denied = 7
reason_row reason.OnlyIfCached = 8
reason_row reason.OriginFailed = 9
reason_row reason.Refused = 10
reason_row reason.Purged = 11

-- the place of a detail in a row
abbrev pub detail_column : Detail → ℕ
detail_column detail.Nothing = 0
detail_column detail.Operator = 1
detail_column detail.Content = 2
detail_column detail.Range = 3
detail_column detail.Precondition = 4
detail_column detail.ResponseNoCache = 5
detail_column detail.MustRevalidate = 6
detail_column detail.NoLifetime = 7
detail_column detail.NoCache = 8
detail_column detail.MaxStale = 9
detail_column detail.MaxAge = 10
detail_column detail.MinFresh = 11
detail_column detail.StaleIfError = 12
detail_column detail.ReuseAfterError = 13
detail_column detail.ReuseAfter304 = 14
detail_column detail.StaleWhileRevalidate = 15
detail_column detail.SessionCookie = 16
detail_column detail.Other = 17

-- where replies of a reason with a detail are counted: no two pairs have one place
abbrev pub reply_place : Reason → Detail → ℕ
reply_place reason detail = DETAIL_COUNT * reason_row reason + detail_column detail

-- where replies of a cause are counted
abbrev pub cause_place : Cause → ℕ
cause_place cause.Denied = 0
cause_place cause.NoLine = 1
cause_place cause.Loop = 2
cause_place cause.OnlyIfCached = 3
cause_place cause.OriginRefused = 4
cause_place cause.OriginTimedOut = 5
cause_place cause.OriginClosed = 6
cause_place cause.OriginBadAnswer = 7
cause_place cause.OriginTooLarge = 8
cause_place cause.Head = 9
cause_place cause.Version = 10
cause_place cause.BothLengths = 11
cause_place cause.Length = 12
cause_place cause.Coding = 13
cause_place cause.Chunk = 14
cause_place cause.TooLarge = 15
cause_place cause.Expect = 16
cause_place cause.Form = 17
cause_place cause.Scheme = 18
cause_place cause.Host = 19
cause_place cause.Port = 20
cause_place cause.Userinfo = 21
cause_place cause.Escape = 22
cause_place cause.DotSegment = 23
cause_place cause.TooLong = 24

abbrev pub cause_counts_with : Option Cause → List ℕ → List ℕ
cause_counts_with None causes = causes
cause_counts_with (Some cause) causes = counts_with_one_more causes (cause_place cause)

abbrev pub empty_reply_times : ReplyTimes
empty_reply_times = record { buckets = replicate TIME_BUCKET_COUNT 0; sum = 0 }

-- one reply more that took so many milliseconds
abbrev pub reply_times_with : ℕ → ReplyTimes → ReplyTimes
reply_times_with took times = record {
  buckets = counts_with_one_more times.buckets (time_bucket_of took);
  sum = count_plus times.sum took;
}

-- the times of replies that come from a source, with those of one that comes from another
abbrev pub times_with_reply_if_from_store : Source → ℕ → ReplyTimes → ReplyTimes
times_with_reply_if_from_store source.Store took times = reply_times_with took times
times_with_reply_if_from_store other took times = times

abbrev pub times_with_reply_if_from_origin : Source → ℕ → ReplyTimes → ReplyTimes
times_with_reply_if_from_origin source.Origin took times = reply_times_with took times
times_with_reply_if_from_origin other took times = times

abbrev pub times_with_reply_if_by_proxy : Source → ℕ → ReplyTimes → ReplyTimes
times_with_reply_if_by_proxy source.Proxy took times = reply_times_with took times
times_with_reply_if_by_proxy other took times = times

-- Requests that were never answered: their causes, and how they are counted.
--
-- unanswered_place, unanswered_name: where a cause is counted, and its word in figures and in the log
-- cause_of_cut, cause_of_lateness: why a request isn't answered whose connection was cut, or whose time was over
use Rattle.std.specs.Prelude.{ℕ, List, codes}
use Rattle.proxy_figures.specs.Counts.{counts_with_one_more}
use Rattle.proxy_figures.specs.declared.endings.CutReason.{CutReason}
use Rattle.proxy_figures.specs.declared.endings.CutReason.TheVariants as cut
use Rattle.proxy_figures.specs.declared.endings.ExceededClientLimit.{ExceededClientLimit}
use Rattle.proxy_figures.specs.declared.endings.ExceededClientLimit.TheVariants as late
use Rattle.proxy_figures.specs.declared.unanswered.UnansweredCause.{UnansweredCause}
use Rattle.proxy_figures.specs.declared.unanswered.UnansweredCause.TheVariants as cause

abbrev pub unanswered_place : UnansweredCause → ℕ
unanswered_place cause.Closed = 0
unanswered_place cause.AbandonTimeout = 1
unanswered_place cause.RequestTimeout = 2
unanswered_place cause.ClientTimeout = 3
unanswered_place cause.ContentLimit = 4
unanswered_place cause.Memory = 5
unanswered_place cause.Room = 6

-- what an option bounds has the option's name
abbrev pub unanswered_name : UnansweredCause → List ℕ
unanswered_name cause.Closed = codes "closed"
unanswered_name cause.AbandonTimeout = codes "abandon-timeout"
unanswered_name cause.RequestTimeout = codes "request-timeout"
unanswered_name cause.ClientTimeout = codes "client-timeout"
unanswered_name cause.ContentLimit = codes "content-limit"
unanswered_name cause.Memory = codes "memory"
unanswered_name cause.Room = codes "room"

abbrev pub cause_of_cut : CutReason → UnansweredCause
cause_of_cut cut.Room = cause.Room
cause_of_cut cut.Content = cause.ContentLimit
cause_of_cut cut.Memory = cause.Memory

abbrev pub cause_of_lateness : ExceededClientLimit → UnansweredCause
cause_of_lateness late.Client = cause.ClientTimeout
cause_of_lateness late.Request = cause.RequestTimeout
cause_of_lateness late.Abandon = cause.AbandonTimeout

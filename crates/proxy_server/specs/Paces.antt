-- Whether the next turn waits, and at which moment it is.
--
-- work_left_after_turn: what a turn leaves to the next     turn_end_of_report: how it counts
-- moment_and_milliseconds, milliseconds_of_duration: what a clock tells      milliseconds_of_moment: the same moment
use Rattle.std.specs.Prelude.{ℕ, ◌+◌, ◌-◌, ◌*◌, ◌/◌, ◌%◌, min, nat_lt, Bool, true, false, not, ◌||◌, Result, Ok}
use Rattle.std.specs.Prelude.{Err}
use Rattle.std.specs.Duration.{as_nanos}
use Rattle.std.specs.declared.time.Duration.{Duration}
use Rattle.hx_fields.specs.declared.limits.TheConstants.{START_OF_YEAR_10000}
use Rattle.proxy_figures.specs.declared.turn_counts.TurnEnd.{TurnEnd}
use Rattle.proxy_figures.specs.declared.turn_counts.TurnEnd.TheVariants as ends
use Rattle.proxy_turn.specs.declared.limits.TheConstants.{MOST_ACTS_OF_A_TURN}
use Rattle.proxy_turn.specs.declared.report.Report.{Report}
use Rattle.proxy_turn.specs.declared.report.TurnFault.{TurnFault}
use Rattle.proxy_turn.specs.declared.report.TurnFault.TheVariants as faults
use Rattle.proxy_server.specs.declared.pace.WorkLeftForNextTurn.{WorkLeftForNextTurn}

-- The next turn comes at once where something is due, where ends whose time may be over are still to be looked at, or
-- where there is more to take; and where no connection could be accepted, or the last number of a link was used. Where
-- memory was wanting it waits: there may be some a little later.
abbrev pub work_left_after_turn : WorkLeftForNextTurn → Result Report TurnFault → Bool → WorkLeftForNextTurn
work_left_after_turn p (Ok report) more =
    record p {
      settled = nat_lt report.works MOST_ACTS_OF_A_TURN;
      busy = not (nat_lt report.works MOST_ACTS_OF_A_TURN) || p.sweeping || more;
      starved = false;
    }
work_left_after_turn p (Err faults.Listener) more = record p { settled = false; busy = true; starved = false }
work_left_after_turn p (Err faults.NoMemory) more = record p { settled = false; busy = false; starved = true }
work_left_after_turn p (Err faults.Spent) more = record p { settled = false; busy = true; starved = false }

-- how a turn counts: that it could accept nobody, or found no memory, counts by itself
abbrev pub turn_end_of_report : Result Report TurnFault → TurnEnd
turn_end_of_report (Ok report) = ends.Served
turn_end_of_report (Err faults.Listener) = ends.WithoutListener
turn_end_of_report (Err faults.NoMemory) = ends.WithoutMemory
turn_end_of_report (Err faults.Spent) = ends.Served

-- the clock's time since 1970 as a moment in seconds, at most the last of the year 9999, and its milliseconds
abbrev pub moment_and_milliseconds : Duration → ℕ × ℕ
moment_and_milliseconds time = (
  min (as_nanos time / 1_000_000_000)
      (START_OF_YEAR_10000 - 1),
  as_nanos time % 1_000_000_000 / 1_000_000,
)

-- in milliseconds; more than 64 bits have are the most that they have
abbrev pub milliseconds_of_duration : Duration → ℕ
milliseconds_of_duration time =
    min (min ((as_nanos time / 1_000_000_000) * 1000) 18446744073709551615
    + as_nanos time % 1_000_000_000 / 1_000_000) 18446744073709551615

-- a moment in seconds, and its milliseconds
abbrev pub milliseconds_of_moment : ℕ → ℕ → ℕ
milliseconds_of_moment moment milliseconds =
    min (min (moment * 1000) 18446744073709551615 + milliseconds) 18446744073709551615

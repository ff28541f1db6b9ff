-- How connections that were taken are counted.
--
-- is_errno_of_no_descriptor, is_errno_of_no_port: of the numbers of the system's errors, those of no descriptor left,
-- of no port
-- attempts_with_accepted, attempts_with_no_connection_room, attempts_with_accept_error,
-- attempts_with_link_without_descriptor,
-- attempts_with_link_without_port: counts, with
--     one more
use Rattle.std.specs.Prelude.{◌==◌, ◌||◌, ℤ, pos, Bool, false, if◌then◌else◌, Option, Some}
use Rattle.std.specs.IoError.{error_kind, raw_os_error}
use Rattle.std.specs.declared.io.Error.{Error}
use Rattle.std.specs.declared.io.ErrorKind.{ErrorKind}
use Rattle.std.specs.declared.io.ErrorKind.TheVariants.{OutOfMemory, WouldBlock}
use Rattle.proxy_figures.specs.Counts.{count_plus_one}
use Rattle.proxy_figures.specs.declared.accept_counts.ConnectionAttemptCounts.{ConnectionAttemptCounts}

-- ENFILE and EMFILE
abbrev pub is_errno_of_no_descriptor : Option ℤ → Bool
is_errno_of_no_descriptor (Some (pos n)) = (n == 23) || (n == 24)
is_errno_of_no_descriptor _ = false

-- EADDRNOTAVAIL
abbrev pub is_errno_of_no_port : Option ℤ → Bool
is_errno_of_no_port (Some (pos n)) = n == 99
is_errno_of_no_port _ = false

abbrev pub attempts_with_accepted : ConnectionAttemptCounts → ConnectionAttemptCounts
attempts_with_accepted counts = record counts { accepted = count_plus_one counts.accepted }

abbrev pub attempts_with_no_connection_room : ConnectionAttemptCounts → ConnectionAttemptCounts
attempts_with_no_connection_room counts = record counts { full = count_plus_one counts.full }

-- a call that failed since nobody waits isn't counted
abbrev pub attempts_with_failed_accept : ConnectionAttemptCounts → ErrorKind → ConnectionAttemptCounts
attempts_with_failed_accept counts OutOfMemory = record counts { no_memory = count_plus_one counts.no_memory }
attempts_with_failed_accept counts WouldBlock = counts
attempts_with_failed_accept counts _ = record counts { failed = count_plus_one counts.failed }

abbrev pub attempts_with_accept_error : ConnectionAttemptCounts → Error → ConnectionAttemptCounts
attempts_with_accept_error counts error = if is_errno_of_no_descriptor (raw_os_error error)
    then record counts { no_descriptor = count_plus_one counts.no_descriptor }
    else attempts_with_failed_accept counts (error_kind error)

abbrev pub attempts_with_link_without_descriptor : ConnectionAttemptCounts → ConnectionAttemptCounts
attempts_with_link_without_descriptor counts = record counts { no_link = count_plus_one counts.no_link }

abbrev pub attempts_with_link_without_port : ConnectionAttemptCounts → ConnectionAttemptCounts
attempts_with_link_without_port counts = record counts { no_port = count_plus_one counts.no_port }

-- The exit statuses of commands.
use Rattle.std.specs.Prelude.{ℕ}
use Rattle.proxy_replay.specs.FaultLines.{exit_status_of as replay_status}
use Rattle.proxy_files.specs.declared.command_fault.CommandFailure.{CommandFailure}
use Rattle.proxy_files.specs.declared.command_fault.CommandFailure.TheVariants.{Usage, Table, Read, Write, Answers}
use Rattle.proxy_files.specs.declared.command_fault.CommandFailure.TheVariants.{NoMemory}

-- a command line that is none of the program's, a table at fault, and one that answers otherwise are told apart from
-- all else
abbrev pub exit_status_of_command_fault : CommandFailure → ℕ
exit_status_of_command_fault (Usage words) = 64
exit_status_of_command_fault (Table fault place) = replay_status fault
exit_status_of_command_fault (Read words) = 1
exit_status_of_command_fault (Write words) = 1
exit_status_of_command_fault Answers = 3
exit_status_of_command_fault NoMemory = 1

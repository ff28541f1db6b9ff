-- The exit statuses.
use Rattle.std.specs.Prelude.{ℕ}
use Rattle.proxy_files.specs.Exits.{exit_status_of_command_fault}
use Rattle.proxy_program.specs.declared.fault.Fault.{Fault}
use Rattle.proxy_program.specs.declared.fault.Fault.TheVariants.{Command, Socket, Serving}

-- that of a command's fault; a server that can't begin or go on isn't told apart from a file that can't be read
abbrev pub exit_status_of_fault : Fault → ℕ
exit_status_of_fault (Command fault) = exit_status_of_command_fault fault
exit_status_of_fault (Socket words) = 1
exit_status_of_fault (Serving fault) = 1

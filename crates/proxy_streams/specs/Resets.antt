-- What the system tells of a peer that resets its connection.
--
-- is_broken_connection_error: an error of a connection that had been made
-- still_connecting_after_error: whether one still isn't made
-- is_reset_error, call_failed_by_reset: a call was told of a reset
-- is_end_after_reset: a read behind it tells of an end that is none
-- new_socket: one that was told of nothing
use Rattle.std.specs.Prelude.{ℕ, Bool, true, false, not, ◌&&◌, ◌==◌, Result, Ok, Err}
use Rattle.std.specs.IoError.{error_kind}
use Rattle.std.specs.declared.io.Error.{Error}
use Rattle.std.specs.declared.io.ErrorKind.{ErrorKind}
use Rattle.std.specs.declared.io.ErrorKind.TheVariants.{ConnectionReset, BrokenPipe}
use Rattle.mio.specs.declared.net.stream.TcpStream.{TcpStream}
use Rattle.proxy_streams.specs.declared.socket.Socket.{Socket}

-- The peer has broken the connection off, so it had been made: before that a reset is a refusal, which the system tells
-- by another error. A broken pipe is a reset behind the peer's end.
abbrev pub is_broken_connection_error : ErrorKind → Bool
is_broken_connection_error ConnectionReset = true
is_broken_connection_error BrokenPipe = true
is_broken_connection_error _ = false

-- whether a connection still isn't made, behind a call on it that failed so
abbrev pub still_connecting_after_error : Bool → Error → Bool
still_connecting_after_error connecting e = connecting && not (is_broken_connection_error (error_kind e))

-- the peer didn't send its end before it reset the connection; only one call is told so
abbrev pub is_reset_error : ErrorKind → Bool
is_reset_error ConnectionReset = true
is_reset_error _ = false

abbrev pub call_failed_by_reset : Result ℕ Error → Bool
call_failed_by_reset (Ok n) = false
call_failed_by_reset (Err e) = is_reset_error (error_kind e)

-- the system gives an end to who reads behind a reset; the peer had not sent one, so the message isn't whole
-- (RFC 9112, section 8)
abbrev pub is_end_after_reset : Bool → ℕ → Bool
is_end_after_reset was_reset count = was_reset && (count == 0)

abbrev pub new_socket : TcpStream → Socket
new_socket stream = record { stream = stream; was_reset = false }

-- What was called on sockets, with which bytes, and what came of it.
--
-- AcceptOutcome, ReadOutcome: what came of `accept` and of a read
-- Call: a call
-- accept_outcome_of, read_outcome_of: of what they returned
use Rattle.std.specs.Prelude.{ℕ, List, take, Bool, true, false, Option, Result, Ok, Err}
use Rattle.std.specs.declared.net.socket_addr.SocketAddrV4.{SocketAddrV4}
use Rattle.hx_status.specs.declared.about.ReplyData.{ReplyData}
use Rattle.proxy_engine.specs.declared.work.End.{End}
use Rattle.proxy_turn.specs.declared.sockets.SocketCallFailed.{SocketCallFailed}
use Rattle.proxy_reads.specs.declared.received.Received.{Received}
use Rattle.proxy_reads.specs.declared.received.Received.TheVariants as received

-- a connection, none yet, or a failure
pub data AcceptOutcome : Type 0 where
  Came NoneCame Failed : AcceptOutcome

-- nothing yet, the end of the input, a failure, or bytes
pub data ReadOutcome : Type 0 where
  Nothing Ended Broken : ReadOutcome
  Bytes : (bytes : List ℕ) → ReadOutcome

-- A call of each method of `Sockets`. `replied` says what reply the bytes are, `done` that it didn't fail.
pub data Call : Type 0 where
  Accept : (n : ℕ) (answer : AcceptOutcome) → Call
  Read : (end : End) (given : ReadOutcome) → Call
  Write : (end : End) (bytes : List ℕ) (replied : Option ReplyData) (done : Bool) → Call
  Connect : (link : ℕ) (address : SocketAddrV4) (done : Bool) → Call
  Shut : (end : End) (done : Bool) → Call

abbrev pub accept_outcome_of : Result Bool SocketCallFailed → AcceptOutcome
accept_outcome_of (Ok true) = Came
accept_outcome_of (Ok false) = NoneCame
accept_outcome_of (Err failed) = Failed

-- the bytes at the front of the buffer
abbrev pub read_outcome_of : Result Received SocketCallFailed → List ℕ → ReadOutcome
read_outcome_of (Ok received.Nothing) buf = Nothing
read_outcome_of (Ok (received.Bytes n)) buf = Bytes (take n buf)
read_outcome_of (Ok received.End) buf = Ended
read_outcome_of (Err failed) buf = Broken

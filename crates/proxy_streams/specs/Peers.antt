-- What passes between a peer and its stream.
--
-- PeerReadOutcome, read_outcome_of_result, prefix_taken_by_write: what a read gave, the bytes that a write took
-- is_transient_error, IsLastingError, is_last_read: whether more may come behind a read
-- peer_read_outcome: what a peer tells of a read
-- MoreMayBeLeftToRead: whether more may be left to be read      event_shows_readable, event_shows_an_end: what an event
-- tells
-- UnsentBytes: what a contract sees of `Unsent`
-- BytesAreWrittenOrKept: of bytes that are to be written the stream took the front, and the rest is kept
-- AFrontOfBytesIsWritten: the stream took the front, and the rest is lost
use Rattle.std.specs.Prelude.{◌≡◌, ◌==◌, ℕ, Bool, true, false, not, ◌||◌, if◌then◌else◌, List, [], ◌++◌, take, Result}
use Rattle.std.specs.Prelude.{Ok, Err}
use Rattle.std.specs.IoError.{error_kind}
use Rattle.std.specs.declared.io.Error.{Error}
use Rattle.std.specs.declared.io.ErrorKind.{ErrorKind}
use Rattle.std.specs.declared.io.ErrorKind.TheVariants.{WouldBlock, Interrupted}
use Rattle.mio.specs.declared.event.event.Event.{Event}
use Rattle.mio.specs.Event.{is_readable, is_read_closed, is_error}
use Rattle.proxy_reads.specs.declared.received.Received.{Received}
use Rattle.proxy_reads.specs.declared.received.Received.TheVariants as received

-- nothing, for a reason; bytes; or the end
pub data PeerReadOutcome : Type 0 where
  Nothing : (reason : ErrorKind) → PeerReadOutcome
  Bytes : (bytes : List ℕ) → PeerReadOutcome
  Ended : PeerReadOutcome

-- a read answers how many bytes stand at the front of the buffer: none are the end
abbrev pub read_outcome_of_result : Result ℕ Error → List ℕ → PeerReadOutcome
read_outcome_of_result (Ok n) buf = if n == 0 then Ended else Bytes (take n buf)
read_outcome_of_result (Err e) buf = Nothing (error_kind e)

-- nothing had come, or the call was interrupted; else a call that gives nothing has failed
abbrev pub is_transient_error : ErrorKind → Bool
is_transient_error WouldBlock = true
is_transient_error Interrupted = true
is_transient_error _ = false

abbrev pub IsLastingError : Error → Type 0
IsLastingError e = is_transient_error (error_kind e) ≡ false

-- behind the end and behind a failure nothing more comes
abbrev pub is_last_read : PeerReadOutcome → Bool
is_last_read (Nothing reason) = not (is_transient_error reason)
is_last_read (Bytes bytes) = false
is_last_read Ended = true

-- a write answers how many bytes it took of the front
abbrev pub prefix_taken_by_write : {E : Type 0} → Result ℕ E → List ℕ → List ℕ
prefix_taken_by_write (Ok n) bytes = take n bytes
prefix_taken_by_write (Err e) bytes = []

-- what a peer still has to take, how many bytes are held for it, and how many there is memory for
pub record UnsentBytes : Type 0 where
  pub bytes : List ℕ
  pub held : ℕ
  pub room : ℕ

-- What a peer tells of a read. It tells of nothing where nothing had come, or, where more may be left, where the call
-- was interrupted.
abbrev pub peer_read_outcome : Bool → Result Received Error → List ℕ → PeerReadOutcome
peer_read_outcome left (Ok received.Nothing) buf = Nothing (if left then Interrupted else WouldBlock)
peer_read_outcome left (Ok (received.Bytes n)) buf = Bytes (take n buf)
peer_read_outcome left (Ok received.End) buf = Ended
peer_read_outcome left (Err e) buf = Nothing (error_kind e)

-- Whether more may be left to be read. No event tells of what had come before: so it is, unless the stream said that
-- nothing is left, its end was read, or there was room for more bytes than it gave and no event has told of its end or
-- a failure behind them.
abbrev pub MoreMayBeLeftToRead : Bool → ℕ → Result Received Error → Bool → Type 0
MoreMayBeLeftToRead hung room (Ok received.Nothing) left = Unit {0}
MoreMayBeLeftToRead hung room (Ok (received.Bytes n)) left = left ≡ ((n == room) || hung)
MoreMayBeLeftToRead hung room (Ok received.End) left = left ≡ false
MoreMayBeLeftToRead hung room (Err e) left = left ≡ true

-- an event tells that something may be read; that an end or a failure may be
abbrev pub event_shows_an_end : Event → Bool
event_shows_an_end e = is_read_closed e || is_error e

abbrev pub event_shows_readable : Event → Bool
event_shows_readable e = is_readable e || event_shows_an_end e

-- What the stream took, followed by what is kept, is all that is to be written. `Took` says which bytes the stream
-- took.
abbrev pub BytesAreWrittenOrKept : (List ℕ → Type 0) → List ℕ → List ℕ → Type 0
BytesAreWrittenOrKept Took all kept = (took : List ℕ) × Took took × (took ++ kept ≡ all)

abbrev pub AFrontOfBytesIsWritten : (List ℕ → Type 0) → List ℕ → Type 0
AFrontOfBytesIsWritten Took all = (rest : List ℕ) × BytesAreWrittenOrKept Took all rest

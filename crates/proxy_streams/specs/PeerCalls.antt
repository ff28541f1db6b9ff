-- What is done with a peer.
--
-- PeerIsWritten, PeerIsRead: with a write to it, with a read of it
-- ended_after_read, heard_moment_after_read, received_count_after_read: what is known behind a read
-- new_peer: one with which nothing was done
use Rattle.std.specs.Prelude.{◌≡◌, ◌+◌, ◌-◌, ◌^◌, ℕ, min, Bool, true, false, List, [], ◌∷◌, ◌++◌, Result, Ok, Err}
use Rattle.std.specs.declared.io.Error.{Error}
use Rattle.proxy_reads.specs.declared.received.Received.{Received}
use Rattle.proxy_reads.specs.declared.received.Received.TheVariants as received
use Rattle.proxy_streams.specs.Peers.{PeerReadOutcome, UnsentBytes, peer_read_outcome, BytesAreWrittenOrKept}
use Rattle.proxy_streams.specs.Peers.{AFrontOfBytesIsWritten, MoreMayBeLeftToRead}
use Rattle.proxy_streams.specs.declared.peer.Peer.{Peer}

-- What a write to a peer does: the stream took of what is to be written the front, and the rest is kept, or else is
-- lost, and nothing more is written.
pub record PeerIsWritten {S : Type 0} (Passed : S → List ℕ → List PeerReadOutcome → S → Type 0) (bytes : List ℕ)
    (old new : Peer S) : Type 0 where
  pub in_part : AFrontOfBytesIsWritten (λ took. Passed old.stream took [] new.stream) (old.unsent.bytes ++ bytes)
  pub whole : new.broken ≡ false
      → BytesAreWrittenOrKept (λ took. Passed old.stream took [] new.stream) (old.unsent.bytes
      ++ bytes) new.unsent.bytes

-- What a read of it does: where something may have come its stream was read, else nothing.
pub record PeerIsRead {S : Type 0} (Passed : S → List ℕ → List PeerReadOutcome → S → Type 0) (room : ℕ)
    (result : Result Received Error) (buf : List ℕ) (old new : Peer S) : Type 0 where
  pub passed : old.readable ≡ true → Passed old.stream [] (peer_read_outcome new.readable result buf ∷ []) new.stream
  pub left : old.readable ≡ true → MoreMayBeLeftToRead old.hung room result new.readable
  pub unread : old.readable ≡ false → (new ≡ old) × (result ≡ Ok received.Nothing)

-- whether the peer's end was read, when a byte came last, and how many have come, behind a read
abbrev pub ended_after_read : Result Received Error → Bool → Bool
ended_after_read (Ok received.Nothing) ended = ended
ended_after_read (Ok (received.Bytes n)) ended = ended
ended_after_read (Ok received.End) ended = true
ended_after_read (Err e) ended = ended

abbrev pub heard_moment_after_read : Result Received Error → ℕ → ℕ → ℕ
heard_moment_after_read (Ok received.Nothing) now heard = heard
heard_moment_after_read (Ok (received.Bytes n)) now heard = now
heard_moment_after_read (Ok received.End) now heard = heard
heard_moment_after_read (Err e) now heard = heard

abbrev pub received_count_after_read : Result Received Error → ℕ → ℕ
received_count_after_read (Ok received.Nothing) came = came
received_count_after_read (Ok (received.Bytes n)) came = min (came + n) (2 ^ 64 - 1)
received_count_after_read (Ok received.End) came = came
received_count_after_read (Err e) came = came

-- a peer from which something may have come, and to which nothing was written
abbrev pub new_peer : {S : Type 0} → S → UnsentBytes → ℕ → Peer S
new_peer stream unsent now = record {
  stream = stream;
  connecting = false;
  readable = true;
  hung = false;
  ended = false;
  broken = false;
  unsent = unsent;
  heard = now;
  half_closed = false;
  received = 0;
  written = 0;
}

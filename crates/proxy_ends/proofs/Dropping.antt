-- Reads of a client that was closed, one behind the other.
use Rattle.std.proofs.Common.{◌≡◌, ◌<◌, ℕ, Bool, true, false, not, if◌then◌else◌, List, [], ◌∷◌, ◌++◌, length, Result, Ok, Err, IfErr, refl, sym, ap, subst, ◌∙◌, arith}
use Rattle.std.specs.IoError.{error_kind}
use Rattle.std.specs.declared.io.Error.{Error}
use Rattle.proxy_reads.specs.declared.received.Received.{Received}
use Rattle.proxy_reads.specs.declared.received.Received.TheVariants as received
use Rattle.proxy_ends.specs.Closing.{more_is_awaited_after, InputIsDropped}
use Rattle.proxy_streams.specs.PeerCalls.{PeerIsRead}
use Rattle.proxy_streams.specs.Peers.{PeerReadOutcome, Nothing, peer_read_outcome, is_last_read, is_transient_error, IsLastingError}
use Rattle.proxy_ends.specs.declared.clients.client.Client.{Client}
use Rattle.proxy_ends.specs.declared.clients.closing.StillToWait.{StillToWait}
use Rattle.proxy_ends.specs.declared.clients.closing.StillToWait.TheVariants.{Yes, No}
use Rattle.proxy_streams.specs.declared.peer.Peer.{Peer}

by_last : (b : Bool) (w more : StillToWait) (target : StillToWait) → (if b then No else w) ≡ Yes → (w ≡ Yes → more ≡ target) → (if b then No else more) ≡ target
by_last true w more target h rest = absurd (cc)
by_last false w more target h rest = rest h

wait_behind : (xs ys : List PeerReadOutcome) → more_is_awaited_after xs ≡ Yes → more_is_awaited_after (xs ++ ys) ≡ more_is_awaited_after ys
wait_behind [] ys h = refl
wait_behind (x ∷ xs) ys h = by_last (is_last_read x) (more_is_awaited_after xs) (more_is_awaited_after (xs ++ ys)) (more_is_awaited_after ys) h (wait_behind xs ys)

-- what the answer of a read leaves to wait for
abbrev pub wait_of : Result Received Error → StillToWait
wait_of (Ok received.Nothing) = Yes
wait_of (Ok (received.Bytes n)) = Yes
wait_of (Ok received.End) = No
wait_of (Err e) = No

by_failure : (b : Bool) → b ≡ false → (if not b then No else Yes) ≡ No
by_failure true h = absurd (cc)
by_failure false h = refl

by_left : (left : Bool) (buf : List ℕ) → more_is_awaited_after (peer_read_outcome left (Ok received.Nothing) buf ∷ []) ≡ Yes
by_left true buf = refl
by_left false buf = refl

wait_of_read : (left : Bool) (result : Result Received Error) (buf : List ℕ) → IfErr result IsLastingError
    → more_is_awaited_after (peer_read_outcome left result buf ∷ []) ≡ wait_of result
wait_of_read left (Ok received.Nothing) buf failed = by_left left buf
wait_of_read left (Ok (received.Bytes n)) buf failed = refl
wait_of_read left (Ok received.End) buf failed = refl
wait_of_read left (Err e) buf failed = by_failure (is_transient_error (error_kind e)) failed

pub same_but_peer : {S : Type 0} (old mid new : Client S) → mid ≡ record old { peer = mid.peer } → new ≡ record mid { peer = new.peer } → new ≡ record old { peer = new.peer }
same_but_peer {S} old mid new first second =
    let with_peer : Client S → Client S = λ c. record c { peer = new.peer } in
    second ∙ ap with_peer first

module _
    {S : Type 0} (Passed : S → List ℕ → List PeerReadOutcome → S → Type 0) (none : (s : S) → Passed s [] [] s)
    (joined : (s t u : S) (a b : List ℕ) (c d : List PeerReadOutcome) → Passed s a c t → Passed t b d u → Passed s (a ++ b) (c ++ d) u)
  where
    pub none_dropped : (peer : Peer S) → InputIsDropped Passed Yes peer peer
    none_dropped peer = record { gave = []; passed = none peer.stream; answers = refl }

    one_more : (old mid new : Peer S) (outcome : PeerReadOutcome) (answer : StillToWait) → InputIsDropped Passed Yes old mid
        → Passed mid.stream [] (outcome ∷ []) new.stream → answer ≡ more_is_awaited_after (outcome ∷ []) → InputIsDropped Passed answer old new
    one_more old mid new outcome answer before passed is = record {
      gave = before.gave ++ outcome ∷ [];
      passed = joined old.stream mid.stream new.stream [] [] before.gave (outcome ∷ []) before.passed passed;
      answers = is ∙ sym (wait_behind before.gave (outcome ∷ []) (sym before.answers));
    }

    unread : (old mid new : Peer S) (result : Result Received Error) → InputIsDropped Passed Yes old mid → (new ≡ mid) × (result ≡ Ok received.Nothing)
        → InputIsDropped Passed (wait_of result) old new
    unread old mid new result before same =
        let P : Result Received Error → Type 0 = λ r. InputIsDropped Passed (wait_of r) old new in
        let Q : Peer S → Type 0 = λ p. InputIsDropped Passed Yes old p in
        subst P (sym (same.1)) (subst Q (sym (same.0)) before)

    by_readable : (readable : Bool) (room : ℕ) (old mid new : Peer S) (result : Result Received Error) (buf : List ℕ) → mid.readable ≡ readable
        → InputIsDropped Passed Yes old mid → PeerIsRead Passed room result buf mid new → IfErr result IsLastingError
        → InputIsDropped Passed (wait_of result) old new
    by_readable true room old mid new result buf is before read failed =
        one_more old mid new (peer_read_outcome new.readable result buf) (wait_of result) before (read.passed is) (sym (wait_of_read new.readable result buf failed))
    by_readable false room old mid new result buf is before read failed = unread old mid new result before (read.unread is)

    by_unsent : (unsent : List ℕ) (room : ℕ) (old : Peer S) (mid new : Client S) (result : Result Received Error) (buf : List ℕ) → mid.peer.unsent.bytes ≡ unsent
        → InputIsDropped Passed Yes old mid.peer → (0 < length mid.peer.unsent.bytes → (new ≡ mid) × (result ≡ Ok received.Nothing))
        → (mid.peer.unsent.bytes ≡ [] → PeerIsRead Passed room result buf mid.peer new.peer) → IfErr result IsLastingError
        → InputIsDropped Passed (wait_of result) old new.peer
    by_unsent [] room old mid new result buf is before first read failed =
        by_readable mid.peer.readable room old mid.peer new.peer result buf refl before (read is) failed
    by_unsent (x ∷ xs) room old mid new result buf is before first read failed =
        let some : 0 < length mid.peer.unsent.bytes = subst (λ (l : List ℕ). 0 < length l) (sym is) (omega arith) in
        let same = first some in
        unread old mid.peer new.peer result before (ap (λ (c : Client S). c.peer) same.0, same.1)

    -- one read more
    pub read_behind : (room : ℕ) (old : Peer S) (mid new : Client S) (result : Result Received Error) (buf : List ℕ) (answer : StillToWait)
        → InputIsDropped Passed Yes old mid.peer → (0 < length mid.peer.unsent.bytes → (new ≡ mid) × (result ≡ Ok received.Nothing))
        → (mid.peer.unsent.bytes ≡ [] → PeerIsRead Passed room result buf mid.peer new.peer) → IfErr result IsLastingError
        → wait_of result ≡ answer → InputIsDropped Passed answer old new.peer
    read_behind room old mid new result buf answer before first read failed is =
        let P : StillToWait → Type 0 = λ a. InputIsDropped Passed a old new.peer in
        subst P is (by_unsent mid.peer.unsent.bytes room old mid new result buf refl before first read failed)

-- What a write to a peer comes to.
use Rattle.std.proofs.Common.{◌≡◌, ℕ, true, List, [], ◌++◌, refl, sym, subst, ◌∙◌}
use Rattle.std.proofs.lemmas.Bool.{true≢false}
use Rattle.proxy_streams.specs.Peers.{PeerReadOutcome, BytesAreWrittenOrKept, AFrontOfBytesIsWritten}
use Rattle.proxy_streams.specs.PeerCalls.{PeerIsWritten}
use Rattle.proxy_streams.specs.declared.peer.Peer.{Peer}

module _ {S : Type 0} (Passed : S → List ℕ → List PeerReadOutcome → S → Type 0) (bytes : List ℕ) (old new : Peer S) where
  pub written_whole : BytesAreWrittenOrKept (λ took. Passed old.stream took [] new.stream) (old.unsent.bytes ++ bytes) new.unsent.bytes → PeerIsWritten Passed bytes old new
  written_whole h = record { in_part = (new.unsent.bytes, h); whole = λ _. h }

  pub written_in_part : AFrontOfBytesIsWritten (λ took. Passed old.stream took [] new.stream) (old.unsent.bytes ++ bytes) → new.broken ≡ true
      → PeerIsWritten Passed bytes old new
  written_in_part h broken = record { in_part = h; whole = λ going. absurd (true≢false (sym broken ∙ going)) }

  pub not_written : ((s : S) → Passed s [] [] s) → new.stream ≡ old.stream → new.broken ≡ true → PeerIsWritten Passed bytes old new
  not_written none same broken =
      let P : S → Type 0 = λ s. Passed old.stream [] [] s in
      written_in_part (old.unsent.bytes ++ bytes, ([], subst P (sym same) (none old.stream), refl)) broken

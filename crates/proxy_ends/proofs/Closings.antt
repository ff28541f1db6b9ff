-- Of all streams but one, at most one goes.
use Rattle.std.proofs.Common.{◌≡◌, ◌≢◌, ◌<◌, inl, inr, ℕ, length, Option, Some, None, IsSome, refl, sym, ap, subst, ◌∙◌}
use Rattle.std.proofs.lemmas.Bool.Decides.{leb_tells}
use lib.Seq.{get_or-set_other}
use Rattle.std.specs.BTreeMap.{get, BTreeMap, btree_map_len}
use Rattle.std.specs.Global.{Box}
use Rattle.std.specs.Option.{option_map, option_and_then}
use Rattle.std.specs.Ordering.{nat_cmp}
use Rattle.slab.proofs.SlabLemmas.{Updates-with_value}
use Rattle.slab.specs.Slab as slab
use Rattle.slab.specs.Slab.{Slab}
use Rattle.proxy_ends.specs.Closing.{NoOtherStreamIsDropped, ClosedStreamsAreBounded, AtMostOneOtherStreamIsDropped, ClosingByNumberDropsAtMostOneOther, PlaceIsInQueue, ClientIsQueuedOrDropped, HasUnsentBytesOrIsAbsent, IsInLeavingQueueIfUnsent}
use Rattle.proxy_pacing.specs.Queues.{longest_waiting_in_queue}
use Rattle.proxy_ends.specs.OtherEntries.{StreamsOfOtherKeysStay}
use Rattle.proxy_ends.specs.Streams.{client_at, client_at_number}
use Rattle.proxy_ends.specs.declared.clients.client.Client.{Client}
use Rattle.proxy_ends.specs.declared.clients.client.ClientStreamState.{ClientStreamState}
use Rattle.proxy_pacing.specs.declared.stream_queues.ClosedStreamQueue.{ClosedStreamQueue}
use Rattle.proxy_pacing.specs.declared.stream_queues.ClosedStreamQueue.TheVariants.{Leaving}

pub none_goes : {A : Type 0} (key : ℕ) (old new : Slab A) → StreamsOfOtherKeysStay key old new → AtMostOneOtherStreamIsDropped key old new
none_goes key old new stay = record { other = key; gone = λ other. absurd (other refl); others = λ k not_key not_other. stay k not_key }

pub goes_behind : {A : Type 0} (key : ℕ) (old mid new : Slab A) → StreamsOfOtherKeysStay key old mid → AtMostOneOtherStreamIsDropped key mid new → AtMostOneOtherStreamIsDropped key old new
goes_behind key old mid new stay goes = record { other = goes.other; gone = goes.gone; others = λ k not_key not_other. goes.others k not_key not_other ∙ stay k not_key }

pub gives_way : {A : Type 0} (key : ℕ) (first : Option ℕ) (old new : Slab A) → NoOtherStreamIsDropped first old new → AtMostOneOtherStreamIsDropped key old new
gives_way key None old new same = none_goes key old new (λ k not_key. ap (λ s. slab.get s k) same)
gives_way key (Some first) old new gives = record { other = first; gone = λ other. gives.0; others = λ k not_key not_other. gives.1 k not_other }

pub bounded_goes : {A : Type 0} (key : ℕ) (closed : BTreeMap ℕ ℕ) (old new : Slab A) → ClosedStreamsAreBounded closed old new → AtMostOneOtherStreamIsDropped key old new
bounded_goes key closed old new bounded =
    elim (leb_tells (btree_map_len closed) 256) [
      | inl few ↦ none_goes key old new (λ k not_key. ap (λ s. slab.get s k) (bounded.0 few.1))
      | inr many ↦ gives_way key (longest_waiting_in_queue closed) old new (bounded.1 many.1)
    ]

pub closes_at : {A : Type 0} (at : Option ℕ) (key : ℕ) (old new : Slab A) → at ≡ Some key → AtMostOneOtherStreamIsDropped key old new → ClosingByNumberDropsAtMostOneOther at old new
closes_at at key old new is goes = let P : Option ℕ → Type 0 = λ o. ClosingByNumberDropsAtMostOneOther o old new in subst P (sym is) goes

pub closes_none : {A : Type 0} (at : Option ℕ) (old new : Slab A) → at ≡ None → new ≡ old → ClosingByNumberDropsAtMostOneOther at old new
closes_none at old new is same = let P : Option ℕ → Type 0 = λ o. ClosingByNumberDropsAtMostOneOther o old new in subst P (sym is) same

-- where the stream at the key alone was written to
pub none_goes_written : {A : Type 0} (key : ℕ) (old : Slab A) (value : A) → AtMostOneOtherStreamIsDropped key old (slab.with_value old key value)
none_goes_written key old value =
    none_goes key old (slab.with_value old key value) (λ k not_key. get_or-set_other old.slots key k (Some value) None not_key)

-- where it was written to, that stands there
written_at : {A : Type 0} (s : Slab A) (key : ℕ) (old new : A) → slab.get s key ≡ Some old → slab.get (slab.with_value s key new) key ≡ Some new
written_at {A} s key old new is = (Updates-with_value s key new (subst (λ (o : Option A). IsSome o) (sym is) refl)).changed

-- a client that comes into a queue, and is left as it stands there, with what it has to take
joins_and_stays : {S : Type 0} (queue : ClosedStreamQueue) (before client : Client S) (mid new : Option (Client S)) → ClientIsQueuedOrDropped queue (Some client) mid
    → client.peer.unsent ≡ before.peer.unsent → (0 < length before.peer.unsent.bytes → queue ≡ Leaving) → (HasUnsentBytesOrIsAbsent mid → new ≡ mid)
    → IsInLeavingQueueIfUnsent (Some before) new
joins_and_stays {S} queue before client None new stands same leaving stays =
    subst (λ (o : Option (Client S)). IsInLeavingQueueIfUnsent (Some before) o) (sym (stays tt)) tt
joins_and_stays {S} queue before client (Some mid) None stands same leaving stays = tt
joins_and_stays {S} queue before client (Some mid) (Some new) stands same leaving stays = λ some.
    let held : mid.peer.unsent ≡ before.peer.unsent = ap (λ (c : Client S). c.peer.unsent) stands.0 ∙ same in
    let is : Some new ≡ Some mid = stays (subst (λ u. 0 < length u.bytes) (sym held) some) in
    let it : new ≡ mid = cc in (
      subst (λ (p : ClientStreamState). PlaceIsInQueue Leaving p) (ap (λ (c : Client S). c.place) (sym it))
          (subst (λ (q : ClosedStreamQueue). PlaceIsInQueue q mid.place) (leaving some) stands.1),
      ap (λ (c : Client S). c.peer.unsent) it ∙ held,
    )

-- the same of the client of a number
pub closes_leaving : {S : Type 0} (keys : BTreeMap ℕ ℕ) (n key : ℕ) (streams : Slab (Box (Client S))) (old new : Box (Client S)) (queue : ClosedStreamQueue)
    (mid last : Slab (Box (Client S))) → get nat_cmp keys n ≡ Some key → slab.get streams key ≡ Some old → new.value.peer.unsent ≡ old.value.peer.unsent
    → (0 < length old.value.peer.unsent.bytes → queue ≡ Leaving)
    → ClientIsQueuedOrDropped queue (client_at (slab.with_value streams key new) key) (client_at mid key)
    → (HasUnsentBytesOrIsAbsent (client_at mid key) → client_at last key ≡ client_at mid key) → IsInLeavingQueueIfUnsent (client_at_number keys streams n) (client_at_number keys last n)
closes_leaving {S} keys n key streams old new queue mid last at there same leaving stands stays =
    let value : Box (Client S) → Client S = λ b. b.value in
    let written : client_at (slab.with_value streams key new) key ≡ Some new.value = ap (option_map value) (written_at streams key old new there) in
    let stands_so : ClientIsQueuedOrDropped queue (Some new.value) (client_at mid key)
    = subst (λ (o : Option (Client S)). ClientIsQueuedOrDropped queue o (client_at mid key)) written stands in
    let of_client : IsInLeavingQueueIfUnsent (Some old.value) (client_at last key)
    = joins_and_stays queue old.value new.value (client_at mid key) (client_at last key) stands_so same leaving stays in
    let of_key : IsInLeavingQueueIfUnsent (client_at streams key) (client_at last key)
    = subst (λ (o : Option (Client S)). IsInLeavingQueueIfUnsent o (client_at last key)) (sym (ap (option_map value) there)) of_client in
    subst (λ (o : Option ℕ). IsInLeavingQueueIfUnsent (option_and_then (client_at streams) o) (option_and_then (client_at last) o)) (sym at) of_key

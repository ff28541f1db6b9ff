-- Connections that may be lost are at marked places.
use Rattle.std.proofs.Common.{◌≡◌, ◌≢◌, ◌⊎◌, inl, inr, ℕ, zero, suc, ◌+◌, ◌-◌, ◌<◌, ◌≤◌, List, [], ◌∷◌, ◌++◌, length, get_or, set, refl, sym, ap, ◌∙◌, subst, arith, Bool, true, false, cond, Contains, Option, None, Some, is_some}
use Rattle.std.proofs.lemmas.Bool.{cases_order}
use Rattle.std.proofs.lemmas.List.{get_or-set_same, get_or-set_other, get_or-append_right}
use Rattle.std.proofs.lemmas.List.Sums.{sum_by-set, sum_by_push}
use Rattle.std.proofs.Math.ListN.{get_or-append}
use Rattle.std.proofs.Math.Seq.{get_or-append_seam}
use Rattle.proxy_engine.specs.ReadyList.{ReadyPlaces, PlacesAscend}
use Rattle.proxy_engine.specs.Marked.{EndList, end_if_open_at, open_end_count, is_gone_with_exchange, DisconnectedExchangesAreMarked, LookingAheadKeepsConnection, ContentsOfPlacesAreRelated}
use Rattle.proxy_engine.specs.declared.endpoints.ends.Connection.{Connection}
use Rattle.proxy_engine.proofs.Rising.{rises_none}
use Rattle.proxy_engine.proofs.Keeping.{inside, one_if_some}
use Rattle.proxy_engine.proofs.Searching.{sum_alike}
use Rattle.proxy_engine.proofs.Readable.{beyond}
use Rattle.proxy_engine.proofs.Marking.{fills_list, has_room, has_room_beyond, marked_put, marked_gone, marked_room, marked_alike, looked_lost}

-- none was accepted
pub lost_none : (e : EndList Connection) (kept : ReadyPlaces) → e.items ≡ [] → e.has_room ≡ false → kept.places ≡ [] → DisconnectedExchangesAreMarked e kept
lost_none e kept empty roomless none = record {
  marked = record {
    marked = λ i c here lost. absurd (let within = subst (λ (xs : List (Option Connection)). i < length xs) empty (inside e.items i (ap is_some here)) in omega (arith, within));
    filled = λ i c. absurd (let within = subst (λ (ps : List ℕ). Contains ps i) none c in omega (arith, within.1));
    room = let no_more = ap open_end_count empty in omega (arith, no_more);
    rises = rises_none kept.places none;
  };
  next = λ has. absurd (let both : true ≡ false = sym has ∙ roomless in cc);
}

module _ (e : EndList Connection) (old new : ReadyPlaces) (h : DisconnectedExchangesAreMarked e old) where
  -- there is room for a mark
  pub lost_room : (i : ℕ) → is_some (end_if_open_at e.items i) ≡ true → Contains old.places i ⊎ (length old.places < old.room)
  lost_room i here = has_room is_gone_with_exchange (end_if_open_at e.items) (open_end_count e.items) old i (fills_list e.items) h.marked here

  pub next_room : (i : ℕ) → e.has_room ≡ true → Contains old.places i ⊎ (length old.places < old.room)
  next_room i has = let more = h.next has in has_room_beyond is_gone_with_exchange (end_if_open_at e.items) (open_end_count e.items) old i (fills_list e.items) h.marked (omega (arith, more))

  -- room was made for one more
  pub lost_reserved : (f : EndList Connection) → f.items ≡ e.items → new.places ≡ old.places → old.room ≤ new.room → (f.has_room ≡ true → open_end_count e.items + 1 ≤ new.room) → DisconnectedExchangesAreMarked f new
  lost_reserved f items places room next = record {
    marked = let count = ap open_end_count items in marked_room is_gone_with_exchange (end_if_open_at e.items) (end_if_open_at f.items) (open_end_count e.items) (open_end_count f.items) old new h.marked (λ q. ap (λ (xs : List (Option Connection)). end_if_open_at xs q) items) count places room;
    next = λ has. let more = next has in let count = ap open_end_count items in omega (arith, more, count);
  }

  -- a place is marked
  module _ (i : ℕ) (there : Contains new.places i) (others : (q : ℕ) → Contains old.places q → Contains new.places q) (only : (q : ℕ) → q ≢ i → Contains new.places q → Contains old.places q) (room : new.room ≡ old.room) (rises : PlacesAscend new.places) where
    -- what is there stays
    pub lost_kept : is_some (end_if_open_at e.items i) ≡ true → DisconnectedExchangesAreMarked e new
    lost_kept here = record {
      marked = marked_put is_gone_with_exchange (end_if_open_at e.items) (end_if_open_at e.items) (open_end_count e.items) (open_end_count e.items) old new i h.marked (λ q other. refl) here (let fits = h.marked.room in omega (arith, fits, room)) there others only rises;
      next = λ has. let more = h.next has in omega (arith, more, room);
    }

    -- it changes
    pub lost_put : (c : Connection) → is_some (end_if_open_at e.items i) ≡ true → DisconnectedExchangesAreMarked (record { items = set e.items i (Some c); has_room = e.has_room }) new
    lost_put c here =
        let within = inside e.items i here in
        let one : one_if_some (end_if_open_at e.items i) ≡ 1 = ap {B = ℕ} (λ (b : Bool). cond b 1 0) here in
        let count = sum_by-set one_if_some e.items i (Some c) None within in
        let as_many : open_end_count (set e.items i (Some c)) ≡ open_end_count e.items = omega (arith, one, count) in record {
          marked = marked_put is_gone_with_exchange (end_if_open_at e.items) (end_if_open_at (set e.items i (Some c))) (open_end_count e.items) (open_end_count (set e.items i (Some c))) old new i h.marked (λ q other. get_or-set_other e.items i q (Some c) None other) (ap is_some (get_or-set_same e.items i (Some c) None within))
              (let fits = h.marked.room in omega (arith, fits, room, as_many)) there others only rises;
          next = λ has. let more = h.next has in omega (arith, more, room, as_many);
        }

    -- one more comes
    pub lost_more : (c : Connection) (f : EndList Connection) → length e.items ≡ i → e.has_room ≡ true → f.items ≡ e.items ++ Some c ∷ [] → f.has_room ≡ false → DisconnectedExchangesAreMarked f new
    lost_more c f count has items roomless =
        let as_many = ap open_end_count items ∙ sum_by_push one_if_some e.items (Some c) in record {
          marked = marked_put is_gone_with_exchange (end_if_open_at e.items) (end_if_open_at f.items) (open_end_count e.items) (open_end_count f.items) old new i h.marked (λ q other. ap (λ (xs : List (Option Connection)). end_if_open_at xs q) items ∙ beside q other (cases_order q i))
              (ap is_some (ap (λ (xs : List (Option Connection)). end_if_open_at xs i) items ∙ here)) (let more = h.next has in omega (arith, more, room, as_many)) there others only rises;
          next = λ again. absurd (let both : true ≡ false = sym again ∙ roomless in cc);
        }
      where
        here : end_if_open_at (e.items ++ Some c ∷ []) i ≡ Some c
        here = sym (ap (end_if_open_at (e.items ++ Some c ∷ [])) count) ∙ get_or-append_seam e.items (Some c) [] None

        beside : (q : ℕ) → q ≢ i → ((q ≡ i) ⊎ ((q < i) ⊎ (i < q))) → end_if_open_at (e.items ++ Some c ∷ []) q ≡ end_if_open_at e.items q
        beside q other (inl same) = absurd (other same)
        beside q other (inr (inl less)) = get_or-append e.items (Some c ∷ []) None q (omega (arith, count, less))
        beside q other (inr (inr more)) =
            get_or-append_right e.items (Some c ∷ []) i q None count (omega (arith, more)) ∙ (past (q - i) (omega (arith, more)) ∙ sym (beyond e.items q (omega (arith, count, more))))
          where
            past : (k : ℕ) → 0 < k → get_or (Some c ∷ []) k None ≡ None
            past zero l = absurd (omega (arith, l))
            past (suc k) l = refl

  -- one is let go
  pub lost_gone : (f : EndList Connection) (i : ℕ) → i < length e.items → f.items ≡ set e.items i None → f.has_room ≡ e.has_room → ((q : ℕ) → q ≢ i → Contains old.places q → Contains new.places q) → ((q : ℕ) → Contains new.places q → (q ≢ i) × Contains old.places q) → new.room ≡ old.room → PlacesAscend new.places
      → DisconnectedExchangesAreMarked f new
  lost_gone f i within items has others only room rises =
      let count = sum_by-set one_if_some e.items i None None within in
      let is = ap open_end_count items in
      let fewer : open_end_count f.items ≤ open_end_count e.items = omega (arith, count, is) in record {
        marked = marked_gone is_gone_with_exchange (end_if_open_at e.items) (end_if_open_at f.items) (open_end_count e.items) (open_end_count f.items) old new i h.marked (λ q other. ap (λ (xs : List (Option Connection)). end_if_open_at xs q) items ∙ get_or-set_other e.items i q None None other)
            (ap (λ (xs : List (Option Connection)). end_if_open_at xs i) items ∙ get_or-set_same e.items i None None within) fewer others only room rises;
        next = λ again. let more = h.next (sym has ∙ again) in omega (arith, more, fewer, room);
      }

-- a look, or room for bytes
pub lost_looked : (R : Connection → Connection → Type 0) (e f : EndList Connection) (kept : ReadyPlaces) → ((x y : Connection) → R x y → LookingAheadKeepsConnection x y) → DisconnectedExchangesAreMarked e kept → ContentsOfPlacesAreRelated R (end_if_open_at e.items) (end_if_open_at f.items) → length f.items ≡ length e.items → f.has_room ≡ e.has_room
    → DisconnectedExchangesAreMarked f kept
lost_looked R e f kept looks h alike count has =
    let fewer : open_end_count f.items ≤ open_end_count e.items = sum_alike R one_if_some (λ x y r. omega arith) e.items f.items count alike in record {
      marked = marked_alike is_gone_with_exchange R (end_if_open_at e.items) (end_if_open_at f.items) (open_end_count e.items) (open_end_count f.items) kept (λ x y r. looked_lost x y (looks x y r)) h.marked alike fewer;
      next = λ again. let more = h.next (sym has ∙ again) in omega (arith, more, fewer);
    }

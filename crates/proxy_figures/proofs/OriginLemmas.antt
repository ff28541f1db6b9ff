-- The origins, where the one at a place is changed.
use Rattle.std.proofs.Common.{◌≡◌, ◌≢◌, ◌+◌, ◌≤◌, ◌<◌, ◌++◌, ◌∷◌, [], ℕ, ◌-◌, ◌/◌, Bool, true, false, cond, ◌||◌, ◌&&◌, MatchBool, nat_eq, List, length, set, get_or, Option, None, Some, refl, sym, ap, subst, ◌∙◌, arith}
use Rattle.std.specs.Prelude.{slice_get, option_map, count_by, AllPairs, nat_lt, nat_le}
use Rattle.std.specs.List.{list_any}
use Rattle.std.proofs.Math.Seq.{map-set_same}
use Rattle.std.proofs.lemmas.Option.{slice_get_read, slice_get_past, slice_get-map, get_or_from_slice_get}
use Rattle.std.proofs.lemmas.Bool.Decides.{nat_tests}
use Rattle.std.proofs.lemmas.List.Sums.{sum_by-set, sum_by-cons, sum_by_push}
use Rattle.std.proofs.lemmas.List.Quantifiers.{all_pairs_push}
use Rattle.std.proofs.lemmas.List.{map-append}
use Rattle.std.specs.Cmp.Lexicographic.{told_text}
use lib.Pointwise.{pointwise}
use borrow.Author.Count.{below_more}
use Rattle.std.specs.declared.net.socket_addr.SocketAddrV4.{SocketAddrV4}
use Rattle.proxy_figures.specs.declared.origins.LinkAdmission.{LinkAdmission}
use Rattle.proxy_figures.specs.declared.origins.LinkAdmission.TheVariants.{Yes, AsProbe, No}
use Rattle.proxy_figures.specs.declared.origins.Origin.{Origin}
use Rattle.proxy_figures.specs.declared.sorts.Cause.{Cause}
use Rattle.proxy_figures.specs.declared.sorts.ReplySort.{ReplySort}
use Rattle.proxy_figures.specs.Sorts.{is_failure_covered_by_store}
use Rattle.proxy_figures.specs.Origins.{is_crowded, IsFreshOriginOfAddress, origin_changed_at, origin_with_link_begun, origin_with_link_ended, origin_with_refusal_if_not_admitted, origin_with_reply, origin_with_failure_or_answer, origin_with_failure, origin_with_failure_covered_by_store, origin_with_answer}
use Rattle.proxy_figures.specs.OriginsModel.{addresses, CrowdedCountAndAddressesAreValid, AddressIsOfNoOrigin}

module _ (xs : List Origin) (place : ℕ) (old new : Origin) (within : place < length xs) (at : old ≡ get_or xs place old) where
  -- an origin gives way to one with its address; how many are crowded changes by these two
  pub counted-set : (most crowded after : ℕ) → CrowdedCountAndAddressesAreValid most crowded xs → new.address ≡ old.address
      → after + cond (is_crowded most old) 1 0 ≡ crowded + cond (is_crowded most new) 1 0 → CrowdedCountAndAddressesAreValid most after (set xs place new)
  counted-set most crowded after counted same numbers =
      let changed = sum_by-set (λ (o : Origin). cond (is_crowded most o) 1 0) xs place new old within in
      let with_origin_at : count_by (is_crowded most) (set xs place new) + cond (is_crowded most old) 1 0 ≡ count_by (is_crowded most) xs + cond (is_crowded most new) 1 0 = rw (← at) at changed in
      let e : crowded ≡ count_by (is_crowded most) xs = counted.counted in
      record {
        counted = omega (arith, with_origin_at, e, numbers);
        distinct = subst (λ (ys : List SocketAddrV4). AllPairs (λ (a b : SocketAddrV4). a ≢ b) ys) (sym (map-set_same (λ (o : Origin). o.address) xs place new old (same ∙ ap (λ (o : Origin). o.address) at))) counted.distinct;
      }

  -- what neither opens nor ends a link makes none crowded
  pub same_counted : (most crowded : ℕ) → CrowdedCountAndAddressesAreValid most crowded xs → new.address ≡ old.address → new.open ≡ old.open → CrowdedCountAndAddressesAreValid most crowded (set xs place new)
  same_counted most crowded counted same links = counted-set most crowded crowded counted same
      (ap (λ (n : ℕ). crowded + cond (nat_le (most - most / 8) n) 1 0) (sym links))

  pub changed_at : (change : Origin → Origin) → new ≡ change old → set xs place new ≡ origin_changed_at place change xs
  changed_at change e = rw (slice_get_read xs (length xs) place old refl within at, e) refl

pub unchanged_past : (xs : List Origin) (place : ℕ) (change : Origin → Origin) → length xs ≤ place → xs ≡ origin_changed_at place change xs
unchanged_past xs place change past = rw (slice_get_past xs place past) refl

-- some passes where more than none is counted
pub any_from_count : (p : Origin → Bool) (xs : List Origin) → nat_lt 0 (count_by p xs) ≡ list_any p xs
any_from_count p [] = refl
any_from_count p (x ∷ xs) = rw (sum_by-cons (λ (o : Origin). cond (p o) 1 0) x xs) (by_first (p x) (any_from_count p xs))
  where
    by_first : (b : Bool) → nat_lt 0 (count_by p xs) ≡ list_any p xs → nat_lt 0 (cond b 1 0 + count_by p xs) ≡ (b || list_any p xs)
    by_first true e = grind (arith, nat_tests)
    by_first false e = grind (arith, nat_tests)

-- addresses are the same where their octets and their ports are
abbrev address_of_parts : List ℕ → ℕ → SocketAddrV4
address_of_parts octets port = record { ip = record { octets = octets }; port = port }

pub told_address : (a b : SocketAddrV4) (r : Bool) → r ≡ (pointwise nat_eq a.ip.octets b.ip.octets && nat_eq a.port b.port) → MatchBool r (a ≡ b) (a ≢ b)
told_address a b r e = rw e (by_octets (pointwise nat_eq a.ip.octets b.ip.octets) (told_text a.ip.octets b.ip.octets _ refl) (nat_eq a.port b.port) refl)
  where
    by_octets : (o : Bool) → MatchBool o (a.ip.octets ≡ b.ip.octets) (a.ip.octets ≢ b.ip.octets) → (p : Bool) → p ≡ nat_eq a.port b.port → MatchBool (o && p) (a ≡ b) (a ≢ b)
    by_octets true octets true port = ap (λ (x : List ℕ). address_of_parts x a.port) octets ∙ ap (λ (n : ℕ). address_of_parts b.ip.octets n) (grind (arith, nat_tests))
    by_octets true octets false port = λ same. absurd (let ports : a.port ≡ b.port = ap (λ (x : SocketAddrV4). x.port) same in grind (arith, nat_tests))
    by_octets false octets p port = λ same. octets (ap (λ (x : SocketAddrV4). x.ip.octets) same)

pub same_address : (a b : SocketAddrV4) (r : Bool) → r ≡ (pointwise nat_eq a.ip.octets b.ip.octets && nat_eq a.port b.port) → r ≡ true → a ≡ b
same_address a b r e is = let P : Bool → Type 0 = λ x. MatchBool x (a ≡ b) (a ≢ b) in subst P is (told_address a b r e)

pub other_address : (a b : SocketAddrV4) (r : Bool) → r ≡ (pointwise nat_eq a.ip.octets b.ip.octets && nat_eq a.port b.port) → r ≡ false → a ≢ b
other_address a b r e is = let P : Bool → Type 0 = λ x. MatchBool x (a ≡ b) (a ≢ b) in subst P is (told_address a b r e)

pub address_at : (xs : List Origin) (i : ℕ) (o : Origin) → i < length xs → o ≡ get_or xs i o → slice_get (addresses xs) i ≡ Some o.address
address_at xs i o within at = slice_get-map (λ (p : Origin). p.address) xs i ∙ ap (option_map (λ (p : Origin). p.address)) (slice_get_read xs (length xs) i o refl within at)

pub other_so_far : (xs : List Origin) (i : ℕ) (o : Origin) (address : SocketAddrV4) → i < length xs → o ≡ get_or xs i o → o.address ≢ address
    → ((k : ℕ) (d : SocketAddrV4) → k < i → get_or (addresses xs) k d ≢ address) → (k : ℕ) (d : SocketAddrV4) → k < i + 1 → get_or (addresses xs) k d ≢ address
other_so_far xs i o address within at other before k d below = below_more (λ (j : ℕ). get_or (addresses xs) j d ≢ address) i (λ j lt. before j d lt)
    (subst (λ (a : SocketAddrV4). a ≢ address) (sym (get_or_from_slice_get (addresses xs) i o.address d (address_at xs i o within at))) other) k below

-- a new origin stands at the end
pub counted-push : (most crowded after : ℕ) (xs : List Origin) (address : SocketAddrV4) (o : Origin) → CrowdedCountAndAddressesAreValid most crowded xs → AddressIsOfNoOrigin address xs → IsFreshOriginOfAddress address o
    → after ≡ crowded + cond (is_crowded most o) 1 0 → CrowdedCountAndAddressesAreValid most after (xs ++ o ∷ [])
counted-push most crowded after xs address o counted other new numbers = record {
  counted = numbers ∙ ap (λ (n : ℕ). n + cond (is_crowded most o) 1 0) counted.counted ∙ sym (sum_by_push (λ (p : Origin). cond (is_crowded most p) 1 0) xs o);
  distinct = rw (map-append (λ (p : Origin). p.address) xs (o ∷ [])) (all_pairs_push (λ (a b : SocketAddrV4). a ≢ b) (addresses xs) o.address counted.distinct
      (λ k d within. subst (λ (a : SocketAddrV4). get_or (addresses xs) k d ≢ a) (sym (ap (λ (p : Origin). p.address) new.rest)) (other k d within)));
}

-- a refusal that is counted leaves address and links, and so does a reply
cond_keeps : {X : Type 0} (f : Origin → X) (b : Bool) (x y : Origin) (v : X) → f x ≡ v → f y ≡ v → f (cond b x y) ≡ v
cond_keeps f true x y v e g = e
cond_keeps f false x y v e g = g

pub admission-address : (admission : LinkAdmission) (most : ℕ) (o : Origin) → (origin_with_refusal_if_not_admitted admission most o).address ≡ o.address
admission-address Yes most o = refl
admission-address AsProbe most o = refl
admission-address No most o = cond_keeps (λ (p : Origin). p.address) (nat_le most o.open) _ _ o.address refl refl

pub admission-open : (admission : LinkAdmission) (most : ℕ) (o : Origin) → (origin_with_refusal_if_not_admitted admission most o).open ≡ o.open
admission-open Yes most o = refl
admission-open AsProbe most o = refl
admission-open No most o = cond_keeps (λ (p : Origin). p.open) (nat_le most o.open) _ _ o.open refl refl

reply_keeps : {X : Type 0} (f : Origin → X) (status : ℕ) (sort : ReplySort) (cause : Option Cause) (o : Origin)
    → ((c : Cause) → f (origin_with_failure c o) ≡ f o) → f (origin_with_failure_covered_by_store o) ≡ f o → ((n : ℕ) → f (origin_with_answer n o) ≡ f o)
    → f (origin_with_failure_or_answer cause status sort o) ≡ f o
reply_keeps f status sort (Some c) o failure covered answer = failure c
reply_keeps f status sort None o failure covered answer = cond_keeps f (is_failure_covered_by_store sort) _ _ (f o) covered (answer _)

pub reply-address : (status : ℕ) (sort : ReplySort) (o : Origin) → (origin_with_reply status sort o).address ≡ o.address
reply-address status sort o = reply_keeps (λ (p : Origin). p.address) status sort sort.cause o (λ c. refl) refl (λ n. refl)

pub reply-open : (status : ℕ) (sort : ReplySort) (o : Origin) → (origin_with_reply status sort o).open ≡ o.open
reply-open status sort o = reply_keeps (λ (p : Origin). p.open) status sort sort.cause o (λ c. refl) refl (λ n. refl)

pub link-address : (admission : LinkAdmission) (o : Origin) → (origin_with_link_begun admission o).address ≡ o.address
link-address No o = refl
link-address Yes o = refl
link-address AsProbe o = refl

pub ended-address : (admission : LinkAdmission) (lasted : ℕ) (o : Origin) → (origin_with_link_ended admission lasted o).address ≡ o.address
ended-address No lasted o = refl
ended-address Yes lasted o = refl
ended-address AsProbe lasted o = refl

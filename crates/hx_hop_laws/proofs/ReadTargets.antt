-- What was read as a target has parts that can be written again.
use Rattle.std.proofs.Common.{◌≡◌, inl, inr, ℕ, ◌+◌, ◌-◌, ◌<◌, ◌≤◌, Bool, true, false, not, ◌&&◌, ◌||◌, cond, List, [], ◌∷◌, ◌++◌, length, get_or, take, drop, get_or-take, get_or-drop, length-take-le, length-drop, refl, sym, ap, ◌∙◌, subst, arith}
use Rattle.std.specs.Prelude.{All, Option, Some, None, Ok, codes, find, unwrap_or, ◌==◌, nat_le, slice_index}
use Rattle.std.specs.Option.{option_and_then}
use Rattle.std.specs.List.{list_all, list_any}
use Rattle.std.specs.Char.{to_ascii_lowercase}
use Rattle.std.proofs.lemmas.Bool.{cases_order, eqb-true}
use Rattle.std.proofs.lemmas.Bool.Decides.{nat_tests}
use Rattle.std.proofs.lemmas.List.Elements.{All-nil, All-cons, All-tail, All-take, All-map, All-get_or, All-from_get_or}
use Rattle.http_uri.specs.ByteClasses.{hash_sign, index_of, left_bracket, slash}
use Rattle.http_uri.specs.Grammar.{IsForm, IsTail}
use Rattle.http_uri.specs.Uri.{uri_authority, uri_data, uri_scheme}
use Rattle.hx_target.specs.declared.target_fault.TargetFault.{TargetFault}
use Rattle.hx_target.specs.declared.target_fault.TargetFault.TheVariants.{Form, Scheme, Host, Port, Userinfo, Escape, DotSegment, TooLong}
use Rattle.hx_target.specs.declared.targets.Target.{Target}
use Rattle.hx_target.specs.Hosts.{host_part, port_if_valid, is_bracketed_address, is_address_byte, is_host, is_name, is_name_byte, lowercase, port_of_text, number_of_few_digits}
use Rattle.hx_target.specs.Judgement.{TargetIsJudged, TargetParts, fault_or_target, first_target_fault, is_forbidden_target_byte, is_malformed, judged_of, host_and_port_text, path_query_of, target_parts_of, target_fault_applies, target_of_parts}
use Rattle.hx_target.proofs.Judgements.{none_applies}

-- a byte from `!` to `~`
pub record IsVisible (b : ℕ) : Type 0 where
  pub above : 32 < b
  pub below : b < 127

-- ---- the path and the query

good_byte : (b : ℕ) → is_forbidden_target_byte b ≡ false → IsVisible b
good_byte b h = record { above = grind (arith, nat_tests); below = grind (arith, nat_tests) }

neither : (a b : Bool) → a || b ≡ false → (a ≡ false) × (b ≡ false)
neither true b h = absurd cc
neither false b h = (refl, h)

all_visible : (text : List ℕ) → list_any is_forbidden_target_byte text ≡ false → All IsVisible text
all_visible [] h = All-nil IsVisible
all_visible (b ∷ text) h =
    let parts = neither (is_forbidden_target_byte b) (list_any is_forbidden_target_byte text) h in
    All-cons IsVisible b text (good_byte b parts.0) (all_visible text parts.1)

behind_visible : (front text : List ℕ) → All IsVisible (front ++ text) → All IsVisible text
behind_visible [] text all = all
behind_visible (b ∷ front) text all = behind_visible front text (All-tail IsVisible b (front ++ text) all)

slash_visible : IsVisible 47
slash_visible = record { above = omega arith; below = omega arith }

tail_visible : (tail kept : List ℕ) → IsTail tail kept → All IsVisible tail → All IsVisible kept
tail_visible tail kept (inl h) all = subst (All IsVisible) (sym h.1) (All-cons IsVisible 47 [] slash_visible (All-nil IsVisible))
tail_visible tail kept (inr h) all = subst (All IsVisible) (sym h.2) (All-take IsVisible (index_of hash_sign tail) tail all)

kept_visible : (text : List ℕ) (scheme authority : Option (List ℕ)) (kept : List ℕ) → IsForm text scheme authority kept → All IsVisible text → All IsVisible kept
kept_visible text None None kept form all = subst (All IsVisible) (sym form.1) (All-take IsVisible (index_of hash_sign text) text all)
kept_visible text None (Some authority) kept form all = subst (All IsVisible) (sym form.3) (All-nil IsVisible)
kept_visible text (Some scheme) None kept form all = absurd form
kept_visible text (Some scheme) (Some authority) kept form all =
    tail_visible form.tail kept form.is_tail
    (behind_visible (form.name ++ codes "://" ++ authority) form.tail (subst (All IsVisible) form.spelled all))

pub record IsVisibleText (text : List ℕ) : Type 0 where
  pub some : 0 < length text
  pub bytes : All IsVisible text

path_visible : (kept : List ℕ) → All IsVisible kept → IsVisibleText (path_query_of kept)
path_visible kept all = by_test kept (slice_index kept 0 == slash) refl all
  where
    by_test : (k : List ℕ) (t : Bool) → (slice_index k 0 == slash) ≡ t → All IsVisible k → IsVisibleText (cond t k (slash ∷ k))
    by_test [] true is a = absurd cc
    by_test (b ∷ k) true is a = record { some = omega arith; bytes = a }
    by_test k false is a = record { some = omega arith; bytes = All-cons IsVisible 47 k slash_visible a }

-- ---- the host

name_byte : (b : ℕ) → is_name_byte b ≡ true → IsVisible b
name_byte b h = record { above = grind (arith, nat_tests); below = grind (arith, nat_tests) }

address_byte : (b : ℕ) → is_address_byte b ≡ true → IsVisible b
address_byte b h = record { above = grind (arith, nat_tests); below = grind (arith, nat_tests) }

lower_byte : (b : ℕ) → IsVisible b → IsVisible (to_ascii_lowercase b)
lower_byte b h = record { above = grind (arith, nat_tests, h.above); below = grind (arith, nat_tests, h.below) }

both : (a b : Bool) → a && b ≡ true → (a ≡ true) × (b ≡ true)
both true b h = (refl, h)
both false b h = absurd cc

pub pass_visible : (test : ℕ → Bool) → ((b : ℕ) → test b ≡ true → IsVisible b) → (text : List ℕ) → list_all test text ≡ true → All IsVisible text
pass_visible test visible [] h = All-nil IsVisible
pass_visible test visible (b ∷ text) h =
    let parts = both (test b) (list_all test text) h in
    All-cons IsVisible b text (visible b parts.0) (pass_visible test visible text parts.1)

name_visible : (text : List ℕ) → is_name text ≡ true → All IsVisible text
name_visible text h = pass_visible is_name_byte name_byte text (both _ _ h).1

address_visible : (text : List ℕ) → slice_index text 0 ≡ left_bracket → is_bracketed_address text ≡ true → All IsVisible text
address_visible text first h =
    let parts = both _ _ h in
    let before = both _ _ parts.0 in
    let sizes = both (nat_le 4 (length text)) (nat_le (length text) 47) before.0 in
    let long : 4 ≤ length text = grind (arith, nat_tests, sizes.0) in
    let last : get_or text (length text - 1) 0 ≡ 93 = eqb-true _ 93 before.1 in
    let middle : List ℕ = drop 1 (take (length text - 1) text) in
    let seen : All IsVisible middle = pass_visible is_address_byte address_byte middle parts.1 in
    All-from_get_or IsVisible text 0 λ k inside.
    elim (cases_order k 0) [
      | inl start ↦ subst IsVisible (sym (ap (λ (i : ℕ). get_or text i 0) start ∙ first)) (record { above = omega arith; below = omega arith })
      | inr (inl below) ↦ absurd (omega (arith, below))
      | inr (inr above) ↦ elim (cases_order k (length text - 1)) [
        | inl end ↦ subst IsVisible (sym (ap (λ (i : ℕ). get_or text i 0) end ∙ last)) (record { above = omega arith; below = omega arith })
        | inr (inl within) ↦
            let there : k - 1 < length middle = omega (arith, above, within, length-drop 1 (take (length text - 1) text), length-take-le (length text - 1) text (omega arith)) in
            subst IsVisible (get_or-drop 1 (take (length text - 1) text) (k - 1) 0 ∙ get_or-take (length text - 1) text (1 + (k - 1)) 0 (omega (arith, above, within)) ∙ ap (λ (i : ℕ). get_or text i 0) (omega (arith, above))) (All-get_or IsVisible middle (k - 1) 0 there seen)
        | inr (inr beyond) ↦ absurd (omega (arith, beyond, inside))
      ]
    ]

host_visible : (text : List ℕ) → is_host text ≡ true → All IsVisible text
unfolding is_host
host_visible text h = by_test (slice_index text 0 == left_bracket) refl h
  where
    by_test : (t : Bool) → (slice_index text 0 == left_bracket) ≡ t → cond t (is_bracketed_address text) (is_name text) ≡ true → All IsVisible text
    by_test true is e = address_visible text (eqb-true (slice_index text 0) 91 is) e
    by_test false is e = name_visible text e

lower_visible : (text : List ℕ) → All IsVisible text → All IsVisible (lowercase text)
lower_visible text all = All-map IsVisible to_ascii_lowercase text (All-from_get_or (λ b. IsVisible (to_ascii_lowercase b)) text 0 (λ i inside. lower_byte (get_or text i 0) (All-get_or IsVisible text i 0 inside all)))

-- ---- the port

port_small : (text : List ℕ) → unwrap_or (port_of_text text) 80 ≤ 65535
unfolding port_of_text
port_small text = by_test (length text == 0)
  where
    by_bounds : (n : ℕ) (t u : Bool) → nat_le 1 n ≡ t → nat_le n 65535 ≡ u → unwrap_or (cond (t && u) (Some n) None) 80 ≤ 65535
    by_bounds n true true low high = grind (arith, nat_tests)
    by_bounds n true false low high = omega arith
    by_bounds n false u low high = omega arith

    by_number : (o : Option ℕ) → unwrap_or (option_and_then port_if_valid o) 80 ≤ 65535
    by_number None = omega arith
    by_number (Some n) = by_bounds n (nat_le 1 n) (nat_le n 65535) refl refl

    by_test : (t : Bool) → unwrap_or (cond t (Some 80) (option_and_then port_if_valid (number_of_few_digits text))) 80 ≤ 65535
    by_test true = omega arith
    by_test false = by_number (number_of_few_digits text)

-- ---- what a target that is read has

pub record IsCleanTarget (target : Target) : Type 0 where
  pub path : IsVisibleText target.key.path_query
  pub host : All IsVisible target.key.host
  pub port : target.key.port ≤ 65535

valid_host : (q : TargetParts) → first_target_fault q ≡ None → is_host (host_part (host_and_port_text q)) ≡ true
valid_host q none =
    let form = none_applies (target_fault_applies Form q) (find (λ fault. target_fault_applies fault q) (Scheme ∷ Host ∷ Port ∷ Userinfo ∷ Escape ∷ DotSegment ∷ TooLong ∷ [])) Form none in
    let scheme = none_applies (target_fault_applies Scheme q) (find (λ fault. target_fault_applies fault q) (Host ∷ Port ∷ Userinfo ∷ Escape ∷ DotSegment ∷ TooLong ∷ [])) Scheme form.1 in
    let host = none_applies (target_fault_applies Host q) (find (λ fault. target_fault_applies fault q) (Port ∷ Userinfo ∷ Escape ∷ DotSegment ∷ TooLong ∷ [])) Host scheme.1 in
    (both _ _ (last_not _ _ host.0)).0
  where
    last_not : (a b : Bool) → a || not b ≡ false → b ≡ true
    last_not true b h = absurd cc
    last_not false true h = refl
    last_not false false h = absurd cc

of_fault : (q : TargetParts) (o : Option TargetFault) (target : Target) → first_target_fault q ≡ o → All IsVisible q.kept → Ok target ≡ fault_or_target o q → IsCleanTarget target
of_fault q (Some fault) target none all is = absurd cc
of_fault q None target none all is =
    let same : target ≡ target_of_parts q = cc in
    subst IsCleanTarget (sym same) (record {
      path = path_visible q.kept all;
      host = lower_visible (host_part (host_and_port_text q)) (host_visible (host_part (host_and_port_text q)) (valid_host q none));
      port = port_small _;
    })

pub target_is_clean : (text : List ℕ) (hosts : List (List ℕ)) (target : Target) → TargetIsJudged text hosts (Ok target) → IsCleanTarget target
unfolding judged_of is_malformed
target_is_clean text hosts target (inl h) = let e = h.1 in absurd cc
target_is_clean text hosts target (inr (inl h)) = let e = h.1 in absurd cc
target_is_clean text hosts target (inr (inr (good, (uri, spells, is)))) =
    let q = target_parts_of text uri hosts in
    of_fault q (first_target_fault q) target refl (kept_visible text (uri_scheme uri) (uri_authority uri) (uri_data uri) spells.1 (all_visible text good)) is

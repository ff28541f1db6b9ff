-- The chosen response is preferred to all others that could answer, and there is one where one could.
use Rattle.std.proofs.Common.{◌≡◌, ◌≤◌, ◌⊎◌, inl, inr, true, false, List, [], ◌∷◌, refl, sym, ◌∙◌, ap, subst, arith}
use Rattle.std.specs.Prelude.{nat_eq, Option, Some, None}
use Rattle.std.specs.List.{Contains}
use Rattle.std.proofs.lemmas.Bool.Decides.{nat_tests}
use Rattle.std.proofs.lemmas.List.Elements.{Contains-append_left, Contains-append_right, Contains-append_cases, Contains-push, Contains-push_cases}
use Rattle.hx_target.specs.Keys.{same_key}
use Rattle.hx_vary.specs.Vary.{vary_matches}
use Rattle.hx_hop.specs.declared.request_view.Asked.{Asked}
use Rattle.hx_store.specs.Stored.{Stored}
use Rattle.hx_store.specs.Serials.{SerialsAreDistinct}
use Rattle.hx_store.specs.Shelf.{serials, find_entry_of_serial}
use Rattle.hx_reuse.specs.Chosen.{nominates, is_more_recent, entries_of_key, entries_that_match, most_preferred_response, chosen_of}
use Rattle.hx_reuse.specs.ChosenAndNamed.{ResponseMatchesRequest, ResponseIsChosen}
use Rattle.hx_fields.proofs.FirstThat.{IsMember}
use Rattle.hx_reuse.proofs.Members.{distinct_entries}
use Rattle.hx_reuse.proofs.Preferred.{fold_preferred, fold_some, same_serial, above_alike, above_keeps, filter_member, member_filter, find_member, member_find, find_entry_of_serial-find, nat_eq_true, nat_eq_same}

-- the members are what the list contains
contains_member : (xs : List Stored) (e : Stored) → IsMember e xs → Contains xs e
contains_member [] e m = absurd m
contains_member (x ∷ xs) e (inl same) = subst (λ (y : Stored). Contains (x ∷ xs) y) same (Contains-append_left (x ∷ []) xs x (Contains-push [] x))
contains_member (x ∷ xs) e (inr m) = Contains-append_right (x ∷ []) xs e (contains_member xs e m)

nothing_in_none : {X : Type 0} (e : X) → Contains [] e → ⊥
nothing_in_none e c = let below = c.1 in absurd (omega (arith, below))

pub member_contained : {X : Type 0} (xs : List X) (e : X) → Contains xs e → IsMember e xs
member_contained [] e c = absurd (nothing_in_none e c)
member_contained (x ∷ xs) e c = split (Contains-append_cases (x ∷ []) xs e c) (member_contained xs e)
  where
    at_one : Contains [] e ⊎ (x ≡ e) → IsMember e (x ∷ xs)
    at_one (inl none) = absurd (nothing_in_none e none)
    at_one (inr same) = inl same

    split : Contains (x ∷ []) e ⊎ Contains xs e → (Contains xs e → IsMember e xs) → IsMember e (x ∷ xs)
    split (inl one) rest = at_one (Contains-push_cases [] x e one)
    split (inr more) rest = inr (rest more)

-- the serial of a member finds it
pub found_by_serial : (held : List Stored) → SerialsAreDistinct (serials held) → (e : Stored) → Contains held e → find_entry_of_serial e.serial held ≡ Some e
found_by_serial held distinct e c =
    let in_held = member_contained held e c in
    let r = member_find (λ x. nat_eq x.serial e.serial) held e in_held (nat_eq_same e.serial) in
    let f = find_member (λ x. nat_eq x.serial e.serial) held r.0 r.1 in
    find_entry_of_serial-find e.serial held ∙ (r.1 ∙ ap Some (distinct_entries held distinct r.0 e f.0 in_held (nat_eq_true r.0.serial e.serial f.1)))

by_numbers : (e f : Stored) → is_more_recent e f ≡ false → (e.times.date ≤ f.times.date) × (e.times.date ≡ f.times.date → e.serial ≤ f.serial)
by_numbers e f h = (grind (arith, nat_tests), λ same. grind (arith, nat_tests))

module _ (held : List Stored) (asked : Asked) where
  -- the responses that match are the candidates
  candidate : (e : Stored) → IsMember e (entries_that_match held asked) → ResponseMatchesRequest held asked e
  candidate e m =
      let by_values = filter_member (λ e. vary_matches e.nominated asked.fields) (entries_of_key held asked) e m in
      let by_key = filter_member (λ e. same_key e.key asked.target.key) held e by_values.0 in
      record { is_held = contains_member held e by_key.0; has_the_same_key = by_key.1; matches_nominated_values = by_values.1 }

  matches : (e : Stored) → ResponseMatchesRequest held asked e → IsMember e (entries_that_match held asked)
  matches e c =
      member_filter (λ e. vary_matches e.nominated asked.fields) (entries_of_key held asked) e c.matches_nominated_values
      (member_filter (λ e. same_key e.key asked.target.key) held e c.has_the_same_key (member_contained held e c.is_held))

  taken_member : (e : Stored) (es : List Stored) → (None ≡ Some e) ⊎ IsMember e es → IsMember e es
  taken_member e es (inl h) = absurd (never e h)
    where
      never : (f : Stored) → ◌≡◌ {A = Option Stored} None (Some f) → ⊥
      never f k = cc
  taken_member e es (inr m) = m

  pub chosen_is_preferred : (e : Stored) → chosen_of held asked ≡ Some e → ResponseIsChosen held asked e
  chosen_is_preferred e h =
      let r = fold_preferred (entries_that_match held asked) None e h in
      record { is_candidate = candidate e (taken_member e (entries_that_match held asked) r.taken); no_other_is_preferred = λ other c. r.above other (matches other c) }

  pub chosen_nominates : (e f : Stored) → chosen_of held asked ≡ Some e → ResponseMatchesRequest held asked f → nominates f ≡ true → nominates e ≡ true
  chosen_nominates e f h c k = above_keeps (nominates f) (nominates e) (is_more_recent f e) ((chosen_is_preferred e h).no_other_is_preferred f c) k

  pub chosen_by_date : (e f : Stored) → chosen_of held asked ≡ Some e → ResponseMatchesRequest held asked f → nominates f ≡ nominates e →
      (f.times.date ≤ e.times.date) × (f.times.date ≡ e.times.date → f.serial ≤ e.serial)
  chosen_by_date e f h c same =
      by_numbers f e (above_alike (nominates f) (nominates e) (is_more_recent f e) same ((chosen_is_preferred e h).no_other_is_preferred f c))

  pub chosen_is_held : (e : Stored) → chosen_of held asked ≡ Some e → Contains held e
  chosen_is_held e h = let is = chosen_is_preferred e h in is.is_candidate.is_held

  none_of : (es : List Stored) (e : Stored) → most_preferred_response es ≡ None → IsMember e es → ⊥
  none_of [] e h m = m
  none_of (x ∷ xs) e h m = let some = fold_some xs x in never some.0 (sym h ∙ some.1)
    where
      never : (f : Stored) → ◌≡◌ {A = Option Stored} None (Some f) → ⊥
      never f k = cc

  pub none_is_candidate : (e : Stored) → chosen_of held asked ≡ None → ResponseMatchesRequest held asked e → ⊥
  none_is_candidate e h c = none_of (entries_that_match held asked) e h (matches e c)

  pub preferred_is_the_chosen : (e : Stored) → SerialsAreDistinct (serials held) → ResponseIsChosen held asked e → chosen_of held asked ≡ Some e
  preferred_is_the_chosen e distinct is = at (chosen_of held asked) refl
    where
      at : (o : Option Stored) → chosen_of held asked ≡ o → chosen_of held asked ≡ Some e
      at None h = absurd (none_is_candidate e h is.is_candidate)
      at (Some f) h =
          let other = chosen_is_preferred f h in
          let same : f ≡ e = distinct_entries held distinct f e (member_contained held f other.is_candidate.is_held) (member_contained held e is.is_candidate.is_held)
          (same_serial f e (is.no_other_is_preferred f other.is_candidate) (other.no_other_is_preferred e is.is_candidate)) in
          h ∙ ap Some same

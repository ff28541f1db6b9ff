-- What is shorter than each directive's name spells none.
use Rattle.std.proofs.Common.{◌≡◌, ℕ, ◌-◌, ◌<◌, ◌≤◌, true, false, cond, List, [], ◌∷◌, length, take, drop, Option, None, Some, refl, sym, ap, ◌∙◌, arith, inl, inr}
use Rattle.std.specs.Prelude.{filter, find, position, unwrap_or, option_map}
use Rattle.std.specs.List.{cons_option, filter_map, prefix_len, suffix_len}
use Rattle.std.proofs.lemmas.Bool.{cases_Bool}
use Rattle.std.proofs.lemmas.List.{length-drop, length-take}
use Rattle.hx_fields.specs.LongMembers.{is_at_least_bytes_long, members_of_at_least_length}
use Rattle.hx_fields.specs.Names.{is_blank, is_same_name, members_of_value}
use Rattle.hx_fields.specs.Tokens.{is_token}
use Rattle.hx_fields.proofs.LongNames.{is_shorter, shorter_differs}
use Rattle.hx_directives.specs.Arguments.{seconds_of_argument}
use Rattle.hx_directives.specs.declared.names.Directive.{Directive}
use Rattle.hx_directives.specs.declared.names.Directive.TheVariants.{MaxAge, SMaxage, MaxStale, MinFresh, StaleIfError}
use Rattle.hx_directives.specs.declared.names.Directive.TheVariants.{StaleWhileRevalidate}
use Rattle.hx_directives.specs.declared.names.Directive.TheVariants.{NoCache, NoStore, OnlyIfCached, MustRevalidate}
use Rattle.hx_directives.specs.declared.names.Directive.TheVariants.{ProxyRevalidate, MustUnderstand, Private, Public}
use Rattle.hx_directives.specs.declared.occurrences.Occurrence.{Occurrence}
use Rattle.hx_directives.specs.Occurrences.{all_directives, directive_name, directive_of, is_equals_sign, member_argument, member_name, occurrence_of_member}

six_at_least : (d : Directive) → 6 ≤ length (directive_name d)
six_at_least MaxAge = omega arith
six_at_least SMaxage = omega arith
six_at_least MaxStale = omega arith
six_at_least MinFresh = omega arith
six_at_least StaleIfError = omega arith
six_at_least StaleWhileRevalidate = omega arith
six_at_least NoCache = omega arith
six_at_least NoStore = omega arith
six_at_least OnlyIfCached = omega arith
six_at_least MustRevalidate = omega arith
six_at_least ProxyRevalidate = omega arith
six_at_least MustUnderstand = omega arith
six_at_least Private = omega arith
six_at_least Public = omega arith

none_of_these : (name : List ℕ) → length name < 6 → (ds : List Directive) → find (λ d. is_same_name name (directive_name d)) ds ≡ None
none_of_these name h [] = refl
none_of_these name h (d ∷ ds) =
    ap (λ b. cond b (Some d) (find (λ e. is_same_name name (directive_name e)) ds)) (shorter_differs name (directive_name d) (shorter d))
    ∙ none_of_these name h ds
  where
    shorter : (d : Directive) → length name < length (directive_name d)
    shorter d = omega (arith, six_at_least d)

part_is_shorter : (n k : ℕ) (text : List ℕ) → length (take n (drop k text)) ≤ length text
part_is_shorter n k text = omega (arith, length-take n (drop k text), length-drop k text)

name_is_shorter : (member : List ℕ) → length (member_name member) ≤ length member
name_is_shorter member =
    let n = unwrap_or (position is_equals_sign member) (length member) in
    let front : List ℕ = take n member in
    let k = prefix_len is_blank front in
    omega (arith, part_is_shorter (length (drop k front) - suffix_len is_blank (drop k front)) k front, length-take n member)

spells_none : (member : List ℕ) → length member < 6 → occurrence_of_member member ≡ None
spells_none member h =
    let name = member_name member in
    let with : Option Directive → Option Occurrence = option_map (λ d. record { directive = d; argument = seconds_of_argument (member_argument member) }) in
    let no_directive : directive_of name ≡ None = none_of_these name (shorter_name h) all_directives in
    ap (λ o. with (cond (is_token name) o None)) no_directive ∙ (elim (is_token name) as (λ b. with (cond b None None) ≡ None) [ true ↦ refl | false ↦ refl ])
  where
    shorter_name : length member < 6 → length (member_name member) < 6
    shorter_name k = omega (arith, name_is_shorter member)

over_members : (members : List (List ℕ)) → filter_map occurrence_of_member (filter (is_at_least_bytes_long 6) members) ≡ filter_map occurrence_of_member members
over_members [] = refl
over_members (member ∷ members) =
    let more = over_members members in
    elim (cases_Bool (is_at_least_bytes_long 6 member)) [
      | inl t ↦ ap (λ b. filter_map occurrence_of_member (cond b (member ∷ filter (is_at_least_bytes_long 6) members) (filter (is_at_least_bytes_long 6) members))) t
          ∙ ap (λ os. cons_option (occurrence_of_member member) os) more
      | inr f ↦ ap (λ b. filter_map occurrence_of_member (cond b (member ∷ filter (is_at_least_bytes_long 6) members) (filter (is_at_least_bytes_long 6) members))) f
          ∙ more ∙ sym (ap (λ o. cons_option o (filter_map occurrence_of_member members)) (spells_none member (is_shorter 6 member f)))
    ]

pub short_members_spell_none : (value : List ℕ) → filter_map occurrence_of_member (members_of_at_least_length 6 value) ≡ filter_map occurrence_of_member (members_of_value value)
short_members_spell_none value = over_members (members_of_value value)

-- What the table says of requests that loop, and of all others.
use Rattle.std.proofs.Common.{◌≡◌, ℕ, ◌+◌, ◌-◌, ◌≤◌, ◌<◌, Bool, true, false, cond, List, [], ◌∷◌, ◌++◌, length, get_or, Option, Some, None, inl, inr, refl, sym, ◌∙◌, ap, subst, arith, codes}
use Rattle.std.specs.Prelude.{Ok, ◌&&◌, ◌==◌, nat_le, map, sum, filter, is_some, unwrap_or, option_map, slice_get}
use Rattle.std.specs.List.{All}
use Rattle.std.proofs.lemmas.Bool.{le-leb, lt-leb, leb-true}
use Rattle.std.proofs.lemmas.Option.{slice_get_cases}
use Rattle.std.proofs.lemmas.List.{map-append}
use Rattle.std.proofs.lemmas.List.Elements.{filter-append}
use Rattle.std.proofs.lemmas.List.Sums.{sum_by-append}
use Rattle.toml.specs.Data.{Members}
use Rattle.hx_fields.specs.Line.{Field}
use Rattle.hx_fields.specs.FieldLines.{is_named, values_of}
use Rattle.hx_target.specs.declared.targets.Target.{Target}
use Rattle.hx_allow.specs.TableLines.{Line, Table}
use Rattle.hx_allow.specs.Matching.{matches_line, route_over_line, verdict_of_line, verdict_from, verdict_of, line_of_number, line_refuses_loops, verdict_after_loop_check, session_cookies_of, verdict_routed_by_session_cookies, verdict_after_purge, verdict_of_request}
use Rattle.hx_allow.specs.Rows.{has_keys_of}
use Rattle.hx_allow.specs.Tables.{table_version_of, config_or_fault_of_table}
use Rattle.hx_allow.specs.Versions.{LineIsAsInVersionThree}
use Rattle.hx_allow.specs.Via.{times_in_via, times_in_via_line, via_names_proxy_twice}
use Rattle.hx_allow.specs.declared.verdicts.Verdict.{Verdict}
use Rattle.hx_allow.specs.declared.verdicts.Verdict.TheVariants.{Allowed, DeniedBy, NoLine, Looped, Purged}
use Rattle.hx_allow.specs.declared.values.TableVersion.TheVariants.{Four}
use Rattle.hx_allow.specs.declared.verdicts.RouteOverLine.{RouteOverLine}
use Rattle.hx_allow.proofs.CookieLines.{none_past}
use Rattle.hx_allow.proofs.Purging.{looped_within, none_purged, none_keyed}
use Rattle.hx_allow.proofs.Versions.{each_is_of_three}

and_none : (b : Bool) → (b && false) ≡ false
and_none true = refl
and_none false = refl

-- a verdict on method and target alone tells no loop
never_looped : (n k : ℕ) (lines : List Line) (method : List ℕ) (target : Target) → verdict_from k lines method target ≡ Looped n → ⊥
never_looped n k [] method target e = cc
never_looped n k (line ∷ lines) method target e = by_tests (matches_line line method target) (is_some line.origin) (never_looped n (k + 1) lines method target) e
  where
    by_tests : (matches allows : Bool) → (verdict_from (k + 1) lines method target ≡ Looped n → ⊥) → cond matches (cond allows (Allowed (route_over_line k)) (DeniedBy k)) (verdict_from (k + 1) lines method target) ≡ Looped n → ⊥
    by_tests true true later e = cc
    by_tests true false later e = cc
    by_tests false allows later e = later e

module _ (table : Table) (method : List ℕ) (target : Target) (fields : List Field) where
  abbrev told : Verdict
  told = verdict_of table.lines method target

  abbrev loops : Bool
  loops = via_names_proxy_twice table.name fields

  pub loop_is_refused : (route : RouteOverLine) → told ≡ Allowed route → line_refuses_loops table.lines route.number ≡ true → 2 ≤ times_in_via table.name fields → verdict_of_request table method target fields ≡ Looped route.number
  unfolding verdict_of_request
  loop_is_refused route is refuses twice =
      let looped : loops ≡ true = le-leb 2 (times_in_via table.name fields) twice in
      ap (λ v. verdict_after_purge table.lines fields (verdict_routed_by_session_cookies table.lines fields (verdict_after_loop_check table.lines loops v))) is ∙ rw refuses (rw looped refl)

  pub looped_is_a_loop : (n : ℕ) → verdict_of_request table method target fields ≡ Looped n
      → (route : RouteOverLine) × (told ≡ Allowed route) × (route.number ≡ n) × (line_refuses_loops table.lines n ≡ true) × (2 ≤ times_in_via table.name fields)
  unfolding verdict_of_request verdict_of
  looped_is_a_loop n e = by_verdict told refl (looped_within table.lines fields (verdict_routed_by_session_cookies table.lines fields (verdict_after_loop_check table.lines loops told)) n e)
    where
      Parts : Type 0
      Parts = (route : RouteOverLine) × (told ≡ Allowed route) × (route.number ≡ n) × (line_refuses_loops table.lines n ≡ true) × (2 ≤ times_in_via table.name fields)

      by_tests : (k : RouteOverLine) → told ≡ Allowed k → (refuses : Bool) → line_refuses_loops table.lines k.number ≡ refuses → (l : Bool) → loops ≡ l → verdict_routed_by_session_cookies table.lines fields (cond (refuses && l) (Looped k.number) (Allowed k)) ≡ Looped n → Parts
      by_tests k is true r true l e = let same : k.number ≡ n = cc in (k, is, same, subst (λ j. line_refuses_loops table.lines j ≡ true) same r, leb-true 2 (times_in_via table.name fields) l)
      by_tests k is true r false l e = cc
      by_tests k is false r l also e = cc

      by_verdict : (v : Verdict) → told ≡ v → verdict_routed_by_session_cookies table.lines fields (verdict_after_loop_check table.lines loops v) ≡ Looped n → Parts
      by_verdict (Allowed k) is e = by_tests k is (line_refuses_loops table.lines k.number) refl loops refl e
      by_verdict (DeniedBy k) is e = cc
      by_verdict NoLine is e = cc
      by_verdict (Looped k) is e = absurd (never_looped k 1 table.lines method target is)
      by_verdict (Purged k) is e = cc

  others : (v : Verdict) → ((route : RouteOverLine) → v ≡ Allowed route → (line_refuses_loops table.lines route.number && loops) ≡ false) → verdict_after_loop_check table.lines loops v ≡ v
  others (Allowed route) goes = rw (goes route refl) refl
  others (DeniedBy n) goes = refl
  others NoLine goes = refl
  others (Looped n) goes = refl
  others (Purged n) goes = refl

  pub seldom_as_before : times_in_via table.name fields ≤ 1 → verdict_of_request table method target fields ≡ verdict_after_purge table.lines fields (verdict_routed_by_session_cookies table.lines fields told)
  unfolding verdict_of_request
  seldom_as_before seldom =
      let once : loops ≡ false = lt-leb 2 (times_in_via table.name fields) (omega arith) in
      ap (λ v. verdict_after_purge table.lines fields (verdict_routed_by_session_cookies table.lines fields v)) (others told (λ route is. rw once (and_none (line_refuses_loops table.lines route.number))))

  pub forwarded_as_before : ((route : RouteOverLine) → told ≡ Allowed route → line_refuses_loops table.lines route.number ≡ false) → verdict_of_request table method target fields ≡ verdict_after_purge table.lines fields (verdict_routed_by_session_cookies table.lines fields told)
  unfolding verdict_of_request
  forwarded_as_before goes = ap (λ v. verdict_after_purge table.lines fields (verdict_routed_by_session_cookies table.lines fields v)) (others told (λ route is. rw (goes route is) refl))

-- where each line lets loops go on, the one of any number does
none_refuses : (lines : List Line) → All (λ (line : Line). line.refuses_loops ≡ false) lines → (n : ℕ) → line_refuses_loops lines n ≡ false
none_refuses lines all n = by_number (n == 0)
  where
    refusing : Option Line → Bool
    refusing o = unwrap_or (option_map (λ (line : Line). line.refuses_loops) o) false

    by_place : refusing (slice_get lines (n - 1)) ≡ false
    by_place = elim (slice_get_cases lines (n - 1)).1 [
      | inl (line, within, is, also) ↦ ap refusing is ∙ subst (λ (one : Line). one.refuses_loops ≡ false) also (all (n - 1) line within)
      | inr (past, is) ↦ ap refusing is
    ]

    by_number : (none : Bool) → refusing (cond none None (slice_get lines (n - 1))) ≡ false
    by_number true = refl
    by_number false = by_place

-- and where no line names a cookie, that of any number doesn't
none_named : (lines : List Line) → All (λ (line : Line). line.session_cookies ≡ []) lines → (n : ℕ) → session_cookies_of lines n ≡ []
none_named lines all n = by_number (n == 0)
  where
    naming : Option Line → List (List ℕ)
    naming o = unwrap_or (option_map (λ (line : Line). line.session_cookies) o) []

    by_place : naming (slice_get lines (n - 1)) ≡ []
    by_place = elim (slice_get_cases lines (n - 1)).1 [
      | inl (line, within, is, also) ↦ ap naming is ∙ subst (λ (one : Line). one.session_cookies ≡ []) also (all (n - 1) line within)
      | inr (past, is) ↦ ap naming is
    ]

    by_number : (none : Bool) → naming (cond none None (slice_get lines (n - 1))) ≡ []
    by_number true = refl
    by_number false = by_place

pub earlier_as_before : (t : Members) (table : Table) (method : List ℕ) (target : Target) (fields : List Field) → has_keys_of (table_version_of t) Four ≡ false → config_or_fault_of_table t ≡ Ok table →
    verdict_of_request table method target fields ≡ verdict_of table.lines method target
earlier_as_before t table method target fields before e =
    let each : All LineIsAsInVersionThree table.lines = each_is_of_three t table before e in
    forwarded_as_before table method target fields (λ route is. none_refuses table.lines (λ i d within. (each i d within).10) route.number)
    ∙ ap (verdict_after_purge table.lines fields) (none_past table.lines method target fields (λ n. none_named table.lines (λ i d within. (each i d within).11) n))
    ∙ none_purged table.lines fields (verdict_of table.lines method target) (λ n. none_keyed table.lines (λ i d within. (each i d within).14) n)

-- lines of Via count together
pub times_together : (name : List ℕ) (fields more : List Field) → times_in_via name (fields ++ more) ≡ times_in_via name fields + times_in_via name more
times_together name fields more =
    ap (λ (fs : List Field). sum (map (times_in_via_line name) (map (λ (f : Field). f.value) fs))) (filter-append (is_named (codes "Via")) fields more)
    ∙ ap (λ vs. sum (map (times_in_via_line name) vs)) (map-append (λ (f : Field). f.value) (filter (is_named (codes "Via")) fields) (filter (is_named (codes "Via")) more))
    ∙ ap sum (map-append (times_in_via_line name) (values_of fields (codes "Via")) (values_of more (codes "Via")))
    ∙ sum_by-append (λ n. n) (map (times_in_via_line name) (values_of fields (codes "Via"))) (map (times_in_via_line name) (values_of more (codes "Via")))

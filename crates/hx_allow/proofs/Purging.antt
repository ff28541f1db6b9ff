-- What the table says of requests that purge, and of all others.
use Rattle.std.proofs.Common.{◌≡◌, ℕ, ◌+◌, ◌-◌, Bool, true, false, cond, List, [], ◌∷◌, Option, Some, None, inl, inr, refl, sym, ◌∙◌, ap, subst, codes}
use Rattle.std.specs.Prelude.{Ok, ◌==◌, ◌&&◌, not, slice_get, is_some, is_none, bytes_eq, IfSome}
use Rattle.std.specs.Option.{option_and_then}
use Rattle.std.specs.List.{All}
use Rattle.std.proofs.lemmas.Option.{slice_get_cases}
use Rattle.std.proofs.lemmas.Slice.Eq.{bytes_eq-Decides}
use Rattle.toml.specs.Data.{Data, Members, get_member, as_str}
use Rattle.hx_fields.specs.Line.{Field}
use Rattle.hx_target.specs.Hosts.{number_of_few_digits}
use Rattle.hx_target.specs.declared.targets.Target.{Target}
use Rattle.hx_allow.specs.Addresses.{address_of, text_if_address}
use Rattle.hx_allow.specs.LineTables.{value_is_good_for_key_row, line_fault, line_of_members}
use Rattle.hx_allow.specs.LineWords.{text_of_key_equals}
use Rattle.hx_allow.specs.TableLines.{Line, Table}
use Rattle.hx_allow.specs.Tables.{table_version_of, config_or_fault_of_table}
use Rattle.hx_allow.specs.Matching.{matches_line, route_over_line, verdict_from, verdict_of, verdict_after_loop_check, verdict_routed_by_session_cookies, purge_key_of, line_purges_for_request, verdict_after_purge, verdict_of_request, line_refuses_loops}
use Rattle.hx_allow.specs.Purges.{is_purge_key, request_shows_purge_key, has_invalid_purge_field, asks_to_purge_with_key}
use Rattle.hx_allow.specs.Rows.{word_row, has_keys_of}
use Rattle.hx_allow.specs.Values.{is_some_and, text_of_key}
use Rattle.hx_allow.specs.Versions.{OnlyPurgingLineHasPurgeKey}
use Rattle.hx_allow.specs.Via.{via_names_proxy_twice}
use Rattle.hx_allow.specs.declared.config_faults.LineOption.TheVariants.{PurgeKey}
use Rattle.hx_allow.specs.declared.rows.LineKey.TheVariants.{Word}
use Rattle.hx_allow.specs.declared.rows.KeyPlace.TheVariants.{PurgingLine}
use Rattle.hx_allow.specs.declared.values.TableVersion.{TableVersion}
use Rattle.hx_allow.specs.declared.values.TableVersion.TheVariants.{Four}
use Rattle.hx_allow.specs.declared.verdicts.RouteOverLine.{RouteOverLine}
use Rattle.hx_allow.specs.declared.verdicts.Verdict.{Verdict}
use Rattle.hx_allow.specs.declared.verdicts.Verdict.TheVariants.{Allowed, DeniedBy, NoLine, Looped, Purged}
use Rattle.hx_allow.proofs.KeysListed.{each_good}
use Rattle.hx_allow.proofs.LinesRead.{each_line_read}
use Rattle.hx_allow.proofs.NamesRead.{keys_are_good}

module _ (lines : List Line) (fields : List Field) where
  pub allowed_within : (v : Verdict) (route : RouteOverLine) → verdict_after_purge lines fields v ≡ Allowed route → v ≡ Allowed route
  allowed_within (Allowed other) route e = e
  allowed_within (DeniedBy n) route e = by_test (line_purges_for_request lines n fields) e
    where
      by_test : (b : Bool) → cond b (Purged n) (DeniedBy n) ≡ Allowed route → DeniedBy n ≡ Allowed route
      by_test true e = cc
      by_test false e = cc
  allowed_within NoLine route e = cc
  allowed_within (Looped n) route e = cc
  allowed_within (Purged n) route e = cc

  pub looped_within : (v : Verdict) (line : ℕ) → verdict_after_purge lines fields v ≡ Looped line → v ≡ Looped line
  looped_within (Allowed other) line e = cc
  looped_within (DeniedBy n) line e = by_test (line_purges_for_request lines n fields) e
    where
      by_test : (b : Bool) → cond b (Purged n) (DeniedBy n) ≡ Looped line → DeniedBy n ≡ Looped line
      by_test true e = cc
      by_test false e = cc
  looped_within NoLine line e = cc
  looped_within (Looped n) line e = e
  looped_within (Purged n) line e = cc

  pub none_purged : (v : Verdict) → ((n : ℕ) → purge_key_of lines n ≡ None) → verdict_after_purge lines fields v ≡ v
  none_purged (Allowed route) none = refl
  none_purged (DeniedBy n) none = rw (none n) refl
  none_purged NoLine none = refl
  none_purged (Looped n) none = refl
  none_purged (Purged n) none = refl

-- where no line purges, that of any number doesn't
pub none_keyed : (lines : List Line) → All (λ (line : Line). line.purge_key ≡ None) lines → (n : ℕ) → purge_key_of lines n ≡ None
none_keyed lines all n = by_number (n == 0)
  where
    keyed : Option Line → Option (List ℕ)
    keyed o = option_and_then (λ (line : Line). line.purge_key) o

    by_place : keyed (slice_get lines (n - 1)) ≡ None
    by_place = elim (slice_get_cases lines (n - 1)).1 [
      | inl (line, within, is, also) ↦ ap keyed is ∙ subst (λ (one : Line). one.purge_key ≡ None) also (all (n - 1) line within)
      | inr (past, is) ↦ ap keyed is
    ]

    by_number : (none : Bool) → keyed (cond none None (slice_get lines (n - 1))) ≡ None
    by_number true = refl
    by_number false = by_place

-- a verdict on method and target alone purges nothing, and one on loops and cookies neither
never_purged : (n k : ℕ) (lines : List Line) (method : List ℕ) (target : Target) → verdict_from k lines method target ≡ Purged n → ⊥
never_purged n k [] method target e = cc
never_purged n k (line ∷ lines) method target e = by_tests (matches_line line method target) (is_some line.origin) (never_purged n (k + 1) lines method target) e
  where
    by_tests : (matches allows : Bool) → (verdict_from (k + 1) lines method target ≡ Purged n → ⊥) → cond matches (cond allows (Allowed (route_over_line k)) (DeniedBy k)) (verdict_from (k + 1) lines method target) ≡ Purged n → ⊥
    by_tests true true later e = cc
    by_tests true false later e = cc
    by_tests false allows later e = later e

module _ (table : Table) (method : List ℕ) (target : Target) (fields : List Field) where
  abbrev told : Verdict
  told = verdict_of table.lines method target

  abbrev inner : Verdict → Verdict
  inner v = verdict_routed_by_session_cookies table.lines fields (verdict_after_loop_check table.lines (via_names_proxy_twice table.name fields) v)

  denied_stays : (line : ℕ) → told ≡ DeniedBy line → inner told ≡ DeniedBy line
  denied_stays line is = ap inner is

  pub purged_where_shown : (line : ℕ) (key : List ℕ) → told ≡ DeniedBy line → purge_key_of table.lines line ≡ Some key → request_shows_purge_key key fields ≡ true → has_invalid_purge_field fields ≡ false → verdict_of_request table method target fields ≡ Purged line
  unfolding verdict_of_request
  purged_where_shown line key is held shown more = ap (verdict_after_purge table.lines fields) (denied_stays line is) ∙ rw held (rw shown (rw more refl))

  pub denied_unless_shown : (line : ℕ) (key : List ℕ) → told ≡ DeniedBy line → purge_key_of table.lines line ≡ Some key → (request_shows_purge_key key fields && not (has_invalid_purge_field fields)) ≡ false → verdict_of_request table method target fields ≡ DeniedBy line
  unfolding verdict_of_request
  denied_unless_shown line key is held hidden = ap (verdict_after_purge table.lines fields) (denied_stays line is) ∙ rw held (rw hidden refl)

  -- what is known of a request that purges
  record Purges (line : ℕ) : Type 0 where
    pub told_is : told ≡ DeniedBy line
    pub key : List ℕ
    pub held : purge_key_of table.lines line ≡ Some key
    pub shown : request_shows_purge_key key fields ≡ true
    pub no_more : has_invalid_purge_field fields ≡ false

  purges_within : (line : ℕ) → verdict_of_request table method target fields ≡ Purged line → Purges line
  unfolding verdict_of_request verdict_of
  purges_within line e = by_verdict told refl e
    where
      by_key : (n : ℕ) → told ≡ DeniedBy n → (o : Option (List ℕ)) → purge_key_of table.lines n ≡ o → cond (is_some_and (λ key. asks_to_purge_with_key key fields) o) (Purged n) (DeniedBy n) ≡ Purged line → Purges line
      by_key n is None held e = cc
      by_key n is (Some key) held e = by_tests (request_shows_purge_key key fields) refl (has_invalid_purge_field fields) refl e
        where
          by_tests : (shown : Bool) → request_shows_purge_key key fields ≡ shown → (more : Bool) → has_invalid_purge_field fields ≡ more → cond (shown && not more) (Purged n) (DeniedBy n) ≡ Purged line → Purges line
          by_tests true s true m e = cc
          by_tests true s false m e =
              let same : n ≡ line = cc in
              record { told_is = is ∙ ap DeniedBy same; key = key; held = subst (λ k. purge_key_of table.lines k ≡ Some key) same held; shown = s; no_more = m }
          by_tests false s more m e = cc

      by_verdict : (v : Verdict) → told ≡ v → verdict_after_purge table.lines fields (inner v) ≡ Purged line → Purges line
      by_verdict (Allowed k) is e = by_test (line_refuses_loops table.lines k.number && via_names_proxy_twice table.name fields) e
        where
          by_test : (b : Bool) → verdict_after_purge table.lines fields (verdict_routed_by_session_cookies table.lines fields (cond b (Looped k.number) (Allowed k))) ≡ Purged line → Purges line
          by_test true e = cc
          by_test false e = cc
      by_verdict (DeniedBy n) is e = by_key n is (purge_key_of table.lines n) refl e
      by_verdict NoLine is e = cc
      by_verdict (Looped n) is e = cc
      by_verdict (Purged n) is e = absurd (never_purged n 1 table.lines method target is)

  pub purged_is_shown : (line : ℕ) → verdict_of_request table method target fields ≡ Purged line
      → (told ≡ DeniedBy line) × ((key : List ℕ) × (purge_key_of table.lines line ≡ Some key) × (request_shows_purge_key key fields ≡ true) × (has_invalid_purge_field fields ≡ false))
  purged_is_shown line e = let p = purges_within line e in (p.told_is, (p.key, p.held, p.shown, p.no_more))

-- ---- what lines say

-- a line that is read and has a key purges, so it has no origin
key_is_good : (ms : Members) (version : TableVersion) → value_is_good_for_key_row version PurgingLine (word_row PurgeKey) ms ≡ true → (o : Option (List ℕ)) → text_of_key (codes "key") ms ≡ o
    → IfSome o (λ key. (is_purge_key key ≡ true) × (text_of_key_equals (codes "origin") (codes "purge") ms ≡ true))
key_is_good ms version good None is = tt
key_is_good ms version good (Some key) is = by_test (has_keys_of version Four) (text_of_key_equals (codes "origin") (codes "purge") ms) refl good
  where
    no_value : (m : Option Data) → is_none m ≡ true → option_and_then as_str m ≡ Some key → ⊥
    no_value None e t = cc
    no_value (Some d) e t = cc

    good_key : is_some_and is_purge_key (text_of_key (codes "key") ms) ≡ true → is_purge_key key ≡ true
    good_key e = sym (ap (is_some_and is_purge_key) is) ∙ e

    by_test : (four purge : Bool) → text_of_key_equals (codes "origin") (codes "purge") ms ≡ purge → cond (four && purge) (is_some_and is_purge_key (text_of_key (codes "key") ms)) (is_none (get_member (codes "key") ms)) ≡ true
        → (is_purge_key key ≡ true) × (purge ≡ true)
    by_test true true p e = (good_key e, refl)
    by_test true false p e = absurd (no_value (get_member (codes "key") ms) e is)
    by_test false purge p e = absurd (no_value (get_member (codes "key") ms) e is)

purge_has_no_address : text_if_address (codes "purge") ≡ None
unfolding address_of number_of_few_digits
purge_has_no_address = refl

purge_is_no_address : (o : Option (List ℕ)) → is_some_and (λ text. bytes_eq text (codes "purge")) o ≡ true → option_and_then text_if_address o ≡ None
purge_is_no_address None e = refl
purge_is_no_address (Some text) e = subst (λ t. text_if_address t ≡ None) (sym ((bytes_eq-Decides text (codes "purge")).0 e)) purge_has_no_address

keyed_lines : (version : TableVersion) (n : ℕ) (ms : Members) → line_fault version n ms ≡ None → OnlyPurgingLineHasPurgeKey (line_of_members version ms)
unfolding line_of_members
keyed_lines version n ms none =
    let good : value_is_good_for_key_row version PurgingLine (word_row PurgeKey) ms ≡ true = each_good version ms (keys_are_good version n ms none) (Word PurgeKey) in
    by_key (text_of_key (codes "key") ms) (key_is_good ms version good (text_of_key (codes "key") ms) refl)
  where
    by_key : (o : Option (List ℕ)) → IfSome o (λ key. (is_purge_key key ≡ true) × (text_of_key_equals (codes "origin") (codes "purge") ms ≡ true))
        → IfSome o (λ key. (is_purge_key key ≡ true) × (option_and_then text_if_address (text_of_key (codes "origin") ms) ≡ None))
    by_key None h = tt
    by_key (Some key) h = (h.0, purge_is_no_address (text_of_key (codes "origin") ms) h.1)

pub each_purges_by_its_key : (t : Members) (table : Table) → config_or_fault_of_table t ≡ Ok table → All OnlyPurgingLineHasPurgeKey table.lines
each_purges_by_its_key t table e = each_line_read OnlyPurgingLineHasPurgeKey t table (keyed_lines (table_version_of t)) (sym e)

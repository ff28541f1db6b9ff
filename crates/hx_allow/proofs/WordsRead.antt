-- A line without fault that has a word allows and has its cache on.
use Rattle.std.proofs.Common.{◌≡◌, inl, inr, ℕ, Bool, true, false, List, codes, Option, Some, None, refl, ap, sym, ◌∙◌}
use Rattle.std.specs.Prelude.{Ok, not, ◌&&◌, ◌||◌, is_none, is_some, bytes_eq, option_map}
use Rattle.std.specs.Option.{option_and_then}
use Rattle.std.specs.List.{All}
use Rattle.toml.specs.Data.{Data, Members, get_member}
use Rattle.hx_allow.specs.Addresses.{is_ipv4_and_port, text_if_address}
use Rattle.hx_allow.specs.TableLines.{Table}
use Rattle.hx_allow.specs.LineWords.{is_one_of_two, text_of_key_equals, line_has_no_origin, line_caches}
use Rattle.hx_allow.specs.Rows.{KeyDefinition, word_row, fault_of_line_key, has_keys_of}
use Rattle.hx_allow.specs.LineTables.{is_line_origin, value_is_of_kind, value_is_good_for_key_row, first_bad_key, first_fault_or_later, lowercase_or_star_fault, line_fault, line_of_members}
use Rattle.hx_allow.specs.Tables.{table_version_of, config_or_fault_of_table}
use Rattle.hx_allow.specs.Values.{first_unknown, text_of_key, is_some_and}
use Rattle.hx_allow.specs.Versions.{LineHasNoCachingKey, LineWithCachingKeysCaches}
use Rattle.hx_allow.specs.declared.config_faults.TableFault.TheVariants.{UnknownKey}
use Rattle.hx_allow.specs.declared.rows.LineKey.{LineKey}
use Rattle.hx_allow.specs.declared.rows.LineKey.TheVariants.{Origin, Word}
use Rattle.hx_allow.specs.declared.rows.KeyPlace.{KeyPlace}
use Rattle.hx_allow.specs.declared.rows.KeyPlace.TheVariants.{Needed, Optional, AllowingLine, CachingLine, PurgingLine}
use Rattle.hx_allow.specs.declared.values.Scope.TheVariants.{Line}
use Rattle.hx_allow.specs.declared.values.TableVersion.{TableVersion}
use Rattle.hx_allow.specs.declared.values.TableVersion.TheVariants.{Four}
use Rattle.hx_allow.proofs.KeysListed.{each_good, plain_policy}
use Rattle.hx_allow.proofs.LinesRead.{none_mapped, or_later_none, each_line_read}

abbrev is_of_caching : KeyPlace → Bool
is_of_caching CachingLine = true
is_of_caching _ = false

-- a line that takes no words on caching has none
absent : (version : TableVersion) (place : KeyPlace) (row : KeyDefinition) (ms : Members) → is_of_caching place ≡ true → line_caches ms ≡ false → value_is_good_for_key_row version place row ms ≡ true → get_member row.key ms ≡ None
absent version Needed row ms caching untaken good = cc
absent version Optional row ms caching untaken good = cc
absent version AllowingLine row ms caching untaken good = cc
absent version PurgingLine row ms caching untaken good = cc
absent version CachingLine row ms caching untaken good = by_value (get_member row.key ms) (value_is_of_kind version row.kind row.key ms) (line_caches ms) untaken good
  where
    by_value : (o : Option Data) (value takes : Bool) → takes ≡ false → is_none o || (value && takes) ≡ true → o ≡ None
    by_value None value takes untaken good = refl
    by_value (Some d) true true untaken good = cc
    by_value (Some d) true false untaken good = cc
    by_value (Some d) false takes untaken good = cc

no_words : (version : TableVersion) (ms : Members) → line_caches ms ≡ false → first_bad_key version ms ≡ None → LineHasNoCachingKey ms
no_words version ms untaken none = λ word of_caching.
    absent version (word_row word).place (word_row word) ms (ap is_of_caching of_caching) untaken (each_good version ms none (Word word))

-- a line that takes words has an origin and its cache on
has_origin : (version : TableVersion) (text : Option (List ℕ)) → is_some_and (is_line_origin version) text ≡ true → is_some_and (is_one_of_two (codes "deny") (codes "purge")) text ≡ false → is_some (option_and_then text_if_address text) ≡ true
has_origin version None good other = cc
has_origin version (Some text) good other =
    let parts = neither (bytes_eq text (codes "deny")) (bytes_eq text (codes "purge")) other in
    let spelled : is_ipv4_and_port text ≡ true = by_parts (bytes_eq text (codes "deny")) (is_ipv4_and_port text) (has_keys_of version Four) (bytes_eq text (codes "purge")) parts.0 parts.1 good in
    rw spelled refl
  where
    neither : (a b : Bool) → (a || b) ≡ false → (a ≡ false) × (b ≡ false)
    neither true b e = cc
    neither false true e = cc
    neither false false e = (refl, refl)

    by_parts : (a spelled four b : Bool) → a ≡ false → b ≡ false → (a || spelled || (four && b)) ≡ true → spelled ≡ true
    by_parts false true four b x y e = refl
    by_parts false false true false x y e = cc
    by_parts false false false b x y e = cc
    by_parts false false true true x y e = cc
    by_parts true spelled four b x y e = cc

both_hold : (a b : Bool) → not a && not b ≡ true → (a ≡ false) × (b ≡ false)
both_hold true b e = cc
both_hold false true e = cc
both_hold false false e = (refl, refl)

and_none : {b : Bool} (a : Bool) → b ≡ false → (a && b) ≡ false
and_none true e = e
and_none false e = refl

takes_them : (version : TableVersion) (n : ℕ) (ms : Members) → line_fault version n ms ≡ None → LineWithCachingKeysCaches (line_of_members version ms)
unfolding line_fault line_of_members
takes_them version n ms none = by_keys (first_unknown (Line version) ms) refl
  where
    parts : (takes : Bool) → line_caches ms ≡ takes → first_bad_key version ms ≡ None → LineWithCachingKeysCaches (line_of_members version ms)
    parts true is good =
        let both = both_hold (line_has_no_origin ms) (text_of_key_equals (codes "cache") (codes "off") ms) is in
        let origin : is_some_and (is_line_origin version) (text_of_key (codes "origin") ms) ≡ true = each_good version ms good Origin in
        inr (has_origin version (text_of_key (codes "origin") ms) origin both.0, ap not both.1)
    parts false is good = inl (plain_policy version ms (no_words version ms is good) (and_none (has_keys_of version Four) is))

    by_keys : (o : Option (List ℕ)) → first_unknown (Line version) ms ≡ o → LineWithCachingKeysCaches (line_of_members version ms)
    by_keys (Some key) e = let bad : line_fault version n ms ≡ Some (UnknownKey key) = rw e refl in cc
    by_keys None e =
        let is : line_fault version n ms ≡ first_fault_or_later (option_map (fault_of_line_key n) (first_bad_key version ms)) (lowercase_or_star_fault version n ms) = rw e refl in
        parts (line_caches ms) refl (none_mapped (fault_of_line_key n) (first_bad_key version ms) (or_later_none (option_map (fault_of_line_key n) (first_bad_key version ms)) (lowercase_or_star_fault version n ms) (sym is ∙ none)).0)

pub each_takes_them : (t : Members) (table : Table) → config_or_fault_of_table t ≡ Ok table → All LineWithCachingKeysCaches table.lines
each_takes_them t table e = each_line_read LineWithCachingKeysCaches t table (takes_them (table_version_of t)) (sym e)

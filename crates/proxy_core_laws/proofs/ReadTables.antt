-- What is known of a table that was read: its name is a token, and its limits are below 2^24.
use Rattle.std.proofs.Common.{◌≡◌, inl, inr, ℕ, ◌<◌, ◌≤◌, ◌^◌, Bool, true, false, not, cond, ◌&&◌, ◌||◌, ◌==◌, List, [], ◌∷◌, length, codes, Option, None, Some, refl, subst, arith}
use Rattle.std.specs.Prelude.{Ok, nat_le, slice_index, unwrap_or, ℤ, pos, negsuc}
use Rattle.std.specs.Char.{is_ascii_lowercase, is_ascii_digit}
use Rattle.std.specs.List.{list_all}
use Rattle.std.specs.Option.{option_and_then}
use Rattle.std.proofs.lemmas.Bool.{and_parts, leb-true}
use Rattle.std.proofs.lemmas.Bool.Decides.{nat_tests}
use Rattle.std.proofs.lemmas.List.Elements.{All-weaker}
use Rattle.http_header.proofs.TokenLemmas.{AllPass-from_test}
use Rattle.httparse.specs.Grammar.{IsToken, is_token_byte}
use Rattle.toml.specs.Data.{Members, get_member, as_integer}
use Rattle.hx_allow.specs.Keys.{key_text}
use Rattle.hx_allow.specs.TableLines.{Table}
use Rattle.hx_allow.specs.Tables.{fault_or_table_read, is_name, is_name_byte, config_or_fault_of_table, number_of_key, table_fault, table_of_members, TableWasRead, table_version_of}
use Rattle.hx_allow.specs.Values.{first_unknown, is_some_and, text_of_key, within}
use Rattle.hx_allow.specs.declared.config_faults.TableFault.{TableFault}
use Rattle.hx_allow.specs.declared.config_faults.TableFault.TheVariants.{UnknownKey, BadName}
use Rattle.hx_allow.specs.declared.config_faults.NumberKey.TheVariants.{MaxStored}
use Rattle.hx_allow.specs.declared.values.Scope.TheVariants.{Top}
use Rattle.proxy_core_laws.specs.SentMessages.{TableNameIsAToken, StoredContentFits64Bits}

-- ---- a name

lower_token : (b : ℕ) → is_ascii_lowercase b || is_ascii_digit b || (b == 45) ≡ true → is_token_byte b ≡ true
unfolding is_token_byte
lower_token b h = grind (arith, nat_tests)

name_is_token : (text : List ℕ) → is_name text ≡ true → IsToken text
unfolding is_name
name_is_token [] h = absurd (by_test (nat_le 0 32) h)
  where
    by_test : (t : Bool) → t && false && true ≡ true → ⊥
    by_test true e = cc
    by_test false e = cc
name_is_token (b ∷ bytes) h =
    (omega arith, All-weaker (λ b. is_name_byte b ≡ true) (λ b. is_token_byte b ≡ true) lower_token (b ∷ bytes) (AllPass-from_test is_name_byte (b ∷ bytes) (last (nat_le (length (b ∷ bytes)) 32) (is_ascii_lowercase b) (list_all is_name_byte (b ∷ bytes)) h)))
  where
    last : (s t u : Bool) → s && t && u ≡ true → u ≡ true
    last true true u e = e
    last true false u e = cc
    last false t u e = cc

name_is_short : (text : List ℕ) → is_name text ≡ true → length text ≤ 32
unfolding is_name
name_is_short text h =
    let all = and_parts (nat_le (length text) 32 && is_ascii_lowercase (slice_index text 0)) (list_all is_name_byte text) h in
    leb-true (length text) 32 (and_parts (nat_le (length text) 32) (is_ascii_lowercase (slice_index text 0)) all.0).0

text_is_short : (o : Option (List ℕ)) → is_some_and is_name o ≡ true → length (unwrap_or o []) ≤ 32
text_is_short None h = absurd cc
text_is_short (Some text) h = name_is_short text h

text_is_token : (o : Option (List ℕ)) → is_some_and is_name o ≡ true → IsToken (unwrap_or o [])
text_is_token None h = absurd cc
text_is_token (Some text) h = name_is_token text h

-- ---- what stands in a table without a fault

name_is_present : (t : Members) → table_fault t ≡ None → is_some_and is_name (text_of_key (codes "name") t) ≡ true
unfolding table_fault
name_is_present t none = by_keys (first_unknown (Top (table_version_of t)) t) refl
  where
    so : (b : Bool) → not b ≡ false → b ≡ true
    so true e = refl
    so false e = cc

    by_keys : (o : Option (List ℕ)) → first_unknown (Top (table_version_of t)) t ≡ o → is_some_and is_name (text_of_key (codes "name") t) ≡ true
    by_keys (Some key) e = let bad : table_fault t ≡ Some (UnknownKey key) = rw e refl in absurd cc
    by_keys None e = so (is_some_and is_name (text_of_key (codes "name") t)) (by_name (is_some_and is_name (text_of_key (codes "name") t)) refl)
      where
        by_name : (b : Bool) → is_some_and is_name (text_of_key (codes "name") t) ≡ b → not b ≡ false
        by_name true n = refl
        by_name false n = let bad : table_fault t ≡ Some BadName = rw e (rw n refl) in absurd cc

within_high : (low high : ℕ) (o : Option ℤ) → unwrap_or (within low high o) 0 ≤ high
within_high low high None = omega arith
within_high low high (Some (negsuc n)) = omega arith
within_high low high (Some (pos n)) = by_test (nat_le low n) (nat_le n high) refl
  where
    by_test : (s t : Bool) → nat_le n high ≡ t → unwrap_or (cond (s && t) (Some n) None) 0 ≤ high
    by_test true true e = leb-true n high e
    by_test true false e = omega arith
    by_test false t e = omega arith

-- ---- a table that was read

module _ (t : Members) (table : Table) where
  by_fault : (o : Option TableFault) → table_fault t ≡ o → Ok table ≡ fault_or_table_read o t → (table_of_members t ≡ table) × (table_fault t ≡ None)
  by_fault (Some fault) is e = absurd cc
  by_fault None is e = (cc, is)

  said : Ok table ≡ config_or_fault_of_table t → (table_of_members t ≡ table) × (table_fault t ≡ None)
  unfolding config_or_fault_of_table
  said e = by_fault (table_fault t) refl e

read_as : (table : Table) → TableWasRead table → (t : Members) × (table_of_members t ≡ table) × (table_fault t ≡ None)
read_as table (text, inl (t, is, same)) = let says = said t table same in (t, says.0, says.1)
read_as table (text, inr (none, same)) = absurd cc

pub names_a_token : TableNameIsAToken
unfolding table_of_members
names_a_token table read =
    let is = read_as table read in
    subst (λ (u : Table). IsToken u.name) is.1 (text_is_token (text_of_key (codes "name") is.0) (name_is_present is.0 is.2))

pub names_are_short : (table : Table) → TableWasRead table → length table.name ≤ 32
unfolding table_of_members
names_are_short table read =
    let is = read_as table read in
    subst (λ (u : Table). length u.name ≤ 32) is.1 (text_is_short (text_of_key (codes "name") is.0) (name_is_present is.0 is.2))

pub stores_none_too_long : StoredContentFits64Bits
unfolding table_of_members
stores_none_too_long table read =
    let is = read_as table read in
    let high : unwrap_or (number_of_key MaxStored is.0) 0 ≤ 16777216 = within_high 0 16777216 (option_and_then as_integer (get_member (key_text MaxStored) is.0)) in
    let small : unwrap_or (number_of_key MaxStored is.0) 0 < 2 ^ 64 = omega arith in
    subst (λ (u : Table). u.max_stored < 2 ^ 64) is.1 small

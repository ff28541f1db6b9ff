-- What holds of each line without fault holds of all the lines of a table that is read.
use Rattle.std.proofs.Common.{◌≡◌, ℕ, ◌+◌, Bool, true, false, cond, List, Option, Some, None, refl, sym, ◌∙◌, subst}
use Rattle.std.specs.Prelude.{Ok, unwrap_or, option_map}
use Rattle.std.specs.List.{All}
use Rattle.std.proofs.lemmas.List.Elements.{All-nil, All-cons}
use Rattle.toml.specs.Data.{Items, no_items, item, Members, as_table}
use Rattle.hx_allow.specs.TableLines.{Line, Table}
use Rattle.hx_allow.specs.LineTables.{line_fault, line_of_members, first_fault_of_lines, lines_of_tables, first_fault_or_later, fault_of_line_if_table, lines_with_line_if_table}
use Rattle.hx_allow.specs.Rows.{fault_of_top_key}
use Rattle.hx_allow.specs.Tables.{first_bad_top_key, line_tables_of_toml, table_version_of, table_fault, table_of_members, config_or_fault_of_table, fault_or_table_read}
use Rattle.hx_allow.specs.Values.{first_unknown}
use Rattle.hx_allow.specs.declared.config_faults.TableFault.{TableFault}
use Rattle.hx_allow.specs.declared.config_faults.TableFault.TheVariants.{UnknownKey}
use Rattle.hx_allow.specs.declared.rows.TopKey.{TopKey}
use Rattle.hx_allow.specs.declared.values.Scope.TheVariants.{Top}
use Rattle.hx_allow.specs.declared.values.TableVersion.{TableVersion}

-- a fault that stands is not passed over
pub none_applies : {A : Type 0} (b : Bool) (o : Option A) (x : A) → cond b (Some x) o ≡ None → (b ≡ false) × (o ≡ None)
none_applies true o x e = cc
none_applies false o x e = (refl, e)

pub none_mapped : {A B : Type 0} (f : A → B) (o : Option A) → option_map f o ≡ None → o ≡ None
none_mapped f None e = refl
none_mapped f (Some x) e = cc

pub or_later_none : (a b : Option TableFault) → first_fault_or_later a b ≡ None → (a ≡ None) × (b ≡ None)
or_later_none None b e = (refl, e)
or_later_none (Some fault) b e = cc

module _ (P : Line → Type 0) (version : TableVersion) (line_is : (n : ℕ) (ms : Members) → line_fault version n ms ≡ None → P (line_of_members version ms)) where
  with_line_is : (n : ℕ) (o : Option Members) (lines : List Line) → fault_of_line_if_table version n o ≡ None → All P lines → All P (lines_with_line_if_table version o lines)
  with_line_is n None lines none all = all
  with_line_is n (Some ms) lines none all = All-cons P (line_of_members version ms) lines (line_is n ms none) all

  pub each_line : (n : ℕ) (ds : Items) → first_fault_of_lines version n ds ≡ None → All P (lines_of_tables version ds)
  each_line n no_items none = All-nil P
  each_line n (item d ds) none =
      let parts = or_later_none (fault_of_line_if_table version n (as_table d)) (first_fault_of_lines version (n + 1) ds) none in
      with_line_is n (as_table d) (lines_of_tables version ds) parts.0 (each_line (n + 1) ds parts.1)

no_line_fault : (t : Members) → table_fault t ≡ None → first_fault_of_lines (table_version_of t) 1 (unwrap_or (line_tables_of_toml t) no_items) ≡ None
unfolding table_fault
no_line_fault t none = by_keys (first_unknown (Top (table_version_of t)) t) refl (first_bad_top_key t) refl
  where
    by_keys : (o : Option (List ℕ)) → first_unknown (Top (table_version_of t)) t ≡ o → (p : Option TopKey) → first_bad_top_key t ≡ p → first_fault_of_lines (table_version_of t) 1 (unwrap_or (line_tables_of_toml t) no_items) ≡ None
    by_keys (Some key) e p f = let bad : table_fault t ≡ Some (UnknownKey key) = rw e refl in cc
    by_keys None e (Some key) f = let bad : table_fault t ≡ Some (fault_of_top_key key) = rw e (rw f refl) in cc
    by_keys None e None f =
        let is : table_fault t ≡ first_fault_of_lines (table_version_of t) 1 (unwrap_or (line_tables_of_toml t) no_items) = rw e (rw f refl) in
        sym is ∙ none

module _ (P : Line → Type 0) (t : Members) (table : Table) (line_is : (n : ℕ) (ms : Members) → line_fault (table_version_of t) n ms ≡ None → P (line_of_members (table_version_of t) ms)) where
  by_fault : (o : Option TableFault) → table_fault t ≡ o → Ok table ≡ fault_or_table_read o t → All P table.lines
  unfolding table_of_members
  by_fault (Some fault) is e = cc
  by_fault None is e =
      let same : table_of_members t ≡ table = cc in
      subst (λ (read : Table). All P read.lines) same (each_line P (table_version_of t) line_is 1 (unwrap_or (line_tables_of_toml t) no_items) (no_line_fault t is))

  pub each_line_read : Ok table ≡ config_or_fault_of_table t → All P table.lines
  unfolding config_or_fault_of_table
  each_line_read e = by_fault (table_fault t) refl e

-- What is taken as a table, and what is none.
use Rattle.std.proofs.Common.{◌≡◌, ◌≤◌, ◌<◌, inl, inr, ℕ, List, length, Option, Some, None, refl, sym, subst, arith}
use Rattle.std.specs.Prelude.{Ok, Err, IsSome, IsUtf8}
use Rattle.toml.specs.Data.{Members}
use Rattle.toml.specs.Parse.{parse_document}
use Rattle.hx_allow.specs.TableLines.{Table}
use Rattle.hx_allow.specs.Tables.{config_or_fault_of_table, BytesReadAsTable}
use Rattle.hx_allow.specs.declared.config_faults.TableFault.TheVariants.{NotToml}

pub taken : (bytes : List ℕ) (table : Table) → BytesReadAsTable bytes (Ok table) → (length bytes ≤ 1048576) × IsUtf8 bytes × IsSome (parse_document bytes)
taken bytes table (inl (t, is, e)) = (is.0, is.1, subst (λ (o : Option Members). IsSome o) (sym is.2) refl)
taken bytes table (inr (none, e)) = cc

pub judged : (bytes : List ℕ) (t : Members) → length bytes ≤ 1048576 → IsUtf8 bytes → parse_document bytes ≡ Some t → BytesReadAsTable bytes (config_or_fault_of_table t)
judged bytes t short text toml = inl (t, (short, text, toml), refl)

pub too_long : (bytes : List ℕ) → 1048576 < length bytes → BytesReadAsTable bytes (Err NotToml)
too_long bytes long = inr (λ t is. let short = is.0 in let bad : ⊥ = omega arith in bad, refl)

pub no_text : (bytes : List ℕ) → (IsUtf8 bytes → ⊥) → BytesReadAsTable bytes (Err NotToml)
no_text bytes none = inr (λ t is. none is.1, refl)

none-some : {A : Type 0} (o : Option A) (x : A) → o ≡ None → o ≡ Some x → ⊥
none-some None x e f = cc
none-some (Some y) x e f = cc

pub no_toml : (bytes : List ℕ) → parse_document bytes ≡ None → BytesReadAsTable bytes (Err NotToml)
no_toml bytes none = inr (λ t is. none-some (parse_document bytes) t none is.2, refl)

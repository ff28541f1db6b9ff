-- Laws of the table: one reading at most, and the first line that matches.
use Rattle.std.proofs.Common.{◌≡◌, inl, inr, ℕ, ◌+◌, Bool, true, false, cond, List, [], ◌∷◌, Option, Some, refl, ap, sym, ◌∙◌}
use Rattle.std.specs.Prelude.{Result, Ok, None, is_some}
use Rattle.std.specs.List.{position_from}
use Rattle.toml.specs.Data.{Members}
use Rattle.hx_target.specs.declared.targets.Target.{Target}
use Rattle.hx_allow.specs.TableLines.{Line, Table}
use Rattle.hx_allow.specs.Matching.{matches_line, route_over_line, verdict_of_line, verdict_from, verdict_of, deciding_line_number}
use Rattle.hx_allow.specs.Tables.{config_or_fault_of_table, fault_or_table_read, table_fault, table_of_members, BytesReadAsTable}
use Rattle.hx_allow.specs.Tables.{MembersAreOfSomeToml, TableWasRead}
use Rattle.hx_allow.specs.declared.verdicts.Verdict.TheVariants.{Allowed, DeniedBy}
use Rattle.hx_allow.specs.declared.config_faults.TableFault.{TableFault}

same_member : (t u : Members) → ◌≡◌ {A = Option Members} (Some t) (Some u) → t ≡ u
same_member t u e = cc

pub one_reading : (bytes : List ℕ) (r s : Result Table TableFault) → BytesReadAsTable bytes r → BytesReadAsTable bytes s → r ≡ s
one_reading bytes r s (inl (t, is, h)) (inl (u, also, k)) = h ∙ (ap config_or_fault_of_table (same_member t u (sym is.2 ∙ also.2)) ∙ sym k)
one_reading bytes r s (inl (t, is, h)) (inr (none, k)) = absurd (none t is)
one_reading bytes r s (inr (none, h)) (inl (u, also, k)) = absurd (none u also)
one_reading bytes r s (inr (none, h)) (inr (also, k)) = h ∙ sym k

-- what a TOML text without fault says was read
pub said_by_a_text : (t : Members) (table : Table) → MembersAreOfSomeToml t → table_fault t ≡ None → table ≡ table_of_members t → TableWasRead table
unfolding config_or_fault_of_table
said_by_a_text t table (text, is) none same = (text, inl (t, is, ap Ok same ∙ sym (ap (λ fault. fault_or_table_read fault t) none)))

number_by : (t : Bool) (k : ℕ) → deciding_line_number (cond t (Allowed (route_over_line k)) (DeniedBy k)) ≡ Some k
number_by true k = refl
number_by false k = refl

pub first_from : (k : ℕ) (lines : List Line) (method : List ℕ) (target : Target) → deciding_line_number (verdict_from k lines method target) ≡ position_from (λ line. matches_line line method target) k lines
first_from k [] method target = refl
first_from k (line ∷ lines) method target =
    elim (matches_line line method target) as (λ t. deciding_line_number (cond t (verdict_of_line k line) (verdict_from (k + 1) lines method target)) ≡ cond t (Some k) (position_from (λ line. matches_line line method target) (k + 1) lines))
    [ true ↦ number_by (is_some line.origin) k | false ↦ first_from (k + 1) lines method target ]

pub first_matching : (lines : List Line) (method : List ℕ) (target : Target) → deciding_line_number (verdict_of lines method target) ≡ position_from (λ line. matches_line line method target) 1 lines
unfolding verdict_of
first_matching lines method target = first_from 1 lines method target

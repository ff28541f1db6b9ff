-- The first line at fault is told by its own number.
use Rattle.std.proofs.Common.{◌≡◌, ℕ, ◌+◌, ◌++◌, List, [], ◌∷◌, length, Option, Some, None, refl, ap, ◌∙◌, arith}
use Rattle.toml.specs.Data.{Members}
use Rattle.hx_allow.specs.LineTables.{line_fault, first_fault_of_lines, first_fault_or_later, items_of_tables}
use Rattle.hx_allow.specs.declared.config_faults.TableFault.{TableFault}
use Rattle.hx_allow.specs.declared.values.TableVersion.{TableVersion}

or_later_assoc : (a b c : Option TableFault) → first_fault_or_later a (first_fault_or_later b c) ≡ first_fault_or_later (first_fault_or_later a b) c
or_later_assoc None b c = refl
or_later_assoc (Some fault) b c = refl

-- lines behind others are looked at where those in front have no fault, and their numbers go on
lines_fault_append : (version : TableVersion) (n : ℕ) (before after : List Members) → first_fault_of_lines version n (items_of_tables (before ++ after)) ≡ first_fault_or_later (first_fault_of_lines version n (items_of_tables before)) (first_fault_of_lines version (n + length before) (items_of_tables after))
lines_fault_append version n [] after = let e : n ≡ n + 0 = omega arith in ap (λ k. first_fault_of_lines version k (items_of_tables after)) e
lines_fault_append version n (ms ∷ more) after =
    let e : n + 1 + length more ≡ n + length (ms ∷ more) = omega arith in
    ap (first_fault_or_later (line_fault version n ms)) (lines_fault_append version (n + 1) more after)
    ∙ (or_later_assoc (line_fault version n ms) (first_fault_of_lines version (n + 1) (items_of_tables more)) (first_fault_of_lines version (n + 1 + length more) (items_of_tables after))
    ∙ ap (λ k. first_fault_or_later (first_fault_or_later (line_fault version n ms) (first_fault_of_lines version (n + 1) (items_of_tables more))) (first_fault_of_lines version k (items_of_tables after))) e)

pub first_at_fault : (version : TableVersion) (before : List Members) (ms : Members) (after : List Members) (fault : TableFault) → first_fault_of_lines version 1 (items_of_tables before) ≡ None → line_fault version (1 + length before) ms ≡ Some fault → first_fault_of_lines version 1 (items_of_tables (before ++ ms ∷ after)) ≡ Some fault
first_at_fault version before ms after fault none here =
    lines_fault_append version 1 before (ms ∷ after)
    ∙ (ap (λ f. first_fault_or_later f (first_fault_or_later (line_fault version (1 + length before) ms) (first_fault_of_lines version (1 + length before + 1) (items_of_tables after)))) none
    ∙ ap (λ f. first_fault_or_later f (first_fault_of_lines version (1 + length before + 1) (items_of_tables after))) here)

use Rattle.std.proofs.Common.{◌≡◌, ℕ, List, take}
use Rattle.std.specs.Prelude.{bytes_eq}
use Rattle.std.specs.List.{list_any}
use Rattle.std.specs.BTreeSet.{contains}
use Rattle.hx_fields.specs.Folded.{folded, folded_names_cmp}
use Rattle.hx_fields.specs.Line.{Field}
use Rattle.hx_validate.proofs.freshening.line_names.Given as goal

abbrev pub invariant-loop-line : goal.invariant-loop-line
invariant-loop-line l =
    (q : List ℕ) → contains folded_names_cmp l.names q ≡ list_any (λ (line : Field). bytes_eq (folded line.name) q) (take l.line-index l.lines)

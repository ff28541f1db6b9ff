use Rattle.std.proofs.Common.{◌≡◌, ℕ, List, take, map}
use Rattle.std.specs.Prelude.{bytes_eq}
use Rattle.std.specs.List.{list_any}
use Rattle.std.specs.BTreeSet.{contains}
use Rattle.hx_fields.specs.Folded.{folded, folded_names_cmp}
use Rattle.hx_vary.specs.Vary.{names_without_repeats, nominated_value}
use Rattle.hx_vary.proofs.nominations.nominated_values_of.Given as goal

abbrev pub invariant-loop-name : goal.invariant-loop-name
invariant-loop-name l = record {
  kept : l.kept.items ≡ map (nominated_value l.request) (names_without_repeats (take l.name-index l.names));
  seen : (q : List ℕ) → contains folded_names_cmp l.seen q ≡ list_any (λ (name : List ℕ). bytes_eq (folded name) q) (take l.name-index l.names);
}

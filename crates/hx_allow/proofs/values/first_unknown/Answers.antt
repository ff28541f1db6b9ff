use Rattle.std.proofs.Common.{◌≡◌, List, [], ◌∷◌, true, false, cond, refl, ◌∙◌, ap}
use Rattle.std.specs.Prelude.{Some, option_map, find, not, string_bytes, String}
use Rattle.std.specs.Map.{keys_of}
use Rattle.std.specs.declared.alloc.Global.{Global}
use Rattle.toml.specs.declared.value.Value.{Value}
use Rattle.toml.specs.View.{members_view}
use Rattle.hx_allow.specs.declared.values.Scope.{Scope}
use Rattle.hx_allow.specs.Values.{is_known_key, first_unknown}
use Rattle.hx_allow.proofs.values.first_unknown.Goals as goal

unknown_view : (scope : Scope) (es : List (String Global × Value)) → option_map string_bytes (find (λ k. not (is_known_key scope (string_bytes k))) (keys_of es)) ≡ first_unknown scope (members_view es)
unknown_view scope [] = refl
unknown_view scope ((k, v) ∷ es) =
    elim (is_known_key scope (string_bytes k)) as (λ t. option_map string_bytes (cond (not t) (Some k) (find (λ j. not (is_known_key scope (string_bytes j))) (keys_of es))) ≡ cond t (first_unknown scope (members_view es)) (Some (string_bytes k)))
    [ true ↦ unknown_view scope es | false ↦ refl ]

pub returns-in-Some : goal.returns-in-Some
returns-in-Some c = ap Some c.as_str.ensures.value ∙ ap (option_map string_bytes) (c.in-Some.ensures) ∙ unknown_view c.args.scope c.args.table.now.entries

pub returns-in-None : goal.returns-in-None
returns-in-None c = ap (option_map string_bytes) c.in-None.ensures ∙ unknown_view c.args.scope c.args.table.now.entries

-- The directives of a message are those of each line, one line after another.
use Rattle.std.proofs.Common.{◌≡◌, true, false, cond, List, [], ◌∷◌, ◌++◌, codes, refl, sym, ap, ◌∙◌, map}
use Rattle.std.specs.List.{filter, filter_map}
use Rattle.std.proofs.lemmas.List.Elements.{filter_map-append}
use Rattle.hx_fields.specs.Names.{is_same_name, members_of_value, joined_lists}
use Rattle.hx_fields.specs.FieldLines.{is_named, members_of}
use Rattle.hx_fields.specs.Line.{Field}
use Rattle.hx_directives.specs.declared.occurrences.Occurrence.{Occurrence}
use Rattle.hx_directives.specs.Occurrences.{occurrence_of_member, directives_of_field_line, occurrences_of}

abbrev pub line_by_line : List Field → List Occurrence
line_by_line [] = []
line_by_line (line ∷ more) = directives_of_field_line line ++ line_by_line more

pub occurrences_of_lines : (lines : List Field) → line_by_line lines ≡ occurrences_of lines
occurrences_of_lines [] = refl
occurrences_of_lines (line ∷ more) =
    let name = codes "Cache-Control" in
    let rest = filter (is_named name) more in
    let spelled = filter_map occurrence_of_member (members_of_value line.value) in
    let from_lines = occurrences_of_lines more in
    elim (is_same_name line.name name) as (λ b. (cond b spelled [] ++ line_by_line more)
    ≡ filter_map occurrence_of_member (joined_lists (map members_of_value (map (λ (f : Field). f.value) (cond b (line ∷ rest) rest))))) [
      | true ↦ ap (λ found. spelled ++ found) from_lines ∙ sym (filter_map-append occurrence_of_member (members_of_value line.value) (members_of more name))
      | false ↦ from_lines
    ]

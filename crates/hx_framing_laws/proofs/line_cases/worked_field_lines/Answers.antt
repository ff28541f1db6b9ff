use Rattle.std.proofs.Common.{◌++◌, [], ◌∷◌, refl}
use Rattle.std.specs.Prelude.{codes}
use Rattle.hx_framing_laws.specs.Examples.{field_of_name_and_value}
use Rattle.hx_framing_laws.proofs.WorkedLines.{is_no_field_line, is_no_value, spelled}
use Rattle.hx_framing_laws.proofs.line_cases.worked_field_lines.Goals as goal

pub returns-clause-plain : goal.returns-clause-plain
returns-clause-plain c = spelled (field_of_name_and_value (codes "Accept") (codes "a, b")) (codes " ") [] refl refl (record { starts = refl; ends = refl }) refl refl

pub returns-clause-tight : goal.returns-clause-tight
returns-clause-tight c = spelled (field_of_name_and_value (codes "Accept") (codes "a:b")) [] [] refl refl (record { starts = refl; ends = refl }) refl refl

pub returns-clause-blank_before_colon : goal.returns-clause-blank_before_colon
returns-clause-blank_before_colon c = is_no_field_line (codes "Host : a") refl

pub returns-clause-folded : goal.returns-clause-folded
returns-clause-folded c = is_no_field_line (codes " folded: a") refl

pub returns-clause-no_name : goal.returns-clause-no_name
returns-clause-no_name c = is_no_field_line (codes ": a") refl

pub returns-clause-no_colon : goal.returns-clause-no_colon
returns-clause-no_colon c = is_no_field_line (codes "Host") refl

pub returns-clause-control : goal.returns-clause-control
returns-clause-control c = is_no_field_line (codes "Host: a" ++ 0 ∷ []) refl

pub returns-clause-bare_return : goal.returns-clause-bare_return
returns-clause-bare_return c = is_no_field_line (codes "Host: a\rb") refl

pub returns-clause-feed : goal.returns-clause-feed
returns-clause-feed c = is_no_field_line (codes "Host: a\nb") refl

pub returns-clause-delete : goal.returns-clause-delete
returns-clause-delete c = is_no_field_line (codes "Host: a" ++ 127 ∷ []) refl

pub returns-clause-blank_at_the_end : goal.returns-clause-blank_at_the_end
returns-clause-blank_at_the_end c = is_no_value (codes "Host: a ") (field_of_name_and_value (codes "Host") (codes "a ")) refl

pub returns-clause-blank_in_front : goal.returns-clause-blank_in_front
returns-clause-blank_in_front c = is_no_value (codes "Host: a") (field_of_name_and_value (codes "Host") (codes " a")) refl

-- What goes forward of the lines of a request.
use Rattle.std.proofs.Common.{◌≡◌, ℕ, suc, Bool, not, ◌&&◌, ◌||◌, List, [], ◌∷◌, ◌++◌, length, map, refl, ap, codes}
use Rattle.std.specs.Prelude.{filter, Option, Some, None, is_some}
use Rattle.std.proofs.lemmas.List.Elements.{filter-append}
use Rattle.hx_fields.specs.Line.{Field}
use Rattle.hx_fields.specs.FieldLines.{is_named, without_named}
use Rattle.hx_hop.specs.declared.conditions.Conditions.{Conditions}
use Rattle.hx_hop.specs.Asking.{fields_passed_on_of}
use Rattle.hx_hop.specs.Forwarding.{forwarded_client_lines, condition_lines, host_text, is_condition_line, line, line_if_present, via_text}
use Rattle.hx_hop.specs.PassedOnFields.{ExactlyOneHostIsForwarded, ForwardEndsWithVia}
use Rattle.hx_hop.specs.Stripping.{stripped}
use Rattle.hx_hop.proofs.Lines.{filter_no_hit, list_any_fewer, list_any_none_left, not_true}

pub ends_with_via : ForwardEndsWithVia
ends_with_via keeps request target name conditions =
    (line (codes "Host") (host_text target.key) ∷ forwarded_client_lines (keeps || is_some conditions) (fields_passed_on_of request.fields) ++ condition_lines conditions, refl)

client_has_none : (conditional : Bool) (fields : List Field) → filter (is_named (codes "Host")) (forwarded_client_lines conditional (fields_passed_on_of fields)) ≡ []
client_has_none conditional fields =
    let host = is_named (codes "Host") in
    let out = list_any_none_left (λ f. not (host f)) host (λ f e. not_true _ e) (stripped fields) in
    let kept = list_any_fewer (λ f. not (is_named (codes "Expect") f)) host (without_named (stripped fields) (codes "Host")) out in
    filter_no_hit host (forwarded_client_lines conditional (fields_passed_on_of fields))
    (list_any_fewer (λ f. not (conditional && is_condition_line f)) host (fields_passed_on_of fields) kept)

tag_has_none : (value : Option (List ℕ)) → filter (is_named (codes "Host")) (line_if_present (codes "If-None-Match") value) ≡ []
tag_has_none None = refl
tag_has_none (Some value) = refl

date_has_none : (value : Option (List ℕ)) → filter (is_named (codes "Host")) (line_if_present (codes "If-Modified-Since") value) ≡ []
date_has_none None = refl
date_has_none (Some value) = refl

conditions_have_none : (conditions : Option Conditions) → filter (is_named (codes "Host")) (condition_lines conditions) ≡ []
conditions_have_none None = refl
conditions_have_none (Some c) =
    rw (filter-append (is_named (codes "Host")) (line_if_present (codes "If-None-Match") c.etag) (line_if_present (codes "If-Modified-Since") c.modified), tag_has_none c.etag, date_has_none c.modified) refl

rest_has_none : (front back last : List Field) → filter (is_named (codes "Host")) front ≡ [] → filter (is_named (codes "Host")) back ≡ [] → filter (is_named (codes "Host")) last ≡ []
    → filter (is_named (codes "Host")) (front ++ back ++ last) ≡ []
rest_has_none front back last f b l =
    rw (filter-append (is_named (codes "Host")) (front ++ back) last, filter-append (is_named (codes "Host")) front back, f, b, l) refl

pub sends_one_host : ExactlyOneHostIsForwarded
sends_one_host keeps request target name conditions =
    ap (λ lines. suc (length (map (λ (f : Field). f.value) lines)))
    (rest_has_none (forwarded_client_lines (keeps || is_some conditions) (fields_passed_on_of request.fields)) (condition_lines conditions) (line (codes "Via") (via_text request.minor name) ∷ [])
    (client_has_none (keeps || is_some conditions) request.fields) (conditions_have_none conditions) refl)

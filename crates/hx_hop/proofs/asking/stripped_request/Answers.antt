use Rattle.std.proofs.Common.{rules, ◌≡◌, ap, ◌∙◌, codes}
use Rattle.std.specs.Prelude.{filter}
use Rattle.hx_fields.specs.FieldLines.{members_of}
use Rattle.hx_hop.specs.LinesThatGoOn.{line_is_passed_on}
use Rattle.hx_hop.specs.Stripping.{name_is_among}
use Rattle.hx_hop.proofs.Kept.{kept_at_once}
use Rattle.hx_hop.proofs.asking.stripped_request.Goals as goal

pub returns : goal.returns
returns c =
    let fields = c.args.fields.now in
    let named : c.in_ok-named.named ≡ members_of fields (codes "Connection") = search rules in
    record {
      lines = c.in_ok-keep_few.ensures ∙ ap (λ xs. filter (line_is_passed_on xs) fields) named ∙ kept_at_once fields;
      closes = c.name_is_among.ensures ∙ ap (λ xs. name_is_among xs (codes "close")) named;
    }

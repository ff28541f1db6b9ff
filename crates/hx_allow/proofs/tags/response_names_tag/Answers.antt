use Rattle.std.proofs.Common.{ap, ◌∙◌}
use Rattle.std.specs.Prelude.{is_none}
use Rattle.hx_allow.specs.Tags.{comparisons_left_behind_fields}
use Rattle.hx_allow.proofs.TagsNamed.{none_is, none_left_where_named}
use Rattle.hx_allow.proofs.tags.response_names_tag.Goals as goal

pub returns : goal.returns
returns c =
    none_is c.comparisons_left_behind_fields.result c.is_none.result c.is_none.ensures
    ∙ ap is_none (c.comparisons_left_behind_fields.ensures ∙ ap (comparisons_left_behind_fields c.args.tag.now 64) c.as_slice.ensures)
    ∙ none_left_where_named c.args.tag.now c.args.fields.now

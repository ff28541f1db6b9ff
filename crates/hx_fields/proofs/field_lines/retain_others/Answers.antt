use Rattle.std.proofs.Common.{rules, not}
use Rattle.std.proofs.lemmas.Fn.{filter_same}
use Rattle.hx_fields.specs.FieldLines.{is_named}
use Rattle.hx_fields.proofs.field_lines.retain_others.Goals as goal

pub returns : goal.returns
returns c = filter_same _ (λ f. not (is_named c.args.name.now f)) _ (λ x b f' r. search rules) _ _ c.retain.ensures.filtered

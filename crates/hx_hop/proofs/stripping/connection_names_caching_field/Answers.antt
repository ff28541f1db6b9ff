use Rattle.std.proofs.Common.{ap, codes, ◌∙◌}
use Rattle.hx_fields.specs.FieldLines.{members_of}
use Rattle.hx_hop.proofs.NamedLemmas.{any_is_cache_name, lists_by_members}
use Rattle.hx_hop.proofs.stripping.connection_names_caching_field.Goals as goal

pub loop-line-init : goal.loop-line-init
loop-line-init c = ap (λ lines. any_is_cache_name (members_of lines (codes "Connection"))) c.as_slice-line-items.ensures ∙ lists_by_members c.args.fields.now

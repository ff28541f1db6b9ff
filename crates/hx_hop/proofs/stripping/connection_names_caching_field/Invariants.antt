use Rattle.std.proofs.Common.{◌≡◌, drop, codes}
use Rattle.hx_fields.specs.FieldLines.{members_of}
use Rattle.hx_hop.specs.Stripping.{connection_names_caching_field}
use Rattle.hx_hop.proofs.NamedLemmas.{any_is_cache_name}
use Rattle.hx_hop.proofs.stripping.connection_names_caching_field.Given as goal

abbrev pub invariant-loop-line : goal.invariant-loop-line
invariant-loop-line l = any_is_cache_name (members_of (drop l.line-index l.line-items) (codes "Connection")) ≡ connection_names_caching_field l.fields

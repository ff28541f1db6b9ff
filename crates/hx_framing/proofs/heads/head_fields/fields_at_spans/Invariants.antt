use Rattle.std.proofs.Common.{◌≡◌, map, take}
use Rattle.hx_framing.specs.Head.{field_at_span}
use Rattle.hx_framing.proofs.heads.head_fields.fields_at_spans.Given as goal

abbrev pub invariant-loop-span : goal.invariant-loop-span
invariant-loop-span l = l.fields ≡ map (field_at_span l.head) (take l.span-index l.spans)

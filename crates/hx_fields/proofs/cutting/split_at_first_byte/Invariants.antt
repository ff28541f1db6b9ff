use Rattle.std.proofs.Common.{◌≡◌, ◌++◌, take, drop}
use Rattle.std.specs.Option.{option_map}
use Rattle.hx_fields.specs.Names.{split_at_first_byte}
use Rattle.hx_fields.proofs.cutting.split_at_first_byte.Given as goal

-- the cut of the bytes is that of what is left, behind what was passed
abbrev pub invariant-loop-i : goal.invariant-loop-i
invariant-loop-i l = split_at_first_byte l.separator l.text ≡ option_map (λ p. (take l.i l.text ++ p.0, p.1)) (split_at_first_byte l.separator (drop l.i l.text))

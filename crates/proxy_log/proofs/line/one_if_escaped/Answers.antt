use Rattle.std.proofs.Common.{◌≡◌, ℕ, ◌<◌, false, map, cond, get_or, refl, ap, ◌∙◌, arith}
use Rattle.std.proofs.lemmas.List.FromFn.{get_or-map-range_with_len}
use Rattle.std.specs.List.{range_with_len}
use Rattle.proxy_log.specs.Line.{is_logged_unescaped}
use Rattle.proxy_log.specs.declared.line.TheConstants.{ESCAPED_BYTES}
use Rattle.proxy_log.proofs.line.one_if_escaped.Goals as goal

abbrev mark : ℕ → ℕ
mark b = cond (is_logged_unescaped false b) 0 1

-- the table has the mark of each byte
table_is : ESCAPED_BYTES ≡ map mark (range_with_len 0 256)
table_is = refl

read : (b : ℕ) → b < 256 → get_or ESCAPED_BYTES b 0 ≡ mark b
read b below = ap (λ table. get_or table b 0) table_is ∙ get_or-map-range_with_len mark 0 256 b b 0 below (omega arith)

pub returns : goal.returns
returns c = rw c.from.ensures (read c.args.b (omega arith))

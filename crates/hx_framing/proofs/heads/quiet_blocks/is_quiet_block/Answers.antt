use Rattle.std.proofs.Common.{ℕ, ◌+◌, eqb, cond, bit_and, bit_or, List, map, ap₂, ap, refl, ◌∙◌, ◌≡◌, [], ◌∷◌, arith}
use Rattle.std.proofs.lemmas.Simd.{zip2_splat, length-chunk}
use lib.Lanes.{chunk, zip2}
use Rattle.hx_framing.proofs.QuietBlocks.{quiet_block, joined}
use Rattle.hx_framing.proofs.heads.quiet_blocks.is_quiet_block.Goals as goal

pub returns : goal.returns
returns c none =
    let bytes = c.args.bytes.now in
    let at = c.args.at in
    let v = chunk at 16 bytes in
    let w = chunk (at + 1) 16 bytes in
    let long_v = length-chunk at 16 bytes (omega (arith, c.requires)) in
    let long_w = length-chunk (at + 1) 16 bytes (omega (arith, c.requires)) in
    quiet_block bytes at c.requires _
    (ap₂ (zip2 bit_and) (zip2_splat {Y = ℕ} (λ a b. cond (eqb a b) 255 0) v 16 10 long_v)
    (joined bit_or _ _ w (zip2_splat {Y = ℕ} (λ a b. cond (eqb a b) 255 0) w 16 10 long_w) (zip2_splat {Y = ℕ} (λ a b. cond (eqb a b) 255 0) w 16 13 long_w)))
    none

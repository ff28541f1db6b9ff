use Rattle.std.proofs.Common.{rules, ◌≡◌, ◌<◌, ◌∙◌, length, ap, sym, subst, arith}
use Rattle.hx_allow.proofs.Secrets.{one_more}
use Rattle.hx_allow.proofs.purges.is_same_secret.Goals as goal

pub loop-i-preserved : goal.loop-i-preserved
loop-i-preserved c =
    let within : c.loop-i.i < length c.args.key.now = search rules in
    let same : length c.args.key.now ≡ length c.args.given.now = search rules in
    let also : c.loop-i.i < length c.args.given.now = subst (λ n. c.loop-i.i < n) same within in
    one_more c.loop-i.differing c.loop-i.i c.args.key.now c.args.given.now within also ∙ c.loop-i.invariant

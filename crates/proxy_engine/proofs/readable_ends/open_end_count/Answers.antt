use Rattle.std.proofs.Common.{◌≡◌, ℕ, Bool, ap, sym, ◌∙◌, arith, cond}
use Rattle.proxy_engine.proofs.FewOpen.{kept_beside}
use Rattle.proxy_engine.proofs.readable_ends.open_end_count.Goals as goal
use Rattle.proxy_engine.proofs.readable_ends.open_end_count.Goals.{then-contains_key, else-contains_key}

pub returns : goal.returns
returns c =
    let beyond : c.if-contains_key.beyond ≡ cond c.contains_key.result 1 0 = elim c.if-contains_key.branch [
      | then-contains_key w ↦ w.beyond-is ∙ sym (ap (λ (b : Bool). cond {A = ℕ} b 1 0) w.if-contains_key.true)
      | else-contains_key w ↦ w.beyond-is ∙ sym (ap (λ (b : Bool). cond {A = ℕ} b 1 0) w.if-contains_key.false)
    ] in
    let len = c.len.ensures.len in
    let left = c.saturating_sub.ensures in
    let kept = kept_beside c.args.ends.now c.args.count c.len.ensures.ordered c.requires c.contains_key.result c.if-contains_key.beyond c.contains_key.ensures beyond in
    omega (arith, len, left, kept)

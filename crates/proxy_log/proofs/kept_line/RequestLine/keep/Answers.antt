use Rattle.std.proofs.Common.{◌≡◌, ℕ, List, ◌++◌, true, false, sym, ap, ◌∙◌, refl, codes, subst}
use Rattle.hx_framing.specs.HeadLines.{is_empty_line}
use Rattle.proxy_log.proofs.KeptLines.{GoesOn, found_whole, goes_on, passed_over}
use Rattle.proxy_log.proofs.LineParts.{on_ok}
use Rattle.proxy_log.proofs.kept_line.RequestLine.keep.Goals as goal

pub returns-then-not-is_empty_line : goal.returns-then-not-is_empty_line
returns-then-not-is_empty_line c =
    let old = c.args.self.now.text.items in
    let text = c.loop-line.self.text.items in
    let line = c.in-Some.line.now in
    let whole : c.push.new.self.text.items ≡ text ++ line = c.in_ok-push.ensures.ok in
    let other : is_empty_line (text ++ line) ≡ false = ap is_empty_line (sym whole) ∙ ap is_empty_line (sym c.as_slice.ensures.value) ∙ sym c.is_empty_line.ensures ∙ c.if-not-is_empty_line.true in
    on_ok c.push_line_feed.result
    (λ is head kept. found_whole head old c.args.piece.now text c.loop-line.rest.now line c.in-Some.behind.now c.args.self.now c.push_line_feed.new.self refl kept
    (c.loop-line.invariant.kept (kept.unended c.requires)) c.in-Some.ensures.cut other c.push_line_feed.ensures.over (is ∙ ap (λ (z : List ℕ). z ++ codes "\n") whole))
    c.push_line_feed.ensures.ok

pub loop-line-preserved : goal.loop-line-preserved
loop-line-preserved c =
    let old = c.args.self.now.text.items in
    let text = c.loop-line.self.text.items in
    let line = c.in-Some.line.now in
    let whole : c.push.new.self.text.items ≡ text ++ line = c.in_ok-push.ensures.ok in
    let empty : is_empty_line (text ++ line) ≡ true = ap is_empty_line (sym whole) ∙ ap is_empty_line (sym c.as_slice.ensures.value) ∙ sym c.is_empty_line.ensures ∙ c.if-not-is_empty_line.false in
    record {
      kept = λ unended.
          subst (λ (z : List ℕ). GoesOn old c.args.piece.now z c.in-Some.behind.now) (sym c.clear.ensures.items)
          (passed_over old c.args.piece.now text c.loop-line.rest.now line c.in-Some.behind.now (c.loop-line.invariant.kept unended) c.in-Some.ensures.cut empty);
      over = c.push.ensures.over ∙ c.loop-line.invariant.over;
    }

pub returns : goal.returns
returns c =
    on_ok c.push-2.result
    (λ is head kept. goes_on head c.args.self.now.text.items c.args.piece.now c.loop-line.self.text.items c.loop-line.rest.now c.args.self.now c.push-2.new.self refl kept
    (c.loop-line.invariant.kept (kept.unended c.requires)) c.in_default.ensures.cut (c.push-2.ensures.over ∙ c.loop-line.invariant.over ∙ c.requires) is)
    c.push-2.ensures.ok

use Rattle.std.proofs.Common.{◌≡◌, ◌+◌, ℕ, List, ◌++◌, drop, subst}
use Rattle.std.specs.Prelude.{get_or}
use Rattle.std.proofs.lemmas.List.{drop_more}
use Rattle.proxy_log.specs.Line.{logged_text}
use Rattle.proxy_log.proofs.LineParts.{no_room, on_err}
use Rattle.proxy_log.proofs.line.push_escaped.Goals as goal

pub returns-in_err-push_byte-clause-full : goal.returns-in_err-push_byte-clause-full
returns-in_err-push_byte-clause-full c =
    let bytes = c.args.bytes.now in
    let at = c.loop-b.b-index in
    on_err c.from_residual.result (no_room c.args.blanks (get_or bytes at 0) (drop (at + 1) bytes) bytes c.loop-b.text.items c.args.text.now.items _ _
    (subst (λ (xs : List ℕ). c.loop-b.text.items ++ logged_text c.args.blanks xs ≡ c.args.text.now.items ++ logged_text c.args.blanks bytes) (drop_more bytes at 0 c.loop-b-test.true) c.loop-b.invariant.shown)
    c.loop-b.invariant.capacity c.in_err-push_byte.ensures.full)

use Rattle.std.proofs.Common.{◌≡◌, ◌<◌, ◌++◌, ◌-◌, length, take, ℕ, List, sym, ap, ◌∙◌, subst, arith}
use Rattle.std.proofs.lemmas.Bool.{eqb-false}
use Rattle.hx_framing.specs.declared.contents.chunk_tokens.ChunkPhase.TheVariants as phase
use Rattle.hx_framing.specs.declared.contents.chunk_tokens.ChunkToken.TheVariants as token
use Rattle.hx_framing.specs.ChunkTokens.{ChunkTokenIsTaken}
use Rattle.hx_framing.proofs.ChunkTokens.{data_some, data_all}
use Rattle.hx_framing.proofs.contents.chunk_tokens.data_token.Goals as goal

pub returns-then-need-gt0-clause-takes : goal.returns-then-need-gt0-clause-takes
returns-then-need-gt0-clause-takes c =
    let place = c.args.place in
    let n = c.min-taken.result in
    let grown : c.extend_from_slice.new.self.items ≡ c.args.content.now.items ++ take n c.args.bytes.now
    = c.in-Ok.ensures.items ∙ ap (λ l. c.args.content.now.items ++ l) c.split_at.ensures.front in
    let apart = eqb-false (length c.args.bytes.now) 0 (sym c.is_empty.ensures ∙ c.if-is_empty.false) in
    let some : 0 < n = omega arith in
    subst (λ (l : List ℕ). ChunkTokenIsTaken place c.args.content.now.items c.args.bytes.now l (token.Whole n (record place { phase = phase.Data; need = place.need - n }))) (sym grown)
    (data_some place c.args.content.now.items c.args.bytes.now n c.requires.phase some (omega arith) (omega arith))

pub returns-else-need-gt0-clause-takes : goal.returns-else-need-gt0-clause-takes
returns-else-need-gt0-clause-takes c =
    let place = c.args.place in
    let n = c.min-taken.result in
    let grown : c.extend_from_slice.new.self.items ≡ c.args.content.now.items ++ take n c.args.bytes.now
    = c.in-Ok.ensures.items ∙ ap (λ l. c.args.content.now.items ++ l) c.split_at.ensures.front in
    let apart = eqb-false (length c.args.bytes.now) 0 (sym c.is_empty.ensures ∙ c.if-is_empty.false) in
    let some : 0 < n = omega arith in
    subst (λ (l : List ℕ). ChunkTokenIsTaken place c.args.content.now.items c.args.bytes.now l (token.Whole n (record place { phase = phase.DataEnd; need = place.need - n }))) (sym grown)
    (data_all place c.args.content.now.items c.args.bytes.now n c.requires.phase some (omega arith) (omega arith))

use Rattle.std.proofs.Common.{◌-◌, [], ◌++◌, length, take, drop, sym, ap, subst, ◌∙◌, arith, append-nil, length-take}
use lib.Seq.{take-add, take-take}
use Rattle.proxy_streams.proofs.Peering.{part_taken}
use Rattle.proxy_streams.proofs.unsent.write_what_stream_takes.Goals as goal
use Rattle.proxy_streams.proofs.unsent.write_what_stream_takes.Goals.{in-Ok, in-Err}

pub returns-in-Ok-eq0-clause-in_part : goal.returns-in-Ok-eq0-clause-in_part
returns-in-Ok-eq0-clause-in_part g c =
    part_taken (λ took. g.S.Stream.Passed c.args.stream.now took [] c.write.new.self) c.write.result c.args.bytes.now c.loop-try.at
    (g.met.S.Stream.joined _ _ _ _ _ _ _ c.loop-try.invariant.1 c.write.ensures.passed)

pub returns-in-Err-2-clause-took : goal.returns-in-Err-2-clause-took
returns-in-Err-2-clause-took g c =
    subst (λ took. g.S.Stream.Passed c.args.stream.now took [] c.write.new.self) (append-nil _)
    (g.met.S.Stream.joined _ _ _ _ _ _ _ c.loop-try.invariant.1 c.in-Err.ensures.passed)

pub returns-in-Err-3-clause-in_part : goal.returns-in-Err-3-clause-in_part
returns-in-Err-3-clause-in_part g c =
    part_taken (λ took. g.S.Stream.Passed c.args.stream.now took [] c.write.new.self) c.write.result c.args.bytes.now c.loop-try.at
    (g.met.S.Stream.joined _ _ _ _ _ _ _ c.loop-try.invariant.1 c.write.ensures.passed)

pub loop-try-preserved : goal.loop-try-preserved
loop-try-preserved g c =
    let at = c.loop-try.at in
    let xs = c.args.bytes.now in
    let before = c.loop-try.invariant in
    elim c.match-write.branch [
      | in-Ok w ↦
          let n = w.in-Ok.n in
          let fits = w.in-Ok.ensures.bound in
          let most = length-take (length xs - at) (drop at xs) in
          let sum = w.at-is in
          let joined = ap (λ l. take at xs ++ l) (take-take n (length xs - at) (drop at xs) (omega arith)) ∙ sym (take-add at n xs) ∙ ap (λ k. take k xs) (sym sum) in (
            omega arith,
            subst (λ took. g.S.Stream.Passed c.args.stream.now took [] c.write.new.self) joined
                (g.met.S.Stream.joined _ _ _ _ _ _ _ before.1 w.in-Ok.ensures.passed),
          )
      | in-Err w ↦
          let same = w.at-is in (
            omega (arith, before.0, same),
            subst (λ took. g.S.Stream.Passed c.args.stream.now took [] c.write.new.self) (append-nil _ ∙ ap (λ k. take k xs) (sym same))
                (g.met.S.Stream.joined _ _ _ _ _ _ _ before.1 w.in-Err.ensures.passed),
          )
    ]

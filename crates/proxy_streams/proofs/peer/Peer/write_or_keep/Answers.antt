use Rattle.std.proofs.Common.{◌≡◌, ◌-◌, [], ◌++◌, length, take, drop, refl, ap, ◌∙◌}
use Rattle.std.proofs.lemmas.List.{take_rest}
use Rattle.std.proofs.lemmas.Result.{on_ok_weaker}
use Rattle.proxy_streams.proofs.Peering.{handed_front, handed_behind, handed_joined, part_behind, on_err}
use Rattle.proxy_streams.proofs.peer.Peer.write_or_keep.Goals as goal

pub returns-in_err-flush-clause-in_part : goal.returns-in_err-flush-clause-in_part
returns-in_err-flush-clause-in_part g c =
    on_err c.from_residual.result
    (part_behind (λ took. g.S.Stream.Passed c.args.self.now.stream took [] c.flush.new.self.stream) c.args.self.now.unsent.bytes c.args.bytes.now c.in_err-flush.ensures.in_part)

pub returns-then-has_unsent-clause-in_part : goal.returns-then-has_unsent-clause-in_part
returns-then-has_unsent-clause-in_part g c =
    on_err c.keep.result (
      c.flush.new.self.unsent.bytes ++ c.args.bytes.now,
      handed_behind (λ took. g.S.Stream.Passed c.args.self.now.stream took [] c.flush.new.self.stream) c.args.self.now.unsent.bytes c.flush.new.self.unsent.bytes _ c.args.bytes.now
          (c.in_ok-flush.ensures.handed c.requires) refl,
    )

pub returns-in_err-n-clause-in_part : goal.returns-in_err-n-clause-in_part
returns-in_err-n-clause-in_part g c =
    let part = c.in_err-n.ensures.in_part in
    on_err c.from_residual-in_err-n.result (
      part.0,
      handed_joined (λ took. g.S.Stream.Passed c.args.self.now.stream took [] c.flush.new.self.stream)
          (λ took. g.S.Stream.Passed c.flush.new.self.stream took [] c.write_what_stream_takes.new.stream)
          (λ took. g.S.Stream.Passed c.args.self.now.stream took [] c.write_what_stream_takes.new.stream)
          c.args.self.now.unsent.bytes c.flush.new.self.unsent.bytes c.args.bytes.now part.0 (λ a b first then. g.met.S.Stream.joined _ _ _ a b [] [] first then)
          (c.in_ok-flush.ensures.handed c.requires) (c.has_unsent.ensures.empty c.if-has_unsent.false) part.1,
    )

pub returns-clause-handed : goal.returns-clause-handed
returns-clause-handed g c =
    let n = c.in_ok-n.n in
    let bytes = c.args.bytes.now in
    let none : c.flush.new.self.unsent.bytes ≡ [] = c.has_unsent.ensures.empty c.if-has_unsent.false in
    on_ok_weaker c.keep-2.result (λ kept.
    handed_joined (λ took. g.S.Stream.Passed c.args.self.now.stream took [] c.flush.new.self.stream)
    (λ took. g.S.Stream.Passed c.flush.new.self.stream took [] c.write_what_stream_takes.new.stream)
    (λ took. g.S.Stream.Passed c.args.self.now.stream took [] c.write_what_stream_takes.new.stream)
    c.args.self.now.unsent.bytes c.flush.new.self.unsent.bytes bytes c.keep-2.new.self.bytes (λ a b first then. g.met.S.Stream.joined _ _ _ a b [] [] first then)
    (c.in_ok-flush.ensures.handed c.requires) none
    (handed_front (λ took. g.S.Stream.Passed c.flush.new.self.stream took [] c.write_what_stream_takes.new.stream) bytes c.keep-2.new.self.bytes n c.in_ok-n.ensures.took
    (kept ∙ ap (λ l. l ++ take (length bytes - n) (drop n bytes)) none ∙ take_rest bytes n))) c.keep-2.ensures.ok

pub returns-clause-in_part : goal.returns-clause-in_part
returns-clause-in_part g c =
    let n = c.in_ok-n.n in
    let bytes = c.args.bytes.now in
    on_err c.keep-2.result (
      drop n bytes,
      handed_joined (λ took. g.S.Stream.Passed c.args.self.now.stream took [] c.flush.new.self.stream)
          (λ took. g.S.Stream.Passed c.flush.new.self.stream took [] c.write_what_stream_takes.new.stream)
          (λ took. g.S.Stream.Passed c.args.self.now.stream took [] c.write_what_stream_takes.new.stream)
          c.args.self.now.unsent.bytes c.flush.new.self.unsent.bytes bytes (drop n bytes) (λ a b first then. g.met.S.Stream.joined _ _ _ a b [] [] first then)
          (c.in_ok-flush.ensures.handed c.requires) (c.has_unsent.ensures.empty c.if-has_unsent.false)
          (handed_front (λ took. g.S.Stream.Passed c.flush.new.self.stream took [] c.write_what_stream_takes.new.stream) bytes (drop n bytes) n c.in_ok-n.ensures.took refl),
    )

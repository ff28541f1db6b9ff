use Rattle.std.proofs.Common.{◌≡◌, ◌≤◌, ◌++◌, ap, ◌∙◌, arith, rules, length, vec_len}
use Rattle.hx_framing.proofs.UnreadLemmas.{searched_fed, front_fed}
use Rattle.hx_framing.proofs.readers.unread.Unread.extend.Goals as goal

pub invariant_of-self-2 : goal.invariant_of-self-2
invariant_of-self-2 c =
    let all : c.extend_from_slice.new.self.items ≡ c.self.inside.bytes.items ++ c.args.piece.now = c.in-Ok.ensures.items ∙ ap (λ l. l ++ c.args.piece.now) c.reserve.ensures.items in
    let len : vec_len c.self.inside.bytes ≡ length c.self.inside.bytes.items = search rules in
    let within : c.self.inside.taken ≤ length c.self.inside.bytes.items = omega (arith, c.self.invariant.0, len) in
    let front = front_fed c.self.inside.bytes.items c.args.piece.now c.extend_from_slice.new.self.items c.self.inside.taken c.self.inside.line within all c.self.invariant.2 in (
      omega (arith, c.self.invariant.0, c.in-Ok.ensures.len, c.reserve.ensures.len),
      searched_fed c.self.inside.bytes.items c.args.piece.now c.extend_from_slice.new.self.items c.self.inside.taken c.self.inside.search
          within all c.self.invariant.1,
      front.0,
      front.1 c.self.invariant.3,
    )

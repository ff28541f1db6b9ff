use Rattle.std.proofs.Common.{rules, ◌≡◌, ◌++◌, ◌∷◌, []}
use Rattle.hx_allow.specs.Index.{line_numbers_for_host}
use Rattle.hx_allow.proofs.HostIndices.{entered}
use Rattle.hx_allow.proofs.host_index.enter.Goals as goal
use Rattle.hx_allow.proofs.host_index.enter.Goals.{in-Some, in-None}

pub returns : goal.returns
returns c =
    let is_key : c.in_ok-from_slice.field-0.items ≡ c.args.host.now = search rules in
    let are : c.push.new.self.items ≡ line_numbers_for_host c.args.kept.now c.args.host.now ++ c.args.number ∷ [] = elim c.match-remove.branch [
      | in-Some w ↦ search rules
      | in-None w ↦ search rules
    ] in
    entered c.args.host.now c.args.number c.in_ok-from_slice.field-0 c.push.new.self c.args.kept.now c.remove.new.self c.insert.new.self c.remove.ensures.updates c.in_ok-insert.ensures.updates is_key are

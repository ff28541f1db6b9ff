use Rattle.std.proofs.Common.{sym, ap, ◌∙◌}
use Rattle.hx_allow.specs.Matching.{matches_path}
use Rattle.hx_allow.proofs.PathTails.{without_tail}
use Rattle.hx_allow.proofs.line_paths.LinePath.matches.Goals as goal

pub returns-else-may_match : goal.returns-else-may_match
returns-else-may_match c =
    c.if-may_match.false
    ∙ without_tail c.self.inside.tail c.self.inside.text c.args.asked.now c.self.invariant (sym c.may_match.ensures ∙ c.if-may_match.false)
    ∙ ap (λ p. matches_path p c.args.asked.now) c.self.view_is

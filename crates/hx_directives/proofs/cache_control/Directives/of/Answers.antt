use Rattle.std.proofs.Common.{arith, ◌≡◌, ◌∙◌}
use Rattle.std.proofs.lemmas.Grind.{common_steps}
use Rattle.hx_directives.proofs.LineByLine.{line_by_line, occurrences_of_lines}
use Rattle.hx_directives.proofs.cache_control.Directives.of.Goals as goal

pub returns : goal.returns
returns c =
    let all_found : c.loop-line.found.items ≡ line_by_line c.args.fields.now = grind (arith, common_steps) in
    all_found ∙ occurrences_of_lines c.args.fields.now

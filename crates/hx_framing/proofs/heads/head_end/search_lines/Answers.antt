use Rattle.std.proofs.Common.{sym, ◌∙◌, arith}
use Rattle.hx_framing.proofs.HeadSearches.{searched_end, searched_lines}
use Rattle.hx_framing.proofs.heads.head_end.search_lines.Goals as goal

pub returns-in-Some : goal.returns-in-Some
returns-in-Some c = searched_end c.args.bytes.now c.args.from c.in-Some.end c.requires.lines (sym c.head_end_from.ensures.place ∙ c.in-Some.is)

pub returns-in-None : goal.returns-in-None
returns-in-None c =
    searched_lines c.args.bytes.now c.args.from _ c.requires.lines c.requires.room (omega (arith, c.requires.room))
    (sym c.head_end_from.ensures.place ∙ c.in-None.is)

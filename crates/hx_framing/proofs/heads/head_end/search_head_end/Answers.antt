use Rattle.std.proofs.Common.{arith}
use Rattle.hx_framing.proofs.HeadSearches.{empty_lines_reached, searched_empty_lines, lines_begin}
use Rattle.hx_framing.proofs.heads.head_end.search_head_end.Goals as goal

pub returns-then-bytes-first_line-lt2 : goal.returns-then-bytes-first_line-lt2
returns-then-bytes-first_line-lt2 c =
    searched_empty_lines c.args.bytes.now c.empty_lines_end_from-first_line.result
    (empty_lines_reached c.args.bytes.now c.args.search _ c.requires c.if-search.false c.empty_lines_end_from-first_line.ensures.size)
    c.empty_lines_end_from-first_line.ensures.within c.if-bytes-first_line-lt2.true

pub search_lines-requires-2-clause-lines : goal.search_lines-requires-2-clause-lines
search_lines-requires-2-clause-lines c =
    lines_begin c.args.bytes.now c.empty_lines_end_from-first_line.result
    (empty_lines_reached c.args.bytes.now c.args.search _ c.requires c.if-search.false c.empty_lines_end_from-first_line.ensures.size)
    (omega (arith, c.if-bytes-first_line-lt2.false))

use Rattle.hx_allow.proofs.HostIndices.{found_by_index}
use Rattle.hx_allow.proofs.matching.verdict_by_host_index.Goals as goal

pub returns : goal.returns
returns c = found_by_index c.args.lines.now c.args.index.now c.args.host.now c.args.method.now c.args.path.now c.naming.result.now c.for_every_host.result.now
    c.verdict_by_line_numbers-named.result c.verdict_of_parent_domains-below.result c.verdict_by_line_numbers.result c.requires c.naming.ensures c.for_every_host.ensures c.verdict_by_line_numbers-named.ensures c.verdict_of_parent_domains-below.ensures c.verdict_by_line_numbers.ensures

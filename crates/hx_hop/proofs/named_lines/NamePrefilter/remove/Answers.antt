use Rattle.hx_hop.proofs.Passed.{signs_removed}
use Rattle.hx_hop.proofs.named_lines.NamePrefilter.remove.Goals as goal

pub returns : goal.returns
returns c = signs_removed c.args.name.now c.args.self.now record { firsts = c.remove.new.self; buckets = c.remove-2.new.self }
    c.remove.ensures.taken c.remove.ensures.shared c.remove-2.ensures.taken c.remove-2.ensures.shared

use Rattle.hx_hop.proofs.Passed.{signs_added}
use Rattle.hx_hop.proofs.named_lines.NamePrefilter.add.Goals as goal

pub returns : goal.returns
returns c = signs_added c.args.name.now c.args.self.now record { firsts = c.add.new.self; buckets = c.add-2.new.self }
    c.add.ensures.taken c.add.ensures.within c.add.ensures.shared c.add.ensures.inside
    c.add-2.ensures.taken c.add-2.ensures.within c.add-2.ensures.shared c.add-2.ensures.inside

use Rattle.proxy_ends.proofs.Closings.{bounded_goes, goes_behind}
use Rattle.proxy_ends.proofs.clients.Clients.linger_after_close.Goals as goal

pub returns-clause-others : goal.returns-clause-others
returns-clause-others g c =
    let mid = c.move_to_queue.new.self in
    goes_behind c.args.key c.args.self.now.streams mid.streams c.drop_first.new.self.streams c.move_to_queue.ensures.others
    (bounded_goes c.args.key mid.queues.lingering mid.streams c.drop_first.new.self.streams c.drop_first.ensures)

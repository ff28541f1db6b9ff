use Rattle.std.proofs.Common.{◌≡◌, Some}
use Rattle.proxy_core.specs.Outcomes.{serial_of_stored_answer}
use Rattle.proxy_core.specs.Storing.{is_storable}
use Rattle.proxy_core.proofs.Storable.{given_is_next, next_of_pending}
use Rattle.proxy_core.proofs.core_state.Core.pass_on.Goals as goal

pub returns-in-Some-clause-next : goal.returns-in-Some-clause-next
returns-in-Some-clause-next g c =
    let s = c.args.self.now in
    let x = c.args.answer.now.exchange.now in
    let r = c.args.answer.now.response.now in
    let now = c.args.answer.now.response_time in
    let serial = c.in-Some.new_entry.serial in
    let given : Some serial ≡ serial_of_stored_answer s.table x r now s.next = rw c.in-Some.is at c.in_ok-rule.ensures.serial in
    next_of_pending c.pass_and_store.result s.next serial (given_is_next (is_storable s.table x r now s.next) s.next serial given) c.pass_and_store.ensures.next

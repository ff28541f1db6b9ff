use Rattle.std.proofs.Common.{◌≡◌, ◌<◌, ◌≤◌, ◌∙◌, length, ap, sym, subst, None, Some, arith}
use Rattle.proxy_store_file.specs.Streams.{ReaderIsRefusedFor, bounds_of, fault_of_stop, first_line_fault}
use Rattle.proxy_store_file.specs.Stores.{read_store}
use Rattle.proxy_store_file.proofs.ReadingSteps.{line_is_refused, opening_is_read, too_many_entries, stops_in_line, stops_in_next, stops_in_count}
use Rattle.proxy_store_file.proofs.opening.read_opening.Goals as goal

pub returns-in-Err-clause-fault : goal.returns-in-Err-clause-fault
returns-in-Err-clause-fault g c = λ most.
    rw c.fault_of_stop.ensures (stops_in_line (bounds_of c.args.capacity most) _ _ c.in-Err.stop c.in-Err.ensures.stop)

pub returns-in-Some-clause-fault : goal.returns-in-Some-clause-fault
returns-in-Some-clause-fault g c = λ most.
    let is : first_line_fault c.in-Ok.line.items ≡ Some c.in-Some.fault = ap first_line_fault (sym c.as_slice.ensures.value) ∙ (sym c.first_line_fault.ensures ∙ c.in-Some.is) in
    line_is_refused (bounds_of c.args.capacity most) _ _ _ _ c.in-Ok.line.items c.in-Some.fault c.in-Ok.ensures.ok c.in-Ok.ensures.all is

pub returns-in-Err-read_number-clause-fault : goal.returns-in-Err-read_number-clause-fault
returns-in-Err-read_number-clause-fault g c = λ most.
    let good : first_line_fault c.in-Ok.line.items ≡ None = ap first_line_fault (sym c.as_slice.ensures.value) ∙ (sym c.first_line_fault.ensures ∙ c.in_default.is) in
    rw c.fault_of_stop-in-Err-read_number.ensures
    (stops_in_next (bounds_of c.args.capacity most) _ _ _ _ _ c.in-Ok.line.items c.in-Err-read_number.stop c.in-Ok.ensures.ok c.in-Ok.ensures.all good c.in-Err-read_number.ensures.stop)

pub returns-in-Err-read_number-2-clause-fault : goal.returns-in-Err-read_number-2-clause-fault
returns-in-Err-read_number-2-clause-fault g c = λ most.
    let good : first_line_fault c.in-Ok.line.items ≡ None = ap first_line_fault (sym c.as_slice.ensures.value) ∙ (sym c.first_line_fault.ensures ∙ c.in_default.is) in
    rw c.fault_of_stop-in-Err-read_number-2.ensures
    (stops_in_count (bounds_of c.args.capacity most) _ _ _ _ _ _ _ c.in-Ok.line.items c.in-Ok-read_number.next c.in-Err-read_number-2.stop c.in-Ok.ensures.ok c.in-Ok.ensures.all good
    c.in-Ok-read_number.ensures.ok c.in-Err-read_number-2.ensures.stop)

pub returns-then-number-capacity-clause-fault : goal.returns-then-number-capacity-clause-fault
returns-then-number-capacity-clause-fault g c = λ most.
    let good : first_line_fault c.in-Ok.line.items ≡ None = ap first_line_fault (sym c.as_slice.ensures.value) ∙ (sym c.first_line_fault.ensures ∙ c.in_default.is) in
    let many : c.args.capacity < c.in-Ok-read_number-2.number = omega arith in
    too_many_entries (bounds_of c.args.capacity most) _ _ _ _ _ _ _ _ c.in-Ok.line.items c.in-Ok-read_number.next c.in-Ok-read_number-2.number c.in-Ok.ensures.ok c.in-Ok.ensures.all good
    c.in-Ok-read_number.ensures.ok c.in-Ok-read_number-2.ensures.ok many

pub returns-clause-ok : goal.returns-clause-ok
returns-clause-ok g c = λ most.
    let good : first_line_fault c.in-Ok.line.items ≡ None = ap first_line_fault (sym c.as_slice.ensures.value) ∙ (sym c.first_line_fault.ensures ∙ c.in_default.is) in
    let few : c.in-Ok-read_number-2.number ≤ c.args.capacity = omega arith in
    opening_is_read (bounds_of c.args.capacity most) _ _ _ _ _ _ _ _ c.in-Ok.line.items c.in-Ok-read_number.next c.in-Ok-read_number-2.number c.in-Ok.ensures.ok c.in-Ok.ensures.all good
    c.in-Ok-read_number.ensures.ok c.in-Ok-read_number-2.ensures.ok few

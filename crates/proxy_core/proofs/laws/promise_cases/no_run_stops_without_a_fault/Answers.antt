use Rattle.std.proofs.Common.{◌≡◌, inl, inr, Option, None, Some}
use Rattle.proxy_core.specs.declared.core_fault.CoreFault.{CoreFault}
use Rattle.proxy_core.specs.declared.core_fault.CoreFault.TheVariants.{IdTaken, NotForwarded, OutOfMemory, UnknownId}
use Rattle.proxy_core.proofs.laws.promise_cases.no_run_stops_without_a_fault.Goals as goal

pub returns-clause-behind_the_last : goal.returns-clause-behind_the_last
returns-clause-behind_the_last c = λ h. h

pub returns-clause-at_a_good_event : goal.returns-clause-at_a_good_event
returns-clause-at_a_good_event c (inl h) = let never : ◌≡◌ {A = Option CoreFault} None (Some IdTaken) = h in absurd (cc)
returns-clause-at_a_good_event c (inr h) = let never : IdTaken ≡ OutOfMemory = h.1 in absurd (cc)

pub returns-clause-by_another_fault : goal.returns-clause-by_another_fault
returns-clause-by_another_fault c (inl h) = let never : ◌≡◌ {A = Option CoreFault} (Some UnknownId) (Some NotForwarded) = h in absurd (cc)
returns-clause-by_another_fault c (inr h) = let never : NotForwarded ≡ OutOfMemory = h.1 in absurd (cc)

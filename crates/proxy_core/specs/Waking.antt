-- What was made ready for a request that is woken.
use Rattle.std.specs.Prelude.{◌≡◌, ℕ, List}
use Rattle.hx_allow.specs.TableLines.{Table}
use Rattle.hx_store.specs.Stored.{Stored}
use Rattle.hx_reuse.specs.declared.decision.Decision.{Decision}
use Rattle.hx_reuse.specs.declared.decision.Decision.TheVariants as decision
use Rattle.proxy_core.specs.declared.open.exchange.Exchange.{Exchange}
use Rattle.proxy_core.specs.declared.steps.waking.AfterWake.{AfterWake}
use Rattle.proxy_core.specs.declared.steps.waking.AfterWake.TheVariants.{Ends, GoesOut}
use Rattle.proxy_core.specs.Validating.{condition_to_revalidate_serial}
use Rattle.proxy_core.specs.Outcomes.{outcome_of_wake, forward_text}
use Rattle.proxy_core.specs.Pending.{outcome_of_pending_reply, ChangeOnlyKeepsOrUses}

-- a reply that sends what is held, or the rule, what it names, the conditions and the bytes with which the request goes
-- forward
abbrev pub AfterWakeMatchesDecision : Table → List Stored → ℕ → Exchange → Decision → AfterWake → Type 0
AfterWakeMatchesDecision table es now x (decision.Hit serial) (Ends p) =
    (outcome_of_pending_reply p ≡ outcome_of_wake table es now x (decision.Hit serial)) × ChangeOnlyKeepsOrUses p.change
AfterWakeMatchesDecision table es now x (decision.Forward rule against) (GoesOut q named condition bytes) =
    (q ≡ rule) × (named ≡ against) × (condition ≡ condition_to_revalidate_serial es against)
    × (bytes ≡ forward_text table x.line x.asked (condition_to_revalidate_serial es against))
AfterWakeMatchesDecision table es now x (decision.Hit serial) (GoesOut q named condition bytes) = ⊥
AfterWakeMatchesDecision table es now x (decision.Forward rule against) (Ends p) = ⊥

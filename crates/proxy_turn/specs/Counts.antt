-- Counts of calls, which stop at the greatest number.
--
-- CountRisesBy: a count rises      Calls, CallCountsRiseBy: the three counts of sockets, and how they rise
-- failed: 1 for a call that failed
use Rattle.std.specs.Prelude.{◌≡◌, ℕ, ◌+◌, ◌-◌, ◌^◌, ◌<◌, ◌≤◌, Result, Ok, Err}

-- a count rises by k, as far as it ends below the greatest number
pub record CountRisesBy (old new k : ℕ) : Type 0 where
  pub no_less : old ≤ new
  pub exact : new < 2 ^ 64 - 1 → new ≡ old + k

-- 1 for a call that failed
abbrev pub failed : {T E : Type 0} → Result T E → ℕ
failed (Ok _) = 0
failed (Err _) = 1

-- how often `accept` and `read` were called, and how many calls failed
pub record Calls : Type 0 where
  pub accepts : ℕ
  pub reads : ℕ
  pub failures : ℕ

abbrev pub calls : ℕ → ℕ → ℕ → Calls
calls accepts reads failures = record { accepts = accepts; reads = reads; failures = failures }

pub record CallCountsRiseBy (old new : Calls) (accepts reads failures : ℕ) : Type 0 where
  pub asked : CountRisesBy old.accepts new.accepts accepts
  pub read : CountRisesBy old.reads new.reads reads
  pub failed : CountRisesBy old.failures new.failures failures

-- Moments are whole Unix seconds below the year 10000.
use Rattle.std.specs.Prelude.{ℕ, nat_lt, Option, Some, None, cond}
use Rattle.hx_fields.specs.declared.limits.TheConstants.{START_OF_YEAR_10000}
use Rattle.proxy_core.specs.declared.core_fault.CoreFault.{CoreFault}
use Rattle.proxy_core.specs.declared.core_fault.CoreFault.TheVariants.{MomentTooLate}

-- the fault of a moment past them
abbrev pub moment_too_late_fault : ℕ → Option CoreFault
moment_too_late_fault now = cond (nat_lt now START_OF_YEAR_10000) None (Some MomentTooLate)

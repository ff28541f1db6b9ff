-- How a request that was read comes to the core, or why it is refused.
--
-- RequestIsAdmittedOrRefused: a request as it is asked, or why and how it is refused
-- asked_closing_if_retired, CoreIsHandedRequest: a request as the core sees it
use Rattle.std.specs.Prelude.{◌≡◌, Bool, ◌||◌, codes, bytes_eq, Result, Ok, Err}
use Rattle.hx_framing.specs.declared.messages.Request.{Request}
use Rattle.hx_hop.specs.declared.request_view.Asked.{Asked}
use Rattle.hx_hop.specs.Asking.{RequestIsReadAsAsked}
use Rattle.hx_target.specs.declared.target_fault.TargetFault.{TargetFault}
use Rattle.hx_status.specs.declared.cause.Cause.{Cause}
use Rattle.hx_status.specs.declared.cause.Cause.TheVariants as cause

-- why the proxy answers by itself, and whether it answers a HEAD
pub record Refusal : Type 0 where
  pub why : Cause
  pub head : Bool

-- a request arrives as it is asked for, if it names a resource; any other is refused
abbrev pub RequestIsAdmittedOrRefused : Request → Result Asked Refusal → Type 0
RequestIsAdmittedOrRefused r (Ok asked) = RequestIsReadAsAsked r (Ok asked)
RequestIsAdmittedOrRefused r (Err refusal) =
    (fault : TargetFault) × RequestIsReadAsAsked r (Err fault)
    × (refusal ≡ record { why = cause.Target fault; head = bytes_eq r.method (codes "HEAD") })

-- On a connection that is to end it is a request whose answer closes the connection, and says so, as if its client had
-- sent `Connection: close` (RFC 9112, section 9.6). On any other it stays as it is.
abbrev pub asked_closing_if_retired : Bool → Asked → Asked
asked_closing_if_retired retired asked = record asked { close = asked.close || retired }

-- what the core is handed of a request, where it names a resource
abbrev pub CoreIsHandedRequest : Bool → Request → Asked → Type 0
CoreIsHandedRequest retired r asked =
    (sent : Asked) × RequestIsAdmittedOrRefused r (Ok sent) × (asked ≡ asked_closing_if_retired retired sent)

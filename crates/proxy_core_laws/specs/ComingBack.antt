-- What becomes of a request that comes back to the proxy, by its Via (RFC 9110, section 7.6.3).
--
-- LoopedRequestWaitsForNobody: a request that was here before doesn't wait, so not for itself
-- EachForwardAddsOneVia: who goes forward names the proxy once more
use Rattle.std.specs.Prelude.{◌≡◌, ℕ, ◌+◌, Bool, true, List, [], ◌∷◌, ◌++◌, codes, Option}
use Rattle.hx_fields.specs.Line.{Field}
use Rattle.hx_hop.specs.declared.request_view.Asked.{Asked}
use Rattle.hx_hop.specs.declared.conditions.Conditions.{Conditions}
use Rattle.hx_hop.specs.Forwarding.{forwarded_of, line, via_text}
use Rattle.hx_allow.specs.TableLines.{Table}
use Rattle.hx_allow.specs.Tables.{is_name}
use Rattle.hx_allow.specs.Via.{times_in_via}
use Rattle.hx_allow.specs.declared.verdicts.Verdict.TheVariants.{Allowed}
use Rattle.hx_allow.specs.declared.verdicts.RouteOverLine.{RouteOverLine}
use Rattle.proxy_core.specs.declared.outcome.Outcome.TheVariants.{Waits}
use Rattle.proxy_core.specs.declared.event.Event.TheVariants.{Arrive}
use Rattle.proxy_core.specs.Allowing.{verdict_of_asked, is_refused_as_loop}
use Rattle.proxy_core.specs.Starts.{StoreAtStart}
use Rattle.proxy_core.specs.Traces.{Item}
use Rattle.proxy_core.specs.Histories.{IsGoodHistory}

-- over a line that refuses loops a request whose Via names the proxy waits for no answer
abbrev pub LoopedRequestWaitsForNobody : Type 0
LoopedRequestWaitsForNobody =
    (table : Table) (start : StoreAtStart) (first now id : ℕ) (line : RouteOverLine) (leader : ℕ)
    (asked : Asked)
    (item : Item) (past : List Item) → IsGoodHistory table start first (item ∷ past)
    → item.event ≡ Arrive now id asked → verdict_of_asked table asked ≡ Allowed line
    → is_refused_as_loop table line asked ≡ true → item.outcome ≡ Waits leader → ⊥

-- whatever goes forward ends with the proxy's own Via, by which it is named once more
abbrev pub EachForwardAddsOneVia : Type 0
EachForwardAddsOneVia = (keeps : Bool) (asked : Asked) (name : List ℕ) (conditions : Option Conditions)
    → is_name name ≡ true → (front : List Field)
    × ((forwarded_of keeps asked name conditions).fields ≡ front ++ line (codes "Via") (via_text asked.minor name) ∷ [])
    × (times_in_via name (forwarded_of keeps asked name conditions).fields ≡ times_in_via name front + 1)

-- A request that purges is an accepted step.
use Rattle.std.proofs.Common.{◌≡◌, ℕ, None, Option, List, length, map, sym, ◌∙◌, ap}
use Rattle.hx_hop.specs.Moments.{date_text_of}
use Rattle.hx_hop.specs.declared.request_view.Asked.{Asked}
use Rattle.hx_allow.specs.PurgeModes.{request_purge_mode_or_remove}
use Rattle.hx_allow.specs.declared.verdicts.Verdict.{Verdict}
use Rattle.hx_allow.specs.declared.verdicts.Verdict.TheVariants as verdict
use Rattle.hx_store.specs.Stored.{Stored}
use Rattle.proxy_core.specs.declared.open.exchange.Exchange.{Exchange}
use Rattle.proxy_core.specs.declared.outcome.Outcome.{Outcome}
use Rattle.proxy_core.specs.declared.event.Event.TheVariants.{Arrive}
use Rattle.proxy_core.specs.Allowing.{verdict_of_asked}
use Rattle.proxy_core.specs.Moments.{moment_too_late_fault}
use Rattle.proxy_core.specs.Replies.{purge_reply_text}
use Rattle.proxy_core.specs.Outcomes.{find_exchange, outcome_of_purge}
use Rattle.proxy_core.specs.Scopes.{scope_of_purge, serials_purged_by_request}
use Rattle.proxy_core.specs.State.{State, StepIsAccepted, state_after_event, bounds_of, entries_after_purge, exchange_overtaken_if_in_scope}
use Rattle.proxy_core.proofs.ExpiredEntries.{purge_leaves}
use Rattle.proxy_core.proofs.Stepping.{st, arrive_done}

pub purge_done : (s : State) (now id : ℕ) (asked : Asked) (line : ℕ) (o : Outcome) (t : State) → moment_too_late_fault now ≡ None → find_exchange id s.exchanges ≡ None → verdict.Purged line ≡ verdict_of_asked s.table asked →
    o ≡ outcome_of_purge s.entries now asked →
    t ≡ st s.table s.limit (entries_after_purge asked now s.entries) (map (exchange_overtaken_if_in_scope (scope_of_purge asked)) s.exchanges) s.next → StepIsAccepted s (Arrive now id asked) o t
purge_done s now id asked line o t early free judged is t_is =
    arrive_done s now id early asked (verdict.Purged line) o t free judged is
    (t_is
    ∙ ap (λ (es : List Stored). st s.table s.limit es (map (exchange_overtaken_if_in_scope (scope_of_purge asked)) s.exchanges) s.next)
    (sym (purge_leaves (bounds_of s.table s.limit) s.entries (find_exchange id s.exchanges) now id asked
    (purge_reply_text (date_text_of now) (length (serials_purged_by_request asked s.entries)) asked.close) asked.close (request_purge_mode_or_remove asked.fields) (serials_purged_by_request asked s.entries)))
    ∙ ap (λ (q : Outcome). state_after_event s (Arrive now id asked) q) (sym is))

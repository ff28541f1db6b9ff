-- A step, from what its parts say.
use Rattle.std.proofs.Common.{◌≡◌, inl, inr, ℕ, Bool, true, false, not, ◌||◌, eqb, cond, Option, None, Some, List, [], ◌∷◌, map, refl, sym, ◌∙◌, ap, subst}
use Rattle.std.specs.Prelude.{option_map}
use Rattle.std.specs.List.{filter}
use Rattle.std.proofs.lemmas.Bool.{eqb-true, cases_Bool}
use Rattle.std.proofs.lemmas.Option.{same_Some}
use Rattle.hx_framing.specs.declared.messages.Response.{Response}
use Rattle.hx_target.specs.declared.keys.Key.{Key}
use Rattle.hx_hop.specs.declared.request_view.Asked.{Asked}
use Rattle.hx_allow.specs.TableLines.{Table}
use Rattle.hx_allow.specs.Matching.{policy_of}
use Rattle.proxy_core.specs.Allowing.{verdict_of_asked}
use Rattle.hx_allow.specs.declared.verdicts.Verdict.{Verdict}
use Rattle.hx_store.specs.Stored.{Stored}
use Rattle.hx_store.specs.Serials.{serial_is_in}
use Rattle.hx_store.specs.Shelf.{without_serials}
use Rattle.hx_reuse.specs.Rules.{decision_of}
use Rattle.hx_status.specs.declared.cause.FailKind.{FailKind}
use Rattle.proxy_core.specs.declared.open.exchange.Exchange.{Exchange}
use Rattle.proxy_core.specs.declared.outcome.Outcome.{Outcome}
use Rattle.proxy_core.specs.declared.outcome.Outcome.TheVariants.{Forward}
use Rattle.proxy_core.specs.declared.event.Event.{Event}
use Rattle.proxy_core.specs.declared.event.Event.TheVariants.{Arrive, Answer, Fail, Wake}
use Rattle.proxy_core.specs.declared.replies.pending.PendingReply.{PendingReply}
use Rattle.proxy_core.specs.declared.core_fault.CoreFault.{CoreFault}
use Rattle.proxy_core.specs.Moments.{moment_too_late_fault}
use Rattle.proxy_core.specs.Storing.{key_invalidated}
use Rattle.proxy_core.specs.Outcomes.{find_exchange, fault_else, fault_if_not_forwarded, fault_if_not_released, fault_at_exchange, outcome_of_event_at_exchange, outcome_of_arrival, fallback_for_failed_answer, outcome_of_failure, outcome_of_answer, outcome_of_wake, forward_text}
use Rattle.hx_reuse.specs.declared.rule.ReuseRule.{ReuseRule}
use Rattle.hx_reuse.specs.declared.decision.Decision.{Decision}
use Rattle.hx_reuse.specs.declared.decision.Decision.TheVariants as decision
use Rattle.proxy_core.specs.Validating.{condition_to_revalidate_serial}
use Rattle.proxy_core.specs.Scopes.{Scope, scope_of_target_alone}
use Rattle.proxy_core.specs.State.{State, StepIsAccepted, state_after_event, entries_without_serials, entries_after_event, bounds_of, exchanges_after_exchange_end, target_invalidated_by_response, next_serial_after_storing, exchange_after_second_forward, exchange_sent_forward_if_of_id, exchanges_after_wake, rule_of_decision, serial_named_by_rule_of_decision}
use Rattle.proxy_core.specs.Pending.{serial_stored_by_change, outcome_of_pending_reply, state_after_reply, ChangeOnlyKeepsOrUses, HeldAfterReplyIsThatOfStep}
use Rattle.proxy_core.specs.Waking.{AfterWakeMatchesDecision}
use Rattle.proxy_core.specs.declared.steps.waking.AfterWake.TheVariants.{Ends}
use Rattle.proxy_core.proofs.Leaving.{fail_leaves, wake_leaves}

taken_rest : (s : ℕ) (rest : List ℕ) (es : List Stored) → without_serials rest (without_serials (s ∷ []) es) ≡ without_serials (s ∷ rest) es
taken_rest s rest [] = refl
taken_rest s rest (e ∷ es) =
    let P : Bool → Type 0 = λ b. filter (λ (f : Stored). not (serial_is_in f.serial rest)) (cond (not (b || false)) (e ∷ without_serials (s ∷ []) es) (without_serials (s ∷ []) es))
    ≡ cond (not (b || serial_is_in e.serial rest)) (e ∷ without_serials (s ∷ rest) es) (without_serials (s ∷ rest) es) in
    elim (eqb s e.serial) as P [
      | true ↦ taken_rest s rest es
      | false ↦ ap (λ (zs : List Stored). cond (not (serial_is_in e.serial rest)) (e ∷ zs) zs) (taken_rest s rest es)
    ]

-- what is taken out one by one is gone
pub taken_more : (s : ℕ) (rest : List ℕ) (es : List Stored) → entries_without_serials rest (without_serials (s ∷ []) es) ≡ entries_without_serials (s ∷ rest) es
taken_more s [] es = refl
taken_more s (t ∷ rest) es = taken_rest s (t ∷ rest) es

-- the exchange that is found has the id
find_id : (id : ℕ) (xs : List Exchange) (x : Exchange) → find_exchange id xs ≡ Some x → x.id ≡ id
find_id id [] x h = absurd (cc)
find_id id (y ∷ xs) x h = elim (cases_Bool (eqb y.id id)) [
  | inl t ↦ sym (ap (λ (z : Exchange). z.id) (same_Some y x (sym (ap (λ b. cond b (Some y) (find_exchange id xs)) t) ∙ h))) ∙ eqb-true y.id id t
  | inr n ↦ find_id id xs x (sym (ap (λ b. cond b (Some y) (find_exchange id xs)) n) ∙ h)
]

abbrev pub st : Table → ℕ → List Stored → List Exchange → Option ℕ → State
st table limit es xs next = record { table = table; limit = limit; entries = es; exchanges = xs; next = next }

module _ (s : State) (now id : ℕ) (early : moment_too_late_fault now ≡ None) where
  -- a request that arrived
  pub arrive_done : (asked : Asked) (v : Verdict) (o : Outcome) (t : State) → find_exchange id s.exchanges ≡ None → v ≡ verdict_of_asked s.table asked
      → o ≡ outcome_of_arrival s.table s.entries s.exchanges now asked v → t ≡ state_after_event s (Arrive now id asked) o → StepIsAccepted s (Arrive now id asked) o t
  arrive_done asked v o t free judged is leaves = record {
    allowed = ap (λ (x : Option Exchange). fault_at_exchange x (Arrive now id asked)) free ∙ early;
    outcome_is = is ∙ ap (λ (v : Verdict). outcome_of_arrival s.table s.entries s.exchanges now asked v) judged;
    leaves = leaves;
  }

  -- an exchange that an answer ends
  pub answer_done : (x : Exchange) (r : Response) (pending : PendingReply) (gone : Option Key) (o : Outcome) (t : State) → find_exchange id s.exchanges ≡ Some x → fault_if_not_forwarded x.stage ≡ None
      → outcome_of_pending_reply pending ≡ outcome_of_answer s.table s.entries now x r s.next (decision_of (policy_of s.table.lines x.line) s.entries x.asked now) → HeldAfterReplyIsThatOfStep (bounds_of s.table s.limit) s.entries x (Answer now x.id r) pending
      → gone ≡ key_invalidated x r → o ≡ outcome_of_pending_reply pending → t ≡ state_after_reply s id pending gone → StepIsAccepted s (Answer now id r) o t
  answer_done x r pending gone o t here stage reply leaves gone_is is t_is =
      let next = next_serial_after_storing s.next (serial_stored_by_change pending.change) in
      let event : Event = Answer now id r in
      let left : HeldAfterReplyIsThatOfStep (bounds_of s.table s.limit) s.entries x event pending = subst (λ (k : ℕ). HeldAfterReplyIsThatOfStep (bounds_of s.table s.limit) s.entries x (Answer now k r) pending) (find_id id s.exchanges x here) leaves in
      record {
        allowed = ap (λ (x : Option Exchange). fault_at_exchange x event) here ∙ (ap (λ (a : Option CoreFault). fault_else a (fault_if_not_forwarded x.stage)) early ∙ stage);
        outcome_is = is ∙ (reply ∙ ap (λ (x : Option Exchange). outcome_of_event_at_exchange s.table s.entries s.exchanges x s.next event) (sym here));
        leaves = t_is
            ∙ (ap (λ (es : List Stored). st s.table s.limit es (exchanges_after_exchange_end (option_map scope_of_target_alone gone) id s.exchanges) next)
            (left ∙ ap (λ (y : Option Exchange). entries_after_event (bounds_of s.table s.limit) s.entries y event (outcome_of_pending_reply pending)) (sym here))
            ∙ (ap (λ (key : Option Scope). st s.table s.limit (entries_after_event (bounds_of s.table s.limit) s.entries (find_exchange id s.exchanges) event (outcome_of_pending_reply pending)) (exchanges_after_exchange_end key id s.exchanges) next)
            (ap (option_map scope_of_target_alone) gone_is ∙ ap (λ (y : Option Exchange). target_invalidated_by_response y r) (sym here))
            ∙ ap (λ (q : Outcome). state_after_event s event q) (sym is)));
      }

  -- one whose request goes forward once more
  pub answer_again : (x : Exchange) (r : Response) (bytes : List ℕ) (o : Outcome) (t : State) → find_exchange id s.exchanges ≡ Some x → fault_if_not_forwarded x.stage ≡ None
      → Forward x.line bytes ≡ outcome_of_answer s.table s.entries now x r s.next (decision_of (policy_of s.table.lines x.line) s.entries x.asked now)
      → o ≡ Forward x.line bytes → t ≡ st s.table s.limit s.entries (map (exchange_after_second_forward id now) s.exchanges) s.next → StepIsAccepted s (Answer now id r) o t
  answer_again x r bytes o t here stage forward is t_is =
      let event : Event = Answer now id r in
      record {
        allowed = ap (λ (x : Option Exchange). fault_at_exchange x event) here ∙ (ap (λ (a : Option CoreFault). fault_else a (fault_if_not_forwarded x.stage)) early ∙ stage);
        outcome_is = is ∙ (forward ∙ ap (λ (x : Option Exchange). outcome_of_event_at_exchange s.table s.entries s.exchanges x s.next event) (sym here));
        leaves = t_is ∙ ap (λ (q : Outcome). state_after_event s event q) (sym is);
      }

  -- and one that failed
  pub fail_done : (x : Exchange) (kind : FailKind) (pending : PendingReply) (o : Outcome) (t : State) → find_exchange id s.exchanges ≡ Some x → fault_if_not_forwarded x.stage ≡ None
      → outcome_of_pending_reply pending ≡ outcome_of_failure s.table s.entries now x kind None (fallback_for_failed_answer (policy_of s.table.lines x.line) s.entries x.asked now (decision_of (policy_of s.table.lines x.line) s.entries x.asked now)) → ChangeOnlyKeepsOrUses pending.change
      → o ≡ outcome_of_pending_reply pending → t ≡ state_after_reply s id pending None → StepIsAccepted s (Fail now id kind) o t
  fail_done x kind pending o t here stage reply plain is t_is =
      let event : Event = Fail now id kind in
      record {
        allowed = ap (λ (x : Option Exchange). fault_at_exchange x event) here ∙ (ap (λ (a : Option CoreFault). fault_else a (fault_if_not_forwarded x.stage)) early ∙ stage);
        outcome_is = is ∙ (reply ∙ ap (λ (x : Option Exchange). outcome_of_event_at_exchange s.table s.entries s.exchanges x s.next event) (sym here));
        leaves = t_is
            ∙ (ap (λ (es : List Stored). st s.table s.limit es (exchanges_after_exchange_end None id s.exchanges) (next_serial_after_storing s.next (serial_stored_by_change pending.change)))
            (fail_leaves (bounds_of s.table s.limit) s.entries x now id kind pending plain ∙ ap (λ (y : Option Exchange). entries_after_event (bounds_of s.table s.limit) s.entries y event (outcome_of_pending_reply pending)) (sym here))
            ∙ ap (λ (q : Outcome). state_after_event s event q) (sym is));
      }

  -- a request that waited is answered from the store
  pub wake_done : (x : Exchange) (pending : PendingReply) (o : Outcome) (t : State) → find_exchange id s.exchanges ≡ Some x → fault_if_not_released x.stage ≡ None
      → outcome_of_pending_reply pending ≡ outcome_of_wake s.table s.entries now x (decision_of (policy_of s.table.lines x.line) s.entries x.asked now) → ChangeOnlyKeepsOrUses pending.change
      → o ≡ outcome_of_pending_reply pending → t ≡ state_after_reply s id pending None → StepIsAccepted s (Wake now id) o t
  wake_done x pending o t here stage reply plain is t_is =
      let event : Event = Wake now id in
      record {
        allowed = ap (λ (x : Option Exchange). fault_at_exchange x event) here ∙ (ap (λ (a : Option CoreFault). fault_else a (fault_if_not_released x.stage)) early ∙ stage);
        outcome_is = is ∙ (reply ∙ ap (λ (x : Option Exchange). outcome_of_event_at_exchange s.table s.entries s.exchanges x s.next event) (sym here));
        leaves = t_is
            ∙ (ap (λ (es : List Stored). st s.table s.limit es (exchanges_after_exchange_end None id s.exchanges) (next_serial_after_storing s.next (serial_stored_by_change pending.change)))
            (wake_leaves (bounds_of s.table s.limit) s.entries x now id pending plain ∙ ap (λ (y : Option Exchange). entries_after_event (bounds_of s.table s.limit) s.entries y event (outcome_of_pending_reply pending)) (sym here))
            ∙ ap (λ (q : Outcome). state_after_event s event q) (sym is));
      }

  -- by what was made ready for it
  pub wake_ends : (x : Exchange) (pending : PendingReply) (o : Outcome) (t : State) → find_exchange id s.exchanges ≡ Some x → fault_if_not_released x.stage ≡ None
      → AfterWakeMatchesDecision s.table s.entries now x (decision_of (policy_of s.table.lines x.line) s.entries x.asked now) (Ends pending)
      → o ≡ outcome_of_pending_reply pending → t ≡ state_after_reply s id pending None → StepIsAccepted s (Wake now id) o t
  wake_ends x pending o t here stage woken_is is t_is = by_decision (decision_of (policy_of s.table.lines x.line) s.entries x.asked now) refl woken_is
    where
      by_decision : (d : Decision) → decision_of (policy_of s.table.lines x.line) s.entries x.asked now ≡ d → AfterWakeMatchesDecision s.table s.entries now x d (Ends pending) → StepIsAccepted s (Wake now id) o t
      by_decision (decision.Hit serial) d w = wake_done x pending o t here stage (w.0 ∙ ap (λ (d : Decision). outcome_of_wake s.table s.entries now x d) (sym d)) w.1 is t_is
      by_decision (decision.Forward rule against) d w = absurd w

  -- or goes forward
  pub wake_out : (x : Exchange) (rule : ReuseRule) (against : Option ℕ) (o : Outcome) (t : State) → find_exchange id s.exchanges ≡ Some x → fault_if_not_released x.stage ≡ None
      → decision_of (policy_of s.table.lines x.line) s.entries x.asked now ≡ decision.Forward rule against
      → o ≡ Forward x.line (forward_text s.table x.line x.asked (condition_to_revalidate_serial s.entries against))
      → t ≡ st s.table s.limit s.entries (map (exchange_sent_forward_if_of_id id now rule against (condition_to_revalidate_serial s.entries against)) s.exchanges) s.next → StepIsAccepted s (Wake now id) o t
  wake_out x rule against o t here stage d is t_is =
      let event : Event = Wake now id in
      record {
        allowed = ap (λ (x : Option Exchange). fault_at_exchange x event) here ∙ (ap (λ (a : Option CoreFault). fault_else a (fault_if_not_released x.stage)) early ∙ stage);
        outcome_is = is ∙ (ap (λ (d : Decision). outcome_of_wake s.table s.entries now x d) (sym d) ∙ ap (λ (x : Option Exchange). outcome_of_event_at_exchange s.table s.entries s.exchanges x s.next event) (sym here));
        leaves = t_is
            ∙ (ap (λ (d : Decision). st s.table s.limit s.entries (map (exchange_sent_forward_if_of_id id now (rule_of_decision d) (serial_named_by_rule_of_decision d) (condition_to_revalidate_serial s.entries (serial_named_by_rule_of_decision d))) s.exchanges) s.next) (sym d)
            ∙ (ap (λ (w : Option Exchange). st s.table s.limit s.entries (exchanges_after_wake s.table s.entries id now w s.exchanges) s.next) (sym here)
            ∙ ap (λ (q : Outcome). state_after_event s event q) (sym is)));
      }

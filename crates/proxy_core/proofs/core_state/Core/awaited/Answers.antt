use Rattle.std.proofs.Common.{◌≡◌, sym, ◌∙◌, ap, subst, IfOk}
use Rattle.std.specs.Prelude.{ℕ, Option}
use Rattle.std.specs.Option.{option_copied, option_and_then}
use Rattle.hx_store.specs.Shelf.{find_entry_of_serial}
use Rattle.proxy_core.specs.State.{State}
use Rattle.proxy_core.specs.declared.open.awaited.Awaited.{Awaited}
use Rattle.proxy_core.proofs.Awaits.{awaited_where}
use Rattle.proxy_core.proofs.core_state.Core.awaited.Goals as goal
use Rattle.proxy_core.proofs.core_state.Core.awaited.Goals.{in-Some, in-None}

pub returns : goal.returns
returns g c =
    let s : State = c.args.self.now in
    elim c.match-judged.branch [
      | in-Some w ↦ (
          let found = ap option_copied w.chosen-is
          ∙ (w.peek-chosen.ensures ∙ (ap (λ (s : State). find_entry_of_serial w.in-Some.serial s.entries) c.self.view_is
          ∙ sym (ap (λ (n : Option ℕ). option_and_then (λ k. find_entry_of_serial k s.entries) n) w.in-Some.is))) in
          subst (λ (o : Option Awaited). IfOk c.response_awaited_by_request.result (λ a. a ≡ o))
          (awaited_where c.args.judged.policy s.entries c.args.asked.now c.args.now c.args.judged.rule c.args.judged.named (option_copied c.match-judged.chosen) c.requires.decided found) c.response_awaited_by_request.ensures
          )
      | in-None w ↦ (
          let found = ap option_copied w.chosen-is ∙ sym (ap (λ (n : Option ℕ). option_and_then (λ k. find_entry_of_serial k s.entries) n) w.in-None.is) in
          subst (λ (o : Option Awaited). IfOk c.response_awaited_by_request.result (λ a. a ≡ o))
          (awaited_where c.args.judged.policy s.entries c.args.asked.now c.args.now c.args.judged.rule c.args.judged.named (option_copied c.match-judged.chosen) c.requires.decided found) c.response_awaited_by_request.ensures
          )
    ]

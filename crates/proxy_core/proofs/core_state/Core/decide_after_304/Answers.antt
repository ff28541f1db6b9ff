use Rattle.std.proofs.Common.{rules, ◌≡◌, Some, None, ap, sym, ◌∙◌}
use Rattle.proxy_core.specs.State.{State, bounds_of, serials_removed_by_outcome}
use Rattle.proxy_core.specs.Validating.{freshened_may_be_kept, stored_response_validated_by_304}
use Rattle.proxy_core.proofs.Leaving.{validated_is, refresh_leaves, refresh_fits, retry_leaves}
use Rattle.proxy_core.proofs.core_state.Core.decide_after_304.Goals as goal

pub returns-in-Some-clause-leaves : goal.returns-in-Some-clause-leaves
returns-in-Some-clause-leaves g c =
    let s = c.args.self.now in
    let x = c.args.answer.now.exchange.now in
    let r = c.args.answer.now.response.now in
    let now = c.args.answer.now.response_time in
    let e = c.in-Some.entry.now in
    let f = c.in_ok-fresh-in-Some.fresh in
    let kept = freshened_may_be_kept s.table x r f in
    let here : stored_response_validated_by_304 s.entries x r now ≡ Some e = sym (c.in-Some.ensures ∙ ap (λ (z : State). stored_response_validated_by_304 z.entries x r now) c.self.view_is) in
    refresh_leaves (bounds_of s.table s.limit) s.entries x now x.id r e (validated_is s.entries x r now e here) kept f c.in_ok-pending-in-Some.pending
    c.in_ok-fresh-in-Some.ensures c.in_ok-pending-in-Some.ensures.change (ap serials_removed_by_outcome c.in_ok-pending-in-Some.ensures.outcome)

pub returns-in-Some-clause-fits : goal.returns-in-Some-clause-fits
returns-in-Some-clause-fits g c =
    let s = c.args.self.now in
    let x = c.args.answer.now.exchange.now in
    let r = c.args.answer.now.response.now in
    let now = c.args.answer.now.response_time in
    let e = c.in-Some.entry.now in
    let f = c.in_ok-fresh-in-Some.fresh in
    let kept = freshened_may_be_kept s.table x r f in
    let here : stored_response_validated_by_304 s.entries x r now ≡ Some e = sym (c.in-Some.ensures ∙ ap (λ (z : State). stored_response_validated_by_304 z.entries x r now) c.self.view_is) in
    refresh_fits (bounds_of s.table s.limit) s.entries x now x.id r e (validated_is s.entries x r now e here) c.same_keys_are_equal_records.ensures.itself s.next kept f c.in_ok-pending-in-Some.pending
    c.in_ok-fresh-in-Some.ensures c.in_ok-pending-in-Some.ensures.change

pub returns-clause-leaves : goal.returns-clause-leaves
returns-clause-leaves g c =
    let s = c.args.self.now in
    let x = c.args.answer.now.exchange.now in
    let r = c.args.answer.now.response.now in
    let now = c.args.answer.now.response_time in
    let none : stored_response_validated_by_304 s.entries x r now ≡ None = search rules in
    retry_leaves (bounds_of s.table s.limit) s.entries x now x.id r none c.reuse_or_go_on.result c.reuse_or_go_on.ensures.plain

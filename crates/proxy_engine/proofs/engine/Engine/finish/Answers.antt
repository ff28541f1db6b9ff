use Rattle.std.proofs.Common.{length, subst, ◌≡◌, ◌+◌, ◌^◌, nat_le, true, false, sym, ap, ◌∙◌, arith}
use Rattle.std.proofs.lemmas.Bool.{leb-true}
use Rattle.proxy_engine.specs.State.{State, LinkRepresents, link_result_at}
use Rattle.proxy_engine.specs.Actions.{IsFaultOfFinishingExchange}
use Rattle.proxy_engine.specs.declared.work.EngineFault.TheVariants.{OutOfMemory, Spent}
use Rattle.proxy_engine.proofs.Parts.{both_length}
use Rattle.proxy_engine.proofs.Changes.{finish_there}
use Rattle.proxy_engine.proofs.Stepping.{exhausted_failed, exhausted_found, memory_found}
use Rattle.proxy_engine.proofs.engine.Engine.finish.Goals.{else-has_no_link_number_left-via-then-has_no_link_number_left+else-is_answered, else-has_no_link_number_left-via-else-has_no_link_number_left}
use Rattle.proxy_engine.proofs.engine.Engine.finish.Goals as goal

pub at-requires : goal.at-requires
at-requires g c = finish_there _ (rw (← c.self.view_is) at c.requires.due)

pub returns-then-is_answered-clause-exhausted : goal.returns-then-is_answered-clause-exhausted
returns-then-is_answered-clause-exhausted g c = λ f shown.
    let here = ap link_result_at (sym c.at.ensures) ∙ (rw (← c.self.view_is) at shown) in
    subst (λ (e : State). IsFaultOfFinishingExchange (nat_le (2 ^ 64) (e.first + length e.links)) f Spent) c.self.view_is
    (exhausted_found _ f (sym c.has_no_link_number_left.ensures ∙ c.if-has_no_link_number_left.true) (sym (c.is_answered.ensures f here) ∙ c.if-is_answered.true))

pub returns-then-is_answered-clause-fault : goal.returns-then-is_answered-clause-fault
returns-then-is_answered-clause-fault g c = rw (← c.self.view_is) (
    λ s f shown due h.
    let here = ap link_result_at (sym c.at.ensures) ∙ shown in
    let links = both_length LinkRepresents c.self.inside.ends.links.items s.links h.links in
    let first_is : c.self.inside.ends.first_link ≡ s.first = h.first in
    let many = leb-true (2 ^ 64) (c.self.inside.ends.first_link + length c.self.inside.ends.links.items) (sym c.has_no_link_number_left.ensures ∙ c.if-has_no_link_number_left.true) in
    exhausted_failed s c.args.j f (sym (c.is_answered.ensures f here) ∙ c.if-is_answered.true) (omega (arith, many, links)) due
    )

pub returns-in-Err-clause-exhausted : goal.returns-in-Err-clause-exhausted
returns-in-Err-clause-exhausted g c = λ f shown.
    let there = rw (← c.self.view_is) at shown in
    subst (λ (e : State). IsFaultOfFinishingExchange (nat_le (2 ^ 64) (e.first + length e.links)) f OutOfMemory) c.self.view_is
    (memory_found _ f (λ may. elim c.else-has_no_link_number_left.branch [
      | else-has_no_link_number_left-via-then-has_no_link_number_left+else-is_answered w ↦
          let here = ap link_result_at (sym w.at.ensures) ∙ there in
          let yes : false ≡ true = sym w.if-is_answered.false ∙ (w.is_answered.ensures f here ∙ may) in
          absurd (cc)
      | else-has_no_link_number_left-via-else-has_no_link_number_left w ↦ sym c.has_no_link_number_left.ensures ∙ w.if-has_no_link_number_left.false
    ]))

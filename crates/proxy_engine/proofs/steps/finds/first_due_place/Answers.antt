use Rattle.std.proofs.Common.{◌∙◌, Result, Ok, Err, OnErr}
use Rattle.std.specs.Ordering.{nat_cmp}
use Rattle.std.specs.BTreeMap.{get}
use Rattle.proxy_engine.proofs.Marking.{marked_look, marked_dropped, none_before, least_there, alike_trans}
use Rattle.proxy_engine.proofs.steps.finds.first_due_place.Goals as goal

pub returns-then-branch-clause-alike : goal.returns-then-branch-clause-alike
returns-then-branch-clause-alike g c = alike_trans g.E.Endpoint.LooksLike g.met.E.Endpoint.looks_on (get nat_cmp c.args.ends.now) (get nat_cmp c.loop-place.ends) (get nat_cmp c.poll_at.new.ends) c.loop-place.invariant.alike c.poll_at.ensures.alike

pub returns-then-branch-clause-found : goal.returns-then-branch-clause-found
returns-then-branch-clause-found g c =
    let first = c.in-Some.ensures.some in
    let marked = marked_look g.E.Endpoint.may_show g.E.Endpoint.LooksLike (get nat_cmp c.loop-place.ends) (get nat_cmp c.poll_at.new.ends) _ _ c.loop-place.marked c.in-Some.place c.loop-place.invariant.marked first c.poll_at.ensures.others c.poll_at.ensures.alike c.poll_at.ensures.size in rw c.at.ensures (
      c.in_ok-poll_at.ensures.yes c.if-branch.true,
      none_before g.E.Endpoint.may_show (get nat_cmp c.poll_at.new.ends) _ c.loop-place.marked c.in-Some.place marked first,
      c.loop-place.invariant.fewer c.in-Some.place (least_there c.loop-place.marked.places c.in-Some.place first),
    )

pub loop-place-preserved : goal.loop-place-preserved
loop-place-preserved g c =
    let first = c.in-Some.ensures.some in
    let drops = c.drop_least.ensures in
    let marked = marked_look g.E.Endpoint.may_show g.E.Endpoint.LooksLike (get nat_cmp c.loop-place.ends) (get nat_cmp c.poll_at.new.ends) _ _ c.loop-place.marked c.in-Some.place c.loop-place.invariant.marked first c.poll_at.ensures.others c.poll_at.ensures.alike c.poll_at.ensures.size in
    record {
      marked = marked_dropped g.E.Endpoint.may_show (get nat_cmp c.poll_at.new.ends) _ c.loop-place.marked c.drop_least.new.self c.in-Some.place marked first (c.in_ok-poll_at.ensures.no c.if-branch.false) drops.others drops.only drops.room drops.rises;
      fewer = λ q there. c.loop-place.invariant.fewer q (drops.only c.in-Some.place q first there).1;
      alike = alike_trans g.E.Endpoint.LooksLike g.met.E.Endpoint.looks_on (get nat_cmp c.args.ends.now) (get nat_cmp c.loop-place.ends) (get nat_cmp c.poll_at.new.ends) c.loop-place.invariant.alike c.poll_at.ensures.alike;
      size = c.poll_at.ensures.size ∙ c.loop-place.invariant.size;
    }

any_err : {A E : Type 0} (r : Result A E) (P : Type 0) → P → OnErr r P
any_err (Ok a) P p = tt
any_err (Err e) P p = p

pub returns-in_err-poll_at-clause-failed : goal.returns-in_err-poll_at-clause-failed
returns-in_err-poll_at-clause-failed g c =
    let first = c.in-Some.ensures.some in
    let marked = marked_look g.E.Endpoint.may_show g.E.Endpoint.LooksLike (get nat_cmp c.loop-place.ends) (get nat_cmp c.poll_at.new.ends) _ _ c.loop-place.marked c.in-Some.place c.loop-place.invariant.marked first c.poll_at.ensures.others c.poll_at.ensures.alike c.poll_at.ensures.size in
    any_err c.from_residual.result _ (
      c.in-Some.place,
      c.in_err-poll_at.ensures.failed,
      none_before g.E.Endpoint.may_show (get nat_cmp c.poll_at.new.ends) _ c.loop-place.marked c.in-Some.place marked first,
      c.loop-place.invariant.fewer c.in-Some.place (least_there c.loop-place.marked.places c.in-Some.place first),
    )

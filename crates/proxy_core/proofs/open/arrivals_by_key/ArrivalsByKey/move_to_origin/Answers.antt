use Rattle.std.proofs.Common.{◌≡◌, Bool, true, false, not, ◌&&◌, ◌||◌, eqb, refl, sym, ◌∙◌, ap}
use Rattle.hx_target.specs.Keys.{same_key}
use Rattle.proxy_core.specs.ByKey.{is_get_not_at_origin, arrival_is_in_key_index}
use Rattle.proxy_core.proofs.open.arrivals_by_key.ArrivalsByKey.move_to_origin.Goals as goal

pub returns-in_err-insert-clause-trim : goal.returns-in_err-insert-clause-trim
returns-in_err-insert-clause-trim c o = (c.insert.ensures.trim o.0, o.1)

pub returns-clause-trim : goal.returns-clause-trim
returns-clause-trim c o = (c.insert.ensures.trim o.0, c.remove.ensures.trim o.1)

-- at each key, since it is a GET that isn't at the origin
here : (a b : Bool) → b ≡ true → a ≡ (a && b)
here a b t = sym (ap (λ c. a && c) t ∙ (elim a as (λ a. (a && true) ≡ a) [ true ↦ refl | false ↦ refl ]))

pub returns-clause-ok : goal.returns-clause-ok
returns-clause-ok c =
    let x = c.args.exchange.now in
    let n = c.args.arrival in
    let moves : is_get_not_at_origin x ≡ true = sym c.is_get_not_at_origin.ensures ∙ c.if-not-is_get_not_at_origin.false in (
      λ q m. c.in_ok-insert.ensures.ok q m ∙ ap (λ b. (b && eqb n m) || arrival_is_in_key_index c.args.self.now.gets q m) (here (same_key x.asked.target.key q) (is_get_not_at_origin x) moves),
      λ q m. c.remove.ensures.taken q m ∙ ap (λ b. not (b && eqb n m) && arrival_is_in_key_index c.args.self.now.others q m) (here (same_key x.asked.target.key q) (is_get_not_at_origin x) moves),
    )

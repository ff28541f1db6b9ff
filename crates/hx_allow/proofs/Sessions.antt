-- A request that is allowed goes over the line that its method and target say, and past the store by its cookies.
use Rattle.std.proofs.Common.{◌≡◌, ℕ, Bool, true, false, cond, List, [], ◌∷◌, refl, sym, ◌∙◌, ap, subst}
use Rattle.std.specs.Prelude.{◌&&◌}
use Rattle.hx_fields.specs.Line.{Field}
use Rattle.hx_target.specs.declared.targets.Target.{Target}
use Rattle.hx_allow.specs.Cookies.{has_cookie_among}
use Rattle.hx_allow.specs.TableLines.{Table}
use Rattle.hx_allow.specs.Matching.{route_over_line, verdict_of, line_refuses_loops, verdict_after_loop_check, session_cookies_of, request_has_session_cookie_of_line, verdict_routed_by_session_cookies, verdict_of_request}
use Rattle.hx_allow.specs.Via.{via_names_proxy_twice}
use Rattle.hx_allow.specs.declared.verdicts.RouteOverLine.{RouteOverLine}
use Rattle.hx_allow.specs.declared.verdicts.Verdict.{Verdict}
use Rattle.hx_allow.specs.declared.verdicts.Verdict.TheVariants.{Allowed, DeniedBy, NoLine, Looped, Purged}
use Rattle.hx_allow.proofs.Purging.{allowed_within}
use Rattle.hx_allow.proofs.CookieLines.{without_names, over_its_line}

module _ (table : Table) (method : List ℕ) (target : Target) (fields : List Field) where
  -- what the line says of a route that is allowed
  record Goes (route : RouteOverLine) : Type 0 where
    pub before : RouteOverLine
    pub told : verdict_of table.lines method target ≡ Allowed before
    pub is : route ≡ record { number = before.number; past_store = request_has_session_cookie_of_line table.lines before.number fields }

  same_route : (a b : RouteOverLine) → Allowed a ≡ Allowed b → a ≡ b
  same_route a b e = cc

  goes : (route : RouteOverLine) → verdict_of_request table method target fields ≡ Allowed route → Goes route
  unfolding verdict_of_request
  goes route e =
      by_verdict (verdict_of table.lines method target) refl
      (allowed_within table.lines fields (verdict_routed_by_session_cookies table.lines fields (verdict_after_loop_check table.lines loops (verdict_of table.lines method target))) route e)
    where
      loops : Bool
      loops = via_names_proxy_twice table.name fields

      by_test : (k : RouteOverLine) → verdict_of table.lines method target ≡ Allowed k → (refused : Bool) → verdict_routed_by_session_cookies table.lines fields (cond refused (Looped k.number) (Allowed k)) ≡ Allowed route → Goes route
      by_test k told true e = cc
      by_test k told false e = record { before = k; told = told; is = sym (same_route (record { number = k.number; past_store = request_has_session_cookie_of_line table.lines k.number fields }) route e) }

      by_verdict : (v : Verdict) → verdict_of table.lines method target ≡ v → verdict_routed_by_session_cookies table.lines fields (verdict_after_loop_check table.lines loops v) ≡ Allowed route → Goes route
      by_verdict (Allowed k) told e = by_test k told (line_refuses_loops table.lines k.number && loops) e
      by_verdict (DeniedBy n) told e = cc
      by_verdict NoLine told e = cc
      by_verdict (Looped n) told e = cc
      by_verdict (Purged n) told e = cc

  pub by_its_cookies : (route : RouteOverLine) → verdict_of_request table method target fields ≡ Allowed route → route.past_store ≡ has_cookie_among (session_cookies_of table.lines route.number) fields
  by_its_cookies route e =
      let g = goes route e in
      subst (λ (r : RouteOverLine). r.past_store ≡ has_cookie_among (session_cookies_of table.lines r.number) fields) (sym g.is) refl

  pub over_the_same_line : (route : RouteOverLine) → verdict_of_request table method target fields ≡ Allowed route → verdict_of table.lines method target ≡ Allowed (route_over_line route.number)
  over_the_same_line route e =
      let g = goes route e in
      g.told ∙ ap Allowed (over_its_line table.lines method target g.before g.told) ∙ ap (λ (r : RouteOverLine). Allowed (route_over_line r.number)) (sym g.is)

  pub as_before : (route : RouteOverLine) → session_cookies_of table.lines route.number ≡ [] → verdict_of_request table method target fields ≡ Allowed route → route ≡ route_over_line route.number
  as_before route none e =
      let past : route.past_store ≡ false = by_its_cookies route e ∙ ap (λ names. has_cookie_among names fields) none ∙ without_names fields in
      ap (λ p. record { number = route.number; past_store = p }) past

use Rattle.std.proofs.Common.{rules, arith, ◌≡◌, ◌-◌, Bool, true, ap, drop, get_or, subst, sym, ◌∙◌}
use Rattle.std.specs.List.{filter}
use Rattle.hx_target.specs.Keys.{same_key}
use Rattle.hx_vary.specs.Vary.{vary_matches}
use Rattle.hx_store.specs.Serials.{SerialsAreDistinct, insert_ascending}
use Rattle.hx_store.specs.Shelf.{ShelfModel, serials, serials_of_key}
use Rattle.hx_store.specs.Stored.{Stored}
use Rattle.hx_store.proofs.MatchLists.{drop_before, walk_step, walked}
use Rattle.hx_store.proofs.list_shelf.ListShelfShelf.find_matching_serials.Goals as goal

pub loop-rest-preserved-then-branch : goal.loop-rest-preserved-then-branch
loop-rest-preserved-then-branch c =
    let es = c.args.self.now.entries in
    let n = c.loop-rest.rest in
    let e = c.index-entry.result.now in
    let key = c.args.key.now in
    let request = c.args.request.now in
    let same : c.self.inside.entries.items ≡ es = ap (λ (v : ShelfModel). v.entries) c.self.view_is in
    let at : e ≡ get_or es (n - 1) e = c.index-entry.ensures ∙ ap (λ zs. get_or zs (n - 1) e) same in
    let more : c.insert.new.self ≡ insert_ascending e.serial c.loop-rest.found = search rules in
    let of_key : same_key e.key key ≡ true = search rules in
    let is_match : vary_matches e.nominated request ≡ true = search rules in
    record {
      within = omega (arith, c.loop-rest.invariant.within);
      so_far = more ∙ ap (insert_ascending e.serial) c.loop-rest.invariant.so_far ∙ walk_step key request e (drop n es) of_key is_match
          ∙ ap (λ zs. serials_of_key key (filter (λ (f : Stored). vary_matches f.nominated request) zs))
          (sym (drop_before es n e c.loop-rest-test.true c.loop-rest.invariant.within at));
    }

pub returns-clause-found : goal.returns-clause-found
returns-clause-found c =
    let es = c.args.self.now.entries in
    let key = c.args.key.now in
    let request = c.args.request.now in
    let here : Stored → Bool = λ f. vary_matches f.nominated request in
    let distinct : SerialsAreDistinct (serials es) = subst (λ (v : ShelfModel). SerialsAreDistinct (serials v.entries)) c.self.view_is c.self.invariant.1 in
    let none : c.loop-rest.rest ≡ 0 = omega (arith, c.loop-rest-test.false) in
    c.loop-rest.invariant.so_far ∙ ap (λ m. serials_of_key key (filter here (drop m es))) none ∙ walked key request es distinct

use Rattle.std.proofs.Common.{◌≡◌, ap, sym, ◌∙◌, List, ℕ}
use Rattle.std.proofs.lemmas.Result.{IfOk-weaker}
use Rattle.hx_allow.specs.declared.purges.PurgeScope.{PurgeScope}
use Rattle.hx_store.specs.Shelf.{serials_of_key}
use Rattle.hx_store.proofs.PassingEntries.{of_the_key}
use Rattle.proxy_core.specs.Scopes.{scope_without_tag, serials_within_scope}
use Rattle.proxy_core.proofs.steps.purging.find_by_key.Goals as goal

-- what is found of a key is what is within the scope of its target
pub returns-in-Target : goal.returns-in-Target
returns-in-Target g c =
    let es = g.S.Shelf.entries c.args.shelf.now in
    let key = c.args.asked.now in
    IfOk-weaker c.find.result (λ found. found ≡ serials_of_key key es) _
    (λ found is. is ∙ sym (of_the_key key es) ∙ ap (λ (reach : PurgeScope). serials_within_scope (scope_without_tag reach key) es) (sym c.in-Target.is))
    c.find.ensures.found

-- What a purge takes by its target, and by its tag.
use Rattle.std.proofs.Common.{◌≡◌, ◌&&◌, ◌||◌, ℕ, Bool, true, false, cond, Option, None, Some, List, [], ◌∷◌, filter, map, refl, sym, ◌∙◌, ap}
use Rattle.std.specs.Prelude.{codes, unwrap_or}
use Rattle.std.proofs.lemmas.Bool.{false≢true}
use Rattle.hx_fields.specs.Line.{Field}
use Rattle.hx_fields.specs.FieldLines.{has_field, is_named, values_of}
use Rattle.hx_hop.specs.declared.request_view.Asked.{Asked}
use Rattle.hx_target.specs.declared.keys.Key.{Key}
use Rattle.hx_allow.specs.declared.purges.PurgeScope.{PurgeScope}
use Rattle.hx_allow.specs.Purges.{is_in_purge_scope, purge_scope_of_values, default_purge_scope, purge_scope_of_request}
use Rattle.hx_allow.specs.Tags.{response_names_tag, is_purged_by_tag_if_any, purge_tag_of_values, purge_tag_or_none}
use Rattle.hx_allow.specs.declared.purges.PurgeScope.TheVariants.{Target, All}
use Rattle.hx_store.specs.Shelf.{serials_of_key, serials_of_entries_that_pass}
use Rattle.hx_store.specs.Stored.{Stored}
use Rattle.hx_store.proofs.PassingEntries.{of_the_key}
use Rattle.proxy_core.specs.declared.open.exchange.Exchange.{Exchange}
use Rattle.proxy_core.specs.Scopes.{is_purged_by_request, scope_without_tag, serials_purged_by_request}
use Rattle.proxy_core.specs.State.{exchange_overtaken_if_in_scope}

no_values : (name : List ℕ) (fields : List Field) → has_field fields name ≡ false → values_of fields name ≡ []
no_values name [] none = refl
no_values name (f ∷ fields) none = by_test (is_named name f) (no_values name fields) none
  where
    others : List Field
    others = filter (is_named name) fields

    by_test : (t : Bool) → (has_field fields name ≡ false → values_of fields name ≡ []) → (t || has_field fields name) ≡ false
        → map (λ (g : Field). g.value) (cond t (f ∷ others) others) ≡ []
    by_test true later h = absurd (false≢true (sym h))
    by_test false later h = later h

pub its_target : (asked : Asked) (es : List Stored) → values_of asked.fields (codes "Purge-Scope") ≡ [] → has_field asked.fields (codes "Purge-Tag") ≡ false
    → serials_purged_by_request asked es ≡ serials_of_key asked.target.key es
its_target asked es none no_tag =
    ap (λ (values : List (List ℕ)). serials_of_entries_that_pass (λ (e : Stored). is_purged_by_tag_if_any (purge_tag_or_none asked.fields) e.fields && is_in_purge_scope (unwrap_or (purge_scope_of_values (default_purge_scope asked.fields) values) Target) asked.target.key e.key) es) none
    ∙ (ap (λ b. serials_of_entries_that_pass (λ (e : Stored). is_purged_by_tag_if_any (purge_tag_or_none asked.fields) e.fields && is_in_purge_scope (cond b All Target) asked.target.key e.key) es) no_tag
    ∙ (ap (λ (values : List (List ℕ)). serials_of_entries_that_pass (λ (e : Stored). is_purged_by_tag_if_any (unwrap_or (purge_tag_of_values values) None) e.fields && is_in_purge_scope Target asked.target.key e.key) es)
    (no_values (codes "Purge-Tag") asked.fields no_tag)
    ∙ of_the_key asked.target.key es))

-- a request that asks for a tag has its line
has_its_line : (fields : List Field) (tag : List ℕ) → purge_tag_or_none fields ≡ Some tag → has_field fields (codes "Purge-Tag") ≡ true
has_its_line fields tag is = by_test (has_field fields (codes "Purge-Tag")) refl
  where
    by_test : (t : Bool) → has_field fields (codes "Purge-Tag") ≡ t → t ≡ true
    by_test true e = refl
    by_test false e =
        let never : None ≡ Some tag = sym (ap (λ (values : List (List ℕ)). unwrap_or (purge_tag_of_values values) None) (no_values (codes "Purge-Tag") fields e)) ∙ is in
        cc

and_true : (b : Bool) → (b && true) ≡ b
and_true true = refl
and_true false = refl

pub its_tag : (asked : Asked) (tag : List ℕ) (e : Stored) → values_of asked.fields (codes "Purge-Scope") ≡ [] → purge_tag_or_none asked.fields ≡ Some tag
    → is_purged_by_request asked e ≡ response_names_tag tag e.fields
its_tag asked tag e none is =
    ap (λ (values : List (List ℕ)). is_purged_by_tag_if_any (purge_tag_or_none asked.fields) e.fields && is_in_purge_scope (unwrap_or (purge_scope_of_values (default_purge_scope asked.fields) values) Target) asked.target.key e.key) none
    ∙ (ap (λ b. is_purged_by_tag_if_any (purge_tag_or_none asked.fields) e.fields && is_in_purge_scope (cond b All Target) asked.target.key e.key) (has_its_line asked.fields tag is)
    ∙ (ap (λ (o : Option (List ℕ)). is_purged_by_tag_if_any o e.fields && true) is
    ∙ and_true (response_names_tag tag e.fields)))

-- what is on its way is overtaken by its key, whatever the tag
pub overtaken_whatever_the_tag : (reach : PurgeScope) (asked : Key) (tag : Option (List ℕ)) (xs : List Exchange)
    → map (exchange_overtaken_if_in_scope (scope_without_tag reach asked)) xs ≡ map (exchange_overtaken_if_in_scope (record { reach = reach; asked = asked; tag = tag })) xs
overtaken_whatever_the_tag reach asked tag [] = refl
overtaken_whatever_the_tag reach asked tag (x ∷ xs) = ap (λ (ys : List Exchange). exchange_overtaken_if_in_scope (scope_without_tag reach asked) x ∷ ys) (overtaken_whatever_the_tag reach asked tag xs)

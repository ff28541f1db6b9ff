-- Where no cookie stands, or none is removed, all lines stay; so where no tag stands, or none is hidden.
use Rattle.std.proofs.Common.{◌≡◌, ℕ, ◌&&◌, ◌||◌, Bool, true, false, not, cond, List, [], ◌∷◌, refl, sym, ap}
use Rattle.std.specs.Prelude.{codes}
use Rattle.hx_fields.specs.Line.{Field}
use Rattle.hx_fields.specs.FieldLines.{has_field, is_named, without_named}
use Rattle.hx_store.specs.Stored.{Stored}
use Rattle.proxy_core.specs.declared.open.exchange.Exchange.{Exchange}
use Rattle.proxy_core.specs.Replies.{fields_without_hidden_tags}
use Rattle.proxy_core.specs.Validating.{stored_without_cookies, without_set_cookie_if}

others_stay : (name : List ℕ) (fields : List Field) → has_field fields name ≡ false → without_named fields name ≡ fields
others_stay name [] none = refl
others_stay name (f ∷ fields) none = by_test (is_named name f) (others_stay name fields) none
  where
    by_test : (t : Bool) → (has_field fields name ≡ false → without_named fields name ≡ fields) → t || has_field fields name ≡ false
        → cond (not t) (f ∷ without_named fields name) (without_named fields name) ≡ f ∷ fields
    by_test true later h = absurd cc
    by_test false later h = ap (λ (fs : List Field). f ∷ fs) (later h)

pub none_removed : (removes : Bool) (fields : List Field) → (removes && has_field fields (codes "Set-Cookie")) ≡ false → without_set_cookie_if removes fields ≡ fields
none_removed true fields none = others_stay (codes "Set-Cookie") fields none
none_removed false fields none = refl

-- the same of tags
pub none_hidden : (hides : Bool) (fields : List Field) → (hides && has_field fields (codes "Cache-Tag")) ≡ false → fields_without_hidden_tags hides fields ≡ fields
none_hidden true fields none = others_stay (codes "Cache-Tag") fields none
none_hidden false fields none = refl

pub stays_whole : (x : Exchange) (e : Stored) → (x.removes_set_cookie && has_field e.fields (codes "Set-Cookie")) ≡ false → e ≡ stored_without_cookies x e
stays_whole x e none = ap (λ (fields : List Field). record e { fields = fields }) (sym (none_removed x.removes_set_cookie e.fields none))

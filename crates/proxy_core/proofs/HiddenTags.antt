-- No tag is left among the lines of an answer, where tags are hidden.
use Rattle.std.proofs.Common.{◌≡◌, ◌||◌, Bool, true, false, not, cond, ℕ, List, [], ◌∷◌, ◌++◌, refl, sym, ◌∙◌, ap}
use Rattle.std.specs.Prelude.{codes}
use Rattle.std.specs.List.{list_any}
use Rattle.std.proofs.lemmas.Bool.{false≢true}
use Rattle.std.proofs.lemmas.List.Folds.{list_any-append}
use Rattle.hx_fields.specs.Line.{Field}
use Rattle.hx_fields.specs.FieldLines.{has_field, is_named, without_named}
use Rattle.proxy_core.specs.Replies.{fields_without_hidden_tags}

none_left : (name : List ℕ) (fields : List Field) → has_field (without_named fields name) name ≡ false
none_left name [] = refl
none_left name (f ∷ fields) = by_test (is_named name f) refl (none_left name fields)
  where
    by_test : (t : Bool) → is_named name f ≡ t → has_field (without_named fields name) name ≡ false
        → has_field (cond (not t) (f ∷ without_named fields name) (without_named fields name)) name ≡ false
    by_test true is rest = rest
    by_test false is rest = ap (λ b. b || has_field (without_named fields name) name) is ∙ rest

pub none_shown : (hides : Bool) (fields : List Field) → hides ≡ true → has_field (fields_without_hidden_tags hides fields) (codes "Cache-Tag") ≡ false
none_shown true fields h = none_left (codes "Cache-Tag") fields
none_shown false fields h = absurd (false≢true h)

-- nor behind a line of another name
pub none_behind : (fields : List Field) (f : Field) → has_field fields (codes "Cache-Tag") ≡ false → is_named (codes "Cache-Tag") f ≡ false → has_field (fields ++ f ∷ []) (codes "Cache-Tag") ≡ false
none_behind fields f none other =
    list_any-append (is_named (codes "Cache-Tag")) fields (f ∷ [])
    ∙ (ap (λ b. b || (is_named (codes "Cache-Tag") f || false)) none ∙ ap (λ b. b || false) other)

pub all_shown : (hides : Bool) (fields : List Field) → hides ≡ false → fields_without_hidden_tags hides fields ≡ fields
all_shown true fields h = absurd (false≢true (sym h))
all_shown false fields h = refl

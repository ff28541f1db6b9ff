-- A line of Set-Cookie is of no other name, so the others stay where those are taken out.
use Rattle.std.proofs.Common.{◌≡◌, ℕ, Bool, true, false, not, ◌||◌, List, refl, ap, ◌∙◌}
use Rattle.std.specs.Prelude.{bytes_eq, codes, filter, map}
use Rattle.std.specs.List.{list_any}
use Rattle.std.specs.Str.{str_to_ascii_lowercase}
use Rattle.hx_fields.specs.Line.{Field}
use Rattle.hx_fields.specs.FieldLines.{is_named, values_of}
use Rattle.hx_fields.specs.Names.{is_same_name, joined_lists, members_of_value}
use Rattle.hx_hop.proofs.Lines.{filter_keeps, same_lower}
use Rattle.hx_vary.specs.Vary.{exceeds_most_vary_names, vary_counts_as_star, is_star_member}
use Rattle.proxy_core.specs.Validating.{without_set_cookie_if}

abbrev pub cookie : List ℕ
cookie = codes "Set-Cookie"

pub other_than : (own name : List ℕ) (f : Field) → is_same_name own name ≡ false → is_named own f ≡ true → is_named name f ≡ false
other_than own name f isnt is = ap (λ low. bytes_eq low (str_to_ascii_lowercase name)) (same_lower f.name own is) ∙ isnt

pub other_name : (name : List ℕ) (f : Field) → is_same_name cookie name ≡ false → is_named cookie f ≡ true → is_named name f ≡ false
other_name name f isnt is = other_than cookie name f isnt is

-- nor the other way round
stays_there : (name : List ℕ) (f : Field) → is_same_name name cookie ≡ false → is_named name f ≡ true → not (is_named cookie f) ≡ true
stays_there name f isnt is = ap not (ap (λ low. bytes_eq low (str_to_ascii_lowercase cookie)) (same_lower f.name name is) ∙ isnt)

values_stay : (removes : Bool) (fields : List Field) → values_of (without_set_cookie_if removes fields) (codes "Vary") ≡ values_of fields (codes "Vary")
values_stay true fields = ap (map (λ (f : Field). f.value)) (filter_keeps (λ f. not (is_named cookie f)) (is_named (codes "Vary")) (λ f is. stays_there (codes "Vary") f refl is) fields)
values_stay false fields = refl

pub star_stays : (removes : Bool) (fields : List Field) → vary_counts_as_star (without_set_cookie_if removes fields) ≡ vary_counts_as_star fields
star_stays removes fields =
    ap (λ (values : List (List ℕ)). exceeds_most_vary_names (joined_lists (map members_of_value values)) || list_any is_star_member (joined_lists (map members_of_value values))) (values_stay removes fields)

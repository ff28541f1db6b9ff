-- Which ranges are filled, and what goes forward for them.
use Rattle.std.proofs.Common.{◌≡◌, inl, Bool, true, false, cond, List, [], ◌∷◌, codes, refl, ap, sym, ◌∙◌}
use Rattle.std.specs.Prelude.{ℕ, not, ◌&&◌, ◌||◌, bytes_eq, filter, map}
use Rattle.std.specs.List.{list_any}
use Rattle.std.specs.Str.{str_to_ascii_lowercase}
use Rattle.std.proofs.lemmas.Slice.Eq.{bytes_eq-Decides}
use Rattle.hx_fields.specs.Line.{Field}
use Rattle.hx_fields.specs.FieldLines.{has_field, is_named, values_of, without_named}
use Rattle.hx_fields.specs.Names.{is_same_name}
use Rattle.hx_hop.specs.declared.request_view.Asked.{Asked}
use Rattle.hx_hop.specs.Bypass.{request_has_content, asks_for_range, has_precondition_for_origin}
use Rattle.hx_hop.proofs.Lines.{filter_keeps, list_any_fewer, list_any_none_left, not_true, same_lower}
use Rattle.hx_reuse.specs.FilledRanges.{fetches_whole_for_range, request_without_range, RangeOfACacheableGetFetchesWhole, OnlyRangeOfACacheableGetFetchesWhole, DefaultPolicyFetchesNoWholeForRange, WholeIsFetchedWithoutRange, FieldsButRangeAreForwardedUnchanged, FilledRangeConditionsAreAsForTheWhole}

pub filled : RangeOfACacheableGetFetchesWhole
filled policy asked fills caches get asks is = rw fills (rw caches (rw get (rw asks (rw is.no_content (rw is.no_precondition refl)))))

all_hold : (fills caches get asks content precondition : Bool) → fills && (caches && (get && (asks && not (content || precondition)))) ≡ true
    → (fills ≡ true) × (caches ≡ true) × (get ≡ true) × (asks ≡ true) × (content ≡ false) × (precondition ≡ false)
all_hold true true true true false false e = (refl, refl, refl, refl, refl, refl)
all_hold false caches get asks content precondition e = cc
all_hold true false get asks content precondition e = cc
all_hold true true false asks content precondition e = cc
all_hold true true true false content precondition e = cc
all_hold true true true true true precondition e = cc
all_hold true true true true false true e = cc

pub only_these : OnlyRangeOfACacheableGetFetchesWhole
only_these policy asked e =
    let (fills, caches, get, asks, content, precondition) = all_hold policy.fills_ranges policy.caches (bytes_eq asked.method (codes "GET")) (asks_for_range asked) (request_has_content asked) (has_precondition_for_origin asked) e in
    let method : asked.method ≡ codes "GET" = (bytes_eq-Decides asked.method (codes "GET")).0 get in
    (fills, caches, method, asks, record { method_allows = inl method; no_content = content; no_range = (λ forwarded. cc); no_precondition = precondition })

pub none_filled : DefaultPolicyFetchesNoWholeForRange
none_filled caches asked = refl

-- ---- what is left of the lines

module _ (fields : List Field) where
  abbrev others : List Field
  others = without_named fields (codes "Range")

  pub no_range : has_field (without_named others (codes "If-Range")) (codes "Range") ≡ false
  no_range =
      list_any_fewer (λ f. not (is_named (codes "If-Range") f)) (is_named (codes "Range")) others
      (list_any_none_left (λ f. not (is_named (codes "Range") f)) (is_named (codes "Range")) (λ f kept. not_true (is_named (codes "Range") f) kept) fields)

  pub no_if_range : has_field (without_named others (codes "If-Range")) (codes "If-Range") ≡ false
  no_if_range = list_any_none_left (λ f. not (is_named (codes "If-Range") f)) (is_named (codes "If-Range")) (λ f kept. not_true (is_named (codes "If-Range") f) kept) others

pub none_forwarded : WholeIsFetchedWithoutRange
none_forwarded policy asked fills =
    (ap (λ t. has_field (cond t (request_without_range asked) asked).fields (codes "Range")) fills ∙ no_range asked.fields, ap (λ t. has_field (cond t (request_without_range asked) asked).fields (codes "If-Range")) fills ∙ no_if_range asked.fields)

-- a line of another name isn't taken out
stays : (name taken : List ℕ) (f : Field) → is_same_name name taken ≡ false → is_named name f ≡ true → not (is_named taken f) ≡ true
stays name taken f other is = ap not (ap (λ low. bytes_eq low (str_to_ascii_lowercase taken)) (same_lower f.name name is) ∙ other)

lines_stay : (name : List ℕ) (fields : List Field) → is_same_name name (codes "Range") ≡ false → is_same_name name (codes "If-Range") ≡ false
    → filter (is_named name) (without_named (without_named fields (codes "Range")) (codes "If-Range")) ≡ filter (is_named name) fields
lines_stay name fields no_range no_if_range =
    filter_keeps (λ f. not (is_named (codes "If-Range") f)) (is_named name) (λ f is. stays name (codes "If-Range") f no_if_range is) (without_named fields (codes "Range"))
    ∙ filter_keeps (λ f. not (is_named (codes "Range") f)) (is_named name) (λ f is. stays name (codes "Range") f no_range is) fields

pub others_forwarded : FieldsButRangeAreForwardedUnchanged
others_forwarded policy asked name no_range no_if_range = by_filling (fetches_whole_for_range policy asked)
  where
    by_filling : (t : Bool) → values_of (cond t (request_without_range asked) asked).fields name ≡ values_of asked.fields name
    by_filling true = ap (map (λ (f : Field). f.value)) (lines_stay name asked.fields no_range no_if_range)
    by_filling false = refl

-- whether a line stands is seen by those that pass
any_by_filter : (q : Field → Bool) (xs : List Field) → list_any q (filter q xs) ≡ list_any q xs
any_by_filter q [] = refl
any_by_filter q (x ∷ xs) = by_test (q x) refl (any_by_filter q xs)
  where
    by_test : (t : Bool) → q x ≡ t → list_any q (filter q xs) ≡ list_any q xs → list_any q (cond t (x ∷ filter q xs) (filter q xs)) ≡ t || list_any q xs
    by_test true is rest = rw is refl
    by_test false is rest = rest

pub has_stays : (name : List ℕ) (fields : List Field) → is_same_name name (codes "Range") ≡ false → is_same_name name (codes "If-Range") ≡ false
    → has_field (without_named (without_named fields (codes "Range")) (codes "If-Range")) name ≡ has_field fields name
has_stays name fields no_range no_if_range =
    sym (any_by_filter (is_named name) (without_named (without_named fields (codes "Range")) (codes "If-Range")))
    ∙ ap (list_any (is_named name)) (lines_stay name fields no_range no_if_range)
    ∙ any_by_filter (is_named name) fields

pub precondition_stays : (asked : Asked) → has_precondition_for_origin (request_without_range asked) ≡ has_precondition_for_origin asked
precondition_stays asked = rw (has_stays (codes "If-Match") asked.fields refl refl, has_stays (codes "If-Unmodified-Since") asked.fields refl refl) refl

pub asks_no_more : (asked : Asked) → asks_for_range (request_without_range asked) ≡ false
asks_no_more asked = rw (no_range asked.fields, no_if_range asked.fields) refl

pub as_the_whole : FilledRangeConditionsAreAsForTheWhole
as_the_whole policy asked fills =
    let (is, caches, get, asks, content, precondition) = all_hold policy.fills_ranges policy.caches (bytes_eq asked.method (codes "GET")) (asks_for_range asked) (request_has_content asked) (has_precondition_for_origin asked) fills in
    rw (is, precondition_stays asked) refl

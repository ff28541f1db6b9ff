-- What goes to the origin for a range that can't be cut from what is stored (RFC 9110, section 14.2): over a line that
-- fills ranges the request for the whole. The range stays with the proxy, which cuts it from what it sends.
--
-- fetches_whole_for_range: it is so              forwards_range: the range goes to the origin
-- request_without_range: the request for the whole
-- request_without_filled_range: what goes to the origin, before the proxy's own lines
-- Below it are the statements that the law `a_range_fetches_the_whole` proves.
use Rattle.std.specs.Prelude.{◌≡◌, ℕ, Bool, true, false, not, ◌&&◌, ◌||◌, cond, List, codes, bytes_eq}
use Rattle.hx_fields.specs.FieldLines.{has_field, values_of, without_named}
use Rattle.hx_fields.specs.Names.{is_same_name}
use Rattle.hx_hop.specs.declared.request_view.Asked.{Asked}
use Rattle.hx_hop.specs.Bypass.{request_has_content, asks_for_range, has_precondition_for_origin}
use Rattle.hx_policy.specs.Policies.{plain}
use Rattle.hx_policy.specs.declared.words.Policy.{Policy}
use Rattle.hx_reuse.specs.Conditions.{withholds_conditions}
use Rattle.hx_reuse.specs.Reusable.{RequestIsForTheCache}

-- own: over such a line a range of a GET that a stored response could answer ("A range is filled by the whole")
abbrev pub fetches_whole_for_range : Policy → Asked → Bool
fetches_whole_for_range policy asked =
    policy.fills_ranges
    && (policy.caches
    && (bytes_eq asked.method (codes "GET")
    && (asks_for_range asked && not (request_has_content asked || has_precondition_for_origin asked))))

-- one that the request has goes forward
abbrev pub forwards_range : Policy → Asked → Bool
forwards_range policy asked = asks_for_range asked && not (fetches_whole_for_range policy asked)

-- "A server MAY ignore the Range header field" (RFC 9110, section 14.2), so this one is asked without it, and without
-- If-Range, which means nothing without a Range (section 13.1.5)
abbrev pub request_without_range : Asked → Asked
request_without_range asked =
    record asked { fields = without_named (without_named asked.fields (codes "Range")) (codes "If-Range") }

abbrev pub request_without_filled_range : Policy → Asked → Asked
request_without_filled_range policy asked =
    cond (fetches_whole_for_range policy asked) (request_without_range asked) asked

-- ---- the statements

abbrev pub RangeOfACacheableGetFetchesWhole : Type 0
RangeOfACacheableGetFetchesWhole = (policy : Policy) (asked : Asked) →
    policy.fills_ranges ≡ true → policy.caches ≡ true → asked.method ≡ codes "GET" → asks_for_range asked ≡ true
    → RequestIsForTheCache false asked
    → fetches_whole_for_range policy asked ≡ true

abbrev pub OnlyRangeOfACacheableGetFetchesWhole : Type 0
OnlyRangeOfACacheableGetFetchesWhole = (policy : Policy) (asked : Asked) → fetches_whole_for_range policy asked ≡ true →
    (policy.fills_ranges ≡ true) × (policy.caches ≡ true) × (asked.method ≡ codes "GET") × (asks_for_range asked ≡ true)
    × RequestIsForTheCache false asked

-- over a line without words, in a table of a version before the fourth, each range goes to the origin, as ever
abbrev pub DefaultPolicyFetchesNoWholeForRange : Type 0
DefaultPolicyFetchesNoWholeForRange = (caches : Bool) (asked : Asked) → fetches_whole_for_range (plain caches) asked
    ≡ false

-- where it is filled, neither Range nor If-Range goes to the origin
abbrev pub WholeIsFetchedWithoutRange : Type 0
WholeIsFetchedWithoutRange = (policy : Policy) (asked : Asked) → fetches_whole_for_range policy asked ≡ true →
    (has_field (request_without_filled_range policy asked).fields (codes "Range") ≡ false)
    × (has_field (request_without_filled_range policy asked).fields (codes "If-Range") ≡ false)

-- and the lines of each other name do, as they are; else the request goes as it is
abbrev pub FieldsButRangeAreForwardedUnchanged : Type 0
FieldsButRangeAreForwardedUnchanged = (policy : Policy) (asked : Asked) (name : List ℕ) →
    is_same_name name (codes "Range") ≡ false → is_same_name name (codes "If-Range") ≡ false
    → values_of (request_without_filled_range policy asked).fields name ≡ values_of asked.fields name

-- the client's conditions stay where those of the request for the whole would
abbrev pub FilledRangeConditionsAreAsForTheWhole : Type 0
FilledRangeConditionsAreAsForTheWhole = (policy : Policy) (asked : Asked) → fetches_whole_for_range policy asked ≡ true
    → withholds_conditions policy asked ≡ withholds_conditions policy (request_without_range asked)

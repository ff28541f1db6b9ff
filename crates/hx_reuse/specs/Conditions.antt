-- Whether a client's own conditions, If-None-Match and If-Modified-Since, stay with the proxy, which judges them on
-- what it sends, or go to the origin (RFC 9111, section 4.3.2; RFC 9110, section 13.1).
--
-- withholds_conditions: they stay            forwards_client_condition: the request has one, and it goes to the origin
-- Below it are the statements that the law `conditions_of_a_cacheable_get_are_withheld` proves.
use Rattle.std.specs.Prelude.{◌≡◌, Bool, true, false, not, ◌&&◌, ◌||◌, codes, bytes_eq}
use Rattle.hx_fields.specs.FieldLines.{has_field}
use Rattle.hx_hop.specs.declared.request_view.Asked.{Asked}
use Rattle.hx_hop.specs.Bypass.{request_has_content, asks_for_range, has_precondition_for_origin}
use Rattle.hx_policy.specs.Policies.{plain}
use Rattle.hx_policy.specs.declared.words.Policy.{Policy}
use Rattle.hx_reuse.specs.Reusable.{RequestIsForTheCache}

-- own: those of a GET that a stored response could answer, over a line that keeps such requests from the origin where
-- it can ("A client's condition doesn't empty the cache"); where ranges are filled also of one that asks for a range,
-- since the whole is asked for in its place ("A range is filled by the whole")
abbrev pub withholds_conditions : Policy → Asked → Bool
withholds_conditions policy asked =
    not policy.forwards_conditions
    && (policy.caches
    && (bytes_eq asked.method (codes "GET")
    && not (request_has_content asked
    || ((not policy.fills_ranges && asks_for_range asked) || has_precondition_for_origin asked))))

-- one that the request has goes forward, where the proxy sends none of its own in its place
abbrev pub forwards_client_condition : Policy → Asked → Bool
forwards_client_condition policy asked =
    not (withholds_conditions policy asked)
    && (has_field asked.fields (codes "If-None-Match") || has_field asked.fields (codes "If-Modified-Since"))

-- ---- the statements

abbrev pub ConditionsOfACacheableGetAreWithheld : Type 0
ConditionsOfACacheableGetAreWithheld = (policy : Policy) (asked : Asked) →
    policy.forwards_conditions ≡ false → policy.caches ≡ true → asked.method ≡ codes "GET"
    → RequestIsForTheCache (not policy.fills_ranges) asked
    → withholds_conditions policy asked ≡ true

abbrev pub OnlyConditionsOfACacheableGetAreWithheld : Type 0
OnlyConditionsOfACacheableGetAreWithheld = (policy : Policy) (asked : Asked) → withholds_conditions policy asked
    ≡ true →
    (policy.forwards_conditions ≡ false) × (policy.caches ≡ true) × (asked.method ≡ codes "GET")
    × RequestIsForTheCache (not policy.fills_ranges) asked

-- over a line without words, in a table of a version before the fourth, they go to the origin, as ever
abbrev pub DefaultPolicyWithholdsNoConditions : Type 0
DefaultPolicyWithholdsNoConditions = (caches : Bool) (asked : Asked) → withholds_conditions (plain caches) asked ≡ false

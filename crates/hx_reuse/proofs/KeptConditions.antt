-- Whose matter the conditions of a client are.
use Rattle.std.proofs.Common.{◌≡◌, inl, Bool, true, false, codes, refl}
use Rattle.std.specs.Prelude.{not, ◌&&◌, ◌||◌, bytes_eq}
use Rattle.std.proofs.lemmas.Slice.Eq.{bytes_eq-Decides}
use Rattle.hx_hop.specs.Bypass.{request_has_content, asks_for_range, has_precondition_for_origin}
use Rattle.hx_reuse.specs.Conditions.{ConditionsOfACacheableGetAreWithheld, OnlyConditionsOfACacheableGetAreWithheld, DefaultPolicyWithholdsNoConditions}

not_both : (fills asks : Bool) → (not fills ≡ true → asks ≡ false) → not fills && asks ≡ false
not_both true asks none = refl
not_both false asks none = none refl

pub stays : ConditionsOfACacheableGetAreWithheld
stays policy asked forwards caches get is =
    let no_range = not_both policy.fills_ranges (asks_for_range asked) is.no_range in
    rw forwards (rw caches (rw get (rw is.no_content (rw no_range (rw is.no_precondition refl)))))

range_stays : (fills asks : Bool) → not fills && asks ≡ false → not fills ≡ true → asks ≡ false
range_stays false asks e not_filled = e
range_stays true asks e not_filled = cc

all_hold : (forwards caches get content range precondition : Bool) → not forwards && (caches && (get && not (content || (range || precondition)))) ≡ true
    → (forwards ≡ false) × (caches ≡ true) × (get ≡ true) × (content ≡ false) × (range ≡ false) × (precondition ≡ false)
all_hold false true true false false false e = (refl, refl, refl, refl, refl, refl)
all_hold true caches get content range precondition e = cc
all_hold false false get content range precondition e = cc
all_hold false true false content range precondition e = cc
all_hold false true true true range precondition e = cc
all_hold false true true false true precondition e = cc
all_hold false true true false false true e = cc

pub only_these : OnlyConditionsOfACacheableGetAreWithheld
only_these policy asked e =
    let (forwards, caches, get, content, range, precondition) = all_hold policy.forwards_conditions policy.caches (bytes_eq asked.method (codes "GET")) (request_has_content asked) (not policy.fills_ranges && asks_for_range asked) (has_precondition_for_origin asked) e in
    let method : asked.method ≡ codes "GET" = (bytes_eq-Decides asked.method (codes "GET")).0 get in
    (forwards, caches, method, record { method_allows = inl method; no_content = content; no_range = range_stays policy.fills_ranges (asks_for_range asked) range; no_precondition = precondition })

pub none_stays : DefaultPolicyWithholdsNoConditions
none_stays caches asked = refl

-- What dating leaves.
use Rattle.std.proofs.Common.{◌≡◌, ℕ, ◌<◌, Bool, true, false, not, cond, List, [], ◌∷◌, ◌++◌, refl, ◌∙◌, ap, codes}
use Rattle.std.specs.Prelude.{is_some}
use Rattle.std.proofs.lemmas.List.Elements.{filter-append}
use Rattle.hx_fields.specs.declared.limits.TheConstants.{START_OF_YEAR_10000}
use Rattle.hx_fields.specs.Line.{Field}
use Rattle.hx_fields.specs.FieldLines.{is_named, values_of, without_named}
use Rattle.hx_hop.specs.Answering.{fields_with_valid_date, has_one_date, is_one_http_date}
use Rattle.hx_hop.specs.Forwarding.{line}
use Rattle.hx_hop.specs.PassedOnFields.{DatedHasOneDate, DatingIsIdempotent, DateTextReadsBackAsItsMoment}
use Rattle.hx_hop.specs.Moments.{date_text_of}
use Rattle.hx_hop.proofs.Lines.{filter_none, not_true}
use Rattle.hx_hop.proofs.Moments.{parse_secs-date_text_of}

pub shows_the_moment : DateTextReadsBackAsItsMoment
shows_the_moment now early = parse_secs-date_text_of now early

-- the one Date that is added is the only one
added : (fields : List Field) (text : List ℕ) → values_of (without_named fields (codes "Date") ++ line (codes "Date") text ∷ []) (codes "Date") ≡ text ∷ []
added fields text =
    let none = filter_none (λ f. not (is_named (codes "Date") f)) (is_named (codes "Date")) (λ f e. not_true _ e) fields in
    rw (filter-append (is_named (codes "Date")) (without_named fields (codes "Date")) (line (codes "Date") text ∷ []), none) refl

replaced : (fields : List Field) (now : ℕ) → now < START_OF_YEAR_10000
    → has_one_date (without_named fields (codes "Date") ++ line (codes "Date") (date_text_of now) ∷ []) ≡ true
replaced fields now early = ap is_one_http_date (added fields (date_text_of now)) ∙ ap is_some (shows_the_moment now early)

by_date : (fields : List Field) (now : ℕ) → now < START_OF_YEAR_10000 → (t : Bool) → has_one_date fields ≡ t
    → has_one_date (cond t fields (without_named fields (codes "Date") ++ line (codes "Date") (date_text_of now) ∷ [])) ≡ true
by_date fields now early true e = e
by_date fields now early false e = replaced fields now early

pub has_one : DatedHasOneDate
has_one fields now early = by_date fields now early (has_one_date fields) refl

pub dates_once : DatingIsIdempotent
dates_once fields now later early =
    ap (λ t. cond t (fields_with_valid_date fields now) (without_named (fields_with_valid_date fields now) (codes "Date") ++ line (codes "Date") (date_text_of later) ∷ []))
    (has_one fields now early)

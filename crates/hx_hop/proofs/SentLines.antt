-- What goes forward of a request, and what doesn't.
use Rattle.std.proofs.Common.{◌≡◌, inl, inr, ℕ, Bool, true, false, not, ◌&&◌, ◌||◌, List, [], ◌∷◌, ◌++◌, refl, codes}
use Rattle.std.specs.Prelude.{Option, Some, None, is_some}
use Rattle.std.specs.List.{list_any}
use Rattle.std.proofs.lemmas.List.Folds.{list_any-append}
use Rattle.hx_fields.specs.Line.{Field}
use Rattle.hx_fields.specs.FieldLines.{is_named, without_named}
use Rattle.hx_fields.specs.Names.{is_same_name}
use Rattle.hx_hop.specs.declared.conditions.Conditions.{Conditions}
use Rattle.hx_hop.specs.Asking.{fields_passed_on_of}
use Rattle.hx_hop.specs.Forwarding.{forwarded_client_lines, condition_lines, forwarded_of, host_text, is_condition_line, line, line_if_present, via_text}
use Rattle.hx_hop.specs.PassedOnFields.{ConnectionClosesWhereAsked, WithheldConditionsAreNotForwarded, AnswerKeepsItsStatus, DefaultPortIsLeftOut, NoExpectIsForwarded, NoHopFieldIsInForwardedRequest, NoLengthFieldIsForwarded, MethodTargetAndContentAreForwarded, ConnectionStaysOpenWithoutClose, ViaShowsTheVersion, NonDefaultPortsAreWritten}
use Rattle.hx_hop.specs.Stripping.{connection_has_option, hop_by_hop_names, is_hop_by_hop_line, is_hop_by_hop_name, stripped}
use Rattle.hx_hop.proofs.Lines.{is_among-same, list_any_fewer, list_any_none_left, not_true}
use Rattle.hx_hop.proofs.Stripped.{takes_out_theirs}

-- a name of the proxy's own lines is none of a field of one connection
own_name : (own field : List ℕ) → is_hop_by_hop_name own ≡ false → is_hop_by_hop_name field ≡ true → is_same_name own field ≡ false
own_name own field not_own of_one = by_test (is_same_name own field) refl
  where
    by_test : (t : Bool) → is_same_name own field ≡ t → t ≡ false
    by_test true e = let same = is_among-same hop_by_hop_names own field e in cc
    by_test false e = refl

listed : (a b : Bool) → a ≡ true → a || b ≡ true
listed a b h = rw h refl

listed_last : (a b : Bool) → b ≡ true → a || b ≡ true
listed_last true b h = refl
listed_last false b h = h

module _ (q : Field → Bool) where
  client_none : (conditional : Bool) (fields : List Field) → list_any q (fields_passed_on_of fields) ≡ false → list_any q (forwarded_client_lines conditional (fields_passed_on_of fields)) ≡ false
  client_none conditional fields h = list_any_fewer (λ f. not (conditional && is_condition_line f)) q (fields_passed_on_of fields) h

  kept_none : (fields : List Field) → list_any q (stripped fields) ≡ false → list_any q (fields_passed_on_of fields) ≡ false
  kept_none fields h =
      list_any_fewer (λ f. not (is_named (codes "Expect") f)) q (without_named (stripped fields) (codes "Host"))
      (list_any_fewer (λ f. not (is_named (codes "Host") f)) q (stripped fields) h)

  one_none : (name : List ℕ) (value : Option (List ℕ)) → ((v : List ℕ) → q (line name v) ≡ false) → list_any q (line_if_present name value) ≡ false
  one_none name None h = refl
  one_none name (Some v) h = rw (h v) refl

  conditions_none : (conditions : Option Conditions) → ((v : List ℕ) → q (line (codes "If-None-Match") v) ≡ false)
      → ((v : List ℕ) → q (line (codes "If-Modified-Since") v) ≡ false) → list_any q (condition_lines conditions) ≡ false
  conditions_none None tag date = refl
  conditions_none (Some c) tag date =
      rw (list_any-append q (line_if_present (codes "If-None-Match") c.etag) (line_if_present (codes "If-Modified-Since") c.modified), one_none (codes "If-None-Match") c.etag tag, one_none (codes "If-Modified-Since") c.modified date) refl

  -- none of the four parts has it
  sends_none : (host via : Field) (client conditions : List Field) → q host ≡ false → list_any q client ≡ false → list_any q conditions ≡ false → q via ≡ false
      → list_any q (host ∷ (client ++ conditions ++ via ∷ [])) ≡ false
  sends_none host via client conditions h c d v = rw (h, list_any-append q (client ++ conditions) (via ∷ []), list_any-append q client conditions, c, d, v) refl

pub sends_no_hop_field : NoHopFieldIsInForwardedRequest
sends_no_hop_field keeps request target name conditions field hop =
    let q = is_named field in
    let out = takes_out_theirs request.fields field (listed (is_hop_by_hop_name field) (connection_has_option request.fields field) hop) in
    sends_none q (line (codes "Host") (host_text target.key)) (line (codes "Via") (via_text request.minor name)) (forwarded_client_lines (keeps || is_some conditions) (fields_passed_on_of request.fields)) (condition_lines conditions)
    (own_name (codes "Host") field refl hop) (client_none q (keeps || is_some conditions) request.fields (kept_none q request.fields out))
    (conditions_none q conditions (λ v. own_name (codes "If-None-Match") field refl hop) (λ v. own_name (codes "If-Modified-Since") field refl hop))
    (own_name (codes "Via") field refl hop)

pub sends_no_expect : NoExpectIsForwarded
sends_no_expect keeps request target name conditions =
    let q = is_named (codes "Expect") in
    let out = list_any_none_left (λ f. not (q f)) q (λ f e. not_true _ e) (without_named (stripped request.fields) (codes "Host")) in
    sends_none q (line (codes "Host") (host_text target.key)) (line (codes "Via") (via_text request.minor name)) (forwarded_client_lines (keeps || is_some conditions) (fields_passed_on_of request.fields)) (condition_lines conditions)
    refl (client_none q (keeps || is_some conditions) request.fields out) (conditions_none q conditions (λ v. refl) (λ v. refl)) refl

pub sends_no_length : NoLengthFieldIsForwarded
sends_no_length keeps request target name conditions none =
    let q = is_named (codes "Content-Length") in
    let out = list_any_fewer (λ f. not (is_hop_by_hop_line request.fields f)) q request.fields none in
    sends_none q (line (codes "Host") (host_text target.key)) (line (codes "Via") (via_text request.minor name)) (forwarded_client_lines (keeps || is_some conditions) (fields_passed_on_of request.fields)) (condition_lines conditions)
    refl (client_none q (keeps || is_some conditions) request.fields (kept_none q request.fields out)) (conditions_none q conditions (λ v. refl) (λ v. refl)) refl

pub sends_what_was_asked : MethodTargetAndContentAreForwarded
unfolding forwarded_of
sends_what_was_asked keeps request target name conditions = (refl, refl, refl, refl)

-- a line that isn't one of the two conditions is named like neither
not_named : (a b : Bool) → not (a || b) ≡ true → (a ≡ false) × (b ≡ false)
not_named true b e = cc
not_named false true e = cc
not_named false false e = (refl, refl)

pub keeps_conditions_behind : WithheldConditionsAreNotForwarded
keeps_conditions_behind asked name =
    let tag = is_named (codes "If-None-Match") in
    let date = is_named (codes "If-Modified-Since") in
    let host = line (codes "Host") (host_text asked.target.key) in
    let via = line (codes "Via") (via_text asked.minor name) in
    let passes : Field → Bool = λ f. not (tag f || date f) in (
      sends_none tag host via (forwarded_client_lines true asked.fields) [] refl (list_any_none_left passes tag (λ f e. (not_named (tag f) (date f) e).0) asked.fields) refl refl,
      sends_none date host via (forwarded_client_lines true asked.fields) [] refl (list_any_none_left passes date (λ f e. (not_named (tag f) (date f) e).1) asked.fields) refl refl,
    )

pub leaves_out_the_default_port : DefaultPortIsLeftOut
leaves_out_the_default_port key h = rw h refl

pub writes_other_ports : NonDefaultPortsAreWritten
writes_other_ports key h = rw h refl

pub shows_the_version : ViaShowsTheVersion
shows_the_version name = (refl, refl)

pub closes_where_asked : ConnectionClosesWhereAsked
closes_where_asked request target (inl old) = rw old refl
closes_where_asked request target (inr close) = listed_last _ _ close

pub stays_open : ConnectionStaysOpenWithoutClose
stays_open request target new absent = rw (new, absent) refl

pub keeps_the_status : AnswerKeepsItsStatus
keeps_the_status response now = refl

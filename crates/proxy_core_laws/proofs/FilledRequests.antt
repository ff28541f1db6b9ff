-- What goes forward for a range that is filled is one request, as what goes forward for the whole is.
use Rattle.std.proofs.Common.{◌≡◌, ℕ, ◌<◌, ◌^◌, Bool, true, false, not, ◌&&◌, ◌||◌, List, [], ◌∷◌, ◌++◌, length, refl, arith}
use Rattle.std.specs.Prelude.{All, IfSome, Ok, Option, codes, is_some}
use Rattle.std.proofs.lemmas.Str.{IsUtf8-from_ascii}
use Rattle.std.proofs.lemmas.List.Elements.{All-nil, All-cons, All-append, All-filter, All-weaker}
use Rattle.httparse.specs.Grammar.{IsToken, is_uri_byte}
use Rattle.hx_fields.specs.Line.{Field}
use Rattle.hx_fields.specs.FieldLines.{has_field, is_named, values_of, without_named}
use Rattle.hx_framing.specs.declared.messages.Request.{Request}
use Rattle.hx_framing.specs.Reading.{Spelled}
use Rattle.hx_framing.specs.RequestReading.{ReadsAs}
use Rattle.hx_framing.specs.Text.{request_text}
use Rattle.hx_framing.specs.Written.{FieldIsWritable, RequestIsWritable, request_as_read_back}
use Rattle.hx_framing.proofs.WrittenRequests.{request_back}
use Rattle.hx_target.specs.declared.targets.Target.{Target}
use Rattle.hx_target.specs.Judgement.{TargetIsJudged}
use Rattle.hx_hop.specs.declared.conditions.Conditions.{Conditions}
use Rattle.hx_hop.specs.declared.request_view.Asked.{Asked}
use Rattle.hx_hop.specs.Asking.{asked_with_target, fields_passed_on_of}
use Rattle.hx_hop.specs.Forwarding.{forwarded_client_lines, condition_lines, forwarded_of, host_text, is_condition_line, line, via_text}
use Rattle.hx_hop.specs.Stripping.{is_hop_by_hop_line, stripped}
use Rattle.hx_hop.proofs.Lines.{list_any_fewer, list_any_none_left, not_true}
use Rattle.hx_hop.proofs.Stripped.{takes_out_theirs}
use Rattle.hx_hop_laws.specs.OneMessage.{ConditionsAreFieldValues, RequestIsWithinLimits}
use Rattle.hx_hop_laws.proofs.ReadRequests.{read_is_clean}
use Rattle.hx_hop_laws.proofs.ReadTargets.{IsVisible, target_is_clean}
use Rattle.hx_hop_laws.proofs.SentRequests.{conditions_fit, host_token, host_visible, line_of, uri_byte, via_token, via_value, visible_ascii, visible_field_value}
use Rattle.hx_reuse.specs.FilledRanges.{request_without_range}
use Rattle.proxy_core.proofs.FilledRanges.{none_of_ours}

-- the lines that are left
module _ (fields : List Field) where
  abbrev pub left : List Field
  left = without_named (without_named (fields_passed_on_of fields) (codes "Range")) (codes "If-Range")

  left_fit : All FieldIsWritable fields → All FieldIsWritable left
  left_fit all =
      All-filter (λ f. not (is_named (codes "If-Range") f)) FieldIsWritable (without_named (fields_passed_on_of fields) (codes "Range"))
      (All-filter (λ f. not (is_named (codes "Range") f)) FieldIsWritable (fields_passed_on_of fields)
      (All-filter (λ f. not (is_named (codes "Expect") f)) FieldIsWritable (without_named (stripped fields) (codes "Host"))
      (All-filter (λ f. not (is_named (codes "Host") f)) FieldIsWritable (stripped fields)
      (All-filter (λ f. not (is_hop_by_hop_line fields f)) FieldIsWritable fields all))))

  left_none : (name : List ℕ) → has_field (fields_passed_on_of fields) name ≡ false → has_field left name ≡ false
  left_none name none =
      list_any_fewer (λ f. not (is_named (codes "If-Range") f)) (is_named name) (without_named (fields_passed_on_of fields) (codes "Range"))
      (list_any_fewer (λ f. not (is_named (codes "Range") f)) (is_named name) (fields_passed_on_of fields) none)

  stripped_none : (name : List ℕ) → has_field (stripped fields) name ≡ false → has_field left name ≡ false
  stripped_none name none =
      left_none name
      (list_any_fewer (λ f. not (is_named (codes "Expect") f)) (is_named name) (without_named (stripped fields) (codes "Host"))
      (list_any_fewer (λ f. not (is_named (codes "Host") f)) (is_named name) (stripped fields) none))

  no_length : has_field fields (codes "Content-Length") ≡ false → has_field left (codes "Content-Length") ≡ false
  no_length none = stripped_none (codes "Content-Length") (list_any_fewer (λ f. not (is_hop_by_hop_line fields f)) (is_named (codes "Content-Length")) fields none)

  no_coding : has_field left (codes "transfer-encoding") ≡ false
  no_coding = stripped_none (codes "transfer-encoding") (takes_out_theirs fields (codes "transfer-encoding") refl)

  no_expectation : has_field left (codes "Expect") ≡ false
  no_expectation = left_none (codes "Expect") (list_any_none_left (λ f. not (is_named (codes "Expect") f)) (is_named (codes "Expect")) (λ f kept. not_true (is_named (codes "Expect") f) kept) (without_named (stripped fields) (codes "Host")))

module _ (max_body most : ℕ) (ended continue_sent : Bool) (bytes rest : List ℕ) (request : Request) (target : Target) (name : List ℕ) (keeps : Bool) (conditions : Option Conditions) where
  abbrev whole : Asked
  whole = request_without_range (asked_with_target request target)

  is_writable : ReadsAs max_body ended continue_sent bytes (Spelled request rest) → TargetIsJudged request.target (values_of request.fields (codes "Host")) (Ok target) → IsToken name → IfSome conditions ConditionsAreFieldValues
      → most < 2 ^ 64 → RequestIsWithinLimits most (forwarded_of keeps whole name conditions) → RequestIsWritable (forwarded_of keeps whole name conditions)
  unfolding forwarded_of
  is_writable reads judged token are small limits =
      let clean = read_is_clean max_body ended continue_sent bytes request rest reads in
      let aim = target_is_clean request.target (values_of request.fields (codes "Host")) target judged in
      let client : List Field = forwarded_client_lines (keeps || is_some conditions) (left request.fields) in
      let via : Field = line (codes "Via") (via_text request.minor name) in
      let host : Field = line (codes "Host") (host_text target.key) in
      record {
        method = clean.method;
        target = (aim.path.some, All-weaker IsVisible (λ b. is_uri_byte b ≡ true) uri_byte target.key.path_query aim.path.bytes);
        target_text = IsUtf8-from_ascii target.key.path_query (visible_ascii target.key.path_query aim.path.bytes);
        fields =
            All-cons FieldIsWritable host (client ++ condition_lines conditions ++ via ∷ [])
            (line_of (codes "Host") (host_text target.key) host_token (omega arith) (visible_field_value (host_text target.key) (host_visible target.key aim.host aim.port)))
            (All-append FieldIsWritable (client ++ condition_lines conditions) (via ∷ [])
            (All-append FieldIsWritable client (condition_lines conditions)
            (All-filter (λ f. not ((keeps || is_some conditions) && is_condition_line f)) FieldIsWritable (left request.fields) (left_fit request.fields clean.fields)) (conditions_fit conditions are))
            (All-cons FieldIsWritable via [] (line_of (codes "Via") (via_text request.minor name) via_token (omega arith) (via_value request.minor name token)) (All-nil FieldIsWritable)));
        lengths = none_of_ours keeps whole name (codes "Content-Length") conditions (no_length request.fields clean.lengths) (λ v. refl) (λ v. refl) (λ v. refl) (λ v. refl);
        codings = none_of_ours keeps whole name (codes "transfer-encoding") conditions (no_coding request.fields) (λ v. refl) (λ v. refl) (λ v. refl) (λ v. refl);
        expectations = none_of_ours keeps whole name (codes "Expect") conditions (no_expectation request.fields) (λ v. refl) (λ v. refl) (λ v. refl) (λ v. refl);
        few = limits.few;
        short = limits.short;
        content = omega (arith, small, limits.content);
      }

  pub forwards_one_whole : ReadsAs max_body ended continue_sent bytes (Spelled request rest) → TargetIsJudged request.target (values_of request.fields (codes "Host")) (Ok target) → IsToken name → IfSome conditions ConditionsAreFieldValues
      → most < 2 ^ 64 → RequestIsWithinLimits most (forwarded_of keeps whole name conditions) → (over continued : Bool) (behind : List ℕ)
      → ReadsAs most over continued (request_text (forwarded_of keeps whole name conditions) ++ behind) (Spelled (request_as_read_back (forwarded_of keeps whole name conditions)) behind)
  forwards_one_whole reads judged token are small limits over continued behind =
      request_back (forwarded_of keeps whole name conditions) most over continued behind (is_writable reads judged token are small limits) limits.content

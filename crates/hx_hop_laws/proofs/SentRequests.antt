-- What was read and asked is sent as one request.
use Rattle.std.proofs.Common.{◌≡◌, inl, inr, ◌⊎◌, ℕ, ◌<◌, ◌≤◌, Bool, true, false, not, ◌&&◌, ◌||◌, cond, List, [], ◌∷◌, ◌++◌, length, get_or, refl, arith}
use Rattle.std.specs.Prelude.{All, IfSome, Option, Some, None, codes, decimal, is_some, ◌==◌}
use Rattle.std.specs.Char.{is_ascii_digit}
use Rattle.std.specs.List.{list_all}
use Rattle.std.specs.Str.{IsAscii}
use Rattle.std.proofs.lemmas.Bool.{cases_lt}
use Rattle.std.proofs.lemmas.Bool.Decides.{nat_tests}
use Rattle.std.proofs.lemmas.Fmt.{decimal_is_IsNumeral}
use Rattle.std.proofs.lemmas.List.{get_or_past}
use Rattle.std.proofs.lemmas.Str.{IsUtf8-from_ascii}
use Rattle.std.proofs.lemmas.List.Elements.{All-nil, All-cons, All-append, All-filter, All-get_or, All-weaker}
use Rattle.http_header.proofs.TokenLemmas.{AllPass-from_test}
use Rattle.httparse.specs.Grammar.{AllPass, IsToken, is_ows, is_token_byte, is_uri_byte, is_value_byte}
use Rattle.hx_fields.specs.Line.{Field}
use Rattle.hx_fields.specs.FieldLines.{is_named, values_of, without_named}
use Rattle.hx_framing.specs.declared.messages.Request.{Request}
use Rattle.hx_framing.specs.Written.{FieldIsWritable}
use Rattle.hx_framing.proofs.WrittenLines.{digit_bytes}
use Rattle.hx_framing.proofs.WrittenRequests.{request_back}
use Rattle.hx_target.specs.declared.keys.Key.{Key}
use Rattle.hx_target.specs.declared.targets.Target.{Target}
use Rattle.hx_hop.specs.declared.conditions.Conditions.{Conditions}
use Rattle.hx_hop.specs.Asking.{asked_with_target, fields_passed_on_of}
use Rattle.hx_hop.specs.Forwarding.{forwarded_client_lines, condition_lines, forwarded_lines, forwarded_of, host_text, is_condition_line, line, line_if_present, via_text}
use Rattle.hx_hop.specs.Stripping.{is_hop_by_hop_line, stripped}
use Rattle.hx_hop.proofs.SentLines.{sends_no_expect, sends_no_hop_field, sends_no_length}
use Rattle.hx_hop_laws.specs.OneMessage.{ConditionsAreFieldValues, ForwardedRequestReadsBackAsOne, RequestPartsAreWellformed, IsFieldValue, ForwardedRequestHasWritableParts}
use Rattle.hx_hop_laws.proofs.ReadRequests.{read_is_clean}
use Rattle.hx_hop_laws.proofs.ReadTargets.{IsCleanTarget, IsVisible, pass_visible, target_is_clean}
use Rattle.hx_hop_laws.proofs.Values.{trim_word, trim_words}

-- ---- what visible bytes are

pub uri_byte : (b : ℕ) → IsVisible b → is_uri_byte b ≡ true
uri_byte b h = grind (arith, nat_tests, h.above, h.below)

value_byte : (b : ℕ) → IsVisible b → is_value_byte b ≡ true
value_byte b h = grind (arith, nat_tests, h.above, h.below)

seen_byte : (b : ℕ) → IsVisible b → not (is_ows b) ≡ true
seen_byte b h = grind (arith, nat_tests, h.above, h.below)

token_visible : (b : ℕ) → is_token_byte b ≡ true → IsVisible b
unfolding is_token_byte
token_visible b token = record { above = grind (arith, nat_tests); below = grind (arith, nat_tests) }

digit_visible : (b : ℕ) → is_ascii_digit b ≡ true → IsVisible b
digit_visible b digit = record { above = grind (arith, nat_tests); below = grind (arith, nat_tests) }

pub visible_value : (text : List ℕ) → All IsVisible text → AllPass is_value_byte text
visible_value text all = All-weaker IsVisible (λ b. is_value_byte b ≡ true) value_byte text all

pub visible_seen : (text : List ℕ) → All IsVisible text → AllPass (λ b. not (is_ows b)) text
visible_seen text all = All-weaker IsVisible (λ b. not (is_ows b) ≡ true) seen_byte text all

pub visible_ascii : (text : List ℕ) → All IsVisible text → IsAscii text
visible_ascii text all i = by_place (cases_lt i (length text))
  where
    by_place : (i < length text) ⊎ (length text ≤ i) → get_or text i 0 < 128
    by_place (inl inside) = let b = All-get_or IsVisible text i 0 inside all in omega (arith, b.below)
    by_place (inr beyond) = omega (arith, get_or_past text i 0 beyond)

-- ---- the lines that the proxy adds

pub line_of : (name value : List ℕ) → list_all is_token_byte name ≡ true → 0 < length name → IsFieldValue value → FieldIsWritable (line name value)
line_of name value token some is = record {
  name = (some, AllPass-from_test is_token_byte name token);
  value = is.0;
  trimmed = is.1;
}

pub visible_field_value : (text : List ℕ) → All IsVisible text → IsFieldValue text
visible_field_value text all = (visible_value text all, trim_word text (visible_seen text all))

pub host_visible : (key : Key) → All IsVisible key.host → key.port ≤ 65535 → All IsVisible (host_text key)
host_visible key host small = by_test (key.port == 80)
  where
    digits : All IsVisible (decimal key.port)
    digits = pass_visible is_ascii_digit digit_visible (decimal key.port) (digit_bytes (decimal key.port) (decimal_is_IsNumeral key.port (omega (arith, small))).0.1)

    by_test : (t : Bool) → All IsVisible (cond t key.host (key.host ++ codes ":" ++ decimal key.port))
    by_test true = host
    by_test false =
        All-append IsVisible (key.host ++ codes ":") (decimal key.port)
        (All-append IsVisible key.host (codes ":") host (All-cons IsVisible 58 [] (record { above = omega arith; below = omega arith }) (All-nil IsVisible))) digits

pub via_value : (minor : ℕ) (name : List ℕ) → IsToken name → IsFieldValue (via_text minor name)
via_value minor name token = by_test (minor == 0)
  where
    visible : All IsVisible name
    visible = All-weaker (λ b. is_token_byte b ≡ true) IsVisible token_visible name token.1

    by_test : (t : Bool) → IsFieldValue (cond t (codes "1.0 ") (codes "1.1 ") ++ name)
    by_test true = (
      All-append (λ b. is_value_byte b ≡ true) (codes "1.0 ") name (AllPass-from_test is_value_byte (codes "1.0 ") refl) (visible_value name visible),
      trim_words 49 (46 ∷ 48 ∷ 32 ∷ []) name refl token.0 (visible_seen name visible),
    )
    by_test false = (
      All-append (λ b. is_value_byte b ≡ true) (codes "1.1 ") name (AllPass-from_test is_value_byte (codes "1.1 ") refl) (visible_value name visible),
      trim_words 49 (46 ∷ 49 ∷ 32 ∷ []) name refl token.0 (visible_seen name visible),
    )

pub host_token : list_all is_token_byte (codes "Host") ≡ true
unfolding is_token_byte
host_token = refl

pub via_token : list_all is_token_byte (codes "Via") ≡ true
unfolding is_token_byte
via_token = refl

tag_token : list_all is_token_byte (codes "If-None-Match") ≡ true
unfolding is_token_byte
tag_token = refl

date_token : list_all is_token_byte (codes "If-Modified-Since") ≡ true
unfolding is_token_byte
date_token = refl

opt_line_fits : (name : List ℕ) (value : Option (List ℕ)) → list_all is_token_byte name ≡ true → 0 < length name → IfSome value IsFieldValue → All FieldIsWritable (line_if_present name value)
opt_line_fits name None token some is = All-nil FieldIsWritable
opt_line_fits name (Some value) token some is = All-cons FieldIsWritable (line name value) [] (line_of name value token some is) (All-nil FieldIsWritable)

pub conditions_fit : (conditions : Option Conditions) → IfSome conditions ConditionsAreFieldValues → All FieldIsWritable (condition_lines conditions)
conditions_fit None are = All-nil FieldIsWritable
conditions_fit (Some c) are =
    All-append FieldIsWritable (line_if_present (codes "If-None-Match") c.etag) (line_if_present (codes "If-Modified-Since") c.modified)
    (opt_line_fits (codes "If-None-Match") c.etag tag_token (omega arith) are.etag)
    (opt_line_fits (codes "If-Modified-Since") c.modified date_token (omega arith) are.modified)

-- ---- all lines

client_fits : (conditional : Bool) (fields : List Field) → All FieldIsWritable fields → All FieldIsWritable (forwarded_client_lines conditional (fields_passed_on_of fields))
client_fits conditional fields all =
    All-filter (λ f. not (conditional && is_condition_line f)) FieldIsWritable (fields_passed_on_of fields)
    (All-filter (λ f. not (is_named (codes "Expect") f)) FieldIsWritable (without_named (stripped fields) (codes "Host"))
    (All-filter (λ f. not (is_named (codes "Host") f)) FieldIsWritable (stripped fields)
    (All-filter (λ f. not (is_hop_by_hop_line fields f)) FieldIsWritable fields all)))

lines_fit : (request : Request) (target : Target) (name : List ℕ) (keeps : Bool) (conditions : Option Conditions) → RequestPartsAreWellformed request → IsCleanTarget target → IsToken name → IfSome conditions ConditionsAreFieldValues
    → All FieldIsWritable (forwarded_lines keeps (asked_with_target request target) name conditions)
lines_fit request target name keeps conditions clean aim token are =
    let client : List Field = forwarded_client_lines (keeps || is_some conditions) (fields_passed_on_of request.fields) in
    let via : Field = line (codes "Via") (via_text request.minor name) in
    let host : Field = line (codes "Host") (host_text target.key) in
    All-cons FieldIsWritable host (client ++ condition_lines conditions ++ via ∷ [])
    (line_of (codes "Host") (host_text target.key) host_token (omega arith) (visible_field_value (host_text target.key) (host_visible target.key aim.host aim.port)))
    (All-append FieldIsWritable (client ++ condition_lines conditions) (via ∷ [])
    (All-append FieldIsWritable client (condition_lines conditions) (client_fits (keeps || is_some conditions) request.fields clean.fields) (conditions_fit conditions are))
    (All-cons FieldIsWritable via [] (line_of (codes "Via") (via_text request.minor name) via_token (omega arith) (via_value request.minor name token)) (All-nil FieldIsWritable)))

-- ---- the laws

pub sends_parts_as_they_are : ForwardedRequestHasWritableParts
unfolding forwarded_of
sends_parts_as_they_are max_body most ended continue_sent bytes rest request target name keeps conditions reads judged token are small limits =
    let clean = read_is_clean max_body ended continue_sent bytes request rest reads in
    let aim = target_is_clean request.target (values_of request.fields (codes "Host")) target judged in
    record {
      method = clean.method;
      target = (aim.path.some, All-weaker IsVisible (λ b. is_uri_byte b ≡ true) uri_byte target.key.path_query aim.path.bytes);
      target_text = IsUtf8-from_ascii target.key.path_query (visible_ascii target.key.path_query aim.path.bytes);
      fields = lines_fit request target name keeps conditions clean aim token are;
      lengths = sends_no_length keeps request target name conditions clean.lengths;
      codings = sends_no_hop_field keeps request target name conditions (codes "transfer-encoding") refl;
      expectations = sends_no_expect keeps request target name conditions;
      few = limits.few;
      short = limits.short;
      content = omega (arith, small, limits.content);
    }

pub forwards_one_request : ForwardedRequestReadsBackAsOne
forwards_one_request max_body most ended continue_sent bytes rest request target name keeps conditions reads judged token are small limits over continued behind =
    request_back (forwarded_of keeps (asked_with_target request target) name conditions) most over continued behind
    (sends_parts_as_they_are max_body most ended continue_sent bytes rest request target name keeps conditions reads judged token are small limits) limits.content

-- What leaves room is within the limits of a reader, as it is sent with what the proxy adds.
use Rattle.std.proofs.Common.{◌≡◌, ℕ, suc, ◌+◌, ◌<◌, ◌≤◌, ◌^◌, ◌==◌, ◌||◌, not, Bool, true, false, cond, List, [], ◌∷◌, ◌++◌, length, length-append, min, refl, ap, ◌∙◌, arith, nat_le}
use Rattle.std.specs.Prelude.{IfSome, Option, None, Some, codes, decimal, ℤ, pos, negsuc}
use Rattle.std.specs.Fmt.{signed_decimal}
use Rattle.std.proofs.lemmas.Bool.{and_parts, leb-true}
use Rattle.std.proofs.lemmas.Fmt.{length-decimal-le}
use Rattle.std.proofs.lemmas.Grind.{flat_map-append}
use Rattle.hx_fields.specs.Line.{Field}
use Rattle.hx_fields.specs.FieldLines.{has_field, is_named}
use Rattle.hx_framing.specs.Text.{connection_close_line, field_line_text, field_lines_text, content_length_line, status_line_text}
use Rattle.hx_framing.specs.Written.{content_length_fields}
use Rattle.hx_framing.specs.WrittenResponse.{connection_close_fields}
use Rattle.hx_age.specs.Age.{age_of}
use Rattle.hx_reuse.specs.declared.rule.ReuseRule.{ReuseRule}
use Rattle.hx_reuse.specs.declared.rule.ReuseRule.TheVariants.{UriMiss}
use Rattle.hx_reuse.specs.RuleNames.{reuse_rule_detail, reuse_rule_reason}
use Rattle.hx_status.specs.declared.status.Detail.{Detail}
use Rattle.hx_status.specs.declared.status.Detail.TheVariants.{StaleIfError}
use Rattle.hx_status.specs.declared.status.How.{How}
use Rattle.hx_status.specs.declared.status.How.TheVariants.{Hit, Fwd}
use Rattle.hx_status.specs.declared.status.Status.{Status}
use Rattle.hx_storable.specs.declared.rule.StoreRule.{StoreRule}
use Rattle.hx_status.specs.Member.{detail_of_step_or_rule, detail_parameter_text, text_if_flag, fwd_status_text, hit_or_forward_text, member_text, ttl_text, detail_word, detail_word_or_not_stored, parameter_of_detail_word}
use Rattle.hx_store.specs.Stored.{Stored}
use Rattle.hx_validate.specs.NotModified.{is_field_of_304, fields_of_304}
use Rattle.hx_validate.specs.Room.{head_leaves_room}
use Rattle.hx_policy.specs.declared.words.Policy.{Policy}
use Rattle.proxy_core.specs.Replies.{line, fields_without_hidden_tags}
use Rattle.proxy_core.specs.Validating.{without_set_cookie_if}
use Rattle.proxy_core_laws.specs.HeldHeads.{HeadWithRoomSentAs304IsWithinReaderLimits, HeadWithRoomIsWithinReaderLimits, SecondsAreInRange, CacheStatusIsInRange}
use Rattle.proxy_core_laws.specs.StoredReplies.{stored_fields_as_sent, fields_shown_under_policy}
use Rattle.proxy_core_laws.proofs.ReadHeads.{AreWithin, within_fewer}

-- ---- the member of Cache-Status

reason_short : (rule : ReuseRule) → nat_le (length (reuse_rule_reason rule)) 9 ≡ true
reason_short UriMiss = refl
reason_short _ = refl

detail_short : (rule : ReuseRule) → nat_le (length (parameter_of_detail_word (reuse_rule_detail rule))) 30 ≡ true
detail_short UriMiss = refl
detail_short _ = refl

step_short : (detail : Detail) → nat_le (length (parameter_of_detail_word (Some (detail_word detail)))) 30 ≡ true
step_short StaleIfError = refl
step_short _ = refl

how_short : (how : How) → length (hit_or_forward_text how) ≤ 14
how_short Hit = omega arith
how_short (Fwd rule) =
    let word = leb-true (length (reuse_rule_reason rule)) 9 (reason_short rule) in
    let parts = length-append (codes ";fwd=") (reuse_rule_reason rule) in
    omega (arith, word, parts)

came_short : (came : Option ℕ) → IfSome came (λ status. status ≤ 999) → length (fwd_status_text came) ≤ 15
came_short None is = omega arith
came_short (Some status) is =
    let digits = length-decimal-le 3 status (omega arith) (omega (arith, is)) (omega (arith, is)) in
    let parts = length-append (codes ";fwd-status=") (decimal status) in
    omega (arith, digits, parts)

counted_short : (n : ℕ) → n ≤ 2147483648 → length (decimal n) ≤ 10
counted_short n is = length-decimal-le 10 n (omega arith) (omega (arith, is)) (omega (arith, is))

signed_short : (z : ℤ) → SecondsAreInRange z → length (signed_decimal z) ≤ 11
signed_short (pos n) is = let digits = counted_short n is in omega (arith, digits)
signed_short (negsuc n) is =
    let digits = counted_short (suc n) is in
    let parts = length-append (codes "-") (decimal (suc n)) in
    omega (arith, digits, parts)

ttl_short : (ttl : Option ℤ) → IfSome ttl SecondsAreInRange → length (ttl_text ttl) ≤ 16
ttl_short None is = omega arith
ttl_short (Some z) is =
    let digits = signed_short z is in
    let parts = length-append (codes ";ttl=") (signed_decimal z) in
    omega (arith, digits, parts)

flag_short : (flag : Bool) (text : List ℕ) (n : ℕ) → length text ≤ n → length (text_if_flag flag text) ≤ n
flag_short true text n is = is
flag_short false text n is = omega arith

named_short : (detail : Option Detail) (how : How) → length (parameter_of_detail_word (detail_of_step_or_rule detail how)) ≤ 30
named_short (Some detail) how = leb-true _ 30 (step_short detail)
named_short None Hit = omega arith
named_short None (Fwd rule) = leb-true _ 30 (detail_short rule)

-- so where no storing rule is told
short_or : (o : Option (List ℕ)) (rule : Option StoreRule) → rule ≡ None → length (parameter_of_detail_word o) ≤ 30 → length (parameter_of_detail_word (detail_word_or_not_stored o rule)) ≤ 30
short_or (Some text) rule none h = h
short_or None None none h = h
short_or None (Some rule) none h = absurd cc

seven : (a b c d e f g : List ℕ) (n : ℕ) → length (a ++ b ++ c ++ d ++ e ++ f ++ g) ≡ n → n ≡ length a + length b + length c + length d + length e + length f + length g
seven a b c d e f g n whole = let parts = simp length-append at whole in omega (arith, parts)

member_short : (name : List ℕ) (shown : Status) → length name ≤ 32 → CacheStatusIsInRange shown → length (member_text name shown) ≤ 124
member_short name shown named is =
    let how = how_short shown.how in
    let came = came_short shown.fwd_status is.came in
    let left = ttl_short shown.ttl is.left in
    let stored = flag_short shown.stored (codes ";stored") 7 (omega arith) in
    let collapsed = flag_short shown.collapsed (codes ";collapsed") 10 (omega arith) in
    let word = short_or (detail_of_step_or_rule shown.detail shown.how) shown.not_stored is.is_held (named_short shown.detail shown.how) in
    let all = seven name (hit_or_forward_text shown.how) (fwd_status_text shown.fwd_status) (ttl_text shown.ttl) (text_if_flag shown.stored (codes ";stored")) (text_if_flag shown.collapsed (codes ";collapsed")) (detail_parameter_text shown)
    (length (member_text name shown)) refl in
    omega (arith, named, how, came, left, stored, collapsed, word, all)

-- ---- the lines that are added

one_line : (name value : List ℕ) (n : ℕ) → length (field_lines_text (line name value ∷ [])) ≡ n → n ≡ length name + length value + 4
one_line name value n whole = let parts = simp length-append at whole in omega (arith, parts)

capped_low : (n : ℕ) → min n 2147483648 ≤ 2147483648
capped_low n = omega arith

age_short : (e : Stored) (now : ℕ) → length (decimal (age_of e.times now)) ≤ 10
age_short e now = counted_short (age_of e.times now) (capped_low _)

module _ (name : List ℕ) (fields : List Field) (e : Stored) (now : ℕ) (shown : Status) (named : length name ≤ 32) (is : CacheStatusIsInRange shown) where
  abbrev age : List Field
  age = line (codes "Age") (decimal (age_of e.times now)) ∷ []

  abbrev status : List Field
  status = line (codes "Cache-Status") (member_text name shown) ∷ []

  shown_lines : length (stored_fields_as_sent name fields e now shown) ≡ length fields + 2
  shown_lines =
      let outer = length-append (fields ++ age) status in
      let inner = length-append fields age in
      omega (arith, outer, inner)

  shown_bytes : length (field_lines_text (stored_fields_as_sent name fields e now shown)) ≤ length (field_lines_text fields) + 157
  shown_bytes =
      let outer = ap length (flat_map-append field_line_text (fields ++ age) status) ∙ length-append (field_lines_text (fields ++ age)) (field_lines_text status) in
      let inner = ap length (flat_map-append field_line_text fields age) ∙ length-append (field_lines_text fields) (field_lines_text age) in
      let first = one_line (codes "Age") (decimal (age_of e.times now)) (length (field_lines_text age)) refl in
      let second = one_line (codes "Cache-Status") (member_text name shown) (length (field_lines_text status)) refl in
      let digits = age_short e now in
      let member = member_short name shown named is in
      omega (arith, outer, inner, first, second, digits, member)

-- ---- the head

length_few : (n : Option ℕ) → length (content_length_fields n) ≤ 1
length_few None = omega arith
length_few (Some n) = omega arith

close_few : (close : Bool) → length (connection_close_fields close) ≤ 1
close_few true = omega arith
close_few false = omega arith

length_short : (n : Option ℕ) → IfSome n (λ k. k < 2 ^ 64) → length (content_length_line n) ≤ 38
length_short None is = omega arith
length_short (Some n) is =
    let digits = length-decimal-le 20 n (omega arith) (omega (arith, is)) is in
    let front = length-append (codes "Content-Length: ") (decimal n) in
    let whole = length-append (codes "Content-Length: " ++ decimal n) (codes "\r\n") in
    omega (arith, digits, front, whole)

close_short : (close : Bool) → length (connection_close_line close) ≤ 19
close_short true = omega arith
close_short false = omega arith

status_short : (status : ℕ) → status ≤ 999 → length (status_line_text status) ≤ 15
status_short status is =
    let digits = length-decimal-le 3 status (omega arith) (omega (arith, is)) (omega (arith, is)) in
    let front = length-append (codes "HTTP/1.1 ") (decimal status) in
    let blank = length-append (codes "HTTP/1.1 " ++ decimal status) (codes " ") in
    let whole = length-append (codes "HTTP/1.1 " ++ decimal status ++ codes " ") (codes "\r\n") in
    omega (arith, digits, front, blank, whole)

three : (a b c : List Field) (n : ℕ) → length (a ++ b ++ c) ≡ n → n ≡ length a + length b + length c
three a b c n whole = let parts = simp length-append at whole in omega (arith, parts)

five : (a b c d e : List ℕ) (n : ℕ) → length (a ++ b ++ c ++ d ++ e) ≡ n → n ≡ length a + length b + length c + length d + length e
five a b c d e n whole = let parts = simp length-append at whole in omega (arith, parts)

room_left : (fields : List Field) → head_leaves_room fields ≡ true → AreWithin 96 32512 fields
room_left fields room =
    let parts = and_parts (nat_le (length fields + 4) 100) (nat_le (length (field_lines_text fields) + 256) 32768) room in
    let lines = leb-true (length fields + 4) 100 parts.0 in
    let bytes = leb-true (length (field_lines_text fields) + 256) 32768 parts.1 in
    record { few = omega (arith, lines); short = omega (arith, bytes) }

module _ (name : List ℕ) (fields : List Field) (e : Stored) (now : ℕ) (shown : Status) (named : length name ≤ 32) (is : CacheStatusIsInRange shown) (are : AreWithin 96 32512 fields) (length_is : Option ℕ) (close : Bool) where
  lines_fit : length (stored_fields_as_sent name fields e now shown ++ content_length_fields length_is ++ connection_close_fields close) ≤ 100
  lines_fit =
      let all = three (stored_fields_as_sent name fields e now shown) (content_length_fields length_is) (connection_close_fields close) (length (stored_fields_as_sent name fields e now shown ++ content_length_fields length_is ++ connection_close_fields close)) refl in
      let lines = shown_lines name fields e now shown named is in
      let one = length_few length_is in
      let other = close_few close in
      let few = are.few in
      omega (arith, all, lines, one, other, few)

  bytes_fit : (status : ℕ) → status ≤ 999 → IfSome length_is (λ k. k < 2 ^ 64)
      → length (status_line_text status ++ field_lines_text (stored_fields_as_sent name fields e now shown) ++ content_length_line length_is ++ connection_close_line close ++ codes "\r\n") ≤ 32768
  bytes_fit status low small =
      let all = five (status_line_text status) (field_lines_text (stored_fields_as_sent name fields e now shown)) (content_length_line length_is) (connection_close_line close) (codes "\r\n")
      (length (status_line_text status ++ field_lines_text (stored_fields_as_sent name fields e now shown) ++ content_length_line length_is ++ connection_close_line close ++ codes "\r\n")) refl in
      let first = status_short status low in
      let lines = shown_bytes name fields e now shown named is in
      let one = length_short length_is small in
      let other = close_short close in
      let short = are.short in
      omega (arith, all, first, lines, one, other, short)

-- cookies may be taken out
others_within : (removes : Bool) (fields : List Field) → AreWithin 96 32512 fields → AreWithin 96 32512 (without_set_cookie_if removes fields)
others_within true fields are = within_fewer 96 32512 (λ f. not (is_named (codes "Set-Cookie") f)) fields are
others_within false fields are = are

-- and so may tags
seen_within : (policy : Policy) (fields : List Field) → AreWithin 96 32512 fields → AreWithin 96 32512 (fields_shown_under_policy policy fields)
seen_within policy fields are = by_test policy.hides_tags (others_within policy.removes_set_cookie fields are)
  where
    by_test : (hides : Bool) → AreWithin 96 32512 (without_set_cookie_if policy.removes_set_cookie fields) → AreWithin 96 32512 (fields_without_hidden_tags hides (without_set_cookie_if policy.removes_set_cookie fields))
    by_test true left = within_fewer 96 32512 (λ f. not (is_named (codes "Cache-Tag") f)) (without_set_cookie_if policy.removes_set_cookie fields) left
    by_test false left = left

pub fits_where_room_is_left : HeadWithRoomIsWithinReaderLimits
fits_where_room_is_left policy most now name e shown asked room named is final small within = record {
  few = lines_fit name (fields_shown_under_policy policy e.fields) e now shown named is (seen_within policy e.fields (room_left e.fields room)) (cond ((e.status == 204) || (e.status == 304)) None (Some (length e.content))) asked.close;
  short = bytes_fit name (fields_shown_under_policy policy e.fields) e now shown named is (seen_within policy e.fields (room_left e.fields room)) (cond ((e.status == 204) || (e.status == 304)) None (Some (length e.content))) asked.close e.status (omega (arith, final)) (shown_small ((e.status == 204) || (e.status == 304)));
  content = within;
}
  where
    shown_small : (t : Bool) → IfSome (cond t None (Some (length e.content))) (λ n. n < 2 ^ 64)
    shown_small true = tt
    shown_small false = small

pub fits_as_304_where_room_is_left : HeadWithRoomSentAs304IsWithinReaderLimits
fits_as_304_where_room_is_left most now name e shown asked room named is =
    let carried = within_fewer 96 32512 (is_field_of_304 (has_field e.fields (codes "ETag"))) e.fields (room_left e.fields room) in record {
      few = lines_fit name (fields_of_304 e.fields) e now shown named is carried None asked.close;
      short = bytes_fit name (fields_of_304 e.fields) e now shown named is carried None asked.close 304 (omega arith) tt;
      content = omega arith;
    }

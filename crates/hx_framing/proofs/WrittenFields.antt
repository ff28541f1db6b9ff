-- What the fields say once they are sent: of the content's length, and of nothing else.
use Rattle.std.proofs.Common.{◌≡◌, ℕ, ◌<◌, ◌^◌, ◌∙◌, Bool, true, false, not, ◌||◌, List, [], ◌∷◌, ◌++◌, length, take, drop, map, refl, ap, append_assoc, Option, None, Some}
use Rattle.std.specs.Prelude.{codes, decimal}
use Rattle.std.specs.List.{filter, list_any, list_all}
use Rattle.std.specs.Char.{is_ascii_digit}
use Rattle.std.specs.Str.Parse.{digits_value}
use Rattle.std.proofs.lemmas.Bool.{or_parts, or_from}
use Rattle.std.proofs.lemmas.Fmt.{decimal_is_IsNumeral}
use Rattle.std.proofs.Math.Seq.{take-append_seam, drop-append_seam}
use Rattle.std.proofs.lemmas.List.Elements.{filter-append}
use Rattle.std.proofs.lemmas.List.Folds.{list_any-append}
use Rattle.hx_fields.specs.Line.{Field}
use Rattle.hx_fields.specs.FieldLines.{is_named, has_field, values_of, without_named}
use Rattle.hx_framing.specs.declared.messages.Request.{Request}
use Rattle.hx_framing.specs.Text.{length_of_content, content_bytes, request_text}
use Rattle.hx_framing.specs.Written.{request_head_text, content_length_fields, connection_close_field, request_fields_sent, RequestIsWritable}
use Rattle.hx_framing.proofs.WrittenLines.{digit_bytes}

-- a test that no line passes
pub filter_none : (p : Field → Bool) (fs : List Field) → list_any p fs ≡ false → filter p fs ≡ []
filter_none p [] none = refl
filter_none p (f ∷ fs) none = let parts = or_parts (p f) (list_any p fs) none in rw parts.0 (filter_none p fs parts.1)

pub filter_other : (p : Field → Bool) (fs : List Field) → list_any p fs ≡ false → filter (λ f. not (p f)) fs ≡ fs
filter_other p [] none = refl
filter_other p (f ∷ fs) none = let parts = or_parts (p f) (list_any p fs) none in rw parts.0 (ap (λ gs. f ∷ gs) (filter_other p fs parts.1))

-- of the lines that are sent only those of the writer are of a name that the request's own lines don't have
values_sent : (name : List ℕ) (fs own : List Field) → has_field fs name ≡ false
    → values_of ((fs ++ own) ++ connection_close_field ∷ []) name ≡ values_of (own ++ connection_close_field ∷ []) name
values_sent name fs own none =
    ap (λ gs. values_of gs name) (append_assoc fs own (connection_close_field ∷ []))
    ∙ ap (map (λ (f : Field). f.value)) (filter-append (is_named name) fs (own ++ connection_close_field ∷ []) ∙ ap (λ gs. gs ++ filter (is_named name) (own ++ connection_close_field ∷ [])) (filter_none (is_named name) fs none))

has_sent : (name : List ℕ) (fs own : List Field) → has_field fs name ≡ false
    → has_field ((fs ++ own) ++ connection_close_field ∷ []) name ≡ has_field (own ++ connection_close_field ∷ []) name
has_sent name fs own none =
    ap (λ gs. has_field gs name) (append_assoc fs own (connection_close_field ∷ []))
    ∙ list_any-append (is_named name) fs (own ++ connection_close_field ∷ []) ∙ ap (λ t. t || has_field (own ++ connection_close_field ∷ []) name) none

without_sent : (name : List ℕ) (fs own : List Field) → has_field fs name ≡ false
    → without_named ((fs ++ own) ++ connection_close_field ∷ []) name ≡ fs ++ without_named (own ++ connection_close_field ∷ []) name
without_sent name fs own none =
    ap (λ gs. without_named gs name) (append_assoc fs own (connection_close_field ∷ []))
    ∙ filter-append (λ f. not (is_named name f)) fs (own ++ connection_close_field ∷ [])
    ∙ ap (λ gs. gs ++ without_named (own ++ connection_close_field ∷ []) name) (filter_other (is_named name) fs none)

own_lengths : (n : ℕ) → values_of (content_length_fields (Some n) ++ connection_close_field ∷ []) (codes "content-length") ≡ decimal n ∷ []
own_lengths n = refl

-- the only length is the content's
pub lengths_none : (r : Request) → RequestIsWritable r → r.content ≡ None → values_of (request_fields_sent r) (codes "content-length") ≡ []
lengths_none r writable none =
    values_sent (codes "content-length") r.fields (content_length_fields (length_of_content r.content)) writable.lengths
    ∙ ap (λ c. values_of (content_length_fields (length_of_content c) ++ connection_close_field ∷ []) (codes "content-length")) none

pub lengths_some : (r : Request) (c : List ℕ) → RequestIsWritable r → r.content ≡ Some c
    → values_of (request_fields_sent r) (codes "content-length") ≡ decimal (length c) ∷ []
lengths_some r c writable some =
    values_sent (codes "content-length") r.fields (content_length_fields (length_of_content r.content)) writable.lengths
    ∙ ap (λ d. values_of (content_length_fields (length_of_content d) ++ connection_close_field ∷ []) (codes "content-length")) some ∙ own_lengths (length c)

-- no coding and no expectation is sent
pub codings_none : (r : Request) → RequestIsWritable r → has_field (request_fields_sent r) (codes "transfer-encoding") ≡ false
codings_none r writable =
    has_sent (codes "transfer-encoding") r.fields (content_length_fields (length_of_content r.content)) writable.codings ∙ by_length (length_of_content r.content)
  where
    by_length : (n : Option ℕ) → has_field (content_length_fields n ++ connection_close_field ∷ []) (codes "transfer-encoding") ≡ false
    by_length None = refl
    by_length (Some n) = refl

pub expectations_none : (r : Request) → RequestIsWritable r → has_field (request_fields_sent r) (codes "expect") ≡ false
expectations_none r writable =
    has_sent (codes "expect") r.fields (content_length_fields (length_of_content r.content)) writable.expectations ∙ by_length (length_of_content r.content)
  where
    by_length : (n : Option ℕ) → has_field (content_length_fields n ++ connection_close_field ∷ []) (codes "expect") ≡ false
    by_length None = refl
    by_length (Some n) = refl

-- without its length the request has its own lines and the one that closes the connection
pub without_length : (r : Request) → RequestIsWritable r → without_named (request_fields_sent r) (codes "content-length") ≡ r.fields ++ connection_close_field ∷ []
without_length r writable =
    without_sent (codes "content-length") r.fields (content_length_fields (length_of_content r.content)) writable.lengths
    ∙ ap (λ gs. r.fields ++ gs) (by_length (length_of_content r.content))
  where
    by_length : (n : Option ℕ) → without_named (content_length_fields n ++ connection_close_field ∷ []) (codes "content-length") ≡ connection_close_field ∷ []
    by_length None = refl
    by_length (Some n) = refl

-- and no coding is to be taken out
pub without_coding : (r : Request) → RequestIsWritable r
    → without_named (r.fields ++ connection_close_field ∷ []) (codes "transfer-encoding") ≡ r.fields ++ connection_close_field ∷ []
without_coding r writable =
    filter_other (is_named (codes "transfer-encoding")) (r.fields ++ connection_close_field ∷ [])
    (list_any-append (is_named (codes "transfer-encoding")) r.fields (connection_close_field ∷ []) ∙ or_from _ _ writable.codings refl)

-- the value that is written for a number gives it back
pub decimal_back : (n : ℕ) → n < 2 ^ 64
    → (0 < length (decimal n)) × (list_all is_ascii_digit (decimal n) ≡ true) × (digits_value 10 (decimal n) ≡ n)
decimal_back n small =
    let numeral = decimal_is_IsNumeral n small in
    (numeral.0.0, digit_bytes (decimal n) numeral.0.1, numeral.1)

-- where the head's text is cut off, the content and what follows it are left
pub head_front : (r : Request) (rest : List ℕ) → take (length (request_head_text r)) (request_text r ++ rest) ≡ request_head_text r
head_front r rest =
    ap (take (length (request_head_text r))) (append_assoc (request_head_text r) (content_bytes r.content) rest)
    ∙ take-append_seam (request_head_text r) (content_bytes r.content ++ rest)

pub content_after_empty_line : (r : Request) (rest : List ℕ) → drop (length (request_head_text r)) (request_text r ++ rest) ≡ content_bytes r.content ++ rest
content_after_empty_line r rest =
    ap (drop (length (request_head_text r))) (append_assoc (request_head_text r) (content_bytes r.content) rest)
    ∙ drop-append_seam (request_head_text r) (content_bytes r.content ++ rest)

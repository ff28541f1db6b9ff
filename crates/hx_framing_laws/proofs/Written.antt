-- What httparse's grammar has as a head is one of the standard's.
use Rattle.std.proofs.Common.{◌≡◌, ℕ, List, [], ◌∷◌, ◌++◌, length, map, refl, sym, ap, ◌∙◌, subst, append_assoc, append-nil, lt-ltb, Option, Some, None, inl, inr}
use Rattle.std.specs.List.{All, flat_map}
use Rattle.std.specs.Char.{is_ascii_digit}
use Rattle.std.proofs.lemmas.List.Elements.{All-append, All-cons, All-nil, All-head, All-tail}
use Rattle.std.proofs.lemmas.List.Sums.{list_all-from_AllPass, AllPass-from_list_all}
use Rattle.httparse.specs.Grammar.{LineEnd, crlf, lf, print_end, print_blank, print_version, Field, IsField, field_value, print_field, print_section, RequestHead, ResponseHead, print_reason, reason_phrase, AllPass, is_token_byte, is_value_byte}
use Rattle.httparse.proofs.GrammarLemmas.{print_request-append, print_response-append}
use Rattle.httparse.proofs.TrimLemmas.{AllPass-trim_ows}
use Rattle.hx_framing.specs.GivenFields.{LineSpellsField}
use Rattle.hx_framing.specs.Head.{IsHeadOfRequest, field_of_parsed_line, head_of_parsed_request}
use Rattle.hx_framing.specs.StatusHead.{IsWholeResponseHead, status_head_of}
use Rattle.hx_framing.proofs.HeadLineLemmas.{IsNo, each, value_byte, token_byte, token, without_trailing_cr-is, text_of}
use Rattle.hx_framing.proofs.GivenLemmas.{spell_all}
use Rattle.hx_framing_laws.specs.Characters.{BytesAreOctets, is_field_text_byte}
use Rattle.hx_framing_laws.specs.Lines.{IsLineEnd, IsReasonPhrase, IsFieldLine, version_text, space_and_reason_text}
use Rattle.hx_framing_laws.specs.Heads.{AreFieldLines, AreEmptyLines, IsHead, IsRequestHead, IsResponseHead}
use Rattle.hx_framing_laws.proofs.CharacterLemmas.{octets_parts, target_characters, text_characters}
use Rattle.hx_framing_laws.proofs.FieldValues.{value_of_trimmed}

pub end_is : (end : LineEnd) → IsLineEnd (print_end end)
end_is crlf = inl refl
end_is lf = inr refl

-- ---- field lines

abbrev pub line_of : Field → List ℕ
line_of f = f.name ++ 58 ∷ f.raw

pub no_return : (f : Field) → IsField f → All (IsNo 13) (line_of f)
no_return f field =
    let name = each is_token_byte (IsNo 13) f.name (λ b t. (token_byte b t).0) field.name.1 in
    let raw = each is_value_byte (IsNo 13) f.raw (λ b v. (value_byte b v).0) field.raw in
    All-append (IsNo 13) f.name (58 ∷ f.raw) name (All-cons (IsNo 13) 58 f.raw refl raw)

line_is : (f : Field) → IsField f → BytesAreOctets f.raw → IsFieldLine (line_of f) (field_of_parsed_line f)
line_is f field octets =
    let spelled : LineSpellsField (text_of f) (field_of_parsed_line f) = (spell_all (f ∷ []) (All-cons IsField f [] field (All-nil IsField))).0 in record {
      before = spelled.before;
      behind = spelled.behind;
      parts = sym (without_trailing_cr-is (line_of f) f.end (no_return f field)) ∙ spelled.parts;
      name_is = spelled.name;
      value_is = value_of_trimmed (field_value f)
          (list_all-from_AllPass is_field_text_byte (field_value f) (AllPass-trim_ows is_field_text_byte f.raw (AllPass-from_list_all is_field_text_byte f.raw (text_characters f.raw octets field.raw))))
          spelled.trimmed;
      white = spelled.white;
    }

pub line_parts : (f : Field) (behind : List ℕ) → print_field f ++ behind ≡ line_of f ++ (print_end f.end ++ behind)
line_parts f behind = regroup f.name f.raw (print_end f.end)
  where
    regroup : (n r e : List ℕ) → (n ++ 58 ∷ r ++ e) ++ behind ≡ (n ++ 58 ∷ r) ++ (e ++ behind)
    regroup n r e = simp append_assoc refl

raw_octets : (f : Field) (behind : List ℕ) → BytesAreOctets (line_of f ++ behind) → BytesAreOctets f.raw
raw_octets f behind octets = (octets_parts (58 ∷ []) f.raw (octets_parts f.name (58 ∷ f.raw) (octets_parts (line_of f) behind octets).0).1).1

pub lines_are : (fields : List Field) → All IsField fields → BytesAreOctets (flat_map print_field fields) → AreFieldLines (flat_map print_field fields) (map field_of_parsed_line fields)
lines_are [] fine octets = refl
lines_are (f ∷ fields) fine octets =
    let behind : List ℕ = flat_map print_field fields in
    let all : BytesAreOctets (line_of f ++ (print_end f.end ++ behind)) = subst BytesAreOctets (line_parts f behind) octets in
    let field = All-head IsField f fields fine in (
      line_of f,
      print_end f.end,
      behind,
      line_parts f behind,
      line_is f field (raw_octets f (print_end f.end ++ behind) all),
      end_is f.end,
      lines_are fields (All-tail IsField f fields fine) (octets_parts (print_field f) behind octets).1,
    )

-- ---- the parts of a head

pub empty_lines : (ends : List LineEnd) → AreEmptyLines (print_blank ends)
empty_lines ends = record { ends = map print_end ends; each = all ends; parts = same ends }
  where
    all : (ends : List LineEnd) → All IsLineEnd (map print_end ends)
    all [] = All-nil IsLineEnd
    all (end ∷ ends) = All-cons IsLineEnd (print_end end) (map print_end ends) (end_is end) (all ends)

    same : (ends : List LineEnd) → print_blank ends ≡ flat_map (λ (end : List ℕ). end) (map print_end ends)
    same [] = refl
    same (end ∷ ends) = ap (λ t. print_end end ++ t) (same ends)

head_is : (text start : List ℕ) (blank : List LineEnd) (end : LineEnd) (fields : List Field) (last : LineEnd) → All IsField fields → BytesAreOctets text
    → text ≡ print_blank blank ++ (start ++ (print_end end ++ print_section fields last)) → IsHead text start (map field_of_parsed_line fields)
head_is text start blank end fields last fine octets parts =
    let lines : List ℕ = flat_map print_field fields in
    let all : BytesAreOctets (print_blank blank ++ (start ++ (print_end end ++ (lines ++ print_end last)))) = subst BytesAreOctets parts octets in
    let behind = (octets_parts (print_end end) (lines ++ print_end last) (octets_parts start (print_end end ++ (lines ++ print_end last)) (octets_parts (print_blank blank) _ all).1).1).1 in record {
      front = print_blank blank;
      end = print_end end;
      lines = lines;
      last = print_end last;
      parts = parts;
      front_is = empty_lines blank;
      end_is = end_is end;
      lines_are = lines_are fields fine (octets_parts lines (print_end last) behind).0;
      last_is = end_is last;
    }

start_octets : (text start : List ℕ) (blank : List LineEnd) (behind : List ℕ) → BytesAreOctets text → text ≡ print_blank blank ++ (start ++ behind) → BytesAreOctets start
start_octets text start blank behind octets parts =
    (octets_parts start behind (octets_parts (print_blank blank) (start ++ behind) (subst BytesAreOctets parts octets)).1).0

-- ---- requests

abbrev request_line : RequestHead → List ℕ
request_line h = h.method ++ 32 ∷ (h.target ++ 32 ∷ version_text 1 h.minor)

request_parts : (bytes : List ℕ) (h : RequestHead) → IsHeadOfRequest bytes h
    → bytes ≡ print_blank h.blank ++ (request_line h ++ (print_end h.line_end ++ print_section h.fields h.last))
request_parts bytes h head =
    head.0.1 ∙ print_request-append h []
    ∙ ap (λ t. print_blank h.blank ++ t) (regroup h.method h.target (version_text 1 h.minor) (print_end h.line_end) (print_section h.fields h.last))
  where
    regroup : (m t v e s : List ℕ) → m ++ 32 ∷ (t ++ 32 ∷ (v ++ (e ++ (s ++ [])))) ≡ (m ++ 32 ∷ (t ++ 32 ∷ v)) ++ (e ++ s)
    regroup m t v e s = simp (append_assoc, append-nil)

pub request_is : (bytes : List ℕ) (h : RequestHead) → BytesAreOctets bytes → IsHeadOfRequest bytes h → IsRequestHead bytes (head_of_parsed_request h)
request_is bytes h octets head =
    let parts = request_parts bytes h head in
    let start = start_octets bytes (request_line h) h.blank (print_end h.line_end ++ print_section h.fields h.last) octets parts in
    let behind = (octets_parts (32 ∷ []) (h.target ++ 32 ∷ version_text 1 h.minor) (octets_parts h.method (32 ∷ (h.target ++ 32 ∷ version_text 1 h.minor)) start).1).1 in record {
      line = request_line h;
      line_is = record {
        parts = refl;
        method_is = token h.method head.0.0.method;
        target_is = record {
          some = lt-ltb 0 (length h.target) head.0.0.target.0;
          characters = target_characters h.target (octets_parts h.target (32 ∷ version_text 1 h.minor) behind).0 head.0.0.target.1;
          text = head.0.0.target_text;
        };
        version_is = head.0.0.minor;
      };
      head_is = head_is bytes (request_line h) h.blank h.line_end h.fields h.last head.0.0.fields octets parts;
    }

-- ---- responses

abbrev status_line : ResponseHead → List ℕ
status_line h = version_text 1 h.minor ++ 32 ∷ (h.digits ++ space_and_reason_text h.reason)

response_parts : (bytes : List ℕ) (h : ResponseHead) → IsWholeResponseHead bytes h
    → bytes ≡ print_blank h.blank ++ (status_line h ++ (print_end h.line_end ++ print_section h.fields h.last))
response_parts bytes h head =
    head.0.1 ∙ print_response-append h []
    ∙ ap (λ t. print_blank h.blank ++ t) (by_reason h.reason)
  where
    regroup : (v d r e s : List ℕ) → v ++ 32 ∷ (d ++ (r ++ (e ++ (s ++ [])))) ≡ (v ++ 32 ∷ (d ++ r)) ++ (e ++ s)
    regroup v d r e s = simp (append_assoc, append-nil)

    by_reason : (r : Option (List ℕ)) → print_version h.minor ++ 32 ∷ (h.digits ++ (print_reason r ++ (print_end h.line_end ++ (print_section h.fields h.last ++ []))))
        ≡ (version_text 1 h.minor ++ 32 ∷ (h.digits ++ space_and_reason_text r)) ++ (print_end h.line_end ++ print_section h.fields h.last)
    by_reason None = regroup (version_text 1 h.minor) h.digits [] (print_end h.line_end) (print_section h.fields h.last)
    by_reason (Some phrase) = regroup (version_text 1 h.minor) h.digits (32 ∷ phrase) (print_end h.line_end) (print_section h.fields h.last)

reason_is : (r : Option (List ℕ)) → BytesAreOctets (space_and_reason_text r) → AllPass is_value_byte (reason_phrase r) → IsReasonPhrase r
reason_is None octets pass = tt
reason_is (Some phrase) octets pass = text_characters phrase (octets_parts (32 ∷ []) phrase octets).1 pass

pub response_is : (bytes : List ℕ) (h : ResponseHead) → BytesAreOctets bytes → IsWholeResponseHead bytes h → IsResponseHead bytes (status_head_of h)
response_is bytes h octets head =
    let parts = response_parts bytes h head in
    let start = start_octets bytes (status_line h) h.blank (print_end h.line_end ++ print_section h.fields h.last) octets parts in
    let behind = (octets_parts (version_text 1 h.minor ++ 32 ∷ []) (h.digits ++ space_and_reason_text h.reason) start).1 in record {
      line = status_line h;
      line_is = record {
        digits = h.digits;
        reason = h.reason;
        parts = refl;
        three = head.0.0.digits.0;
        digits_are = list_all-from_AllPass is_ascii_digit h.digits head.0.0.digits.1;
        status_is = refl;
        reason_is = reason_is h.reason (octets_parts h.digits (space_and_reason_text h.reason) behind).1 head.0.0.reason;
        minor_is = head.0.0.minor;
      };
      head_is = head_is bytes (status_line h) h.blank h.line_end h.fields h.last head.0.0.fields octets parts;
    }

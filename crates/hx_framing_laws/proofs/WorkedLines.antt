-- What the bytes of a line tell of it, as tests that compute.
use Rattle.std.proofs.Common.{◌≡◌, ℕ, zero, suc, ◌+◌, ◌-◌, ◌≤◌, ◌<◌, ◌&&◌, ◌||◌, ◌==◌, Bool, true, false, List, [], ◌∷◌, ◌++◌, length, drop, take, refl, sym, ap, ◌∙◌, arith, append_assoc, length-append, slice_index, nat_lt, codes, lt-ltb}
use Rattle.std.specs.Prelude.{bytes_eq, IsUtf8}
use Rattle.std.specs.List.{All, list_all, slice_split, position_or_len}
use Rattle.std.specs.Str.{IsAscii}
use Rattle.std.proofs.lemmas.Str.{IsUtf8-from_ascii}
use Rattle.std.proofs.Math.Seq.{drop-append_seam, take-append_seam}
use Rattle.std.proofs.lemmas.Bool.{and_from, and_parts, or_from, or_left, ne_eqb, ltb-true}
use Rattle.std.proofs.lemmas.List.Folds.{list_all-append}
use Rattle.std.proofs.lemmas.List.Splits.{slice_split_at}
use Rattle.std.proofs.lemmas.List.Sums.{list_all-from_AllPass, AllPass-from_list_all}
use Rattle.httparse.specs.Grammar.{AllPass, is_token_byte, is_uri_byte}
use Rattle.hx_fields.specs.Line.{Field}
use Rattle.hx_fields.specs.Names.{is_blank}
use Rattle.hx_fields.specs.Tokens.{is_token}
use Rattle.hx_framing.specs.GivenFields.{TextIsTrimmed}
use Rattle.hx_framing.specs.HeadLines.{is_colon, name_before_colon}
use Rattle.hx_framing.proofs.HeadLineLemmas.{each, first_at, token_no_colon}
use Rattle.hx_framing_laws.specs.Characters.{is_field_text_byte}
use Rattle.hx_framing_laws.specs.Lines.{IsFieldLine, IsRequestLine, version_text}
use Rattle.hx_framing_laws.proofs.CharacterLemmas.{token_of, characters_of_target}
use Rattle.hx_framing_laws.proofs.FieldValues.{value_of_trimmed, trimmed_of_value}

-- ---- field lines

abbrev behind_colon : List ℕ → List ℕ
behind_colon line = drop (length (name_before_colon line) + 1) line

-- such tests hold of a field line
pub name_stands : (line : List ℕ) (f : Field) → IsFieldLine line f → name_before_colon line ≡ f.name
name_stands line f is =
    let rest : List ℕ = is.before ++ (f.value ++ is.behind) in
    let found = first_at is_colon f.name 58 rest (each is_token_byte (λ b. is_colon b ≡ false) f.name token_no_colon (token_of f.name is.name_is).1) refl in
    ap name_before_colon is.parts ∙ ap (λ n. take n (f.name ++ 58 ∷ rest)) found ∙ take-append_seam f.name (58 ∷ rest)

colon_at : (line : List ℕ) (f : Field) → IsFieldLine line f → position_or_len is_colon line ≡ length f.name
colon_at line f is =
    ap (position_or_len is_colon) is.parts
    ∙ first_at is_colon f.name 58 (is.before ++ (f.value ++ is.behind)) (each is_token_byte (λ b. is_colon b ≡ false) f.name token_no_colon (token_of f.name is.name_is).1) refl

blanks_are_text : (text : List ℕ) → list_all is_blank text ≡ true → list_all is_field_text_byte text ≡ true
blanks_are_text text all = list_all-from_AllPass is_field_text_byte text (λ k d inside. or_left _ _ (AllPass-from_list_all is_blank text all k d inside))

behind_is : (line : List ℕ) (f : Field) (is : IsFieldLine line f) → behind_colon line ≡ is.before ++ (f.value ++ is.behind)
behind_is line f is =
    let rest : List ℕ = is.before ++ (f.value ++ is.behind) in
    let parts : line ≡ (f.name ++ 58 ∷ []) ++ rest = is.parts ∙ sym (append_assoc f.name (58 ∷ []) rest) in
    let size : length f.name + 1 ≡ length (f.name ++ 58 ∷ []) = sym (length-append f.name (58 ∷ [])) in
    ap (λ t. drop (length t + 1) line) (name_stands line f is) ∙ ap (λ n. drop n line) size ∙ ap (drop (length (f.name ++ 58 ∷ []))) parts
    ∙ drop-append_seam (f.name ++ 58 ∷ []) rest

abbrev pub may_be_field_line : List ℕ → Bool
may_be_field_line line =
    (nat_lt (position_or_len is_colon line) (length line) && is_token (name_before_colon line)) && list_all is_field_text_byte (behind_colon line)

may_be : (line : List ℕ) (f : Field) → IsFieldLine line f → may_be_field_line line ≡ true
may_be line f is =
    let rest : List ℕ = is.before ++ (f.value ++ is.behind) in
    let long : position_or_len is_colon line < length line = omega (arith, colon_at line f is, ap length is.parts, length-append f.name (58 ∷ rest)) in
    let texts : list_all is_field_text_byte rest ≡ true
    = list_all-append is_field_text_byte is.before (f.value ++ is.behind)
    ∙ and_from _ _ (blanks_are_text is.before is.white.0)
    (list_all-append is_field_text_byte f.value is.behind ∙ and_from _ _ (trimmed_of_value f.value is.value_is).0 (blanks_are_text is.behind is.white.1)) in
    and_from _ _ (and_from _ _ (lt-ltb (position_or_len is_colon line) (length line) long) (ap is_token (name_stands line f is) ∙ is.name_is))
    (ap (list_all is_field_text_byte) (behind_is line f is) ∙ texts)

pub is_no_field_line : (line : List ℕ) → may_be_field_line line ≡ false → (f : Field) → ¬ (IsFieldLine line f)
is_no_field_line line fails f = λ is. let h : false ≡ true = sym fails ∙ may_be line f is in cc

-- a value with white space at an end
pub is_no_value : (line : List ℕ) (f : Field) → is_blank (slice_index f.value 0) || is_blank (slice_index f.value (length f.value - 1)) ≡ true → ¬ (IsFieldLine line f)
is_no_value line f fails = λ is.
    let trimmed = (trimmed_of_value f.value is.value_is).1 in
    let h : true ≡ false = sym fails ∙ or_from _ _ trimmed.starts trimmed.ends in cc

-- the line of a field with this white space round it
pub spelled : (field : Field) (before behind : List ℕ) → is_token field.name ≡ true → list_all is_field_text_byte field.value ≡ true → TextIsTrimmed field.value
    → list_all is_blank before ≡ true → list_all is_blank behind ≡ true → IsFieldLine (field.name ++ 58 ∷ (before ++ (field.value ++ behind))) field
spelled field before behind name value trimmed front end =
    record { before = before; behind = behind; parts = refl; name_is = name; value_is = value_of_trimmed field.value value trimmed; white = (front, end) }

-- ---- request lines

abbrev pub words : List ℕ → List (List ℕ)
words line = slice_split (λ b. b == 32) line

token_space : is_token_byte 32 ≡ false
unfolding is_token_byte
token_space = refl

no_space : (test : ℕ → Bool) → test 32 ≡ false → (text : List ℕ) → AllPass test text → All (λ b. (b == 32) ≡ false) text
no_space test fails text pass = each test (λ b. (b == 32) ≡ false) text (λ b on. ne_eqb b 32 (λ e. absurd (let h = sym on ∙ ap test e ∙ fails in cc))) pass

version_no_space : (n : ℕ) → n ≤ 1 → words (version_text 1 n) ≡ version_text 1 n ∷ []
version_no_space zero small = refl
version_no_space (suc zero) small = refl
version_no_space (suc (suc n)) small = absurd (omega arith)

-- three words, with one space between
pub three_words : (line m t : List ℕ) (n : ℕ) → IsRequestLine line m t n → words line ≡ m ∷ t ∷ version_text 1 n ∷ []
three_words line m t n is =
    ap words is.parts
    ∙ slice_split_at (λ b. b == 32) m 32 (t ++ 32 ∷ version_text 1 n) (no_space is_token_byte token_space m (token_of m is.method_is).1) refl
    ∙ ap (λ l. m ∷ l) (slice_split_at (λ b. b == 32) t 32 (version_text 1 n) (no_space is_uri_byte refl t (characters_of_target t is.target_is.characters)) refl)
    ∙ ap (λ l. m ∷ t ∷ l) (version_no_space n is.version_is)

abbrev pub may_be_request_words : List (List ℕ) → Bool
may_be_request_words (m ∷ t ∷ v ∷ []) = is_token m && (bytes_eq v (codes "HTTP/1.0") || bytes_eq v (codes "HTTP/1.1"))
may_be_request_words other = false

version_is_known : (n : ℕ) → n ≤ 1 → (bytes_eq (version_text 1 n) (codes "HTTP/1.0") || bytes_eq (version_text 1 n) (codes "HTTP/1.1")) ≡ true
version_is_known zero small = refl
version_is_known (suc zero) small = refl
version_is_known (suc (suc n)) small = absurd (omega arith)

pub is_no_request_line : (line : List ℕ) → may_be_request_words (words line) ≡ false → (m t : List ℕ) (n : ℕ) → ¬ (IsRequestLine line m t n)
is_no_request_line line fails m t n = λ is.
    let holds : may_be_request_words (words line) ≡ true
    = ap may_be_request_words (three_words line m t n is) ∙ and_from _ _ is.method_is (version_is_known n is.version_is) in
    let h : false ≡ true = sym fails ∙ holds in cc

-- ---- texts in ASCII

ascii : (text : List ℕ) → list_all (λ b. nat_lt b 128) text ≡ true → IsAscii text
ascii [] all i = omega arith
ascii (b ∷ text) all zero = ltb-true b 128 (and_parts (nat_lt b 128) (list_all (λ c. nat_lt c 128) text) all).0
ascii (b ∷ text) all (suc i) = ascii text (and_parts (nat_lt b 128) (list_all (λ c. nat_lt c 128) text) all).1 i

pub utf8 : (text : List ℕ) → list_all (λ b. nat_lt b 128) text ≡ true → IsUtf8 text
utf8 text all = IsUtf8-from_ascii text (ascii text all)

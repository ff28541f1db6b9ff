-- The fields that the lines of a head of the grammar spell.
use Rattle.std.proofs.Common.{◌≡◌, ℕ, ◌-◌, Bool, true, false, if◌then◌else◌, List, [], ◌∷◌, ◌++◌, length, get_or, take, drop, map, reverse, refl, sym, ap, ◌∙◌, subst, arith, append-nil, length-append}
use Rattle.std.specs.List.{All, list_all, position_or_len}
use Rattle.std.proofs.Math.Seq.{drop-append_seam, take-append_seam, get_or-append_seam}
use Rattle.std.proofs.lemmas.Bool.{and_from, and_parts}
use Rattle.std.proofs.lemmas.List.{reverse-append, reverse-reverse}
use Rattle.std.proofs.lemmas.List.Elements.{All-append, All-cons, All-head, All-tail}
use Rattle.std.proofs.lemmas.List.Sums.{list_all-from_AllPass, AllPass-from_list_all}
use Rattle.httparse.specs.Grammar.{Field, IsField, field_value, is_token_byte, is_value_byte, is_ows, skip_ows, trim_ows}
use Rattle.httparse.proofs.TrimLemmas.{AllPass-trim_ows, AllPass-reverse}
use Rattle.hx_fields.specs.Line.{Field as Line}
use Rattle.hx_fields.specs.Names.{is_blank, is_nonempty}
use Rattle.hx_fields.specs.Tokens as tokens
use Rattle.hx_framing.specs.Head.{field_of_parsed_line}
use Rattle.hx_framing.specs.HeadLines.{is_colon}
use Rattle.hx_framing.specs.GivenFields.{is_field_value_byte, TextIsTrimmed, LineSpellsField, LinesSpellFields, HeadGivesFields}
use Rattle.hx_framing.proofs.HeadLineLemmas.{IsNo, each, value_byte, token_byte, token_no_colon, same_token_byte, token, first_at, without_trailing_cr-is, text_of}

-- ---- white space

-- the white space at the front
abbrev blanks : List ℕ → List ℕ
blanks [] = []
blanks (b ∷ bytes) = if is_ows b then b ∷ blanks bytes else []

blanks_are : (text : List ℕ) → list_all is_blank (blanks text) ≡ true
blanks_are [] = refl
blanks_are (b ∷ bytes) = by_test (blanks_are bytes) (is_ows b) refl
  where
    by_test : list_all is_blank (blanks bytes) ≡ true → (t : Bool) → is_ows b ≡ t → list_all is_blank (if t then b ∷ blanks bytes else []) ≡ true
    by_test later true blank = and_from (is_blank b) (list_all is_blank (blanks bytes)) blank later
    by_test later false other = refl

front_is : (text : List ℕ) → text ≡ blanks text ++ skip_ows text
front_is [] = refl
front_is (b ∷ bytes) = by_test (front_is bytes) (is_ows b)
  where
    by_test : bytes ≡ blanks bytes ++ skip_ows bytes → (t : Bool)
        → b ∷ bytes ≡ (if t then b ∷ blanks bytes else []) ++ (if t then skip_ows bytes else b ∷ bytes)
    by_test later true = ap (λ l. b ∷ l) later
    by_test later false = refl

begins_otherwise : (text : List ℕ) → is_blank (get_or (skip_ows text) 0 0) ≡ false
begins_otherwise [] = refl
begins_otherwise (b ∷ bytes) = by_test (begins_otherwise bytes) (is_ows b) refl
  where
    by_test : is_blank (get_or (skip_ows bytes) 0 0) ≡ false → (t : Bool) → is_ows b ≡ t
        → is_blank (get_or (if t then skip_ows bytes else b ∷ bytes) 0 0) ≡ false
    by_test later true blank = later
    by_test later false other = other

skip_same : (text : List ℕ) → is_blank (get_or text 0 0) ≡ false → skip_ows text ≡ text
skip_same [] other = refl
skip_same (b ∷ bytes) other = ap (λ t. if t then skip_ows bytes else b ∷ bytes) other

skip_past : (white rest : List ℕ) → list_all is_blank white ≡ true → skip_ows (white ++ rest) ≡ skip_ows rest
skip_past [] rest all = refl
skip_past (b ∷ white) rest all =
    let parts = and_parts (is_blank b) (list_all is_blank white) all in
    ap (λ t. if t then skip_ows (white ++ rest) else b ∷ (white ++ rest)) parts.0 ∙ skip_past white rest parts.1

-- the first byte is the last one from behind
last_first : (text : List ℕ) → get_or (reverse text) (length (reverse text) - 1) 0 ≡ get_or text 0 0
last_first [] = refl
last_first (x ∷ xs) =
    let split : reverse (x ∷ xs) ≡ reverse xs ++ x ∷ [] = reverse-append (x ∷ []) xs in
    let place : length (reverse xs ++ x ∷ []) - 1 ≡ length (reverse xs) = omega (arith, length-append (reverse xs) (x ∷ [])) in
    ap (λ l. get_or l (length l - 1) 0) split ∙ ap (λ n. get_or (reverse xs ++ x ∷ []) n 0) place
    ∙ get_or-append_seam (reverse xs) x [] 0

blank_reverse : (white : List ℕ) → list_all is_blank white ≡ true → list_all is_blank (reverse white) ≡ true
blank_reverse white all = list_all-from_AllPass is_blank (reverse white) (AllPass-reverse is_blank white (AllPass-from_list_all is_blank white all))

-- what is trimmed stands between white space
record Trims (raw value : List ℕ) : Type 0 where
  before : List ℕ
  behind : List ℕ
  parts : raw ≡ before ++ (value ++ behind)
  trimmed : TextIsTrimmed value
  white : (list_all is_blank before ≡ true) × (list_all is_blank behind ≡ true)

trims : (raw : List ℕ) → Trims raw (trim_ows raw)
unfolding trim_ows
trims raw =
    let rest : List ℕ = skip_ows raw in
    let turned : List ℕ = skip_ows (reverse rest) in
    let behind : List ℕ = reverse (blanks (reverse rest)) in
    let split : rest ≡ reverse turned ++ behind
    = sym (reverse-reverse rest) ∙ ap reverse (front_is (reverse rest)) ∙ reverse-append (blanks (reverse rest)) turned in
    record {
      before = blanks raw;
      behind = behind;
      parts = front_is raw ∙ ap (λ l. blanks raw ++ l) split;
      trimmed = record {
        starts = first (reverse turned) behind (ap (λ l. is_blank (get_or l 0 0)) (sym split) ∙ begins_otherwise raw);
        ends = ap is_blank (last_first turned) ∙ begins_otherwise (reverse rest);
      };
      white = (blanks_are raw, blank_reverse (blanks (reverse rest)) (blanks_are (reverse rest)));
    }
  where
    first : (value behind : List ℕ) → is_blank (get_or (value ++ behind) 0 0) ≡ false → is_blank (get_or value 0 0) ≡ false
    first [] behind other = refl
    first (x ∷ value) behind other = other

-- and nothing else is
trimmed_once : (raw value : List ℕ) → Trims raw value → value ≡ trim_ows raw
unfolding trim_ows
trimmed_once raw value t = by_value value t
  where
    by_value : (value : List ℕ) → (t : Trims raw value) → value ≡ reverse (skip_ows (reverse (skip_ows raw)))
    by_value [] t =
        let none : skip_ows raw ≡ [] = ap skip_ows (t.parts ∙ ap (λ l. t.before ++ l) (sym (append-nil t.behind)))
        ∙ skip_past t.before (t.behind ++ []) t.white.0 ∙ skip_past t.behind [] t.white.1 in
        ap (λ l. reverse (skip_ows (reverse l))) (sym none)
    by_value (x ∷ xs) t =
        let v : List ℕ = x ∷ xs in
        let front : skip_ows raw ≡ v ++ t.behind
        = ap skip_ows t.parts ∙ skip_past t.before (v ++ t.behind) t.white.0 ∙ skip_same (v ++ t.behind) t.trimmed.starts in
        let ends : is_blank (get_or (reverse v) 0 0) ≡ false
        = ap is_blank (sym (last_first (reverse v)) ∙ ap (λ l. get_or l (length l - 1) 0) (reverse-reverse v)) ∙ t.trimmed.ends in
        let back : skip_ows (reverse (v ++ t.behind)) ≡ reverse v
        = ap skip_ows (reverse-append v t.behind) ∙ skip_past (reverse t.behind) (reverse v) (blank_reverse t.behind t.white.1)
        ∙ skip_same (reverse v) ends in
        sym (reverse-reverse v) ∙ ap reverse (sym back) ∙ ap (λ l. reverse (skip_ows (reverse l))) (sym front)

-- ---- field lines

no_return : (f : Field) → IsField f → All (IsNo 13) (f.name ++ 58 ∷ f.raw)
no_return f field =
    let name = each is_token_byte (IsNo 13) f.name (λ b t. (token_byte b t).0) field.name.1 in
    let raw = each is_value_byte (IsNo 13) f.raw (λ b v. (value_byte b v).0) field.raw in
    All-append (IsNo 13) f.name (58 ∷ f.raw) name (All-cons (IsNo 13) 58 f.raw refl raw)

spells : (f : Field) → IsField f → LineSpellsField (text_of f) (field_of_parsed_line f)
spells f field =
    let t = trims f.raw in record {
      before = t.before;
      behind = t.behind;
      parts = without_trailing_cr-is (f.name ++ 58 ∷ f.raw) f.end (no_return f field) ∙ ap (λ l. f.name ++ 58 ∷ l) t.parts;
      name = token f.name field.name;
      value = list_all-from_AllPass is_field_value_byte (field_value f) (AllPass-trim_ows is_value_byte f.raw field.raw);
      trimmed = t.trimmed;
      white = t.white;
    }

pub spell_all : (fields : List Field) → All IsField fields → LinesSpellFields (map text_of fields) (map field_of_parsed_line fields)
spell_all [] fine = tt
spell_all (f ∷ fields) fine = (spells f (All-head IsField f fields fine), spell_all fields (All-tail IsField f fields fine))

-- ---- a line spells one field

no_colon : (name : List ℕ) → tokens.is_token name ≡ true → All (λ b. is_colon b ≡ false) name
no_colon name is =
    let bytes = (and_parts (is_nonempty name) (list_all tokens.is_token_byte name) is).1 in
    each tokens.is_token_byte (λ b. is_colon b ≡ false) name (λ b t. token_no_colon b (same_token_byte b ∙ t)) (AllPass-from_list_all tokens.is_token_byte name bytes)

-- names that are tokens, before a colon
cut_once : (a b r q : List ℕ) → tokens.is_token a ≡ true → tokens.is_token b ≡ true → a ++ 58 ∷ r ≡ b ++ 58 ∷ q → (a ≡ b) × (r ≡ q)
cut_once a b r q first second same =
    let long : length a ≡ length b
    = sym (first_at is_colon a 58 r (no_colon a first) refl) ∙ ap (position_or_len is_colon) same ∙ first_at is_colon b 58 q (no_colon b second) refl in
    let names : a ≡ b
    = sym (take-append_seam a (58 ∷ r)) ∙ ap (take (length a)) same ∙ ap (λ n. take n (b ++ 58 ∷ q)) long ∙ take-append_seam b (58 ∷ q) in
    let behind : 58 ∷ r ≡ 58 ∷ q
    = sym (drop-append_seam a (58 ∷ r)) ∙ ap (drop (length a)) same ∙ ap (λ n. drop n (b ++ 58 ∷ q)) long ∙ drop-append_seam b (58 ∷ q) in
    (names, ap (drop 1) behind)

pub messages_spelled_by_a_stream_are_unique : (line : List ℕ) (f g : Line) → LineSpellsField line f → LineSpellsField line g → f ≡ g
messages_spelled_by_a_stream_are_unique line f g x y =
    let rest : List ℕ = x.before ++ (f.value ++ x.behind) in
    let cut = cut_once f.name g.name rest (y.before ++ (g.value ++ y.behind)) x.name y.name (sym x.parts ∙ y.parts) in
    let first : f.value ≡ trim_ows rest
    = trimmed_once rest f.value (record { before = x.before; behind = x.behind; parts = refl; trimmed = x.trimmed; white = x.white }) in
    let second : g.value ≡ trim_ows rest
    = trimmed_once rest g.value (record { before = y.before; behind = y.behind; parts = cut.1; trimmed = y.trimmed; white = y.white }) in
    let values : f.value ≡ g.value = first ∙ sym second in
    λ i. record { name = cut.0 i; value = values i }

all_once : (lines : List (List ℕ)) (fs gs : List Line) → LinesSpellFields lines fs → LinesSpellFields lines gs → fs ≡ gs
all_once [] [] [] x y = refl
all_once [] [] (g ∷ gs) x y = absurd y
all_once [] (f ∷ fs) gs x y = absurd x
all_once (line ∷ lines) [] gs x y = absurd x
all_once (line ∷ lines) (f ∷ fs) [] x y = absurd y
all_once (line ∷ lines) (f ∷ fs) (g ∷ gs) x y =
    let first = messages_spelled_by_a_stream_are_unique line f g x.0 y.0 in
    let later = all_once lines fs gs x.1 y.1 in
    λ i. first i ∷ later i

-- lines before the last two
same_lines : (xs ys : List (List ℕ)) (a b : List ℕ) → xs ++ a ∷ [] ∷ [] ≡ ys ++ b ∷ [] ∷ [] → xs ≡ ys
same_lines xs ys a b same =
    let long : length xs ≡ length ys
    = omega (arith, ap length same, length-append xs (a ∷ [] ∷ []), length-append ys (b ∷ [] ∷ [])) in
    sym (take-append_seam xs (a ∷ [] ∷ [])) ∙ ap (take (length xs)) same ∙ ap (λ n. take n (ys ++ b ∷ [] ∷ [])) long
    ∙ take-append_seam ys (b ∷ [] ∷ [])

pub given_once : (bytes : List ℕ) (fs gs : List Line) → HeadGivesFields bytes fs → HeadGivesFields bytes gs → fs ≡ gs
given_once bytes fs gs x y =
    let lines : x.lines ≡ y.lines = same_lines x.lines y.lines x.last y.last (sym x.are ∙ y.are) in
    all_once y.lines fs gs (subst (λ (ls : List (List ℕ)). LinesSpellFields ls fs) lines x.spelled) y.spelled

-- A line of Via is cut at the commas of its list.
use Rattle.std.proofs.Common.{◌≡◌, ℕ, suc, ◌+◌, ◌-◌, ◌<◌, ◌≤◌, Bool, true, false, List, [], ◌∷◌, ◌++◌, length, get_or, drop, take, refl, sym, ◌∙◌, ap, cond, arith, append_assoc, add-one, append-nil}
use Rattle.std.specs.Prelude.{slice_range, count_by, ◌==◌}
use Rattle.std.proofs.Math.Seq.{drop-cons}
use Rattle.std.proofs.lemmas.List.{drop_all, take_all, length-drop}
use Rattle.std.proofs.lemmas.List.Sums.{sum_by-cons}
use Rattle.std.proofs.lemmas.Grind.{common_steps}
use Rattle.hx_fields.specs.Names.{byte_before_first_piece, comma, quote, backslash}
use Rattle.hx_fields.proofs.Pieces.{all_in_front, all_in_front-in_front, range_grows}
use Rattle.hx_allow.specs.Via.{via_place_after_byte, via_members_of_line, is_list_comma_at, via_member_names_proxy, number_of_enclosing_comments, opening_parenthesis, closing_parenthesis}
use Rattle.hx_allow.specs.declared.via.ViaLineParseState.{ViaLineParseState}
use Rattle.hx_allow.specs.declared.via.ViaLineParseState.TheVariants.{Outside, Quoted, QuotedPair, Comment, CommentPair}

-- nothing in front changes nothing
pub none_in_front : (place : ViaLineParseState) (text : List ℕ) → all_in_front [] (via_members_of_line place text) ≡ via_members_of_line place text
none_in_front place [] = refl
none_in_front place (b ∷ bs) = by_comma (is_list_comma_at place b)
  where
    front_of : (ps : List (List ℕ)) → all_in_front [] (byte_before_first_piece b ps) ≡ byte_before_first_piece b ps
    front_of [] = refl
    front_of (p ∷ ps) = refl

    pieces_by : Bool → List (List ℕ)
    pieces_by t = cond t ([] ∷ via_members_of_line Outside bs) (byte_before_first_piece b (via_members_of_line (via_place_after_byte place b) bs))

    by_comma : (t : Bool) → all_in_front [] (pieces_by t) ≡ pieces_by t
    by_comma true = refl
    by_comma false = front_of (via_members_of_line (via_place_after_byte place b) bs)

-- a comma that cuts stands outside, and so does the next byte
place_after_comma : (place : ViaLineParseState) (b : ℕ) → is_list_comma_at place b ≡ true → via_place_after_byte place b ≡ Outside
place_after_comma Outside b h = let is : b ≡ 44 = grind (arith, common_steps) in rw is refl
place_after_comma Quoted b h = cc
place_after_comma QuotedPair b h = cc
place_after_comma (Comment around) b h = cc
place_after_comma (CommentPair around) b h = cc

pub comments_grow : (place : ViaLineParseState) (b : ℕ) → number_of_enclosing_comments (via_place_after_byte place b) ≤ number_of_enclosing_comments place + 1
comments_grow Outside b = by_tests (b == quote) (b == opening_parenthesis)
  where
    by_tests : (q c : Bool) → number_of_enclosing_comments (cond q Quoted (cond c (Comment 0) Outside)) ≤ 0 + 1
    by_tests true c = omega arith
    by_tests false true = omega arith
    by_tests false false = omega arith
comments_grow Quoted b = by_tests (b == quote) (b == backslash)
  where
    by_tests : (q c : Bool) → number_of_enclosing_comments (cond q Outside (cond c QuotedPair Quoted)) ≤ 0 + 1
    by_tests true c = omega arith
    by_tests false true = omega arith
    by_tests false false = omega arith
comments_grow QuotedPair b = omega arith
comments_grow (Comment around) b = by_tests (b == opening_parenthesis) (b == closing_parenthesis) (around == 0) (b == backslash)
  where
    by_tests : (begin end none pair : Bool) →
        number_of_enclosing_comments (cond begin (Comment (around + 1)) (cond end (cond none Outside (Comment (around - 1))) (cond pair (CommentPair around) (Comment around)))) ≤ around + 1
    by_tests true end none pair = omega arith
    by_tests false true true pair = omega arith
    by_tests false true false pair = omega arith
    by_tests false false none true = omega arith
    by_tests false false none false = omega arith
comments_grow (CommentPair around) b = omega arith

-- how many of some pieces name a proxy
abbrev pub naming : List ℕ → List (List ℕ) → ℕ
naming name ps = count_by (via_member_names_proxy name) ps

abbrev once : List ℕ → List ℕ → ℕ
once name p = cond (via_member_names_proxy name p) 1 0

pub naming_of_more : (name p : List ℕ) (ps : List (List ℕ)) → naming name (p ∷ ps) ≡ once name p + naming name ps
naming_of_more name p ps = sum_by-cons (λ q. once name q) p ps

-- what is left behind the last comma is a piece
pub times_at_end : (name value : List ℕ) (start i : ℕ) (place : ViaLineParseState) (found total : ℕ) → length value ≤ i → i ≤ length value →
    found + naming name (all_in_front (slice_range value start i) (via_members_of_line place (drop i value))) ≡ total → found + once name (drop start value) ≡ total
times_at_end name value start i place found total least most h =
    let none : drop i value ≡ [] = drop_all i value least in
    let last : slice_range value start i ≡ drop start value = take_all (i - start) (drop start value) (rw (length-drop start value) (omega arith)) in
    ap (λ n. found + n) (
    omega arith
    ∙ sym (naming_of_more name (drop start value) [])
    ∙ ap (λ p. naming name (p ∷ [])) (sym last ∙ sym (append-nil (slice_range value start i)))
    ∙ ap (λ t. naming name (all_in_front (slice_range value start i) (via_members_of_line place t))) (sym none)
    ) ∙ h

module _ (name value : List ℕ) (start i : ℕ) (place : ViaLineParseState) (within : start ≤ i) (at : i < length value) where
  abbrev b : ℕ
  b = get_or value i 0

  abbrev cur : List ℕ
  cur = slice_range value start i

  abbrev rest : List ℕ
  rest = drop (i + 1) value

  dropped : drop i value ≡ b ∷ rest
  dropped = rw add-one (drop-cons value i 0 at)

  -- the next byte joins the front
  pub front_grows : is_list_comma_at place b ≡ false
      → all_in_front cur (via_members_of_line place (drop i value)) ≡ all_in_front (slice_range value start (i + 1)) (via_members_of_line (via_place_after_byte place b) rest)
  front_grows h =
      let goes_on : via_members_of_line place (b ∷ rest) ≡ byte_before_first_piece b (via_members_of_line (via_place_after_byte place b) rest) = rw h refl in
      ap (λ t. all_in_front cur (via_members_of_line place t)) dropped
      ∙ ap (λ ps. all_in_front cur ps) goes_on
      ∙ all_in_front-in_front cur b (via_members_of_line (via_place_after_byte place b) rest)
      ∙ ap (λ q. all_in_front q (via_members_of_line (via_place_after_byte place b) rest)) (sym (range_grows value start i within at))

  -- the front is a piece
  pub front_ends : is_list_comma_at place b ≡ true
      → all_in_front cur (via_members_of_line place (drop i value))
      ≡ cur ∷ all_in_front (slice_range value (i + 1) (i + 1)) (via_members_of_line (via_place_after_byte place b) rest)
  front_ends h =
      let cuts : via_members_of_line place (b ∷ rest) ≡ [] ∷ via_members_of_line Outside rest = rw h refl in
      let none : slice_range value (i + 1) (i + 1) ≡ [] = grind (arith, common_steps) in
      let after : all_in_front (slice_range value (i + 1) (i + 1)) (via_members_of_line (via_place_after_byte place b) rest) ≡ via_members_of_line Outside rest = rw (none, place_after_comma place b h) (none_in_front Outside rest) in
      ap (λ t. all_in_front cur (via_members_of_line place t)) dropped
      ∙ ap (λ ps. all_in_front cur ps) cuts
      ∙ ap (λ q. q ∷ via_members_of_line Outside rest) (append-nil cur)
      ∙ ap (λ ps. cur ∷ ps) (sym after)

  pub times_at_comma : (found added next_found next_start total : ℕ) (next : ViaLineParseState) → is_list_comma_at place b ≡ true →
      added ≡ once name cur → next_found ≡ found + added → next_start ≡ i + 1 → next ≡ via_place_after_byte place b →
      found + naming name (all_in_front cur (via_members_of_line place (drop i value))) ≡ total →
      next_found + naming name (all_in_front (slice_range value next_start (i + 1)) (via_members_of_line next rest)) ≡ total
  times_at_comma found added next_found next_start total next comma one found_is start_is next_is h =
      let later : List (List ℕ) = all_in_front (slice_range value (i + 1) (i + 1)) (via_members_of_line (via_place_after_byte place b) rest) in
      let parts : naming name (all_in_front cur (via_members_of_line place (drop i value))) ≡ once name cur + naming name later = ap (naming name) (front_ends comma) ∙ naming_of_more name cur later in
      rw (found_is, start_is, next_is, one) (omega arith ∙ ap (λ n. found + n) (sym parts) ∙ h)

  pub times_elsewhere : (found next_found next_start total : ℕ) (next : ViaLineParseState) → is_list_comma_at place b ≡ false →
      next_found ≡ found → next_start ≡ start → next ≡ via_place_after_byte place b →
      found + naming name (all_in_front cur (via_members_of_line place (drop i value))) ≡ total →
      next_found + naming name (all_in_front (slice_range value next_start (i + 1)) (via_members_of_line next rest)) ≡ total
  times_elsewhere found next_found next_start total next other found_is start_is next_is h =
      rw (found_is, start_is, next_is) (ap (λ ps. found + naming name ps) (sym (front_grows other)) ∙ h)

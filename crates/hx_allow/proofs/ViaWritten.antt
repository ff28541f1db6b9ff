-- A line of Via is read as it is written.
use Rattle.std.proofs.Common.{◌≡◌, ℕ, zero, suc, ◌+◌, ◌-◌, Bool, true, false, cond, List, [], ◌∷◌, ◌++◌, length, take, drop, Option, Some, None, refl, sym, ◌∙◌, ap, subst, arith, append_assoc, append-nil}
use Rattle.std.specs.Prelude.{◌==◌, ◌&&◌, ◌||◌, not, count_by}
use Rattle.std.specs.List.{prefix_len, list_all}
use Rattle.std.proofs.Math.Seq.{take-append_seam, drop-append_seam}
use Rattle.std.proofs.lemmas.Bool.{and_parts, eqb-true}
use Rattle.std.proofs.lemmas.Grind.{common_steps}
use Rattle.std.proofs.lemmas.List.Sums.{sum_by-cons}
use Rattle.hx_fields.specs.Names.{is_same_name, is_blank, comma, quote, backslash, byte_before_first_piece, is_nonempty}
use Rattle.hx_fields.proofs.Pieces.{all_in_front}
use Rattle.hx_allow.specs.Via.{opening_parenthesis, closing_parenthesis, via_place_after_byte, is_list_comma_at, via_members_of_line, is_via_word_byte, without_leading_blanks, first_via_word, behind_first_via_word, received_by_of_via_member, via_member_names_proxy, times_in_via_line}
use Rattle.hx_allow.specs.Via.{CommentAfterOpening, ends, text_byte, quoted_pair, comment_within, text_after_opening_parenthesis, is_valid_rest_of_comment, ViaMember, via_comment_text, via_member_text, is_via_byte, is_word_of_via_bytes, are_one_or_more_blanks, is_comment, is_wellformed_via_member, via_line_text}
use Rattle.hx_allow.specs.declared.via.ViaLineParseState.{ViaLineParseState}
use Rattle.hx_allow.specs.declared.via.ViaLineParseState.TheVariants.{Outside, Quoted, QuotedPair, Comment, CommentPair}
use Rattle.hx_allow.proofs.ViaPieces.{naming, naming_of_more, none_in_front}

-- ---- bytes of words

pub other_byte : (p : ℕ → Bool) (k b : ℕ) → p k ≡ false → p b ≡ true → (b == k) ≡ false
other_byte p k b unlike like = by_test (b == k) refl
  where
    by_test : (t : Bool) → (b == k) ≡ t → t ≡ false
    by_test true is = sym like ∙ ap p (eqb-true b k is) ∙ unlike
    by_test false is = refl

via_byte_is_not_blank : (b : ℕ) → is_via_byte b ≡ true → is_blank b ≡ false
via_byte_is_not_blank b h = rw (other_byte is_via_byte 32 b refl h) (other_byte is_via_byte 9 b refl h)

via_byte_is_of_words : (b : ℕ) → is_via_byte b ≡ true → is_via_word_byte b ≡ true
via_byte_is_of_words b h = rw (via_byte_is_not_blank b h) (rw (other_byte is_via_byte 40 b refl h) refl)

blank_is_of_no_word : (b : ℕ) → is_blank b ≡ true → is_via_word_byte b ≡ false
blank_is_of_no_word b h = rw h refl

blank_is_other : (k b : ℕ) → is_blank k ≡ false → is_blank b ≡ true → (b == k) ≡ false
blank_is_other k b unlike h = other_byte is_blank k b unlike h

-- ---- words of a member

module _ (p : ℕ → Bool) where
  pub run_len : (run rest : List ℕ) → list_all p run ≡ true → prefix_len p rest ≡ 0 → prefix_len p (run ++ rest) ≡ length run
  run_len [] rest all stops = stops
  run_len (b ∷ run) rest all stops =
      let parts = and_parts (p b) (list_all p run) all in
      rw parts.0 (rw (run_len run rest parts.1 stops) (omega arith))

  pub run_taken : (run rest : List ℕ) → list_all p run ≡ true → prefix_len p rest ≡ 0 → take (prefix_len p (run ++ rest)) (run ++ rest) ≡ run
  run_taken run rest all stops = ap (λ n. take n (run ++ rest)) (run_len run rest all stops) ∙ take-append_seam run rest

  run_dropped : (run rest : List ℕ) → list_all p run ≡ true → prefix_len p rest ≡ 0 → drop (prefix_len p (run ++ rest)) (run ++ rest) ≡ rest
  run_dropped run rest all stops = ap (λ n. drop n (run ++ rest)) (run_len run rest all stops) ∙ drop-append_seam run rest

-- what begins with bytes of another kind
stops_at : (p q : ℕ → Bool) → ((b : ℕ) → q b ≡ true → p b ≡ false) → (run rest : List ℕ) → is_nonempty run ≡ true → list_all q run ≡ true → prefix_len p (run ++ rest) ≡ 0
stops_at p q other [] rest some all = cc
stops_at p q other (b ∷ run) rest some all = rw (other b (and_parts (q b) (list_all q run) all).0) refl

-- what holds of each byte of a kind holds of each of a narrower one
pub all_of_kind : (p q : ℕ → Bool) → ((b : ℕ) → q b ≡ true → p b ≡ true) → (run : List ℕ) → list_all q run ≡ true → list_all p run ≡ true
all_of_kind p q kind [] all = refl
all_of_kind p q kind (b ∷ run) all =
    let parts = and_parts (q b) (list_all q run) all in
    rw (kind b parts.0) (all_of_kind p q kind run parts.1)

record IsWritten (m : ViaMember) : Type 0 where
  before : list_all is_blank m.before ≡ true
  protocol : is_word_of_via_bytes m.protocol ≡ true
  between : are_one_or_more_blanks m.between ≡ true
  by : is_word_of_via_bytes m.by ≡ true
  comment : is_comment m.comment ≡ true
  after : list_all is_blank m.after ≡ true

written : (m : ViaMember) → is_wellformed_via_member m ≡ true → IsWritten m
written m is =
    let e = and_parts (list_all is_blank m.before && is_word_of_via_bytes m.protocol && are_one_or_more_blanks m.between && is_word_of_via_bytes m.by && is_comment m.comment) (list_all is_blank m.after) is in
    let d = and_parts (list_all is_blank m.before && is_word_of_via_bytes m.protocol && are_one_or_more_blanks m.between && is_word_of_via_bytes m.by) (is_comment m.comment) e.0 in
    let c = and_parts (list_all is_blank m.before && is_word_of_via_bytes m.protocol && are_one_or_more_blanks m.between) (is_word_of_via_bytes m.by) d.0 in
    let b = and_parts (list_all is_blank m.before && is_word_of_via_bytes m.protocol) (are_one_or_more_blanks m.between) c.0 in
    let a = and_parts (list_all is_blank m.before) (is_word_of_via_bytes m.protocol) b.0 in
    record { before = a.0; protocol = a.1; between = b.1; by = c.1; comment = d.1; after = e.1 }

-- no word begins behind received-by
end_of_by : (comment : Option (List ℕ × CommentAfterOpening)) (after : List ℕ) → is_comment comment ≡ true → list_all is_blank after ≡ true → prefix_len is_via_word_byte (via_comment_text comment ++ after) ≡ 0
end_of_by None [] is blank = refl
end_of_by None (b ∷ after) is blank = rw (blank_is_of_no_word b (and_parts (is_blank b) (list_all is_blank after) blank).0) refl
end_of_by (Some (gap, rest)) after is blank =
    let gap_is = and_parts (are_one_or_more_blanks gap) (is_valid_rest_of_comment rest) is in
    let some = and_parts (is_nonempty gap) (list_all is_blank gap) gap_is.0 in
    ap (prefix_len is_via_word_byte) (append_assoc gap (opening_parenthesis ∷ text_after_opening_parenthesis rest) after)
    ∙ stops_at is_via_word_byte is_blank blank_is_of_no_word gap (opening_parenthesis ∷ text_after_opening_parenthesis rest ++ after) some.0 some.1

pub received_by_written : (m : ViaMember) → is_wellformed_via_member m ≡ true → received_by_of_via_member (via_member_text m) ≡ m.by
received_by_written m is =
    let it = written m is in
    let protocol = and_parts (is_nonempty m.protocol) (list_all is_via_byte m.protocol) it.protocol in
    let between = and_parts (is_nonempty m.between) (list_all is_blank m.between) it.between in
    let by = and_parts (is_nonempty m.by) (list_all is_via_byte m.by) it.by in
    let rest = via_comment_text m.comment ++ m.after in
    let behind_between = m.by ++ rest in
    let behind_protocol = m.between ++ behind_between in
    let behind_before = m.protocol ++ behind_protocol in
    let first : without_leading_blanks (via_member_text m) ≡ behind_before
    = run_dropped is_blank m.before behind_before it.before (stops_at is_blank is_via_byte via_byte_is_not_blank m.protocol behind_protocol protocol.0 protocol.1) in
    let second : behind_first_via_word behind_before ≡ behind_protocol
    = run_dropped is_via_word_byte m.protocol behind_protocol (all_of_kind is_via_word_byte is_via_byte via_byte_is_of_words m.protocol protocol.1) (stops_at is_via_word_byte is_blank blank_is_of_no_word m.between behind_between between.0 between.1) in
    let third : without_leading_blanks behind_protocol ≡ behind_between
    = run_dropped is_blank m.between behind_between between.1 (stops_at is_blank is_via_byte via_byte_is_not_blank m.by rest by.0 by.1) in
    let last : first_via_word behind_between ≡ m.by
    = run_taken is_via_word_byte m.by rest (all_of_kind is_via_word_byte is_via_byte via_byte_is_of_words m.by by.1) (end_of_by m.comment m.after it.comment it.after) in
    ap (λ t. first_via_word (without_leading_blanks (behind_first_via_word t))) first ∙ ap (λ t. first_via_word (without_leading_blanks t)) second ∙ ap first_via_word third ∙ last

-- ---- where lines are cut

-- bytes that stand from one place to another, without a comma of the list
Keeps : ViaLineParseState → List ℕ → ViaLineParseState → Type 0
Keeps place xs next = (rest : List ℕ) → via_members_of_line place (xs ++ rest) ≡ all_in_front xs (via_members_of_line next rest)

in_front_of_front : (xs ys : List ℕ) (ps : List (List ℕ)) → all_in_front xs (all_in_front ys ps) ≡ all_in_front (xs ++ ys) ps
in_front_of_front xs ys [] = refl
in_front_of_front xs ys (p ∷ ps) = ap (λ q. q ∷ ps) (sym (append_assoc xs ys p))

one_in_front : (b : ℕ) (ps : List (List ℕ)) → byte_before_first_piece b ps ≡ all_in_front (b ∷ []) ps
one_in_front b [] = refl
one_in_front b (p ∷ ps) = refl

keeps_none : (place : ViaLineParseState) → Keeps place [] place
unfolding Keeps
keeps_none place = λ rest. sym (none_in_front place rest)

keeps_both : (a b c : ViaLineParseState) (xs ys : List ℕ) → Keeps a xs b → Keeps b ys c → Keeps a (xs ++ ys) c
unfolding Keeps
keeps_both a b c xs ys first second = λ rest.
    ap (via_members_of_line a) (append_assoc xs ys rest) ∙ first (ys ++ rest) ∙ ap (all_in_front xs) (second rest) ∙ in_front_of_front xs ys (via_members_of_line c rest)

keeps_byte : (place next : ViaLineParseState) (b : ℕ) → is_list_comma_at place b ≡ false → via_place_after_byte place b ≡ next → Keeps place (b ∷ []) next
unfolding Keeps
keeps_byte place next b other is = λ rest.
    rw other (ap (λ q. byte_before_first_piece b (via_members_of_line q rest)) is ∙ one_in_front b (via_members_of_line next rest))

keeps_more : (place next last : ViaLineParseState) (b : ℕ) (xs : List ℕ) → is_list_comma_at place b ≡ false → via_place_after_byte place b ≡ next → Keeps next xs last → Keeps place (b ∷ xs) last
keeps_more place next last b xs other is rest = keeps_both place next last (b ∷ []) xs (keeps_byte place next b other is) rest

-- bytes outside that are no comma, quote or beginning of a comment
keeps_run : (q : ℕ → Bool) → q 44 ≡ false → q 34 ≡ false → q 40 ≡ false → (xs : List ℕ) → list_all q xs ≡ true → Keeps Outside xs Outside
keeps_run q no_comma no_quote no_comment [] all = keeps_none Outside
keeps_run q no_comma no_quote no_comment (b ∷ xs) all =
    let parts = and_parts (q b) (list_all q xs) all in
    keeps_more Outside Outside Outside b xs (other_byte q 44 b no_comma parts.0) (rw (other_byte q 34 b no_quote parts.0) (rw (other_byte q 40 b no_comment parts.0) refl)) (keeps_run q no_comma no_quote no_comment xs parts.1)

place_behind : ℕ → ViaLineParseState
place_behind around = cond (around == 0) Outside (Comment (around - 1))

behind_inner : (around : ℕ) → place_behind (around + 1) ≡ Comment around
unfolding place_behind
behind_inner around =
    let some : (around + 1 == 0) ≡ false = grind (arith, common_steps) in
    let same : around + 1 - 1 ≡ around = omega arith in
    rw some (ap Comment same)

text_of_comment : (b : ℕ) → not (b == opening_parenthesis || b == closing_parenthesis || b == backslash) ≡ true → (b == opening_parenthesis ≡ false) × (b == closing_parenthesis ≡ false) × (b == backslash ≡ false)
text_of_comment b h = by_tests (b == opening_parenthesis) (b == closing_parenthesis) (b == backslash) h
  where
    by_tests : (x y z : Bool) → not (x || y || z) ≡ true → (x ≡ false) × (y ≡ false) × (z ≡ false)
    by_tests true y z e = cc
    by_tests false true z e = cc
    by_tests false false true e = cc
    by_tests false false false e = (refl, refl, refl)

keeps_comment : (around : ℕ) (c : CommentAfterOpening) → is_valid_rest_of_comment c ≡ true → Keeps (Comment around) (text_after_opening_parenthesis c) (place_behind around)
unfolding place_behind
keeps_comment around ends is = keeps_byte (Comment around) (place_behind around) closing_parenthesis refl refl
keeps_comment around (text_byte b rest) is =
    let parts = and_parts (not (b == opening_parenthesis || b == closing_parenthesis || b == backslash)) (is_valid_rest_of_comment rest) is in
    let tests = text_of_comment b parts.0 in
    keeps_more (Comment around) (Comment around) (place_behind around) b (text_after_opening_parenthesis rest) refl (rw tests.0 (rw tests.1 (rw tests.2 refl))) (keeps_comment around rest parts.1)
keeps_comment around (quoted_pair b rest) is =
    keeps_more (Comment around) (CommentPair around) (place_behind around) backslash (b ∷ text_after_opening_parenthesis rest) refl refl
    (keeps_more (CommentPair around) (Comment around) (place_behind around) b (text_after_opening_parenthesis rest) refl refl (keeps_comment around rest is))
keeps_comment around (comment_within inner rest) is =
    let parts = and_parts (is_valid_rest_of_comment inner) (is_valid_rest_of_comment rest) is in
    let within : Keeps (Comment (around + 1)) (text_after_opening_parenthesis inner) (Comment around) = subst (λ place. Keeps (Comment (around + 1)) (text_after_opening_parenthesis inner) place) (behind_inner around) (keeps_comment (around + 1) inner parts.0) in
    keeps_more (Comment around) (Comment (around + 1)) (place_behind around) opening_parenthesis (text_after_opening_parenthesis inner ++ text_after_opening_parenthesis rest) refl refl
    (keeps_both (Comment (around + 1)) (Comment around) (place_behind around) (text_after_opening_parenthesis inner) (text_after_opening_parenthesis rest) within (keeps_comment around rest parts.1))

keeps_blanks : (xs : List ℕ) → list_all is_blank xs ≡ true → Keeps Outside xs Outside
keeps_blanks xs all = keeps_run is_blank refl refl refl xs all

keeps_word : (xs : List ℕ) → list_all is_via_byte xs ≡ true → Keeps Outside xs Outside
keeps_word xs all = keeps_run is_via_byte refl refl refl xs all

keeps_comment_text : (c : Option (List ℕ × CommentAfterOpening)) → is_comment c ≡ true → Keeps Outside (via_comment_text c) Outside
unfolding place_behind
keeps_comment_text None is = keeps_none Outside
keeps_comment_text (Some (gap, rest)) is =
    let parts = and_parts (are_one_or_more_blanks gap) (is_valid_rest_of_comment rest) is in
    let blank = (and_parts (is_nonempty gap) (list_all is_blank gap) parts.0).1 in
    keeps_both Outside Outside Outside gap (opening_parenthesis ∷ text_after_opening_parenthesis rest) (keeps_blanks gap blank)
    (keeps_more Outside (Comment 0) Outside opening_parenthesis (text_after_opening_parenthesis rest) refl refl (keeps_comment 0 rest parts.1))

keeps_member : (m : ViaMember) → is_wellformed_via_member m ≡ true → Keeps Outside (via_member_text m) Outside
keeps_member m is =
    let it = written m is in
    let protocol = (and_parts (is_nonempty m.protocol) (list_all is_via_byte m.protocol) it.protocol).1 in
    let between = (and_parts (is_nonempty m.between) (list_all is_blank m.between) it.between).1 in
    let by = (and_parts (is_nonempty m.by) (list_all is_via_byte m.by) it.by).1 in
    let rest = via_comment_text m.comment ++ m.after in
    keeps_both Outside Outside Outside m.before (m.protocol ++ (m.between ++ (m.by ++ rest))) (keeps_blanks m.before it.before)
    (keeps_both Outside Outside Outside m.protocol (m.between ++ (m.by ++ rest)) (keeps_word m.protocol protocol)
    (keeps_both Outside Outside Outside m.between (m.by ++ rest) (keeps_blanks m.between between)
    (keeps_both Outside Outside Outside m.by rest (keeps_word m.by by)
    (keeps_both Outside Outside Outside (via_comment_text m.comment) m.after (keeps_comment_text m.comment it.comment) (keeps_blanks m.after it.after)))))

-- ---- the members of a line

named_alike : (name : List ℕ) (m : ViaMember) → is_wellformed_via_member m ≡ true → via_member_names_proxy name (via_member_text m) ≡ is_same_name m.by name
named_alike name m is = ap (λ by. is_same_name by name) (received_by_written m is)

last_alone : (m : ViaMember) → is_wellformed_via_member m ≡ true → via_members_of_line Outside (via_member_text m) ≡ via_member_text m ∷ []
unfolding Keeps
last_alone m is =
    ap (via_members_of_line Outside) (sym (append-nil (via_member_text m))) ∙ keeps_member m is [] ∙ ap (λ p. p ∷ []) (append-nil (via_member_text m))

cut_behind : (m : ViaMember) (rest : List ℕ) → is_wellformed_via_member m ≡ true → via_members_of_line Outside (via_member_text m ++ comma ∷ rest) ≡ via_member_text m ∷ via_members_of_line Outside rest
unfolding Keeps
cut_behind m rest is = keeps_member m is (comma ∷ rest) ∙ ap (λ p. p ∷ via_members_of_line Outside rest) (append-nil (via_member_text m))

pub times_written : (name : List ℕ) (m : ViaMember) (ms : List ViaMember) → list_all is_wellformed_via_member (m ∷ ms) ≡ true →
    times_in_via_line name (via_line_text m ms) ≡ count_by (λ (member : ViaMember). is_same_name member.by name) (m ∷ ms)
times_written name m [] all =
    let is = (and_parts (is_wellformed_via_member m) true all).0 in
    ap (naming name) (last_alone m is) ∙ naming_of_more name (via_member_text m) []
    ∙ ap (λ t. cond t 1 0 + 0) (named_alike name m is)
    ∙ sym (sum_by-cons (λ (member : ViaMember). cond (is_same_name member.by name) 1 0) m [])
times_written name m (next ∷ more) all =
    let parts = and_parts (is_wellformed_via_member m) (list_all is_wellformed_via_member (next ∷ more)) all in
    ap (naming name) (cut_behind m (via_line_text next more) parts.0) ∙ naming_of_more name (via_member_text m) (via_members_of_line Outside (via_line_text next more))
    ∙ ap (λ t. cond t 1 0 + naming name (via_members_of_line Outside (via_line_text next more))) (named_alike name m parts.0)
    ∙ ap (λ n. cond (is_same_name m.by name) 1 0 + n) (times_written name next more parts.1)
    ∙ sym (sum_by-cons (λ (member : ViaMember). cond (is_same_name member.by name) 1 0) m (next ∷ more))

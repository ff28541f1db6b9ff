-- How often the Via of a request names a proxy (RFC 9110, section 7.6.3):
--
--     Via = #( received-protocol RWS received-by [ RWS comment ] )
--
-- via_members_of_line: what stands between the commas of a line, those in comments and quotes aside
-- received_by_of_via_member: the second word of a member         times_in_via_line: of one line
-- times_in_via: over all lines                      via_names_proxy_twice: two times at least
-- CommentAfterOpening, ViaMember: a line as it is written, for the law that it is read so
use Rattle.std.specs.Prelude.{ℕ, ◌+◌, ◌-◌, ◌==◌, nat_le, Bool, true, false, not, ◌&&◌, ◌||◌, if◌then◌else◌, List, []}
use Rattle.std.specs.Prelude.{◌∷◌, ◌++◌, codes, take, drop, map, sum, count_by, Option, Some, None}
use Rattle.std.specs.List.{prefix_len, list_all}
use Rattle.hx_fields.specs.Line.{Field}
use Rattle.hx_fields.specs.FieldLines.{values_of}
use Rattle.hx_fields.specs.Names.{is_same_name, is_blank, comma, quote, backslash, byte_before_first_piece, is_nonempty}
use Rattle.hx_fields.specs.Tokens.{is_token_byte}
use Rattle.hx_allow.specs.declared.via.ViaLineParseState.{ViaLineParseState}
use Rattle.hx_allow.specs.declared.via.ViaLineParseState.TheVariants.{Outside, Quoted, QuotedPair, Comment, CommentPair}

abbrev pub opening_parenthesis : ℕ
opening_parenthesis = 40

abbrev pub closing_parenthesis : ℕ
closing_parenthesis = 41

-- Where the next byte of a line stands. Comments stand in one another (RFC 9110, section 5.6.5), so an innermost one
-- is in some number of others; in a comment, and in a quoted string, a backslash takes the next byte with it (section
-- 5.6.4).
-- own: an unclosed comment or quote runs to the end of its line, and hides what follows there
abbrev pub via_place_after_byte : ViaLineParseState → ℕ → ViaLineParseState
via_place_after_byte Outside b = if b == quote then Quoted else if b == opening_parenthesis then Comment 0 else Outside
via_place_after_byte Quoted b = if b == quote then Outside else if b == backslash then QuotedPair else Quoted
via_place_after_byte QuotedPair b = Quoted
via_place_after_byte (Comment around) b =
    if b == opening_parenthesis then Comment (around + 1)
    else if b == closing_parenthesis then (if around == 0 then Outside else Comment (around - 1))
    else if b == backslash then CommentPair around
    else Comment around
via_place_after_byte (CommentPair around) b = Comment around

-- in how many other comments the innermost one is
abbrev pub number_of_enclosing_comments : ViaLineParseState → ℕ
number_of_enclosing_comments (Comment around) = around
number_of_enclosing_comments (CommentPair around) = around
number_of_enclosing_comments _ = 0

-- a comma separates members outside comments and quotes
abbrev pub is_list_comma_at : ViaLineParseState → ℕ → Bool
is_list_comma_at Outside b = b == comma
is_list_comma_at _ b = false

-- what stands between such commas; the first byte stands at this place
abbrev pub via_members_of_line : ViaLineParseState → List ℕ → List (List ℕ)
via_members_of_line place [] = [] ∷ []
via_members_of_line place (b ∷ bs) =
    if is_list_comma_at place b then [] ∷ via_members_of_line Outside bs
    else byte_before_first_piece b (via_members_of_line (via_place_after_byte place b) bs)

-- a word ends at a blank, and where a comment begins
abbrev pub is_via_word_byte : ℕ → Bool
is_via_word_byte b = not (is_blank b || b == opening_parenthesis)

abbrev pub without_leading_blanks : List ℕ → List ℕ
without_leading_blanks text = drop (prefix_len is_blank text) text

abbrev pub first_via_word : List ℕ → List ℕ
first_via_word text = take (prefix_len is_via_word_byte text) text

abbrev pub behind_first_via_word : List ℕ → List ℕ
behind_first_via_word text = drop (prefix_len is_via_word_byte text) text

-- received-by, the word behind received-protocol; where there is none it is empty
abbrev pub received_by_of_via_member : List ℕ → List ℕ
received_by_of_via_member member =
    first_via_word (without_leading_blanks (behind_first_via_word (without_leading_blanks member)))

-- A member names a proxy where it was received by that name. It stands for a host, and hosts compare without case
-- (RFC 9110, section 4.2.3); one with a port names another.
abbrev pub via_member_names_proxy : List ℕ → List ℕ → Bool
via_member_names_proxy name member = is_same_name (received_by_of_via_member member) name

abbrev pub times_in_via_line : List ℕ → List ℕ → ℕ
times_in_via_line name value = count_by (via_member_names_proxy name) (via_members_of_line Outside value)

-- each line is one part of one list (RFC 9110, section 5.3)
abbrev pub times_in_via : List ℕ → List Field → ℕ
times_in_via name fields = sum (map (times_in_via_line name) (values_of fields (codes "Via")))

-- own: a request that was here twice already loops; once alone it may have been sent back on purpose ("A request that
-- loops is refused")
abbrev pub via_names_proxy_twice : List ℕ → List Field → Bool
via_names_proxy_twice name fields = nat_le 2 (times_in_via name fields)

-- ---- a line as it is written

-- what stands behind the beginning of a comment: its end, or a byte of its text, a quoted pair or a comment and what
-- stands behind that
pub data CommentAfterOpening : Type 0 where
  ends : CommentAfterOpening
  text_byte : ℕ → CommentAfterOpening → CommentAfterOpening
  quoted_pair : ℕ → CommentAfterOpening → CommentAfterOpening
  comment_within : CommentAfterOpening → CommentAfterOpening → CommentAfterOpening

abbrev pub text_after_opening_parenthesis : CommentAfterOpening → List ℕ
text_after_opening_parenthesis ends = closing_parenthesis ∷ []
text_after_opening_parenthesis (text_byte b rest) = b ∷ text_after_opening_parenthesis rest
text_after_opening_parenthesis (quoted_pair b rest) = backslash ∷ b ∷ text_after_opening_parenthesis rest
text_after_opening_parenthesis (comment_within inner rest) = opening_parenthesis ∷ text_after_opening_parenthesis inner
    ++ text_after_opening_parenthesis rest

-- ctext has neither parentheses nor a backslash (RFC 9110, section 5.6.5)
abbrev pub is_valid_rest_of_comment : CommentAfterOpening → Bool
is_valid_rest_of_comment ends = true
is_valid_rest_of_comment (text_byte b rest) =
    not (b == opening_parenthesis || b == closing_parenthesis || b == backslash) && is_valid_rest_of_comment rest
is_valid_rest_of_comment (quoted_pair b rest) = is_valid_rest_of_comment rest
is_valid_rest_of_comment (comment_within inner rest) = is_valid_rest_of_comment inner && is_valid_rest_of_comment rest

-- a member: OWS, received-protocol, RWS, received-by, RWS and a comment where there is one, OWS
pub record ViaMember : Type 0 where
  pub before : List ℕ
  pub protocol : List ℕ
  pub between : List ℕ
  pub by : List ℕ
  pub comment : Option (List ℕ × CommentAfterOpening)
  pub after : List ℕ

abbrev pub via_comment_text : Option (List ℕ × CommentAfterOpening) → List ℕ
via_comment_text None = []
via_comment_text (Some c) = c.0 ++ opening_parenthesis ∷ text_after_opening_parenthesis c.1

abbrev pub via_member_text : ViaMember → List ℕ
via_member_text m = m.before ++ (m.protocol ++ (m.between ++ (m.by ++ (via_comment_text m.comment ++ m.after))))

-- tokens with a slash or a colon: protocol-name "/" protocol-version, pseudonym ":" port
abbrev pub is_via_byte : ℕ → Bool
is_via_byte b = is_token_byte b || b == 47 || b == 58

abbrev pub is_word_of_via_bytes : List ℕ → Bool
is_word_of_via_bytes text = is_nonempty text && list_all is_via_byte text

-- RWS = 1*( SP / HTAB ) (RFC 9110, section 5.6.3)
abbrev pub are_one_or_more_blanks : List ℕ → Bool
are_one_or_more_blanks text = is_nonempty text && list_all is_blank text

abbrev pub is_comment : Option (List ℕ × CommentAfterOpening) → Bool
is_comment None = true
is_comment (Some c) = are_one_or_more_blanks c.0 && is_valid_rest_of_comment c.1

abbrev pub is_wellformed_via_member : ViaMember → Bool
is_wellformed_via_member m =
    list_all is_blank m.before && is_word_of_via_bytes m.protocol && are_one_or_more_blanks m.between
    && is_word_of_via_bytes m.by
    && is_comment m.comment && list_all is_blank m.after

-- a line with these members
abbrev pub via_line_text : ViaMember → List ViaMember → List ℕ
via_line_text m [] = via_member_text m
via_line_text m (next ∷ more) = via_member_text m ++ comma ∷ via_line_text next more

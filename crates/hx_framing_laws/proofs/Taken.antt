-- What is a head of the standard's is one of httparse's grammar.
use Rattle.std.proofs.Common.{◌≡◌, ℕ, ◌≤◌, true, List, [], ◌∷◌, ◌++◌, length, map, refl, sym, ap, ◌∙◌, arith, append_assoc, append-nil, Option, Some, None, Ok, Err, inl, inr}
use Rattle.std.specs.List.{All, flat_map}
use Rattle.std.specs.Char.{is_ascii_digit}
use Rattle.std.proofs.lemmas.List.{length-map}
use Rattle.std.proofs.lemmas.List.Elements.{All-append, All-cons, All-nil, All-head, All-tail}
use Rattle.std.proofs.lemmas.List.Sums.{AllPass-from_list_all, list_all-from_AllPass}
use Rattle.httparse.specs.Grammar.{LineEnd, crlf, lf, print_end, print_blank, print_version, Field, IsField, print_field, print_section, RequestHead, ReadsRequest, ResponseHead, ReadsResponse, print_reason, reason_phrase, AllPass, is_value_byte}
use Rattle.httparse.proofs.GrammarLemmas.{print_request-append, print_response-append, request_unique, response_unique}
use Rattle.hx_fields.specs.Line.{Field as Line}
use Rattle.hx_framing.specs.declared.frame_fault.FrameFault.{FrameFault}
use Rattle.hx_framing.specs.declared.heads.request_head.Head.{Head}
use Rattle.hx_framing.specs.declared.heads.status_head.StatusHead.{StatusHead}
use Rattle.hx_framing.specs.HeadEnd.{most_field_lines}
use Rattle.hx_framing.specs.GivenFields.{LineSpellsField, is_field_value_byte}
use Rattle.hx_framing.specs.Head.{RequestHeadIsJudged, field_of_parsed_line, head_of_parsed_request}
use Rattle.hx_framing.specs.StatusHead.{ResponseHeadIsJudged, status_head_of}
use Rattle.hx_framing.proofs.HeadLineLemmas.{without_trailing_cr-is, text_of}
use Rattle.hx_framing.proofs.GivenLemmas.{spell_all, messages_spelled_by_a_stream_are_unique}
use Rattle.hx_framing_laws.specs.Lines.{IsLineEnd, IsReasonPhrase, IsFieldLine, version_text, space_and_reason_text}
use Rattle.hx_framing_laws.specs.Heads.{AreFieldLines, AreEmptyLines, IsHead, IsRequestHead, IsResponseHead}
use Rattle.hx_framing_laws.proofs.CharacterLemmas.{characters_of_target, characters_of_text, characters_of_blanks, some_is, token_of}
use Rattle.hx_framing_laws.proofs.FieldValues.{trimmed_of_value}
use Rattle.hx_framing_laws.proofs.Written.{line_of, line_parts, no_return}

end_of : (text : List ℕ) → IsLineEnd text → (end : LineEnd) × (text ≡ print_end end)
end_of text (inl is) = (crlf, is)
end_of text (inr is) = (lf, is)

-- ---- field lines

-- the line as one of the grammar, and that it gives just this field
record IsTaken (line : List ℕ) (end : LineEnd) (field : Line) : Type 0 where
  tree : Field
  fine : IsField tree
  line_is : line ≡ line_of tree
  end_is : end ≡ tree.end
  gives : field_of_parsed_line tree ≡ field

line_taken : (line : List ℕ) (end : LineEnd) (field : Line) → IsFieldLine line field → IsTaken line end field
line_taken line end field is =
    let value = trimmed_of_value field.value is.value_is in
    let tree : Field = record { name = field.name; raw = is.before ++ (field.value ++ is.behind); end = end } in
    let fine : IsField tree = record {
      name = token_of field.name is.name_is;
      raw = All-append (λ b. is_value_byte b ≡ true) is.before (field.value ++ is.behind) (characters_of_blanks is.before is.white.0)
          (All-append (λ b. is_value_byte b ≡ true) field.value is.behind (characters_of_text field.value value.0) (characters_of_blanks is.behind is.white.1));
    } in
    let one : LineSpellsField (text_of tree) (field_of_parsed_line tree) = (spell_all (tree ∷ []) (All-cons IsField tree [] fine (All-nil IsField))).0 in
    let other : LineSpellsField (text_of tree) field = record {
      before = is.before;
      behind = is.behind;
      parts = without_trailing_cr-is (line_of tree) end (no_return tree fine);
      name = is.name_is;
      value = list_all-from_AllPass is_field_value_byte field.value (characters_of_text field.value value.0);
      trimmed = value.1;
      white = is.white;
    } in record {
      tree = tree;
      fine = fine;
      line_is = is.parts;
      end_is = refl;
      gives = messages_spelled_by_a_stream_are_unique (text_of tree) (field_of_parsed_line tree) field one other;
    }

record AreTaken (lines : List ℕ) (fields : List Line) : Type 0 where
  trees : List Field
  fine : All IsField trees
  parts : lines ≡ flat_map print_field trees
  gives : map field_of_parsed_line trees ≡ fields

lines_taken : (lines : List ℕ) (fields : List Line) → AreFieldLines lines fields → AreTaken lines fields
lines_taken lines [] none = record { trees = []; fine = All-nil IsField; parts = none; gives = refl }
lines_taken lines (field ∷ fields) (line, end, behind, parts, line_is, end_is, later_are) =
    let ended = end_of end end_is in
    let first = line_taken line ended.0 field line_is in
    let later = lines_taken behind fields later_are in
    let same_end : end ≡ print_end first.tree.end = ended.1 ∙ ap print_end first.end_is in record {
      trees = first.tree ∷ later.trees;
      fine = All-cons IsField first.tree later.trees first.fine later.fine;
      parts = parts ∙ (λ i. first.line_is i ++ (same_end i ++ later.parts i)) ∙ sym (line_parts first.tree (flat_map print_field later.trees));
      gives = λ i. first.gives i ∷ later.gives i;
    }

-- ---- the parts of a head

record AreEnds (text : List ℕ) : Type 0 where
  ends : List LineEnd
  parts : text ≡ print_blank ends

blank_taken : (text : List ℕ) → AreEmptyLines text → AreEnds text
blank_taken text is = let all = by_ends is.ends is.each in record { ends = all.ends; parts = is.parts ∙ all.parts }
  where
    by_ends : (ends : List (List ℕ)) → All IsLineEnd ends → AreEnds (flat_map (λ (end : List ℕ). end) ends)
    by_ends [] each = record { ends = []; parts = refl }
    by_ends (end ∷ ends) each =
        let first = end_of end (All-head IsLineEnd end ends each) in
        let later = by_ends ends (All-tail IsLineEnd end ends each) in
        record { ends = first.0 ∷ later.ends; parts = λ i. first.1 i ++ later.parts i }

record IsSplit (text start : List ℕ) (fields : List Line) : Type 0 where
  blank : List LineEnd
  end : LineEnd
  trees : List Field
  last : LineEnd
  fine : All IsField trees
  gives : map field_of_parsed_line trees ≡ fields
  parts : text ≡ print_blank blank ++ (start ++ (print_end end ++ print_section trees last))

head_taken : (text start : List ℕ) (fields : List Line) → IsHead text start fields → IsSplit text start fields
head_taken text start fields is =
    let front = blank_taken is.front is.front_is in
    let end = end_of is.end is.end_is in
    let lines = lines_taken is.lines fields is.lines_are in
    let last = end_of is.last is.last_is in record {
      blank = front.ends;
      end = end.0;
      trees = lines.trees;
      last = last.0;
      fine = lines.fine;
      gives = lines.gives;
      parts = is.parts ∙ (λ i. front.parts i ++ (start ++ (end.1 i ++ (lines.parts i ++ last.1 i))));
    }

-- ---- requests

-- the tree of a head, with nothing behind it
pub record IsTakenRequest (text : List ℕ) (head : Head) : Type 0 where
  pub tree : RequestHead
  pub reads : ReadsRequest text tree []
  pub gives : head ≡ head_of_parsed_request tree

pub request_taken : (text : List ℕ) (head : Head) → IsRequestHead text head → IsTakenRequest text head
request_taken text head is =
    let s = head_taken text is.line head.fields is.head_is in
    let tree : RequestHead
    = record { blank = s.blank; method = head.method; target = head.target; minor = head.minor; line_end = s.end; fields = s.trees; last = s.last } in
    let target = is.line_is.target_is in record {
      tree = tree;
      reads = (
        record {
          method = token_of head.method is.line_is.method_is;
          target = (some_is head.target target.some, characters_of_target head.target target.characters);
          target_text = target.text;
          minor = is.line_is.version_is;
          fields = s.fine;
        },
        s.parts ∙ ap (λ line. print_blank s.blank ++ (line ++ (print_end s.end ++ print_section s.trees s.last))) is.line_is.parts
            ∙ ap (λ t. print_blank s.blank ++ t) (regroup head.method head.target (print_version head.minor) (print_end s.end) (print_section s.trees s.last))
            ∙ sym (print_request-append tree []),
      );
      gives = λ i. record { method = head.method; target = head.target; minor = head.minor; fields = sym s.gives i };
    }
  where
    regroup : (m t v e s : List ℕ) → (m ++ 32 ∷ (t ++ 32 ∷ v)) ++ (e ++ s) ≡ m ++ 32 ∷ (t ++ 32 ∷ (v ++ (e ++ (s ++ []))))
    regroup m t v e s = simp (append_assoc, append-nil)

few_of : (text : List ℕ) (head : Head) (t : IsTakenRequest text head) → length head.fields ≤ most_field_lines → length t.tree.fields ≤ most_field_lines
few_of text head t few =
    let same : length head.fields ≡ length t.tree.fields = ap (λ (h : Head). length h.fields) t.gives ∙ length-map t.tree.fields field_of_parsed_line in
    omega (arith, same, few)

pub request_judged : (text : List ℕ) (head : Head) → IsRequestHead text head → length head.fields ≤ most_field_lines → RequestHeadIsJudged text (Ok head)
request_judged text head is few =
    let t = request_taken text head is in (t.tree, (t.reads, few_of text head t few), t.gives)

pub request_not_refused : (text : List ℕ) (fault : FrameFault) (head : Head) → RequestHeadIsJudged text (Err fault) → length head.fields ≤ most_field_lines → ¬ (IsRequestHead text head)
request_not_refused text fault head refused few = λ is. let judged = request_judged text head is few in refused.0 judged.0 judged.1

pub request_once : (text : List ℕ) (head other : Head) → IsRequestHead text head → IsRequestHead text other → head ≡ other
request_once text head other x y =
    let a = request_taken text head x in
    let b = request_taken text other y in
    a.gives ∙ ap head_of_parsed_request (request_unique text a.tree b.tree [] [] a.reads b.reads).0 ∙ sym b.gives

-- ---- responses

pub record IsTakenResponse (text : List ℕ) (head : StatusHead) : Type 0 where
  pub tree : ResponseHead
  pub reads : ReadsResponse text tree []
  pub gives : head ≡ status_head_of tree

reason_of : (r : Option (List ℕ)) → IsReasonPhrase r → AllPass is_value_byte (reason_phrase r)
reason_of None is = All-nil (λ b. is_value_byte b ≡ true)
reason_of (Some phrase) is = characters_of_text phrase is

pub response_taken : (text : List ℕ) (head : StatusHead) → IsResponseHead text head → IsTakenResponse text head
response_taken text head is =
    let s = head_taken text is.line head.fields is.head_is in
    let line = is.line_is in
    let tree : ResponseHead
    = record { blank = s.blank; minor = head.minor; digits = line.digits; reason = line.reason; line_end = s.end; fields = s.trees; last = s.last } in record {
      tree = tree;
      reads = (
        record {
          minor = line.minor_is;
          digits = (line.three, AllPass-from_list_all is_ascii_digit line.digits line.digits_are);
          reason = reason_of line.reason line.reason_is;
          fields = s.fine;
        },
        s.parts ∙ ap (λ l. print_blank s.blank ++ (l ++ (print_end s.end ++ print_section s.trees s.last))) line.parts
            ∙ ap (λ t. print_blank s.blank ++ t) (by_reason line.digits line.reason (print_end s.end) (print_section s.trees s.last))
            ∙ sym (print_response-append tree []),
      );
      gives = λ i. record { status = line.status_is i; minor = head.minor; fields = sym s.gives i };
    }
  where
    regroup : (v d r e s : List ℕ) → (v ++ 32 ∷ (d ++ r)) ++ (e ++ s) ≡ v ++ 32 ∷ (d ++ (r ++ (e ++ (s ++ []))))
    regroup v d r e s = simp (append_assoc, append-nil)

    by_reason : (d : List ℕ) (r : Option (List ℕ)) (e s : List ℕ) → (version_text 1 head.minor ++ 32 ∷ (d ++ space_and_reason_text r)) ++ (e ++ s)
        ≡ print_version head.minor ++ 32 ∷ (d ++ (print_reason r ++ (e ++ (s ++ []))))
    by_reason d None e s = regroup (version_text 1 head.minor) d [] e s
    by_reason d (Some phrase) e s = regroup (version_text 1 head.minor) d (32 ∷ phrase) e s

pub response_judged : (text : List ℕ) (head : StatusHead) → IsResponseHead text head → length head.fields ≤ most_field_lines → ResponseHeadIsJudged text (Ok head)
response_judged text head is few =
    let t = response_taken text head is in
    let same : length head.fields ≡ length t.tree.fields = ap (λ (h : StatusHead). length h.fields) t.gives ∙ length-map t.tree.fields field_of_parsed_line in
    (t.tree, (t.reads, omega (arith, same, few)), t.gives)

pub response_not_refused : (text : List ℕ) (fault : FrameFault) (head : StatusHead) → ResponseHeadIsJudged text (Err fault) → length head.fields ≤ most_field_lines
    → ¬ (IsResponseHead text head)
response_not_refused text fault head refused few = λ is. let judged = response_judged text head is few in refused.0 judged.0 judged.1

pub response_once : (text : List ℕ) (head other : StatusHead) → IsResponseHead text head → IsResponseHead text other → head ≡ other
response_once text head other x y =
    let a = response_taken text head x in
    let b = response_taken text other y in
    a.gives ∙ ap status_head_of (response_unique text a.tree b.tree [] [] a.reads b.reads).0 ∙ sym b.gives

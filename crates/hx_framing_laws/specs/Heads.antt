-- The head of a message by the ABNF of RFC 9112, section 2.1:
--
--     HTTP-message = start-line CRLF *( field-line CRLF ) CRLF [ message-body ]
--
-- IsRequestHead, IsResponseHead: a text is the head of a request, or of a response, with such parts
use Rattle.std.specs.Prelude.{◌≡◌, ℕ, ◌++◌, ◌≤◌, List, [], ◌∷◌, length, All}
use Rattle.std.specs.List.{flat_map}
use Rattle.hx_fields.specs.Line.{Field}
use Rattle.hx_framing.specs.declared.heads.request_head.Head.{Head}
use Rattle.hx_framing.specs.declared.heads.status_head.StatusHead.{StatusHead}
use Rattle.hx_framing.specs.HeadEnd.{most_field_lines, most_head_bytes}
use Rattle.hx_framing_laws.specs.Lines.{IsLineEnd, IsRequestLine, IsStatusLine, IsFieldLine}

-- *( field-line CRLF ): a line for each field, in order
abbrev pub AreFieldLines : List ℕ → List Field → Type 0
AreFieldLines text [] = text ≡ []
AreFieldLines text (field ∷ fields) = (line : List ℕ) × (end : List ℕ) × (behind : List ℕ)
    × (text ≡ line ++ (end ++ behind)) × IsFieldLine line field × IsLineEnd end × AreFieldLines behind fields

-- own: any number of empty lines may stand in front of a start line, where RFC 9112, section 2.2, speaks of one or more
-- in front of a request's
pub record AreEmptyLines (text : List ℕ) : Type 0 where
  pub ends : List (List ℕ)
  pub each : All IsLineEnd ends
  pub parts : text ≡ flat_map (λ (end : List ℕ). end) ends

-- a start line, the lines of the fields, and the empty line that ends a head
pub record IsHead (text start : List ℕ) (fields : List Field) : Type 0 where
  pub front : List ℕ
  pub end : List ℕ
  pub lines : List ℕ
  pub last : List ℕ
  pub parts : text ≡ front ++ (start ++ (end ++ (lines ++ last)))
  pub front_is : AreEmptyLines front
  pub end_is : IsLineEnd end
  pub lines_are : AreFieldLines lines fields
  pub last_is : IsLineEnd last

pub record IsRequestHead (text : List ℕ) (head : Head) : Type 0 where
  pub line : List ℕ
  pub line_is : IsRequestLine line head.method head.target head.minor
  pub head_is : IsHead text line head.fields

pub record IsResponseHead (text : List ℕ) (head : StatusHead) : Type 0 where
  pub line : List ℕ
  pub line_is : IsStatusLine line head.minor head.status
  pub head_is : IsHead text line head.fields

-- own: the limits of a reader (RFC 9110, section 5.4)
pub record HeadIsWithinLimits (text : List ℕ) (fields : List Field) : Type 0 where
  pub few : length fields ≤ most_field_lines
  pub short : length text ≤ most_head_bytes

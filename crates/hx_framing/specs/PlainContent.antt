-- How far a content in no coding has come.
use Rattle.std.specs.Prelude.{ℕ, ◌-◌, ◌++◌, List, [], length}

-- left: how many bytes may still come; content: those that came
pub record PlainContent : Type 0 where
  pub left : ℕ
  pub content : List ℕ

-- before the first byte
abbrev pub plain_content_not_begun : ℕ → PlainContent
plain_content_not_begun left = record { left = left; content = [] }

-- a run of its bytes has come
abbrev pub plain_content_after_bytes : PlainContent → List ℕ → PlainContent
plain_content_after_bytes s run = record { left = s.left - length run; content = s.content ++ run }

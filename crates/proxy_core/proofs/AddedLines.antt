-- Two lines that are added at once.
use Rattle.std.proofs.Common.{◌≡◌, ◌++◌, ◌∷◌, [], List, sym}
use Rattle.std.proofs.lemmas.List.{append_assoc}
use Rattle.hx_fields.specs.Line.{Field}

pub lines_added : (lines : List Field) (a b : Field) → lines ++ a ∷ b ∷ [] ≡ (lines ++ a ∷ []) ++ b ∷ []
lines_added lines a b = sym (append_assoc lines (a ∷ []) (b ∷ []))

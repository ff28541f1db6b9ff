use Rattle.std.proofs.Common.{◌≡◌, ℕ, List, [], ◌∷◌, Option, Some, false, refl, ap}
use Rattle.std.specs.Prelude.{option_map}
use Rattle.hx_directives.specs.Arguments.{content_to_closing_quote}
use Rattle.hx_directives.specs.Cases.{escaped_text}
use Rattle.hx_directives.proofs.laws.quoted_text_reads_back.Goals as goal

content-escaped : (text : List ℕ) → content_to_closing_quote false (escaped_text text) ≡ Some text
content-escaped [] = refl
content-escaped (b ∷ rest) = ap (λ (content : Option (List ℕ)). option_map (λ (t : List ℕ). b ∷ t) content) (content-escaped rest)

pub returns : goal.returns
returns c = λ text. rw (content-escaped text) refl

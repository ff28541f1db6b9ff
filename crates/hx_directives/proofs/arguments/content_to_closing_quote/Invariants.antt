use Rattle.std.proofs.Common.{◌≡◌, ◌++◌, false, drop, List, ℕ}
use Rattle.std.specs.Prelude.{option_map}
use Rattle.hx_directives.specs.Arguments.{content_to_closing_quote}
use Rattle.hx_directives.proofs.arguments.content_to_closing_quote.Given as goal

abbrev pub invariant-loop-i : goal.invariant-loop-i
invariant-loop-i l =
    option_map (λ (t : List ℕ). l.content.items ++ t) (content_to_closing_quote l.is_taken (drop l.i l.text)) ≡ content_to_closing_quote false l.text

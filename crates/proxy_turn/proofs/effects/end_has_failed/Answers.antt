use Rattle.std.proofs.Common.{◌≡◌, refl, ap, ◌∙◌, List, [], ◌∷◌, Bool, ◌||◌, rules}
use Rattle.std.specs.List.{list_any}
use Rattle.proxy_engine.specs.declared.work.End.{End}
use Rattle.proxy_turn.specs.Turn.{ends_are_equal}
use Rattle.proxy_turn.proofs.effects.end_has_failed.Goals as goal

any_same : (eq same : End → Bool) → ((x : End) → eq x ≡ same x) → (xs : List End) → list_any eq xs ≡ list_any same xs
any_same eq same agree [] = refl
any_same eq same agree (x ∷ xs) = ap (λ (b : Bool). b || list_any eq xs) (agree x) ∙ ap (λ (b : Bool). same x || b) (any_same eq same agree xs)

pub returns : goal.returns
returns c = c.contains.ensures.value ∙ any_same _ (λ x. ends_are_equal x c.args.end) (λ x. search rules) c.args.failed.now

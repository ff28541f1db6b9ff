use Rattle.std.proofs.Common.{rules}
use Rattle.std.proofs.lemmas.Fn.{filter_same}
use Rattle.proxy_turn.proofs.turns.keep_readable.Goals as goal

pub returns : goal.returns
returns g c = λ s represents. filter_same _ _ _ (λ x b f' k. search (rules, represents)) _ _ c.retain.ensures.filtered

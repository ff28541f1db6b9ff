use Rattle.std.proofs.Common.{◌≡◌, ◌++◌, drop}
use Rattle.proxy_script.specs.Effects.{effects_text}
use Rattle.proxy_script.proofs.effect_list.effects_text.Given as goal

abbrev pub invariant-loop-effect : goal.invariant-loop-effect
invariant-loop-effect l = l.text.items ++ effects_text (drop l.effect-index l.effects) ≡ effects_text l.effects

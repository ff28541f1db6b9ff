-- The text of what a proxy does.
use Rattle.std.specs.Prelude.{ℕ, List, ◌++◌, length, codes, decimal}
use Rattle.std.specs.List.{flat_map}
use Rattle.std.specs.Net.Text.{socket_v4_text}
use Rattle.proxy_script.specs.declared.effect_list.Effect.{Effect}
use Rattle.proxy_script.specs.declared.effect_list.Effect.TheVariants.{Client, Forward, Close, Drop}

-- a length, LF, that many bytes, LF
abbrev pub block_text : List ℕ → List ℕ
block_text bytes = decimal (length bytes) ++ codes "\n" ++ bytes ++ codes "\n"

-- what reply it is and what it answers isn't told
abbrev pub effect_text : Effect → List ℕ
effect_text (Client n bytes replied) = codes "client " ++ decimal n ++ codes " " ++ block_text bytes
effect_text (Forward l address bytes) =
    codes "forward " ++ decimal l ++ codes " " ++ socket_v4_text address ++ codes " " ++ block_text bytes
effect_text (Close n) = codes "close " ++ decimal n ++ codes "\n"
effect_text (Drop l) = codes "drop " ++ decimal l ++ codes "\n"

-- the text of effects, in order
abbrev pub effects_text : List Effect → List ℕ
effects_text effects = flat_map effect_text effects

-- The messages that the laws of worked cases speak of.
use Rattle.std.specs.Prelude.{ℕ, List, [], ◌∷◌, codes}
use Rattle.hx_fields.specs.Names.{quote, backslash}
use Rattle.hx_fields.specs.Examples.{line}
use Rattle.hx_fields.specs.Line.{Field}
use Rattle.hx_directives.specs.declared.occurrences.Occurrence.{Occurrence}
use Rattle.hx_directives.specs.Occurrences.{occurrences_of}

abbrev pub cache_control_line : List ℕ → Field
cache_control_line value = line (codes "cache-control") value

-- the directives of a message with one Cache-Control line
abbrev pub directives_of_value : List ℕ → List Occurrence
directives_of_value value = occurrences_of (cache_control_line value ∷ [])

-- a text with a backslash before each byte, and a quote at the end
abbrev pub escaped_text : List ℕ → List ℕ
escaped_text [] = quote ∷ []
escaped_text (b ∷ rest) = backslash ∷ b ∷ escaped_text rest

-- a text as a quoted string
abbrev pub quoted_text : List ℕ → List ℕ
quoted_text text = quote ∷ escaped_text text

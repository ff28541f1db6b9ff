-- What a purge does with what it takes.
--
-- purge_mode_of_request: of a request, where its word is known        request_purge_mode_or_remove: of a request that
-- purges
-- PurgeModeIsAbsentOrStale: in words, its word is known
use Rattle.std.specs.Prelude.{◌≡◌, ◌⊎◌, ℕ, List, [], ◌∷◌, codes, bytes_eq, Option, Some, None, unwrap_or}
use Rattle.std.specs.Prelude.{if◌then◌else◌}
use Rattle.hx_fields.specs.Line.{Field}
use Rattle.hx_fields.specs.FieldLines.{values_of}
use Rattle.hx_allow.specs.declared.purge_modes.PurgeMode.{PurgeMode}
use Rattle.hx_allow.specs.declared.purge_modes.PurgeMode.TheVariants.{Remove, Stale}

-- own: without a word what is held goes; with the one word, byte for byte, it stays and is stale; with another, or with
-- two lines, nothing is asked for that is known here ("A purge that expires")
abbrev pub purge_mode_of_field_values : List (List ℕ) → Option PurgeMode
purge_mode_of_field_values [] = Some Remove
purge_mode_of_field_values (word ∷ []) = if bytes_eq word (codes "stale") then Some Stale else None
purge_mode_of_field_values (word ∷ other ∷ more) = None

abbrev pub purge_mode_of_request : List Field → Option PurgeMode
purge_mode_of_request fields = purge_mode_of_field_values (values_of fields (codes "Purge-Mode"))

-- the mode of a request that purges
abbrev pub request_purge_mode_or_remove : List Field → PurgeMode
request_purge_mode_or_remove fields = unwrap_or (purge_mode_of_request fields) Remove

-- ---- in words

-- no line of Purge-Mode, or one whose value is `stale`
abbrev pub PurgeModeIsAbsentOrStale : List (List ℕ) → Type 0
PurgeModeIsAbsentOrStale values = (values ≡ []) ⊎ (values ≡ codes "stale" ∷ [])

-- What is within the scope of a purge, and which orders of a purge are known, in words.
use Rattle.std.specs.Prelude.{◌≡◌, ◌⊎◌, ℕ, Bool, true, false, List, [], ◌∷◌, ◌++◌, codes, is_some}
use Rattle.std.specs.List.{list_any}
use Rattle.hx_fields.specs.Line.{Field}
use Rattle.hx_fields.specs.FieldLines.{values_of}
use Rattle.hx_target.specs.declared.keys.Key.{Key}
use Rattle.hx_allow.specs.PurgeModes.{PurgeModeIsAbsentOrStale}
use Rattle.hx_allow.specs.Purges.{ends_with_slash, path_before_query, is_unknown_purge_header_field}
use Rattle.hx_allow.specs.Purges.{purge_scope_of_fields}
use Rattle.hx_allow.specs.Tags.{purge_tag_of_request}

-- A path is at or below another: it is that path, or goes on behind it with a slash; behind one that ends with a slash,
-- with anything.
abbrev pub PathIsAtOrBelow : List ℕ → List ℕ → Type 0
PathIsAtOrBelow path other = (other ≡ path) ⊎ ((rest : List ℕ) × (other ≡ path ++ rest)
    × ((ends_with_slash path ≡ true) ⊎ ((more : List ℕ) × (rest ≡ 47 ∷ more))))

-- a key is of this host and port, and at or below its path, whatever the queries
pub record KeyIsAtOrBelowAskedTarget (asked key : Key) : Type 0 where
  pub same_host : key.host ≡ asked.host
  pub same_port : key.port ≡ asked.port
  pub path : PathIsAtOrBelow (path_before_query asked.path_query) (path_before_query key.path_query)

-- a key is this one
pub record KeyIsOfSameTarget (asked key : Key) : Type 0 where
  pub same_host : key.host ≡ asked.host
  pub same_port : key.port ≡ asked.port
  pub same_path : key.path_query ≡ asked.path_query

-- Each order of a request is known here: no line names another, and scope, tag and mode are known, each by its lines.
pub record EachPurgeFieldIsKnownAndValid (fields : List Field) : Type 0 where
  pub no_other : list_any is_unknown_purge_header_field fields ≡ false
  pub scope : is_some (purge_scope_of_fields fields) ≡ true
  pub tag : is_some (purge_tag_of_request fields) ≡ true
  pub mode : PurgeModeIsAbsentOrStale (values_of fields (codes "Purge-Mode"))

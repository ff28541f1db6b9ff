-- What an event takes of what is held: by an answer what is held for the target that it invalidates, by a purge what is
-- within its scope and names its tag, where it has one.
--
-- key_is_in_scope: a key is within a scope        scope_includes_response: so is what is held for it, with these lines
-- scope_of_target_alone, scope_of_purge: the scopes of an answer and of a purge
-- serials_within_scope: what is held within a scope         serials_purged_by_request: that of a request that purges
-- serials_purge_removes, serials_purge_expires: what of it goes, and what stays and is expired
-- scope_if_removing: a scope whose purge removes
use Rattle.std.specs.Prelude.{ℕ, Bool, ◌&&◌, List, [], Option, None, Some}
use Rattle.hx_fields.specs.Line.{Field}
use Rattle.hx_target.specs.declared.keys.Key.{Key}
use Rattle.hx_hop.specs.declared.request_view.Asked.{Asked}
use Rattle.hx_allow.specs.PurgeModes.{request_purge_mode_or_remove}
use Rattle.hx_allow.specs.Purges.{is_in_purge_scope, purge_scope_of_request}
use Rattle.hx_allow.specs.Tags.{is_purged_by_tag_if_any, purge_tag_or_none}
use Rattle.hx_allow.specs.declared.purge_modes.PurgeMode.{PurgeMode}
use Rattle.hx_allow.specs.declared.purge_modes.PurgeMode.TheVariants.{Remove, Stale}
use Rattle.hx_allow.specs.declared.purges.PurgeScope.{PurgeScope}
use Rattle.hx_allow.specs.declared.purges.PurgeScope.TheVariants.{Target}
use Rattle.hx_store.specs.Stored.{Stored}
use Rattle.hx_store.specs.Shelf.{serials_of_entries_that_pass}

-- how far it reaches, the key that was asked for, and the tag that what is held has to name, if one was
pub record Scope : Type 0 where
  pub reach : PurgeScope
  pub asked : Key
  pub tag : Option (List ℕ)

-- By its key alone. What is on its way goes by that: nobody knows yet which tags it will name.
abbrev pub key_is_in_scope : Scope → Key → Bool
key_is_in_scope scope key = is_in_purge_scope scope.reach scope.asked key

-- what is held for a key, with these lines: by both
abbrev pub scope_includes_response : Scope → Key → List Field → Bool
scope_includes_response scope key fields = is_purged_by_tag_if_any scope.tag fields && key_is_in_scope scope key

-- one without a tag
abbrev pub scope_without_tag : PurgeScope → Key → Scope
scope_without_tag reach asked = record { reach = reach; asked = asked; tag = None }

-- that of an answer by which the target of its request is invalidated (RFC 9111, section 4.4)
abbrev pub scope_of_target_alone : Key → Scope
scope_of_target_alone key = scope_without_tag Target key

-- own: that of a request that purges ("A purge has a key")
abbrev pub scope_of_purge : Asked → Scope
scope_of_purge asked = record {
  reach = purge_scope_of_request asked.fields;
  asked = asked.target.key;
  tag = purge_tag_or_none asked.fields;
}

-- the serials of what is held within a scope, ascending
abbrev pub serials_within_scope : Scope → List Stored → List ℕ
serials_within_scope scope es = serials_of_entries_that_pass (λ e. scope_includes_response scope e.key e.fields) es

-- a held response is within the scope of a request that purges
abbrev pub is_purged_by_request : Asked → Stored → Bool
is_purged_by_request asked e = scope_includes_response (scope_of_purge asked) e.key e.fields

abbrev pub serials_purged_by_request : Asked → List Stored → List ℕ
serials_purged_by_request asked es = serials_within_scope (scope_of_purge asked) es

-- own: what a purge takes goes, or it stays and is expired, as the purge says ("A purge that expires")
abbrev pub serials_removed_in_mode : PurgeMode → List ℕ → List ℕ
serials_removed_in_mode Remove taken = taken
serials_removed_in_mode Stale taken = []

abbrev pub serials_expired_in_mode : PurgeMode → List ℕ → Option (List ℕ)
serials_expired_in_mode Remove taken = None
serials_expired_in_mode Stale taken = Some taken

abbrev pub serials_purge_removes : Asked → List Stored → List ℕ
serials_purge_removes asked es =
    serials_removed_in_mode (request_purge_mode_or_remove asked.fields) (serials_purged_by_request asked es)

abbrev pub serials_purge_expires : Asked → List Stored → Option (List ℕ)
serials_purge_expires asked es =
    serials_expired_in_mode (request_purge_mode_or_remove asked.fields) (serials_purged_by_request asked es)

-- the scope of a purge, if it removes what is held within it
abbrev pub scope_if_removing : PurgeMode → Option Scope → Option Scope
scope_if_removing Remove scope = scope
scope_if_removing Stale scope = None

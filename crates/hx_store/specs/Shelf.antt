-- What a bounded store holds: a list of entries, the latest stored or used first.
--
-- serials, holds_serial, find_entry_of_serial: the entries by their serials     serials_of_key: those with a key
-- entry_vary_matches_request: an entry has a request's nominated values          matching_serials: those with a key
-- that
-- have them
-- serials_of_entries_that_pass: those of the entries that pass a test
-- without_serials, entries_without_key: the entries that stay                  entries_with_promoted: one comes first
-- entries_with_serials_expired: some are expired
use Rattle.std.specs.Prelude.{ℕ, Bool, false, not, ◌==◌, Option, None, Some, List, [], ◌∷◌, if◌then◌else◌, map}
use Rattle.std.specs.List.{filter}
use Rattle.hx_fields.specs.Line.{Field}
use Rattle.hx_target.specs.declared.keys.Key.{Key}
use Rattle.hx_target.specs.Keys.{same_key}
use Rattle.hx_age.specs.Age.{times_once_purged}
use Rattle.hx_vary.specs.Vary.{vary_matches}
use Rattle.hx_store.specs.Stored.{Stored}
use Rattle.hx_store.specs.Serials.{serial_is_in, insert_ascending}

abbrev pub serials : List Stored → List ℕ
serials [] = []
serials (e ∷ es) = e.serial ∷ serials es

-- an entry of this serial is held
abbrev pub holds_serial : ℕ → List Stored → Bool
holds_serial s es = serial_is_in s (serials es)

abbrev pub find_entry_of_serial : ℕ → List Stored → Option Stored
find_entry_of_serial s [] = None
find_entry_of_serial s (e ∷ es) = if e.serial == s then Some e else find_entry_of_serial s es

-- the entries but those with these serials
abbrev pub without_serials : List ℕ → List Stored → List Stored
without_serials gone es = filter (λ e. not (serial_is_in e.serial gone)) es

-- the entries but those with this key
abbrev pub entries_without_key : Key → List Stored → List Stored
entries_without_key key es = filter (λ e. not (same_key e.key key)) es

-- the serials of the entries with this key, ascending
abbrev pub serials_of_key : Key → List Stored → List ℕ
serials_of_key key [] = []
serials_of_key key (e ∷ es) =
    if same_key e.key key then insert_ascending e.serial (serials_of_key key es) else serials_of_key key es

-- the serials of the entries that pass a test, ascending
abbrev pub serials_of_entries_that_pass : (Stored → Bool) → List Stored → List ℕ
serials_of_entries_that_pass passes [] = []
serials_of_entries_that_pass passes (e ∷ es) =
    if passes e then insert_ascending e.serial
    (serials_of_entries_that_pass passes es) else serials_of_entries_that_pass passes es

-- the entry that was found nominates what the request has (RFC 9111, section 4.1)
abbrev pub entry_vary_matches_request : List Field → Option Stored → Bool
entry_vary_matches_request request None = false
entry_vary_matches_request request (Some e) = vary_matches e.nominated request

-- the serials of the entries with this key that nominate what the request has, ascending
abbrev pub matching_serials : Key → List Field → List Stored → List ℕ
matching_serials key request es =
    filter (λ s. entry_vary_matches_request request (find_entry_of_serial s es)) (serials_of_key key es)

abbrev pub entries_with_first_if_any : Option Stored → List Stored → List Stored
entries_with_first_if_any None es = es
entries_with_first_if_any (Some e) es = e ∷ es

-- the held entry of this serial comes first
abbrev pub entries_with_promoted : ℕ → List Stored → List Stored
entries_with_promoted s es = entries_with_first_if_any (find_entry_of_serial s es) (without_serials (s ∷ []) es)

-- the entry once a purge ended its lifetime at a moment, if it has one of these serials
abbrev pub expired_entry : List ℕ → ℕ → Stored → Stored
expired_entry ended now e =
    if serial_is_in e.serial ended then record e { times = times_once_purged e.times now } else e

-- the entries, of which those with these serials are expired at a moment: each stays where it is
abbrev pub entries_with_serials_expired : List ℕ → ℕ → List Stored → List Stored
entries_with_serials_expired ended now es = map (expired_entry ended now) es

-- a bounded store: the most entries that it holds, those that it holds, the latest stored or used
-- first, and for how many entries, those among them, memory is known to stand ready
pub record ShelfModel : Type 0 where
  pub limit : ℕ
  pub entries : List Stored
  pub room : ℕ

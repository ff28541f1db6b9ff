-- What concerns one connection alone and doesn't go on (RFC 9110, section 7.6.1).
--
-- connection_has_option: a member of Connection is this name
-- is_hop_by_hop_name: such a name whatever Connection says     is_hop_by_hop_line: a line that doesn't go on
-- stripped: the lines that go on                        connection_names_caching_field: Connection names what a cache
-- reads
use Rattle.std.specs.Prelude.{ℕ, Bool, not, ◌||◌, List, [], ◌∷◌, filter, codes}
use Rattle.std.specs.List.{list_any}
use Rattle.hx_fields.specs.Line.{Field}
use Rattle.hx_fields.specs.FieldLines.{members_of}
use Rattle.hx_fields.specs.Names.{is_same_name}

-- a name is one of these
abbrev pub name_is_among : List (List ℕ) → List ℕ → Bool
name_is_among names name = list_any (λ n. is_same_name n name) names

-- Connection = #connection-option: a field name or `close`, without case (RFC 9110, section 7.6.1)
abbrev pub connection_has_option : List Field → List ℕ → Bool
connection_has_option fields name = name_is_among (members_of fields (codes "Connection")) name

-- a field of one connection, whether Connection names it or not
-- own: Trailer and the three of proxy authentication, of which the standard leaves the choice
-- ("Fields of one connection are taken out")
abbrev pub hop_by_hop_names : List (List ℕ)
hop_by_hop_names =
    codes "Connection" ∷ codes "Proxy-Connection" ∷ codes "Keep-Alive" ∷ codes "TE" ∷ codes "Transfer-Encoding"
    ∷ codes "Upgrade" ∷ codes "Trailer" ∷ codes "Proxy-Authenticate" ∷ codes "Proxy-Authentication-Info"
    ∷ codes "Proxy-Authorization" ∷ []

abbrev pub is_hop_by_hop_name : List ℕ → Bool
is_hop_by_hop_name name = name_is_among hop_by_hop_names name

-- a line that concerns the connection on which the fields came
abbrev pub is_hop_by_hop_line : List Field → Field → Bool
is_hop_by_hop_line fields line = is_hop_by_hop_name line.name || connection_has_option fields line.name

-- the lines that go on
abbrev pub stripped : List Field → List Field
stripped fields = filter (λ line. not (is_hop_by_hop_line fields line)) fields

-- the fields by which a cache decides (RFC 9111, sections 3 and 4; RFC 9110, section 8.8)
abbrev pub caching_field_names : List (List ℕ)
caching_field_names =
    codes "Age" ∷ codes "Cache-Control" ∷ codes "Date" ∷ codes "ETag" ∷ codes "Expires" ∷ codes "Last-Modified"
    ∷ codes "Set-Cookie" ∷ codes "Vary" ∷ []

-- Connection names one of them, so that what is left after stripping says less than the origin said
abbrev pub connection_names_caching_field : List Field → Bool
connection_names_caching_field fields = list_any (connection_has_option fields) caching_field_names

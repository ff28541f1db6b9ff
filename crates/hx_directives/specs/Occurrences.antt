-- Which directives occur in a message's Cache-Control lines, and with which arguments (RFC 9111, section 5.2).
use Rattle.std.specs.Prelude.{ℕ, ◌+◌, ◌==◌, if◌then◌else◌, Bool, List, [], ◌∷◌, length, find, take, drop, position}
use Rattle.std.specs.Prelude.{unwrap_or, codes, Option, None, option_map}
use Rattle.std.specs.List.{filter_map}
use Rattle.hx_fields.specs.Names.{is_same_name, trimmed, members_of_value}
use Rattle.hx_fields.specs.Tokens.{is_token}
use Rattle.hx_fields.specs.FieldLines.{members_of}
use Rattle.hx_fields.specs.Line.{Field}
use Rattle.hx_directives.specs.declared.names.Directive.{Directive}
use Rattle.hx_directives.specs.declared.names.Directive.TheVariants.{MaxAge, SMaxage, MaxStale, MinFresh, StaleIfError}
use Rattle.hx_directives.specs.declared.names.Directive.TheVariants.{StaleWhileRevalidate}
use Rattle.hx_directives.specs.declared.names.Directive.TheVariants.{NoCache, NoStore, OnlyIfCached, MustRevalidate}
use Rattle.hx_directives.specs.declared.names.Directive.TheVariants.{ProxyRevalidate, MustUnderstand, Private, Public}
use Rattle.hx_directives.specs.declared.occurrences.Occurrence.{Occurrence}
use Rattle.hx_directives.specs.Arguments.{seconds_of_argument}

-- the name of each directive that a rule reads (RFC 9111, sections 5.2.1 and 5.2.2; RFC 5861, sections 3 and 4)
abbrev pub directive_name : Directive → List ℕ
directive_name MaxAge = codes "max-age"
directive_name SMaxage = codes "s-maxage"
directive_name MaxStale = codes "max-stale"
directive_name MinFresh = codes "min-fresh"
directive_name StaleIfError = codes "stale-if-error"
directive_name StaleWhileRevalidate = codes "stale-while-revalidate"
directive_name NoCache = codes "no-cache"
directive_name NoStore = codes "no-store"
directive_name OnlyIfCached = codes "only-if-cached"
directive_name MustRevalidate = codes "must-revalidate"
directive_name ProxyRevalidate = codes "proxy-revalidate"
directive_name MustUnderstand = codes "must-understand"
directive_name Private = codes "private"
directive_name Public = codes "public"

abbrev pub all_directives : List Directive
all_directives =
    MaxAge ∷ SMaxage ∷ MaxStale ∷ MinFresh ∷ StaleIfError ∷ NoCache ∷ NoStore ∷ OnlyIfCached ∷ MustRevalidate
    ∷ ProxyRevalidate ∷ MustUnderstand ∷ Private ∷ Public ∷ StaleWhileRevalidate ∷ []

-- the directive that a name spells, without case
abbrev pub directive_of : List ℕ → Option Directive
directive_of name = find (λ d. is_same_name name (directive_name d)) all_directives

abbrev pub is_equals_sign : ℕ → Bool
is_equals_sign b = b == 61

-- the name of a member: what stands before its first `=`, or all of it
abbrev pub member_name : List ℕ → List ℕ
member_name member = trimmed (take (unwrap_or (position is_equals_sign member) (length member)) member)

-- the argument of a member: what follows its first `=`
abbrev pub member_argument : List ℕ → Option (List ℕ)
member_argument member = option_map (λ i. trimmed (drop (i + 1) member)) (position is_equals_sign member)

-- the directive that a member spells, with its argument
-- own: a name that is no token drops the member
abbrev pub occurrence_of_member : List ℕ → Option Occurrence
occurrence_of_member member =
    option_map (λ d. record { directive = d; argument = seconds_of_argument (member_argument member) })
    (if is_token (member_name member) then directive_of (member_name member) else None)

-- the directives of one line; another line than Cache-Control has none
abbrev pub directives_of_field_line : Field → List Occurrence
directives_of_field_line line =
    if is_same_name line.name (codes "Cache-Control") then filter_map occurrence_of_member (members_of_value line.value) else []

-- the directives that occur, in order
abbrev pub occurrences_of : List Field → List Occurrence
occurrences_of fields = filter_map occurrence_of_member (members_of fields (codes "Cache-Control"))

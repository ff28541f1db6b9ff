-- What a request's target and Host lines are judged to be (RFC 9112, sections 3.2 and 3.3; RFC 9110, section 7.1).
--
-- TargetParts: the parts of a target, and the values of the Host lines
-- target_fault_applies: the condition of each fault, faults: by their numbers
-- judged_of: the least fault that stands, or the target
-- TargetIsJudged: the same of a text, with the cut of `http_uri` as a relation
use Rattle.std.specs.Prelude.{◌≡◌, ◌⊎◌, ℕ, ◌==◌, nat_lt, Bool, true, false, not, ◌&&◌, ◌||◌, if◌then◌else◌, List, []}
use Rattle.std.specs.Prelude.{◌∷◌, length, slice_index, find, codes, bytes_eq, Option, Some, None, is_none, is_some}
use Rattle.std.specs.Prelude.{unwrap_or, Result, Ok, Err}
use Rattle.std.specs.Option.{option_and_then}
use Rattle.std.specs.List.{list_any}
use Rattle.http_uri.specs.declared.uri.Uri.{Uri}
use Rattle.http_uri.specs.Uri.{Spells, SpellsNone, uri_scheme, uri_authority, uri_data}
use Rattle.http_uri.specs.Grammar.{path_of}
use Rattle.http_uri.specs.ByteClasses.{slash, hash_sign, at_sign, rsplit_once_back}
use Rattle.hx_target.specs.Hosts.{begins_with_valid_host, host_part, port_of_host_value, lowercase}
use Rattle.hx_target.specs.Paths.{has_bad_escape, has_dot_segment, table_path_of}
use Rattle.hx_target.specs.declared.target_fault.TargetFault.{TargetFault}
use Rattle.hx_target.specs.declared.target_fault.TargetFault.TheVariants.{Form, Scheme, Host, Port, Userinfo, Escape}
use Rattle.hx_target.specs.declared.target_fault.TargetFault.TheVariants.{DotSegment, TooLong, OutOfMemory}
use Rattle.hx_target.specs.declared.targets.Target.{Target}

-- a byte that no target has: none of 21 to 7E (hex), or `#`
-- own: no bytes above ASCII, though some parsers let them pass ("Targets are ASCII")
abbrev pub is_forbidden_target_byte : ℕ → Bool
is_forbidden_target_byte b = nat_lt b 0x21 || nat_lt 0x7E b || (b == hash_sign)

-- a text whose bytes alone tell that it is no target
unfoldable pub is_malformed : List ℕ → Bool
is_malformed target = list_any is_forbidden_target_byte target

-- The parts of a target, and the values of the Host lines.
pub record TargetParts : Type 0 where
  pub target : List ℕ
  pub scheme : Option (List ℕ)
  pub authority : Option (List ℕ)
  -- path and query
  pub kept : List ℕ
  pub hosts : List (List ℕ)

-- the parts that a URI has
abbrev pub target_parts_of : List ℕ → Uri → List (List ℕ) → TargetParts
target_parts_of target uri hosts =
    record {
      target = target;
      scheme = uri_scheme uri;
      authority = uri_authority uri;
      kept = uri_data uri;
      hosts = hosts;
    }

-- the origin form begins with `/`, the absolute form has scheme and authority (RFC 9112, sections 3.2.1 and 3.2.2)
-- own: the authority form and the asterisk form, of CONNECT and OPTIONS, aren't read ("Two forms of targets")
abbrev pub has_origin_or_absolute_form : TargetParts → Bool
has_origin_or_absolute_form q = (slice_index q.target 0 == slash) || (is_some q.scheme && is_some q.authority)

-- schemes compare without case (RFC 3986, section 3.1)
abbrev pub is_http_scheme : List ℕ → Bool
is_http_scheme scheme = bytes_eq (lowercase scheme) (codes "http")

abbrev pub has_scheme_other_than_http : Option (List ℕ) → Bool
has_scheme_other_than_http None = false
has_scheme_other_than_http (Some scheme) = not (is_http_scheme scheme)

-- the only one of a list
abbrev pub single_value_of : List (List ℕ) → Option (List ℕ)
single_value_of [] = None
single_value_of (x ∷ []) = Some x
single_value_of (x ∷ (y ∷ ys)) = None

-- the value, where its host is valid
abbrev pub host_value_if_valid : List ℕ → Option (List ℕ)
host_value_if_valid value = if begins_with_valid_host value then Some value else None

-- the value of the Host line, where exactly one stands and its host is valid (RFC 9112, section 3.2)
abbrev pub valid_host_value : List (List ℕ) → Option (List ℕ)
valid_host_value hosts = option_and_then host_value_if_valid (single_value_of hosts)

-- the port of that line
abbrev pub port_of_host_line : List (List ℕ) → Option ℕ
port_of_host_line hosts = option_and_then port_of_host_value (valid_host_value hosts)

-- What names host and port: the authority behind its last `@`, which replaces the Host line, or this line (RFC 9112,
-- section 3.2.2; RFC 3986, section 3.2).
abbrev pub authority_or_host : Option (List ℕ) → List ℕ → List ℕ
authority_or_host None value = value
authority_or_host (Some authority) value = rsplit_once_back at_sign authority

abbrev pub host_and_port_text : TargetParts → List ℕ
host_and_port_text q = authority_or_host q.authority (unwrap_or (valid_host_value q.hosts) [])

-- an `@` in the authority (RFC 9110, section 4.2.4)
abbrev pub has_userinfo : Option (List ℕ) → Bool
has_userinfo None = false
has_userinfo (Some authority) = list_any (λ b. b == at_sign) authority

abbrev pub table_path_of_target : TargetParts → List ℕ
table_path_of_target q = table_path_of (path_of q.kept)

-- path and query as they came, an empty path as `/` (RFC 9110, section 4.2.3)
abbrev pub path_query_of : List ℕ → List ℕ
path_query_of kept = if slice_index kept 0 == slash then kept else slash ∷ kept

-- the condition of each fault
-- own: in absolute form the Host line is judged too, though it names nothing then ("Host lines are always judged")
abbrev pub target_fault_applies : TargetFault → TargetParts → Bool
target_fault_applies Form q = not (has_origin_or_absolute_form q)
target_fault_applies Scheme q = has_scheme_other_than_http q.scheme
target_fault_applies Host q = is_none (valid_host_value q.hosts) || not (begins_with_valid_host (host_and_port_text q))
target_fault_applies Port q = is_none (port_of_host_line q.hosts) || is_none (port_of_host_value (host_and_port_text q))
target_fault_applies Userinfo q = has_userinfo q.authority
target_fault_applies Escape q = has_bad_escape (path_of q.kept)
-- own: escaped dots count too, and a dot segment is refused where RFC 3986, section 5.2.4 would resolve it
target_fault_applies DotSegment q = has_dot_segment (table_path_of_target q)
target_fault_applies TooLong q = nat_lt 8192 (length q.target)
target_fault_applies OutOfMemory q = false

-- by their numbers
abbrev pub faults : List TargetFault
faults = Form ∷ Scheme ∷ Host ∷ Port ∷ Userinfo ∷ Escape ∷ DotSegment ∷ TooLong ∷ []

-- the least fault that stands
abbrev pub first_target_fault : TargetParts → Option TargetFault
first_target_fault q = find (λ fault. target_fault_applies fault q) faults

-- what is asked for, where no fault stands
abbrev pub target_of_parts : TargetParts → Target
target_of_parts q = record {
  key = record {
    host = lowercase (host_part (host_and_port_text q));
    port = unwrap_or (port_of_host_value (host_and_port_text q)) 80;
    path_query = path_query_of q.kept;
  };
  table_path = table_path_of_target q;
}

abbrev pub fault_or_target : Option TargetFault → TargetParts → Result Target TargetFault
fault_or_target (Some fault) q = Err fault
fault_or_target None q = Ok (target_of_parts q)

-- the least fault of the parts, or what they ask for
unfoldable pub judged_of : TargetParts → Result Target TargetFault
judged_of q = fault_or_target (first_target_fault q) q

-- What a target and the values of the Host lines are judged to be: Form where the text's bytes tell it or where the
-- text spells no URI, else what its parts are judged to be.
abbrev pub TargetIsJudged : List ℕ → List (List ℕ) → Result Target TargetFault → Type 0
TargetIsJudged target hosts r =
    ((is_malformed target ≡ true) × (r ≡ Err Form))
    ⊎ ((SpellsNone target × (r ≡ Err Form))
    ⊎ ((is_malformed target ≡ false)
    × ((uri : Uri) × Spells target uri × (r ≡ judged_of (target_parts_of target uri hosts)))))

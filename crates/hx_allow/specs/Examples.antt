-- Tables, lines and requests for worked cases.
use Rattle.std.specs.Prelude.{ℕ, zero, suc, pos, true, false, List, [], ◌∷◌, ◌++◌, codes, Option, Some, None, map}
use Rattle.toml.specs.Data.{Data, string, integer, array, Items, no_items, item, Members, no_members, member}
use Rattle.hx_target.specs.declared.keys.Key.{Key}
use Rattle.hx_target.specs.declared.targets.Target.{Target}
use Rattle.hx_target.specs.Paths.{table_path_of}
use Rattle.hx_policy.specs.Policies.{plain}
use Rattle.hx_policy.specs.declared.words.Policy.{Policy}
use Rattle.hx_allow.specs.TableLines.{Line, Table}
use Rattle.hx_allow.specs.declared.line_hosts.LineHost.{LineHost}
use Rattle.hx_allow.specs.declared.line_hosts.LineHost.TheVariants.{Every, One, Below}

-- a key and its value
abbrev pub KeyAndTomlValue : Type 0
KeyAndTomlValue = List ℕ × Data

-- the table of these keys, which ascend
abbrev pub table_of_pairs : List KeyAndTomlValue → Members
table_of_pairs [] = no_members
table_of_pairs (p ∷ ps) = member p.0 p.1 (table_of_pairs ps)

-- an array of these values
abbrev pub array_of_values : List Data → Items
array_of_values [] = no_items
array_of_values (d ∷ ds) = item d (array_of_values ds)

-- so many of one value
abbrev pub repeated_value : ℕ → Data → Items
repeated_value zero d = no_items
repeated_value (suc n) d = item d (repeated_value n d)

-- so many of one byte
abbrev pub repeated_byte : ℕ → ℕ → List ℕ
repeated_byte zero b = []
repeated_byte (suc n) b = b ∷ repeated_byte n b

-- a key with a text, and one with a number
abbrev pub key_with_text : List ℕ → List ℕ → KeyAndTomlValue
key_with_text key value = (key, string value)

abbrev pub key_with_number : List ℕ → ℕ → KeyAndTomlValue
key_with_number key n = (key, integer (pos n))

-- the methods of a line, one of them
abbrev pub methods_key_of_one_method : List ℕ → KeyAndTomlValue
methods_key_of_one_method name = (codes "methods", array (array_of_values (string name ∷ [])))

-- a line of these four keys
abbrev pub line_table : List ℕ → List ℕ → List ℕ → List ℕ → Members
line_table host name path origin =
    table_of_pairs (key_with_text (codes "host") host ∷ methods_key_of_one_method name ∷ key_with_text (codes "origin") origin
    ∷ key_with_text (codes "path") path ∷ [])

-- a line for every host with these keys besides, which come before `host`
abbrev pub line_table_with_keys : List KeyAndTomlValue → Members
line_table_with_keys pairs = table_of_pairs
    (pairs ++ key_with_text (codes "host") (codes "*") ∷ methods_key_of_one_method (codes "GET")
    ∷ key_with_text (codes "origin") (codes "127.0.0.1:8081") ∷ key_with_text (codes "path") (codes "/") ∷ [])

-- such a line, which denies
abbrev pub denying_line_table_with : List KeyAndTomlValue → Members
denying_line_table_with pairs = table_of_pairs (pairs ++ key_with_text (codes "host") (codes "*") ∷ methods_key_of_one_method
    (codes "GET")
    ∷ key_with_text (codes "origin") (codes "deny") ∷ key_with_text (codes "path") (codes "/") ∷ [])

-- such a line, which purges
abbrev pub purging_line_table_with : List KeyAndTomlValue → Members
purging_line_table_with pairs = table_of_pairs (pairs ++ key_with_text (codes "host") (codes "*") ∷ methods_key_of_one_method
    (codes "PURGE")
    ∷ key_with_text (codes "origin") (codes "purge") ∷ key_with_text (codes "path") (codes "/") ∷ [])

-- a table of the first run's name and limits with these lines, where its version and capacity are these
abbrev pub table_with_lines : ℕ → ℕ → Items → Members
table_with_lines version capacity lines =
    table_of_pairs (key_with_number (codes "capacity") capacity ∷ (codes "line", array lines) ∷ key_with_number
    (codes "max_body") 1000 ∷ key_with_number (codes "max_stored") 1000
    ∷ key_with_text (codes "name") (codes "edge") ∷ key_with_number (codes "version") version ∷ [])

-- the same with two entries, where its version, the bound of a content and that of the store are these
abbrev pub table_with_bounds : ℕ → ℕ → Data → Items → Members
table_with_bounds version max_stored max_store lines =
    table_of_pairs (key_with_number (codes "capacity") 2 ∷ (codes "line", array lines) ∷ key_with_number
    (codes "max_body") 1000 ∷ (codes "max_store", max_store) ∷ key_with_number (codes "max_stored") max_stored
    ∷ key_with_text (codes "name") (codes "edge") ∷ key_with_number (codes "version") version ∷ [])

-- a request for a path, of this host
abbrev pub key_of_host_and_path : List ℕ → ℕ → List ℕ → Key
key_of_host_and_path host port path_query = record { host = host; port = port; path_query = path_query }

abbrev pub target_for_path : List ℕ → List ℕ → Target
target_for_path host path = record {
  key = record { host = host; port = 80; path_query = path };
  table_path
      = table_path_of path;
}

-- the one host, where there is one
abbrev pub line_host_or_every : Option (List ℕ) → LineHost
line_host_or_every None = Every
line_host_or_every (Some host) = One host

-- a line that is read, with one method
abbrev pub example_line_with_method : Option (List ℕ) → List ℕ → List ℕ → Option (List ℕ) → Line
example_line_with_method host name path origin = record {
  hosts = line_host_or_every host ∷ [];
  methods = name ∷ [];
  paths = path ∷ [];
  origin = origin;
  policy = plain true;
  refuses_loops = false;
  session_cookies = [];
  vary = [];
  origin_timeout = None;
  purge_key = None;
  wait_timeout = None;
}

-- one for each method, with these hosts and paths
abbrev pub line_with_hosts_and_paths : List LineHost → List (List ℕ) → Option (List ℕ) → Line
line_with_hosts_and_paths hosts paths origin = record {
  hosts = hosts;
  methods = codes "*" ∷ [];
  paths = paths;
  origin = origin;
  policy = plain true;
  refuses_loops = false;
  session_cookies = [];
  vary = [];
  origin_timeout = None;
  purge_key = None;
  wait_timeout = None;
}

-- what a line without words says in a table of version 4: requests with a cookie and responses with Set-Cookie are
-- given no lifetime, the conditions of clients stay with the proxy, and so do the tags of answers
abbrev pub policy_of_version_four : Policy
policy_of_version_four =
    record (plain true) {
      gives_to_set_cookie = false;
      gives_to_cookies = false;
      forwards_conditions = false;
      forwards_ranges = false;
      hides_tags = true;
    }

-- the origin of the first run
abbrev pub origin_8081 : Option (List ℕ)
origin_8081 = Some (codes "127.0.0.1:8081")

-- a line without words of version 4, over which requests that loop are refused
abbrev pub line_of_version_four : Line
line_of_version_four = record (example_line_with_method None (codes "GET") (codes "/") origin_8081) {
  policy = policy_of_version_four;
  refuses_loops = true;
  wait_timeout = Some 5;
}

-- the first line denies a path, the second allows to get any
abbrev pub lines_with_denying_line_first : List Line
lines_with_denying_line_first = example_line_with_method None (codes "*") (codes "/admin") None
    ∷ example_line_with_method None (codes "GET")
    (codes "/") origin_8081 ∷ []

-- the same, but the second is for one host
abbrev pub several_lines : List Line
several_lines = example_line_with_method None (codes "*") (codes "/admin") None ∷ example_line_with_method (Some (codes "x"))
    (codes "GET") (codes "/") origin_8081 ∷ []

-- two lines for one host around one for every host
abbrev pub example_lines_to_index : List Line
example_lines_to_index =
    example_line_with_method (Some (codes "x")) (codes "*") (codes "/p") None ∷ example_line_with_method None (codes "GET")
    (codes "/") origin_8081
    ∷ example_line_with_method (Some (codes "x")) (codes "POST") (codes "/") origin_8081 ∷ []

-- the same in a table of this name, but that the second refuses requests that loop
abbrev pub loop_refusing_table : Table
loop_refusing_table = record {
  name = codes "edge";
  capacity = 2;
  max_body = 1000;
  max_stored = 1000;
  max_store = None;
  lines = example_line_with_method (Some (codes "x")) (codes "*") (codes "/p") None
      ∷ record (example_line_with_method None (codes "GET") (codes "/") origin_8081) { refuses_loops = true }
      ∷ example_line_with_method (Some (codes "x")) (codes "POST") (codes "/") origin_8081 ∷ [];
}

-- a table of this name whose first line names two cookies and refuses loops, and whose second does neither
abbrev pub session_cookie_table : Table
session_cookie_table = record loop_refusing_table {
  lines = record (example_line_with_method None (codes "GET") (codes "/shop") origin_8081) {
    refuses_loops = true;
    session_cookies = codes "sid" ∷ codes "login" ∷ [];
  }
      ∷ example_line_with_method None (codes "GET") (codes "/") origin_8081 ∷ [];
}

-- a line whose origin is given 5 seconds, one that says nothing of it, and one that gives 7
abbrev pub lines_with_origin_timeouts : List Line
lines_with_origin_timeouts =
    record line_of_version_four { origin_timeout = Some 5 } ∷ line_of_version_four
    ∷ record line_of_version_four { origin_timeout = Some 7 } ∷ []

-- a line over which requests wait for 5 seconds, one that says nothing of it, and one over which they wait for 7
abbrev pub lines_with_wait_timeouts : List Line
lines_with_wait_timeouts =
    record line_of_version_four { wait_timeout = Some 5 } ∷ record line_of_version_four { wait_timeout = None }
    ∷ record line_of_version_four { wait_timeout = Some 7 } ∷ []

-- a key of 16 letters and digits
abbrev pub purge_key : List ℕ
purge_key = codes "0123456789abcXYZ"

-- a table whose first line purges by that key, and whose second by another
abbrev pub table_with_purging_line : Table
table_with_purging_line = record loop_refusing_table {
  lines = record (example_line_with_method None (codes "PURGE") (codes "/a") None) { purge_key = Some purge_key }
      ∷ record (example_line_with_method None (codes "PURGE") (codes "/p") None) {
        purge_key = Some (codes "0123456789abcXYz");
      }
      ∷ [];
}

-- as many names as `session-cookies` has
abbrev pub sixteen_cookie_names : List (List ℕ)
sixteen_cookie_names =
    codes "a" ∷ codes "b" ∷ codes "c" ∷ codes "d" ∷ codes "e" ∷ codes "f" ∷ codes "g" ∷ codes "h" ∷ codes "i" ∷ codes "j"
    ∷ codes "k" ∷ codes "l" ∷ codes "m" ∷ codes "n" ∷ codes "o" ∷ codes "p" ∷ []

-- as many as `vary` has
abbrev pub eight_vary_names : List (List ℕ)
eight_vary_names =
    codes "a" ∷ codes "b" ∷ codes "c" ∷ codes "d" ∷ codes "e" ∷ codes "f" ∷ codes "g" ∷ codes "X-Forwarded-Proto" ∷ []

-- a table whose first line names two fields, and whose second names none
abbrev pub table_with_vary_lines : Table
table_with_vary_lines = record loop_refusing_table {
  lines = record (example_line_with_method None (codes "GET") (codes "/shop") origin_8081) {
    vary = codes "X-Forwarded-Proto" ∷ codes "X-Device" ∷ [];
  }
      ∷ example_line_with_method None (codes "GET") (codes "/") origin_8081 ∷ [];
}

-- a line that denies two paths of two hosts and of those below one, one for the hosts below it, and one for every host
abbrev pub lines_with_several_hosts : List Line
lines_with_several_hosts =
    line_with_hosts_and_paths (One (codes "a") ∷ One (codes "b") ∷ Below (codes "c") ∷ []) (codes "/p" ∷ codes "/q" ∷ []) None
    ∷ line_with_hosts_and_paths (Below (codes "c") ∷ []) (codes "/" ∷ []) origin_8081
    ∷ line_with_hosts_and_paths (Every ∷ []) (codes "/" ∷ []) (Some (codes "127.0.0.1:8082")) ∷ []

-- a line with these values of `host` and `path`
abbrev pub table_of_host_and_path : Data → Data → Members
table_of_host_and_path host path =
    table_of_pairs ((codes "host", host) ∷ methods_key_of_one_method (codes "GET") ∷ key_with_text (codes "origin") (codes "deny")
    ∷ (codes "path", path) ∷ [])

-- a list of these texts
abbrev pub list_of_texts : List (List ℕ) → Data
list_of_texts texts = array (array_of_values (map (λ text. string text) texts))

-- a line without cache, and one with it
abbrev pub lines_without_and_with_cache : List Line
lines_without_and_with_cache =
    record (example_line_with_method None (codes "*") (codes "/live") origin_8081) { policy = plain false }
    ∷ example_line_with_method None (codes "GET") (codes "/") origin_8081 ∷ []

-- seven tags, of one letter, of a list that goes on
abbrev pub seven_tags_and_a_comma : List ℕ
seven_tags_and_a_comma = codes "a,a,a,a,a,a,a,"

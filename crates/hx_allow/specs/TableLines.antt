-- The operator's table as plain lists.
use Rattle.std.specs.Prelude.{ℕ, Bool, List, Option}
use Rattle.hx_policy.specs.declared.words.Policy.{Policy}
use Rattle.hx_allow.specs.declared.line_hosts.LineHost.{LineHost}

-- A line: the hosts that it matches, its methods with `*` among them, its paths, the address of its origin or none
-- where it denies or purges, what it says of caching, whether it refuses requests that loop, the cookies whose requests
-- go past the store, the fields that count as if the Vary of each answer named them, the seconds for which its origin
-- may send no byte, where it says so, the key of a line that purges, and the seconds after which who waits for the
-- answer to another waits no longer, where there is such a time.
pub record Line : Type 0 where
  pub hosts : List LineHost
  pub methods : List (List ℕ)
  pub paths : List (List ℕ)
  pub origin : Option (List ℕ)
  pub policy : Policy
  pub refuses_loops : Bool
  pub session_cookies : List (List ℕ)
  pub vary : List (List ℕ)
  pub origin_timeout : Option ℕ
  pub purge_key : Option (List ℕ)
  pub wait_timeout : Option ℕ

-- The whole table. Limits are bytes, but for the capacity, which is entries. The bytes of all stored responses are
-- bounded where `max_store` stands.
pub record Table : Type 0 where
  pub name : List ℕ
  pub capacity : ℕ
  pub max_body : ℕ
  pub max_stored : ℕ
  pub max_store : Option ℕ
  pub lines : List Line

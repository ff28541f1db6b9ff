-- What is asked of the ends that are kept, one after another.
--
-- flagged_places: the places below a count at which something has the flag
use Rattle.std.specs.Prelude.{ℕ, List, [], ◌∷◌, Bool, true, false, ◌&&◌, not, nat_lt, is_some, Option, None, Some}
use Rattle.std.specs.Prelude.{if◌then◌else◌}
use Rattle.proxy_engine.specs.Activities.{has_exchange}
use Rattle.proxy_engine.specs.declared.endpoints.ends.Connection.{Connection}
use Rattle.proxy_engine.specs.declared.endpoints.ends.Link.{Link}

-- whatever is kept
abbrev pub is_true_of_every_end : {A : Type 0} → A → Bool
is_true_of_every_end x = true

abbrev pub connection_is_not_gone : Connection → Bool
connection_is_not_gone c = not c.gone

abbrev pub client_of_connection_may_send : Connection → Bool
client_of_connection_may_send c = not c.gone && (not c.ended && not (has_exchange c.activity))

abbrev pub open_link_has_failed : Link → Bool
open_link_has_failed k = is_some k.failed

abbrev pub link_may_send : Link → Bool
link_may_send k = not (is_some k.failed) && not k.ended

-- the entries of a map in the order of their places
abbrev pub flagged_places : {A : Type 0} → (A → Bool) → ℕ → List (ℕ × A) → List ℕ
flagged_places flag n [] = []
flagged_places flag n (e ∷ es) = if nat_lt e.0 n && flag e.1 then e.0 ∷ flagged_places flag n es
    else flagged_places flag n es

abbrev pub open_end_has_flag : {A : Type 0} → (A → Bool) → Option A → Bool
open_end_has_flag flag None = false
open_end_has_flag flag (Some x) = flag x

-- What contracts see of the proxy's ends.
--
-- engine_state_of_ends_and_core: an engine of ends and a core
-- work_left_of_ends: a bound on the acts still to come on the ends
use Rattle.std.specs.Prelude.{ℕ}
use Rattle.proxy_core.specs.State.{State as CoreState}
use Rattle.proxy_engine.specs.State.{State, engine_state_of_parts, engine_work_left}
use Rattle.proxy_engine.specs.declared.endpoints.open_ends.Ends.{Ends}

abbrev pub engine_state_of_ends_and_core : Ends → CoreState → State
engine_state_of_ends_and_core ends core = engine_state_of_parts ends.connections.items ends.links.items core
    ends.first_link

abbrev pub work_left_of_ends : Ends → ℕ
work_left_of_ends ends = engine_work_left ends.connections.items ends.links.items

-- An engine to which nothing has happened, over a store of its table's capacity that may hold responses already.
--
-- store_holding: that store       ResponsesMayBeHeldAtStart: what it may hold       engine_model_at_start: the engine
use Rattle.std.specs.Prelude.{ℕ, List, Some}
use Rattle.hx_allow.specs.TableLines.{Table}
use Rattle.hx_store.specs.Stored.{Stored}
use Rattle.proxy_core.specs.Starts.{StoreAtStart, StoreAtStartIsValid}
use Rattle.proxy_core.specs.State.{bounds_of}
use Rattle.proxy_core.specs.Traces.{initial_state as core_begun}
use Rattle.proxy_engine.specs.EngineModel.{EngineModel}
use Rattle.proxy_engine.specs.State.{new_engine_model}

-- these responses in a store with room for as many as the table says
abbrev pub store_holding : Table → List Stored → StoreAtStart
store_holding table held = record { limit = table.capacity; entries = held }

-- no serial twice, each below the first that is given, within the bounds of the table
abbrev pub ResponsesMayBeHeldAtStart : Table → List Stored → ℕ → Type 0
ResponsesMayBeHeldAtStart table held first = StoreAtStartIsValid (bounds_of table table.capacity) (Some first) held

-- serials of stored responses begin at the first, numbers of links at that of a link
abbrev pub engine_model_at_start : Table → List Stored → ℕ → ℕ → EngineModel
engine_model_at_start table held first link = new_engine_model (core_begun table (store_holding table held) first) link

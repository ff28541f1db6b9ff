-- What a change of connections alone, or of links alone, is to a model that the engine represents, whatever else it
-- keeps.
--
-- ConnectionsTakeHappening, LinksTakeHappening: a happening is taken     ConnectionsRefuseHappening,
-- LinksRefuseHappening: why it isn't
-- HappeningAddsToConnections, HappeningAddsBytesToLinks: something of it is kept
-- ConnectionChangesAtPlace: one connection changes          ConnectionsAndLinksChange: connections and links do
use Rattle.std.specs.Prelude.{◌≡◌, ℕ, true, List, Option}
use Rattle.proxy_core.specs.State.{State as CoreState}
use Rattle.proxy_engine.specs.declared.endpoints.ends.Connection.{Connection}
use Rattle.proxy_engine.specs.declared.endpoints.ends.Link.{Link}
use Rattle.proxy_engine.specs.declared.work.EngineFault.{EngineFault}
use Rattle.proxy_engine.specs.Happenings.{HappeningModel}
use Rattle.proxy_engine.specs.EngineModel.{EngineModel, ConnectionModel, happening_adds_connection_or_bytes}
use Rattle.proxy_engine.specs.EngineModel.{with_changed_connection}
use Rattle.proxy_engine.specs.State.{EngineRepresents, EngineTakesHappening, IsFaultOfTakingHappening}
use Rattle.proxy_engine.specs.State.{engine_state_of_parts}

abbrev pub ConnectionsTakeHappening : List (Option Connection) → List (Option Connection) → HappeningModel → Type 0
ConnectionsTakeHappening old new happening =
    (s : EngineModel) → (links : List (Option Link)) → (core : CoreState) → (first : ℕ)
    → EngineRepresents (engine_state_of_parts old links core first) s
    → EngineTakesHappening s happening (engine_state_of_parts new links core first)

abbrev pub ConnectionsRefuseHappening : List (Option Connection) → HappeningModel → EngineFault → Type 0
ConnectionsRefuseHappening old happening fault =
    (s : EngineModel) → (links : List (Option Link)) → (core : CoreState) → (first : ℕ)
    → EngineRepresents (engine_state_of_parts old links core first) s → IsFaultOfTakingHappening s happening fault

abbrev pub HappeningAddsToConnections : List (Option Connection) → HappeningModel → Type 0
HappeningAddsToConnections old happening =
    (s : EngineModel) → (links : List (Option Link)) → (core : CoreState) → (first : ℕ)
    → EngineRepresents (engine_state_of_parts old links core first) s → happening_adds_connection_or_bytes s happening
    ≡ true

abbrev pub ConnectionChangesAtPlace : ℕ → List (Option Connection) → List (Option Connection)
    → (ConnectionModel → ConnectionModel) → Type 0
ConnectionChangesAtPlace i old new change =
    (s : EngineModel) → (links : List (Option Link)) → (core : CoreState) → (first : ℕ)
    → EngineRepresents (engine_state_of_parts old links core first) s
    → EngineRepresents (engine_state_of_parts new links core first) (with_changed_connection s i change)

-- first: the number of the link at the first place
abbrev pub LinksTakeHappening : ℕ → List (Option Link) → List (Option Link) → HappeningModel → Type 0
LinksTakeHappening first old new happening =
    (s : EngineModel) → (connections : List (Option Connection)) → (core : CoreState)
    → EngineRepresents (engine_state_of_parts connections old core first) s
    → EngineTakesHappening s happening (engine_state_of_parts connections new core first)

abbrev pub LinksRefuseHappening : ℕ → List (Option Link) → HappeningModel → EngineFault → Type 0
LinksRefuseHappening first old happening fault =
    (s : EngineModel) → (connections : List (Option Connection)) → (core : CoreState)
    → EngineRepresents (engine_state_of_parts connections old core first) s → IsFaultOfTakingHappening s happening fault

abbrev pub HappeningAddsBytesToLinks : ℕ → List (Option Link) → HappeningModel → Type 0
HappeningAddsBytesToLinks first old happening =
    (s : EngineModel) → (connections : List (Option Connection)) → (core : CoreState)
    → EngineRepresents (engine_state_of_parts connections old core first) s
    → happening_adds_connection_or_bytes s happening
    ≡ true

abbrev pub ConnectionsAndLinksChange : List (Option Connection) → List (Option Link) → List (Option Connection)
    → List (Option Link)
    → (EngineModel → EngineModel) → Type 0
ConnectionsAndLinksChange connections links new_connections new_links change =
    (s : EngineModel) → (core : CoreState) → (first : ℕ)
    → EngineRepresents (engine_state_of_parts connections links core first) s
    → EngineRepresents (engine_state_of_parts new_connections new_links core first) (change s)

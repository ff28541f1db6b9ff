-- Which client a link belongs to, by what is kept and by the model.
use Rattle.std.proofs.Common.{◌≡◌, ◌∙◌, refl, ap, subst, ℕ, ◌<◌, nat_le, Bool, true, false, cond, Option, None, Some, length, get_or}
use Rattle.proxy_core.specs.State.{State as CoreState}
use Rattle.proxy_engine.specs.ConnectionNumbers.{link_place}
use Rattle.proxy_engine.specs.EngineModel.{EngineModel, link_at}
use Rattle.proxy_engine.specs.Pairing.{ConnectionsAndLinksOfStateArePaired, owner_of_open_link, owner_of_link_number}
use Rattle.proxy_engine.specs.Reading.{owner_place_of_link_model, owner_of_link_with_number, line_of_owners_exchange, line_of_link}
use Rattle.proxy_engine.specs.State.{State, EngineRepresents}
use Rattle.proxy_engine.specs.declared.endpoints.ends.Link.{Link}
use Rattle.proxy_engine.proofs.Pairs.{owned_link, within_connections}
use Rattle.proxy_engine.proofs.Readable.{owner_read_at}

-- a link that is open belongs to a connection that there is
pub owner_is_there : (e : State) (l i : ℕ) → ConnectionsAndLinksOfStateArePaired e → owner_of_link_number e l ≡ Some i → i < length e.connections
owner_is_there e l i paired owns = by_first (nat_le e.first l) refl owns
  where
    j : ℕ
    j = link_place e.first l

    by_link : (k : Option Link) → get_or e.links j None ≡ k → owner_of_open_link k ≡ Some i → i < length e.connections
    by_link None is o = cc
    by_link (Some x) is o =
        let same : x.connection ≡ i = cc in
        subst (λ p. p < length e.connections) same (within_connections e.connections x.connection j (owned_link e.connections e.links e.core.exchanges j x is paired))

    by_first : (b : Bool) → nat_le e.first l ≡ b → cond b (owner_of_open_link (get_or e.links j None)) None ≡ Some i → i < length e.connections
    by_first false is o = cc
    by_first true is o = by_link (get_or e.links j None) refl o

-- the client that is kept of a link is that of each model
pub owner_of_link_model : (e : State) (s : EngineModel) (l : ℕ) → EngineRepresents e s → owner_of_link_number e l ≡ owner_of_link_with_number s l
owner_of_link_model e s l h =
    ap (λ f. cond (nat_le f l) (owner_of_open_link (get_or e.links (link_place f l) None)) None) h.first
    ∙ ap (λ (o : Option ℕ). cond (nat_le s.first l) o None) (owner_read_at e.links s.links h.links (link_place s.first l))

pub line_of_model : (e : State) (s : EngineModel) (l : ℕ) → EngineRepresents e s → line_of_owners_exchange e.core.exchanges (owner_of_link_number e l) ≡ line_of_link s l
line_of_model e s l h =
    ap (line_of_owners_exchange e.core.exchanges) (owner_of_link_model e s l h)
    ∙ ap (λ (c : CoreState). line_of_owners_exchange c.exchanges (owner_of_link_with_number s l)) h.core

use Rattle.std.proofs.Common.{◌≡◌, ◌+◌, ◌≤◌, ◌^◌, ◌∙◌, ◌++◌, ◌∷◌, [], ℕ, List, Option, None, Some, is_some, length, get_or, set, sym, ap, subst, arith, sum_by}
use Rattle.std.specs.Option.{option_map}
use Rattle.proxy_script.specs.declared.effect_list.Effect.{Effect}
use Rattle.proxy_script.specs.declared.effect_list.Effect.TheVariants.{Drop}
use Rattle.proxy_engine.specs.Questions.{question_of_request}
use Rattle.proxy_engine.specs.EngineModel.{no_link}
use Rattle.proxy_engine.specs.Due.{LinkResult, Finishes}
use Rattle.proxy_engine.specs.Acts.{outcome_with_origin_address, effects_of_outcome, model_after_outcome}
use Rattle.proxy_engine.specs.State.{LinkRepresents, EngineRepresents, engine_state_of_parts, EngineDoesAct, link_result_at, work_left_of_link}
use Rattle.proxy_engine.specs.Pairing.{owners_of_links}
use Rattle.proxy_engine.specs.declared.endpoints.ends.Link.{Link}
use Rattle.proxy_engine.proofs.Parts.{both_length, both_at}
use Rattle.proxy_engine.proofs.Keeping.{inside}
use Rattle.proxy_engine.proofs.Changes.{finish_there}
use Rattle.proxy_engine.proofs.Acting.{one_finish, emitted_one}
use Rattle.proxy_engine.proofs.Ending.{goes_given, remains, one_more}
use Rattle.proxy_engine.proofs.Pairs.{within_connections, owned_link, is_open, is_out, still_here, paired_finished}
use Rattle.proxy_engine.proofs.Stepping.{finished_done, ends_table, link_counts}
use Rattle.proxy_engine.proofs.engine.Engine.complete.Goals as goal

pub at-requires : goal.at-requires
at-requires g c = ap (λ (ls : List (Option Link)). is_some (get_or ls c.args.j None)) c.reserve_place.ensures.items ∙ finish_there _ (rw (← c.self.view_is) at c.requires.due)

pub number_at-id-requires : goal.number_at-id-requires
number_at-id-requires g c = let x = c.at.result.now in
    let there = subst (λ (ls : List (Option Link)). get_or ls c.args.j None ≡ Some x) c.reserve_place.ensures.items c.at.ensures in
    let link = owned_link c.self.inside.ends.connections.items c.self.inside.ends.links.items c.self.inside.core.exchanges c.args.j x there c.self.invariant in
    within_connections c.self.inside.ends.connections.items x.connection c.args.j link

pub at-requires-2 : goal.at-requires-2
at-requires-2 g c = ap (λ (ls : List (Option Link)). is_some (get_or ls c.args.j None)) c.reserve_place.ensures.items ∙ finish_there _ (rw (← c.self.view_is) at c.requires.due)

pub end-requires-clause-due : goal.end-requires-clause-due
end-requires-clause-due g c = let here = subst (λ (ls : List (Option Link)). get_or ls c.args.j None ≡ Some c.at-2.result.now) c.reserve_place.ensures.items c.at-2.ensures in
    ap (λ (o : Option Link). is_some (link_result_at o)) (sym here) ∙ (rw (← c.self.view_is) at c.requires.due)

pub end-requires-clause-open : goal.end-requires-clause-open
end-requires-clause-open g c = let cs = c.self.inside.ends.connections.items in
    let ks = c.self.inside.ends.links.items in
    let xs = c.self.inside.core.exchanges in
    let x = c.at.result.now in
    let there = subst (λ (ls : List (Option Link)). get_or ls c.args.j None ≡ Some x) c.reserve_place.ensures.items c.at.ensures in
    rw c.number_at-id.ensures (is_out cs ks xs x.connection c.args.j (owned_link cs ks xs c.args.j x there c.self.invariant) c.self.invariant)

pub end_exchange_of_link-requires-clause-link : goal.end_exchange_of_link-requires-clause-link
end_exchange_of_link-requires-clause-link g c = ap (λ (ls : List (Option Link)). is_some (get_or ls c.args.j None)) c.reserve_place.ensures.items ∙ finish_there _ (rw (← c.self.view_is) at c.requires.due)

pub end_exchange_of_link-requires-clause-connection : goal.end_exchange_of_link-requires-clause-connection
end_exchange_of_link-requires-clause-connection g c = let cs = c.self.inside.ends.connections.items in
    let ks = c.self.inside.ends.links.items in
    let x = c.at.result.now in
    let there = subst (λ (ls : List (Option Link)). get_or ls c.args.j None ≡ Some x) c.reserve_place.ensures.items c.at.ensures in
    still_here cs x.connection c.args.j (rw (← c.self.view_is) at c.requires.here) (owned_link cs ks c.self.inside.core.exchanges c.args.j x there c.self.invariant)

pub carry_out-requires-clause-room_for_link : goal.carry_out-requires-clause-room_for_link
carry_out-requires-clause-room_for_link g c = c.end_exchange_of_link.ensures.room ∙ c.in_ok-reserve_place.ensures.ok

pub carry_out-requires-clause-left : goal.carry_out-requires-clause-left
carry_out-requires-clause-left g c = λ goes.
    let cs = c.self.inside.ends.connections.items in
    let ks = c.self.inside.ends.links.items in
    let j = c.args.j in
    let core = c.self.inside.core in
    let x = c.at.result.now in
    let same = c.reserve_place.ensures.items in
    let there = subst (λ (ls : List (Option Link)). get_or ls j None ≡ Some x) same c.at.ensures in
    let here = subst (λ (ls : List (Option Link)). get_or ls j None ≡ Some c.at-2.result.now) same c.at-2.ensures in
    let link = owned_link cs ks core.exchanges j x there c.self.invariant in
    let ended = (rw c.number_at-id.ensures at c.in_ok-step.ensures.ok) in
    let may = goes_given core c.end.new.core c.args.now (x.connection + 1) ended.0 c.in_ok-step.step.outcome (is_open cs ks core.exchanges x.connection j link c.self.invariant) ended.2 goes in
    let few = (rw (← c.self.view_is) at c.requires.left) ended.0 (ap link_result_at here ∙ ended.1) may in
    omega (arith, few, c.end_exchange_of_link.ensures.links, ap length same)

pub invariant_of-self-2 : goal.invariant_of-self-2
invariant_of-self-2 g c = let cs = c.self.inside.ends.connections.items in
    let ks = c.self.inside.ends.links.items in
    let core = c.self.inside.core in
    let x = c.at.result.now in
    let same = c.reserve_place.ensures.items in
    let there = subst (λ (ls : List (Option Link)). get_or ls c.args.j None ≡ Some x) same c.at.ensures in
    let link = owned_link cs ks core.exchanges c.args.j x there c.self.invariant in
    let is_there = is_open cs ks core.exchanges x.connection c.args.j link c.self.invariant in
    let owners : owners_of_links c.end_exchange_of_link.new.links.items ≡ set (owners_of_links ks) c.args.j None = c.end_exchange_of_link.ensures.owners ∙ ap (λ (ls : List (Option Link)). set (owners_of_links ls) c.args.j None) same in
    paired_finished cs c.end_exchange_of_link.new.connections.items c.carry_out.new.self.connections.items ks c.end_exchange_of_link.new.links.items c.carry_out.new.self.links.items core.exchanges c.end.new.core.exchanges x.connection c.args.j c.in_ok-step.step.outcome link c.end_exchange_of_link.ensures.activities owners
    c.carry_out.ensures.activities c.carry_out.ensures.owners is_there (remains core c.end.new.core c.args.now (x.connection + 1) (rw c.number_at-id.ensures at c.in_ok-step.ensures.ok).0 c.in_ok-step.step.outcome is_there (rw c.number_at-id.ensures at c.in_ok-step.ensures.ok).2) c.self.invariant

pub returns-clause-less : goal.returns-clause-less
returns-clause-less g c = rw (← c.self.view_is) (
    let rooms = c.reserve_place.new.self.items in
    let ended = (rw c.number_at-id.ensures at c.in_ok-step.ensures.ok) in
    let counts : work_left_of_link (get_or rooms c.args.j None) ≡ 2 = link_counts (get_or rooms c.args.j None) ended.0 (ap link_result_at c.at-2.ensures ∙ ended.1) in
    let cs = c.self.inside.ends.connections.items in
    let ks = c.self.inside.ends.links.items in
    let core = c.self.inside.core in
    let x = c.at.result.now in
    let there = subst (λ (ls : List (Option Link)). get_or ls c.args.j None ≡ Some x) c.reserve_place.ensures.items c.at.ensures in
    let is_there = is_open cs ks core.exchanges x.connection c.args.j (owned_link cs ks core.exchanges c.args.j x there c.self.invariant) c.self.invariant in
    let few = one_more c.in_ok-step.step.outcome (x.connection + 1) core.exchanges c.end.new.core.exchanges (remains core c.end.new.core c.args.now (x.connection + 1) ended.0 c.in_ok-step.step.outcome is_there ended.2) in
    omega (arith, counts, few, ap (sum_by work_left_of_link) c.reserve_place.ensures.items, c.end_exchange_of_link.ensures.load, c.carry_out.ensures.load)
    )

pub returns-clause-ok : goal.returns-clause-ok
returns-clause-ok g c = rw (← c.self.view_is) (
    λ s f shown h.
    let cs = c.self.inside.ends.connections.items in
    let ks = c.self.inside.ends.links.items in
    let core = c.self.inside.core in
    let j = c.args.j in
    let x = c.at.result.now in
    let i = x.connection in
    let items = c.reserve_place.ensures.items in
    let there = subst (λ (ls : List (Option Link)). get_or ls j None ≡ Some x) items c.at.ensures in
    let here = subst (λ (ls : List (Option Link)). get_or ls j None ≡ Some c.at-2.result.now) items c.at-2.ensures in
    let ended = (rw c.number_at-id.ensures at c.in_ok-step.ensures.ok) in
    let due = ap link_result_at here ∙ ended.1 in
    let same : f ≡ ended.0 = one_finish (get_or ks j None) ended.0 f due shown in
    let within = inside ks j (finish_there (get_or ks j None) (rw (← c.self.view_is) at c.requires.due)) in
    let links = both_length LinkRepresents ks s.links h.links in
    let first_is : c.self.inside.ends.first_link ≡ s.first = h.first in
    let numbers : s.first + length s.links ≤ 2 ^ 64 = h.numbers in
    let sizes = ap length items in
    let number : c.number_at.result ≡ c.self.inside.ends.first_link + j = c.number_at.ensures (omega (arith, links, within)) in
    let owner = subst (λ (o : Option Link). LinkRepresents o (get_or s.links j no_link)) there (both_at LinkRepresents ks s.links j None no_link h.links within) in
    let link = owned_link cs ks core.exchanges j x there c.self.invariant in
    let is_there = is_open cs ks core.exchanges i j link c.self.invariant in
    let emitted : c.put.new.effects.items ≡ Drop (c.self.inside.ends.first_link + j) ∷ [] = emitted_one c.in_ok-effects.effects.items c.put.new.effects.items _ c.put.ensures.items c.in_ok-effects.ensures.items ∙ ap (λ (n : ℕ). Drop n ∷ []) number in
    let table = c.config-config.result.now in
    let table_is : table ≡ core.table = c.config-config.ensures ∙ ends_table core c.end.new.core c.args.now (i + 1) ended.0 c.in_ok-step.step.outcome ended.2 in
    let free = c.end_exchange_of_link.ensures.represents s core c.self.inside.ends.first_link (subst (λ (ls : List (Option Link)). EngineRepresents (engine_state_of_parts cs ls core c.self.inside.ends.first_link) s) (sym items) h) in
    let fresh = c.end_exchange_of_link.ensures.links in
    subst (λ (n : ℕ). EngineDoesAct s c.args.now (Finishes j f) c.carry_out.new.effects.items (engine_state_of_parts c.carry_out.new.self.connections.items c.carry_out.new.self.links.items c.end.new.core n)) (sym c.carry_out.ensures.first)
    (subst (λ (x : LinkResult). EngineDoesAct s c.args.now (Finishes j x) c.carry_out.new.effects.items (engine_state_of_parts c.carry_out.new.self.connections.items c.carry_out.new.self.links.items c.end.new.core c.self.inside.ends.first_link)) (sym same)
    (finished_done s c.end_exchange_of_link.new.connections.items c.carry_out.new.self.connections.items c.end_exchange_of_link.new.links.items c.carry_out.new.self.links.items core c.end.new.core c.self.inside.ends.first_link c.args.now i j ended.0 c.in_ok-step.step.outcome
    table c.exchange_asks_head-to_head.result (option_map question_of_request c.in_ok-step.step.asked) c.carry_out.new.effects.items is_there (λ t. let few = (rw (← c.self.view_is) at c.requires.left) ended.0 due t in omega (arith, few, links)) ended.2 table_is
    (rw c.number_at-id.ensures at c.exchange_asks_head-to_head.ensures)
    (ap (option_map question_of_request) (rw c.number_at-id.ensures at c.in_ok-step.ensures.asked)) (omega (arith, fresh, sizes, links, first_is))
    (c.carry_out.ensures.effects ∙ ap (λ (b : List Effect). b ++ effects_of_outcome i (c.self.inside.ends.first_link + length c.end_exchange_of_link.new.links.items) (option_map question_of_request c.in_ok-step.step.asked) (outcome_with_origin_address table c.in_ok-step.step.outcome)) emitted)
    first_is h.core owner.connection free (λ t k most represents. subst (λ (n : ℕ). EngineRepresents (engine_state_of_parts c.carry_out.new.self.connections.items c.carry_out.new.self.links.items k n) (model_after_outcome i c.exchange_asks_head-to_head.result (outcome_with_origin_address table c.in_ok-step.step.outcome) t)) c.carry_out.ensures.first (c.carry_out.ensures.represents t k most represents))))
    )

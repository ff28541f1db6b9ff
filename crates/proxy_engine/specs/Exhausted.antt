-- Out of memory never hides that no link number is left.
--
-- lookahead_is_unknown, IsOpenWithFlag: nothing is known of an end
-- LookaheadRanOutOfMemory: a look over the links has found no memory
-- LookaheadsShowAct: it is known what is due, and whether it needs a link
-- LinkNumberIsLeftIfActMayForward: out of memory is told only where a number is left
-- OutOfMemoryNeverHidesNoLinkNumberForWake, ExhaustedNumbersAreReportedAtAnswer: what isn't so
use Rattle.std.specs.Prelude.{◌≡◌, ◌≢◌, ℕ, ◌<◌, ◌≤◌, ◌^◌, List, Bool, true, false, Option, None, Some, slice_index_or}
use Rattle.proxy_engine.specs.EngineModel.{EngineModel, LinkModel, no_link}
use Rattle.hx_framing.specs.declared.messages.Response.{Response}
use Rattle.proxy_engine.specs.Due.{Act, Abandons, Finishes, Wakes, Serves, Gives, IsFirstDueAct, IsDueLinkResult}
use Rattle.proxy_engine.specs.Acts.{ActMayForward, next_link_number}
use Rattle.proxy_engine.specs.State.{State, ListsAreRelated, LinkRepresents}
use Rattle.proxy_engine.specs.declared.endpoints.lookahead.Lookahead.{Lookahead}
use Rattle.proxy_engine.specs.declared.endpoints.lookahead.Lookahead.TheVariants.{Unknown, Quiet, Due}
use Rattle.proxy_engine.specs.declared.endpoints.ends.Connection.{Connection}
use Rattle.proxy_engine.specs.declared.endpoints.ends.Link.{Link}

-- its reader wasn't asked since bytes came, or found no memory to answer
abbrev pub lookahead_is_unknown : {M : Type 0} → Lookahead M → Bool
lookahead_is_unknown Unknown = true
lookahead_is_unknown Quiet = false
lookahead_is_unknown (Due a) = false

-- something is kept at the place, and it has the flag
abbrev pub IsOpenWithFlag : {A : Type 0} → (A → Bool) → Option A → Type 0
IsOpenWithFlag flag None = ⊥
IsOpenWithFlag flag (Some x) = flag x ≡ true

abbrev pub connection_lookahead_is_unknown : Connection → Bool
connection_lookahead_is_unknown c = lookahead_is_unknown c.reader.ahead

abbrev pub link_lookahead_is_unknown : Link → Bool
link_lookahead_is_unknown k = lookahead_is_unknown k.reader.ahead

-- the look at this place found no memory, and nothing is due before it, whatever the links stand for
pub record LookaheadRanOutOfMemory (ks : List (Option Link)) : Type 0 where
  pub place : ℕ
  pub unknown : IsOpenWithFlag link_lookahead_is_unknown (slice_index_or ks place None)
  pub before : (ys : List LinkModel) → ListsAreRelated LinkRepresents ks ys → (j : ℕ) → j < place
      → IsDueLinkResult (slice_index_or ys j no_link) None

-- The looks at the links tell what is due, and that it may need a link: of an answer those up to its own, of a wake all
-- of them. An arriving request is judged first, and that takes memory.
abbrev pub LookaheadsShowAct : State → Act → Type 0
LookaheadsShowAct e (Abandons i l) = Unit {0}
LookaheadsShowAct e (Finishes j finish) =
    (k : ℕ) → k ≤ j → IsOpenWithFlag link_lookahead_is_unknown (slice_index_or e.links k None)
    → ⊥
LookaheadsShowAct e (Wakes i) = (k : ℕ) → IsOpenWithFlag link_lookahead_is_unknown (slice_index_or e.links k None) → ⊥
LookaheadsShowAct e (Serves i action) = ⊥

-- where the act that is due is seen, and may need a link, a number for it is left
abbrev pub LinkNumberIsLeftIfActMayForward : EngineModel → State → Type 0
LinkNumberIsLeftIfActMayForward s e = (act : Act) → IsFirstDueAct s (Some act) → ActMayForward act
    → LookaheadsShowAct e act → next_link_number s < 2 ^ 64

-- ---- the statements

-- a request is to be woken, all links are known, and no number is left for one more: memory isn't what is wanting
abbrev pub OutOfMemoryNeverHidesNoLinkNumberForWake : Type 0
OutOfMemoryNeverHidesNoLinkNumberForWake = (s : EngineModel) (e : State) (i : ℕ) → IsFirstDueAct s (Some (Wakes i))
    → ((k : ℕ) (link : Link) → slice_index_or e.links k None ≡ Some link → link.reader.ahead ≢ Unknown)
    → 2 ^ 64 ≤ next_link_number s → LinkNumberIsLeftIfActMayForward s e → ⊥

-- nor where an answer is due, and the links up to its own are known
abbrev pub ExhaustedNumbersAreReportedAtAnswer : Type 0
ExhaustedNumbersAreReportedAtAnswer =
    (s : EngineModel) (e : State) (j : ℕ) (response : Response) → IsFirstDueAct s (Some (Finishes j (Gives response)))
    → ((k : ℕ) (link : Link) → k ≤ j → slice_index_or e.links k None ≡ Some link → link.reader.ahead ≢ Unknown)
    → 2 ^ 64 ≤ next_link_number s → LinkNumberIsLeftIfActMayForward s e → ⊥

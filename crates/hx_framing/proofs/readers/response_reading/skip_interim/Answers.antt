use Rattle.std.proofs.Common.{ℕ, ◌≡◌, ◌+◌, List, Option, Some, length, take, drop, length-drop, arith, refl, sym, ap, subst, ◌∙◌}
use Rattle.hx_framing.specs.declared.heads.status_head.Judged.{Judged}
use Rattle.hx_framing.specs.declared.heads.status_head.Judged.TheVariants as judged
use Rattle.hx_framing.specs.HeadEnd.{head_length}
use Rattle.hx_framing.specs.StatusHead.{ResponseHeadIsJudgedAs}
use Rattle.hx_framing.specs.ResponseHeadProgress.{FinalHeadFollowsInterimResponses}
use Rattle.hx_framing.proofs.MemoryLemmas.{on_err}
use Rattle.hx_framing.proofs.HeadSearches.{head_some}
use Rattle.hx_framing.proofs.ResponseLemmas.{place_within}
use Rattle.hx_framing.proofs.ResponseProgressLemmas.{interim_at, final_head_complete, final_head_faulty}
use Rattle.hx_framing.proofs.readers.response_reading.skip_interim.Goals as goal

-- where the next head ends, as the loop has it
index_of_byte : (bytes : List ℕ) (at n : ℕ) (next : Option ℕ) → next ≡ head_length (take 32768 (drop at bytes)) → next ≡ Some n → head_length (take 32768 (drop at bytes)) ≡ Some n
index_of_byte bytes at n next continue_sent is = sym continue_sent ∙ is

pub split_at-requires : goal.split_at-requires
split_at-requires c =
    let place = index_of_byte c.args.bytes.now c.loop-next.at c.in-Some.n c.loop-next.next c.loop-next.invariant.2 c.in-Some.is in
    omega (arith, place_within (drop c.loop-next.at c.args.bytes.now) c.in-Some.n place, ap length c.bytes_from_index-rest.ensures)

-- how the head that stands there is judged, as the loop has it
judges : (bytes rest front : List ℕ) (at n : ℕ) (j i : Judged) → rest ≡ drop at bytes → front ≡ take n rest → j ≡ i → ResponseHeadIsJudgedAs front j
    → ResponseHeadIsJudgedAs (take n (drop at bytes)) i
judges bytes rest front at n j i behind same is h =
    subst (λ (j : Judged). ResponseHeadIsJudgedAs (take n (drop at bytes)) j) is
    (subst (λ (u : List ℕ). ResponseHeadIsJudgedAs u j) (same ∙ ap (take n) behind) h)

pub loop-next-preserved : goal.loop-next-preserved
loop-next-preserved c =
    let place = index_of_byte c.args.bytes.now c.loop-next.at c.in-Some.n c.loop-next.next c.loop-next.invariant.2 c.in-Some.is in
    let j = judges c.args.bytes.now _ _ c.loop-next.at c.in-Some.n _ judged.Interim c.bytes_from_index-rest.ensures c.split_at.ensures.front c.in-Interim.is c.in_ok-judge_head.ensures.judged in (
      omega (arith, c.loop-next.invariant.0, place_within (drop c.loop-next.at c.args.bytes.now) c.in-Some.n place, length-drop c.loop-next.at c.args.bytes.now),
      interim_at c.args.bytes.now c.loop-next.at c.in-Some.n j.0 place j.1 j.2 c.loop-next.invariant.1,
      c.head_length_within-next.ensures.size ∙ ap (λ u. head_length (take 32768 u)) c.bytes_from_index.ensures,
    )

pub returns-in-Final-clause-final_head : goal.returns-in-Final-clause-final_head
returns-in-Final-clause-final_head c =
    let place = index_of_byte c.args.bytes.now c.loop-next.at c.in-Some.n c.loop-next.next c.loop-next.invariant.2 c.in-Some.is in
    let j = judges c.args.bytes.now _ _ c.loop-next.at c.in-Some.n _ (judged.Final c.in-Final.head) c.bytes_from_index-rest.ensures c.split_at.ensures.front c.in-Final.is c.in_ok-judge_head.ensures.judged in
    final_head_complete c.args.bytes.now c.loop-next.at c.in-Some.n c.in-Final.head c.loop-next.invariant.0 (head_some (take 32768 (drop c.loop-next.at c.args.bytes.now)) c.in-Some.n place) place j.0
    j.1 c.loop-next.invariant.1

pub returns-in-Faulty-clause-final_head : goal.returns-in-Faulty-clause-final_head
returns-in-Faulty-clause-final_head c =
    let place = index_of_byte c.args.bytes.now c.loop-next.at c.in-Some.n c.loop-next.next c.loop-next.invariant.2 c.in-Some.is in
    let j = judges c.args.bytes.now _ _ c.loop-next.at c.in-Some.n _ (judged.Faulty c.in-Faulty.fault) c.bytes_from_index-rest.ensures c.split_at.ensures.front c.in-Faulty.is c.in_ok-judge_head.ensures.judged in
    final_head_faulty c.args.bytes.now c.loop-next.at c.in-Some.n c.in-Faulty.fault c.loop-next.invariant.0 (head_some (take 32768 (drop c.loop-next.at c.args.bytes.now)) c.in-Some.n place) place j c.loop-next.invariant.1

pub returns-in_err-judge_head-clause-memory_last : goal.returns-in_err-judge_head-clause-memory_last
returns-in_err-judge_head-clause-memory_last c =
    let place = index_of_byte c.args.bytes.now c.loop-next.at c.in-Some.n c.loop-next.next c.loop-next.invariant.2 c.in-Some.is in
    let has = c.in_err-judge_head.ensures.memory_last in
    let j = judges c.args.bytes.now _ _ c.loop-next.at c.in-Some.n (judged.Final has.0) (judged.Final has.0) c.bytes_from_index-rest.ensures c.split_at.ensures.front refl has.1 in
    let final : FinalHeadFollowsInterimResponses c.args.bytes.now = (
      has.0,
      c.loop-next.at + c.in-Some.n,
      final_head_complete c.args.bytes.now c.loop-next.at c.in-Some.n has.0 c.loop-next.invariant.0 (head_some (take 32768 (drop c.loop-next.at c.args.bytes.now)) c.in-Some.n place) place j.0
          j.1 c.loop-next.invariant.1,
    ) in
    on_err _ final

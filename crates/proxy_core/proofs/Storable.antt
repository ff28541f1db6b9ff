-- What is stored, and under which serial.
use Rattle.std.proofs.Common.{◌≡◌, ℕ, Bool, true, false, cond, Option, None, Some, is_none, refl, sym, subst}
use Rattle.std.specs.Prelude.{Result, IfOk}
use Rattle.hx_framing.specs.declared.messages.Response.{Response}
use Rattle.hx_vary.specs.Vary.{vary_counts_as_star}
use Rattle.hx_hop.specs.Answering.{answered_of}
use Rattle.hx_allow.specs.TableLines.{Table}
use Rattle.hx_storable.specs.Rules.{rule_against_storing}
use Rattle.hx_storable.specs.Storable.{StoredOnlyWhereNoRuleApplies}
use Rattle.hx_storable.specs.declared.rule.StoreRule.{StoreRule}
use Rattle.hx_storable.specs.declared.rule.StoreRule.TheVariants.{VaryStar}
use Rattle.proxy_core.specs.declared.open.exchange.Exchange.{Exchange}
use Rattle.proxy_core.specs.declared.replies.pending.PendingReply.{PendingReply}
use Rattle.proxy_core.specs.Storing.{storing_facts_of_answer, is_storable}
use Rattle.proxy_core.specs.Pending.{StoresUnderNextSerial}

pub none_of : (o : Option StoreRule) → is_none o ≡ true → o ≡ None
none_of None h = refl
none_of (Some rule) h = cc

-- what nominates nothing that can be compared isn't stored
pub no_star : StoredOnlyWhereNoRuleApplies → (table : Table) (x : Exchange) (r : Response) (now : ℕ) (next : Option ℕ) → is_storable table x r now next ≡ true
    → vary_counts_as_star (answered_of r now).fields ≡ true → ⊥
no_star law table x r now next storable star =
    let a = answered_of r now in
    let facts = storing_facts_of_answer table x r now next in
    let unstarred : vary_counts_as_star a.fields ≡ false = law x.asked a facts VaryStar (none_of (rule_against_storing x.asked a facts) storable) in
    cc

-- the serial that is given is the next
pub given_is_next : (b : Bool) (next : Option ℕ) (n : ℕ) → Some n ≡ cond b next None → next ≡ Some n
given_is_next true next n h = sym h
given_is_next false next n h = cc

pub next_of_pending : {E : Type 0} (r : Result PendingReply E) (next : Option ℕ) (n : ℕ) → next ≡ Some n → IfOk r (λ pending. StoresUnderNextSerial (Some n) pending.change) → IfOk r (λ pending. StoresUnderNextSerial next pending.change)
next_of_pending r next n h k = subst (λ (o : Option ℕ). IfOk r (λ pending. StoresUnderNextSerial o pending.change)) (sym h) k

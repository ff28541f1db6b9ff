-- A log of calls, as it is kept at run time.
--
-- logged_read_outcome, model_of_logged_call: what stands in it      LogGrewByCalls: it grew by these calls, with two
-- laws
use Rattle.std.proofs.Common.{sym, ap, ◌∙◌}
use Rattle.std.proofs.lemmas.List.{append-nil, append_assoc}
use Rattle.std.specs.Prelude.{◌≡◌, List, [], ◌++◌, map, Bool, false}
use Rattle.proxy_turn.specs.Calls as call
use Rattle.proxy_turn.specs.Calls.{ReadOutcome, Call, accept_outcome_of}
use Rattle.proxy_turn.specs.declared.logged.LoggedReadOutcome.{LoggedReadOutcome}
use Rattle.proxy_turn.specs.declared.logged.LoggedReadOutcome.TheVariants as gave
use Rattle.proxy_turn.specs.declared.logged.LoggedCall.{LoggedCall}
use Rattle.proxy_turn.specs.declared.logged.LoggedCall.TheVariants as logged

abbrev pub logged_read_outcome : LoggedReadOutcome → ReadOutcome
logged_read_outcome gave.Nothing = call.Nothing
logged_read_outcome (gave.Bytes bytes) = call.Bytes bytes
logged_read_outcome gave.End = call.Ended
logged_read_outcome gave.Failed = call.Broken

abbrev pub model_of_logged_call : LoggedCall → Call
model_of_logged_call (logged.Accept n came) = call.Accept n (accept_outcome_of came)
model_of_logged_call (logged.Read end it) = call.Read end (logged_read_outcome it)
model_of_logged_call (logged.Write end bytes replied done) = call.Write end bytes replied done
model_of_logged_call (logged.Connect link address done) = call.Connect link address done
model_of_logged_call (logged.Shut end done) = call.Shut end done

-- It grew by these calls, unless memory was wanting for one.
abbrev pub LogGrewByCalls : Bool → List LoggedCall → Bool → List LoggedCall → List Call → Type 0
LogGrewByCalls was_lost log lost later made = lost ≡ false → (was_lost ≡ false) ×
    (map model_of_logged_call later ≡ map model_of_logged_call log ++ made)

-- with no call, and one after another
pub log_grew_by_no_call : (lost : Bool) (log : List LoggedCall) → LogGrewByCalls lost log lost log []
log_grew_by_no_call lost log kept = (kept, sym (append-nil (map model_of_logged_call log)))

pub log_growths_concatenate : (first : Bool) (log : List LoggedCall) (then : Bool) (mid : List LoggedCall) (last : Bool)
    (later : List LoggedCall) (a b : List Call) → LogGrewByCalls first log then mid a → LogGrewByCalls
    then mid last later b
    → LogGrewByCalls first log last later (a ++ b)
log_growths_concatenate first log then mid last later a b one two kept =
    let second = two kept in
    let start = one second.0 in
    (start.0, second.1 ∙ (ap (λ (xs : List Call). xs ++ b) start.1 ∙ append_assoc (map model_of_logged_call log) a b))

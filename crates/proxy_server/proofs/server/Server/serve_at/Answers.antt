use Rattle.std.proofs.Common.{rules, ◌≡◌, refl, sym, ap, subst, ◌∙◌, Err, is_some}
use Rattle.std.specs.Prelude.{◌<◌}
use Rattle.hx_fields.specs.declared.limits.TheConstants.{START_OF_YEAR_10000}
use Rattle.proxy_turn.specs.Counts.{calls}
use Rattle.proxy_turn.specs.declared.report.TurnFault.TheVariants as faults
use Rattle.proxy_server.specs.ServerState.{ServerState}
use Rattle.proxy_server.specs.Serving.{TurnHadLinkNumbersLeft, TurnIsServedAndSettled}
use Rattle.proxy_server.proofs.Living.{server_state, begun_from, served_behind, settled_behind, answered_at}
use Rattle.proxy_server.proofs.server.Server.serve_at.Goals as goal
use Rattle.proxy_server.proofs.server.Server.serve_at.Goals.{then-refresh+else-is_err, else-refresh}

pub returns-in-Ok : goal.returns-in-Ok
returns-in-Ok g c =
    let first : server_state c.if-refresh.self-inside.engine c.if-refresh.self-inside.ends.recorder (is_some c.if-refresh.self-inside.ends.fault) c.if-refresh.self-inside.ends.moment
    c.if-refresh.self-inside.ends.taken c.if-refresh.self-inside.pace.settled
    (calls c.if-refresh.self-inside.ends.accepts c.if-refresh.self-inside.ends.reads c.if-refresh.self-inside.ends.failures) ≡ c.args.self.now = elim c.if-refresh.branch [
      | then-refresh+else-is_err w ↦ rw w.self-inside-is c.self.view_is
      | else-refresh w ↦ rw w.self-inside-is c.self.view_is
    ] in
    let begun = begun_from c.args.now _ _ c.args.self.now first
    (ap (λ r. server_state c.if-refresh.self-inside.engine r.recorder (is_some r.fault) r.moment r.taken c.if-refresh.self-inside.pace.settled (calls r.accepts r.reads r.failures)) c.begin-moment.ensures.begun) in
    let before = subst (λ (a : ServerState). a.moment < START_OF_YEAR_10000) c.self.view_is c.self.invariant.1 in
    let answered = answered_at c.args.now _ c.args.self.now c.turn_at-reported.new.self c.look_ahead.new.self c.turn_at-reported.result c.begin-moment.result begun c.requires before c.turn_at-reported.ensures c.look_ahead.ensures c.begin-moment.ensures.moment in
    (subst TurnHadLinkNumbersLeft (sym c.in-Ok.is) tt, answered)

pub returns-in-Err-Listener : goal.returns-in-Err-Listener
returns-in-Err-Listener g c =
    let is : c.turn_at-reported.result ≡ Err c.in-Err-Listener.field-0 = c.in-Err-Listener.is in
    let here : c.in-Err-Listener.field-0 ≡ faults.Listener = rw is at c.in-Err-Listener.field-0-is in
    let says : c.turn_at-reported.result ≡ Err faults.Listener = is ∙ ap Err here in
    let first : server_state c.if-refresh.self-inside.engine c.if-refresh.self-inside.ends.recorder (is_some c.if-refresh.self-inside.ends.fault) c.if-refresh.self-inside.ends.moment
    c.if-refresh.self-inside.ends.taken c.if-refresh.self-inside.pace.settled
    (calls c.if-refresh.self-inside.ends.accepts c.if-refresh.self-inside.ends.reads c.if-refresh.self-inside.ends.failures) ≡ c.args.self.now = elim c.if-refresh.branch [
      | then-refresh+else-is_err w ↦ rw w.self-inside-is c.self.view_is
      | else-refresh w ↦ rw w.self-inside-is c.self.view_is
    ] in
    let begun = begun_from c.args.now _ _ c.args.self.now first
    (ap (λ r. server_state c.if-refresh.self-inside.engine r.recorder (is_some r.fault) r.moment r.taken c.if-refresh.self-inside.pace.settled (calls r.accepts r.reads r.failures)) c.begin-moment.ensures.begun) in
    let before = subst (λ (a : ServerState). a.moment < START_OF_YEAR_10000) c.self.view_is c.self.invariant.1 in
    let answered = answered_at c.args.now _ c.args.self.now c.turn_at-reported.new.self c.look_ahead.new.self c.turn_at-reported.result c.begin-moment.result begun c.requires before c.turn_at-reported.ensures c.look_ahead.ensures c.begin-moment.ensures.moment in
    (subst TurnHadLinkNumbersLeft (sym says) tt, answered)

pub returns-in-Err-NoMemory : goal.returns-in-Err-NoMemory
returns-in-Err-NoMemory g c =
    let is : c.turn_at-reported.result ≡ Err c.in-Err-NoMemory.field-0 = c.in-Err-NoMemory.is in
    let here : c.in-Err-NoMemory.field-0 ≡ faults.NoMemory = rw is at c.in-Err-NoMemory.field-0-is in
    let says : c.turn_at-reported.result ≡ Err faults.NoMemory = is ∙ ap Err here in
    let first : server_state c.if-refresh.self-inside.engine c.if-refresh.self-inside.ends.recorder (is_some c.if-refresh.self-inside.ends.fault) c.if-refresh.self-inside.ends.moment
    c.if-refresh.self-inside.ends.taken c.if-refresh.self-inside.pace.settled
    (calls c.if-refresh.self-inside.ends.accepts c.if-refresh.self-inside.ends.reads c.if-refresh.self-inside.ends.failures) ≡ c.args.self.now = elim c.if-refresh.branch [
      | then-refresh+else-is_err w ↦ rw w.self-inside-is c.self.view_is
      | else-refresh w ↦ rw w.self-inside-is c.self.view_is
    ] in
    let begun = begun_from c.args.now _ _ c.args.self.now first
    (ap (λ r. server_state c.if-refresh.self-inside.engine r.recorder (is_some r.fault) r.moment r.taken c.if-refresh.self-inside.pace.settled (calls r.accepts r.reads r.failures)) c.begin-moment.ensures.begun) in
    let before = subst (λ (a : ServerState). a.moment < START_OF_YEAR_10000) c.self.view_is c.self.invariant.1 in
    let answered = answered_at c.args.now _ c.args.self.now c.turn_at-reported.new.self c.look_ahead.new.self c.turn_at-reported.result c.begin-moment.result begun c.requires before c.turn_at-reported.ensures c.look_ahead.ensures c.begin-moment.ensures.moment in
    (subst TurnHadLinkNumbersLeft (sym says) tt, answered)

pub returns-in-Err-Spent : goal.returns-in-Err-Spent
returns-in-Err-Spent g c =
    let is : c.turn_at-reported.result ≡ Err c.in-Err-Spent.field-0 = c.in-Err-Spent.is in
    let here : c.in-Err-Spent.field-0 ≡ faults.Spent = rw is at c.in-Err-Spent.field-0-is in
    let says : c.turn_at-reported.result ≡ Err faults.Spent = is ∙ ap Err here in
    let first : server_state c.if-refresh.self-inside.engine c.if-refresh.self-inside.ends.recorder (is_some c.if-refresh.self-inside.ends.fault) c.if-refresh.self-inside.ends.moment
    c.if-refresh.self-inside.ends.taken c.if-refresh.self-inside.pace.settled
    (calls c.if-refresh.self-inside.ends.accepts c.if-refresh.self-inside.ends.reads c.if-refresh.self-inside.ends.failures) ≡ c.args.self.now = elim c.if-refresh.branch [
      | then-refresh+else-is_err w ↦ rw w.self-inside-is c.self.view_is
      | else-refresh w ↦ rw w.self-inside-is c.self.view_is
    ] in
    let begun = begun_from c.args.now _ _ c.args.self.now first
    (ap (λ r. server_state c.if-refresh.self-inside.engine r.recorder (is_some r.fault) r.moment r.taken c.if-refresh.self-inside.pace.settled (calls r.accepts r.reads r.failures)) c.begin-moment.ensures.begun) in
    let before = subst (λ (a : ServerState). a.moment < START_OF_YEAR_10000) c.self.view_is c.self.invariant.1 in
    let settled = settled_behind c.args.now _ c.args.self.now c.turn_at-reported.new.self c.look_ahead.new.self c.turn_at-reported.result begun c.requires before c.turn_at-reported.ensures c.look_ahead.ensures in
    subst (TurnIsServedAndSettled c.args.self.now c.look_ahead.new.self) says settled

pub returns-in-Some : goal.returns-in-Some
returns-in-Some g c =
    let first : server_state c.if-refresh.self-inside.engine c.if-refresh.self-inside.ends.recorder (is_some c.if-refresh.self-inside.ends.fault) c.if-refresh.self-inside.ends.moment
    c.if-refresh.self-inside.ends.taken c.if-refresh.self-inside.pace.settled
    (calls c.if-refresh.self-inside.ends.accepts c.if-refresh.self-inside.ends.reads c.if-refresh.self-inside.ends.failures) ≡ c.args.self.now = elim c.if-refresh.branch [
      | then-refresh+else-is_err w ↦ rw w.self-inside-is c.self.view_is
      | else-refresh w ↦ rw w.self-inside-is c.self.view_is
    ] in
    let begun = begun_from c.args.now _ _ c.args.self.now first
    (ap (λ r. server_state c.if-refresh.self-inside.engine r.recorder (is_some r.fault) r.moment r.taken c.if-refresh.self-inside.pace.settled (calls r.accepts r.reads r.failures)) c.begin-moment.ensures.begun) in
    let before = subst (λ (a : ServerState). a.moment < START_OF_YEAR_10000) c.self.view_is c.self.invariant.1 in
    (search rules, (c.turn_at-reported.result, served_behind c.args.now _ c.args.self.now c.turn_at-reported.new.self c.turn_at-reported.result begun c.requires before c.turn_at-reported.ensures))

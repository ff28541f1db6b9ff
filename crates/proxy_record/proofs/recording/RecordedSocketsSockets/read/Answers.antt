use Rattle.std.proofs.Common.{◌≡◌, [], ◌∷◌, true, false, refl, sym, ap, ◌∙◌, subst, rules, is_some}
use Rattle.std.specs.Prelude.{option_map}
use Rattle.std.proofs.lemmas.Bool.{true≢false}
use Rattle.proxy_script.specs.Happenings.{model_of_happening}
use Rattle.proxy_turn.specs.Calls.{Read, Nothing, read_outcome_of}
use Rattle.proxy_record.specs.Recorded.{TurnIsRecorded}
use Rattle.proxy_record.proofs.Passing.{passes_it, passes_nothing, passes_unread, noted_some, noted_none_given, noted_nothing}
use Rattle.proxy_record.proofs.recording.RecordedSocketsSockets.read.Goals as goal
use Rattle.proxy_record.proofs.recording.RecordedSocketsSockets.read.Goals.{in-Some+else-not-note, in-None}

pub returns-then-has_to_wait-clause-did : goal.returns-then-has_to_wait-clause-did
returns-then-has_to_wait-clause-did g c = (λ failed. failed, [], g.met.K.Sockets.none c.args.self.now.sockets, passes_unread (is_some c.args.self.now.fault) _, λ ok. noted_nothing _ _ _ (Read _ Nothing) refl refl, refl)

pub returns-then-not-note-clause-did : goal.returns-then-not-note-clause-did
returns-then-not-note-clause-did g c =
    let failed = c.if-not-note.ensures.reported refl in
    (c.note.ensures.kept, _, c.read-received.ensures.did, passes_nothing (is_some c.note.new.fault) _ _ failed, λ ok. absurd (true≢false (sym failed ∙ ok)), refl)

pub returns-then-is_err-clause-did : goal.returns-then-is_err-clause-did
returns-then-is_err-clause-did g c =
    let given = read_outcome_of c.read-received.result c.read-received.new.buf in
    let may = c.has_to_wait.ensures.may c.if-has_to_wait.false in
    let sockets : c.match-happening_of_read.self.sockets ≡ c.read-received.new.self = elim c.match-happening_of_read.branch [
      | in-Some+else-not-note w ↦ let is = w.self-is in search rules
      | in-None w ↦ let is = w.self-is in search rules
    ] in
    let stays : c.match-happening_of_read.self.moment ≡ c.args.self.now.moment = elim c.match-happening_of_read.branch [
      | in-Some+else-not-note w ↦ let is = w.self-is in search rules
      | in-None w ↦ let is = w.self-is in search rules
    ] in
    let kept : is_some c.args.self.now.fault ≡ true → is_some c.match-happening_of_read.self.fault ≡ true = elim c.match-happening_of_read.branch [
      | in-Some+else-not-note w ↦ λ failed. let is = w.self-is in let later = w.note.ensures.kept failed in search rules
      | in-None w ↦ λ failed. let is = w.self-is in search rules
    ] in
    let noted : is_some c.match-happening_of_read.self.fault ≡ false → TurnIsRecorded c.args.self.now.moment c.args.self.now.recorder c.args.self.now.taken (Read c.args.end given ∷ []) c.match-happening_of_read.self.moment c.match-happening_of_read.self.recorder c.match-happening_of_read.self.taken = elim c.match-happening_of_read.branch [
      | in-Some+else-not-note w ↦ λ ok.
          let is = w.self-is in
          let fault_is : c.match-happening_of_read.self.fault ≡ w.note.new.fault = search rules in
          let now_is : c.match-happening_of_read.self.moment ≡ c.args.self.now.moment = search rules in
          let record_is : c.match-happening_of_read.self.recorder ≡ w.note.new.recorder = search rules in
          let taken_is : c.match-happening_of_read.self.taken ≡ true = search rules in
          let says = sym c.happening_of_read.ensures ∙ ap (option_map model_of_happening) w.in-Some.is in
          noted_some c.args.self.now.moment c.args.self.now.recorder w.note.new.recorder c.args.self.now.taken (is_some c.args.self.now.fault) c.args.end given (model_of_happening w.in-Some.happening) _ _ _
          says may now_is record_is taken_is (w.note.ensures.noted (sym (ap is_some fault_is) ∙ ok))
      | in-None w ↦ λ ok.
          let is = w.self-is in
          let now_is : c.match-happening_of_read.self.moment ≡ c.args.self.now.moment = search rules in
          let record_is : c.match-happening_of_read.self.recorder ≡ c.args.self.now.recorder = search rules in
          let taken_is : c.match-happening_of_read.self.taken ≡ c.args.self.now.taken = search rules in
          let says = sym c.happening_of_read.ensures ∙ ap (option_map model_of_happening) w.in-None.is in
          noted_none_given c.args.self.now.moment c.args.self.now.recorder c.args.self.now.taken c.args.end given _ _ _ says now_is record_is taken_is
    ] in (
      kept,
      Read c.args.end given ∷ [],
      subst (λ k. g.K.Sockets.Did c.args.self.now.sockets (Read c.args.end given ∷ []) k) (sym sockets) c.read-received.ensures.did,
      passes_it (is_some c.match-happening_of_read.self.fault) _,
      noted,
      stays,
    )

pub returns-else-is_err-clause-did : goal.returns-else-is_err-clause-did
returns-else-is_err-clause-did g c =
    let given = read_outcome_of c.read-received.result c.read-received.new.buf in
    let may = c.has_to_wait.ensures.may c.if-has_to_wait.false in
    let sockets : c.match-happening_of_read.self.sockets ≡ c.read-received.new.self = elim c.match-happening_of_read.branch [
      | in-Some+else-not-note w ↦ let is = w.self-is in search rules
      | in-None w ↦ let is = w.self-is in search rules
    ] in
    let stays : c.match-happening_of_read.self.moment ≡ c.args.self.now.moment = elim c.match-happening_of_read.branch [
      | in-Some+else-not-note w ↦ let is = w.self-is in search rules
      | in-None w ↦ let is = w.self-is in search rules
    ] in
    let kept : is_some c.args.self.now.fault ≡ true → is_some c.match-happening_of_read.self.fault ≡ true = elim c.match-happening_of_read.branch [
      | in-Some+else-not-note w ↦ λ failed. let is = w.self-is in let later = w.note.ensures.kept failed in search rules
      | in-None w ↦ λ failed. let is = w.self-is in search rules
    ] in
    let noted : is_some c.match-happening_of_read.self.fault ≡ false → TurnIsRecorded c.args.self.now.moment c.args.self.now.recorder c.args.self.now.taken (Read c.args.end given ∷ []) c.match-happening_of_read.self.moment c.match-happening_of_read.self.recorder c.match-happening_of_read.self.taken = elim c.match-happening_of_read.branch [
      | in-Some+else-not-note w ↦ λ ok.
          let is = w.self-is in
          let fault_is : c.match-happening_of_read.self.fault ≡ w.note.new.fault = search rules in
          let now_is : c.match-happening_of_read.self.moment ≡ c.args.self.now.moment = search rules in
          let record_is : c.match-happening_of_read.self.recorder ≡ w.note.new.recorder = search rules in
          let taken_is : c.match-happening_of_read.self.taken ≡ true = search rules in
          let says = sym c.happening_of_read.ensures ∙ ap (option_map model_of_happening) w.in-Some.is in
          noted_some c.args.self.now.moment c.args.self.now.recorder w.note.new.recorder c.args.self.now.taken (is_some c.args.self.now.fault) c.args.end given (model_of_happening w.in-Some.happening) _ _ _
          says may now_is record_is taken_is (w.note.ensures.noted (sym (ap is_some fault_is) ∙ ok))
      | in-None w ↦ λ ok.
          let is = w.self-is in
          let now_is : c.match-happening_of_read.self.moment ≡ c.args.self.now.moment = search rules in
          let record_is : c.match-happening_of_read.self.recorder ≡ c.args.self.now.recorder = search rules in
          let taken_is : c.match-happening_of_read.self.taken ≡ c.args.self.now.taken = search rules in
          let says = sym c.happening_of_read.ensures ∙ ap (option_map model_of_happening) w.in-None.is in
          noted_none_given c.args.self.now.moment c.args.self.now.recorder c.args.self.now.taken c.args.end given _ _ _ says now_is record_is taken_is
    ] in (
      kept,
      Read c.args.end given ∷ [],
      subst (λ k. g.K.Sockets.Did c.args.self.now.sockets (Read c.args.end given ∷ []) k) (sym sockets) c.read-received.ensures.did,
      passes_it (is_some c.match-happening_of_read.self.fault) _,
      noted,
      stays,
    )

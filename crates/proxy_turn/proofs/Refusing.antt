-- What a turn over ends that are handed in refuses.
use Rattle.std.proofs.Common.{◌≡◌, inl, inr, ◌+◌, ◌<◌, List, [], ◌∷◌, ◌++◌, length, filter, refl, sym, ap, ◌∙◌, arith, Bool, true, false, cond, ◌&&◌, ◌⊎◌}
use Rattle.std.proofs.lemmas.Bool.{false≢true}
use Rattle.proxy_engine.specs.EngineModel.{EngineModel}
use Rattle.proxy_engine.specs.Reading.{end_may_send}
use Rattle.proxy_engine.specs.declared.work.End.{End}
use Rattle.proxy_engine.specs.declared.work.End.TheVariants as ends
use Rattle.proxy_turn.specs.Calls.{AcceptOutcome, Came, NoneCame, Failed}
use Rattle.proxy_turn.specs.Turn.{ends_of_reads}
use Rattle.proxy_turn.specs.Over.{may_accept_more, LastAcceptOutcomeIs, AcceptsAreComplete, accepted_ends}
use Rattle.proxy_turn.specs.OverCases.{NoMoreAcceptsThanTheBound, NoAcceptAtTheConnectionBound, NoAcceptAfterNoConnectionCame, NoUnreadableEndIsRead, NoEndIsReadTwice, NoHandedInEndIsSkipped, NoAcceptedEndIsSkipped, NoReadBeforeTheAccepts, NoActBeforeAllEndsAreRead, NoMoreActsThanAThousand, NoReportOmitsAnUnreadEnd, NoReportedTurnStopsAcceptingEarly, NoReportCountsWhatWasNotDone, ListenerFaultOnlyAfterFailedAccept, NoUnreadableEndIsListed}
use Rattle.proxy_turn.specs.declared.bounds.TurnAcceptBounds.{TurnAcceptBounds}
use Rattle.proxy_turn.proofs.OneAccept.{never_last}

left_true : (a b : Bool) → a && b ≡ true → a ≡ true
left_true true b e = refl
left_true false b e = absurd cc

-- the last of one answer is that
last_of_one : (a b : AcceptOutcome) → LastAcceptOutcomeIs b (a ∷ []) → a ≡ b
last_of_one a b last = by last.0 last.1
  where
    by : (front : List AcceptOutcome) → a ∷ [] ≡ front ++ b ∷ [] → a ≡ b
    by [] is = cc
    by (x ∷ front) is = let none : [] ≡ front ++ b ∷ [] = cc in never_last front b none

-- what a filter leaves passes
first_passes : (test : End → Bool) (es : List End) (end : End) (left : List End) → end ∷ left ≡ filter test es → test end ≡ true
first_passes test [] end left is = absurd cc
first_passes test (e ∷ es) end left is = by (test e) refl is (first_passes test es end left)
  where
    by : (b : Bool) → test e ≡ b → end ∷ left ≡ cond b (e ∷ filter test es) (filter test es) → (end ∷ left ≡ filter test es → test end ≡ true) → test end ≡ true
    by true passes is rest = let same : end ≡ e = cc in ap test same ∙ passes
    by false passes is rest = rest is

-- it leaves what passes
passes_through : (b : Bool) (end : End) → [] ≡ cond b (end ∷ []) [] → b ≡ true → ⊥
passes_through true end is e = absurd cc
passes_through false end is e = false≢true e

one_at_most : (b : Bool) (end x y : End) (more : List End) → x ∷ y ∷ more ≡ cond b (end ∷ []) [] → ⊥
one_at_most true end x y more is = absurd cc
one_at_most false end x y more is = absurd cc

pub no_more_calls : NoMoreAcceptsThanTheBound
no_more_calls now bounds s t given accepts reads rest rounds turn more = let few = turn.few in omega (arith, few, more)

pub not_full : NoAcceptAtTheConnectionBound
not_full now bounds s t given a accepts reads rest rounds turn full = false≢true (sym full ∙ left_true _ _ turn.accepts_are.1)

pub not_behind : NoAcceptAfterNoConnectionCame
not_behind now bounds s t given a accepts reads rest rounds turn = by turn.accepts_are.3
  where
    by : (NoneCame ≡ Came) ⊎ (a ∷ accepts ≡ []) → ⊥
    by (inl came) = absurd cc
    by (inr none) = absurd cc

pub none_silent : NoUnreadableEndIsRead
none_silent now bounds s t given accepts read reads rest rounds turn silent =
    false≢true (sym silent ∙ first_passes (end_may_send turn.begun) (given ++ accepted_ends (length s.connections + 1) accepts) read.end (ends_of_reads reads ++ rest) turn.ends)

pub none_twice : NoEndIsReadTwice
none_twice now bounds s t end first second reads rest rounds turn = one_at_most (end_may_send turn.begun end) end end end (ends_of_reads reads ++ rest) turn.ends

pub none_passed : NoHandedInEndIsSkipped
none_passed now bounds s t end rounds turn sends = passes_through (end_may_send turn.begun end) end turn.ends sends

pub none_accepted_passed : NoAcceptedEndIsSkipped
none_accepted_passed now bounds s t rounds turn sends = passes_through (end_may_send turn.begun (ends.Client (length s.connections + 1))) (ends.Client (length s.connections + 1)) turn.ends sends

asked_for_more : (bounds : TurnAcceptBounds) (s begun : EngineModel) → begun ≡ s → 0 < bounds.most_accepts → may_accept_more bounds.most_open s ≡ true → AcceptsAreComplete bounds [] begun → ⊥
asked_for_more bounds s begun same left asks (inl all) = omega (arith, left, all)
asked_for_more bounds s begun same left asks (inr (inl none)) = false≢true (sym none ∙ (ap (may_accept_more bounds.most_open) same ∙ asks))
asked_for_more bounds s begun same left asks (inr (inr last)) = never_last last.0 NoneCame last.1

pub none_before : NoReadBeforeTheAccepts
none_before now bounds s t given read reads rest rounds turn left asks = by turn.accepts_come_first
  where
    by : AcceptsAreComplete bounds [] turn.begun ⊎ (((read ∷ reads) ≡ []) × (rounds ≡ [])) → ⊥
    by (inl no_more) = asked_for_more bounds s turn.begun turn.accepts_are left asks no_more
    by (inr none) = let never : read ∷ reads ≡ [] = none.0 in absurd cc

pub no_act_before : NoActBeforeAllEndsAreRead
no_act_before now bounds s t given accepts reads end rest round rounds turn = by turn.reads_come_before_acts
  where
    by : ((end ∷ rest) ≡ []) ⊎ ((round ∷ rounds) ≡ []) → ⊥
    by (inl none) = absurd cc
    by (inr none) = absurd cc

pub no_more_acts : NoMoreActsThanAThousand
no_more_acts now bounds s t given accepts reads rest rounds turn more = let bound = turn.bound in omega (arith, bound, more)

pub no_end_out : NoReportOmitsAnUnreadEnd
no_end_out bounds begun t accepts reads end rest rounds report h = let never : end ∷ rest ≡ [] = h.rest_is in absurd cc

pub no_connection_out : NoReportedTurnStopsAcceptingEarly
no_connection_out bounds begun t reads rest rounds report h left asks = by h.accepts_are
  where
    by : AcceptsAreComplete bounds (Came ∷ []) begun → ⊥
    by (inl all) = omega (arith, all, left)
    by (inr (inl none)) = false≢true (sym none ∙ asks)
    by (inr (inr last)) = let never : Came ≡ NoneCame = last_of_one Came NoneCame last in absurd cc

pub no_other_counts : NoReportCountsWhatWasNotDone
no_other_counts bounds begun t accepts reads rest rounds report h = (λ differ. differ h.works, λ differ. differ h.reads_are, λ differ. differ h.accepted)

pub no_other_fault : ListenerFaultOnlyAfterFailedAccept
no_other_fault bounds begun t reads rest rounds h = let never : Came ≡ Failed = last_of_one Came Failed h.0 in absurd cc

pub none_listed : NoUnreadableEndIsListed
none_listed now bounds s given e end left before after report turns silent =
    false≢true (sym silent ∙ first_passes (end_may_send turns.turn.begun) (given ++ accepted_ends (length s.connections + 1) turns.accepts) end left turns.listed)

-- What is so of the ends from which bytes may come.
--
-- EndWasAcceptedOrOpened: it is there          EndWhosePeerMaySendHasNumber: each is there
-- ReadableEndsMaySend, EndWhosePeerMaySendIsReadable: they are the readable ends, and those alone
-- AcceptAddsReadableEnd, EndsMaySendAsBeforeAccept: one more connection is one more of them, behind the others
use Rattle.std.specs.Prelude.{◌≡◌, [], ◌∷◌, ◌++◌, length, true, None, Contains}
use Rattle.std.specs.List.{AllByRecursion}
use Rattle.proxy_engine.specs.ConnectionNumbers.{connection_number_of_place}
use Rattle.proxy_engine.specs.Happenings.{Accepts}
use Rattle.proxy_engine.specs.EngineModel.{EngineModel, fault_of_unknown_connection, fault_of_unknown_link}
use Rattle.proxy_engine.specs.EngineModel.{model_after_happening}
use Rattle.proxy_engine.specs.Reading.{end_may_send, readable_ends_of}
use Rattle.proxy_engine.specs.declared.work.End.{End}
use Rattle.proxy_engine.specs.declared.work.End.TheVariants as ends

-- a client that was accepted, or a link that was opened
abbrev pub EndWasAcceptedOrOpened : EngineModel → End → Type 0
EndWasAcceptedOrOpened s ends.Listener = Unit {0}
EndWasAcceptedOrOpened s (ends.Client n) = fault_of_unknown_connection (length s.connections) n ≡ None
EndWasAcceptedOrOpened s (ends.Link l) = fault_of_unknown_link s.first (length s.links) l ≡ None

-- ---- the statements

abbrev pub EndWhosePeerMaySendHasNumber : Type 0
EndWhosePeerMaySendHasNumber = (s : EngineModel) (end : End) → end_may_send s end ≡ true → EndWasAcceptedOrOpened s end

abbrev pub ReadableEndsMaySend : Type 0
ReadableEndsMaySend = (s : EngineModel) → AllByRecursion (λ end. end_may_send s end ≡ true) (readable_ends_of s)

abbrev pub EndWhosePeerMaySendIsReadable : Type 0
EndWhosePeerMaySendIsReadable = (s : EngineModel) (end : End) → end_may_send s end ≡ true
    → Contains (readable_ends_of s) end

abbrev pub AcceptAddsReadableEnd : Type 0
AcceptAddsReadableEnd = (s : EngineModel) →
    readable_ends_of (model_after_happening s (Accepts (connection_number_of_place (length s.connections))))
    ≡ readable_ends_of s ++ ends.Client (connection_number_of_place (length s.connections)) ∷ []

abbrev pub EndsMaySendAsBeforeAccept : Type 0
EndsMaySendAsBeforeAccept = (s : EngineModel) (end : End) → end_may_send s end ≡ true
    → end_may_send (model_after_happening s (Accepts (connection_number_of_place (length s.connections)))) end ≡ true

-- Why a turn ended early and what to do about it, in words.
use Rattle.std.specs.Prelude.{ℕ, List, codes}
use Rattle.proxy_turn.specs.declared.report.TurnFault.{TurnFault}
use Rattle.proxy_turn.specs.declared.report.TurnFault.TheVariants.{Listener, NoMemory, Spent}

abbrev pub fault_text : TurnFault → List ℕ
fault_text Listener =
    codes "no connection can be accepted; look at the limit of open files of the process and of the system"
fault_text NoMemory =
    codes "no memory is left for the turn; nothing that was read is lost, and what is left undone is done in a later turn"
fault_text Spent = codes "no number of a link is left; start the proxy anew"

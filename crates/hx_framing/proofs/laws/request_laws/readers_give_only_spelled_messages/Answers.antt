use Rattle.hx_framing.proofs.laws.request_laws.readers_give_only_spelled_messages.Goals as goal

pub returns : goal.returns
returns c = λ reader p represents. (represents.rest, represents.spells)

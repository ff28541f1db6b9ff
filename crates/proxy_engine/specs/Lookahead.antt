-- What is known of the next answer of a reader that is asked ahead.
use Rattle.std.specs.Prelude.{◌≡◌, ℕ, Bool, true, false}
use Rattle.hx_framing.specs.declared.messages.Next.{Next}
use Rattle.hx_framing.specs.declared.messages.Next.TheVariants as next
use Rattle.proxy_engine.specs.declared.endpoints.lookahead.Lookahead.{Lookahead}
use Rattle.proxy_engine.specs.declared.endpoints.lookahead.Lookahead.TheVariants.{Unknown, Quiet, Due}

-- the next answer is this
abbrev pub LookaheadShowsAnswer : {M : Type 0} → Lookahead M → Next M → Type 0
LookaheadShowsAnswer Unknown a = ⊥
LookaheadShowsAnswer Quiet a = a ≡ next.More
LookaheadShowsAnswer (Due b) a = a ≡ b

-- what an answer tells
abbrev pub lookahead_of_reader_answer : {M : Type 0} → Next M → Lookahead M
lookahead_of_reader_answer next.More = Quiet
lookahead_of_reader_answer next.NeedsContinue = Due next.NeedsContinue
lookahead_of_reader_answer (next.Message m) = Due (next.Message m)
lookahead_of_reader_answer (next.Refused f) = Due (next.Refused f)
lookahead_of_reader_answer next.End = Due next.End

-- more has come, or the end: what is due stays due
abbrev pub lookahead_after_input : {M : Type 0} → Lookahead M → Lookahead M
lookahead_after_input Unknown = Unknown
lookahead_after_input Quiet = Unknown
lookahead_after_input (Due a) = Due a

abbrev pub lookahead_is_due : {M : Type 0} → Lookahead M → Bool
lookahead_is_due Unknown = false
lookahead_is_due Quiet = false
lookahead_is_due (Due next.More) = false
lookahead_is_due (Due next.NeedsContinue) = true
lookahead_is_due (Due (next.Message m)) = true
lookahead_is_due (Due (next.Refused f)) = true
lookahead_is_due (Due next.End) = true

-- something may be due: it wasn't looked at, or the look has found something
abbrev pub lookahead_may_be_due : {M : Type 0} → Lookahead M → Bool
lookahead_may_be_due Unknown = true
lookahead_may_be_due Quiet = false
lookahead_may_be_due (Due a) = lookahead_is_due (Due a)

-- 1 where something may stand there, since the reader wasn't asked or has answered: counted among the acts still to
-- come
abbrev pub one_if_maybe_due : {M : Type 0} → Lookahead M → ℕ
one_if_maybe_due Unknown = 1
one_if_maybe_due Quiet = 0
one_if_maybe_due (Due a) = 1

-- a message or a continue that is known counts as one that is still to come
abbrev pub one_if_message_or_continue : {M : Type 0} → Lookahead M → ℕ
one_if_message_or_continue Unknown = 0
one_if_message_or_continue Quiet = 0
one_if_message_or_continue (Due next.More) = 0
one_if_message_or_continue (Due next.NeedsContinue) = 1
one_if_message_or_continue (Due (next.Message m)) = 1
one_if_message_or_continue (Due (next.Refused f)) = 0
one_if_message_or_continue (Due next.End) = 0

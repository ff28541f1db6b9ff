-- Whose token a number is.
use Rattle.std.specs.Prelude.{ℕ, ◌<◌, ◌^◌, ◌/◌, ◌%◌, ◌==◌, if◌then◌else◌}
use Rattle.mio.specs.declared.token.Token.{Token}
use Rattle.proxy_ends.specs.declared.socket_tokens.TokenHolder.{TokenHolder}
use Rattle.proxy_ends.specs.declared.socket_tokens.TokenHolder.TheVariants.{Listener, Client, Link}

-- the remainder by 4 tells whether it is a client or a link, the quotient which one
abbrev pub holder_of_token : Token → TokenHolder
holder_of_token token =
    if token.0 % 4 == 0 then Client (token.0 / 4) else if token.0 % 4 == 1 then Link (token.0 / 4) else Listener

-- its key or number times 4 is a token
abbrev pub TokenHolderFitsToken : TokenHolder → Type 0
TokenHolderFitsToken Listener = Unit {0}
TokenHolderFitsToken (Client key) = key < 2 ^ 62
TokenHolderFitsToken (Link number) = number < 2 ^ 62

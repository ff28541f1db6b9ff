-- Whether the connection of a link is still being made: until then nothing can have come of its origin.
use Rattle.std.specs.Prelude.{Bool, false, Option, unwrap_or, option_map}
use Rattle.std.specs.Option.{option_and_then}
use Rattle.proxy_ends.specs.declared.links.link.Link.{Link}

-- not of a link that has no stream, or isn't there
abbrev pub link_is_connecting : {S : Type 0} → Option (Link S) → Bool
link_is_connecting link = unwrap_or (option_map (λ peer. peer.connecting)
    (option_and_then (λ one. one.peer) link)) false

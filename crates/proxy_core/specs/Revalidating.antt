-- Who is sent a stale response while a GET is at the origin for it, in place of waiting for that one (RFC 5861,
-- section 3).
--
-- stale_serial_may_be_sent: the held response of a serial may be sent so
-- serial_sent_while_awaited: that one, where it is what is awaited
-- serial_sent_while_revalidating: that one, where one leads
use Rattle.std.specs.Prelude.{ℕ, Bool, List, Option, Some, None, cond}
use Rattle.hx_policy.specs.declared.words.Policy.{Policy}
use Rattle.hx_directives.specs.Occurrences.{occurrences_of}
use Rattle.hx_hop.specs.declared.request_view.Asked.{Asked}
use Rattle.hx_store.specs.Stored.{Stored}
use Rattle.hx_store.specs.Shelf.{find_entry_of_serial}
use Rattle.hx_reuse.specs.Rules.{is_some_and}
use Rattle.hx_reuse.specs.WhileRevalidating.{may_be_sent_while_revalidating}
use Rattle.proxy_core.specs.declared.open.awaited.Awaited.{Awaited}
use Rattle.proxy_core.specs.declared.open.awaited.Awaited.TheVariants.{Missing, Expired}

-- the held response of this serial may be sent while one asks the origin about it
abbrev pub stale_serial_may_be_sent : Policy → List Stored → Asked → ℕ → ℕ → Bool
stale_serial_may_be_sent policy es asked now serial =
    is_some_and (λ (e : Stored). may_be_sent_while_revalidating policy e (occurrences_of asked.fields) now)
    (find_entry_of_serial serial es)

-- what is missing can't be sent
abbrev pub serial_sent_while_awaited : Policy → List Stored → Asked → ℕ → Option Awaited → Option ℕ
serial_sent_while_awaited policy es asked now None = None
serial_sent_while_awaited policy es asked now (Some Missing) = None
serial_sent_while_awaited policy es asked now (Some (Expired serial)) =
    cond (stale_serial_may_be_sent policy es asked now serial) (Some serial) None

-- own: just where the request would wait, so no request goes forward for which no client waits
abbrev pub serial_sent_while_revalidating : Policy → List Stored → Asked → ℕ → Option Awaited → Option ℕ → Option ℕ
serial_sent_while_revalidating policy es asked now awaited None = None
serial_sent_while_revalidating policy es asked now awaited (Some leader) =
    serial_sent_while_awaited policy es asked now awaited

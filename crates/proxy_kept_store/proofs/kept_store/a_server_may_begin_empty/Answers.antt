use Rattle.std.proofs.Common.{List, sym, subst}
use Rattle.hx_store.specs.Stored.{Stored}
use Rattle.proxy_core.proofs.Beginning.{nothing_stands}
use Rattle.proxy_core.specs.State.{bounds_of}
use Rattle.proxy_engine.specs.Beginnings.{ResponsesMayBeHeldAtStart}
use Rattle.proxy_kept_store.proofs.kept_store.a_server_may_begin_empty.Goals as goal

pub returns : goal.returns
returns c = λ table held first empty.
    subst (λ (es : List Stored). ResponsesMayBeHeldAtStart table es first) (sym empty) (nothing_stands (bounds_of table table.capacity) first)

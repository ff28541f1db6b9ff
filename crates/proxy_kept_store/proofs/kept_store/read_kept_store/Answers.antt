use Rattle.std.proofs.Common.{ℕ, Option, IfOk, Ok, subst}
use Rattle.std.proofs.lemmas.Result.{IfOk-weaker}
use Rattle.proxy_store_file.specs.Stores.{read_store}
use Rattle.proxy_store_file.specs.Streams.{ReaderGaveReading, bounds_of, store_contents_of}
use Rattle.proxy_kept_store.proofs.Keeping.{may_begin}
use Rattle.proxy_kept_store.proofs.kept_store.read_kept_store.Goals as goal

pub returns-clause-may : goal.returns-clause-may
returns-clause-may g c =
    let ReadWithin : ℕ → Option ℕ → Type 0 = λ entries bytes.
    IfOk c.read_store.result (λ next. ReaderGaveReading (read_store (bounds_of entries bytes)) (g.R.Read.remaining c.args.reader.now)
    (g.R.Read.remaining c.read_store.new.reader) (Ok (store_contents_of (g.S.Shelf.entries c.read_store.new.shelf) next))) in
    IfOk-weaker c.read_store.result _ _
    (λ next read. may_begin c.args.config.now (g.S.Shelf.entries c.read_store.new.shelf) next _ _ c.read_stores_are_valid.ensures read)
    (subst (λ (bytes : Option ℕ). ReadWithin c.args.config.now.capacity bytes) c.max_store.ensures.bytes
    (subst (λ (entries : ℕ). ReadWithin entries c.max_store.result) c.requires.capacity c.read_store.ensures.ok))

use Rattle.std.proofs.Common.{◌≡◌, ◌+◌, length}
use Rattle.proxy_store_file.specs.Streams.{ReaderGaveBytes}
use Rattle.proxy_store_file.proofs.pieces.read_bytes.Given as goal

-- the bytes are what the reader gave
abbrev pub invariant-reads : goal.invariant-reads
invariant-reads g l = record {
  whole : length l.bytes.items + l.left ≡ l.n;
  given : ReaderGaveBytes (g.R.Read.remaining l.fn.reader) (g.R.Read.remaining l.reader) l.fn.hasher l.hasher l.bytes.items;
}

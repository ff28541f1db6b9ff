use Rattle.std.proofs.Common.{take, ◌∙◌}
use Rattle.proxy_store_file.proofs.Written.{front_taken, on_err}
use Rattle.proxy_store_file.proofs.pieces_written.put_and_hash.Goals as goal

pub returns-clause-err : goal.returns-clause-err
returns-clause-err g c = on_err c.put.result _ _ (λ k. front_taken _ _ c.args.bytes.now k.0 k.1) c.put.ensures.err

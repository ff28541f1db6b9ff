use Rattle.std.proofs.Common.{subst, IfSome}
use Rattle.proxy_files.specs.TableFiles.{IsWholeOrTooLong}
use Rattle.proxy_files.proofs.Reading.{read_start}
use Rattle.proxy_files.proofs.files.read_most.Goals as goal

pub returns : goal.returns
returns g c =
    let text = c.read_to_end.new.buf.items in
    subst (λ file. IfSome (g.F.Read.remaining file) (IsWholeOrTooLong text)) c.take-front.ensures.inner
    (read_start (g.F.Read.remaining c.take-front.result.inner) c.take-front.result.limit c.new-text.result.items text c.take-front.ensures.limit c.new-text.ensures.items c.in_ok-read_to_end.ensures.bytes)

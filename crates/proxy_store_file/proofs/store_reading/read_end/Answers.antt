use Rattle.std.proofs.Common.{◌≡◌, ◌<◌, ◌^◌, ap, sym, ◌∙◌, Ok, Err, arith}
use Rattle.proxy_store_file.proofs.ReadingSteps.{digest_is_refused, more_follows, end_is_read, end_isnt_seen, memory_at_the_end}
use Rattle.proxy_store_file.proofs.store_reading.read_end.Goals as goal
use Rattle.proxy_store_file.proofs.store_reading.read_end.Goals.{in-Ok-read_bytes, in-Err-Ended, in-Err-Failed, in-Err-OutOfMemory}

pub returns-then-written-digest-clause-fault : goal.returns-then-written-digest-clause-fault
returns-then-written-digest-clause-fault g c = λ entries long.
    let fits : c.finish-digest.result < 2 ^ 64 = omega arith in
    digest_is_refused entries _ _ _ _ c.in-Ok.written c.finish-digest.result c.in-Ok.ensures.ok c.finish-digest.ensures fits c.if-written-digest.true

pub returns-clause-ok : goal.returns-clause-ok
returns-clause-ok g c =
    let same : c.in-Ok.written ≡ c.finish-digest.result = c.if-written-digest.false in
    elim c.match-read_bytes.branch [
      | in-Ok-read_bytes w ↦ rw w.result-is tt
      | in-Err-Ended w ↦
          let stop = rw w.in-Err-Ended.field-0-is at w.in-Err-Ended.ensures.stop in
          rw w.result-is (λ entries long. end_is_read entries _ _ _ _ _ c.in-Ok.written c.finish-digest.result c.in-Ok.ensures.ok c.finish-digest.ensures same stop)
      | in-Err-Failed w ↦ rw w.result-is tt
      | in-Err-OutOfMemory w ↦ rw w.result-is tt
    ]

pub returns-clause-fault : goal.returns-clause-fault
returns-clause-fault g c =
    let same : c.in-Ok.written ≡ c.finish-digest.result = c.if-written-digest.false in
    elim c.match-read_bytes.branch [
      | in-Ok-read_bytes w ↦ rw w.result-is (λ entries long. more_follows entries _ _ _ _ _ _ c.in-Ok.written c.finish-digest.result _ c.in-Ok.ensures.ok c.finish-digest.ensures same
          w.in-Ok-read_bytes.ensures.ok w.in-Ok-read_bytes.ensures.all)
      | in-Err-Ended w ↦ rw w.result-is tt
      | in-Err-Failed w ↦
          let stop = rw w.in-Err-Failed.field-0-is at w.in-Err-Failed.ensures.stop in
          rw w.result-is (λ entries long. end_isnt_seen entries _ _ _ _ _ c.in-Ok.written c.finish-digest.result c.in-Ok.ensures.ok c.finish-digest.ensures same stop)
      | in-Err-OutOfMemory w ↦
          let stop = rw w.in-Err-OutOfMemory.field-0-is at w.in-Err-OutOfMemory.ensures.stop in
          rw w.result-is (λ entries long. memory_at_the_end entries _ _ _ _ _ c.in-Ok.written c.finish-digest.result c.in-Ok.ensures.ok c.finish-digest.ensures same stop)
    ]

use Rattle.std.proofs.Common.{◌≡◌, ◌<◌, ◌≤◌, ap, sym, subst, ◌∙◌, Some, arith}
use Rattle.hx_store.specs.Stored.{Stored}
use Rattle.proxy_store_file.specs.Heads.{head_spelled_in}
use Rattle.proxy_store_file.specs.Streams.{EntryIsRead, reading_of_entry}
use Rattle.proxy_store_file.proofs.EntrySteps.{stops_in_number, reads_too_long, stops_in_head, head_given, reads_shapeless, memory_in_head, stops_in_content, memory_in_content, reads_entry}
use Rattle.proxy_store_file.proofs.entry_reading.read_entry.Goals as goal

pub returns-in-Err-clause-stop : goal.returns-in-Err-clause-stop
returns-in-Err-clause-stop g c = stops_in_number _ _ _ c.in-Err.ensures.stop

pub returns-then-n-clause-ok : goal.returns-then-n-clause-ok
returns-then-n-clause-ok g c = let long : 524288 < c.in-Ok.n = omega arith in reads_too_long _ _ _ _ c.in-Ok.n c.in-Ok.ensures.ok long

pub returns-in-Err-read_bytes-clause-stop : goal.returns-in-Err-read_bytes-clause-stop
returns-in-Err-read_bytes-clause-stop g c =
    let fits : c.in-Ok.n ≤ 524288 = omega arith in
    stops_in_head _ _ _ _ _ c.in-Ok.n _ c.in-Ok.ensures.ok fits c.in-Err-read_bytes.ensures.stop

pub returns-in-Err-Shapeless-clause-ok : goal.returns-in-Err-Shapeless-clause-ok
returns-in-Err-Shapeless-clause-ok g c =
    let fits : c.in-Ok.n ≤ 524288 = omega arith in
    let none = rw c.in-Err-Shapeless.field-0-is at c.in-Err-Shapeless.ensures.stop in
    reads_shapeless _ _ _ _ c.in-Ok-read_bytes.text.items
    (head_given _ _ _ _ _ _ c.in-Ok.n c.in-Ok-read_bytes.text.items c.in-Ok.ensures.ok fits c.in-Ok-read_bytes.ensures.ok c.in-Ok-read_bytes.ensures.all)
    (ap head_spelled_in (sym c.as_slice.ensures.value) ∙ none)

pub returns-in-Err-OutOfMemory-clause-stop : goal.returns-in-Err-OutOfMemory-clause-stop
returns-in-Err-OutOfMemory-clause-stop g c =
    let fits : c.in-Ok.n ≤ 524288 = omega arith in
    memory_in_head _ _ _ _ c.in-Ok-read_bytes.text.items
    (head_given _ _ _ _ _ _ c.in-Ok.n c.in-Ok-read_bytes.text.items c.in-Ok.ensures.ok fits c.in-Ok-read_bytes.ensures.ok c.in-Ok-read_bytes.ensures.all)

pub returns-in-Err-read_bytes-2-clause-stop : goal.returns-in-Err-read_bytes-2-clause-stop
returns-in-Err-read_bytes-2-clause-stop g c =
    let fits : c.in-Ok.n ≤ 524288 = omega arith in
    stops_in_content _ _ _ _ _ c.in-Ok-read_bytes.text.items c.in-Ok-head_spelled_in.head _
    (head_given _ _ _ _ _ _ c.in-Ok.n c.in-Ok-read_bytes.text.items c.in-Ok.ensures.ok fits c.in-Ok-read_bytes.ensures.ok c.in-Ok-read_bytes.ensures.all)
    (ap head_spelled_in (sym c.as_slice.ensures.value) ∙ c.in-Ok-head_spelled_in.ensures.ok) c.in-Err-read_bytes-2.ensures.stop

pub returns-in-Ok-into_entry_with_content-clause-ok : goal.returns-in-Ok-into_entry_with_content-clause-ok
returns-in-Ok-into_entry_with_content-clause-ok g c =
    let fits : c.in-Ok.n ≤ 524288 = omega arith in
    let P : Stored → Type 0 = λ e. EntryIsRead (g.R.Read.remaining c.args.reader.now) (g.R.Read.remaining c.read_bytes-2.new.reader) c.args.hasher.now c.read_bytes-2.new.hasher (reading_of_entry (Some e)) in
    subst P (sym c.in-Ok-into_entry_with_content.ensures)
    (reads_entry _ _ _ _ _ _ c.in-Ok-read_bytes.text.items c.in-Ok-read_bytes-2.content.items c.in-Ok-head_spelled_in.head
    (head_given _ _ _ _ _ _ c.in-Ok.n c.in-Ok-read_bytes.text.items c.in-Ok.ensures.ok fits c.in-Ok-read_bytes.ensures.ok c.in-Ok-read_bytes.ensures.all)
    (ap head_spelled_in (sym c.as_slice.ensures.value) ∙ c.in-Ok-head_spelled_in.ensures.ok) c.in-Ok-read_bytes-2.ensures.ok c.in-Ok-read_bytes-2.ensures.all)

pub returns-clause-stop : goal.returns-clause-stop
returns-clause-stop g c =
    let fits : c.in-Ok.n ≤ 524288 = omega arith in
    memory_in_content _ _ _ _ _ _ c.in-Ok-read_bytes.text.items c.in-Ok-read_bytes-2.content.items
    (head_given _ _ _ _ _ _ c.in-Ok.n c.in-Ok-read_bytes.text.items c.in-Ok.ensures.ok fits c.in-Ok-read_bytes.ensures.ok c.in-Ok-read_bytes.ensures.all)
    c.in-Ok-read_bytes-2.ensures.ok

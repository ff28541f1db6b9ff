use Rattle.std.proofs.Common.{ℕ, ◌≤◌, ◌-◌, length, arith, rules, ap, ◌∙◌, Err, take, min}
use Rattle.std.specs.declared.vec.Vec.{Vec}
use Rattle.std.specs.declared.alloc.Global.{Global}
use Rattle.std.proofs.KnownBytes.{Consumes-trans}
use Rattle.std.proofs.lemmas.Grind.{common_steps}
use Rattle.std.proofs.lemmas.List.{length-take}
use Rattle.std.proofs.lemmas.Result.{err_from_is_err_and}
use Rattle.proxy_store_file.proofs.Given.{gave_nothing, gave_taken, gave_kept, taken_more, stops_for_memory}
use Rattle.proxy_store_file.proofs.pieces.read_bytes.Goals as goal
use Rattle.proxy_store_file.proofs.pieces.read_bytes.Goals.{in-Ok+in_ok-extend_from_slice-in-Ok, in-Err+else-ne}

pub reads-init : goal.reads-init
reads-init g c = record {
  whole = omega (arith, ap length c.in_ok-bytes.ensures.items);
  given = gave_nothing _ _ _ c.in_ok-bytes.ensures.items;
}

pub reads-preserved : goal.reads-preserved
reads-preserved g c =
    elim c.match-read.branch [
      | in-Ok+in_ok-extend_from_slice-in-Ok w ↦
          let room : length c.read.new.buf ≤ c.reads.left = first_of (omega (arith, length-take {A = ℕ}, c.read.auto.buf), grind (arith, length-take {A = ℕ}, common_steps), search rules) in
          record {
            whole = taken_more c.reads.bytes.items _ c.read.new.buf w.in-Ok.k _ c.reads.left _ _ (ap (λ (v : Vec ℕ Global). v.items) w.bytes-is ∙ w.in_ok-extend_from_slice-in-Ok.ensures.items) (omega arith) w.in-Ok.ensures.bound.0 room w.left-is c.reads.invariant.whole;
            given = gave_taken _ _ _ _ c.reads.hasher _ c.reads.bytes.items _ c.read.new.buf w.in-Ok.k _ (w.hasher-is ∙ w.write.ensures) (ap (λ (v : Vec ℕ Global). v.items) w.bytes-is ∙ w.in_ok-extend_from_slice-in-Ok.ensures.items) (omega arith) c.reads.invariant.given w.in-Ok.ensures.bytes.0;
          }
      | in-Err+else-ne w ↦ record {
        whole = rw (w.bytes-is, w.left-is) c.reads.invariant.whole;
        given = gave_kept _ _ _ _ c.reads.hasher _ c.reads.bytes.items _ c.reads.invariant.given w.in-Err.ensures.bytes w.hasher-is (ap (λ (v : Vec ℕ Global). v.items) w.bytes-is);
      }
    ]

pub returns-in_err-extend_from_slice-in-Ok-clause-stop : goal.returns-in_err-extend_from_slice-in-Ok-clause-stop
returns-in_err-extend_from_slice-in-Ok-clause-stop g c =
    let p = err_from_is_err_and c.from_residual-in_err-extend_from_slice-in-Ok.result c.from_residual-in_err-extend_from_slice-in-Ok.ensures.1 in
    rw (p.1 ∙ ap (λ e. Err e) p.2) (stops_for_memory _ _ _ _ (Consumes-trans _ _ _ _ _ c.reads.invariant.given.consumes c.in-Ok.ensures.bytes.0))

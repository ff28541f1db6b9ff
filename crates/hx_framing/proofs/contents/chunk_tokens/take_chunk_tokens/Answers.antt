use Rattle.std.proofs.Common.{List, ℕ, refl, ap, length, subst, arith, length-drop}
use Rattle.hx_framing.specs.declared.contents.chunk_tokens.ChunkToken.TheVariants as token
use Rattle.hx_framing.specs.ChunkDecoder.{chunk_decoder_with_empty_line}
use Rattle.hx_framing.specs.ChunkTokens.{ChunkTokenIsTaken}
use Rattle.hx_framing.proofs.ChunkDecoding.{leads_on, decodes_more, decodes_whole, decodes_fault}
use Rattle.hx_framing.proofs.contents.chunk_tokens.take_chunk_tokens.Goals as goal

pub returns-in-Incomplete-clause-decodes : goal.returns-in-Incomplete-clause-decodes
returns-in-Incomplete-clause-decodes c =
    decodes_more (chunk_decoder_with_empty_line c.args.place.now c.args.content.now.items) c.loop-n.place c.loop-n.content.items c.next_token.new.content.items c.args.bytes.now c.loop-n.taken
    c.loop-n.invariant.inside c.loop-n.invariant.leads
    (subst (λ (l : List ℕ). ChunkTokenIsTaken c.loop-n.place c.loop-n.content.items l c.next_token.new.content.items token.Incomplete) c.bytes_from_index.ensures c.in-Incomplete.ensures.takes)

pub loop-n-preserved : goal.loop-n-preserved
loop-n-preserved c =
    let took = subst (λ (l : List ℕ). ChunkTokenIsTaken c.loop-n.place c.loop-n.content.items l c.next_token.new.content.items (token.Whole c.in-Whole.n c.in-Whole.next)) c.bytes_from_index.ensures c.in-Whole.ensures.takes in
    let long = length-drop c.loop-n.taken c.args.bytes.now in
    record {
      inside = omega (arith, c.loop-n.invariant.inside, took.0, long);
      need = took.2;
      searched = omega arith;
      none = refl;
      room = omega (arith, c.in-Whole.ensures.room, ap length c.bytes_from_index.ensures, long);
      leads = leads_on c.args.bytes.now c.loop-n.taken c.in-Whole.n (chunk_decoder_with_empty_line c.args.place.now c.args.content.now.items) (chunk_decoder_with_empty_line c.loop-n.place c.loop-n.content.items)
          (chunk_decoder_with_empty_line c.in-Whole.next c.next_token.new.content.items) c.loop-n.invariant.leads took.3;
    }

pub returns-in-Last-clause-decodes : goal.returns-in-Last-clause-decodes
returns-in-Last-clause-decodes c =
    decodes_whole (chunk_decoder_with_empty_line c.args.place.now c.args.content.now.items) c.loop-n.place c.loop-n.content.items c.next_token.new.content.items c.args.bytes.now c.loop-n.taken c.in-Last.n
    c.loop-n.invariant.inside c.loop-n.invariant.leads
    (subst (λ (l : List ℕ). ChunkTokenIsTaken c.loop-n.place c.loop-n.content.items l c.next_token.new.content.items (token.Last c.in-Last.n)) c.bytes_from_index.ensures c.in-Last.ensures.takes)

pub returns-in-Faulty-clause-decodes : goal.returns-in-Faulty-clause-decodes
returns-in-Faulty-clause-decodes c =
    decodes_fault (chunk_decoder_with_empty_line c.args.place.now c.args.content.now.items) c.loop-n.place c.loop-n.place c.loop-n.content.items c.next_token.new.content.items c.args.bytes.now c.loop-n.taken c.in-Faulty.fault
    c.loop-n.invariant.leads
    (subst (λ (l : List ℕ). ChunkTokenIsTaken c.loop-n.place c.loop-n.content.items l c.next_token.new.content.items (token.Faulty c.in-Faulty.fault)) c.bytes_from_index.ensures c.in-Faulty.ensures.takes)

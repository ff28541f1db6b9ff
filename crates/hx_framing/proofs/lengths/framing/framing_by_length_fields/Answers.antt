use Rattle.std.proofs.Common.{sym, ap, ◌∙◌}
use Rattle.hx_framing.specs.Lengths.{framing_of_codings}
use Rattle.hx_framing.proofs.FramingLemmas.{lengths-uncoded, at_found, at_none}
use Rattle.hx_framing.proofs.lengths.framing.framing_by_length_fields.Goals as goal

pub returns-in-Some : goal.returns-in-Some
returns-in-Some c =
    sym (at_found _ _ _ c.in-Some.judged c.in-Some.ensures (lengths-uncoded c.args.max_body c.args.minor c.args.neither c.args.must_end c.args.fields.now))

pub returns-in_ok-codings-in-None : goal.returns-in_ok-codings-in-None
returns-in_ok-codings-in-None c =
    c.framing_of_codings.ensures ∙ ap (framing_of_codings c.args.must_end) (c.as_slice.ensures ∙ c.in_ok-codings-in-None.ensures)
    ∙ sym (at_none _ _ _ c.in-None.ensures (lengths-uncoded c.args.max_body c.args.minor c.args.neither c.args.must_end c.args.fields.now))

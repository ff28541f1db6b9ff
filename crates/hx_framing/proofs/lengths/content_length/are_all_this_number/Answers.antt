use Rattle.std.proofs.Common.{rules, tests}
use Rattle.std.proofs.lemmas.Iterator.Search.{all_from_yields_List}
use Rattle.std.proofs.lemmas.Iterator.Splits.{YieldsList-from_slice_split}
use Rattle.hx_framing.specs.ContentLength.{is_text_of_same_number}
use Rattle.hx_framing.proofs.lengths.content_length.are_all_this_number.Goals as goal

pub returns : goal.returns
returns c =
    all_from_yields_List (is_text_of_same_number c.args.digits.now) _ _ _ c.all.ensures.ran
    (YieldsList-from_slice_split _ _ c.args.value.now c.split.ensures.rest c.split.ensures.done c.split.ensures.closure (λ x r q k. search (rules, tests)))
    (λ x b q k. search (rules, tests))

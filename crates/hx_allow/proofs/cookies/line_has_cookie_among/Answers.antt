use Rattle.std.proofs.Common.{rules, tests}
use Rattle.std.proofs.lemmas.Iterator.Search.{any_from_yields_List}
use Rattle.std.proofs.lemmas.Iterator.Splits.{YieldsList-from_slice_split}
use Rattle.hx_allow.specs.Cookies.{is_cookie_among}
use Rattle.hx_allow.proofs.cookies.line_has_cookie_among.Goals as goal

pub returns : goal.returns
returns c =
    any_from_yields_List (is_cookie_among c.args.names.now) _ _ _ c.any.ensures.ran
    (YieldsList-from_slice_split _ _ c.args.value.now c.split.ensures.rest c.split.ensures.done c.split.ensures.closure (λ x r q k. search (rules, tests)))
    (λ x b q k. search (rules, tests))

use Rattle.std.proofs.Common.{rules, ◌≡◌, ◌++◌, ◌∷◌, [], length, drop, codes, filter, sym, ap, ◌∙◌}
use Rattle.std.proofs.Math.ListN.{drop_of_length-le}
use Rattle.std.proofs.lemmas.List.{append-nil}
use Rattle.hx_fields.specs.Examples.{line}
use Rattle.hx_validate.specs.Ranges.{unsatisfied_text, is_field_of_416}
use Rattle.hx_validate.proofs.ranges.unsatisfiable_range_fields.Goals as goal

pub returns : goal.returns
returns c =
    let fields = c.args.entry.now.fields in
    let total = length c.args.entry.now.content in
    let items = c.as_slice-line-items.result.now in
    let told : c.as_slice.result.now ≡ unsatisfied_text total = search rules in
    let same : items ≡ fields = search rules in
    let ended : drop c.loop-line.line-index items ≡ [] = drop_of_length-le items c.loop-line-test.false in
    let taken : c.loop-line.carried ≡ filter is_field_of_416 fields =
    sym (append-nil c.loop-line.carried) ∙ ap (λ ls. c.loop-line.carried ++ filter is_field_of_416 ls) (sym ended) ∙ c.loop-line.invariant
    ∙ ap (filter is_field_of_416) same in
    c.in_ok-push-2.ensures.ok ∙ ap (λ t. c.loop-line.carried ++ line (codes "Content-Range") t ∷ []) told
    ∙ ap (λ ls. ls ++ line (codes "Content-Range") (unsatisfied_text total) ∷ []) taken

use Rattle.std.proofs.Common.{rules, ◌≡◌, ◌+◌, ◌++◌, Bool, true, false, ◌||◌, cond, [], ◌∷◌, take, refl, ap, sym, ◌∙◌}
use Rattle.std.specs.Prelude.{bytes_eq}
use Rattle.std.specs.List.{list_any}
use Rattle.std.specs.BTreeMap.{is_at}
use Rattle.std.specs.BTreeSet.{contains}
use Rattle.std.proofs.lemmas.List.{take_all, take_more}
use Rattle.std.proofs.lemmas.List.Folds.{list_any-append}
use Rattle.hx_fields.specs.Folded.{folded, folded_names_cmp, folded_cmp_ties_are_equal}
use Rattle.hx_fields.specs.Line.{Field}
use Rattle.hx_validate.proofs.freshening.line_names.Goals as goal

one_more : (s b : Bool) → cond b true s ≡ (s || (b || false))
one_more true true = refl
one_more true false = refl
one_more false true = refl
one_more false false = refl

pub loop-line-preserved : goal.loop-line-preserved
loop-line-preserved c = λ q.
    let lines = c.args.lines.now in
    let done = take c.loop-line.line-index lines in
    let line = c.line-item.result in
    let named : Field → Bool = λ l. bytes_eq (folded l.name) q in
    let next : take (c.loop-line.line-index + 1) lines ≡ done ++ line ∷ [] = search (rules, take_more) in
    let key : c.in_ok-of.field-0 ≡ folded line.name = search rules in
    c.in_ok-insert.ensures.updates.0 q
    ∙ ap (λ b. cond b true (contains folded_names_cmp c.loop-line.names q)) (ap (λ k. is_at (folded_names_cmp k) q) key ∙ sym (folded_cmp_ties_are_equal (folded line.name) q))
    ∙ ap (λ s. cond (bytes_eq (folded line.name) q) true s) (c.loop-line.invariant q)
    ∙ one_more (list_any named done) (bytes_eq (folded line.name) q)
    ∙ sym (list_any-append named done (line ∷ []))
    ∙ ap (list_any named) (sym next)

pub returns : goal.returns
returns c = λ name.
    let all : take c.loop-line.line-index c.args.lines.now ≡ c.args.lines.now = search (rules, take_all) in
    c.loop-line.invariant (folded name) ∙ ap (list_any (λ (line : Field). bytes_eq (folded line.name) (folded name))) all

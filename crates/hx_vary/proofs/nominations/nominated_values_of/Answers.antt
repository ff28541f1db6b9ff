use Rattle.std.proofs.Common.{rules, ◌≡◌, ℕ, ◌+◌, ◌++◌, true, false, cond, List, [], ◌∷◌, take, map, ap, sym, ◌∙◌}
use Rattle.std.specs.Prelude.{bytes_eq}
use Rattle.std.specs.List.{list_any}
use Rattle.std.specs.Prelude.{Option}
use Rattle.std.specs.BTreeMap.{get, is_at}
use Rattle.std.specs.BTreeSet.{contains}
use Rattle.std.proofs.lemmas.List.{take_more}
use Rattle.hx_fields.specs.Folded.{folded, folded_names_cmp, folded_cmp_ties_are_equal}
use Rattle.std.proofs.lemmas.List.{map-append}
use Rattle.hx_vary.specs.declared.nominated_values.NominatedValue.{NominatedValue}
use Rattle.hx_vary.specs.Vary.{names_without_repeats, nominated_value}
use Rattle.hx_vary.proofs.OnceLemmas.{kept_more, kept_same, seen_more, seen_same}
use Rattle.hx_vary.proofs.nominations.nominated_values_of.Goals as goal
use Rattle.hx_vary.proofs.nominations.nominated_values_of.Goals.{then-not-contains+in_ok-of+in_ok-push+in_ok-of-2+in_ok-insert, else-not-contains}

pub loop-name-preserved : goal.loop-name-preserved
loop-name-preserved c =
    let names = c.args.names.now in
    let request = c.args.request.now in
    let done = take c.loop-name.name-index names in
    let name = c.name-item.result in
    let next : take (c.loop-name.name-index + 1) names ≡ done ++ name ∷ [] = search (rules, take_more) in
    let key : c.set.new.self ≡ folded name = search rules in
    let asked : c.contains.result ≡ contains folded_names_cmp c.loop-name.seen (folded name) = search rules in
    elim c.if-not-contains.branch [
      | then-not-contains+in_ok-of+in_ok-push+in_ok-of-2+in_ok-insert w ↦ (
          let new : contains folded_names_cmp c.loop-name.seen (folded name) ≡ false = search rules in
          let put : w.in_ok-of-2.field-0 ≡ folded name = search rules in
          let with : Option (List ℕ) → NominatedValue = λ o. record { name = name; value = o } in
          let its : w.in_ok-of.field-0 ≡ nominated_value request name =
          w.in_ok-of.ensures ∙ ap with (w.value.ensures ∙ ap (get folded_names_cmp c.in_ok-asked.asked.values) key ∙ c.in_ok-asked.ensures.values name) in
          let pushed : c.if-not-contains.kept.items ≡ c.loop-name.kept.items ++ nominated_value request name ∷ [] =
          ap (λ k. k.items) w.kept-is ∙ w.in_ok-push.ensures.items ∙ ap (λ k. c.loop-name.kept.items ++ k ∷ []) its in
          let absent = sym (c.loop-name.invariant.seen (folded name)) ∙ new in
          record {
            kept = pushed ∙ ap (λ z. z ++ nominated_value request name ∷ []) c.loop-name.invariant.kept
                ∙ sym (map-append (nominated_value request) (names_without_repeats done) (name ∷ []))
                ∙ ap (map (nominated_value request)) (sym (kept_more done name absent) ∙ ap names_without_repeats (sym next));
            seen = λ q. ap (λ s. contains folded_names_cmp s q) w.seen-is ∙ w.in_ok-insert.ensures.updates.0 q
                ∙ ap (λ b. cond b true (contains folded_names_cmp c.loop-name.seen q))
                (ap (λ k. is_at (folded_names_cmp k) q) put ∙ sym (folded_cmp_ties_are_equal (folded name) q))
                ∙ ap (cond (bytes_eq (folded name) q) true) (c.loop-name.invariant.seen q)
                ∙ sym (seen_more done name q)
                ∙ ap (list_any (λ (n : List ℕ). bytes_eq (folded n) q)) (sym next);
          }
          )
      | else-not-contains w ↦ (
          let old : contains folded_names_cmp c.loop-name.seen (folded name) ≡ true = search rules in
          let same : c.if-not-contains.kept.items ≡ c.loop-name.kept.items = search rules in
          let seen : c.if-not-contains.seen ≡ c.loop-name.seen = search rules in
          record {
            kept = same ∙ c.loop-name.invariant.kept
                ∙ ap (λ z. map (nominated_value request) z) (sym (kept_same done name (sym (c.loop-name.invariant.seen (folded name)) ∙ old)) ∙ ap names_without_repeats (sym next));
            seen = λ q. ap (λ s. contains folded_names_cmp s q) seen ∙ c.loop-name.invariant.seen q
                ∙ sym (seen_same done name q (sym (c.loop-name.invariant.seen (folded name)) ∙ old))
                ∙ ap (list_any (λ (n : List ℕ). bytes_eq (folded n) q)) (sym next);
          }
          )
    ]

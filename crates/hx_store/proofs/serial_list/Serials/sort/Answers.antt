use Rattle.std.proofs.Common.{◌≡◌, ◌++◌, ap, ◌∙◌, sym, subst, length, drop, take, List, ℕ}
use Rattle.std.specs.List.Sorted.{IsPermutation}
use Rattle.std.proofs.lemmas.List.Sorted.{IsNonDecreasingBy-from_sort}
use Rattle.std.proofs.Math.Seq.{take-append_seam}
use Rattle.hx_store.specs.Serials.{ascending}
use Rattle.hx_store.proofs.PassingEntries.{sorted}
use Rattle.hx_store.proofs.serial_list.Serials.sort.Goals as goal

-- what was written takes all places
all_written : (xs ws : List ℕ) → length ws ≡ length xs → take (length xs) (ws ++ drop (length ws) xs) ≡ ws
all_written xs ws same = ap (λ n. take n (ws ++ drop (length ws) xs)) (sym same) ∙ take-append_seam ws (drop (length ws) xs)

pub returns : goal.returns
returns c =
    let xs = c.self.inside.serials.items in
    let ys = c.sort_unstable.new.self in
    let same : length ys ≡ length xs = c.sort_unstable.ensures.len ∙ ap length c.as_mut_slice.ensures.value in
    let moved : IsPermutation xs ys = subst (λ zs. IsPermutation zs ys) c.as_mut_slice.ensures.value c.sort_unstable.ensures.permutation in
    all_written xs ys same ∙ sorted xs ys moved (IsNonDecreasingBy-from_sort (λ (x : ℕ). x) ys c.sort_unstable.ensures.sorted) ∙ ap ascending c.self.view_is

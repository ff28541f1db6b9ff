-- Bytes that wait to be read.
use Rattle.std.proofs.Common.{◌≡◌, ℕ, ◌≤◌, List, ◌++◌, true, length, drop, take, sym, ap, ◌∙◌, subst, arith, length-append}
use Rattle.std.proofs.lemmas.List.{drop-append-le, take-append-le}
use Rattle.hx_framing.specs.declared.heads.head_end.HeadSearch.{HeadSearch}
use Rattle.hx_framing.specs.ChunkGrammar.{has_no_lf}
use Rattle.hx_framing.specs.HeadEnd.{most_head_bytes}
use Rattle.hx_framing.specs.Searching.{NoHeadEndsBeforeSearch}
use Rattle.hx_framing.proofs.HeadSearches.{reaches_fed}

-- a piece stands behind them
pub searched_fed : (bytes piece all : List ℕ) (taken : ℕ) (s : HeadSearch) → taken ≤ length bytes → all ≡ bytes ++ piece
    → NoHeadEndsBeforeSearch (take most_head_bytes (drop taken bytes)) s → NoHeadEndsBeforeSearch (take most_head_bytes (drop taken all)) s
searched_fed bytes piece all taken s within is r =
    subst (λ (u : List ℕ). NoHeadEndsBeforeSearch (take most_head_bytes u) s) (sym (ap (drop taken) is ∙ drop-append-le taken bytes piece within))
    (reaches_fed most_head_bytes (drop taken bytes) piece s r)

-- what is known of the front stays so
pub front_fed : (bytes piece all : List ℕ) (taken line : ℕ) → taken ≤ length bytes → all ≡ bytes ++ piece → line ≤ length (drop taken bytes)
    → (line ≤ length (drop taken all)) × (has_no_lf (take line (drop taken bytes)) ≡ true → has_no_lf (take line (drop taken all)) ≡ true)
front_fed bytes piece all taken line within is fits =
    let rest : drop taken all ≡ drop taken bytes ++ piece = ap (drop taken) is ∙ drop-append-le taken bytes piece within in (
      omega (arith, ap length rest, length-append (drop taken bytes) piece),
      λ none. ap (λ u. has_no_lf (take line u)) rest ∙ ap has_no_lf (take-append-le line (drop taken bytes) piece fits) ∙ none,
    )

-- How far a search for the end of a head has come, and what it finds.
use Rattle.std.specs.Prelude.{◌≡◌, ℕ, ◌+◌, ◌≤◌, ◌++◌, true, false, List, Some, None, length, drop}
use Rattle.hx_framing.specs.declared.heads.head_end.HeadSearch.{HeadSearch}
use Rattle.hx_framing.specs.declared.heads.head_end.HeadSearchResult.{HeadSearchResult}
use Rattle.hx_framing.specs.declared.heads.head_end.HeadSearchResult.TheVariants as searched
use Rattle.hx_framing.specs.HeadEnd.{empty_lines_end_from, empty_lines_length, head_end_from, head_length}

-- no end of a head lies where the search has been: whatever bytes follow, it is found by going on from there
pub record NoHeadEndsBeforeSearch (bytes : List ℕ) (search : HeadSearch) : Type 0 where
  pub within : search.at ≤ length bytes
  pub empty_lines : search.is_past_empty_lines ≡ false → (more : List ℕ)
      → empty_lines_length (bytes ++ more) ≡ empty_lines_end_from search.at (drop search.at (bytes ++ more))
  pub room : search.is_past_empty_lines ≡ true → search.at + 2 ≤ length bytes
  pub lines : search.is_past_empty_lines ≡ true → (more : List ℕ)
      → head_length (bytes ++ more) ≡ head_end_from search.at (drop search.at (bytes ++ more))

abbrev pub IsHeadSearchResult : List ℕ → HeadSearchResult → Type 0
IsHeadSearchResult bytes (searched.Ended n) = head_length bytes ≡ Some n
IsHeadSearchResult bytes (searched.Open search) = (head_length bytes ≡ None) × NoHeadEndsBeforeSearch bytes search

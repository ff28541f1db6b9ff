-- No two reasons with their details share a place: each stands in the list of all at its own.
use Rattle.std.proofs.Common.{◌≡◌, ℕ, ◌+◌, ◌*◌, ◌<◌, Some, refl, sym, ap, ◌∙◌, arith, List}
use Rattle.std.specs.Prelude.{slice_get, unwrap_or}
use Rattle.proxy_figures.specs.Counted.{EachReasonIsListedAtItsRow, EachDetailIsListedAtItsColumn, ReplyPlacesDiffer}
use Rattle.proxy_figures.specs.ReplyCounts.{reason_row, detail_column}
use Rattle.proxy_figures.specs.declared.sorts.TheConstants.{ALL_DETAILS, ALL_REASONS, DETAIL_COUNT}
use Rattle.proxy_figures.specs.declared.sorts.Detail.{Detail}
use Rattle.proxy_figures.specs.declared.sorts.Detail.TheVariants as detail
use Rattle.proxy_figures.specs.declared.sorts.Reason.{Reason}
use Rattle.proxy_figures.specs.declared.sorts.Reason.TheVariants as reason

pub reason_at : EachReasonIsListedAtItsRow
reason_at reason.Hit = refl
reason_at reason.UriMiss = refl
reason_at reason.VaryMiss = refl
reason_at reason.Stale = refl
reason_at reason.Request = refl
reason_at reason.Method = refl
reason_at reason.Bypass = refl
reason_at reason.Denied = refl
reason_at reason.OnlyIfCached = refl
reason_at reason.OriginFailed = refl
reason_at reason.Refused = refl
reason_at reason.Purged = refl

pub detail_at : EachDetailIsListedAtItsColumn
detail_at detail.Nothing = refl
detail_at detail.Operator = refl
detail_at detail.Content = refl
detail_at detail.Range = refl
detail_at detail.Precondition = refl
detail_at detail.ResponseNoCache = refl
detail_at detail.MustRevalidate = refl
detail_at detail.NoLifetime = refl
detail_at detail.NoCache = refl
detail_at detail.MaxStale = refl
detail_at detail.MaxAge = refl
detail_at detail.MinFresh = refl
detail_at detail.StaleIfError = refl
detail_at detail.ReuseAfterError = refl
detail_at detail.ReuseAfter304 = refl
detail_at detail.StaleWhileRevalidate = refl
detail_at detail.SessionCookie = refl
detail_at detail.Other = refl

-- the column of a detail is less than the width of a row
pub column_within : (d : Detail) → detail_column d < DETAIL_COUNT
column_within detail.Nothing = omega arith
column_within detail.Operator = omega arith
column_within detail.Content = omega arith
column_within detail.Range = omega arith
column_within detail.Precondition = omega arith
column_within detail.ResponseNoCache = omega arith
column_within detail.MustRevalidate = omega arith
column_within detail.NoLifetime = omega arith
column_within detail.NoCache = omega arith
column_within detail.MaxStale = omega arith
column_within detail.MaxAge = omega arith
column_within detail.MinFresh = omega arith
column_within detail.StaleIfError = omega arith
column_within detail.ReuseAfterError = omega arith
column_within detail.ReuseAfter304 = omega arith
column_within detail.StaleWhileRevalidate = omega arith
column_within detail.SessionCookie = omega arith
column_within detail.Other = omega arith

-- what stands at one place of a list is one
same_at : {A : Type 0} (xs : List A) (a b : A) (i j : ℕ) → slice_get xs i ≡ Some a → slice_get xs j ≡ Some b → i ≡ j → a ≡ b
same_at xs a b i j first second same =
    ap (λ o. unwrap_or o a) (sym first ∙ ap (slice_get xs) same ∙ second)

-- a row and a column are told by a place
row_of_place : (r s c d : ℕ) → c < 18 → d < 18 → 18 * r + c ≡ 18 * s + d → r ≡ s
row_of_place r s c d first second same = omega (arith, first, second, same)

column_of_place : (r s c d : ℕ) → c < 18 → d < 18 → 18 * r + c ≡ 18 * s + d → c ≡ d
column_of_place r s c d first second same = omega (arith, first, second, same)

pub replies_differ : ReplyPlacesDiffer
replies_differ r s c d same = (
  same_at ALL_REASONS.now r s (reason_row r) (reason_row s) (reason_at r) (reason_at s)
      (row_of_place (reason_row r) (reason_row s) (detail_column c) (detail_column d) (column_within c) (column_within d) same),
  same_at ALL_DETAILS.now c d (detail_column c) (detail_column d) (detail_at c) (detail_at d)
      (column_of_place (reason_row r) (reason_row s) (detail_column c) (detail_column d) (column_within c) (column_within d) same),
)

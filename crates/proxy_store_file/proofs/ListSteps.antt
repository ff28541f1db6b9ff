-- One more of a list is read.
use Rattle.std.proofs.Common.{◌≡◌, ℕ, suc, ◌+◌, ◌-◌, ◌<◌, List, [], ◌∷◌, ◌++◌, ap, sym, ◌∙◌, Option, None, Some, arith}
use Rattle.hx_fields.specs.Line.{Field}
use Rattle.hx_vary.specs.declared.nominated_values.NominatedValue.{NominatedValue}
use Rattle.proxy_store_file.specs.declared.head_reading.HeadStop.{HeadStop}
use Rattle.proxy_store_file.specs.declared.head_reading.HeadStop.TheVariants.{Shapeless, OutOfMemory}
use Rattle.proxy_store_file.specs.HeadStops.{HeadReadFailureMatchesReading}
use Rattle.proxy_store_file.specs.Texts.{after}
use Rattle.proxy_store_file.specs.Heads.{leading_field_line, leading_field_lines_after, leading_nominated_value, leading_nominated_values_after}

pub lines_more : (read : List Field) (n i : ℕ) (bytes rest : List ℕ) (line : Field) (whole : Option (List Field × List ℕ)) (more : List Field)
    → i < n → whole ≡ leading_field_lines_after read (n - i) bytes → leading_field_line bytes ≡ Some (line, rest) → more ≡ read ++ line ∷ []
    → whole ≡ leading_field_lines_after more (n - (i + 1)) rest
lines_more read n i bytes rest line whole more less held found grown =
    let e : n - i ≡ suc (n - (i + 1)) = omega arith in
    held ∙ (ap (λ k. leading_field_lines_after read k bytes) e
    ∙ (ap (λ (o : Option (Field × List ℕ)). after o (λ l r. leading_field_lines_after (read ++ l ∷ []) (n - (i + 1)) r)) found
    ∙ ap (λ r. leading_field_lines_after r (n - (i + 1)) rest) (sym grown)))

pub values_more : (read : List NominatedValue) (n i : ℕ) (bytes rest : List ℕ) (kept : NominatedValue) (whole : Option (List NominatedValue × List ℕ)) (more : List NominatedValue)
    → i < n → whole ≡ leading_nominated_values_after read (n - i) bytes → leading_nominated_value bytes ≡ Some (kept, rest) → more ≡ read ++ kept ∷ []
    → whole ≡ leading_nominated_values_after more (n - (i + 1)) rest
values_more read n i bytes rest kept whole more less held found grown =
    let e : n - i ≡ suc (n - (i + 1)) = omega arith in
    held ∙ (ap (λ k. leading_nominated_values_after read k bytes) e
    ∙ (ap (λ (o : Option (NominatedValue × List ℕ)). after o (λ l r. leading_nominated_values_after (read ++ l ∷ []) (n - (i + 1)) r)) found
    ∙ ap (λ r. leading_nominated_values_after r (n - (i + 1)) rest) (sym grown)))

pub values_stop : (read : List NominatedValue) (n i : ℕ) (bytes : List ℕ) (whole : Option (List NominatedValue × List ℕ)) (stop : HeadStop)
    → i < n → whole ≡ leading_nominated_values_after read (n - i) bytes → HeadReadFailureMatchesReading stop (leading_nominated_value bytes) → HeadReadFailureMatchesReading stop whole
values_stop read n i bytes whole OutOfMemory less held why = tt
values_stop read n i bytes whole Shapeless less held why =
    let e : n - i ≡ suc (n - (i + 1)) = omega arith in
    held ∙ (ap (λ k. leading_nominated_values_after read k bytes) e
    ∙ ap (λ (o : Option (NominatedValue × List ℕ)). after o (λ l r. leading_nominated_values_after (read ++ l ∷ []) (n - (i + 1)) r)) why)

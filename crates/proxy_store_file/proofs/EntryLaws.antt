-- The entry at the front of bytes, read piece by piece: its length, its head, its content.
use Rattle.std.proofs.Common.{◌≡◌, ℕ, ◌<◌, ◌≤◌, List, ◌++◌, length, refl, ap, ◌∙◌, Bool, true, false, nat_le, Option, None, Some, append_assoc}
use Rattle.std.proofs.lemmas.Bool.{lt-leb, le-leb}
use Rattle.proxy_store_file.specs.declared.heads.Head.{Head}
use Rattle.proxy_store_file.specs.Texts.{is_number, number_of, cut}
use Rattle.proxy_store_file.specs.Heads.{head_spelled_in, stored_with_content}
use Rattle.proxy_store_file.specs.Parts.{most_entry_head_bytes}
use Rattle.proxy_store_file.specs.Stores.{LeadingEntryReading, Cut, Shapeless, Found, entry_reading_or_cut, found_entry_with_content, entry_read_on_after_head, entry_behind_length, leading_entry}
use Rattle.proxy_store_file.proofs.TextLaws.{cut_again}

pub cut_short : (n : ℕ) (bytes : List ℕ) → length bytes < n → cut n bytes ≡ None
cut_short n bytes few = let short : nat_le n (length bytes) ≡ false = lt-leb n (length bytes) few in rw short refl

-- what follows eight bytes
behind_eight : (eight more : List ℕ) → length eight ≡ 8 → leading_entry (eight ++ more) ≡ entry_behind_length eight more
unfolding leading_entry
behind_eight eight more n = ap (λ (o : Option (List ℕ × List ℕ)). entry_reading_or_cut o entry_behind_length) (cut_again eight more 8 n)

abbrev head_behind : List ℕ → List ℕ → LeadingEntryReading
head_behind head more = entry_read_on_after_head (head_spelled_in head) more

behind_length : (eight more : List ℕ) → is_number eight ≡ true → number_of eight ≤ most_entry_head_bytes
    → entry_behind_length eight more ≡ entry_reading_or_cut (cut (number_of eight) more) head_behind
behind_length eight more spelled fits =
    let within : nat_le (number_of eight) most_entry_head_bytes ≡ true = le-leb (number_of eight) most_entry_head_bytes fits in
    rw (spelled, within) refl

pub entry_cut : (bytes : List ℕ) → length bytes < 8 → leading_entry bytes ≡ Cut
unfolding leading_entry
entry_cut bytes few = ap (λ (o : Option (List ℕ × List ℕ)). entry_reading_or_cut o entry_behind_length) (cut_short 8 bytes few)

pub entry_too_long : (eight more : List ℕ) → length eight ≡ 8 → is_number eight ≡ true → most_entry_head_bytes < number_of eight
    → leading_entry (eight ++ more) ≡ Shapeless
entry_too_long eight more n spelled long =
    let beyond : nat_le (number_of eight) most_entry_head_bytes ≡ false = lt-leb (number_of eight) most_entry_head_bytes long in
    behind_eight eight more n ∙ rw (spelled, beyond) refl

pub head_cut : (eight bytes : List ℕ) → length eight ≡ 8 → is_number eight ≡ true → number_of eight ≤ most_entry_head_bytes
    → length bytes < number_of eight → leading_entry (eight ++ bytes) ≡ Cut
head_cut eight bytes n spelled fits few =
    behind_eight eight bytes n ∙ (behind_length eight bytes spelled fits
    ∙ ap (λ (o : Option (List ℕ × List ℕ)). entry_reading_or_cut o head_behind) (cut_short (number_of eight) bytes few))

-- what follows a head
behind_head : (eight head more : List ℕ) → length eight ≡ 8 → is_number eight ≡ true → number_of eight ≤ most_entry_head_bytes
    → length head ≡ number_of eight → leading_entry ((eight ++ head) ++ more) ≡ entry_read_on_after_head (head_spelled_in head) more
behind_head eight head more n spelled fits whole =
    ap leading_entry (append_assoc eight head more)
    ∙ (behind_eight eight (head ++ more) n ∙ (behind_length eight (head ++ more) spelled fits
    ∙ ap (λ (o : Option (List ℕ × List ℕ)). entry_reading_or_cut o head_behind) (cut_again head more (number_of eight) whole)))

pub entry_shapeless : (eight head more : List ℕ) → length eight ≡ 8 → is_number eight ≡ true → number_of eight ≤ most_entry_head_bytes
    → length head ≡ number_of eight → head_spelled_in head ≡ None → leading_entry ((eight ++ head) ++ more) ≡ Shapeless
entry_shapeless eight head more n spelled fits whole none =
    behind_head eight head more n spelled fits whole ∙ ap (λ (h : Option Head). entry_read_on_after_head h more) none

pub content_cut : (eight head bytes : List ℕ) (h : Head) → length eight ≡ 8 → is_number eight ≡ true → number_of eight ≤ most_entry_head_bytes
    → length head ≡ number_of eight → head_spelled_in head ≡ Some h → length bytes < h.content_length → leading_entry ((eight ++ head) ++ bytes) ≡ Cut
content_cut eight head bytes h n spelled fits whole found few =
    behind_head eight head bytes n spelled fits whole ∙ (ap (λ (o : Option Head). entry_read_on_after_head o bytes) found
    ∙ ap (λ (o : Option (List ℕ × List ℕ)). entry_reading_or_cut o (found_entry_with_content h)) (cut_short h.content_length bytes few))

pub entry_found : (eight head content more : List ℕ) (h : Head) → length eight ≡ 8 → is_number eight ≡ true → number_of eight ≤ most_entry_head_bytes
    → length head ≡ number_of eight → head_spelled_in head ≡ Some h → length content ≡ h.content_length
    → leading_entry (((eight ++ head) ++ content) ++ more) ≡ Found (stored_with_content h content) more
entry_found eight head content more h n spelled fits whole found all =
    ap leading_entry (append_assoc (eight ++ head) content more)
    ∙ (behind_head eight head (content ++ more) n spelled fits whole ∙ (ap (λ (o : Option Head). entry_read_on_after_head o (content ++ more)) found
    ∙ ap (λ (o : Option (List ℕ × List ℕ)). entry_reading_or_cut o (found_entry_with_content h)) (cut_again content more h.content_length all)))

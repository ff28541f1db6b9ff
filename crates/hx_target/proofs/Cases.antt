-- What hosts, ports and schemes are doesn't depend on the case of their letters.
use Rattle.std.proofs.Common.{◌≡◌, ℕ, zero, suc, ◌+◌, ◌-◌, ◌*◌, true, false, Bool, not, List, [], ◌∷◌, ◌++◌, reverse, take, drop, length, slice_index, nat_le, Some, None, refl, sym, ◌∙◌, ap, cond, ◌&&◌, ◌||◌, ◌==◌, arith}
use Rattle.std.proofs.lemmas.Bool.Decides.{nat_tests}
use Rattle.std.proofs.lemmas.List.{length-map, take-map, drop-map, map-append}
use Rattle.std.proofs.lemmas.Str.Ascii.{lowercase-lowercase}
use Rattle.std.specs.List.{list_all, list_any, prefix_len, suffix_len}
use Rattle.std.specs.Option.{option_and_then}
use Rattle.std.proofs.lemmas.Grind.{reverse_onto}
use Rattle.hx_target.proofs.TablePaths.{and_parts}
use Rattle.std.specs.Char.{to_ascii_lowercase, is_ascii_digit, digit_value}
use Rattle.std.specs.Str.Parse.{digits_value, digits_value_after}
use Rattle.http_uri.specs.ByteClasses.{index_of, index_after_last, rsplit_once_back}
use Rattle.hx_target.specs.Hosts.{lowercase, is_name_byte, is_address_byte, is_name, is_bracketed_address, is_host, host_part, host_value_text_behind_host, is_empty_or_begins_with_colon, begins_with_valid_host, number_of_few_digits, port_if_valid, port_of_text, port_of_host_value}

-- bytes that are no letters, and the classes of bytes
low_bracket : (b : ℕ) → (to_ascii_lowercase b == 91) ≡ (b == 91)
low_bracket b = grind (arith, nat_tests)

low_closing : (b : ℕ) → (to_ascii_lowercase b == 93) ≡ (b == 93)
low_closing b = grind (arith, nat_tests)

low_colon : (b : ℕ) → (to_ascii_lowercase b == 58) ≡ (b == 58)
low_colon b = grind (arith, nat_tests)

low_at_sign : (b : ℕ) → (to_ascii_lowercase b == 64) ≡ (b == 64)
low_at_sign b = grind (arith, nat_tests)

low_name_byte : (b : ℕ) → is_name_byte (to_ascii_lowercase b) ≡ is_name_byte b
low_name_byte b = grind (arith, nat_tests)

low_address_byte : (b : ℕ) → is_address_byte (to_ascii_lowercase b) ≡ is_address_byte b
low_address_byte b = grind (arith, nat_tests)

low_digit : (b : ℕ) → is_ascii_digit (to_ascii_lowercase b) ≡ is_ascii_digit b
low_digit b = grind (arith, nat_tests)

low_digit_value : (b : ℕ) → is_ascii_digit b ≡ true → to_ascii_lowercase b ≡ b
low_digit_value b h = grind (arith, nat_tests)

-- texts
low_all : (p : ℕ → Bool) → ((b : ℕ) → p (to_ascii_lowercase b) ≡ p b) → (text : List ℕ) → list_all p (lowercase text) ≡ list_all p text
low_all p each [] = refl
low_all p each (b ∷ bs) = rw (each b, low_all p each bs) refl

low_prefix : (p : ℕ → Bool) → ((b : ℕ) → p (to_ascii_lowercase b) ≡ p b) → (text : List ℕ) → prefix_len p (lowercase text) ≡ prefix_len p text
low_prefix p each [] = refl
low_prefix p each (b ∷ bs) = rw (each b, low_prefix p each bs) refl

low_at : (text : List ℕ) (i : ℕ) → slice_index (lowercase text) i ≡ to_ascii_lowercase (slice_index text i)
low_at [] i = refl
low_at (b ∷ bs) zero = refl
low_at (b ∷ bs) (suc i) = low_at bs i

low_index : (byte : ℕ) → ((b : ℕ) → (to_ascii_lowercase b == byte) ≡ (b == byte)) → (text : List ℕ) → index_of byte (lowercase text) ≡ index_of byte text
low_index byte each text = low_prefix (λ b. not (b == byte)) (λ b. ap not (each b)) text

low_reverse : (text : List ℕ) → reverse (lowercase text) ≡ lowercase (reverse text)
low_reverse [] = refl
low_reverse (b ∷ bs) =
    reverse_onto (lowercase bs) (to_ascii_lowercase b) []
    ∙ (ap (λ r. r ++ (to_ascii_lowercase b ∷ [])) (low_reverse bs)
    ∙ (sym (map-append to_ascii_lowercase (reverse bs) (b ∷ [])) ∙ ap lowercase (sym (reverse_onto bs b []))))

low_last : (byte : ℕ) → ((b : ℕ) → (to_ascii_lowercase b == byte) ≡ (b == byte)) → (text : List ℕ) → index_after_last byte (lowercase text) ≡ index_after_last byte text
low_last byte each text =
    let other : ℕ → Bool = λ b. not (b == byte) in
    ap (λ n. n - suffix_len other (lowercase text)) (length-map text to_ascii_lowercase)
    ∙ ap (λ n. length text - n) (ap (prefix_len other) (low_reverse text) ∙ low_prefix other (λ b. ap not (each b)) (reverse text))

low_cond : (t : Bool) (a b : List ℕ) → lowercase (cond t a b) ≡ cond t (lowercase a) (lowercase b)
low_cond true a b = refl
low_cond false a b = refl

low_starts : (k : ℕ) → ((b : ℕ) → (to_ascii_lowercase b == k) ≡ (b == k)) → (text : List ℕ) (i : ℕ) → (slice_index (lowercase text) i == k) ≡ (slice_index text i == k)
low_starts k each text i = ap (λ b. b == k) (low_at text i) ∙ each (slice_index text i)

pub low_host_part : (value : List ℕ) → host_part (lowercase value) ≡ lowercase (host_part value)
low_host_part value =
    let low = lowercase value in
    let t = slice_index value 0 == 91 in
    ap (λ t. cond t (take (index_of 93 low + 1) low) (take (index_of 58 low) low)) (low_starts 91 low_bracket value 0)
    ∙ (ap (λ n. cond t (take (n + 1) low) (take (index_of 58 low) low)) (low_index 93 low_closing value)
    ∙ (ap (λ n. cond t (take (index_of 93 value + 1) low) (take n low)) (low_index 58 low_colon value)
    ∙ (ap (λ a. cond t a (take (index_of 58 value) low)) (take-map to_ascii_lowercase (index_of 93 value + 1) value)
    ∙ (ap (λ b. cond t (lowercase (take (index_of 93 value + 1) value)) b) (take-map to_ascii_lowercase (index_of 58 value) value)
    ∙ sym (low_cond t (take (index_of 93 value + 1) value) (take (index_of 58 value) value))))))

low_after_host : (value : List ℕ) → host_value_text_behind_host (lowercase value) ≡ lowercase (host_value_text_behind_host value)
low_after_host value =
    ap (λ h. drop (length h) (lowercase value)) (low_host_part value)
    ∙ (ap (λ n. drop n (lowercase value)) (length-map (host_part value) to_ascii_lowercase)
    ∙ drop-map to_ascii_lowercase (length (host_part value)) value)

low_is_name : (text : List ℕ) → is_name (lowercase text) ≡ is_name text
low_is_name text =
    ap (λ n. nat_le 1 n && nat_le n 253 && list_all is_name_byte (lowercase text)) (length-map text to_ascii_lowercase)
    ∙ ap (λ t. nat_le 1 (length text) && nat_le (length text) 253 && t) (low_all is_name_byte low_name_byte text)

low_is_address : (text : List ℕ) → is_bracketed_address (lowercase text) ≡ is_bracketed_address text
low_is_address text =
    let n = length text in
    let low = lowercase text in
    ap (λ n. nat_le 4 n && nat_le n 47 && (slice_index low (n - 1) == 93) && list_all is_address_byte (drop 1 (take (n - 1) low))) (length-map text to_ascii_lowercase)
    ∙ (ap (λ t. nat_le 4 n && nat_le n 47 && t && list_all is_address_byte (drop 1 (take (n - 1) low))) (low_starts 93 low_closing text (n - 1))
    ∙ ap (λ t. nat_le 4 n && nat_le n 47 && (slice_index text (n - 1) == 93) && t)
    (ap (list_all is_address_byte) (ap (drop 1) (take-map to_ascii_lowercase (n - 1) text) ∙ drop-map to_ascii_lowercase 1 (take (n - 1) text))
    ∙ low_all is_address_byte low_address_byte (drop 1 (take (n - 1) text))))

low_is_host : (text : List ℕ) → is_host (lowercase text) ≡ is_host text
unfolding is_host
low_is_host text =
    ap (λ t. cond t (is_bracketed_address (lowercase text)) (is_name (lowercase text))) (low_starts 91 low_bracket text 0)
    ∙ (ap (λ t. cond (slice_index text 0 == 91) t (is_name (lowercase text))) (low_is_address text)
    ∙ ap (λ t. cond (slice_index text 0 == 91) (is_bracketed_address text) t) (low_is_name text))

low_is_port_part : (text : List ℕ) → is_empty_or_begins_with_colon (lowercase text) ≡ is_empty_or_begins_with_colon text
low_is_port_part text =
    ap (λ n. (n == 0) || (slice_index (lowercase text) 0 == 58)) (length-map text to_ascii_lowercase)
    ∙ ap (λ t. (length text == 0) || t) (low_starts 58 low_colon text 0)

pub low_valid : (value : List ℕ) → begins_with_valid_host (lowercase value) ≡ begins_with_valid_host value
low_valid value =
    ap (λ h. is_host h && is_empty_or_begins_with_colon (host_value_text_behind_host (lowercase value))) (low_host_part value)
    ∙ (ap (λ r. is_host (lowercase (host_part value)) && is_empty_or_begins_with_colon r) (low_after_host value)
    ∙ (ap (λ t. t && is_empty_or_begins_with_colon (lowercase (host_value_text_behind_host value))) (low_is_host (host_part value))
    ∙ ap (λ t. is_host (host_part value) && t) (low_is_port_part (host_value_text_behind_host value))))

low_digits : (n : ℕ) (text : List ℕ) → list_all is_ascii_digit text ≡ true → digits_value_after 10 n (lowercase text) ≡ digits_value_after 10 n text
low_digits n [] h = refl
low_digits n (c ∷ cs) h =
    let both = and_parts (is_ascii_digit c) (list_all is_ascii_digit cs) h in
    ap (λ d. digits_value_after 10 (n * 10 + digit_value d) (lowercase cs)) (low_digit_value c both.0) ∙ low_digits (n * 10 + digit_value c) cs both.1

low_short_number : (text : List ℕ) → number_of_few_digits (lowercase text) ≡ number_of_few_digits text
unfolding number_of_few_digits
low_short_number text =
    ap (λ n. cond (nat_le 1 n && nat_le n 5 && list_all is_ascii_digit (lowercase text)) (Some (digits_value 10 (lowercase text))) None) (length-map text to_ascii_lowercase)
    ∙ (ap (λ t. cond (nat_le 1 (length text) && nat_le (length text) 5 && t) (Some (digits_value 10 (lowercase text))) None) (low_all is_ascii_digit low_digit text)
    ∙ by_digits (list_all is_ascii_digit text) refl (nat_le 1 (length text) && nat_le (length text) 5))
  where
    by_digits : (t : Bool) → list_all is_ascii_digit text ≡ t → (u : Bool) → cond (u && t) (Some (digits_value 10 (lowercase text))) None ≡ cond (u && t) (Some (digits_value 10 text)) None
    by_digits true e true = ap Some (low_digits 0 text e)
    by_digits true e false = refl
    by_digits false e true = refl
    by_digits false e false = refl

low_port_of : (text : List ℕ) → port_of_text (lowercase text) ≡ port_of_text text
unfolding port_of_text
low_port_of text =
    ap (λ n. cond (n == 0) (Some 80) (option_and_then port_if_valid (number_of_few_digits (lowercase text)))) (length-map text to_ascii_lowercase)
    ∙ ap (λ o. cond (length text == 0) (Some 80) (option_and_then port_if_valid o)) (low_short_number text)

pub low_port_part : (value : List ℕ) → port_of_host_value (lowercase value) ≡ port_of_host_value value
low_port_part value =
    ap (λ r. port_of_text (drop 1 r)) (low_after_host value)
    ∙ (ap port_of_text (drop-map to_ascii_lowercase 1 (host_value_text_behind_host value)) ∙ low_port_of (drop 1 (host_value_text_behind_host value)))

low_low : (text : List ℕ) → lowercase (lowercase text) ≡ lowercase text
low_low [] = refl
low_low (b ∷ bs) = ap (λ c. c ∷ lowercase (lowercase bs)) (lowercase-lowercase b) ∙ ap (λ t. to_ascii_lowercase b ∷ t) (low_low bs)

pub low_named_host : (value : List ℕ) → lowercase (host_part (lowercase value)) ≡ lowercase (host_part value)
low_named_host value = ap lowercase (low_host_part value) ∙ low_low (host_part value)

pub low_after_userinfo : (text : List ℕ) → rsplit_once_back 64 (lowercase text) ≡ lowercase (rsplit_once_back 64 text)
low_after_userinfo text =
    ap (λ n. drop n (lowercase text)) (low_last 64 low_at_sign text) ∙ drop-map to_ascii_lowercase (index_after_last 64 text) text

pub low_any_at_sign : (text : List ℕ) → list_any (λ b. b == 64) (lowercase text) ≡ list_any (λ b. b == 64) text
low_any_at_sign [] = refl
low_any_at_sign (b ∷ bs) = ap (λ t. t || list_any (λ b. b == 64) (lowercase bs)) (low_at_sign b) ∙ ap (λ t. (b == 64) || t) (low_any_at_sign bs)

-- what the case doesn't change is one for texts that differ in case alone
pub same_but_for_case : {A : Type 0} (f : List ℕ → A) → ((text : List ℕ) → f (lowercase text) ≡ f text) → (a b : List ℕ) → lowercase a ≡ lowercase b → f a ≡ f b
same_but_for_case f each a b e = sym (each a) ∙ (ap f e ∙ each b)

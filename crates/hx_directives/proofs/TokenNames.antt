-- The name of each directive is a token, and so is what spells it.
use Rattle.std.proofs.Common.{◌≡◌, ℕ, true, false, cond, ◌&&◌, List, [], ◌∷◌, Option, None, Some, refl, sym, ap, ◌∙◌, arith, inl, inr}
use Rattle.std.specs.Prelude.{find, option_map}
use Rattle.std.specs.Char.{is_ascii_uppercase, to_ascii_lowercase}
use Rattle.std.specs.List.{list_all}
use Rattle.std.specs.Str.{str_to_ascii_lowercase}
use Rattle.std.proofs.lemmas.Bool.{cases_Bool, false≢true}
use Rattle.std.proofs.lemmas.Bool.Decides.{nat_tests}
use Rattle.std.proofs.lemmas.Slice.Eq.{bytes_eq-Decides}
use Rattle.hx_fields.specs.Names.{is_nonempty, is_same_name}
use Rattle.hx_fields.specs.Tokens.{is_token, is_token_byte}
use Rattle.hx_directives.specs.declared.names.Directive.{Directive}
use Rattle.hx_directives.specs.declared.names.Directive.TheVariants.{MaxAge, SMaxage, MaxStale, MinFresh, StaleIfError}
use Rattle.hx_directives.specs.declared.names.Directive.TheVariants.{StaleWhileRevalidate}
use Rattle.hx_directives.specs.declared.names.Directive.TheVariants.{NoCache, NoStore, OnlyIfCached, MustRevalidate}
use Rattle.hx_directives.specs.declared.names.Directive.TheVariants.{ProxyRevalidate, MustUnderstand, Private, Public}
use Rattle.hx_directives.specs.Arguments.{seconds_of_argument}
use Rattle.hx_directives.specs.declared.arguments.Argument.{Argument}
use Rattle.hx_directives.specs.declared.occurrences.Occurrence.{Occurrence}
use Rattle.hx_directives.specs.Occurrences.{all_directives, directive_name, directive_of, member_argument, member_name, occurrence_of_member}

-- a letter is a token's byte in both cases
upper_is : (b : ℕ) → is_ascii_uppercase b ≡ true → is_token_byte b ≡ true
upper_is b h = grind (arith, nat_tests)

lower_is : (b : ℕ) → is_ascii_uppercase b ≡ true → is_token_byte (to_ascii_lowercase b) ≡ true
lower_is b h = grind (arith, nat_tests)

no_upper : (b : ℕ) → is_ascii_uppercase b ≡ false → to_ascii_lowercase b ≡ b
no_upper b h = grind (arith, nat_tests)

either_case : (b : ℕ) → is_token_byte (to_ascii_lowercase b) ≡ is_token_byte b
either_case b = elim (cases_Bool (is_ascii_uppercase b)) [
  | inl t ↦ lower_is b t ∙ sym (upper_is b t)
  | inr f ↦ ap is_token_byte (no_upper b f)
]

all_in_either_case : (text : List ℕ) → list_all is_token_byte (str_to_ascii_lowercase text) ≡ list_all is_token_byte text
all_in_either_case [] = refl
all_in_either_case (b ∷ text) = ap (λ t. t && list_all is_token_byte (str_to_ascii_lowercase text)) (either_case b) ∙ ap (λ t. is_token_byte b && t) (all_in_either_case text)

in_either_case : (text : List ℕ) → is_token (str_to_ascii_lowercase text) ≡ is_token text
in_either_case [] = refl
in_either_case (b ∷ text) = token_of_bytes (str_to_ascii_lowercase (b ∷ text)) (b ∷ text) (all_in_either_case (b ∷ text))
  where
    nonempty : (x : ℕ) (xs : List ℕ) → is_nonempty (x ∷ xs) ≡ true
    nonempty x xs = grind (arith, nat_tests)

    some : (x : ℕ) (xs : List ℕ) → is_token (x ∷ xs) ≡ list_all is_token_byte (x ∷ xs)
    some x xs = ap (λ b. b && list_all is_token_byte (x ∷ xs)) (nonempty x xs)

    token_of_bytes : (xs ys : List ℕ) → list_all is_token_byte xs ≡ list_all is_token_byte ys → is_token (to_ascii_lowercase b ∷ str_to_ascii_lowercase text) ≡ is_token (b ∷ text)
    token_of_bytes xs ys h = some (to_ascii_lowercase b) (str_to_ascii_lowercase text) ∙ all_in_either_case (b ∷ text) ∙ sym (some b text)

same_tokens : (a b : List ℕ) → is_same_name a b ≡ true → is_token a ≡ is_token b
same_tokens a b h = sym (in_either_case a) ∙ ap is_token ((bytes_eq-Decides (str_to_ascii_lowercase a) (str_to_ascii_lowercase b)).0 h) ∙ in_either_case b

is_a_token : (d : Directive) → is_token (directive_name d) ≡ true
is_a_token MaxAge = refl
is_a_token SMaxage = refl
is_a_token MaxStale = refl
is_a_token MinFresh = refl
is_a_token StaleIfError = refl
is_a_token StaleWhileRevalidate = refl
is_a_token NoCache = refl
is_a_token NoStore = refl
is_a_token OnlyIfCached = refl
is_a_token MustRevalidate = refl
is_a_token ProxyRevalidate = refl
is_a_token MustUnderstand = refl
is_a_token Private = refl
is_a_token Public = refl

no_name_of : (name : List ℕ) → is_token name ≡ false → (d : Directive) → is_same_name name (directive_name d) ≡ false
no_name_of name h d = elim (cases_Bool (is_same_name name (directive_name d))) [
  | inl t ↦ absurd (false≢true (sym h ∙ same_tokens name (directive_name d) t ∙ is_a_token d))
  | inr f ↦ f
]

none_of_these : (name : List ℕ) → is_token name ≡ false → (ds : List Directive) → find (λ d. is_same_name name (directive_name d)) ds ≡ None
none_of_these name h [] = refl
none_of_these name h (d ∷ ds) =
    ap (λ b. cond b (Some d) (find (λ e. is_same_name name (directive_name e)) ds)) (no_name_of name h d) ∙ none_of_these name h ds

-- so it need not be asked whether a name is a token
pub only_tokens_spell : (name : List ℕ) → directive_of name ≡ cond (is_token name) (directive_of name) None
only_tokens_spell name = elim (cases_Bool (is_token name)) [
  | inl t ↦ sym (ap (λ b. cond b (directive_of name) None) t)
  | inr f ↦ none_of_these name f all_directives ∙ sym (ap (λ b. cond b (directive_of name) None) f)
]

pub spelled : (member : List ℕ) (d : Directive) (a : Argument) → directive_of (member_name member) ≡ Some d → a ≡ seconds_of_argument (member_argument member)
    → Some record { directive = d; argument = a } ≡ occurrence_of_member member
spelled member d a found told =
    let with : Option Directive → Option Occurrence = option_map (λ e. record { directive = e; argument = seconds_of_argument (member_argument member) }) in
    let one : Argument → Occurrence = λ b. record { directive = d; argument = b } in
    ap (λ b. Some (one b)) told ∙ sym (ap with (sym (only_tokens_spell (member_name member)) ∙ found))

-- What is promised of a line's text, whatever a client and an origin sent.
use Rattle.std.specs.Prelude.{◌≡◌, ◌<◌, ◌^◌, ℕ, ◌==◌, Bool, true, not, ◌&&◌, nat_lt, List, ◌++◌, codes}
use Rattle.std.specs.List.{list_all}
use Rattle.proxy_log.specs.Line.{LogLineWords}

abbrev pub is_byte : ℕ → Bool
is_byte b = nat_lt b 256

-- SP to ~: no control byte, nothing above ASCII
abbrev pub is_visible : ℕ → Bool
is_visible b = not (nat_lt b 0x20) && not (nat_lt 0x7E b)

-- an LF ends it, and in front of that all is visible
pub record TextIsVisibleLineWithLf (text : List ℕ) : Type 0 where
  pub front : List ℕ
  pub is : text ≡ front ++ codes "\n"
  pub visible : list_all is_visible front ≡ true

-- what a word of a line may have: visible bytes, and no space
abbrev pub is_log_word : List ℕ → Bool
is_log_word text = list_all (λ b. is_visible b && not (b == 32)) text

-- what was handed in are bytes, and numbers of 64 bits
pub record LogLineValuesAreInRange (line : LogLineWords) : Type 0 where
  pub moment : line.moment < 2 ^ 64
  pub status : line.status < 2 ^ 64
  pub length : line.length < 2 ^ 64
  pub took : line.took < 2 ^ 64
  pub client : list_all is_byte line.client ≡ true
  pub method : list_all is_byte line.method ≡ true
  pub target : list_all is_byte line.target ≡ true
  pub reason : list_all is_byte line.reason ≡ true
  pub origin : list_all is_byte line.origin ≡ true

-- The entries that the laws of worked cases speak of.
use Rattle.std.specs.Prelude.{ℕ, ◌==◌, cond, List, [], ◌∷◌, codes, Some, None}
use Rattle.hx_target.specs.declared.keys.Key.{Key}
use Rattle.hx_store.specs.Stored.{Stored}
use Rattle.hx_store.specs.Weights.{StoreBounds}
use Rattle.hx_store.specs.WeightedRecency.{WeighedChange}

abbrev pub key_of_path : List ℕ → Key
key_of_path path = record { host = codes "h"; port = 80; path_query = path }

-- an entry of nothing but a serial and a path
abbrev pub entry_of_path : ℕ → List ℕ → Stored
entry_of_path serial path =
    record {
      serial = serial;
      key = key_of_path path;
      nominated = [];
      status = 200;
      fields = [];
      content = [];
      times = record { date = 0; age_value = 0; request_time = 0; response_time = 0; expired = None };
    }

abbrev pub first : Stored
first = entry_of_path 1 (codes "/a")

abbrev pub second : Stored
second = entry_of_path 2 (codes "/b")

abbrev pub third : Stored
third = entry_of_path 3 (codes "/c")

-- of the same key as the third
abbrev pub fourth : Stored
fourth = entry_of_path 4 (codes "/c")

-- the first and the second, expired at a moment
abbrev pub entry_of_a_expired_at : ℕ → Stored
entry_of_a_expired_at now = record first { times = record first.times { expired = Some now } }

abbrev pub entry_of_b_expired_at : ℕ → Stored
entry_of_b_expired_at now = record second { times = record second.times { expired = Some now } }

-- the first with five bytes of content, and with a line of eleven bytes
abbrev pub entry_of_a_with_content : Stored
entry_of_a_with_content = record first { content = codes "hello" }

abbrev pub entry_of_a_with_a_line : Stored
entry_of_a_with_a_line = record first { fields = record { name = codes "ETag"; value = codes "abc" } ∷ [] }

-- the first where its request's language counts, which the request has or hasn't
abbrev pub entry_of_a_in_english : Stored
entry_of_a_in_english = record first { nominated = record { name = codes "Accept-Language"; value = Some (codes "en") } ∷ [] }

abbrev pub entry_of_a_in_no_language : Stored
entry_of_a_in_no_language = record first { nominated = record { name = codes "Accept-Language"; value = None } ∷ [] }

-- room for so many bytes, and for more entries than the cases have
abbrev pub bounds_of_bytes : ℕ → StoreBounds
bounds_of_bytes most = record { entries = 9; bytes = Some most }

-- each weighs 100, but one serial so much
abbrev pub weights_of_100_except : ℕ → ℕ → ℕ → ℕ
weights_of_100_except serial weight s = cond (s == serial) weight 100

-- steps that store a serial, use it or remove it, after which it weighs so much
abbrev pub stores : ℕ → ℕ → WeighedChange
stores serial weight = record {
  change = record { stored = Some serial; used = None; removed = [] };
  weights = weights_of_100_except serial weight;
}

abbrev pub uses : ℕ → ℕ → WeighedChange
uses serial weight = record {
  change = record { stored = None; used = Some serial; removed = [] };
  weights = weights_of_100_except serial weight;
}

abbrev pub removes : ℕ → WeighedChange
removes serial = record {
  change = record { stored = None; used = None; removed = serial ∷ [] };
  weights = weights_of_100_except 0 0;
}

-- 1, 2 and 3 were stored, of 100 each
abbrev pub changes_storing_three : List WeighedChange
changes_storing_three = stores 3 100 ∷ stores 2 100 ∷ stores 1 100 ∷ []

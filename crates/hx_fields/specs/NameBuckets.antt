-- Names by buckets, without case: of many texts most fall into a bucket in which none of some names is.
use Rattle.std.specs.Prelude.{ℕ, Bool, false, ◌*◌, ◌%◌, ◌/◌, ◌^◌, List, slice_index_or}
use Rattle.hx_fields.specs.Folded.{folded, number_of}

-- the first twelve bits of a product with 2^64 divided by the golden ratio, so that names that are alike fall far apart
abbrev pub bucket_of_name : List ℕ → ℕ
bucket_of_name name = number_of (folded name) * 11400714819323198485 % 2 ^ 64 / 2 ^ 52

-- a text falls into one of these buckets
abbrev pub falls_in_marked_bucket : List Bool → List ℕ → Bool
falls_in_marked_bucket buckets text = slice_index_or buckets (bucket_of_name text) false

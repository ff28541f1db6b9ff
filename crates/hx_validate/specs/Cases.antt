-- The messages and stored responses that the laws of worked cases speak of.
use Rattle.std.specs.Prelude.{ℕ, zero, suc, Bool, false, List, [], ◌∷◌, codes, None, Some}
use Rattle.hx_fields.specs.Line.{Field}
use Rattle.hx_fields.specs.Examples.{line}
use Rattle.hx_hop.specs.declared.response_view.Answered.{Answered}
use Rattle.hx_hop.specs.declared.request_view.Asked.{Asked}
use Rattle.hx_store.specs.Stored.{Stored}
use Rattle.hx_validate.specs.Answering.{is_validated_by_304}
use Rattle.hx_validate.specs.NotModified.{stored_gets_304}
use Rattle.hx_validate.specs.Validators.{validating_conditions_of}

abbrev pub etag_line : List ℕ → Field
etag_line value = line (codes "ETag") value

abbrev pub last_modified_line : List ℕ → Field
last_modified_line value = line (codes "Last-Modified") value

-- a stored response of these lines, made at 100
abbrev pub stored_with_fields : List Field → Stored
stored_with_fields fields =
    record {
      serial = 1;
      key = record { host = codes "h"; port = 80; path_query = codes "/a" };
      nominated = [];
      status = 200;
      fields = fields;
      content = codes "hi";
      times = record { date = 100; age_value = 0; request_time = 100; response_time = 101; expired = None };
    }

-- a 304 of these lines
abbrev pub answered_304_with : List Field → Answered
answered_304_with fields = record { status = 304; fields = fields }

-- a request of these lines
abbrev pub asked_get_with : List Field → Asked
asked_get_with fields =
    record {
      method = codes "GET";
      minor = 1;
      target = record { key = record { host = codes "h"; port = 80; path_query = codes "/a" }; table_path = codes "/a" };
      fields = fields;
      content = None;
      close = false;
    }

-- whether a 304 of these lines answers a stored response of those, of which both validators were sent
abbrev pub stored_fields_validated_by_304 : List Field → List Field → Bool
stored_fields_validated_by_304 stored given =
    is_validated_by_304 (stored_with_fields stored) (validating_conditions_of stored) (answered_304_with given)

-- the stored response of the first example, and a 304 to it at 160
abbrev pub first_stored_fields : List Field
first_stored_fields =
    line (codes "Date") (codes "Thu, 01 Jan 1970 00:01:41 GMT") ∷ line (codes "Cache-Control") (codes "max-age=60") ∷ etag_line (codes "\"v1\"") ∷ []

abbrev pub first_304_fields : List Field
first_304_fields =
    line (codes "Date") (codes "Thu, 01 Jan 1970 00:02:40 GMT") ∷ line (codes "Cache-Control") (codes "max-age=60") ∷ etag_line (codes "\"v1\"") ∷ []

-- that response once a purge expired it at 130
abbrev pub first_stored_expired_at_130 : Stored
first_stored_expired_at_130 = record (stored_with_fields first_stored_fields) {
  times = record (stored_with_fields first_stored_fields).times { expired = Some 130 };
}

-- of two lines each of a name, and a name that only one has
abbrev pub example_stored_lines : List Field
example_stored_lines =
    line (codes "Foo") (codes "1") ∷ line (codes "X") (codes "2") ∷ line (codes "Age") (codes "3")
    ∷ line (codes "fOO") (codes "4") ∷ line (codes "Content-Length") (codes "5") ∷ []

abbrev pub example_304_lines : List Field
example_304_lines = line (codes "Content-Length") (codes "0") ∷ line (codes "foo") (codes "6") ∷ line (codes "Age") (codes "7")
    ∷ line (codes "Foo") (codes "8") ∷ line (codes "Y") (codes "9") ∷ []

abbrev pub if_none_match_line : List ℕ → Field
if_none_match_line value = line (codes "If-None-Match") value

abbrev pub if_modified_since_line : List ℕ → Field
if_modified_since_line value = line (codes "If-Modified-Since") value

-- whether a client that asks with these lines gets a 304 for a stored response of those
abbrev pub asked_and_stored_fields_give_304 : List Field → List Field → Bool
asked_and_stored_fields_give_304 asked stored = stored_gets_304 (asked_get_with asked) (stored_with_fields stored)

-- so many lines of a name and value
abbrev pub many_lines : ℕ → List Field
many_lines zero = []
many_lines (suc n) = line (codes "X") (codes "1") ∷ many_lines n

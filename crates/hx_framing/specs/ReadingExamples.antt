-- Messages of the RFCs and others, for worked readings: what whole streams read as where at most 1000 bytes
-- of content are taken.
use Rattle.std.specs.Prelude.{ℕ, Bool, true, false, List, [], ◌∷◌, ◌++◌, codes, Option, Some, None}
use Rattle.hx_fields.specs.Line.{Field}
use Rattle.hx_fields.specs.Examples.{line}
use Rattle.hx_framing.specs.declared.messages.Request.{Request}
use Rattle.hx_framing.specs.declared.messages.Response.{Response}
use Rattle.hx_framing.specs.Reading.{StreamReadResult}
use Rattle.hx_framing.specs.Progress.{Progress}
use Rattle.hx_framing.specs.RequestReading as request
use Rattle.hx_framing.specs.ResponseReading as response

-- a request stream that goes on, one that ends, and one whose continue was given
abbrev pub request_stream_reads : List ℕ → StreamReadResult Request → Type 0
request_stream_reads bytes reading = request.ReadsAs 1000 false false bytes reading

abbrev pub ended_request_stream_reads : List ℕ → StreamReadResult Request → Type 0
ended_request_stream_reads bytes reading = request.ReadsAs 1000 true false bytes reading

abbrev pub request_stream_reads_after_continue : List ℕ → StreamReadResult Request → Type 0
request_stream_reads_after_continue bytes reading = request.ReadsAs 1000 false true bytes reading

-- a response stream that goes on, one that ends, and one that answers a HEAD
abbrev pub response_stream_reads : List ℕ → StreamReadResult Response → Type 0
response_stream_reads bytes reading = response.ReadsAs 1000 false false bytes reading

abbrev pub ended_response_stream_reads : List ℕ → StreamReadResult Response → Type 0
ended_response_stream_reads bytes reading = response.ReadsAs 1000 false true bytes reading

abbrev pub head_response_stream_reads : List ℕ → StreamReadResult Response → Type 0
head_response_stream_reads bytes reading = response.ReadsAs 1000 true false bytes reading

-- ---- RFC 9110, section 3.9

abbrev pub hello_request : List ℕ
hello_request =
    codes "GET /hello.txt HTTP/1.1\r\nUser-Agent: curl/7.64.1\r\nHost: www.example.com\r\nAccept-Language: en, mi\r\n\r\n"

abbrev pub hello_request_read : Request
hello_request_read = record {
  method = codes "GET";
  target = codes "/hello.txt";
  minor = 1;
  fields =
      line (codes "User-Agent") (codes "curl/7.64.1") ∷ line (codes "Host") (codes "www.example.com")
      ∷ line (codes "Accept-Language") (codes "en, mi") ∷ [];
  content = None;
}

abbrev pub hello_response : List ℕ
hello_response =
    codes "HTTP/1.1 200 OK\r\nDate: Mon, 27 Jul 2009 12:28:53 GMT\r\nServer: Apache\r\nLast-Modified: Wed, 22 Jul 2009 19:15:56 GMT\r\nETag: \"34aa387-d-1568eb00\"\r\nAccept-Ranges: bytes\r\nContent-Length: 51\r\nVary: Accept-Encoding\r\nContent-Type: text/plain\r\n\r\nHello World! My content includes a trailing CRLF.\r\n"

abbrev pub hello_response_fields : List Field
hello_response_fields =
    line (codes "Date") (codes "Mon, 27 Jul 2009 12:28:53 GMT") ∷ line (codes "Server") (codes "Apache")
    ∷ line (codes "Last-Modified") (codes "Wed, 22 Jul 2009 19:15:56 GMT") ∷ line (codes "ETag") (codes "\"34aa387-d-1568eb00\"")
    ∷ line (codes "Accept-Ranges") (codes "bytes") ∷ line (codes "Vary") (codes "Accept-Encoding")
    ∷ line (codes "Content-Type") (codes "text/plain") ∷ []

abbrev pub hello_response_read : Response
hello_response_read = record {
  status = 200;
  fields = hello_response_fields;
  content = codes "Hello World! My content includes a trailing CRLF.\r\n";
  announced = None;
}

-- ---- other messages

-- a request for /a with these lines, of HTTP/1.1
abbrev pub put_request_with : List ℕ → List ℕ
put_request_with lines = codes "PUT /a HTTP/1.1\r\n" ++ lines ++ codes "\r\n"

abbrev pub put_request_read : List Field → Option (List ℕ) → Request
put_request_read fields content =
    record { method = codes "PUT"; target = codes "/a"; minor = 1; fields = fields; content = content }

-- a response with these lines
abbrev pub ok_response_text_with_lines : List ℕ → List ℕ
ok_response_text_with_lines lines = codes "HTTP/1.1 200 OK\r\n" ++ lines ++ codes "\r\n"

abbrev pub response_with : ℕ → List Field → List ℕ → Option ℕ → Response
response_with status fields content announced =
    record { status = status; fields = fields; content = content; announced = announced }

-- ---- streams

-- two requests and the beginning of a third
abbrev pub two_requests_and_a_beginning : List ℕ
two_requests_and_a_beginning =
    put_request_with (codes "Content-Length: 2\r\n") ++ codes "hi" ++ put_request_with (codes "Transfer-Encoding: chunked\r\n")
    ++ codes "3\r\nabc\r\n0\r\n\r\nPUT"

-- how far its reader has come
abbrev pub progress_after_requests_in_a_row : Bool → List Request → Progress Request
progress_after_requests_in_a_row ended given =
    record {
      max_body = 1000;
      to_head = false;
      stream = two_requests_and_a_beginning;
      ended = ended;
      given = given;
      continue_sent
          = false;
    }

-- how far a reader of the response has come
abbrev pub progress_after_hello_response : Bool → List Response → Progress Response
progress_after_hello_response ended given =
    record {
      max_body = 1000;
      to_head = false;
      stream = hello_response;
      ended = ended;
      given = given;
      continue_sent = false;
    }

abbrev pub put_request_of_hi : Request
put_request_of_hi = put_request_read [] (Some (codes "hi"))

-- a stream of requests, whether it has ended, what was given of it, and whether the next continue was
abbrev pub example_request_progress : Bool → List ℕ → Bool → List Request → Bool → Progress Request
example_request_progress to_head stream ended given continue_sent =
    record {
      max_body = 1000;
      to_head = to_head;
      stream = stream;
      ended = ended;
      given = given;
      continue_sent = continue_sent;
    }

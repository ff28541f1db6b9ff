-- Lines of the worked cases, and what their replies tell.
use Rattle.std.specs.Prelude.{ℕ, pos, List, [], codes, true, false, Some, None}
use Rattle.hx_reuse.specs.declared.rule.ReuseRule.TheVariants.{UriMiss}
use Rattle.hx_status.specs.declared.about.Told.{Told}
use Rattle.hx_status.specs.declared.about.Told.TheVariants.{Handled}
use Rattle.hx_status.specs.declared.status.How.TheVariants.{Hit, Fwd}
use Rattle.hx_target.specs.declared.keys.Key.{Key}
use Rattle.proxy_log.specs.Asked.{AskedWords}
use Rattle.proxy_log.specs.Line.{LogLineWords}

-- a GET for a target URI that was answered 200 with five bytes, when, why, after how long and by which origin
abbrev pub log_words_of_get : ℕ → List ℕ → ℕ → List ℕ → LogLineWords
log_words_of_get moment reason took origin =
    record {
      moment = moment;
      client = codes "127.0.0.1:40001";
      method = codes "GET";
      target = codes "http://h/a";
      status = 200;
      length = 5;
      reason = reason;
      took = took;
      origin = origin;
    }

-- what couldn't be read as a request
abbrev pub example_line_of_unread_request : List ℕ → LogLineWords
example_line_of_unread_request reason =
    record {
      moment = 0;
      client = codes "127.0.0.1:40001";
      method = [];
      target = [];
      status = 400;
      length = 13;
      reason = reason;
      took = 0;
      origin = [];
    }

-- a POST whose content is too large; its target is as it came
abbrev pub refused_post_line : List ℕ → LogLineWords
refused_post_line target =
    record {
      moment = 0;
      client = codes "127.0.0.1:40001";
      method = codes "POST";
      target = target;
      status = 413;
      length = 18;
      reason = codes "refused: too-large";
      took = 1000;
      origin = [];
    }

-- a target that is no URI
abbrev pub example_line_of_unread_target : List ℕ → LogLineWords
example_line_of_unread_target target =
    record {
      moment = 7;
      client = codes "127.0.0.1:40001";
      method = codes "GET";
      target = target;
      status = 400;
      length = 13;
      reason = codes "refused: form";
      took = 0;
      origin = [];
    }

-- a stored response that is fresh for so many seconds
abbrev pub report_of_hit : ℕ → Told
report_of_hit seconds = Handled (record {
  how = Hit;
  fwd_status = None;
  ttl = Some (pos seconds);
  stored = false;
  collapsed = false;
  detail = None;
  not_stored = None;
})

-- an answer to a request for whose key nothing was held; it is stored, and fresh for so many seconds
abbrev pub report_of_stored_miss : ℕ → Told
report_of_stored_miss seconds = Handled (record {
  how = Fwd UriMiss;
  fwd_status = None;
  ttl = Some (pos seconds);
  stored = true;
  collapsed = false;
  detail = None;
  not_stored = None;
})

-- a key: its host, its port, its path and query
abbrev pub key_of : List ℕ → ℕ → List ℕ → Key
key_of host port path_query = record { host = host; port = port; path_query = path_query }

-- a method and a target; or nothing that could be read
abbrev pub words_of_method_and_target : List ℕ → List ℕ → AskedWords
words_of_method_and_target method target = record { method = method; target = target }

-- When two cache keys are one (RFC 9111, section 2).
use Rattle.std.specs.Prelude.{Bool, ◌&&◌, ◌==◌, bytes_eq}
use Rattle.hx_target.specs.declared.keys.Key.{Key}

-- the same bytes of host, path and query, and the same port
abbrev pub same_key : Key → Key → Bool
same_key a b = bytes_eq a.host b.host && (a.port == b.port) && bytes_eq a.path_query b.path_query

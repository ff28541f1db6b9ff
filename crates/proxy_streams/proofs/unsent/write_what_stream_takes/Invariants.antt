use Rattle.std.proofs.Common.{[], ◌≤◌, length, take}
use Rattle.proxy_streams.proofs.unsent.write_what_stream_takes.Given as goal

-- the stream took the front of the bytes
abbrev pub invariant-loop-try : goal.invariant-loop-try
invariant-loop-try g l = (l.at ≤ length l.bytes) × g.S.Stream.Passed l.fn.stream (take l.at l.bytes) [] l.stream

use Rattle.std.proofs.Common.{take}
use Rattle.std.specs.Fmt.{HasWritten, IsPlainFormatter}
use Rattle.proxy_replay.specs.FaultLines.{key_made_printable}
use Rattle.proxy_replay.proofs.fault_lines.write_key.Given as goal

-- the bytes in front of this place were written
abbrev pub invariant-loop-byte : goal.invariant-loop-byte
invariant-loop-byte g l = IsPlainFormatter l.fn.f → HasWritten g.W.Write.write_str_gives l.fn.f (key_made_printable (take l.byte-index l.key)) l.f

-- The numbers of the faults of a stream. Of several at one place the least is answered.
use Rattle.std.specs.Prelude.{ℕ}
use Rattle.hx_framing.specs.declared.frame_fault.FrameFault.{FrameFault}
use Rattle.hx_framing.specs.declared.frame_fault.FrameFault.TheVariants.{Head, Version, BothLengths, Length, Coding}
use Rattle.hx_framing.specs.declared.frame_fault.FrameFault.TheVariants.{Chunk}
use Rattle.hx_framing.specs.declared.frame_fault.FrameFault.TheVariants.{TooLarge, Expect, Truncated, Status}

abbrev pub frame_fault_number : FrameFault → ℕ
frame_fault_number Head = 1
frame_fault_number Version = 2
frame_fault_number BothLengths = 3
frame_fault_number Length = 4
frame_fault_number Coding = 5
frame_fault_number Chunk = 6
frame_fault_number TooLarge = 7
frame_fault_number Expect = 8
frame_fault_number Truncated = 9
frame_fault_number Status = 10

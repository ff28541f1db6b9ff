-- Which descriptors may be those of a socket that was handed on.
use Rattle.std.specs.Prelude.{ℤ, pos, negsuc, ◌<◌}
use Rattle.proxy_listener.specs.declared.listening.ListenAt.{ListenAt}
use Rattle.proxy_listener.specs.declared.listening.ListenAt.TheVariants.{Address, Descriptor}

-- standard input, output and error aren't, nor is what a failed call answers
abbrev pub IsStandardOrFailedDescriptor : ℤ → Type 0
IsStandardOrFailedDescriptor (pos fd) = fd < 3
IsStandardOrFailedDescriptor (negsuc k) = Unit {0}

abbrev pub ListenDescriptorIsNoSocket : ListenAt → Type 0
ListenDescriptorIsNoSocket (Address address) = ⊥
ListenDescriptorIsNoSocket (Descriptor fd) = IsStandardOrFailedDescriptor fd

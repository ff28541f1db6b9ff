-- What is wrong with a target and what may stand there, in words.
use Rattle.std.specs.Prelude.{ℕ, List, codes}
use Rattle.hx_target.specs.declared.target_fault.TargetFault.{TargetFault}
use Rattle.hx_target.specs.declared.target_fault.TargetFault.TheVariants.{Form, Scheme, Host, Port, Userinfo, Escape}
use Rattle.hx_target.specs.declared.target_fault.TargetFault.TheVariants.{DotSegment, TooLong, OutOfMemory}

abbrev pub fault_text : TargetFault → List ℕ
fault_text Form = codes "a target has to begin with / or http://, and to be visible ASCII without #"
fault_text Scheme = codes "the scheme of a target has to be http"
fault_text Host = codes "there has to be one Host line, whose host is of letters, digits, -, . and _, or an IPv6 address in brackets"
fault_text Port = codes "a port has to be a number from 1 to 65535, of at most five digits, or to be left out"
fault_text Userinfo = codes "the authority of a target may not have an @"
fault_text Escape = codes "two hexadecimal digits have to stand behind each % of a path"
fault_text DotSegment = codes "no segment of a path may be . or .., escaped or not"
fault_text TooLong = codes "a target may have at most 8192 bytes"
fault_text OutOfMemory = codes "no memory is left for the target"

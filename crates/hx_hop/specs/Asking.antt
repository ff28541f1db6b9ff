-- What every later rule sees of a request (RFC 9110, section 7.6.1).
use Rattle.std.specs.Prelude.{◌≡◌, ◌==◌, Bool, ◌||◌, List, codes, Result, Ok, Err}
use Rattle.hx_fields.specs.Line.{Field}
use Rattle.hx_fields.specs.FieldLines.{values_of, without_named}
use Rattle.hx_framing.specs.declared.messages.Request.{Request}
use Rattle.hx_target.specs.declared.target_fault.TargetFault.{TargetFault}
use Rattle.hx_target.specs.declared.targets.Target.{Target}
use Rattle.hx_target.specs.Judgement.{TargetIsJudged}
use Rattle.hx_hop.specs.declared.request_view.Asked.{Asked}
use Rattle.hx_hop.specs.Stripping.{connection_has_option, stripped}

-- The lines that go on: the target has taken in Host, and the reader has carried out Expect (RFC 9110, section 10.1.1).
abbrev pub fields_passed_on_of : List Field → List Field
fields_passed_on_of fields = without_named (without_named (stripped fields) (codes "Host")) (codes "Expect")

-- the client's connection closes after the answer (RFC 9112, section 9.6)
-- own: that of an HTTP/1.0 client always does ("Connections of HTTP/1.0 close")
abbrev pub client_connection_closes : Request → Bool
client_connection_closes request = (request.minor == 0) || connection_has_option request.fields (codes "close")

-- the request with its target read
abbrev pub asked_with_target : Request → Target → Asked
asked_with_target request target = record {
  method = request.method;
  minor = request.minor;
  target = target;
  fields = fields_passed_on_of request.fields;
  content = request.content;
  close = client_connection_closes request;
}

abbrev pub asked_with_judged_target : Request → Result Target TargetFault → Result Asked TargetFault
asked_with_judged_target request (Ok target) = Ok (asked_with_target request target)
asked_with_judged_target request (Err fault) = Err fault

-- What is asked: the target is judged with the fields as received, and a request whose target is refused has its fault.
abbrev pub RequestIsReadAsAsked : Request → Result Asked TargetFault → Type 0
RequestIsReadAsAsked request r =
    (target : Result Target TargetFault) × TargetIsJudged request.target (values_of request.fields (codes "Host")) target
    × (r ≡ asked_with_judged_target request target)

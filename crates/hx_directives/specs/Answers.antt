-- What the directives of a message answer.
use Rattle.std.specs.Prelude.{ℕ, Bool, List, [], ◌∷◌, map, filter, Option, Some, None}
use Rattle.std.specs.List.{list_any, filter_map, slice_get}
use Rattle.hx_fields.specs.Names.{is_same_name}
use Rattle.hx_directives.specs.declared.names.Directive.{Directive}
use Rattle.hx_directives.specs.declared.names.Directive.TheVariants.{MaxStale as max_stale_directive}
use Rattle.hx_directives.specs.declared.arguments.Argument.{Argument}
use Rattle.hx_directives.specs.declared.arguments.Argument.TheVariants as argument
use Rattle.hx_directives.specs.declared.occurrences.Occurrence.{Occurrence}
use Rattle.hx_directives.specs.declared.answers.Seconds.{Seconds}
use Rattle.hx_directives.specs.declared.answers.Seconds.TheVariants as seconds_are
use Rattle.hx_directives.specs.declared.answers.MaxStale.{MaxStale}
use Rattle.hx_directives.specs.declared.answers.MaxStale.TheVariants as accepts
use Rattle.hx_directives.specs.Occurrences.{directive_name}

abbrev pub is_same_directive : Directive → Directive → Bool
is_same_directive d e = is_same_name (directive_name d) (directive_name e)

-- the directive occurs, whatever its arguments
-- own: a qualified `private` or `no-cache` acts as an unqualified one
abbrev pub directive_occurs : List Occurrence → Directive → Bool
directive_occurs found d = list_any (λ o. is_same_directive o.directive d) found

-- the arguments with which a directive occurs, in order
abbrev pub arguments_of_directive : List Occurrence → Directive → List Argument
arguments_of_directive found d = map (λ o. o.argument) (filter (λ o. is_same_directive o.directive d) found)

-- the seconds of one argument, if it says any
abbrev pub argument_seconds : Argument → Option ℕ
argument_seconds (argument.Delta n) = Some n
argument_seconds _ = None

-- the seconds of a directive that is to occur once
abbrev pub seconds_of_directive : List Occurrence → Directive → Seconds
seconds_of_directive found d = of_arguments (arguments_of_directive found d)
  where
    of_number : Option ℕ → Seconds
    of_number None = seconds_are.Bad
    of_number (Some n) = seconds_are.Value n

    of_arguments : List Argument → Seconds
    of_arguments [] = seconds_are.Absent
    of_arguments (a ∷ []) = of_number (argument_seconds a)
    of_arguments (a ∷ b ∷ more) = seconds_are.Repeated

-- the first valid seconds of a directive
-- own: a request's invalid arguments are ignored
abbrev pub first_valid_seconds : List Occurrence → Directive → Option ℕ
first_valid_seconds found d = slice_get (filter_map argument_seconds (arguments_of_directive found d)) 0

-- how stale a response a request accepts, by the first `max-stale` that has no argument or valid seconds
-- (RFC 9111, section 5.2.1.2)
abbrev pub max_stale : List Occurrence → MaxStale
max_stale found = of_limits (filter_map limit_of (arguments_of_directive found max_stale_directive))
  where
    limit_of : Argument → Option MaxStale
    limit_of argument.Absent = Some accepts.Any
    limit_of (argument.Delta n) = Some (accepts.UpTo n)
    limit_of argument.Other = None

    of_limits : List MaxStale → MaxStale
    of_limits [] = accepts.Absent
    of_limits (limit ∷ more) = limit

use Rattle.std.proofs.Common.{◌≡◌, refl}
use Rattle.std.specs.Prelude.{Some}
use Rattle.hx_directives.specs.declared.names.Directive.{Directive}
use Rattle.hx_directives.specs.declared.names.Directive.TheVariants as directive
use Rattle.hx_directives.specs.Occurrences.{directive_of, directive_name}
use Rattle.hx_directives.proofs.laws.each_directive_is_read_by_its_name.Goals as goal

is_read : (d : Directive) → directive_of (directive_name d) ≡ Some d
is_read directive.MaxAge = refl
is_read directive.SMaxage = refl
is_read directive.MaxStale = refl
is_read directive.MinFresh = refl
is_read directive.StaleIfError = refl
is_read directive.StaleWhileRevalidate = refl
is_read directive.NoCache = refl
is_read directive.NoStore = refl
is_read directive.OnlyIfCached = refl
is_read directive.MustRevalidate = refl
is_read directive.ProxyRevalidate = refl
is_read directive.MustUnderstand = refl
is_read directive.Private = refl
is_read directive.Public = refl

pub returns : goal.returns
returns c = is_read

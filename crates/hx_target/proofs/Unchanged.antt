-- Texts that are kept as they came: hosts without capitals, and paths without escapes.
use Rattle.std.proofs.Common.{◌≡◌, ℕ, Bool, true, false, List, [], ◌∷◌, refl, ap, ◌∙◌, ◌==◌, ◌||◌, arith}
use Rattle.std.proofs.lemmas.Bool.Decides.{nat_tests}
use Rattle.std.specs.Char.{is_ascii_uppercase, to_ascii_lowercase}
use Rattle.std.specs.List.{list_any}
use Rattle.hx_target.specs.Hosts.{lowercase}
use Rattle.hx_target.specs.Paths.{has_only_normal_escapes, table_path_of}
use Rattle.hx_target.proofs.TablePaths.{or_parts}
use Rattle.hx_target.proofs.NormalPaths.{plain_is_normal, normal-table}

byte_stays : (b : ℕ) → is_ascii_uppercase b ≡ false → to_ascii_lowercase b ≡ b
byte_stays b h = grind (arith, nat_tests)

pub host_stays : (host : List ℕ) → list_any is_ascii_uppercase host ≡ false → lowercase host ≡ host
host_stays [] h = refl
host_stays (b ∷ rest) h =
    let none = or_parts (is_ascii_uppercase b) (list_any is_ascii_uppercase rest) h in
    ap (λ (c : ℕ). c ∷ lowercase rest) (byte_stays b none.0) ∙ ap (λ (cs : List ℕ). b ∷ cs) (host_stays rest none.1)

without_escape : (path : List ℕ) → list_any (λ (b : ℕ). b == 37) path ≡ false → has_only_normal_escapes path ≡ true
without_escape [] h = refl
without_escape (b ∷ rest) h =
    let none = or_parts (b == 37) (list_any (λ (b : ℕ). b == 37) rest) h in
    plain_is_normal b rest none.0 (without_escape rest none.1)

pub path_stays : (path : List ℕ) → list_any (λ (b : ℕ). b == 37) path ≡ false → table_path_of path ≡ path
path_stays path h = normal-table path (without_escape path h)

-- Counts that rise one after another.
use Rattle.std.proofs.Common.{◌≡◌, ℕ, ◌+◌, refl, subst, arith, Result, Ok, Err, OnErr}
use Rattle.proxy_turn.specs.Counts.{CountRisesBy, Calls, calls, CallCountsRiseBy}

pub rise_none : (a b : ℕ) → b ≡ a → CountRisesBy a b 0
rise_none a b same = record { no_less = omega (arith, same); exact = λ l. omega (arith, same) }

pub rise_on : (a b c j k : ℕ) → CountRisesBy a b j → CountRisesBy b c k → CountRisesBy a c (j + k)
rise_on a b c j k f g =
    let less = f.no_less in
    let more = g.no_less in
    record {
      no_less = omega (arith, less, more);
      exact = λ l. let second = g.exact l in let first = f.exact (omega (arith, more, l)) in omega (arith, first, second);
    }

pub raises_none : (c : Calls) → CallCountsRiseBy c c 0 0 0
raises_none c = record { asked = rise_none c.accepts c.accepts refl; read = rise_none c.reads c.reads refl; failed = rise_none c.failures c.failures refl }

pub raises_on : (a b c : Calls) (i j k x y z : ℕ) → CallCountsRiseBy a b i j k → CallCountsRiseBy b c x y z → CallCountsRiseBy a c (i + x) (j + y) (k + z)
raises_on a b c i j k x y z f g = record {
  asked = rise_on a.accepts b.accepts c.accepts i x f.asked g.asked;
  read = rise_on a.reads b.reads c.reads j y f.read g.read;
  failed = rise_on a.failures b.failures c.failures k z f.failed g.failed;
}

pub raises_failed : (accepts reads failures more_accepts more_reads more_failures k : ℕ) → more_accepts ≡ accepts → more_reads ≡ reads → CountRisesBy failures more_failures k → CallCountsRiseBy (calls accepts reads failures) (calls more_accepts more_reads more_failures) 0 0 k
raises_failed accepts reads failures more_accepts more_reads more_failures k same_accepts same_reads rise =
    record { asked = rise_none accepts more_accepts same_accepts; read = rise_none reads more_reads same_reads; failed = rise }

pub on_err : {A E : Type 0} {P : Type 0} (r : Result A E) → P → OnErr r P
on_err (Ok x) p = tt
on_err (Err e) p = p

-- under other names for the same
pub raises_same : (a b : Calls) (i j k x y z : ℕ) → i ≡ x → j ≡ y → k ≡ z → CallCountsRiseBy a b i j k → CallCountsRiseBy a b x y z
raises_same a b i j k x y z e f h raises = subst (λ n. CallCountsRiseBy a b n y z) e (subst (λ n. CallCountsRiseBy a b i n z) f (subst (λ n. CallCountsRiseBy a b i j n) h raises))

pub raises_asked : (accepts reads failures more_accepts more_reads more_failures k : ℕ) → CountRisesBy accepts more_accepts 1 → more_reads ≡ reads → CountRisesBy failures more_failures k → CallCountsRiseBy (calls accepts reads failures) (calls more_accepts more_reads more_failures) 1 0 k
raises_asked accepts reads failures more_accepts more_reads more_failures k asked same_reads rise =
    record { asked = asked; read = rise_none reads more_reads same_reads; failed = rise }

-- Totals are small, so that the worth of one is read back as the cost that it is of.
use Rattle.std.proofs.Common.{◌≡◌, ℕ, suc, ◌+◌, ◌*◌, ◌<◌, ◌≤◌, min, List, [], ◌∷◌, length, sym, refl, ap, ◌∙◌, subst, inl, inr, arith}
use Rattle.std.proofs.lemmas.Bool.{cases_eq, eq-eqb, ne_eqb, cond-true, cond-false}
use Rattle.cost.specs.Arithmetic.{plus}
use Rattle.cost.specs.declared.Cost.{Cost}
use Rattle.cost.specs.declared.Cost.TheVariants.{Eighths, Barred}
use Rattle.channel.specs.Meaning.{Meaning, Lawful}
use Rattle.joining.specs.LeastCosts.{least_cost_worth}
use Rattle.trellis.specs.Sequences.{along}
use Rattle.burst.specs.Places.{prior_at, prior_cost}
use Rattle.burst.specs.Sequences.{place_at, cost_trellis}
use Rattle.burst.specs.declared.place.Place.{Place}
use Rattle.burst.specs.declared.priors.Priors.{Priors}
use Rattle.columns.specs.Numbers.{as_cost}
use Rattle.columns.proofs.Numbers.{as_eighths}

-- at most b, or barred
abbrev pub Small : ℕ → Cost → Type 0
Small b (Eighths n) = n ≤ b
Small b Barred = Unit {0}

pub small_more : (b d : ℕ) (c : Cost) → b ≤ d → Small b c → Small d c
small_more b d (Eighths n) more small = omega arith
small_more b d Barred more small = tt

small_sum : (b d : ℕ) (c e : Cost) → Small b c → Small d e → Small (b + d) (plus c e)
small_sum b d (Eighths m) (Eighths n) p q = omega arith
small_sum b d (Eighths m) Barred p q = tt
small_sum b d Barred e p q = tt

small_if : (b : ℕ) (c : Cost) → ((n : ℕ) → c ≡ Eighths n → n ≤ b) → Small b c
small_if b (Eighths n) h = h n refl
small_if b Barred h = tt

small_prior : (p : Priors) (a : ℕ) → Small 65534 (prior_cost p a)
small_prior p a =
    elim (cases_eq (prior_at p a) 65535) [
      | inl top ↦ subst (Small 65534) (sym (cond-true _ _ _ (eq-eqb (prior_at p a) 65535 top))) tt
      | inr other ↦
          let below : prior_at p a ≤ 65534 = omega (arith, p.small a) in
          subst (Small 65534) (sym (cond-false _ _ _ (ne_eqb (prior_at p a) 65535 other))) below
    ]

pub small_along : (m : Meaning) → Lawful m → (places : List Place) (k s : ℕ) (seq : List ℕ)
    → Small (131069 * length seq) (along (cost_trellis m places) k s seq)
unfolding along
small_along m lawful places k s [] = omega arith
small_along m lawful places k s (a ∷ seq) =
    let weight = small_sum 65535 65534 _ _ (small_if 65535 _ (lawful.bounded (place_at places k).sample (a + m.symbols * s))) (small_prior (place_at places k).priors a) in
    let later = small_along m lawful places (suc k) ((cost_trellis m places).next s a) seq in
    small_more (65535 + 65534 + 131069 * length seq) (131069 * suc (length seq)) _ (omega arith) (small_sum (65535 + 65534) (131069 * length seq) _ _ weight later)

pub read_back : (b : ℕ) (c : Cost) → b < 4294967295 → Small b c → as_cost (least_cost_worth c).number ≡ c
read_back b (Eighths n) less small =
    let whole : min n 4294967295 ≡ n = omega arith in
    ap as_cost whole ∙ as_eighths n (omega arith)
read_back b Barred less small = refl

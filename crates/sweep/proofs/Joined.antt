-- Joins over the numbers below a number, number by number.
use Rattle.std.proofs.Common.{◌≡◌, ℕ, ◌+◌, sym, ◌∙◌, arith}
use Rattle.joining.specs.Laws.{Operations}
use Rattle.trellis.proofs.Ways.{below_start, joined}
use Rattle.sweep.specs.Joins.{JoinsBelow}

module _ {J : Type 0} (o : Operations J) (gives : ℕ → J → Type 0) where
  pub joins_start : (ways : J) → ways ≡ o.none → JoinsBelow o 0 gives ways
  joins_start ways start = record { is = λ f told. start ∙ sym (below_start o f) }

  pub joins_more : (n : ℕ) (ways way more : J) → more ≡ o.join ways way → JoinsBelow o n gives ways → gives n way → JoinsBelow o (n + 1) gives more
  joins_more n ways way more is so_far given = record {
    is = λ f told. is ∙ joined o n f ways way (so_far.is f (λ i x lt. told i x (omega arith))) (told n way (omega arith) given);
  }

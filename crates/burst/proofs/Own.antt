-- The trellis of all histories keeps the last symbols of a sequence, so that a total is by the sequence's own windows.
use Rattle.std.proofs.Common.{◌≡◌, ℕ, zero, suc, ◌+◌, ◌-◌, ◌*◌, ◌%◌, ◌^◌, ◌<◌, ◌≤◌, List, [], ◌∷◌, ◌++◌, reverse, get_or, take, sym, refl, ap, ◌∙◌, subst, ap₂, inl, inr, add_assoc, mod-eq_of_lt, mul_assoc, mul_comm, pow-suc, mul-zero, mul-add, arith, take-suc}
use mathlib.Core.List.{reverse_aux}
use native.Mathlib.Nat.{pow-zero, pow-succ', one-le-pow, add-mul-mod_self_left}
use lib.Arith.{digits_lt}
use lib.Seq.{take-nil}
use Rattle.std.proofs.lemmas.List.{get_or_past, take_all, reverse-append}
use Rattle.std.proofs.lemmas.Bool.{cases_lt}
use Rattle.cost.specs.Arithmetic.{plus}
use Rattle.cost.specs.declared.Cost.{Cost}
use Rattle.channel.specs.Meaning.{Meaning, Lawful, cost_of}
use Rattle.channel.specs.Windows.{window_number}
use Rattle.joining.specs.Laws.{Operations}
use Rattle.joining.specs.Costs.{cost_operations}
use Rattle.joining.proofs.Costs.{cost_laws}
use Rattle.trellis.specs.Sequences.{Sequence, reach, along}
use Rattle.trellis.proofs.Ends.{sequence_front, along_end}
use Rattle.burst.specs.Places.{prior_cost}
use Rattle.burst.specs.Sequences.{place_at, full_trellis, cost_trellis, total}
use Rattle.burst.specs.Own.{sum_below, last_symbols, own_window, own_cost, HistoryIsTheLastSymbols, TotalIsByOwnWindows}
use Rattle.burst.specs.declared.place.Place.{Place}
use Rattle.channel.proofs.Sizes.{two_symbols}

module _ (symbols : ℕ) where
  -- one symbol more is the oldest
  pub window_more : (n : ℕ) (seq : List ℕ) → window_number symbols (take (suc n) seq) ≡ window_number symbols (take n seq) + symbols ^ n * get_or seq n 0
  window_more zero [] = sym (ap (λ i. 0 + i) (mul-zero (symbols ^ 0)))
  window_more zero (a ∷ seq) = omega (arith, mul-zero symbols, ap (λ i. i * a) (pow-zero symbols))
  window_more (suc n) [] = sym (ap (λ i. 0 + i) (mul-zero (symbols ^ suc n)))
  window_more (suc n) (a ∷ seq) =
      let w : ℕ = window_number symbols (take n seq) in
      let oldest : ℕ = get_or seq n 0 in
      ap (λ i. a + symbols * i) (window_more n seq)
      ∙ ap (λ i. a + i) (mul-add symbols w (symbols ^ n * oldest))
      ∙ sym (add_assoc a (symbols * w) (symbols * (symbols ^ n * oldest)))
      ∙ ap (λ i. a + symbols * w + i) (sym (mul_assoc symbols (symbols ^ n) oldest) ∙ ap (λ i. i * oldest) (sym (pow-succ' symbols n)))

  -- n symbols make a number below M to the n
  pub window_below : (n : ℕ) (seq : List ℕ) → 0 < symbols → ((i : ℕ) → get_or seq i 0 < symbols) → window_number symbols (take n seq) < symbols ^ n
  window_below zero seq some below = omega (arith, pow-zero symbols)
  window_below (suc n) [] some below = one-le-pow (suc n) symbols some
  window_below (suc n) (a ∷ seq) some below =
      let before : window_number symbols (take n seq) < symbols ^ n = window_below n seq some (λ i. below (suc i)) in
      let whole = digits_lt before (below 0) in
      omega (arith, mul_comm symbols (window_number symbols (take n seq)), pow-suc symbols n)

  -- a symbol becomes the newest, and the oldest is dropped
  pub window_shifts : (n a : ℕ) (seq : List ℕ) → 0 < symbols → ((i : ℕ) → get_or (a ∷ seq) i 0 < symbols)
      → (a + symbols * window_number symbols (take n seq)) % symbols ^ n ≡ window_number symbols (take n (a ∷ seq))
  window_shifts n a seq some below =
      ap (λ w. w % symbols ^ n) (window_more n (a ∷ seq))
      ∙ add-mul-mod_self_left (window_number symbols (take n (a ∷ seq))) (symbols ^ n) _
      ∙ mod-eq_of_lt (window_below n (a ∷ seq) some below)

module _ {J : Type 0} (o : Operations J) (worth : Cost → J) (m : Meaning) (places : List Place) where
  -- from the history of some earlier symbols, the newest first
  reach_on : (past seq : List ℕ) → 0 < m.symbols → ((i : ℕ) → get_or past i 0 < m.symbols) → ((i : ℕ) → get_or seq i 0 < m.symbols)
      → reach (full_trellis o worth m places) (window_number m.symbols (take (m.memory - 1) past)) seq
      ≡ window_number m.symbols (take (m.memory - 1) (reverse_aux seq past))
  unfolding reach
  reach_on past [] some earlier below = refl
  reach_on past (a ∷ seq) some earlier below =
      let newest : (i : ℕ) → get_or (a ∷ past) i 0 < m.symbols = starts (below 0) earlier in
      ap (λ h. reach (full_trellis o worth m places) h seq) (window_shifts m.symbols (m.memory - 1) a past some newest)
      ∙ reach_on (a ∷ past) seq some newest (λ i. below (suc i))
    where
      starts : a < m.symbols → ((i : ℕ) → get_or past i 0 < m.symbols) → (i : ℕ) → get_or (a ∷ past) i 0 < m.symbols
      starts first rest zero = first
      starts first rest (suc i) = rest i

  -- under any joining
  pub history_is : Lawful m → (k : ℕ) (seq : List ℕ) → Sequence m.symbols k seq
      → reach (full_trellis o worth m places) 0 seq ≡ last_symbols m (m.memory - 1) seq
  history_is lawful k seq sequence =
      let some : 0 < m.symbols = omega (arith, two_symbols m lawful) in
      let below : (i : ℕ) → get_or seq i 0 < m.symbols =
      λ i. elim (cases_lt i k) [
        | inl inside ↦ sequence.below i inside
        | inr past ↦ subst (λ a. a < m.symbols) (sym (get_or_past seq i 0 (omega (arith, sequence.long)))) some
      ] in
      ap (λ (past : List ℕ). reach (full_trellis o worth m places) (window_number m.symbols past) seq) (sym (take-nil (m.memory - 1)))
      ∙ reach_on [] seq some (λ i. some) below

pub history_is_the_last_symbols : HistoryIsTheLastSymbols
history_is_the_last_symbols m lawful places k seq sequence = history_is cost_operations (λ c. c) m places lawful k seq sequence

module _ (m : Meaning) (lawful : Lawful m) (places : List Place) (k : ℕ) (seq : List ℕ) (sequence : Sequence m.symbols k seq) where
  -- so far
  total_front : (n : ℕ) → n ≤ k → total m places (take n seq) ≡ sum_below n (own_cost m places seq)
  unfolding sum_below along
  total_front zero le = refl
  total_front (suc n) le =
      let a : ℕ = get_or seq n 0 in
      let front : List ℕ = take n seq in
      let ahead = sequence_front m.symbols k n seq sequence (omega arith) in
      let more : take (suc n) seq ≡ front ++ (a ∷ []) = take-suc seq n 0 (omega (arith, sequence.long)) in
      let whole : suc (m.memory - 1) ≡ m.memory = omega (arith, lawful.remembers) in
      let window : a + m.symbols * reach (cost_trellis m places) 0 front ≡ own_window m seq n =
      ap (λ h. a + m.symbols * h) (history_is_the_last_symbols m lawful places n front ahead)
      ∙ ap₂ (λ l past. window_number m.symbols (take l past)) whole (sym (ap reverse more ∙ reverse-append front (a ∷ []))) in
      ap (total m places) more
      ∙ along_end (cost_trellis m places) cost_laws 0 0 n front a (omega (arith, ahead.long))
      ∙ ap₂ (λ c w. plus c (plus (cost_of m (place_at places n).sample w) (prior_cost (place_at places n).priors a))) (total_front n (omega arith)) window

pub total_is_by_own_windows : TotalIsByOwnWindows
total_is_by_own_windows m lawful places k seq sequence =
    ap (total m places) (sym (take_all k seq (omega (arith, sequence.long)))) ∙ total_front m lawful places k seq sequence k (omega arith)

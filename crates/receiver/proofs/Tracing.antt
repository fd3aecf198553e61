-- One place back along survivors.
use Rattle.std.proofs.Common.{◌≡◌, ℕ, suc, ◌-◌, ◌<◌, ◌≤◌, List, [], ◌∷◌, ◌++◌, length, take, drop, set, Some, None, Option, sym, ap, ◌∙◌, subst, ap₂, append_assoc, add-one, arith}
use Rattle.std.proofs.lemmas.List.{drop-set}
use Rattle.cost.specs.declared.Cost.TheVariants.{Barred}
use Rattle.channel.specs.Meaning.{Meaning, Lawful}
use Rattle.burst.specs.Sequences.{place_at}
use Rattle.recursions.specs.Answers.{trace, trace_by}
use Rattle.recursions.specs.Depths.{states}
use Rattle.recursions.specs.Forward.{Cell, cell_at, forward}
use Rattle.recursions.proofs.Locality.{forward_at_lem}
use Rattle.recursions.proofs.Survivors.{IsSurvivor, survivor_of}
use Rattle.columns.specs.Cells.{entry_at, survivor_pair}
use Rattle.columns.specs.declared.column.Survivor.{Survivor}
use Rattle.columns.proofs.Sums.{cell_at_lem}
use Rattle.receiver.specs.Bursts.{Kept, Fresh, places_of, forward_at}
use Rattle.receiver.specs.Readings.{Tracing}
use Rattle.receiver.specs.Sound.{Sound}
use Rattle.receiver.specs.declared.inner.Burst.{Burst}

module _ (b : Burst) (kept : Kept b) (fresh : Fresh b) (m : Meaning) (lawful : Lawful m) (sound : Sound m b) (j state : ℕ) (within : suc j ≤ b.count)
    (low : state < states m b.depth) (some : (cell_at (forward m b.depth (places_of b) (suc j)) state).cost ≡ Barred → ⊥) where
  abbrev q : ℕ
  q = b.depth

  -- the stored survivor is that of the recursion
  stored : survivor_pair ((entry_at (forward_at b (suc j)) state).survivor) ≡ (cell_at (forward m q (places_of b) (suc j)) state).survivor
  stored =
      sym (ap (λ (c : Cell). c.survivor) (cell_at_lem (states m q) (forward_at b (suc j)) state low))
      ∙ ap (λ (cells : List Cell). (cell_at cells state).survivor) (sound.forward (suc j) (omega (arith, fresh.forward)))

  -- which exists
  pub survived : (s : ℕ) × (a : ℕ) × IsSurvivor m q (place_at (places_of b) j) (forward m q (places_of b) j) state s a
      × ((cell_at (forward m q (places_of b) j) s).cost ≡ Barred → ⊥)
  survived = survivor_of m lawful q (places_of b) j state low some

  cell_survivor : (cell_at (forward m q (places_of b) (suc j)) state).survivor ≡ Some (survived.0, survived.1)
  cell_survivor = ap (λ (c : Cell). c.survivor) (forward_at_lem m q (places_of b) j state low) ∙ survived.2.stored

  pub stored_is : survivor_pair ((entry_at (forward_at b (suc j)) state).survivor) ≡ Some (survived.0, survived.1)
  stored_is = stored ∙ cell_survivor

  pub traced_back : trace m q (places_of b) (suc j) state ≡ trace m q (places_of b) j survived.0 ++ (survived.1 ∷ [])
  unfolding trace
  traced_back = ap (trace_by (trace m q (places_of b) j)) cell_survivor

never : (s a : ℕ) → ◌≡◌ {A = Option (ℕ × ℕ)} None (Some (s, a)) → ⊥
never s a e = let no : ◌≡◌ {A = ℕ} 0 1 = cc in omega arith

state_same : (x y s a : ℕ) → ◌≡◌ {A = Option (ℕ × ℕ)} (Some (x, y)) (Some (s, a)) → x ≡ s
state_same x y s a e = ap (λ (o : Option (ℕ × ℕ)). first_of o) e
  where
    first_of : Option (ℕ × ℕ) → ℕ
    first_of None = 0
    first_of (Some p) = p.0

symbol_same : (x y s a : ℕ) → ◌≡◌ {A = Option (ℕ × ℕ)} (Some (x, y)) (Some (s, a)) → y ≡ a
symbol_same x y s a e = ap (λ (o : Option (ℕ × ℕ)). second_of o) e
  where
    second_of : Option (ℕ × ℕ) → ℕ
    second_of None = 0
    second_of (Some p) = p.1

module _ (b : Burst) (kept : Kept b) (fresh : Fresh b) (start : ℕ) (list : List ℕ) (j state : ℕ) (within : suc j ≤ b.count) (room : b.count ≤ length list)
    (tracing : Tracing b start list (suc j) state) where
  -- without a survivor no burst is sound
  pub stranded : (entry_at (forward_at b (suc j)) state).survivor ≡ None → (m : Meaning) → Lawful m → Sound m b → start < states m b.depth
      → ((cell_at (forward m b.depth (places_of b) b.count) start).cost ≡ Barred → ⊥) → ⊥
  stranded none m lawful sound lt some =
      let here = tracing m lawful sound lt some in
      never _ _ (ap survivor_pair (sym none) ∙ stored_is b kept fresh m lawful sound j state within here.0 here.1)

  pub traced_on : (v : Survivor) → (entry_at (forward_at b (suc j)) state).survivor ≡ Some v → Tracing b start (set list j v.symbol) j v.state
  traced_on v is m lawful sound lt some =
      let q : ℕ = b.depth in
      let here = tracing m lawful sound lt some in
      let back = survived b kept fresh m lawful sound j state within here.0 here.1 in
      let same = ap survivor_pair (sym is) ∙ stored_is b kept fresh m lawful sound j state within here.0 here.1 in
      let from : v.state ≡ back.0 = state_same _ _ _ _ same in
      let by : v.symbol ≡ back.1 = symbol_same _ _ _ _ same in
      let left : b.count - j ≡ suc (b.count - suc j) = omega arith in (
        subst (λ (s : ℕ). s < states m q) (sym from) back.2.state,
        subst (λ (s : ℕ). (cell_at (forward m q (places_of b) j) s).cost ≡ Barred → ⊥) (sym from) back.3,
        here.2
            ∙ ap (λ (xs : List ℕ). xs ++ take (b.count - suc j) (drop (suc j) list)) (traced_back b kept fresh m lawful sound j state within here.0 here.1)
            ∙ append_assoc (trace m q (places_of b) j back.0) (back.1 ∷ []) (take (b.count - suc j) (drop (suc j) list))
            ∙ ap₂ (λ (s a : ℕ). trace m q (places_of b) j s ++ (a ∷ take (b.count - suc j) (drop (suc j) list))) (sym from) (sym by)
            ∙ ap (λ (xs : List ℕ). trace m q (places_of b) j v.state ++ xs)
            (sym (ap₂ (λ (n : ℕ) (xs : List ℕ). take n xs) left (drop-set list j v.symbol (omega arith) ∙ ap (λ (n : ℕ). v.symbol ∷ drop n list) (add-one j)))),
      )

-- The front of a sequence, and one symbol more at its end: where it leads, and what it is worth.
use Rattle.std.proofs.Common.{◌≡◌, ℕ, suc, ◌+◌, ◌<◌, ◌≤◌, List, [], ◌∷◌, ◌++◌, length, get_or, take, sym, refl, ap, ◌∙◌, subst, inl, inr, arith}
use Rattle.std.proofs.lemmas.List.{length_push, length-take-le, get_or_push, get_or-take, get_or_append_left}
use Rattle.std.proofs.lemmas.Bool.{cases_eq}
use Rattle.joining.specs.Laws.{Laws}
use Rattle.trellis.specs.Trellis.{Trellis}
use Rattle.trellis.specs.Sequences.{Sequence, reach, along}

pub sequence_end : (m k a : ℕ) (seq : List ℕ) → Sequence m k seq → a < m → Sequence m (suc k) (seq ++ (a ∷ []))
sequence_end m k a seq s la = record { long = omega (arith, length_push seq a, s.long); below = below }
  where
    below : (i : ℕ) → i < suc k → get_or (seq ++ (a ∷ [])) i 0 < m
    below i lt =
        elim (cases_eq (length seq) i) [
          | inl last ↦ subst (λ b. b < m) (sym (get_or_push seq a 0 i last)) la
          | inr before ↦
              let inside : i < length seq = omega (arith, s.long) in
              subst (λ b. b < m) (sym (get_or_append_left seq (a ∷ []) 0 i inside)) (s.below i (omega (arith, s.long)))
        ]

pub sequence_front : (m k n : ℕ) (seq : List ℕ) → Sequence m k seq → n ≤ k → Sequence m n (take n seq)
sequence_front m k n seq s le = record {
  long = length-take-le n seq (omega (arith, s.long));
  below = λ i lt. subst (λ b. b < m) (sym (get_or-take n seq i 0 lt)) (s.below i (omega arith));
}

module _ {J : Type 0} (t : Trellis J) where
  pub reach_end : (s : ℕ) (seq : List ℕ) (a : ℕ) → reach t s (seq ++ (a ∷ [])) ≡ t.next (reach t s seq) a
  unfolding reach
  reach_end s [] a = refl
  reach_end s (b ∷ seq) a = reach_end (t.next s b) seq a

  pub along_end : Laws t.operations → (k s p : ℕ) (seq : List ℕ) (a : ℕ) → k + length seq ≡ p
      → along t k s (seq ++ (a ∷ [])) ≡ t.operations.follow (along t k s seq) (t.weight p (reach t s seq) a)
  unfolding reach along
  along_end laws k s p [] a at =
      let here : k ≡ p = omega arith in
      laws.follow_unit _ ∙ ap (λ i. t.weight i s a) here ∙ sym (laws.unit_follow _)
  along_end laws k s p (b ∷ seq) a at =
      ap (t.operations.follow (t.weight k s b)) (along_end laws (suc k) (t.next s b) p seq a (omega arith))
      ∙ sym (laws.follow_assoc _ _ _)

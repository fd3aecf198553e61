-- The forward step from the ways into a state: all pairs in rows of one state each are all pairs in rows of one oldest symbol each.
use Rattle.std.proofs.Common.{◌≡◌, ℕ, ◌+◌, ◌*◌, ◌/◌, ◌%◌, ◌<◌, cond, eqb, sym, ap, ◌∙◌, ap₂, inl, inr, mul_comm, arith}
use lib.Arith.{digits_div, digits_mod}
use Rattle.std.proofs.lemmas.Bool.{cases_eq, eq-eqb, ne_eqb}
use Rattle.joining.specs.Laws.{Laws}
use Rattle.trellis.specs.Trellis.{Trellis}
use Rattle.trellis.specs.Sequences.{join_below}
use Rattle.trellis.specs.Columns.{forward}
use Rattle.trellis.specs.Shifts.{Shifts, ForwardGathers}
use Rattle.trellis.proofs.Below.{below_cong, below_rows, below_only}

pub eqb_comm : (a b : ℕ) → eqb a b ≡ eqb b a
eqb_comm a b =
    elim (cases_eq a b) [
      | inl e ↦ eq-eqb a b e ∙ sym (eq-eqb b a (sym e))
      | inr e ↦ ne_eqb a b e ∙ sym (ne_eqb b a (λ h. e (sym h)))
    ]

module _ {J : Type 0} (t : Trellis J) (laws : Laws t.operations) where
  pub gathers : Shifts t → (u : ℕ) (g : ℕ → ℕ → J) → u < t.states
      → join_below t.operations t.states (λ s. join_below t.operations t.symbols (λ a. cond (eqb (t.next s a) u) (g s a) t.operations.none))
      ≡ join_below t.operations t.symbols (λ j. g ((u + t.states * j) / t.symbols) ((u + t.states * j) % t.symbols))
  gathers shifts u g lu =
      let o = t.operations in
      let n = t.states in
      let m = t.symbols in
      let f : ℕ → J = λ w. cond (eqb (w % n) u) (g (w / m) (w % m)) o.none in
      let pair : (s a : ℕ) → a + m * s ≡ s * m + a = λ s a. omega arith in
      let window : (s a : ℕ) → s < n → a < m → cond (eqb (t.next s a) u) (g s a) o.none ≡ f (s * m + a) =
      λ s a ls la. ap (λ v. cond (eqb v u) (g s a) o.none) (shifts s a ls la ∙ ap (λ w. w % n) (pair s a))
      ∙ ap₂ (λ i j. cond (eqb ((s * m + a) % n) u) (g i j) o.none) (sym (digits_div s la)) (sym (digits_mod s la)) in
      let state : (h v : ℕ) → v < n → f (h * n + v) ≡ cond (eqb u v) (g ((h * n + v) / m) ((h * n + v) % m)) o.none =
      λ h v lv. ap (λ b. cond b (g ((h * n + v) / m) ((h * n + v) % m)) o.none) (ap (λ i. eqb i u) (digits_mod h lv) ∙ eqb_comm v u) in
      let turned : (h : ℕ) → h * n + u ≡ u + n * h = λ h. omega arith in
      below_cong o n _ _ (λ s ls. below_cong o m _ _ (λ a la. window s a ls la))
      ∙ sym (below_rows o laws n m f)
      ∙ ap (λ i. join_below o i f) (mul_comm n m)
      ∙ below_rows o laws m n f
      ∙ below_cong o m _ _ (λ h lh.
      below_cong o n _ _ (state h)
      ∙ below_only o laws n u (λ v. g ((h * n + v) / m) ((h * n + v) % m)) lu
      ∙ ap (λ w. g (w / m) (w % m)) (turned h))

pub forward_gathers : (J : Type 0) → ForwardGathers J
unfolding forward
forward_gathers J t sound shifts k u lu =
    gathers t sound.laws shifts u (λ s a. t.operations.follow (forward t k s) (t.weight k s a)) lu

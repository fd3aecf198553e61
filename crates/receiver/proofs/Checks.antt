-- The first of up to three checks that holds names the refusal.
use Rattle.std.proofs.Common.{◌≡◌, ℕ, Bool, true, false, cond, Some, None, Option, sym, ◌∙◌}
use Rattle.std.proofs.lemmas.Bool.{cond-true, cond-false}

-- what three checks name, with what is named if all fail
abbrev pub three : Bool → Bool → Bool → ℕ → ℕ → ℕ → Option ℕ
three a b c i j k = cond a (Some i) (cond b (Some j) (cond c (Some k) None))

module _ (a b c : Bool) (i j k : ℕ) where
  pub first : a ≡ true → Some i ≡ three a b c i j k
  first holds = sym (cond-true a (Some i) (cond b (Some j) (cond c (Some k) None)) holds)

  pub second : a ≡ false → b ≡ true → Some j ≡ three a b c i j k
  second fails holds =
      sym (cond-false a (Some i) (cond b (Some j) (cond c (Some k) None)) fails ∙ cond-true b (Some j) (cond c (Some k) None) holds)

  pub third : a ≡ false → b ≡ false → c ≡ true → Some k ≡ three a b c i j k
  third fails fails' holds =
      sym (cond-false a (Some i) (cond b (Some j) (cond c (Some k) None)) fails ∙ cond-false b (Some j) (cond c (Some k) None) fails' ∙ cond-true c (Some k) None holds)

  pub passes : a ≡ false → b ≡ false → c ≡ false → None ≡ three a b c i j k
  passes fails fails' fails'' =
      sym (cond-false a (Some i) (cond b (Some j) (cond c (Some k) None)) fails ∙ cond-false b (Some j) (cond c (Some k) None) fails' ∙ cond-false c (Some k) None fails'')

pub one_passes : (a : Bool) (i : ℕ) → a ≡ false → None ≡ cond a (Some i) None
one_passes a i fails = sym (cond-false a (Some i) None fails)

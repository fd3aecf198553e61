-- What is held of a line of taps loads as the line itself does.
use Rattle.std.specs.Prelude.{◌≡◌, ℕ, ◌<◌, ◌≤◌, Bool, true, cond, not, ◌&&◌, ◌⊎◌, List, [], ◌∷◌, map, length, take, ℤ, pos, negsuc, Some, None, Option, nat_le, refl}
use Rattle.std.proofs.Common.{sym, ap, ◌∙◌, inl, inr, arith, length-take}
use Rattle.std.specs.Option.{option_map}
use Rattle.std.specs.List.{AllByRecursion}
use Rattle.std.proofs.lemmas.List.{take_all, length-map}
use Rattle.std.proofs.lemmas.Int.{ints}
use Rattle.std.proofs.lemmas.Bool.{cases_lt}
use Rattle.std.proofs.lemmas.Bool.Decides.{nat_tests}
use Rattle.channel.specs.Distances.{in_noise_range}
use Rattle.numerals.specs.Numbers.{SevenDigits}
use Rattle.taps.specs.Held.{taps_of, noise_of}
use Rattle.taps.specs.Rule.{tap_in_range, each_in_range, load_refusal}
use Rattle.taps.specs.declared.Taps.{Taps as Channel}
use Rattle.forms.specs.Forms.{Form, taps_form, table_form, code_form, depth_form, place_form}
use Rattle.forms.specs.Lines.{nearest, held}
use Rattle.text.specs.declared.fault.Layer.TheVariants as layers
use Rattle.kinds.specs.Rules.{line_refusal, Loads}
use Rattle.kinds.specs.Taps.{of_taps, taps_rule}

near : (z : ℤ) → tap_in_range (nearest z) ≡ tap_in_range z
near z = grind (arith, ints)

near_same : (z : ℤ) → tap_in_range z ≡ true → nearest z ≡ z
near_same z h = grind (arith, ints)

first : (a b : Bool) → (a && b) ≡ true → a ≡ true
first a b h = grind (arith, nat_tests)

second : (a b : Bool) → (a && b) ≡ true → b ≡ true
second a b h = grind (arith, nat_tests)

all_near : (ts : List ℤ) → each_in_range (map nearest ts) ≡ each_in_range ts
all_near [] = refl
all_near (t ∷ ts) = ap (λ b. b && each_in_range (map nearest ts)) (near t) ∙ ap (λ b. tap_in_range t && b) (all_near ts)

all_same : (ts : List ℤ) → each_in_range ts ≡ true → map nearest ts ≡ ts
all_same [] h = refl
all_same (t ∷ ts) h =
    let a : nearest t ≡ t = near_same t (first (tap_in_range t) (each_in_range ts) h) in
    let b : map nearest ts ≡ ts = all_same ts (second (tap_in_range t) (each_in_range ts) h) in
    cc

-- the refusal by the number of taps, whether they are in range, and the noise
abbrev refused : ℕ → Bool → Bool → Option ℕ
refused count ranged noise = cond (not (nat_le 1 count && nat_le count 8)) (Some 1) (cond (not (ranged && noise)) (Some 2) None)

too_many : (count : ℕ) (ranged noise : Bool) → 8 < count → refused count ranged noise ≡ Some 1
too_many count ranged noise h = grind (arith, nat_tests)

loaded : (count : ℕ) (ranged noise : Bool) → refused count ranged noise ≡ None → (count ≤ 8) × (ranged ≡ true)
loaded count ranged noise h = grind (arith, nat_tests)

loading : (count : ℕ) (ranged noise : Bool) → 1 ≤ count → count ≤ 8 → ranged ≡ true → noise ≡ true → refused count ranged noise ≡ None
loading count ranged noise some few r n = grind (arith, nat_tests)

pub same_refusal : (ts : List ℤ) (noise : ℤ) → load_refusal (map nearest (take 9 ts)) noise ≡ load_refusal ts noise
same_refusal ts noise = by_length (cases_lt 8 (length ts))
  where
    by_length : (8 < length ts) ⊎ (length ts ≤ 8) → load_refusal (map nearest (take 9 ts)) noise ≡ load_refusal ts noise
    by_length (inl long) =
        too_many (length (map nearest (take 9 ts))) (each_in_range (map nearest (take 9 ts))) (in_noise_range noise) (simp (length-map, length-take) (omega arith))
        ∙ sym (too_many (length ts) (each_in_range ts) (in_noise_range noise) long)
    by_length (inr short) =
        ap (λ us. load_refusal (map nearest us) noise) (take_all 9 ts (omega arith))
        ∙ ap (λ n. refused n (each_in_range (map nearest ts)) (in_noise_range noise)) (length-map ts nearest)
        ∙ ap (λ b. refused (length ts) b (in_noise_range noise)) (all_near ts)

pub same_taps : (ts : List ℤ) (noise : ℤ) → load_refusal ts noise ≡ None → map nearest (take 9 ts) ≡ ts
same_taps ts noise h =
    let p = loaded (length ts) (each_in_range ts) (in_noise_range noise) h in
    ap (map nearest) (take_all 9 ts (omega arith)) ∙ all_same ts p.1

no_form : (noise : ℤ) (xs : List ℤ) (f : Form) → taps_form noise xs ≡ held f → (n : ℤ) × (ts : List ℤ) × (f ≡ taps_form n ts) × (noise ≡ n) × (xs ≡ map nearest (take 9 ts))
no_form noise xs (taps_form n ts) e = (n, ts, refl, cc, cc)
no_form noise xs (table_form n m es) e = let z : ◌≡◌ {A = ℕ} 0 1 = cc in absurd (omega arith)
no_form noise xs (code_form m x y) e = let z : ◌≡◌ {A = ℕ} 0 1 = cc in absurd (omega arith)
no_form noise xs (depth_form d) e = let z : ◌≡◌ {A = ℕ} 0 1 = cc in absurd (omega arith)
no_form noise xs (place_form x y ps) e = let z : ◌≡◌ {A = ℕ} 0 1 = cc in absurd (omega arith)

line_is : (f : Form) (n : ℤ) (ts : List ℤ) → f ≡ taps_form n ts → line_refusal taps_rule f ≡ option_map (λ k. (layers.Channel, k)) (load_refusal ts n)
line_is f n ts e = ap (line_refusal taps_rule) e

-- a line that loads, and one that is refused
spells : (noise : ℤ) (xs : List ℤ) (f : Form) (c : Channel) → taps_form noise xs ≡ held f → load_refusal xs noise ≡ None → taps_of c ≡ xs → pos (noise_of c) ≡ noise
    → (line_refusal taps_rule f ≡ None) × (of_taps c ≡ f)
spells noise xs f c e none taps loud =
    let p = no_form noise xs f e in
    let n = p.0 in
    let ts = p.1 in
    let f-is : f ≡ taps_form n ts = p.2 in
    let n-is : noise ≡ n = p.3 in
    let xs-is : xs ≡ map nearest (take 9 ts) = p.4 in
    let all : load_refusal ts n ≡ None = sym (same_refusal ts n) ∙ ap (λ us. load_refusal us n) (sym xs-is) ∙ ap (load_refusal xs) (sym n-is) ∙ none in
    let same : map nearest (take 9 ts) ≡ ts = same_taps ts n all in
    (line_is f n ts f-is ∙ ap (option_map (λ k. (layers.Channel, k))) all, cc)

refuses : (noise : ℤ) (xs : List ℤ) (f : Form) (k : ℕ) → taps_form noise xs ≡ held f → load_refusal xs noise ≡ Some k → line_refusal taps_rule f ≡ Some (layers.Channel, k)
refuses noise xs f k e some =
    let p = no_form noise xs f e in
    let n = p.0 in
    let ts = p.1 in
    let n-is : noise ≡ n = p.3 in
    let xs-is : xs ≡ map nearest (take 9 ts) = p.4 in
    let all : load_refusal ts n ≡ Some k = sym (same_refusal ts n) ∙ ap (λ us. load_refusal us n) (sym xs-is) ∙ ap (load_refusal xs) (sym n-is) ∙ some in
    line_is f n ts p.2 ∙ ap (option_map (λ j. (layers.Channel, j))) all

-- the same, of a number and a list that are handed on
pub spelled : (noise given : ℤ) (xs ys : List ℤ) (f : Form) (c : Channel) → taps_form noise xs ≡ held f → given ≡ noise → ys ≡ xs → None ≡ load_refusal ys given
    → taps_of c ≡ ys → pos (noise_of c) ≡ given → (line_refusal taps_rule f ≡ None) × (of_taps c ≡ f)
spelled noise given xs ys f c e gn yx none taps loud =
    spells noise xs f c e (sym (ap (load_refusal ys) gn ∙ ap (λ l. load_refusal l noise) yx) ∙ sym none) (taps ∙ yx) (loud ∙ gn)

pub refused_by_lem : (noise given : ℤ) (xs ys : List ℤ) (f : Form) (k : ℕ) → taps_form noise xs ≡ held f → given ≡ noise → ys ≡ xs → Some k ≡ load_refusal ys given
    → line_refusal taps_rule f ≡ Some (layers.Channel, k)
refused_by_lem noise given xs ys f k e gn yx some = refuses noise xs f k e (sym (ap (load_refusal ys) gn ∙ ap (λ l. load_refusal l noise) yx) ∙ sym some)

-- the line of a channel loads
small : (z : ℤ) → tap_in_range z ≡ true → SevenDigits z
small (pos n) h = grind (arith, ints)
small (negsuc n) h = grind (arith, ints)

all_small : (ts : List ℤ) → each_in_range ts ≡ true → AllByRecursion SevenDigits ts
all_small [] h = tt
all_small (t ∷ ts) h = (small t (first (tap_in_range t) (each_in_range ts) h), all_small ts (second (tap_in_range t) (each_in_range ts) h))

loud : (n : ℕ) → 1 ≤ n → n ≤ 1000000 → in_noise_range (pos n) ≡ true
loud n some most = grind (arith, ints)

pub taps_load : (c : Channel) → Loads taps_rule (of_taps c)
taps_load c =
    let some : 1 ≤ length (taps_of c) = c.some in
    let few : length (taps_of c) ≤ 8 = c.few in
    record {
      lawful = (omega arith, all_small (taps_of c) c.ranged, some);
      taken = ap (option_map (λ k. (layers.Channel, k))) (loading (length (taps_of c)) (each_in_range (taps_of c)) (in_noise_range (pos (noise_of c))) some few c.ranged (loud (noise_of c) (omega arith) (omega arith)));
    }

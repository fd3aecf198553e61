-- The text of a receiver reads back as what stands in it.
use Rattle.std.proofs.Common.{◌≡◌, ℕ, ◌+◌, ◌*◌, ◌<◌, ◌≤◌, Bool, true, false, cond, not, ◌&&◌, leb, ◌⊎◌, List, [], ◌∷◌, ◌++◌, map, length, take, ℤ, pos, negsuc, nat_abs, None, Ok, codes, sym, refl, ap, ◌∙◌, subst, inl, inr, append_assoc, arith, length-append, eq-eqb}
use Rattle.std.specs.Fmt.{signed_decimal}
use Rattle.std.specs.List.{flat_map, AllByRecursion}
use Rattle.std.proofs.lemmas.Fmt.{length_signed_le, length-decimal-le}
use Rattle.std.proofs.lemmas.List.{append-nil, length_push}
use Rattle.std.proofs.lemmas.Int.{ints}
use Rattle.std.proofs.lemmas.Bool.Decides.{nat_tests}
use Rattle.channel.specs.Meaning.{Meaning, Lawful as LawfulMeaning, taken}
use Rattle.channel.specs.Refusals.{first_of}
use Rattle.channel.specs.Samples.{between, in_range}
use Rattle.channel.specs.declared.sample.Sample.{Sample}
use Rattle.burst.specs.Places.{priors_allowed}
use Rattle.burst.specs.declared.place.Place.{Place}
use Rattle.channel.proofs.Sizes.{short_memory}
use Rattle.recursions.specs.Depths.{depth_allowed}
use Rattle.receiver.specs.Sound.{Fits}
use Rattle.numerals.specs.Numbers.{SevenDigits}
use Rattle.forms.specs.Forms.{Form, taps_form, table_form, code_form, depth_form, place_form, text_of, Lawful, feed, listed, prior_text}
use Rattle.forms.specs.declared.prior.Prior.{Prior}
use Rattle.text.specs.declared.fault.Layer.TheVariants.{Text}
use Rattle.kinds.specs.Rules.{Rule, line_refusal, Loads}
use Rattle.reading.specs.Places.{all_fit, priors_of, place_of, place_refusal}
use Rattle.reading.specs.Steps.{bare, tuned, ready, blamed, unless, received, a_channel, saying, step}
use Rattle.reading.specs.Texts.{Runs, ReadsText}
use Rattle.writing.specs.Written.{of_prior, of_depth, of_place, places_text}
use Rattle.transcript.proofs.Priors.{Kept, kept}

-- a channel line that loads says a channel
channel_saying : (k : Rule) (f : Form) → line_refusal k f ≡ None → saying f ≡ a_channel f
channel_saying k (taps_form a b) h = refl
channel_saying k (table_form a b c) h = refl
channel_saying k (code_form a b c) h = refl
channel_saying k (depth_form z) h = let y : ◌≡◌ {A = ℕ} 0 1 = cc in absurd (omega arith)
channel_saying k (place_form a b c) h = let y : ◌≡◌ {A = ℕ} 0 1 = cc in absurd (omega arith)

first_step : (k : Rule) (f : Form) → line_refusal k f ≡ None → step k 1 bare f ≡ Ok (tuned f)
first_step k f h = first_is f (channel_saying k f h) ∙ ap (λ o. unless o 1 (Ok (tuned f))) h
  where
    first_is : (f : Form) → saying f ≡ a_channel f → step k 1 bare f ≡ unless (line_refusal k f) 1 (Ok (tuned f))
    first_is (taps_form a b) e = refl
    first_is (table_form a b c) e = refl
    first_is (code_form a b c) e = refl
    first_is (depth_form z) e = let y : ◌≡◌ {A = ℕ} 0 1 = cc in absurd (omega arith)
    first_is (place_form a b c) e = let y : ◌≡◌ {A = ℕ} 0 1 = cc in absurd (omega arith)

second_step : (k : Rule) (f : Form) (q : ℕ) → depth_allowed (k.meaning f) q ≡ true → step k 2 (tuned f) (of_depth q) ≡ Ok (ready f q [])
second_step k f q h = ap (λ b. unless (received (first_of ((not b, 7) ∷ []))) 2 (Ok (ready f q []))) h

-- a place that fits
in_front : (a b : Bool) → (a && b) ≡ true → a ≡ true
in_front a b h = grind (arith, nat_tests)

behind : (a b : Bool) → (a && b) ≡ true → b ≡ true
behind a b h = grind (arith, nat_tests)

small : (z : ℤ) → between (negsuc 2047) (pos 2047) z ≡ true → nat_abs z ≤ 2048
small (pos n) h = grind (arith, ints)
small (negsuc n) h = grind (arith, ints)

first_small : (m : Meaning) (z : Sample) → taken m z ≡ true → nat_abs z.first ≤ 2048
first_small m z h = small z.first (in_front (between (negsuc 2047) (pos 2047) z.first) (between (negsuc 2047) (pos 2047) z.second) (in_front (in_range z) (m.takes z) h))

second_small : (m : Meaning) (z : Sample) → taken m z ≡ true → nat_abs z.second ≤ 2048
second_small m z h = small z.second (behind (between (negsuc 2047) (pos 2047) z.first) (between (negsuc 2047) (pos 2047) z.second) (in_front (in_range z) (m.takes z) h))

passes : (full heard good : Bool) → full ≡ false → heard ≡ true → good ≡ true → first_of ((full, 3) ∷ ((not heard, 4) ∷ ((not good, 5) ∷ []))) ≡ None
passes full heard good f h g = grind (arith, nat_tests)

room : (n : ℕ) → n < 128 → leb 128 n ≡ false
room n h = grind (arith, nat_tests)

both : (a b : Bool) → a ≡ true → b ≡ true → (a && b) ≡ true
both a b p q = grind (arith, nat_tests)

-- the kind has as many symbol values as its meaning
pub record Sized (k : Rule) (f : Form) : Type 0 where
  pub symbols : (k.meaning f).symbols ≡ k.symbols
  pub two_or_four : (k.symbols ≡ 2) ⊎ (k.symbols ≡ 4)

kept_priors : (k : Rule) (f : Form) (p : Place) → Sized k f → Fits (k.meaning f) p → Kept k.symbols p.priors (map of_prior (take k.symbols p.priors.numbers))
kept_priors k f p s h = kept k.symbols p.priors s.two_or_four (subst (λ n. priors_allowed n p.priors ≡ true) s.symbols h.priors)

place_step : (k : Rule) (n : ℕ) (f : Form) (q : ℕ) (done : List Place) (p : Place) → Sized k f → Fits (k.meaning f) p → length done < 128
    → step k n (ready f q done) (of_place k.symbols p) ≡ Ok (ready f q (done ++ (p ∷ [])))
place_step k n f q done p s h lt =
    let ps = map of_prior (take k.symbols p.priors.numbers) in
    let x = p.sample.first in
    let y = p.sample.second in
    let g = kept_priors k f p s h in
    let is : place_of x y ps ≡ p = λ j. record { sample = p.sample; priors = g.same j } in
    let good : (all_fit ps && priors_allowed (k.meaning f).symbols (priors_of ps)) ≡ true =
    both (all_fit ps) (priors_allowed (k.meaning f).symbols (priors_of ps)) g.fit (ap (priors_allowed (k.meaning f).symbols) g.same ∙ h.priors) in
    let none : place_refusal (k.meaning f) (length done) x y ps ≡ None =
    passes (leb 128 (length done)) (taken (k.meaning f) p.sample) (all_fit ps && priors_allowed (k.meaning f).symbols (priors_of ps)) (room (length done) lt) h.sample good in
    ap (λ b. cond b (unless (received (place_refusal (k.meaning f) (length done) x y ps)) n (Ok (ready f q (done ++ (place_of x y ps ∷ []))))) (blamed n Text 12)) (eq-eqb (length ps) k.symbols g.long)
    ∙ ap (λ o. unless (received o) n (Ok (ready f q (done ++ (place_of x y ps ∷ []))))) none
    ∙ ap (λ r. Ok (ready f q (done ++ (r ∷ [])))) is

run_places : (k : Rule) (f : Form) (q : ℕ) (s : Sized k f) (n : ℕ) (done todo : List Place) → AllByRecursion (Fits (k.meaning f)) todo → length done + length todo ≤ 128
    → Runs k n (ready f q done) (map (of_place k.symbols) todo) (ready f q (done ++ todo))
run_places k f q s n done [] h few = ap (ready f q) (sym (append-nil done))
run_places k f q s n done (p ∷ todo) h few = (
  ready f q (done ++ (p ∷ [])),
  place_step k n f q done p s h.0 (omega arith),
  subst (λ l. Runs k (n + 1) (ready f q (done ++ (p ∷ []))) (map (of_place k.symbols) todo) (ready f q l)) (append_assoc done (p ∷ []) todo)
      (run_places k f q s (n + 1) (done ++ (p ∷ [])) todo h.1 (omega (arith, length_push done p))),
)

-- its line is lawful
sevenths : (z : ℤ) → nat_abs z ≤ 2048 → SevenDigits z
sevenths z h = omega arith

lengths : (n m : ℕ) → n ≡ m → (m ≡ 2) ⊎ (m ≡ 4) → (n ≡ 2) ⊎ (n ≡ 4)
lengths n m e (inl h) = inl (e ∙ h)
lengths n m e (inr h) = inr (e ∙ h)

place_lawful : (k : Rule) (f : Form) (p : Place) → Sized k f → Fits (k.meaning f) p → Lawful (of_place k.symbols p)
place_lawful k f p s h =
    let g = kept_priors k f p s h in
    (sevenths p.sample.first (first_small (k.meaning f) p.sample h.sample), sevenths p.sample.second (second_small (k.meaning f) p.sample h.sample), g.lawfully, lengths _ k.symbols g.long s.two_or_four)

all_lawful : (k : Rule) (f : Form) (s : Sized k f) (ps : List Place) → AllByRecursion (Fits (k.meaning f)) ps → AllByRecursion Lawful (map (of_place k.symbols) ps)
all_lawful k f s [] h = tt
all_lawful k f s (p ∷ ps) h = (place_lawful k f p s h.0, all_lawful k f s ps h.1)

-- and short
five : (z : ℤ) → nat_abs z ≤ 2048 → length (signed_decimal z) ≤ 5
five (pos n) h = length_signed_le 4 (pos n) (omega arith) (omega arith)
five (negsuc n) h = length_signed_le 4 (negsuc n) (omega arith) (omega arith)

brief_list : (ps : List Prior) → AllByRecursion (λ q. length (prior_text q) ≤ 6) ps → length (flat_map (λ x. 32 ∷ prior_text x) ps) ≤ 7 * length ps
brief_list [] h = omega arith
brief_list (p ∷ ps) h = omega (arith, h.0, brief_list ps h.1, length-append (32 ∷ prior_text p) (flat_map (λ x. 32 ∷ prior_text x) ps))

line_length : (x y : ℤ) (ps : List Prior) → length (signed_decimal x) ≤ 5 → length (signed_decimal y) ≤ 5 → length (flat_map (λ z. 32 ∷ prior_text z) ps) ≤ 28 → length (text_of (place_form x y ps)) ≤ 70
line_length x y ps a b c =
    omega (
      arith,
      length-append (signed_decimal x) (codes " " ++ (signed_decimal y ++ (codes ") (prior" ++ listed prior_text ps))),
      length-append (signed_decimal y) (codes ") (prior" ++ listed prior_text ps),
      length-append (flat_map (λ z. 32 ∷ prior_text z) ps) (codes "))" ++ feed),
    )

four_at_most : (n m : ℕ) → n ≡ m → (m ≡ 2) ⊎ (m ≡ 4) → 7 * n ≤ 28
four_at_most n m e (inl h) = omega arith
four_at_most n m e (inr h) = omega arith

place_short : (k : Rule) (f : Form) (p : Place) → Sized k f → Fits (k.meaning f) p → length (text_of (of_place k.symbols p)) ≤ 70
place_short k f p s h =
    let g = kept_priors k f p s h in
    let ps = map of_prior (take k.symbols p.priors.numbers) in
    line_length p.sample.first p.sample.second ps (five _ (first_small (k.meaning f) p.sample h.sample)) (five _ (second_small (k.meaning f) p.sample h.sample))
    (omega (arith, brief_list ps g.brief, four_at_most (length ps) k.symbols g.long s.two_or_four))

all_short : (k : Rule) (f : Form) (s : Sized k f) (ps : List Place) → AllByRecursion (Fits (k.meaning f)) ps → length (places_text k.symbols ps) ≤ 70 * length ps
all_short k f s [] h = omega arith
all_short k f s (p ∷ ps) h =
    omega (arith, place_short k f p s h.0, all_short k f s ps h.1, length-append (text_of (of_place k.symbols p)) (places_text k.symbols ps))

-- a depth that is allowed
shallow : (m : Meaning) (q : ℕ) → LawfulMeaning m → depth_allowed m q ≡ true → q ≤ 8
shallow m q l h = omega (arith, short_memory m l, within q m.memory (leb 1 q) _ h)
  where
    within : (q memory : ℕ) (a c : Bool) → (a && leb q memory && c) ≡ true → q ≤ memory
    within q memory a c h = grind (arith, nat_tests)

depth_length : (q : ℕ) → q ≤ 8 → length (text_of (of_depth q)) ≤ 40
depth_length q h = omega (arith, length-decimal-le 1 q (omega arith) (omega arith) (omega arith), length-append (signed_decimal (pos q)) (codes ")" ++ feed))

lines_are : (k : Rule) (ps : List Place) → flat_map text_of (map (of_place k.symbols) ps) ≡ places_text k.symbols ps
lines_are k [] = refl
lines_are k (p ∷ ps) = ap (λ r. text_of (of_place k.symbols p) ++ r) (lines_are k ps)

-- what a receiver holds, as its text needs it
pub record Stands (k : Rule) (f : Form) (q : ℕ) (ps : List Place) : Type 0 where
  pub loads : Loads k f
  pub sized : Sized k f
  pub means : LawfulMeaning (k.meaning f)
  pub depth : depth_allowed (k.meaning f) q ≡ true
  pub few : length ps ≤ 128
  pub fits : AllByRecursion (Fits (k.meaning f)) ps
  pub short : length (text_of f) ≤ 6800

pub reads_back : (k : Rule) (f : Form) (q : ℕ) (ps : List Place) → Stands k f q ps
    → ReadsText k (text_of f ++ (text_of (of_depth q) ++ places_text k.symbols ps)) (Ok (ready f q ps))
reads_back k f q ps s =
    let eight : q ≤ 8 = shallow (k.meaning f) q s.means s.depth in
    let total : length (text_of f ++ (text_of (of_depth q) ++ places_text k.symbols ps)) ≤ 16384 =
    omega (
      arith,
      s.short,
      s.few,
      depth_length q eight,
      all_short k f s.sized ps s.fits,
      length-append (text_of f) (text_of (of_depth q) ++ places_text k.symbols ps),
      length-append (text_of (of_depth q)) (places_text k.symbols ps),
    ) in
    record {
      long = λ h. absurd (omega arith);
      short = λ _.
          record {
            forms = f ∷ (of_depth q ∷ map (of_place k.symbols) ps);
            last = ready f q ps;
            rest = [];
            lawful = (s.loads.lawful, (omega arith, all_lawful k f s.sized ps s.fits));
            parts =
                sym (append-nil (flat_map text_of (f ∷ (of_depth q ∷ map (of_place k.symbols) ps)))
                ∙ ap (λ r. text_of f ++ (text_of (of_depth q) ++ r)) (lines_are k ps));
            run = (tuned f, first_step k f s.loads.taken, (ready f q [], second_step k f q s.depth, run_places k f q s.sized 3 [] ps s.fits (omega (arith, s.few))));
            ends = (refl, refl, tt);
          };
    }

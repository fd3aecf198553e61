-- What is held of a line of a table loads as the line itself does.
use Rattle.std.specs.Prelude.{◌≡◌, ℕ, zero, suc, ◌^◌, ◌<◌, ◌≤◌, Bool, true, false, cond, not, ◌&&◌, ◌⊎◌, List, [], ◌∷◌, length, take, ℤ, pos, negsuc, Some, None, Option, ◌≢◌, refl}
use Rattle.std.proofs.Common.{sym, ap, ◌∙◌, inl, inr, arith, length-take}
use Rattle.std.specs.Option.{option_map}
use Rattle.std.specs.List.{AllByRecursion}
use Rattle.std.proofs.lemmas.List.{take_all}
use Rattle.std.proofs.lemmas.Int.{ints}
use Rattle.std.proofs.lemmas.Bool.{cases_lt}
use Rattle.std.proofs.lemmas.Bool.Decides.{nat_tests}
use Rattle.channel.specs.Distances.{in_noise_range}
use Rattle.numerals.specs.Numbers.{SevenDigits}
use Rattle.table.specs.Entries.{entry_in_range, number_in_range, each_in_range}
use Rattle.table.specs.Held.{memory_of, entries_of, noise_of}
use Rattle.table.specs.Rule.{allowed_size, load_refusal}
use Rattle.table.specs.declared.Table.{Table as Channel}
use Rattle.table.specs.declared.entry.Entry.{Entry}
use Rattle.table.specs.declared.entry.Entry.TheVariants.{Barred, Expected}
use Rattle.forms.specs.Forms.{Form, taps_form, table_form, code_form, depth_form, place_form, EntryLawful}
use Rattle.forms.specs.Lines.{held}
use Rattle.text.specs.declared.fault.Layer.TheVariants as layers
use Rattle.kinds.specs.Rules.{line_refusal, Loads}
use Rattle.kinds.specs.Table.{of_table, table_rule}

-- the refusal by whether the size is allowed, whether the entries are in range, and the noise
abbrev refused : Bool → Bool → Bool → Option ℕ
refused size ranged noise = cond (not size) (Some 1) (cond (not (ranged && noise)) (Some 2) None)

no_size : (size ranged noise : Bool) → size ≡ false → refused size ranged noise ≡ Some 1
no_size size ranged noise h = grind (arith, nat_tests)

sized : (size ranged noise : Bool) → refused size ranged noise ≡ None → size ≡ true
sized size ranged noise h = grind (arith, nat_tests)

loading : (size ranged noise : Bool) → size ≡ true → ranged ≡ true → noise ≡ true → refused size ranged noise ≡ None
loading size ranged noise s r n = grind (arith, nat_tests)

-- more than 256 entries are one for each window of no allowed memory
too_many : (memory : ℤ) (count : ℕ) → 256 < count → allowed_size memory count ≡ false
too_many (negsuc m) count h = refl
too_many (pos zero) count h = refl
too_many (pos (suc zero)) count h = grind (arith, nat_tests)
too_many (pos (suc (suc zero))) count h = grind (arith, nat_tests)
too_many (pos (suc (suc (suc zero)))) count h = grind (arith, nat_tests)
too_many (pos (suc (suc (suc (suc zero))))) count h = grind (arith, nat_tests)
too_many (pos (suc (suc (suc (suc (suc m)))))) count h = grind (arith, ints)

either : (b : Bool) → (b ≡ true) ⊎ (b ≡ false)
either true = inl refl
either false = inr refl

no_clash : (b : Bool) → b ≡ true → b ≢ false
no_clash b p q = let z : ◌≡◌ {A = ℕ} 0 1 = cc in omega arith

pub same_refusal : (memory : ℤ) (es : List Entry) (noise : ℤ) → load_refusal memory (take 257 es) noise ≡ load_refusal memory es noise
same_refusal memory es noise = by_length (cases_lt 256 (length es))
  where
    by_length : (256 < length es) ⊎ (length es ≤ 256) → load_refusal memory (take 257 es) noise ≡ load_refusal memory es noise
    by_length (inl long) =
        no_size (allowed_size memory (length (take 257 es))) (each_in_range (take 257 es)) (in_noise_range noise) (too_many memory (length (take 257 es)) (simp length-take (omega arith)))
        ∙ sym (no_size (allowed_size memory (length es)) (each_in_range es) (in_noise_range noise) (too_many memory (length es) long))
    by_length (inr short) = ap (λ fs. load_refusal memory fs noise) (take_all 257 es (omega arith))

pub same_entries : (memory : ℤ) (es : List Entry) (noise : ℤ) → load_refusal memory es noise ≡ None → take 257 es ≡ es
same_entries memory es noise h = by_length (cases_lt 256 (length es))
  where
    by_length : (256 < length es) ⊎ (length es ≤ 256) → take 257 es ≡ es
    by_length (inl long) =
        absurd (no_clash (allowed_size memory (length es)) (sized (allowed_size memory (length es)) (each_in_range es) (in_noise_range noise) h) (too_many memory (length es) long))
    by_length (inr short) = take_all 257 es (omega arith)

no_form : (noise memory : ℤ) (xs : List Entry) (f : Form) → table_form noise memory xs ≡ held f
    → (n : ℤ) × (m : ℤ) × (es : List Entry) × (f ≡ table_form n m es) × (noise ≡ n) × (memory ≡ m) × (xs ≡ take 257 es)
no_form noise memory xs (table_form n m es) e = (n, m, es, refl, cc, cc, cc)
no_form noise memory xs (taps_form n ts) e = let z : ◌≡◌ {A = ℕ} 0 1 = cc in absurd (omega arith)
no_form noise memory xs (code_form m x y) e = let z : ◌≡◌ {A = ℕ} 0 1 = cc in absurd (omega arith)
no_form noise memory xs (depth_form d) e = let z : ◌≡◌ {A = ℕ} 0 1 = cc in absurd (omega arith)
no_form noise memory xs (place_form x y ps) e = let z : ◌≡◌ {A = ℕ} 0 1 = cc in absurd (omega arith)

line_is : (f : Form) (n m : ℤ) (es : List Entry) → f ≡ table_form n m es → line_refusal table_rule f ≡ option_map (λ k. (layers.Channel, k)) (load_refusal m es n)
line_is f n m es e = ap (line_refusal table_rule) e

-- a line that loads, and one that is refused
spells : (noise memory : ℤ) (xs : List Entry) (f : Form) (c : Channel) → table_form noise memory xs ≡ held f → load_refusal memory xs noise ≡ None
    → pos (memory_of c) ≡ memory → entries_of c ≡ xs → pos (noise_of c) ≡ noise → (line_refusal table_rule f ≡ None) × (of_table c ≡ f)
spells noise memory xs f c e none far entries loud =
    let p = no_form noise memory xs f e in
    let n = p.0 in
    let m = p.1 in
    let es = p.2 in
    let f-is : f ≡ table_form n m es = p.3 in
    let n-is : noise ≡ n = p.4 in
    let m-is : memory ≡ m = p.5 in
    let xs-is : xs ≡ take 257 es = p.6 in
    let all : load_refusal m es n ≡ None =
    sym (same_refusal m es n) ∙ ap (λ us. load_refusal m us n) (sym xs-is) ∙ ap (λ k. load_refusal k xs n) (sym m-is) ∙ ap (load_refusal memory xs) (sym n-is) ∙ none in
    let same : take 257 es ≡ es = same_entries m es n all in
    (line_is f n m es f-is ∙ ap (option_map (λ k. (layers.Channel, k))) all, cc)

refuses : (noise memory : ℤ) (xs : List Entry) (f : Form) (k : ℕ) → table_form noise memory xs ≡ held f → load_refusal memory xs noise ≡ Some k
    → line_refusal table_rule f ≡ Some (layers.Channel, k)
refuses noise memory xs f k e some =
    let p = no_form noise memory xs f e in
    let n = p.0 in
    let m = p.1 in
    let es = p.2 in
    let n-is : noise ≡ n = p.4 in
    let m-is : memory ≡ m = p.5 in
    let xs-is : xs ≡ take 257 es = p.6 in
    let all : load_refusal m es n ≡ Some k =
    sym (same_refusal m es n) ∙ ap (λ us. load_refusal m us n) (sym xs-is) ∙ ap (λ j. load_refusal j xs n) (sym m-is) ∙ ap (load_refusal memory xs) (sym n-is) ∙ some in
    line_is f n m es p.3 ∙ ap (option_map (λ j. (layers.Channel, j))) all

-- the same, of numbers and lists that are handed on
pub spelled : (noise memory given told : ℤ) (xs ys : List Entry) (f : Form) (c : Channel) → table_form noise memory xs ≡ held f → given ≡ noise → told ≡ memory → ys ≡ xs
    → None ≡ load_refusal told ys given → pos (memory_of c) ≡ told → entries_of c ≡ ys → pos (noise_of c) ≡ given → (line_refusal table_rule f ≡ None) × (of_table c ≡ f)
spelled noise memory given told xs ys f c e gn tm yx none far entries loud =
    let all : load_refusal memory xs noise ≡ None = sym (ap (load_refusal told ys) gn ∙ ap (λ k. load_refusal k ys noise) tm ∙ ap (λ l. load_refusal memory l noise) yx) ∙ sym none in
    spells noise memory xs f c e all (far ∙ tm) (entries ∙ yx) (loud ∙ gn)

pub refused_by_lem : (noise memory given told : ℤ) (xs ys : List Entry) (f : Form) (k : ℕ) → table_form noise memory xs ≡ held f → given ≡ noise → told ≡ memory → ys ≡ xs
    → Some k ≡ load_refusal told ys given → line_refusal table_rule f ≡ Some (layers.Channel, k)
refused_by_lem noise memory given told xs ys f k e gn tm yx some =
    refuses noise memory xs f k e (sym (ap (load_refusal told ys) gn ∙ ap (λ j. load_refusal j ys noise) tm ∙ ap (λ l. load_refusal memory l noise) yx) ∙ sym some)

-- the line of a channel loads
first : (a b : Bool) → (a && b) ≡ true → a ≡ true
first a b h = grind (arith, nat_tests)

second : (a b : Bool) → (a && b) ≡ true → b ≡ true
second a b h = grind (arith, nat_tests)

small : (z : ℤ) → number_in_range z ≡ true → SevenDigits z
small (pos n) h = grind (arith, ints)
small (negsuc n) h = grind (arith, ints)

small_entry : (e : Entry) → entry_in_range e ≡ true → EntryLawful e
small_entry Barred h = tt
small_entry (Expected x y) h = (small x (first (number_in_range x) (number_in_range y) h), small y (second (number_in_range x) (number_in_range y) h))

all_small : (es : List Entry) → each_in_range es ≡ true → AllByRecursion EntryLawful es
all_small [] h = tt
all_small (e ∷ es) h = (small_entry e (first (entry_in_range e) (each_in_range es) h), all_small es (second (entry_in_range e) (each_in_range es) h))

loud : (n : ℕ) → 1 ≤ n → n ≤ 1000000 → in_noise_range (pos n) ≡ true
loud n some most = grind (arith, ints)

allowed : (memory count : ℕ) → 1 ≤ memory → memory ≤ 4 → count ≡ 4 ^ memory → allowed_size (pos memory) count ≡ true
allowed memory count some few e = grind (arith, ints, nat_tests)

some_entry : (memory count : ℕ) → memory ≤ 4 → count ≡ 4 ^ memory → 1 ≤ count
some_entry zero count few e = omega arith
some_entry (suc zero) count few e = omega arith
some_entry (suc (suc zero)) count few e = omega arith
some_entry (suc (suc (suc zero))) count few e = omega arith
some_entry (suc (suc (suc (suc zero)))) count few e = omega arith
some_entry (suc (suc (suc (suc (suc m))))) count few e = absurd (omega arith)

pub table_load : (c : Channel) → Loads table_rule (of_table c)
table_load c =
    let size : allowed_size (pos (memory_of c)) (length (entries_of c)) ≡ true = allowed (memory_of c) (length (entries_of c)) c.some c.few c.whole in
    record {
      lawful = (omega arith, omega arith, all_small (entries_of c) c.ranged, some_entry (memory_of c) (length (entries_of c)) c.few c.whole);
      taken = ap (option_map (λ k. (layers.Channel, k))) (loading (allowed_size (pos (memory_of c)) (length (entries_of c))) (each_in_range (entries_of c)) (in_noise_range (pos (noise_of c))) size c.ranged (loud (noise_of c) (omega arith) (omega arith)));
    }

-- Numbers, priors and entries stand at the front of a text in one way only.
use Rattle.std.specs.Prelude.{◌≡◌, ℕ, ◌<◌, List, [], ◌∷◌, ◌++◌, length, ℤ, pos, negsuc, codes, ◌≢◌, slice_index, slice_index_or, refl}
use Rattle.std.proofs.Common.{sym, ap, ◌∙◌, subst, append_assoc, inl, inr, arith, to_z, of_z}
use Rattle.std.specs.Int.{IsInRange, w32}
use Rattle.std.specs.Fmt.{signed_decimal}
use Rattle.std.specs.List.{AllByRecursion}
use Rattle.std.proofs.ByRecursion.{All-get_or}
use Rattle.std.proofs.lemmas.List.{append_cancel_left}
use Rattle.std.proofs.lemmas.Int.{ints}
use Rattle.numerals.specs.Numbers.{SevenDigits}
use Rattle.numerals.proofs.Reading.{all_of_number, same_number}
use Rattle.table.specs.declared.entry.Entry.{Entry}
use Rattle.table.specs.declared.entry.Entry.TheVariants.{Barred as BarredEntry, Expected}
use Rattle.forms.specs.declared.prior.Prior.{Prior}
use Rattle.forms.specs.declared.prior.Prior.TheVariants.{Number, Barred}
use Rattle.forms.specs.Forms.{entry_text, EntryLawful, prior_text, PriorLawful}
use Rattle.forms.specs.Pieces.{OfWord, Ends, Told}
use Rattle.forms.specs.Words.{same_word}

-- a number that is handed on as it is
pub kept : (z : ℤ) → SevenDigits z → to_z w32 (of_z w32 z) ≡ z
kept (pos n) h = omega (arith, ints)
kept (negsuc n) h = omega (arith, ints)

above : (c : ℕ) → 41 < c → OfWord c
above c h = (λ e. omega arith, λ e. omega arith)

pub number_is_a_word : (z : ℤ) → SevenDigits z → AllByRecursion OfWord (signed_decimal z)
number_is_a_word = all_of_number OfWord (λ c d. above c (omega arith)) (above 45 (omega arith))

pub number_told : Told signed_decimal SevenDigits
number_told y z r s fy fz er es e =
    let t = same_word (signed_decimal y) (signed_decimal z) r s (number_is_a_word y fy) (number_is_a_word z fz) er es e in
    (same_number y z fy fz t.0, t.1)

-- a number and the mark after it
pub past_number :
    (y z : ℤ) (mark text rest more : List ℕ) → Ends (mark ++ rest) → Ends (mark ++ more) → (text ≡ signed_decimal y ++ (mark ++ rest)) × SevenDigits y → SevenDigits z
    → text ≡ signed_decimal z ++ (mark ++ more) → (y ≡ z) × (rest ≡ more)
past_number y z mark text rest more er es t fz e =
    let p = number_told y z (mark ++ rest) (mark ++ more) t.1 fz er es (sym t.0 ∙ e) in
    (p.0, append_cancel_left mark rest more p.1)

pub ends_mark : (mark rest : List ℕ) → Ends mark → Ends (mark ++ rest)
ends_mark [] rest e = absurd e
ends_mark (c ∷ mark) rest e = e

barred_is_a_word : AllByRecursion OfWord (codes "barred")
barred_is_a_word =
    (above 98 (omega arith), (above 97 (omega arith), (above 114 (omega arith), (above 114 (omega arith), (above 101 (omega arith), (above 100 (omega arith), tt))))))

pub prior_is_a_word : (p : Prior) → PriorLawful p → AllByRecursion OfWord (prior_text p)
prior_is_a_word (Number z) h = number_is_a_word z h
prior_is_a_word Barred h = barred_is_a_word

low : (c : ℕ) → IsInRange 48 57 c → c < 98
low c d = omega arith

not_barred : (z : ℤ) → SevenDigits z → signed_decimal z ≢ codes "barred"
not_barred z h e =
    let small : slice_index_or (signed_decimal z) 0 0 < 98 = All-get_or (λ c. c < 98) (signed_decimal z) 0 0 (omega (arith, ap length e)) (all_of_number (λ c. c < 98) low (omega arith) z h) in
    omega (arith, ap (λ l. slice_index l 0) e)

same_prior : (p q : Prior) → PriorLawful p → PriorLawful q → prior_text p ≡ prior_text q → p ≡ q
same_prior (Number y) (Number z) fp fq e = ap Number (same_number y z fp fq e)
same_prior (Number y) Barred fp fq e = absurd (not_barred y fp e)
same_prior Barred (Number z) fp fq e = absurd (not_barred z fq (sym e))
same_prior Barred Barred fp fq e = refl

pub prior_told : Told prior_text PriorLawful
prior_told p q r s fp fq er es e =
    let t = same_word (prior_text p) (prior_text q) r s (prior_is_a_word p fp) (prior_is_a_word q fq) er es e in
    (same_prior p q fp fq t.0, t.1)

pub no_prior : (w : List ℕ) → (w ≢ codes "barred") → ((z : ℤ) → SevenDigits z → w ≢ signed_decimal z) → (p : Prior) → PriorLawful p → w ≢ prior_text p
no_prior w a b (Number z) f e = b z f e
no_prior w a b Barred f e = a e

-- two numbers in brackets, bracket by bracket
pub pair_text : (a b : ℤ) (r : List ℕ) → entry_text (Expected a b) ++ r ≡ codes "(" ++ (signed_decimal a ++ (codes " " ++ (signed_decimal b ++ (codes ")" ++ r))))
pair_text a b r = simp append_assoc

pub pair_told :
    (a b x y : ℤ) (r s : List ℕ) → SevenDigits a → SevenDigits b → SevenDigits x → SevenDigits y
    → entry_text (Expected a b) ++ r ≡ entry_text (Expected x y) ++ s → (Expected a b ≡ Expected x y) × (r ≡ s)
pair_told a b x y r s fa fb fx fy e =
    let opened = append_cancel_left (codes "(") _ _ (sym (pair_text a b r) ∙ e ∙ pair_text x y s) in
    let first = number_told a x (codes " " ++ (signed_decimal b ++ (codes ")" ++ r))) (codes " " ++ (signed_decimal y ++ (codes ")" ++ s))) fa fx (inl refl) (inl refl) opened in
    let second = number_told b y (codes ")" ++ r) (codes ")" ++ s) fb fy (inr refl) (inr refl) (append_cancel_left (codes " ") _ _ first.1) in
    let ax : a ≡ x = first.0 in
    let by : b ≡ y = second.0 in
    (cc, append_cancel_left (codes ")") r s second.1)

pub entry_told : Told entry_text EntryLawful
entry_told (Expected a b) (Expected x y) r s fp fq er es e = pair_told a b x y r s fp.0 fp.1 fq.0 fq.1 e
entry_told (Expected a b) BarredEntry r s fp fq er es e = let z : ◌≡◌ {A = ℕ} 40 98 = ap (λ l. slice_index l 0) e in absurd (omega arith)
entry_told BarredEntry (Expected x y) r s fp fq er es e = let z : ◌≡◌ {A = ℕ} 98 40 = ap (λ l. slice_index l 0) e in absurd (omega arith)
entry_told BarredEntry BarredEntry r s fp fq er es e = (refl, append_cancel_left (codes "barred") r s e)

-- a text that has two numbers in brackets where no word can end, and is not barred
pub no_entry :
    (text : List ℕ) (entry : Entry) (rest : List ℕ) → (text ≡ entry_text entry ++ rest) × EntryLawful entry → (Ends rest → ⊥)
    → ((s : List ℕ) → text ≢ codes "barred" ++ s) → (x : Entry) (s : List ℕ) → EntryLawful x → Ends s → text ≢ entry_text x ++ s
no_entry text BarredEntry rest t no_end no-barred x s fx es e = no-barred rest t.0
no_entry text (Expected a b) rest t no_end no-barred BarredEntry s fx es e = no-barred s e
no_entry text (Expected a b) rest t no_end no-barred (Expected x y) s fx es e =
    let same = pair_told a b x y rest s t.1.0 t.1.1 fx.0 fx.1 (sym t.0 ∙ e) in
    no_end (subst Ends (sym same.1) es)

pub whole_pair :
    (text at_first at_second rest : List ℕ) (a b : ℤ) → text ≡ codes "(" ++ at_first → at_first ≡ signed_decimal a ++ (codes " " ++ at_second)
    → at_second ≡ signed_decimal b ++ (codes ")" ++ rest) → text ≡ entry_text (Expected a b) ++ rest
whole_pair text at_first at_second rest a b e f g =
    e ∙ ap (λ l. codes "(" ++ l) (f ∙ ap (λ l. signed_decimal a ++ (codes " " ++ l)) g) ∙ sym (pair_text a b rest)

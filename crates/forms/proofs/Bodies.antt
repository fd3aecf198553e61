-- Lines as their first words and what follows those.
use Rattle.std.proofs.Common.{◌≡◌, ℕ, ◌≤◌, ◌⊎◌, List, [], ◌∷◌, ◌++◌, map, length, get_or, take, ℤ, Ok, Err, codes, Result, sym, refl, ap, ◌∙◌, inl, inr, arith, ap₂, length-take, true, false, ◌||◌, ◌==◌}
use Rattle.std.specs.Fmt.{signed_decimal}
use Rattle.std.specs.List.{AllByRecursion}
use Rattle.std.proofs.lemmas.List.{append_cancel_left, append-nil, take_all, length-map}
use Rattle.std.proofs.lemmas.Bool.Decides.{nat_tests}
use Rattle.numerals.specs.Numbers.{SevenDigits}
use Rattle.table.specs.declared.entry.Entry.{Entry}
use Rattle.forms.specs.declared.fault.NotAForm.{NotAForm}
use Rattle.forms.specs.declared.head.Head.{Head}
use Rattle.forms.specs.declared.head.Head.TheVariants.{Taps, Table, Code, Depth, Place}
use Rattle.forms.specs.declared.line.Line.{Line}
use Rattle.forms.specs.declared.prior.Prior.{Prior}
use Rattle.forms.specs.Forms.{Form, taps_form, table_form, code_form, depth_form, place_form, prior_text, entry_text, feed, listed, opening, head_of, body_of, PriorLawful, EntryLawful, Lawful, FormsHaveOneText}
use Rattle.forms.specs.Lines.{nearest, ReadsBody, ReadsLine}
use Rattle.forms.specs.Pieces.{Ends, Told}
use Rattle.forms.proofs.Lists.{begins, shut, spaced}
use Rattle.forms.specs.Telling.{number_told, prior_told, entry_told, past_number}

-- no two forms begin with the same words
pub same_opening : (h k : Head) (r s : List ℕ) → opening h ++ r ≡ opening k ++ s → (h ≡ k) × (r ≡ s)
same_opening Taps Taps r s e = (refl, append_cancel_left (opening Taps) r s e)
same_opening Taps Table r s e = let z : ◌≡◌ {A = ℕ} 112 98 = ap (λ l. get_or l 17 0) e in absurd (omega arith)
same_opening Taps Code r s e = let z : ◌≡◌ {A = ℕ} 116 99 = ap (λ l. get_or l 15 0) e in absurd (omega arith)
same_opening Taps Depth r s e = let z : ◌≡◌ {A = ℕ} 99 100 = ap (λ l. get_or l 1 0) e in absurd (omega arith)
same_opening Taps Place r s e = let z : ◌≡◌ {A = ℕ} 99 112 = ap (λ l. get_or l 1 0) e in absurd (omega arith)
same_opening Table Taps r s e = let z : ◌≡◌ {A = ℕ} 98 112 = ap (λ l. get_or l 17 0) e in absurd (omega arith)
same_opening Table Table r s e = (refl, append_cancel_left (opening Table) r s e)
same_opening Table Code r s e = let z : ◌≡◌ {A = ℕ} 116 99 = ap (λ l. get_or l 15 0) e in absurd (omega arith)
same_opening Table Depth r s e = let z : ◌≡◌ {A = ℕ} 99 100 = ap (λ l. get_or l 1 0) e in absurd (omega arith)
same_opening Table Place r s e = let z : ◌≡◌ {A = ℕ} 99 112 = ap (λ l. get_or l 1 0) e in absurd (omega arith)
same_opening Code Taps r s e = let z : ◌≡◌ {A = ℕ} 99 116 = ap (λ l. get_or l 15 0) e in absurd (omega arith)
same_opening Code Table r s e = let z : ◌≡◌ {A = ℕ} 99 116 = ap (λ l. get_or l 15 0) e in absurd (omega arith)
same_opening Code Code r s e = (refl, append_cancel_left (opening Code) r s e)
same_opening Code Depth r s e = let z : ◌≡◌ {A = ℕ} 99 100 = ap (λ l. get_or l 1 0) e in absurd (omega arith)
same_opening Code Place r s e = let z : ◌≡◌ {A = ℕ} 99 112 = ap (λ l. get_or l 1 0) e in absurd (omega arith)
same_opening Depth Taps r s e = let z : ◌≡◌ {A = ℕ} 100 99 = ap (λ l. get_or l 1 0) e in absurd (omega arith)
same_opening Depth Table r s e = let z : ◌≡◌ {A = ℕ} 100 99 = ap (λ l. get_or l 1 0) e in absurd (omega arith)
same_opening Depth Code r s e = let z : ◌≡◌ {A = ℕ} 100 99 = ap (λ l. get_or l 1 0) e in absurd (omega arith)
same_opening Depth Depth r s e = (refl, append_cancel_left (opening Depth) r s e)
same_opening Depth Place r s e = let z : ◌≡◌ {A = ℕ} 100 112 = ap (λ l. get_or l 1 0) e in absurd (omega arith)
same_opening Place Taps r s e = let z : ◌≡◌ {A = ℕ} 112 99 = ap (λ l. get_or l 1 0) e in absurd (omega arith)
same_opening Place Table r s e = let z : ◌≡◌ {A = ℕ} 112 99 = ap (λ l. get_or l 1 0) e in absurd (omega arith)
same_opening Place Code r s e = let z : ◌≡◌ {A = ℕ} 112 99 = ap (λ l. get_or l 1 0) e in absurd (omega arith)
same_opening Place Depth r s e = let z : ◌≡◌ {A = ℕ} 112 100 = ap (λ l. get_or l 1 0) e in absurd (omega arith)
same_opening Place Place r s e = (refl, append_cancel_left (opening Place) r s e)

-- a form with given first words
pub only_taps : (text : List ℕ) → ((n : ℤ) (ts : List ℤ) → Lawful (taps_form n ts) → text ≡ body_of (taps_form n ts) → ⊥) → (f : Form) → head_of f ≡ Taps → Lawful f → text ≡ body_of f → ⊥
only_taps text none (taps_form n ts) h l e = none n ts l e
only_taps text none (table_form n m es) h l e = let z : ◌≡◌ {A = ℕ} 0 1 = cc in absurd (omega arith)
only_taps text none (code_form m x y) h l e = let z : ◌≡◌ {A = ℕ} 0 1 = cc in absurd (omega arith)
only_taps text none (depth_form d) h l e = let z : ◌≡◌ {A = ℕ} 0 1 = cc in absurd (omega arith)
only_taps text none (place_form x y ps) h l e = let z : ◌≡◌ {A = ℕ} 0 1 = cc in absurd (omega arith)

pub only_table : (text : List ℕ) → ((n : ℤ) (m : ℤ) (es : List Entry) → Lawful (table_form n m es) → text ≡ body_of (table_form n m es) → ⊥) → (f : Form) → head_of f ≡ Table → Lawful f → text ≡ body_of f → ⊥
only_table text none (taps_form n ts) h l e = let z : ◌≡◌ {A = ℕ} 0 1 = cc in absurd (omega arith)
only_table text none (table_form n m es) h l e = none n m es l e
only_table text none (code_form m x y) h l e = let z : ◌≡◌ {A = ℕ} 0 1 = cc in absurd (omega arith)
only_table text none (depth_form d) h l e = let z : ◌≡◌ {A = ℕ} 0 1 = cc in absurd (omega arith)
only_table text none (place_form x y ps) h l e = let z : ◌≡◌ {A = ℕ} 0 1 = cc in absurd (omega arith)

pub only_code : (text : List ℕ) → ((m : ℤ) (x : ℤ) (y : ℤ) → Lawful (code_form m x y) → text ≡ body_of (code_form m x y) → ⊥) → (f : Form) → head_of f ≡ Code → Lawful f → text ≡ body_of f → ⊥
only_code text none (taps_form n ts) h l e = let z : ◌≡◌ {A = ℕ} 0 1 = cc in absurd (omega arith)
only_code text none (table_form n m es) h l e = let z : ◌≡◌ {A = ℕ} 0 1 = cc in absurd (omega arith)
only_code text none (code_form m x y) h l e = none m x y l e
only_code text none (depth_form d) h l e = let z : ◌≡◌ {A = ℕ} 0 1 = cc in absurd (omega arith)
only_code text none (place_form x y ps) h l e = let z : ◌≡◌ {A = ℕ} 0 1 = cc in absurd (omega arith)

pub only_depth : (text : List ℕ) → ((d : ℤ) → Lawful (depth_form d) → text ≡ body_of (depth_form d) → ⊥) → (f : Form) → head_of f ≡ Depth → Lawful f → text ≡ body_of f → ⊥
only_depth text none (taps_form n ts) h l e = let z : ◌≡◌ {A = ℕ} 0 1 = cc in absurd (omega arith)
only_depth text none (table_form n m es) h l e = let z : ◌≡◌ {A = ℕ} 0 1 = cc in absurd (omega arith)
only_depth text none (code_form m x y) h l e = let z : ◌≡◌ {A = ℕ} 0 1 = cc in absurd (omega arith)
only_depth text none (depth_form d) h l e = none d l e
only_depth text none (place_form x y ps) h l e = let z : ◌≡◌ {A = ℕ} 0 1 = cc in absurd (omega arith)

pub only_place : (text : List ℕ) → ((x : ℤ) (y : ℤ) (ps : List Prior) → Lawful (place_form x y ps) → text ≡ body_of (place_form x y ps) → ⊥) → (f : Form) → head_of f ≡ Place → Lawful f → text ≡ body_of f → ⊥
only_place text none (taps_form n ts) h l e = let z : ◌≡◌ {A = ℕ} 0 1 = cc in absurd (omega arith)
only_place text none (table_form n m es) h l e = let z : ◌≡◌ {A = ℕ} 0 1 = cc in absurd (omega arith)
only_place text none (code_form m x y) h l e = let z : ◌≡◌ {A = ℕ} 0 1 = cc in absurd (omega arith)
only_place text none (depth_form d) h l e = let z : ◌≡◌ {A = ℕ} 0 1 = cc in absurd (omega arith)
only_place text none (place_form x y ps) h l e = none x y ps l e

-- from what follows the first words to the line
pub whole_line : (line rest : List ℕ) (h : Head) (r : Result Line NotAForm) → line ≡ opening h ++ rest → ReadsBody h rest r → ReadsLine line r
whole_line line rest h (Ok l) e b =
    record {
      form = b.form;
      text_is = e ∙ ap (λ k. opening k ++ rest) (sym b.head_is) ∙ ap (λ t. opening (head_of b.form) ++ t) b.text_is;
      lawful = b.lawful;
      says = b.says;
    }
whole_line line rest h (Err why) e b = λ f lawful text_is.
    let same = same_opening h (head_of f) rest (body_of f) (sym e ∙ text_is) in
    b f (sym same.0) lawful same.1

-- no two lists of pieces have one text
none_more : {X : Type 0} (write : X → List ℕ) (us : List X) → shut ≡ spaced write us ++ shut → us ≡ []
none_more write [] e = refl
none_more write (u ∷ us) e = let z : ◌≡◌ {A = ℕ} 41 32 = ap (λ l. get_or l 0 0) e in absurd (omega arith)

pub same_listed :
    {X : Type 0} (write : X → List ℕ) (lawful : X → Type 0) (told : Told write lawful) (ps qs : List X) → AllByRecursion lawful ps → AllByRecursion lawful qs
    → listed write ps ≡ listed write qs → ps ≡ qs
same_listed write lawful told ps qs fp fq e =
    let m = begins write lawful told ps qs shut fp fq (λ _. inr refl) e in
    sym (m.1 ∙ ap (λ us. ps ++ us) (none_more write m.0 m.2) ∙ append-nil ps)

pub one_list :
    {X : Type 0} (write : X → List ℕ) (lawful : X → Type 0) (told : Told write lawful) (text : List ℕ) (ps qs : List X) → AllByRecursion lawful ps → AllByRecursion lawful qs
    → text ≡ listed write ps → text ≡ listed write qs → ps ≡ qs
one_list write lawful told text ps qs fp fq e h = same_listed write lawful told ps qs fp fq (sym e ∙ h)

-- no two forms have one text
step :
    (mark : List ℕ) (a b : ℤ) (r s : List ℕ) → Ends (mark ++ r) → Ends (mark ++ s) → SevenDigits a → SevenDigits b
    → signed_decimal a ++ (mark ++ r) ≡ signed_decimal b ++ (mark ++ s) → (a ≡ b) × (r ≡ s)
step mark a b r s er es fa fb e = past_number a b mark (signed_decimal a ++ (mark ++ r)) r s er es (refl, fa) fb e

same_body : (f g : Form) → head_of f ≡ head_of g → Lawful f → Lawful g → body_of f ≡ body_of g → f ≡ g
same_body (taps_form n ts) (taps_form m us) h lf lg e =
    let a = step (codes ") (taps") n m (listed signed_decimal ts) (listed signed_decimal us) (inr refl) (inr refl) lf.0 lg.0 e in
    let b : ts ≡ us = same_listed signed_decimal SevenDigits number_told ts us lf.1 lg.1 a.1 in
    let c : n ≡ m = a.0 in
    cc
same_body (taps_form n ts) (table_form n' m' es') h lf lg e = let z : ◌≡◌ {A = ℕ} 0 1 = cc in absurd (omega arith)
same_body (taps_form n ts) (code_form m' x' y') h lf lg e = let z : ◌≡◌ {A = ℕ} 0 1 = cc in absurd (omega arith)
same_body (taps_form n ts) (depth_form d') h lf lg e = let z : ◌≡◌ {A = ℕ} 0 1 = cc in absurd (omega arith)
same_body (taps_form n ts) (place_form x' y' ps') h lf lg e = let z : ◌≡◌ {A = ℕ} 0 1 = cc in absurd (omega arith)
same_body (table_form n m es) (taps_form n' ts') h lf lg e = let z : ◌≡◌ {A = ℕ} 0 1 = cc in absurd (omega arith)
same_body (table_form n m es) (table_form k l fs) h lf lg e =
    let a = step (codes ") (memory ") n k _ _ (inr refl) (inr refl) lf.0 lg.0 e in
    let b = step (codes ") (entries") m l _ _ (inr refl) (inr refl) lf.1 lg.1 a.1 in
    let c : es ≡ fs = same_listed entry_text EntryLawful entry_told es fs lf.2 lg.2 b.1 in
    let p : n ≡ k = a.0 in
    let q : m ≡ l = b.0 in
    cc
same_body (table_form n m es) (code_form m' x' y') h lf lg e = let z : ◌≡◌ {A = ℕ} 0 1 = cc in absurd (omega arith)
same_body (table_form n m es) (depth_form d') h lf lg e = let z : ◌≡◌ {A = ℕ} 0 1 = cc in absurd (omega arith)
same_body (table_form n m es) (place_form x' y' ps') h lf lg e = let z : ◌≡◌ {A = ℕ} 0 1 = cc in absurd (omega arith)
same_body (code_form m x y) (taps_form n' ts') h lf lg e = let z : ◌≡◌ {A = ℕ} 0 1 = cc in absurd (omega arith)
same_body (code_form m x y) (table_form n' m' es') h lf lg e = let z : ◌≡◌ {A = ℕ} 0 1 = cc in absurd (omega arith)
same_body (code_form m x y) (code_form n v w) h lf lg e =
    let a = step (codes ") (masks ") m n _ _ (inr refl) (inr refl) lf.0 lg.0 e in
    let b = step (codes " ") x v _ _ (inl refl) (inl refl) lf.1 lg.1 a.1 in
    let c = step (codes "))" ++ feed) y w [] [] (inr refl) (inr refl) lf.2 lg.2 b.1 in
    let p : m ≡ n = a.0 in
    let q : x ≡ v = b.0 in
    let r : y ≡ w = c.0 in
    cc
same_body (code_form m x y) (depth_form d') h lf lg e = let z : ◌≡◌ {A = ℕ} 0 1 = cc in absurd (omega arith)
same_body (code_form m x y) (place_form x' y' ps') h lf lg e = let z : ◌≡◌ {A = ℕ} 0 1 = cc in absurd (omega arith)
same_body (depth_form d) (taps_form n' ts') h lf lg e = let z : ◌≡◌ {A = ℕ} 0 1 = cc in absurd (omega arith)
same_body (depth_form d) (table_form n' m' es') h lf lg e = let z : ◌≡◌ {A = ℕ} 0 1 = cc in absurd (omega arith)
same_body (depth_form d) (code_form m' x' y') h lf lg e = let z : ◌≡◌ {A = ℕ} 0 1 = cc in absurd (omega arith)
same_body (depth_form d) (depth_form k) h lf lg e = ap depth_form (step (codes ")" ++ feed) d k [] [] (inr refl) (inr refl) lf lg e).0
same_body (depth_form d) (place_form x' y' ps') h lf lg e = let z : ◌≡◌ {A = ℕ} 0 1 = cc in absurd (omega arith)
same_body (place_form x y ps) (taps_form n' ts') h lf lg e = let z : ◌≡◌ {A = ℕ} 0 1 = cc in absurd (omega arith)
same_body (place_form x y ps) (table_form n' m' es') h lf lg e = let z : ◌≡◌ {A = ℕ} 0 1 = cc in absurd (omega arith)
same_body (place_form x y ps) (code_form m' x' y') h lf lg e = let z : ◌≡◌ {A = ℕ} 0 1 = cc in absurd (omega arith)
same_body (place_form x y ps) (depth_form d') h lf lg e = let z : ◌≡◌ {A = ℕ} 0 1 = cc in absurd (omega arith)
same_body (place_form x y ps) (place_form v w qs) h lf lg e =
    let a = step (codes " ") x v _ _ (inl refl) (inl refl) lf.0 lg.0 e in
    let b = step (codes ") (prior") y w _ _ (inr refl) (inr refl) lf.1 lg.1 a.1 in
    let c : ps ≡ qs = same_listed prior_text PriorLawful prior_told ps qs lf.2 lg.2 b.1 in
    let p : x ≡ v = a.0 in
    let q : y ≡ w = b.0 in
    cc

pub same_form : FormsHaveOneText
same_form f g lf lg e =
    let same = same_opening (head_of f) (head_of g) (body_of f) (body_of g) e in
    same_body f g same.0 lf lg same.1

-- what a line holds of taps
pub taps_said :
    (noise given : ℤ) (taps numbers pieces : List ℤ) → given ≡ noise → taps ≡ take 9 (map nearest numbers) → numbers ≡ take 9 pieces
    → taps_form given taps ≡ taps_form noise (map nearest (take 9 pieces))
taps_said noise given taps numbers pieces e f g =
    let few : length (map nearest (take 9 pieces)) ≤ 9 = simp length-map (omega (arith, length-take 9 pieces)) in
    let t : taps ≡ map nearest (take 9 pieces) = f ∙ ap (λ l. take 9 (map nearest l)) g ∙ take_all 9 (map nearest (take 9 pieces)) few in
    ap₂ taps_form e t

-- and of a table
pub table_said :
    (noise memory given told : ℤ) (entries pieces : List Entry) → given ≡ noise → told ≡ memory → entries ≡ take 257 pieces
    → table_form given told entries ≡ table_form noise memory (take 257 pieces)
table_said noise memory given told entries pieces e f t = cc

-- two or four priors are held whole
pub two_or_four : (n : ℕ) → (n == 2 || n == 4) ≡ true → (n ≡ 2) ⊎ (n ≡ 4)
two_or_four n h = grind (arith, nat_tests)

pub held_whole : (kept pieces : List Prior) → kept ≡ take 5 pieces → (length kept ≡ 2) ⊎ (length kept ≡ 4) → kept ≡ pieces
held_whole kept pieces front (inl two) = front ∙ take_all 5 pieces (omega (arith, ap length front, length-take 5 pieces))
held_whole kept pieces front (inr four) = front ∙ take_all 5 pieces (omega (arith, ap length front, length-take 5 pieces))

pub some_priors : (n : ℕ) → (n ≡ 2) ⊎ (n ≡ 4) → 1 ≤ n
some_priors n (inl e) = omega arith
some_priors n (inr e) = omega arith

pub other_count : (kept pieces priors : List Prior) → kept ≡ take 5 pieces → pieces ≡ priors → (length kept == 2 || length kept == 4) ≡ false → (length priors ≡ 2) ⊎ (length priors ≡ 4) → ⊥
other_count kept pieces priors front same none (inl h) = let k : length kept ≡ 2 = omega (arith, ap length front, length-take 5 pieces, ap length same) in grind (arith, nat_tests)
other_count kept pieces priors front same none (inr h) = let k : length kept ≡ 4 = omega (arith, ap length front, length-take 5 pieces, ap length same) in grind (arith, nat_tests)

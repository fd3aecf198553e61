-- A text is cut into a word and what follows it in one way only.
use Rattle.std.specs.Prelude.{◌≡◌, ℕ, suc, ◌+◌, ◌-◌, ◌<◌, Bool, true, false, cond, not, ◌||◌, ◌⊎◌, List, [], ◌∷◌, ◌++◌, length, take, drop, Some, None, ◌≢◌, nat_eq, nat_lt, position, slice_index, refl}
use Rattle.std.proofs.Common.{sym, ap, ◌∙◌, subst, inl, inr, arith}
use Rattle.std.specs.List.{AllByRecursion, position_or_len}
use Rattle.std.proofs.ByRecursion.{All-drop}
use Rattle.std.proofs.lemmas.List.{take_all, take-append-drop}
use Rattle.std.proofs.lemmas.Bool.Decides.{nat_tests}
use Rattle.std.proofs.lemmas.List.Prefix.{front_rest}
use Rattle.forms.specs.Pieces.{OfWord, Ends}

-- a text has one cut before the first byte that is not of a kind
abbrev pub Stops : (ℕ → Type 0) → List ℕ → Type 0
Stops P [] = ⊥
Stops P (c ∷ rest) = P c → ⊥

pub same_cut : (P : ℕ → Type 0) (v w r s : List ℕ) → AllByRecursion P v → AllByRecursion P w → Stops P r → Stops P s → v ++ r ≡ w ++ s → (v ≡ w) × (r ≡ s)
same_cut P [] [] r s pv pw er es e = (refl, e)
same_cut P [] (y ∷ w) r s pv pw er es e = absurd (subst (Stops P) e er pw.0)
same_cut P (x ∷ v) [] r s pv pw er es e = absurd (subst (Stops P) (sym e) es pv.0)
same_cut P (x ∷ v) (y ∷ w) r s pv pw er es e =
    let t = same_cut P v w r s pv.1 pw.1 er es (ap (drop 1) e) in
    let a : v ≡ w = t.0 in
    (cc, t.1)

no_end : (c : ℕ) (l : List ℕ) → OfWord c → Ends (c ∷ l) → ⊥
no_end c l p (inl e) = p.0 e
no_end c l p (inr e) = p.1 e

stops : (r : List ℕ) → Ends r → Stops OfWord r
stops [] e = e
stops (c ∷ r) e = λ p. no_end c r p e

pub same_word : (v w r s : List ℕ) → AllByRecursion OfWord v → AllByRecursion OfWord w → Ends r → Ends s → v ++ r ≡ w ++ s → (v ≡ w) × (r ≡ s)
same_word v w r s pv pw er es e = same_cut OfWord v w r s pv pw (stops r er) (stops s es) e

-- where a word is none of the texts of a kind, its text begins with none
pub no_take :
    {X : Type 0} (write : X → List ℕ) (lawful : X → Type 0) (words : (x : X) → lawful x → AllByRecursion OfWord (write x)) (text w rest : List ℕ)
    → (text ≡ w ++ rest) × AllByRecursion OfWord w × Ends rest → ((x : X) → lawful x → w ≢ write x)
    → (x : X) (s : List ℕ) → lawful x → Ends s → text ≢ write x ++ s
no_take write lawful words text w rest cut none x s g es e =
    none x g (same_word w (write x) rest s cut.1 (words x g) cut.2 es (sym cut.0 ∙ e)).0

-- a byte before which a word can end
abbrev pub end_of_word : ℕ → Bool
end_of_word c = nat_eq c 32 || nat_eq c 41

of_word : (c : ℕ) → end_of_word c ≡ false → OfWord c
of_word c h = (λ e. let no : end_of_word c ≡ true = grind (arith, nat_tests) in absurd (grind (arith, nat_tests)), λ e. let no : end_of_word c ≡ true = grind (arith, nat_tests) in absurd (grind (arith, nat_tests)))

an_end : (c : ℕ) → end_of_word c ≡ true → (c ≡ 32) ⊎ (c ≡ 41)
an_end c h = grind (arith, nat_tests)

-- how many bytes stand before the first of them
abbrev before : List ℕ → ℕ
before text = position_or_len end_of_word text

-- the word before it, and what follows
word_front : (text : List ℕ) → AllByRecursion OfWord (take (before text) text)
word_front [] = tt
word_front (c ∷ rest) = by (end_of_word c) refl (word_front rest)
  where
    by : (b : Bool) → end_of_word c ≡ b → AllByRecursion OfWord (take (before rest) rest) → AllByRecursion OfWord (take (cond (not b) (1 + before rest) 0) (c ∷ rest))
    by true is later = tt
    by false is later =
        let more : suc (before rest) ≡ 1 + before rest = omega arith in
        subst (λ (n : ℕ). AllByRecursion OfWord (take n (c ∷ rest))) more (of_word c is, later)

word_back : (text : List ℕ) → before text < length text → Ends (drop (before text) text)
word_back [] lt = absurd (omega arith)
word_back (c ∷ rest) lt = by (end_of_word c) refl (word_back rest) lt
  where
    by : (b : Bool) → end_of_word c ≡ b → (before rest < length rest → Ends (drop (before rest) rest))
        → cond (not b) (1 + before rest) 0 < length (c ∷ rest) → Ends (drop (cond (not b) (1 + before rest) 0) (c ∷ rest))
    by true is later lt = an_end c is
    by false is later lt =
        let more : suc (before rest) ≡ 1 + before rest = omega arith in
        subst (λ (n : ℕ). Ends (drop n (c ∷ rest))) more (later (omega (arith, lt)))

-- a text is cut at the first end of a word
pub cut_at : (text : List ℕ) (i : ℕ) → position end_of_word text ≡ Some i → (text ≡ take i text ++ drop i text) × AllByRecursion OfWord (take i text) × Ends (drop i text)
cut_at text i found = by (nat_lt (before text) (length text)) refl found
  where
    by : (b : Bool) → nat_lt (before text) (length text) ≡ b → cond b (Some (before text)) None ≡ Some i → (text ≡ take i text ++ drop i text) × AllByRecursion OfWord (take i text) × Ends (drop i text)
    by true lt is =
        let same : before text ≡ i = cc in
        subst (λ (n : ℕ). (text ≡ take n text ++ drop n text) × AllByRecursion OfWord (take n text) × Ends (drop n text)) same
        (sym (take-append-drop (before text) text), word_front text, word_back text (grind (arith, nat_tests)))
    by false lt is = let no : ◌≡◌ {A = ℕ} 0 1 = cc in absurd (omega arith)

-- and where no word can end, all of it is of a word
pub all_of_word : (text : List ℕ) → position end_of_word text ≡ None → AllByRecursion OfWord text
all_of_word text none = by (nat_lt (before text) (length text)) refl none
  where
    by : (b : Bool) → nat_lt (before text) (length text) ≡ b → cond b (Some (before text)) None ≡ None → AllByRecursion OfWord text
    by true lt is = let no : ◌≡◌ {A = ℕ} 0 1 = cc in absurd (omega arith)
    by false lt is = subst (AllByRecursion OfWord) (take_all (before text) text (grind (arith, nat_tests))) (word_front text)

pub no_cut : (text : List ℕ) → AllByRecursion OfWord text → (w rest : List ℕ) → AllByRecursion OfWord w → Ends rest → text ≢ w ++ rest
no_cut text p w [] q e h = e
no_cut text p w (c ∷ rest) q e h =
    let d : AllByRecursion OfWord (c ∷ rest) = subst (AllByRecursion OfWord) (front_rest text w (c ∷ rest) h) (All-drop OfWord (length w) text p) in
    no_end c rest d.0 e

-- a text and what stands after its first byte, as a slice pattern has it
pub split_first : (text : List ℕ) (c : ℕ) → 0 < length text → slice_index text 0 ≡ c → text ≡ c ∷ take (length text - 1) (drop 1 text)
split_first [] c h e = absurd (omega arith)
split_first (x ∷ xs) c h e = ap (λ y. y ∷ xs) e ∙ ap (λ l. c ∷ l) (sym (take_all (length (x ∷ xs) - 1) xs (omega arith)))

pub no_first : (text : List ℕ) → length text < 1 → slice_index text 0 ≢ 32
no_first [] h e = omega arith
no_first (x ∷ text) h e = omega arith

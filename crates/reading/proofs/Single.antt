-- A text has one answer.
use Rattle.std.proofs.Common.{◌≡◌, ℕ, ◌+◌, List, [], ◌∷◌, ◌++◌, length, Ok, Err, Result, sym, refl, ap, ◌∙◌, subst, inl, inr, append_assoc, arith, length-append, MatchResult}
use Rattle.std.specs.List.{flat_map, AllByRecursion}
use Rattle.std.proofs.lemmas.Bool.{cases_lt}
use Rattle.forms.specs.Forms.{Form, text_of, Lawful}
use Rattle.text.specs.Kinds.{Begins}
use Rattle.text.proofs.Feeds.{same_start, some_form}
use Rattle.kinds.specs.Rules.{Rule}
use Rattle.reading.specs.Steps.{Blame, State, bare, step}
use Rattle.reading.specs.Texts.{Runs, IsReady, Blames, ReadsFrom, TextHasOneAnswer}

one_form : (f g : Form) (text : List ℕ) → Begins f text → Begins g text → f ≡ g
one_form f g text a b = (same_start f g a.after b.after a.lawful b.lawful (sym a.parts ∙ b.parts)).0

no_begin : (f : Form) (text : List ℕ) → Begins f text → text ≡ [] → ⊥
no_begin f text b e = omega (arith, some_form f b.lawful, length-append (text_of f) b.after, ap length (sym b.parts ∙ e))

clash : (r : Result State Blame) (b : Blame) (v : State) → r ≡ Err b → r ≡ Ok v → ⊥
clash r b v p q = let z : ◌≡◌ {A = ℕ} 0 1 = cc in omega arith

-- the next line is not taken
abbrev Stuck : Rule → ℕ → State → List ℕ → Type 0
Stuck k n t x = (f : Form) (v : State) → Begins f x → step k n t f ≡ Ok v → ⊥

blamed_stuck : (k : Rule) (n : ℕ) (t : State) (x : List ℕ) (b : Blame) → Blames k n t x b → Stuck k n t x
blamed_stuck k n t x b (inl (e, none)) f v h s = none.1 f h
blamed_stuck k n t x b (inr (inl (e, gone, lacks))) f v h s = no_begin f x h gone
blamed_stuck k n t x b (inr (inr (g, hg, sg))) f v h s =
    clash (step k n t f) b v (subst (λ y. step k n t y ≡ Err b) (one_form g f x hg h) sg) s

abbrev Last : Rule → ℕ → State → List ℕ → Result State Blame → Type 0
Last k n t x r = MatchResult r (λ s. (x ≡ []) × (s ≡ t) × IsReady t) (λ b. Blames k n t x b)

stuck : (k : Rule) (n : ℕ) (t : State) (x : List ℕ) (r : Result State Blame) → Last k n t x r → Stuck k n t x
stuck k n t x (Ok s) h = λ f v b e. no_begin f x b h.0
stuck k n t x (Err b) h = blamed_stuck k n t x b h

begins : (f : Form) (fs : List Form) (x y : List ℕ) → Lawful f → y ≡ flat_map text_of (f ∷ fs) ++ x → Begins f y
begins f fs x y l e = record { after = flat_map text_of fs ++ x; lawful = l; parts = e ∙ append_assoc (text_of f) (flat_map text_of fs) x }

meet :
    (k : Rule) (n : ℕ) (s t u : State) (fs gs : List Form) (x y : List ℕ) → AllByRecursion Lawful fs → AllByRecursion Lawful gs → Runs k n s fs t → Runs k n s gs u
    → Stuck k (n + length fs) t x → Stuck k (n + length gs) u y → flat_map text_of fs ++ x ≡ flat_map text_of gs ++ y → (length fs ≡ length gs) × (t ≡ u) × (x ≡ y)
meet k n s t u [] [] x y af ag rf rg st su e = (refl, sym rf ∙ rg, e)
meet k n s t u [] (g ∷ gs) x y af ag rf (v, d, rg) st su e =
    let here : n ≡ n + 0 = omega arith in
    absurd (st g v (begins g gs y x ag.0 e) (subst (λ j. step k j t g ≡ Ok v) here (subst (λ z. step k n z g ≡ Ok v) rf d)))
meet k n s t u (f ∷ fs) [] x y af ag (v, d, rf) rg st su e =
    let here : n ≡ n + 0 = omega arith in
    absurd (su f v (begins f fs x y af.0 (sym e)) (subst (λ j. step k j u f ≡ Ok v) here (subst (λ z. step k n z f ≡ Ok v) rg d)))
meet k n s t u (f ∷ fs) (g ∷ gs) x y af ag (v, d, rf) (w, h, rg) st su e =
    let same = same_start f g (flat_map text_of fs ++ x) (flat_map text_of gs ++ y) af.0 ag.0
    (sym (append_assoc (text_of f) (flat_map text_of fs) x) ∙ e ∙ append_assoc (text_of g) (flat_map text_of gs) y) in
    let fg : f ≡ g = same.0 in
    let next : v ≡ w = cc in
    let far-f : n + length (f ∷ fs) ≡ (n + 1) + length fs = omega arith in
    let far-g : n + length (g ∷ gs) ≡ (n + 1) + length gs = omega arith in
    let m = meet k (n + 1) w t u fs gs x y af.1 ag.1 (subst (λ z. Runs k (n + 1) z fs t) next rf) rg (subst (λ j. Stuck k j t x) far-f st) (subst (λ j. Stuck k j u y) far-g su) same.1 in
    (omega (arith, m.0), m.1, m.2)

one_blame : (k : Rule) (n : ℕ) (t : State) (x : List ℕ) (b c : Blame) → Blames k n t x b → Blames k n t x c → b ≡ c
one_blame k n t x b c (inl (e, none)) (inl (h, none')) = e ∙ sym h
one_blame k n t x b c (inl (e, none)) (inr (inl (h, gone, lacks))) = absurd (omega (arith, none.0, ap length gone))
one_blame k n t x b c (inl (e, none)) (inr (inr (g, hg, sg))) = absurd (none.1 g hg)
one_blame k n t x b c (inr (inl (e, gone, lacks))) (inl (h, none)) = absurd (omega (arith, none.0, ap length gone))
one_blame k n t x b c (inr (inl (e, gone, lacks))) (inr (inl (h, gone', lacks'))) = e ∙ sym h
one_blame k n t x b c (inr (inl (e, gone, lacks))) (inr (inr (g, hg, sg))) = absurd (no_begin g x hg gone)
one_blame k n t x b c (inr (inr (f, hf, sf))) (inl (h, none)) = absurd (none.1 f hf)
one_blame k n t x b c (inr (inr (f, hf, sf))) (inr (inl (h, gone, lacks))) = absurd (no_begin f x hf gone)
one_blame k n t x b c (inr (inr (f, hf, sf))) (inr (inr (g, hg, sg))) =
    let fg : f ≡ g = one_form f g x hf hg in
    cc

end_or_blame : (k : Rule) (n : ℕ) (t : State) (x : List ℕ) (b : Blame) → x ≡ [] → IsReady t → Blames k n t x b → ⊥
end_or_blame k n t x b e ready (inl (h, none)) = omega (arith, none.0, ap length e)
end_or_blame k n t x b e ready (inr (inl (h, gone, lacks))) = lacks ready
end_or_blame k n t x b e ready (inr (inr (g, hg, sg))) = no_begin g x hg e

one_end : (k : Rule) (n : ℕ) (t : State) (x : List ℕ) (r q : Result State Blame) → Last k n t x r → Last k n t x q → r ≡ q
one_end k n t x (Ok a) (Ok b) h j = ap Ok (h.1 ∙ sym j.1)
one_end k n t x (Ok a) (Err b) h j = absurd (end_or_blame k n t x b h.0 h.2 j)
one_end k n t x (Err a) (Ok b) h j = absurd (end_or_blame k n t x a j.0 j.2 h)
one_end k n t x (Err a) (Err b) h j = ap Err (one_blame k n t x a b h j)

one_from : (k : Rule) (n : ℕ) (s : State) (text : List ℕ) (r q : Result State Blame) → ReadsFrom k n s text r → ReadsFrom k n s text q → r ≡ q
one_from k n s text r q a b =
    let m = meet k n s a.last b.last a.forms b.forms a.rest b.rest a.lawful b.lawful a.run b.run
    (stuck k (n + length a.forms) a.last a.rest r a.ends) (stuck k (n + length b.forms) b.last b.rest q b.ends) (sym a.parts ∙ b.parts) in
    let ends : Last k (n + length b.forms) b.last b.rest r =
    subst (λ j. Last k (n + j) b.last b.rest r) m.0 (subst (λ t. Last k (n + length a.forms) t b.rest r) m.1 (subst (λ x. Last k (n + length a.forms) a.last x r) m.2 a.ends)) in
    one_end k (n + length b.forms) b.last b.rest r q ends b.ends

pub one_answer : TextHasOneAnswer
one_answer k text r s a b =
    elim (cases_lt 16384 (length text)) [
      | inl long ↦ a.long long ∙ sym (b.long long)
      | inr short ↦ one_from k 1 bare text r s (a.short short) (b.short short)
    ]

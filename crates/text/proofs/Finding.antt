-- The kind of a text's channel, line by line, and that there is one answer.
use Rattle.std.proofs.Common.{◌≡◌, ℕ, ◌+◌, ◌≤◌, ◌⊎◌, List, [], ◌∷◌, ◌++◌, length, Some, None, Ok, Err, Option, Result, sym, refl, ap, ◌∙◌, subst, inl, inr, arith, length-append, MatchResult}
use Rattle.std.specs.List.{flat_map, AllByRecursion}
use Rattle.std.proofs.lemmas.List.{append-nil}
use Rattle.std.proofs.lemmas.Bool.{cases_lt}
use Rattle.forms.specs.Forms.{Form, head_of, text_of, Lawful}
use Rattle.forms.specs.declared.head.Head.{Head}
use Rattle.forms.specs.declared.head.Head.TheVariants.{Depth, Place}
use Rattle.text.specs.declared.fault.Cause.{Cause}
use Rattle.text.specs.declared.fault.Cause.TheVariants.{Text}
use Rattle.text.specs.declared.fault.Fault.{Fault}
use Rattle.text.specs.declared.fault.Malformed.TheVariants.{Heads}
use Rattle.text.specs.declared.kind.Kind.{Kind}
use Rattle.text.specs.Cutting.{CutsLine}
use Rattle.text.specs.Kinds.{kind_of, Begins, NoForm, Misplaced, Blames, Found, KindHasOneAnswer, ReadsHead}
use Rattle.text.proofs.Feeds.{same_start, some_form, first_is, none_left}

-- the depth lines before the rest of a text
pub record Before (text rest : List ℕ) (depths : List Form) : Type 0 where
  pub parts : text ≡ flat_map text_of depths ++ rest
  pub all_depths : AllByRecursion (λ f. Lawful f × (head_of f ≡ Depth)) depths
  pub one_at_most : length depths ≤ 1

pub none_before : (text : List ℕ) → Before text text []
none_before text = record { parts = refl; all_depths = tt; one_at_most = omega arith }

one_before : (text line rest : List ℕ) (f : Form) → CutsLine text line rest → Lawful f → line ≡ text_of f → head_of f ≡ Depth → Before text rest (f ∷ [])
one_before text line rest f cut l e d =
    record {
      parts = cut.parts ∙ ap (λ k. k ++ rest) (e ∙ sym (append-nil (text_of f)));
      all_depths = ((l, d), tt);
      one_at_most = omega arith;
    }

-- after a depth line
pub after_depth_lem :
    (text line rest : List ℕ) (o : Option Kind) → o ≡ None → CutsLine text line rest → ReadsHead line (Ok o) → (d : Form) × Before text rest (d ∷ [])
after_depth_lem text line rest o e cut h =
    let k : ReadsHead line (Ok None) = subst (λ p. ReadsHead line (Ok p)) e h in
    (k.0, one_before text line rest k.0 cut k.1 k.2 k.3)

begins : (rest line more : List ℕ) (f : Form) → CutsLine rest line more → Lawful f → line ≡ text_of f → Begins f rest
begins rest line more f cut l e = record { after = more; lawful = l; parts = cut.parts ∙ ap (λ k. k ++ more) e }

pub found_kind :
    (text rest line more : List ℕ) (depths : List Form) (kind : Kind) → Before text rest depths → CutsLine rest line more
    → ReadsHead line (Ok (Some kind)) → Found text (Ok kind)
found_kind text rest line more depths kind b cut (f, l, e, k) =
    record {
      depths = depths;
      rest = rest;
      parts = b.parts;
      all_depths = b.all_depths;
      one_at_most = b.one_at_most;
      decided = (f, begins rest line more f cut l e, k);
    }

pub found_depth :
    (text rest line more : List ℕ) (d : Form) → Before text rest (d ∷ []) → CutsLine rest line more → ReadsHead line (Ok None)
    → Found text (Err (record { line = 2; cause = Text Heads }))
found_depth text rest line more d b cut (f, l, e, k) =
    record {
      depths = d ∷ [];
      rest = rest;
      parts = b.parts;
      all_depths = b.all_depths;
      one_at_most = b.one_at_most;
      decided = (refl, inr (refl, inr (f, begins rest line more f cut l e, inr (k, omega arith))));
    }

blame :
    (rest line more : List ℕ) (n : ℕ) (cause : Cause) → CutsLine rest line more → ReadsHead line (Err cause) → Blames n rest cause
blame rest line more n cause cut (inl (is, some, none)) =
    inl (is, (omega (arith, length-append line more, ap length cut.parts), λ f b. none f b.lawful (first_is rest line more f b.after cut b.lawful b.parts)))
blame rest line more n cause cut (inr (is, inl z)) = inr (is, inl (none_left rest line more cut z))
blame rest line more n cause cut (inr (is, inr (f, l, e, p))) = inr (is, inr (f, begins rest line more f cut l e, inl p))

pub found_fault :
    (text rest line more : List ℕ) (depths : List Form) (fault : Fault) → Before text rest depths → CutsLine rest line more
    → (fault.line ≡ length depths + 1) × ReadsHead line (Err fault.cause) → Found text (Err fault)
found_fault text rest line more depths fault b cut (e, h) =
    record {
      depths = depths;
      rest = rest;
      parts = b.parts;
      all_depths = b.all_depths;
      one_at_most = b.one_at_most;
      decided = (e, blame rest line more (length depths) fault.cause cut h);
    }

-- a text begins with one form
one_form : (f g : Form) (text : List ℕ) → Begins f text → Begins g text → f ≡ g
one_form f g text a b = (same_start f g a.after b.after a.lawful b.lawful (sym a.parts ∙ b.parts)).0

some_begins : (f : Form) (text : List ℕ) → Begins f text → text ≡ [] → ⊥
some_begins f text b e = omega (arith, some_form f b.lawful, length-append (text_of f) b.after, ap length (sym b.parts ∙ e))

no_kind : (h : Head) (kind : Kind) → kind_of h ≡ Some kind → (h ≡ Place) ⊎ (h ≡ Depth) → ⊥
no_kind h kind k (inl e) = let p : kind_of Place ≡ Some kind = sym (ap kind_of e) ∙ k in let z : ◌≡◌ {A = ℕ} 0 1 = cc in omega arith
no_kind h kind k (inr e) = let p : kind_of Depth ≡ Some kind = sym (ap kind_of e) ∙ k in let z : ◌≡◌ {A = ℕ} 0 1 = cc in omega arith

weaker : (h : Head) (n : ℕ) → (h ≡ Place) ⊎ ((h ≡ Depth) × (1 ≤ n)) → (h ≡ Place) ⊎ (h ≡ Depth)
weaker h n (inl e) = inl e
weaker h n (inr (e, le)) = inr e

-- what decides at a line
abbrev Decided : ℕ → List ℕ → Result Kind Fault → Type 0
Decided n rest r =
    MatchResult r (λ kind. (f : Form) × Begins f rest × (kind_of (head_of f) ≡ Some kind)) (λ fault. (fault.line ≡ n + 1) × Blames n rest fault.cause)

kind_or_blame : (n : ℕ) (rest : List ℕ) (f : Form) (kind : Kind) (cause : Cause) → Begins f rest → kind_of (head_of f) ≡ Some kind → Blames n rest cause → ⊥
kind_or_blame n rest f kind cause b k (inl (is, none)) = none.1 f b
kind_or_blame n rest f kind cause b k (inr (is, inl e)) = some_begins f rest b e
kind_or_blame n rest f kind cause b k (inr (is, inr (g, bg, w))) =
    no_kind (head_of f) kind k (subst (λ h. (head_of h ≡ Place) ⊎ (head_of h ≡ Depth)) (one_form g f rest bg b) (weaker (head_of g) n w))

form_or_heads : (n : ℕ) (rest : List ℕ) → NoForm rest → Misplaced n rest → ⊥
form_or_heads n rest (some, none) (inl e) = omega (arith, ap length e)
form_or_heads n rest (some, none) (inr (f, b, w)) = none f b

one_cause : (n : ℕ) (rest : List ℕ) (c d : Cause) → Blames n rest c → Blames n rest d → c ≡ d
one_cause n rest c d (inl a) (inl b) = a.0 ∙ sym b.0
one_cause n rest c d (inl a) (inr b) = absurd (form_or_heads n rest a.1 b.1)
one_cause n rest c d (inr a) (inl b) = absurd (form_or_heads n rest b.1 a.1)
one_cause n rest c d (inr a) (inr b) = a.0 ∙ sym b.0

same_fault : (d e : Fault) → d.line ≡ e.line → d.cause ≡ e.cause → d ≡ e
same_fault d e p q = λ i. record { line = p i; cause = q i }

one_decision : (n : ℕ) (rest : List ℕ) (r s : Result Kind Fault) → Decided n rest r → Decided n rest s → r ≡ s
one_decision n rest (Ok j) (Ok k) (f, bf, kf) (g, bg, kg) =
    let same : f ≡ g = one_form f g rest bf bg in
    let other : kind_of (head_of g) ≡ Some j = subst (λ h. kind_of (head_of h) ≡ Some j) same kf in
    let is : j ≡ k = cc in
    ap Ok is
one_decision n rest (Ok j) (Err e) (f, bf, kf) (l, b) = absurd (kind_or_blame n rest f j e.cause bf kf b)
one_decision n rest (Err d) (Ok k) (l, b) (g, bg, kg) = absurd (kind_or_blame n rest g k d.cause bg kg b)
one_decision n rest (Err d) (Err e) (l, a) (m, b) = ap Err (same_fault d e (l ∙ sym m) (one_cause n rest d.cause e.cause a b))

-- no line decides that is a depth line with none before it
no_decision : (rest : List ℕ) (d : Form) (r : Result Kind Fault) → Begins d rest → head_of d ≡ Depth → Decided 0 rest r → ⊥
no_decision rest d (Ok k) b h (f, bf, kf) = no_kind (head_of f) k kf (inr (ap head_of (one_form f d rest bf b) ∙ h))
no_decision rest d (Err e) b h (l, inl (is, none)) = none.1 d b
no_decision rest d (Err e) b h (l, inr (is, inl empty)) = some_begins d rest b empty
no_decision rest d (Err e) b h (l, inr (is, inr (f, bf, inl p))) =
    let place : head_of d ≡ Place = sym (ap head_of (one_form f d rest bf b)) ∙ p in
    let z : ◌≡◌ {A = ℕ} 0 1 = cc in omega arith
no_decision rest d (Err e) b h (l, inr (is, inr (f, bf, inr (q, le)))) = omega arith

begins_with : (d : Form) (text rest : List ℕ) → Lawful d → text ≡ (text_of d ++ []) ++ rest → Begins d text
begins_with d text rest l e = record { after = rest; lawful = l; parts = e ∙ ap (λ k. k ++ rest) (append-nil (text_of d)) }

abbrev Depths : List Form → Type 0
Depths fs = AllByRecursion (λ f. Lawful f × (head_of f ≡ Depth)) fs

meet :
    (text : List ℕ) (fs gs : List Form) (x y : List ℕ) (r s : Result Kind Fault) → text ≡ flat_map text_of fs ++ x → text ≡ flat_map text_of gs ++ y
    → Depths fs → Depths gs → length fs ≤ 1 → length gs ≤ 1 → Decided (length fs) x r → Decided (length gs) y s → r ≡ s
meet text [] [] x y r s e h df dg lf lg a b = one_decision 0 y r s (subst (λ t. Decided 0 t r) (sym e ∙ h) a) b
meet text [] (g ∷ []) x y r s e h df dg lf lg a b =
    absurd (no_decision x g r (begins_with g x y dg.0.0 (sym e ∙ h)) dg.0.1 a)
meet text (f ∷ []) [] x y r s e h df dg lf lg a b =
    absurd (no_decision y f s (begins_with f y x df.0.0 (sym h ∙ e)) df.0.1 b)
meet text (f ∷ []) (g ∷ []) x y r s e h df dg lf lg a b =
    let same = (same_start f g x y df.0.0 dg.0.0 (sym (e ∙ ap (λ k. k ++ x) (append-nil (text_of f))) ∙ h ∙ ap (λ k. k ++ y) (append-nil (text_of g)))).1 in
    one_decision 1 y r s (subst (λ t. Decided 1 t r) same a) b
meet text (f ∷ (k ∷ fs)) gs x y r s e h df dg lf lg a b = absurd (omega arith)
meet text [] (g ∷ (k ∷ gs)) x y r s e h df dg lf lg a b = absurd (omega arith)
meet text (f ∷ []) (g ∷ (k ∷ gs)) x y r s e h df dg lf lg a b = absurd (omega arith)

pub one_answer : KindHasOneAnswer
one_answer text r s a b =
    elim (cases_lt 16384 (length text)) [
      | inr short ↦
          let p = a.short short in
          let q = b.short short in
          meet text p.depths q.depths p.rest q.rest r s p.parts q.parts p.all_depths q.all_depths p.one_at_most q.one_at_most p.decided q.decided
      | inl long ↦ a.long long ∙ sym (b.long long)
    ]

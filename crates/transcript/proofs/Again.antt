-- An accepted text is the text of what was read, in one order of its heads or the other.
use Rattle.std.proofs.Common.{◌≡◌, ℕ, ◌+◌, Bool, true, false, cond, not, ◌&&◌, eqb, leb, ◌⊎◌, List, [], ◌∷◌, ◌++◌, length, ℤ, pos, negsuc, Some, None, Ok, Err, Option, Result, sym, refl, ap, ◌∙◌, subst, inl, inr, append_assoc, arith}
use Rattle.std.specs.List.{flat_map}
use Rattle.std.proofs.lemmas.List.{append-nil}
use Rattle.std.proofs.lemmas.Bool.Decides.{nat_tests}
use Rattle.channel.specs.Meaning.{Meaning, taken}
use Rattle.channel.specs.Refusals.{first_of}
use Rattle.burst.specs.Places.{priors_allowed}
use Rattle.burst.specs.declared.place.Place.{Place}
use Rattle.receiver.specs.Standing.{depth_refusal}
use Rattle.forms.specs.Forms.{Form, taps_form, table_form, code_form, depth_form, place_form, text_of}
use Rattle.forms.specs.declared.prior.Prior.{Prior}
use Rattle.kinds.specs.Rules.{Rule, Told, line_refusal}
use Rattle.reading.specs.Places.{all_fit, place_of, place_refusal}
use Rattle.reading.specs.Steps.{Blame, State, bare, tuned, deep, ready, unless, received, depth_of, tried}
use Rattle.reading.specs.Texts.{Runs, IsReady, ReadsFrom}
use Rattle.writing.specs.Written.{of_depth, of_place, places_text}
use Rattle.transcript.proofs.Priors.{priors_again}

no_err : {X : Type 0} (b : Blame) (u : State) → ◌≡◌ {A = Result State Blame} (Err b) (Ok u) → X
no_err b u e = let z : ◌≡◌ {A = ℕ} 0 1 = cc in absurd (omega arith)

same_ok : (s u : State) → ◌≡◌ {A = Result State Blame} (Ok s) (Ok u) → s ≡ u
same_ok s u e = cc

-- what is taken is not refused
not_refused : (o : Option Told) (n : ℕ) (s : Result State Blame) (u : State) → unless o n s ≡ Ok u → (o ≡ None) × (s ≡ Ok u)
not_refused None n s u e = (refl, e)
not_refused (Some t) n s u e = no_err (record { line = n; told = t }) u e

no_number : (o : Option ℕ) → received o ≡ None → o ≡ None
no_number None e = refl
no_number (Some k) e = let z : ◌≡◌ {A = ℕ} 0 1 = cc in absurd (omega arith)

when : (b : Bool) (x : Result State Blame) (c : Blame) (u : State) → cond b x (Err c) ≡ Ok u → (b ≡ true) × (x ≡ Ok u)
when true x c u e = (refl, e)
when false x c u e = no_err c u e

equal : (m n : ℕ) → eqb m n ≡ true → m ≡ n
equal m n h = grind (arith, nat_tests)

allowed : (full heard good : Bool) → first_of ((full, 3) ∷ ((not heard, 4) ∷ ((not good, 5) ∷ []))) ≡ None → good ≡ true
allowed full heard good h = grind (arith, nat_tests)

left : (a b : Bool) → (a && b) ≡ true → a ≡ true
left a b h = grind (arith, nat_tests)

-- a place line that is taken is the line of the place that it says
pub same_line : (k : Rule) (f : Form) (count : ℕ) (x y : ℤ) (ps : List Prior) → (k.symbols ≡ 2) ⊎ (k.symbols ≡ 4) → length ps ≡ k.symbols
    → place_refusal (k.meaning f) count x y ps ≡ None → place_form x y ps ≡ of_place k.symbols (place_of x y ps)
same_line k f count x y ps t l none =
    let good = allowed (leb 128 count) (taken (k.meaning f) (place_of x y ps).sample) (all_fit ps && priors_allowed (k.meaning f).symbols (place_of x y ps).priors) none in
    ap (place_form x y) (sym (priors_again k.symbols ps t l (left (all_fit ps) (priors_allowed (k.meaning f).symbols (place_of x y ps).priors) good)))

-- the places that some lines add
pub record Places (k : Rule) (f : Form) (q : ℕ) (done : List Place) (fs : List Form) (last : State) : Type 0 where
  pub places : List Place
  pub state : last ≡ ready f q (done ++ places)
  pub text : flat_map text_of fs ≡ places_text k.symbols places

one_more : (k : Rule) (f : Form) (q : ℕ) (done : List Place) (x y : ℤ) (ps : List Prior) (fs : List Form) (last : State) (count : ℕ) → (k.symbols ≡ 2) ⊎ (k.symbols ≡ 4)
    → length ps ≡ k.symbols → place_refusal (k.meaning f) count x y ps ≡ None → Places k f q (done ++ (place_of x y ps ∷ [])) fs last → Places k f q done (place_form x y ps ∷ fs) last
one_more k f q done x y ps fs last count t l none g =
    record {
      places = place_of x y ps ∷ g.places;
      state = g.state ∙ ap (ready f q) (append_assoc done (place_of x y ps ∷ []) g.places);
      text = ap (λ h. text_of h ++ flat_map text_of fs) (same_line k f count x y ps t l none) ∙ ap (λ r. text_of (of_place k.symbols (place_of x y ps)) ++ r) g.text;
    }

pub only_places : (k : Rule) (f : Form) (q : ℕ) (t : (k.symbols ≡ 2) ⊎ (k.symbols ≡ 4)) (n : ℕ) (done : List Place) (fs : List Form) (last : State)
    → Runs k n (ready f q done) fs last → Places k f q done fs last
only_places k f q t n done [] last r = record { places = []; state = sym r ∙ ap (ready f q) (sym (append-nil done)); text = refl }
only_places k f q t n done (taps_form a b ∷ fs) last (u, d, r) = no_err _ u d
only_places k f q t n done (table_form a b c ∷ fs) last (u, d, r) = no_err _ u d
only_places k f q t n done (code_form a b c ∷ fs) last (u, d, r) = no_err _ u d
only_places k f q t n done (depth_form z ∷ fs) last (u, d, r) = no_err _ u d
only_places k f q t n done (place_form x y ps ∷ fs) last (u, d, r) =
    let a = when (eqb (length ps) k.symbols) _ _ u d in
    let b = not_refused (received (place_refusal (k.meaning f) (length done) x y ps)) n _ u a.1 in
    let is : ready f q (done ++ (place_of x y ps ∷ [])) ≡ u = same_ok _ u b.1 in
    one_more k f q done x y ps fs last (length done) t (equal (length ps) k.symbols a.0) (no_number _ b.0)
    (only_places k f q t (n + 1) (done ++ (place_of x y ps ∷ [])) fs last (subst (λ s. Runs k (n + 1) s fs last) (sym is) r))

-- an allowed depth is not below 0
no_zero : (m : Meaning) → depth_refusal m 0 ≡ None → ⊥
no_zero m h = let z : ◌≡◌ {A = ℕ} 0 1 = cc in omega arith

depth_line : (m : Meaning) (z : ℤ) → depth_refusal m (depth_of z) ≡ None → depth_form z ≡ of_depth (depth_of z)
depth_line m (pos n) h = refl
depth_line m (negsuc n) h = absurd (no_zero m h)

tried_is : (k : Rule) (n : ℕ) (f : Form) (z : ℤ) (u : State) → tried k n f z ≡ Ok u → (depth_refusal (k.meaning f) (depth_of z) ≡ None) × (ready f (depth_of z) [] ≡ u)
tried_is k n f z u e =
    let a = not_refused (received (depth_refusal (k.meaning f) (depth_of z))) n (Ok (ready f (depth_of z) [])) u e in
    (no_number (depth_refusal (k.meaning f) (depth_of z)) a.0, same_ok (ready f (depth_of z) []) u a.1)

-- the lines of a text that is accepted
abbrev pub Shape : Rule → List Form → State → Type 0
Shape k fs last =
    (f : Form) × (q : ℕ) × (ps : List Place) × (last ≡ ready f q ps)
    × ((flat_map text_of fs ≡ text_of f ++ (text_of (of_depth q) ++ places_text k.symbols ps)) ⊎ (flat_map text_of fs ≡ text_of (of_depth q) ++ (text_of f ++ places_text k.symbols ps)))

channel_first : (k : Rule) (t : (k.symbols ≡ 2) ⊎ (k.symbols ≡ 4)) (f : Form) (z : ℤ) (u : State) (fs : List Form) (last : State) → tried k 2 f z ≡ Ok u → Runs k 3 u fs last
    → Shape k (f ∷ (depth_form z ∷ fs)) last
channel_first k t f z u fs last e r =
    let a = tried_is k 2 f z u e in
    let g = only_places k f (depth_of z) t 3 [] fs last (subst (λ s. Runs k 3 s fs last) (sym a.1) r) in
    (f, depth_of z, g.places, g.state, inl (ap (λ h. text_of f ++ (text_of h ++ flat_map text_of fs)) (depth_line (k.meaning f) z a.0) ∙ ap (λ x. text_of f ++ (text_of (of_depth (depth_of z)) ++ x)) g.text))

depth_first_lem : (k : Rule) (t : (k.symbols ≡ 2) ⊎ (k.symbols ≡ 4)) (f : Form) (z : ℤ) (u : State) (fs : List Form) (last : State) → unless (line_refusal k f) 2 (tried k 1 f z) ≡ Ok u → Runs k 3 u fs last
    → Shape k (depth_form z ∷ (f ∷ fs)) last
depth_first_lem k t f z u fs last e r =
    let b = not_refused (line_refusal k f) 2 (tried k 1 f z) u e in
    let a = tried_is k 1 f z u b.1 in
    let g = only_places k f (depth_of z) t 3 [] fs last (subst (λ s. Runs k 3 s fs last) (sym a.1) r) in
    (f, depth_of z, g.places, g.state, inr (ap (λ h. text_of h ++ (text_of f ++ flat_map text_of fs)) (depth_line (k.meaning f) z a.0) ∙ ap (λ x. text_of (of_depth (depth_of z)) ++ (text_of f ++ x)) g.text))

after_channel_lem : (k : Rule) (t : (k.symbols ≡ 2) ⊎ (k.symbols ≡ 4)) (f : Form) (fs : List Form) (last : State) → IsReady last → Runs k 2 (tuned f) fs last → Shape k (f ∷ fs) last
after_channel_lem k t f [] last whole r = absurd (subst IsReady (sym r) whole)
after_channel_lem k t f (taps_form a b ∷ fs) last whole (u, d, r) = no_err _ u d
after_channel_lem k t f (table_form a b c ∷ fs) last whole (u, d, r) = no_err _ u d
after_channel_lem k t f (code_form a b c ∷ fs) last whole (u, d, r) = no_err _ u d
after_channel_lem k t f (place_form a b c ∷ fs) last whole (u, d, r) = no_err _ u d
after_channel_lem k t f (depth_form z ∷ fs) last whole (u, d, r) = channel_first k t f z u fs last d r

after_depth_lem : (k : Rule) (t : (k.symbols ≡ 2) ⊎ (k.symbols ≡ 4)) (z : ℤ) (fs : List Form) (last : State) → IsReady last → Runs k 2 (deep z) fs last → Shape k (depth_form z ∷ fs) last
after_depth_lem k t z [] last whole r = absurd (subst IsReady (sym r) whole)
after_depth_lem k t z (taps_form a b ∷ fs) last whole (u, d, r) = depth_first_lem k t (taps_form a b) z u fs last d r
after_depth_lem k t z (table_form a b c ∷ fs) last whole (u, d, r) = depth_first_lem k t (table_form a b c) z u fs last d r
after_depth_lem k t z (code_form a b c ∷ fs) last whole (u, d, r) = depth_first_lem k t (code_form a b c) z u fs last d r
after_depth_lem k t z (depth_form a ∷ fs) last whole (u, d, r) = no_err _ u d
after_depth_lem k t z (place_form a b c ∷ fs) last whole (u, d, r) = no_err _ u d

taken_first : (k : Rule) (t : (k.symbols ≡ 2) ⊎ (k.symbols ≡ 4)) (f : Form) (u : State) (fs : List Form) (last : State) → IsReady last → unless (line_refusal k f) 1 (Ok (tuned f)) ≡ Ok u
    → Runs k 2 u fs last → Shape k (f ∷ fs) last
taken_first k t f u fs last whole e r =
    let b = not_refused (line_refusal k f) 1 (Ok (tuned f)) u e in
    after_channel_lem k t f fs last whole (subst (λ s. Runs k 2 s fs last) (sym (same_ok (tuned f) u b.1)) r)

pub shape : (k : Rule) (t : (k.symbols ≡ 2) ⊎ (k.symbols ≡ 4)) (fs : List Form) (last : State) → IsReady last → Runs k 1 bare fs last → Shape k fs last
shape k t [] last whole r = absurd (subst IsReady (sym r) whole)
shape k t (taps_form a b ∷ fs) last whole (u, d, r) = taken_first k t (taps_form a b) u fs last whole d r
shape k t (table_form a b c ∷ fs) last whole (u, d, r) = taken_first k t (table_form a b c) u fs last whole d r
shape k t (code_form a b c ∷ fs) last whole (u, d, r) = taken_first k t (code_form a b c) u fs last whole d r
shape k t (depth_form z ∷ fs) last whole (u, d, r) = after_depth_lem k t z fs last whole (subst (λ s. Runs k 2 s fs last) (sym (same_ok (deep z) u d)) r)
shape k t (place_form a b c ∷ fs) last whole (u, d, r) = no_err _ u d

pub accepted : (k : Rule) (t : (k.symbols ≡ 2) ⊎ (k.symbols ≡ 4)) (text : List ℕ) (f : Form) (q : ℕ) (ps : List Place) → ReadsFrom k 1 bare text (Ok (ready f q ps))
    → (text ≡ text_of f ++ (text_of (of_depth q) ++ places_text k.symbols ps)) ⊎ (text ≡ text_of (of_depth q) ++ (text_of f ++ places_text k.symbols ps))
accepted k t text f q ps g =
    let s = shape k t g.forms g.last g.ends.2 g.run in
    let is : text ≡ flat_map text_of g.forms = g.parts ∙ ap (λ r. flat_map text_of g.forms ++ r) g.ends.0 ∙ append-nil (flat_map text_of g.forms) in
    let same : ready f q ps ≡ ready s.0 s.1 s.2 = g.ends.1 ∙ s.3 in
    in_order text (flat_map text_of g.forms) s.0 s.1 s.2 is same s.4
  where
    in_order : (text lines : List ℕ) (f' : Form) (q' : ℕ) (ps' : List Place) → text ≡ lines → ready f q ps ≡ ready f' q' ps'
        → (lines ≡ text_of f' ++ (text_of (of_depth q') ++ places_text k.symbols ps')) ⊎ (lines ≡ text_of (of_depth q') ++ (text_of f' ++ places_text k.symbols ps'))
        → (text ≡ text_of f ++ (text_of (of_depth q) ++ places_text k.symbols ps)) ⊎ (text ≡ text_of (of_depth q) ++ (text_of f ++ places_text k.symbols ps))
    in_order text lines f' q' ps' e same (inl h) =
        let ff : f' ≡ f = cc in let qq : q' ≡ q = cc in let pp : ps' ≡ ps = cc in
        inl (e ∙ h ∙ ap (λ g. text_of g ++ (text_of (of_depth q') ++ places_text k.symbols ps')) ff ∙ ap (λ n. text_of f ++ (text_of (of_depth n) ++ places_text k.symbols ps')) qq ∙ ap (λ l. text_of f ++ (text_of (of_depth q) ++ places_text k.symbols l)) pp)
    in_order text lines f' q' ps' e same (inr h) =
        let ff : f' ≡ f = cc in let qq : q' ≡ q = cc in let pp : ps' ≡ ps = cc in
        inr (e ∙ h ∙ ap (λ g. text_of (of_depth q') ++ (text_of g ++ places_text k.symbols ps')) ff ∙ ap (λ n. text_of (of_depth n) ++ (text_of f ++ places_text k.symbols ps')) qq ∙ ap (λ l. text_of (of_depth q) ++ (text_of f ++ places_text k.symbols l)) pp)

-- What a line says, and what that does.
use Rattle.std.proofs.Common.{◌≡◌, ℕ, cond, List, [], ℤ, Some, None, Ok, Err, Result, sym, refl, ap, ◌∙◌, subst, inr, arith, MatchResult}
use Rattle.forms.specs.Forms.{Form, taps_form, table_form, code_form, depth_form, place_form, head_of, text_of, Lawful}
use Rattle.forms.specs.Lines.{said, held, priors_in, IsForm}
use Rattle.forms.specs.declared.line.Line.{Line}
use Rattle.forms.specs.declared.line.Line.TheVariants.{Taps, Table, Code, Depth, Place}
use Rattle.forms.specs.declared.line.PlaceLine.{PlaceLine}
use Rattle.forms.specs.declared.prior.Prior.{Prior}
use Rattle.channel.specs.Meaning.{Meaning}
use Rattle.channel.specs.declared.Channel.{Ghosts}
use Rattle.receiver.specs.Bursts.{places_of}
use Rattle.receiver.specs.Standing.{depth_refusal}
use Rattle.receiver.specs.declared.receiver.Receiver.{Receiver}
use Rattle.text.specs.declared.fault.Cause.{Cause}
use Rattle.text.specs.declared.fault.Layer.TheVariants.{Text as ByText, Receiver as ByReceiver}
use Rattle.kinds.specs.Rules.{Rule, Told, told_by, line_refusal, is_kind}
use Rattle.text.specs.Kinds.{kind_of}
use Rattle.reading.specs.Lines.{Does, ReadsChannel}
use Rattle.reading.specs.Received.{state_of, Received}
use Rattle.reading.specs.Steps.{Blame, State, bare, tuned, deep, ready, unless, received, tried, repeated, depth_of, Saying, a_channel, a_place, saying, first, after_channel, after_depth, after_heads, step}

-- a line does what it says
abbrev pub step_by : Rule → ℕ → State → Saying → Result State Blame
step_by k n bare w = first k n w
step_by k n (tuned f) w = after_channel k n f w
step_by k n (deep depth) w = after_depth k n depth w
step_by k n (ready f depth places) w = after_heads k n f depth places w

step_is : (k : Rule) (n : ℕ) (s : State) (f : Form) → step k n s f ≡ step_by k n s (saying f)
step_is k n bare f = refl
step_is k n (tuned g) f = refl
step_is k n (deep depth) f = refl
step_is k n (ready g depth places) f = refl

pub does_say :
    (k : Rule) (n : ℕ) (s : State) (text : List ℕ) (line : Line) (i : IsForm text line) (w : Saying) (r : Result State Blame)
    → saying i.form ≡ w → step_by k n s w ≡ r → Does k n s text r
does_say k n s text line i w r e h =
    record { form = i.form; lawful = i.lawful; text_is = i.text_is; does = step_is k n s i.form ∙ ap (step_by k n s) e ∙ h }

held_place : (x y : ℤ) (ps : List Prior) (f : Form) → place_form x y ps ≡ held f → f ≡ place_form x y ps
held_place x y ps (place_form u v qs) e = sym e
held_place x y ps (taps_form n ts) e = let w : ◌≡◌ {A = ℕ} 0 1 = cc in absurd (omega arith)
held_place x y ps (table_form n m es) e = let w : ◌≡◌ {A = ℕ} 0 1 = cc in absurd (omega arith)
held_place x y ps (code_form m u v) e = let w : ◌≡◌ {A = ℕ} 0 1 = cc in absurd (omega arith)
held_place x y ps (depth_form d) e = let w : ◌≡◌ {A = ℕ} 0 1 = cc in absurd (omega arith)

pub says_place :
    (text : List ℕ) (line : Line) (i : IsForm text line) (p : PlaceLine) → line ≡ Place p
    → (saying i.form ≡ a_place p.sample.first p.sample.second (priors_in p)) × Lawful (place_form p.sample.first p.sample.second (priors_in p))
says_place text line i p e =
    let is : i.form ≡ place_form p.sample.first p.sample.second (priors_in p) = held_place p.sample.first p.sample.second (priors_in p) i.form (ap said (sym e) ∙ i.says) in
    (ap saying is, subst Lawful is i.lawful)

not_depth : (line : Line) (d : ℤ) → said line ≡ depth_form d → ((z : ℤ) → line ≡ Depth z → ⊥) → ⊥
not_depth (Depth z) d e never = never z refl
not_depth (Taps l) d e never = let w : ◌≡◌ {A = ℕ} 0 1 = cc in omega arith
not_depth (Table l) d e never = let w : ◌≡◌ {A = ℕ} 0 1 = cc in omega arith
not_depth (Code l) d e never = let w : ◌≡◌ {A = ℕ} 0 1 = cc in omega arith
not_depth (Place l) d e never = let w : ◌≡◌ {A = ℕ} 0 1 = cc in omega arith

not_place : (line : Line) (x y : ℤ) (ps : List Prior) → said line ≡ place_form x y ps → ((p : PlaceLine) → line ≡ Place p → ⊥) → ⊥
not_place (Place p) x y ps e never = never p refl
not_place (Taps l) x y ps e never = let w : ◌≡◌ {A = ℕ} 0 1 = cc in omega arith
not_place (Table l) x y ps e never = let w : ◌≡◌ {A = ℕ} 0 1 = cc in omega arith
not_place (Code l) x y ps e never = let w : ◌≡◌ {A = ℕ} 0 1 = cc in omega arith
not_place (Depth z) x y ps e never = let w : ◌≡◌ {A = ℕ} 0 1 = cc in omega arith

channel_said : (line : Line) (f : Form) → said line ≡ held f → ((z : ℤ) → line ≡ Depth z → ⊥) → ((p : PlaceLine) → line ≡ Place p → ⊥) → saying f ≡ a_channel f
channel_said line (taps_form n ts) e no-depth no_place = refl
channel_said line (table_form n m es) e no-depth no_place = refl
channel_said line (code_form m x y) e no-depth no_place = refl
channel_said line (depth_form d) e no-depth no_place = absurd (not_depth line d e no-depth)
channel_said line (place_form x y ps) e no-depth no_place = absurd (not_place line x y ps e no_place)

pub says_channel :
    (text : List ℕ) (line : Line) (i : IsForm text line) → ((z : ℤ) → line ≡ Depth z → ⊥) → ((p : PlaceLine) → line ≡ Place p → ⊥)
    → saying i.form ≡ a_channel i.form
says_channel text line i no-depth no_place = channel_said line i.form i.says no-depth no_place

-- a channel line where one stands
pub repeated_is :
    (k : Rule) (n : ℕ) (line : Line) (f : Form) (told : Told) → said line ≡ held f → told ≡ (ByText, cond (is_kind k.kind (kind_of (head_of (said line)))) 13 12)
    → repeated k n f ≡ Err (record { line = n; told = told })
repeated_is k n line f told e is =
    let same : head_of (said line) ≡ head_of f = ap head_of e ∙ held_head f in
    ap (λ t. Err (record { line = n; told = t })) (sym (is ∙ ap (λ h. (ByText, cond (is_kind k.kind (kind_of h)) 13 12)) same))
  where
    held_head : (f : Form) → head_of (held f) ≡ head_of f
    held_head (taps_form n ts) = refl
    held_head (table_form n m es) = refl
    held_head (code_form m x y) = refl
    held_head (depth_form d) = refl
    held_head (place_form x y ps) = refl

-- both heads
pub tried_taken :
    {C : Type 0} {G : Ghosts C} (k : Rule) (n : ℕ) (f : Form) (z : ℤ) (m : Meaning) (q : ℕ) (form : C → Form) (c : C) (w : Receiver C G) → m ≡ k.meaning f → q ≡ depth_of z → form c ≡ f
    → Received m c q w → tried k n f z ≡ Ok (state_of form w)
tried_taken k n f z m q form c w mk qz cf r =
    let none : depth_refusal (k.meaning f) (depth_of z) ≡ None = ap (λ l. depth_refusal l (depth_of z)) (sym mk) ∙ ap (depth_refusal m) (sym qz) ∙ r.allowed in
    let f-is : f ≡ form w.channel = sym (ap form r.channel_is ∙ cf) in
    let q-is : depth_of z ≡ w.burst.depth = sym (r.depth_is ∙ qz) in
    let none_is : [] ≡ places_of w.burst = sym r.none in
    let same : ready f (depth_of z) [] ≡ state_of form w = cc in
    ap (λ o. unless (received o) n (Ok (ready f (depth_of z) []))) none ∙ ap Ok same

pub tried_refused :
    (k : Rule) (n : ℕ) (f : Form) (z : ℤ) (m : Meaning) (q number : ℕ) → m ≡ k.meaning f → q ≡ depth_of z → depth_refusal m q ≡ Some number
    → tried k n f z ≡ Err (record { line = n; told = (ByReceiver, number) })
tried_refused k n f z m q number mk qz some =
    let is : depth_refusal (k.meaning f) (depth_of z) ≡ Some number = ap (λ l. depth_refusal l (depth_of z)) (sym mk) ∙ ap (depth_refusal m) (sym qz) ∙ some in
    ap (λ o. unless (received o) n (Ok (ready f (depth_of z) []))) is

pub after_depth_taken :
    (k : Rule) (z : ℤ) (text : List ℕ) (f : Form) (r : Result State Blame) → Lawful f → text ≡ text_of f → saying f ≡ a_channel f → line_refusal k f ≡ None → tried k 1 f z ≡ r
    → Does k 2 (deep z) text r
after_depth_taken k z text f r l e w none t =
    record { form = f; lawful = l; text_is = e; does = ap (after_depth k 2 z) w ∙ ap (λ o. unless o 2 (tried k 1 f z)) none ∙ t }

-- a channel line after a depth line
pub channel_read :
    {C : Type 0} (k : Rule) (form : C → Form) (text : List ℕ) (line : Line) (i : IsForm text line) (r : Result C Cause) → saying i.form ≡ a_channel i.form
    → MatchResult r (λ c. (line_refusal k i.form ≡ None) × (form c ≡ i.form)) (λ e. line_refusal k i.form ≡ Some (told_by e)) → ReadsChannel k form text r
channel_read k form text line i (Ok c) w h = (i.form, i.lawful, i.text_is, w, h.0, h.1)
channel_read k form text line i (Err e) w h =
    λ z. inr (inr (does_say k 2 (deep z) text line i (a_channel i.form) (Err (record { line = 2; told = told_by e })) w (ap (λ o. unless o 2 (tried k 1 i.form z)) h)))

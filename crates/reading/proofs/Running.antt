-- Lines taken one after another.
use Rattle.std.proofs.Common.{◌≡◌, ℕ, ◌+◌, ◌<◌, ◌≤◌, List, [], ◌∷◌, ◌++◌, length, Ok, Err, Result, sym, refl, ap, ◌∙◌, subst, inl, inr, append_assoc, arith, length-append}
use Rattle.std.specs.List.{flat_map, AllByRecursion}
use Rattle.std.proofs.ByRecursion.{All-push}
use Rattle.std.proofs.lemmas.List.{flat_map_more, length_push}
use Rattle.forms.specs.Forms.{Form, text_of, Lawful}
use Rattle.text.specs.Cutting.{CutsLine}
use Rattle.text.specs.Kinds.{Begins}
use Rattle.text.proofs.Feeds.{first_is, none_left}
use Rattle.kinds.specs.Rules.{Rule}
use Rattle.channel.specs.declared.Channel.{Ghosts}
use Rattle.receiver.specs.declared.receiver.Receiver.{Receiver}
use Rattle.text.specs.declared.fault.Fault.{Fault}
use Rattle.reading.specs.Lines.{Does, Outcome, blame_of}
use Rattle.reading.specs.Received.{state_of, ReadsHeads}
use Rattle.reading.specs.Steps.{Blame, State, bare, step}
use Rattle.reading.specs.Texts.{Runs, IsReady, Blames, ReadsFrom, ReadsText}

-- what has been read
pub record SoFar (k : Rule) (start : ℕ) (s : State) (text : List ℕ) (n : ℕ) (t : State) (rest : List ℕ) : Type 0 where
  pub forms : List Form
  pub lawful : AllByRecursion Lawful forms
  pub parts : text ≡ flat_map text_of forms ++ rest
  pub run : Runs k start s forms t
  pub counted : n ≡ start + length forms
  pub short : n + length rest ≤ start + length text

pub so_none : (k : Rule) (start : ℕ) (s : State) (text : List ℕ) → SoFar k start s text start s text
so_none k start s text = record { forms = []; lawful = tt; parts = refl; run = refl; counted = omega arith; short = omega arith }

run_push :
    (k : Rule) (n m : ℕ) (s t u : State) (fs : List Form) (f : Form) → m ≡ n + length fs → Runs k n s fs t → step k m t f ≡ Ok u → Runs k n s (fs ++ f ∷ []) u
run_push k n m s t u [] f e r h =
    let is : n ≡ m = omega arith in
    (u, ap (λ z. step k n z f) r ∙ ap (λ j. step k j t f) is ∙ h, refl)
run_push k n m s t u (g ∷ fs) f e (v, d, r) h = (v, d, run_push k (n + 1) m v t u fs f (omega arith) r h)

pub some_line : (text line rest : List ℕ) → CutsLine text line rest → 0 < length text → 0 < length line
some_line text [] rest cut h = absurd (omega (arith, ap length (none_left text [] rest cut refl)))
some_line text (c ∷ line) rest cut h = omega arith

pub shorter : (text line rest : List ℕ) → CutsLine text line rest → 0 < length text → length rest < length text
shorter text line rest cut h = omega (arith, some_line text line rest cut h, length-append line rest, ap length cut.parts)

pub so_more :
    (k : Rule) (start : ℕ) (s : State) (text : List ℕ) (n : ℕ) (t u : State) (rest line after : List ℕ) → SoFar k start s text n t rest → CutsLine rest line after
    → 0 < length rest → Does k n t line (Ok u) → SoFar k start s text (n + 1) u after
so_more k start s text n t u rest line after g cut some d =
    let fs = g.forms in
    let f = d.form in
    record {
      forms = fs ++ f ∷ [];
      lawful = All-push Lawful fs f g.lawful d.lawful;
      parts =
          g.parts ∙ ap (λ r. flat_map text_of fs ++ r) (cut.parts ∙ ap (λ l. l ++ after) d.text_is)
          ∙ sym (append_assoc (flat_map text_of fs) (text_of f) after) ∙ ap (λ r. r ++ after) (flat_map_more text_of [] fs f);
      run = run_push k start n s t u fs f g.counted g.run d.does;
      counted = omega (arith, g.counted, length_push fs f);
      short = omega (arith, g.short, shorter rest line after cut some);
    }

begins : (rest line after : List ℕ) (f : Form) → CutsLine rest line after → Lawful f → line ≡ text_of f → Begins f rest
begins rest line after f cut l e = record { after = after; lawful = l; parts = cut.parts ∙ ap (λ x. x ++ after) e }

-- what is wrong with the next line
pub blame_is :
    (k : Rule) (n : ℕ) (s : State) (rest line after : List ℕ) (b : Blame) → CutsLine rest line after → (rest ≡ [] → IsReady s → ⊥) → Outcome k n s line (Err b)
    → Blames k n s rest b
blame_is k n s rest line after b cut lacks (inl (e, some, none)) =
    inl (e, (omega (arith, length-append line after, ap length cut.parts), λ f h. none f h.lawful (first_is rest line after f h.after cut h.lawful h.parts)))
blame_is k n s rest line after b cut lacks (inr (inl (e, z))) =
    let gone = none_left rest line after cut z in
    inr (inl (e, gone, lacks gone))
blame_is k n s rest line after b cut lacks (inr (inr d)) = inr (inr (d.form, begins rest line after d.form cut d.lawful d.text_is, d.does))

-- the two ends
pub so_blamed :
    (k : Rule) (start : ℕ) (s : State) (text : List ℕ) (n : ℕ) (t : State) (rest : List ℕ) (b : Blame) → SoFar k start s text n t rest → Blames k n t rest b
    → ReadsFrom k start s text (Err b)
so_blamed k start s text n t rest b g h =
    record {
      forms = g.forms;
      last = t;
      rest = rest;
      lawful = g.lawful;
      parts = g.parts;
      run = g.run;
      ends = subst (λ m. Blames k m t rest b) g.counted h;
    }

-- one line and then the rest
pub then_rest :
    (k : Rule) (n : ℕ) (s t : State) (text line rest : List ℕ) (r : Result State Blame) → CutsLine text line rest → Does k n s line (Ok t) → ReadsFrom k (n + 1) t rest r
    → ReadsFrom k n s text r
then_rest k n s t text line rest (Ok u) cut d g =
    record {
      forms = d.form ∷ g.forms;
      last = g.last;
      rest = g.rest;
      lawful = (d.lawful, g.lawful);
      parts = cut.parts ∙ ap (λ l. l ++ rest) d.text_is ∙ ap (λ l. text_of d.form ++ l) g.parts ∙ sym (append_assoc (text_of d.form) (flat_map text_of g.forms) g.rest);
      run = (t, d.does, g.run);
      ends = g.ends;
    }
then_rest k n s t text line rest (Err b) cut d g =
    let next : (n + 1) + length g.forms ≡ n + length (d.form ∷ g.forms) = omega arith in
    record {
      forms = d.form ∷ g.forms;
      last = g.last;
      rest = g.rest;
      lawful = (d.lawful, g.lawful);
      parts = cut.parts ∙ ap (λ l. l ++ rest) d.text_is ∙ ap (λ l. text_of d.form ++ l) g.parts ∙ sym (append_assoc (text_of d.form) (flat_map text_of g.forms) g.rest);
      run = (t, d.does, g.run);
      ends = subst (λ m. Blames k m g.last g.rest b) next g.ends;
    }

-- the next line is blamed
pub at_once :
    (k : Rule) (n : ℕ) (s : State) (text line rest : List ℕ) (b : Blame) → CutsLine text line rest → (text ≡ [] → IsReady s → ⊥) → Outcome k n s line (Err b)
    → ReadsFrom k n s text (Err b)
at_once k n s text line rest b cut lacks h = so_blamed k n s text n s text b (so_none k n s text) (blame_is k n s text line rest b cut lacks h)

-- a whole text: its heads, and then its places
pub short_text : (k : Rule) (text : List ℕ) (r : Result State Blame) → length text ≤ 16384 → ReadsFrom k 1 bare text r → ReadsText k text r
short_text k text r few g = record { long = λ h. absurd (omega arith); short = λ _. g }

pub bad_heads :
    {C : Type 0} (G : Ghosts C) (k : Rule) (form : C → Form) (text first rest second places : List ℕ) (e : Fault) → CutsLine text first rest → CutsLine rest second places
    → ReadsHeads {G = G} k form first second (Err e) → ReadsFrom k 1 bare text (Err (blame_of e))
bad_heads G k form text first rest second places e cut cut' (inl h) = at_once k 1 bare text first rest (blame_of e) cut (λ _ r. r) h
bad_heads G k form text first rest second places e cut cut' (inr (s, d, lacks, h)) =
    then_rest k 1 bare s text first rest (Err (blame_of e)) cut d (at_once k 2 s rest second places (blame_of e) cut' (λ _ r. lacks r) h)

pub good_heads :
    {C : Type 0} {G : Ghosts C} (k : Rule) (form : C → Form) (text first rest second places : List ℕ) (w : Receiver C G) (r : Result State Blame) → CutsLine text first rest
    → CutsLine rest second places → ReadsHeads k form first second (Ok w) → ReadsFrom k 3 (state_of form w) places r → ReadsFrom k 1 bare text r
good_heads k form text first rest second places w r cut cut' (s, d, h) g =
    then_rest k 1 bare s text first rest r cut d (then_rest k 2 s (state_of form w) rest second places r cut' h g)

-- A worked receiver that is settled, beside a new one that is given what stands and settled: they cannot be told apart.
use Rattle.std.proofs.Common.{◌≡◌, ℕ, ◌+◌, ◌-◌, ◌≤◌, Bool, true, false, cond, not, eqb, List, [], ◌∷◌, length, get_or, Some, None, Option, sym, refl, ap, ◌∙◌, subst, arith}
use Rattle.channel.specs.Meaning.{Meaning, Lawful}
use Rattle.trellis.specs.Least.{IsLeast}
use Rattle.burst.specs.Sequences.{total}
use Rattle.recursions.specs.Answers.{value_cost, best}
use Rattle.recursions.specs.Depths.{depth_allowed}
use Rattle.recursions.proofs.FullDepth.{full_depth_is_least}
use Rattle.recursions.proofs.Shown.{best_is_shown}
use Rattle.receiver.specs.Bursts.{places_of}
use Rattle.receiver.specs.Settling.{Left, best_cost}
use Rattle.receiver.specs.Sound.{Sound}
use Rattle.receiver.specs.Standing.{Standing, standing, deepened, settled}
use Rattle.receiver.specs.declared.inner.Burst.{Burst}
use Rattle.receiver.specs.declared.settle.Settled.{Settled}
use Rattle.runs.specs.Calls.{Reply, unless, after, stale_columns, best_at, best_told}
use Rattle.runs.specs.Law.{Goes, Alike, OfSequences, AlwaysOfSequences}
use Rattle.runs.specs.Obeying.{Hears}
use Rattle.runs.specs.Runs.{ends, given, answers_to, bytes_after}
use Rattle.runs.specs.declared.call.Call.{Call}
use Rattle.runs.specs.declared.call.Call.TheVariants as calls
use Rattle.runs.proofs.Held.{best_again}
use Rattle.runs.proofs.Renewing.{unworked, given_is}

-- a burst in which s stands is settled, and then given calls
module _ (m : Meaning) (s : Standing) (b b₁ b₂ : Burst) (stands : standing b ≡ s) (long : length (places_of b) ≡ b.count) (told : Settled)
    (columns : told.columns ≡ b.count - b.marks.forward + b.marks.backward) (left : Left b b₁) (best_is : best_cost told.best ≡ best m b.depth (places_of b)) where
  pub settled_stands : standing b₁ ≡ settled s
  settled_stands = left.stands ∙ ap (λ (x : Standing). settled x) stands

  pub goes_on : (calls : List Call) (bytes bytes' : List ℕ) (said : List Reply) → Hears m calls b₁ b₂ bytes bytes' said → Goes m s calls told said bytes bytes'
  goes_on calls bytes bytes' said hears = record {
    columns = columns ∙ ap (λ (n : ℕ). n - b.marks.forward + b.marks.backward) (sym long) ∙ ap (λ (x : Standing). stale_columns x) stands;
    best = best_is ∙ ap (λ (x : Standing). best_at m x) stands;
    answers = hears.answers ∙ ap (λ (x : Standing). answers_to m calls x bytes) settled_stands;
    writes = hears.writes ∙ ap (λ (x : Standing). bytes_after m calls x bytes) settled_stands;
  }

-- what a sound burst has stands again in a new receiver that is given it
pub stands_again : (m : Meaning) (b : Burst) → Sound m b → length (places_of b) ≡ b.count → b.count ≤ 128
    → given m (standing b) ≡ unworked b.depth (places_of b) (length (places_of b))
stands_again m b sound long few = given_is m (standing b) sound.shaped.allowed (omega arith) (λ k lt. sound.fits k (omega arith))

-- equal bests are told as equal
same_best : (one other : Option ℕ) → best_cost one ≡ best_cost other → one ≡ other
same_best one other same = best_again one ∙ ap best_told same ∙ sym (best_again other)

-- two receivers that go on from what stands in both are alike
pub go_alike : (m : Meaning) (s s' : Standing) (calls : List Call) (told told' : Settled) (said said' : List Reply) (bytes bytes₁ bytes₂ : List ℕ)
    → s' ≡ unworked s.depth s.places (length s.places) → s.backward ≤ length s.places
    → Goes m s calls told said bytes bytes₁ → Goes m s' calls told' said' bytes bytes₂ → Alike told told' said said' bytes₁ bytes₂
go_alike m s s' calls told told' said said' bytes bytes₁ bytes₂ is within goes goes' =
    let same : settled s ≡ settled s' = sym (ap (λ (x : Standing). settled x) is) in
    let all : stale_columns s' ≡ length s.places - 0 + length s.places = ap (λ (x : Standing). stale_columns x) is in
    let few : stale_columns s ≤ length s.places - 0 + length s.places = omega arith in
    record {
      best = same_best told.best told'.best (goes.best ∙ sym (ap (λ (x : Standing). best_at m x) is) ∙ sym goes'.best);
      columns = omega (arith, goes.columns, goes'.columns, all, few);
      answers = goes.answers ∙ ap (λ (x : Standing). answers_to m calls x bytes) same ∙ sym goes'.answers;
      writes = goes.writes ∙ ap (λ (x : Standing). bytes_after m calls x bytes) same ∙ sym goes'.writes;
    }

-- one burst was settled where s stood, and the other receiver was given what stands in it
pub alike_by : (m m' : Meaning) → m ≡ m' → (s : Standing) (b : Burst) → standing b ≡ settled s → Sound m b → length (places_of b) ≡ b.count → b.count ≤ 128
    → s.backward ≤ length s.places → (calls : List Call) (told told' : Settled) (said said' : List Reply) (bytes bytes' bytes₁ bytes₂ : List ℕ) → bytes ≡ bytes'
    → Goes m s calls told said bytes bytes₁ → Goes m' (given m' (settled s)) calls told' said' bytes' bytes₂ → Alike told told' said said' bytes₁ bytes₂
alike_by m m' means s b stands sound long few within calls told told' said said' bytes bytes' bytes₁ bytes₂ same goes goes' =
    let again : given m (settled s) ≡ unworked s.depth s.places (length s.places) =
    subst (λ (x : Standing). given m x ≡ unworked x.depth x.places (length x.places)) stands (stands_again m b sound long few) in
    go_alike m s (given m (settled s)) calls told told' said said' bytes bytes₁ bytes₂ again within goes
    (subst (λ (n : Meaning). Goes n (given n (settled s)) calls told' said' bytes bytes₂) (sym means)
    (subst (λ (list : List ℕ). Goes m' (given m' (settled s)) calls told' said' list bytes₂) (sym same) goes'))

-- the depth stays allowed
unless_same : (P : Standing → Type 0) (refusal : Option ℕ) (does s : Standing) → P does → P s → P (unless refusal does s)
unless_same P None does s then before = then
unless_same P (Some n) does s then before = before

module _ (m : Meaning) where
  abbrev Allowed : Standing → Type 0
  Allowed s = depth_allowed m s.depth ≡ true

  allowed_deepened : (q : ℕ) (s : Standing) → Allowed s → (b : Bool) → depth_allowed m q ≡ b → Allowed (unless (cond (not b) (Some 7) None) (deepened s q) s)
  allowed_deepened q s allowed true is = is
  allowed_deepened q s allowed false is = allowed

  allowed_after : (call : Call) (s : Standing) → Allowed s → Allowed (after m call s)
  allowed_after (calls.Add p) s allowed = unless_same Allowed _ _ s allowed allowed
  allowed_after (calls.Retake k z) s allowed = unless_same Allowed _ _ s allowed allowed
  allowed_after (calls.Reweigh k priors) s allowed = unless_same Allowed _ _ s allowed allowed
  allowed_after (calls.Cut n) s allowed = unless_same Allowed _ _ s allowed allowed
  allowed_after (calls.Depth q) s allowed = allowed_deepened q s allowed (depth_allowed m q) refl
  allowed_after calls.Settle s allowed = allowed
  allowed_after (calls.Cost k a) s allowed = allowed
  allowed_after (calls.Lean k a) s allowed = allowed
  allowed_after (calls.Symbol k) s allowed = allowed
  allowed_after calls.Shown s allowed = allowed
  allowed_after calls.Marks s allowed = allowed

  allowed_ends : (list : List Call) (s : Standing) → Allowed s → Allowed (ends m list s)
  allowed_ends [] s allowed = allowed
  allowed_ends (call ∷ list) s allowed = allowed_ends list (after m call s) (allowed_after call s allowed)

  of_sequences : Lawful m → (s : Standing) → Allowed s → OfSequences m s
  of_sequences lawful s allowed = record {
    least = λ full k a lk la.
        subst (λ (q : ℕ). IsLeast m.symbols (length s.places) (λ sequence. eqb a (get_or sequence k 0)) (total m s.places) (value_cost m q s.places k a)) (sym full)
        (full_depth_is_least m lawful (subst (λ (q : ℕ). depth_allowed m q ≡ true) full allowed) s.places k a lk la);
    shown = λ some. best_is_shown m lawful s.depth allowed s.places some;
  }

  pub always_of_sequences : Lawful m → (s : Standing) → Allowed s → AlwaysOfSequences m s
  always_of_sequences lawful s allowed list = of_sequences lawful (ends m list s) (allowed_ends list s allowed)

use Rattle.std.proofs.Common.{◌≡◌, ℕ, suc, ◌+◌, ◌-◌, ◌<◌, ◌≤◌, List, ◌++◌, take, drop, set, Some, sym, refl, ap, ◌∙◌, subst, add-one, arith}
use Rattle.std.proofs.lemmas.Bool.{ltb-true}
use Rattle.std.proofs.lemmas.List.{drop-set-lt}
use Rattle.recursions.specs.Answers.{trace}
use Rattle.channel.specs.Meaning.{Meaning}
use Rattle.columns.specs.Cells.{entry_at, survivor_fits}
use Rattle.columns.specs.declared.column.Cell.{Cell}
use Rattle.columns.specs.declared.column.Survivor.{Survivor}
use Rattle.columns.proofs.Every.{every_at}
use Rattle.receiver.specs.Bursts.{Kept, Fresh, places_of, forward_at}
use Rattle.receiver.specs.Readings.{Tracing}
use Rattle.receiver.specs.declared.inner.Burst.{Burst}
use Rattle.receiver.proofs.Tracing.{stranded, traced_on}
use Rattle.receiver.proofs.inner.Burst.trace.Goals as goal

-- a survivor's state is one of sixteen
state_fits : (b : Burst) → Kept b → Fresh b → (k state : ℕ) → k ≤ b.count → (v : Survivor) → (entry_at (forward_at b k) state).survivor ≡ Some v → v.state < 16
state_fits b kept fresh k state le v is =
    ltb-true _ _
    (sym (ap survivor_fits is) ∙ every_at (λ (c : Cell). survivor_fits c.survivor) _ refl (forward_at b k).cells (kept.survivors k (omega (arith, fresh.forward))) state)

-- at the first place nothing is left before
at_start : (b : Burst) (start : ℕ) (list : List ℕ) (k state : ℕ) → k ≤ 0 → Tracing b start list k state → Tracing b start list 0 state
at_start b start list k state none tracing =
    let same : k ≡ 0 = omega arith in
    subst (λ (i : ℕ). Tracing b start list i state) same tracing

whole : (m : Meaning) (b : Burst) (list : List ℕ) (state : ℕ) → trace m b.depth (places_of b) 0 state ++ take (b.count - 0) (drop 0 list) ≡ take b.count list
unfolding trace
whole m b list state = let all : b.count - 0 ≡ b.count = omega arith in ap (λ (n : ℕ). take n list) all

pub returns-in_default-clause-front : goal.returns-in_default-clause-front
returns-in_default-clause-front c m lawful sound lt some =
    let b = c.args.self.now in
    let j : ℕ = c.loop-k.k - 1 in
    let last : c.loop-k.k ≡ suc j = omega arith in
    absurd (stranded b c.requires.kept c.requires.fresh c.args.start c.loop-k.list j c.loop-k.state (omega arith) (omega arith)
    (subst (λ (i : ℕ). Tracing b c.args.start c.loop-k.list i c.loop-k.state) last c.loop-k.invariant.2)
    (ap (λ (i : ℕ). (entry_at (forward_at b i) c.loop-k.state).survivor) (sym (add-one j)) ∙ sym c.in_default.ensures) m lawful sound lt some)

pub loop-k-preserved : goal.loop-k-preserved
loop-k-preserved c =
    let b = c.args.self.now in
    let v = c.in-Some.survivor in
    let j : ℕ = c.loop-k.k - 1 in
    let last : c.loop-k.k ≡ suc j = omega arith in
    let from = c.from-state.ensures in (
      omega (arith, from, state_fits b c.requires.kept c.requires.fresh (j + 1) c.loop-k.state (omega arith) v (sym c.in-Some.ensures)),
      drop-set-lt b.count c.loop-k.list j v.symbol (omega arith) ∙ c.loop-k.invariant.1,
      subst (λ (s : ℕ). Tracing b c.args.start (set c.loop-k.list j v.symbol) j s) (sym from)
          (traced_on b c.requires.kept c.requires.fresh c.args.start c.loop-k.list j c.loop-k.state (omega arith) (omega arith)
          (subst (λ (i : ℕ). Tracing b c.args.start c.loop-k.list i c.loop-k.state) last c.loop-k.invariant.2) v
          (ap (λ (i : ℕ). (entry_at (forward_at b i) c.loop-k.state).survivor) (sym (add-one j)) ∙ sym c.in-Some.ensures)),
    )

pub returns-clause-front : goal.returns-clause-front
returns-clause-front c m lawful sound lt some =
    sym ((at_start c.args.self.now c.args.start c.loop-k.list c.loop-k.k c.loop-k.state c.loop-k-test.false c.loop-k.invariant.2 m lawful sound lt some).2
    ∙ whole m c.args.self.now c.loop-k.list c.loop-k.state)

use Rattle.std.proofs.Common.{◌≡◌, ℕ, min, true, sym, ap, ◌∙◌, subst, inl, inr}
use Rattle.channel.specs.Meaning.{Meaning, Lawful}
use Rattle.recursions.specs.Depths.{depth_allowed, largest_depth}
use Rattle.recursions.proofs.Depths.{largest_allowed, largest_of_two, largest_of_four}
use Rattle.columns.proofs.shape.Shape.deepest.Goals as goal

-- the memory, cut at the kind's limit
largest_by : (m : Meaning) → Lawful m → (limit : ℕ) → (m.symbols ≡ 2 → limit ≡ 5) → (m.symbols ≡ 4 → limit ≡ 3) → min m.memory limit ≡ largest_depth m
largest_by m lawful limit two four =
    elim lawful.two_or_four [
      | inl s ↦ ap (min m.memory) (two s) ∙ sym (largest_of_two m lawful s)
      | inr s ↦ ap (min m.memory) (four s) ∙ sym (largest_of_four m lawful s)
    ]

-- so the depth is the largest allowed
largest : (m : Meaning) → Lawful m → (depth memory limit : ℕ) → depth ≡ min memory limit → memory ≡ m.memory → (m.symbols ≡ 2 → limit ≡ 5) → (m.symbols ≡ 4 → limit ≡ 3)
    → depth ≡ largest_depth m
largest m lawful depth memory limit is remembered two four =
    is ∙ ap (λ (l : ℕ). min l limit) remembered ∙ largest_by m lawful limit two four

pub of-requires : goal.of-requires
of-requires g c =
    let m = g.C.Channel.meaning c.args.channel.now in
    let lawful = g.met.C.Channel.lawful c.args.channel.now in
    let kind = g.met.C.Channel.kind c.args.channel.now in
    let is = largest m lawful _ _ _ c.min-depth.ensures c.memory.ensures (λ s. c.limit.ensures.two (sym kind ∙ s)) (λ s. c.limit.ensures.four (sym kind ∙ s)) in
    subst (λ (q : ℕ). depth_allowed m q ≡ true) (sym is) (largest_allowed m lawful)

pub returns-clause-depth : goal.returns-clause-depth
returns-clause-depth g c =
    let m = g.C.Channel.meaning c.args.channel.now in
    let lawful = g.met.C.Channel.lawful c.args.channel.now in
    let kind = g.met.C.Channel.kind c.args.channel.now in
    largest m lawful _ _ _ c.min-depth.ensures c.memory.ensures (λ s. c.limit.ensures.two (sym kind ∙ s)) (λ s. c.limit.ensures.four (sym kind ∙ s))

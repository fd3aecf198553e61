use Rattle.std.proofs.Common.{◌≡◌, ℕ, ◌^◌, ◌≤◌, true, List, length, take, ℤ, pos, nat_abs, sym, refl, ap, ◌∙◌, arith, w32, SFits, to_z, of_z}
use Rattle.std.proofs.lemmas.Int.{to_z-of_z}
use Rattle.std.proofs.lemmas.List.{take_all}
use Rattle.table.specs.Entries.{each_in_range}
use Rattle.table.specs.Rule.{allowed_size}
use Rattle.table.specs.declared.entry.Entry.{Entry}
use Rattle.table.proofs.Sizes.{few_windows, allowed}
use Rattle.table.proofs.Table.put.Goals as goal

fit : (memory : ℤ) (count : ℕ) → allowed_size memory count ≡ true → count ≤ 256
fit memory count is = let ok = allowed memory count is in omega (arith, ok.whole, few_windows (nat_abs memory) ok.few)

-- the bits of the memory are the memory
same : (memory : ℤ) (r : ℕ) → SFits w32 memory → r ≡ nat_abs (to_z w32 (of_z w32 memory)) → r ≡ nat_abs memory
same memory r fits is = is ∙ ap nat_abs (to_z-of_z w32 memory fits)

-- what is held is all that was handed in
whole_held : (memory : ℤ) (handed held : List Entry) → allowed_size memory (length handed) ≡ true → held ≡ take 256 handed → held ≡ handed
whole_held memory handed held is front = front ∙ take_all 256 handed (fit memory (length handed) is)

pub invariant_of-self : goal.invariant_of-self
invariant_of-self c =
    let ok = allowed c.args.memory (length c.args.entries.now) c.requires.size in
    let is = same c.args.memory c.unsigned_abs.result c.ranges.memory c.unsigned_abs.ensures.value in
    let few = fit c.args.memory (length c.args.entries.now) c.requires.size in
    let held = whole_held c.args.memory c.args.entries.now _ c.requires.size c.assign.ensures in
    record {
      some = omega arith;
      few = omega arith;
      whole = ap length held ∙ ok.whole ∙ ap (λ (m : ℕ). 4 ^ m) (sym is);
      fits = omega (arith, few, ap length held);
      ranged = ap each_in_range held ∙ c.requires.ranged;
    }

pub returns : goal.returns
returns c =
    let ok = allowed c.args.memory (length c.args.entries.now) c.requires.size in
    let is = same c.args.memory c.unsigned_abs.result c.ranges.memory c.unsigned_abs.ensures.value in
    record {
      memory = ap pos is ∙ ok.sign;
      entries = whole_held c.args.memory c.args.entries.now _ c.requires.size c.assign.ensures;
      noise = refl;
    }

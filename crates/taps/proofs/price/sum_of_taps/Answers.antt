use Rattle.std.proofs.Common.{◌≡◌, ℕ, ◌+◌, ◌*◌, ◌<◌, ◌≤◌, List, length, get_or, drop, ℤ, pos, ◌+ℤ◌, nat_abs, sym, ap, ◌∙◌, arith, w16, w32, SFits, to_z, of_z, rules}
use Rattle.std.proofs.lemmas.List.{at_drop_more, at_drop_all}
use Rattle.std.proofs.lemmas.Int.{to_z-of_z, ints}
use Rattle.channel.specs.Windows.{symbol_at}
use Rattle.taps.specs.Rule.{symbol_times, echo}
use Rattle.taps.proofs.Echo.{expected_is_the_echo}
use Rattle.taps.proofs.price.sum_of_taps.Goals as goal

-- One tap more: its share goes from what is left into the sum.
step : (taps : List ℤ) (i window : ℕ) (sum r whole : ℤ) → i < length taps → i < 8 → SFits w16 (get_or taps i (pos 0))
    → nat_abs sum ≤ 32768 * i → nat_abs r ≤ 32768 → r ≡ symbol_times (to_z w16 (of_z w16 (get_or taps i (pos 0)))) (symbol_at 2 window i)
    → sum +ℤ echo i (drop i taps) window ≡ whole
    → (nat_abs (to_z w32 (of_z w32 (sum +ℤ to_z w32 (of_z w32 r)))) ≤ 32768 * (i + 1))
    × (to_z w32 (of_z w32 (sum +ℤ to_z w32 (of_z w32 r))) +ℤ echo (i + 1) (drop (i + 1) taps) window ≡ whole)
step taps i window sum r whole within few fits low small is left =
    let here = is ∙ ap (λ (t : ℤ). symbol_times t (symbol_at 2 window i)) (to_z-of_z w16 (get_or taps i (pos 0)) fits) in
    let next : echo i (drop i taps) window ≡ r +ℤ echo (i + 1) (drop (i + 1) taps) window
    = at_drop_more (λ ts. echo i ts window) taps i (pos 0) within ∙ ap (λ (t : ℤ). t +ℤ echo (i + 1) (drop (i + 1) taps) window) (sym here) in
    let sum_is : to_z w32 (of_z w32 (sum +ℤ to_z w32 (of_z w32 r))) ≡ sum +ℤ r = omega (arith, ints) in
    (omega (arith, ints), omega (arith, ints, next))

pub loop-i-preserved : goal.loop-i-preserved
loop-i-preserved c =
    let tap : ℤ = get_or c.args.taps.now c.loop-i.i (pos 0) in
    let fits : SFits w16 tap = search rules in
    let share : c.times_symbol-sum.result ≡ symbol_times (to_z w16 (of_z w16 tap)) (symbol_at 2 c.args.window c.loop-i.i)
    = c.times_symbol-sum.ensures.value ∙ ap (λ (a : ℕ). symbol_times (to_z w16 (of_z w16 tap)) a) c.symbol_at.ensures in
    step c.args.taps.now c.loop-i.i c.args.window _ c.times_symbol-sum.result _ c.loop-i-test.true (omega arith) fits
    c.loop-i.invariant.0 c.times_symbol-sum.ensures.small share c.loop-i.invariant.1

pub returns : goal.returns
returns c =
    let none = at_drop_all (λ ts. echo c.loop-i.i ts c.args.window) c.args.taps.now c.loop-i.i c.loop-i-test.false in
    record { value = omega (arith, ints, none, c.loop-i.invariant.1); echo = expected_is_the_echo }

-- The expected number of a window is the echo of its symbols: the newest symbol is the lowest digit, the others are those of the half.
use Rattle.std.proofs.Common.{◌≡◌, ℕ, ◌+◌, ◌*◌, ◌/◌, List, [], ◌∷◌, ℤ, ◌+ℤ◌, refl, ap, ◌∙◌, arith}
use Rattle.channel.specs.Windows.{window_number, symbol_at}
use Rattle.channel.proofs.Windows.{one_back, newest, half}
use Rattle.taps.specs.Rule.{symbol_times, echo}
use Rattle.taps.specs.Echo.{ExpectedIsTheEcho}

echo_back : (taps : List ℤ) (i w : ℕ) → echo (i + 1) taps w ≡ echo i taps (w / 2)
echo_back [] i w = refl
echo_back (t ∷ ts) i w =
    ap (λ (a : ℕ). symbol_times t a +ℤ echo (i + 1 + 1) ts w) (one_back 2 w i)
    ∙ ap (λ (z : ℤ). symbol_times t (symbol_at 2 (w / 2) i) +ℤ z) (echo_back ts (i + 1) w)

pub expected_is_the_echo : ExpectedIsTheEcho
expected_is_the_echo [] symbols long small = refl
expected_is_the_echo (t ∷ ts) [] long small = let no : ◌≡◌ {A = ℕ} 0 1 = cc in absurd (omega arith)
expected_is_the_echo (t ∷ ts) (a ∷ before) long small =
    ap (λ (b : ℕ). symbol_times t b +ℤ echo (0 + 1) ts (a + 2 * window_number 2 before)) (newest a (window_number 2 before) small.0)
    ∙ ap (λ (z : ℤ). symbol_times t a +ℤ z)
    (echo_back ts 0 (a + 2 * window_number 2 before)
    ∙ ap (λ (w : ℕ). echo 0 ts w) (half a (window_number 2 before) small.0)
    ∙ expected_is_the_echo ts before (omega arith) small.1)

-- Trellises whose state is the last symbols, and their forward step from the ways into a state.
use Rattle.std.specs.Prelude.{◌≡◌, ℕ, suc, ◌+◌, ◌*◌, ◌/◌, ◌%◌, ◌<◌}
use Rattle.trellis.specs.Trellis.{Trellis, Sound}
use Rattle.trellis.specs.Sequences.{join_below}
use Rattle.trellis.specs.Columns.{forward}

-- A state and a symbol make a pair, symbol + symbols · state; the next state is the pair without its oldest symbol.
abbrev pub Shifts : {J : Type 0} → Trellis J → Type 0
Shifts t = (s a : ℕ) → s < t.states → a < t.symbols → t.next s a ≡ (a + t.symbols * s) % t.states

-- Into the state u lead the pairs u + states · j, one for each oldest symbol j.
abbrev pub ForwardGathers : Type 0 → Type 0
ForwardGathers J =
    (t : Trellis J) → Sound t → Shifts t → (k u : ℕ) → u < t.states
    → forward t (suc k) u ≡ join_below t.operations t.symbols (λ j.
    t.operations.follow
    (forward t k ((u + t.states * j) / t.symbols))
    (t.weight k ((u + t.states * j) / t.symbols) ((u + t.states * j) % t.symbols)))

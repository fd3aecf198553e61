-- A new receiver that is given what stands in a sound one takes all of it.
use Rattle.std.proofs.Common.{◌≡◌, ℕ, zero, suc, ◌+◌, ◌<◌, ◌≤◌, true, not, leb, List, [], ◌∷◌, ◌++◌, map, length, None, Option, sym, refl, ap, ◌∙◌, ap₂, append_assoc, append-nil, arith}
use Rattle.std.proofs.lemmas.List.{length_push}
use Rattle.std.proofs.lemmas.Bool.{lt-leb}
use Rattle.channel.specs.Meaning.{Meaning, taken}
use Rattle.burst.specs.Places.{priors_allowed}
use Rattle.burst.specs.Sequences.{place_at}
use Rattle.burst.specs.declared.place.Place.{Place}
use Rattle.recursions.specs.Depths.{depth_allowed}
use Rattle.receiver.specs.Sound.{Fits}
use Rattle.receiver.specs.Standing.{Standing, new_standing, add_refusal, added, deepened}
use Rattle.receiver.proofs.Checks.{passes, one_passes}
use Rattle.runs.specs.Calls.{unless, after}
use Rattle.runs.specs.Runs.{ends, given}
use Rattle.runs.specs.declared.call.Call.TheVariants.{Add, Depth}

-- places alone, with no column worked
abbrev pub unworked : ℕ → List Place → ℕ → Standing
unworked q places R = record { depth = q; places = places; forward = 0; backward = R }

-- a place that fits is added where there is room
pub fitting_added : (m : Meaning) (count : ℕ) (p : Place) → count < 128 → Fits m p → None ≡ add_refusal m count p
fitting_added m count p room fits =
    passes (leb 128 count) (not (taken m p.sample)) (not (priors_allowed m.symbols p.priors)) 3 4 5 (lt-leb 128 count room) (ap not fits.sample)
    (ap not fits.priors)

-- so are all of them
pub all_added : (m : Meaning) (q : ℕ) (done ps : List Place) (R : ℕ) → R ≡ length done → length done + length ps ≤ 128
    → ((k : ℕ) → k < length ps → Fits m (place_at ps k)) → ends m (map Add ps) (unworked q done R) ≡ unworked q (done ++ ps) (R + length ps)
all_added m q done [] R is few fit = ap₂ (unworked q) (sym (append-nil done)) (omega arith)
all_added m q done (p ∷ ps) R is few fit =
    let few' : length done + suc (length ps) ≤ 128 = few in
    let taken' : after m (Add p) (unworked q done R) ≡ unworked q (done ++ (p ∷ [])) (length done + 1) =
    ap (λ (o : Option ℕ). unless o (added (unworked q done R) p) (unworked q done R)) (sym (fitting_added m (length done) p (omega arith) (fit zero (omega arith)))) in
    ap (ends m (map Add ps)) taken'
    ∙ all_added m q (done ++ (p ∷ [])) ps (length done + 1) (sym (length_push done p)) (omega (arith, length_push done p)) (λ k lt. fit (suc k) (omega arith))
    ∙ ap₂ (unworked q) (append_assoc done (p ∷ []) ps) (omega arith)

-- what stands is taken whole
pub given_is : (m : Meaning) (s : Standing) → depth_allowed m s.depth ≡ true → length s.places ≤ 128
    → ((k : ℕ) → k < length s.places → Fits m (place_at s.places k)) → given m s ≡ unworked s.depth s.places (length s.places)
given_is m s allowed few fit =
    let deep : after m (Depth s.depth) (new_standing m) ≡ unworked s.depth [] 0 =
    ap (λ (o : Option ℕ). unless o (deepened (new_standing m) s.depth) (new_standing m)) (sym (one_passes (not (depth_allowed m s.depth)) 7 (ap not allowed))) in
    ap (ends m (map Add s.places)) deep
    ∙ all_added m s.depth [] s.places 0 refl (omega arith) fit
    ∙ ap (unworked s.depth s.places) (omega arith)

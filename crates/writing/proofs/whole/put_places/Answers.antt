use Rattle.std.proofs.Common.{◌≡◌, ℕ, ◌+◌, ◌<◌, List, [], ◌∷◌, ◌++◌, length, get_or, take, sym, ap, ◌∙◌, append_assoc, arith, length-append}
use Rattle.std.specs.List.{flat_map}
use Rattle.std.proofs.lemmas.List.{flat_map_more, take_more}
use Rattle.forms.specs.Forms.{text_of}
use Rattle.writing.specs.Written.{of_place, places_text}
use Rattle.writing.proofs.whole.put_places.Goals as goal

one_more : {X : Type 0} (write : X → List ℕ) (xs : List X) (i : ℕ) (x : X) → i < length xs → x ≡ get_or xs i x
    → flat_map write (take (i + 1) xs) ≡ flat_map write (take i xs) ++ write x
one_more write xs i x lt is =
    ap (flat_map write) (take_more xs i x lt) ∙ ap (λ y. flat_map write (take i xs ++ y ∷ [])) (sym is) ∙ sym (flat_map_more write [] (take i xs) x)

pub loop-place-preserved : goal.loop-place-preserved
loop-place-preserved c =
    let so_far = c.loop-place.invariant in
    let line = text_of (of_place c.args.values c.place-item.result) in
    let before = places_text c.args.values (take c.loop-place.place-index c.args.places.now) in
    let more = one_more (λ p. text_of (of_place c.args.values p)) c.args.places.now c.loop-place.place-index c.place-item.result c.loop-place-test.true c.place-item.is in
    record {
      text = c.put_line.ensures.text ∙ ap (λ d. d ++ line) so_far.text ∙ append_assoc c.args.draft.now before line ∙ ap (λ l. c.args.draft.now ++ l) (sym more);
      short = omega (arith, so_far.short, c.put_line.ensures.short, ap length more, length-append before line);
    }

use Rattle.std.proofs.Common.{◌≡◌, List, ◌++◌, [], ◌∷◌, map, take, get_or, ℤ, pos, sym, ap, ◌∙◌, w16, w32, SFits, to_z, of_z, rules}
use Rattle.std.proofs.lemmas.List.{map_more}
use Rattle.std.proofs.lemmas.Int.{to_z-of_z}
use Rattle.forms.specs.Lines.{nearest}
use Rattle.forms.proofs.Lists.{first_more}
use Rattle.forms.proofs.read.narrow.Goals as goal

pub loop-number-preserved : goal.loop-number-preserved
loop-number-preserved c =
    let numbers = c.args.numbers.now in
    let i = c.loop-number.number-index in
    let wide : SFits w32 (get_or numbers i (pos 0)) = search rules in
    let narrow : SFits w16 c.nearest.result = search rules in
    let here : to_z w16 (of_z w16 c.nearest.result) ≡ nearest (get_or numbers i (pos 0)) =
    to_z-of_z w16 c.nearest.result narrow ∙ c.nearest.ensures ∙ ap nearest (to_z-of_z w32 (get_or numbers i (pos 0)) wide) in
    let tap : ℤ = to_z w16 (of_z w16 c.nearest.result) in
    c.push.ensures
    ∙ ap (λ (l : List ℤ). take 9 (l ++ tap ∷ [])) c.loop-number.invariant
    ∙ first_more 9 (map nearest (take i numbers)) tap
    ∙ ap (λ (z : ℤ). take 9 (map nearest (take i numbers) ++ z ∷ [])) here
    ∙ ap (take 9) (sym (map_more nearest numbers i (pos 0) c.loop-number-test.true))

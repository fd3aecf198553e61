use Rattle.std.proofs.Common.{◌++◌, take, ap, ◌∙◌, arith, length-append}
use Rattle.std.proofs.lemmas.List.{take_all}
use Rattle.writing.proofs.draft.Draft.put.Goals as goal

pub returns : goal.returns
returns c =
    let held = c.args.self.now in
    let bytes = c.args.bytes.now in
    c.extend_from_slice.ensures
    ∙ ap (λ l. take 28672 (l ++ bytes)) c.self.view_is
    ∙ take_all 28672 (held ++ bytes) (omega (arith, c.requires, length-append held bytes))

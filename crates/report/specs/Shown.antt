-- What is printed of a burst, and of a place of it.
use Rattle.std.specs.Prelude.{ℕ, List, ◌++◌, codes, decimal, Some, None, Option}
use Rattle.cost.specs.Leans.{lean_text}
use Rattle.cost.specs.Shown.{cost_text}
use Rattle.report.specs.declared.burst.Burst.{Burst}
use Rattle.report.specs.declared.read.Costs.{Costs}
use Rattle.report.specs.declared.read.Costs.TheVariants.{Two as TwoCosts, Four as FourCosts}
use Rattle.report.specs.declared.read.Leans.{Leans}
use Rattle.report.specs.declared.read.Leans.TheVariants.{Two as TwoLeans, Four as FourLeans}
use Rattle.report.specs.declared.read.Read.{Read}

-- the best in eighths, or none
abbrev pub best_text : Option ℕ → List ℕ
best_text (Some best) = codes "(best " ++ (decimal best ++ codes ")")
best_text None = codes "(dead)"

abbrev pub burst_text : Burst → List ℕ
burst_text b =
    codes "(burst (places " ++ (decimal b.places ++ (codes ") " ++ (best_text b.best ++ (codes " (columns " ++ (decimal b.columns ++ codes "))")))))

-- the costs of two or four values
abbrev pub costs_text : Costs → List ℕ
costs_text (TwoCosts a b) = cost_text a ++ (codes " " ++ cost_text b)
costs_text (FourCosts a b c d) = cost_text a ++ (codes " " ++ (cost_text b ++ (codes " " ++ (cost_text c ++ (codes " " ++ cost_text d)))))

-- the leans of all but the first of them
abbrev pub leans_text : Leans → List ℕ
leans_text (TwoLeans a) = lean_text a
leans_text (FourLeans a b c) = lean_text a ++ (codes " " ++ (lean_text b ++ (codes " " ++ lean_text c)))

abbrev pub text_read : Read → List ℕ
text_read r =
    codes "(read (at " ++ (decimal r.at ++ (codes ") (shown " ++ (decimal r.shown ++ (codes ") (costs " ++ (costs_text r.costs
    ++ (codes ") (lean " ++ (leans_text r.leans ++ codes "))")))))))

use Rattle.std.proofs.Common.{rules, ◌≡◌, refl, ap, ◌∙◌}
use Rattle.std.proofs.lemmas.Iterator.{YieldsList-from_slice}
use Rattle.std.proofs.lemmas.Iterator.Search.{all_from_yields_List}
use Rattle.std.specs.List.{list_all}
use Rattle.model.specs.declared.Plot.{Plot}
use Rattle.model.specs.Yard.{no_plot}
use Rattle.plots.specs.Places.{keeps_to}
use Rattle.plots.proofs.Every.{all_taken}
use Rattle.plots.proofs.all_keep.Goals as goal

pub returns : goal.returns
returns c =
    let Y = c.args.yard.now in
    let all : c.all.result ≡ list_all (λ (p : Plot). keeps_to p.bench p.quota) c.made.result.now = all_from_yields_List (λ (p : Plot). keeps_to p.bench p.quota) _ _ _ c.all.ensures.ran (YieldsList-from_slice c.made.result.now cc) (λ x b q k. search rules) in
    all ∙ ap (list_all (λ (p : Plot). keeps_to p.bench p.quota)) c.made.ensures.value ∙ all_taken (λ (p : Plot). keeps_to p.bench p.quota) no_plot Y.plots _ Y.made c.made.ensures.inside (λ k h. refl)

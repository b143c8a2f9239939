use Rattle.std.proofs.Common.{rules, ◌≡◌, refl, ap, ◌∙◌}
use Rattle.std.proofs.lemmas.Iterator.{YieldsList-from_slice}
use Rattle.std.proofs.lemmas.Iterator.Search.{all_from_yields_List}
use Rattle.std.specs.List.{list_all}
use Rattle.model.specs.Memory.{nowhere}
use Rattle.plots.specs.Places.{regions_apart}
use Rattle.plots.proofs.Every.{all_taken}
use Rattle.plots.proofs.clear_of.Goals as goal

pub returns : goal.returns
returns c =
    let a = c.args in
    let all : c.all.result ≡ list_all (regions_apart a.one) c.claimed.result.now = all_from_yields_List (regions_apart a.one) _ _ _ c.all.ensures.ran (YieldsList-from_slice c.claimed.result.now cc) (λ x b q k. search rules) in
    all ∙ ap (list_all (regions_apart a.one)) c.claimed.ensures.value ∙ all_taken (regions_apart a.one) nowhere a.queue.now.arrays _ a.queue.now.claimed c.claimed.ensures.inside (λ k h. refl)

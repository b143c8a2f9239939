use Rattle.std.proofs.Common.{rules, ◌≡◌, refl, ap, ◌∙◌}
use Rattle.std.proofs.lemmas.Iterator.{YieldsList-from_slice}
use Rattle.std.proofs.lemmas.Iterator.Search.{all_from_yields_List}
use Rattle.std.specs.List.{list_all}
use Rattle.model.specs.Memory.{nowhere, offset_at, length_at}
use Rattle.model.specs.declared.Region.{Region}
use Rattle.plots.specs.Places.{clear_of}
use Rattle.plots.proofs.Every.{all_taken}
use Rattle.plots.proofs.no_overlap.Goals as goal

pub returns : goal.returns
unfolding offset_at length_at
returns c =
    let q = c.args.queue.now in
    let p = c.args.other.now in
    let all : c.all.result ≡ list_all (λ (r : Region). clear_of r p) c.claimed.result.now = all_from_yields_List (λ (r : Region). clear_of r p) _ _ _ c.all.ensures.ran (YieldsList-from_slice c.claimed.result.now cc) (λ x b q k. search rules) in
    all ∙ ap (list_all (λ (r : Region). clear_of r p)) c.claimed.ensures.value ∙ all_taken (λ (r : Region). clear_of r p) nowhere q.arrays _ q.claimed c.claimed.ensures.inside (λ k h. refl)

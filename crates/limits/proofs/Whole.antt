-- The limits of a state from those that code tests one after the other.
use mathlib.Core.Bool.{Bool, true, false, true≢false}
use mathlib.Core.Path.{◌≡◌, sym, ap, ◌∙◌}
use Prim.Native.Nat.{ℕ, ◌≤◌, ◌<◌}
use borrow.Author.Tests.{ltb-true, leb-true}
use Rattle.model.specs.declared.Bench.{Bench}
use Rattle.model.specs.World.{World, owners_view, line_at}
use Rattle.model.specs.Limits.{bench_ok}
use Rattle.model.proofs.Tests.{holds, fails, and_left, and_right}
use Rattle.ranges.specs.Doubles.{Doubled}
use Rattle.limits.specs.declared.View.{View}
use Rattle.limits.specs.Parts.{line_held, frame_ok, waits_ok, contents_ok, Seen}
use Rattle.limits.proofs.Directory.{Ordered, ordered, doubled}
use Rattle.limits.proofs.Lengths.{never}
use Rattle.limits.proofs.Waits.{line_held_lem}
use Rattle.limits.proofs.Contents.{regroup, stands_not, stands}

-- the limits on the queue of W, as its owner reads it
abbrev good : World → Bool
good W = bench_ok W.bench W.bench.queue (owners_view W).queue

-- the frame's parts
pub record Framed (b : Bench) (n : ℕ) : Type 0 where
  pub width : b.width ≤ 16
  pub words : b.words ≤ 4
  pub crew : 0 < b.crew
  pub order : Ordered b.words b.queue n
  pub doubled : Doubled b.words b.queue.arrays b.queue.claimed b.queue.initial

pub frame_parts : (b : Bench) (n : ℕ) → frame_ok b n ≡ true → Framed b n
frame_parts b n e =
    let width = and_right _ _ e in
    let words = and_right _ _ width in
    let crew = and_right _ _ words in
    let directory = and_right _ _ crew in
    let O = ordered b.words b.queue n (line_at b.workers 0) directory in
    record {
      width = leb-true _ _ (and_right _ _ (and_left _ _ width));
      words = leb-true _ _ (and_right _ _ (and_left _ _ words));
      crew = ltb-true _ _ (and_left _ _ (and_left _ _ crew));
      order = O;
      doubled = doubled b.words b.queue n O;
    }

-- the owner reads the queue of W's view of it
module _ (W : World) where
  frame_fails : frame_ok W.bench (owners_view W).queue.published ≡ false → good W ≡ false
  frame_fails e = regroup _ _ _ _ _ _ ∙ fails _ e

  pub not_held : line_held W.bench.delayed W.bench.waiting ≡ false → good W ≡ false
  not_held f = never (good W) (λ v. true≢false (sym (line_held_lem W v) ∙ f))

  module _ (o : View) (S : Seen o W.bench (owners_view W).queue) where
    -- as the view o tells it
    pub frame_of : frame_ok W.bench o.published ≡ frame_ok W.bench (owners_view W).queue.published
    frame_of = ap (λ (n : ℕ). frame_ok W.bench n) (sym S.published)

    pub not_framed : frame_ok W.bench o.published ≡ false → good W ≡ false
    not_framed e = frame_fails (sym frame_of ∙ e)

  module _ (e : frame_ok W.bench (owners_view W).queue.published ≡ true) where
    pub not_filled : contents_ok W.bench (owners_view W).queue ≡ false → good W ≡ false
    not_filled c = regroup _ _ _ _ _ _ ∙ holds e ∙ stands_not _ _ _ _ _ _ c

    pub filled : line_held W.bench.delayed W.bench.waiting ≡ true → contents_ok W.bench (owners_view W).queue ≡ true
        → good W ≡ waits_ok W.bench (owners_view W).queue
    filled h c = regroup _ _ _ _ _ _ ∙ holds e ∙ stands _ _ _ _ _ _ (and_left _ _ h) c

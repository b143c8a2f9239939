use mathlib.Core.Path.{◌≡◌, sym, ap, ◌∙◌}
use Prim.Native.Nat.{ℕ, ◌+◌, ◌/◌}
use Rattle.handouts.specs.declared.Log.{Log}
use Rattle.model.specs.declared.Counts.{Counts}
use Rattle.model.specs.World.{World}
use Rattle.model.specs.Stores.{Shared}
use Rattle.model.specs.Window.{tasks, window_size}
use Rattle.model.specs.Calls.{lent, restarts_of}
use Rattle.model.specs.Counts.{is_kind, out_first, is_lost, entries_in, count_below, sum_below, counts_of}
use Rattle.model.proofs.Landing.{reads_memory}
use Rattle.counts.proofs.counts.Goals as goal

-- the counts, one by one
counted : (W : World) (f h d w l r : ℕ) → f ≡ count_below (is_kind W.bench.words W.log 1) (entries_in W) → h ≡ count_below (is_kind W.bench.words W.log 2) (entries_in W) → d ≡ count_below (out_first W.bench.words W.log) (entries_in W) → w ≡ window_size W → l ≡ count_below (is_lost W (entries_in W)) (entries_in W) → r ≡ sum_below (restarts_of W.bench.restarts) 8 →
    ◌≡◌ {A = Counts} (record { finished = f; handouts = h; different = d; restarts = r; window = w; lost = l }) (counts_of W)
unfolding counts_of
counted W f h d w l r ef eh ed ew el er = rw (ef, eh, ed, ew, el, er)

pub returns : goal.returns
returns c =
    let a = c.args in let v = a.bench.words in let l = a.log.now in let o = c.of-outs.result in
    let e : c.from.result / (3 + c.from-2.result) ≡ a.bench.written / (3 + v) = ap (λ (x : ℕ). x / (3 + c.from-2.result)) c.from.ensures ∙ ap (λ (x : ℕ). a.bench.written / (3 + x)) c.from-2.ensures in
    let n : o.entries ≡ a.bench.written / (3 + v) = c.of-outs.ensures.of.1 ∙ e in
    counted _ _ _ _ _ _ _ (c.entries_of.ensures ∙ ap (count_below (is_kind v l 1)) e) (c.entries_of-2.ensures ∙ ap (count_below (is_kind v l 2)) e)
    (o.counted ∙ ap (λ (g : Log). count_below (out_first g.words g.memory.now) o.entries) c.of-outs.ensures.of.0 ∙ ap (count_below (out_first v l)) n)
    (c.size.ensures ∙ ap (λ (S : Shared). tasks a.bench.kind S.queue.anchor) (sym (reads_memory (lent a.bench a.store.now l) c.requires)))
    (c.lost.ensures ∙ ap (λ (g : Log). count_below (is_lost (lent a.bench a.store.now g.memory.now) o.entries) o.entries) c.of-outs.ensures.of.0 ∙ ap (λ (k : ℕ). count_below (is_lost (lent a.bench a.store.now l) k) k) n)
    c.restarts_of.ensures

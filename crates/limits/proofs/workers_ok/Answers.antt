use Rattle.std.proofs.lemmas.Bool.{not_from_true, not_from_false}
use mathlib.Core.Bool.{Bool, true, false}
use mathlib.Core.Path.{◌≡◌, refl, sym, ap, ◌∙◌}
use Prim.Native.Nat.{suc}
use native.Mathlib.Numerals.{add-one}
use native.Mathlib.Omega.{arith}
use Rattle.model.specs.Limits.{links_ok}
use Rattle.model.specs.Tests.{◌and◌}
use Rattle.model.proofs.Tests.{and_both, and_false, fails, passed, refused}
use Rattle.limits.specs.Parts.{workers_ok}
use Rattle.limits.proofs.Held.{next_unheld, next_link, no_links}
use Rattle.limits.proofs.Crew.{idle_passes, member, next_worker, no_workers}
use Rattle.limits.proofs.workers_ok.Goals as goal
use Rattle.limits.proofs.workers_ok.Goals.{else-links-k-via-then-links-k+else-not-link_ok, else-links-k-via-else-links-k, else-not-rests-via-then-not-rests+else-not-busy_ok, else-not-rests-via-else-not-rests}

pub returns-then-not-link_ok : goal.returns-then-not-link_ok
returns-then-not-link_ok c = λ p R.
    let b = c.args.bench in
    let l = c.loop-worker in
    sym
    (fails _
    (no_links b.kind b.queue b.workers (suc l.worker) 8 (omega (arith, c.loop-worker-test.true))
    (next_link b.kind b.queue b.workers l.worker false l.invariant.0 c.if-links-k.true
    (refused (c.link_ok.ensures b.queue refl refl) (not_from_false _ c.if-not-link_ok.true)))))

pub returns-then-not-busy_ok : goal.returns-then-not-busy_ok
returns-then-not-busy_ok c = λ p R.
    let b = c.args.bench in
    let l = c.loop-worker in
    sym
    (ap (λ (x : Bool). links_ok b.kind b.queue b.workers 8 and x)
    (no_workers b.kind c.args.bits b.words b.queue p b.crew b.workers (suc l.worker) 8 (omega (arith, c.loop-worker-test.true))
    (next_worker b.kind c.args.bits b.words b.queue p b.crew b.workers false l.worker (l.invariant.1 p R)
    (refused {t = member b.kind c.args.bits b.words b.queue p b.crew b.workers l.worker} (c.busy_ok.ensures b.queue p (c.requires.reached, R)) (not_from_false _ c.if-not-busy_ok.true))))
    ∙ and_false (links_ok b.kind b.queue b.workers 8))

pub loop-worker-preserved : goal.loop-worker-preserved
loop-worker-preserved c =
    let b = c.args.bench in
    let l = c.loop-worker in (
      rw add-one
          (elim c.else-links-k.branch [
            | else-links-k-via-then-links-k+else-not-link_ok w ↦ next_link b.kind b.queue b.workers l.worker true l.invariant.0 w.if-links-k.true (passed (w.link_ok.ensures b.queue refl refl) (not_from_true _ w.if-not-link_ok.false))
            | else-links-k-via-else-links-k w ↦ next_unheld b.kind b.queue b.workers l.worker l.invariant.0 w.if-links-k.false
          ]),
      λ p R.
          rw add-one
          (next_worker b.kind c.args.bits b.words b.queue p b.crew b.workers true l.worker (l.invariant.1 p R)
          (elim c.else-not-rests.branch [
            | else-not-rests-via-then-not-rests+else-not-busy_ok w ↦ passed {t = member b.kind c.args.bits b.words b.queue p b.crew b.workers l.worker} (w.busy_ok.ensures b.queue p (c.requires.reached, R)) (not_from_true _ w.if-not-busy_ok.false)
            | else-not-rests-via-else-not-rests w ↦ idle_passes b.kind c.args.bits b.words b.queue p b.crew b.workers l.worker (sym c.rests.ensures ∙ w.if-not-rests.false)
          ])),
    )

pub returns : goal.returns
returns c = λ p R.
    let b = c.args.bench in
    let l = c.loop-worker in
    let all : 8 ≡ l.worker = omega (arith, c.loop-worker-test.false, l.auto.worker-end) in
    sym
    (and_both _ _ (ap (links_ok b.kind b.queue b.workers) all ∙ l.invariant.0)
    (ap (workers_ok b.kind c.args.bits b.words b.queue p b.crew b.workers) all ∙ l.invariant.1 p R))

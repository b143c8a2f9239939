use mathlib.Core.Path.{refl, sym, ap, ◌∙◌}
use native.Mathlib.Numerals.{add-one}
use Rattle.model.specs.declared.Queue.{Queue}
use Rattle.model.specs.Stores.{Shared, shared, landed, landed_all, in_line}
use Rattle.waiting.specs.Places.{first_in}
use Rattle.waiting.proofs.Line.{store_at, note_in, one_note, lands_next}
use Rattle.waiting.proofs.seen.Goals as goal

pub loop-landing-init : goal.loop-landing-init
unfolding landed_all
loop-landing-init c = λ v m. refl

pub after-next-requires : goal.after-next-requires
after-next-requires c = one_note _ (note_in (in_line c.args.waiting) c.loop-landing.landing-index c.loop-landing-test.true c.requires.waiting_value)

pub loop-landing-preserved : goal.loop-landing-preserved
loop-landing-preserved c =
    let l = c.loop-landing in
    let s = in_line c.args.waiting in
    λ v m.
    let S = landed_all v (shared c.args.queue m) (first_in s l.landing-index) in
    rw add-one
    (c.after-next.ensures v S.store ∙ ap (λ (p : Queue). (landed v (shared p S.store) (store_at s l.landing-index)).queue) (l.invariant v m)
    ∙ sym (ap (λ (T : Shared). T.queue) (lands_next v (shared c.args.queue m) s l.landing-index c.loop-landing-test.true)))

use native.Mathlib.Omega.{arith}
use Rattle.machine.specs.Steps.{bench_after, answer_after, Fits}
use Rattle.machine.proofs.settled.Goals as goal

pub with_array-grown-requires : goal.with_array-grown-requires
unfolding Fits
with_array-grown-requires c = rw c.in-Claims.is at c.requires.fits

pub publish-current-requires : goal.publish-current-requires
unfolding Fits
publish-current-requires c = rw c.in-Publishes.is at c.requires.fits

pub overflow_add-length : goal.overflow_add-length
unfolding Fits
overflow_add-length c = let h = rw c.in-Stops.is at c.requires.fits in omega (arith, h)

pub overflow_add-length-in-Stops : goal.overflow_add-length-in-Stops
unfolding Fits
overflow_add-length-in-Stops c = let h = rw c.in-Stops.is at c.requires.fits in omega (arith, h)

pub overflow_add-length-in-Ends : goal.overflow_add-length-in-Ends
unfolding Fits
overflow_add-length-in-Ends c = let h = rw c.in-Ends.is at c.requires.fits in omega (arith, h)

pub overflow_add-length-in-Ends-2 : goal.overflow_add-length-in-Ends-2
unfolding Fits
overflow_add-length-in-Ends-2 c = let h = rw c.in-Ends.is at c.requires.fits in omega (arith, h)

pub publish-current-requires-in-Grows : goal.publish-current-requires-in-Grows
unfolding Fits
publish-current-requires-in-Grows c = let h = rw c.in-Grows.is at c.requires.fits in h.0

pub overflow_add-length-in-Grows : goal.overflow_add-length-in-Grows
unfolding Fits
overflow_add-length-in-Grows c = let h = rw c.in-Grows.is at c.requires.fits in omega (arith, h.1)

pub overflow_add-length-in-Grows-2 : goal.overflow_add-length-in-Grows-2
unfolding Fits
overflow_add-length-in-Grows-2 c = let h = rw c.in-Grows.is at c.requires.fits in omega (arith, h.1)

pub returns-in-Nothing : goal.returns-in-Nothing
unfolding bench_after answer_after
returns-in-Nothing c = simp (c.in-Nothing.is, c.replaced.ensures)

pub returns-in-Refused : goal.returns-in-Refused
unfolding bench_after answer_after
returns-in-Refused c = simp (c.in-Refused.is, c.refused.ensures)

pub returns-in-Fails : goal.returns-in-Fails
unfolding bench_after answer_after
returns-in-Fails c = simp (c.in-Fails.is, c.beaten.ensures)

pub returns-in-Links : goal.returns-in-Links
unfolding bench_after answer_after
returns-in-Links c = simp (c.in-Links.is, c.replaced-in-Links.ensures, c.with_link-linked.ensures)

pub returns-in-Claims : goal.returns-in-Claims
unfolding bench_after answer_after
returns-in-Claims c = simp (c.in-Claims.is, c.replaced-next.ensures, c.with_array-grown.ensures)

pub returns-in-Publishes : goal.returns-in-Publishes
unfolding bench_after answer_after
returns-in-Publishes c = simp (c.in-Publishes.is, c.replaced-in-Publishes.ensures, c.publish-current.ensures)

pub returns-in-Stops : goal.returns-in-Stops
unfolding bench_after answer_after
returns-in-Stops c = simp (c.in-Stops.is, c.replaced-in-Stops.ensures, c.with_link-unlinked.ensures)

pub returns-in-Waits : goal.returns-in-Waits
unfolding bench_after answer_after
returns-in-Waits c = simp (c.in-Waits.is, c.refused-in-Waits.ensures)

pub returns-in-Ends : goal.returns-in-Ends
unfolding bench_after answer_after
returns-in-Ends c = simp (c.in-Ends.is, c.replaced-in-Ends.ensures, c.with_anchor-left.ensures)

pub returns-in-Grows : goal.returns-in-Grows
unfolding bench_after answer_after
returns-in-Grows c = simp (c.in-Grows.is, c.replaced-in-Grows.ensures, c.with_link-grown.ensures, c.publish-current-in-Grows.ensures)

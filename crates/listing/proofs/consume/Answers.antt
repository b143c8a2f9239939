use native.Mathlib.Omega.{arith}
use mathlib.Core.Path.{refl, ap, sym, subst, ◌∙◌}
use Prim.Native.Nat.{◌+◌, ◌≤◌, min}
use lib.ListN.{length, set, take, drop, length-drop}
use Rattle.model.specs.declared.Answer.TheVariants.{GoesOn, Refused}
use Rattle.model.specs.Calls.{lent}
use Rattle.model.specs.Listing.{is_refused}
use Rattle.state.specs.declared.Returned.{Returned}
use Rattle.limits.proofs.Alone.{room_alone_lem}
use Rattle.machine.proofs.Stepping.{steppable, made_not_refused, settles, refuses, restarts, replaces}
use Rattle.listing.specs.Listing as spec
use Rattle.replies.specs.Sessions.{world_of}
use Rattle.replies.specs.Choices.{RefusedAtOnce}
use Rattle.listing.proofs.Lines.{front_fits}
use Rattle.replies.proofs.Fronts.{back_length}
use Rattle.replies.proofs.Shows.{shows_none}
use Rattle.listing.proofs.Stepping.{stepping_start, stepping_room, stepping_over, stepping_stops, stepping_on}
use Rattle.listing.proofs.Consuming.{nothing_open}
use Rattle.listing.proofs.Standing.{session_of, standing_on, standing_over, at_once_by, asked_live, steps_by, reached_of, crew_of, once_of, none_of, valid_front, within_front, stepped_front, not_full, consumed_so_far, reached_step, reach_over, valid_of_lem, refusal_room}
use Rattle.listing.proofs.consume.Goals as goal

pub slice_bounds-parse-end : goal.slice_bounds-parse-end
slice_bounds-parse-end c = let l = c.lines in omega (arith, c.line_end-end.ensures, front_fits (drop l.used c.args.buf.now), length-drop l.used c.args.buf.now, l.invariant.0.within)

pub refused_at_once-stop-requires : goal.refused_at_once-stop-requires
refused_at_once-stop-requires c = crew_of (session_of c.lines.live c.lines.long c.lines.bench) c.lines.store c.lines.log c.lines.invariant.0.reach

pub show-wrote-requires : goal.show-wrote-requires
show-wrote-requires c = let l = c.lines in
    let s = session_of l.live l.long l.bench in
    refusal_room l.bench.words c.in-Err.why _ _ (let z : l.wrote + 256 ≤ length l.out = omega (arith, l.invariant.0.fits, l.invariant.3, c.if-most-wrote-lt-LONGEST.false) in z)

pub lines-preserved-in-Err : goal.lines-preserved-in-Err
lines-preserved-in-Err c = let l = c.lines in
    let s = session_of l.live l.long l.bench in
    let at_once = subst (RefusedAtOnce l.live (world_of s l.store l.log) c.parse-command.result) c.in-Err.is (c.refused_at_once-stop.ensures (take l.long l.store) l.log (valid_of_lem s l.store l.log l.invariant.0.reach)) in (
      standing_on _ _ s l.store l.log l.out l.used l.wrote _ _ _ _ _ _ l.invariant.0 c.line_end-end.ensures c.if-end-buf.false (let z : l.wrote + 256 ≤ length l.out = omega (arith, l.invariant.0.fits, l.invariant.3, c.if-most-wrote-lt-LONGEST.false) in z) c.parse-command.ensures
          (at_once_by s l.store l.log c.parse-command.result c.in-Err.why _ _ _ _ at_once c.show-wrote.ensures) (refl),
      l.invariant.1,
      l.invariant.2,
      c.show-wrote.auto.out ∙ l.invariant.3,
      l.invariant.4,
    )

pub play-p-requires : goal.play-p-requires
play-p-requires c = let l = c.lines in
    let s = session_of l.live l.long l.bench in record { at_in_bounds = (let z : l.wrote + 256 ≤ length l.out = omega (arith, l.invariant.0.fits, l.invariant.3, c.if-most-wrote-lt-LONGEST.false) in z); command_value = sym c.ask-asked.ensures ∙ c.in_default.is; count_value = none_of s l.store l.log l.invariant.0.reach }

pub lines-preserved-in_default : goal.lines-preserved-in_default
lines-preserved-in_default c = let l = c.lines in
    let s = session_of l.live l.long l.bench in (
      standing_on _ _ s l.store l.log l.out l.used l.wrote _ _ _ _ _ _ l.invariant.0 c.line_end-end.ensures c.if-end-buf.false (let z : l.wrote + 256 ≤ length l.out = omega (arith, l.invariant.0.fits, l.invariant.3, c.if-most-wrote-lt-LONGEST.false) in z) c.parse-command.ensures
          c.play-p.ensures c.if-p.false,
      c.play-p.auto.store ∙ l.invariant.1,
      c.play-p.auto.log ∙ l.invariant.2,
      c.play-p.auto.out ∙ l.invariant.3,
      l.invariant.4,
    )

pub loop-left-init : goal.loop-left-init
loop-left-init c = let l = c.lines in
    let s = session_of l.live l.long l.bench in
    let v = asked_live l.live c.parse-command.result c.in-Some.worker c.in-Some.times (sym c.ask-asked.ensures ∙ c.in-Some.is) in
    (stepping_start s l.store l.log _ _ l.out l.wrote v, reached_of s l.store l.log v l.invariant.0.reach, refl, refl, refl)

pub lines-preserved : goal.lines-preserved
lines-preserved c = let l = c.lines in
    let s = session_of l.live l.long l.bench in
    let k = c.loop-left in (
      standing_on _ _ s l.store l.log l.out l.used l.wrote _ _ _ _ _ _ l.invariant.0 c.line_end-end.ensures c.if-end-buf.false (let z : l.wrote + 256 ≤ length l.out = omega (arith, l.invariant.0.fits, l.invariant.3, c.if-most-wrote-lt-LONGEST.false) in z) c.parse-command.ensures
          (steps_by s _ _ _ _ _ _ _ _ _ _ _ (sym c.ask-asked.ensures ∙ c.in-Some.is) (stepping_over _ _ _ _ _ _ k.left _ _ _ _ k.invariant.0 (omega (arith, c.loop-left-test.false)))) (refl),
      k.invariant.2 ∙ l.invariant.1,
      k.invariant.3 ∙ l.invariant.2,
      k.invariant.4 ∙ l.invariant.3,
      l.invariant.4,
    )

pub room_at-room-requires : goal.room_at-room-requires
room_at-room-requires c = let l = c.lines in
    let k = c.loop-left in
    let e = c.span-n.ensures ∙ ap (min l.long) (sym k.invariant.2) in let it = room_alone_lem (lent k.bench (take c.span-n.result k.store) k.log) (valid_front k.bench l.long _ k.store k.log e k.invariant.1) in record { claimed_nonzero = it.0; queue_value = it.1.0; queue_bound = it.1.1 }

pub step_in-moved-requires : goal.step_in-moved-requires
step_in-moved-requires c = let l = c.lines in
    let k = c.loop-left in
    let e = c.span-n.ensures ∙ ap (min l.long) (sym k.invariant.2) in
    steppable (lent k.bench (take c.span-n.result k.store) k.log) c.in-Some.worker c.place_of-i.result
    (within_front k.bench l.long _ c.place_of-i.result k.store k.log e k.invariant.1 c.room_at-room.ensures)
    (once_of k.bench l.long k.store k.log c.in-Some.worker k.invariant.1) c.place_of-i.ensures.1

pub show-wrote-requires-in-Refused : goal.show-wrote-requires-in-Refused
show-wrote-requires-in-Refused c = let l = c.lines in
    let k = c.loop-left in
    let e = c.span-n.ensures ∙ ap (min l.long) (sym k.invariant.2) in
    let b = k.bench in
    let i = c.in-Some.worker in
    let place = c.place_of-i.result in
    let to = c.step_in-moved.result.line in
    let made = c.step_in-moved.result.made in
    let step =
    stepped_front b l.long _ k.store k.log _ _ i place to made e c.step_in-moved.auto.store k.invariant.1 c.place_of-i.ensures.1 c.room_at-room.ensures
    (c.step_in-moved.ensures.log_after refl b.delayed b.waiting b.aside b.used place b.restarts b.workers (once_of b l.long k.store k.log i k.invariant.1) c.place_of-i.ensures.1 refl) in
    let by = refuses b place to made step _ c.in-Refused.is in
    stepping_room _ _ _ _ _ _ k.left _ _ _ _ k.invariant.0 _ (let z : l.wrote + 256 ≤ length l.out = omega (arith, l.invariant.0.fits, l.invariant.3, c.if-most-wrote-lt-LONGEST.false) in z) c.loop-left-test.true
    by

pub lines-preserved-in-Refused : goal.lines-preserved-in-Refused
lines-preserved-in-Refused c = let l = c.lines in
    let k = c.loop-left in
    let e = c.span-n.ensures ∙ ap (min l.long) (sym k.invariant.2) in
    let b = k.bench in
    let i = c.in-Some.worker in
    let place = c.place_of-i.result in
    let to = c.step_in-moved.result.line in
    let made = c.step_in-moved.result.made in
    let step =
    stepped_front b l.long _ k.store k.log _ _ i place to made e c.step_in-moved.auto.store k.invariant.1 c.place_of-i.ensures.1 c.room_at-room.ensures
    (c.step_in-moved.ensures.log_after refl b.delayed b.waiting b.aside b.used place b.restarts b.workers (once_of b l.long k.store k.log i k.invariant.1) c.place_of-i.ensures.1 refl) in
    let s = session_of l.live l.long l.bench in
    let t = session_of l.live l.long b in
    let why = c.in-Refused.why in
    let by = refuses b place to made step why c.in-Refused.is in (
      standing_on _ _ s l.store l.log l.out l.used l.wrote _ _ _ _ _ _ l.invariant.0 c.line_end-end.ensures c.if-end-buf.false (let z : l.wrote + 256 ≤ length l.out = omega (arith, l.invariant.0.fits, l.invariant.3, c.if-most-wrote-lt-LONGEST.false) in z) c.parse-command.ensures
          (steps_by s _ _ _ _ _ _ _ _ _ _ _ (sym c.ask-asked.ensures ∙ c.in-Some.is) (stepping_stops _ _ _ _ _ _ k.left _ _ _ _ k.invariant.0 c.loop-left-test.true t (Refused why) _ _ by k.invariant.0.live _ _ c.show-wrote-in-Refused.ensures refl)) refl,
      back_length c.span-n.result k.store c.step_in-moved.new.store c.step_in-moved.auto.store ∙ k.invariant.2 ∙ l.invariant.1,
      c.step_in-moved.auto.log ∙ k.invariant.3 ∙ l.invariant.2,
      c.show-wrote-in-Refused.auto.out ∙ k.invariant.4 ∙ l.invariant.3,
      l.invariant.4,
    )

pub loop-left-preserved-in-Fails : goal.loop-left-preserved-in-Fails
loop-left-preserved-in-Fails c = let l = c.lines in
    let k = c.loop-left in
    let e = c.span-n.ensures ∙ ap (min l.long) (sym k.invariant.2) in
    let b = k.bench in
    let i = c.in-Some.worker in
    let place = c.place_of-i.result in
    let to = c.step_in-moved.result.line in
    let made = c.step_in-moved.result.made in
    let step =
    stepped_front b l.long _ k.store k.log _ _ i place to made e c.step_in-moved.auto.store k.invariant.1 c.place_of-i.ensures.1 c.room_at-room.ensures
    (c.step_in-moved.ensures.log_after refl b.delayed b.waiting b.aside b.used place b.restarts b.workers (once_of b l.long k.store k.log i k.invariant.1) c.place_of-i.ensures.1 refl) in
    let t = session_of l.live l.long b in
    let by = restarts b place to made step c.in-Fails.is (ap (set b.restarts place) c.one_more-count.ensures) in (
      stepping_on _ _ _ _ _ _ k.left _ _ _ _ k.invariant.0 c.loop-left-test.true _ GoesOn _ _ by k.invariant.0.live _ _ (shows_none k.out k.wrote) refl,
      reached_step (world_of t k.store k.log) _ _ _ by k.invariant.1,
      back_length c.span-n.result k.store c.step_in-moved.new.store c.step_in-moved.auto.store ∙ k.invariant.2,
      c.step_in-moved.auto.log ∙ k.invariant.3,
      k.invariant.4,
    )

pub show-wrote-requires-in_default-made : goal.show-wrote-requires-in_default-made
show-wrote-requires-in_default-made c = let l = c.lines in
    let k = c.loop-left in
    let e = c.span-n.ensures ∙ ap (min l.long) (sym k.invariant.2) in
    let b = k.bench in
    let i = c.in-Some.worker in
    let place = c.place_of-i.result in
    let to = c.step_in-moved.result.line in
    let made = c.step_in-moved.result.made in
    let step =
    stepped_front b l.long _ k.store k.log _ _ i place to made e c.step_in-moved.auto.store k.invariant.1 c.place_of-i.ensures.1 c.room_at-room.ensures
    (c.step_in-moved.ensures.log_after refl b.delayed b.waiting b.aside b.used place b.restarts b.workers (once_of b l.long k.store k.log i k.invariant.1) c.place_of-i.ensures.1 refl) in
    let by = settles b place to made step c.settled-done.ensures in
    stepping_room _ _ _ _ _ _ k.left _ _ _ _ k.invariant.0 _ (let z : l.wrote + 256 ≤ length l.out = omega (arith, l.invariant.0.fits, l.invariant.3, c.if-most-wrote-lt-LONGEST.false) in z) c.loop-left-test.true
    by

pub loop-left-preserved-in_default-made : goal.loop-left-preserved-in_default-made
loop-left-preserved-in_default-made c = let l = c.lines in
    let k = c.loop-left in
    let e = c.span-n.ensures ∙ ap (min l.long) (sym k.invariant.2) in
    let b = k.bench in
    let i = c.in-Some.worker in
    let place = c.place_of-i.result in
    let to = c.step_in-moved.result.line in
    let made = c.step_in-moved.result.made in
    let step =
    stepped_front b l.long _ k.store k.log _ _ i place to made e c.step_in-moved.auto.store k.invariant.1 c.place_of-i.ensures.1 c.room_at-room.ensures
    (c.step_in-moved.ensures.log_after refl b.delayed b.waiting b.aside b.used place b.restarts b.workers (once_of b l.long k.store k.log i k.invariant.1) c.place_of-i.ensures.1 refl) in
    let t = session_of l.live l.long b in
    let done = c.settled-done.result in
    let by = settles b place to made step c.settled-done.ensures in
    let answer = ap (λ (r : Returned). is_refused r.answer) c.settled-done.ensures in
    let stands = answer ∙ made_not_refused b.words b.queue b.written made (not_full b l.long k.store k.log i k.invariant.1 _ step) c.step_in-moved.ensures.fits c.in_default-made-2.not-Refused in (
      stepping_on _ _ _ _ _ _ k.left _ _ _ _ k.invariant.0 c.loop-left-test.true (session_of l.live l.long done.bench) done.answer _ _ by k.invariant.0.live _ _ c.show-wrote-in_default-made.ensures stands,
      reached_step (world_of t k.store k.log) _ _ _ by k.invariant.1,
      back_length c.span-n.result k.store c.step_in-moved.new.store c.step_in-moved.auto.store ∙ k.invariant.2,
      c.step_in-moved.auto.log ∙ k.invariant.3,
      c.show-wrote-in_default-made.auto.out ∙ k.invariant.4,
    )

pub loop-left-preserved : goal.loop-left-preserved
loop-left-preserved c = let l = c.lines in
    let k = c.loop-left in
    let e = c.span-n.ensures ∙ ap (min l.long) (sym k.invariant.2) in
    let b = k.bench in
    let i = c.in-Some.worker in
    let place = c.place_of-i.result in
    let to = c.step_in-moved.result.line in
    let made = c.step_in-moved.result.made in
    let step =
    stepped_front b l.long _ k.store k.log _ _ i place to made e c.step_in-moved.auto.store k.invariant.1 c.place_of-i.ensures.1 c.room_at-room.ensures
    (c.step_in-moved.ensures.log_after refl b.delayed b.waiting b.aside b.used place b.restarts b.workers (once_of b l.long k.store k.log i k.invariant.1) c.place_of-i.ensures.1 refl) in
    let t = session_of l.live l.long b in
    let by = replaces b place to made step c.in-Nothing.is in (
      stepping_on _ _ _ _ _ _ k.left _ _ _ _ k.invariant.0 c.loop-left-test.true _ GoesOn _ _ by k.invariant.0.live _ _ (shows_none k.out k.wrote) refl,
      reached_step (world_of t k.store k.log) _ _ _ by k.invariant.1,
      back_length c.span-n.result k.store c.step_in-moved.new.store c.step_in-moved.auto.store ∙ k.invariant.2,
      c.step_in-moved.auto.log ∙ k.invariant.3,
      k.invariant.4,
    )

pub returns-after-lines : goal.returns-after-lines
returns-after-lines c = let l = c.lines in let it = consumed_so_far l.invariant.0 l.invariant.4 (λ e. nothing_open c.args.buf.now l.used (omega (arith, c.lines-test.false))) in record { consumed_by = it.0; reachable = it.1 }

pub returns-then-most-wrote-lt-LONGEST : goal.returns-then-most-wrote-lt-LONGEST
returns-then-most-wrote-lt-LONGEST c = let l = c.lines in let it = consumed_so_far l.invariant.0 l.invariant.4 (λ e. absurd (let z : ⊥ = omega (arith, l.invariant.3, c.if-most-wrote-lt-LONGEST.true, e) in z)) in record { consumed_by = it.0; reachable = it.1 }

pub returns-then-end-buf : goal.returns-then-end-buf
returns-then-end-buf c = let l = c.lines in
    let s = c.args.buf.now in let it = consumed_so_far l.invariant.0 l.invariant.4 (λ e. let o : spec.Open (drop l.used s) = omega (arith, length-drop l.used s, l.invariant.0.within, c.line_end-end.ensures, c.if-end-buf.true) in o) in record { consumed_by = it.0; reachable = it.1 }

pub returns-then-p : goal.returns-then-p
returns-then-p c = let l = c.lines in
    let s = session_of l.live l.long l.bench in record {
      consumed_by = standing_over _ _ s l.store l.log l.out l.used l.wrote _ _ _ _ _ _ l.invariant.0 c.line_end-end.ensures c.if-end-buf.false (let z : l.wrote + 256 ≤ length l.out = omega (arith, l.invariant.0.fits, l.invariant.3, c.if-most-wrote-lt-LONGEST.false) in z) c.parse-command.ensures
          c.play-p.ensures c.if-p.true;
      reachable = reach_over c.play-p.result.session c.play-p.new.store c.play-p.new.log;
    }

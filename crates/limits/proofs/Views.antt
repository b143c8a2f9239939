-- What the owner reads of the queue, from a line that can be put down.
use mathlib.Core.Bool.{Bool, true}
use mathlib.Core.List.{List}
use mathlib.Core.Path.{◌≡◌, sym, ap}
use Prim.Native.Nat.{ℕ}
use native.Mathlib.Omega.{arith}
use borrow.Author.Tests.{le-leb}
use Rattle.std.specs.Option.{is_some, IfSome}
use Rattle.std.specs.Prelude.{Option, Some}
use Rattle.model.specs.declared.Queue.{Queue}
use Rattle.model.specs.declared.Waiting.{Waiting}
use Rattle.model.specs.declared.Bench.{Bench}
use Rattle.model.specs.Tests.{when◌then◌else◌}
use Rattle.model.specs.Stores.{Shared, shared, landed_all, in_line}
use Rattle.model.proofs.Tests.{and_both}
use Rattle.waiting.specs.Places.{notes_ok, first_in}
use Rattle.waiting.proofs.Words.{arrays_stay, claimed_stays}
use Rattle.limits.specs.declared.View.{View}
use Rattle.limits.specs.Parts.{line_held, Seen}

-- none waits
none_lands : (v : ℕ) (S : Shared) (l : Waiting) → l.count ≡ 0 → landed_all v S (in_line l) ≡ S
unfolding landed_all
none_lands v S l e = ap (λ (n : ℕ). landed_all v S (first_in l.stores n)) e

none_noted : (l : Waiting) → l.count ≡ 0 → notes_ok (in_line l) ≡ true
unfolding notes_ok
none_noted l e = ap (λ (n : ℕ). notes_ok (first_in l.stores n)) e

pub none_held : (d : Bool) (l : Waiting) → l.count ≡ 0 → line_held d l ≡ true
none_held d l e = and_both _ _ (le-leb l.count (when d then 8 else 0) (omega (arith, e))) (none_noted l e)

-- a view, told or not
abbrev Told : Bench → Option View → Type 0
Told b o =
    (is_some o ≡ line_held b.delayed b.waiting)
    × IfSome o (λ v. (m : List ℕ) → Seen v b (landed_all b.words (shared b.queue m) (in_line b.waiting)).queue)

module _ (b : Bench) where
  abbrev seen_by : List ℕ → Queue
  seen_by m = (landed_all b.words (shared b.queue m) (in_line b.waiting)).queue

  pub told : (q : Queue) → line_held b.delayed b.waiting ≡ true → ((m : List ℕ) → q ≡ seen_by m)
      → Told b (Some (record { published = q.published; anchor = q.anchor }))
  told q h s = (
    sym h,
    λ m.
        record {
          published = ap (λ (x : Queue). x.published) (sym (s m));
          anchor = ap (λ (x : Queue). x.anchor) (sym (s m));
          arrays = arrays_stay b.words (shared b.queue m) (in_line b.waiting);
          claimed = claimed_stays b.words (shared b.queue m) (in_line b.waiting);
          same = λ n. ap (λ (S : Shared). S.queue) (none_lands b.words (shared b.queue m) b.waiting n);
        },
  )

  pub none_told : b.waiting.count ≡ 0 → Told b (Some (record { published = b.queue.published; anchor = b.queue.anchor }))
  none_told n =
      told b.queue (none_held b.delayed b.waiting n)
      (λ m. sym (ap (λ (S : Shared). S.queue) (none_lands b.words (shared b.queue m) b.waiting n)))

-- It does not matter how an input is cut into buffers.
use Prim.Native.Nat.{ℕ, zero, suc, ◌+◌, ◌-◌, ◌≤◌, ◌<◌, min}
use native.Mathlib.Omega.{arith}
use mathlib.Core.Path.{◌≡◌, refl, ap, sym, ◌∙◌}
use mathlib.Core.Bool.{Bool, true, false}
use mathlib.Core.List.{List, [], ◌∷◌, ◌++◌, append_assoc, append-nil, map}
use lib.Dec.{ltb}
use lib.ListN.{length, take, drop, length-append, length-take, length-drop}
use lib.Seq.{paste, take_at, length-take-le, take_all, take-take, take-nil}
use borrow.Author.Tests.{ltb-true, ltb-false}
use Rattle.model.specs.declared.Command.{Command}
use Rattle.model.specs.declared.Command.TheVariants as command
use Rattle.model.specs.Tests.{when◌then◌else◌}
use Rattle.model.specs.Listing.{Program, ended, respond, listing_from}
use Rattle.text.specs.Words.{lines, head, tail}
use Rattle.text.specs.Commands.{command_of}
use Rattle.text.proofs.Long.{line_long}
use Rattle.replies.specs.Shown.{shown_all}
use Rattle.listing.specs.Listing.{listing_of, until_newline, Open}
use Rattle.replies.specs.Sessions.{left_by}
use Rattle.listing.specs.Consuming.{CarriedBy}
use Rattle.listing.specs.Streams.{Stream, reads, consumes, stops, carries, closes, over, whole}
use Rattle.text.proofs.Lists.{done}
use Rattle.listing.proofs.Lines.{decide, front_newline, front_more, open_line, open_take}
use Rattle.replies.proofs.Shows.{show_none}
use Rattle.replies.proofs.Fronts.{lent_front}
use Rattle.listing.proofs.Consuming.{listing_one, shows_line}
use Rattle.replies.proofs.Replies.{left_on}

pub listing_none : (P : Program) → listing_of P [] ≡ []
unfolding listing_of lines listing_from
listing_none P = show_none

-- after an accepted `end` nothing is printed
quiet : (cs : List Command) → listing_from ended cs ≡ []
unfolding listing_from respond
quiet [] = refl
quiet (command.Open k w z n s v ∷ cs) = quiet cs
quiet (command.BeginPut v p ∷ cs) = quiet cs
quiet (command.BeginTake ∷ cs) = quiet cs
quiet (command.BeginSteal i ∷ cs) = quiet cs
quiet (command.Steps i m ∷ cs) = quiet cs
quiet (command.Who i ∷ cs) = quiet cs
quiet (command.End ∷ cs) = quiet cs
quiet (command.Bad ∷ cs) = quiet cs

pub listing_ended : (input : List ℕ) → listing_of ended input ≡ []
unfolding listing_of
listing_ended input = ap shown_all (quiet (map command_of (lines input))) ∙ show_none

-- the last line
pub listing_last : (P : Program) (buf : List ℕ) → (length buf ≡ 0 → ⊥) → Open buf → listing_of P buf ≡ shown_all (respond P (command_of buf)).output
listing_last P [] n h = absurd (n refl)
listing_last P (b ∷ s) n h = ap (listing_of P) (sym (append-nil (b ∷ s))) ∙ one (open_line b s [] h)
  where
    two : ((b ∷ s) ++ head (lines [])) ∷ tail (lines []) ≡ (b ∷ s) ∷ []
    two = unfold lines head tail in ap (λ (l : List ℕ). l ∷ []) (append-nil (b ∷ s))

    three : shown_all (listing_from (respond P (command_of (b ∷ s))).program []) ≡ []
    three = unfold listing_from in show_none

    one : lines ((b ∷ s) ++ []) ≡ ((b ∷ s) ++ head (lines [])) ∷ tail (lines []) → listing_of P ((b ∷ s) ++ []) ≡ shown_all (respond P (command_of (b ∷ s))).output
    one e = unfold listing_of in
        (ap (λ (ls : List (List ℕ)). shown_all (listing_from P (map command_of ls))) (e ∙ two) ∙ listing_one P (command_of (b ∷ s)) []
        ∙ ap (λ (l : List ℕ). shown_all (respond P (command_of (b ∷ s))).output ++ l) three ∙ append-nil _)

-- of a line that has begun the first 72 bytes are enough
pub cut : (P : Program) (s z : List ℕ) → Open s → listing_of P (s ++ z) ≡ listing_of P (take 72 s ++ z)
unfolding listing_of
cut P [] z h = refl
cut P (b ∷ s) z h = go (ltb 71 (length (b ∷ s))) refl
  where
    same_command : (x y : List ℕ) (ls : List (List ℕ)) → command_of x ≡ command_of y → shown_all (listing_from P (map command_of (x ∷ ls))) ≡ shown_all (listing_from P (map command_of (y ∷ ls)))
    same_command x y ls e = ap (λ (d : Command). shown_all (listing_from P (d ∷ map command_of ls))) e

    longs : 71 < length (b ∷ s) → (u : List ℕ) → command_of ((b ∷ s) ++ u) ≡ command_of (take 72 (b ∷ s) ++ u)
    longs k u = line_long ((b ∷ s) ++ u) (rw (length-append (b ∷ s) u) (omega arith)) ∙ sym (line_long (take 72 (b ∷ s) ++ u) (rw (length-append (take 72 (b ∷ s)) u, length-take 72 (b ∷ s)) (omega arith)))

    go : (q : Bool) → ltb 71 (length (b ∷ s)) ≡ q → listing_of P ((b ∷ s) ++ z) ≡ listing_of P (take 72 (b ∷ s) ++ z)
    go false e = ap (λ (l : List ℕ). listing_of P (l ++ z)) (sym (take_all 72 (b ∷ s) (let k : length (b ∷ s) ≤ 71 = ltb-false 71 (length (b ∷ s)) e in omega arith)))
    go true e =
        let k : 71 < length (b ∷ s) = ltb-true 71 (length (b ∷ s)) e in
        (ap (λ (ls : List (List ℕ)). shown_all (listing_from P (map command_of ls))) (open_line b s z h) ∙ same_command _ _ (tail (lines z)) (longs k (head (lines z)))
        ∙ sym (ap (λ (ls : List (List ℕ)). shown_all (listing_from P (map command_of ls))) (open_line b (take 71 s) z (open_take 72 (b ∷ s) h))))

-- a line that has begun, with a newline behind it
front_closed : (s : List ℕ) → Open s → until_newline (s ++ 10 ∷ []) ≡ s
front_closed [] h = front_newline 10 [] refl
front_closed (b ∷ s) h = decide b
    (λ e. absurd (let z : ⊥ = omega (arith, ap length (front_newline b s e)) in z))
    (λ n. front_more b (s ++ 10 ∷ []) n ∙ ap (λ (l : List ℕ). b ∷ l) (front_closed s (let z : Open s = omega (arith, ap length (front_more b s n)) in z)))

-- the last line is played as if a newline ended it
pub closed : (P : Program) (buf : List ℕ) → (length buf ≡ 0 → ⊥) → Open buf → listing_of P buf ≡ listing_of P (buf ++ 10 ∷ [])
closed P buf n h = listing_last P buf n h ∙ sym (ap (listing_of P) (sym (append-nil _)) ∙ one)
  where
    whole_line : length (until_newline (buf ++ 10 ∷ [])) < length (buf ++ 10 ∷ [])
    whole_line = rw (front_closed buf h, length-append buf (10 ∷ [])) (omega arith)

    none : drop (length (until_newline (buf ++ 10 ∷ [])) + 1) (buf ++ 10 ∷ []) ≡ []
    none = done (buf ++ 10 ∷ []) (length (until_newline (buf ++ 10 ∷ [])) + 1) (rw (front_closed buf h, length-append buf (10 ∷ [])) (omega arith))

    one : listing_of P ((buf ++ 10 ∷ []) ++ []) ≡ shown_all (respond P (command_of buf)).output
    one = shows_line P (buf ++ 10 ∷ []) [] P (buf ++ 10 ∷ []) (λ z. refl) whole_line []
        ∙ ap (λ (l : List ℕ). shown_all (respond P (command_of l)).output ++ listing_of (respond P (command_of l)).program (drop (length l + 1) (buf ++ 10 ∷ []) ++ [])) (front_closed buf h)
        ∙ ap (λ (l : List ℕ). shown_all (respond P (command_of buf)).output ++ listing_of (respond P (command_of buf)).program (l ++ [])) (ap (λ (l : List ℕ). drop (length l + 1) (buf ++ 10 ∷ [])) (sym (front_closed buf h)) ∙ none)
        ∙ ap (λ (l : List ℕ). shown_all (respond P (command_of buf)).output ++ l) (listing_none _) ∙ append-nil _

-- what stands in front after a move to the front
pub moved_front : (xs : List ℕ) (from k j : ℕ) → j ≡ k → k ≤ length (drop from xs) → take k (paste xs 0 (drop from xs) j) ≡ take k (drop from xs)
moved_front xs from k j e h = ap (λ (n : ℕ). take k (paste xs 0 (drop from xs) n)) e ∙ take_at (take k (drop from xs)) (drop (0 + k) xs) k (length-take-le k (drop from xs) h)

drop_take : (a n : ℕ) (l : List ℕ) → drop a (take n l) ≡ take (n - a) (drop a l)
drop_take zero n l = ap (λ (k : ℕ). take k l) (let q : n ≡ n - 0 = omega arith in q)
drop_take (suc a) zero l = ap (λ (k : ℕ). take k (drop (suc a) l)) (let q : 0 ≡ 0 - suc a = omega arith in q)
drop_take (suc a) (suc n) [] = sym (take-nil (suc n - suc a))
drop_take (suc a) (suc n) (x ∷ l) = drop_take a n l ∙ ap (λ (k : ℕ). take k (drop a l)) (let q : n - a ≡ suc n - suc a = omega arith in q)

take_least : (a m : ℕ) (l : List ℕ) → take a (take m l) ≡ take (min a m) l
take_least a m l = go (ltb m a) refl
  where
    go : (b : Bool) → ltb m a ≡ b → take a (take m l) ≡ take (min a m) l
    go true e =
        let h : m < a = ltb-true m a e in
        take_all a (take m l) (rw length-take (omega arith)) ∙ ap (λ (k : ℕ). take k l) (let q : m ≡ min a m = omega arith in q)
    go false e =
        let h : a ≤ m = ltb-false m a e in
        take-take a m l h ∙ ap (λ (k : ℕ). take k l) (let q : a ≡ min a m = omega arith in q)

-- what `carry` keeps, as it is worked out
pub carried : (buf : List ℕ) (from n to r : ℕ) (after : List ℕ) → to ≡ min n (length buf) → r ≡ min 72 (to - from) → take r after ≡ take r (drop from buf) → CarriedBy buf from n r after
carried buf from n to r after e f g = record { count = sym (ap length (sym same) ∙ long); moved = g ∙ same }
  where
    same : take r (drop from buf) ≡ take 72 (drop from (take n buf))
    same = ap (λ (k : ℕ). take k (drop from buf)) f ∙ sym (take_least 72 (to - from) (drop from buf)) ∙ ap (take 72) (sym (drop_take from to buf) ∙ ap (drop from) (lent_front n to buf e))

    long : length (take r (drop from buf)) ≡ r
    long = length-take r (drop from buf) ∙ (let z : min r (length (drop from buf)) ≡ r = omega (arith, length-drop from buf, e, f) in z)

-- Whatever the chunks are, what is written is the listing of the whole input.
pub any_cut : {P : Program} {buf text : List ℕ} {cs : List (List ℕ)} → Stream P buf cs text → listing_of P (buf ++ whole cs) ≡ text
unfolding whole when◌then◌else◌
any_cut {P} {buf} (reads {c = c} {cs = cs} s) = ap (listing_of P) (sym (append_assoc buf c (whole cs))) ∙ any_cut s
any_cut (consumes {buf = buf} {cs = cs} f m l out by e s) =
    by.shows (whole cs) ∙ ap (λ (Q : Program). take f.wrote out ++ listing_of Q (drop f.used buf ++ whole cs)) (left_on f.stops f.session m l e) ∙ ap (λ (t : List ℕ). take f.wrote out ++ t) (any_cut s)
any_cut (stops {buf = buf} {cs = cs} f m l out by e) =
    by.shows (whole cs) ∙ ap (λ (b : Bool). take f.wrote out ++ listing_of (left_by b f.session m l) (drop f.used buf ++ whole cs)) e
    ∙ ap (λ (t : List ℕ). take f.wrote out ++ t) (listing_ended (drop f.used buf ++ whole cs)) ∙ append-nil _
any_cut (carries {P = P} {buf = buf} {cs = cs} o s) = cut P buf (whole cs) o ∙ any_cut s
any_cut (closes {P = P} {buf = buf} n o s) = ap (listing_of P) (append-nil buf) ∙ closed P buf n o ∙ ap (listing_of P) (sym (append-nil (buf ++ 10 ∷ []))) ∙ any_cut s
any_cut (over {P = P}) = listing_none P

-- A listing plays one list of calls.
use Rattle.std.specs.Prelude.{Result, Ok, Err}
use mathlib.Core.Path.{◌≡◌, refl, sym, ap, subst, ◌∙◌}
use mathlib.Core.Bool.{Bool, true, false}
use mathlib.Core.Logic.{◌⊎◌, inl, inr}
use mathlib.Core.List.{List, [], ◌∷◌, ◌++◌, append_assoc}
use Prim.Native.Nat.{ℕ, zero, suc}
use lib.Dec.{eqb}
use lib.ListN.{take}
use Rattle.model.specs.declared.Payload.{Payload}
use Rattle.model.specs.declared.Setup.{Setup}
use Rattle.model.specs.declared.Answer.{Answer}
use Rattle.model.specs.declared.Answer.TheVariants.{
  Accepted,
  Numbered,
  GoesOn,
  Finished,
  HandedOut,
  Empty,
  Full,
  Grown,
  Refused,
}
use Rattle.model.specs.declared.Operation.TheVariants.{Put, Take, Steal}
use Rattle.model.specs.declared.Refusal.{Refusal}
use Rattle.model.specs.declared.Refusal.TheVariants.{BadLine}
use Rattle.model.specs.declared.Command.{Command}
use Rattle.model.specs.declared.Command.TheVariants.{Open, BeginPut, BeginTake, BeginSteal, Steps, Who, End, Bad}
use Rattle.model.specs.Tests.{when◌then◌else◌, unless◌then◌else◌}
use Rattle.model.specs.Answers.{number_of}
use Rattle.model.specs.World.{World, Outcome, refuse}
use Rattle.model.specs.Calls.{fresh_of, setup, begin_of, step_of, who_of, Call, begin, call_of}
use Rattle.model.specs.Run.{after}
use Rattle.model.specs.Counts.{counts_of}
use Rattle.model.specs.Listing.{
  Print,
  R,
  Program,
  waiting,
  playing,
  ended,
  Response,
  response,
  printed,
  printed_by,
  printed_tally,
  is_refused,
  totals,
  opened,
  showing,
  bad,
  steps_of,
  respond,
  listing_from,
  program_store,
  program_log,
  listing,
}
use Rattle.theorems.specs.Demand3.{FewPuts}
use Rattle.order.specs.Listings.{
  Item,
  plays,
  tells,
  bad_line,
  end_line,
  step_items,
  calls_in,
  items_of,
  shows,
  ListingPlays,
  before_queue,
  AllRefused,
  refusals,
  Opened,
  InputSplits,
  opened_bench,
  rest_items,
  ProgramPlays,
  NoneLostIn,
  ProgramLosesNone,
}
use Rattle.order.proofs.NoneLost.{none_lost}

-- `step I M`, and then what the lines after it come to
steps_play : (m : ℕ) (W : World) (i : ℕ) (is : List Item)
    → shows W (step_items W i m ++ is) ≡ (steps_of W i m).output ++ shows (after W (calls_in (step_items W i m))) is
unfolding steps_of step_items after calls_in shows when◌then◌else◌
steps_play zero W i is = refl
steps_play (suc m) W i is = go (steps_play m (step_of W i).world i is) (is_refused (step_of W i).answer)
  where
    U : World
    U = (step_of W i).world

    r : Response
    r = steps_of U i m

    out : List Print
    out = printed_by (step_of W i)

    go : shows U (step_items U i m ++ is) ≡ r.output ++ shows (after U (calls_in (step_items U i m))) is → (b : Bool)
        → out ++ shows U ((when b then [] else step_items U i m) ++ is)
        ≡ (when b then showing (step_of W i) else response r.program (out ++ r.output)).output
        ++ shows (after U (calls_in (when b then [] else step_items U i m))) is
    go e true = refl
    go e false = ap (λ (l : List Print). out ++ l) e ∙ sym (append_assoc out r.output _)

-- and where it leads
steps_stand : (m : ℕ) (W : World) (i : ℕ) → (steps_of W i m).program ≡ playing (after W (calls_in (step_items W i m)))
unfolding steps_of step_items after calls_in when◌then◌else◌
steps_stand zero W i = refl
steps_stand (suc m) W i = go (steps_stand m (step_of W i).world i) (is_refused (step_of W i).answer)
  where
    U : World
    U = (step_of W i).world

    r : Response
    r = steps_of U i m

    go : r.program ≡ playing (after U (calls_in (step_items U i m))) → (b : Bool)
        → (when b then showing (step_of W i) else response r.program (printed_by (step_of W i) ++ r.output)).program
        ≡ playing (after U (calls_in (when b then [] else step_items U i m)))
    go e true = refl
    go e false = e

-- after `end` nothing is printed
over : (cs : List Command) → listing_from ended cs ≡ []
unfolding listing_from respond
over [] = refl
over (Open k w c n s v ∷ cs) = over cs
over (BeginPut v p ∷ cs) = over cs
over (BeginTake ∷ cs) = over cs
over (BeginSteal i ∷ cs) = over cs
over (Steps i m ∷ cs) = over cs
over (Who i ∷ cs) = over cs
over (End ∷ cs) = over cs
over (Bad ∷ cs) = over cs

-- a line that is one call, one that is refused 13, and `who`
one_call : (W : World) (c : Call) (cs : List Command)
    → listing_from (playing (call_of W c).world) cs ≡ shows (call_of W c).world (items_of (call_of W c).world cs)
    → printed_by (call_of W c) ++ listing_from (playing (call_of W c).world) cs
    ≡ shows W (plays c ∷ items_of (call_of W c).world cs)
unfolding shows
one_call W c cs e = ap (λ (l : List Print). printed_by (call_of W c) ++ l) e

bad_line_lem : (W : World) (cs : List Command) → listing_from (playing W) cs ≡ shows W (items_of W cs)
    → R (number_of BadLine) ∷ listing_from (playing W) cs ≡ shows W (bad_line ∷ items_of W cs)
unfolding shows
bad_line_lem W cs e = ap (λ (l : List Print). R (number_of BadLine) ∷ l) e

who_line : (W : World) (i : ℕ) (cs : List Command) → listing_from (playing W) cs ≡ shows W (items_of W cs)
    → printed_tally i (who_of W i) ++ listing_from (playing W) cs ≡ shows W (tells i ∷ items_of W cs)
unfolding shows
who_line W i cs e = ap (λ (l : List Print). printed_tally i (who_of W i) ++ l) e

-- `put`, with the payload's count of words or not
put_line : (W : World) (x : Bool) (p : Payload) (cs : List Command)
    → let U : World = (begin_of W 0 (Put p)).world in
    listing_from (playing U) cs ≡ shows U (items_of U cs) → listing_from (playing W) cs ≡ shows W (items_of W cs)
    → let r : Response = (when x then showing (begin_of W 0 (Put p)) else bad (playing W)) in
    let is : List Item = (when x then plays (begin 0 (Put p)) ∷ [] else bad_line ∷ []) in
    r.output ++ listing_from r.program cs ≡ shows W (is ++ items_of (after W (calls_in is)) cs)
unfolding calls_in after when◌then◌else◌
put_line W true p cs e f = one_call W (begin 0 (Put p)) cs e
put_line W false p cs e f = bad_line_lem W cs f

pub listing_plays : ListingPlays
unfolding listing_from respond items_of shows calls_in after
listing_plays W [] = refl
listing_plays W (Open k w c n s v ∷ cs) = bad_line_lem W cs (listing_plays W cs)
listing_plays W (BeginPut v p ∷ cs) =
    put_line W (eqb v W.bench.words) p cs (listing_plays (begin_of W 0 (Put p)).world cs) (listing_plays W cs)
listing_plays W (BeginTake ∷ cs) = one_call W (begin 0 Take) cs (listing_plays (begin_of W 0 Take).world cs)
listing_plays W (BeginSteal i ∷ cs) = one_call W (begin i Steal) cs (listing_plays (begin_of W i Steal).world cs)
listing_plays W (Steps i m ∷ cs) =
    let U : World = after W (calls_in (step_items W i m)) in
    ap (λ (P : Program). (steps_of W i m).output ++ listing_from P cs) (steps_stand m W i)
    ∙ ap (λ (l : List Print). (steps_of W i m).output ++ l) (listing_plays U cs)
    ∙ sym (steps_play m W i (items_of U cs))
listing_plays W (Who i ∷ cs) = who_line W i cs (listing_plays W cs)
listing_plays W (End ∷ cs) = ap (λ (l : List Print). totals (counts_of W) ∷ l) (over cs)
listing_plays W (Bad ∷ cs) = bad_line_lem W cs (listing_plays W cs)

-- FROM THE PROGRAM'S START. A line before a `queue` is accepted
start : Program
start = waiting program_store program_log

first_line_lem : (c : Command) → respond start c ≡ opened start (before_queue c)
unfolding respond when◌then◌else◌ start
first_line_lem (Open k w c n s v) = refl
first_line_lem (BeginPut v p) = refl
first_line_lem BeginTake = refl
first_line_lem (BeginSteal i) = refl
first_line_lem (Steps i m) = refl
first_line_lem (Who i) = refl
first_line_lem End = refl
first_line_lem Bad = refl

first_refused : (c : Command) (cs : List Command) → is_refused (before_queue c).answer ≡ true
    → listing (c ∷ cs) ≡ printed_by (before_queue c) ++ listing cs
unfolding listing_from when◌then◌else◌ start
first_refused c cs e =
    ap (λ (r : Response). r.output ++ listing_from r.program cs) (first_line_lem c)
    ∙ ap (λ (b : Bool). printed_by (before_queue c) ++ listing_from (when b then start else playing (before_queue c).world) cs) e

first_accepted : (c : Command) (cs : List Command) → (before_queue c).answer ≡ Accepted
    → listing (c ∷ cs) ≡ listing_from (playing (before_queue c).world) cs
unfolding listing_from when◌then◌else◌ start
first_accepted c cs e =
    ap (λ (r : Response). r.output ++ listing_from r.program cs) (first_line_lem c)
    ∙ ap (λ (a : Answer). printed (before_queue c).world.bench.words a ++ listing_from (when is_refused a then start else playing (before_queue c).world) cs) e

all_refused : (cs rest : List Command) → AllRefused cs → listing (cs ++ rest) ≡ refusals cs ++ listing rest
all_refused [] rest h = refl
all_refused (c ∷ cs) rest h =
    first_refused c (cs ++ rest) h.0
    ∙ ap (λ (l : List Print). printed_by (before_queue c) ++ l) (all_refused cs rest h.1)
    ∙ sym (append_assoc (printed_by (before_queue c)) (refusals cs) _)

pub program_plays : ProgramPlays
program_plays input o =
    ap listing o.parts
    ∙ all_refused o.before (o.queue ∷ o.rest) o.refused
    ∙ ap (λ (l : List Print). refusals o.before ++ l)
    (first_accepted o.queue o.rest o.accepted ∙ listing_plays (opened_bench o) o.rest)

-- EVERY INPUT. Before a `queue` is accepted a line is refused, or it is the one
abbrev Opens : Outcome → Type 0
Opens d = (is_refused d.answer ≡ true) ⊎ (d.answer ≡ Accepted)

unless_refused_lem : (x : Bool) (d : Outcome) (U : World) (r : Refusal) → Opens d → Opens (unless x then refuse U r else d)
unfolding when◌then◌else◌
unless_refused_lem true d U r h = h
unless_refused_lem false d U r h = inl refl

fresh_opens : (s : Setup) (m l : List ℕ) → Opens (fresh_of s m l)
unfolding fresh_of
fresh_opens s m l =
    unless_refused_lem _ _ _ _ (unless_refused_lem _ _ _ _ (unless_refused_lem _ _ _ _ (
    unless_refused_lem _ _ _ _ (unless_refused_lem _ _ _ _ (unless_refused_lem _ _ _ _ (inr refl)))
    )))

line_opens : (c : Command) → Opens (before_queue c)
line_opens (Open k w c n s v) = fresh_opens (setup k w c n v) (take s program_store) program_log
line_opens (BeginPut v p) = inl refl
line_opens BeginTake = inl refl
line_opens (BeginSteal i) = inl refl
line_opens (Steps i m) = inl refl
line_opens (Who i) = inl refl
line_opens End = inl refl
line_opens Bad = inl refl

-- one refused line more in front
behind : (c : Command) (cs : List Command) → is_refused (before_queue c).answer ≡ true
    → Opened cs ⊎ (AllRefused cs × (listing cs ≡ refusals cs))
    → Opened (c ∷ cs) ⊎ (AllRefused (c ∷ cs) × (listing (c ∷ cs) ≡ refusals (c ∷ cs)))
behind c cs e (inl o) =
    inl (record {
      before = c ∷ o.before;
      queue = o.queue;
      rest = o.rest;
      parts = ap (λ (l : List Command). c ∷ l) o.parts;
      refused = (e, o.refused);
      accepted = o.accepted;
    })
behind c cs e (inr (h, f)) =
    inr ((e, h), first_refused c cs e ∙ ap (λ (l : List Print). printed_by (before_queue c) ++ l) f)

pub input_splits : InputSplits
unfolding listing_from
input_splits [] = inr (tt, refl)
input_splits (c ∷ cs) = go (input_splits cs) (line_opens c)
  where
    go : Opened cs ⊎ (AllRefused cs × (listing cs ≡ refusals cs)) → Opens (before_queue c)
        → Opened (c ∷ cs) ⊎ (AllRefused (c ∷ cs) × (listing (c ∷ cs) ≡ refusals (c ∷ cs)))
    go h (inl e) = behind c cs e h
    go h (inr e) = inl (record { before = []; queue = c; rest = cs; parts = refl; refused = tt; accepted = e })

-- NONE LOST. Only `T` has a count of them
none_joined : (xs ys : List Print) → NoneLostIn xs → NoneLostIn ys → NoneLostIn (xs ++ ys)
none_joined [] ys a b = b
none_joined (x ∷ xs) ys a b = (a.0, none_joined xs ys a.1 b)

none_answered : (v : ℕ) (a : Answer) → NoneLostIn (printed v a)
none_answered v Accepted = tt
none_answered v (Numbered n) = tt
none_answered v GoesOn = tt
none_answered v (Finished i t) = (refl, tt)
none_answered v (HandedOut i t) = (refl, tt)
none_answered v (Empty i) = (refl, tt)
none_answered v (Full i t) = (refl, tt)
none_answered v (Grown i) = tt
none_answered v (Refused r) = (refl, tt)

none_told : (i : ℕ) (x : Result ℕ Refusal) → NoneLostIn (printed_tally i x)
none_told i (Ok n) = (refl, tt)
none_told i (Err r) = (refl, tt)

none_refused : (cs : List Command) → NoneLostIn (refusals cs)
none_refused [] = tt
none_refused (c ∷ cs) =
    none_joined (printed_by (before_queue c)) (refusals cs) (none_answered _ (before_queue c).answer) (none_refused cs)

none_shown : (W : World) (is : List Item) → (counts_of (after W (calls_in is))).lost ≡ 0 → NoneLostIn (shows W is)
unfolding shows calls_in after
none_shown W [] e = tt
none_shown W (plays c ∷ is) e =
    none_joined (printed_by (call_of W c)) (shows (call_of W c).world is) (none_answered _ (call_of W c).answer)
    (none_shown (call_of W c).world is e)
none_shown W (tells i ∷ is) e =
    none_joined (printed_tally i (who_of W i)) (shows W is) (none_told i (who_of W i)) (none_shown W is e)
none_shown W (bad_line ∷ is) e = (refl, none_shown W is e)
none_shown W (end_line ∷ is) e = (e, tt)

-- the bench of an accepted `queue` is a fresh one
none_lost_by : (q : Command) → (before_queue q).answer ≡ Accepted → (cs : List Call) → FewPuts (before_queue q).world cs
    → (counts_of (after (before_queue q).world cs)).lost ≡ 0
none_lost_by (Open k w c n s v) e cs f = none_lost (setup k w c n v) (take s program_store) program_log e cs f
none_lost_by (BeginPut v p) e cs f = cc
none_lost_by BeginTake e cs f = cc
none_lost_by (BeginSteal i) e cs f = cc
none_lost_by (Steps i m) e cs f = cc
none_lost_by (Who i) e cs f = cc
none_lost_by End e cs f = cc
none_lost_by Bad e cs f = cc

pub program_loses_none : ProgramLosesNone
program_loses_none input o f =
    subst NoneLostIn (sym (program_plays input o))
    (none_joined (refusals o.before) (shows (opened_bench o) (rest_items o)) (none_refused o.before)
    (none_shown (opened_bench o) (rest_items o) (none_lost_by o.queue o.accepted (calls_in (rest_items o)) f)))

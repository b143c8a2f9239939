-- One round of take and put while a thief waits at its compare: the states of the tightness list.
use mathlib.Core.Path.{◌≡◌, refl, ◌∙◌, ap, subst}
use mathlib.Core.Bool.{Bool, true, false, not}
use mathlib.Core.List.{List, [], ◌∷◌, ◌++◌}
use Prim.Native.Nat.{ℕ, zero, suc, ◌+◌, ◌*◌, ◌%◌, ◌^◌}
use native.Mathlib.Numerals.{add-one}
use lib.Dec.{eqb, ltb}
use lib.ListN.{take, replicate}
use Rattle.model.specs.declared.Kind.{Kind}
use Rattle.model.specs.declared.Kind.TheVariants.{Lifo, Deque}
use Rattle.model.specs.declared.Anchor.{Anchor}
use Rattle.model.specs.declared.Payload.{Payload}
use Rattle.model.specs.declared.Task.{Task}
use Rattle.model.specs.declared.Store.TheVariants.{StoreOut}
use Rattle.model.specs.declared.Line.{Line}
use Rattle.model.specs.declared.Line.TheVariants.{Idle, PutFinish, TakeFinish, StealRead, StealCompare}
use Rattle.model.specs.declared.Operation.TheVariants.{Put, Take, Steal}
use Rattle.model.specs.declared.Answer.{Answer}
use Rattle.model.specs.declared.Answer.TheVariants.{Accepted, Numbered, GoesOn, Finished, HandedOut}
use Rattle.model.specs.declared.Refusal.TheVariants.{NumbersSpent, LogFull}
use Rattle.model.specs.Tests.{when◌then◌else◌, ◌and◌, ◌or◌}
use Rattle.model.specs.Stores.{none_pending, landed_all}
use Rattle.model.specs.Lines.{Effect, eff, goes, line_step}
use Rattle.model.specs.World.{World, Outcome, refuse, tag_bits, resting, line_at, room_alone}
use Rattle.model.specs.Calls.{log_full, begun, raised, stepped, no_room, Call, begin, step, call_in, call_of}
use Rattle.model.specs.Tasks.{payload, task, words_in, word_in, with_word, gathered}
use Rattle.model.specs.Answers.{Entry, entry, entry_length, entry_words}
use Rattle.model.specs.Memory.{word_at, set_word, set_all, nowhere, offset_at, length_at, size_at}
use Rattle.model.specs.Run.{Played, played, after}
use Rattle.model.specs.Figures.{anchor}
use Rattle.theorems.proofs.Cases.{alone_is}
use Rattle.theorems.proofs.Alone.{Lone, lone_valid, lone_call}
use Rattle.theorems.proofs.Events.{is_line_1}

-- a lone queue's calls without the test of refusal 12
abbrev pub raw_of : World → Call → Outcome
raw_of U c = call_in (room_alone U) U c

pub raw_is : (U : World) (c : Call) → Lone U → call_of U c ≡ raw_of U c
raw_is U c H = alone_is U c (lone_valid H)

abbrev pub raw_after : World → List Call → World
raw_after U [] = U
raw_after U (c ∷ cs) = raw_after (raw_of U c).world cs

abbrev pub raw_answers : World → List Call → List Answer
raw_answers U [] = []
raw_answers U (c ∷ cs) = (raw_of U c).answer ∷ raw_answers (raw_of U c).world cs

abbrev pub answers : List Played → List Answer
answers [] = []
answers (s ∷ T) = s.answer ∷ answers T

pub after_raw : (cs : List Call) (U : World) → Lone U → after U cs ≡ raw_after U cs
unfolding after
after_raw [] U H = refl
after_raw (c ∷ cs) U H =
    after_raw cs (call_of U c).world (lone_call H c) ∙ ap (λ (D : Outcome). raw_after D.world cs) (raw_is U c H)

pub answers_raw : (cs : List Call) (U : World) → Lone U → answers (played U cs) ≡ raw_answers U cs
unfolding played
answers_raw [] U H = refl
answers_raw (c ∷ cs) U H =
    ap (λ (l : List Answer). (call_of U c).answer ∷ l) (answers_raw cs (call_of U c).world (lone_call H c))
    ∙ ap (λ (D : Outcome). D.answer ∷ raw_answers D.world cs) (raw_is U c H)

pub after_append : (xs ys : List Call) (U : World) → after U (xs ++ ys) ≡ after (after U xs) ys
unfolding after
after_append [] ys U = refl
after_append (c ∷ xs) ys U = after_append xs ys (call_of U c).world

pub answers_append : (xs ys : List Call) (U : World) → answers (played U (xs ++ ys)) ≡ answers (played U xs) ++ answers (played (after U xs) ys)
unfolding played after
answers_append [] ys U = refl
answers_append (c ∷ xs) ys U = ap (λ (l : List Answer). (call_of U c).answer ∷ l) (answers_append xs ys (call_of U c).world)

-- THE STATES of the two queues with a tag, and of 1 to 4 payload words
pub data Tagged : Type 0 where
  lifo deque : Tagged

abbrev pub the_kind : Tagged → Kind
the_kind lifo = Lifo
the_kind deque = Deque

pub data Wide : Type 0 where
  one two three four : Wide

abbrev pub many : Wide → ℕ
many one = 1
many two = 2
many three = 3
many four = 4

-- what a steal keeps for its compare, from the head 0: figure 3's h2, else 0
abbrev pub h2 : Tagged → ℕ
h2 lifo = 0
h2 deque = 1

-- a task whose first payload word is p; a store with this task in its one slot; an entry written
abbrev pub short : ℕ → ℕ → Task
short n p = task n (payload p 0 0 0)

abbrev pub holding : Wide → ℕ → ℕ → List ℕ → List ℕ
holding v n p rest = take (many v + 1) (words_in (short n p)) ++ rest

abbrev pub write_entry : Wide → List ℕ → ℕ → Entry → List ℕ
write_entry v l at e = set_all l at (entry_words (many v) e)

-- the anchor is a; the owner is at the line o, the thief, worker 1, at θ
abbrev pub here : Tagged → Wide → ℕ → Anchor → ℕ → ℕ → Line → Line → List ℕ → List ℕ → World
here κ v w a n wr o θ m lg =
    record {
      bench =
          record {
            kind = the_kind κ;
            width = w;
            words = many v;
            delayed = false;
            crew = 2;
            queue =
                record {
                  linked = false;
                  anchor = a;
                  arrays = record { offset = 0; length = (many v + 1) * 1 } ∷ replicate 10 nowhere;
                  published = 1;
                  claimed = 1;
                  initial = 1;
                  links = replicate 8 false;
                };
            waiting = record { stores = replicate 8 none_pending; count = 0 };
            aside = 0;
            used = n;
            restarts = replicate 8 0;
            written = wr;
            workers = record { line = o } ∷ record { line = θ } ∷ replicate 6 resting;
          };
      store = m;
      log = lg;
    }

-- the lines of a put and of a take, each word of the task by its own
abbrev pub own_steps : Wide → List Call
own_steps v = replicate (many v + 4) (step 0)

abbrev pub putting : Wide → List Call
putting v = begin 0 (Put (payload 7 0 0 0)) ∷ own_steps v

abbrev pub taking : Wide → List Call
taking v = begin 0 Take ∷ own_steps v

-- those of a steal between its line 1 and its compare; figure 3's has one more, which works out h2
abbrev pub waits : Tagged → Wide → ℕ
waits κ v = many v + 3 + h2 κ

abbrev pub stealing : Tagged → Wide → List Call
stealing κ v = begin 1 Steal ∷ step 1 ∷ replicate (waits κ v) (step 1)

abbrev pub goes_on : ℕ → List Answer
goes_on n = replicate n GoesOn

abbrev pub put_answers : Wide → ℕ → List Answer
put_answers v n = Numbered n ∷ (goes_on (many v + 3) ++ (Finished 0 (short n 7) ∷ []))

abbrev pub take_answers : Wide → ℕ → List Answer
take_answers v n = Accepted ∷ (goes_on (many v + 3) ++ (HandedOut 0 (short n 7) ∷ []))

abbrev pub steal_answers : Tagged → Wide → List Answer
steal_answers κ v = Accepted ∷ GoesOn ∷ goes_on (waits κ v)

-- before each of its next n steps the thief isn't at its line 1
abbrev pub past : ℕ → World → Bool
past zero U = true
past (suc n) U = not (is_line_1 (line_at U.bench.workers 1)) and past n (raw_of U (step 1)).world

-- the last step of an operation, with room in the log or without
abbrev ending : World → ℕ → Line → Bool → Outcome
ending S i l b = when b then refuse S LogFull else stepped (room_alone S) S i (line_step (room_alone S) S.bench.kind (tag_bits S.bench) S.bench.words S.bench.queue S.store i l)

abbrev begun_or : World → Payload → Bool → Outcome
begun_or U p b = when b then begun U 0 (Put p) else refuse U NumbersSpent

-- calls from the world U lead to the world U' with these answers
abbrev pub Runs : World → List Call → World → List Answer → Type 0
Runs U cs U' said = (raw_after U cs ≡ U') × (raw_answers U cs ≡ said)

module _ (w n g wr : ℕ) (θ : Line) (x : ℕ) (rest lg : List ℕ) where
  abbrev Room : Wide → Type 0
  Room v = log_full (many v) lg wr ≡ false

  -- a put that takes number k, where a task stood that is gone
  abbrev PutRuns : Tagged → Wide → ℕ → ℕ → Type 0
  PutRuns κ v y k =
      Runs (here κ v w (anchor 0 0 g) n wr Idle θ (holding v x y rest) lg) (putting v)
      (here κ v w (anchor 0 1 ((g + 1) % 2 ^ w)) k (wr + entry_length (many v)) Idle θ (holding v k 7 rest) (write_entry v lg wr (entry 1 0 (short k 7))))
      (put_answers v k)

  abbrev put_end : Tagged → Wide → Bool → Outcome
  put_end κ v =
      ending (here κ v w (anchor 0 0 g) (n + 1) wr (PutFinish (short (n + 1) 7) (anchor 0 0 g)) θ (holding v (n + 1) 7 rest) lg) 0
      (PutFinish (short (n + 1) 7) (anchor 0 0 g))

  abbrev put_begun : Tagged → Wide → ℕ → Bool → Outcome
  put_begun κ v y = begun_or (here κ v w (anchor 0 0 g) n wr Idle θ (holding v x y rest) lg) (payload 7 0 0 0)

  abbrev put_says : Tagged → Wide → ℕ → Bool → List Answer
  put_says κ v y b = (put_begun κ v y b).answer ∷ raw_answers (put_begun κ v y b).world (own_steps v)

  abbrev put_ends : Tagged → Wide → Bool → List Answer
  put_ends κ v b = Numbered (n + 1) ∷ (goes_on (many v + 3) ++ ((put_end κ v b).answer ∷ []))

  abbrev put_leads : Tagged → Wide → ℕ → Bool → World
  put_leads κ v y b = raw_after (put_begun κ v y b).world (own_steps v)

  put_runs' : (κ : Tagged) (v : Wide) (y : ℕ) → ltb n 65535 ≡ true → Room v → PutRuns κ v y (n + 1)
  unfolding line_step landed_all word_at set_word offset_at length_at size_at gathered word_in with_word when◌then◌else◌ ◌and◌ ◌or◌
  put_runs' lifo one y u r = (ap (put_leads lifo one y) u ∙ ap (λ (b : Bool). (put_end lifo one b).world) r, ap (put_says lifo one y) u ∙ ap (put_ends lifo one) r)
  put_runs' lifo two y u r = (ap (put_leads lifo two y) u ∙ ap (λ (b : Bool). (put_end lifo two b).world) r, ap (put_says lifo two y) u ∙ ap (put_ends lifo two) r)
  put_runs' lifo three y u r = (ap (put_leads lifo three y) u ∙ ap (λ (b : Bool). (put_end lifo three b).world) r, ap (put_says lifo three y) u ∙ ap (put_ends lifo three) r)
  put_runs' lifo four y u r = (ap (put_leads lifo four y) u ∙ ap (λ (b : Bool). (put_end lifo four b).world) r, ap (put_says lifo four y) u ∙ ap (put_ends lifo four) r)
  put_runs' deque one y u r = (ap (put_leads deque one y) u ∙ ap (λ (b : Bool). (put_end deque one b).world) r, ap (put_says deque one y) u ∙ ap (put_ends deque one) r)
  put_runs' deque two y u r = (ap (put_leads deque two y) u ∙ ap (λ (b : Bool). (put_end deque two b).world) r, ap (put_says deque two y) u ∙ ap (put_ends deque two) r)
  put_runs' deque three y u r = (ap (put_leads deque three y) u ∙ ap (λ (b : Bool). (put_end deque three b).world) r, ap (put_says deque three y) u ∙ ap (put_ends deque three) r)
  put_runs' deque four y u r = (ap (put_leads deque four y) u ∙ ap (λ (b : Bool). (put_end deque four b).world) r, ap (put_says deque four y) u ∙ ap (put_ends deque four) r)

  pub put_runs : (κ : Tagged) (v : Wide) (y : ℕ) → ltb n 65535 ≡ true → Room v → PutRuns κ v y (suc n)
  put_runs κ v y u r = subst (PutRuns κ v y) (add-one n) (put_runs' κ v y u r)

  -- a take of task x
  abbrev full : Tagged → Wide → Line → Line → World
  full κ v o θ = here κ v w (anchor 0 1 g) n wr o θ (holding v x 7 rest) lg

  abbrev take_end : Tagged → Wide → Bool → Outcome
  take_end κ v = ending (full κ v (TakeFinish (anchor 0 1 g) (short x 7)) θ) 0 (TakeFinish (anchor 0 1 g) (short x 7))

  abbrev take_ends : Tagged → Wide → Bool → List Answer
  take_ends κ v b = Accepted ∷ (goes_on (many v + 3) ++ ((take_end κ v b).answer ∷ []))

  pub take_runs : (κ : Tagged) (v : Wide) → Room v
      → Runs (full κ v Idle θ) (taking v)
      (here κ v w (anchor 0 0 g) n (wr + entry_length (many v)) Idle θ (holding v x 7 rest) (write_entry v lg wr (entry 2 0 (short x 7))))
      (take_answers v x)
  unfolding line_step landed_all word_at set_word offset_at length_at size_at gathered word_in with_word when◌then◌else◌ ◌and◌ ◌or◌
  take_runs lifo one r = (ap (λ (b : Bool). (take_end lifo one b).world) r, ap (take_ends lifo one) r)
  take_runs lifo two r = (ap (λ (b : Bool). (take_end lifo two b).world) r, ap (take_ends lifo two) r)
  take_runs lifo three r = (ap (λ (b : Bool). (take_end lifo three b).world) r, ap (take_ends lifo three) r)
  take_runs lifo four r = (ap (λ (b : Bool). (take_end lifo four b).world) r, ap (take_ends lifo four) r)
  take_runs deque one r = (ap (λ (b : Bool). (take_end deque one b).world) r, ap (take_ends deque one) r)
  take_runs deque two r = (ap (λ (b : Bool). (take_end deque two b).world) r, ap (take_ends deque two) r)
  take_runs deque three r = (ap (λ (b : Bool). (take_end deque three b).world) r, ap (take_ends deque three) r)
  take_runs deque four r = (ap (λ (b : Bool). (take_end deque four b).world) r, ap (take_ends deque four) r)

  -- the thief's lines before its compare; none of them but the first is a line 1
  pub steal_runs : (κ : Tagged) (v : Wide) → Runs (full κ v Idle Idle) (stealing κ v) (full κ v Idle (StealCompare (anchor 0 1 g) (h2 κ) (short x 7))) (steal_answers κ v)
  unfolding line_step landed_all word_at set_word offset_at length_at size_at gathered word_in with_word when◌then◌else◌ ◌and◌ ◌or◌
  steal_runs lifo one = (refl, refl)
  steal_runs lifo two = (refl, refl)
  steal_runs lifo three = (refl, refl)
  steal_runs lifo four = (refl, refl)
  steal_runs deque one = (refl, refl)
  steal_runs deque two = (refl, refl)
  steal_runs deque three = (refl, refl)
  steal_runs deque four = (refl, refl)

  pub steal_past : (κ : Tagged) (v : Wide) → past (waits κ v) (raw_after (full κ v Idle Idle) (begin 1 Steal ∷ step 1 ∷ [])) ≡ true
  unfolding line_step landed_all word_at set_word offset_at length_at size_at gathered word_in with_word when◌then◌else◌ ◌and◌ ◌or◌
  steal_past lifo one = refl
  steal_past lifo two = refl
  steal_past lifo three = refl
  steal_past lifo four = refl
  steal_past deque one = refl
  steal_past deque two = refl
  steal_past deque three = refl
  steal_past deque four = refl

  -- the compare
  abbrev comparing : Tagged → Wide → ℕ → Task → World
  comparing κ v g' t = full κ v Idle (StealCompare (anchor 0 1 g') (h2 κ) t)

  abbrev found : Tagged → Wide → ℕ → Task → Effect
  found κ v g' t = eff (StoreOut (anchor (h2 κ) 0 g') ∷ []) Idle (HandedOut 1 t)

  abbrev compared : Tagged → Wide → ℕ → Task → Bool → Effect
  compared κ v g' t b = when b then found κ v g' t else goes StealRead

  -- what the step leaves, b if it finds the anchor as read
  abbrev won : Tagged → Wide → ℕ → Task → Bool → Outcome
  won κ v g' t b =
      let W = comparing κ v g' t in
      let E = compared κ v g' t b in
      let D = stepped (room_alone W) W 1 E in
      when no_room W E then refuse W LogFull
      else record {
        world =
            record {
              bench =
                  record {
                    kind = D.world.bench.kind;
                    width = D.world.bench.width;
                    words = D.world.bench.words;
                    delayed = D.world.bench.delayed;
                    crew = D.world.bench.crew;
                    queue = D.world.bench.queue;
                    waiting = D.world.bench.waiting;
                    aside = D.world.bench.aside;
                    used = D.world.bench.used;
                    restarts = when not b then raised W.bench.restarts 1 else W.bench.restarts;
                    written = D.world.bench.written;
                    workers = D.world.bench.workers;
                  };
              store = D.world.store;
              log = D.world.log;
            };
        answer = D.answer;
      }

  abbrev won_end : Tagged → Wide → ℕ → Task → Bool → Outcome
  won_end κ v g' t b =
      when b then refuse (comparing κ v g' t) LogFull
      else record { world = here κ v w (anchor (h2 κ) 0 g') n (wr + entry_length (many v)) Idle Idle (holding v x 7 rest) (write_entry v lg wr (entry 2 1 t)); answer = HandedOut 1 t }

  pub win_run : (κ : Tagged) (v : Wide) (g' : ℕ) (t : Task) → eqb g g' ≡ true → Room v
      → raw_of (full κ v Idle (StealCompare (anchor 0 1 g') (h2 κ) t)) (step 1)
      ≡ record { world = here κ v w (anchor (h2 κ) 0 g') n (wr + entry_length (many v)) Idle Idle (holding v x 7 rest) (write_entry v lg wr (entry 2 1 t)); answer = HandedOut 1 t }
  unfolding line_step landed_all when◌then◌else◌ ◌and◌ ◌or◌
  win_run lifo v g' t e r = ap (won lifo v g' t) e ∙ ap (won_end lifo v g' t) r
  win_run deque v g' t e r = ap (won deque v g' t) e ∙ ap (won_end deque v g' t) r

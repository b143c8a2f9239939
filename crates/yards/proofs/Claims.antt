-- What a queue of a yard has, as it has it alone.
use Rattle.std.specs.Prelude.{Ok}
use mathlib.Core.Path.{◌≡◌, sym, ◌∙◌, ap, subst}
use mathlib.Core.Bool.{true, false}
use mathlib.Core.Logic.{◌≢◌}
use mathlib.Core.List.{List}
use Prim.Native.Nat.{ℕ, ◌<◌}
use borrow.Author.Tests.{lt-ltb}
use Rattle.model.specs.declared.Kind.TheVariants.{Fifo}
use Rattle.model.specs.declared.Growth.TheVariants.{ForCommit}
use Rattle.model.specs.declared.Line.TheVariants.{Claim}
use Rattle.model.specs.declared.Refusal.{Refusal}
use Rattle.model.specs.declared.Refusal.TheVariants.{ForeignState}
use Rattle.model.specs.declared.Answer.TheVariants.{GoesOn, Refused}
use Rattle.model.specs.Answers.{number_of}
use Rattle.model.specs.World.{World, tag_bits}
use Rattle.model.specs.Calls.{who_in}
use Rattle.model.specs.Run.{Played}
use Rattle.model.specs.Counts.{counts_of}
use Rattle.model.specs.Yard.{Ground, world_of, room_of, make_of, who_at, Yields, YardCall, make, on, yields, ground_after}
use Rattle.model.proofs.Tests.{if_true}
use Rattle.theorems.specs.Demand3.{At, Does, puts, FewPutsIn, Sound}
use Rattle.theorems.specs.AsBefore.{Undelayed}
use Rattle.theorems.specs.Growth.{GrowthKeeps}
use Rattle.theorems.specs.Corollaries.{landed}
use Rattle.theorems.specs.Restarts.{beaten, up_to}
use Rattle.theorems.proofs.NothingLost.{sound_in}
use Rattle.theorems.proofs.NeverForeign.{not_foreign}
use Rattle.theorems.proofs.Company.{played_in, of_company}
use Rattle.theorems.proofs.Translate.{at_map}
use Rattle.theorems.proofs.SameWindows.{KeepsIn, growth_in}
use Rattle.theorems.proofs.AsBefore.{as_before}
use Rattle.theorems.proofs.SamePuts.{same_puts_in}
use Rattle.theorems.proofs.CommitsGrow.{commits_grow_in}
use Rattle.theorems.proofs.WhoCounts.{who_in_lem}
use Rattle.order.specs.Order.{InOrder, LogInOrder, log_front, entries}
use Rattle.order.proofs.LogFront.{log_in}
use Rattle.order.proofs.FifoOrder.{fifo_in, fifo_log_in}
use Rattle.order.proofs.NoneLost.{none_lost_in}
use Rattle.accepted.specs.Bytes.{JudgedAs}
use Rattle.accepted.proofs.RunsJudged.{judged_in}
use Rattle.premise.proofs.LinkedKinds.{linked_in}
use Rattle.premise.proofs.WidestTag.{widest_in}
use Rattle.yards.specs.Yards.{opened, NothingLostInYards, LinkedInYards, WidestTagInYards, LogIsAnswersInYards, FifoInOrderInYards, NoneLostInYards, RunsJudgedInYards, WhoCountsInYards, CommitsGrowInYards, KeepsWindowIn, GrowthMovesNothingInYards, NothingDelayedInYards, SamePutsInYards, NoYardForeign, NoneOverlap}
use Rattle.yards.proofs.Grounds.{Tended, sound, sound_for_lem, make_cases, on_cases, tended_after, opened_tended}
use Rattle.yards.proofs.Parts.{refused_not, made_well, made_after, projected, in_yards}

pub nothing_lost_in_yards : NothingLostInYards
nothing_lost_in_yards =
    in_yards (λ (U : World) (T : List Played) (X : World). FewPutsIn U.bench.kind (tag_bits U.bench) T → Sound T X) (λ U S ts C. sound_in ts U S C)

pub linked_in_yards : LinkedInYards
linked_in_yards = in_yards (λ (U : World) (T : List Played) (X : World). U.bench.queue.linked ≡ true → Sound T X) (λ U S ts C e. linked_in ts U S e C)

pub widest_tag_in_yards : WidestTagInYards
widest_tag_in_yards = in_yards (λ (U : World) (T : List Played) (X : World). U.bench.width ≡ 16 → Sound T X) (λ U S ts C e. widest_in ts U S e C)

pub log_is_answers_in_yards : LogIsAnswersInYards
log_is_answers_in_yards = in_yards (λ (U : World) (T : List Played) (X : World). log_front X ≡ entries U.bench.words T) (λ U S ts C. log_in ts U S)

pub fifo_in_order_in_yards : FifoInOrderInYards
fifo_in_order_in_yards =
    in_yards (λ (U : World) (T : List Played) (X : World). U.bench.kind ≡ Fifo → InOrder T × LogInOrder U.bench.words (log_front X))
    (λ U S ts C e. (fifo_in ts U S e C, fifo_log_in ts U S e C))

pub none_lost_in_yards : NoneLostInYards
none_lost_in_yards =
    in_yards (λ (U : World) (T : List Played) (X : World). FewPutsIn U.bench.kind (tag_bits U.bench) T → (counts_of X).lost ≡ 0) (λ U S ts C f. none_lost_in ts U S C f)

pub runs_judged_in_yards : RunsJudgedInYards
runs_judged_in_yards =
    in_yards (λ (U : World) (T : List Played) (X : World). FewPutsIn U.bench.kind (tag_bits U.bench) T → JudgedAs U.bench.words X) (λ U S ts C f. judged_in ts U S C f)

pub commits_grow_in_yards : CommitsGrowInYards
commits_grow_in_yards =
    in_yards (λ (U : World) (T : List Played) (X : World). (j i : ℕ) → At T j (Does i (Claim ForCommit)) → At T j (λ s. s.answer ≡ GoesOn)) (λ U S ts C. commits_grow_in ts U S.whole C)

keeps : (s : Played) → KeepsIn s → KeepsWindowIn s
keeps s k ρ W a = k ρ (record { free = record { behind = W.behind; inside = W.inside }; aside = a })

pub growth_moves_nothing_in_yards : GrowthMovesNothingInYards
growth_moves_nothing_in_yards =
    in_yards (λ (U : World) (T : List Played) (X : World). GrowthKeeps KeepsWindowIn T)
    (λ U S ts C.
    let T = played_in U ts in
    let G = growth_in ts U S C in
    record {
      x1 = λ j i g a. at_map T j KeepsIn KeepsWindowIn keeps (G.x1 j i g a);
      x2 = λ j i g a. at_map T j KeepsIn KeepsWindowIn keeps (G.x2 j i g a);
      x3 = λ j i g h n k a. at_map T j KeepsIn KeepsWindowIn keeps (G.x3 j i g h n k a);
      x4 = λ j i g a. at_map T j KeepsIn KeepsWindowIn keeps (G.x4 j i g a);
    })

pub nothing_delayed_in_yards : NothingDelayedInYards
nothing_delayed_in_yards =
    in_yards (λ (U : World) (T : List Played) (X : World). U.bench.delayed ≡ false → Undelayed T X) (λ U S ts C e. as_before ts U S.whole C e)

pub same_puts_in_yards : SamePutsInYards
same_puts_in_yards = in_yards (λ (U : World) (T : List Played) (X : World). puts T ≡ landed T) (λ U S ts C. same_puts_in ts U S C)

-- who: its own tests, then the queue's answer
who_is : {G : Ground} → Tended G → (q i : ℕ) → q < G.yard.made → who_at G q i ≡ who_in (world_of G q) i
unfolding who_at
who_is {G} T q i h = if_true _ (sound_for_lem G T q) ∙ if_true _ (lt-ltb q G.yard.made h)

pub who_counts_in_yards : WhoCountsInYards
who_counts_in_yards m before s quota l e cs k h =
    let G = ground_after (opened m) before in
    let M = (made_well G (tended_after before (opened m) (opened_tended m)) s quota l e).0 in
    let H = (make_of G s quota l).the_ground in
    let q = G.yard.made in
    who_is (tended_after cs H M.tended) q k (made_after cs H M.tended q M.inside)
    ∙ of_company (λ (T : List Played) (X : World). who_in X k ≡ Ok (up_to (beaten k T))) (projected cs H M.tended q M.inside)
    (λ ts C. who_in_lem ts (world_of H q) M.started k (subst (λ (U : World). k < U.bench.crew) (sym M.world) h))

-- no refusal 12
twelve : (r : Refusal) → number_of r ≢ 12 → Refused r ≡ Refused ForeignState → ⊥
twelve r ne e = let z : r ≡ ForeignState = cc in ne (ap number_of z)

never : {G : Ground} → Tended G → (c : YardCall) → (yields G c).answer ≡ Refused ForeignState → ⊥
never {G} T (make s quota l) = make_cases (λ (Y : Yields). Y.answer ≡ Refused ForeignState → ⊥) T twelve s quota l (λ M e. refused_not ForeignState (sym e))
never {G} T (on q c) = on_cases (λ (Y : Yields). Y.answer ≡ Refused ForeignState → ⊥) T twelve q c (λ h. not_foreign (room_of G q) (world_of G q) c)

pub no_yard_foreign : NoYardForeign
no_yard_foreign m cs = let T = tended_after cs (opened m) (opened_tended m) in (sound _ T, never T)

pub none_overlap : NoneOverlap
none_overlap m cs = (tended_after cs (opened m) (opened_tended m)).apart

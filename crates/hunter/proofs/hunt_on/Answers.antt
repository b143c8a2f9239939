use mathlib.Core.Path.{◌∙◌, ap}
use Prim.Native.Nat.{ℕ}
use lib.ListN.{drop}
use Rattle.orders.specs.Hunt.{operations}
use Rattle.hunter.specs.Hunter.{steals}
use Rattle.hunter.proofs.Starting.{barred_is, sized, strangers_is, many_is, large_is, good_start, fits_start, none_start, hands_start, made_is}
use Rattle.hunter.proofs.hunt_on.Goals as goal

pub returns-in-Err : goal.returns-in-Err
returns-in-Err c = let A = c.args in
    c.refused.ensures ∙ barred_is A.kind A.width A.size A.crew A.words A.long A.puts.now A.each A.budget A.store.now A.log.now c.requires.store_value c.requires.log_value c.usable-left.result c.usable-left.ensures c.admission_stop-stop.result c.admission_stop-stop.ensures c.in-Err.why c.in-Err.is

pub returns-then-outside-ne0 : goal.returns-then-outside-ne0
returns-then-outside-ne0 c = let A = c.args in
    let x_is = c.steals_from-outside.ensures.0 ∙ ap (λ (j : ℕ). operations (drop j (steals A.each))) c.saturating_sub-behind.ensures in
    c.refused-then-outside-ne0.ensures ∙ strangers_is A.kind A.width A.size A.crew A.words A.long A.puts.now A.each A.budget A.store.now A.log.now c.requires.store_value c.requires.log_value c.usable-left.result c.usable-left.ensures c.admission_stop-stop.result c.admission_stop-stop.ensures c.in_default.is c.steals_from-outside.result x_is c.if-outside-ne0.true

pub returns-then-too_many : goal.returns-then-too_many
returns-then-too_many c = let A = c.args in
    let x_is = c.steals_from-outside.ensures.0 ∙ ap (λ (j : ℕ). operations (drop j (steals A.each))) c.saturating_sub-behind.ensures in
    c.refused-then-too_many.ensures ∙ many_is A.kind A.width A.size A.crew A.words A.long A.puts.now A.each A.budget A.store.now A.log.now c.requires.store_value c.requires.log_value c.usable-left.result c.usable-left.ensures c.admission_stop-stop.result c.admission_stop-stop.ensures c.in_default.is c.steals_from-outside.result x_is c.if-outside-ne0.false c.steals_from-stolen.result c.steals_from-stolen.ensures.0 c.too_many.result c.too_many.ensures c.if-too_many.true

pub returns-then-budget-gt1000000 : goal.returns-then-budget-gt1000000
returns-then-budget-gt1000000 c = let A = c.args in
    let x_is = c.steals_from-outside.ensures.0 ∙ ap (λ (j : ℕ). operations (drop j (steals A.each))) c.saturating_sub-behind.ensures in
    c.refused-then-budget-gt1000000.ensures ∙ large_is A.kind A.width A.size A.crew A.words A.long A.puts.now A.each A.budget A.store.now A.log.now c.requires.store_value c.requires.log_value c.usable-left.result c.usable-left.ensures c.admission_stop-stop.result c.admission_stop-stop.ensures c.in_default.is c.steals_from-outside.result x_is c.if-outside-ne0.false c.steals_from-stolen.result c.steals_from-stolen.ensures.0 c.too_many.result c.too_many.ensures c.if-too_many.false c.if-budget-gt1000000.true

pub new_bench-bench-requires : goal.new_bench-bench-requires
new_bench-bench-requires c = let A = c.args in
    sized A.kind A.width A.size A.crew A.words A.long A.puts.now A.each A.budget A.store.now A.log.now c.requires.store_value c.requires.log_value c.usable-left.result c.usable-left.ensures c.admission_stop-stop.result c.admission_stop-stop.ensures c.in_default.is

pub walk-requires : goal.walk-requires
walk-requires c = let A = c.args in
    let x_is = c.steals_from-outside.ensures.0 ∙ ap (λ (j : ℕ). operations (drop j (steals A.each))) c.saturating_sub-behind.ensures in record { good = good_start A.kind A.width A.size A.crew A.words A.long A.puts.now A.each A.budget A.store.now A.log.now c.requires.store_value c.requires.log_value c.usable-left.result c.usable-left.ensures c.admission_stop-stop.result c.admission_stop-stop.ensures c.in_default.is c.steals_from-outside.result x_is c.if-outside-ne0.false c.steals_from-stolen.result c.steals_from-stolen.ensures.0 c.too_many.result c.too_many.ensures c.if-too_many.false c.if-budget-gt1000000.false c.new_bench-bench.result c.new_bench-bench.ensures c.counted-all.result c.counted-all.ensures; fits = fits_start A.kind A.width A.size A.crew A.words A.long A.puts.now A.each A.budget A.store.now A.log.now c.requires.store_value c.requires.log_value c.usable-left.result c.usable-left.ensures c.admission_stop-stop.result c.admission_stop-stop.ensures c.in_default.is c.steals_from-outside.result x_is c.if-outside-ne0.false c.steals_from-stolen.result c.steals_from-stolen.ensures.0 c.too_many.result c.too_many.ensures c.if-too_many.false c.if-budget-gt1000000.false c.new_bench-bench.result c.new_bench-bench.ensures c.counted-all.result c.counted-all.ensures; all_value = none_start A.kind A.width A.size A.crew A.words A.long A.puts.now A.each A.budget A.store.now A.log.now c.requires.store_value c.requires.log_value c.usable-left.result c.usable-left.ensures c.admission_stop-stop.result c.admission_stop-stop.ensures c.in_default.is c.steals_from-outside.result x_is c.if-outside-ne0.false c.steals_from-stolen.result c.steals_from-stolen.ensures.0 c.too_many.result c.too_many.ensures c.if-too_many.false c.if-budget-gt1000000.false c.new_bench-bench.result c.new_bench-bench.ensures c.counted-all.result c.counted-all.ensures; hands_value = hands_start A.kind A.width A.size A.crew A.words A.long A.puts.now A.each A.budget A.store.now A.log.now c.requires.store_value c.requires.log_value c.usable-left.result c.usable-left.ensures c.admission_stop-stop.result c.admission_stop-stop.ensures c.in_default.is c.steals_from-outside.result x_is c.if-outside-ne0.false c.steals_from-stolen.result c.steals_from-stolen.ensures.0 c.too_many.result c.too_many.ensures c.if-too_many.false c.if-budget-gt1000000.false c.new_bench-bench.result c.new_bench-bench.ensures c.counted-all.result c.counted-all.ensures c.takes-taken.result c.takes-taken.ensures.0 }

pub returns : goal.returns
returns c = let A = c.args in
    let x_is = c.steals_from-outside.ensures.0 ∙ ap (λ (j : ℕ). operations (drop j (steals A.each))) c.saturating_sub-behind.ensures in
    c.walk.ensures ∙ made_is A.kind A.width A.size A.crew A.words A.long A.puts.now A.each A.budget A.store.now A.log.now c.requires.store_value c.requires.log_value c.usable-left.result c.usable-left.ensures c.admission_stop-stop.result c.admission_stop-stop.ensures c.in_default.is c.steals_from-outside.result x_is c.if-outside-ne0.false c.steals_from-stolen.result c.steals_from-stolen.ensures.0 c.too_many.result c.too_many.ensures c.if-too_many.false c.if-budget-gt1000000.false c.new_bench-bench.result c.new_bench-bench.ensures c.counted-all.result c.counted-all.ensures

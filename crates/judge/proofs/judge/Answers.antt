use Rattle.judge.proofs.judge.Goals as goal
use Rattle.judge.proofs.judge.Goals.{then-log-long-ne0-via-then-log-long-ne0, then-log-long-ne0-via-else-log-long-ne0+then-list-ne0}
use Rattle.std.proofs.Common.{rules, ◌≤◌, ◌<◌, ◌⊎◌}
use mathlib.Core.Logic.{⊎_elim}
use mathlib.Core.Path.{◌∙◌}
use Rattle.judge.proofs.Lengths.{too_few, too_many, long_log, long_list, odd_log, odd_list, even}

pub returns-then-not-contains : goal.returns-then-not-contains
returns-then-not-contains c =
    let w : (c.args.words < 1) ⊎ (4 < c.args.words) = search rules in
    ⊎_elim (λ h. too_few c.args.words c.args.log.now c.args.list.now h) (λ h. too_many c.args.words c.args.log.now c.args.list.now h) w

pub returns-then-log-gt-LONGEST : goal.returns-then-log-gt-LONGEST
returns-then-log-gt-LONGEST c =
    let w : (1 ≤ c.args.words) × (c.args.words ≤ 4) = search rules in
    ⊎_elim (λ h. long_log c.args.words c.args.log.now c.args.list.now w.0 w.1 h) (λ h. long_list c.args.words c.args.log.now c.args.list.now w.0 w.1 h.1) c.then-log-gt-LONGEST.either

pub returns-then-log-long-ne0 : goal.returns-then-log-long-ne0
returns-then-log-long-ne0 c =
    let w : (1 ≤ c.args.words) × (c.args.words ≤ 4) = search rules in
    let a = c.if-log-gt-LONGEST.false in let b = c.if-list-gt-LONGEST.false in
    elim c.then-log-long-ne0.branch [
      | then-log-long-ne0-via-then-log-long-ne0 x ↦ odd_log c.args.words c.args.log.now c.args.list.now w.0 w.1 a b x.if-log-long-ne0.true
      | then-log-long-ne0-via-else-log-long-ne0+then-list-ne0 x ↦ odd_list c.args.words c.args.log.now c.args.list.now w.0 w.1 a b x.if-list-ne0.true
    ]

pub returns : goal.returns
returns c =
    let w : (1 ≤ c.args.words) × (c.args.words ≤ 4) = search rules in
    let a = c.if-log-gt-LONGEST.false in let b = c.if-list-gt-LONGEST.false in
    c.judge_entries.ensures ∙ even c.args.words c.args.log.now c.args.list.now w.0 w.1 a b c.if-log-long-ne0.false c.if-list-ne0.false

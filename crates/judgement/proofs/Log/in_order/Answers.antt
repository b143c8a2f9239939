use Rattle.std.proofs.Common.{◌≡◌, ◌+◌, ◌<◌, ℕ, get_or}
use Rattle.model.specs.Counts.{entry_at}
use Rattle.judgement.specs.Judgement.{words_of}
use Rattle.judgement.specs.Kinds.{number_of}
use Rattle.judgement.proofs.Log.in_order.Goals as goal
use Rattle.judgement.proofs.Log.in_order.Goals.{then-is_numbered+else-number-floor, else-is_numbered}
use mathlib.Core.Path.{sym, ap, subst, ◌∙◌}
use native.Mathlib.Omega.{arith}
use Rattle.judgement.proofs.Order.{Floor, floor_start, floor_skip, floor_next, kind_known, unknown, numbered_is, not_known, not_rising, in_order_whole}

pub loop-j-init : goal.loop-j-init
loop-j-init c = let s = c.args.self.now in floor_start s.words (words_of s.bytes.now)

pub returns-in_default : goal.returns-in_default
returns-in_default c =
    let s = c.args.self.now in let l = words_of s.bytes.now in let j = c.loop-j.j in
    let e : c.word_of.result ≡ (entry_at s.words l j).kind = c.word_of.ensures ∙ ap (λ n. get_or l n 0) (omega arith) in
    not_known s.words l s.entries j c.loop-j-test.true (unknown s.words l j _ e c.in_default.ensures.1)

pub returns-then-number-floor : goal.returns-then-number-floor
returns-then-number-floor c =
    let s = c.args.self.now in let l = words_of s.bytes.now in let j = c.loop-j.j in
    let e : number_of c.in-Ok.kind ≡ (entry_at s.words l j).kind = c.in-Ok.ensures ∙ c.word_of.ensures ∙ ap (λ n. get_or l n 0) (omega arith) in
    let n : c.from-number.result ≡ (entry_at s.words l j).task.number = c.from-number.ensures ∙ c.number_at.ensures in
    not_rising s.words l j _ c.loop-j.invariant s.entries c.loop-j-test.true (numbered_is s.words l j _ e c.if-is_numbered.ensures) (subst (λ (x : ℕ). x < c.loop-j.floor) n c.if-number-floor.true)

pub loop-j-preserved : goal.loop-j-preserved
loop-j-preserved c =
    let s = c.args.self.now in let l = words_of s.bytes.now in let j = c.loop-j.j in
    let e : number_of c.in-Ok.kind ≡ (entry_at s.words l j).kind = c.in-Ok.ensures ∙ c.word_of.ensures ∙ ap (λ n. get_or l n 0) (omega arith) in
    let k = kind_known s.words l j c.in-Ok.kind e in
    elim c.if-is_numbered.branch [
      | then-is_numbered+else-number-floor w ↦
          (let n : w.from-number.result ≡ (entry_at s.words l j).task.number = w.from-number.ensures ∙ w.number_at.ensures in
          let t = w.if-number-floor.false in
          subst (λ (x : ℕ). Floor s.words l (j + 1) x) (ap (λ (x : ℕ). x + 1) (sym n) ∙ sym w.floor-is) (floor_next s.words l j _ c.loop-j.invariant k (numbered_is s.words l j _ e w.if-is_numbered.ensures) (omega (arith, n, t))))
      | else-is_numbered w ↦
          subst (λ (x : ℕ). Floor s.words l (j + 1) x) (sym w.floor-is) (floor_skip s.words l j _ c.loop-j.invariant k (numbered_is s.words l j _ e w.if-is_numbered.ensures))
    ]

pub returns : goal.returns
returns c = let s = c.args.self.now in in_order_whole s.words (words_of s.bytes.now) s.entries _ _ c.loop-j.invariant (omega arith) (omega arith)

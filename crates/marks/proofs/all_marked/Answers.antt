use Rattle.std.proofs.Common.{rules, ◌≡◌, ◌↔◌, true, false, IsTrue, EachIndex, get_or}
use Rattle.marks.proofs.all_marked.Goals as goal
use Rattle.marks.proofs.Listed.{all_marked_by}

pub returns : goal.returns
returns c = all_marked_by c.args.seen.now c.all.result (let e : IsTrue c.all.result ↔ EachIndex c.args.seen.now (λ k. get_or c.args.seen.now k false ≡ true) = search rules in e)

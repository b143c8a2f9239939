use mathlib.Core.Logic.{⊎_elim}
use mathlib.Core.Path.{refl}
use Rattle.model.specs.Tests.{◌or◌}
use Rattle.judgement.proofs.kind.EntryKind.is_numbered.Goals as goal

pub returns-in-Finished : goal.returns-in-Finished
unfolding ◌or◌
returns-in-Finished c = ⊎_elim (λ e. rw e refl) (λ e. rw e refl) c.in-Finished.is

pub returns-in-HandOut : goal.returns-in-HandOut
unfolding ◌or◌
returns-in-HandOut c = ⊎_elim (λ e. rw e refl) (λ f. ⊎_elim (λ e. rw e refl) (λ e. rw e refl) f) c.in-HandOut.is

use mathlib.Core.Path.{refl, ◌∙◌}
use Rattle.limits.proofs.Taken.{first_fits, words_are, last_short}
use Rattle.limits.proofs.words_taken.Goals as goal

pub all_words-requires : goal.all_words-requires
all_words-requires c = record { length_bound = last_short c.args.queue c.requires refl c.region_at-last.ensures; length_bound_2 = first_fits c.args.queue c.requires refl c.region_at-last.ensures }

pub returns : goal.returns
returns c = c.all_words.ensures ∙ words_are c.args.queue c.requires refl c.region_at-last.ensures

-- Document 01's run P1 as text: from the bytes of its lines, computed to the bytes of its listing. Lines out of place, a damaged one
-- and one after `end` are added.
use mathlib.Core.Path.{◌≡◌, refl}
use Rattle.model.specs.Tests.{when◌then◌else◌, ◌and◌, ◌or◌}
use Rattle.model.specs.Memory.{zeros, word_at, set_word, offset_at, length_at, size_at, words_to}
use Rattle.model.specs.Tasks.{word_in, with_word, gathered}
use Rattle.model.specs.Stores.{landed_all}
use Rattle.model.specs.Lines.{line_step}
use Rattle.model.specs.Limits.{valid_of}
use Rattle.model.specs.Calls.{fresh_of, begin_of, step_of, who_of}
use Rattle.model.specs.Counts.{some_below, count_below, sum_below, counts_of}
use Rattle.model.specs.Listing.{steps_of, respond, listing_from}
use Rattle.text.specs.Quoted.{bytes}
use Rattle.text.specs.Same.{same}
use Rattle.text.specs.Numbers.{all_digits, plain, onward, value_of, spelled, decimal_of, spaced_of, line_of}
use Rattle.text.specs.Words.{onto, words, lines, head, tail}
use Rattle.text.specs.Commands.{key_of, joined, values, formed, formed_of, command_of}
use Rattle.replies.specs.Shown.{shown, shown_all}
use Rattle.listing.specs.Listing.{listing_of, whole_listing}

run : whole_listing (bytes "put 65\nqueue 1 1 2 2 12\nput 65\nstep 0 5\nsteal 1\nstep 1 5\ntake\nqueue 1 1 2 2 12\nstep 0 7\nput 66\nstep 00 5\nstep 0 5\ntake\nstep 0 5\nput 67\nstep 0 5\nstep 1 1\nend\ntake") ≡ bytes "R 13\nD 1\nR 13\nH 0 1 65\nR 8\nR 13\nD 2\nH 0 2 66\nD 3\nH 1 1 65\nT 3 3 2 0 0 1\n"
unfolding
    when◌then◌else◌ ◌and◌ ◌or◌ zeros word_at set_word offset_at length_at size_at words_to word_in with_word gathered line_step landed_all valid_of fresh_of begin_of step_of some_below count_below sum_below counts_of steps_of respond
    listing_from same all_digits plain onward value_of spelled decimal_of spaced_of line_of onto words lines head tail key_of joined values formed formed_of
    command_of shown shown_all listing_of
run = refl

-- a run of three payload words: another count of words is no line of the form
wide : whole_listing (bytes "queue 3 1 1 2 4 5\nqueue 3 1 1 2 4 3\nput 1 2\nput 1 2 3 4\nput 7 8 9\nstep 0 7\nsteal 1\nstep 1 9\nend\n") ≡ bytes "R 16\nR 13\nR 13\nD 1\nH 1 1 7 8 9\nT 1 1 1 0 0 0\n"
unfolding
    when◌then◌else◌ ◌and◌ ◌or◌ zeros word_at set_word offset_at length_at size_at words_to word_in with_word gathered line_step landed_all valid_of fresh_of begin_of step_of some_below count_below sum_below
    counts_of steps_of respond listing_from same all_digits plain onward value_of spelled decimal_of spaced_of line_of onto words lines head tail key_of joined
    values formed formed_of command_of shown shown_all listing_of
wide = refl

-- thief 2 is beaten; `who` before a queue, of each worker, of none, and in other forms
who : whole_listing (bytes "who 0\nqueue 1 2 2 3 4\nput 7\nstep 0 5\nsteal 1\nsteal 2\nstep 1 5\nstep 2 5\nstep 1 1\nstep 2 1\nwho 0\nwho 1\nwho 2\nwho 3\nwho\nwho 1 1\nwho 01\nend\n") ≡ bytes "R 13\nD 1\nH 1 1 7\nW 0 0\nW 1 0\nW 2 1\nR 6\nR 13\nR 13\nR 13\nT 1 1 1 1 0 0\n"
unfolding
    when◌then◌else◌ ◌and◌ ◌or◌ zeros word_at set_word offset_at length_at size_at words_to word_in with_word gathered line_step landed_all valid_of fresh_of begin_of step_of who_of some_below count_below sum_below
    counts_of steps_of respond listing_from same all_digits plain onward value_of spelled decimal_of spaced_of line_of onto words lines head tail key_of joined
    values formed formed_of command_of shown shown_all listing_of
who = refl

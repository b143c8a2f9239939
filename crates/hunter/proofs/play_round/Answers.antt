use Rattle.std.proofs.Common.{rules, ◌≡◌, None}
use mathlib.Core.Path.{refl, sym, ◌∙◌, subst}
use Rattle.orders.proofs.NoneRefused.{Good}
use Rattle.hunter.proofs.Starting.{zeros_all}
use Rattle.hunter.proofs.Rounding.{zeroed, same_played, same_complete, round_cut, round_out}
use Rattle.hunter.proofs.play_round.Goals as goal

pub play-requires : goal.play-requires
play-requires c = let A = c.args in
    let same = zeroed A.fresh _ _ A.store.now A.log.now A.puts.now A.all (c.zero.ensures ∙ zeros_all _ _ refl) (c.zero-2.ensures ∙ zeros_all _ _ refl) in record { good = subst Good (sym same) c.requires.good; fits = c.requires.fits; complete = same_complete _ _ _ (sym same) c.requires.complete; given_bound = c.requires.given_bound; order_len = c.requires.order_len; others_len = c.requires.others_len }

pub returns-in_err-played : goal.returns-in_err-played
returns-in_err-played c = let A = c.args in
    let same = zeroed A.fresh _ _ A.store.now A.log.now A.puts.now A.all (c.zero.ensures ∙ zeros_all _ _ refl) (c.zero-2.ensures ∙ zeros_all _ _ refl) in
    let stops : c.play.result ≡ None = search rules in
    let gives : c.from_residual.result ≡ None = search rules in
    rw gives (round_cut (same_played same c.play.ensures) _ c.requires.seen_len stops)

pub returns : goal.returns
returns c = let A = c.args in
    let same = zeroed A.fresh _ _ A.store.now A.log.now A.puts.now A.all (c.zero.ensures ∙ zeros_all _ _ refl) (c.zero-2.ensures ∙ zeros_all _ _ refl) in
    round_out (same_played same c.play.ensures) _ c.repeats_of-repeats.ensures.seen_len _ (search rules) c.repeats_of-repeats.result c.repeats_of-repeats.ensures.value

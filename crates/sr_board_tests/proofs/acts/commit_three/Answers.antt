use Rattle.std.proofs.Common.{refl, ap, sym, ◌∷◌, [], arith}
use Rattle.sr_board_tests.proofs.ActLemmas.{after_parts, touched_parts}
use Rattle.sr_board_tests.proofs.acts.commit_three.Goals as goal

pub commit-requires-clause-later : goal.commit-requires-clause-later
commit-requires-clause-later c = let clock = c.args.seat.now.clock_is in let latest = c.in-Some.ensures in let later = c.in-Some-latest.ensures in let last = c.in-Some-latest-2.ensures in
    after_parts c.args.seat.now.token.me.0 (c.args.three.now ∷ c.args.two.now ∷ c.args.one.now ∷ []) _ c.requires.hand.held (omega arith) (omega arith, (omega arith, (omega arith, tt)))

pub commit-requires-clause-touched : goal.commit-requires-clause-touched
commit-requires-clause-touched c = let one = c.args.one.now in let two = c.args.two.now in let three = c.args.three.now in let e = c.entry_of-entry.ensures in
    touched_parts c.args.seat.now.token.me.0 (three ∷ two ∷ one ∷ []) c.entry_of-entry.result 2 1 0 one two three c.requires.hand.held refl (sym (ap (λ x. x.first) e)) refl (sym (ap (λ x. x.second) e)) refl (sym (ap (λ x. x.third) e))

-- The first of the one class becomes the parent of the first of the other.
use Rattle.std.proofs.Common.{◌<◌, arith, sym, subst}
use Rattle.sr_classes.proofs.Parents.{joined-below, joined-above}
use Rattle.sr_classes.proofs.forest.join.Goals as goal

pub returns-then-a-b-clause-joined : goal.returns-then-a-b-clause-joined
returns-then-a-b-clause-joined c = λ of stands.
    let one = c.first_of-a.ensures.first of stands in
    let two = c.first_of-b.ensures.first of one.0 in
    joined-below of c.first_of-b.new.parents c.replace.new.self c.args.a c.args.b c.first_of-a.result c.first_of-b.result two.0 one.1 two.1
    (omega (arith, c.if-a-b.true)) c.first_of-b.ensures.within c.replace.ensures.others

pub returns-else-a-b-clause-joined : goal.returns-else-a-b-clause-joined
returns-else-a-b-clause-joined c = λ of stands.
    let one = c.first_of-a.ensures.first of stands in
    let two = c.first_of-b.ensures.first of one.0 in
    joined-above of c.first_of-b.new.parents c.replace-else-a-b.new.self c.args.a c.args.b c.first_of-b.result c.first_of-a.result two.0 one.1 two.1
    (omega (arith, c.if-a-b.false)) (subst (λ n. c.first_of-a.result < n) (sym c.first_of-b.ensures.length) c.first_of-a.ensures.within)
    c.replace-else-a-b.ensures.others

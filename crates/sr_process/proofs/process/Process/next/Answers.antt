use Rattle.std.proofs.Common.{[], ◌∙◌}
use Rattle.sr_process.proofs.Moves.{known_after, known_asks, stands_still}
use Rattle.sr_process.proofs.process.Process.next.Goals as goal

pub returns-in-Ok-clause-asks : goal.returns-in-Ok-clause-asks
returns-in-Ok-clause-asks c = known_after c.args.program.now c.find.new.self c.in-Ok.asks c.in-Ok.ensures.known ∙ c.in-Ok.ensures.same.same []

pub returns-in-Ok-clause-stands : goal.returns-in-Ok-clause-stands
returns-in-Ok-clause-stands c = λ start limit answers stands.
    stands_still c.args.program.now c.args.self.now c.find.new.self start limit answers c.in-Ok.ensures.same stands

pub returns-in-Ok-clause-meant : goal.returns-in-Ok-clause-meant
returns-in-Ok-clause-meant c = λ start limit answers stands.
    known_asks c.args.program.now c.find.new.self c.in-Ok.asks start limit answers c.in-Ok.ensures.known
    (stands_still c.args.program.now c.args.self.now c.find.new.self start limit answers c.in-Ok.ensures.same stands)

-- The component is one of those of each name of its spec, and the others stay.
use Rattle.std.proofs.Common.{sym, subst}
use Rattle.sr_names.specs.Declarers.{HoldsDeclarers}
use Rattle.sr_names.proofs.DeclaringLemmas.{holds-members}
use Rattle.sr_names.proofs.members.Members.insert.Goals as goal

pub invariant_of-self-2 : goal.invariant_of-self-2
invariant_of-self-2 c =
    subst (HoldsDeclarers c.add_all.new.self) (sym c.in_ok-insert.ensures.entries)
    (holds-members c.self.inside.declarers c.add_all.new.self c.self.inside.specs.entries c.args.component c.args.spec c.self.invariant c.add_all.ensures.kept c.in_ok-add_all.ensures.added)

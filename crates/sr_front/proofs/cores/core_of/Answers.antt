-- The core of a program that is accepted is well formed.
use Rattle.std.proofs.Common.{subst, sym}
use Rattle.sr_core.specs.WellFormed.{IsWellFormed}
use Rattle.sr_front.proofs.WellFormed.{accepted_formals, accepted_imports, accepted_invocations, accepted_sites, accepted_variables, accepted_well_formed}
use Rattle.sr_front.specs.Formals.{HasFormals}
use Rattle.sr_front.specs.Imports.{HasImports}
use Rattle.sr_front.specs.Invocations.{HasInvocations}
use Rattle.sr_front.specs.Reading.{contents_of}
use Rattle.sr_front.specs.Sites.{HasSites}
use Rattle.sr_front.specs.Variables.{HasVariables}
use Rattle.sr_front.proofs.cores.core_of.Goals as goal

pub returns-clause-well_formed : goal.returns-clause-well_formed
returns-clause-well_formed c =
    subst IsWellFormed (sym c.in_ok-written_out.ensures.core)
    (accepted_well_formed (contents_of c.args.files.now) c.in_ok-accepted.accepted c.in_ok-accepted.ensures.accepted)

pub returns-clause-sites : goal.returns-clause-sites
returns-clause-sites c =
    subst HasSites (sym c.in_ok-written_out.ensures.core)
    (accepted_sites (contents_of c.args.files.now) c.in_ok-accepted.accepted c.in_ok-accepted.ensures.accepted)

pub returns-clause-imports : goal.returns-clause-imports
returns-clause-imports c =
    subst HasImports (sym c.in_ok-written_out.ensures.core)
    (accepted_imports (contents_of c.args.files.now) c.in_ok-accepted.accepted c.in_ok-accepted.ensures.accepted)

pub returns-clause-formals : goal.returns-clause-formals
returns-clause-formals c =
    subst HasFormals (sym c.in_ok-written_out.ensures.core)
    (accepted_formals (contents_of c.args.files.now) c.in_ok-accepted.accepted c.in_ok-accepted.ensures.accepted)

pub returns-clause-invocations : goal.returns-clause-invocations
returns-clause-invocations c =
    subst HasInvocations (sym c.in_ok-written_out.ensures.core)
    (accepted_invocations (contents_of c.args.files.now) c.in_ok-accepted.accepted c.in_ok-accepted.ensures.accepted)

pub returns-clause-variables : goal.returns-clause-variables
returns-clause-variables c =
    subst HasVariables (sym c.in_ok-written_out.ensures.core)
    (accepted_variables (contents_of c.args.files.now) c.in_ok-accepted.accepted c.in_ok-accepted.ensures.accepted)

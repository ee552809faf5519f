-- The variables that stand for the formals of a service, and for what it returns, are own ones of the code that services.
use Rattle.std.specs.Prelude.{ℕ, Bool, ◌&&◌, List, Option, nat_lt, IsTrue}
use Rattle.std.specs.List.{list_all}
use Rattle.sr_core.specs.declared.component.Core.{Core}
use Rattle.sr_core.specs.declared.component.Proc.{Proc}
use Rattle.sr_core.specs.declared.formal.Formal.{Formal}
use Rattle.sr_core.specs.declared.formal.Returned.{Returned}
use Rattle.sr_core.specs.declared.site.Site.{Site}
use Rattle.sr_core.specs.Tests.{if_some}
use Rattle.sr_core.specs.Waiting.{all_code, block_waits}

-- a variable is one of so many own ones
abbrev pub is_own : ℕ → ℕ → Bool
is_own owns var = nat_lt var owns

abbrev pub formals_own : ℕ → List Formal → Option Returned → Bool
formals_own owns formals returned = list_all (λ formal. is_own owns formal.var) formals && if_some (λ name. is_own owns name.var) returned

abbrev pub arms_own : ℕ → Site → Bool
arms_own owns site = list_all (λ arm. formals_own owns arm.formals arm.returned) site.arms

-- in all code, the formals of each arm of the site of an `in`
abbrev pub all_arms_own : Core → Bool
all_arms_own core = all_code core (λ number component body. block_waits (λ site blocks other. arms_own body.owns site) core.sites body.block)

-- the formals of a proc are own variables of its own code
abbrev pub proc_own : Proc → Bool
proc_own proc = formals_own proc.body.owns proc.formals proc.returned

-- A core whose services have own variables for their formals.
pub record HasFormals (core : Core) : Type 0 where
  pub arms : IsTrue (all_arms_own core)
  pub procs : IsTrue (list_all proc_own core.procs)

-- Operations, and what services them: procs and the arms of `in` statements.
use Rattle.std.specs.List.{list_all}
use Rattle.std.specs.Prelude.{ℕ, suc, Bool, true, false, not, ◌&&◌, List, [], ◌∷◌, length, Option, Some, None, ◌==◌, nat_lt}
use Rattle.sr_core.specs.declared.component.Core.{Core}
use Rattle.sr_core.specs.declared.component.Operation.{Operation}
use Rattle.sr_core.specs.declared.component.Parameter.{Parameter}
use Rattle.sr_core.specs.declared.component.Proc.{Proc}
use Rattle.sr_core.specs.declared.formal.Formal.{Formal}
use Rattle.sr_core.specs.declared.formal.Mode.{Mode}
use Rattle.sr_core.specs.declared.formal.Mode.TheVariants.{Val, Var, Res}
use Rattle.sr_core.specs.declared.site.Arm.{Arm}
use Rattle.sr_core.specs.declared.statement.Scope.{Scope}
use Rattle.sr_core.specs.declared.statement.Scope.TheVariants.{Own as own_scope, Shared as shared_scope}
use Rattle.sr_core.specs.EffectFree.{is_effect_free}
use Rattle.sr_core.specs.Tests.{with_operation, same_there, if_some, is_there}

abbrev pub mode_eq : Mode → Mode → Bool
mode_eq Val Val = true
mode_eq Var Var = true
mode_eq Res Res = true
mode_eq _ _ = false

-- a proc or an arm names each formal of its operation, with its mode
abbrev pub names_formals : List Formal → List Parameter → Bool
names_formals [] [] = true
names_formals (formal ∷ formals) (parameter ∷ parameters) = mode_eq formal.mode parameter.mode && names_formals formals parameters
names_formals _ _ = false

abbrev pub scope_eq : Scope → Scope → Bool
scope_eq own_scope own_scope = true
scope_eq shared_scope shared_scope = true
scope_eq _ _ = false

-- one owner: the same component, and both of its instances or both of its processes
abbrev pub one_owner : Operation → Operation → Bool
one_owner a b = (a.component == b.component) && scope_eq a.scope b.scope

-- ---- the arms of an `in`

-- an arm services an operation that has no proc, names its formals, and has side-effect-free guards
abbrev pub arm_ok : Core → Operation → Arm → Bool
arm_ok core first arm =
    with_operation core arm.op (λ operation. (not (is_there operation.proc) && one_owner first operation)
    && (names_formals arm.formals operation.parameters && same_there arm.returned operation.returns))
    && (if_some is_effect_free arm.guard && if_some is_effect_free arm.by)

-- all operations of an `in` have one owner
abbrev pub arms_ok : Core → List Arm → Bool
arms_ok core [] = true
arms_ok core (arm ∷ arms) = with_operation core arm.op (λ first. list_all (arm_ok core first) (arm ∷ arms))

abbrev pub all_arms_ok : Core → Bool
all_arms_ok core = list_all (λ site. arms_ok core site.arms) core.sites

-- ---- procs

abbrev pub proc_is : ℕ → Option ℕ → Bool
proc_is number None = false
proc_is number (Some proc) = proc == number

-- a proc services one operation, which names it
abbrev pub proc_ok : Core → ℕ → Proc → Bool
proc_ok core number proc =
    with_operation core proc.op (λ operation. proc_is number operation.proc
    && (names_formals proc.formals operation.parameters && same_there proc.returned operation.returns))

abbrev pub procs_ok : Core → ℕ → List Proc → Bool
procs_ok core number [] = true
procs_ok core number (proc ∷ procs) = proc_ok core number proc && procs_ok core (suc number) procs

-- ---- operations

-- an operation is of a component, and its proc is there where it has one
abbrev pub operation_ok : Core → Operation → Bool
operation_ok core operation = nat_lt operation.component (length core.components) && if_some (λ proc. nat_lt proc (length core.procs)) operation.proc

abbrev pub operations_ok : Core → Bool
operations_ok core = list_all (operation_ok core) core.operations

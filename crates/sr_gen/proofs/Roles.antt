-- The roles of processes: their code does what they do, and then ends.
use Rattle.std.proofs.Common.{◌≡◌, ℕ, List, [], length, Some, refl, sym, ◌∙◌, ap, subst, arith}
use Rattle.sr_value.specs.declared.capability.Cap.{Cap}
use Rattle.sr_value.specs.declared.capability.Cap.TheVariants.{Vm}
use Rattle.sr_value.specs.declared.place.Place.{Place}
use Rattle.sr_value.specs.declared.fault.Fault.TheVariants.{Range}
use Rattle.sr_value.specs.declared.value.Value.{out-roll-Value}
use Rattle.sr_value.specs.declared.value.Value.TheOpen.{Value-F}
use Rattle.sr_value.specs.declared.value.Value.TheVariants.{Capa, rolls-Capa}
use Rattle.sr_value.specs.Operands.{cap_in, layer_cap}
use Rattle.sr_value.specs.Parts.{or_fault}
use Rattle.sr_ask.specs.Asking.{made}
use Rattle.sr_ask.specs.Behaviors.{Stage, give, ◌>>=◌}
use Rattle.sr_ask.specs.Here.{settle}
use Rattle.sr_ask.specs.Invocations.{instance_in}
use Rattle.sr_ask.specs.declared.request.Request.TheVariants.{Create as create_request}
use Rattle.sr_core.specs.declared.component.Component.{Component}
use Rattle.sr_core.specs.declared.component.Core.{Core}
use Rattle.sr_core.specs.declared.component.Proc.{Proc}
use Rattle.sr_core.specs.declared.statement.Scope.TheVariants.{Own as own_scope, Shared as shared_scope}
use Rattle.sr_code.specs.Acts.{goes, point}
use Rattle.sr_code.specs.Operands.{put_cap, put_list, put_name, put_value}
use Rattle.sr_code.specs.Runs.{Machine, go, here_at}
use Rattle.sr_code.specs.Stretches.{Emits, Extends}
use Rattle.sr_code.specs.declared.code.Coded.{Coded}
use Rattle.sr_code.specs.declared.instruction.Instruction.TheVariants.{Arguments, Create, DropValue, Jump, MyMachine, NoValues, TakeInstance, ToCap}
use Rattle.sr_code.specs.declared.operands.Operands.{Operands}
use Rattle.sr_code.proofs.Stretches.{extends_one, extends_then, follows_as, follows_give, follows_then, lower_part, runs_first, runs_past, upper_part}
use Rattle.sr_meaning.specs.declared.ending.Ending.{Ending}
use Rattle.sr_meaning.specs.declared.ending.Ending.TheVariants.{Through, Left, Turned}
use Rattle.sr_meaning.specs.Expressions.{Meaning, ensured, needs_of, taken}
use Rattle.sr_meaning.specs.Here.{Here, request}
use Rattle.sr_meaning.specs.Processes.{boot_meaning, initial_meaning, main_of, proc_meaning}
use Rattle.sr_meaning.specs.Statements.{block_of, make_formals, make_returned}
use Rattle.sr_gen_expr.specs.Emitting.{Gives, Takes, keep_top, put_nothing, put_only, tree_here}
use Rattle.sr_gen_expr.proofs.Stretching.{follows_at, follows_last, passes}
use Rattle.sr_gen.specs.Doing.{Acts, Ends, one_way, way}
use Rattle.sr_gen.proofs.Endings.{jumps}

-- a block after which the process ends, however it ends
pub ends_block : {core : Core} {line : Place} (block : Meaning Ending) {c0 c1 c2 : List Coded} → Emits line (Jump 0) c0 c1 → Acts (one_way 0) core line block c1 c2
    → Ends core line (λ here. block here >>= λ _. give tt) c0 c2
ends_block block {c1 = c1} jump acts = record {
  grows = extends_then (extends_one jump) acts.grows;
  runs = λ m same h on.
      follows_then
      (follows_last (last m on (jumps m jump (lower_part acts.grows h) (omega arith) on))
      (acts.runs (record { left = omega arith; turned = omega arith; returned = omega arith }) m same (upper_part (extends_one jump) h) on)) (λ _.
      follows_give (λ _. go m (point 0 on)) tt);
} where
  last : (m : Machine) (on : Operands) → ((stage : Stage) → go m (point (length c1) on) stage ≡ go m (point 0 on) stage) → (ending : Ending) (stage : Stage)
      → go m (point (way (one_way 0) (length c1) ending) on) stage ≡ go m (point 0 on) stage
  last m on is Through stage = is stage
  last m on is Left stage = refl
  last m on is Turned stage = refl
  last m on is Ending.Returned stage = refl

pub ends_proc : {core : Core} (proc : Proc) {c0 c1 c2 c3 c4 : List Coded} → Ends core proc.place (λ here. block_of proc.body.block here >>= λ _. give tt) c0 c1
    → Gives put_nothing core proc.place (make_returned proc.returned) c1 c2 → Takes put_list (put_only put_nothing) core proc.place (λ args. make_formals own_scope proc.formals args) c2 c3
    → Emits proc.place Arguments c3 c4 → (line : Place) → Ends core line (proc_meaning (Some proc)) c0 c4
ends_proc proc {c0 = c0} {c1 = c1} {c2 = c2} {c3 = c3} block name formals arguments line = record {
  grows = extends_then to_formals (extends_one arguments);
  runs = λ m same h on.
      let at_formals = lower_part (extends_one arguments) h in
      let at_name = lower_part formals.grows at_formals in
      runs_first m arguments (upper_part to_formals h) on (point (length c3) (put_list m.start.args on)) refl
      (follows_then (formals.runs m same (upper_part to_name at_formals) m.start.args on) (λ _.
      follows_then (name.runs m same (upper_part block.grows at_name) on) (λ _.
      block.runs m same (lower_part name.grows at_name) on)));
} where
  to_name : Extends c0 c2
  to_name = extends_then block.grows name.grows

  to_formals : Extends c0 c3
  to_formals = extends_then to_name formals.grows

pub ends_initial : {core : Core} (component : Component) {c0 c1 c2 c3 : List Coded} → Ends core component.place (λ here. block_of component.initial.block here >>= λ _. give tt) c0 c1
    → Takes put_list (put_only put_nothing) core component.place (λ args. make_formals shared_scope component.formals args) c1 c2
    → Emits component.place Arguments c2 c3 → Ends core component.place (initial_meaning (Some component)) c0 c3
ends_initial component {c0 = c0} {c1 = c1} {c2 = c2} block formals arguments = record {
  grows = extends_then to_formals (extends_one arguments);
  runs = λ m same h on.
      let at_formals = lower_part (extends_one arguments) h in
      runs_first m arguments (upper_part to_formals h) on (point (length c2) (put_list m.start.args on)) refl
      (follows_then (formals.runs m same (upper_part block.grows at_formals) m.start.args on) (λ _.
      block.runs m same (lower_part formals.grows at_formals) on));
} where
  to_formals : Extends c0 c2
  to_formals = extends_then block.grows formals.grows

pub ends_as : {core : Core} {line : Place} {work other : Meaning (Unit {0})} {c0 c1 : List Coded} → work ≡ other → Ends core line other c0 c1 → Ends core line work c0 c1
ends_as {core = core} {line = line} {c0 = c0} {c1 = c1} is ends = let P : Meaning (Unit {0}) → Type 0 = λ d. Ends core line d c0 c1 in subst P (sym is) ends

-- ---- the boot process

-- the capability of the machine is one
cap_back : (cap : Cap) → cap_in (Capa cap) ≡ Some cap
cap_back cap = ap cap_in (sym (rolls-Capa cap)) ∙ ap layer_cap (out-roll-Value (Value-F.Capa cap))

-- what the boot process does, of a main that is known
abbrev boot_of : Core → ℕ → Meaning (Unit {0})
boot_of core main here =
    ensured (needs_of core main) (Vm here.start.vm) here >>= λ _.
    request made (create_request main [] (Vm here.start.vm)) here >>= λ name.
    taken name here >>= λ _. give tt

pub ends_boot : {core : Core} {line : Place} (main : ℕ) {c0 c1 c2 c3 c4 c5 c6 c7 c8 : List Coded} → main ≡ main_of core → Emits line (Jump 0) c0 c1 → Emits line DropValue c1 c2 → Emits line TakeInstance c2 c3
    → Emits line (Create main) c3 c4 → Emits line NoValues c4 c5 → Takes put_cap (keep_top put_cap) core line (λ vm. ensured (needs_of core main) vm) c5 c6 → Emits line ToCap c6 c7 → Emits line MyMachine c7 c8
    → Ends core line boot_meaning c0 c8
ends_boot {core = core} {line = line} main {c0 = c0} {c1 = c1} {c2 = c2} {c3 = c3} {c4 = c4} {c5 = c5} {c6 = c6} {c7 = c7} main_is jump drop take create list needed to_cap machine = record {
  grows = extends_then to_cap_end (extends_one machine);
  runs = λ m same h on.
      let vm : Cap = Vm m.start.vm in
      let here : Here = tree_here m line in
      let at_cap = lower_part (extends_one machine) h in
      let at_needed = lower_part (extends_one to_cap) at_cap in
      let at_list = lower_part needed.grows at_needed in
      let at_create = lower_part (extends_one list) at_list in
      let at_take = lower_part (extends_one create) at_create in
      let at_drop = lower_part (extends_one take) at_take in
      let at_jump = lower_part (extends_one drop) at_drop in
      runs_first m machine (upper_part to_cap_end h) on (point (length c7) (put_value (Capa vm) on)) refl
      (runs_first m to_cap (upper_part to_needed at_cap) (put_value (Capa vm) on) (point (length c6) (put_cap vm on))
      (ap (λ found. settle (or_fault Range found) (here_at m line) >>= λ cap. goes (length c6) (put_cap cap on)) (cap_back vm))
      (follows_as (ap (λ c. boot_of c (main_of c) here) same ∙ ap (λ n. boot_of core n here) (sym main_is))
      (follows_then (needed.runs m same (upper_part to_list at_needed) vm on) (λ _.
      runs_first m list (upper_part to_create at_list) (put_cap vm on) (point (length c4) (put_list [] (put_cap vm on))) refl
      (follows_then (runs_past m create (upper_part to_take at_create) (put_list [] (put_cap vm on)) (request made (create_request main [] vm) here) (λ name. put_name name on) refl) (λ name.
      follows_then (runs_past m take (upper_part to_drop at_take) (put_name name on) (taken name here) (λ reply. put_value (instance_in reply) on) refl) (λ reply.
      follows_at (λ stage.
      passes m drop (upper_part (extends_one jump) at_drop) (put_value (instance_in reply) on) (point (length c1) on) refl stage ∙ jumps m jump at_jump (omega arith) on stage)
      (follows_give (λ _. go m (point 0 on)) tt))))))));
} where
  to_drop : Extends c0 c2
  to_drop = extends_then (extends_one jump) (extends_one drop)

  to_take : Extends c0 c3
  to_take = extends_then to_drop (extends_one take)

  to_create : Extends c0 c4
  to_create = extends_then to_take (extends_one create)

  to_list : Extends c0 c5
  to_list = extends_then to_create (extends_one list)

  to_needed : Extends c0 c6
  to_needed = extends_then to_list needed.grows

  to_cap_end : Extends c0 c7
  to_cap_end = extends_then to_needed (extends_one to_cap)

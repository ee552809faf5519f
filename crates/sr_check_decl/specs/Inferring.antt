-- Constants and variables without a type get the type of their value.
use Rattle.std.specs.Prelude.{ℕ, suc, zero, Bool, true, false, not, ◌&&◌, List, [], ◌∷◌, None, is_some, length}
use Rattle.std.specs.List.{filter}
use Rattle.sr_names.specs.Noted.{Meanings}
use Rattle.sr_names.specs.Specs.{Specs}
use Rattle.sr_tree.specs.declared.component.File.{File}
use Rattle.sr_types.specs.declared.typed.Typed.{Typed}
use Rattle.sr_types.specs.Outcomes.{refused_typed}
use Rattle.sr_check_expr.specs.declared.facts.Facts.{Facts}
use Rattle.sr_check_expr.specs.declared.info.Info.{Info}
use Rattle.sr_check_expr.specs.declared.info.Info.TheVariants as info
use Rattle.sr_check_expr.specs.Exprs.{infer_expr}
use Rattle.sr_check_expr.specs.Infos.{info_at}
use Rattle.sr_check_decl.specs.Constants.{const_typed, type_of_value}
use Rattle.sr_check_decl.specs.Declaring.{standing, program_declared}
use Rattle.sr_check_decl.specs.NamesIn.{is_ready}
use Rattle.sr_check_decl.specs.Variables.{declare, variable}
use Rattle.sr_check_decl.specs.Waiting.{Waiting, files_waiting}

abbrev pub is_settled : Facts → Waiting → Bool
is_settled facts waiting = is_some (info_at facts.infos waiting.spot)

abbrev pub info_by : Bool → Bool → Typed → Info
info_by true in_spec value = info.Value (const_typed in_spec None value)
info_by false in_spec value = variable (type_of_value value.ty)

-- a constant is what its value is, and a variable has the type of its value
abbrev pub waiting_info : Facts → Waiting → Info
waiting_info facts waiting = info_by waiting.is_constant waiting.in_spec (infer_expr waiting.value facts).typed_expr.typed

-- its value is looked at where it stands
abbrev pub settled : Facts → Waiting → Facts
settled facts waiting = declare facts waiting.spot (waiting_info (standing facts waiting.component) waiting)

abbrev pub all_settled : List Waiting → Facts → Facts
all_settled [] facts = facts
all_settled (waiting ∷ more) facts = all_settled more (settled facts waiting)

-- a declaration can have its type where all that its value names has one
abbrev pub can_settle : Facts → Waiting → Bool
can_settle facts waiting = not (is_settled facts waiting) && is_ready facts waiting.value

-- in a wave all get their types that can have one before it
abbrev pub wave : List Waiting → Facts → Facts
wave waiting facts = all_settled (filter (can_settle facts) waiting) facts

abbrev pub waves : ℕ → List Waiting → Facts → Facts
waves zero waiting facts = facts
waves (suc n) waiting facts = waves n waiting (wave waiting facts)

-- as many waves as there are declarations settle all that can be settled
abbrev pub inferred : List Waiting → Facts → Facts
inferred waiting facts = waves (length waiting) waiting facts

-- what wasn't settled has no type, and refuses nothing more
abbrev pub given_up_if : Bool → Facts → Waiting → Facts
given_up_if true facts waiting = facts
given_up_if false facts waiting = declare facts waiting.spot (info.Value refused_typed)

abbrev pub given_up : List Waiting → Facts → Facts
given_up [] facts = facts
given_up (waiting ∷ more) facts = given_up more (given_up_if (is_settled facts waiting) facts waiting)

-- what is declared outside of procs and blocks, as far as types can be told
abbrev pub program_inferred : Meanings → Specs → List File → Facts
program_inferred uses specs files = inferred (files_waiting files) (program_declared uses specs files)

-- all that is declared outside of procs and blocks
abbrev pub program_known : Meanings → Specs → List File → Facts
program_known uses specs files = given_up (files_waiting files) (program_inferred uses specs files)

-- The shared variables of a world, and what is loaded from them and stored to them.
use Rattle.std.specs.Prelude.{◌≡◌, ◌≢◌, ℕ, ◌<◌, ◌==◌, if◌then◌else◌, Option, unwrap_or, Result, Ok, Err, List}
use Rattle.std.specs.Ordering.{nat_cmp}
use Rattle.std.specs.FinMap as map
use Rattle.sr_value.specs.declared.fault.Fault.{Fault}
use Rattle.sr_value.specs.declared.fault.Fault.TheVariants.{Early}
use Rattle.sr_value.specs.declared.fault.ValueFail.{ValueFail}
use Rattle.sr_value.specs.declared.fault.ValueFail.TheVariants.{Fault as a_fault, NoMemory as out_of_memory}
use Rattle.sr_value.specs.declared.shape.Sel.{Sel}
use Rattle.sr_value.specs.declared.shape.Shape.{Shape}
use Rattle.sr_value.specs.declared.value.Value.{Value}
use Rattle.sr_value.specs.Parts.{loaded_at, or_fault, stored_at, with_ok}
use Rattle.sr_value.specs.Shapes.{default_value}
use Rattle.sr_store.specs.declared.variable.Variable.{Variable}

-- a map from numbers, of blocks or of variables, in their order
abbrev pub ByNumber : Type 0 → Type 0
ByNumber A = map.FinMap nat_cmp A

-- by block and then by variable; a block without variables has no entry
abbrev pub Variables : Type 0
Variables = ByNumber (ByNumber Variable)

-- the variables, and how many more variables of each block take no memory
pub record Stored : Type 0 where
  pub variables : Variables
  pub room : ByNumber ℕ

-- ---- the variables of one block

-- a load from a variable that isn't declared yet is E11, before the path is looked at
abbrev pub block_loaded : ByNumber Variable → ℕ → List Sel → Result Value Fault
block_loaded block var path = with_ok (or_fault Early (map.get block var)) (λ variable. loaded_at variable.value path)

-- so is a store to it; the value that is stored gets the bounds of its place, and the variable keeps its shape
abbrev pub block_stored : ByNumber Variable → ℕ → List Sel → Value → Result (ByNumber Variable) Fault
block_stored block var path value =
    with_ok (or_fault Early (map.get block var)) (λ variable.
    with_ok (stored_at variable.shape variable.value path value) (λ held. Ok (map.insert block var (record variable { value = held }))))

-- ---- all variables

abbrev pub block_of : Variables → ℕ → ByNumber Variable
block_of all block = unwrap_or (map.get all block) map.empty

abbrev pub variable_at : Variables → ℕ → ℕ → Option Variable
variable_at all block var = map.get (block_of all block) var

-- a block without variables has no entry
abbrev pub with_block : Variables → ℕ → ByNumber Variable → Variables
with_block all block variables = if map.len variables == 0 then map.remove all block else map.insert all block variables

abbrev pub with_variable : Variables → ℕ → ℕ → Variable → Variables
with_variable all block var variable = with_block all block (map.insert (block_of all block) var variable)

-- a declaration gives the variable its default, and replaces what it was; bounds out of range are E6, and too large a shape is E10
abbrev pub declared_in : Variables → ℕ → ℕ → Shape → Result Variables Fault
declared_in all block var shape = with_ok (default_value shape) (λ value. Ok (with_variable all block var (record { shape = shape; value = value })))

abbrev pub loaded_in : Variables → ℕ → ℕ → List Sel → Result Value Fault
loaded_in all block var path = block_loaded (block_of all block) var path

abbrev pub stored_in : Variables → ℕ → ℕ → List Sel → Value → Result Variables Fault
stored_in all block var path value = with_ok (block_stored (block_of all block) var path value) (λ changed. Ok (with_block all block changed))

-- what was meant is there now, or there is this fault or no memory, and all is as before
abbrev pub Made : {A : Type 0} → Result (Unit {0}) ValueFail → A → A → Result A Fault → Type 0
Made (Ok done) old new meant = meant ≡ Ok new
Made (Err (a_fault fault)) old new meant = (meant ≡ Err fault) × (new ≡ old)
Made (Err out_of_memory) old new meant = new ≡ old

-- ---- room

abbrev pub room_of : Stored → ℕ → ℕ
room_of stored block = unwrap_or (map.get stored.room block) 0

-- one more variable of the block takes no memory
abbrev pub CanPlace : Stored → ℕ → Type 0
CanPlace stored block = 0 < room_of stored block

-- whichever block had room still has
abbrev pub KeepsRoom : Stored → Stored → Type 0
KeepsRoom old new = (b : ℕ) → CanPlace old b → CanPlace new b

-- the same of all blocks but one
abbrev pub KeepsOtherRoom : Stored → Stored → ℕ → Type 0
KeepsOtherRoom old new block = (b : ℕ) → b ≢ block → CanPlace old b → CanPlace new b

-- A guard comes to the same in two worlds that hold the same in all that it names.
use Rattle.std.proofs.Common.{◌≡◌, ℕ, true, List, [], ◌∷◌, ◌++◌, refl, ap}
use Rattle.std.specs.Prelude.{Option, Result, Ok, Err, pos}
use Rattle.sr_value.specs.declared.fault.Fault.{Fault}
use Rattle.sr_value.specs.declared.shape.Sel.{Sel}
use Rattle.sr_value.specs.declared.value.Value.{Value}
use Rattle.sr_value.specs.Operators.{int_result}
use Rattle.sr_ask.specs.declared.entry.Seen.{Seen}
use Rattle.sr_ask.specs.declared.entry.Seen.TheVariants.{Pending as pending_count}
use Rattle.sr_core.specs.declared.expression.Expr.{Expr}
use Rattle.sr_core.specs.declared.expression.Leaf.{Leaf}
use Rattle.sr_core.specs.declared.expression.Leaf.TheVariants.{Constant, Operation, MyResource, MyMachine, Count as count_of_op, MakeMachine, Moment}
use Rattle.sr_core.specs.declared.owner.Home.{Home}
use Rattle.sr_core.specs.declared.owner.Me.{Me}
use Rattle.sr_core.specs.declared.owner.Root.{Root}
use Rattle.sr_core.specs.declared.owner.Root.TheVariants.{Own as own_root, Shared as shared_root}
use Rattle.sr_select.specs.Choices.{key_in}
use Rattle.sr_select.specs.Guards.{Guard, Guarding, cell_read, guard_block, guard_leaf, guard_load, guard_shared, truth_of_guard}
use Rattle.sr_select.specs.Looks.{settle, then_look}
use Rattle.sr_select.specs.Readings.{Reading}
use Rattle.sr_select.proofs.AlikeLemmas.{keys-agree, truths-agree}
use Rattle.sr_select.specs.Worlds.{Watched, leaf_within, maybe_names_only, names_only, root_within}

module _ (watched : Watched) (reading reading' : Reading) (me : Me) (own : ℕ → Result Value Fault) (home : ℕ → Option ℕ) (machine : Option ℕ)
    (cells : (whose : Home) (var block : ℕ) (path : List Sel) → watched.variable whose var ≡ true → guard_block me home whose ≡ Ok block → reading.load block var path ≡ reading'.load block var path)
    (counts : (op : ℕ) → watched.operation op ≡ true → reading.count op ≡ reading'.count op)
    (literals : reading.names ≡ reading'.names) where
  abbrev pub One : Guarding
  One = record { reading = reading; me = me; own = own; home = home; machine = machine }

  abbrev pub Other : Guarding
  Other = record { reading = reading'; me = me; own = own; home = home; machine = machine }

  -- a part of a guard comes to the same in both worlds, and reads the same
  abbrev pub Alike : {A : Type 0} → Guard A → Type 0
  Alike guard = (seen : List Seen) → guard One seen ≡ guard Other seen

  leaf-alike : (leaf : Leaf) → leaf_within watched leaf ≡ true → Alike (guard_leaf leaf)
  leaf-alike (count_of_op op) within = λ seen. ap (λ (n : ℕ). settle (int_result (pos n)) (seen ++ pending_count op n ∷ [])) (counts op within)
  leaf-alike (Constant value) within = λ seen. refl
  leaf-alike (Operation whose op) within = λ seen. refl
  leaf-alike MyResource within = λ seen. refl
  leaf-alike MyMachine within = λ seen. refl
  leaf-alike MakeMachine within = λ seen. refl
  leaf-alike Moment within = λ seen. refl

  shared-alike : (whose : Home) (var : ℕ) (path : List Sel) (block : Result ℕ Fault) → watched.variable whose var ≡ true → guard_block me home whose ≡ block → (seen : List Seen)
      → then_look (settle block seen) (guard_shared reading var path) ≡ then_look (settle block seen) (guard_shared reading' var path)
  shared-alike whose var path (Ok block) within is seen = ap (λ (value : Result Value Fault). cell_read block var path value seen) (cells whose var block path within is)
  shared-alike whose var path (Err found) within is seen = refl

  load-alike : (root : Root) (path : List Sel) → root_within watched root ≡ true → Alike (guard_load root path)
  load-alike (own_root var) path within = λ seen. refl
  load-alike (shared_root whose var) path within = λ seen. shared-alike whose var path (guard_block me home whose) within refl seen

  pub truth-alike : (condition : Option Expr) → maybe_names_only watched condition ≡ true → Alike (truth_of_guard condition)
  truth-alike = truths-agree (leaf_within watched) (root_within watched) One Other leaf-alike load-alike literals

  pub key-alike : (condition : Option Expr) (by : Expr) → maybe_names_only watched condition ≡ true → names_only watched by ≡ true → Alike (key_in condition by)
  key-alike = keys-agree (leaf_within watched) (root_within watched) One Other leaf-alike load-alike literals

-- Whole statements are regular.
use Rattle.std.proofs.Common.{◌≡◌, List, [], ◌∷◌, Option, Some, None, sym, subst, map}
use Rattle.sr_core.specs.declared.statement.CoArm.{CoArm, roll-CoArm}
use Rattle.sr_core.specs.declared.statement.Guarded.{Guarded, roll-Guarded}
use Rattle.sr_core.specs.declared.statement.Statement.{Statement, map-Statement, roll-Statement}
use Rattle.sr_core.specs.declared.statement.Statement.TheFolds.{map-CoArm, map-Guarded, fold-roll-CoArm, fold-roll-Guarded, fold-roll-Statement, ind-Statement, ind-Guarded}
use Rattle.sr_core.specs.declared.statement.Statement.TheOpen.{CoArm-F, Guarded-F, Statement-F}
use Rattle.sr_meaning.specs.declared.ending.Ending.{Ending}
use Rattle.sr_meaning.specs.Expressions.{Meaning}
use Rattle.sr_meaning.specs.Here.{at_line}
use Rattle.sr_meaning.specs.Pieces.{co_part_of, guarded_of, optional_block}
use Rattle.sr_meaning.specs.Statements.{CoPart, co_arm_meaning, guarded_meaning, left, meaning_of, statement_meaning}
use Rattle.sr_meaning.proofs.Regular.{RegularMeaning, AllRegular, regular_then, regular_give, regular_tick}
use Rattle.sr_meaning.proofs.RegularStatements.{EachRegular, OptionRegular, PartsRegular, regular_action, regular_block, regular_co, regular_declaration, regular_do, regular_guarded, regular_if, regular_in, regular_quantified, regular_sends, regular_through}
use Rattle.sr_meaning.proofs.RegularTrees.{regular_row}

-- trees with what is known of them
abbrev StatementWith : Type 0
StatementWith = (tree : Statement) × RegularMeaning (meaning_of tree)

abbrev ArmWith : Type 0
ArmWith = (tree : CoArm) × RegularMeaning (co_part_of tree).body

abbrev GuardedWith : Type 0
GuardedWith = (tree : Guarded) × RegularMeaning (guarded_of tree)

regular_rows : (rows : List (List StatementWith)) → EachRegular (map (map meaning_of) (map (map (λ e. e.0)) rows))
regular_rows [] = tt
regular_rows (row ∷ rows) = (regular_row meaning_of row, regular_rows rows)

regular_parts : (arms : List ArmWith) → PartsRegular (map co_part_of (map (λ e. e.0) arms))
regular_parts [] = tt
regular_parts (arm ∷ arms) = (arm.1, regular_parts arms)

regular_statement_node : (y : Statement-F StatementWith ArmWith GuardedWith)
    → RegularMeaning (statement_meaning (map-Statement Statement CoArm Guarded (Meaning Ending) CoPart (Meaning (Option Ending)) meaning_of co_part_of guarded_of (map-Statement StatementWith ArmWith GuardedWith Statement CoArm Guarded (λ e. e.0) (λ e. e.0) (λ e. e.0) y)))
regular_statement_node (Statement-F.Declare place declaration) = record { at = λ here. regular_through (regular_declaration declaration (at_line place here)) }
regular_statement_node (Statement-F.Act place action) = record { at = λ here. regular_then regular_tick (λ _. regular_action action (at_line place here)) }
regular_statement_node (Statement-F.If place guards otherwise) = record {
  at = λ here. regular_then regular_tick (λ _. regular_if _ _ (at_line place here) (regular_row guarded_of guards) (regular_row meaning_of otherwise));
}
regular_statement_node (Statement-F.Do place guards None) = record {
  at = λ here. regular_then regular_tick (λ _. regular_do _ None (at_line place here) (regular_row guarded_of guards) tt);
}
regular_statement_node (Statement-F.Do place guards (Some block)) = record {
  at = λ here. regular_then regular_tick (λ _. regular_do _ (Some _) (at_line place here) (regular_row guarded_of guards) (regular_row meaning_of block));
}
regular_statement_node (Statement-F.Fa place quantifiers body) = record {
  at = λ here.
      regular_then regular_tick (λ _.
      regular_then ((regular_quantified quantifiers _ (record { at = λ here'. regular_block _ here' (regular_row meaning_of body) })).at (at_line place here)) (λ ending. regular_give (left ending)));
}
regular_statement_node (Statement-F.In place site arms otherwise) = record {
  at = λ here. regular_then regular_tick (λ _. regular_in site _ _ (at_line place here) (regular_rows arms) (regular_row meaning_of otherwise));
}
regular_statement_node (Statement-F.Co place arms) = record { at = λ here. regular_then regular_tick (λ _. regular_co _ (at_line place here) (regular_parts arms)) }
regular_statement_node (Statement-F.Sends place target count) = record { at = λ here. regular_sends target count (at_line place here) }

regular_arm_node : (y : CoArm-F StatementWith ArmWith GuardedWith) → RegularMeaning (co_arm_meaning (map-CoArm Statement CoArm Guarded (Meaning Ending) CoPart (Meaning (Option Ending)) meaning_of co_part_of guarded_of (map-CoArm StatementWith ArmWith GuardedWith Statement CoArm Guarded (λ e. e.0) (λ e. e.0) (λ e. e.0) y))).body
regular_arm_node y = record { at = λ here. regular_block _ here (regular_row meaning_of y.body) }

regular_guarded_node : (y : Guarded-F StatementWith ArmWith GuardedWith) → RegularMeaning (guarded_meaning (map-Guarded Statement CoArm Guarded (Meaning Ending) CoPart (Meaning (Option Ending)) meaning_of co_part_of guarded_of (map-Guarded StatementWith ArmWith GuardedWith Statement CoArm Guarded (λ e. e.0) (λ e. e.0) (λ e. e.0) y)))
regular_guarded_node y = record { at = λ here. regular_guarded y.condition _ here (regular_row meaning_of y.body) }

step_Statement : (x : Statement-F Statement CoArm Guarded) (y : Statement-F StatementWith ArmWith GuardedWith) → map-Statement StatementWith ArmWith GuardedWith Statement CoArm Guarded (λ e. e.0) (λ e. e.0) (λ e. e.0) y ≡ x → RegularMeaning (meaning_of (roll-Statement x))
step_Statement x y is =
    let P : Statement-F Statement CoArm Guarded → Type 0 = λ z. RegularMeaning (meaning_of (roll-Statement z)) in
    let Q : Meaning Ending → Type 0 = λ m. RegularMeaning m in
    subst P is (subst Q (sym (fold-roll-Statement (Meaning Ending) CoPart (Meaning (Option Ending)) statement_meaning co_arm_meaning guarded_meaning _)) (regular_statement_node y))

step_CoArm : (x : CoArm-F Statement CoArm Guarded) (y : CoArm-F StatementWith ArmWith GuardedWith) → map-CoArm StatementWith ArmWith GuardedWith Statement CoArm Guarded (λ e. e.0) (λ e. e.0) (λ e. e.0) y ≡ x → RegularMeaning (co_part_of (roll-CoArm x)).body
step_CoArm x y is =
    let P : CoArm-F Statement CoArm Guarded → Type 0 = λ z. RegularMeaning (co_part_of (roll-CoArm z)).body in
    let Q : CoPart → Type 0 = λ part. RegularMeaning part.body in
    subst P is (subst Q (sym (fold-roll-CoArm (Meaning Ending) CoPart (Meaning (Option Ending)) statement_meaning co_arm_meaning guarded_meaning _)) (regular_arm_node y))

step_Guarded : (x : Guarded-F Statement CoArm Guarded) (y : Guarded-F StatementWith ArmWith GuardedWith) → map-Guarded StatementWith ArmWith GuardedWith Statement CoArm Guarded (λ e. e.0) (λ e. e.0) (λ e. e.0) y ≡ x → RegularMeaning (guarded_of (roll-Guarded x))
step_Guarded x y is =
    let P : Guarded-F Statement CoArm Guarded → Type 0 = λ z. RegularMeaning (guarded_of (roll-Guarded z)) in
    let Q : Meaning (Option Ending) → Type 0 = λ m. RegularMeaning m in
    subst P is (subst Q (sym (fold-roll-Guarded (Meaning Ending) CoPart (Meaning (Option Ending)) statement_meaning co_arm_meaning guarded_meaning _)) (regular_guarded_node y))

pub regular_statement : (tree : Statement) → RegularMeaning (meaning_of tree)
regular_statement = ind-Statement (λ tree. RegularMeaning (meaning_of tree)) (λ tree. RegularMeaning (co_part_of tree).body) (λ tree. RegularMeaning (guarded_of tree)) step_Statement step_CoArm step_Guarded

regular_one_guard : (tree : Guarded) → RegularMeaning (guarded_of tree)
regular_one_guard = ind-Guarded (λ tree. RegularMeaning (meaning_of tree)) (λ tree. RegularMeaning (co_part_of tree).body) (λ tree. RegularMeaning (guarded_of tree)) step_Statement step_CoArm step_Guarded

pub regular_statements : (block : List Statement) → AllRegular (map meaning_of block)
regular_statements [] = tt
regular_statements (statement ∷ block) = (regular_statement statement, regular_statements block)

pub regular_guards : (guards : List Guarded) → AllRegular (map guarded_of guards)
regular_guards [] = tt
regular_guards (guarded ∷ guards) = (regular_one_guard guarded, regular_guards guards)

pub regular_optional : (otherwise : Option (List Statement)) → OptionRegular (optional_block otherwise)
regular_optional None = tt
regular_optional (Some block) = regular_statements block

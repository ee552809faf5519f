-- Each form of expression: its code asks what it asks.
use Rattle.std.proofs.Common.{◌≡◌, ℕ, ℤ, ◌≤◌, min, Bool, true, false, List, [], length, Some, None, refl, subst, ◌∙◌, ap, arith}
use Rattle.sr_value.specs.declared.capability.Cap.TheVariants.{Op, Vm}
use Rattle.sr_value.specs.declared.operator.Operator.{Operator}
use Rattle.sr_value.specs.declared.operator.Operator.TheVariants.{And as both, Or as either}
use Rattle.sr_value.specs.declared.place.Place.{Place}
use Rattle.sr_value.specs.declared.shape.Sel.{Sel}
use Rattle.sr_value.specs.declared.shape.Sel.TheVariants.{At as at_one, At2 as at_two, Field as at_field}
use Rattle.sr_value.specs.declared.value.Value.{Value}
use Rattle.sr_value.specs.declared.value.Value.TheVariants.{Int, Bool as truth_value, Capa}
use Rattle.sr_value.specs.Operators.{value_of, value_of_one}
use Rattle.sr_value.specs.Parts.{part_of}
use Rattle.sr_ask.specs.Asking.{made, moment, number}
use Rattle.sr_ask.specs.Behaviors.{give, ◌>>=◌}
use Rattle.sr_ask.specs.declared.environment.Located.{Located}
use Rattle.sr_ask.specs.declared.request.Request.TheVariants.{Count as count_request, MakeVm, Age}
use Rattle.sr_core.specs.Applied.{applied}
use Rattle.sr_core.specs.Values.{truth_of, number_of, cap_of, member_of, count_of, array_of}
use Rattle.sr_core.specs.declared.component.Core.{Core}
use Rattle.sr_core.specs.declared.expression.Argument.TheOpen.{Argument-F, Expr-F, Part-F, Step-F}
use Rattle.sr_core.specs.declared.expression.Function.{Function}
use Rattle.sr_core.specs.declared.expression.Leaf.{Leaf}
use Rattle.sr_core.specs.declared.expression.Leaf.TheVariants.{Constant as leaf_constant, Operation as leaf_operation, MyResource as leaf_resource, MyMachine as leaf_machine, Count as leaf_count, MakeMachine as leaf_make, Moment as leaf_moment}
use Rattle.sr_core.specs.declared.expression.Readable.{Readable}
use Rattle.sr_core.specs.declared.expression.Readable.TheVariants.{Int as an_int, Bool as a_bool, Char as a_char, Str as a_str}
use Rattle.sr_core.specs.declared.owner.Home.TheVariants.{Mine as my_home, Imported as imported_home}
use Rattle.sr_core.specs.declared.owner.OperationOwner.{OperationOwner}
use Rattle.sr_core.specs.declared.owner.OperationOwner.TheVariants.{Mine, Imported, Process}
use Rattle.sr_core.specs.declared.owner.Root.{Root}
use Rattle.sr_core.specs.declared.owner.Root.TheVariants.{Own as own_root, Shared as shared_root}
use Rattle.sr_core.specs.declared.piece.Piece.{Piece}
use Rattle.sr_code.specs.Acts.{point, goes, act, and_skip, or_skip}
use Rattle.sr_code.specs.Operands.{put_value, put_number, put_cap, put_list, join_value, put_pieces, join_piece, put_place, join_sel, join_target, join_place, join_argument}
use Rattle.sr_code.specs.Owners.{owner_in, root_in, kind_asked}
use Rattle.sr_code.specs.Runs.{Machine, go, here_at}
use Rattle.sr_code.specs.Stretches.{Emits, Follows, Has}
use Rattle.sr_code.specs.declared.code.Coded.{Coded}
use Rattle.sr_code.specs.declared.instruction.Instruction.{Instruction}
use Rattle.sr_code.specs.declared.instruction.Instruction.TheVariants.{Constant, Operation, MyResource, MyMachine, Count, MakeMachine, Moment, ToNumber, ToCap, OperateOne, Operate, AndSkip, OrSkip, NoValues, Collect, Apply, NoPieces, AddPiece, AddRepeated, MakeArray, PartAt, PartAt2, PartField, Member, Spot as spot_instruction, At, At2, Field, Load, PassValue, PassVar, PassRes, AddReading}
use Rattle.sr_code.specs.declared.operands.Operands.{Operands}
use Rattle.sr_code.proofs.Stretches.{follows_then, follows_give, runs_to, runs_past, runs_first, lower_part, upper_part, extends_one, extends_then}
use Rattle.sr_meaning.specs.Expressions.{Meaning, in_order, choice, leaf_meaning, node_meaning, place_meaning, step_meaning, part_meaning, argument_meaning, reading_meaning, kind_of, owner_of}
use Rattle.sr_meaning.specs.Here.{request, settle}
use Rattle.sr_meaning.specs.Places.{load_place, spot_of}
use Rattle.sr_gen_expr.specs.Emitting.{Gives, Takes, instruction_of, join_all, join_sent, and_meaning, operand_meaning, or_meaning, part_meaning_of, put_only, tree_here}
use Rattle.sr_gen_expr.proofs.Joining.{joined_values, joined_pieces, joined_sels}
use Rattle.sr_gen_expr.proofs.Stretching.{follows_regroup, follows_ungroup, follows_within, gives_first, gives_then, gives_before, gives_changed, gives_regroup, gives_wrapped}

-- ---- leaves

pub gives_constant : {core : Core} {line : Place} {value : Value} {c0 c1 : List Coded} → Emits line (Constant value) c0 c1
    → Gives put_value core line (leaf_meaning (leaf_constant value)) c0 c1
gives_constant {value = value} e = gives_first e (leaf_meaning (leaf_constant value)) (λ m on. refl)

pub gives_my_resource : {core : Core} {line : Place} {c0 c1 : List Coded} → Emits line MyResource c0 c1 → Gives put_value core line (leaf_meaning leaf_resource) c0 c1
gives_my_resource e = gives_first e (leaf_meaning leaf_resource) (λ m on. refl)

pub gives_my_machine : {core : Core} {line : Place} {c0 c1 : List Coded} → Emits line MyMachine c0 c1 → Gives put_value core line (leaf_meaning leaf_machine) c0 c1
gives_my_machine e = gives_first e (leaf_meaning leaf_machine) (λ m on. refl)

same_owner : (whose : OperationOwner) (m : Machine) (line : Place) → owner_in whose (here_at m line) ≡ owner_of whose (tree_here m line)
same_owner Mine m line = refl
same_owner (Imported at) m line = refl
same_owner Process m line = refl

pub gives_operation : {core : Core} {line : Place} {whose : OperationOwner} {op : ℕ} {c0 c1 : List Coded} → Emits line (Operation whose op) c0 c1
    → Gives put_value core line (leaf_meaning (leaf_operation whose op)) c0 c1
gives_operation {line = line} {whose = whose} {op = op} {c0 = c0} e =
    gives_first e (leaf_meaning (leaf_operation whose op)) (λ m on. ap (λ owner. goes (length c0) (put_value (Capa (Op owner op)) on)) (same_owner whose m line))

pub gives_count : {core : Core} {line : Place} {op : ℕ} {c0 c1 : List Coded} → Emits line (Count op) c0 c1 → Gives put_value core line (leaf_meaning (leaf_count op)) c0 c1
gives_count {op = op} e = gives_wrapped e (λ here. request number (count_request op) here) Int (λ m on. refl)

pub gives_machine : {core : Core} {line : Place} {c0 c1 : List Coded} → Emits line MakeMachine c0 c1 → Gives put_value core line (leaf_meaning leaf_make) c0 c1
gives_machine e = gives_wrapped e (λ here. request made MakeVm here) (λ name. Capa (Vm name)) (λ m on. refl)

pub gives_moment : {core : Core} {line : Place} {c0 c1 : List Coded} → Emits line Moment c0 c1 → Gives put_value core line (leaf_meaning leaf_moment) c0 c1
gives_moment e = gives_wrapped e (λ here. request moment Age here) Int (λ m on. refl)

leaf_gives : {line : Place} (leaf : Leaf) {c0 c1 : List Coded} → Emits line (instruction_of leaf) c0 c1 → (core : Core) → Gives put_value core line (leaf_meaning leaf) c0 c1
leaf_gives (leaf_constant value) e core = gives_constant e
leaf_gives (leaf_operation whose op) e core = gives_operation e
leaf_gives leaf_resource e core = gives_my_resource e
leaf_gives leaf_machine e core = gives_my_machine e
leaf_gives (leaf_count op) e core = gives_count e
leaf_gives leaf_make e core = gives_machine e
leaf_gives leaf_moment e core = gives_moment e

pub gives_leaf : {line : Place} (leaf : Leaf) {instruction : Instruction} {c0 c1 : List Coded} → instruction ≡ instruction_of leaf → Emits line instruction c0 c1 → (core : Core)
    → Gives put_value core line (leaf_meaning leaf) c0 c1
gives_leaf {line = line} leaf {c0 = c0} {c1 = c1} is e core = let P : Instruction → Type 0 = λ i. Emits line i c0 c1 in leaf_gives leaf (subst P is e) core

-- ---- operators

pub gives_unary : {core : Core} {line : Place} {op : Operator} {x : Meaning Value} {c0 c1 c2 : List Coded} → Emits line (OperateOne op) c0 c1 → Gives put_value core line x c1 c2
    → Gives put_value core line (node_meaning (Expr-F.Unary op x)) c0 c2
gives_unary {op = op} e x = gives_then e x (λ v. settle (value_of_one op v)) (λ m v on. refl)

-- an operator whose left operand is there
pub takes_operand : {core : Core} {line : Place} {op : Operator} {y : Meaning Value} {c0 c1 c2 : List Coded} → Emits line (Operate op) c0 c1 → Gives put_value core line y c1 c2
    → Takes put_value (put_only put_value) core line (operand_meaning op y) c0 c2
takes_operand {line = line} {op = op} e right = record {
  grows = extends_then (extends_one e) right.grows;
  runs = λ m same h v on. follows_then (right.runs m same (upper_part (extends_one e) h) (put_value v on)) (λ w.
      runs_past m e (lower_part right.grows h) (put_value w (put_value v on)) (settle (value_of op v w) (tree_here m line)) (λ u. put_value u on) refl);
}

jump_to : (to next : ℕ) → to ≤ next → min to next ≡ to
jump_to to next h = omega arith

-- the right side of `and` comes where the left is true
pub takes_and : {core : Core} {line : Place} (y : Meaning Value) {c0 c2 c3 : List Coded} → Takes put_value (put_only put_value) core line (operand_meaning both y) c0 c2
    → Emits line (AndSkip (length c0)) c2 c3 → Takes put_value (put_only put_value) core line (and_meaning y) c0 c3
takes_and {core = core} {line = line} y {c0 = c0} {c2 = c2} right skip = record {
  grows = extends_then right.grows (extends_one skip);
  runs = λ m same h v on.
      follows_then (runs_to m skip (upper_part right.grows h) (put_value v on) (settle (truth_of v) (tree_here m line)) (λ truth. and_skip truth (length c0) (length c2) (put_value v on)) refl) (λ truth.
      chosen m same (lower_part (extends_one skip) h) on v truth right.grows.above);
} where
  chosen : (m : Machine) → m.core ≡ core → Has c2 (length c0) (length c2) m.code → (on : Operands) (v : Value) (truth : Bool) → length c0 ≤ length c2
      → Follows (go m (and_skip truth (length c0) (length c2) (put_value v on)))
      (choice truth (operand_meaning both y v (tree_here m line)) (give (truth_value false))) (λ w. go m (point (length c0) (put_value w on)))
  chosen m same h on v true low = right.runs m same h v on
  chosen m same h on v false low =
      record { same = λ stage. ap (λ n. go m (point n (put_value (truth_value false) on)) stage) (jump_to (length c0) (length c2) low) }

-- the right side of `or` comes where the left is false
pub takes_or : {core : Core} {line : Place} (y : Meaning Value) {c0 c2 c3 : List Coded} → Takes put_value (put_only put_value) core line (operand_meaning either y) c0 c2
    → Emits line (OrSkip (length c0)) c2 c3 → Takes put_value (put_only put_value) core line (or_meaning y) c0 c3
takes_or {core = core} {line = line} y {c0 = c0} {c2 = c2} right skip = record {
  grows = extends_then right.grows (extends_one skip);
  runs = λ m same h v on.
      follows_then (runs_to m skip (upper_part right.grows h) (put_value v on) (settle (truth_of v) (tree_here m line)) (λ truth. or_skip truth (length c0) (length c2) (put_value v on)) refl) (λ truth.
      chosen m same (lower_part (extends_one skip) h) on v truth right.grows.above);
} where
  chosen : (m : Machine) → m.core ≡ core → Has c2 (length c0) (length c2) m.code → (on : Operands) (v : Value) (truth : Bool) → length c0 ≤ length c2
      → Follows (go m (or_skip truth (length c0) (length c2) (put_value v on)))
      (choice truth (give (truth_value true)) (operand_meaning either y v (tree_here m line))) (λ w. go m (point (length c0) (put_value w on)))
  chosen m same h on v false low = right.runs m same h v on
  chosen m same h on v true low =
      record { same = λ stage. ap (λ n. go m (point n (put_value (truth_value true) on)) stage) (jump_to (length c0) (length c2) low) }

-- ---- expressions of a type

pub gives_number : {core : Core} {line : Place} {x : Meaning Value} {c0 c1 c2 : List Coded} → Emits line ToNumber c0 c1 → Gives put_value core line x c1 c2
    → Gives put_number core line (λ here. x here >>= λ v. settle (number_of v) here) c0 c2
gives_number e x = gives_then e x (λ v. settle (number_of v)) (λ m v on. refl)

pub gives_cap : {core : Core} {line : Place} {x : Meaning Value} {c0 c1 c2 : List Coded} → Emits line ToCap c0 c1 → Gives put_value core line x c1 c2
    → Gives put_cap core line (λ here. x here >>= λ v. settle (cap_of v) here) c0 c2
gives_cap e x = gives_then e x (λ v. settle (cap_of v)) (λ m v on. refl)

-- ---- values

pub gives_member : {core : Core} {line : Place} {op : ℕ} {x : Meaning Value} {c0 c1 c2 c3 : List Coded} → Emits line (Member op) c0 c1 → Emits line ToCap c1 c2
    → Gives put_value core line x c2 c3 → Gives put_value core line (node_meaning (Expr-F.Member x op)) c0 c3
gives_member {op = op} {x = x} e to_cap g =
    gives_regroup x (λ v. settle (cap_of v)) (λ cap. settle (member_of op cap)) (gives_then e (gives_cap to_cap g) (λ cap. settle (member_of op cap)) (λ m cap on. refl))

-- a list of values
pub gives_list : {core : Core} {line : Place} (parts : List (Meaning Value)) {c0 c1 c2 : List Coded} → Emits line NoValues c1 c2
    → Gives (join_all join_value) core line (in_order parts) c0 c1 → Gives put_list core line (in_order parts) c0 c2
gives_list parts e g = gives_before e g (put_list []) (λ m on. refl) (λ values on. joined_values values [] on)

pub gives_apply : {core : Core} {line : Place} {function : Function} (args : List (Meaning Value)) {c0 c1 c2 : List Coded} → Emits line (Apply function) c0 c1
    → Gives put_list core line (in_order args) c1 c2 → Gives put_value core line (node_meaning (Expr-F.Apply function args)) c0 c2
gives_apply {function = function} args e g = gives_then e g (λ values here. settle (applied here.core.names function values) here) (λ m values on. refl)

pub joins_value : {core : Core} {line : Place} {x : Meaning Value} {c0 c1 c2 : List Coded} → Emits line Collect c0 c1 → Gives put_value core line x c1 c2 → Gives join_value core line x c0 c2
joins_value e g = gives_changed e g (λ m v on. refl)

-- ---- bracketed parts

pub gives_array : {core : Core} {line : Place} (parts : List (Meaning Piece)) {c0 c1 c2 c3 : List Coded} → Emits line MakeArray c0 c1
    → Gives (join_all join_piece) core line (in_order parts) c1 c2 → Emits line NoPieces c2 c3 → Gives put_value core line (node_meaning (Expr-F.Array parts)) c0 c3
gives_array parts e g begin =
    gives_then e (gives_before begin g (put_pieces []) (λ m on. refl) (λ pieces on. joined_pieces pieces [] on)) (λ pieces. settle (array_of pieces)) (λ m pieces on. refl)

pub joins_one : {core : Core} {line : Place} {x : Meaning Value} {c0 c1 c2 : List Coded} → Emits line AddPiece c0 c1 → Gives put_value core line x c1 c2
    → Gives join_piece core line (part_meaning (Part-F.One x)) c0 c2
joins_one e g = gives_then e g (λ x here. give (record { count = 1; value = x })) (λ m x on. refl)

pub joins_repeated : {core : Core} {line : Place} {count x : Meaning Value} {c0 c1 c2 c3 c4 : List Coded} → Emits line AddRepeated c0 c1 → Gives put_value core line x c1 c2
    → Emits line ToNumber c2 c3 → Gives put_value core line count c3 c4 → Gives join_piece core line (part_meaning (Part-F.Repeated count x)) c0 c4
joins_repeated {line = line} {count = count} {x = x} {c0 = c0} e g to_number n = record {
  grows = extends_then (extends_then (extends_one e) g.grows) (gives_number to_number n).grows;
  runs = λ m same h on.
      let number = gives_number to_number n in
      let below = lower_part number.grows h in
      follows_ungroup (count (tree_here m line)) (λ v. settle (number_of v) (tree_here m line))
      (λ i. x (tree_here m line) >>= λ v. settle (count_of i) (tree_here m line) >>= λ times. give (record { count = times; value = v }))
      (follows_then (number.runs m same (upper_part (extends_then (extends_one e) g.grows) h) on) (λ i.
      follows_then (g.runs m same (upper_part (extends_one e) below) (put_number i on)) (λ v.
      follows_then (runs_past m e (lower_part g.grows below) (put_value v (put_number i on)) (settle (count_of i) (tree_here m line)) (λ times. join_piece (record { count = times; value = v }) on) refl) (λ times.
      follows_give (λ piece. go m (point (length c0) (join_piece piece on))) (record { count = times; value = v })))));
}

-- ---- places

pub gives_load : {core : Core} {line : Place} {place : Meaning Located} {c0 c1 c2 : List Coded} → Emits line Load c0 c1 → Gives put_place core line place c1 c2
    → Gives put_value core line (node_meaning (Expr-F.Load place)) c0 c2
gives_load e g = gives_then e g (λ at here. load_place at here) (λ m at on. refl)

same_root : (root : Root) (m : Machine) (line : Place) → root_in root (here_at m line) ≡ spot_of root (tree_here m line)
same_root (own_root var) m line = refl
same_root (shared_root my_home var) m line = refl
same_root (shared_root (imported_home at) var) m line = refl

pub gives_place : {core : Core} {line : Place} (root : Root) (path : List (Meaning Sel)) {c0 c1 c2 : List Coded} → Emits line (spot_instruction root) c1 c2
    → Gives (join_all join_sel) core line (in_order path) c0 c1 → Gives put_place core line (place_meaning (record { root = root; path = path })) c0 c2
gives_place {line = line} root path {c0 = c0} {c1 = c1} e g = record {
  grows = extends_then g.grows (extends_one e);
  runs = λ m same h on.
      let whole_place : Located = record { spot = root_in root (here_at m line); path = [] } in
      runs_first m e (upper_part g.grows h) on (point (length c1) (put_place whole_place on)) refl
      (follows_then (g.runs m same (lower_part (extends_one e) h) (put_place whole_place on)) (λ sels. record {
        same = λ stage.
            ap (λ o. go m (point (length c0) o) stage) (joined_sels sels (root_in root (here_at m line)) [] on)
            ∙ ap (λ spot. go m (point (length c0) (put_place (record { spot = spot; path = sels }) on)) stage) (same_root root m line);
      }));
}

pub joins_at : {core : Core} {line : Place} {index : Meaning Value} {c0 c1 c2 c3 : List Coded} → Emits line At c0 c1 → Emits line ToNumber c1 c2 → Gives put_value core line index c2 c3
    → Gives join_sel core line (step_meaning (Step-F.At index)) c0 c3
joins_at {index = index} e to_number g =
    gives_regroup index (λ v. settle (number_of v)) (λ i here. give (at_one i)) (gives_then e (gives_number to_number g) (λ i here. give (at_one i)) (λ m i on. refl))

-- two numbers, and then an instruction
two_numbers : {A : Type 0} {put : A → Operands → Operands} {core : Core} {line : Place} {instruction : Instruction} (row column : Meaning Value) (next : ℤ → ℤ → Meaning A) {c0 c1 c2 c3 : List Coded}
    → Emits line instruction c0 c1
    → Gives put_number core line (λ here. column here >>= λ v. settle (number_of v) here) c1 c2 → Gives put_number core line (λ here. row here >>= λ v. settle (number_of v) here) c2 c3
    → ((m : Machine) (i j : ℤ) (on : Operands) → act m.core instruction (here_at m line) (length c0) (put_number j (put_number i on)) ≡ (next i j (tree_here m line) >>= λ a. goes (length c0) (put a on)))
    → Gives put core line (λ here. row here >>= λ x. settle (number_of x) here >>= λ i. column here >>= λ y. settle (number_of y) here >>= λ j. next i j here) c0 c3
two_numbers {put = put} {line = line} row column next e second first is = record {
  grows = extends_then (extends_then (extends_one e) second.grows) first.grows;
  runs = λ m same h on.
      let below = lower_part first.grows h in
      follows_ungroup (row (tree_here m line)) (λ v. settle (number_of v) (tree_here m line))
      (λ i. column (tree_here m line) >>= λ y. settle (number_of y) (tree_here m line) >>= λ j. next i j (tree_here m line))
      (follows_then (first.runs m same (upper_part (extends_then (extends_one e) second.grows) h) on) (λ i.
      follows_ungroup (column (tree_here m line)) (λ v. settle (number_of v) (tree_here m line)) (λ j. next i j (tree_here m line))
      (follows_then (second.runs m same (upper_part (extends_one e) below) (put_number i on)) (λ j.
      runs_past m e (lower_part second.grows below) (put_number j (put_number i on)) (next i j (tree_here m line)) (λ a. put a on) (is m i j on)))));
}

pub joins_at2 : {core : Core} {line : Place} {row column : Meaning Value} {c0 c1 c2 c3 c4 c5 : List Coded} → Emits line At2 c0 c1 → Emits line ToNumber c1 c2
    → Gives put_value core line column c2 c3 → Emits line ToNumber c3 c4 → Gives put_value core line row c4 c5 → Gives join_sel core line (step_meaning (Step-F.At2 row column)) c0 c5
joins_at2 {row = row} {column = column} e to_second second to_first first =
    two_numbers row column (λ i j here. give (at_two i j)) e (gives_number to_second second) (gives_number to_first first) (λ m i j on. refl)

pub joins_field : {core : Core} {line : Place} {field : ℕ} {c0 c1 : List Coded} → Emits line (Field field) c0 c1 → Gives join_sel core line (step_meaning (Step-F.Field field)) c0 c1
joins_field {field = field} e = gives_first e (step_meaning (Step-F.Field field)) (λ m on. refl)

-- ---- parts of values

pub selects_field : {core : Core} {line : Place} {field : ℕ} {c0 c1 : List Coded} → Emits line (PartField field) c0 c1
    → Takes put_value (put_only put_value) core line (part_meaning_of (step_meaning (Step-F.Field field))) c0 c1
selects_field {line = line} {field = field} e = record {
  grows = extends_one e;
  runs = λ m same h v on. runs_past m e h (put_value v on) (settle (part_of v (at_field field)) (tree_here m line)) (λ u. put_value u on) refl;
}

-- the index is grouped within the step
pub selects_at : {core : Core} {line : Place} {index : Meaning Value} {c0 c1 c2 c3 : List Coded} → Emits line PartAt c0 c1 → Emits line ToNumber c1 c2 → Gives put_value core line index c2 c3
    → Takes put_value (put_only put_value) core line (part_meaning_of (step_meaning (Step-F.At index))) c0 c3
selects_at {line = line} {index = index} e to_number g = record {
  grows = extends_then (extends_one e) (gives_number to_number g).grows;
  runs = λ m same h v on.
      let n = gives_number to_number g in
      follows_regroup (index (tree_here m line)) (λ x. settle (number_of x) (tree_here m line) >>= λ i. give (at_one i)) (λ sel. settle (part_of v sel) (tree_here m line))
      (follows_within (index (tree_here m line)) (λ x. settle (number_of x) (tree_here m line)) (λ i. give (at_one i)) (λ sel. settle (part_of v sel) (tree_here m line))
      (follows_then (n.runs m same (upper_part (extends_one e) h) (put_value v on)) (λ i.
      runs_past m e (lower_part n.grows h) (put_number i (put_value v on)) (settle (part_of v (at_one i)) (tree_here m line)) (λ u. put_value u on) refl)));
}

pub selects_at2 : {core : Core} {line : Place} {row column : Meaning Value} {c0 c1 c2 c3 c4 c5 : List Coded} → Emits line PartAt2 c0 c1 → Emits line ToNumber c1 c2
    → Gives put_value core line column c2 c3 → Emits line ToNumber c3 c4 → Gives put_value core line row c4 c5
    → Takes put_value (put_only put_value) core line (part_meaning_of (step_meaning (Step-F.At2 row column))) c0 c5
selects_at2 {line = line} {row = row} {column = column} e to_second second to_first first = record {
  grows = extends_then (extends_then (extends_one e) (gives_number to_second second).grows) (gives_number to_first first).grows;
  runs = λ m same h v on.
      let n = gives_number to_first first in
      let k = gives_number to_second second in
      let low = extends_then (extends_one e) k.grows in
      let below = lower_part n.grows h in
      follows_regroup (row (tree_here m line)) (λ x. settle (number_of x) (tree_here m line) >>= λ i. column (tree_here m line) >>= λ y. settle (number_of y) (tree_here m line) >>= λ j. give (at_two i j))
      (λ sel. settle (part_of v sel) (tree_here m line))
      (follows_within (row (tree_here m line)) (λ x. settle (number_of x) (tree_here m line)) (λ i. column (tree_here m line) >>= λ y. settle (number_of y) (tree_here m line) >>= λ j. give (at_two i j))
      (λ sel. settle (part_of v sel) (tree_here m line))
      (follows_then (n.runs m same (upper_part low h) (put_value v on)) (λ i.
      follows_regroup (column (tree_here m line)) (λ y. settle (number_of y) (tree_here m line) >>= λ j. give (at_two i j)) (λ sel. settle (part_of v sel) (tree_here m line))
      (follows_within (column (tree_here m line)) (λ y. settle (number_of y) (tree_here m line)) (λ j. give (at_two i j)) (λ sel. settle (part_of v sel) (tree_here m line))
      (follows_then (k.runs m same (upper_part (extends_one e) below) (put_number i (put_value v on))) (λ j.
      runs_past m e (lower_part k.grows below) (put_number j (put_number i (put_value v on))) (settle (part_of v (at_two i j)) (tree_here m line)) (λ u. put_value u on) refl))))));
}

-- ---- arguments

pub joins_val : {core : Core} {line : Place} {x : Meaning Value} {c0 c1 c2 : List Coded} → Emits line PassValue c0 c1 → Gives put_value core line x c1 c2
    → Gives join_sent core line (argument_meaning (Argument-F.Val x)) c0 c2
joins_val e g = gives_then e g (λ x here. give (record { value = Some x; back = None })) (λ m x on. refl)

pub joins_var : {core : Core} {line : Place} {place : Meaning Located} {c0 c1 c2 : List Coded} → Emits line PassVar c0 c1 → Gives put_place core line place c1 c2
    → Gives join_sent core line (argument_meaning (Argument-F.Var place)) c0 c2
joins_var {line = line} {c0 = c0} e g = record {
  grows = extends_then (extends_one e) g.grows;
  runs = λ m same h on. follows_then (g.runs m same (upper_part (extends_one e) h) on) (λ at.
      follows_then (runs_past m e (lower_part g.grows h) (put_place at on) (load_place at (tree_here m line)) (λ x. join_place at (join_argument x on)) refl) (λ x.
      follows_give (λ sent. go m (point (length c0) (join_sent sent on))) (record { value = Some x; back = Some at })));
}

pub joins_res : {core : Core} {line : Place} {place : Meaning Located} {c0 c1 c2 : List Coded} → Emits line PassRes c0 c1 → Gives put_place core line place c1 c2
    → Gives join_sent core line (argument_meaning (Argument-F.Res place)) c0 c2
joins_res e g = gives_then e g (λ at here. give (record { value = None; back = Some at })) (λ m at on. refl)

-- ---- places that are read into

same_kind : (kind : Readable) → kind_asked kind ≡ kind_of kind
same_kind an_int = refl
same_kind a_bool = refl
same_kind a_char = refl
same_kind a_str = refl

pub joins_reading : {core : Core} {line : Place} (kind : Readable) (place : Meaning Located) {c0 c1 c2 : List Coded} → Emits line (AddReading kind) c0 c1 → Gives put_place core line place c1 c2
    → Gives join_target core line (reading_meaning (record { kind = kind; place = place })) c0 c2
joins_reading kind place {c0 = c0} e g =
    gives_then e g (λ at here. give (record { kind = kind_of kind; place = at }))
    (λ m at on. ap (λ k. goes (length c0) (join_target (record { kind = k; place = at }) on)) (same_kind kind))

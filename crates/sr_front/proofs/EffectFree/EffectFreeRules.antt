-- What is made of side-effect-free parts is side-effect-free: a rule for each construct of the core.
use Rattle.std.proofs.Common.{◌≡◌, ℕ, Bool, false, List, [], ◌∷◌, ◌++◌, Option, Some, None, map, IsTrue, refl, sym, ap, ◌∙◌, not}
use Rattle.std.proofs.lemmas.Bool.{and_from}
use Rattle.std.proofs.lemmas.List.Folds.{list_all-append, list_all-map}
use Rattle.std.specs.List.{list_all}
use Rattle.sr_value.specs.declared.operator.Operator.{Operator}
use Rattle.sr_core.specs.declared.component.Operation.{Operation}
use Rattle.sr_core.specs.declared.expression.Argument.{Argument}
use Rattle.sr_core.specs.declared.expression.Argument.TheFolds.{fold-Argument, fold-Part, fold-PlaceExpr, fold-Reading, fold-Step, fold-roll-Expr, fold-roll-Part, fold-roll-PlaceExpr, fold-roll-Step, fold_out-PlaceExpr, map-Expr, map-Part, map-Step}
use Rattle.sr_core.specs.declared.expression.Argument.TheOpen.{Expr-F, Part-F, Step-F}
use Rattle.sr_core.specs.declared.expression.Expr.{Expr, roll-Expr}
use Rattle.sr_core.specs.declared.expression.Expr.TheVariants as core
use Rattle.sr_core.specs.declared.expression.Function.{Function}
use Rattle.sr_core.specs.declared.expression.Leaf.{Leaf}
use Rattle.sr_core.specs.declared.expression.Leaf.TheVariants as leaf
use Rattle.sr_core.specs.declared.expression.Part.{Part, roll-Part}
use Rattle.sr_core.specs.declared.expression.Part.TheVariants as part
use Rattle.sr_core.specs.declared.expression.PlaceExpr.{PlaceExpr, out-PlaceExpr, roll-PlaceExpr}
use Rattle.sr_core.specs.declared.expression.Reading.{Reading}
use Rattle.sr_core.specs.declared.expression.Step.{Step, roll-Step}
use Rattle.sr_core.specs.declared.expression.Step.TheVariants as step
use Rattle.sr_core.specs.declared.owner.Root.{Root}
use Rattle.sr_core.specs.EffectFree.{is_effect_free, leaf_waits, node_effect_free, part_effect_free, step_effect_free}
use Rattle.sr_lower_expr.specs.declared.scene.Lowered.{Lowered}
use Rattle.sr_lower_expr.specs.declared.scene.Lowered.TheVariants as lowered
use Rattle.sr_lower_expr.specs.declared.scene.Scene.{Scene}
use Rattle.sr_lower_expr.specs.Places.{further, naming, nothing, operation_at, operation_number, part_of, place_at, value_of}
use Rattle.sr_names.specs.declared.spot.Spot.{Spot}
use Rattle.sr_lower_expr.proofs.PlaceNumbers.{operation_found}

-- ---- the parts of an expression

abbrev argument_effect_free : Argument → Bool
argument_effect_free = fold-Argument Bool Bool Bool Bool Bool Bool (λ argument. false) node_effect_free part_effect_free step_effect_free (λ place. list_all (λ step. step) place.path) (λ reading. false)

abbrev pub part_is_effect_free : Part → Bool
part_is_effect_free = fold-Part Bool Bool Bool Bool Bool Bool (λ argument. false) node_effect_free part_effect_free step_effect_free (λ place. list_all (λ step. step) place.path) (λ reading. false)

abbrev pub step_is_effect_free : Step → Bool
step_is_effect_free = fold-Step Bool Bool Bool Bool Bool Bool (λ argument. false) node_effect_free part_effect_free step_effect_free (λ place. list_all (λ step. step) place.path) (λ reading. false)

abbrev pub place_is_effect_free : PlaceExpr → Bool
place_is_effect_free = fold-PlaceExpr Bool Bool Bool Bool Bool Bool (λ argument. false) node_effect_free part_effect_free step_effect_free (λ place. list_all (λ step. step) place.path) (λ reading. false)

abbrev reading_effect_free : Reading → Bool
reading_effect_free = fold-Reading Bool Bool Bool Bool Bool Bool (λ argument. false) node_effect_free part_effect_free step_effect_free (λ place. list_all (λ step. step) place.path) (λ reading. false)

abbrev pub lowered_is_effect_free : Lowered → Bool
lowered_is_effect_free (lowered.Place place) = place_is_effect_free place
lowered_is_effect_free (lowered.Value value) = is_effect_free value

-- ---- expressions

rolled : (node : Expr-F Argument Expr Part Step PlaceExpr Reading) (expr : Expr) → roll-Expr node ≡ expr
    → IsTrue (node_effect_free (map-Expr Argument Expr Part Step PlaceExpr Reading Bool Bool Bool Bool Bool Bool argument_effect_free is_effect_free part_is_effect_free step_is_effect_free place_is_effect_free reading_effect_free node))
    → IsTrue (is_effect_free expr)
rolled node expr is effect_free =
    ap is_effect_free (sym is)
    ∙ fold-roll-Expr Bool Bool Bool Bool Bool Bool (λ argument. false) node_effect_free part_effect_free step_effect_free (λ place. list_all (λ step. step) place.path) (λ reading. false) node
    ∙ effect_free

each_effect_free : {A : Type 0} (test : A → Bool) (things : List A) → IsTrue (list_all test things) → IsTrue (list_all (λ one. one) (map test things))
each_effect_free test things all = list_all-map (λ one. one) test things ∙ all

pub leaf_rule : (leaf : Leaf) → IsTrue (not (leaf_waits leaf)) → IsTrue (is_effect_free (core.Leaf leaf))
leaf_rule leaf effect_free = rolled (Expr-F.Leaf leaf) (core.Leaf leaf) (core.rolls-Leaf leaf) effect_free

pub load_rule : (place : PlaceExpr) → IsTrue (place_is_effect_free place) → IsTrue (is_effect_free (core.Load place))
load_rule place effect_free = rolled (Expr-F.Load place) (core.Load place) (core.rolls-Load place) effect_free

pub unary_rule : (op : Operator) (operand : Expr) → IsTrue (is_effect_free operand) → IsTrue (is_effect_free (core.Unary op operand))
unary_rule op operand effect_free = rolled (Expr-F.Unary op operand) (core.Unary op operand) (core.rolls-Unary op operand) effect_free

pub binary_rule : (op : Operator) (left right : Expr) → IsTrue (is_effect_free left) → IsTrue (is_effect_free right) → IsTrue (is_effect_free (core.Binary op left right))
binary_rule op left right first second = rolled (Expr-F.Binary op left right) (core.Binary op left right) (core.rolls-Binary op left right) (and_from _ _ first second)

pub and_rule : (left right : Expr) → IsTrue (is_effect_free left) → IsTrue (is_effect_free right) → IsTrue (is_effect_free (core.And left right))
and_rule left right first second = rolled (Expr-F.And left right) (core.And left right) (core.rolls-And left right) (and_from _ _ first second)

pub or_rule : (left right : Expr) → IsTrue (is_effect_free left) → IsTrue (is_effect_free right) → IsTrue (is_effect_free (core.Or left right))
or_rule left right first second = rolled (Expr-F.Or left right) (core.Or left right) (core.rolls-Or left right) (and_from _ _ first second)

pub apply_rule : (function : Function) (args : List Expr) → IsTrue (list_all is_effect_free args) → IsTrue (is_effect_free (core.Apply function args))
apply_rule function args all = rolled (Expr-F.Apply function args) (core.Apply function args) (core.rolls-Apply function args) (each_effect_free is_effect_free args all)

pub array_rule : (parts : List Part) → IsTrue (list_all part_is_effect_free parts) → IsTrue (is_effect_free (core.Array parts))
array_rule parts all = rolled (Expr-F.Array parts) (core.Array parts) (core.rolls-Array parts) (each_effect_free part_is_effect_free parts all)

pub of_rule : (whole : Expr) (step : Step) → IsTrue (is_effect_free whole) → IsTrue (step_is_effect_free step) → IsTrue (is_effect_free (core.Of whole step))
of_rule whole step first second = rolled (Expr-F.Of whole step) (core.Of whole step) (core.rolls-Of whole step) (and_from _ _ first second)

pub member_rule : (of : Expr) (op : ℕ) → IsTrue (is_effect_free of) → IsTrue (is_effect_free (core.Member of op))
member_rule of op effect_free = rolled (Expr-F.Member of op) (core.Member of op) (core.rolls-Member of op) effect_free

-- ---- steps

rolled_step : (node : Step-F Argument Expr Part Step PlaceExpr Reading) (one : Step) → roll-Step node ≡ one
    → IsTrue (step_effect_free (map-Step Argument Expr Part Step PlaceExpr Reading Bool Bool Bool Bool Bool Bool argument_effect_free is_effect_free part_is_effect_free step_is_effect_free place_is_effect_free reading_effect_free node))
    → IsTrue (step_is_effect_free one)
rolled_step node one is effect_free =
    ap step_is_effect_free (sym is)
    ∙ fold-roll-Step Bool Bool Bool Bool Bool Bool (λ argument. false) node_effect_free part_effect_free step_effect_free (λ place. list_all (λ step. step) place.path) (λ reading. false) node
    ∙ effect_free

pub at_rule : (index : Expr) → IsTrue (is_effect_free index) → IsTrue (step_is_effect_free (step.At index))
at_rule index effect_free = rolled_step (Step-F.At index) (step.At index) (step.rolls-At index) effect_free

pub at2_rule : (row column : Expr) → IsTrue (is_effect_free row) → IsTrue (is_effect_free column) → IsTrue (step_is_effect_free (step.At2 row column))
at2_rule row column first second = rolled_step (Step-F.At2 row column) (step.At2 row column) (step.rolls-At2 row column) (and_from _ _ first second)

pub field_rule : (field : ℕ) → IsTrue (step_is_effect_free (step.Field field))
field_rule field = rolled_step (Step-F.Field field) (step.Field field) (step.rolls-Field field) refl

-- ---- parts of arrays

rolled_part : (node : Part-F Argument Expr Part Step PlaceExpr Reading) (one : Part) → roll-Part node ≡ one
    → IsTrue (part_effect_free (map-Part Argument Expr Part Step PlaceExpr Reading Bool Bool Bool Bool Bool Bool argument_effect_free is_effect_free part_is_effect_free step_is_effect_free place_is_effect_free reading_effect_free node))
    → IsTrue (part_is_effect_free one)
rolled_part node one is effect_free =
    ap part_is_effect_free (sym is)
    ∙ fold-roll-Part Bool Bool Bool Bool Bool Bool (λ argument. false) node_effect_free part_effect_free step_effect_free (λ place. list_all (λ step. step) place.path) (λ reading. false) node
    ∙ effect_free

pub one_rule : (value : Expr) → IsTrue (is_effect_free value) → IsTrue (part_is_effect_free (part.One value))
one_rule value effect_free = rolled_part (Part-F.One value) (part.One value) (part.rolls-One value) effect_free

pub repeated_rule : (count value : Expr) → IsTrue (is_effect_free count) → IsTrue (is_effect_free value) → IsTrue (part_is_effect_free (part.Repeated count value))
repeated_rule count value first second = rolled_part (Part-F.Repeated count value) (part.Repeated count value) (part.rolls-Repeated count value) (and_from _ _ first second)

-- ---- places

pub place_rule : (root : Root) (path : List Step) → IsTrue (list_all step_is_effect_free path) → IsTrue (place_is_effect_free (roll-PlaceExpr (record { root = root; path = path })))
place_rule root path all =
    fold-roll-PlaceExpr Bool Bool Bool Bool Bool Bool (λ argument. false) node_effect_free part_effect_free step_effect_free (λ place. list_all (λ step. step) place.path) (λ reading. false) (record { root = root; path = path })
    ∙ each_effect_free step_is_effect_free path all

-- the steps of a side-effect-free place
path_effect_free : (place : PlaceExpr) → IsTrue (place_is_effect_free place) → IsTrue (list_all step_is_effect_free (out-PlaceExpr place).path)
path_effect_free place effect_free =
    sym (list_all-map (λ one. one) step_is_effect_free (out-PlaceExpr place).path)
    ∙ sym (fold_out-PlaceExpr Bool Bool Bool Bool Bool Bool (λ argument. false) node_effect_free part_effect_free step_effect_free (λ place. list_all (λ step. step) place.path) (λ reading. false) place)
    ∙ effect_free

further_effect_free : (place : PlaceExpr) (step : Step) → IsTrue (place_is_effect_free place) → IsTrue (step_is_effect_free step) → IsTrue (place_is_effect_free (further place step))
further_effect_free place step effect_free_place effect_free_step =
    place_rule (out-PlaceExpr place).root ((out-PlaceExpr place).path ++ step ∷ [])
    (list_all-append step_is_effect_free (out-PlaceExpr place).path (step ∷ []) ∙ and_from _ _ (path_effect_free place effect_free_place) (and_from _ _ effect_free_step refl))

pub place_at_effect_free : (root : Root) → IsTrue (place_is_effect_free (place_at root))
place_at_effect_free root = place_rule root [] refl

pub value_of_effect_free : (one : Lowered) → IsTrue (lowered_is_effect_free one) → IsTrue (is_effect_free (value_of one))
value_of_effect_free (lowered.Place place) effect_free = load_rule place effect_free
value_of_effect_free (lowered.Value value) effect_free = effect_free

pub part_of_effect_free : (one : Lowered) (step : Step) → IsTrue (lowered_is_effect_free one) → IsTrue (step_is_effect_free step) → IsTrue (lowered_is_effect_free (part_of one step))
part_of_effect_free (lowered.Place place) step effect_free effect_free_step = further_effect_free place step effect_free effect_free_step
part_of_effect_free (lowered.Value value) step effect_free effect_free_step = of_rule value step effect_free effect_free_step

-- ---- operations

pub nothing_effect_free : IsTrue (is_effect_free nothing)
nothing_effect_free = leaf_rule (leaf.Constant _) refl

pub naming_effect_free : (scene : Scene) (spot : Spot) (made : Operation → ℕ → Expr) → ((operation : Operation) (number : ℕ) → IsTrue (is_effect_free (made operation number)))
    → IsTrue (is_effect_free (naming scene spot made))
naming_effect_free scene spot made effect_free = by (operation_at scene spot)
  where
    by : (found : Option Operation) → IsTrue (is_effect_free (operation_found scene spot made found))
    by None = nothing_effect_free
    by (Some operation) = effect_free operation (operation_number scene spot)

-- Declarations and formals: their code asks what they ask.
use Rattle.std.proofs.Common.{◌≡◌, ℕ, List, [], ◌∷◌, length, Option, Some, None, refl, sym, ◌∙◌, ap}
use Rattle.sr_value.specs.declared.place.Place.{Place}
use Rattle.sr_value.specs.declared.shape.Dims.TheVariants.{One as one_dim, Two as two_dims}
use Rattle.sr_value.specs.declared.shape.Shape.{Shape}
use Rattle.sr_value.specs.declared.shape.Shape.TheVariants.{Arr as an_array}
use Rattle.sr_value.specs.declared.value.Value.{Value}
use Rattle.sr_ask.specs.Behaviors.{Stage, Outcome, Came, Stops, Doing, and_then, give, ◌>>=◌}
use Rattle.sr_ask.specs.Places.{make as make_at, store_place as place_store, string_of_length, whole}
use Rattle.sr_ask.specs.declared.ask.Asks.{Asks}
use Rattle.sr_ask.specs.declared.environment.Spot.{Spot}
use Rattle.sr_ask.specs.declared.environment.Spot.TheVariants.{Own as an_own}
use Rattle.sr_core.specs.Formals.{sent_to, sent_after}
use Rattle.sr_core.specs.Values.{bounded_by, formal_shape}
use Rattle.sr_core.specs.declared.component.Core.{Core}
use Rattle.sr_core.specs.declared.expression.Expr.{Expr}
use Rattle.sr_core.specs.declared.formal.Formal.{Formal}
use Rattle.sr_core.specs.declared.formal.Returned.{Returned}
use Rattle.sr_core.specs.declared.statement.Declaration.{Declaration}
use Rattle.sr_core.specs.declared.statement.DimsExpr.TheVariants.{One as one_range, Two as two_ranges}
use Rattle.sr_core.specs.declared.statement.ItemShape.{ItemShape}
use Rattle.sr_core.specs.declared.statement.ItemShape.TheVariants.{Fixed as fixed_item, Str as string_item}
use Rattle.sr_core.specs.declared.statement.Range.{Range}
use Rattle.sr_core.specs.declared.statement.Scope.{Scope}
use Rattle.sr_core.specs.declared.statement.Scope.TheVariants.{Own as own_scope, Shared as shared_scope}
use Rattle.sr_core.specs.declared.statement.Setup.{Setup}
use Rattle.sr_core.specs.declared.statement.ShapeExpr.{ShapeExpr}
use Rattle.sr_code.specs.Acts.{Point, point, store_argument}
use Rattle.sr_code.specs.Operands.{put_list, put_number, put_shape, put_value}
use Rattle.sr_code.specs.Owners.{variable_in}
use Rattle.sr_code.specs.Runs.{Machine, go, here_at, then_asks}
use Rattle.sr_code.specs.Stretches.{Emits, Follows, Has}
use Rattle.sr_code.specs.declared.code.Coded.{Coded}
use Rattle.sr_code.specs.declared.instruction.Instruction.TheVariants.{FixedShape, StringShape, OneDimension, TwoDimensions, Make, MakeLike, StoreIn, MakeFormal, StoreFormal, DropList}
use Rattle.sr_code.specs.declared.operands.Operands.{Operands}
use Rattle.sr_code.proofs.Stretches.{extends_one, extends_self, extends_then, follows_as, follows_give, follows_then, lower_part, runs_act, runs_first, runs_past, upper_part}
use Rattle.sr_meaning.specs.Expressions.{expr_meaning}
use Rattle.sr_meaning.specs.Here.{settle}
use Rattle.sr_meaning.specs.Places.{store_place}
use Rattle.sr_meaning.specs.Statements.{declaration_meaning, dims_shape, first_value, item_shape, make, make_formals, make_returned, number_expr, setup_meaning, shape_meaning, spot_in, store_sent}
use Rattle.sr_gen_expr.specs.Emitting.{Gives, Takes, put_nothing, put_only, tree_here}
use Rattle.sr_gen_expr.proofs.Stretching.{gives_first, gives_then}

-- ---- shapes

pub gives_fixed : {core : Core} {line : Place} {shape : Shape} {c0 c1 : List Coded} → Emits line (FixedShape shape) c0 c1 → Gives put_shape core line (item_shape (fixed_item shape)) c0 c1
gives_fixed {shape = shape} e = gives_first e (item_shape (fixed_item shape)) (λ m on. refl)

pub gives_string : {core : Core} {line : Place} (most : Expr) {c0 c1 c2 : List Coded} → Emits line StringShape c0 c1 → Gives put_number core line (number_expr most) c1 c2
    → Gives put_shape core line (item_shape (string_item most)) c0 c2
gives_string {line = line} most {c0 = c0} e g =
    gives_then e g (λ n. settle (string_of_length n))
    (λ m n on. refl)

pub gives_one : {core : Core} {line : Place} (range : Range) (item : ItemShape) {c0 c1 c2 c3 c4 : List Coded} → Emits line OneDimension c0 c1
    → Gives put_shape core line (item_shape item) c1 c2 → Gives put_number core line (number_expr range.hi) c2 c3 → Gives put_number core line (number_expr range.lo) c3 c4
    → Gives put_shape core line (dims_shape (one_range range) item) c0 c4
gives_one range item {c0 = c0} {c1 = c1} e shaped hi lo = record {
  grows = extends_then (extends_then (extends_then (extends_one e) shaped.grows) hi.grows) lo.grows;
  runs = λ m same h on.
      let to_shape = extends_then (extends_one e) shaped.grows in
      let b3 = lower_part lo.grows h in
      let b2 = lower_part hi.grows b3 in
      follows_then (lo.runs m same (upper_part (extends_then to_shape hi.grows) h) on) (λ l.
      follows_then (hi.runs m same (upper_part to_shape b3) (put_number l on)) (λ u.
      follows_then (shaped.runs m same (upper_part (extends_one e) b2) (put_number u (put_number l on))) (λ shape.
      runs_first m e (lower_part shaped.grows b2) (put_shape shape (put_number u (put_number l on))) (point (length c0) (put_shape (an_array (one_dim l u) shape) on)) refl
      (follows_give (λ s. go m (point (length c0) (put_shape s on))) (an_array (one_dim l u) shape)))));
}

pub gives_two : {core : Core} {line : Place} (range range2 : Range) (item : ItemShape) {c0 c1 c2 c3 c4 c5 c6 : List Coded} → Emits line TwoDimensions c0 c1
    → Gives put_shape core line (item_shape item) c1 c2 → Gives put_number core line (number_expr range2.hi) c2 c3 → Gives put_number core line (number_expr range2.lo) c3 c4
    → Gives put_number core line (number_expr range.hi) c4 c5 → Gives put_number core line (number_expr range.lo) c5 c6
    → Gives put_shape core line (dims_shape (two_ranges range range2) item) c0 c6
gives_two range range2 item {c0 = c0} {c1 = c1} e shaped hi2 lo2 hi lo = record {
  grows = extends_then (extends_then (extends_then (extends_then (extends_then (extends_one e) shaped.grows) hi2.grows) lo2.grows) hi.grows) lo.grows;
  runs = λ m same h on.
      let to_shape = extends_then (extends_one e) shaped.grows in
      let to_hi2 = extends_then to_shape hi2.grows in
      let to_lo2 = extends_then to_hi2 lo2.grows in
      let b5 = lower_part lo.grows h in
      let b4 = lower_part hi.grows b5 in
      let b3 = lower_part lo2.grows b4 in
      let b2 = lower_part hi2.grows b3 in
      follows_then (lo.runs m same (upper_part (extends_then to_lo2 hi.grows) h) on) (λ l.
      follows_then (hi.runs m same (upper_part to_lo2 b5) (put_number l on)) (λ u.
      follows_then (lo2.runs m same (upper_part to_hi2 b4) (put_number u (put_number l on))) (λ l2.
      follows_then (hi2.runs m same (upper_part to_shape b3) (put_number l2 (put_number u (put_number l on)))) (λ u2.
      follows_then (shaped.runs m same (upper_part (extends_one e) b2) (put_number u2 (put_number l2 (put_number u (put_number l on))))) (λ shape.
      runs_first m e (lower_part shaped.grows b2) (put_shape shape (put_number u2 (put_number l2 (put_number u (put_number l on)))))
      (point (length c0) (put_shape (an_array (two_dims l u l2 u2) shape) on)) refl
      (follows_give (λ s. go m (point (length c0) (put_shape s on))) (an_array (two_dims l u l2 u2) shape)))))));
}

-- ---- declarations

-- a declaration means what its setup means
pub setup_is : (declaration : Declaration) (setup : Setup) → declaration.setup ≡ setup
    → declaration_meaning declaration ≡ (λ here. setup_meaning setup (spot_in declaration.scope declaration.var here) here)
setup_is declaration setup is = ap (λ found. λ here. setup_meaning found (spot_in declaration.scope declaration.var here) here) is

same_spot : (scope : Scope) (var : ℕ) (m : Machine) (line : Place) → variable_in scope var (here_at m line) ≡ spot_in scope var (tree_here m line)
same_spot own_scope var m line = refl
same_spot shared_scope var m line = refl

pub gives_no_value : (core : Core) (line : Place) (scope : Scope) (var : ℕ) (c0 : List Coded) → Gives put_nothing core line (λ here. first_value None (spot_in scope var here) here) c0 c0
gives_no_value core line scope var c0 = record { grows = extends_self c0; runs = λ m same h on. follows_give (λ _. go m (point (length c0) on)) tt }

-- a value is stored in a whole variable
stores_in : (scope : Scope) (var : ℕ) (m : Machine) {line : Place} {c0 c1 : List Coded} → Emits line (StoreIn scope var) c0 c1 → Has c1 (length c0) (length c1) m.code → (value : Value) (on : Operands)
    → Follows (go m (point (length c1) (put_value value on))) (store_place (whole (spot_in scope var (tree_here m line))) value (tree_here m line)) (λ _. go m (point (length c0) on))
stores_in scope var m {line = line} e h value on =
    follows_as (ap (λ spot. store_place (whole spot) value (tree_here m line)) (sym (same_spot scope var m line)))
    (runs_past m e h (put_value value on) (place_store (whole (variable_in scope var (here_at m line))) value (here_at m line)) (λ _. on) refl)

pub gives_value : {core : Core} {line : Place} (scope : Scope) (var : ℕ) (expr : Expr) {c0 c1 c2 : List Coded} → Emits line (StoreIn scope var) c0 c1 → Gives put_value core line (expr_meaning expr) c1 c2
    → Gives put_nothing core line (λ here. first_value (Some expr) (spot_in scope var here) here) c0 c2
gives_value scope var expr e g = record {
  grows = extends_then (extends_one e) g.grows;
  runs = λ m same h on. follows_then (g.runs m same (upper_part (extends_one e) h) on) (λ v. stores_in scope var m e (lower_part g.grows h) v on);
}

pub gives_typed : {core : Core} {line : Place} (scope : Scope) (var : ℕ) (shape : ShapeExpr) (value : Option Expr) {c0 c1 c2 c3 : List Coded}
    → Gives put_nothing core line (λ here. first_value value (spot_in scope var here) here) c0 c1 → Emits line (Make scope var) c1 c2 → Gives put_shape core line (shape_meaning shape) c2 c3
    → Gives put_nothing core line (λ here. shape_meaning shape here >>= λ found. make (spot_in scope var here) found here >>= λ _. first_value value (spot_in scope var here) here) c0 c3
gives_typed {line = line} scope var shape value first e shaped = record {
  grows = extends_then (extends_then first.grows (extends_one e)) shaped.grows;
  runs = λ m same h on.
      let below = lower_part shaped.grows h in
      follows_then (shaped.runs m same (upper_part (extends_then first.grows (extends_one e)) h) on) (λ found.
      follows_then (follows_as (ap (λ spot. make spot found (tree_here m line)) (sym (same_spot scope var m line)))
      (runs_past m e (upper_part first.grows below) (put_shape found on) (make_at (variable_in scope var (here_at m line)) found (here_at m line)) (λ _. on) refl)) (λ _.
      first.runs m same (lower_part (extends_one e) below) on));
}

pub gives_untyped : {core : Core} {line : Place} (scope : Scope) (var : ℕ) (shape : Shape) (expr : Expr) {c0 c1 c2 c3 : List Coded} → Emits line (StoreIn scope var) c0 c1
    → Emits line (MakeLike scope var shape) c1 c2 → Gives put_value core line (expr_meaning expr) c2 c3
    → Gives put_nothing core line (λ here. expr_meaning expr here >>= λ value. make (spot_in scope var here) (bounded_by shape value) here >>= λ _. store_place (whole (spot_in scope var here)) value here) c0 c3
gives_untyped {line = line} scope var shape expr store e g = record {
  grows = extends_then (extends_then (extends_one store) (extends_one e)) g.grows;
  runs = λ m same h on.
      let below = lower_part g.grows h in
      follows_then (g.runs m same (upper_part (extends_then (extends_one store) (extends_one e)) h) on) (λ v.
      follows_then (follows_as (ap (λ spot. make spot (bounded_by shape v) (tree_here m line)) (sym (same_spot scope var m line)))
      (runs_past m e (upper_part (extends_one store) below) (put_value v on) (make_at (variable_in scope var (here_at m line)) (bounded_by shape v) (here_at m line)) (λ _. put_value v on) refl)) (λ _.
      stores_in scope var m store (lower_part (extends_one e) below) v on));
}

-- ---- formals

-- two pieces of an instruction, and then the rest
follows_both : {A B C : Type 0} {start : Stage → Asks} (first : Doing A) (second : A → Doing B) (to : Point) {next : Point → Stage → Asks} {rest : Doing C} {last : C → Stage → Asks}
    → Follows start (first >>= λ a. second a >>= λ _. give to) next → Follows (next to) rest last → Follows start (first >>= λ a. second a >>= λ _. rest) last
follows_both {A = A} {B = B} first second to {next = next} {rest = rest} {last = last} f g = record { same = λ stage. f.same stage ∙ both (first stage) } where
  after : (o : Outcome B) → then_asks (and_then o (λ _. give to)) next ≡ then_asks (and_then o (λ _. rest)) last
  after (Came b stage) = g.same stage
  after (Stops asks) = refl

  both : (o : Outcome A) → then_asks (and_then o (λ a. second a >>= λ _. give to)) next ≡ then_asks (and_then o (λ a. second a >>= λ _. rest)) last
  both (Came a stage) = after (second a stage)
  both (Stops asks) = refl

same_argument : (value : Option Value) (spot : Spot) (m : Machine) (line : Place) → store_argument value spot (here_at m line) ≡ store_sent value spot (tree_here m line)
same_argument None spot m line = refl
same_argument (Some value) spot m line = refl

pub formals_none : {core : Core} {line : Place} (scope : Scope) {c0 c1 : List Coded} → Emits line DropList c0 c1 → Takes put_list (put_only put_nothing) core line (λ args. make_formals scope [] args) c0 c1
formals_none scope {c0 = c0} e = record {
  grows = extends_one e;
  runs = λ m same h args on. runs_first m e h (put_list args on) (point (length c0) on) refl (follows_give (λ _. go m (point (length c0) on)) tt);
}

pub formals_more : {core : Core} {line : Place} (scope : Scope) (formal : Formal) (formals : List Formal) {c0 c1 c2 c3 : List Coded} → Takes put_list (put_only put_nothing) core line (λ args. make_formals scope formals args) c0 c1
    → Emits line (StoreFormal scope formal.var formal.mode) c1 c2 → Emits line (MakeFormal scope formal.var formal.mode formal.shape) c2 c3
    → Takes put_list (put_only put_nothing) core line (λ args. make_formals scope (formal ∷ formals) args) c0 c3
formals_more {line = line} scope formal formals {c0 = c0} {c1 = c1} {c2 = c2} rest store e = record {
  grows = extends_then rest.grows (extends_then (extends_one store) (extends_one e));
  runs = λ m same h args on.
      let below = lower_part (extends_one e) h in
      let sent = sent_to formal.mode args in
      follows_as (ap (λ spot. settle (formal_shape formal.shape sent) (tree_here m line) >>= λ shape. make spot shape (tree_here m line) >>= λ _.
      store_sent sent spot (tree_here m line) >>= λ _. make_formals scope formals (sent_after formal.mode args) (tree_here m line)) (sym (same_spot scope formal.var m line)))
      (follows_both (settle (formal_shape formal.shape sent) (tree_here m line)) (λ shape. make (variable_in scope formal.var (here_at m line)) shape (tree_here m line)) (point (length c2) (put_list args on))
      (runs_act m e (upper_part (extends_then rest.grows (extends_one store)) h) (put_list args on))
      (follows_then (follows_as (sym (same_argument sent (variable_in scope formal.var (here_at m line)) m line))
      (runs_past m store (upper_part rest.grows below) (put_list args on) (store_argument sent (variable_in scope formal.var (here_at m line)) (here_at m line)) (λ _. put_list (sent_after formal.mode args) on) refl)) (λ _.
      rest.runs m same (lower_part (extends_one store) below) (sent_after formal.mode args) on)));
}

-- ---- the returned name

pub returned_none : (core : Core) (line : Place) (c0 : List Coded) → Gives put_nothing core line (make_returned None) c0 c0
returned_none core line c0 = record { grows = extends_self c0; runs = λ m same h on. follows_give (λ _. go m (point (length c0) on)) tt }

pub returned_some : {line : Place} (name : Returned) {c0 c1 c2 : List Coded} → Emits line (Make own_scope name.var) c0 c1 → Emits line (FixedShape name.shape) c1 c2
    → (core : Core) → Gives put_nothing core line (make_returned (Some name)) c0 c2
returned_some {line = line} name {c1 = c1} e shape core = record {
  grows = extends_then (extends_one e) (extends_one shape);
  runs = λ m same h on.
      runs_first m shape (upper_part (extends_one e) h) on (point (length c1) (put_shape name.shape on)) refl
      (runs_past m e (lower_part (extends_one shape) h) (put_shape name.shape on) (make_at (an_own name.var) name.shape (here_at m line)) (λ _. on) refl);
}

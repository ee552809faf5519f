-- The spans of the names in an expression are picked from its tokens.
use Rattle.std.proofs.Common.{◌≡◌, sym, subst, ℕ, List, ◌∷◌, Some, None, map, flat_map}
use Rattle.sr_tree.specs.declared.expr.Create.{Create, roll-Create}
use Rattle.sr_tree.specs.declared.expr.Create.TheOpen.{Create-F, Expr-F, Invocation-F, Part-F}
use Rattle.sr_tree.specs.declared.expr.Create.TheVariants as create
use Rattle.sr_tree.specs.declared.expr.Expr.{Expr, roll-Expr}
use Rattle.sr_tree.specs.declared.expr.Expr.TheVariants as expr
use Rattle.sr_tree.specs.declared.expr.Invocation.{Invocation, roll-Invocation}
use Rattle.sr_tree.specs.declared.expr.Part.{Part, roll-Part}
use Rattle.sr_tree.specs.declared.name.QualifiedName.{QualifiedName}
use Rattle.sr_tree.specs.declared.token.Token.{Token}
use Rattle.sr_tree.specs.Expressions as g
use Rattle.sr_tree.specs.Expressions.{SpellsQualifiedName, SpellsExpr, SpellsFactor, SpellsCreate, SpellsPrimary, SpellsPart, SpellsMoreParts, SpellsArguments, SpellsMoreExprs, expr_span, invocation}
use Rattle.sr_tree.specs.Tables.{name_of}
use Rattle.sr_order.specs.Order.{Picks, nothing, left_out, picked}
use Rattle.sr_order.specs.Spans.{joined}
use Rattle.sr_order.specs.Names.{qualified_names, create_names, expr_names, invocation_names, part_names}
use Rattle.sr_tree.proofs.ExprFolds.{create_folds, expr_folds, from_create, from_expr, from_invocation, from_part, invocation_folds, part_folds}
use Rattle.sr_order.proofs.NameFolds.{expr_naming}
use Rattle.sr_order.proofs.Picked.{none, both, first, gathered}

-- ---- what is picked for the parts of a tree is picked for the tree

module _ {u : List Token} where
  of_create : {tree : Create} (x : Create-F Create Expr Invocation Part) → roll-Create x ≡ tree → Picks (from_create expr_naming x) u → Picks (create_names tree) u
  of_create x rolls p = subst (λ tree. Picks (create_names tree) u) rolls (subst (λ spans. Picks spans u) (create_folds expr_naming x) p)

  of_expr : {tree : Expr} (x : Expr-F Create Expr Invocation Part) → roll-Expr x ≡ tree → Picks (from_expr expr_naming x) u → Picks (expr_names tree) u
  of_expr x rolls p = subst (λ tree. Picks (expr_names tree) u) rolls (subst (λ spans. Picks spans u) (expr_folds expr_naming x) p)

  of_invocation : (x : Invocation-F Create Expr Invocation Part) → Picks (from_invocation expr_naming x) u → Picks (invocation_names (roll-Invocation x)) u
  of_invocation x p = subst (λ spans. Picks spans u) (invocation_folds expr_naming x) p

  of_part : (x : Part-F Create Expr Invocation Part) → Picks (from_part expr_naming x) u → Picks (part_names (roll-Part x)) u
  of_part x p = subst (λ spans. Picks spans u) (part_folds expr_naming x) p

  -- and those of an invocation are those of the expression that it is
  pub called : (i : Invocation) → Picks (expr_names (expr.Call i)) u → Picks (invocation_names i) u
  called i p = subst (λ spans. Picks spans u) (sym (expr_folds expr_naming (Expr-F.Call i))) (subst (λ tree. Picks (expr_names tree) u) (sym (expr.rolls-Call i)) p)

-- ---- expressions

pub qualified-picked : {q : QualifiedName} {u : List Token} → SpellsQualifiedName q u → Picks (qualified_names q) u
qualified-picked (g.plain n h) = picked n nothing
qualified-picked (g.qualified n p m h i j) = picked n (left_out p (picked m nothing))

mutual
  pub expr-picked : {level : ℕ} {e : Expr} {u : List Token} → SpellsExpr level e u → Picks (expr_names e) u
  expr-picked (g.factor d) = factor-picked d
  expr-picked (g.binary {a = a} {b = b} t o h l x y) =
      of_expr (Expr-F.Binary (expr_span a) a o b) (expr.rolls-Binary (expr_span a) a o b) (both (expr-picked x) (left_out t (expr-picked y)))

  factor-picked : {e : Expr} {u : List Token} → SpellsFactor e u → Picks (expr_names e) u
  factor-picked (g.creates {c = c} d) = of_expr (Expr-F.Create c) (expr.rolls-Create c) (create-picked d)
  factor-picked (g.primary d) = primary-picked d
  factor-picked (g.unary {e = e} t o h d) = of_expr (Expr-F.Unary t.span o e) (expr.rolls-Unary t.span o e) (left_out t (factor-picked d))
  factor-picked (g.pending t n h i) = of_expr (Expr-F.Pending t.span (name_of n)) (expr.rolls-Pending t.span (name_of n)) (left_out t (picked n nothing))

  pub create-picked : {c : Create} {u : List Token} → SpellsCreate c u → Picks (create_names c) u
  create-picked (g.resource {q = q} {es = es} t o k h n i a j g.not_on) =
      of_create (Create-F.Resource t.span q es None) (create.rolls-Resource t.span q es None)
      (left_out t (both (qualified-picked n) (left_out o (both (arguments-picked a) (left_out k nothing)))))
  create-picked (g.resource {q = q} {es = es} t o k h n i a j (g.on_machine {e = e} w l d)) =
      of_create (Create-F.Resource t.span q es (Some e)) (create.rolls-Resource t.span q es (Some e))
      (left_out t (both (qualified-picked n) (left_out o (both (arguments-picked a) (left_out k (left_out w (primary-picked d)))))))
  create-picked (g.machine t v o k h i j l) = of_create (Create-F.Machine t.span) (create.rolls-Machine t.span) none

  pub primary-picked : {e : Expr} {u : List Token} → SpellsPrimary e u → Picks (expr_names e) u
  primary-picked (g.literal t l h) = of_expr (Expr-F.Literal t.span l) (expr.rolls-Literal t.span l) none
  primary-picked (g.name t h) = of_expr (Expr-F.Name (name_of t)) (expr.rolls-Name (name_of t)) (picked t nothing)
  primary-picked (g.basic_type t b h) = of_expr (Expr-F.BasicType t.span b) (expr.rolls-BasicType t.span b) none
  primary-picked (g.conversion {e = e} t o k c h i d j) =
      of_expr (Expr-F.Conversion t.span c e) (expr.rolls-Conversion t.span c e) (left_out t (left_out o (first _ (expr-picked d))))
  primary-picked (g.group {e = e} o k h d i) = of_expr (Expr-F.Group o.span e) (expr.rolls-Group o.span e) (left_out o (first _ (expr-picked d)))
  primary-picked (g.parts {p = p} {ps = ps} o k h d m a i) =
      of_expr (Expr-F.Parts o.span (p ∷ ps)) (expr.rolls-Parts o.span (p ∷ ps)) (left_out o (both (part-picked d) (first _ (more-parts m))))
  primary-picked (g.field {p = p} t n d h i) =
      of_expr (Expr-F.Field (expr_span p) p (name_of n)) (expr.rolls-Field (expr_span p) p (name_of n)) (both (primary-picked d) (left_out t (picked n nothing)))
  primary-picked (g.index {p = p} {e = e} o k d h x g.no_second i) =
      of_expr (Expr-F.Index (expr_span p) p e None) (expr.rolls-Index (expr_span p) p e None)
      (both (primary-picked d) (left_out o (both (expr-picked x) (left_out k nothing))))
  primary-picked (g.index {p = p} {e = e} o k d h x (g.second {e = f} t j y) i) =
      of_expr (Expr-F.Index (expr_span p) p e (Some f)) (expr.rolls-Index (expr_span p) p e (Some f))
      (both (primary-picked d) (left_out o (both (expr-picked x) (left_out t (first _ (expr-picked y))))))
  primary-picked (g.call {p = p} {es = es} o k d n h a i) =
      of_expr (Expr-F.Call (invocation p es)) (expr.rolls-Call (invocation p es))
      (of_invocation (record { span = expr_span p; callee = p; arguments = es }) (both (primary-picked d) (left_out o (first _ (arguments-picked a)))))

  part-picked : {p : Part} {u : List Token} → SpellsPart p u → Picks (part_names p) u
  part-picked (g.once {e = e} d) = of_part (record { span = expr_span e; count = None; value = e }) (expr-picked d)
  part-picked (g.repeated {c = c} {e = e} o k h d i v) =
      of_part (record { span = o.span; count = Some c; value = e }) (left_out o (both (expr-picked d) (left_out k (expr-picked v))))

  more-parts : {ps : List Part} {u : List Token} → SpellsMoreParts ps u → Picks (joined (map part_names ps)) u
  more-parts g.no_more_parts = nothing
  more-parts (g.one_more_part t h d m) = left_out t (both (part-picked d) (more-parts m))

  arguments-picked : {es : List Expr} {u : List Token} → SpellsArguments es u → Picks (joined (map expr_names es)) u
  arguments-picked g.no_arguments = nothing
  arguments-picked (g.arguments d m) = both (expr-picked d) (more-exprs m)

  more-exprs : {es : List Expr} {u : List Token} → SpellsMoreExprs es u → Picks (joined (map expr_names es)) u
  more-exprs g.no_more_exprs = nothing
  more-exprs (g.one_more_expr t h d m) = left_out t (both (expr-picked d) (more-exprs m))

-- the same, where the expressions are no parts of an expression
pub exprs-picked : {es : List Expr} {u : List Token} → SpellsMoreExprs es u → Picks (flat_map expr_names es) u
exprs-picked {es = es} d = gathered expr_names es (more-exprs d)

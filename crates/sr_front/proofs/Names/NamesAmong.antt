-- The names that the value of a declaration needs are among the names in it.
use Rattle.std.proofs.Common.{◌⊎◌, inl, inr, List, [], ◌∷◌, ◌++◌, map, Option, Some, None, subst}
use Rattle.sr_check_decl.specs.NamesIn.{concat_spans, names_in, names_in_create, names_in_invocation, names_in_part}
use Rattle.sr_order.specs.Spans.{joined}
use Rattle.sr_order.specs.Names.{create_names, expr_names, invocation_names, part_names, qualified_names}
use Rattle.sr_scope.proofs.Findings.{in_either, in_left, in_right}
use Rattle.sr_scope.specs.Uses.{IsIn}
use Rattle.sr_tree.specs.declared.expr.Create.TheOpen.{Create-F, Expr-F}
use Rattle.sr_tree.specs.declared.expr.Expr.{Expr as Tree}
use Rattle.sr_tree.specs.declared.expr.Part.{Part as PartTree}
use Rattle.sr_value.specs.declared.place.Span.{Span}
use Rattle.sr_tree.proofs.ExprFolds.{ByParts, Claim, CreateNode, ExprNode, InvocationNode, Known, PartNode, bare_create, bare_expr, bare_invocation, bare_part, create_folds, each_expr, expr_folds, from_create, from_expr, from_invocation, from_part, invocation_folds, part_folds}
use Rattle.sr_order.proofs.NameFolds.{expr_naming}
use Rattle.sr_front.proofs.Typed.TypingFolds.{needing}

abbrev S : Type 0
S = List Span

-- all of the one stand in the other
abbrev Within : S → S → Type 0
Within some all = (span : Span) → IsIn span some → IsIn span all

both : (a b c d : S) → Within a b → Within c d → Within (a ++ c) (b ++ d)
both a b c d first second span k = by (in_either span a c k)
  where
    by : IsIn span a ⊎ IsIn span c → IsIn span (b ++ d)
    by (inl h) = in_left span b d (first span h)
    by (inr h) = in_right span b d (second span h)

after : (before a b : S) → Within a b → Within a (before ++ b)
after before a b within span k = in_right span before b (within span k)

same : (a : S) → Within a a
same a span k = k

abbrev PartGood : PartTree → Type 0
PartGood tree = Within (names_in_part tree) (part_names tree)

abbrev TreeGood : Tree → Type 0
TreeGood tree = Within (names_in tree) (expr_names tree)

abbrev good : Claim
good = record {
  create = λ tree. Within (names_in_create tree) (create_names tree);
  expr = TreeGood;
  invocation = λ tree. Within (names_in_invocation tree) (invocation_names tree);
  part = PartGood;
}

-- ---- each kind of tree from its parts

some_exprs : (trees : List (Known TreeGood)) → Within (concat_spans (map names_in (map (λ (tree : Known TreeGood). tree.0) trees))) (joined (map expr_names (map (λ (tree : Known TreeGood). tree.0) trees)))
some_exprs [] = same []
some_exprs (tree ∷ trees) = both _ _ _ _ tree.1 (some_exprs trees)

some_parts : (trees : List (Known PartGood)) → Within (concat_spans (map names_in_part (map (λ (tree : Known PartGood). tree.0) trees))) (joined (map part_names (map (λ (tree : Known PartGood). tree.0) trees)))
some_parts [] = same []
some_parts (tree ∷ trees) = both _ _ _ _ tree.1 (some_parts trees)

create_within : (y : CreateNode good) → Within (from_create needing (bare_create good y)) (from_create expr_naming (bare_create good y))
create_within (Create-F.Resource span resource arguments None) = after (qualified_names resource) _ _ (both _ _ [] [] (some_exprs arguments) (same []))
create_within (Create-F.Resource span resource arguments (Some machine)) = after (qualified_names resource) _ _ (both _ _ _ _ (some_exprs arguments) machine.1)
create_within (Create-F.Machine span) = same []

expr_within : (y : ExprNode good) → Within (from_expr needing (bare_expr good y)) (from_expr expr_naming (bare_expr good y))
expr_within (Expr-F.Name name) = same (name.span ∷ [])
expr_within (Expr-F.Conversion span conversion value) = value.1
expr_within (Expr-F.Group span inner) = inner.1
expr_within (Expr-F.Parts span parts) = some_parts parts
expr_within (Expr-F.Field span owner field) = both _ _ _ _ owner.1 (same (field.span ∷ []))
expr_within (Expr-F.Index span array first None) = both _ _ _ _ array.1 (both _ _ [] [] first.1 (same []))
expr_within (Expr-F.Index span array first (Some second)) = both _ _ _ _ array.1 (both _ _ _ _ first.1 second.1)
expr_within (Expr-F.Call invocation) = invocation.1
expr_within (Expr-F.Create create) = create.1
expr_within (Expr-F.Unary span operator operand) = operand.1
expr_within (Expr-F.Pending span operation) = same (operation.span ∷ [])
expr_within (Expr-F.Binary span left operator right) = both _ _ _ _ left.1 right.1
expr_within _ = same []

invocation_within : (y : InvocationNode good) → Within (from_invocation needing (bare_invocation good y)) (from_invocation expr_naming (bare_invocation good y))
invocation_within y = both _ _ _ _ y.callee.1 (some_exprs y.arguments)

part_within : (y : PartNode good) → Within (from_part needing (bare_part good y)) (from_part expr_naming (bare_part good y))
part_within y = by y.count
  where
    by : (count : Option (Known TreeGood)) → Within (from_part needing (bare_part good (record y { count = count }))) (from_part expr_naming (bare_part good (record y { count = count })))
    by None = y.value.1
    by (Some count) = both _ _ _ _ count.1 y.value.1

-- ---- all trees

by_parts : ByParts good
by_parts = record {
  create = λ y. subst (λ t. t) (λ i. Within (create_folds needing (bare_create good y) i) (create_folds expr_naming (bare_create good y) i)) (create_within y);
  expr = λ y. subst (λ t. t) (λ i. Within (expr_folds needing (bare_expr good y) i) (expr_folds expr_naming (bare_expr good y) i)) (expr_within y);
  invocation = λ y. subst (λ t. t) (λ i. Within (invocation_folds needing (bare_invocation good y) i) (invocation_folds expr_naming (bare_invocation good y) i)) (invocation_within y);
  part = λ y. subst (λ t. t) (λ i. Within (part_folds needing (bare_part good y) i) (part_folds expr_naming (bare_part good y) i)) (part_within y);
}

pub needs_among_names : (tree : Tree) (span : Span) → IsIn span (names_in tree) → IsIn span (expr_names tree)
needs_among_names = each_expr good by_parts

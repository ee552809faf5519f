-- What is found in constructs of several parts, part by part.
use Rattle.std.proofs.Common.{◌≡◌, refl, sym, ap, ◌∙◌, List, ◌++◌, Option, Some, None, Result, OnOk, map, subst}
use Rattle.std.proofs.lemmas.List.Sums.{fold-append}
use Rattle.std.proofs.lemmas.Result.{on_ok_weaker}
use Rattle.std.specs.Option.{option_map}
use Rattle.sr_value.specs.declared.place.Span.{Span}
use Rattle.sr_names.specs.declared.finding.Finding.{Finding}
use Rattle.sr_names.specs.declared.diagnostics.Diagnostics.{Diagnostics}
use Rattle.sr_names.specs.Diagnostics.{noted, all_noted}
use Rattle.sr_tree.specs.declared.expr.BinaryOperator.{BinaryOperator}
use Rattle.sr_tree.specs.declared.expr.Create.TheFolds.{fold-roll-Create, fold-roll-Expr, fold_out-Invocation}
use Rattle.sr_tree.specs.declared.expr.Create.TheOpen.{Create-F, Expr-F}
use Rattle.sr_tree.specs.declared.expr.Create.{Create}
use Rattle.sr_tree.specs.declared.expr.Create.TheVariants.{Resource, rolls-Resource}
use Rattle.sr_tree.specs.declared.expr.Expr.{Expr}
use Rattle.sr_tree.specs.declared.expr.Expr.TheVariants.{Index, Call, Unary, Binary, rolls-Index, rolls-Call, rolls-Unary, rolls-Binary}
use Rattle.sr_tree.specs.declared.expr.Invocation.{Invocation, out-Invocation}
use Rattle.sr_tree.specs.declared.expr.UnaryOperator.{UnaryOperator}
use Rattle.sr_tree.specs.declared.name.QualifiedName.{QualifiedName}
use Rattle.sr_types.specs.Operators.{unary_rule}
use Rattle.sr_names.specs.declared.meaning.Decl.{Decl}
use Rattle.sr_check_expr.specs.declared.arguments.Invoked.{Invoked}
use Rattle.sr_check_expr.specs.declared.facts.Facts.{Facts}
use Rattle.sr_check_expr.specs.declared.typed_expr.TypedExpr.{TypedExpr}
use Rattle.sr_check_expr.specs.Arguments.{all_found}
use Rattle.sr_check_expr.specs.Calls.{call_typing, parts_found, called_by}
use Rattle.sr_check_expr.specs.Creating.{create_typing, machine_found, machine_of, instance_typing, resource_named}
use Rattle.sr_check_expr.specs.Exprs.{Inferrer, CalledInferrer, PartInferrer, create_step, expr_step, invocation_step, part_step, infer_expr, infer_create, infer_invocation, infer_all, around, between, indexed, operator_of, prefix_of, second_found, second_typed}
use Rattle.sr_check_expr.specs.Typings.{Typing, typed_exprs_of}

-- ---- what is found in a construct is what is found in its parts, and then its own

pub unary-found : (span : Span) (operator : UnaryOperator) (operand : Expr) (facts : Facts) → (infer_expr (Unary span operator operand) facts).found ≡ (infer_expr operand facts).found ++ (around span (infer_expr operand facts).typed_expr (unary_rule (prefix_of operator) (infer_expr operand facts).typed_expr.typed)).found
unary-found span operator operand facts =
    ap (λ tree. (infer_expr tree facts).found) (sym (rolls-Unary span operator operand))
    ∙ ap (λ infer. (infer facts).found) (fold-roll-Expr Inferrer Inferrer CalledInferrer PartInferrer create_step expr_step invocation_step part_step (Expr-F.Unary span operator operand))

pub binary-found : (span : Span) (left : Expr) (operator : BinaryOperator) (right : Expr) (facts : Facts) → (infer_expr (Binary span left operator right) facts).found ≡ ((infer_expr left facts).found ++ (infer_expr right facts).found) ++ (between span (operator_of operator) (infer_expr left facts).typed_expr (infer_expr right facts).typed_expr).found
binary-found span left operator right facts =
    ap (λ tree. (infer_expr tree facts).found) (sym (rolls-Binary span left operator right))
    ∙ ap (λ infer. (infer facts).found) (fold-roll-Expr Inferrer Inferrer CalledInferrer PartInferrer create_step expr_step invocation_step part_step (Expr-F.Binary span left operator right))

abbrev pub optionally : Option Expr → Facts → Option Typing
optionally second facts = option_map (λ infer. infer facts) (option_map infer_expr second)

pub index-found : (span : Span) (array first : Expr) (second : Option Expr) (facts : Facts) → (infer_expr (Index span array first second) facts).found ≡ ((infer_expr array facts).found ++ ((infer_expr first facts).found ++ second_found (optionally second facts))) ++ (indexed span (infer_expr array facts).typed_expr (infer_expr first facts).typed_expr (second_typed (optionally second facts))).found
index-found span array first None facts =
    ap (λ tree. (infer_expr tree facts).found) (sym (rolls-Index span array first None))
    ∙ ap (λ infer. (infer facts).found) (fold-roll-Expr Inferrer Inferrer CalledInferrer PartInferrer create_step expr_step invocation_step part_step (Expr-F.Index span array first None))
index-found span array first (Some second) facts =
    ap (λ tree. (infer_expr tree facts).found) (sym (rolls-Index span array first (Some second)))
    ∙ ap (λ infer. (infer facts).found) (fold-roll-Expr Inferrer Inferrer CalledInferrer PartInferrer create_step expr_step invocation_step part_step (Expr-F.Index span array first (Some second)))

pub call-found : (invocation : Invocation) (facts : Facts) → (infer_expr (Call invocation) facts).found ≡ (call_typing facts (infer_invocation invocation facts)).found
call-found invocation facts =
    ap (λ tree. (infer_expr tree facts).found) (sym (rolls-Call invocation))
    ∙ ap (λ infer. (infer facts).found) (fold-roll-Expr Inferrer Inferrer CalledInferrer PartInferrer create_step expr_step invocation_step part_step (Expr-F.Call invocation))

pub create-found : (span : Span) (resource : QualifiedName) (arguments : List Expr) (machine : Option Expr) (facts : Facts) → (infer_create (Resource span resource arguments machine) facts).found ≡ (create_typing facts span resource (infer_all (map infer_expr arguments) facts) (optionally machine facts)).found
create-found span resource arguments None facts =
    ap (λ tree. (infer_create tree facts).found) (sym (rolls-Resource span resource arguments None))
    ∙ ap (λ infer. (infer facts).found) (fold-roll-Create Inferrer Inferrer CalledInferrer PartInferrer create_step expr_step invocation_step part_step (Create-F.Resource span resource arguments None))
create-found span resource arguments (Some machine) facts =
    ap (λ tree. (infer_create tree facts).found) (sym (rolls-Resource span resource arguments (Some machine)))
    ∙ ap (λ infer. (infer facts).found) (fold-roll-Create Inferrer Inferrer CalledInferrer PartInferrer create_step expr_step invocation_step part_step (Create-F.Resource span resource arguments (Some machine)))

pub machine-found : (machine : Option Typing) → machine_found machine ≡ second_found machine
machine-found None = refl
machine-found (Some machine) = refl

-- ---- and is noted in this order

pub then-noted : (old mid new : Diagnostics) (xs ys : List Finding) → mid ≡ all_noted old xs → new ≡ all_noted mid ys → new ≡ all_noted old (xs ++ ys)
then-noted old mid new xs ys first second = second ∙ ap (λ diagnostics. all_noted diagnostics ys) first ∙ sym (fold-append noted old xs ys)

-- the last step, of which a result tells whether it was done
pub at_last : {V E : Type 0} (r : Result V E) (old mid new : Diagnostics) (xs ys whole : List Finding) → whole ≡ xs ++ ys → mid ≡ all_noted old xs → OnOk r (new ≡ all_noted mid ys) → OnOk r (new ≡ all_noted old whole)
at_last r old mid new xs ys whole e first last =
    on_ok_weaker r (λ second. then-noted old mid new xs ys first second ∙ ap (λ found. all_noted old found) (sym e)) last

pub unary-noted : {V E : Type 0} (r : Result V E) (span : Span) (operator : UnaryOperator) (inner got : Expr) (operand : TypedExpr) (facts : Facts) (tree : Expr) (old mid new : Diagnostics) → tree ≡ Unary span operator inner → got ≡ inner → operand ≡ (infer_expr got facts).typed_expr → mid ≡ all_noted old (infer_expr got facts).found → OnOk r (new ≡ all_noted mid (around span operand (unary_rule (prefix_of operator) operand.typed)).found) → OnOk r (new ≡ all_noted old (infer_expr tree facts).found)
unary-noted r span operator inner got operand facts tree old mid new is got_is value first last =
    at_last r old mid new
    (infer_expr got facts).found
    (around span (infer_expr got facts).typed_expr (unary_rule (prefix_of operator) (infer_expr got facts).typed_expr.typed)).found
    (infer_expr tree facts).found
    (ap (λ each. (infer_expr each facts).found) (is ∙ ap (λ each. Unary span operator each) (sym got_is)) ∙ unary-found span operator got facts)
    first
    (subst (λ typed_expr. OnOk r (new ≡ all_noted mid (around span typed_expr (unary_rule (prefix_of operator) typed_expr.typed)).found)) value last)

pub binary-noted : {V E : Type 0} (r : Result V E) (span : Span) (operator : BinaryOperator) (before got_before after got_after : Expr) (left right : TypedExpr) (facts : Facts) (tree : Expr) (old mid later new : Diagnostics) → tree ≡ Binary span before operator after → got_before ≡ before → got_after ≡ after → left ≡ (infer_expr got_before facts).typed_expr → right ≡ (infer_expr got_after facts).typed_expr → mid ≡ all_noted old (infer_expr got_before facts).found → later ≡ all_noted mid (infer_expr got_after facts).found → OnOk r (new ≡ all_noted later (between span (operator_of operator) left right).found) → OnOk r (new ≡ all_noted old (infer_expr tree facts).found)
binary-noted r span operator before got_before after got_after left right facts tree old mid later new is before_is after_is left_is right_is first second last =
    at_last r old later new
    ((infer_expr got_before facts).found ++ (infer_expr got_after facts).found)
    (between span (operator_of operator) (infer_expr got_before facts).typed_expr (infer_expr got_after facts).typed_expr).found
    (infer_expr tree facts).found
    (ap (λ each. (infer_expr each facts).found) (is ∙ ap (λ each. Binary span each operator after) (sym before_is) ∙ ap (λ each. Binary span got_before operator each) (sym after_is)) ∙ binary-found span got_before operator got_after facts)
    (then-noted old mid later (infer_expr got_before facts).found (infer_expr got_after facts).found first second)
    (subst (λ typed_expr. OnOk r (new ≡ all_noted later (between span (operator_of operator) (infer_expr got_before facts).typed_expr typed_expr).found)) right_is
    (subst (λ typed_expr. OnOk r (new ≡ all_noted later (between span (operator_of operator) typed_expr right).found)) left_is last))

pub index-noted : {V E : Type 0} (r : Result V E) (span : Span) (whole got_whole at got_at : Expr) (second : Option Expr) (array first : TypedExpr) (other : Option TypedExpr) (facts : Facts) (tree : Expr) (old mid later last new : Diagnostics) → tree ≡ Index span whole at second → got_whole ≡ whole → got_at ≡ at → array ≡ (infer_expr got_whole facts).typed_expr → first ≡ (infer_expr got_at facts).typed_expr → other ≡ second_typed (optionally second facts) → mid ≡ all_noted old (infer_expr got_whole facts).found → later ≡ all_noted mid (infer_expr got_at facts).found → last ≡ all_noted later (second_found (optionally second facts)) → OnOk r (new ≡ all_noted last (indexed span array first other).found) → OnOk r (new ≡ all_noted old (infer_expr tree facts).found)
index-noted r span whole got_whole at got_at second array first other facts tree old mid later last new is whole_is at_is array_is first_is other_is one two three four =
    at_last r old last new
    ((infer_expr got_whole facts).found ++ ((infer_expr got_at facts).found ++ second_found (optionally second facts)))
    (indexed span (infer_expr got_whole facts).typed_expr (infer_expr got_at facts).typed_expr (second_typed (optionally second facts))).found
    (infer_expr tree facts).found
    (ap (λ each. (infer_expr each facts).found) (is ∙ ap (λ each. Index span each at second) (sym whole_is) ∙ ap (λ each. Index span got_whole each second) (sym at_is)) ∙ index-found span got_whole got_at second facts)
    (then-noted old mid last (infer_expr got_whole facts).found ((infer_expr got_at facts).found ++ second_found (optionally second facts)) one
    (then-noted mid later last (infer_expr got_at facts).found (second_found (optionally second facts)) two three))
    (subst (λ typed_expr. OnOk r (new ≡ all_noted last (indexed span (infer_expr got_whole facts).typed_expr (infer_expr got_at facts).typed_expr typed_expr).found)) other_is
    (subst (λ typed_expr. OnOk r (new ≡ all_noted last (indexed span (infer_expr got_whole facts).typed_expr typed_expr other).found)) first_is
    (subst (λ typed_expr. OnOk r (new ≡ all_noted last (indexed span typed_expr first other).found)) array_is four)))

span-of : (invocation : Invocation) (facts : Facts) → (infer_invocation invocation facts).span ≡ (out-Invocation invocation).span
span-of invocation facts = ap (λ infer. (infer facts).span) (fold_out-Invocation Inferrer Inferrer CalledInferrer PartInferrer create_step expr_step invocation_step part_step invocation)

pub call-noted : {V E : Type 0} (r : Result V E) (invocation : Invocation) (parts : Invoked) (facts : Facts) (tree : Expr) (old mid new : Diagnostics) → tree ≡ Call invocation → parts ≡ record { callee = (infer_invocation invocation facts).callee.typed_expr; arguments = typed_exprs_of (infer_invocation invocation facts).arguments } → mid ≡ all_noted old (parts_found (infer_invocation invocation facts)) → OnOk r (new ≡ all_noted mid (called_by facts (out-Invocation invocation).span parts.callee parts.arguments parts.callee.named).found) → OnOk r (new ≡ all_noted old (infer_expr tree facts).found)
call-noted r invocation parts facts tree old mid new is parts_is first last =
    at_last r old mid new
    (parts_found (infer_invocation invocation facts))
    (called_by facts (infer_invocation invocation facts).span (infer_invocation invocation facts).callee.typed_expr (typed_exprs_of (infer_invocation invocation facts).arguments) (infer_invocation invocation facts).callee.typed_expr.named).found
    (infer_expr tree facts).found
    (ap (λ each. (infer_expr each facts).found) is ∙ call-found invocation facts)
    first
    (subst (λ span. OnOk r (new ≡ all_noted mid (called_by facts span (infer_invocation invocation facts).callee.typed_expr (typed_exprs_of (infer_invocation invocation facts).arguments) (infer_invocation invocation facts).callee.typed_expr.named).found)) (sym (span-of invocation facts))
    (subst (λ each. OnOk r (new ≡ all_noted mid (called_by facts (out-Invocation invocation).span each.callee each.arguments each.callee.named).found)) parts_is last))

pub create-noted : {V E : Type 0} (r : Result V E) (span : Span) (qualified : QualifiedName) (arguments got : List Expr) (machine : Option Expr) (resource : Option Decl) (given : List TypedExpr) (on : Option TypedExpr) (facts : Facts) (tree : Create) (old mid later new : Diagnostics) → tree ≡ Resource span qualified arguments machine → got ≡ arguments → given ≡ typed_exprs_of (infer_all (map infer_expr got) facts) → on ≡ second_typed (optionally machine facts) → resource ≡ resource_named facts qualified → mid ≡ all_noted old (all_found (infer_all (map infer_expr got) facts)) → later ≡ all_noted mid (second_found (optionally machine facts)) → OnOk r (new ≡ all_noted later (instance_typing facts span resource given on).found) → OnOk r (new ≡ all_noted old (infer_create tree facts).found)
create-noted r span qualified arguments got machine resource given on facts tree old mid later new is got_is given_is on_is resource_is first second last =
    at_last r old later new
    (all_found (infer_all (map infer_expr got) facts) ++ machine_found (optionally machine facts))
    (instance_typing facts span (resource_named facts qualified) (typed_exprs_of (infer_all (map infer_expr got) facts)) (machine_of (optionally machine facts))).found
    (infer_create tree facts).found
    (ap (λ each. (infer_create each facts).found) (is ∙ ap (λ each. Resource span qualified each machine) (sym got_is)) ∙ create-found span qualified got machine facts)
    (then-noted old mid later (all_found (infer_all (map infer_expr got) facts)) (machine_found (optionally machine facts)) first (second ∙ ap (λ found. all_noted mid found) (sym (machine-found (optionally machine facts)))))
    (subst (λ each. OnOk r (new ≡ all_noted later (instance_typing facts span (resource_named facts qualified) (typed_exprs_of (infer_all (map infer_expr got) facts)) each).found)) on_is
    (subst (λ each. OnOk r (new ≡ all_noted later (instance_typing facts span (resource_named facts qualified) each on).found)) given_is
    (subst (λ each. OnOk r (new ≡ all_noted later (instance_typing facts span each given on).found)) resource_is last)))

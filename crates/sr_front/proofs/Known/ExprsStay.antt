-- What an expression is where it stands it is in the end, where no rule is broken in it: the walk over expressions.
use Rattle.std.specs.Option.{option_map}
use Rattle.std.proofs.Common.{◌≡◌, List, [], ◌∷◌, ◌++◌, map, Option, Some, None, refl, sym, ap, subst, ◌∙◌}
use Rattle.sr_value.specs.declared.place.Span.{Span}
use Rattle.sr_names.specs.Spots.{spot_of}
use Rattle.sr_names.specs.Uses.{meaning_at}
use Rattle.sr_tree.specs.declared.expr.Create.{Create}
use Rattle.sr_tree.specs.declared.expr.Create.TheOpen.{Create-F, Expr-F}
use Rattle.sr_tree.specs.declared.expr.Expr.{Expr as Tree}
use Rattle.sr_tree.specs.declared.expr.Invocation.{Invocation}
use Rattle.sr_tree.specs.declared.expr.Part.{Part as PartTree}
use Rattle.sr_tree.specs.declared.name.Name.{Name}
use Rattle.sr_tree.specs.declared.name.QualifiedName.{QualifiedName}
use Rattle.sr_tree.specs.declared.expr.Conversion.{Conversion}
use Rattle.sr_types.specs.declared.aggregates.Repeated.{Repeated}
use Rattle.sr_value.specs.declared.operator.Operator.{Operator}
use Rattle.sr_types.specs.declared.ty.Ty.{Ty}
use Rattle.sr_types.specs.declared.typed.Outcome.{Outcome}
use Rattle.sr_types.specs.declared.typed.Static.TheVariants.{Unknown}
use Rattle.sr_types.specs.Aggregates.{bracketed_rule}
use Rattle.sr_types.specs.Operators.{binary_rule, unary_rule}
use Rattle.sr_types.specs.Outcomes.{computed, met_if}
use Rattle.sr_types.specs.Signatures.{signature_of}
use Rattle.sr_types.specs.Types.{is_no_type}
use Rattle.sr_check_expr.specs.declared.facts.Facts.{Facts}
use Rattle.sr_check_expr.specs.declared.typed_expr.Named.{Named}
use Rattle.sr_check_expr.specs.declared.typed_expr.Named.TheVariants as named
use Rattle.sr_check_expr.specs.declared.typed_expr.TypedExpr.{TypedExpr}
use Rattle.sr_check_expr.specs.Arguments.{all_found}
use Rattle.sr_check_expr.specs.Calls.{Called, called_by, parts_found as called_found}
use Rattle.sr_check_expr.specs.Creating.{instance_type, instance_typing, made_of, resource_named, resource_type}
use Rattle.sr_check_expr.specs.Exprs.{around, between, conversion_outcome, field_typing, indexed, infer_all, infer_create, infer_expr, infer_invocation, infer_part, infer_parts, inferred_repeated, operator_of, part_found, parts_found, prefix_of, repeated}
use Rattle.sr_check_expr.specs.Naming.{decl_of, deciding, field_outcome}
use Rattle.sr_check_expr.specs.Typings.{Typing, settled_typed, typed_exprs_of, value_at, value_found}
use Rattle.sr_check.specs.ErrorFree.{ErrorFree}
use Rattle.sr_check.proofs.ErrorFree.{error_free_first, error_free_second}
use Rattle.sr_tree.proofs.ExprFolds.{ByParts, Claim, CreateNode, ExprNode, InvocationNode, Known, PartNode, bare_create, bare_expr, bare_invocation, bare_part, create_folds, each_expr, expr_folds, from_create, from_expr, from_invocation, from_part, invocation_folds, part_folds}
use Rattle.sr_front.proofs.Constants.Placeless.{binary_loose, bracketed_loose, called_loose, conversion_loose, field_loose, index_loose, placeless, placeless_part, takes_loose, unary_loose}
use Rattle.sr_front.proofs.Typed.TypingFolds.{inferring}
use Rattle.sr_front.proofs.Known.TypesStay.{Alike, Grows, called_alike, field_alike, made_alike, name_alike, pending_alike, settled_alike}

module _ (now end : Facts) (grows : Grows now end) where
  -- ---- each tree, when its parts are so

  abbrev CreateGood : Create → Type 0
  CreateGood tree = Alike (infer_create tree now) (infer_create tree end)

  abbrev TreeGood : Tree → Type 0
  TreeGood tree = Alike (infer_expr tree now) (infer_expr tree end)

  -- the same is called, with the same arguments
  record SameCalled (here there : Called) : Type 0 where
    span : here.span ≡ there.span
    callee : placeless here.callee.typed_expr ≡ placeless there.callee.typed_expr
    arguments : map placeless (typed_exprs_of here.arguments) ≡ map placeless (typed_exprs_of there.arguments)

  abbrev CalledAlike : Called → Called → Type 0
  CalledAlike here there = ErrorFree (called_found here) → SameCalled here there

  abbrev InvocationGood : Invocation → Type 0
  InvocationGood tree = CalledAlike (infer_invocation tree now) (infer_invocation tree end)

  abbrev PartAlike : Option Typing × Typing → Option Typing × Typing → Type 0
  PartAlike here there = ErrorFree (part_found here) → placeless_part (repeated here) ≡ placeless_part (repeated there)

  abbrev PartGood : PartTree → Type 0
  PartGood tree = PartAlike (infer_part tree now) (infer_part tree end)

  abbrev good : Claim
  good = record { create = CreateGood; expr = TreeGood; invocation = InvocationGood; part = PartGood }

  abbrev typings : List (Known TreeGood) → Facts → List Typing
  typings xs facts = infer_all (map infer_expr (map (λ (x : Known TreeGood). x.0) xs)) facts

  abbrev part_typings : List (Known PartGood) → Facts → List (Option Typing × Typing)
  part_typings xs facts = infer_parts (map infer_part (map (λ (x : Known PartGood). x.0) xs)) facts

  all_alike : (xs : List (Known TreeGood)) → ErrorFree (all_found (typings xs now)) → map placeless (typed_exprs_of (typings xs now)) ≡ map placeless (typed_exprs_of (typings xs end))
  all_alike [] whole = refl
  all_alike (x ∷ xs) whole =
      let one = x.1 (error_free_first (infer_expr x.0 now).found _ whole) in
      let more = all_alike xs (error_free_second (infer_expr x.0 now).found _ whole) in
      ap (λ (e : TypedExpr). e ∷ map placeless (typed_exprs_of (typings xs now))) one ∙ ap (λ (es : List TypedExpr). placeless (infer_expr x.0 end).typed_expr ∷ es) more

  parts_alike : (xs : List (Known PartGood)) → ErrorFree (parts_found (part_typings xs now)) → map placeless_part (map repeated (part_typings xs now)) ≡ map placeless_part (map repeated (part_typings xs end))
  parts_alike [] whole = refl
  parts_alike (x ∷ xs) whole =
      let one = x.1 (error_free_first (part_found (infer_part x.0 now)) _ whole) in
      let more = parts_alike xs (error_free_second (part_found (infer_part x.0 now)) _ whole) in
      ap (λ (e : Repeated). e ∷ map placeless_part (map repeated (part_typings xs now))) one ∙ ap (λ (es : List Repeated). placeless_part (repeated (infer_part x.0 end)) ∷ es) more

  fields_alike : (span : Span) (owner : TypedExpr) (field : Name) (is : Named) → Alike (field_typing now span owner field is) (field_typing end span owner field is)
  fields_alike span owner field (named.Component decl) = name_alike now end grows span field.span
  fields_alike span owner field _ = settled_alike span (value_found owner) (value_found owner) (field_outcome now owner.typed field.text) (field_outcome end owner.typed field.text) (field_alike now end grows owner.typed field.text)

  abbrev called_bare : Span → TypedExpr → List TypedExpr → TypedExpr
  called_bare span callee arguments = placeless (called_by end span callee arguments callee.named).typed_expr

  call_alike : (here there : Called) → SameCalled here there → ErrorFree (called_by now here.span here.callee.typed_expr (typed_exprs_of here.arguments) here.callee.typed_expr.named).found
      → placeless (called_by now here.span here.callee.typed_expr (typed_exprs_of here.arguments) here.callee.typed_expr.named).typed_expr
      ≡ placeless (called_by end there.span there.callee.typed_expr (typed_exprs_of there.arguments) there.callee.typed_expr.named).typed_expr
  call_alike here there same whole =
      called_alike now end grows here.span here.callee.typed_expr (typed_exprs_of here.arguments) here.callee.typed_expr.named whole
      ∙ (called_loose end here.span here.callee.typed_expr (typed_exprs_of here.arguments) here.callee.typed_expr.named
      ∙ (ap (λ (span : Span). called_bare span (placeless here.callee.typed_expr) (map placeless (typed_exprs_of here.arguments))) same.span
      ∙ (ap (λ (callee : TypedExpr). called_bare there.span callee (map placeless (typed_exprs_of here.arguments))) same.callee
      ∙ (ap (called_bare there.span (placeless there.callee.typed_expr)) same.arguments
      ∙ sym (called_loose end there.span there.callee.typed_expr (typed_exprs_of there.arguments) there.callee.typed_expr.named)))))

  -- what is made by arguments
  abbrev made_bare : Span → QualifiedName → List TypedExpr → Option TypedExpr → TypedExpr
  made_bare span resource arguments machine = placeless (instance_typing end span (resource_named end resource) arguments machine).typed_expr

  formals_loose : (span : Span) (instance : Ty) (formals : Option Ty) (arguments : List TypedExpr)
      → placeless (value_at span (settled_typed (made_of end arguments instance formals))) ≡ placeless (value_at span (settled_typed (made_of end (map placeless arguments) instance formals)))
  formals_loose span instance None arguments = refl
  formals_loose span instance (Some formals) arguments =
      ap (λ met. placeless (value_at span (settled_typed (met_if met (computed instance Unknown))))) (takes_loose (signature_of end.signatures formals) (is_no_type formals) arguments)

  made_loose : (span : Span) (resource : QualifiedName) (here there : List TypedExpr) (machine : Option TypedExpr) → map placeless here ≡ map placeless there → made_bare span resource here machine ≡ made_bare span resource there machine
  made_loose span resource here there machine same =
      let decl = resource_named end resource in
      let instance = instance_type decl in
      let formals = resource_type end.infos decl in
      formals_loose span instance formals here
      ∙ (ap (λ (arguments : List TypedExpr). placeless (value_at span (settled_typed (made_of end arguments instance formals)))) same
      ∙ sym (formals_loose span instance formals there))

  create_good : (y : CreateNode good) → Alike (from_create inferring (bare_create good y) now) (from_create inferring (bare_create good y) end)
  create_good (Create-F.Resource span resource arguments None) whole =
      let found = error_free_first (all_found (typings arguments now) ++ []) _ whole in
      made_alike now end grows span (resource_named now resource) (typed_exprs_of (typings arguments now)) None (error_free_second (all_found (typings arguments now) ++ []) _ whole)
      ∙ (ap (λ uses. placeless (instance_typing end span (decl_of (meaning_at uses (spot_of (deciding resource).span))) (typed_exprs_of (typings arguments now)) None).typed_expr) grows.uses
      ∙ made_loose span resource (typed_exprs_of (typings arguments now)) (typed_exprs_of (typings arguments end)) None (all_alike arguments (error_free_first (all_found (typings arguments now)) _ found)))
  create_good (Create-F.Resource span resource arguments (Some machine)) whole =
      let on = infer_expr machine.0 now in
      let found = error_free_first (all_found (typings arguments now) ++ on.found) _ whole in
      made_alike now end grows span (resource_named now resource) (typed_exprs_of (typings arguments now)) (Some on.typed_expr) (error_free_second (all_found (typings arguments now) ++ on.found) _ whole)
      ∙ (ap (λ uses. placeless (instance_typing end span (decl_of (meaning_at uses (spot_of (deciding resource).span))) (typed_exprs_of (typings arguments now)) (Some on.typed_expr)).typed_expr) grows.uses
      ∙ made_loose span resource (typed_exprs_of (typings arguments now)) (typed_exprs_of (typings arguments end)) (Some on.typed_expr) (all_alike arguments (error_free_first (all_found (typings arguments now)) _ found)))
  create_good (Create-F.Machine span) whole = refl

  invocation_good : (y : InvocationNode good) → CalledAlike (from_invocation inferring (bare_invocation good y) now) (from_invocation inferring (bare_invocation good y) end)
  invocation_good y whole = record {
    span = refl;
    callee = y.callee.1 (error_free_first (infer_expr y.callee.0 now).found _ whole);
    arguments = all_alike y.arguments (error_free_second (infer_expr y.callee.0 now).found _ whole);
  }

  part_by : (y : PartNode good) (count : Option (Known TreeGood))
      → PartAlike (from_part inferring (bare_part good (record y { count = count })) now) (from_part inferring (bare_part good (record y { count = count })) end)
  part_by y None whole =
      let found = error_free_first ([] ++ (infer_expr y.value.0 now).found) _ whole in
      ap (λ (e : TypedExpr). placeless_part (inferred_repeated None e)) (y.value.1 found)
  part_by y (Some count) whole =
      let found = error_free_first ((infer_expr count.0 now).found ++ (infer_expr y.value.0 now).found) _ whole in
      ap (λ (e : TypedExpr). placeless_part (inferred_repeated (Some e) (infer_expr y.value.0 now).typed_expr)) (count.1 (error_free_first (infer_expr count.0 now).found _ found))
      ∙ ap (λ (e : TypedExpr). placeless_part (inferred_repeated (Some (infer_expr count.0 end).typed_expr) e)) (y.value.1 (error_free_second (infer_expr count.0 now).found _ found))

  part_good : (y : PartNode good) → PartAlike (from_part inferring (bare_part good y) now) (from_part inferring (bare_part good y) end)
  part_good y = part_by y y.count

  -- the types of two constructs are the same where those of their parts are
  converted : (span : Span) (conversion : Conversion) (here there : TypedExpr) → placeless here ≡ placeless there
      → placeless (around span here (conversion_outcome conversion here.typed)).typed_expr ≡ placeless (around span there (conversion_outcome conversion there.typed)).typed_expr
  converted span conversion here there same =
      ap bare (conversion_loose conversion here.typed) ∙ (ap (λ (one : TypedExpr). bare (conversion_outcome conversion one.typed)) same ∙ ap bare (sym (conversion_loose conversion there.typed)))
    where
      bare : Outcome → TypedExpr
      bare outcome = placeless (value_at span (settled_typed outcome))

  prefixed : (span : Span) (operator : Operator) (here there : TypedExpr) → placeless here ≡ placeless there
      → placeless (around span here (unary_rule operator here.typed)).typed_expr ≡ placeless (around span there (unary_rule operator there.typed)).typed_expr
  prefixed span operator here there same =
      ap bare (unary_loose operator here.typed) ∙ (ap (λ (one : TypedExpr). bare (unary_rule operator one.typed)) same ∙ ap bare (sym (unary_loose operator there.typed)))
    where
      bare : Outcome → TypedExpr
      bare outcome = placeless (value_at span (settled_typed outcome))

  joint : (span : Span) (operator : Operator) (left right left2 right2 : TypedExpr) → placeless left ≡ placeless left2 → placeless right ≡ placeless right2
      → placeless (between span operator left right).typed_expr ≡ placeless (between span operator left2 right2).typed_expr
  joint span operator left right left2 right2 first second =
      ap bare (binary_loose operator left.typed right.typed)
      ∙ (ap (λ (one : TypedExpr). bare (binary_rule operator one.typed (placeless right).typed)) first
      ∙ (ap (λ (one : TypedExpr). bare (binary_rule operator (placeless left2).typed one.typed)) second
      ∙ ap bare (sym (binary_loose operator left2.typed right2.typed))))
    where
      bare : Outcome → TypedExpr
      bare outcome = placeless (value_at span (settled_typed outcome))

  picked : (span : Span) (array first array2 first2 : TypedExpr) (second second2 : Option TypedExpr) → placeless array ≡ placeless array2 → placeless first ≡ placeless first2 → option_map placeless second ≡ option_map placeless second2
      → placeless (indexed span array first second).typed_expr ≡ placeless (indexed span array2 first2 second2).typed_expr
  picked span array first array2 first2 second second2 a b c =
      index_loose span array first second
      ∙ (ap (λ (one : TypedExpr). placeless (indexed span one (placeless first) (option_map placeless second)).typed_expr) a
      ∙ (ap (λ (one : TypedExpr). placeless (indexed span (placeless array2) one (option_map placeless second)).typed_expr) b
      ∙ (ap (λ (one : Option TypedExpr). placeless (indexed span (placeless array2) (placeless first2) one).typed_expr) c
      ∙ sym (index_loose span array2 first2 second2))))

  expr_good : (y : ExprNode good) → Alike (from_expr inferring (bare_expr good y) now) (from_expr inferring (bare_expr good y) end)
  expr_good (Expr-F.Literal span literal) whole = refl
  expr_good (Expr-F.Name name) whole = name_alike now end grows name.span name.span whole
  expr_good (Expr-F.BasicType span basic) whole = refl
  expr_good (Expr-F.Conversion span conversion value) whole =
      converted span conversion (infer_expr value.0 now).typed_expr (infer_expr value.0 end).typed_expr (value.1 (error_free_first (infer_expr value.0 now).found _ whole))
  expr_good (Expr-F.Group span inner) whole = ap (λ (one : TypedExpr). value_at span one.typed) (inner.1 (error_free_first (infer_expr inner.0 now).found _ whole))
  expr_good (Expr-F.Parts span parts) whole =
      ap (λ outcome. placeless (value_at span (settled_typed outcome)))
      (bracketed_loose (map repeated (part_typings parts now))
      ∙ (ap bracketed_rule (parts_alike parts (error_free_first (parts_found (part_typings parts now)) _ whole)) ∙ sym (bracketed_loose (map repeated (part_typings parts end)))))
  expr_good (Expr-F.Field span owner field) whole =
      let here = (infer_expr owner.0 now).typed_expr in
      let there = (infer_expr owner.0 end).typed_expr in
      fields_alike span here field here.named (error_free_second (infer_expr owner.0 now).found _ whole)
      ∙ (field_loose end span here field here.named
      ∙ (ap (λ (one : TypedExpr). placeless (field_typing end span one field one.named).typed_expr) (owner.1 (error_free_first (infer_expr owner.0 now).found _ whole))
      ∙ sym (field_loose end span there field there.named)))
  expr_good (Expr-F.Index span array first None) whole =
      let found = error_free_first ((infer_expr array.0 now).found ++ ((infer_expr first.0 now).found ++ [])) _ whole in
      let after = error_free_second (infer_expr array.0 now).found _ found in
      picked span (infer_expr array.0 now).typed_expr (infer_expr first.0 now).typed_expr (infer_expr array.0 end).typed_expr (infer_expr first.0 end).typed_expr None None
      (array.1 (error_free_first (infer_expr array.0 now).found _ found)) (first.1 (error_free_first (infer_expr first.0 now).found _ after)) refl
  expr_good (Expr-F.Index span array first (Some second)) whole =
      let found = error_free_first ((infer_expr array.0 now).found ++ ((infer_expr first.0 now).found ++ (infer_expr second.0 now).found)) _ whole in
      let after = error_free_second (infer_expr array.0 now).found _ found in
      picked span (infer_expr array.0 now).typed_expr (infer_expr first.0 now).typed_expr (infer_expr array.0 end).typed_expr (infer_expr first.0 end).typed_expr
      (Some (infer_expr second.0 now).typed_expr) (Some (infer_expr second.0 end).typed_expr)
      (array.1 (error_free_first (infer_expr array.0 now).found _ found)) (first.1 (error_free_first (infer_expr first.0 now).found _ after))
      (ap Some (second.1 (error_free_second (infer_expr first.0 now).found _ after)))
  expr_good (Expr-F.Call invocation) whole =
      let here = infer_invocation invocation.0 now in
      call_alike here (infer_invocation invocation.0 end) (invocation.1 (error_free_first (called_found here) _ whole)) (error_free_second (called_found here) _ whole)
  expr_good (Expr-F.Create create) whole = create.1 whole
  expr_good (Expr-F.Unary span operator operand) whole =
      prefixed span (prefix_of operator) (infer_expr operand.0 now).typed_expr (infer_expr operand.0 end).typed_expr (operand.1 (error_free_first (infer_expr operand.0 now).found _ whole))
  expr_good (Expr-F.Pending span operation) whole = pending_alike now end grows span operation.span whole
  expr_good (Expr-F.Binary span left operator right) whole =
      let found = error_free_first ((infer_expr left.0 now).found ++ (infer_expr right.0 now).found) _ whole in
      joint span (operator_of operator) (infer_expr left.0 now).typed_expr (infer_expr right.0 now).typed_expr (infer_expr left.0 end).typed_expr (infer_expr right.0 end).typed_expr
      (left.1 (error_free_first (infer_expr left.0 now).found _ found)) (right.1 (error_free_second (infer_expr left.0 now).found _ found))

  -- ---- all trees

  by_parts : ByParts good
  by_parts = record {
    create = λ y. subst (λ t. t) (λ i. Alike (create_folds inferring (bare_create good y) i now) (create_folds inferring (bare_create good y) i end)) (create_good y);
    expr = λ y. subst (λ t. t) (λ i. Alike (expr_folds inferring (bare_expr good y) i now) (expr_folds inferring (bare_expr good y) i end)) (expr_good y);
    invocation = λ y. subst (λ t. t) (λ i. CalledAlike (invocation_folds inferring (bare_invocation good y) i now) (invocation_folds inferring (bare_invocation good y) i end)) (invocation_good y);
    part = λ y. subst (λ t. t) (λ i. PartAlike (part_folds inferring (bare_part good y) i now) (part_folds inferring (bare_part good y) i end)) (part_good y);
  }

  -- what an expression is here, it is in the end, but for whether it is a place
  pub expr_stays : (tree : Tree) → ErrorFree (infer_expr tree now).found → placeless (infer_expr tree now).typed_expr ≡ placeless (infer_expr tree end).typed_expr
  expr_stays = each_expr good by_parts

-- The operation that a name or an expression means.
use Rattle.std.proofs.Common.{◌≡◌, ℕ, List, Option, Some, None, refl, sym, ◌∙◌, ap}
use Rattle.sr_value.specs.declared.place.Span.{Span}
use Rattle.sr_names.specs.declared.meaning.Decl.{Decl}
use Rattle.sr_names.specs.declared.meaning.Meaning.{Meaning}
use Rattle.sr_names.specs.declared.meaning.Meaning.TheVariants.{Predefined as MeansPredefined, Declared}
use Rattle.sr_names.specs.declared.predefined.Predefined.{Predefined}
use Rattle.sr_names.specs.declared.predefined.Predefined.TheVariants.{Eof}
use Rattle.sr_names.specs.Spots.{spot_of}
use Rattle.sr_names.specs.Uses.{meaning_at}
use Rattle.sr_tree.specs.declared.expr.Create.{Create, out-Create}
use Rattle.sr_tree.specs.declared.expr.Create.TheFolds.{map-Create, map-Expr, fold_out-Create, fold_out-Expr}
use Rattle.sr_tree.specs.declared.expr.Create.TheOpen.{Create-F, Expr-F}
use Rattle.sr_tree.specs.declared.expr.Expr.{Expr, out-Expr}
use Rattle.sr_tree.specs.declared.expr.Invocation.{Invocation}
use Rattle.sr_tree.specs.declared.expr.Literal.{Literal}
use Rattle.sr_tree.specs.declared.expr.Literal.TheVariants.{Number}
use Rattle.sr_tree.specs.declared.expr.Part.{Part}
use Rattle.sr_tree.specs.declared.name.Name.{Name}
use Rattle.sr_check_expr.specs.declared.facts.Facts.{Facts}
use Rattle.sr_check_expr.specs.declared.info.Info.{Info}
use Rattle.sr_check_expr.specs.declared.info.Info.TheVariants as info
use Rattle.sr_check_expr.specs.declared.typed_expr.TypedExpr.{TypedExpr}
use Rattle.sr_check_expr.specs.declared.typed_expr.Named.{Named}
use Rattle.sr_check_expr.specs.declared.typed_expr.Named.TheVariants as named
use Rattle.sr_check_expr.specs.Calls.{called_by}
use Rattle.sr_check_expr.specs.Exprs.{Inferrer, CalledInferrer, PartInferrer, create_step, expr_step, invocation_step, part_step, field_typing, infer_create, infer_expr, infer_invocation, infer_part}
use Rattle.sr_check_expr.specs.Infos.{info_at}
use Rattle.sr_check_expr.specs.Typings.{typed_exprs_of}
use Rattle.sr_check_expr.specs.LiteralTypes.{literal_named, number_named}
use Rattle.sr_check_expr.specs.Naming.{decl_of, declared_typing, meaning_typing, name_typing, predefined_at}
use Rattle.sr_check.specs.declared.operation.Operation.{Operation}
use Rattle.sr_check.specs.Invoking.{named_operation}
use Rattle.sr_check.specs.Services.{operation_by, operation_at}
use Rattle.sr_check.specs.Servicing.{expr_meant, layer_meant, meant_at}

pub none_some : {A : Type 0} (x : A) → None ≡ Some x → ⊥
none_some x e = cc

some_same : {A : Type 0} (x y : A) → Some x ≡ Some y → x ≡ y
some_same x y e = cc

-- a declaration is meant that is an operation by what is known
pub record Meant (facts : Facts) (meant : Option Decl) (operation : Operation) : Type 0 where
  pub decl : Decl
  pub means : meant ≡ Some decl
  pub same : decl.spot ≡ operation.spot
  pub is : info_at facts.infos decl.spot ≡ Some (info.Operation operation.ty operation.component operation.is_local)

meant_by_info : (facts : Facts) (decl : Decl) (operation : Operation) (found : Option Info) → info_at facts.infos decl.spot ≡ found → operation_by decl.spot found ≡ Some operation
    → Meant facts (Some decl) operation
meant_by_info facts decl operation (Some (info.Operation ty component is_local)) at is =
    let same : record { spot = decl.spot; ty = ty; component = component; is_local = is_local } ≡ operation = some_same _ operation is in
    record { decl = decl; means = refl; same = ap (λ (o : Operation). o.spot) same; is = at ∙ ap (λ (o : Operation). Some (info.Operation o.ty o.component o.is_local)) same }
meant_by_info facts decl operation None at is = absurd (none_some operation is)
meant_by_info facts decl operation (Some _) at is = absurd (none_some operation is)

pub meant_by : (facts : Facts) (meant : Option Decl) (operation : Operation) → operation_at facts meant ≡ Some operation → Meant facts meant operation
meant_by facts None operation is = absurd (none_some operation is)
meant_by facts (Some decl) operation is = meant_by_info facts decl operation (info_at facts.infos decl.spot) refl is

module _ (facts : Facts) (operation : Operation) where
  abbrev Names : Named → Type 0
  Names name = named_operation facts name ≡ Some operation

  not_predefined : (span : Span) (name : Predefined) → named_operation facts (predefined_at span name).named ≡ None
  not_predefined span Eof = refl
  not_predefined span _ = refl

  by_info : (span : Span) (decl : Decl) (found : Option Info) → Names (declared_typing span decl found).typed_expr.named → Meant facts (Some decl) operation
  by_info span decl None is = absurd (none_some operation is)
  by_info span decl (Some (info.Operation ty component is_local)) is = meant_by facts (Some decl) operation is
  by_info span decl (Some _) is = absurd (none_some operation is)

  by_meaning : (span : Span) (meaning : Option Meaning) → Names (meaning_typing facts.infos span meaning).typed_expr.named → Meant facts (decl_of meaning) operation
  by_meaning span None is = absurd (none_some operation is)
  by_meaning span (Some (MeansPredefined name)) is = absurd (none_some operation (sym (not_predefined span name) ∙ is))
  by_meaning span (Some (Declared decl)) is = by_info span decl (info_at facts.infos decl.spot) is

  by_name : (span used : Span) → Names (name_typing facts span used).typed_expr.named → Meant facts (meant_at facts.uses used) operation
  by_name span used is = by_meaning span (meaning_at facts.uses (spot_of used)) is

  by_field : (span : Span) (owner : TypedExpr) (field : Name) (name : Named) → Names (field_typing facts span owner field name).typed_expr.named → Meant facts (meant_at facts.uses field.span) operation
  by_field span owner field (named.Component decl) is = by_name span field.span is
  by_field span owner field _ is = absurd (none_some operation is)

  not_called : (span : Span) (callee : TypedExpr) (arguments : List TypedExpr) (name : Named) → named_operation facts (called_by facts span callee arguments name).typed_expr.named ≡ None
  not_called span callee arguments (named.Predefined name) = refl
  not_called span callee arguments (named.«Type» ty) = refl
  not_called span callee arguments _ = refl

  abbrev infer_layer : Expr-F Create Expr Invocation Part → Expr-F Inferrer Inferrer CalledInferrer PartInferrer
  infer_layer = map-Expr Create Expr Invocation Part Inferrer Inferrer CalledInferrer PartInferrer infer_create infer_expr infer_invocation infer_part

  abbrev infer_made : Create-F Create Expr Invocation Part → Create-F Inferrer Inferrer CalledInferrer PartInferrer
  infer_made = map-Create Create Expr Invocation Part Inferrer Inferrer CalledInferrer PartInferrer infer_create infer_expr infer_invocation infer_part

  not_made_by : (layer : Create-F Create Expr Invocation Part) → named_operation facts (create_step (infer_made layer) facts).typed_expr.named ≡ None
  not_made_by (Create-F.Resource span resource arguments machine) = refl
  not_made_by (Create-F.Machine span) = refl

  not_made : (tree : Create) → named_operation facts (infer_create tree facts).typed_expr.named ≡ None
  not_made tree =
      ap (λ infer. named_operation facts (infer facts).typed_expr.named) (fold_out-Create Inferrer Inferrer CalledInferrer PartInferrer create_step expr_step invocation_step part_step tree)
      ∙ not_made_by (out-Create tree)

  not_number : (number : Option ℕ) → named_operation facts (number_named number) ≡ None
  not_number None = refl
  not_number (Some number) = refl

  not_literal : (literal : Literal) → named_operation facts (literal_named literal) ≡ None
  not_literal (Number text) = not_number _
  not_literal _ = refl

  by_layer : (layer : Expr-F Create Expr Invocation Part) → Names (expr_step (infer_layer layer) facts).typed_expr.named → Meant facts (layer_meant facts.uses layer) operation
  by_layer (Expr-F.Literal span literal) is = absurd (none_some operation (sym (not_literal literal) ∙ is))
  by_layer (Expr-F.Name name) is = by_name name.span name.span is
  by_layer (Expr-F.Field span owner field) is = by_field span (infer_expr owner facts).typed_expr field (infer_expr owner facts).typed_expr.named is
  by_layer (Expr-F.Call invocation) is =
      let called = infer_invocation invocation facts in
      absurd (none_some operation (sym (not_called called.span called.callee.typed_expr (typed_exprs_of called.arguments) called.callee.typed_expr.named) ∙ is))
  by_layer (Expr-F.Create create) is = absurd (none_some operation (sym (not_made create) ∙ is))
  by_layer _ is = absurd (none_some operation is)

  -- the operation that an expression names
  pub by_expr : (expr : Expr) → named_operation facts (infer_expr expr facts).typed_expr.named ≡ Some operation → Meant facts (expr_meant facts.uses expr) operation
  by_expr expr is =
      by_layer (out-Expr expr)
      (sym (ap (λ infer. named_operation facts (infer facts).typed_expr.named) (fold_out-Expr Inferrer Inferrer CalledInferrer PartInferrer create_step expr_step invocation_step part_step expr)) ∙ is)

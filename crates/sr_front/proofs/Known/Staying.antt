-- What names are that are types or components stays where statements are looked at.
use Rattle.std.proofs.Common.{true, false, List, [], ◌∷◌, Option, Some, None, refl, subst, ◌∙◌}
use Rattle.std.specs.List.{flat_map}
use Rattle.sr_names.specs.declared.spot.Spot.{Spot}
use Rattle.sr_names.specs.Spots.{spot_of}
use Rattle.sr_order.specs.Names.{const_names, decl_names, name_names, names_spans, op_item_names, quantifier_names, semaphore_names, var_names, where_some}
use Rattle.sr_tree.specs.declared.declaration.ConstDecl.{ConstDecl}
use Rattle.sr_tree.specs.declared.declaration.OpItem.{OpItem}
use Rattle.sr_tree.specs.declared.declaration.OpItem.TheVariants.{Signed, Typed}
use Rattle.sr_tree.specs.declared.declaration.Semaphore.{Semaphore}
use Rattle.sr_tree.specs.declared.declaration.VarDecl.{VarDecl}
use Rattle.sr_tree.specs.declared.name.Name.{Name}
use Rattle.sr_tree.specs.declared.statement.Quantifier.{Quantifier}
use Rattle.sr_tree.specs.declared.types.Decl.{Decl}
use Rattle.sr_types.specs.declared.signature.Param.{Param}
use Rattle.sr_types.specs.declared.signature.Signature.{Signature}
use Rattle.sr_types.specs.declared.ty.Ty.{Ty}
use Rattle.sr_types.specs.declared.ty.Ty.TheVariants as ty
use Rattle.sr_types.specs.declared.typed.Static.TheVariants.{Unknown}
use Rattle.sr_types.specs.Outcomes.{computed}
use Rattle.sr_value.specs.declared.place.Span.{Span}
use Rattle.sr_check_expr.specs.declared.facts.Facts.{Facts}
use Rattle.sr_check_expr.specs.declared.info.Info.{Info}
use Rattle.sr_check_expr.specs.declared.info.Info.TheVariants as info
use Rattle.sr_check_expr.specs.Infos.{info_at}
use Rattle.sr_check_decl.specs.Constants.{const_of}
use Rattle.sr_check_decl.specs.Declaring.{declare_name, op_item_name, op_type, operation, ops_declared, sems_declared, semaphore_signature}
use Rattle.sr_check_decl.specs.Entering.{entered, ops_entered, written_entered}
use Rattle.sr_check_decl.specs.TypeTrees.{decl_type, operation_type}
use Rattle.sr_check_decl.specs.Variables.{declare, variable, vars_declared, vars_type}
use Rattle.sr_check.specs.Components.{quantifiers_formal}
use Rattle.sr_check.specs.Quantifying.{quantified, quantifiers_known}
use Rattle.sr_check.specs.Services.{names_bound, params_of, returned_bound, returns_of, service_bound, type_or_none}
use Rattle.sr_check.specs.Statements.{const_read, var_read}
use Rattle.sr_check.proofs.Each.{Each, each-left, each-parts}
use Rattle.sr_check.proofs.Entered.{keeps_ops, keeps_written}
use Rattle.sr_front.proofs.EffectFree.EffectFreeExprs.{Stay, StaysInfo}
use Rattle.sr_front.proofs.Lists.Put.{put_holds}

-- no type and no component
abbrev pub Loose : Option Info → Type 0
Loose (Some (info.«Type» ty)) = ⊥
Loose (Some (info.Enumeration number literals)) = ⊥
Loose (Some (info.Record fields)) = ⊥
Loose (Some (info.Component ty)) = ⊥
Loose _ = Unit {0}

pub loose_stays : (before after : Option Info) → Loose before → StaysInfo before after
loose_stays (Some (info.«Type» ty)) after loose = absurd loose
loose_stays (Some (info.Enumeration number literals)) after loose = absurd loose
loose_stays (Some (info.Record fields)) after loose = absurd loose
loose_stays (Some (info.Component ty)) after loose = absurd loose
loose_stays _ after loose = tt

pub stays_through : (first second third : Option Info) → StaysInfo first second → StaysInfo second third → StaysInfo first third
stays_through (Some (info.«Type» ty)) second third a b = subst (λ one. StaysInfo one third) a b
stays_through (Some (info.Enumeration number literals)) second third a b = subst (λ one. StaysInfo one third) a b
stays_through (Some (info.Record fields)) second third a b = subst (λ one. StaysInfo one third) a b
stays_through (Some (info.Component ty)) second third a b = subst (λ one. StaysInfo one third) a b
stays_through _ second third a b = tt

pub stay_through : (first second third : Facts) → Stay first second → Stay second third → Stay first third
stay_through first second third a b = record {
  uses = a.uses ∙ b.uses;
  infos = λ spot. stays_through (info_at first.infos spot) (info_at second.infos spot) (info_at third.infos spot) (a.infos spot) (b.infos spot);
}

-- the same types and components are known, and names mean the same
pub record Same (known facts : Facts) : Type 0 where
  pub forth : Stay known facts
  pub back : Stay facts known

pub stays_self : (one : Option Info) → StaysInfo one one
stays_self (Some (info.«Type» ty)) = refl
stays_self (Some (info.Enumeration number literals)) = refl
stays_self (Some (info.Record fields)) = refl
stays_self (Some (info.Component ty)) = refl
stays_self _ = tt

pub same_self : (known : Facts) → Same known known
same_self known =
    let stay : Stay known known = record { uses = refl; infos = λ spot. stays_self (info_at known.infos spot) } in
    record { forth = stay; back = stay }

module _ (known : Facts) where
  -- no type and no component has its name at a span
  abbrev pub Free : Span → Type 0
  Free span = Loose (info_at known.infos (spot_of span))

  abbrev pub AllFree : List Span → Type 0
  AllFree = Each Free

  pub same_signatures : (facts : Facts) (signature : Signature) → Same known facts → Same known (entered signature facts)
  same_signatures facts signature same = record {
    forth = record { uses = same.forth.uses; infos = same.forth.infos };
    back = record { uses = same.back.uses; infos = same.back.infos };
  }

  -- what is declared where no type and no component is declared
  pub same_with : (facts : Facts) (spot : Spot) (one : Info) → Loose (info_at known.infos spot) → Loose (Some one) → Same known facts → Same known (declare facts spot one)
  same_with facts spot one free loose same = record {
    forth = record {
      uses = same.forth.uses;
      infos = λ other. put_holds facts spot one (λ at. StaysInfo (info_at known.infos at)) (loose_stays (info_at known.infos spot) (Some one) free) other (λ apart. same.forth.infos other);
    };
    back = record {
      uses = same.back.uses;
      infos = λ other. put_holds facts spot one (λ at found. StaysInfo found (info_at known.infos at)) (loose_stays (Some one) (info_at known.infos spot) loose) other (λ apart. same.back.infos other);
    };
  }

  pub same_value : (facts : Facts) (name : Name) (type : Ty) → Free name.span → Same known facts → Same known (declare_name facts name (variable type))
  same_value facts name type free same = same_with facts (spot_of name.span) (variable type) free tt same

  -- ---- declarations

  pub same_const : (constant : ConstDecl) (facts : Facts) → AllFree (const_names constant) → Same known facts → Same known (const_read constant facts).facts
  same_const constant facts free same =
      let after = written_entered constant.ty facts in
      same_with after (spot_of constant.name.span) (info.Value (const_of false after constant)) free.0 tt (keeps_written (Same known) same_signatures constant.ty facts same)

  same_vars : (type : Ty) (decls : List Decl) (facts : Facts) → Each (λ decl. AllFree (decl_names decl)) decls → Same known facts → Same known (vars_declared type decls facts)
  same_vars type [] facts free same = same
  same_vars type (decl ∷ decls) facts free same =
      same_vars type decls _ free.1 (same_with facts (spot_of decl.name.span) (variable (decl_type decl.dims type)) free.0.0 tt same)

  pub same_var : (variables : VarDecl) (facts : Facts) → AllFree (var_names variables) → Same known facts → Same known (var_read variables facts).facts
  same_var variables facts free same =
      let after = written_entered variables.ty facts in
      same_vars (vars_type after variables.ty variables.values) variables.decls after
      (each-parts Free decl_names variables.decls (each-left Free (flat_map decl_names variables.decls) _ free))
      (keeps_written (Same known) same_signatures variables.ty facts same)

  op_free : (op : OpItem) → AllFree (op_item_names op) → Free (op_item_name op).span
  op_free (Signed span name signature) free = free.0
  op_free (Typed span name optype) free = free.0

  same_ops_in : (ops : List OpItem) (facts : Facts) → Each (λ op. AllFree (op_item_names op)) ops → Same known facts → Same known (ops_declared true ops facts)
  same_ops_in [] facts free same = same
  same_ops_in (op ∷ ops) facts free same =
      same_ops_in ops _ free.1 (same_with facts (spot_of (op_item_name op).span) (operation facts true (op_type facts op)) (op_free op free.0) tt same)

  pub same_ops : (ops : List OpItem) (facts : Facts) → AllFree (flat_map op_item_names ops) → Same known facts → Same known (ops_declared true ops (ops_entered ops facts))
  same_ops ops facts free same = same_ops_in ops (ops_entered ops facts) (each-parts Free op_item_names ops free) (keeps_ops (Same known) same_signatures ops facts same)

  same_sems_in : (semaphores : List Semaphore) (facts : Facts) → Each (λ semaphore. AllFree (semaphore_names semaphore)) semaphores → Same known facts
      → Same known (sems_declared true semaphores facts)
  same_sems_in [] facts free same = same
  same_sems_in (semaphore ∷ more) facts free same =
      let after = entered semaphore_signature facts in
      same_sems_in more _ free.1
      (same_with after (spot_of semaphore.name.span) (operation after true (operation_type after semaphore_signature)) free.0.0 tt (same_signatures facts semaphore_signature same))

  pub same_sems : (semaphores : List Semaphore) (facts : Facts) → AllFree (flat_map semaphore_names semaphores) → Same known facts → Same known (sems_declared true semaphores facts)
  same_sems semaphores facts free same = same_sems_in semaphores facts (each-parts Free semaphore_names semaphores free) same

  -- ---- names that services and quantifiers declare

  same_names : (names : List Name) (params : List Param) (facts : Facts) → AllFree (names_spans names) → Same known facts → Same known (names_bound names params facts)
  same_names [] params facts free same = same
  same_names (name ∷ names) [] facts free same = same_names names [] (declare_name facts name (variable ty.Untyped)) free.1 (same_value facts name ty.Untyped free.0 same)
  same_names (name ∷ names) (param ∷ params) facts free same = same_names names params (declare_name facts name (variable param.ty)) free.1 (same_value facts name param.ty free.0 same)

  same_returned : (returned : Option Name) (type : Ty) (facts : Facts) → AllFree (where_some name_names returned) → Same known facts → Same known (returned_bound returned type facts)
  same_returned None type facts free same = same
  same_returned (Some name) type facts free same = same_value facts name type free.0 same

  pub same_service : (formals : List Name) (returned : Option Name) (type : Ty) (facts : Facts) → AllFree (names_spans formals) → AllFree (where_some name_names returned) → Same known facts
      → Same known (service_bound formals returned type facts)
  same_service formals returned type facts free free_returned same =
      same_returned returned (type_or_none (returns_of facts.signatures type)) (names_bound formals (params_of facts.signatures type) facts) free_returned
      (same_names formals (params_of facts.signatures type) facts free same)

  same_quantified : (quantifiers : List Quantifier) (facts : Facts) → Each (λ quantifier. AllFree (quantifier_names quantifier)) quantifiers → Same known facts
      → Same known (quantifiers_known facts quantifiers)
  same_quantified [] facts free same = same
  same_quantified (quantifier ∷ more) facts free same =
      same_quantified more (quantified facts quantifier.name) free.1
      (same_with facts (spot_of quantifier.name.span) (info.Value (computed ty.Int Unknown)) free.0.0 tt same)

  pub same_quantifiers : (quantifiers : List Quantifier) (facts : Facts) → AllFree (flat_map quantifier_names quantifiers) → Same known facts
      → Same known (quantifiers_known facts quantifiers)
  same_quantifiers quantifiers facts free same = same_quantified quantifiers facts (each-parts Free quantifier_names quantifiers free) same

  same_formals : (quantifiers : List Quantifier) (facts : Facts) → Each (λ quantifier. AllFree (quantifier_names quantifier)) quantifiers → Same known facts
      → Same known (quantifiers_formal quantifiers facts)
  same_formals [] facts free same = same
  same_formals (quantifier ∷ more) facts free same =
      same_formals more (declare_name facts quantifier.name (variable ty.Int)) free.1 (same_value facts quantifier.name ty.Int free.0.0 same)

  pub same_formal_quantifiers : (quantifiers : List Quantifier) (facts : Facts) → AllFree (flat_map quantifier_names quantifiers) → Same known facts
      → Same known (quantifiers_formal quantifiers facts)
  same_formal_quantifiers quantifiers facts free same = same_formals quantifiers facts (each-parts Free quantifier_names quantifiers free) same

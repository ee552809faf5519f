-- What is known of a type where an item is declared is known of it after the declarations, where it stands elsewhere than the
-- names of the item and those that follow; and signatures keep their numbers.
use Rattle.std.proofs.Common.{◌≡◌, ◌⊎◌, inl, inr, Bool, true, false, List, [], ◌∷◌, flat_map, map, Option, Some, None, Ok, refl, sym, ap, ◌∙◌}
use Rattle.std.proofs.lemmas.Bool.{false≢true}
use Rattle.std.specs.List.{IsDistinct}
use Rattle.sr_check.proofs.Each.{Each}
use Rattle.sr_check.proofs.Entered.{keeps_signed}
use Rattle.sr_check_decl.specs.Declaring.{component_formals, component_typed, const_declared, head_declared, making, optype_declared, untyped_vars_declared, var_declared, var_declared_by}
use Rattle.sr_check_decl.specs.Entering.{formals_entered, signature_entered, signed_entered, written_entered}
use Rattle.sr_check_decl.specs.Variables.{declare, vars_declared}
use Rattle.sr_check_expr.specs.declared.facts.Facts.{Facts}
use Rattle.sr_check_expr.specs.declared.info.Info.{Info}
use Rattle.sr_check_expr.specs.declared.info.Info.TheVariants as info
use Rattle.sr_check_expr.specs.Infos.{info_at}
use Rattle.sr_names.specs.declared.spot.Spot.{Spot}
use Rattle.sr_names.specs.Specs.{Specs}
use Rattle.sr_names.specs.Spots.{same_spot, spot_of}
use Rattle.sr_names.proofs.Marking.{entry-other}
use Rattle.sr_order.specs.Names.{file_names, formal_names}
use Rattle.sr_scope.specs.declared.program.Names.{Names}
use Rattle.sr_scope.specs.Resolved.{resolved}
use Rattle.sr_tree.specs.declared.component.Component.{Component}
use Rattle.sr_tree.specs.declared.component.File.{File}
use Rattle.sr_tree.specs.declared.declaration.ConstDecl.{ConstDecl}
use Rattle.sr_tree.specs.declared.declaration.OpTypeDecl.{OpTypeDecl}
use Rattle.sr_tree.specs.declared.declaration.VarDecl.{VarDecl}
use Rattle.sr_tree.specs.declared.types.Decl.{Decl as DeclTree}
use Rattle.sr_tree.specs.declared.types.TypeTree.{TypeTree}
use Rattle.sr_tree.specs.Parts.{formals_of, name_of}
use Rattle.sr_types.specs.declared.ty.Ty.{Ty}
use Rattle.sr_types.specs.declared.ty.Ty.TheVariants as ty
use Rattle.sr_value.specs.declared.place.Span.{Span}
use Rattle.sr_front.proofs.Own.DeclaredIn.{Stands}
use Rattle.sr_front.proofs.Known.DeclaredThen.{Leads, names_of_components}
use Rattle.sr_front.proofs.Known.KeptDeclared.{Declares, keeps_if, keeps_params}
use Rattle.sr_front.proofs.Known.KeptFormals.{component_params_free}
use Rattle.sr_front.proofs.Known.KeptNames.{Anywhere, anywhere}
use Rattle.sr_front.proofs.Known.Lasting.{Away, is_operation}
use Rattle.sr_front.proofs.Known.ProgramReads.{firm_away, whole_last}
use Rattle.sr_front.proofs.Lists.Put.{put_holds}
use Rattle.sr_front.proofs.Lists.Rising.{Rises}
use Rattle.sr_front.proofs.Typed.TypedTypes.{Counts, entered_counts, type_part}
use Rattle.sr_front.proofs.Known.TypeSites.{all, all_are_firm, firm, last, part_at, typing}
use Rattle.sr_front.proofs.Constants.WavedEnds.{not_away}

-- ---- what declarations keep

abbrev pub counts_declares : (before : Facts) → Declares (Counts before) Anywhere
counts_declares before = record { entered = entered_counts before; put = λ facts spot one free h. h; operation = λ facts spot type component is_local h. h; standing = λ facts component h. h }

module _ (spot : Spot) (part : Option Info) where
  -- it is still known, or an operation
  abbrev pub StillPart : Facts → Type 0
  StillPart facts = (part_at facts spot ≡ part) ⊎ (is_operation (info_at facts.infos spot) ≡ true)

  abbrev pub Other : Spot → Type 0
  Other at = same_spot spot at ≡ false

  part_with : (facts : Facts) (at : Spot) (one : Info) → Other at → StillPart facts → StillPart (declare facts at one)
  part_with facts at one apart (inl h) = inl (ap type_part (entry-other facts.infos at one spot apart) ∙ h)
  part_with facts at one apart (inr h) = inr (ap is_operation (entry-other facts.infos at one spot apart) ∙ h)

  part_operation : (facts : Facts) (at : Spot) (type : Ty) (component : Spot) (is_local : Bool) → StillPart facts → StillPart (declare facts at (info.Operation type component is_local))
  part_operation facts at type component is_local h = put_holds facts at (info.Operation type component is_local) (λ other found. (type_part found ≡ part) ⊎ (is_operation found ≡ true)) (inr refl) spot (λ apart. h)

  pub still_part : Declares StillPart Other
  still_part = record { entered = λ facts signature h. h; put = part_with; operation = part_operation; standing = λ facts component h. h }

-- ---- each item

module _ (Q : Facts → Type 0) (Free : Spot → Type 0) (declares : Declares Q Free) where
  kept_vars : (type : Ty) (decls : List DeclTree) (facts : Facts) → Each (λ span. Free (spot_of span)) (map (λ (decl : DeclTree). decl.name.span) decls) → Q facts → Q (vars_declared type decls facts)
  kept_vars type [] facts free h = h
  kept_vars type (decl ∷ decls) facts free h = kept_vars type decls _ free.1 (declares.put facts (spot_of decl.name.span) _ free.0 h)

  kept_untyped : (b : Bool) (decls : List DeclTree) (facts : Facts) → Each (λ span. Free (spot_of span)) (map (λ (decl : DeclTree). decl.name.span) decls) → Q facts → Q (untyped_vars_declared b decls facts)
  kept_untyped true decls facts free h = h
  kept_untyped false decls facts free h = kept_vars ty.Untyped decls facts free h

  kept_var_by : (written : Option TypeTree) (variables : VarDecl) (facts : Facts) → Each (λ span. Free (spot_of span)) (map (λ (decl : DeclTree). decl.name.span) variables.decls) → Q facts → Q (var_declared_by written variables facts)
  kept_var_by None variables facts free h = kept_untyped _ variables.decls facts free h
  kept_var_by (Some tree) variables facts free h = kept_vars _ variables.decls facts free h

  -- from where its signatures are entered
  pub kept_const : (in_spec : Bool) (constant : ConstDecl) (facts : Facts) → Free (spot_of constant.name.span) → Q (written_entered constant.ty facts) → Q (const_declared in_spec constant facts)
  kept_const in_spec constant facts free h = keeps_if Q Free declares _ constant.name _ _ free h

  pub kept_var : (variables : VarDecl) (facts : Facts) → Each (λ span. Free (spot_of span)) (map (λ (decl : DeclTree). decl.name.span) variables.decls) → Q (written_entered variables.ty facts) → Q (var_declared variables facts)
  kept_var variables facts free h = kept_var_by variables.ty variables (written_entered variables.ty facts) free h

  pub kept_optype : (named : OpTypeDecl) (facts : Facts) → Free (spot_of named.name.span) → Q (signature_entered named.signature facts) → Q (optype_declared named facts)
  kept_optype named facts free h = declares.put (signature_entered named.signature facts) (spot_of named.name.span) _ free h

  pub kept_head : (tree : Component) (facts : Facts) → Free (spot_of (name_of tree).span) → Each (λ span. Free (spot_of span)) (flat_map formal_names (formals_of tree)) → Q (formals_entered (formals_of tree) facts) → Q (head_declared tree facts)
  kept_head tree facts free formals h =
      let entering = formals_entered (formals_of tree) facts in
      let params = component_formals entering (formals_of tree) in
      let made = signed_entered (making params) entering in
      keeps_params Q Free declares params (component_typed (name_of tree) (making params) made) (component_params_free Free (formals_of tree) entering formals)
      (declares.put made (spot_of (name_of tree).span) _ free (keeps_signed Q declares.entered (making params) entering h))

-- ---- to the end of the declarations

module _ (files : List File) (names : Names) (named : resolved files ≡ Ok names) (distinct : IsDistinct same_spot (map spot_of (flat_map file_names files))) (rises : Rises (flat_map file_names files)) (specs : Specs) where
  abbrev final : Facts
  final = last files names named distinct rises specs

  abbrev types : List Span
  types = typing files names named distinct rises specs

  -- what follows leads from here to the end of the declarations
  abbrev pub Leading : List Span → Facts → Type 1
  Leading rest now = Leads (names_of_components files) rest now final

  no_operation : (spot : Spot) → Stands spot types → is_operation (info_at final.infos spot) ≡ false
  no_operation spot stands = by (info_at final.infos spot) refl
    where
      firmly : Stands spot (firm files names named distinct rises specs)
      firmly = all_are_firm spot (all files names named distinct rises specs) stands

      away : (one : Info) → (is_operation (Some one) ≡ false) ⊎ Away spot (firm files names named distinct rises specs) → is_operation (Some one) ≡ false
      away one (inl h) = h
      away one (inr far) = absurd (not_away spot (firm files names named distinct rises specs) firmly far)

      by : (found : Option Info) → info_at final.infos spot ≡ found → is_operation (info_at final.infos spot) ≡ false
      by None is = ap is_operation is
      by (Some one) is = ap is_operation is ∙ away one ((whole_last files names named distinct rises specs).0 spot one is).0.0.1.1

  -- a type that stands elsewhere than the names that follow
  pub part_lasts : (rest : List Span) (now : Facts) (spot : Spot) (part : Option Info) → Leading rest now → Stands spot types → Away spot rest → StillPart spot part now → part_at final spot ≡ part
  part_lasts rest now spot part leads stands away still =
      by (leads (StillPart spot part) (Other spot part) (still_part spot part) (firm_away files names named distinct rises specs spot (all_are_firm spot (all files names named distinct rises specs) stands)) away still)
    where
      by : StillPart spot part final → part_at final spot ≡ part
      by (inl h) = h
      by (inr operation) = absurd (false≢true (sym (no_operation spot stands) ∙ operation))

  -- signatures
  pub counts_last : (rest : List Span) (before now : Facts) → Leading rest now → Counts before now → Counts before final
  counts_last rest before now leads counts = leads (Counts before) Anywhere (counts_declares before) (anywhere (names_of_components files)) (anywhere rest) counts

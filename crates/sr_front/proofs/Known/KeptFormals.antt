-- Where the names in formals may stand, their variables may be declared.
use Rattle.std.proofs.Common.{Bool, false, List, [], ◌∷◌, map, flat_map, sym, subst}
use Rattle.sr_value.specs.declared.place.Span.{Span}
use Rattle.sr_names.specs.declared.spot.Spot.{Spot}
use Rattle.sr_names.specs.Spots.{spot_of}
use Rattle.sr_order.specs.Names.{decl_names, formal_names, formal_names_step, returned_names, returned_names_step, signature_names_step, type_names_step}
use Rattle.sr_order.specs.Spans.{joined}
use Rattle.sr_tree.specs.declared.types.Decl.{Decl}
use Rattle.sr_tree.specs.declared.types.Formal.{Formal, out-Formal}
use Rattle.sr_tree.specs.declared.types.Returned.{Returned}
use Rattle.sr_tree.specs.declared.types.TypeTree.TheFolds.{fold_out-Formal, fold_out-Returned}
use Rattle.sr_types.specs.declared.signature.Mode.{Mode}
use Rattle.sr_types.specs.declared.ty.Ty.{Ty}
use Rattle.sr_check_expr.specs.declared.facts.Facts.{Facts}
use Rattle.sr_check_decl.specs.declared.kind.NamedParam.{NamedParam}
use Rattle.sr_check_decl.specs.Declaring.{component_formals}
use Rattle.sr_check_decl.specs.TypeTrees.{Kinds, ReadsFormals, ReadsReturned, ReadsSignature, all_params, formal_read, formal_step, formals_at, formals_of as decl_params, returned_read, returned_step, signature_step, type_step}
use Rattle.sr_check.proofs.Each.{Each, each-append, each-left, each-parts, each-right}

module _ (Free : Spot → Type 0) where
  abbrev FreeName : Span → Type 0
  FreeName span = Free (spot_of span)

  abbrev AllFree : List Span → Type 0
  AllFree = Each FreeName

  abbrev pub FreeParam : NamedParam → Type 0
  FreeParam param = Free param.spot

  decls_free : (mode : Mode) (ty : Ty) (decls : List Decl) → Each (λ decl. AllFree (decl_names decl)) decls → Each FreeParam (decl_params mode ty decls)
  decls_free mode ty [] free = tt
  decls_free mode ty (decl ∷ decls) free = (free.0.0, decls_free mode ty decls free.1)

  formal_free : (formal : Formal) (facts : Facts) (is_field : Bool) → AllFree (formal_names formal) → Each FreeParam (formal_read formal facts is_field).params
  formal_free formal facts is_field free =
      subst (λ (reads : ReadsFormals). Each FreeParam (reads facts is_field).params) (sym (fold_out-Formal Kinds ReadsFormals ReadsReturned ReadsSignature type_step formal_step returned_step signature_step formal))
      (decls_free _ _ (out-Formal formal).decls
      (each-parts FreeName decl_names (out-Formal formal).decls
      (each-left FreeName (flat_map decl_names (out-Formal formal).decls) _
      (subst AllFree (fold_out-Formal (List Span) (List Span) (List Span) (List Span) type_names_step formal_names_step returned_names_step signature_names_step formal) free))))

  pub formals_free : (formals : List Formal) (facts : Facts) (is_field : Bool) → AllFree (joined (map formal_names formals)) → Each FreeParam (all_params (formals_at (map formal_read formals) facts is_field))
  formals_free [] facts is_field free = tt
  formals_free (formal ∷ formals) facts is_field free =
      each-append FreeParam (formal_read formal facts is_field).params (all_params (formals_at (map formal_read formals) facts is_field))
      (formal_free formal facts is_field (each-left FreeName (formal_names formal) _ free)) (formals_free formals facts is_field (each-right FreeName (formal_names formal) _ free))

  pub returned_free : (returned : Returned) (facts : Facts) → AllFree (returned_names returned) → FreeParam (returned_read returned facts).param
  returned_free returned facts free =
      subst (λ (reads : ReadsReturned). FreeParam (reads facts).param) (sym (fold_out-Returned Kinds ReadsFormals ReadsReturned ReadsSignature type_step formal_step returned_step signature_step returned))
      (subst AllFree (fold_out-Returned (List Span) (List Span) (List Span) (List Span) type_names_step formal_names_step returned_names_step signature_names_step returned) free).0

  -- the formals of a component
  pub component_params_free : (formals : List Formal) (facts : Facts) → AllFree (flat_map formal_names formals) → Each FreeParam (component_formals facts formals)
  component_params_free [] facts free = tt
  component_params_free (formal ∷ formals) facts free =
      each-append FreeParam (formal_read formal facts false).params (all_params (formals_at (map formal_read formals) facts false))
      (formal_free formal facts false (each-left FreeName (formal_names formal) _ free)) (component_params_free formals facts (each-right FreeName (formal_names formal) _ free))

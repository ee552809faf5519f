-- A constant that waits for its type gets none that is static: its value would have been static where it is declared, and then it would be known.
use Rattle.std.proofs.Common.{◌≡◌, inl, inr, Bool, true, false, List, Some, None, is_some, refl, sym, subst, ◌∙◌}
use Rattle.std.proofs.lemmas.Bool.{false≢true, or_right}
use Rattle.std.proofs.lemmas.Option.{none-some}
use Rattle.sr_check_decl.specs.Constants.{const_of, is_static}
use Rattle.sr_check_decl.specs.Declaring.{standing}
use Rattle.sr_check_decl.specs.Inferring.{info_by, waiting_info}
use Rattle.sr_check_decl.specs.Parts.{component_decl}
use Rattle.sr_check_decl.specs.Waiting.{Waiting, const_waiting, files_waiting}
use Rattle.sr_check_expr.specs.declared.facts.Facts.{Facts}
use Rattle.sr_check_expr.specs.declared.info.Info.TheVariants as info
use Rattle.sr_check_expr.specs.Exprs.{infer_expr}
use Rattle.sr_check_expr.specs.Infos.{info_at}
use Rattle.sr_names.specs.declared.meaning.Decl.{Decl}
use Rattle.sr_names.specs.declared.spot.Spot.{Spot}
use Rattle.sr_names.specs.Spots.{spot_of}
use Rattle.sr_order.specs.Names.{expr_names}
use Rattle.sr_scope.specs.Uses.{IsIn}
use Rattle.sr_tables.specs.Parts.{components_in}
use Rattle.sr_tree.specs.declared.component.Component.{Component}
use Rattle.sr_tree.specs.declared.component.File.{File}
use Rattle.sr_tree.specs.declared.component.Item.TheVariants as item
use Rattle.sr_tree.specs.declared.component.SpecItem.TheVariants as spec
use Rattle.sr_tree.specs.declared.declaration.ConstDecl.{ConstDecl}
use Rattle.sr_tree.specs.Parts.{body_of, spec_of}
use Rattle.sr_value.specs.declared.place.Span.{Span}
use Rattle.sr_front.proofs.Constants.ConstantsThen.{StillFound, name_then, reading, value_unknown}
use Rattle.sr_front.proofs.Known.DeclaredThen.{ThenAt}
use Rattle.sr_front.proofs.Known.Lasting.{Away, is_operation}
use Rattle.sr_front.proofs.Constants.StaticExprs.{SameUses}
use Rattle.sr_front.proofs.Constants.WaitingConstants.{of_files}
use Rattle.sr_front.proofs.Constants.WavesIdle.{GetsUnknown, IsUnknown, Waved}

-- where a constant is read, and what its value names there: the same as after waves, as far as it tells anything
pub record ReadThen (Inv : List Span → Facts → Type 0) (components : List Span) (last : Facts) (in_spec : Bool) (constant : ConstDecl) : Type 1 where
  pub declared : ThenAt Inv components last in_spec constant
  pub away : Away (spot_of constant.name.span) components
  pub plain : is_operation (info_at last.infos (spot_of constant.name.span)) ≡ false
  pub same : (facts : Facts) (component : Decl) → Waved last facts → SameUses (reading Inv components last in_spec constant declared) (standing facts component) (expr_names constant.value)

module _ (Inv : List Span → Facts → Type 0) (components : List Span) (last : Facts) where
  abbrev IsRead : Bool → ConstDecl → Type 1
  IsRead = ReadThen Inv components last

  abbrev Gets : Waiting → Type 0
  Gets waiting = (facts : Facts) → Waved last facts → info_at last.infos waiting.spot ≡ None → IsUnknown (waiting_info (standing facts waiting.component) waiting)

  module _ (in_spec : Bool) (constant : ConstDecl) (read : IsRead in_spec constant) where
    abbrev here : Facts
    here = reading Inv components last in_spec constant read.declared

    abbrev name : Spot
    name = spot_of constant.name.span

    -- what is known of a constant is what it is, where that is static
    pub declared_static : is_static (const_of in_spec here constant).value ≡ true → info_at last.infos name ≡ Some (info.Value (const_of in_spec here constant))
    declared_static static =
        by (name_then Inv components last in_spec constant read.declared read.away (or_right (is_some constant.ty) (is_static (const_of in_spec here constant).value) static))
      where
        by : StillFound name (Some (info.Value (const_of in_spec here constant))) last → info_at last.infos name ≡ Some (info.Value (const_of in_spec here constant))
        by (inl h) = h
        by (inr operation) = absurd (false≢true (sym read.plain ∙ operation))

    not_static : info_at last.infos name ≡ None → is_static (const_of in_spec here constant).value ≡ false
    not_static none = by (is_static (const_of in_spec here constant).value) refl
      where
        by : (b : Bool) → is_static (const_of in_spec here constant).value ≡ b → is_static (const_of in_spec here constant).value ≡ false
        by true is = absurd (none-some _ (sym none ∙ declared_static is))
        by false is = is

    constant_gets : (component : Decl) → constant.ty ≡ None → Gets (const_waiting in_spec component constant)
    constant_gets component untyped facts waved none = value_unknown here (standing facts component) in_spec constant untyped (not_static none) (read.same facts component waved)

  variable_gets : (waiting : Waiting) → waiting.is_constant ≡ false → Gets waiting
  variable_gets waiting is facts waved none =
      subst (λ b. IsUnknown (info_by b waiting.in_spec (infer_expr waiting.value (standing facts waiting.component)).typed_expr.typed)) (sym is) refl

  -- the constants of a component
  pub record AllRead (component : Component) : Type 1 where
    pub specs : (constant : ConstDecl) → IsIn (spec.Const constant) (spec_of component) → IsRead true constant
    pub body : (constant : ConstDecl) → IsIn (item.Spec (spec.Const constant)) (body_of component) → IsRead false constant

  -- so what waits of a program gets nothing static
  pub gets_unknown : (files : List File) → ((component : Component) → IsIn component (components_in files) → AllRead component) → GetsUnknown last (files_waiting files)
  gets_unknown files read facts waved waiting among none =
      of_files Gets variable_gets waiting files
      (λ component there. record {
        specs = λ constant k untyped. constant_gets true constant ((read component there).specs constant k) (component_decl component) untyped;
        body = λ constant k untyped. constant_gets false constant ((read component there).body constant k) (component_decl component) untyped;
      }) among facts waved none

-- What stands outside of code fits: what tells stands away from variables, formals and operations, and all but components away from their names.
use Rattle.std.proofs.Common.{◌≡◌, ◌⊎◌, inl, inr, false, List, [], ◌∷◌, flat_map, map, Some, refl}
use Rattle.sr_check.proofs.Each.{Each, each-left, each-right}
use Rattle.sr_check_decl.specs.Declaring.{op_item_name}
use Rattle.sr_check_expr.specs.declared.info.Info.{Info}
use Rattle.sr_names.specs.declared.spot.Spot.{Spot}
use Rattle.sr_names.specs.Spots.{spot_of}
use Rattle.sr_order.specs.Names.{formal_names, type_names}
use Rattle.sr_order.specs.Spans.{op_item_span}
use Rattle.sr_tree.specs.declared.component.Component.{Component}
use Rattle.sr_tree.specs.declared.component.Item.{Item}
use Rattle.sr_tree.specs.declared.component.Item.TheVariants as item
use Rattle.sr_tree.specs.declared.component.SpecItem.{SpecItem}
use Rattle.sr_tree.specs.declared.component.SpecItem.TheVariants as spec
use Rattle.sr_tree.specs.declared.declaration.OpItem.{OpItem}
use Rattle.sr_tree.specs.declared.declaration.OpItem.TheVariants.{Signed, Typed}
use Rattle.sr_tree.specs.declared.declaration.Semaphore.{Semaphore}
use Rattle.sr_tree.specs.declared.types.Decl.{Decl as DeclTree}
use Rattle.sr_tree.specs.Parts.{body_of, formals_of, name_of, spec_of}
use Rattle.sr_value.specs.declared.place.Span.{Span}
use Rattle.sr_front.proofs.Constants.ConstantNames.{IsComponentInfo}
use Rattle.sr_front.proofs.Names.FirmNames.{component_firm, component_loose, item_firm, item_loose, spec_firm, spec_loose}
use Rattle.sr_front.proofs.Known.FirstFits.{HeadFits, OperationAt, VarAt, WordAt}
use Rattle.sr_front.proofs.Known.Lasting.{Away, is_operation}
use Rattle.sr_front.proofs.Constants.StaticNames.{IsIdle}
use Rattle.sr_front.proofs.Known.TypesBefore.{ItemGood, SpecGood}

module _ (loose own firm : List Span) where
  -- what tells stands away from the loose names, all but components away from their names, and operations away from the firm names
  abbrev pub ProgramFits : Spot → Info → Type 0
  ProgramFits spot one = (IsIdle (Some one) ⊎ Away spot loose) × ((IsComponentInfo (Some one) ⊎ Away spot own) × ((is_operation (Some one) ≡ false) ⊎ Away spot firm))

  module _ (Word : Spot → Type 0) where
    -- a firm name, at which a word may stand
    abbrev pub FirmAt : Span → Type 0
    FirmAt span = (Away (spot_of span) loose × Away (spot_of span) own) × Word (spot_of span)

    abbrev pub LooseAt : Span → Type 0
    LooseAt span = Away (spot_of span) own × Away (spot_of span) firm

    words_fit : (names : List Span) → Each FirmAt names → Each (λ span. WordAt ProgramFits (spot_of span)) names
    words_fit [] at = tt
    words_fit (name ∷ names) at = (
      record { enumeration = λ number literals. (inr at.0.0.0, (inr at.0.0.1, inl refl)); fields = λ fields. (inr at.0.0.0, (inr at.0.0.1, inl refl)); literal = λ word number index. (inr at.0.0.0, (inr at.0.0.1, inl refl)) },
      words_fit names at.1,
    )

    words_are : (names : List Span) → Each FirmAt names → Each (λ span. Word (spot_of span)) names
    words_are [] at = tt
    words_are (name ∷ names) at = (at.0.1, words_are names at.1)

    op_fits : (op : OpItem) → LooseAt (op_item_span op) → OperationAt ProgramFits (spot_of (op_item_name op).span)
    op_fits (Signed span name signature) away = λ type component is_local. (inl tt, (inr away.0, inr away.1))
    op_fits (Typed span name optype) away = λ type component is_local. (inl tt, (inr away.0, inr away.1))

    ops_fit : (ops : List OpItem) → Each LooseAt (map op_item_span ops) → Each (λ op. OperationAt ProgramFits (spot_of (op_item_name op).span)) ops
    ops_fit [] away = tt
    ops_fit (op ∷ ops) away = (op_fits op away.0, ops_fit ops away.1)

    sems_fit : (some : List Semaphore) → Each LooseAt (map (λ (semaphore : Semaphore). semaphore.name.span) some) → Each (λ (semaphore : Semaphore). OperationAt ProgramFits (spot_of semaphore.name.span)) some
    sems_fit [] away = tt
    sems_fit (one ∷ some) away = (λ type component is_local. (inl tt, (inr away.0.0, inr away.0.1)), sems_fit some away.1)

    vars_fit : (decls : List DeclTree) → Each LooseAt (map (λ (decl : DeclTree). decl.name.span) decls) → Each (λ (decl : DeclTree). VarAt ProgramFits (spot_of decl.name.span)) decls
    vars_fit [] away = tt
    vars_fit (decl ∷ decls) away = (λ type. (inl refl, (inr away.0.0, inl refl)), vars_fit decls away.1)

    formals_fit : (names : List Span) → Each LooseAt names → Each (λ span. VarAt ProgramFits (spot_of span)) names
    formals_fit [] away = tt
    formals_fit (name ∷ names) away = (λ type. (inl refl, (inr away.0.0, inl refl)), formals_fit names away.1)

    spec_good : (one : SpecItem) → Each LooseAt (spec_loose one) → Each FirmAt (spec_firm one) → SpecGood Word ProgramFits one
    spec_good (spec.Import declared) away at = (tt, tt)
    spec_good (spec.Const constant) away at = (λ typed. (inr at.0.0.0, (inr at.0.0.1, inl refl)), tt)
    spec_good (spec.«Type» named) away at = ((λ facts fit. (inr at.0.0.0, (inr at.0.0.1, inl refl)), words_fit (type_names named.ty) at.1), words_are (type_names named.ty) at.1)
    spec_good (spec.OpType named) away at = (λ facts fit. (inr at.0.0.0, (inr at.0.0.1, inl refl)), tt)
    spec_good (spec.Op operations) away at = (ops_fit operations.items away, tt)
    spec_good (spec.Var variables) away at = (vars_fit variables.decls away, tt)
    spec_good (spec.Sem declared) away at = (sems_fit declared.semaphores away, tt)

    item_good : (one : Item) → Each LooseAt (item_loose one) → Each FirmAt (item_firm one) → ItemGood Word ProgramFits one
    item_good (item.Spec declared) away at = spec_good declared away at
    item_good (item.Procedure procedure) away at = (λ type component is_local. (inl tt, (inr away.0.0, inr away.0.1)), tt)
    item_good (item.Process process) away at = (λ type component is_local. (inl tt, (inr away.0.0, inr away.0.1)), tt)
    item_good _ away at = (tt, tt)

    parts_good : {A : Type 0} (xs ys : A → List Span) (Good : A → Type 0) → ((one : A) → Each LooseAt (xs one) → Each FirmAt (ys one) → Good one) → (all : List A)
        → Each LooseAt (flat_map xs all) → Each FirmAt (flat_map ys all) → Each Good all
    parts_good xs ys Good good [] away at = tt
    parts_good xs ys Good good (one ∷ all) away at = (
      good one (each-left LooseAt (xs one) (flat_map xs all) away) (each-left FirmAt (ys one) (flat_map ys all) at),
      parts_good xs ys Good good all (each-right LooseAt (xs one) (flat_map xs all) away) (each-right FirmAt (ys one) (flat_map ys all) at),
    )

    -- the parts of a component
    pub record PartsGood (component : Component) : Type 0 where
      pub specs : Each (SpecGood Word ProgramFits) (spec_of component)
      pub head : HeadFits ProgramFits component
      pub items : Each (ItemGood Word ProgramFits) (body_of component)

    pub component_good : (component : Component) → Away (spot_of (name_of component).span) loose → Each LooseAt (component_loose component) → Each FirmAt (component_firm component) → PartsGood component
    component_good component named away at =
        let specs = flat_map spec_loose (spec_of component) in
        let formals = flat_map formal_names (formals_of component) in
        let after = each-right LooseAt specs _ away in
        let firm_specs = flat_map spec_firm (spec_of component) in
        record {
          specs = parts_good spec_loose spec_firm (SpecGood Word ProgramFits) spec_good (spec_of component) (each-left LooseAt specs _ away) (each-left FirmAt firm_specs _ at);
          head = (λ type. (inr named, (inl tt, inl refl)), formals_fit formals (each-left LooseAt formals _ after));
          items = parts_good item_loose item_firm (ItemGood Word ProgramFits) item_good (body_of component) (each-right LooseAt formals _ after) (each-right FirmAt firm_specs _ at);
        }

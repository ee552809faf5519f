-- What is entered of operations is kept by all that enters none, and by the declarations of those that may be entered.
use Rattle.std.proofs.Common.{◌≡◌, ◌⊎◌, inl, inr, ℕ, suc, zero, ◌+◌, Bool, true, false, List, [], ◌∷◌, Option, Some, None, refl, sym, ◌∙◌, ap, subst, length}
use Rattle.std.specs.List.{filter, flat_map}
use Rattle.sr_names.specs.declared.spot.Spot.{Spot}
use Rattle.sr_names.specs.Noted.{Meanings}
use Rattle.sr_names.specs.Specs.{Specs}
use Rattle.sr_names.specs.Spots.{same_spot, spot_of}
use Rattle.sr_names.proofs.Marking.{entry-same, entry-other, same_spot-cases}
use Rattle.sr_tree.specs.declared.component.Component.{Component}
use Rattle.sr_tree.specs.declared.component.File.{File}
use Rattle.sr_tree.specs.declared.component.Item.{Item}
use Rattle.sr_tree.specs.declared.component.Item.TheVariants as item
use Rattle.sr_tree.specs.declared.component.SpecItem.{SpecItem}
use Rattle.sr_tree.specs.declared.component.SpecItem.TheVariants as spec
use Rattle.sr_tree.specs.declared.declaration.ConstDecl.{ConstDecl}
use Rattle.sr_tree.specs.declared.declaration.OpItem.{OpItem}
use Rattle.sr_tree.specs.declared.declaration.Semaphore.{Semaphore}
use Rattle.sr_tree.specs.declared.declaration.TypeDecl.{TypeDecl}
use Rattle.sr_tree.specs.declared.declaration.VarDecl.{VarDecl}
use Rattle.sr_tree.specs.declared.name.Name.{Name}
use Rattle.sr_tree.specs.declared.types.Decl.{Decl as DeclTree}
use Rattle.sr_tree.specs.declared.types.Formal.{Formal}
use Rattle.sr_tree.specs.declared.types.Returned.{Returned}
use Rattle.sr_tree.specs.declared.types.Signature.{Signature as SignatureTree}
use Rattle.sr_tree.specs.declared.types.TypeTree.{TypeTree, out-TypeTree}
use Rattle.sr_tree.specs.declared.types.TypeTree.TheOpen.{TypeTree-F}
use Rattle.sr_tree.specs.Nested.{types_within}
use Rattle.sr_tree.specs.Parts.{name_of, spec_of, formals_of, body_of}
use Rattle.sr_types.proofs.Places.{insert_key-keeps}
use Rattle.sr_types.specs.declared.signature.Signature.{Signature}
use Rattle.sr_types.specs.Equality.{equal_signatures}
use Rattle.sr_types.specs.Signatures.{KeepsNumbers}
use Rattle.sr_types.specs.declared.ty.Ty.{Ty}
use Rattle.sr_types.specs.declared.ty.Ty.TheVariants as ty
use Rattle.sr_types.specs.declared.typed.Typed.{Typed}
use Rattle.sr_check_expr.specs.declared.facts.Facts.{Facts}
use Rattle.sr_check_expr.specs.declared.info.Info.{Info}
use Rattle.sr_check_expr.specs.declared.info.Info.TheVariants as info
use Rattle.sr_check_expr.specs.Infos.{info_at}
use Rattle.sr_check_decl.specs.declared.kind.NamedParam.{NamedParam}
use Rattle.sr_check_decl.specs.declared.tally.Tally.{Tally}
use Rattle.sr_check_decl.specs.Declaring.{at_facts, declare_name, declared_if, const_declared, untyped_vars_declared, var_declared, var_declared_by, literals_declared, layer_declared, types_declared, type_declared, op_item_name, op_type, ops_declared, sems_declared, semaphore_signature, process_signature, spec_item_declared, spec_items_declared, item_declared, items_declared, params_declared, standing, head_declared, component_typed, making, component_formals, component_declared, components_declared, files_declared, components_named, files_named, program_declared}
use Rattle.sr_check_decl.specs.Entering.{entered, signed_entered, type_entered, formals_entered, signature_entered}
use Rattle.sr_check_decl.specs.Inferring.{is_settled, info_by, all_settled, can_settle, wave, waves, given_up, given_up_if, program_inferred, program_known}
use Rattle.sr_check_decl.specs.Parts.{component_decl}
use Rattle.sr_check_decl.specs.TypeTrees.{decl_type, signature_type}
use Rattle.sr_check_decl.specs.Variables.{declare, variable, vars_declared}
use Rattle.sr_check_decl.specs.Waiting.{Waiting, files_waiting}
use Rattle.sr_check.specs.Owners.{Owned, ops_owned, sems_owned, spec_item_owned, item_owned, component_at, component_owned, file_owned, declared_operations}
use Rattle.sr_check.proofs.Each.{Each, each-left, each-right, each-parts}
use Rattle.sr_check.proofs.Entered.{keeps_signed, keeps_type, keeps_signature, keeps_written, keeps_formals, keeps_ops}

-- what an operation has to meet that is entered at a spot: by the signatures that are known, its type, its component,
-- and whether it is declared in a block of a proc
abbrev pub Meets : Type 1
Meets = List Signature → Spot → Ty → Spot → Bool → Type 0

module _ (P : Meets) where
  -- it meets it by the signatures that are known, and by all that keep their numbers
  abbrev pub Stays : Meets
  Stays signatures spot ty component is_local = (more : List Signature) → KeepsNumbers signatures more → P more spot ty component is_local

  abbrev pub Fits : List Signature → Spot → Info → Type 0
  Fits signatures spot (info.Operation ty component is_local) = Stays signatures spot ty component is_local
  Fits signatures spot _ = Unit {0}

  -- each operation that facts know meets it
  abbrev pub KnownBy : Facts → Type 0
  KnownBy facts =
      (spot : Spot) (ty : Ty) (component : Spot) (is_local : Bool) → info_at facts.infos spot ≡ Some (info.Operation ty component is_local)
      → Stays facts.signatures spot ty component is_local

  -- an operation that is declared may be entered, whatever its type
  abbrev pub Allows : Owned → Type 0
  Allows operation = (signatures : List Signature) (ty : Ty) → P signatures operation.0 ty operation.1.0 operation.1.1

  -- what facts know is so by their own signatures
  pub known_now : (facts : Facts) → KnownBy facts → (spot : Spot) (ty : Ty) (component : Spot) (is_local : Bool) → info_at facts.infos spot ≡ Some (info.Operation ty component is_local)
      → P facts.signatures spot ty component is_local
  known_now facts known spot ty component is_local is = known spot ty component is_local is facts.signatures (λ number signature at. at)

  some_info : (a b : Info) → Some a ≡ Some b → a ≡ b
  some_info a b e = cc

  -- what is entered fits, and all others are as before
  pub known_with : (facts : Facts) (spot : Spot) (info : Info) → KnownBy facts → Fits facts.signatures spot info → KnownBy (declare facts spot info)
  known_with facts spot info known fits other ty component is_local is = by (same_spot-cases other spot)
    where
      by : (other ≡ spot) ⊎ (same_spot other spot ≡ false) → Stays facts.signatures other ty component is_local
      by (inl same) =
          let entry = sym (entry-same facts.infos spot info) ∙ ap (λ s. info_at (declare facts spot info).infos s) (sym same) ∙ is in
          subst (λ s. Stays facts.signatures s ty component is_local) (sym same) (subst (λ i. Fits facts.signatures spot i) (some_info info _ entry) fits)
      by (inr apart) = known other ty component is_local (sym (entry-other facts.infos spot info other apart) ∙ is)

  module _ (uses : Meanings) where
    -- what names mean doesn't change
    abbrev pub Plain : Facts → Type 0
    Plain facts = (facts.uses ≡ uses) × KnownBy facts

    -- and a component is looked at
    abbrev pub Sound : Spot → Facts → Type 0
    Sound component facts = (facts.here.component.spot ≡ component) × Plain facts

    pub plain_with : (facts : Facts) (spot : Spot) (info : Info) → Plain facts → Fits facts.signatures spot info → Plain (declare facts spot info)
    plain_with facts spot info h fits = (h.0, known_with facts spot info h.1 fits)

    plain_signatures : (facts : Facts) (signature : Signature) → Plain facts → Plain (entered signature facts)
    plain_signatures facts signature h = (
      h.0,
      λ spot ty component is_local is more keeps. h.1 spot ty component is_local is more
          (λ number kept at. keeps number kept (insert_key-keeps equal_signatures facts.signatures signature number kept at)),
    )

    module _ (component : Spot) where
      pub sound_with : (facts : Facts) (spot : Spot) (info : Info) → Sound component facts → Fits facts.signatures spot info → Sound component (declare facts spot info)
      sound_with facts spot info h fits = (h.0, plain_with facts spot info h.1 fits)

      pub sound_signatures : (facts : Facts) (signature : Signature) → Sound component facts → Sound component (entered signature facts)
      sound_signatures facts signature h = (h.0, plain_signatures facts signature h.1)

      -- ---- constants, variables and types

      pub sound_vars : (type : Ty) (decls : List DeclTree) (facts : Facts) → Sound component facts → Sound component (vars_declared type decls facts)
      sound_vars type [] facts h = h
      sound_vars type (decl ∷ decls) facts h = sound_vars type decls _ (sound_with facts (spot_of decl.name.span) (variable (decl_type decl.dims type)) h tt)

      sound_if : (b : Bool) (name : Name) (typed : Typed) (facts : Facts) → Sound component facts → Sound component (declared_if b name typed facts)
      sound_if true name typed facts h = sound_with facts (spot_of name.span) (info.Value typed) h tt
      sound_if false name typed facts h = h

      sound_const : (in_spec : Bool) (constant : ConstDecl) (facts : Facts) → Sound component facts → Sound component (const_declared in_spec constant facts)
      sound_const in_spec constant facts h = sound_if _ constant.name _ _ (keeps_written (Sound component) sound_signatures constant.ty facts h)

      sound_untyped : (b : Bool) (decls : List DeclTree) (facts : Facts) → Sound component facts → Sound component (untyped_vars_declared b decls facts)
      sound_untyped true decls facts h = h
      sound_untyped false decls facts h = sound_vars ty.Untyped decls facts h

      sound_var_by : (tree : Option TypeTree) (variables : VarDecl) (facts : Facts) → Sound component facts → Sound component (var_declared_by tree variables facts)
      sound_var_by None variables facts h = sound_untyped _ variables.decls facts h
      sound_var_by (Some tree) variables facts h = sound_vars _ variables.decls facts h

      sound_var : (variables : VarDecl) (facts : Facts) → Sound component facts → Sound component (var_declared variables facts)
      sound_var variables facts h = sound_var_by variables.ty variables _ (keeps_written (Sound component) sound_signatures variables.ty facts h)

      sound_literals : (spot : Spot) (number index : ℕ) (names : List Name) (facts : Facts) → Sound component facts → Sound component (literals_declared spot number index names facts)
      sound_literals spot number index [] facts h = h
      sound_literals spot number index (name ∷ names) facts h = sound_literals spot number (index + 1) names _ (sound_with facts (spot_of name.span) _ h tt)

      sound_layer : (layer : TypeTree-F TypeTree Formal Returned SignatureTree) (tally : Tally) → Sound component tally.facts → Sound component (layer_declared layer tally).facts
      sound_layer (TypeTree-F.Enum span literals) tally h = sound_literals _ _ _ literals _ (sound_with tally.facts (spot_of span) _ h tt)
      sound_layer (TypeTree-F.Rec span fields) tally h = sound_with tally.facts (spot_of span) _ h tt
      sound_layer _ tally h = h

      sound_types : (trees : List TypeTree) (tally : Tally) → Sound component tally.facts → Sound component (types_declared trees tally).facts
      sound_types [] tally h = h
      sound_types (tree ∷ trees) tally h = sound_types trees _ (sound_layer (out-TypeTree tree) tally h)

      sound_type : (named : TypeDecl) (tally : Tally) → Sound component tally.facts → Sound component (type_declared named tally).facts
      sound_type named tally h =
          let entering = at_facts tally (type_entered named.ty tally.facts) in
          let within = types_declared (types_within named.ty) entering in
          sound_with within.facts (spot_of named.name.span) _ (sound_types (types_within named.ty) entering (keeps_type (Sound component) sound_signatures named.ty tally.facts h)) tt

      -- ---- operations

      -- an operation is entered with the component that is looked at
      sound_operation : (facts : Facts) (is_local : Bool) (name : Name) (type : Ty) → Sound component facts → Allows (spot_of name.span, (component, is_local))
          → Sound component (declare_name facts name (info.Operation type facts.here.component.spot is_local))
      sound_operation facts is_local name type h allowed =
          sound_with facts (spot_of name.span) _ h (λ more keeps. subst (λ s. P more (spot_of name.span) type s is_local) (sym h.0) (allowed more type))

      pub sound_ops : (is_local : Bool) (ops : List OpItem) (facts : Facts) → Each Allows (ops_owned component is_local ops) → Sound component facts → Sound component (ops_declared is_local ops facts)
      sound_ops is_local [] facts allowed h = h
      sound_ops is_local (op ∷ ops) facts allowed h = sound_ops is_local ops _ allowed.1 (sound_operation facts is_local (op_item_name op) (op_type facts op) h allowed.0)

      pub sound_sems : (is_local : Bool) (semaphores : List Semaphore) (facts : Facts) → Each Allows (sems_owned component is_local semaphores) → Sound component facts
          → Sound component (sems_declared is_local semaphores facts)
      sound_sems is_local [] facts allowed h = h
      sound_sems is_local (semaphore ∷ more) facts allowed h =
          sound_sems is_local more _ allowed.1 (sound_operation (entered semaphore_signature facts) is_local semaphore.name _ (sound_signatures facts semaphore_signature h) allowed.0)

      -- ---- items

      sound_spec_item : (in_spec : Bool) (inner : SpecItem) (tally : Tally) → Each Allows (spec_item_owned component inner) → Sound component tally.facts
          → Sound component (spec_item_declared in_spec inner tally).facts
      sound_spec_item in_spec (spec.Import imports) tally allowed h = h
      sound_spec_item in_spec (spec.Const constant) tally allowed h = sound_const in_spec constant tally.facts h
      sound_spec_item in_spec (spec.«Type» named) tally allowed h = sound_type named tally h
      sound_spec_item in_spec (spec.OpType named) tally allowed h =
          sound_with (signature_entered named.signature tally.facts) (spot_of named.name.span) _ (keeps_signature (Sound component) sound_signatures named.signature tally.facts h) tt
      sound_spec_item in_spec (spec.Op operations) tally allowed h =
          sound_ops false operations.items _ allowed (keeps_ops (Sound component) sound_signatures operations.items tally.facts h)
      sound_spec_item in_spec (spec.Var variables) tally allowed h = sound_var variables tally.facts h
      sound_spec_item in_spec (spec.Sem semaphores) tally allowed h = sound_sems false semaphores.semaphores tally.facts allowed h

      sound_item : (inner : Item) (tally : Tally) → Each Allows (item_owned component inner) → Sound component tally.facts → Sound component (item_declared inner tally).facts
      sound_item (item.Spec inner) tally allowed h = sound_spec_item false inner tally allowed h
      sound_item (item.Procedure procedure) tally allowed h =
          sound_operation (signature_entered procedure.signature tally.facts) false procedure.name _ (keeps_signature (Sound component) sound_signatures procedure.signature tally.facts h) allowed.0
      sound_item (item.Process process) tally allowed h = sound_operation (entered (process_signature process.quantifiers) tally.facts) false process.name _ (sound_signatures tally.facts (process_signature process.quantifiers) h) allowed.0
      sound_item (item.Proc proc) tally allowed h = h
      sound_item (item.Final final) tally allowed h = h
      sound_item (item.Statement statement) tally allowed h = h

      sound_spec : (items : List SpecItem) (tally : Tally) → Each (λ inner. Each Allows (spec_item_owned component inner)) items → Sound component tally.facts
          → Sound component (spec_items_declared items tally).facts
      sound_spec [] tally allowed h = h
      sound_spec (inner ∷ more) tally allowed h = sound_spec more _ allowed.1 (sound_spec_item true inner tally allowed.0 h)

      sound_items : (items : List Item) (tally : Tally) → Each (λ inner. Each Allows (item_owned component inner)) items → Sound component tally.facts
          → Sound component (items_declared items tally).facts
      sound_items [] tally allowed h = h
      sound_items (inner ∷ more) tally allowed h = sound_items more _ allowed.1 (sound_item inner tally allowed.0 h)

      -- ---- formals

      pub sound_params : (params : List NamedParam) (facts : Facts) → Sound component facts → Sound component (params_declared params facts)
      sound_params [] facts h = h
      sound_params (param ∷ params) facts h = sound_params params _ (sound_with facts param.spot (variable param.ty) h tt)

      sound_head : (tree : Component) (facts : Facts) → Sound component facts → Sound component (head_declared tree facts)
      sound_head tree facts h =
          let entering = formals_entered (formals_of tree) facts in
          let params = component_formals entering (formals_of tree) in
          let made = signed_entered (making params) entering in
          let known = keeps_signed (Sound component) sound_signatures (making params) entering (keeps_formals (Sound component) sound_signatures (formals_of tree) facts h) in
          sound_params params (component_typed (name_of tree) (making params) made) (sound_with made (spot_of (name_of tree).span) (info.Component (signature_type made (making params))) known tt)

    -- ---- components

    pub standing_sound : (facts : Facts) (component : Component) → Plain facts → Sound (component_at component) (standing facts (component_decl component))
    standing_sound facts component h = (refl, h)

    plain_component : (component : Component) (tally : Tally) → Each Allows (component_owned component) → Plain tally.facts → Plain (component_declared component tally).facts
    plain_component component tally allowed h =
        let spot = component_at component in
        let own = each-parts Allows (spec_item_owned spot) (spec_of component) (each-left Allows _ (flat_map (item_owned spot) (body_of component)) allowed) in
        let inner = each-parts Allows (item_owned spot) (body_of component) (each-right Allows (flat_map (spec_item_owned spot) (spec_of component)) _ allowed) in
        (sound_items spot (body_of component) _ inner
        (sound_head spot component _ (sound_spec spot (spec_of component) _ own (standing_sound tally.facts component h)))).1

    plain_components : (components : List Component) (tally : Tally) → Each (λ component. Each Allows (component_owned component)) components → Plain tally.facts
        → Plain (components_declared components tally).facts
    plain_components [] tally allowed h = h
    plain_components (component ∷ more) tally allowed h = plain_components more _ allowed.1 (plain_component component tally allowed.0 h)

    plain_files : (files : List File) (tally : Tally) → Each (λ file. Each Allows (file_owned file)) files → Plain tally.facts → Plain (files_declared files tally).facts
    plain_files [] tally allowed h = h
    plain_files (file ∷ files) tally allowed h =
        plain_files files _ allowed.1 (plain_components file.components tally (each-parts Allows component_owned file.components allowed.0) h)

    plain_named : (components : List Component) (facts : Facts) → Plain facts → Plain (components_named components facts)
    plain_named [] facts h = h
    plain_named (component ∷ more) facts h = plain_named more _ (plain_with facts (spot_of (name_of component).span) _ h tt)

    plain_files_named : (files : List File) (facts : Facts) → Plain facts → Plain (files_named files facts)
    plain_files_named [] facts h = h
    plain_files_named (file ∷ files) facts h = plain_files_named files _ (plain_named file.components facts h)

    none_known : (spot : Spot) (i : Info) → info_at [] spot ≡ Some i → ⊥
    none_known spot i e = cc

    plain_declared : (specs : Specs) (files : List File) → Each Allows (declared_operations files) → Plain (program_declared uses specs files)
    plain_declared specs files allowed =
        plain_files files _ (each-parts Allows file_owned files allowed)
        (plain_files_named files _ (refl, λ spot type component is_local is. absurd (none_known spot _ is)))

    -- ---- types that are inferred

    fits_by : (signatures : List Signature) (spot : Spot) (is_constant in_spec : Bool) (value : Typed) → Fits signatures spot (info_by is_constant in_spec value)
    fits_by signatures spot true in_spec value = tt
    fits_by signatures spot false in_spec value = tt

    plain_settled : (waiting : List Waiting) (facts : Facts) → Plain facts → Plain (all_settled waiting facts)
    plain_settled [] facts h = h
    plain_settled (w ∷ more) facts h = plain_settled more _ (plain_with facts w.spot _ h (fits_by facts.signatures w.spot w.is_constant w.in_spec _))

    plain_waves : (n : ℕ) (waiting : List Waiting) (facts : Facts) → Plain facts → Plain (waves n waiting facts)
    plain_waves zero waiting facts h = h
    plain_waves (suc n) waiting facts h = plain_waves n waiting (wave waiting facts) (plain_settled (filter (can_settle facts) waiting) facts h)

    plain_given_up : (waiting : List Waiting) (facts : Facts) → Plain facts → Plain (given_up waiting facts)
    plain_given_up [] facts h = h
    plain_given_up (w ∷ more) facts h = plain_given_up more _ (by (is_settled facts w))
      where
        by : (b : Bool) → Plain (given_up_if b facts w)
        by true = h
        by false = plain_with facts w.spot _ h tt

    pub plain_program : (specs : Specs) (files : List File) → Each Allows (declared_operations files) → Plain (program_known uses specs files)
    plain_program specs files allowed =
        plain_given_up (files_waiting files) (program_inferred uses specs files)
        (plain_waves (length (files_waiting files)) (files_waiting files) (program_declared uses specs files) (plain_declared specs files allowed))

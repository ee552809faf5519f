-- In an accepted program components, types, their literals and types of operations are known as what they are: at the names
-- of these nothing is known by the end but them, and no value that isn't static.
use Rattle.std.proofs.Common.{◌≡◌, ◌⊎◌, inl, inr, Bool, true, false, List, [], ◌∷◌, ◌++◌, flat_map, map, Option, Some, None, Ok, is_some, refl, sym, ap, subst, ◌∙◌}
use Rattle.std.proofs.lemmas.Bool.{false≢true}
use Rattle.std.proofs.lemmas.Option.{none-some}
use Rattle.std.specs.List.{IsDistinct}
use Rattle.std.specs.Option.{option_and_then}
use Rattle.sr_check.proofs.Each.{Each, each-left, each-right}
use Rattle.sr_check.specs.Checked.{checked}
use Rattle.sr_check.specs.Components.{components_read}
use Rattle.sr_check_decl.specs.Declaring.{components_named, files_named, no_facts, op_item_name, program_declared}
use Rattle.sr_check_decl.specs.Inferring.{program_known}
use Rattle.sr_check_decl.specs.Waiting.{Waiting, files_waiting}
use Rattle.sr_check_expr.specs.declared.facts.Facts.{Facts}
use Rattle.sr_check_expr.specs.declared.info.Info.{Info}
use Rattle.sr_check_expr.specs.declared.info.Info.TheVariants as info
use Rattle.sr_check_expr.specs.Infos.{info_at}
use Rattle.sr_check_expr.specs.Meanings.{constant_at, info_constant, known}
use Rattle.sr_names.specs.declared.meaning.Decl.{Decl}
use Rattle.sr_names.specs.declared.meaning.Sort.{Sort}
use Rattle.sr_names.specs.declared.spot.Spot.{Spot}
use Rattle.sr_names.specs.Noted.{Meanings}
use Rattle.sr_names.specs.Specs.{Specs}
use Rattle.sr_names.specs.Spots.{same_spot, spot_of}
use Rattle.sr_order.specs.Names.{component_names, file_names, formal_names, item_names, names_spans, spec_item_names, type_names}
use Rattle.sr_order.specs.Spans.{op_item_span}
use Rattle.sr_scope.proofs.OwnNames.{own_names}
use Rattle.sr_scope.specs.declared.program.Names.{Names}
use Rattle.sr_scope.specs.Literals.{literals_of}
use Rattle.sr_scope.specs.Resolved.{resolved}
use Rattle.sr_scope.specs.Uses.{IsIn}
use Rattle.sr_tables.specs.Parts.{component_spot, components_in, spot_named}
use Rattle.sr_tree.specs.declared.component.Component.{Component}
use Rattle.sr_tree.specs.declared.component.File.{File}
use Rattle.sr_tree.specs.declared.component.Item.{Item}
use Rattle.sr_tree.specs.declared.component.Item.TheVariants as item
use Rattle.sr_tree.specs.declared.component.SpecItem.{SpecItem}
use Rattle.sr_tree.specs.declared.component.SpecItem.TheVariants as spec
use Rattle.sr_tree.specs.declared.declaration.OpItem.{OpItem}
use Rattle.sr_tree.specs.declared.declaration.OpItem.TheVariants.{Signed, Typed}
use Rattle.sr_tree.specs.declared.declaration.Semaphore.{Semaphore}
use Rattle.sr_tree.specs.declared.name.Name.{Name}
use Rattle.sr_tree.specs.declared.types.Decl.{Decl as DeclTree}
use Rattle.sr_tree.specs.Parts.{body_of, formals_of, name_of, spec_of}
use Rattle.sr_types.specs.declared.ty.Ty.TheVariants as ty
use Rattle.sr_value.specs.declared.place.Span.{Span}
use Rattle.sr_front.proofs.Own.DeclaredIn.{Stands, stands_left, stands_right}
use Rattle.sr_front.proofs.Known.DeclaredThen.{ComponentFits, KeepsInv, inv_declared, names_of_components}
use Rattle.sr_front.proofs.EffectFree.EffectFreeCode.{files_facts}
use Rattle.sr_front.proofs.Names.FirmNames.{ended, vars_share}
use Rattle.sr_front.proofs.Known.FirstFits.{AllFit, HeadFits, ItemFits, OperationAt, SpecFits, VarAt, WordAt, fit_head, fit_item, fit_spec_item, fits_with}
use Rattle.sr_front.proofs.Known.FirstStays.{inside_fresh}
use Rattle.sr_front.proofs.Known.InfosStay.{same_elsewhere}
use Rattle.sr_front.proofs.Known.KnownOrWaits.{KnownOrWaits, Waits, known_or_waits}
use Rattle.sr_front.proofs.Known.Lasting.{Away}
use Rattle.sr_front.proofs.Names.OwnApart.{each_stands}
use Rattle.sr_front.proofs.Own.OwnOrShared.{stands_among}
use Rattle.sr_front.proofs.Known.ProgramReads.{known_waved, whole_last}
use Rattle.sr_front.proofs.Mentioned.ReadsCode.{component_inside, ops_share, parts_share, reads_components, sems_share}
use Rattle.sr_front.proofs.Lists.Rising.{Rises}
use Rattle.sr_front.proofs.Mentioned.RootedParts.{means_value}
use Rattle.sr_front.proofs.Names.Shares.{apart_in}
use Rattle.sr_front.proofs.Lists.Sharing.{Shares, all_left_out, all_second, both_share, in_first, in_second, second_only, turned}
use Rattle.sr_front.proofs.Constants.WaitingItems.{Stands as WaitingStands, WaitsAs, as_const, as_var, of_body, of_spec, waiting_stands}
use Rattle.sr_front.proofs.Constants.WavedEnds.{not_away}
use Rattle.sr_front.proofs.Names.WordsApart.{type_shares}

-- ---- the names

-- of types, their literals, and types of operations
abbrev pub spec_fixed : SpecItem → List Span
spec_fixed (spec.«Type» named) = named.name.span ∷ names_spans (literals_of named.ty)
spec_fixed (spec.OpType named) = named.name.span ∷ []
spec_fixed one = []

-- of constants, variables and operations
abbrev spec_others : SpecItem → List Span
spec_others (spec.Const constant) = constant.name.span ∷ []
spec_others (spec.Op operations) = map op_item_span operations.items
spec_others (spec.Sem declared) = map (λ (semaphore : Semaphore). semaphore.name.span) declared.semaphores
spec_others (spec.Var variables) = map (λ (decl : DeclTree). decl.name.span) variables.decls
spec_others one = []

abbrev pub item_fixed : Item → List Span
item_fixed (item.Spec declared) = spec_fixed declared
item_fixed one = []

abbrev item_others : Item → List Span
item_others (item.Spec declared) = spec_others declared
item_others (item.Procedure procedure) = procedure.name.span ∷ []
item_others (item.Process process) = process.name.span ∷ []
item_others one = []

-- and of the component
abbrev pub component_fixed : Component → List Span
component_fixed component = (name_of component).span ∷ (flat_map spec_fixed (spec_of component) ++ flat_map item_fixed (body_of component))

abbrev component_others : Component → List Span
component_others component = flat_map spec_others (spec_of component) ++ (flat_map formal_names (formals_of component) ++ flat_map item_others (body_of component))

spec_share : (one : SpecItem) → Shares (spec_item_names one) (spec_fixed one) (spec_others one)
spec_share (spec.Import declared) = all_left_out _
spec_share (spec.Const constant) = in_second constant.name.span (all_left_out _)
spec_share (spec.«Type» named) = in_first named.name.span (turned (second_only (type_shares named.ty)))
spec_share (spec.OpType named) = in_first named.name.span (all_left_out _)
spec_share (spec.Op operations) = turned (ops_share operations.items)
spec_share (spec.Var variables) = turned (ended _ (vars_share variables.decls))
spec_share (spec.Sem declared) = turned (sems_share declared.semaphores)

item_share : (one : Item) → Shares (item_names one) (item_fixed one) (item_others one)
item_share (item.Spec declared) = spec_share declared
item_share (item.Procedure procedure) = in_second procedure.name.span (all_left_out _)
item_share (item.Process process) = in_second process.name.span (all_left_out _)
item_share _ = all_left_out _

component_share : (component : Component) → Shares (component_names component) (component_fixed component) (component_others component)
component_share component =
    in_first (name_of component).span (both_share (parts_share spec_item_names spec_fixed spec_others spec_share (spec_of component))
    (both_share (all_second (flat_map formal_names (formals_of component))) (parts_share item_names item_fixed item_others item_share (body_of component))))

-- the others stand elsewhere
others_apart : (files : List File) → IsDistinct same_spot (map spot_of (flat_map file_names files))
    → Each (λ span. Away (spot_of span) (flat_map component_fixed (components_in files))) (flat_map component_others (components_in files))
others_apart = apart_in component_fixed component_others component_share

-- ---- what is known at them

-- no operation, and no value that isn't static
abbrev IsFixed : Info → Type 0
IsFixed (info.Value typed) = is_some (known typed.value) ≡ true
IsFixed (info.Operation ty component is_local) = ⊥
IsFixed one = Unit {0}

module _ (fixed : List Span) where
  abbrev Fits : Spot → Info → Type 0
  Fits spot one = IsFixed one ⊎ Away spot fixed

  abbrev AwayAt : Span → Type 0
  AwayAt span = Away (spot_of span) fixed

  words_fit : (names : List Span) → Each (λ span. WordAt Fits (spot_of span)) names
  words_fit [] = tt
  words_fit (name ∷ names) = (record { enumeration = λ number literals. inl tt; fields = λ fields. inl tt; literal = λ word number index. inl refl }, words_fit names)

  op_fits : (op : OpItem) → AwayAt (op_item_span op) → OperationAt Fits (spot_of (op_item_name op).span)
  op_fits (Signed span name signature) away = λ type component is_local. inr away
  op_fits (Typed span name optype) away = λ type component is_local. inr away

  ops_fit : (ops : List OpItem) → Each AwayAt (map op_item_span ops) → Each (λ op. OperationAt Fits (spot_of (op_item_name op).span)) ops
  ops_fit [] away = tt
  ops_fit (op ∷ ops) away = (op_fits op away.0, ops_fit ops away.1)

  sems_fit : (some : List Semaphore) → Each AwayAt (map (λ (semaphore : Semaphore). semaphore.name.span) some) → Each (λ (semaphore : Semaphore). OperationAt Fits (spot_of semaphore.name.span)) some
  sems_fit [] away = tt
  sems_fit (one ∷ some) away = (λ type component is_local. inr away.0, sems_fit some away.1)

  vars_fit : (decls : List DeclTree) → Each AwayAt (map (λ (decl : DeclTree). decl.name.span) decls) → Each (λ (decl : DeclTree). VarAt Fits (spot_of decl.name.span)) decls
  vars_fit [] away = tt
  vars_fit (decl ∷ decls) away = (λ type. inr away.0, vars_fit decls away.1)

  formals_fit : (names : List Span) → Each AwayAt names → Each (λ span. VarAt Fits (spot_of span)) names
  formals_fit [] away = tt
  formals_fit (name ∷ names) away = (λ type. inr away.0, formals_fit names away.1)

  spec_fits : (one : SpecItem) → Each AwayAt (spec_others one) → SpecFits Fits one
  spec_fits (spec.Import declared) away = tt
  spec_fits (spec.Const constant) away = λ typed. inr away.0
  spec_fits (spec.«Type» named) away = (λ facts fit. inl tt, words_fit (type_names named.ty))
  spec_fits (spec.OpType named) away = λ facts fit. inl tt
  spec_fits (spec.Op operations) away = ops_fit operations.items away
  spec_fits (spec.Var variables) away = vars_fit variables.decls away
  spec_fits (spec.Sem declared) away = sems_fit declared.semaphores away

  item_fits : (one : Item) → Each AwayAt (item_others one) → ItemFits Fits one
  item_fits (item.Spec declared) away = spec_fits declared away
  item_fits (item.Procedure procedure) away = λ type component is_local. inr away.0
  item_fits (item.Process process) away = λ type component is_local. inr away.0
  item_fits _ away = tt

  parts_fit : {A : Type 0} (names : A → List Span) (Good : A → Type 0) → ((one : A) → Each AwayAt (names one) → Good one) → (all : List A) → Each AwayAt (flat_map names all) → Each Good all
  parts_fit names Good good [] away = tt
  parts_fit names Good good (one ∷ all) away = (good one (each-left AwayAt (names one) (flat_map names all) away), parts_fit names Good good all (each-right AwayAt (names one) (flat_map names all) away))

  abbrev Inv : List Span → Facts → Type 0
  Inv after = AllFit Fits

  keeps : KeepsInv Inv (SpecFits Fits) (ItemFits Fits) (HeadFits Fits)
  keeps = record {
    spec_item = λ in_spec one tally after fits rises inv. fit_spec_item Fits in_spec one tally fits inv;
    item = λ one tally after fits rises inv. fit_item Fits one tally fits inv;
    head = λ component facts after fits rises inv. fit_head Fits component facts fits inv;
    standing = λ facts component after inv. inv;
    name = λ facts name after inv. inv;
  }

  named_fit : (some : List Component) (facts : Facts) → AllFit Fits facts → AllFit Fits (components_named some facts)
  named_fit [] facts fit = fit
  named_fit (one ∷ some) facts fit = named_fit some _ (fits_with Fits facts (spot_of (name_of one).span) (info.Component ty.Untyped) (inl tt) tt fit)

  files_fit : (files : List File) (facts : Facts) → AllFit Fits facts → AllFit Fits (files_named files facts)
  files_fit [] facts fit = fit
  files_fit (file ∷ files) facts fit = files_fit files (components_named file.components facts) (named_fit file.components facts fit)

  module _ (uses : Meanings) (specs : Specs) (files : List File) where
    abbrev Fit : Component → Type 0
    Fit = ComponentFits Inv (SpecFits Fits) (ItemFits Fits) (HeadFits Fits) keeps (names_of_components files) (program_declared uses specs files)

    component_fits : (component : Component) → Each AwayAt (component_others component) → Fit component
    component_fits component away =
        let others = flat_map spec_others (spec_of component) in
        let formals = flat_map formal_names (formals_of component) in
        let after = each-right AwayAt others _ away in
        record {
          specs = parts_fit spec_others (SpecFits Fits) spec_fits (spec_of component) (each-left AwayAt others _ away);
          head = (λ type. inl tt, formals_fit formals (each-left AwayAt formals _ after));
          items = parts_fit item_others (ItemFits Fits) item_fits (body_of component) (each-right AwayAt formals _ after);
        }

    declared_fit : Each AwayAt (flat_map component_others (components_in files)) → Rises (flat_map file_names files) → AllFit Fits (program_declared uses specs files)
    declared_fit away rises =
        inv_declared Inv (SpecFits Fits) (ItemFits Fits) (HeadFits Fits) keeps uses specs files (parts_fit component_others Fit component_fits (components_in files) away)
        (files_fit files (no_facts uses specs) (λ spot one is. absurd (none-some one is))) rises

-- ---- what waits stands at one of the others

waits_as : (in_spec : Bool) (component : Decl) (one : SpecItem) (waiting : Waiting) → WaitsAs in_spec component one waiting → Stands waiting.spot (spec_others one)
waits_as in_spec component one waiting (as_const constant is untyped same) = subst (λ it. Stands waiting.spot (spec_others it)) is (inl (ap (λ (it : Waiting). it.spot) same))
waits_as in_spec component one waiting (as_var variables decl value is untyped decls values same) =
    subst (λ it. Stands waiting.spot (spec_others it)) is
    (subst (λ (some : List DeclTree). Stands waiting.spot (map (λ (decl : DeclTree). decl.name.span) some)) (sym decls) (inl (ap (λ (it : Waiting). it.spot) same)))

waiting_in : (component : Component) (waiting : Waiting) → WaitingStands waiting component → Stands waiting.spot (component_others component)
waiting_in component waiting (of_spec one among how) =
    stands_left waiting.spot (flat_map spec_others (spec_of component)) _ (stands_among spec_others (spec_of component) one waiting.spot among (waits_as _ _ one waiting how))
waiting_in component waiting (of_body one among how) =
    stands_right waiting.spot (flat_map spec_others (spec_of component)) _ (stands_right waiting.spot (flat_map formal_names (formals_of component)) _
    (stands_among item_others (body_of component) (item.Spec one) waiting.spot among (waits_as _ _ one waiting how)))

-- ---- in the end

module _ (files : List File) (names : Names) (named : resolved files ≡ Ok names) (distinct : IsDistinct same_spot (map spot_of (flat_map file_names files))) (rises : Rises (flat_map file_names files)) (specs : Specs)
    (facts : Facts) (final : facts ≡ (checked names.uses specs files).facts) where
  abbrev all : List Component
  all = components_in files

  abbrev fixed : List Span
  fixed = flat_map component_fixed all

  abbrev last : Facts
  last = program_declared names.uses specs files

  abbrev first : Facts
  first = program_known names.uses specs files

  abbrev inside : List Span
  inside = flat_map component_inside all

  fit_last : AllFit (Fits fixed) last
  fit_last = declared_fit fixed names.uses specs files (others_apart files distinct) rises

  -- what is known once all is declared is known in the end
  kept : (spot : Spot) (one : Info) → info_at last.infos spot ≡ Some one → info_at facts.infos spot ≡ Some one
  kept spot one is =
      let now = (known_waved files names named distinct rises specs).kept spot one is in
      subst (λ (it : Facts). info_at it.infos spot ≡ Some one) (sym (final ∙ files_facts files first))
      (same_elsewhere inside first (components_read all first).facts (reads_components all first) spot (inside_fresh names.uses specs files distinct spot one now) ∙ now)

  -- no value that isn't static may be meant there
  abbrev pub NoVariable : Spot → Type 0
  NoVariable spot = means_value (info_at facts.infos spot) ≡ true → constant_at facts spot ≡ None → ⊥

  no_value : (spot : Spot) (one : Info) → info_at facts.infos spot ≡ Some one → means_value (Some one) ≡ false → NoVariable spot
  no_value spot one is not value constant = false≢true (sym not ∙ ap means_value (sym is) ∙ value)

  fixed_no : (spot : Spot) (one : Info) → info_at facts.infos spot ≡ Some one → IsFixed one → NoVariable spot
  fixed_no spot (info.Value typed) is static = λ value constant. false≢true (sym (ap is_some (sym (ap (λ found. option_and_then info_constant found) is) ∙ constant)) ∙ static)
  fixed_no spot (info.Operation ty component is_local) is h = absurd h
  fixed_no spot _ is h = no_value spot _ is refl

  known_no : (spot : Spot) → Stands spot fixed → is_some (info_at last.infos spot) ≡ true → NoVariable spot
  known_no spot stands = by (info_at last.infos spot) refl
    where
      is_fixed : (one : Info) → IsFixed one ⊎ Away spot fixed → IsFixed one
      is_fixed one (inl h) = h
      is_fixed one (inr away) = absurd (not_away spot fixed stands away)

      by : (found : Option Info) → info_at last.infos spot ≡ found → is_some found ≡ true → NoVariable spot
      by None is h = absurd (false≢true h)
      by (Some one) is h = fixed_no spot one (kept spot one is) (is_fixed one (fit_last spot one is).0)

  -- nothing waits there
  none_waits : (spot : Spot) → Stands spot fixed → Waits spot (files_waiting files) → ⊥
  none_waits spot stands waits =
      let found = waiting_stands waits.waiting files waits.among in
      let others = flat_map component_others all in
      let there = stands_among component_others all found.component waits.waiting.spot found.there (waiting_in found.component waits.waiting found.stands) in
      not_away spot fixed stands (subst (λ at. Away at fixed) waits.is (each_stands (λ at. Away at fixed) others (others_apart files distinct) waits.waiting.spot there))

  module _ (component : Component) (there : IsIn component all) where
    pub component_no : NoVariable (component_spot component)
    component_no = known_no (component_spot component) (stands_among component_fixed all component (component_spot component) there (inl refl)) ((whole_last files names named distinct rises specs).1.0 component there)

    pub own_no : (one : Sort × Name) → IsIn one (own_names component) → Stands (spot_named one.1) (component_fixed component) → NoVariable (spot_named one.1)
    own_no one among stands = by (known_or_waits names.uses specs files component there one among)
      where
        spot : Spot
        spot = spot_named one.1

        among_fixed : Stands spot fixed
        among_fixed = stands_among component_fixed all component spot there stands

        by : KnownOrWaits last (files_waiting files) spot → NoVariable spot
        by (inl h) = known_no spot among_fixed h
        by (inr h) = absurd (none_waits spot among_fixed h)

-- The names in the type of a constant or variable, in a type of operations, and in the formals of a component mean where they
-- stand what they mean where they are checked, and its signatures have the same numbers.
use Rattle.std.proofs.Common.{◌≡◌, inl, inr, Bool, true, false, List, [], ◌∷◌, ◌++◌, flat_map, map, Option, Some, None, Ok, refl, subst}
use Rattle.std.specs.List.{IsDistinct}
use Rattle.sr_check.proofs.Each.{Each, each-left, each-right, each-weaker}
use Rattle.sr_check.proofs.Entered.{keeps_formals, keeps_signature, keeps_written}
use Rattle.sr_check_decl.specs.Declaring.{const_declared, head_declared, optype_declared, var_declared}
use Rattle.sr_check_decl.specs.Entering.{formals_entered, signature_entered, written_entered}
use Rattle.sr_check_expr.specs.declared.facts.Facts.{Facts}
use Rattle.sr_names.specs.declared.meaning.Decl.{Decl}
use Rattle.sr_names.specs.declared.meaning.Meaning.TheVariants.{Declared}
use Rattle.sr_names.specs.declared.spot.Spot.{Spot}
use Rattle.sr_names.specs.Scopes.{is_within}
use Rattle.sr_names.specs.Specs.{Specs}
use Rattle.sr_names.specs.Spots.{same_spot, spot_before, spot_of}
use Rattle.sr_names.specs.Uses.{meaning_at}
use Rattle.sr_order.specs.Names.{const_names, decl_names, expr_names, file_names, formal_names, optype_names, spec_item_names, type_names, var_names, where_some}
use Rattle.sr_scope.specs.Components.{imported_names}
use Rattle.sr_scope.specs.declared.program.Names.{Names}
use Rattle.sr_scope.specs.Items.{spec_within}
use Rattle.sr_scope.specs.Resolved.{resolved}
use Rattle.sr_scope.specs.Uses.{IsIn}
use Rattle.sr_tables.specs.Parts.{component_spot, components_in}
use Rattle.sr_tree.specs.declared.component.Component.{Component}
use Rattle.sr_tree.specs.declared.component.File.{File}
use Rattle.sr_tree.specs.declared.component.Item.TheVariants as item
use Rattle.sr_tree.specs.declared.component.SpecItem.{SpecItem}
use Rattle.sr_tree.specs.declared.component.SpecItem.TheVariants as spec
use Rattle.sr_tree.specs.declared.declaration.ConstDecl.{ConstDecl}
use Rattle.sr_tree.specs.declared.declaration.OpTypeDecl.{OpTypeDecl}
use Rattle.sr_tree.specs.declared.declaration.VarDecl.{VarDecl}
use Rattle.sr_tree.specs.declared.types.Formal.{Formal}
use Rattle.sr_tree.specs.declared.types.TypeTree.{TypeTree}
use Rattle.sr_tree.specs.Parts.{body_of, formals_of, name_of, spec_of}
use Rattle.sr_value.specs.declared.place.Span.{Span}
use Rattle.sr_front.proofs.Known.DeclaredAgrees.{HeadAgrees, SignatureAgrees, WrittenAgrees}
use Rattle.sr_front.proofs.Own.DeclaredIn.{Stands}
use Rattle.sr_front.proofs.Known.DeclaredThen.{in_map, names_of_components, one_free}
use Rattle.sr_front.proofs.Names.FirmNames.{component_firm, component_loose, component_own, firm_from_loose, item_firm, item_loose, loose_from_firm, own_firm_share, spec_firm, spec_loose}
use Rattle.sr_front.proofs.Known.HalfProgram.{Ending}
use Rattle.sr_front.proofs.Known.KeptNames.{Anywhere, anywhere}
use Rattle.sr_front.proofs.Known.Lasting.{Away}
use Rattle.sr_front.proofs.Known.OrderKept.{Leading, Other, StillPart, counts_declares, counts_last, kept_const, kept_head, kept_optype, kept_var, part_lasts, still_part}
use Rattle.sr_front.proofs.Names.OwnApart.{each_stands}
use Rattle.sr_front.proofs.Known.ProgramReads.{firm_away}
use Rattle.sr_front.proofs.Names.RightNames.{RightAt, body_names_right, formal_names_right, spec_names_right}
use Rattle.sr_front.proofs.Lists.Rising.{Rises, away_after}
use Rattle.sr_front.proofs.Names.Shares.{apart_in, other_way}
use Rattle.sr_front.proofs.Lists.Sharing.{turned}
use Rattle.sr_front.proofs.Known.TypeSites.{Lasts, Reached, SameMeant, Sited, agrees_each, all_are_firm, end_counts, end_uses, last, part_at, sited, sited_end}
use Rattle.sr_front.proofs.Typed.TypedTypes.{Counts, all_uses, counts_itself, counts_through, formal_uses, signature_uses, type_uses}
use Rattle.sr_front.proofs.Names.UsesAmong.{uses_of_formals, uses_of_signature, uses_of_type}
use Rattle.sr_front.proofs.Constants.WavedEnds.{own_stands}
use Rattle.sr_front.proofs.Names.WordsApart.{component_named, component_words, item_words, named_from_words, spec_words}

-- of one part
each_part : {A : Type 0} (P : Span → Type 0) (names : A → List Span) (all : List A) (one : A) → IsIn one all → Each P (flat_map names all) → Each P (names one)
each_part P names [] one k each = absurd k
each_part P names (first ∷ all) one (inl e) each = subst (λ it. Each P (names it)) e (each-left P (names first) (flat_map names all) each)
each_part P names (first ∷ all) one (inr k) each = each_part P names all one k (each-right P (names first) (flat_map names all) each)

module _ (files : List File) (names : Names) (named : resolved files ≡ Ok names) (distinct : IsDistinct same_spot (map spot_of (flat_map file_names files))) (rises : Rises (flat_map file_names files)) (specs : Specs) where
  abbrev all : List Component
  all = components_in files

  abbrev loose : List Span
  loose = flat_map component_loose all

  abbrev firm : List Span
  firm = flat_map component_firm all

  abbrev typing : List Span
  typing = flat_map component_named all

  abbrev final : Facts
  final = last files names named distinct rises specs

  abbrev pub Ends : Facts → Type 1
  Ends = Ending names.uses specs files

  abbrev pub Same : Facts → Facts → Span → Type 0
  Same = SameMeant files names named distinct rises specs

  abbrev pub At : Facts → Type 0
  At = Reached files names named distinct rises specs

  abbrev pub Leads : List Span → Facts → Type 1
  Leads = Leading files names named distinct rises specs

  abbrev pub SitedBy : (Spot → Type 0) → Spot → Type 0
  SitedBy = Sited files names named distinct rises specs

  abbrev pub LastsBy : (Spot → Type 0) → Facts → Type 0
  LastsBy = Lasts files names named distinct rises specs

  -- before what follows, and not what is declared
  abbrev pub Fine : List Span → Option Spot → Spot → Type 0
  Fine rest within spot = Away spot rest × (is_within within spot ≡ false)

  abbrev pub SitedMeant : (Spot → Type 0) → Span → Type 0
  SitedMeant fine used = (decl : Decl) → meaning_at names.uses (spot_of used) ≡ Some (Declared decl) → SitedBy fine decl.spot

  pub same_each : (fine : Spot → Type 0) (now end : Facts) → ((spot : Spot) → SitedBy fine spot → part_at end spot ≡ part_at now spot) → (spans : List Span) → Each (SitedMeant fine) spans → Each (Same now end) spans
  same_each fine now end same spans = each-weaker (SitedMeant fine) (Same now end) (λ used sites decl means. same decl.spot (sites decl means)) spans

  written_agrees : (written : Option TypeTree) (now : Facts) → now.uses ≡ names.uses → ((end : Facts) → Ends end → Each (Same now end) (where_some type_names written))
      → ((end : Facts) → Ends end → Counts (written_entered written now) end) → WrittenAgrees Ends written now
  written_agrees None now here each counts = tt
  written_agrees (Some tree) now here each counts = λ end ends. (
    agrees_each files names named distinct rises specs now end here (end_uses files names named distinct rises specs end ends) (type_uses tree) (uses_of_type (Same now end) tree (each end ends)),
    counts end ends,
  )

  -- ---- where the names of types stand

  types_loose : (spot : Spot) → Stands spot typing → Away spot loose
  types_loose spot stands = each_stands (λ at. Away at loose) firm (firm_from_loose files distinct) spot (all_are_firm spot all stands)

  types_words : (spot : Spot) → Stands spot typing → Away spot (flat_map component_words all)
  types_words spot stands = each_stands (λ at. Away at (flat_map component_words all)) typing (named_from_words files distinct) spot stands

  loose_firm : (spot : Spot) → Stands spot loose → Away spot firm
  loose_firm spot stands = each_stands (λ at. Away at firm) loose (loose_from_firm files distinct) spot stands

  own_firm : (component : Component) → IsIn component all → Away (component_spot component) firm
  own_firm component there =
      each_stands (λ at. Away at firm) (flat_map component_own all) (apart_in component_firm component_own (λ (one : Component). turned (own_firm_share one)) files distinct) (component_spot component) (own_stands all component there)

  pub types_away : (spot : Spot) → Stands spot typing → Away spot (names_of_components files)
  types_away spot stands = firm_away files names named distinct rises specs spot (all_are_firm spot all stands)

  module _ (here : Component) (there : IsIn here all) where
    abbrev pub RightIn : Option Spot → Span → Type 0
    RightIn = RightAt files names named distinct here there

    -- what is known of an item by where it stands
    pub record Sites (one : SpecItem) : Type 0 where
      pub right : imported_names one ≡ [] → (used : Span) → IsIn used (spec_item_names one) → RightIn (spec_within one) used
      pub apart_loose : (spot : Spot) → Stands spot typing → Away spot (spec_loose one)
      pub apart_words : (spot : Spot) → Stands spot typing → Away spot (spec_words one)
      pub apart_firm : (spot : Spot) → Stands spot loose → Away spot (spec_firm one)
      pub apart_own : (component : Component) → IsIn component all → Away (component_spot component) (spec_firm one)

    abbrev OtherThan : Spot → Span → Type 0
    OtherThan spot span = same_spot spot (spot_of span) ≡ false

    pub spec_sites : (one : SpecItem) → IsIn one (spec_of here) → Sites one
    spec_sites one k = record {
      right = λ none. spec_names_right files names named distinct here there one none k;
      apart_loose = λ spot h. each_part (OtherThan spot) spec_loose (spec_of here) one k (each-left (OtherThan spot) (flat_map spec_loose (spec_of here)) _ (each_part (OtherThan spot) component_loose all here there (types_loose spot h)));
      apart_words = λ spot h. each_part (OtherThan spot) spec_words (spec_of here) one k (each-left (OtherThan spot) (flat_map spec_words (spec_of here)) _ (each_part (OtherThan spot) component_words all here there (types_words spot h)));
      apart_firm = λ spot h. each_part (OtherThan spot) spec_firm (spec_of here) one k (each-left (OtherThan spot) (flat_map spec_firm (spec_of here)) _ (each_part (OtherThan spot) component_firm all here there (loose_firm spot h)));
      apart_own = λ component among.
          let spot = component_spot component in
          each_part (OtherThan spot) spec_firm (spec_of here) one k (each-left (OtherThan spot) (flat_map spec_firm (spec_of here)) _ (each_part (OtherThan spot) component_firm all here there (own_firm component among)));
    }

    pub body_sites : (one : SpecItem) → IsIn (item.Spec one) (body_of here) → Sites one
    body_sites one k = record {
      right = λ none. body_names_right files names named distinct here there one none k;
      apart_loose = λ spot h.
          each_part (OtherThan spot) item_loose (body_of here) (item.Spec one) k
          (each-right (OtherThan spot) (flat_map formal_names (formals_of here)) _ (each-right (OtherThan spot) (flat_map spec_loose (spec_of here)) _ (each_part (OtherThan spot) component_loose all here there (types_loose spot h))));
      apart_words = λ spot h. each_part (OtherThan spot) item_words (body_of here) (item.Spec one) k (each-right (OtherThan spot) (flat_map spec_words (spec_of here)) _ (each_part (OtherThan spot) component_words all here there (types_words spot h)));
      apart_firm = λ spot h. each_part (OtherThan spot) item_firm (body_of here) (item.Spec one) k (each-right (OtherThan spot) (flat_map spec_firm (spec_of here)) _ (each_part (OtherThan spot) component_firm all here there (loose_firm spot h)));
      apart_own = λ component among.
          let spot = component_spot component in
          each_part (OtherThan spot) item_firm (body_of here) (item.Spec one) k (each-right (OtherThan spot) (flat_map spec_firm (spec_of here)) _ (each_part (OtherThan spot) component_firm all here there (own_firm component among)));
    }

    formals_away : (spot : Spot) → Stands spot typing → Away spot (flat_map formal_names (formals_of here))
    formals_away spot stands =
        each-left (OtherThan spot) (flat_map formal_names (formals_of here)) _ (each-right (OtherThan spot) (flat_map spec_loose (spec_of here)) _ (each_part (OtherThan spot) component_loose all here there (types_loose spot stands)))

    -- ---- names

    sited_each : (within : Option Spot) (rest spans : List Span) → ((used : Span) → IsIn used spans → RightIn within used) → Each (λ used. (spot : Spot) → spot_before spot (spot_of used) ≡ true → Away spot rest) spans
        → Each (SitedMeant (Fine rest within)) spans
    sited_each within rest [] right away = tt
    sited_each within rest (used ∷ spans) right away = (
      λ decl means. sited files names named distinct rises specs (Fine rest within) here there within (spot_of used) decl (right used (inl refl) decl means) (λ spot before other. (away.0 spot before, other)),
      sited_each within rest spans (λ one k. right one (inr k)) away.1,
    )

    pub sited_all : (within : Option Spot) (rest spans : List Span) → Rises (spans ++ rest) → ((used : Span) → IsIn used spans → RightIn within used) → Each (SitedMeant (Fine rest within)) spans
    sited_all within rest spans rising right = sited_each within rest spans right (away_after [] spans rest rising)

    -- where types last, what names mean is the same where they are checked
    pub same_all : (fine : Spot → Type 0) (now end : Facts) → Ends end → At now → LastsBy fine now → (spans : List Span) → Each (SitedMeant fine) spans → Each (Same now end) spans
    same_all fine now end ends reached lasts = same_each fine now end (sited_end files names named distinct rises specs fine now end ends reached lasts)

    -- ---- items

    pub const_agrees : (in_spec : Bool) (constant : ConstDecl) (now : Facts) (rest : List Span) → Sites (spec.Const constant) → At now → Rises (const_names constant ++ rest) → Leads rest (const_declared in_spec constant now)
        → WrittenAgrees Ends constant.ty now
    const_agrees in_spec constant now rest sites reached rising leads =
        written_agrees constant.ty now reached.uses
        (λ end ends. each-left (Same now end) (where_some type_names constant.ty) (expr_names constant.value) (same_all (Fine rest within) now end ends reached lasts (const_names constant) (sited_all within rest (const_names constant) rising (sites.right refl))).1)
        (λ end ends.
        counts_through entered final end
        (counts_last files names named distinct rises specs rest entered (const_declared in_spec constant now) leads (kept_const (Counts entered) Anywhere (counts_declares entered) in_spec constant now tt (counts_itself entered)))
        (end_counts files names named distinct rises specs end ends))
      where
        name : Spot
        name = spot_of constant.name.span

        within : Option Spot
        within = Some (spot_of constant.name.span)

        entered : Facts
        entered = written_entered constant.ty now

        lasts : LastsBy (Fine rest within) now
        lasts spot stands fine =
            let part = part_at now spot in
            part_lasts files names named distinct rises specs rest (const_declared in_spec constant now) spot part leads stands fine.0
            (kept_const (StillPart spot part) (Other spot part) (still_part spot part) in_spec constant now (other_way (spot_of constant.name.span) spot fine.1)
            (keeps_written (StillPart spot part) (λ facts signature h. h) constant.ty now (inl refl)))

    pub var_agrees : (variables : VarDecl) (now : Facts) (rest : List Span) → Sites (spec.Var variables) → At now → Rises (var_names variables ++ rest) → Leads rest (var_declared variables now) → WrittenAgrees Ends variables.ty now
    var_agrees variables now rest sites reached rising leads =
        written_agrees variables.ty now reached.uses
        (λ end ends.
        each-left (Same now end) (where_some type_names variables.ty) _
        (each-right (Same now end) (flat_map decl_names variables.decls) _ (same_all (Fine rest None) now end ends reached lasts (var_names variables) (sited_all None rest (var_names variables) rising (sites.right refl)))))
        (λ end ends.
        counts_through entered final end
        (counts_last files names named distinct rises specs rest entered (var_declared variables now) leads (kept_var (Counts entered) Anywhere (counts_declares entered) variables now (anywhere (spec_loose (spec.Var variables))) (counts_itself entered)))
        (end_counts files names named distinct rises specs end ends))
      where
        entered : Facts
        entered = written_entered variables.ty now

        lasts : LastsBy (Fine rest None) now
        lasts spot stands fine =
            let part = part_at now spot in
            part_lasts files names named distinct rises specs rest (var_declared variables now) spot part leads stands fine.0
            (kept_var (StillPart spot part) (Other spot part) (still_part spot part) variables now (sites.apart_loose spot stands) (keeps_written (StillPart spot part) (λ facts signature h. h) variables.ty now (inl refl)))

    pub optype_agrees : (named_type : OpTypeDecl) (now : Facts) (rest : List Span) → Sites (spec.OpType named_type) → At now → Rises (optype_names named_type ++ rest) → Leads rest (optype_declared named_type now)
        → SignatureAgrees Ends named_type.signature now
    optype_agrees named_type now rest sites reached rising leads end ends = (
      agrees_each files names named distinct rises specs now end reached.uses (end_uses files names named distinct rises specs end ends) (signature_uses named_type.signature)
          (uses_of_signature (Same now end) named_type.signature (same_all (Fine rest within) now end ends reached lasts (optype_names named_type) (sited_all within rest (optype_names named_type) rising (sites.right refl))).1),
      counts_through entered final end
          (counts_last files names named distinct rises specs rest entered (optype_declared named_type now) leads (kept_optype (Counts entered) Anywhere (counts_declares entered) named_type now tt (counts_itself entered)))
          (end_counts files names named distinct rises specs end ends),
    )
      where
        within : Option Spot
        within = Some (spot_of named_type.name.span)

        entered : Facts
        entered = signature_entered named_type.signature now

        lasts : LastsBy (Fine rest within) now
        lasts spot stands fine =
            let part = part_at now spot in
            part_lasts files names named distinct rises specs rest (optype_declared named_type now) spot part leads stands fine.0
            (kept_optype (StillPart spot part) (Other spot part) (still_part spot part) named_type now (other_way (spot_of named_type.name.span) spot fine.1)
            (keeps_signature (StillPart spot part) (λ facts signature h. h) named_type.signature now (inl refl)))

    pub head_agrees : (now : Facts) (rest : List Span) → At now → Rises (flat_map formal_names (formals_of here) ++ rest) → Leads rest (head_declared here now) → HeadAgrees Ends here now
    head_agrees now rest reached rising leads end ends = (
      agrees_each files names named distinct rises specs now end reached.uses (end_uses files names named distinct rises specs end ends) (all_uses (map formal_uses formals))
          (uses_of_formals (Same now end) formals (same_all (Fine rest None) now end ends reached lasts (flat_map formal_names formals) (sited_all None rest (flat_map formal_names formals) rising (formal_names_right files names named distinct here there)))),
      counts_through entered final end
          (counts_last files names named distinct rises specs rest entered (head_declared here now) leads (kept_head (Counts entered) Anywhere (counts_declares entered) here now tt (anywhere (flat_map formal_names formals)) (counts_itself entered)))
          (end_counts files names named distinct rises specs end ends),
    )
      where
        formals : List Formal
        formals = formals_of here

        entered : Facts
        entered = formals_entered (formals_of here) now

        lasts : LastsBy (Fine rest None) now
        lasts spot stands fine =
            let part = part_at now spot in
            part_lasts files names named distinct rises specs rest (head_declared here now) spot part leads stands fine.0
            (kept_head (StillPart spot part) (Other spot part) (still_part spot part) here now
            (one_free (Other spot part) (names_of_components files) (name_of here).span (in_map all here there) (types_away spot stands))
            (formals_away spot stands)
            (keeps_formals (StillPart spot part) (λ facts signature h. h) (formals_of here) now (inl refl)))

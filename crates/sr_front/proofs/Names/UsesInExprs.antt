-- A fact of each name that is used, by what it means: names, expressions and types.
use Rattle.std.proofs.Common.{◌≡◌, ◌⊎◌, ℕ, Bool, true, false, List, [], ◌∷◌, ◌++◌, Option, Some, None, map, refl, sym, subst, inl, inr, if◌then◌else◌}
use Rattle.std.specs.Prelude.{fold}
use Rattle.sr_value.specs.declared.place.Span.{Span}
use Rattle.sr_names.specs.declared.finding.Finding.{Finding}
use Rattle.sr_names.specs.declared.finding.Finding.TheVariants.{Use, Broken}
use Rattle.sr_names.specs.declared.meaning.Decl.{Decl}
use Rattle.sr_names.specs.declared.meaning.Meaning.{Meaning}
use Rattle.sr_names.specs.declared.meaning.Meaning.TheVariants.{Predefined as MeansPredefined, Declared}
use Rattle.sr_names.specs.declared.meaning.Sort.{Sort}
use Rattle.sr_names.specs.declared.meaning.Sort.TheVariants.{Variable}
use Rattle.sr_names.specs.declared.place.Blocks.{Blocks}
use Rattle.sr_names.specs.declared.place.Place.{Place}
use Rattle.sr_names.specs.declared.spot.Spot.{Spot}
use Rattle.sr_names.specs.Entries.{Entries}
use Rattle.sr_names.specs.Readings.{declaration, reading, twice_unless}
use Rattle.sr_names.specs.Scopes.{denotes, in_blocks, member, no_blocks, opened, or_else, outside}
use Rattle.sr_names.specs.Spots.{spot_of}
use Rattle.sr_names.specs.Tables.{declared_as}
use Rattle.sr_tree.specs.declared.expr.Create.{Create}
use Rattle.sr_tree.specs.declared.expr.Create.TheFolds.{fold_out-Expr, map-Expr}
use Rattle.sr_tree.specs.declared.expr.Create.TheOpen.{Create-F, Expr-F}
use Rattle.sr_tree.specs.declared.expr.Expr.{Expr, out-Expr}
use Rattle.sr_tree.specs.declared.expr.Invocation.{Invocation}
use Rattle.sr_tree.specs.declared.expr.Part.{Part}
use Rattle.sr_tree.specs.declared.name.Name.{Name}
use Rattle.sr_tree.specs.declared.name.QualifiedName.{QualifiedName}
use Rattle.sr_tree.specs.declared.types.Decl.{Decl as DeclTree}
use Rattle.sr_tree.specs.declared.types.DimsTree.{DimsTree}
use Rattle.sr_tree.specs.declared.types.Formal.{Formal}
use Rattle.sr_tree.specs.declared.types.RangeTree.{RangeTree}
use Rattle.sr_tree.specs.declared.types.RangeTree.TheVariants as range
use Rattle.sr_tree.specs.declared.types.Signature.{Signature}
use Rattle.sr_tree.specs.declared.types.TypeTree.{TypeTree}
use Rattle.sr_tree.specs.declared.types.TypeTree.TheOpen.{TypeTree-F}
use Rattle.sr_scope.specs.Declarations.{exprs_found, with_inner}
use Rattle.sr_scope.specs.Declares.{name_twice, names_twice, name_declared, names_declared, returned_declared, returned_twice}
use Rattle.sr_scope.specs.Exprs.{Finds, Reads, all_found, create_found, create_step, expr_reads, expr_step, invocation_found, invocation_step, part_found, part_step, reads_found}
use Rattle.sr_scope.specs.Names.{component, component_named, field_found, is_component, name_found, qualified_found, second_found, spec_name_found}
use Rattle.sr_scope.specs.Types.{Formals, Signed, decls_found, dims_found, expr_found, formal_read, formals_declared, formals_found, formals_twice, maybe_declared, maybe_dims_found, maybe_expr_found, maybe_found, maybe_range_found, maybe_twice, maybe_type_found, range_found, signature_read, signed_declared, signed_found, signed_twice, type_found}
use Rattle.sr_scope.proofs.Tables.{declared_before}
use Rattle.sr_check.proofs.Each.{Each, each-append}
use Rattle.sr_tree.proofs.ExprFolds.{ByParts, Claim, CreateNode, ExprNode, InvocationNode, Known, PartNode, bare_create, bare_expr, bare_invocation, bare_part, create_folds, each_create, each_expr, each_invocation, expr_folds, from_create, from_expr, from_invocation, from_part, invocation_folds, part_folds}
use Rattle.sr_scope.proofs.FoundFolds.{expr_finding, type_finding}
use Rattle.sr_tree.proofs.TypeFolds.{FormalFits, FormalNode, KnownFormal, KnownReturned, Layers, Related, ReturnedFits, ReturnedNode, SignatureFits, SignatureNode, TypeFits, TypeNode, bare_signature, formal_related, signature_layer, signature_related, type_related}

-- what a name means, by what the blocks around it declare it as
abbrev blocks_meaning : Place → List ℕ → Spot → Option Decl → Option Meaning
blocks_meaning place text at (Some decl) = Some (Declared decl)
blocks_meaning place text at None = outside place text at

-- `P at decl`: a name at this spot may mean this declaration
module _ (P : Spot → Decl → Type 0) where
  abbrev pub Fits : Spot → Option Meaning → Type 0
  Fits at None = Unit {0}
  Fits at (Some (MeansPredefined name)) = Unit {0}
  Fits at (Some (Declared decl)) = P at decl

  abbrev pub FindingFits : Finding → Type 0
  FindingFits (Use spot meaning) = Fits spot (Some meaning)
  FindingFits (Broken diagnostic) = Unit {0}

  abbrev pub AllFit : List Finding → Type 0
  AllFit = Each FindingFits

  pub both : (f g : List Finding) → AllFit f → AllFit g → AllFit (f ++ g)
  both f g a b = each-append FindingFits f g a b

  -- ---- scopes

  abbrev pub FoundFits : Option Decl → Type 0
  FoundFits None = Unit {0}
  FoundFits (Some decl) = (at : Spot) → P at decl

  abbrev pub TableFits : Entries → Type 0
  TableFits table = (text : List ℕ) → FoundFits (declared_as table text)

  -- what is declared in blocks
  pub record BlocksFit (blocks : Blocks) : Type 0 where
    pub innermost : TableFits blocks.inner
    pub outer : Each TableFits blocks.outer

  -- a component that a name may mean
  pub record IsNamed (component : Decl) : Type 0 where
    pub at : Spot
    pub may : P at component
    pub is : is_component component.sort ≡ true

  -- what is declared outside of blocks, and in the specs of components that names may mean
  pub record PlaceFits (place : Place) : Type 0 where
    pub names : (text : List ℕ) (at : Spot) → Fits at (denotes place no_blocks text at)
    pub members : (component : Decl) → IsNamed component → (text : List ℕ) (at : Spot) → Fits at (member place component text at)

  abbrev MaybeNamed : Option Decl → Type 0
  MaybeNamed None = Unit {0}
  MaybeNamed (Some component) = IsNamed component

  pub none_fit : TableFits []
  none_fit text = tt

  pub name_table : (sort : Sort) (name : Name) → ((at : Spot) → P at (declaration sort name.span)) → (table : Entries) → TableFits table → TableFits (name_declared sort name table)
  name_table sort name may table fits text = by (declared_as (name_declared sort name table) text) refl
    where
      last : (d : Decl) → (declared_as table text ≡ Some d) ⊎ ((text ≡ name.text) × (declaration sort name.span ≡ d)) → FoundFits (Some d)
      last d (inl e) = subst FoundFits e (fits text)
      last d (inr h) = λ at. subst (P at) h.1 (may at)

      by : (found : Option Decl) → declared_as (name_declared sort name table) text ≡ found → FoundFits found
      by None is = tt
      by (Some d) is = last d (declared_before table name.text text (declaration sort name.span) d is)

  -- what a name is declared as may be meant anywhere
  abbrev pub MayMean : Sort → Name → Type 0
  MayMean sort name = (at : Spot) → P at (declaration sort name.span)

  pub names_table : (sort : Sort) (names : List Name) → Each (MayMean sort) names → (table : Entries) → TableFits table → TableFits (names_declared sort names table)
  names_table sort [] may table fits = fits
  names_table sort (name ∷ names) may table fits = names_table sort names may.1 (name_declared sort name table) (name_table sort name may.0 table fits)

  abbrev pub MayReturn : Option Name → Type 0
  MayReturn None = Unit {0}
  MayReturn (Some name) = MayMean Variable name

  pub returned_table : (returned : Option Name) → MayReturn returned → (table : Entries) → TableFits table → TableFits (returned_declared returned table)
  returned_table None may table fits = fits
  returned_table (Some name) may table fits = name_table Variable name may table fits

  pub blocks_opened : (blocks : Blocks) → BlocksFit blocks → BlocksFit (opened blocks)
  blocks_opened blocks fit = record { innermost = none_fit; outer = each-append TableFits blocks.outer (blocks.inner ∷ []) fit.outer (fit.innermost, tt) }

  pub blocks_with : (blocks : Blocks) (table : Entries) → BlocksFit blocks → TableFits table → BlocksFit (with_inner blocks table)
  blocks_with blocks table fit fits = record { innermost = fits; outer = fit.outer }

  either_found : (first second : Option Decl) → FoundFits first → FoundFits second → FoundFits (or_else first second)
  either_found None second a b = b
  either_found (Some decl) second a b = a

  outer_found : (text : List ℕ) (tables : List Entries) (found : Option Decl) → Each TableFits tables → FoundFits found
      → FoundFits (fold (λ found table. or_else (declared_as table text) found) found tables)
  outer_found text [] found fit fits = fits
  outer_found text (table ∷ tables) found fit fits =
      outer_found text tables (or_else (declared_as table text) found) fit.1 (either_found (declared_as table text) found (fit.0 text) fits)

  blocks_found : (blocks : Blocks) → BlocksFit blocks → (text : List ℕ) → FoundFits (in_blocks blocks text)
  blocks_found blocks fit text =
      either_found (declared_as blocks.inner text) (fold (λ found table. or_else (declared_as table text) found) None blocks.outer) (fit.innermost text)
      (outer_found text blocks.outer None fit.outer tt)

  -- ---- what no use is

  unless_fits : (is_new : Bool) (span : Span) → AllFit (twice_unless is_new span)
  unless_fits true span = tt
  unless_fits false span = (tt, tt)

  pub twice_fits : (sort : Sort) (name : Name) (table : Entries) → AllFit (name_twice sort name table)
  twice_fits sort name table = unless_fits _ name.span

  pub names_twice_fit : (sort : Sort) (names : List Name) (table : Entries) → AllFit (names_twice sort names table)
  names_twice_fit sort [] table = tt
  names_twice_fit sort (name ∷ names) table = both (name_twice sort name table) _ (twice_fits sort name table) (names_twice_fit sort names (name_declared sort name table))

  pub returned_twice_fit : (name : Option Name) (table : Entries) → AllFit (returned_twice name table)
  returned_twice_fit None table = tt
  returned_twice_fit (Some name) table = twice_fits Variable name table

  pub formals_twice_fit : (formals : List Formals) (table : Entries) → AllFit (formals_twice formals table)
  formals_twice_fit [] table = tt
  formals_twice_fit (formal ∷ formals) table =
      both (names_twice Variable formal.names table) _ (names_twice_fit Variable formal.names table) (formals_twice_fit formals (names_declared Variable formal.names table))

  maybe_twice_fit : (formals : Option Formals) (table : Entries) → AllFit (maybe_twice formals table)
  maybe_twice_fit None table = tt
  maybe_twice_fit (Some formals) table = names_twice_fit Variable formals.names table

  pub signed_twice_fit : (signed : Signed) (table : Entries) → AllFit (signed_twice signed table)
  signed_twice_fit signed table = both (formals_twice signed.formals table) _ (formals_twice_fit signed.formals table) (maybe_twice_fit signed.returned (formals_declared signed.formals table))

  abbrev pub FormalMay : Formals → Type 0
  FormalMay formal = Each (MayMean Variable) formal.names

  abbrev pub MaybeMay : Option Formals → Type 0
  MaybeMay None = Unit {0}
  MaybeMay (Some formals) = FormalMay formals

  formals_table : (formals : List Formals) → Each FormalMay formals → (table : Entries) → TableFits table → TableFits (formals_declared formals table)
  formals_table [] may table fits = fits
  formals_table (formal ∷ formals) may table fits = formals_table formals may.1 _ (names_table Variable formal.names may.0 table fits)

  maybe_table : (formals : Option Formals) → MaybeMay formals → (table : Entries) → TableFits table → TableFits (maybe_declared formals table)
  maybe_table None may table fits = fits
  maybe_table (Some formals) may table fits = names_table Variable formals.names may table fits

  pub signed_table : (signed : Signed) → Each FormalMay signed.formals → MaybeMay signed.returned → (table : Entries) → TableFits table → TableFits (signed_declared signed table)
  signed_table signed formals returned table fits = maybe_table signed.returned returned (formals_declared signed.formals table) (formals_table signed.formals formals table fits)

  -- ---- names

  pub reading_fits : (meaning : Option Meaning) (span : Span) → Fits (spot_of span) meaning → AllFit (reading meaning span ∷ [])
  reading_fits None span fits = (tt, tt)
  reading_fits (Some meaning) span fits = (fits, tt)

  module _ (place : Place) (outer : PlaceFits place) where
    meaning_fits : (blocks : Blocks) → BlocksFit blocks → (text : List ℕ) (at : Spot) → Fits at (denotes place blocks text at)
    meaning_fits blocks fit text at = by (in_blocks blocks text) (blocks_found blocks fit text)
      where
        by : (found : Option Decl) → FoundFits found → Fits at (blocks_meaning place text at found)
        by None fits = outer.names text at
        by (Some decl) fits = fits at

    pub name_fits : (blocks : Blocks) → BlocksFit blocks → (name : Name) → AllFit (name_found place blocks name)
    name_fits blocks fit name = reading_fits (denotes place blocks name.text (spot_of name.span)) name.span (meaning_fits blocks fit name.text (spot_of name.span))

    -- the component that a name means may be meant
    component_is : (blocks : Blocks) → BlocksFit blocks → (name : Name) → MaybeNamed (component_named place blocks name)
    component_is blocks fit name = by (denotes place blocks name.text (spot_of name.span)) (meaning_fits blocks fit name.text (spot_of name.span))
      where
        if_component : (decl : Decl) (b : Bool) → is_component decl.sort ≡ b → P (spot_of name.span) decl → MaybeNamed (if b then Some decl else None)
        if_component decl true is may = record { at = spot_of name.span; may = may; is = is }
        if_component decl false is may = tt

        by : (meaning : Option Meaning) → Fits (spot_of name.span) meaning → MaybeNamed (component meaning)
        by None fits = tt
        by (Some (MeansPredefined name)) fits = tt
        by (Some (Declared decl)) fits = if_component decl (is_component decl.sort) refl fits

    field_fits : (component : Option Decl) → MaybeNamed component → (name : Name) → AllFit (field_found place component name)
    field_fits None is name = tt
    field_fits (Some component) is name = reading_fits (member place component name.text (spot_of name.span)) name.span (outer.members component is name.text (spot_of name.span))

    spec_name_fits : (component : Option Decl) → MaybeNamed component → (name : Name) → AllFit (spec_name_found place component name)
    spec_name_fits None is name = (tt, tt)
    spec_name_fits (Some component) is name = reading_fits (member place component name.text (spot_of name.span)) name.span (outer.members component is name.text (spot_of name.span))

    second_fits : (component : Option Decl) → MaybeNamed component → (second : Option Name) → AllFit (second_found place component second)
    second_fits component is None = tt
    second_fits component is (Some name) = spec_name_fits component is name

    pub qualified_fits : (blocks : Blocks) → BlocksFit blocks → (name : QualifiedName) → AllFit (qualified_found place blocks name)
    qualified_fits blocks fit name =
        both (name_found place blocks name.first) _ (name_fits blocks fit name.first)
        (second_fits (component_named place blocks name.first) (component_is blocks fit name.first) name.second)

    -- so may the component that an expression names
    read_is : (tree : Expr) (blocks : Blocks) → BlocksFit blocks → MaybeNamed (expr_reads tree place blocks).component
    read_is tree blocks fit =
        subst (λ (reads : Reads). MaybeNamed (reads place blocks).component) (sym (fold_out-Expr Finds Reads Finds Finds create_step expr_step invocation_step part_step tree)) (by (out-Expr tree))
      where
        by : (x : Expr-F Create Expr Invocation Part)
            → MaybeNamed (expr_step (map-Expr Create Expr Invocation Part Finds Reads Finds Finds create_found expr_reads invocation_found part_found x) place blocks).component
        by (Expr-F.Name name) = component_is blocks fit name
        by _ = tt

    -- ---- expressions with what is known of them

    abbrev Good : Finds → Type 0
    Good finds = (blocks : Blocks) → BlocksFit blocks → AllFit (finds place blocks)

    abbrev ExprGood : Reads → Type 0
    ExprGood reads = (blocks : Blocks) → BlocksFit blocks → AllFit (reads place blocks).found

    abbrev fits_all : Claim
    fits_all = record {
      create = λ tree. Good (create_found tree);
      expr = λ tree. ExprGood (expr_reads tree);
      invocation = λ tree. Good (invocation_found tree);
      part = λ tree. Good (part_found tree);
    }

    abbrev T : Type 0
    T = Known fits_all.expr

    abbrev U : Type 0
    U = Known fits_all.part

    all_good : (blocks : Blocks) → BlocksFit blocks → (trees : List T) → AllFit (reads_found (map expr_reads (map (λ tree. tree.0) trees)) place blocks)
    all_good blocks fit [] = tt
    all_good blocks fit (tree ∷ trees) = both (expr_found tree.0 place blocks) _ (tree.1 blocks fit) (all_good blocks fit trees)

    parts_good : (blocks : Blocks) → BlocksFit blocks → (trees : List U) → AllFit (all_found (map part_found (map (λ tree. tree.0) trees)) place blocks)
    parts_good blocks fit [] = tt
    parts_good blocks fit (tree ∷ trees) = both (part_found tree.0 place blocks) _ (tree.1 blocks fit) (parts_good blocks fit trees)

    -- ---- each kind of expression from its parts

    create_good : (y : CreateNode fits_all) → Good (from_create expr_finding (bare_create fits_all y))
    create_good (Create-F.Resource span resource arguments None) blocks fit =
        both (qualified_found place blocks resource) _ (qualified_fits blocks fit resource) (both (reads_found (map expr_reads (map (λ (tree : T). tree.0) arguments)) place blocks) [] (all_good blocks fit arguments) tt)
    create_good (Create-F.Resource span resource arguments (Some machine)) blocks fit =
        both (qualified_found place blocks resource) _ (qualified_fits blocks fit resource)
        (both (reads_found (map expr_reads (map (λ (tree : T). tree.0) arguments)) place blocks) _ (all_good blocks fit arguments) (machine.1 blocks fit))
    create_good (Create-F.Machine span) blocks fit = tt

    expr_good : (y : ExprNode fits_all) → ExprGood (from_expr expr_finding (bare_expr fits_all y))
    expr_good (Expr-F.Literal span literal) blocks fit = tt
    expr_good (Expr-F.Name name) blocks fit = name_fits blocks fit name
    expr_good (Expr-F.BasicType span basic) blocks fit = tt
    expr_good (Expr-F.Conversion span conversion value) blocks fit = value.1 blocks fit
    expr_good (Expr-F.Group span inner) blocks fit = inner.1 blocks fit
    expr_good (Expr-F.Parts span parts) blocks fit = parts_good blocks fit parts
    expr_good (Expr-F.Field span owner field) blocks fit =
        both (expr_found owner.0 place blocks) _ (owner.1 blocks fit) (field_fits (expr_reads owner.0 place blocks).component (read_is owner.0 blocks fit) field)
    expr_good (Expr-F.Index span array first None) blocks fit =
        both (expr_found array.0 place blocks) _ (array.1 blocks fit) (both (expr_found first.0 place blocks) [] (first.1 blocks fit) tt)
    expr_good (Expr-F.Index span array first (Some second)) blocks fit =
        both (expr_found array.0 place blocks) _ (array.1 blocks fit) (both (expr_found first.0 place blocks) _ (first.1 blocks fit) (second.1 blocks fit))
    expr_good (Expr-F.Call invocation) blocks fit = invocation.1 blocks fit
    expr_good (Expr-F.Create create) blocks fit = create.1 blocks fit
    expr_good (Expr-F.Unary span operator operand) blocks fit = operand.1 blocks fit
    expr_good (Expr-F.Pending span operation) blocks fit = name_fits blocks fit operation
    expr_good (Expr-F.Binary span left operator right) blocks fit = both (expr_found left.0 place blocks) _ (left.1 blocks fit) (right.1 blocks fit)

    invocation_good : (y : InvocationNode fits_all) → Good (from_invocation expr_finding (bare_invocation fits_all y))
    invocation_good y blocks fit = both (expr_found y.callee.0 place blocks) _ (y.callee.1 blocks fit) (all_good blocks fit y.arguments)

    part_by : (y : PartNode fits_all) (count : Option T) → Good (from_part expr_finding (bare_part fits_all (record y { count = count })))
    part_by y None blocks fit = y.value.1 blocks fit
    part_by y (Some count) blocks fit = both (expr_found count.0 place blocks) _ (count.1 blocks fit) (y.value.1 blocks fit)

    part_good : (y : PartNode fits_all) → Good (from_part expr_finding (bare_part fits_all y))
    part_good y = part_by y y.count

    -- ---- all expressions

    by_parts : ByParts fits_all
    by_parts = record {
      create = λ y. subst Good (create_folds expr_finding (bare_create fits_all y)) (create_good y);
      expr = λ y. subst ExprGood (expr_folds expr_finding (bare_expr fits_all y)) (expr_good y);
      invocation = λ y. subst Good (invocation_folds expr_finding (bare_invocation fits_all y)) (invocation_good y);
      part = λ y. subst Good (part_folds expr_finding (bare_part fits_all y)) (part_good y);
    }

    pub expr_fits : (tree : Expr) (blocks : Blocks) → BlocksFit blocks → AllFit (expr_found tree place blocks)
    expr_fits = each_expr fits_all by_parts

    pub create_fits : (tree : Create) (blocks : Blocks) → BlocksFit blocks → AllFit (create_found tree place blocks)
    create_fits = each_create fits_all by_parts

    pub invocation_fits : (tree : Invocation) (blocks : Blocks) → BlocksFit blocks → AllFit (invocation_found tree place blocks)
    invocation_fits = each_invocation fits_all by_parts

    pub maybe_expr_fits : (tree : Option Expr) (blocks : Blocks) → BlocksFit blocks → AllFit (maybe_expr_found tree place blocks)
    maybe_expr_fits None blocks fit = tt
    maybe_expr_fits (Some tree) blocks fit = expr_fits tree blocks fit

    pub exprs_fit : (trees : List Expr) (blocks : Blocks) → BlocksFit blocks → AllFit (exprs_found trees place blocks)
    exprs_fit [] blocks fit = tt
    exprs_fit (tree ∷ trees) blocks fit = both (expr_found tree place blocks) _ (expr_fits tree blocks fit) (exprs_fit trees blocks fit)

    -- ---- bounds

    range_fits : (tree : RangeTree) (blocks : Blocks) → BlocksFit blocks → AllFit (range_found tree place blocks)
    range_fits (range.Length span length) blocks fit = expr_fits length blocks fit
    range_fits (range.Bounds span low high) blocks fit = both (expr_found low place blocks) _ (expr_fits low blocks fit) (expr_fits high blocks fit)
    range_fits (range.From span low) blocks fit = expr_fits low blocks fit
    range_fits (range.Any span) blocks fit = tt

    maybe_range_fits : (tree : Option RangeTree) (blocks : Blocks) → BlocksFit blocks → AllFit (maybe_range_found tree place blocks)
    maybe_range_fits None blocks fit = tt
    maybe_range_fits (Some tree) blocks fit = range_fits tree blocks fit

    dims_fit : (dims : DimsTree) (blocks : Blocks) → BlocksFit blocks → AllFit (dims_found dims place blocks)
    dims_fit dims blocks fit = both (range_found dims.first place blocks) _ (range_fits dims.first blocks fit) (maybe_range_fits dims.second blocks fit)

    maybe_dims_fit : (dims : Option DimsTree) (blocks : Blocks) → BlocksFit blocks → AllFit (maybe_dims_found dims place blocks)
    maybe_dims_fit None blocks fit = tt
    maybe_dims_fit (Some dims) blocks fit = dims_fit dims blocks fit

    pub decls_fit : (decls : List DeclTree) (blocks : Blocks) → BlocksFit blocks → AllFit (decls_found decls place blocks)
    decls_fit [] blocks fit = tt
    decls_fit (decl ∷ decls) blocks fit = both (maybe_dims_found decl.dims place blocks) _ (maybe_dims_fit decl.dims blocks fit) (decls_fit decls blocks fit)

    -- ---- types with what is known of them

    abbrev TypesFit : Finds → Finds → Finds → Type 0
    TypesFit finds second third = (blocks : Blocks) → BlocksFit blocks → AllFit (finds place blocks)

    abbrev FormalsFit : Formals → Formals → Formals → Type 0
    FormalsFit read second third = (blocks : Blocks) → BlocksFit blocks → AllFit (read.found place blocks)

    abbrev SignaturesFit : Signed → Signed → Signed → Type 0
    SignaturesFit signed second third = (blocks : Blocks) → BlocksFit blocks → AllFit (signed_found signed place blocks)

    abbrev fitting : Related
    fitting = record { first = type_finding; second = type_finding; third = type_finding; Types = TypesFit; Formals = FormalsFit; Returns = FormalsFit; Signatures = SignaturesFit }

    abbrev F : Type 0
    F = KnownFormal fitting

    abbrev R : Type 0
    R = KnownReturned fitting

    abbrev read : SignatureNode fitting → Signed
    read y = signature_layer type_finding (bare_signature fitting y)

    formals_good : (blocks : Blocks) → BlocksFit blocks → (trees : List F) → AllFit (formals_found (map formal_read (map (λ tree. tree.0) trees)) place blocks)
    formals_good blocks fit [] = tt
    formals_good blocks fit (tree ∷ trees) = both ((formal_read tree.0).found place blocks) _ (tree.1 blocks fit) (formals_good blocks fit trees)

    -- ---- each kind of type from its parts

    type_good : (y : TypeNode fitting) → TypeFits fitting y
    type_good (TypeTree-F.Int span) blocks fit = tt
    type_good (TypeTree-F.Bool span) blocks fit = tt
    type_good (TypeTree-F.Char span) blocks fit = tt
    type_good (TypeTree-F.Str span length) blocks fit = maybe_expr_fits length blocks fit
    type_good (TypeTree-F.Enum span literals) blocks fit = tt
    type_good (TypeTree-F.Rec span fields) blocks fit =
        both (formals_twice (map formal_read (map (λ (tree : F). tree.0) fields)) []) _ (formals_twice_fit (map formal_read (map (λ (tree : F). tree.0) fields)) []) (formals_good blocks fit fields)
    type_good (TypeTree-F.CapOf span name) blocks fit = qualified_fits blocks fit name
    type_good (TypeTree-F.CapMachine span) blocks fit = tt
    type_good (TypeTree-F.CapOperation span signature) blocks fit = signature.1 blocks fit
    type_good (TypeTree-F.Array span dims item) blocks fit = both (dims_found dims place blocks) _ (dims_fit dims blocks fit) (item.1 blocks fit)
    type_good (TypeTree-F.Named span name) blocks fit = qualified_fits blocks fit name

    formal_good : (y : FormalNode fitting) → FormalFits fitting y
    formal_good y blocks fit = both (decls_found y.decls place blocks) _ (decls_fit y.decls blocks fit) (y.ty.1 blocks fit)

    returned_good : (y : ReturnedNode fitting) → ReturnedFits fitting y
    returned_good y blocks fit = both (maybe_dims_found y.decl.dims place blocks) _ (maybe_dims_fit y.decl.dims blocks fit) (y.ty.1 blocks fit)

    signature_good : (y : SignatureNode fitting) → SignatureFits fitting y
    signature_good y blocks fit =
        both (signed_twice (read y) []) _ (signed_twice_fit (read y) []) (by y.returned)
      where
        by : (returned : Option R)
            → AllFit (formals_found (read (record y { returned = returned })).formals place blocks
            ++ maybe_found (read (record y { returned = returned })).returned place blocks)
        by None = both (formals_found (map formal_read (map (λ (tree : F). tree.0) y.formals)) place blocks) [] (formals_good blocks fit y.formals) tt
        by (Some returned) = both (formals_found (map formal_read (map (λ (tree : F). tree.0) y.formals)) place blocks) _ (formals_good blocks fit y.formals) (returned.1 blocks fit)

    -- ---- all types

    layers : Layers fitting
    layers = record { types = type_good; formals = formal_good; returns = returned_good; signatures = signature_good }

    pub type_fits : (tree : TypeTree) (blocks : Blocks) → BlocksFit blocks → AllFit (type_found tree place blocks)
    type_fits = type_related fitting layers

    formal_fits : (tree : Formal) (blocks : Blocks) → BlocksFit blocks → AllFit ((formal_read tree).found place blocks)
    formal_fits = formal_related fitting layers

    pub signature_fits : (tree : Signature) (blocks : Blocks) → BlocksFit blocks → AllFit (signed_found (signature_read tree) place blocks)
    signature_fits = signature_related fitting layers

    pub formals_fit : (formals : List Formal) (blocks : Blocks) → BlocksFit blocks → AllFit (formals_found (map formal_read formals) place blocks)
    formals_fit [] blocks fit = tt
    formals_fit (formal ∷ formals) blocks fit = both ((formal_read formal).found place blocks) _ (formal_fits formal blocks fit) (formals_fit formals blocks fit)

    pub maybe_type_fits : (tree : Option TypeTree) (blocks : Blocks) → BlocksFit blocks → AllFit (maybe_type_found tree place blocks)
    maybe_type_fits None blocks fit = tt
    maybe_type_fits (Some tree) blocks fit = type_fits tree blocks fit

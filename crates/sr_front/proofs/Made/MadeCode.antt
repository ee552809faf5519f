-- Where no rule is broken in the code of a component, what is made of it passes, and so do the sites in it, where the parts do.
use Rattle.std.proofs.Common.{Bool, true, false, List, [], ◌∷◌, ◌++◌, map, flat_map, IsTrue, refl, subst, append_assoc}
use Rattle.std.proofs.lemmas.Bool.{and_from}
use Rattle.std.specs.List.{list_all}
use Rattle.sr_check.proofs.Each.{Each, each-left, each-right}
use Rattle.sr_check.proofs.ErrorFree.{error_free_first, error_free_second}
use Rattle.sr_check.specs.declared.serving.Serving.TheVariants.{SetsUp, Ends, Serves}
use Rattle.sr_check.specs.Components.{beginning, block_read, item_read, items_read, proc_item_read, proc_rules, quantifiers_formal, signed_declared}
use Rattle.sr_check.specs.Contexts.{Context, with_facts}
use Rattle.sr_check.specs.ErrorFree.{ErrorFree}
use Rattle.sr_check.specs.Procs.{Procs}
use Rattle.sr_check.specs.Quantifying.{quantifiers_found, quantifiers_known}
use Rattle.sr_check.specs.Statements.{statement_read}
use Rattle.sr_check.specs.Services.{operation_named, service_bound, spot_or, type_of, decl_named}
use Rattle.sr_check_decl.specs.Constants.{const_found}
use Rattle.sr_check_decl.specs.Declarations.{sems_found, spec_item_found, spec_items_found}
use Rattle.sr_check_decl.specs.Entering.{written_entered}
use Rattle.sr_check_decl.specs.TypeTrees.{signature_read}
use Rattle.sr_check_decl.specs.Variables.{var_found}
use Rattle.sr_check_expr.specs.declared.facts.Facts.{Facts}
use Rattle.sr_core.specs.declared.component.Body.{Body}
use Rattle.sr_core.specs.declared.component.Proc.{Proc as CoreProc}
use Rattle.sr_core.specs.declared.statement.Scope.{Scope}
use Rattle.sr_core.specs.declared.statement.Scope.TheVariants.{Own, Shared}
use Rattle.sr_core.specs.declared.statement.Statement.{Statement as CoreStatement}
use Rattle.sr_desugar.specs.Bodies.{Output, all_code, all_finals, all_procs, body_made, in_body, inner_made, item_output, item_outputs, process_send, process_sends, spec_item_core}
use Rattle.sr_desugar.specs.Core.{spec_code}
use Rattle.sr_desugar.specs.Declarations.{const_core, var_core}
use Rattle.sr_desugar.specs.Statements.{WithSites, act, all_made, all_sites, core_statement, quantifiers_core, semaphores_core}
use Rattle.sr_lower_expr.specs.declared.scene.Scene.{Scene}
use Rattle.sr_lower_expr.proofs.Each.{both_pass}
use Rattle.sr_names.specs.declared.spot.Spot.{Spot}
use Rattle.sr_names.specs.Spots.{spot_of}
use Rattle.sr_order.specs.Names.{arm_names, block_item_names, block_names, branch_names, co_arm_names, const_names, name_names, names_spans, proc_item_names, quantifier_names, semaphore_names, signature_names, statement_names, var_names, where_some}
use Rattle.sr_outline.specs.Heads.{DeclaredOperation, Heads, block_opened, inner_opened, item_opened, process_opened, sems_opened, spec_item_opened}
use Rattle.sr_outline.specs.Numbers.{formal_names as formal_spots, own_spots, quantifier_names as quantifier_spots, returned_names, signature_returned, inner_names, names_in}
use Rattle.sr_tables.specs.Lists.{lists}
use Rattle.sr_tables.specs.Shapes.{Shapes}
use Rattle.sr_tables.specs.Parts.{line_of, spot_named}
use Rattle.sr_tree.specs.declared.component.Component.{Component}
use Rattle.sr_tree.specs.declared.component.Item.{Item}
use Rattle.sr_tree.specs.declared.component.Process.{Process}
use Rattle.sr_tree.specs.declared.component.ProcItem.{ProcItem}
use Rattle.sr_tree.specs.declared.component.SpecItem.{SpecItem}
use Rattle.sr_tree.specs.declared.declaration.ConstDecl.{ConstDecl}
use Rattle.sr_tree.specs.declared.declaration.Semaphore.{Semaphore}
use Rattle.sr_tree.specs.declared.declaration.VarDecl.{VarDecl}
use Rattle.sr_tree.specs.declared.statement.Quantifier.{Quantifier}
use Rattle.sr_tree.specs.declared.statement.Statement.{Statement}
use Rattle.sr_tree.specs.declared.types.Signature.{out-Signature}
use Rattle.sr_tree.specs.Parts.{body_of, spec_of}
use Rattle.sr_value.specs.declared.place.Span.{Span}
use Rattle.sr_front.proofs.Known.FreeBlocks.{FreeBlock, FreeCode, FreeItems}
use Rattle.sr_front.proofs.Known.KeptBy.{KeptBy, KeptIn, Names}
use Rattle.sr_front.proofs.Known.KeptProcs.{keeps_item}
use Rattle.sr_front.proofs.Known.InfosStay.{Reads, reads_both}
use Rattle.sr_front.proofs.Known.KeptNames.{Anywhere}
use Rattle.sr_front.proofs.Made.MadeHere.{AndTyped, HeldIn, KeptWhole, MadeParts, kept_typed, quantifiers_pass}
use Rattle.sr_front.proofs.Made.MadeStatements.{statement_fits}
use Rattle.sr_front.proofs.Made.MadeTests.{AllOne, BlockFits, BlocksFit, MadeRules, MadeTests, SitesPass, StatementFits}
use Rattle.sr_front.proofs.Lists.Placed.{Placed, const_start, placed_both, placed_free, placed_second, placed_third, reads_same, reads_signed, var_start}
use Rattle.sr_front.proofs.Names.ProcessNames.{placed_quantifiers, reads_process}
use Rattle.sr_front.proofs.Mentioned.ReadsCode.{item_inside, reads_block, reads_inner, reads_item, reads_items, reads_service}
use Rattle.sr_front.proofs.Names.PlainNames.{block_plain, code_plain, inner_plain}
use Rattle.sr_desugar.proofs.WaitsCode.{ItemsOkay}
use Rattle.sr_front.proofs.Typed.TypedCode.{operation_signed}
use Rattle.sr_front.proofs.Typed.TypedItems.{item_good}
use Rattle.sr_front.proofs.Typed.TypedProcs.{inner_good}
use Rattle.sr_front.proofs.Typed.TypedSteps.{proc_start, procedure_start, process_start}
use Rattle.sr_core.specs.declared.statement.Statement.TheVariants as written
use Rattle.sr_tree.specs.declared.component.Item.TheVariants as item
use Rattle.sr_tree.specs.declared.component.ProcItem.TheVariants as inner
use Rattle.sr_tree.specs.declared.component.SpecItem.TheVariants as spec

-- ---- what is kept where names stand for more

module _ (Q : Facts → Type 0) (Free More : Spot → Type 0) (leads : (spot : Spot) → More spot → Free spot) where
  fewer : (names : List Span) → Names More names → Names Free names
  fewer [] all = tt
  fewer (name ∷ names) all = (leads (spot_of name) all.0, fewer names all.1)

  kept_more : KeptBy Q Free → KeptBy Q More
  kept_more kept = record {
    entered = kept.entered;
    service = λ formals returned ty facts names result. kept.service formals returned ty facts (fewer (names_spans formals) names) (fewer (where_some name_names returned) result);
    quantifiers = λ quantifiers facts names. kept.quantifiers quantifiers facts (fewer (flat_map quantifier_names quantifiers) names);
    statement = λ tree names. kept.statement tree (fewer (statement_names tree) names);
    block_item = λ tree names. kept.block_item tree (fewer (block_item_names tree) names);
    branch = λ tree names. kept.branch tree (fewer (branch_names tree) names);
    arm = λ tree names. kept.arm tree (fewer (arm_names tree) names);
    co_arm = λ tree names. kept.co_arm tree (fewer (co_arm_names tree) names);
  }

-- ---- what holds of names

-- of each name that is read in a scene, and of each own variable that is declared
module _ (Had Owns : Scene → Spot → Type 0) where
  abbrev pub NamesHad : Scene → List Span → Type 0
  NamesHad scene = Each (λ span. Had scene (spot_of span))

  -- the names in a body, and what it declares
  pub record BodyHad (scene : Scene) (own : List Spot) (block : List ProcItem) : Type 0 where
    pub names : NamesHad (in_body scene own) (block_names block)
    pub owned : Each (Owns (in_body scene own)) (flat_map (inner_names scene.facts) block)

  -- those of a process
  pub record ProcessHad (scene : Scene) (process : Process) : Type 0 where
    pub names : NamesHad scene (flat_map quantifier_names process.quantifiers)
    pub own : Each (Owns scene) (quantifier_spots process.quantifiers)
    pub body : BodyHad scene (own_spots scene.facts (quantifier_spots process.quantifiers) [] process.block) process.block

  -- of a statement of the initial code
  pub record StatementHad (scene : Scene) (statement : Statement) : Type 0 where
    pub names : NamesHad scene (statement_names statement)
    pub own : Each (Owns scene) (names_in scene.facts statement)

  -- of an item of a spec
  abbrev pub SpecHad : Scene → SpecItem → Type 0
  SpecHad scene (spec.Import imports) = Unit {0}
  SpecHad scene (spec.Const constant) = NamesHad scene (const_names constant)
  SpecHad scene (spec.«Type» named) = Unit {0}
  SpecHad scene (spec.OpType named) = Unit {0}
  SpecHad scene (spec.Op operations) = Unit {0}
  SpecHad scene (spec.Var variables) = NamesHad scene (var_names variables)
  SpecHad scene (spec.Sem declared) = NamesHad scene (flat_map semaphore_names declared.semaphores)

  -- of an item
  abbrev pub ItemHad : Scene → Item → Type 0
  ItemHad scene (item.Spec declared) = SpecHad scene declared
  ItemHad scene (item.Proc proc) = BodyHad scene (own_spots scene.facts (map spot_named proc.formals) (returned_names proc.returned) proc.block) proc.block
  ItemHad scene (item.Procedure procedure) = BodyHad scene (own_spots scene.facts (formal_spots (out-Signature procedure.signature).formals) (signature_returned procedure.signature) procedure.block) procedure.block
  ItemHad scene (item.Process process) = ProcessHad scene process
  ItemHad scene (item.Final final) = BodyHad scene (own_spots scene.facts [] [] final.block) final.block
  ItemHad scene (item.Statement statement) = StatementHad scene statement

  -- of a component
  pub record CodeHad (scene : Scene) (component : Component) : Type 0 where
    pub in_spec : Each (SpecHad scene) (spec_of component)
    pub in_body : Each (ItemHad scene) (body_of component)

  -- where a value may be declared, and where what a name means passes
  abbrev pub FreeHad : (Spot → Type 0) → Scene → Spot → Type 0
  FreeHad Free scene spot = Free spot × Had scene spot

-- ---- the parts of code

-- What is made of the parts of code passes.
pub record CodeParts (tests : MadeTests) (H : Facts → Type 0) (Free : Spot → Type 0) (Opened : DeclaredOperation → Type 0) (Had Owns : Scene → Spot → Type 0) (scene : Scene) : Type 0 where
  pub statements : MadeParts scene tests H (FreeHad Had Owns Free scene) (Owns scene)
  pub const : (facts : Facts) → HeldIn scene H facts → (in_spec : Bool) (scope : Scope) (constant : ConstDecl) → NamesHad Had Owns scene (const_names constant) → ErrorFree (const_found in_spec facts constant)
      → AllOne tests (const_core scene scope constant)
  pub vars : (facts : Facts) → HeldIn scene H facts → (scope : Scope) (variables : VarDecl) → NamesHad Had Owns scene (var_names variables) → ErrorFree (var_found facts variables) → AllOne tests (var_core scene scope variables)
  pub semaphores : (facts : Facts) → HeldIn scene H facts → (scope : Scope) (span : Span) (semaphores : List Semaphore) → NamesHad Had Owns scene (flat_map semaphore_names semaphores) → Each Opened (sems_opened scope semaphores)
      → ErrorFree (sems_found facts semaphores) → AllOne tests (semaphores_core scene span semaphores)
  -- what starts a process
  pub send : (process : Process) → Each (Owns scene) (quantifier_spots process.quantifiers) → Opened (process_opened process) → IsTrue (tests.action (process_send scene process))

-- what an item of a component makes passes
pub record OutputFits (tests : MadeTests) (output : Output) : Type 0 where
  pub code : AllOne tests output.code
  pub procs : IsTrue (list_all (λ proc. tests.block proc.body.block) output.procs)
  pub finals : IsTrue (list_all (λ body. tests.block body.block) output.finals)
  pub sites : SitesPass tests output.sites

module _ (shapes : Shapes) (heads : Heads) (outline : Facts) (tests : MadeTests) (rules : MadeRules tests) (Asked : Type 0) (Q : Facts → Type 0) (Free : Spot → Type 0) (Opened : DeclaredOperation → Type 0)
    (kept : KeptIn (inner_opened outline shapes heads) Q Free Opened) (Had Owns : Scene → Spot → Type 0) where
  abbrev FreeName : Span → Type 0
  FreeName span = Free (spot_of span)

  abbrev Holds : Facts → Type 0
  Holds = AndTyped Asked Q

  abbrev Parts : Scene → Type 0
  Parts = CodeParts tests Holds Free Opened Had Owns

  in_types : KeptWhole Holds Free
  in_types = kept_typed Asked Q Free kept.by

  module _ (scene : Scene) (parts : Parts scene) where
    abbrev HadName : Span → Type 0
    HadName span = Had scene (spot_of span)

    abbrev HadNames : List Span → Type 0
    HadNames = Each HadName

    abbrev Owned : List Spot → Type 0
    Owned = Each (Owns scene)

    -- where code stands with these names, of whatever it declares
    abbrev Here : List Span → Facts → Facts → Type 0
    Here = Placed Anywhere scene.facts

    abbrev FreeBoth : Spot → Type 0
    FreeBoth = FreeHad Had Owns Free scene

    both_names : (names : List Span) → Names Free names → HadNames names → Names FreeBoth names
    both_names [] free had = tt
    both_names (name ∷ names) free had = ((free.0, had.0), both_names names free.1 had.1)

    kept_both : KeptWhole Holds FreeBoth
    kept_both = kept_typed Asked Q FreeBoth (kept_more Q Free FreeBoth (λ spot h. h.0) kept.by)

    statement_passes : (tree : Statement) (context : Context) → Names Free (statement_names tree) → HadNames (statement_names tree) → Owned (names_in scene.facts tree) → Here (statement_names tree) context.facts (statement_read tree context).facts → Holds context.facts
        → ErrorFree (statement_read tree context).found → StatementFits tests (core_statement scene tree)
    statement_passes tree context free had own here h whole =
        statement_fits scene tests rules Holds FreeBoth (Owns scene) kept_both parts.statements tree context
        (placed_free FreeBoth scene.facts (statement_names tree) context.facts (statement_read tree context).facts (both_names (statement_names tree) free had) here) own h whole

    -- ---- blocks of procs

    inner_fits : (one : ProcItem) → Names Free (inner_plain one) → HadNames (proc_item_names one) → Owned (inner_names scene.facts one) → Each Opened (inner_opened outline shapes heads one) → (context : Context)
        → Here (proc_item_names one) context.facts (proc_item_read one context).facts → Holds context.facts → ErrorFree (proc_item_read one context).found → BlockFits tests (inner_made scene one)
    inner_fits (inner.Const constant) free had own opened context here h whole =
        let held : HeldIn scene Holds (written_entered constant.ty context.facts) = (in_types.const_type constant context.facts h whole, const_start Anywhere scene.facts constant context.facts here) in
        record { made = parts.const (written_entered constant.ty context.facts) held false Own constant had whole; sites = refl }
    inner_fits (inner.Var variables) free had own opened context here h whole =
        let held : HeldIn scene Holds (written_entered variables.ty context.facts) = (in_types.var_type variables context.facts h whole, var_start Anywhere scene.facts variables context.facts here) in
        record { made = parts.vars (written_entered variables.ty context.facts) held Own variables had whole; sites = refl }
    inner_fits (inner.Op operations) free had own opened context here h whole = record { made = refl; sites = refl }
    inner_fits (inner.Sem semaphores) free had own opened context here h whole =
        record { made = parts.semaphores context.facts (h, here.start) Own semaphores.span semaphores.semaphores had opened whole; sites = refl }
    inner_fits (inner.Statement statement) free had own opened context here h whole =
        let fits = statement_passes statement context free had own here h whole in
        record { made = and_from _ _ fits.made refl; sites = fits.sites }

    inners_fit : (items : List ProcItem) → Names Free (block_plain items) → HadNames (block_names items) → Owned (flat_map (inner_names scene.facts) items) → Each Opened (block_opened outline shapes heads items) → (context : Context) → FreeBlock items context
        → Here (block_names items) context.facts (block_read items context).facts → Holds context.facts → ErrorFree (block_read items context).found → BlocksFit tests (map (inner_made scene) items)
    inners_fit [] free had own opened context types here h whole = record { made = refl; sites = refl }
    inners_fit (one ∷ items) free had own opened context types here h whole =
        let step = proc_item_read one context in
        let next = with_facts context step.facts in
        let end = (block_read items next).facts in
        let opened_here = inner_opened outline shapes heads one in
        let names = each-left FreeName (inner_plain one) _ free in
        let opened_first = each-left Opened opened_here _ opened in
        let found = error_free_first step.found _ whole in
        let places = placed_both Anywhere scene.facts (proc_item_names one) (block_names items) context.facts step.facts end (reads_inner one context) (reads_block items next) here in
        let first = inner_fits one names (each-left HadName (proc_item_names one) _ had) (each-left (Owns scene) (inner_names scene.facts one) _ own) opened_first context places.0 h found in
        let holds : Holds step.facts = (kept.inner one names opened_first context types.0 h.0 found, λ asked. inner_good one context types.0 (h.1 asked) found) in
        let rest = inners_fit items (each-right FreeName (inner_plain one) _ free) (each-right HadName (proc_item_names one) _ had) (each-right (Owns scene) (inner_names scene.facts one) _ own)
        (each-right Opened opened_here _ opened) next types.1 places.1 holds (error_free_second step.found _ whole) in
        record {
          made = both_pass tests.one (inner_made scene one).made (lists (all_made (map (inner_made scene) items))) first.made rest.made;
          sites = both_pass tests.site (inner_made scene one).sites (all_sites (map (inner_made scene) items)) first.sites rest.sites;
        }

    -- ---- what stands in initial code

    spec_passes : (in_spec : Bool) (facts : Facts) → HeldIn scene Holds facts → (one : SpecItem) → SpecHad Had Owns scene one → Each Opened (spec_item_opened outline shapes heads one) → ErrorFree (spec_item_found in_spec facts one)
        → AllOne tests (spec_item_core scene one)
    spec_passes in_spec facts held (spec.Import imports) had opened whole = refl
    spec_passes in_spec facts held (spec.Const constant) had opened whole = parts.const facts held in_spec Shared constant had whole
    spec_passes in_spec facts held (spec.«Type» named) had opened whole = refl
    spec_passes in_spec facts held (spec.OpType named) had opened whole = refl
    spec_passes in_spec facts held (spec.Op operations) had opened whole = refl
    spec_passes in_spec facts held (spec.Var variables) had opened whole = parts.vars facts held Shared variables had whole
    spec_passes in_spec facts held (spec.Sem semaphores) had opened whole = parts.semaphores facts held Shared semaphores.span semaphores.semaphores had opened whole

    pub specs_pass : (facts : Facts) → HeldIn scene Holds facts → (items : List SpecItem) → Each (SpecHad Had Owns scene) items → Each Opened (flat_map (spec_item_opened outline shapes heads) items) → ErrorFree (spec_items_found facts items)
        → AllOne tests (spec_code scene items)
    specs_pass facts held [] had opened whole = refl
    specs_pass facts held (one ∷ items) had opened whole =
        let here = spec_item_opened outline shapes heads one in
        both_pass tests.one (spec_item_core scene one) (spec_code scene items)
        (spec_passes true facts held one had.0 (each-left Opened here _ opened) (error_free_first (spec_item_found true facts one) _ whole))
        (specs_pass facts held items had.1 (each-right Opened here _ opened) (error_free_second (spec_item_found true facts one) _ whole))

    abbrev started : Process → CoreStatement
    started process = act process.span (process_send scene process)

    send_passes : (process : Process) → Owned (quantifier_spots process.quantifiers) → Opened (process_opened process) → IsTrue (tests.one (started process))
    send_passes process own opened = rules.act_rule (line_of process.span) (process_send scene process) (parts.send process own opened)

    abbrev sends_by : Process → List Quantifier → CoreStatement
    sends_by process [] = started process
    sends_by process (quantifier ∷ more) = written.Fa (line_of process.span) (quantifiers_core scene (quantifier ∷ more)) (started process ∷ [])

    sends_pass : (facts : Facts) → Holds facts → (process : Process) → Owned (quantifier_spots process.quantifiers) → Opened (process_opened process)
        → Placed FreeBoth scene.facts (flat_map quantifier_names process.quantifiers) facts (quantifiers_known facts process.quantifiers)
        → ErrorFree (quantifiers_found facts process.quantifiers) → IsTrue (tests.one (process_sends scene process))
    sends_pass facts h process own opened here = by process.quantifiers here
      where
        by : (quantifiers : List Quantifier) → Placed FreeBoth scene.facts (flat_map quantifier_names quantifiers) facts (quantifiers_known facts quantifiers) → ErrorFree (quantifiers_found facts quantifiers)
            → IsTrue (tests.one (sends_by process quantifiers))
        by [] here whole = send_passes process own opened
        by (quantifier ∷ more) here whole =
            rules.fa_rule (line_of process.span) (quantifiers_core scene (quantifier ∷ more)) (started process ∷ [])
            (quantifiers_pass scene tests rules Holds FreeBoth (Owns scene) kept_both parts.statements facts (quantifier ∷ more) here h whole) (and_from _ _ (send_passes process own opened) refl)

  -- the code of a process
  record BodyFits (one : WithSites Body) : Type 0 where
    made : IsTrue (tests.block one.made.block)
    sites : SitesPass tests one.sites

  -- ---- items of components

  module _ (scene : Scene) (parts : Parts scene) (within : (own : List Spot) → Parts (in_body scene own)) where
    abbrev Stands : List Span → Facts → Facts → Type 0
    Stands = Placed Anywhere scene.facts

    body_fits : (own : List Spot) (items : List ProcItem) → Names Free (block_plain items) → BodyHad Had Owns scene own items → Each Opened (block_opened outline shapes heads items) → (context : Context) → FreeBlock items context
        → Stands (block_names items) context.facts (block_read items context).facts → Holds context.facts → ErrorFree (block_read items context).found → BodyFits (body_made (in_body scene own) items)
    body_fits own items free had opened context types here h whole =
        let fits = inners_fit (in_body scene own) (within own) items free had.names had.owned opened context types here h whole in
        record { made = rules.block_rule (lists (all_made (map (inner_made (in_body scene own)) items))) fits.made; sites = fits.sites }

    item_fits : (procs : Procs) (one : Item) (facts : Facts) → Names Free (code_plain one) → ItemHad Had Owns scene one → Each Opened (item_opened outline shapes heads one) → FreeCode procs one facts → Stands (item_inside one) facts (item_read procs one facts).facts
        → Holds facts → ErrorFree (item_read procs one facts).found → OutputFits tests (item_output scene one)
    item_fits procs (item.Spec declared) facts free had opened types here h whole = record { code = spec_passes scene parts false facts (h, here.start) declared had opened whole; procs = refl; finals = refl; sites = refl }
    item_fits procs (item.Proc proc) facts free had opened types here h whole =
        let served = operation_named facts proc.name in
        let formals = names_spans proc.formals in
        let returned = where_some name_names proc.returned in
        let block = block_names proc.block in
        let after = each-right FreeName formals _ free.1 in
        let context = beginning procs (Serves (spot_or (spot_of proc.name.span) served)) (service_bound proc.formals proc.returned (type_of served) facts) in
        let end = (block_read proc.block context).facts in
        let service = reads_service proc.formals proc.returned (type_of served) facts in
        let of_all = subst (λ names. Reads names facts end) (append_assoc formals returned block) (reads_both (formals ++ returned) block facts context.facts end service (reads_block proc.block context)) in
        let named = placed_second Anywhere scene.facts (proc.name.span ∷ []) (formals ++ (returned ++ block)) facts facts end (reads_same (proc.name.span ∷ []) facts) of_all here in
        let holds : Holds context.facts = (
          kept.by.service proc.formals proc.returned (type_of served) facts (each-left FreeName formals _ free.1) (each-left FreeName returned _ after) h.0,
          λ asked. proc_start proc served facts (operation_signed facts (h.1 asked).signed (decl_named facts proc.name)) (h.1 asked) (error_free_first (proc_rules facts proc served) _ whole),
        ) in
        let fits = body_fits (own_spots scene.facts (map spot_named proc.formals) (returned_names proc.returned) proc.block) proc.block (each-right FreeName returned _ after) had opened context types
        (placed_third Anywhere scene.facts formals returned block facts context.facts end service (reads_block proc.block context) named) holds (error_free_second (proc_rules facts proc served) _ whole) in
        record { code = refl; procs = and_from _ _ fits.made refl; finals = refl; sites = fits.sites }
    item_fits procs (item.Procedure procedure) facts free had opened types here h whole =
        let read = signature_read procedure.signature facts in
        let names = signature_names procedure.signature in
        let context = beginning procs (Serves (spot_of procedure.name.span)) (signed_declared read.signed facts) in
        let holds : Holds context.facts = (
          kept.signed procedure.signature facts (each-left FreeName names _ free) h.0,
          λ asked. procedure_start procedure facts types.0 (h.1 asked) (error_free_first read.found _ whole),
        ) in
        let fits = body_fits (own_spots scene.facts (formal_spots (out-Signature procedure.signature).formals) (signature_returned procedure.signature) procedure.block) procedure.block
        (each-right FreeName names _ free) had opened.1 context types.1
        (placed_second Anywhere scene.facts names (block_names procedure.block) facts context.facts (block_read procedure.block context).facts (reads_signed procedure.signature facts) (reads_block procedure.block context) here)
        holds (error_free_second read.found _ whole) in
        record { code = refl; procs = and_from _ _ fits.made refl; finals = refl; sites = fits.sites }
    item_fits procs (item.Process process) facts free had opened types here h whole =
        let names = flat_map quantifier_names process.quantifiers in
        let quantified = each-left FreeName names _ free in
        let after = quantifiers_known facts process.quantifiers in
        let context = beginning procs (Serves (spot_of process.name.span)) (quantifiers_formal process.quantifiers after) in
        let end = (block_read process.block context).facts in
        let places = placed_both Anywhere scene.facts names (block_names process.block) facts context.facts end (reads_process process.quantifiers facts) (reads_block process.block context) here in
        let both = FreeHad Had Owns Free scene in
        let quantifiers = placed_quantifiers both scene.facts process.quantifiers facts (placed_free both scene.facts names facts context.facts (both_names scene parts names quantified had.names) places.0) in
        let holds : Holds context.facts =
        (kept.formal_quantifiers process.quantifiers after quantified (kept.by.quantifiers process.quantifiers facts quantified h.0), λ asked. process_start process facts (h.1 asked)) in
        let fits = body_fits (own_spots scene.facts (quantifier_spots process.quantifiers) [] process.block) process.block (each-right FreeName names _ free) had.body opened.1 context types
        places.1 holds (error_free_second (quantifiers_found facts process.quantifiers) _ whole) in
        record {
          code = and_from _ _ (sends_pass scene parts facts h process had.own opened.0 quantifiers (error_free_first (quantifiers_found facts process.quantifiers) _ whole)) refl;
          procs = and_from _ _ fits.made refl;
          finals = refl;
          sites = fits.sites;
        }
    item_fits procs (item.Final final) facts free had opened types here h whole =
        let fits = body_fits (own_spots scene.facts [] [] final.block) final.block free had opened (beginning procs Ends facts) types here h whole in
        record { code = refl; procs = refl; finals = and_from _ _ fits.made refl; sites = fits.sites }
    item_fits procs (item.Statement statement) facts free had opened types here h whole =
        let fits = statement_passes scene parts statement (beginning procs SetsUp facts) free had.names had.own here h whole in
        record { code = and_from _ _ fits.made refl; procs = refl; finals = refl; sites = fits.sites }

    -- what all items of a component make passes
    pub record OutputsFit (items : List Item) : Type 0 where
      pub code : AllOne tests (all_code (item_outputs scene items))
      pub procs : IsTrue (list_all (λ (proc : CoreProc). tests.block proc.body.block) (all_procs (item_outputs scene items)))
      pub finals : IsTrue (list_all (λ (body : Body). tests.block body.block) (all_finals (item_outputs scene items)))
      pub sites : ItemsOkay (λ owns. tests.site) scene items

    pub items_fit : (procs : Procs) (items : List Item) (facts : Facts) → Names Free (flat_map code_plain items) → Each (ItemHad Had Owns scene) items → Each Opened (flat_map (item_opened outline shapes heads) items) → FreeItems procs items facts
        → Stands (flat_map item_inside items) facts (items_read procs items facts).facts → Holds facts → ErrorFree (items_read procs items facts).found → OutputsFit items
    items_fit procs [] facts free had opened types here h whole = record { code = refl; procs = refl; finals = refl; sites = tt }
    items_fit procs (one ∷ items) facts free had opened types here h whole =
        let step = item_read procs one facts in
        let end = (items_read procs items step.facts).facts in
        let opened_here = item_opened outline shapes heads one in
        let names = each-left FreeName (code_plain one) _ free in
        let opened_first = each-left Opened opened_here _ opened in
        let found = error_free_first step.found _ whole in
        let inside = flat_map item_inside items in
        let places = placed_both Anywhere scene.facts (item_inside one) inside facts step.facts end (reads_item procs one facts) (reads_items procs items step.facts) here in
        let first = item_fits procs one facts names had.0 opened_first types.0 places.0 h found in
        let holds : Holds step.facts = (keeps_item outline shapes heads Q Free Opened kept procs one facts names opened_first types.0 h.0 found, λ asked. item_good procs one facts types.0 (h.1 asked) found) in
        let rest = items_fit procs items step.facts (each-right FreeName (code_plain one) _ free) had.1 (each-right Opened opened_here _ opened) types.1 places.1 holds (error_free_second step.found _ whole) in
        record {
          code = both_pass tests.one (item_output scene one).code (all_code (item_outputs scene items)) first.code rest.code;
          procs = both_pass (λ (proc : CoreProc). tests.block proc.body.block) (item_output scene one).procs (all_procs (item_outputs scene items)) first.procs rest.procs;
          finals = both_pass (λ (body : Body). tests.block body.block) (item_output scene one).finals (all_finals (item_outputs scene items)) first.finals rest.finals;
          sites = (first.sites, rest.sites);
        }

-- Where nothing is found in a program, each component services its own operations.
use Rattle.std.proofs.Common.{◌≡◌, ◌⊎◌, inl, inr, Bool, true, false, true≢false, List, [], ◌∷◌, Option, Some, None, refl, sym, ◌∙◌, ap, subst, is_some}
use Rattle.std.specs.List.{All, Contains, flat_map}
use Rattle.std.proofs.lemmas.List.Elements.{All-contains_itself}
use Rattle.sr_value.specs.declared.place.Span.{Span}
use Rattle.sr_names.specs.declared.finding.Rule.TheVariants.{BadType, BadUse}
use Rattle.sr_names.specs.declared.meaning.Decl.{Decl}
use Rattle.sr_names.specs.declared.spot.Spot.{Spot}
use Rattle.sr_names.specs.Noted.{Meanings}
use Rattle.sr_names.specs.Specs.{Specs}
use Rattle.sr_names.specs.Spots.{same_spot, spot_of}
use Rattle.sr_names.proofs.LinkLemmas.{same_spot-eq}
use Rattle.sr_names.proofs.Marking.{entry-same, entry-other, same_spot-cases}
use Rattle.sr_tree.specs.declared.component.Component.{Component}
use Rattle.sr_tree.specs.declared.component.File.{File}
use Rattle.sr_tree.specs.declared.component.Item.{Item}
use Rattle.sr_tree.specs.declared.component.Item.TheVariants as item
use Rattle.sr_tree.specs.declared.component.Proc.{Proc}
use Rattle.sr_tree.specs.declared.component.ProcItem.{ProcItem}
use Rattle.sr_tree.specs.declared.component.ProcItem.TheVariants as inner
use Rattle.sr_tree.specs.declared.declaration.OpItem.{OpItem}
use Rattle.sr_tree.specs.declared.declaration.Semaphore.{Semaphore}
use Rattle.sr_tree.specs.Parts.{spec_of, body_of}
use Rattle.sr_types.specs.declared.signature.Signature.{Signature}
use Rattle.sr_types.specs.declared.ty.Ty.{Ty}
use Rattle.sr_check_expr.specs.declared.facts.Facts.{Facts}
use Rattle.sr_check_expr.specs.declared.info.Info.TheVariants as info
use Rattle.sr_check_expr.specs.Infos.{info_at}
use Rattle.sr_check_expr.specs.Typings.{broken_unless}
use Rattle.sr_check_decl.specs.Declaring.{standing}
use Rattle.sr_check_decl.specs.Inferring.{program_known}
use Rattle.sr_check_decl.specs.Parts.{component_decl}
use Rattle.sr_check_decl.specs.TypeTrees.{signature_read}
use Rattle.sr_check.specs.declared.operation.Operation.{Operation}
use Rattle.sr_check.specs.declared.serving.Serving.TheVariants.{SetsUp, Ends, Serves}
use Rattle.sr_check.specs.Components.{proc_item_read, block_read, beginning, proc_rules, proc_entered, signed_declared, quantifiers_formal, item_read, items_read, item_procs, items_procs, head_found, component_read, components_read, files_read}
use Rattle.sr_check.specs.Contexts.{with_facts}
use Rattle.sr_check.specs.Owners.{Owned, Declared, ops_owned, sems_owned, spec_item_owned, inner_owned, block_owned, item_owned, component_at, component_owned, file_owned, declared_operations}
use Rattle.sr_check.specs.Procs.{Procs, proc_of, with_proc}
use Rattle.sr_check.specs.Quantifying.{quantifiers_found, quantifiers_known}
use Rattle.sr_check.specs.Services.{operation_at, operation_by, operation_named, decl_named, head_rule, is_own, service_bound, spot_or, type_of}
use Rattle.sr_check.specs.Servicing.{Together, Own, Waited, AreWaited, Served, ServicesOwn, inner_waits, block_waits, item_waits, component_waits, item_served, component_served, item_procedures, component_procedures, meant_at}
use Rattle.sr_check.proofs.Each.{Each, all_of, each, each-append, each-left, each-right, each-parts, each-weaker}
use Rattle.sr_check.specs.ErrorFree.{ErrorFree}
use Rattle.sr_check.proofs.ErrorFree.{rule_met, error_free_first, error_free_second}
use Rattle.sr_check.proofs.Finding.{Finds, Right, Waiting, finds_statement}
use Rattle.sr_check.proofs.Named.{meant_by}
use Rattle.sr_check.proofs.Owners.{Allows, Meets, Plain, Sound, known_now, plain_program, standing_sound}
use Rattle.sr_check.proofs.Reading.{keeps_block, keeps_formal_quantifiers, keeps_inner, keeps_quantifiers, keeps_service, keeps_signed_declared, keeps_statement}

-- ---- one component

module _ (P : Meets) (uses : Meanings) (component : Spot) (procs : Procs) where
  abbrev Holds : Facts → Type 0
  Holds = Sound P uses component

  -- the operations that are declared in the procs of an item may be entered
  abbrev pub AllowsInner : Item → Type 0
  AllowsInner (item.Spec inner) = Unit {0}
  AllowsInner (item.Proc proc) = Each (Allows P) (block_owned component proc.block)
  AllowsInner (item.Procedure procedure) = Each (Allows P) (block_owned component procedure.block)
  AllowsInner (item.Process process) = Each (Allows P) (block_owned component process.block)
  AllowsInner (item.Final final) = Each (Allows P) (block_owned component final.block)
  AllowsInner (item.Statement statement) = Unit {0}

  -- a proc serves an operation of the component
  pub record Serving (meant : Option Decl) : Type 0 where
    pub decl : Decl
    pub means : meant ≡ Some decl
    pub ty : Ty
    pub is_local : Bool
    pub signatures : List Signature
    pub meets : P signatures decl.spot ty component is_local

  -- ---- blocks

  finds_inner : (item : ProcItem) → Finds P uses component procs (proc_item_read item) (inner_waits uses item)
  finds_inner (inner.Const constant) context of h nothing = tt
  finds_inner (inner.Var variables) context of h nothing = tt
  finds_inner (inner.Op operations) context of h nothing = tt
  finds_inner (inner.Sem semaphores) context of h nothing = tt
  finds_inner (inner.Statement statement) context of h nothing = finds_statement P uses component procs statement context of h nothing

  finds_inners : (items : List ProcItem) → Each (λ item. Each (Allows P) (inner_owned component item)) items → Finds P uses component procs (block_read items) (block_waits uses items)
  finds_inners [] allowed context of h nothing = tt
  finds_inners (item ∷ items) allowed context of h nothing =
      let next = with_facts context (proc_item_read item context).facts in
      each-append (Right P uses component procs) (inner_waits uses item) (block_waits uses items)
      (finds_inner item context of h (error_free_first (proc_item_read item context).found (block_read items next).found nothing))
      (finds_inners items allowed.1 next of (keeps_inner P uses component item allowed.0 context h) (error_free_second (proc_item_read item context).found (block_read items next).found nothing))

  finds_block : (items : List ProcItem) → Each (Allows P) (block_owned component items) → Finds P uses component procs (block_read items) (block_waits uses items)
  finds_block items allowed = finds_inners items (each-parts (Allows P) (inner_owned component) items allowed)

  -- ---- items

  keeps_item : (inner : Item) (facts : Facts) → AllowsInner inner → Holds facts → Holds (item_read procs inner facts).facts
  keeps_item (item.Spec inner) facts allowed h = h
  keeps_item (item.Proc proc) facts allowed h =
      let served = operation_named facts proc.name in
      keeps_block P uses component proc.block allowed (beginning procs (Serves (spot_or (spot_of proc.name.span) served)) (service_bound proc.formals proc.returned (type_of served) facts))
      (keeps_service P uses component proc.formals proc.returned (type_of served) facts h)
  keeps_item (item.Procedure procedure) facts allowed h =
      let signed = (signature_read procedure.signature facts).signed in
      keeps_block P uses component procedure.block allowed (beginning procs (Serves (spot_of procedure.name.span)) (signed_declared signed facts)) (keeps_signed_declared P uses component signed facts h)
  keeps_item (item.Process process) facts allowed h =
      let known = quantifiers_known facts process.quantifiers in
      keeps_block P uses component process.block allowed (beginning procs (Serves (spot_of process.name.span)) (quantifiers_formal process.quantifiers known))
      (keeps_formal_quantifiers P uses component process.quantifiers known (keeps_quantifiers P uses component process.quantifiers facts h))
  keeps_item (item.Final final) facts allowed h = keeps_block P uses component final.block allowed (beginning procs Ends facts) h
  keeps_item (item.Statement statement) facts allowed h = keeps_statement P uses component statement (beginning procs SetsUp facts) h

  pub keeps_items : (items : List Item) (facts : Facts) → Each AllowsInner items → Holds facts → Holds (items_read procs items facts).facts
  keeps_items [] facts allowed h = h
  keeps_items (inner ∷ more) facts allowed h = keeps_items more (item_read procs inner facts).facts allowed.1 (keeps_item inner facts allowed.0 h)

  proc_at : (facts : Facts) (proc : Proc) (meant : Option Decl) (found : Option Operation) → Holds facts → operation_at facts meant ≡ found → ErrorFree (proc_rules facts proc found) → Serving meant
  proc_at facts proc meant None h is nothing = absurd nothing
  proc_at facts proc meant (Some operation) h is nothing =
      let rule = head_rule facts.signatures proc.formals (is_some proc.returned) operation.ty in
      let own = rule_met (is_own facts operation) BadUse proc.span (error_free_second (broken_unless rule BadType proc.span) (broken_unless (is_own facts operation) BadUse proc.span) nothing) in
      let whose : operation.component ≡ component = same_spot-eq operation.component facts.here.component.spot own ∙ h.0 in
      let m = meant_by facts meant operation is in
      record {
        decl = m.decl;
        means = m.means;
        ty = operation.ty;
        is_local = operation.is_local;
        signatures = facts.signatures;
        meets = subst (λ c. P facts.signatures m.decl.spot operation.ty c operation.is_local) whose (known_now P facts h.1.1 m.decl.spot operation.ty operation.component operation.is_local m.is);
      }

  finds_item : (inner : Item) (facts : Facts) → AllowsInner inner → Holds facts → ErrorFree ((item_read procs inner facts).found)
      → Each (Right P uses component procs) (item_waits uses inner) × Each Serving (item_served uses inner)
  finds_item (item.Spec inner) facts allowed h nothing = (tt, tt)
  finds_item (item.Proc proc) facts allowed h nothing =
      let served = operation_named facts proc.name in
      let context = beginning procs (Serves (spot_or (spot_of proc.name.span) served)) (service_bound proc.formals proc.returned (type_of served) facts) in
      let rules = error_free_first (proc_rules facts proc served) (block_read proc.block context).found nothing in
      let inside = error_free_second (proc_rules facts proc served) (block_read proc.block context).found nothing in (
        finds_block proc.block allowed context refl (keeps_service P uses component proc.formals proc.returned (type_of served) facts h) inside,
        (subst (λ u. Serving (meant_at u proc.name.span)) h.1.0 (proc_at facts proc (decl_named facts proc.name) served h refl rules), tt),
      )
  finds_item (item.Procedure procedure) facts allowed h nothing =
      let signed = (signature_read procedure.signature facts).signed in
      let context = beginning procs (Serves (spot_of procedure.name.span)) (signed_declared signed facts) in (
        finds_block procedure.block allowed context refl (keeps_signed_declared P uses component signed facts h)
            (error_free_second (signature_read procedure.signature facts).found (block_read procedure.block context).found nothing),
        tt,
      )
  finds_item (item.Process process) facts allowed h nothing =
      let known = quantifiers_known facts process.quantifiers in
      let context = beginning procs (Serves (spot_of process.name.span)) (quantifiers_formal process.quantifiers known) in (
        finds_block process.block allowed context refl (keeps_formal_quantifiers P uses component process.quantifiers known (keeps_quantifiers P uses component process.quantifiers facts h))
            (error_free_second (quantifiers_found facts process.quantifiers) (block_read process.block context).found nothing),
        tt,
      )
  finds_item (item.Final final) facts allowed h nothing = (finds_block final.block allowed (beginning procs Ends facts) refl h nothing, tt)
  finds_item (item.Statement statement) facts allowed h nothing = (finds_statement P uses component procs statement (beginning procs SetsUp facts) refl h nothing, tt)

  pub finds_items : (items : List Item) (facts : Facts) → Each AllowsInner items → Holds facts → ErrorFree ((items_read procs items facts).found)
      → Each (Right P uses component procs) (flat_map (item_waits uses) items) × Each Serving (flat_map (item_served uses) items)
  finds_items [] facts allowed h nothing = (tt, tt)
  finds_items (inner ∷ more) facts allowed h nothing =
      let next = (item_read procs inner facts).facts in
      let first = finds_item inner facts allowed.0 h (error_free_first (item_read procs inner facts).found (items_read procs more next).found nothing) in
      let rest = finds_items more next allowed.1 (keeps_item inner facts allowed.0 h) (error_free_second (item_read procs inner facts).found (items_read procs more next).found nothing) in (
        each-append (Right P uses component procs) (item_waits uses inner) (flat_map (item_waits uses) more) first.0 rest.0,
        each-append Serving (item_served uses inner) (flat_map (item_served uses) more) first.1 rest.1,
      )

-- ---- the procs of a component

abbrev HasProc : Procs → Spot → Type 0
HasProc procs spot = is_some (proc_of procs spot) ≡ true

has_new : (procs : Procs) (spot : Spot) (span : Span) → HasProc (with_proc procs spot span) spot
has_new procs spot span = ap is_some (entry-same procs spot span)

has_still : (procs : Procs) (entered : Spot) (span : Span) (spot : Spot) → HasProc procs spot → HasProc (with_proc procs entered span) spot
has_still procs entered span spot has = by (same_spot-cases spot entered)
  where
    by : (spot ≡ entered) ⊎ (same_spot spot entered ≡ false) → HasProc (with_proc procs entered span) spot
    by (inl same) = ap (λ s. is_some (proc_of (with_proc procs entered span) s)) same ∙ has_new procs entered span
    by (inr apart) = ap is_some (entry-other procs entered span spot apart) ∙ has

module _ (facts : Facts) where
  item_keeps : (inner : Item) (procs : Procs) (spot : Spot) → HasProc procs spot → HasProc (item_procs facts inner procs) spot
  item_keeps (item.Proc proc) procs spot has = by (operation_named facts proc.name)
    where
      by : (found : Option Operation) → HasProc (proc_entered found proc.span procs) spot
      by None = has
      by (Some operation) = has_still procs operation.spot proc.span spot has
  item_keeps (item.Procedure procedure) procs spot has = has_still procs (spot_of procedure.name.span) procedure.span spot has
  item_keeps (item.Process process) procs spot has = has_still procs (spot_of process.name.span) process.span spot has
  item_keeps _ procs spot has = has

  items_keep : (items : List Item) (procs : Procs) (spot : Spot) → HasProc procs spot → HasProc (items_procs facts items procs) spot
  items_keep [] procs spot has = has
  items_keep (inner ∷ more) procs spot has = items_keep more (item_procs facts inner procs) spot (item_keeps inner procs spot has)

  -- the proc of a procedure or a process is one of them
  have_procedures : (items : List Item) (procs : Procs) → Each (HasProc (items_procs facts items procs)) (flat_map item_procedures items)
  have_procedures [] procs = tt
  have_procedures (inner ∷ more) procs =
      each-append (HasProc (items_procs facts more (item_procs facts inner procs))) (item_procedures inner) (flat_map item_procedures more) (by inner) (have_procedures more (item_procs facts inner procs))
    where
      by : (inner : Item) → Each (HasProc (items_procs facts more (item_procs facts inner procs))) (item_procedures inner)
      by (item.Procedure procedure) = (items_keep more _ (spot_of procedure.name.span) (has_new procs (spot_of procedure.name.span) procedure.span), tt)
      by (item.Process process) = (items_keep more _ (spot_of process.name.span) (has_new procs (spot_of process.name.span) process.span), tt)
      by _ = tt

  -- and so is that of an operation that is known
  abbrev IsEntered : Procs → Option Decl → Type 0
  IsEntered procs meant = (operation : Operation) → operation_at facts meant ≡ Some operation → HasProc procs operation.spot

  have_served : (items : List Item) (procs : Procs) → Each (IsEntered (items_procs facts items procs)) (flat_map (item_served facts.uses) items)
  have_served [] procs = tt
  have_served (inner ∷ more) procs =
      each-append (IsEntered (items_procs facts more (item_procs facts inner procs))) (item_served facts.uses inner) (flat_map (item_served facts.uses) more) (by inner) (have_served more (item_procs facts inner procs))
    where
      by : (inner : Item) → Each (IsEntered (items_procs facts more (item_procs facts inner procs))) (item_served facts.uses inner)
      by (item.Proc proc) = (
        λ operation is. items_keep more _ operation.spot
            (subst (λ found. HasProc (proc_entered found proc.span procs) operation.spot) (sym is) (has_new procs operation.spot proc.span)),
        tt,
      )
      by _ = tt

-- ---- the whole program

module _ (uses : Meanings) (files : List File) (known : Facts) where
  -- what the operations meet that a program knows: they are declared, and those of components are known before any statement is looked at
  abbrev pub AtFirst : Meets
  AtFirst signatures spot ty component is_local = Declared files spot component is_local × (is_local ≡ false → info_at known.infos spot ≡ Some (info.Operation ty component false))

  -- and where a component is looked at they are known before
  abbrev Within : Facts → Meets
  Within start signatures spot ty component is_local = AtFirst signatures spot ty component is_local × (is_local ≡ false → info_at start.infos spot ≡ Some (info.Operation ty component false))

  abbrev IsDeclared : Owned → Type 0
  IsDeclared operation = Declared files operation.0 operation.1.0 operation.1.1

  module _ (start : Facts) (component : Spot) where
    -- what is declared in a block of a proc may be entered
    local_allowed : (spot : Spot) → Declared files spot component true → Allows (Within start) (spot, (component, true))
    local_allowed spot declared signatures ty = ((declared, λ e. absurd (true≢false e)), λ e. absurd (true≢false e))

    ops_allowed : (ops : List OpItem) → Each IsDeclared (ops_owned component true ops) → Each (Allows (Within start)) (ops_owned component true ops)
    ops_allowed [] declared = tt
    ops_allowed (op ∷ ops) declared = (local_allowed _ declared.0, ops_allowed ops declared.1)

    sems_allowed : (semaphores : List Semaphore) → Each IsDeclared (sems_owned component true semaphores) → Each (Allows (Within start)) (sems_owned component true semaphores)
    sems_allowed [] declared = tt
    sems_allowed (semaphore ∷ more) declared = (local_allowed _ declared.0, sems_allowed more declared.1)

    inner_allowed : (item : ProcItem) → Each IsDeclared (inner_owned component item) → Each (Allows (Within start)) (inner_owned component item)
    inner_allowed (inner.Const constant) declared = tt
    inner_allowed (inner.Var variables) declared = tt
    inner_allowed (inner.Op operations) declared = ops_allowed operations.items declared
    inner_allowed (inner.Sem semaphores) declared = sems_allowed semaphores.semaphores declared
    inner_allowed (inner.Statement statement) declared = tt

    block_allowed : (block : List ProcItem) → Each IsDeclared (block_owned component block) → Each (Allows (Within start)) (block_owned component block)
    block_allowed [] declared = tt
    block_allowed (item ∷ items) declared =
        each-append (Allows (Within start)) (inner_owned component item) (block_owned component items)
        (inner_allowed item (each-left IsDeclared (inner_owned component item) (block_owned component items) declared))
        (block_allowed items (each-right IsDeclared (inner_owned component item) (block_owned component items) declared))

    item_allowed : (inner : Item) → Each IsDeclared (item_owned component inner) → AllowsInner (Within start) uses component [] inner
    item_allowed (item.Spec inner) declared = tt
    item_allowed (item.Proc proc) declared = block_allowed proc.block declared
    item_allowed (item.Procedure procedure) declared = block_allowed procedure.block declared.1
    item_allowed (item.Process process) declared = block_allowed process.block declared.1
    item_allowed (item.Final final) declared = block_allowed final.block declared
    item_allowed (item.Statement statement) declared = tt

  abbrev pub Sure : Facts → Type 0
  Sure = Plain AtFirst uses

  -- what is known where a component begins
  begins : (facts : Facts) (component : Spot) → Sound AtFirst uses component facts → Sound (Within facts) uses component facts
  begins facts component h =
      (h.0, (h.1.0, λ spot ty owner is_local is more keeps. (h.1.1 spot ty owner is_local is more keeps, λ e. is ∙ ap (λ l. Some (info.Operation ty owner l)) e)))

  module _ (tree : Component) (before : Facts) (declared : Each IsDeclared (component_owned tree)) (h : Sure before) where
    abbrev spot : Spot
    spot = component_at tree

    abbrev start : Facts
    start = standing before (component_decl tree)

    abbrev procs : Procs
    procs = items_procs start (body_of tree) []

    sound : Sound (Within start) uses spot start
    sound = begins start spot (standing_sound AtFirst uses before tree h)

    allowed : Each (AllowsInner (Within start) uses spot procs) (body_of tree)
    allowed =
        each-weaker (λ inner. Each IsDeclared (item_owned spot inner)) (AllowsInner (Within start) uses spot procs) (item_allowed start spot) (body_of tree)
        (each-parts IsDeclared (item_owned spot) (body_of tree) (each-right IsDeclared (flat_map (spec_item_owned spot) (spec_of tree)) (flat_map (item_owned spot) (body_of tree)) declared))

    pub keeps_component : Sure (component_read tree before).facts
    keeps_component =
        let after = keeps_items (Within start) uses spot procs (body_of tree) start allowed sound in
        (after.1.0, λ at ty owner is_local is more keeps. (after.1.1 at ty owner is_local is more keeps).0)

    abbrev own_of : (meant : Option Decl) (decl : Decl) (is_local : Bool) (ty : Ty) (signatures : List Signature) → meant ≡ Some decl → Within start signatures decl.spot ty spot is_local → Own files known spot is_local meant
    own_of meant decl is_local ty signatures means within = record { decl = decl; means = means; declared = within.0.0; shared = λ e. (ty, within.0.1 e) }

    waited : (is_local : Bool) (meant : Option Decl) → Waiting (Within start) uses spot procs is_local meant → Waited files known spot procs is_local meant
    waited is_local meant w = record { own = own_of meant w.decl is_local w.ty w.signatures w.means w.meets; has_none = w.unserved }

    right : (together : Together) → Right (Within start) uses spot procs together → AreWaited files known spot procs together
    right together r = (r.0, all_of (Waited files known spot procs r.0) together (each-weaker (Waiting (Within start) uses spot procs r.0) (Waited files known spot procs r.0) (waited r.0) together r.1))

    -- an operation of the component is known where the component begins, so its proc is among those of the component
    has_one : (meant : Option Decl) (s : Serving (Within start) uses spot procs meant) → IsEntered start procs meant → s.is_local ≡ false → HasProc procs s.decl.spot
    has_one meant s entered e =
        entered (record { spot = s.decl.spot; ty = s.ty; component = spot; is_local = false })
        (ap (λ d. operation_at start d) s.means ∙ ap (λ i. operation_by s.decl.spot i) (s.meets.1 e))

    served : (meant : Option Decl) → Serving (Within start) uses spot procs meant → IsEntered start procs meant → Served files known spot procs meant
    served meant s entered = record { is_local = s.is_local; own = own_of meant s.decl s.is_local s.ty s.signatures s.means s.meets; has_one = has_one meant s entered }

    all_served : (meants : Together) → Each (Serving (Within start) uses spot procs) meants → Each (IsEntered start procs) meants → Each (Served files known spot procs) meants
    all_served [] servings entered = tt
    all_served (meant ∷ more) servings entered = (served meant servings.0 entered.0, all_served more servings.1 entered.1)

    pub services_own : ErrorFree (component_read tree before).found → ServicesOwn uses files known tree
    services_own nothing =
        let found = finds_items (Within start) uses spot procs (body_of tree) start allowed sound (error_free_second (head_found tree start) (items_read procs (body_of tree) start).found nothing) in
        record {
          procs = procs;
          by_statements = all_of (AreWaited files known spot procs) (component_waits uses tree) (each-weaker (Right (Within start) uses spot procs) (AreWaited files known spot procs) right (component_waits uses tree) found.0);
          by_procs = all_of (Served files known spot procs) (component_served uses tree)
              (all_served (component_served uses tree) found.1 (subst (λ u. Each (IsEntered start procs) (component_served u tree)) h.0 (have_served start (body_of tree) [])));
          by_procedures = all_of (HasProc procs) (component_procedures tree) (have_procedures start (body_of tree) []);
        }

  keeps_components : (components : List Component) (facts : Facts) → Each (λ tree. Each IsDeclared (component_owned tree)) components → Sure facts → Sure (components_read components facts).facts
  keeps_components [] facts declared h = h
  keeps_components (tree ∷ more) facts declared h = keeps_components more (component_read tree facts).facts declared.1 (keeps_component tree facts declared.0 h)

  finds_components : (components : List Component) (facts : Facts) → Each (λ tree. Each IsDeclared (component_owned tree)) components → Sure facts → ErrorFree ((components_read components facts).found)
      → Each (ServicesOwn uses files known) components
  finds_components [] facts declared h nothing = tt
  finds_components (tree ∷ more) facts declared h nothing =
      let next = (component_read tree facts).facts in (
        services_own tree facts declared.0 h (error_free_first (component_read tree facts).found (components_read more next).found nothing),
        finds_components more next declared.1 (keeps_component tree facts declared.0 h) (error_free_second (component_read tree facts).found (components_read more next).found nothing),
      )

  file_parts : (file : File) → Each IsDeclared (file_owned file) → Each (λ tree. Each IsDeclared (component_owned tree)) file.components
  file_parts file declared = each-parts IsDeclared component_owned file.components declared

  pub keeps_files : (more : List File) (facts : Facts) → Each (λ file. Each IsDeclared (file_owned file)) more → Sure facts → Sure (files_read more facts).facts
  keeps_files [] facts declared h = h
  keeps_files (file ∷ more) facts declared h =
      keeps_files more (components_read file.components facts).facts declared.1 (keeps_components file.components facts (file_parts file declared.0) h)

  pub finds_files : (more : List File) (facts : Facts) → Each (λ file. Each IsDeclared (file_owned file)) more → Sure facts → ErrorFree ((files_read more facts).found)
      → Each (λ file. All (ServicesOwn uses files known) file.components) more
  finds_files [] facts declared h nothing = tt
  finds_files (file ∷ more) facts declared h nothing =
      let next = (components_read file.components facts).facts in (
        all_of (ServicesOwn uses files known) file.components
            (finds_components file.components facts (file_parts file declared.0) h (error_free_first (components_read file.components facts).found (files_read more next).found nothing)),
        finds_files more next declared.1 (keeps_components file.components facts (file_parts file declared.0) h)
            (error_free_second (components_read file.components facts).found (files_read more next).found nothing),
      )

-- all operations of a program are declared
pub all_declared : (files : List File) → Each (Contains (declared_operations files)) (declared_operations files)
all_declared files = each (Contains (declared_operations files)) (declared_operations files) (All-contains_itself (declared_operations files))

-- an operation is declared, whatever signatures are known
abbrev pub IsDeclaredIn : List File → Meets
IsDeclaredIn files signatures spot ty component is_local = Declared files spot component is_local

-- what is known before any statement is looked at is declared
pub program_plain : (uses : Meanings) (specs : Specs) (files : List File) → Plain (IsDeclaredIn files) uses (program_known uses specs files)
program_plain uses specs files =
    plain_program (IsDeclaredIn files) uses specs files
    (each-weaker (Contains (declared_operations files)) (Allows (IsDeclaredIn files)) (λ operation h signatures ty. h) (declared_operations files) (all_declared files))

pub program_sure : (uses : Meanings) (specs : Specs) (files : List File) → Sure uses files (program_known uses specs files) (program_known uses specs files)
program_sure uses specs files =
    let plain = program_plain uses specs files in
    (plain.0, λ spot ty component is_local is more keeps. (plain.1 spot ty component is_local is more keeps, λ e. is ∙ ap (λ l. Some (info.Operation ty component l)) e))

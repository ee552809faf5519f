-- What is known of operations in the blocks of an accepted program: each is in the table, and its type has a signature
-- that fits; so has each type of operations.
use Rattle.std.proofs.Common.{◌≡◌, ◌⊎◌, inl, inr, ℕ, Bool, true, false, List, [], ◌∷◌, Option, Some, None, flat_map, map, refl, sym, ap, ◌∙◌, subst, true≢false}
use Rattle.sr_names.specs.declared.spot.Spot.{Spot}
use Rattle.sr_names.specs.Noted.{Meanings}
use Rattle.sr_names.specs.Searches.{At}
use Rattle.sr_names.specs.Spots.{spot_of}
use Rattle.sr_tree.specs.declared.component.Component.{Component}
use Rattle.sr_tree.specs.declared.component.File.{File}
use Rattle.sr_tree.specs.declared.component.ProcItem.{ProcItem}
use Rattle.sr_tree.specs.declared.component.ProcItem.TheVariants as inner
use Rattle.sr_tree.specs.declared.declaration.ConstDecl.{ConstDecl}
use Rattle.sr_tree.specs.declared.declaration.OpItem.{OpItem}
use Rattle.sr_tree.specs.declared.declaration.VarDecl.{VarDecl}
use Rattle.sr_tree.specs.declared.name.Name.{Name}
use Rattle.sr_tree.specs.declared.statement.Arm.{Arm}
use Rattle.sr_tree.specs.declared.statement.BlockItem.{BlockItem}
use Rattle.sr_tree.specs.declared.statement.Branch.{Branch}
use Rattle.sr_tree.specs.declared.statement.CoArm.{CoArm}
use Rattle.sr_tree.specs.declared.statement.Quantifier.{Quantifier}
use Rattle.sr_tree.specs.declared.statement.Statement.{Statement}
use Rattle.sr_types.proofs.Places.{insert_key-keeps}
use Rattle.sr_types.specs.declared.signature.Signature.{Signature}
use Rattle.sr_types.specs.declared.ty.Ty.{Ty}
use Rattle.sr_types.specs.declared.typed.Typed.{Typed}
use Rattle.sr_types.specs.Equality.{equal_signatures}
use Rattle.sr_types.specs.Signatures.{KeepsNumbers}
use Rattle.sr_value.specs.declared.place.Span.{Span}
use Rattle.sr_order.specs.Names.{arm_names, block_item_names, branch_names, co_arm_names, const_names, name_names, names_spans, quantifier_names, statement_names, var_names, where_some}
use Rattle.sr_check.specs.Components.{proc_item_read, quantifiers_formal, signed_declared, returned_declared}
use Rattle.sr_check.specs.Contexts.{Context, Steps}
use Rattle.sr_check.specs.ErrorFree.{ErrorFree}
use Rattle.sr_check.specs.Owners.{Owned, component_at}
use Rattle.sr_check.specs.Quantifying.{quantifiers_known}
use Rattle.sr_check.specs.Services.{service_bound}
use Rattle.sr_check.specs.Statements.{arm_read, block_item_read, branch_read, co_arm_read, const_read, statement_read, var_read}
use Rattle.sr_check.proofs.Each.{Each}
use Rattle.sr_check.proofs.ErrorFree.{error_free_first, error_free_second}
use Rattle.sr_check.proofs.Owners.{Allows, Meets, Sound}
use Rattle.sr_check.proofs.Reading as reading
use Rattle.sr_check_expr.specs.declared.facts.Facts.{Facts}
use Rattle.sr_check_expr.specs.declared.info.Info.{Info}
use Rattle.sr_check_expr.specs.declared.info.Info.TheVariants as info
use Rattle.sr_check_expr.specs.Infos.{info_at}
use Rattle.sr_check_decl.specs.declared.kind.NamedParam.{NamedParam}
use Rattle.sr_check_decl.specs.declared.kind.Signed.{Signed}
use Rattle.sr_check_decl.specs.Declaring.{op_item_name, op_type, ops_declared, sems_declared, params_declared}
use Rattle.sr_check_decl.specs.Entering.{entered, ops_entered}
use Rattle.sr_front.proofs.Known.FreeBlocks.{FreeItem}
use Rattle.sr_front.proofs.Headed.Heads.{head_found, ops_headed}
use Rattle.sr_check_decl.specs.Variables.{declare}
use Rattle.sr_outline.specs.Heads.{DeclaredOperation, Heads, component_opened, head_at, inner_opened, ops_opened, sems_opened}
use Rattle.sr_core.specs.declared.statement.Scope.TheVariants.{Own}
use Rattle.sr_tables.specs.Parts.{components_in, spot_named}
use Rattle.sr_tables.specs.Shapes.{Shapes}
use Rattle.sr_front.proofs.Known.Declared.{Apart, inner_owned_is, owned_by}
use Rattle.sr_front.proofs.Headed.HeadCounts.{HasTable}
use Rattle.sr_front.proofs.Headed.Headed.{Headed}
use Rattle.sr_front.proofs.Known.KeptCode as code
use Rattle.sr_front.proofs.Known.KeptNames as names
use Rattle.sr_front.proofs.Known.KeptNames.{Anywhere, Closed, all_fit}
use Rattle.sr_front.proofs.Headed.KnownHeaded.{KnownAs, op_known, opened_headed, sems_known, table}
use Rattle.sr_front.proofs.Lists.Members.{Among, all_among, among_each}
use Rattle.sr_front.proofs.Headed.Optypes.{OptypesHeaded, table_stays}
use Rattle.sr_front.proofs.Lists.Put.{put_holds}

-- ---- types of operations

is_optype : Option Info → Bool
is_optype (Some (info.OpType ty)) = true
is_optype _ = false

-- no type of operations is entered in a block
optypes_with : (heads : Heads) (facts : Facts) (spot : Spot) (one : Info) → is_optype (Some one) ≡ false → OptypesHeaded heads facts → OptypesHeaded heads (declare facts spot one)
unfolding is_optype
optypes_with heads facts spot one other h at ty is =
    put_holds facts spot one (λ there found. found ≡ Some (info.OpType ty) → (more : List Signature) → KeepsNumbers facts.signatures more → HasTable more (head_at heads there) ty)
    (λ entry. absurd (true≢false (sym (ap is_optype entry) ∙ other))) at (λ apart. h at ty) is

pub optypes_signatures : (heads : Heads) (facts : Facts) (signature : Signature) → OptypesHeaded heads facts → OptypesHeaded heads (entered signature facts)
optypes_signatures heads facts signature h spot ty is more keeps =
    h spot ty is more (λ number kept at. keeps number kept (insert_key-keeps equal_signatures facts.signatures signature number kept at))

module _ (heads : Heads) where
  optypes_value : (facts : Facts) (spot : Spot) (typed : Typed) → OptypesHeaded heads facts → OptypesHeaded heads (declare facts spot (info.Value typed))
  unfolding is_optype
  optypes_value facts spot typed = optypes_with heads facts spot (info.Value typed) refl

  optypes_operation : (facts : Facts) (spot : Spot) (ty : Ty) (component : Spot) (is_local : Bool) → OptypesHeaded heads facts → OptypesHeaded heads (declare facts spot (info.Operation ty component is_local))
  unfolding is_optype
  optypes_operation facts spot ty component is_local = optypes_with heads facts spot (info.Operation ty component is_local) refl

  optypes_closed : Closed (OptypesHeaded heads) Anywhere Anywhere
  optypes_closed = record {
    entered = optypes_signatures heads;
    put = λ facts spot typed free h. optypes_value facts spot typed h;
    operation = λ facts spot ty component is_local fit h. optypes_operation facts spot ty component is_local h;
  }

  optypes_params : (params : List NamedParam) (facts : Facts) → OptypesHeaded heads facts → OptypesHeaded heads (params_declared params facts)
  optypes_params params facts h = names.keeps_params (OptypesHeaded heads) Anywhere Anywhere optypes_closed params facts (all_fit (λ param. param.spot) params) h

  optypes_signed : (signed : Signed) (facts : Facts) → OptypesHeaded heads facts → OptypesHeaded heads (signed_declared signed facts)
  optypes_signed signed facts h = by signed.returned
    where
      by : (returned : Option NamedParam) → OptypesHeaded heads (returned_declared returned (params_declared signed.params facts))
      by None = optypes_params signed.params facts h
      by (Some returned) = optypes_value (params_declared signed.params facts) returned.spot _ (optypes_params signed.params facts h)

-- ---- what is known in a block

module _ (uses : Meanings) (files : List File) (facts : Facts) (kept : facts.uses ≡ uses) (shapes : Shapes) (heads : Heads) (procs : List Spot) (apart : Apart files) where
  abbrev Meeting : Meets
  Meeting = Headed (components_in files) procs (table facts shapes heads procs files apart)

  abbrev pub Holding : Spot → Facts → Type 0
  Holding component now = Sound Meeting uses component now × OptypesHeaded heads now

  module _ (component : Spot) where
    abbrev Optypes : Facts → Type 0
    Optypes = OptypesHeaded heads

    pub holding_const : (constant : ConstDecl) (now : Facts) → Holding component now → Holding component (const_read constant now).facts
    holding_const constant now h = (reading.keeps_const Meeting uses component constant now h.0, names.keeps_const Optypes Anywhere Anywhere (optypes_closed heads) constant now (all_fit spot_of (const_names constant)) h.1)

    pub holding_var : (variables : VarDecl) (now : Facts) → Holding component now → Holding component (var_read variables now).facts
    holding_var variables now h = (reading.keeps_var Meeting uses component variables now h.0, names.keeps_var Optypes Anywhere Anywhere (optypes_closed heads) variables now (all_fit spot_of (var_names variables)) h.1)

    pub holding_service : (formals : List Name) (returned : Option Name) (type : Ty) (now : Facts) → Holding component now → Holding component (service_bound formals returned type now)
    holding_service formals returned type now h = (
      reading.keeps_service Meeting uses component formals returned type now h.0,
      names.keeps_service Optypes Anywhere Anywhere (optypes_closed heads) formals returned type now (all_fit spot_of (names_spans formals)) (all_fit spot_of (where_some name_names returned)) h.1,
    )

    pub holding_quantifiers : (quantifiers : List Quantifier) (now : Facts) → Holding component now → Holding component (quantifiers_known now quantifiers)
    holding_quantifiers quantifiers now h = (
      reading.keeps_quantifiers Meeting uses component quantifiers now h.0,
      names.keeps_quantifiers Optypes Anywhere Anywhere (optypes_closed heads) quantifiers now (all_fit spot_of (flat_map quantifier_names quantifiers)) h.1,
    )

    pub holding_formal_quantifiers : (quantifiers : List Quantifier) (now : Facts) → Holding component now → Holding component (quantifiers_formal quantifiers now)
    holding_formal_quantifiers quantifiers now h = (
      reading.keeps_formal_quantifiers Meeting uses component quantifiers now h.0,
      names.keeps_formal_quantifiers Optypes Anywhere Anywhere (optypes_closed heads) quantifiers now (all_fit spot_of (flat_map quantifier_names quantifiers)) h.1,
    )

    pub holding_signed_declared : (signed : Signed) (now : Facts) → Holding component now → Holding component (signed_declared signed now)
    holding_signed_declared signed now h = (
      reading.keeps_signed_declared Meeting uses component signed now h.0,
      optypes_signed heads signed now h.1,
    )

    abbrev pub KeepsHolding : Steps → Type 0
    KeepsHolding steps = (context : Context) → Holding component context.facts → Holding component (steps context).facts

    pub holding_statement : (tree : Statement) → KeepsHolding (statement_read tree)
    holding_statement tree context h = (
      reading.keeps_statement Meeting uses component tree context h.0,
      code.keeps_statement Optypes Anywhere Anywhere (optypes_closed heads) tree (all_fit spot_of (statement_names tree)) context h.1,
    )

    pub holding_block_item : (tree : BlockItem) → KeepsHolding (block_item_read tree)
    holding_block_item tree context h = (
      reading.keeps_block_item Meeting uses component tree context h.0,
      code.keeps_block_item Optypes Anywhere Anywhere (optypes_closed heads) tree (all_fit spot_of (block_item_names tree)) context h.1,
    )

    pub holding_arm : (tree : Arm) (span : Span) → KeepsHolding ((arm_read tree).steps span)
    holding_arm tree span context h = (
      reading.keeps_arm Meeting uses component tree span context h.0,
      code.keeps_arm Optypes Anywhere Anywhere (optypes_closed heads) tree span (all_fit spot_of (arm_names tree)) context h.1,
    )

    pub holding_branch : (tree : Branch) → KeepsHolding (branch_read tree)
    holding_branch tree context h = (
      reading.keeps_branch Meeting uses component tree context h.0,
      code.keeps_branch Optypes Anywhere Anywhere (optypes_closed heads) tree (all_fit spot_of (branch_names tree)) context h.1,
    )

    pub holding_co_arm : (tree : CoArm) (span : Span) → KeepsHolding (co_arm_read tree span)
    holding_co_arm tree span context h = (
      reading.keeps_co_arm Meeting uses component tree span context h.0,
      code.keeps_co_arm Optypes Anywhere Anywhere (optypes_closed heads) tree span (all_fit spot_of (co_arm_names tree)) context h.1,
    )

  -- ---- operations that are declared in a block

  -- an operation meets it, or is one of these
  abbrev Either : Spot → List DeclaredOperation → Meets
  Either at opened signatures spot ty component is_local =
      Meeting signatures spot ty component is_local ⊎ ((one : DeclaredOperation) × Among opened one × (owned_by at one ≡ (spot, (component, is_local))))

  either : (at : Spot) (opened : List DeclaredOperation) (now : Facts) → Sound Meeting uses at now → Sound (Either at opened) uses at now
  either at opened now h = (h.0, (h.1.0, λ spot ty component is_local is more keeps. inl (h.1.1 spot ty component is_local is more keeps)))

  either_allowed : (at : Spot) (all opened : List DeclaredOperation) → Each (Among all) opened → Each (Allows (Either at all)) (map (owned_by at) opened)
  either_allowed at all [] among = tt
  either_allowed at all (one ∷ more) among = (λ signatures ty. inr (one, among.0, refl), either_allowed at all more among.1)

  module _ (number : ℕ) (tree : Component) (there : At (components_in files) number tree) where
    -- where the types of these are those of their heads, they meet it
    either_headed : (opened : List DeclaredOperation) (now : Facts) (h : Sound (Either (component_at tree) opened) uses (component_at tree) now) (optypes : OptypesHeaded heads now)
        → Each (Among (component_opened facts shapes heads tree)) opened → Each (KnownAs facts shapes heads now (h.1.0 ∙ sym kept) optypes) opened → Sound Meeting uses (component_at tree) now
    either_headed opened now h optypes among known = (h.0, (h.1.0, meets))
      where
        meets : (spot : Spot) (ty : Ty) (component : Spot) (is_local : Bool) → info_at now.infos spot ≡ Some (info.Operation ty component is_local)
            → (more : List Signature) → KeepsNumbers now.signatures more → Meeting more spot ty component is_local
        meets spot ty component is_local is more keeps = by (h.1.1 spot ty component is_local is more keeps)
          where
            by : Either (component_at tree) opened more spot ty component is_local → Meeting more spot ty component is_local
            by (inl meeting) = meeting
            by (inr one) =
                let name : spot_named one.0.name ≡ spot = ap (λ (owned : Owned). owned.0) one.2 in
                let has = among_each (KnownAs facts shapes heads now (h.1.0 ∙ sym kept) optypes) opened one.1.0 one.0 known one.1.1 ty component is_local (ap (info_at now.infos) name ∙ is) in
                opened_headed facts shapes heads procs files apart number tree one.0 spot component is_local more ty there
                (among_each (Among (component_opened facts shapes heads tree)) opened one.1.0 one.0 among one.1.1) one.2 (table_stays now.signatures more one.0.head ty keeps has)

    local_ops_known : (now : Facts) (same : now.uses ≡ facts.uses) (optypes : OptypesHeaded heads now) (ops : List OpItem) → ErrorFree (ops_headed now ops)
        → Each (KnownAs facts shapes heads now same optypes) (ops_opened facts shapes heads Own ops)
    local_ops_known now same optypes [] nothing = tt
    local_ops_known now same optypes (op ∷ ops) nothing = (
      op_known facts shapes heads now same optypes Own op (error_free_first (head_found now (op_item_name op) (op_type now op)) (ops_headed now ops) nothing),
      local_ops_known now same optypes ops (error_free_second (head_found now (op_item_name op) (op_type now op)) (ops_headed now ops) nothing),
    )

    item_either : (item : ProcItem) (context : Context) → Each (Among (component_opened facts shapes heads tree)) (inner_opened facts shapes heads item) → Sound Meeting uses (component_at tree) context.facts
        → Sound (Either (component_at tree) (inner_opened facts shapes heads item)) uses (component_at tree) (proc_item_read item context).facts
    item_either item context among h =
        let at = component_at tree in
        let opened = inner_opened facts shapes heads item in
        reading.keeps_inner (Either at opened) uses at item
        (subst (Each (Allows (Either at opened))) (inner_owned_is facts shapes heads at item) (either_allowed at opened opened (all_among opened))) context (either at opened context.facts h)

    -- what a block declares is known by the types of its heads
    pub local_headed : (item : ProcItem) (context : Context) → Each (Among (component_opened facts shapes heads tree)) (inner_opened facts shapes heads item)
        → FreeItem item context.facts → Holding (component_at tree) context.facts → ErrorFree (proc_item_read item context).found → Holding (component_at tree) (proc_item_read item context).facts
    local_headed (inner.Const constant) context among free h nothing = holding_const (component_at tree) constant context.facts h
    local_headed (inner.Var variables) context among free h nothing = holding_var (component_at tree) variables context.facts h
    local_headed (inner.Statement statement) context among free h nothing = holding_statement (component_at tree) statement context h
    local_headed (inner.Op operations) context among free h nothing =
        let ops = operations.items in
        let now = ops_declared true ops (ops_entered ops context.facts) in
        let sound = item_either (inner.Op operations) context among h.0 in
        let optypes = names.keeps_local_ops (OptypesHeaded heads) Anywhere Anywhere (optypes_closed heads) ops context.facts (all_fit (λ op. spot_of (op_item_name op).span) ops) h.1 in
        (either_headed (ops_opened facts shapes heads Own ops) now sound optypes among (local_ops_known now (sound.1.0 ∙ sym kept) optypes ops (free.headed nothing)), optypes)
    local_headed (inner.Sem semaphores) context among free h nothing =
        let now = sems_declared true semaphores.semaphores context.facts in
        let sound = item_either (inner.Sem semaphores) context among h.0 in
        let optypes = names.keeps_local_sems (OptypesHeaded heads) Anywhere Anywhere (optypes_closed heads) semaphores.semaphores context.facts (all_fit (λ semaphore. spot_of semaphore.name.span) semaphores.semaphores) h.1 in (
          either_headed (sems_opened Own semaphores.semaphores) now sound optypes among
              (sems_known facts shapes heads now (sound.1.0 ∙ sym kept) optypes Own semaphores.semaphores free),
          optypes,
        )

  -- all operations of a component are among them
  pub all_opened : (tree : Component) → Each (Among (component_opened facts shapes heads tree)) (component_opened facts shapes heads tree)
  all_opened tree = all_among (component_opened facts shapes heads tree)

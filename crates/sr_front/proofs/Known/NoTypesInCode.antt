-- Code declares operations where no type is known, each known by the type that its head makes, and keeps the types that are known.
use Rattle.std.proofs.Common.{◌≡◌, inl, inr, false, List, [], ◌∷◌, Some, None, flat_map, refl, sym, ap, subst, ◌∙◌}
use Rattle.std.specs.List.{IsDistinct}
use Rattle.std.specs.Prelude.{map}
use Rattle.sr_names.specs.declared.spot.Spot.{Spot}
use Rattle.sr_names.specs.Noted.{Meanings}
use Rattle.sr_names.specs.Specs.{Specs}
use Rattle.sr_names.specs.Spots.{same_spot, spot_of}
use Rattle.sr_names.proofs.Marking.{entry-other}
use Rattle.sr_order.specs.Names.{block_names, component_names, file_names, formal_names, item_names, name_names, names_spans, op_item_names, proc_item_names, quantifier_names, semaphore_names, signature_names, spec_item_names, where_some}
use Rattle.sr_tables.specs.Parts.{components_in}
use Rattle.sr_tree.specs.declared.component.Component.{Component}
use Rattle.sr_tree.specs.declared.component.File.{File}
use Rattle.sr_tree.specs.declared.component.Item.{Item}
use Rattle.sr_tree.specs.declared.component.Item.TheVariants as item
use Rattle.sr_tree.specs.declared.component.ProcItem.{ProcItem}
use Rattle.sr_tree.specs.declared.component.ProcItem.TheVariants as inner
use Rattle.sr_tree.specs.declared.declaration.OpItem.{OpItem}
use Rattle.sr_tree.specs.declared.declaration.OpItem.TheVariants.{Signed, Typed}
use Rattle.sr_tree.specs.declared.declaration.Semaphore.{Semaphore}
use Rattle.sr_tree.specs.Parts.{body_of, formals_of, spec_of}
use Rattle.sr_value.specs.declared.place.Span.{Span}
use Rattle.sr_check_expr.specs.declared.facts.Facts.{Facts}
use Rattle.sr_check_expr.specs.declared.info.Info.{Info}
use Rattle.sr_check_expr.specs.declared.info.Info.TheVariants as info
use Rattle.sr_check_expr.specs.Infos.{info_at}
use Rattle.sr_check_decl.specs.Declaring.{op_item_name, standing}
use Rattle.sr_check_decl.specs.Entering.{ops_entered, signature_entered}
use Rattle.sr_check_decl.specs.Inferring.{program_known}
use Rattle.sr_check_decl.specs.Parts.{component_decl}
use Rattle.sr_check_decl.specs.TypeTrees.{signature_read}
use Rattle.sr_check_decl.specs.Variables.{declare}
use Rattle.sr_check.specs.declared.serving.Serving.TheVariants.{Ends, Serves, SetsUp}
use Rattle.sr_check.specs.Components.{beginning, block_read, component_read, components_read, item_read, items_procs, items_read, proc_item_read, quantifiers_formal, signed_declared}
use Rattle.sr_check.specs.Contexts.{Context, with_facts}
use Rattle.sr_check.specs.Procs.{Procs}
use Rattle.sr_check.specs.Quantifying.{quantifiers_known}
use Rattle.sr_check.specs.Services.{operation_named, service_bound, spot_or, type_of}
use Rattle.sr_check.proofs.Each.{Each, each-left, each-right, each-weaker}
use Rattle.sr_check.proofs.Entered.{keeps_ops}
use Rattle.sr_front.proofs.Known.FreeBlocks.{FreeBlock, FreeCode, FreeComponent, FreeComponents, FreeItem, FreeItems, FreeOps}
use Rattle.sr_front.proofs.EffectFree.EffectFreeCode.{code_names, component_code}
use Rattle.sr_front.proofs.Known.KeptCode.{keeps_statement}
use Rattle.sr_front.proofs.Known.KeptDeclared.{Declares, keeps_known}
use Rattle.sr_front.proofs.Known.KeptNames.{Closed, keeps_const, keeps_formal_quantifiers, keeps_local_ops, keeps_local_sems, keeps_quantifiers, keeps_service, keeps_signed, keeps_var}
use Rattle.sr_front.proofs.Headed.LocalHeads.{infos_later, local_ops_headed, local_sems_headed, optypes_later}
use Rattle.sr_front.proofs.Headed.OpsPass.{OptypesSigned}
use Rattle.sr_front.proofs.Lists.Members.{parts_of_parts}
use Rattle.sr_front.proofs.Names.PlainNames.{component_plain}
use Rattle.sr_front.proofs.Lists.Put.{put_holds}
use Rattle.sr_front.proofs.Lists.Rising.{Rises, rises_left, rises_right}
use Rattle.sr_front.proofs.Names.Shares.{code_apart}
use Rattle.sr_front.proofs.Typed.TypedTypes.{InfosTyped, Later, entered_later, later_itself, type_part}
use Rattle.sr_front.proofs.Known.TypeSpots.{Elsewhere}

-- ---- names in the order of the text

code_rises : (one : Item) → Rises (item_names one) → Rises (code_names one)
code_rises (item.Spec declared) rising = tt
code_rises _ rising = rising

-- ---- where no declaration stands, no type is known before any statement is looked at

module _ (spot : Spot) where
  abbrev Untold : Facts → Type 0
  Untold facts = type_part (info_at facts.infos spot) ≡ None

  abbrev Apart : Spot → Type 0
  Apart at = same_spot spot at ≡ false

  untold_with : (facts : Facts) (at : Spot) (one : Info) → type_part (Some one) ≡ None → Untold facts → Untold (declare facts at one)
  untold_with facts at one plain untold = put_holds facts at one (λ other found. type_part found ≡ None) plain spot (λ apart. untold)

  untold_declares : Declares Untold Apart
  untold_declares = record {
    entered = λ facts signature untold. untold;
    put = λ facts at one apart untold. ap type_part (entry-other facts.infos at one spot apart) ∙ untold;
    operation = λ facts at ty component is_local untold. untold_with facts at (info.Operation ty component is_local) refl untold;
    standing = λ facts component untold. untold;
  }

  untold_known : (uses : Meanings) (specs : Specs) (files : List File) → Each (Elsewhere spot) (flat_map component_plain (components_in files)) → Untold (program_known uses specs files)
  untold_known uses specs files apart = keeps_known Untold Apart untold_declares uses specs files apart refl

module _ (known : Facts) where
  -- no type is known at a spot
  abbrev pub NoType : Spot → Type 0
  NoType spot = type_part (info_at known.infos spot) ≡ None

  abbrev FreeName : Span → Type 0
  FreeName span = NoType (spot_of span)

  abbrev pub AllFree : List Span → Type 0
  AllFree = Each FreeName

  later_with : (facts : Facts) (spot : Spot) (one : Info) → type_part (Some one) ≡ None → NoType spot → Later known facts → Later known (declare facts spot one)
  later_with facts spot one plain free h = record {
    uses = h.uses;
    types = λ other. put_holds facts spot one (λ at found. type_part found ≡ type_part (info_at known.infos at)) (plain ∙ sym free) other (λ apart. h.types other);
    numbers = h.numbers;
  }

  -- what is declared where no type is known leaves the types that are known
  pub later_closed : Closed (Later known) NoType NoType
  later_closed = record {
    entered = λ facts signature h. entered_later known facts signature h;
    put = λ facts spot typed free h. later_with facts spot (info.Value typed) refl free h;
    operation = λ facts spot ty component is_local free h. later_with facts spot (info.Operation ty component is_local) refl free h;
  }

  -- ---- blocks

  op_free : (op : OpItem) → AllFree (op_item_names op) → NoType (spot_of (op_item_name op).span)
  op_free (Signed span name signature) free = free.0
  op_free (Typed span name optype) free = free.0

  abbrev OpsFree : List OpItem → Type 0
  OpsFree = Each (λ op. NoType (spot_of (op_item_name op).span))

  ops_free : (ops : List OpItem) → AllFree (flat_map op_item_names ops) → OpsFree ops
  ops_free [] free = tt
  ops_free (op ∷ ops) free = (op_free op (each-left FreeName (op_item_names op) _ free), ops_free ops (each-right FreeName (op_item_names op) _ free))

  sems_free : (semaphores : List Semaphore) → AllFree (flat_map semaphore_names semaphores) → Each (λ semaphore. NoType (spot_of semaphore.name.span)) semaphores
  sems_free [] free = tt
  sems_free (semaphore ∷ more) free = (free.0, sems_free more (each-right FreeName (semaphore_names semaphore) _ free))

  ops_untold : (ops : List OpItem) (now : Facts) → OpsFree ops → Later known now → FreeOps ops now
  ops_untold [] now free h spot at = absurd at
  ops_untold (op ∷ ops) now free h spot (inl same) = h.types spot ∙ ap (λ s. type_part (info_at known.infos s)) same ∙ free.0
  ops_untold (op ∷ ops) now free h spot (inr at) = ops_untold ops now free.1 h spot at

  pub inner_later : (one : ProcItem) (context : Context) → AllFree (proc_item_names one) → Later known context.facts → Later known (proc_item_read one context).facts
  inner_later (inner.Const constant) context free h = keeps_const (Later known) NoType NoType later_closed constant context.facts free h
  inner_later (inner.Var variables) context free h = keeps_var (Later known) NoType NoType later_closed variables context.facts free h
  inner_later (inner.Op operations) context free h = keeps_local_ops (Later known) NoType NoType later_closed operations.items context.facts (ops_free operations.items free) h
  inner_later (inner.Sem semaphores) context free h = keeps_local_sems (Later known) NoType NoType later_closed semaphores.semaphores context.facts (sems_free semaphores.semaphores free) h
  inner_later (inner.Statement statement) context free h = keeps_statement (Later known) NoType NoType later_closed statement free context h

  block_later : (block : List ProcItem) (context : Context) → AllFree (block_names block) → Later known context.facts → Later known (block_read block context).facts
  block_later [] context free h = h
  block_later (one ∷ block) context free h =
      block_later block (with_facts context (proc_item_read one context).facts) (each-right FreeName (proc_item_names one) _ free)
      (inner_later one context (each-left FreeName (proc_item_names one) _ free) h)

  -- the signature of a procedure is known where its code is read
  abbrev pub SignedAgain : Item → Type 0
  SignedAgain (item.Procedure procedure) = (now : Facts) → Later known now → Later (signature_entered procedure.signature now) now
  SignedAgain _ = Unit {0}

  abbrev pub AllAgain : Component → Type 0
  AllAgain component = Each SignedAgain (body_of component)

module _ (known : Facts) (typed : InfosTyped known) (optypes : OptypesSigned known) where
  abbrev FreeIn : Span → Type 0
  FreeIn span = NoType known (spot_of span)

  -- ---- blocks

  inner_free : (one : ProcItem) (now : Facts) → AllFree known (proc_item_names one) → Rises (proc_item_names one) → Later known now → FreeItem one now
  inner_free (inner.Op operations) now free rising h =
      let untold = ops_untold known operations.items (ops_entered operations.items now) (ops_free known operations.items free) (keeps_ops (Later known) (entered_later known) operations.items now h) in
      record { free = untold; headed = local_ops_headed operations.items now (infos_later known now h typed) (optypes_later known now h optypes) untold rising }
  inner_free (inner.Sem semaphores) now free rising h = local_sems_headed semaphores.semaphores now rising
  inner_free _ now free rising h = tt

  block_free : (block : List ProcItem) (context : Context) → AllFree known (block_names block) → Rises (block_names block) → Later known context.facts → FreeBlock block context
  block_free [] context free rising h = tt
  block_free (one ∷ block) context free rising h =
      let here = each-left FreeIn (proc_item_names one) _ free in (
        inner_free one context.facts here (rises_left (proc_item_names one) _ rising) h,
        block_free block (with_facts context (proc_item_read one context).facts) (each-right FreeIn (proc_item_names one) _ free) (rises_right (proc_item_names one) _ rising) (inner_later known one context here h),
      )

  -- ---- items

  item_free : (procs : Procs) (one : Item) (now : Facts) → SignedAgain known one → AllFree known (code_names one) → Rises (code_names one) → Later known now → FreeCode procs one now × Later known (item_read procs one now).facts
  item_free procs (item.Spec declared) now again free rising h = (tt, h)
  item_free procs (item.Proc proc) now again free rising h =
      let served = operation_named now proc.name in
      let after = each-right FreeIn (names_spans proc.formals) _ free.1 in
      let context = beginning procs (Serves (spot_or (spot_of proc.name.span) served)) (service_bound proc.formals proc.returned (type_of served) now) in
      let names = each-right FreeIn (where_some name_names proc.returned) _ after in
      let begins = keeps_service (Later known) (NoType known) (NoType known) (later_closed known) proc.formals proc.returned (type_of served) now (each-left FreeIn (names_spans proc.formals) _ free.1) (each-left FreeIn (where_some name_names proc.returned) _ after) h in
      (block_free proc.block context names (rises_right (where_some name_names proc.returned) _ (rises_right (names_spans proc.formals) _ rising.1)) begins, block_later known proc.block context names begins)
  item_free procs (item.Procedure procedure) now again free rising h =
      let signed = (signature_read procedure.signature now).signed in
      let context = beginning procs (Serves (spot_of procedure.name.span)) (signed_declared signed now) in
      let names = each-right FreeIn (signature_names procedure.signature) _ free.1 in
      let begins = keeps_signed (Later known) (NoType known) (NoType known) (later_closed known) procedure.signature now (each-left FreeIn (signature_names procedure.signature) _ free.1) h in
      ((again now h, block_free procedure.block context names (rises_right (signature_names procedure.signature) _ rising.1) begins), block_later known procedure.block context names begins)
  item_free procs (item.Process process) now again free rising h =
      let quantifiers = flat_map quantifier_names process.quantifiers in
      let quantified = each-left FreeIn quantifiers _ free.1 in
      let names = each-right FreeIn quantifiers _ free.1 in
      let context = beginning procs (Serves (spot_of process.name.span)) (quantifiers_formal process.quantifiers (quantifiers_known now process.quantifiers)) in
      let begins = keeps_formal_quantifiers (Later known) (NoType known) (NoType known) (later_closed known) process.quantifiers (quantifiers_known now process.quantifiers) quantified
      (keeps_quantifiers (Later known) (NoType known) (NoType known) (later_closed known) process.quantifiers now quantified h) in
      (block_free process.block context names (rises_right quantifiers _ rising.1) begins, block_later known process.block context names begins)
  item_free procs (item.Final final) now again free rising h = (block_free final.block (beginning procs Ends now) free rising h, block_later known final.block (beginning procs Ends now) free h)
  item_free procs (item.Statement statement) now again free rising h = (tt, keeps_statement (Later known) (NoType known) (NoType known) (later_closed known) statement free (beginning procs SetsUp now) h)

  items_free : (procs : Procs) (items : List Item) (now : Facts) → Each (SignedAgain known) items → AllFree known (flat_map code_names items) → Rises (flat_map item_names items) → Later known now → FreeItems procs items now × Later known (items_read procs items now).facts
  items_free procs [] now again free rising h = (tt, h)
  items_free procs (one ∷ items) now again free rising h =
      let here = item_free procs one now again.0 (each-left FreeIn (code_names one) _ free) (code_rises one (rises_left (item_names one) _ rising)) h in
      let rest = items_free procs items (item_read procs one now).facts again.1 (each-right FreeIn (code_names one) _ free) (rises_right (item_names one) _ rising) here.1 in
      ((here.0, rest.0), rest.1)

  -- ---- components and files

  component_free : (component : Component) (now : Facts) → AllAgain known component → AllFree known (component_code component) → Rises (component_names component) → Later known now → FreeComponent component now × Later known (component_read component now).facts
  component_free component now again free rising h =
      let here = standing now (component_decl component) in
      items_free (items_procs here (body_of component) []) (body_of component) here again free (rises_right (flat_map formal_names (formals_of component)) _ (rises_right (flat_map spec_item_names (spec_of component)) _ rising.1)) (record { uses = h.uses; types = h.types; numbers = h.numbers })

  components_free : (components : List Component) (now : Facts) → Each (AllAgain known) components → AllFree known (flat_map component_code components) → Rises (flat_map component_names components) → Later known now
      → FreeComponents components now × Later known (components_read components now).facts
  components_free [] now again free rising h = (tt, h)
  components_free (component ∷ more) now again free rising h =
      let here = component_free component now again.0 (each-left FreeIn (component_code component) _ free) (rises_left (component_names component) _ rising) h in
      let rest = components_free more (component_read component now).facts again.1 (each-right FreeIn (component_code component) _ free) (rises_right (component_names component) _ rising) here.1 in
      ((here.0, rest.0), rest.1)

-- no type is known where a name of code stands
pub code_untold : (uses : Meanings) (specs : Specs) (files : List File) → IsDistinct same_spot (map spot_of (flat_map file_names files))
    → AllFree (program_known uses specs files) (flat_map component_code (components_in files))
code_untold uses specs files distinct =
    each-weaker (λ (one : Span). Each (Elsewhere (spot_of one)) (flat_map component_plain (components_in files))) (λ (one : Span). NoType (program_known uses specs files) (spot_of one))
    (λ one apart. untold_known (spot_of one) uses specs files apart) (flat_map component_code (components_in files)) (code_apart files distinct)

-- code declares operations where no type is known, and where a procedure is read its signatures have their numbers
pub code_free : (uses : Meanings) (specs : Specs) (files : List File) → IsDistinct same_spot (map spot_of (flat_map file_names files)) → Rises (flat_map file_names files) → InfosTyped (program_known uses specs files) → OptypesSigned (program_known uses specs files)
    → Each (AllAgain (program_known uses specs files)) (components_in files) → FreeComponents (components_in files) (program_known uses specs files)
code_free uses specs files distinct rises typed optypes again =
    let known = program_known uses specs files in
    (components_free known typed optypes (components_in files) known again (code_untold uses specs files distinct)
    (subst Rises (sym (parts_of_parts (λ (file : File). file.components) component_names files)) rises) (later_itself known)).0

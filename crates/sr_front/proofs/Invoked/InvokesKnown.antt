-- What is known of the operations of an accepted program where its code is read, and in the end.
use Rattle.std.proofs.Common.{◌≡◌, ◌⊎◌, inl, inr, ℕ, Bool, true, false, cond, List, [], ◌∷◌, Option, Some, None, is_some, map, flat_map, refl, sym, ap, subst, ◌∙◌, slice_get, length}
use Rattle.std.specs.List.{IsDistinct}
use Rattle.std.proofs.lemmas.Bool.{false≢true}
use Rattle.std.proofs.lemmas.Option.{none-some, same_Some}
use Rattle.sr_names.specs.declared.spot.Spot.{Spot}
use Rattle.sr_names.specs.Noted.{Meanings}
use Rattle.sr_names.specs.Specs.{Specs}
use Rattle.sr_names.specs.Searches.{At}
use Rattle.sr_names.specs.Spots.{same_spot, spot_of}
use Rattle.sr_names.proofs.Marking.{same_spot-cases}
use Rattle.sr_order.specs.Names.{block_names, file_names, name_names, names_spans, proc_item_names, quantifier_names, signature_names, where_some}
use Rattle.sr_order.specs.Spans.{component_operations, operation_spans}
use Rattle.sr_outline.specs.Heads.{DeclaredOperation, Heads, component_opened, heads_of, inner_opened, operation_of, parameters_of}
use Rattle.sr_outline.specs.Numbers.{served_spots}
use Rattle.sr_core.specs.declared.component.Operation.{Operation}
use Rattle.sr_tables.specs.Parts.{components_in, spot_named}
use Rattle.sr_tables.specs.Shapes.{Shapes}
use Rattle.sr_tables.specs.Tables.{found_at, keys_of, number_in, things_in}
use Rattle.sr_tree.specs.declared.component.Component.{Component}
use Rattle.sr_tree.specs.declared.component.File.{File}
use Rattle.sr_tree.specs.declared.component.Item.{Item}
use Rattle.sr_tree.specs.declared.component.Item.TheVariants as item
use Rattle.sr_tree.specs.declared.component.ProcItem.{ProcItem}
use Rattle.sr_tree.specs.declared.component.ProcItem.TheVariants as inner
use Rattle.sr_tree.specs.Parts.{body_of, formals_of}
use Rattle.sr_types.proofs.Places.{insert_key-keeps}
use Rattle.sr_types.specs.declared.ty.Ty.{Ty, out-Ty}
use Rattle.sr_types.specs.Equality.{equal_signatures}
use Rattle.sr_types.specs.Signatures.{KeepsNumbers, signature_of}
use Rattle.sr_types.specs.Types.{is_no_type}
use Rattle.sr_value.specs.declared.place.Span.{Span}
use Rattle.sr_check_expr.specs.declared.facts.Facts.{Facts}
use Rattle.sr_check_expr.specs.declared.info.Info.{Info}
use Rattle.sr_check_expr.specs.declared.info.Info.TheVariants as info
use Rattle.sr_check_expr.specs.declared.typed_expr.TypedExpr.{TypedExpr}
use Rattle.sr_check_expr.specs.Arguments.{takes_as_many, takes_by}
use Rattle.sr_check_expr.specs.Infos.{info_at}
use Rattle.sr_check_decl.specs.Declaring.{standing}
use Rattle.sr_check_decl.specs.Inferring.{program_known}
use Rattle.sr_check_decl.specs.Parts.{component_decl}
use Rattle.sr_check_decl.specs.TypeTrees.{signature_read}
use Rattle.sr_check.specs.Components.{components_read}
use Rattle.sr_check.specs.ErrorFree.{ErrorFree}
use Rattle.sr_check.specs.Owners.{component_at}
use Rattle.sr_check.proofs.Each.{Each, each-append, each-left, each-right}
use Rattle.sr_check.proofs.Owners.{Meets, Plain, known_now, sound_signatures, standing_sound}
use Rattle.sr_desugar.specs.Core.{scene_of}
use Rattle.sr_lower_expr.specs.declared.scene.Scene.{Scene}
use Rattle.sr_front.proofs.Known.FreeBlocks.{FreeComponents}
use Rattle.sr_front.proofs.Headed.Heads.{heads_found}
use Rattle.sr_front.proofs.Served.Operations.{imports, tables}
use Rattle.sr_front.proofs.Known.Declared.{Apart, all_keys, is_own, put_opened, put_operation, table_is}
use Rattle.sr_front.proofs.EffectFree.EffectFreeCode.{code_names, component_code}
use Rattle.sr_front.proofs.EffectFree.EffectFreeExprs.{Stay, StaysInfo}
use Rattle.sr_front.proofs.EffectFree.EffectFreeCore.{code_free}
use Rattle.sr_front.proofs.Typed.FinalOperations.{Has, HasAll, components_declare, outer_headed}
use Rattle.sr_front.proofs.Headed.Headed.{HasHead, Headed, IsHeaded}
use Rattle.sr_front.proofs.Headed.Holding.{Holding, holding_arm, holding_block_item, holding_branch, holding_co_arm, holding_formal_quantifiers, holding_quantifiers, holding_service, holding_signed_declared, holding_statement, local_headed, optypes_signatures}
use Rattle.sr_front.proofs.Invoked.InvokesCode.{InTable}
use Rattle.sr_front.proofs.Invoked.InvokesMet.{as_many_same}
use Rattle.sr_front.proofs.Headed.MakingHeaded.{making_headed}
use Rattle.sr_front.proofs.Invoked.InvokesTargets.{AllAtEnd, IsHead}
use Rattle.sr_front.proofs.Known.KeptBy.{KeptBetween, KeptIn, Names}
use Rattle.sr_front.proofs.Known.KeptNames.{Closed}
use Rattle.sr_front.proofs.Known.KeptProcs.{closed_in, keeps_components}
use Rattle.sr_front.proofs.Headed.KnownHeaded.{files_each, known_headed, table}
use Rattle.sr_front.proofs.Lists.Members.{Among, all_among, parts_of_parts}
use Rattle.sr_front.proofs.Known.OnlyOperations.{Lone, NoOperation, OnlyOperations, only_closed, only_known}
use Rattle.sr_front.proofs.Names.OperationShares.{NamesFree, names_free}
use Rattle.sr_front.proofs.Headed.Optypes.{OptypesHeaded, layer_stays}
use Rattle.sr_front.proofs.Headed.OptypesKnown.{optypes_known}
use Rattle.sr_front.proofs.Names.PlainNames.{block_plain, code_plain, component_code_plain, inner_plain}
use Rattle.sr_front.proofs.Known.Leading.{grown}
use Rattle.sr_front.proofs.Lists.Lists.{first_same, none_listed, rest_same}
use Rattle.sr_front.proofs.Lists.Placed.{Ending}
use Rattle.sr_front.proofs.Known.Staying.{Loose, Same, same_self, same_signatures, same_with, stay_through}
use Rattle.sr_front.proofs.Known.TypesStay.{Grows}

-- ---- names that are no operation's are among those of code

module _ (P : Span → Type 0) where
  inner_among : (one : ProcItem) → Each P (proc_item_names one) → Each P (inner_plain one)
  inner_among (inner.Op declared) all = tt
  inner_among (inner.Sem declared) all = tt
  inner_among (inner.Const declared) all = all
  inner_among (inner.Var declared) all = all
  inner_among (inner.Statement statement) all = all

  block_among : (block : List ProcItem) → Each P (block_names block) → Each P (block_plain block)
  block_among [] all = tt
  block_among (one ∷ block) all = each-append P (inner_plain one) _ (inner_among one (each-left P (proc_item_names one) _ all)) (block_among block (each-right P (proc_item_names one) _ all))

  item_among : (one : Item) → Each P (code_names one) → Each P (code_plain one)
  item_among (item.Spec declared) all = tt
  item_among (item.Proc proc) all =
      let formals = names_spans proc.formals in
      let returned = where_some name_names proc.returned in
      let after = each-right P formals _ all.1 in
      (all.0, each-append P formals _ (each-left P formals _ all.1) (each-append P returned _ (each-left P returned _ after) (block_among proc.block (each-right P returned _ after))))
  item_among (item.Procedure procedure) all =
      let signature = signature_names procedure.signature in
      each-append P signature _ (each-left P signature _ all.1) (block_among procedure.block (each-right P signature _ all.1))
  item_among (item.Process process) all =
      let quantifiers = flat_map quantifier_names process.quantifiers in
      each-append P quantifiers _ (each-left P quantifiers _ all.1) (block_among process.block (each-right P quantifiers _ all.1))
  item_among (item.Final final) all = block_among final.block all
  item_among (item.Statement statement) all = all

  items_among : (items : List Item) → Each P (flat_map code_names items) → Each P (flat_map code_plain items)
  items_among [] all = tt
  items_among (one ∷ items) all = each-append P (code_plain one) _ (item_among one (each-left P (code_names one) _ all)) (items_among items (each-right P (code_names one) _ all))

  components_among : (components : List Component) → Each P (flat_map component_code components) → Each P (flat_map component_code_plain components)
  components_among [] all = tt
  components_among (component ∷ more) all =
      each-append P (component_code_plain component) _ (items_among (body_of component) (each-left P (component_code component) _ all)) (components_among more (each-right P (component_code component) _ all))

both_each : {A : Type 0} (P Q : A → Type 0) (all : List A) → Each P all → Each Q all → Each (λ one. P one × Q one) all
both_each P Q [] p q = tt
both_each P Q (one ∷ all) p q = ((p.0, q.0), both_each P Q all p.1 q.1)

-- ---- a spot of the table is that of an operation

found_has : (P : Spot → Type 0) (spot : Spot) (operation : Operation) (entries : List (Spot × Operation)) (spans : List Span) → keys_of entries ≡ map spot_of spans → Each (λ span. P (spot_of span)) spans
    → found_at entries spot ≡ Some operation → P spot
found_has P spot operation [] spans keys all at = absurd (none-some operation at)
found_has P spot operation (entry ∷ entries) [] keys all at = absurd (none_listed entry.0 (keys_of entries) keys)
found_has P spot operation (entry ∷ entries) (span ∷ spans) keys all at = by (same_spot-cases spot entry.0) (found_has P spot operation entries spans (rest_same entry.0 (spot_of span) (keys_of entries) (map spot_of spans) keys) all.1)
  where
    by : (spot ≡ entry.0) ⊎ (same_spot spot entry.0 ≡ false) → (found_at entries spot ≡ Some operation → P spot) → P spot
    by (inl same) rest = subst P (sym (same ∙ first_same entry.0 (spot_of span) (keys_of entries) (map spot_of spans) keys)) all.0
    by (inr apart) rest = rest (sym (ap (λ b. cond b (Some entry.1) (found_at entries spot)) apart) ∙ at)

lone_loose : (found : Option Info) → Lone found → Loose found
lone_loose None lone = tt
lone_loose (Some (info.Operation ty component is_local)) lone = tt
lone_loose (Some (info.Value typed)) lone = tt
lone_loose (Some (info.«Type» ty)) lone = lone
lone_loose (Some (info.Enumeration number literals)) lone = lone
lone_loose (Some (info.Record fields)) lone = lone
lone_loose (Some (info.OpType ty)) lone = tt
lone_loose (Some (info.Component ty)) lone = lone

same_component : (a b : Ty) → Some (info.Component a) ≡ Some (info.Component b) → a ≡ b
same_component a b e = cc

module _ (specs : Specs) (files : List File) (facts : Facts) (uses : Meanings) (kept : facts.uses ≡ uses) (apart : Apart files) (headed : ErrorFree (heads_found uses specs files))
    (distinct : IsDistinct same_spot (map spot_of (flat_map file_names files))) where
  abbrev all : List Component
  all = components_in files

  abbrev pub known : Facts
  known = program_known uses specs files

  abbrev pub shapes : Shapes
  shapes = (tables files facts).shapes

  abbrev pub heads : Heads
  heads = heads_of facts shapes all

  abbrev pub procs : List Spot
  procs = served_spots facts all

  abbrev pub entries : List (Spot × Operation)
  entries = table facts shapes heads procs files apart

  abbrev Meeting : Meets
  Meeting = Headed all procs entries

  keys : keys_of entries ≡ map spot_of (flat_map operation_spans files)
  keys = ap keys_of (table_is facts shapes heads procs files apart) ∙ all_keys facts shapes heads procs files apart

  free : NamesFree (NoOperation entries) files
  free = names_free entries files keys distinct

  -- ---- what is kept

  abbrev pub Free : Spot → Type 0
  Free spot = NoOperation entries spot × Loose (info_at known.infos spot)

  abbrev Fit : Spot → Type 0
  Fit spot = Loose (info_at known.infos spot)

  abbrev Other : Facts → Type 0
  Other now = OnlyOperations entries now × (Same known now × KeepsNumbers known.signatures now.signatures)

  pub code_is_free : Names Free (flat_map component_code_plain all)
  code_is_free =
      both_each (λ span. NoOperation entries (spot_of span)) (λ span. Loose (info_at known.infos (spot_of span))) (flat_map component_code_plain all) free.code
      (components_among (λ span. Loose (info_at known.infos (spot_of span))) all (code_free uses specs files distinct))

  other_closed : Closed Other Free Fit
  other_closed = record {
    entered = λ now signature h. (
      h.0,
      (same_signatures known now signature h.1.0, λ number kept at. insert_key-keeps equal_signatures now.signatures signature number kept (h.1.1 number kept at)),
    );
    put = λ now spot typed free h. ((only_closed entries).put now spot typed free.0 h.0, (same_with known now spot (info.Value typed) free.1 tt h.1.0, h.1.1));
    operation = λ now spot ty component is_local fit h. ((only_closed entries).operation now spot ty component is_local tt h.0, (same_with known now spot (info.Operation ty component is_local) fit tt h.1.0, h.1.1));
  }

  abbrev pub Between : Facts → Type 0
  Between now = (Plain Meeting uses now × OptypesHeaded heads now) × Other now

  pub between_first : Between known
  between_first =
      let optypes = optypes_known uses specs files facts shapes headed distinct in
      ((known_headed uses specs files facts kept shapes heads procs apart headed optypes, optypes), (only_known entries uses specs files free.declared, (same_self known, λ number signature at. at)))

  -- ---- in a component

  module _ (number : ℕ) (tree : Component) where
    abbrev pub Opened : DeclaredOperation → Type 0
    Opened = Among (component_opened facts shapes heads tree)

    abbrev pub Within : Facts → Type 0
    Within now = Holding uses files facts kept shapes heads procs apart (component_at tree) now × Other now

    -- what the table has of an operation
    pub entry_of : (there : At all number tree) (one : DeclaredOperation) → Opened one → (operation : Operation) × ((found_at entries (spot_named one.name) ≡ Some operation) × (operation_of procs number one ≡ operation))
    entry_of there one among =
        let put = put_opened facts shapes heads procs files apart number tree one (spot_named one.name) (component_at tree) (is_own one.scope) there among refl in (
          put.operation,
          (
            subst (λ known. found_at known (spot_named one.name) ≡ Some put.operation) (sym (table_is facts shapes heads procs files apart)) put.found,
            put_operation facts shapes heads procs files apart number tree one (spot_named one.name) (component_at tree) (is_own one.scope) there among refl,
          ),
        )

    fits : (there : At all number tree) (one : DeclaredOperation) → Opened one → Fit (spot_named one.name)
    fits there one among = let entry = entry_of there one among in lone_loose (info_at known.infos (spot_named one.name)) (between_first.1.0 (spot_named one.name) entry.0 entry.1.0)

    others : (there : At all number tree) → KeptIn (inner_opened facts shapes heads) Other Free Opened
    others there = closed_in facts shapes heads Other Free Fit other_closed Opened (fits there)

    pub within_kept : (there : At all number tree) → KeptIn (inner_opened facts shapes heads) Within Free Opened
    within_kept there =
        let other = others there in
        let component = component_at tree in
        record {
          by = record {
            entered = λ now signature h. ((sound_signatures Meeting uses component now signature h.0.0, optypes_signatures heads now signature h.0.1), other.by.entered now signature h.1);
            service = λ formals returned type now free free_returned h.
                (holding_service uses files facts kept shapes heads procs apart component formals returned type now h.0, other.by.service formals returned type now free free_returned h.1);
            quantifiers = λ quantifiers now free h. (holding_quantifiers uses files facts kept shapes heads procs apart component quantifiers now h.0, other.by.quantifiers quantifiers now free h.1);
            statement = λ tree free context h. (holding_statement uses files facts kept shapes heads procs apart component tree context h.0, other.by.statement tree free context h.1);
            block_item = λ tree free context h. (holding_block_item uses files facts kept shapes heads procs apart component tree context h.0, other.by.block_item tree free context h.1);
            branch = λ tree free context h. (holding_branch uses files facts kept shapes heads procs apart component tree context h.0, other.by.branch tree free context h.1);
            arm = λ tree free span context h. (holding_arm uses files facts kept shapes heads procs apart component tree span context h.0, other.by.arm tree free span context h.1);
            co_arm = λ tree free span context h. (holding_co_arm uses files facts kept shapes heads procs apart component tree span context h.0, other.by.co_arm tree free span context h.1);
          };
          inner = λ one free opened context types h whole. (local_headed uses files facts kept shapes heads procs apart number tree there one context opened types h.0 whole, other.inner one free opened context types h.1 whole);
          signed = λ signature now free h. (holding_signed_declared uses files facts kept shapes heads procs apart component (signature_read signature now).signed now h.0, other.signed signature now free h.1);
          formal_quantifiers = λ quantifiers now free h. (holding_formal_quantifiers uses files facts kept shapes heads procs apart component quantifiers now h.0, other.formal_quantifiers quantifiers now free h.1);
        }

  pub standing_same : (now : Facts) (component : Component) → Same known now → Same known (standing now (component_decl component))
  standing_same now component same = record {
    forth = record { uses = same.forth.uses; infos = same.forth.infos };
    back = record { uses = same.back.uses; infos = same.back.infos };
  }

  abbrev pub between : (tree : Component) (there : Among all tree) → KeptBetween facts shapes heads Between Free tree
  between tree there = record {
    Q = Within there.0 tree;
    Opened = Opened there.0 tree;
    kept = within_kept there.0 tree there.1;
    opened = all_among (component_opened facts shapes heads tree);
    enters = λ now h. ((standing_sound Meeting uses now tree h.0.0, h.0.1), (h.1.0, (standing_same now tree h.1.1.0, h.1.1.1)));
    leaves = λ now h. ((h.0.0.1, h.0.1), h.1);
  }

  -- ---- in the end

  module _ (whole : ErrorFree (components_read all known).found) (types : FreeComponents all known) (final : facts ≡ (components_read all known).facts) where
    last : Between facts
    last = subst Between (sym final) (keeps_components facts shapes heads Between Free (Among all) between all (all_among all) known code_is_free types between_first whole)

    spot_known : (spot : Spot) (operation : Operation) → found_at entries spot ≡ Some operation → Has spot facts
    spot_known spot operation at =
        let declared = components_declare all known (outer_headed known all (files_each known files headed)) in
        let here : HasAll facts (flat_map operation_spans files) =
        subst (HasAll facts) (parts_of_parts (λ (file : File). file.components) component_operations files) (subst (λ now. HasAll now (flat_map component_operations all)) (sym final) declared) in
        found_has (λ (at : Spot). Has at facts) spot operation entries (flat_map operation_spans files) keys here at

    at_end : (spot : Spot) (operation : Operation) (found : Option Info) → found_at entries spot ≡ Some operation → info_at facts.infos spot ≡ found → is_some found ≡ true → Lone found
        → (ty : Ty) × ((component : Spot) × ((is_local : Bool) × ((info_at facts.infos spot ≡ Some (info.Operation ty component is_local)) × (HasHead facts.signatures operation ty × (slice_get (things_in entries) (number_in (keys_of entries) spot) ≡ Some operation)))))
    at_end spot operation None at is has lone = absurd (false≢true has)
    at_end spot operation (Some (info.Operation ty component is_local)) at is has lone =
        let headed : IsHeaded all procs entries facts.signatures spot ty component is_local = known_now Meeting facts last.0.0.1 spot ty component is_local is in
        let same : headed.entered.operation ≡ operation = same_Some headed.entered.operation operation (sym headed.entered.found ∙ at) in
        (ty, (component, (is_local, (is, (subst (λ one. HasHead facts.signatures one ty) same headed.head, headed.entered.numbered ∙ ap Some same)))))
    at_end spot operation (Some (info.Value typed)) at is has lone = absurd lone
    at_end spot operation (Some (info.«Type» ty)) at is has lone = absurd lone
    at_end spot operation (Some (info.Enumeration number literals)) at is has lone = absurd lone
    at_end spot operation (Some (info.Record fields)) at is has lone = absurd lone
    at_end spot operation (Some (info.OpType ty)) at is has lone = absurd lone
    at_end spot operation (Some (info.Component ty)) at is has lone = absurd lone

    abbrev pub scene : ℕ → Component → Scene
    scene number component = scene_of facts (tables files facts) (imports files facts) number component

    pub ends : (number : ℕ) (component : Component) → AllAtEnd (scene number component)
    ends number component spot operation at =
        let end = at_end spot operation (info_at facts.infos spot) at refl (spot_known spot operation at) (last.1.0 spot operation at) in
        record { numbered = end.1.1.1.1.1; ty = end.0; component = end.1.0; is_local = end.1.1.0; known = end.1.1.1.0; head = end.1.1.1.1.0 }

    head_here : (place : ℕ) (tree : Component) (now : Facts) → Within place tree now → (spot : Spot) (operation : Operation) (found : Info) → found_at entries spot ≡ Some operation → info_at now.infos spot ≡ Some found → Lone (Some found)
        → IsHead now.signatures operation found
    head_here place tree now h spot operation (info.Operation ty component is_local) at is lone =
        let headed : IsHeaded all procs entries now.signatures spot ty component is_local = known_now Meeting now h.0.0.1.1 spot ty component is_local is in
        subst (λ one. HasHead now.signatures one ty) (same_Some headed.entered.operation operation (sym headed.entered.found ∙ at)) headed.head
    head_here place tree now h spot operation (info.Value typed) at is lone = lone
    head_here place tree now h spot operation (info.«Type» ty) at is lone = lone
    head_here place tree now h spot operation (info.Enumeration number literals) at is lone = lone
    head_here place tree now h spot operation (info.Record fields) at is lone = lone
    head_here place tree now h spot operation (info.OpType ty) at is lone = lone
    head_here place tree now h spot operation (info.Component ty) at is lone = lone

    pub stays : (number : ℕ) (place : ℕ) (tree : Component) (now : Facts) → Within place tree now → Stay (scene number tree).facts now
    stays number place tree now h =
        let stay = stay_through facts known now last.1.1.0.back h.1.1.0.forth in
        record { uses = stay.uses; infos = stay.infos }

    -- what is known in code is known in the end
    pub grows : (number : ℕ) (place : ℕ) (tree : Component) (now : Facts) → Within place tree now → Ending (scene number tree).facts now → Grows now (scene number tree).facts
    grows number place tree now h ending = grown known now (scene number tree).facts h.1.1.0 (standing_same facts tree last.1.1.0) h.0.0.0 ending.stays ending.leads

    pub heads_here : (place : ℕ) (tree : Component) (now : Facts) → Within place tree now → (spot : Spot) (operation : Operation) (found : Info) → found_at entries spot ≡ Some operation → info_at now.infos spot ≡ Some found
        → IsHead now.signatures operation found
    heads_here place tree now h spot operation found at is = head_here place tree now h spot operation found at is (subst Lone is (h.1.0 spot operation at))

    -- what is made of a component has an argument for each formal
    pub counted : (place : ℕ) (tree : Component) (now : Facts) → Within place tree now → (outline : Facts) (component : Component) → Among all component → (ty : Ty) (arguments : List TypedExpr)
        → info_at now.infos (component_at component) ≡ Some (info.Component ty) → takes_as_many now.signatures ty arguments ≡ true → length arguments ≡ length (parameters_of outline shapes (formals_of component))
    counted place tree now h outline component there ty arguments is takes =
        let made = making_headed uses specs files outline shapes headed distinct there.0 component there.1 in
        let before : info_at known.infos (component_at component) ≡ Some (info.Component ty) = subst (λ found. StaysInfo found (info_at known.infos (component_at component))) is (h.1.1.0.back.infos (component_at component)) in
        let same : made.ty ≡ ty = same_component made.ty ty (sym made.info ∙ before) in
        let at : signature_of now.signatures ty ≡ Some made.signature =
        layer_stays known.signatures now.signatures (out-Ty ty) made.signature h.1.1.1 (subst (λ one. signature_of known.signatures one ≡ Some made.signature) same made.at) in
        sym (as_many_same made.signature.params arguments (ap (λ found. takes_by found (is_no_type ty) arguments) (sym at) ∙ takes)) ∙ made.params

    pub in_table : (number : ℕ) (place : ℕ) (tree : Component) → At all place tree → (one : DeclaredOperation) → Opened place tree one → InTable (scene number tree) one
    in_table number place tree there one among =
        let entry = entry_of place tree there one among in
        record { operation = entry.0; at = entry.1.0; parameters = ap (λ (operation : Operation). operation.parameters) (sym entry.1.1); can_send = ap (λ (operation : Operation). operation.can_send) (sym entry.1.1) }

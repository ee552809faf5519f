-- In a block, where the types are known that are known before code is read, each operation is known by the type that its head
-- makes, if no rule is broken in its head, and so is each semaphore.
use Rattle.std.proofs.Common.{◌≡◌, inl, inr, ℕ, true, false, List, [], ◌∷◌, ◌++◌, flat_map, Option, Some, None, is_some, refl, sym, ap, subst, ◌∙◌}
use Rattle.sr_check.specs.ErrorFree.{ErrorFree}
use Rattle.sr_check.proofs.Each.{Each, each-right}
use Rattle.sr_check.proofs.Entered.{keeps_ops, keeps_signature}
use Rattle.sr_check.proofs.ErrorFree.{error_free_both, error_free_first, error_free_second, rule_met}
use Rattle.sr_check_decl.specs.Declarations.{op_found, ops_found}
use Rattle.sr_check_decl.specs.Declaring.{op_item_name, op_type, operation, ops_declared, optype_of, or_untyped, semaphore_signature, sems_declared}
use Rattle.sr_check_decl.specs.Entering.{entered, op_entered, ops_entered, signature_entered}
use Rattle.sr_front.proofs.Known.FreeBlocks.{FreeOps}
use Rattle.sr_front.proofs.Headed.Heads.{declared_type, head_found, ops_headed, sems_headed}
use Rattle.sr_check_decl.specs.TypeTrees.{named_decl, operation_type}
use Rattle.sr_check_decl.specs.Variables.{declare}
use Rattle.sr_check_expr.specs.declared.facts.Facts.{Facts}
use Rattle.sr_check_expr.specs.declared.info.Info.{Info}
use Rattle.sr_check_expr.specs.declared.info.Info.TheVariants as info
use Rattle.sr_check_expr.specs.Infos.{info_at}
use Rattle.sr_check_expr.specs.Naming.{decl_info}
use Rattle.sr_names.specs.declared.finding.Rule.TheVariants.{BadType}
use Rattle.sr_names.specs.declared.spot.Spot.{Spot}
use Rattle.sr_names.specs.Spots.{same_spot, spot_of}
use Rattle.sr_names.proofs.Marking.{entry-same}
use Rattle.sr_order.specs.Names.{op_item_names, semaphore_names}
use Rattle.sr_tree.specs.declared.declaration.OpItem.{OpItem}
use Rattle.sr_tree.specs.declared.declaration.OpItem.TheVariants.{Signed, Typed}
use Rattle.sr_tree.specs.declared.declaration.Semaphore.{Semaphore}
use Rattle.sr_types.specs.declared.ty.Ty.{Ty}
use Rattle.sr_types.specs.Signatures.{number_of}
use Rattle.sr_value.specs.declared.place.Span.{Span}
use Rattle.sr_front.proofs.Headed.HeadMade.{HasNumber, WrittenMade, head_none, operation_made, written_made}
use Rattle.sr_front.proofs.Known.KeptAll.{keeps_ops_declared, keeps_sems_declared}
use Rattle.sr_front.proofs.Known.KeptNames.{Anywhere, anywhere}
use Rattle.sr_front.proofs.Headed.OpsPass.{OptypesSigned, later_operation, numbered_by, op_before, op_keeps, optype_part}
use Rattle.sr_front.proofs.Lists.Rising.{BeforeAll, IsBefore, Rises, before_away, rises_right}
use Rattle.sr_front.proofs.Known.ThenKnown.{counts_keeps, info_keeps}
use Rattle.sr_front.proofs.Typed.Typed.{FoundTyped}
use Rattle.sr_front.proofs.Typed.TypedProcs.{ops_later}
use Rattle.sr_front.proofs.Typed.TypedTypes.{Counts, InfosTyped, Later, agrees_later, counts_itself, entered_later, entered_number, infos_stay, later_itself, later_through, same_by, signature_uses, type_part}

-- ---- what is known of types

whole_optype : (found : Option Info) (type : Ty) → type_part found ≡ Some (info.OpType type) → found ≡ Some (info.OpType type)
whole_optype (Some (info.OpType one)) type e = e
whole_optype (Some _) type e = absurd cc
whole_optype None type e = absurd cc

pub optypes_later : (known now : Facts) → Later known now → OptypesSigned known → OptypesSigned now
optypes_later known now later signed spot type is =
    let has = signed spot type (whole_optype (info_at known.infos spot) type (sym (later.types spot) ∙ ap type_part is)) in
    record { number = has.number; signature = has.signature; is = has.is; at = later.numbers has.signature has.number has.at }

pub infos_later : (known now : Facts) → Later known now → InfosTyped known → InfosTyped now
infos_later known now later typed spot = subst FoundTyped (sym (later.types spot)) (typed spot)

-- ---- operations of a block: they are made one after the other, and looked at when all are declared

module _ (last : Facts) (optypes : OptypesSigned last) where
  -- it has a signature where no rule is broken in its head, and is made as it is looked at
  record LocalMade (before : Facts) (op : OpItem) : Type 0 where
    has : ErrorFree (op_found last op) → HasNumber last (op_type last op)
    same : ErrorFree (op_found last op) → (made : Facts) → Later before made → op_type made op ≡ op_type last op

  local_made : (op : OpItem) (now before : Facts) → InfosTyped now → Later (op_entered op now) before → Later before last → LocalMade before op
  local_made (Signed span name tree) now before typed first after = record { has = λ whole. (made whole before (later_itself before)).has; same = λ whole facts later. (made whole facts later).same }
    where
      entering : Facts
      entering = signature_entered tree now

      now_last : Later now last
      now_last = later_through now before last (later_through now entering before (keeps_signature (Later now) (entered_later now) tree now (later_itself now)) first) after

      made : ErrorFree (op_found last (Signed span name tree)) → (facts : Facts) → Later before facts → WrittenMade tree facts last
      made whole facts later =
          let agree = agrees_later (signature_uses tree) now last now_last in
          let counts = (later_through entering before last first after).numbers in
          written_made tree now facts last last typed (later_through entering before facts first later) agree counts whole agree counts
  local_made (Typed span name optype) now before typed first after = record {
    has = λ whole. numbered_by last optypes (named_decl last optype) (rule_met (is_some (optype_of (decl_info last.infos (named_decl last optype)))) BadType span whole);
    same = λ whole facts later.
        ap or_untyped
        (same_by (λ decl one. optype_of one) (λ decl one. optype_part one) before facts later optype ∙ sym (same_by (λ decl one. optype_of one) (λ decl one. optype_part one) before last after optype));
  }

  each_local : (ops : List OpItem) (now : Facts) → InfosTyped now → Later (ops_entered ops now) last → Each (LocalMade (ops_entered ops now)) ops
  each_local [] now typed after = tt
  each_local (op ∷ ops) now typed after =
      let first = op_entered op now in (
        local_made op now (ops_entered ops first) typed (keeps_ops (Later first) (entered_later first) ops first (later_itself first)) after,
        each_local ops first (op_keeps InfosTyped infos_stay op now typed) after,
      )

  locals_headed : (before : Facts) (ops : List OpItem) (made : Facts) → Later before made → Each (LocalMade before) ops → FreeOps ops before → Rises (flat_map op_item_names ops) → ops_declared true ops made ≡ last
      → ErrorFree (ops_found last ops) → ErrorFree (ops_headed last ops)
  locals_headed before [] made later each free rising is whole = tt
  locals_headed before (op ∷ ops) made later each free rising is whole =
      error_free_both (head_found last (op_item_name op) (op_type last op)) (ops_headed last ops) (subst ErrorFree (sym (headed (error_free_first (op_found last op) _ whole))) tt)
      (locals_headed before ops after (later_operation before made spot (op_type made op) made.here.component.spot true (free spot (inl refl)) later) each.1 (λ at there. free at (inr there))
      (rises_right (op_item_names op) more rising) is (error_free_second (op_found last op) _ whole))
    where
      more : List Span
      more = flat_map op_item_names ops

      spot : Spot
      spot = spot_of (op_item_name op).span

      one : Info
      one = operation made true (op_type made op)

      after : Facts
      after = declare made spot one

      known_is : info_at last.infos spot ≡ Some one
      known_is =
          subst (λ facts. info_at facts.infos spot ≡ Some one) is
          (keeps_ops_declared (λ facts. info_at facts.infos spot ≡ Some one) (λ at. same_spot spot at ≡ false) (info_keeps spot one) true ops after (before_away spot more (op_before op more rising)) (entry-same made.infos spot one))

      headed : ErrorFree (op_found last op) → head_found last (op_item_name op) (op_type last op) ≡ []
      headed whole = head_none last (op_item_name op) (op_type last op) (op_type made op) (each.0.has whole) (each.0.same whole made later) (ap declared_type known_is)

-- the operations of a block
pub local_ops_headed : (ops : List OpItem) (now : Facts) → InfosTyped now → OptypesSigned now → FreeOps ops (ops_entered ops now) → Rises (flat_map op_item_names ops)
    → ErrorFree (ops_found (ops_declared true ops (ops_entered ops now)) ops) → ErrorFree (ops_headed (ops_declared true ops (ops_entered ops now)) ops)
local_ops_headed ops now typed optypes free rising whole =
    let before = ops_entered ops now in
    let last = ops_declared true ops before in
    let later = ops_later ops before free in
    let first : Later now before = keeps_ops (Later now) (entered_later now) ops now (later_itself now) in
    let signed = optypes_later now last (later_through now before last first later) optypes in
    locals_headed last signed before ops before (later_itself before) (each_local last signed ops now typed later) free rising refl whole

-- ---- semaphores of a block

sems_same : (last : Facts) (semaphores : List Semaphore) (now : Facts) → Rises (flat_map semaphore_names semaphores) → sems_declared true semaphores now ≡ last → sems_headed last semaphores ≡ []
sems_same last [] now rising is = refl
sems_same last (semaphore ∷ semaphores) now rising is =
    ap (λ found. found ++ sems_headed last semaphores) (head_none last semaphore.name (operation_type last semaphore_signature) (operation_type before semaphore_signature) made.0 made.1 (ap declared_type known_is))
    ∙ sems_same last semaphores after (rises_right (semaphore_names semaphore) more rising) is
  where
    more : List Span
    more = flat_map semaphore_names semaphores

    spot : Spot
    spot = spot_of semaphore.name.span

    before : Facts
    before = entered semaphore_signature now

    one : Info
    one = operation before true (operation_type before semaphore_signature)

    after : Facts
    after = declare before spot one

    before_more : BeforeAll spot more
    before_more = each-right (λ span. IsBefore spot (spot_of span)) _ more rising.0

    number : (n : ℕ) × (number_of before.signatures semaphore_signature ≡ Some n)
    number = entered_number now.signatures semaphore_signature

    counts : Counts before last
    counts = subst (Counts before) is (keeps_sems_declared (Counts before) Anywhere (counts_keeps before) true semaphores after (anywhere more) (counts_itself before))

    made : HasNumber last (operation_type last semaphore_signature) × (operation_type before semaphore_signature ≡ operation_type last semaphore_signature)
    made = operation_made semaphore_signature before before last number.0 number.1 (counts_itself before) counts

    known_is : info_at last.infos spot ≡ Some one
    known_is =
        subst (λ facts. info_at facts.infos spot ≡ Some one) is
        (keeps_sems_declared (λ facts. info_at facts.infos spot ≡ Some one) (λ at. same_spot spot at ≡ false) (info_keeps spot one) true semaphores after (before_away spot more before_more) (entry-same before.infos spot one))

pub local_sems_headed : (semaphores : List Semaphore) (now : Facts) → Rises (flat_map semaphore_names semaphores) → ErrorFree (sems_headed (sems_declared true semaphores now) semaphores)
local_sems_headed semaphores now rising = subst ErrorFree (sym (sems_same (sems_declared true semaphores now) semaphores now rising refl)) tt

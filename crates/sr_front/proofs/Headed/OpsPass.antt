-- Each operation and semaphore that is declared outside of blocks is known in the end by the type that its head makes then, and
-- this type has a signature.
use Rattle.std.proofs.Common.{◌≡◌, inl, inr, Bool, true, false, List, [], ◌∷◌, ◌++◌, append_assoc, flat_map, map, Option, Some, None, is_some, Ok, refl, sym, ap, subst, ◌∙◌}
use Rattle.std.specs.List.{IsDistinct}
use Rattle.std.proofs.lemmas.Bool.{false≢true}
use Rattle.sr_check.specs.ErrorFree.{ErrorFree}
use Rattle.sr_check.proofs.Each.{Each, each-left, each-right}
use Rattle.sr_check.proofs.Entered.{keeps_ops, keeps_signature}
use Rattle.sr_check.proofs.ErrorFree.{error_free_both, error_free_first, error_free_second, rule_met}
use Rattle.sr_check_decl.specs.Declarations.{op_found, ops_found}
use Rattle.sr_check_decl.specs.Declaring.{op_item_name, op_type, operation, ops_declared, optype_of, or_untyped}
use Rattle.sr_check_decl.specs.Entering.{entered, op_entered, ops_entered, signature_entered}
use Rattle.sr_front.proofs.Headed.Heads.{declared_type, head_found, ops_headed}
use Rattle.sr_check_decl.specs.TypeTrees.{named_decl}
use Rattle.sr_check_decl.specs.Variables.{declare}
use Rattle.sr_check_expr.specs.declared.facts.Facts.{Facts}
use Rattle.sr_check_expr.specs.declared.info.Info.{Info}
use Rattle.sr_check_expr.specs.declared.info.Info.TheVariants as info
use Rattle.sr_check_expr.specs.Infos.{info_at}
use Rattle.sr_check_expr.specs.Naming.{decl_info}
use Rattle.sr_names.specs.declared.finding.Rule.TheVariants.{BadType}
use Rattle.sr_names.specs.declared.meaning.Decl.{Decl}
use Rattle.sr_names.specs.declared.spot.Spot.{Spot}
use Rattle.sr_names.specs.Specs.{Specs}
use Rattle.sr_names.specs.Spots.{same_spot, spot_of}
use Rattle.sr_names.proofs.Marking.{entry-same}
use Rattle.sr_order.specs.Names.{file_names, op_item_names, qualified_names, signature_names}
use Rattle.sr_scope.specs.declared.program.Names.{Names}
use Rattle.sr_scope.specs.Resolved.{resolved}
use Rattle.sr_tree.specs.declared.component.Component.{Component}
use Rattle.sr_tree.specs.declared.component.File.{File}
use Rattle.sr_tree.specs.declared.declaration.OpItem.{OpItem}
use Rattle.sr_tree.specs.declared.declaration.OpItem.TheVariants.{Signed, Typed}
use Rattle.sr_tree.specs.declared.name.QualifiedName.{QualifiedName}
use Rattle.sr_tree.specs.Parts.{name_of}
use Rattle.sr_types.specs.declared.signature.Signature.{Signature}
use Rattle.sr_types.specs.declared.ty.Ty.{Ty}
use Rattle.sr_value.specs.declared.place.Span.{Span}
use Rattle.sr_front.proofs.Own.DeclaredIn.{Stands}
use Rattle.sr_front.proofs.Known.FilesInOrder.{final}
use Rattle.sr_front.proofs.Headed.HeadMade.{HasNumber, WrittenMade, head_free, written_made}
use Rattle.sr_front.proofs.Known.ItemsInOrder.{Same}
use Rattle.sr_front.proofs.Known.KeptAll.{LeadsAll, keeps_ops_declared}
use Rattle.sr_front.proofs.Headed.OptypesPass.{Ending, OwnBefore, last, last_ends, stays_known}
use Rattle.sr_front.proofs.Lists.Put.{put_holds}
use Rattle.sr_front.proofs.Lists.Rising.{BeforeAll, IsBefore, Rises, before_away, rises_right}
use Rattle.sr_front.proofs.Known.ThenKnown.{counts_known, info_keeps}
use Rattle.sr_front.proofs.Typed.TypedTypes.{Counts, InfosTyped, Later, counts_through, entered_later, infos_stay, later_itself, later_through, same_by, signature_uses, type_part}
use Rattle.sr_front.proofs.Known.TypeSites.{agrees_each, end_uses, part_at, told_same}
use Rattle.sr_front.proofs.Names.UsesAmong.{named_uses, uses_of_signature}
use Rattle.sr_order.specs.Spans.{op_item_span}

-- ---- the name of a type of operations

pub optype_part : (found : Option Info) → optype_of found ≡ optype_of (type_part found)
optype_part None = refl
optype_part (Some (info.OpType type)) = refl
optype_part (Some _) = refl

-- each type of operations that is known has a signature
abbrev pub OptypesSigned : Facts → Type 0
OptypesSigned facts = (spot : Spot) (type : Ty) → info_at facts.infos spot ≡ Some (info.OpType type) → HasNumber facts type

pub numbered_by : (facts : Facts) → OptypesSigned facts → (decl : Option Decl) → is_some (optype_of (decl_info facts.infos decl)) ≡ true → HasNumber facts (or_untyped (optype_of (decl_info facts.infos decl)))
numbered_by facts optypes None is = absurd (false≢true is)
numbered_by facts optypes (Some decl) is = by (info_at facts.infos decl.spot) refl is
  where
    by : (found : Option Info) → info_at facts.infos decl.spot ≡ found → is_some (optype_of found) ≡ true → HasNumber facts (or_untyped (optype_of found))
    by (Some (info.OpType type)) at h = optypes decl.spot type at
    by _ at h = absurd (false≢true h)

-- what is kept where signatures are entered
pub op_keeps : (P : Facts → Type 0) → ((facts : Facts) (signature : Signature) → P facts → P (entered signature facts)) → (op : OpItem) (now : Facts) → P now → P (op_entered op now)
op_keeps P steady (Signed span name tree) now h = keeps_signature P steady tree now h
op_keeps P steady (Typed span name optype) now h = h

-- where no type is known an operation may be declared
pub later_operation : (before facts : Facts) (spot : Spot) (type : Ty) (component : Spot) (is_local : Bool) → part_at before spot ≡ None → Later before facts → Later before (declare facts spot (info.Operation type component is_local))
later_operation before facts spot type component is_local nothing later = record {
  uses = later.uses;
  types = λ at. put_holds facts spot (info.Operation type component is_local) (λ other found. type_part found ≡ part_at before other) (sym nothing) at (λ apart. later.types at);
  numbers = later.numbers;
}

pub op_place : (op : OpItem) → spot_of (op_item_span op) ≡ spot_of (op_item_name op).span
op_place (Signed span name signature) = refl
op_place (Typed span name optype) = refl

pub op_before : (op : OpItem) (more : List Span) → Rises (op_item_names op ++ more) → BeforeAll (spot_of (op_item_name op).span) more
op_before (Signed span name signature) more rising = each-right (λ other. IsBefore (spot_of name.span) (spot_of other)) (signature_names signature) more rising.0
op_before (Typed span name optype) more rising = each-right (λ other. IsBefore (spot_of name.span) (spot_of other)) (qualified_names optype) more rising.0

op_first : (P : Span → Type 0) (op : OpItem) → Each P (op_item_names op) → P (op_item_name op).span
op_first P (Signed span name signature) each = each.0
op_first P (Typed span name optype) each = each.0

module _ (files : List File) (names : Names) (named : resolved files ≡ Ok names) (distinct : IsDistinct same_spot (map spot_of (flat_map file_names files))) (rises : Rises (flat_map file_names files)) (specs : Specs)
    (typed : InfosTyped (final files names named distinct rises specs)) where
  abbrev end : Facts
  end = final files names named distinct rises specs

  abbrev known : Facts
  known = last files names named distinct rises specs typed

  abbrev Ends : Facts → Type 1
  Ends = Ending files names named distinct rises specs typed

  abbrev ends_known : Ends known
  ends_known = last_ends files names named distinct rises specs typed

  abbrev Means : Facts → Facts → Span → Type 0
  Means = Same files names named distinct rises specs

  -- ---- operations

  -- the type of an operation is made where it is declared as in the end
  pub record OpMade (entered : Facts) (op : OpItem) : Type 0 where
    pub has : HasNumber known (op_type known op)
    pub same : (made : Facts) → Later entered made → op_type made op ≡ op_type known op

  module _ (optypes : OptypesSigned known) where
    -- what the name of a type of operations tells is the same
    told : (now later : Facts) → now.uses ≡ names.uses → later.uses ≡ names.uses → (optype : QualifiedName) → Each (Means now later) (qualified_names optype)
        → optype_of (decl_info later.infos (named_decl later optype)) ≡ optype_of (decl_info now.infos (named_decl now optype))
    told now later here there optype same =
        told_same files names named distinct rises specs (λ decl found. optype_of found) (λ decl found. optype_part found) now later here there optype (named_uses (Means now later) optype same).0

    op_made : (checked : Facts) → Ends checked → (op : OpItem) (now entered : Facts) → InfosTyped now → now.uses ≡ names.uses → Each (Means now checked) (op_item_names op) → Each (Means now known) (op_item_names op) → ErrorFree (op_found checked op)
        → Later (op_entered op now) entered → Counts entered checked → Counts entered known → OpMade entered op
    op_made checked ends (Signed span name tree) now entered all here same same_known whole later counts counts_known =
        let uses_checked = end_uses files names named distinct rises specs checked ends in
        let uses_known = end_uses files names named distinct rises specs known ends_known in
        let agree = agrees_each files names named distinct rises specs now checked here uses_checked (signature_uses tree) (uses_of_signature (Means now checked) tree same.1) in
        let agree_known = agrees_each files names named distinct rises specs now known here uses_known (signature_uses tree) (uses_of_signature (Means now known) tree same_known.1) in
        let first = signature_entered tree now in
        let made : (facts : Facts) → Later entered facts → WrittenMade tree facts known = λ facts more.
        written_made tree now facts checked known all (later_through first entered facts later more) agree (counts_through first entered checked later.numbers counts) whole agree_known (counts_through first entered known later.numbers counts_known) in
        record { has = (made entered (later_itself entered)).has; same = λ facts more. (made facts more).same }
    op_made checked ends (Typed span name optype) now entered all here same same_known whole later counts counts_known =
        let uses_checked = end_uses files names named distinct rises specs checked ends in
        let uses_known = end_uses files names named distinct rises specs known ends_known in
        let at_checked = told now checked here uses_checked optype same.1 in
        let at_known = told now known here uses_known optype same_known.1 in
        let found = optype_of (decl_info checked.infos (named_decl checked optype)) in
        record {
          has = numbered_by known optypes (named_decl known optype) (ap is_some (at_known ∙ sym at_checked) ∙ rule_met (is_some found) BadType span whole);
          same = λ made more. ap or_untyped (same_by (λ decl one. optype_of one) (λ decl one. optype_part one) now made (later_through now entered made later more) optype ∙ sym at_known);
        }

    pub each_op : (checked : Facts) → Ends checked → (ops : List OpItem) (now : Facts) → InfosTyped now → now.uses ≡ names.uses → Each (Means now checked) (flat_map op_item_names ops) → Each (Means now known) (flat_map op_item_names ops)
        → ErrorFree (ops_found checked ops) → Counts (ops_entered ops now) checked → Counts (ops_entered ops now) known → Each (OpMade (ops_entered ops now)) ops
    each_op checked ends [] now all here same same_known whole counts counts_known = tt
    each_op checked ends (op ∷ ops) now all here same same_known whole counts counts_known =
        let own = op_item_names op in
        let more = flat_map op_item_names ops in
        let first = op_entered op now in
        let after = ops_entered ops first in (
          op_made checked ends op now after all here (each-left (Means now checked) own more same) (each-left (Means now known) own more same_known) (error_free_first (op_found checked op) _ whole)
              (keeps_ops (Later first) (entered_later first) ops first (later_itself first)) counts counts_known,
          each_op checked ends ops first (op_keeps InfosTyped infos_stay op now all) (op_keeps (λ facts. facts.uses ≡ names.uses) (λ facts signature h. h) op now here)
              (op_keeps (λ facts. Each (Means facts checked) more) (λ facts signature h. h) op now (each-right (Means now checked) own more same))
              (op_keeps (λ facts. Each (Means facts known) more) (λ facts signature h. h) op now (each-right (Means now known) own more same_known)) (error_free_second (op_found checked op) _ whole) counts counts_known,
        )

    module _ (here : Component) (own : List Span) (own_before : OwnBefore files names named distinct rises specs typed here own) where
      pub ops_pass : (before : Facts) (ops : List OpItem) (made : Facts) → Later before made → Each (OpMade before) ops → (rest : List Span) → Rises (flat_map op_item_names ops ++ rest)
          → BeforeAll (spot_of (name_of here).span) (flat_map op_item_names ops) → LeadsAll (own ++ rest) (ops_declared false ops made) end
          → ((spot : Spot) → Stands spot (map op_item_span ops) → part_at before spot ≡ None) → ErrorFree (ops_headed known ops)
      ops_pass before [] made later each rest rising first leads nothing = tt
      ops_pass before (op ∷ ops) made later each rest rising first leads nothing =
          error_free_both (head_found known (op_item_name op) (op_type known op)) (ops_headed known ops)
          (head_free known (op_item_name op) (op_type known op) (op_type made op) each.0.has (each.0.same made later) (ap declared_type is))
          (ops_pass before ops after (later_operation before made spot (op_type made op) made.here.component.spot false (nothing spot (inl (op_place op))) later) each.1 rest (rises_right part (more ++ rest) rising_here)
          (each-right (λ span. IsBefore (spot_of (name_of here).span) (spot_of span)) part more first) leads (λ at stands. nothing at (inr stands)))
        where
          part : List Span
          part = op_item_names op

          more : List Span
          more = flat_map op_item_names ops

          spot : Spot
          spot = spot_of (op_item_name op).span

          one : Info
          one = operation made false (op_type made op)

          after : Facts
          after = declare made spot one

          rising_here : Rises (part ++ (more ++ rest))
          rising_here = subst Rises (append_assoc part more rest) rising

          before_more : BeforeAll spot (more ++ rest)
          before_more = op_before op (more ++ rest) rising_here

          is : info_at known.infos spot ≡ Some one
          is =
              stays_known files names named distinct rises specs typed here own own_before rest (ops_declared false ops after) spot one leads
              (op_first (λ span. IsBefore (spot_of (name_of here).span) (spot_of span)) op (each-left (λ span. IsBefore (spot_of (name_of here).span) (spot_of span)) part more first))
              (each-right (λ span. IsBefore spot (spot_of span)) more rest before_more)
              (keeps_ops_declared (λ facts. info_at facts.infos spot ≡ Some one) (λ at. same_spot spot at ≡ false) (info_keeps spot one) false ops after
              (before_away spot more (each-left (λ span. IsBefore spot (spot_of span)) more rest before_more)) (entry-same made.infos spot one))

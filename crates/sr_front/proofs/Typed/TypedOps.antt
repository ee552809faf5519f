-- Operations that a block declares have types with signatures, where no rule is broken.
use Rattle.std.proofs.Common.{◌≡◌, ◌⊎◌, inl, inr, ℕ, Bool, true, false, List, [], ◌∷◌, Some, is_some, IsTrue, refl, sym, ap, subst, ◌∙◌}
use Rattle.std.proofs.lemmas.Bool.{and_parts}
use Rattle.std.proofs.lemmas.Option.{none-some}
use Rattle.sr_names.specs.declared.finding.Rule.TheVariants.{BadType}
use Rattle.sr_names.specs.declared.spot.Spot.{Spot}
use Rattle.sr_names.specs.Spots.{same_spot, spot_of}
use Rattle.sr_names.proofs.Marking.{entry-same, entry-other, same_spot-cases}
use Rattle.sr_tree.specs.declared.declaration.OpItem.{OpItem}
use Rattle.sr_tree.specs.declared.declaration.Semaphore.{Semaphore}
use Rattle.sr_tree.specs.declared.name.Name.{Name}
use Rattle.sr_types.specs.declared.signature.Signature.{Signature}
use Rattle.sr_types.specs.declared.ty.Ty.{Ty, out-Ty}
use Rattle.sr_types.specs.declared.ty.Ty.TheOpen.{Ty-F}
use Rattle.sr_types.specs.declared.ty.Ty.TheVariants as ty
use Rattle.sr_types.specs.Decided.{type_decides}
use Rattle.sr_types.specs.Equality.{same_type}
use Rattle.sr_types.specs.Signatures.{layer_signature, signature_at, signature_of}
use Rattle.sr_types.proofs.Numbers.{number-found}
use Rattle.sr_check_expr.specs.declared.facts.Facts.{Facts}
use Rattle.sr_check_expr.specs.declared.info.Info.TheVariants as info
use Rattle.sr_check_expr.specs.Infos.{info_at}
use Rattle.sr_check_decl.specs.Declaring.{op_item_name, op_type, operation, ops_declared, semaphore_declared, semaphore_signature, sems_declared}
use Rattle.sr_check_decl.specs.Entering.{entered}
use Rattle.sr_front.proofs.Headed.Heads.{declared_type, head_found, is_known_as, is_of, ops_headed}
use Rattle.sr_check_decl.specs.TypeTrees.{numbered_type, operation_type}
use Rattle.sr_check_decl.specs.Variables.{declare}
use Rattle.sr_check.specs.ErrorFree.{ErrorFree}
use Rattle.sr_check.proofs.ErrorFree.{error_free_first, error_free_second, rule_met}
use Rattle.sr_front.proofs.Known.FreeBlocks.{OpAt}
use Rattle.sr_front.proofs.Headed.HeadCounts.{out-op}
use Rattle.sr_front.proofs.Lists.Options.{some_of}
use Rattle.sr_front.proofs.Typed.Typed.{AllTyped, FoundSigned, FoundTyped, IsTyped, layer_typed}
use Rattle.sr_front.proofs.Typed.TypedCode.{Good, HasSignature, signed_entered, signed_put}
use Rattle.sr_front.proofs.Typed.TypedDecls.{typed_put}
use Rattle.sr_front.proofs.Typed.TypedTypes.{entered_number, entered_typed}

-- ---- types with signatures

signed_layer : (signatures : List Signature) (signature : Signature) (layer : Ty-F Ty) → layer_signature signatures layer ≡ Some signature → IsTrue (layer_typed layer)
signed_layer signatures signature (Ty-F.Op number) at = refl
signed_layer signatures signature _ at = absurd (none-some signature at)

-- a type with a signature is a type
pub signed_is_typed : (facts : Facts) (type : Ty) → HasSignature facts type → IsTyped type
signed_is_typed facts type h = signed_layer facts.signatures h.0 (out-Ty type) h.1

-- an operation that is known by the type that its head makes has a signature
known_signed : (now : Facts) (name : Name) (type made : Ty) (component : Spot) (is_local : Bool) → IsTrue (is_known_as now name made) → info_at now.infos (spot_of name.span) ≡ Some (info.Operation type component is_local) → HasSignature now type
known_signed now name type made component is_local known is =
    let has = is_some (signature_of now.signatures made) in
    let same : IsTrue (same_type made type) = subst (λ found. IsTrue (is_of made (declared_type found))) is (and_parts has _ known).1 in
    let equal : made ≡ type = (type_decides made type).0 same in
    subst (HasSignature now) equal (some_of (signature_of now.signatures made) (and_parts has _ known).0)

-- ---- operations of a block

pub record IsOp (now : Facts) (spot : Spot) : Type 0 where
  pub type : Ty
  pub component : Spot
  pub is_local : Bool
  pub known : info_at now.infos spot ≡ Some (info.Operation type component is_local)

-- what is known at a spot is one of these, or what was known before
pub ops_cases : (ops : List OpItem) (facts : Facts) (spot : Spot) → (OpAt ops spot × IsOp (ops_declared true ops facts) spot) ⊎ (info_at (ops_declared true ops facts).infos spot ≡ info_at facts.infos spot)
ops_cases [] facts spot = inr refl
ops_cases (op ∷ ops) facts spot = by (ops_cases ops (declare facts (spot_of (op_item_name op).span) (operation facts true (op_type facts op))) spot) (same_spot-cases spot (spot_of (op_item_name op).span))
  where
    by : (OpAt ops spot × IsOp (ops_declared true ops (declare facts (spot_of (op_item_name op).span) (operation facts true (op_type facts op)))) spot)
        ⊎ (info_at (ops_declared true ops (declare facts (spot_of (op_item_name op).span) (operation facts true (op_type facts op)))).infos spot ≡ info_at (declare facts (spot_of (op_item_name op).span) (operation facts true (op_type facts op))).infos spot)
        → (spot ≡ spot_of (op_item_name op).span) ⊎ (same_spot spot (spot_of (op_item_name op).span) ≡ false)
        → (OpAt (op ∷ ops) spot × IsOp (ops_declared true (op ∷ ops) facts) spot) ⊎ (info_at (ops_declared true (op ∷ ops) facts).infos spot ≡ info_at facts.infos spot)
    by (inl there) cases = inl (inr there.0, there.1)
    by (inr same) (inl e) =
        let after = declare facts (spot_of (op_item_name op).span) (operation facts true (op_type facts op)) in
        inl (
          inl e,
          record {
            type = op_type facts op;
            component = facts.here.component.spot;
            is_local = true;
            known = same ∙ ap (λ s. info_at after.infos s) e ∙ entry-same facts.infos (spot_of (op_item_name op).span) (operation facts true (op_type facts op));
          },
        )
    by (inr same) (inr apart) = inr (same ∙ entry-other facts.infos (spot_of (op_item_name op).span) (operation facts true (op_type facts op)) spot apart)

pub ops_signatures : (ops : List OpItem) (facts : Facts) → (ops_declared true ops facts).signatures ≡ facts.signatures
ops_signatures [] facts = refl
ops_signatures (op ∷ ops) facts = ops_signatures ops (declare facts (spot_of (op_item_name op).span) (operation facts true (op_type facts op)))

-- each has a signature
heads_signed : (ops : List OpItem) (now : Facts) (spot : Spot) (type : Ty) (component : Spot) (is_local : Bool) → ErrorFree (ops_headed now ops) → OpAt ops spot → info_at now.infos spot ≡ Some (info.Operation type component is_local) → HasSignature now type
heads_signed [] now spot type component is_local whole there is = absurd there
heads_signed (op ∷ ops) now spot type component is_local whole (inl e) is =
    let made = op_type now op in
    let name = op_item_name op in
    known_signed now name type made component is_local (rule_met (is_known_as now name made) BadType name.span (error_free_first (head_found now name made) _ whole))
    (ap (λ s. info_at now.infos s) (sym e) ∙ is)
heads_signed (op ∷ ops) now spot type component is_local whole (inr there) is =
    heads_signed ops now spot type component is_local (error_free_second (head_found now (op_item_name op) (op_type now op)) _ whole) there is

-- where all that is known with the signatures of the heads is good, it is so with the operations
pub ops_good : (ops : List OpItem) (facts : Facts) → Good facts → ErrorFree (ops_headed (ops_declared true ops facts) ops) → Good (ops_declared true ops facts)
ops_good ops facts good whole = record {
  typed = record {
    infos = λ spot. typed spot (ops_cases ops facts spot);
    signatures = subst (λ signatures. (number : ℕ) → FoundSigned (signature_at signatures number)) (sym (ops_signatures ops facts)) good.typed.signatures;
  };
  signed = λ spot type component is_local is. signed spot type component is_local is (ops_cases ops facts spot);
}
  where
    typed : (spot : Spot) → (OpAt ops spot × IsOp (ops_declared true ops facts) spot) ⊎ (info_at (ops_declared true ops facts).infos spot ≡ info_at facts.infos spot) → FoundTyped (info_at (ops_declared true ops facts).infos spot)
    typed spot (inl there) =
        let is = there.1 in
        subst FoundTyped (sym is.known) (signed_is_typed (ops_declared true ops facts) is.type (heads_signed ops (ops_declared true ops facts) spot is.type is.component is.is_local whole there.0 is.known))
    typed spot (inr same) = subst FoundTyped (sym same) (good.typed.infos spot)

    signed : (spot : Spot) (type : Ty) (component : Spot) (is_local : Bool) → info_at (ops_declared true ops facts).infos spot ≡ Some (info.Operation type component is_local)
        → (OpAt ops spot × IsOp (ops_declared true ops facts) spot) ⊎ (info_at (ops_declared true ops facts).infos spot ≡ info_at facts.infos spot) → HasSignature (ops_declared true ops facts) type
    signed spot type component is_local is (inl there) = heads_signed ops (ops_declared true ops facts) spot type component is_local whole there.0 is
    signed spot type component is_local is (inr same) =
        subst (λ signatures. (signature : Signature) × (signature_of signatures type ≡ Some signature)) (sym (ops_signatures ops facts)) (good.signed spot type component is_local (sym same ∙ is))

-- ---- semaphores

same_op : (type : Ty) (component : Spot) (is_local : Bool) (other : Ty) (of : Spot) (other_local : Bool) → Some (info.Operation type component is_local) ≡ Some (info.Operation other of other_local) → type ≡ other
same_op type component is_local other of other_local e = cc

-- a semaphore may always be declared
pub semaphore_good : (name : Name) (facts : Facts) → Good facts → Good (semaphore_declared true name facts)
semaphore_good name facts good =
    let after = entered semaphore_signature facts in
    let spot = spot_of name.span in
    let number = entered_number facts.signatures semaphore_signature in
    let type = operation_type after semaphore_signature in
    let is : type ≡ ty.Op number.0 = ap numbered_type number.1 in
    let found : signature_at after.signatures number.0 ≡ Some semaphore_signature = number-found after.signatures semaphore_signature (Some number.0) (sym number.1) in
    let has : HasSignature after type = subst (HasSignature after) (sym is) (semaphore_signature, ap (layer_signature after.signatures) (out-op number.0) ∙ found) in
    let entering : AllTyped after = record { infos = good.typed.infos; signatures = entered_typed facts semaphore_signature (record { params = tt; returns = tt }) good.typed.signatures } in
    record {
      typed = typed_put after spot (operation after true type) (signed_is_typed after type has) entering;
      signed = signed_put after spot (operation after true type) (λ other component is_local e. subst (HasSignature after) (same_op type after.here.component.spot true other component is_local e) has) (signed_entered facts semaphore_signature good.signed);
    }

pub sems_good : (semaphores : List Semaphore) (facts : Facts) → Good facts → Good (sems_declared true semaphores facts)
sems_good [] facts good = good
sems_good (semaphore ∷ more) facts good = sems_good more (semaphore_declared true semaphore.name facts) (semaphore_good semaphore.name facts good)

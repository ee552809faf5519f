-- In an accepted program all that is known before any statement is looked at has a type, but for operations and components, where all that is declared has one: waves give types whose operations have signatures in the table.
use Rattle.std.proofs.Common.{◌≡◌, ℕ, suc, zero, Bool, true, false, List, [], ◌∷◌, flat_map, length, map, Option, Some, None, Ok, is_some, sym, ap, subst}
use Rattle.std.proofs.lemmas.Bool.{false≢true}
use Rattle.std.proofs.lemmas.Option.{same_Some}
use Rattle.std.specs.List.{IsDistinct, filter}
use Rattle.sr_check.specs.Checked.{first_refused}
use Rattle.sr_check_decl.specs.Declaring.{program_declared, standing}
use Rattle.sr_check_decl.specs.Inferring.{all_settled, can_settle, info_by, program_known, settled, waiting_info, wave, waves}
use Rattle.sr_check_decl.specs.Waiting.{Waiting, files_waiting}
use Rattle.sr_check_expr.specs.declared.facts.Facts.{Facts}
use Rattle.sr_check_expr.specs.declared.info.Info.{Info}
use Rattle.sr_check_expr.specs.declared.info.Info.TheVariants as info
use Rattle.sr_check_expr.specs.Creating.{component_type, resource_if, resource_type}
use Rattle.sr_check_expr.specs.Exprs.{infer_expr}
use Rattle.sr_check_expr.specs.Infos.{info_at}
use Rattle.sr_check_expr.specs.PredefinedCalls.{is_resource}
use Rattle.sr_names.specs.declared.meaning.Decl.{Decl}
use Rattle.sr_names.specs.Spots.{same_spot, spot_of}
use Rattle.sr_order.specs.Names.{file_names}
use Rattle.sr_scope.specs.declared.program.Names.{Names}
use Rattle.sr_scope.specs.Resolved.{resolved}
use Rattle.sr_tree.specs.declared.component.File.{File}
use Rattle.sr_types.specs.declared.signature.Signature.{Signature}
use Rattle.sr_types.specs.declared.ty.Ty.{Ty, out-Ty}
use Rattle.sr_types.specs.declared.ty.Ty.TheOpen.{Ty-F}
use Rattle.sr_types.specs.declared.typed.Typed.{Typed}
use Rattle.sr_front.proofs.Known.AlikeInside.{LayerHas}
use Rattle.sr_front.proofs.Constants.AllSettled.{known_is_inferred}
use Rattle.sr_front.proofs.Known.HalfKnown.{half_known}
use Rattle.sr_front.proofs.Typed.NumberedDeclared.{numbered_declared, value_numbered}
use Rattle.sr_front.proofs.Typed.NumberedGrows.{declared_numbered, standing_numbered}
use Rattle.sr_front.proofs.Typed.NumberedTypes.{AllNumbered, FoundNumbered, InfoNumbered, IsNumbered, layer_numbered, expr_numbered}
use Rattle.sr_front.proofs.Typed.TypedCode.{AllSigned}
use Rattle.sr_front.proofs.Typed.TypedHalf.{Half}

-- ---- what is settled

info_numbered : (table : List Signature) (is_constant in_spec : Bool) (value : Typed) → IsNumbered table value.ty → InfoNumbered table (info_by is_constant in_spec value)
info_numbered table true in_spec value h = (value_numbered table value.ty h, tt)
info_numbered table false in_spec value h = (value_numbered table value.ty h, tt)

numbered_settled : (some : List Waiting) (facts : Facts) → AllNumbered facts → AllNumbered (all_settled some facts)
numbered_settled [] facts all = all
numbered_settled (waiting ∷ some) facts all =
    let here = standing facts waiting.component in
    numbered_settled some (settled facts waiting)
    (declared_numbered facts waiting.spot (waiting_info here waiting)
    (info_numbered facts.signatures waiting.is_constant waiting.in_spec (infer_expr waiting.value here).typed_expr.typed (expr_numbered here (standing_numbered facts waiting.component all) waiting.value)) all)

-- waves keep it
pub numbered_waves : (n : ℕ) (waiting : List Waiting) (facts : Facts) → AllNumbered facts → AllNumbered (waves n waiting facts)
numbered_waves zero waiting facts all = all
numbered_waves (suc n) waiting facts all = numbered_waves n waiting (wave waiting facts) (numbered_settled (filter (can_settle facts) waiting) facts all)

-- ---- what makes an instance

made_by : (table : List Signature) (found : Option Info) → FoundNumbered table found → (type : Ty) → component_type found ≡ Some type → IsNumbered table type
made_by table None h type is = absurd (false≢true (ap is_some is))
made_by table (Some (info.Component formals)) h type is = subst (IsNumbered table) (same_Some formals type is) h
made_by table (Some (info.Value typed)) h type is = absurd (false≢true (ap is_some is))
made_by table (Some (info.«Type» other)) h type is = absurd (false≢true (ap is_some is))
made_by table (Some (info.Enumeration number literals)) h type is = absurd (false≢true (ap is_some is))
made_by table (Some (info.Record fields)) h type is = absurd (false≢true (ap is_some is))
made_by table (Some (info.OpType other)) h type is = absurd (false≢true (ap is_some is))
made_by table (Some (info.Operation other component is_local)) h type is = absurd (false≢true (ap is_some is))

pub made_numbered : (facts : Facts) → AllNumbered facts → (resource : Option Decl) (type : Ty) → resource_type facts.infos resource ≡ Some type → IsNumbered facts.signatures type
made_numbered facts all None type is = absurd (false≢true (ap is_some is))
made_numbered facts all (Some decl) type is = by (is_resource decl.sort) is
  where
    by : (b : Bool) → resource_if b (info_at facts.infos decl.spot) ≡ Some type → IsNumbered facts.signatures type
    by true e = made_by facts.signatures (info_at facts.infos decl.spot) (all.infos decl.spot) type e
    by false e = absurd (false≢true (ap is_some e))

layer_has : (table : List Signature) (layer : Ty-F Ty) → layer_numbered table layer ≡ true → LayerHas table layer
layer_has table (Ty-F.Op number) h = h
layer_has table _ h = tt

-- ---- of a program

module _ (files : List File) (names : Names) (named : resolved files ≡ Ok names) (distinct : IsDistinct same_spot (map spot_of (flat_map file_names files))) (none : first_refused names.uses names.specs files ≡ None) where
  abbrev first : Facts
  first = program_declared names.uses names.specs files

  abbrev known : Facts
  known = program_known names.uses names.specs files

  pub known_numbered : AllNumbered known
  known_numbered =
      subst AllNumbered (sym (known_is_inferred files names named distinct names.specs none))
      (numbered_waves (length (files_waiting files)) (files_waiting files) first (numbered_declared names.uses names.specs files))

  -- what waited has a type
  pub known_half : Half first → AllSigned known → Half known
  known_half half signed =
      half_known files names named distinct none (IsNumbered known.signatures) (λ type h. layer_has known.signatures (out-Ty type) h)
      (λ component tree. expr_numbered (standing known component) (standing_numbered known component known_numbered) tree) (made_numbered known known_numbered) half signed

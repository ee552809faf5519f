-- The types that heads make are those that are declared: an operation that is known by the type of its head has a
-- signature that fits it.
use Rattle.std.proofs.Common.{◌≡◌, true, List, Option, Some, None, is_some, unwrap_or, option_map, refl, sym, ap, ◌∙◌, subst}
use Rattle.std.proofs.lemmas.Bool.{and_parts}
use Rattle.std.proofs.lemmas.Option.{none-some, same_Some}
use Rattle.sr_names.specs.declared.finding.Rule.TheVariants.{BadType}
use Rattle.sr_names.specs.declared.meaning.Decl.{Decl}
use Rattle.sr_names.specs.declared.spot.Spot.{Spot}
use Rattle.sr_names.specs.Spots.{spot_of}
use Rattle.sr_names.specs.Uses.{meaning_at}
use Rattle.sr_tree.specs.declared.declaration.OpItem.{OpItem}
use Rattle.sr_tree.specs.declared.declaration.OpItem.TheVariants.{Signed, Typed}
use Rattle.sr_tree.specs.declared.name.Name.{Name}
use Rattle.sr_tree.specs.declared.name.QualifiedName.{QualifiedName}
use Rattle.sr_types.specs.declared.signature.Signature.{Signature}
use Rattle.sr_types.specs.declared.ty.Ty.{Ty, out-Ty}
use Rattle.sr_types.specs.declared.ty.Ty.TheOpen.{Ty-F}
use Rattle.sr_types.specs.Equality.{same_type}
use Rattle.sr_types.specs.Signatures.{KeepsNumbers, layer_signature, signature_of}
use Rattle.sr_check.specs.ErrorFree.{ErrorFree}
use Rattle.sr_check.proofs.ErrorFree.{rule_met}
use Rattle.sr_check_expr.specs.declared.facts.Facts.{Facts}
use Rattle.sr_check_expr.specs.declared.info.Info.{Info}
use Rattle.sr_check_expr.specs.declared.info.Info.TheVariants as info
use Rattle.sr_check_expr.specs.Infos.{info_at}
use Rattle.sr_check_expr.specs.Naming.{decl_info, decl_of, deciding}
use Rattle.sr_check_decl.specs.Declaring.{op_type, optype_of, or_untyped}
use Rattle.sr_front.proofs.Headed.Heads.{declared_type, head_found, is_known_as, is_of}
use Rattle.sr_check_decl.specs.TypeTrees.{named_decl}
use Rattle.sr_outline.specs.Heads.{Heads, head_at, named_head, op_head}
use Rattle.sr_tables.specs.declared.tables.Head.{Head}
use Rattle.sr_tables.specs.Parts.{deciding as table_deciding}
use Rattle.sr_tables.specs.Shapes.{Shapes}
use Rattle.sr_front.proofs.Headed.HeadCounts.{FitsTable, HasTable, same_signed, untyped_unsigned}
use Rattle.sr_front.proofs.Headed.HeadTrees.{written_fits}
use Rattle.sr_front.proofs.Lists.Options.{some_of}

-- each type of operations that is known has a signature that fits the head of its declaration, by the signatures that
-- are known and by all that keep their numbers
abbrev pub OptypesHeaded : Heads → Facts → Type 0
OptypesHeaded heads now =
    (spot : Spot) (ty : Ty) → info_at now.infos spot ≡ Some (info.OpType ty) → (more : List Signature) → KeepsNumbers now.signatures more → HasTable more (head_at heads spot) ty

pub layer_stays : (old new : List Signature) (layer : Ty-F Ty) (signature : Signature) → KeepsNumbers old new → layer_signature old layer ≡ Some signature → layer_signature new layer ≡ Some signature
layer_stays old new (Ty-F.Op number) signature keeps at = keeps number signature at
layer_stays old new _ signature keeps at = absurd (none-some signature at)

pub table_stays : (old new : List Signature) (head : Head) (ty : Ty) → KeepsNumbers old new → HasTable old head ty → HasTable new head ty
table_stays old new head ty keeps has = record { signature = has.signature; at = layer_stays old new (out-Ty ty) has.signature keeps has.at; fits = has.fits }

-- ---- what is known by the type of its head

-- the declared type has the signature of the type that is made
pub known_signed : (now : Facts) (name : Name) (made declared : Ty) → ErrorFree (head_found now name made) → declared_type (info_at now.infos (spot_of name.span)) ≡ Some declared
    → (signature : Signature) × (signature_of now.signatures made ≡ Some signature) × (signature_of now.signatures declared ≡ Some signature)
known_signed now name made declared nothing is =
    let met = rule_met (is_known_as now name made) BadType name.span nothing in
    let parts = and_parts (is_some (signature_of now.signatures made)) _ met in
    let signed = some_of (signature_of now.signatures made) parts.0 in
    let same : same_type made declared ≡ true = ap (is_of made) (sym is) ∙ parts.1 in
    (signed.0, signed.1, same_signed now.signatures signed.0 made declared same signed.1)

-- an operation whose declared type is that of its head
pub known_fits : (now : Facts) (name : Name) (head : Head) (made declared : Ty) → ((signature : Signature) → signature_of now.signatures made ≡ Some signature → FitsTable head signature)
    → ErrorFree (head_found now name made) → declared_type (info_at now.infos (spot_of name.span)) ≡ Some declared → HasTable now.signatures head declared
known_fits now name head made declared fits nothing is =
    let known = known_signed now name made declared nothing is in
    record { signature = known.0; at = known.2; fits = fits known.0 known.1 }

-- ---- operations by the name of a type

same_deciding : (name : QualifiedName) → deciding name ≡ table_deciding name
same_deciding name = by name.second
  where
    by : (second : Option Name) → deciding (record name { second = second }) ≡ table_deciding (record name { second = second })
    by None = refl
    by (Some second) = refl

module _ (facts : Facts) (shapes : Shapes) (heads : Heads) (now : Facts) (uses : now.uses ≡ facts.uses) (optypes : OptypesHeaded heads now) where
  decl_fits : (name : Name) (decl : Option Decl) (signature : Signature) → signature_of now.signatures (or_untyped (optype_of (decl_info now.infos decl))) ≡ Some signature
      → FitsTable (head_at heads (unwrap_or (option_map (λ (d : Decl). d.spot) decl) (spot_of name.span))) signature
  decl_fits name None signature at = absurd (untyped_unsigned now.signatures signature at)
  decl_fits name (Some decl) signature at = by (info_at now.infos decl.spot) refl at
    where
      by : (found : Option Info) → info_at now.infos decl.spot ≡ found → signature_of now.signatures (or_untyped (optype_of found)) ≡ Some signature → FitsTable (head_at heads decl.spot) signature
      by (Some (info.OpType type)) is e =
          let has = optypes decl.spot type is now.signatures (λ number kept k. k) in
          subst (FitsTable (head_at heads decl.spot)) (same_Some has.signature signature (sym has.at ∙ e)) has.fits
      by _ is e = absurd (untyped_unsigned now.signatures signature e)

  named_fits : (name : QualifiedName) (signature : Signature) → signature_of now.signatures (or_untyped (optype_of (decl_info now.infos (named_decl now name)))) ≡ Some signature
      → FitsTable (named_head facts heads name) signature
  named_fits name signature at =
      subst (λ meanings. FitsTable (head_at heads (unwrap_or (option_map (λ (d : Decl). d.spot) (decl_of (meaning_at meanings (spot_of (table_deciding name).span)))) (spot_of (table_deciding name).span))) signature) uses
      (subst (λ one. FitsTable (head_at heads (unwrap_or (option_map (λ (d : Decl). d.spot) (decl_of (meaning_at now.uses (spot_of one.span)))) (spot_of one.span))) signature) (same_deciding name)
      (decl_fits (deciding name) (named_decl now name) signature at))

  -- the signature of the type that an operation has fits the head of it
  pub op_fits : (op : OpItem) (signature : Signature) → signature_of now.signatures (op_type now op) ≡ Some signature → FitsTable (op_head facts shapes heads op) signature
  op_fits (Signed span name tree) signature at = written_fits facts shapes tree now signature at
  op_fits (Typed span name optype) signature at = named_fits optype signature at

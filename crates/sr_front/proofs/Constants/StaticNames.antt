-- What a name tells that is static it tells by less that is known, where the same is known of its declaration, or nothing that tells.
use Rattle.std.proofs.Common.{◌≡◌, false, Option, Some, None, refl, sym, ap, subst, ◌∙◌}
use Rattle.std.proofs.lemmas.Bool.{false≢true}
use Rattle.sr_check_decl.specs.Constants.{is_fault}
use Rattle.sr_check_expr.specs.declared.facts.Facts.{Facts}
use Rattle.sr_check_expr.specs.declared.info.Info.{Info}
use Rattle.sr_check_expr.specs.declared.info.Info.TheVariants as info
use Rattle.sr_check_expr.specs.declared.typed_expr.Named.TheVariants as named
use Rattle.sr_check_expr.specs.declared.typed_expr.TypedExpr.{TypedExpr}
use Rattle.sr_check_expr.specs.Infos.{info_at, type_spot}
use Rattle.sr_check_expr.specs.Naming.{declared_typing, meaning_typing, name_typing, predefined_at}
use Rattle.sr_check_expr.specs.PredefinedCalls.{layer_shape}
use Rattle.sr_names.specs.declared.meaning.Decl.{Decl}
use Rattle.sr_names.specs.declared.meaning.Meaning.{Meaning}
use Rattle.sr_names.specs.declared.meaning.Meaning.TheVariants.{Declared, Predefined as MeansPredefined}
use Rattle.sr_names.specs.declared.predefined.Predefined.{Predefined}
use Rattle.sr_names.specs.declared.predefined.Predefined.TheVariants as predefined
use Rattle.sr_names.specs.Spots.{spot_of}
use Rattle.sr_names.specs.Uses.{meaning_at}
use Rattle.sr_types.specs.declared.ty.Ty.{Ty, out-Ty}
use Rattle.sr_types.specs.declared.ty.Ty.TheVariants as ty
use Rattle.sr_types.specs.declared.typed.Static.TheVariants.{Unknown}
use Rattle.sr_value.specs.declared.place.Span.{Span}
use Rattle.sr_front.proofs.Constants.StaticExprs.{SameShape, SameUse, Told, tells, tells_by}

-- nothing is known, or a value that isn't static, or an operation
abbrev pub IsIdle : Option Info → Type 0
IsIdle None = Unit {0}
IsIdle (Some (info.Value typed)) = typed.value ≡ Unknown
IsIdle (Some (info.Operation ty component is_local)) = Unit {0}
IsIdle (Some one) = ⊥

-- no value that faults
abbrev pub IsSound : Option Info → Type 0
IsSound (Some (info.Value typed)) = is_fault typed.value ≡ false
IsSound one = Unit {0}

module _ (now end : Facts) where
  abbrev SameType : Ty → Type 0
  SameType ty = layer_shape now.infos (out-Ty ty) ≡ layer_shape end.infos (out-Ty ty)

  -- what is known as a type has the same shape
  abbrev pub SameTypes : Decl → Option Info → Type 0
  SameTypes decl (Some (info.«Type» ty)) = SameType ty
  SameTypes decl (Some (info.Enumeration number literals)) = SameType (ty.Enum (type_spot decl.spot))
  SameTypes decl (Some (info.Record fields)) = SameType (ty.Rec (type_spot decl.spot))
  SameTypes decl one = Unit {0}

-- what is known of a declaration by the end is known now, as far as it tells anything
pub data SameDecl (now end : Facts) (decl : Decl) : Type 0 where
  same_known : info_at now.infos decl.spot ≡ info_at end.infos decl.spot → IsSound (info_at end.infos decl.spot) → SameTypes now end decl (info_at end.infos decl.spot) → SameDecl now end decl
  idle_known : IsIdle (info_at end.infos decl.spot) → SameDecl now end decl
  component_known : (first second : Ty) → info_at now.infos decl.spot ≡ Some (info.Component first) → info_at end.infos decl.spot ≡ Some (info.Component second) → SameDecl now end decl

module _ (now end : Facts) where
  -- what tells nothing
  quiet_told : (here there : TypedExpr) → tells there ≡ false → is_fault there.typed.value ≡ false → SameShape now end there.named → Told now end here there
  quiet_told here there quiet sound shape = record {
    same = λ tell. absurd (false≢true (sym quiet ∙ tell));
    typed = λ fault. absurd (false≢true (sym sound ∙ fault));
    shape = shape;
  }

  itself_told : (one : TypedExpr) → is_fault one.typed.value ≡ false → SameShape now end one.named → Told now end one one
  itself_told one sound shape = record { same = λ tell. refl; typed = λ fault. absurd (false≢true (sym sound ∙ fault)); shape = shape }

  info_told : (span : Span) (decl : Decl) (one : Option Info) → IsSound one → SameTypes now end decl one → Told now end (declared_typing span decl one).typed_expr (declared_typing span decl one).typed_expr
  info_told span decl (Some (info.Value typed)) sound types = itself_told _ sound tt
  info_told span decl (Some (info.«Type» ty)) sound types = itself_told _ refl types
  info_told span decl (Some (info.Enumeration number literals)) sound types = itself_told _ refl types
  info_told span decl (Some (info.Record fields)) sound types = itself_told _ refl types
  info_told span decl _ sound types = itself_told _ refl tt

  idle_told : (here : TypedExpr) (span : Span) (decl : Decl) (one : Option Info) → IsIdle one → Told now end here (declared_typing span decl one).typed_expr
  idle_told here span decl None idle = quiet_told here _ refl refl tt
  idle_told here span decl (Some (info.Value typed)) idle = quiet_told here _ (ap (λ value. tells_by value named.Nothing) idle) (ap is_fault idle) tt
  idle_told here span decl (Some (info.Operation ty component is_local)) idle = quiet_told here _ refl refl tt
  idle_told here span decl (Some _) idle = absurd idle

  decl_told : (span : Span) (decl : Decl) → SameDecl now end decl
      → Told now end (declared_typing span decl (info_at now.infos decl.spot)).typed_expr (declared_typing span decl (info_at end.infos decl.spot)).typed_expr
  decl_told span decl (same_known same sound types) =
      subst (λ found. Told now end (declared_typing span decl found).typed_expr (declared_typing span decl (info_at end.infos decl.spot)).typed_expr) (sym same)
      (info_told span decl (info_at end.infos decl.spot) sound types)
  decl_told span decl (idle_known idle) = idle_told _ span decl (info_at end.infos decl.spot) idle
  decl_told span decl (component_known first second here there) =
      subst (λ found. Told now end (declared_typing span decl found).typed_expr (declared_typing span decl (info_at end.infos decl.spot)).typed_expr) (sym here)
      (subst (λ found. Told now end (declared_typing span decl (Some (info.Component first))).typed_expr (declared_typing span decl found).typed_expr) (sym there)
      (info_told span decl (Some (info.Component second)) tt tt))

  predefined_told : (span : Span) (name : Predefined) → Told now end (predefined_at span name) (predefined_at span name)
  predefined_told span predefined.Eof = itself_told _ refl tt
  predefined_told span _ = itself_told _ refl tt

  -- a name that means a declaration of which the same is known
  abbrev pub SameMeaning : Option Meaning → Type 0
  SameMeaning (Some (Declared decl)) = SameDecl now end decl
  SameMeaning meaning = Unit {0}

  meaning_told : (span : Span) (meaning : Option Meaning) → SameMeaning meaning → Told now end (meaning_typing now.infos span meaning).typed_expr (meaning_typing end.infos span meaning).typed_expr
  meaning_told span None same = quiet_told _ _ refl refl tt
  meaning_told span (Some (MeansPredefined name)) same = predefined_told span name
  meaning_told span (Some (Declared decl)) same = decl_told span decl same

  -- so it tells the same
  pub name_told : now.uses ≡ end.uses → (used : Span) → SameMeaning (meaning_at end.uses (spot_of used)) → SameUse now end used
  name_told uses used same span =
      subst (λ meanings. Told now end (meaning_typing now.infos span (meaning_at meanings (spot_of used))).typed_expr (name_typing end span used).typed_expr) (sym uses)
      (meaning_told span (meaning_at end.uses (spot_of used)) same)

-- What is known where a declaration is read, after all declarations, and after waves: as far as it tells anything it is the same.
use Rattle.std.proofs.Common.{◌≡◌, ◌⊎◌, inl, inr, true, false, Option, Some, None, refl, sym, ap, subst, ◌∙◌}
use Rattle.std.proofs.lemmas.Bool.{false≢true}
use Rattle.sr_check_expr.specs.declared.facts.Facts.{Facts}
use Rattle.sr_check_expr.specs.declared.info.Info.{Info}
use Rattle.sr_check_expr.specs.declared.info.Info.TheVariants as info
use Rattle.sr_check_expr.specs.Infos.{info_at, name_spot, type_spot}
use Rattle.sr_check_expr.specs.PredefinedCalls.{info_shape, layer_shape}
use Rattle.sr_names.specs.declared.meaning.Decl.{Decl}
use Rattle.sr_names.specs.declared.spot.Spot.{Spot}
use Rattle.sr_types.specs.declared.ty.Ty.{Ty, out-Ty, out-roll-Ty}
use Rattle.sr_types.specs.declared.ty.Ty.TheOpen.{Ty-F}
use Rattle.sr_types.specs.declared.ty.Ty.TheVariants as ty
use Rattle.sr_value.specs.declared.shape.Shape.TheVariants as shape
use Rattle.sr_front.proofs.Known.Lasting.{is_operation}
use Rattle.sr_front.proofs.Constants.StaticNames.{IsIdle, IsSound, SameDecl, SameTypes, idle_known, same_known}
use Rattle.sr_front.proofs.Constants.WavesIdle.{IsWaiting}

pub waiting_idle : (found : Option Info) → IsWaiting found → IsIdle found
waiting_idle None h = tt
waiting_idle (Some (info.Value typed)) h = h
waiting_idle (Some _) h = absurd h

operation_idle : (one : Info) → is_operation (Some one) ≡ true → IsIdle (Some one)
operation_idle (info.Operation ty component is_local) h = tt
operation_idle _ h = absurd (false≢true h)

waiting_shape : (found : Option Info) → IsWaiting found → info_shape found ≡ shape.Int
waiting_shape None h = refl
waiting_shape (Some (info.Value typed)) h = refl
waiting_shape (Some _) h = absurd h

module _ (now last end : Facts) where
  -- known in the end of the declarations as where one is read, or an operation
  abbrev pub Lasted : Spot → Type 0
  Lasted spot = (info_at last.infos spot ≡ info_at now.infos spot) ⊎ (is_operation (info_at last.infos spot) ≡ true)

  -- as after waves
  pub record WavedAt (spot : Spot) : Type 0 where
    pub kept : (one : Info) → info_at last.infos spot ≡ Some one → info_at end.infos spot ≡ Some one
    pub others : info_at last.infos spot ≡ None → IsWaiting (info_at end.infos spot)

  pub same_then : (decl : Decl) → Lasted decl.spot → WavedAt decl.spot → IsSound (info_at last.infos decl.spot)
      → ((one : Info) → info_at last.infos decl.spot ≡ Some one → SameTypes now end decl (Some one)) → SameDecl now end decl
  same_then decl lasted waved sound types = by (info_at last.infos decl.spot) refl lasted
    where
      known : (one : Info) → info_at last.infos decl.spot ≡ Some one → info_at last.infos decl.spot ≡ info_at now.infos decl.spot → SameDecl now end decl
      known one is same =
          let there : info_at end.infos decl.spot ≡ Some one = waved.kept one is in
          same_known (sym same ∙ is ∙ sym there) (subst IsSound (is ∙ sym there) sound) (subst (SameTypes now end decl) (sym there) (types one is))

      by : (found : Option Info) → info_at last.infos decl.spot ≡ found → Lasted decl.spot → SameDecl now end decl
      by None is h = idle_known (waiting_idle (info_at end.infos decl.spot) (waved.others is))
      by (Some one) is (inl same) = known one is same
      by (Some one) is (inr operation) = idle_known (subst IsIdle (sym (waved.kept one is)) (operation_idle one (sym (ap is_operation is) ∙ operation)))

  shape_then : (spot : Spot) → Lasted spot → is_operation (info_at last.infos spot) ≡ false → WavedAt spot → info_shape (info_at now.infos spot) ≡ info_shape (info_at end.infos spot)
  shape_then spot (inr operation) none waved = absurd (false≢true (sym none ∙ operation))
  shape_then spot (inl same) none waved = by (info_at last.infos spot) refl
    where
      by : (found : Option Info) → info_at last.infos spot ≡ found → info_shape (info_at now.infos spot) ≡ info_shape (info_at end.infos spot)
      by None is = ap info_shape (sym same ∙ is) ∙ sym (waiting_shape (info_at end.infos spot) (waved.others is))
      by (Some one) is = ap info_shape (sym same ∙ is ∙ sym (waved.kept one is))

  -- the word of a type is known as in the end
  pub record WordThen (spot : Spot) : Type 0 where
    pub lasted : Lasted spot
    pub none : is_operation (info_at last.infos spot) ≡ false
    pub waved : WavedAt spot

  abbrev pub LayerThen : Ty-F Ty → Type 0
  LayerThen (Ty-F.Enum spot) = WordThen (name_spot spot)
  LayerThen _ = Unit {0}

  layer_then : (layer : Ty-F Ty) → LayerThen layer → layer_shape now.infos layer ≡ layer_shape end.infos layer
  layer_then (Ty-F.Enum spot) word = shape_then (name_spot spot) word.lasted word.none word.waved
  layer_then _ word = refl

  out_enum : (spot : Spot) → out-Ty (ty.Enum (type_spot spot)) ≡ Ty-F.Enum (type_spot spot)
  out_enum spot = ap out-Ty (sym (ty.rolls-Enum (type_spot spot))) ∙ out-roll-Ty (Ty-F.Enum (type_spot spot))

  out_record : (spot : Spot) → out-Ty (ty.Rec (type_spot spot)) ≡ Ty-F.Rec (type_spot spot)
  out_record spot = ap out-Ty (sym (ty.rolls-Rec (type_spot spot))) ∙ out-roll-Ty (Ty-F.Rec (type_spot spot))

  -- the words of what is known of a declaration
  abbrev pub InfoThen : Decl → Info → Type 0
  InfoThen decl (info.«Type» ty) = LayerThen (out-Ty ty)
  InfoThen decl (info.Enumeration number literals) = WordThen decl.spot
  InfoThen decl _ = Unit {0}

  pub types_then : (decl : Decl) (one : Info) → InfoThen decl one → SameTypes now end decl (Some one)
  types_then decl (info.«Type» ty) words = layer_then (out-Ty ty) words
  types_then decl (info.Enumeration number literals) word =
      ap (layer_shape now.infos) (out_enum decl.spot) ∙ layer_then (Ty-F.Enum (type_spot decl.spot)) word ∙ sym (ap (layer_shape end.infos) (out_enum decl.spot))
  types_then decl (info.Record fields) words = ap (layer_shape now.infos) (out_record decl.spot) ∙ sym (ap (layer_shape end.infos) (out_record decl.spot))
  types_then decl _ words = tt

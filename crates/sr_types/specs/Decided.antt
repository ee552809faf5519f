-- The tests of equality decide whether types, formals and signatures are the same: laws that a table of signatures
-- needs.
use mathlib.Core.Bool.{true≢false}
use mathlib.Core.Path.{◌≡◌, refl, sym, ap, subst, ◌∙◌}
use Rattle.std.specs.Prelude.{ℕ, Bool, true, false, ◌&&◌, ◌==◌, Option, Some, None}
use Rattle.std.specs.Bool.{Decides}
use Rattle.std.specs.Cmp.{unsigned_Decides, first_so, second_so}
use Rattle.std.specs.Cmp.Lexicographic.{pointwise, pointwise_decides}
use Rattle.std.specs.Option.{option_eq}
use Rattle.sr_types.specs.declared.signature.Forms.{Forms}
use Rattle.sr_types.specs.declared.signature.Forms.TheVariants.{Both, Call, Send}
use Rattle.sr_types.specs.declared.signature.Mode.{Mode}
use Rattle.sr_types.specs.declared.signature.Mode.TheVariants.{Val, Var, Res}
use Rattle.sr_types.specs.declared.signature.Param.{Param}
use Rattle.sr_types.specs.declared.signature.Signature.{Signature}
use Rattle.sr_types.specs.declared.spot.Spot.{Spot}
use Rattle.sr_types.specs.declared.ty.Ty.{Ty, out-Ty, roll-Ty, roll-out-Ty, out-roll-Ty}
use Rattle.sr_types.specs.declared.ty.Ty.TheOpen.{Ty-F}
use Rattle.sr_types.specs.declared.ty.Ty.TheFolds.{map-Ty, fold-roll-Ty, ind-Ty}
use Rattle.sr_types.specs.Equality.{same_spot, layer_same, same_type, same_mode, same_forms, same_param, equal_signatures}

both : (s t : Bool) → s ≡ true → t ≡ true → (s && t) ≡ true
both true t e h = h
both false t e h = absurd (true≢false (sym e))

-- a test that holds of the same alone, and of each thing and itself
decides_by : {A : Type 0} (test : A → A → Bool) → ((a b : A) → test a b ≡ true → a ≡ b) → ((a : A) → test a a ≡ true) → (a b : A) → Decides (test a b) (a ≡ b)
decides_by test sound itself a b = (sound a b, λ e. subst (λ c. test a c ≡ true) e (itself a))

-- ---- spots

spot_sound : (a b : Spot) → same_spot a b ≡ true → a ≡ b
spot_sound a b h = λ i. record {
  file = (unsigned_Decides a.file b.file).0 (first_so (a.file == b.file) (a.byte == b.byte) h) i;
  byte = (unsigned_Decides a.byte b.byte).0 (second_so (a.file == b.file) (a.byte == b.byte) h) i;
}

number_itself : (n : ℕ) → (n == n) ≡ true
number_itself n = (unsigned_Decides n n).1 refl

spot_itself : (a : Spot) → same_spot a a ≡ true
spot_itself a = both (a.file == a.file) (a.byte == a.byte) (number_itself a.file) (number_itself a.byte)

-- ---- types

abbrev Sound : Ty → Type 0
Sound a = (b : Ty) → same_type a b ≡ true → a ≡ b

abbrev SoundTy : Type 0
SoundTy = (ty : Ty) × Sound ty

layer_sound : (x : Ty-F SoundTy) (z : Ty-F Ty) → layer_same (map-Ty Ty (Ty → Bool) same_type (map-Ty SoundTy Ty (λ e. e.0) x)) z ≡ true → map-Ty SoundTy Ty (λ e. e.0) x ≡ z
layer_sound Ty-F.Int Ty-F.Int h = refl
layer_sound Ty-F.Bool Ty-F.Bool h = refl
layer_sound Ty-F.Char Ty-F.Char h = refl
layer_sound Ty-F.Str Ty-F.Str h = refl
layer_sound (Ty-F.Enum spot) (Ty-F.Enum spot') h = ap Ty-F.Enum (spot_sound spot spot' h)
layer_sound (Ty-F.Rec spot) (Ty-F.Rec spot') h = ap Ty-F.Rec (spot_sound spot spot' h)
layer_sound (Ty-F.Vector item) (Ty-F.Vector item') h = ap Ty-F.Vector (item.1 item' h)
layer_sound (Ty-F.Matrix item) (Ty-F.Matrix item') h = ap Ty-F.Matrix (item.1 item' h)
layer_sound (Ty-F.Resource spot) (Ty-F.Resource spot') h = ap Ty-F.Resource (spot_sound spot spot' h)
layer_sound (Ty-F.Op number) (Ty-F.Op number') h = ap Ty-F.Op ((unsigned_Decides number number').0 h)
layer_sound Ty-F.Vm Ty-F.Vm h = refl
layer_sound Ty-F.NullCap Ty-F.NullCap h = refl
layer_sound Ty-F.Untyped Ty-F.Untyped h = refl
layer_sound _ _ h = absurd (true≢false (sym h))

step_sound : (x : Ty-F Ty) (y : Ty-F SoundTy) → map-Ty SoundTy Ty (λ e. e.0) y ≡ x → Sound (roll-Ty x)
step_sound x y is =
    subst (λ z. Sound (roll-Ty z)) is (λ b h.
    let test : same_type (roll-Ty (map-Ty SoundTy Ty (λ e. e.0) y)) b ≡ layer_same (map-Ty Ty (Ty → Bool) same_type (map-Ty SoundTy Ty (λ e. e.0) y)) (out-Ty b) =
    ap (λ f. f b) (fold-roll-Ty (Ty → Bool) (λ layer ty. layer_same layer (out-Ty ty)) (map-Ty SoundTy Ty (λ e. e.0) y)) in
    ap roll-Ty (layer_sound y (out-Ty b) (sym test ∙ h)) ∙ roll-out-Ty b)

type_sound : (a b : Ty) → same_type a b ≡ true → a ≡ b
type_sound = ind-Ty Sound step_sound

abbrev Itself : Ty → Type 0
Itself a = same_type a a ≡ true

abbrev ItselfTy : Type 0
ItselfTy = (ty : Ty) × Itself ty

layer_itself : (x : Ty-F ItselfTy) → layer_same (map-Ty Ty (Ty → Bool) same_type (map-Ty ItselfTy Ty (λ e. e.0) x)) (map-Ty ItselfTy Ty (λ e. e.0) x) ≡ true
layer_itself (Ty-F.Enum spot) = spot_itself spot
layer_itself (Ty-F.Rec spot) = spot_itself spot
layer_itself (Ty-F.Vector item) = item.1
layer_itself (Ty-F.Matrix item) = item.1
layer_itself (Ty-F.Resource spot) = spot_itself spot
layer_itself (Ty-F.Op number) = number_itself number
layer_itself _ = refl

step_itself : (x : Ty-F Ty) (y : Ty-F ItselfTy) → map-Ty ItselfTy Ty (λ e. e.0) y ≡ x → Itself (roll-Ty x)
step_itself x y is =
    let layer : Ty-F Ty = map-Ty ItselfTy Ty (λ e. e.0) y in
    subst (λ z. Itself (roll-Ty z)) is (
    ap (λ f. f (roll-Ty layer)) (fold-roll-Ty (Ty → Bool) (λ layer ty. layer_same layer (out-Ty ty)) layer)
    ∙ ap (layer_same (map-Ty Ty (Ty → Bool) same_type layer)) (out-roll-Ty layer)
    ∙ layer_itself y)

type_itself : (a : Ty) → same_type a a ≡ true
type_itself = ind-Ty Itself step_itself

pub type_decides : (a b : Ty) → Decides (same_type a b) (a ≡ b)
type_decides = decides_by same_type type_sound type_itself

-- ---- formals

mode_sound : (a b : Mode) → same_mode a b ≡ true → a ≡ b
mode_sound Val Val h = refl
mode_sound Var Var h = refl
mode_sound Res Res h = refl
mode_sound _ _ h = absurd (true≢false (sym h))

mode_itself : (a : Mode) → same_mode a a ≡ true
mode_itself Val = refl
mode_itself Var = refl
mode_itself Res = refl

param_sound : (a b : Param) → same_param a b ≡ true → a ≡ b
param_sound a b h = λ i. record {
  mode = mode_sound a.mode b.mode (first_so (same_mode a.mode b.mode) (same_type a.ty b.ty) h) i;
  ty = type_sound a.ty b.ty (second_so (same_mode a.mode b.mode) (same_type a.ty b.ty) h) i;
}

param_itself : (a : Param) → same_param a a ≡ true
param_itself a = both (same_mode a.mode a.mode) (same_type a.ty a.ty) (mode_itself a.mode) (type_itself a.ty)

pub param_decides : (a b : Param) → Decides (same_param a b) (a ≡ b)
param_decides = decides_by same_param param_sound param_itself

-- ---- signatures

forms_sound : (a b : Forms) → same_forms a b ≡ true → a ≡ b
forms_sound Both Both h = refl
forms_sound Call Call h = refl
forms_sound Send Send h = refl
forms_sound _ _ h = absurd (true≢false (sym h))

forms_itself : (a : Forms) → same_forms a a ≡ true
forms_itself Both = refl
forms_itself Call = refl
forms_itself Send = refl

returns_sound : (a b : Option Ty) → option_eq same_type a b ≡ true → a ≡ b
returns_sound None None h = refl
returns_sound None (Some b) h = absurd (true≢false (sym h))
returns_sound (Some a) None h = absurd (true≢false (sym h))
returns_sound (Some a) (Some b) h = ap Some (type_sound a b h)

returns_itself : (a : Option Ty) → option_eq same_type a a ≡ true
returns_itself None = refl
returns_itself (Some a) = type_itself a

signature_sound : (a b : Signature) → equal_signatures a b ≡ true → a ≡ b
signature_sound a b h =
    let params : Bool = pointwise same_param a.params b.params in
    let returns : Bool = option_eq same_type a.returns b.returns in
    let rest : (params && returns) ≡ true = second_so (same_forms a.forms b.forms) (params && returns) h in
    λ i. record {
      params = (pointwise_decides param_decides a.params b.params).0 (first_so params returns rest) i;
      returns = returns_sound a.returns b.returns (second_so params returns rest) i;
      forms = forms_sound a.forms b.forms (first_so (same_forms a.forms b.forms) (params && returns) h) i;
    }

pub signature_itself : (a : Signature) → equal_signatures a a ≡ true
signature_itself a =
    let params : Bool = pointwise same_param a.params a.params in
    let returns : Bool = option_eq same_type a.returns a.returns in
    both (same_forms a.forms a.forms) (params && returns) (forms_itself a.forms)
    (both params returns ((pointwise_decides param_decides a.params a.params).1 refl) (returns_itself a.returns))

pub signature_decides : (a b : Signature) → Decides (equal_signatures a b) (a ≡ b)
signature_decides = decides_by equal_signatures signature_sound signature_itself

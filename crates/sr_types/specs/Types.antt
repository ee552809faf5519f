-- When two types are equal, and which types a place takes.
use Rattle.std.specs.Prelude.{◌≡◌, ◌⊎◌, Bool, true, false, ◌&&◌, ◌||◌, IsTrue}
use Rattle.sr_types.specs.declared.ty.Ty.{Ty, out-Ty}
use Rattle.sr_types.specs.declared.ty.Ty.TheOpen.{Ty-F}
use Rattle.sr_types.specs.declared.ty.Ty.TheVariants.{NullCap, Untyped}
use Rattle.sr_types.specs.Equality.{same_type}

-- A type keeps its declaration, its dimensions and type of items, its resource, or the number of the signature
-- of its operations, and nothing besides: two types are equal where they are the same. Types of operations are so
-- where they are of the same signature, which has one number
abbrev pub SameType : Ty → Ty → Type 0
SameType a b = a ≡ b

-- a relation that each thing has to itself, that goes both ways, and that is handed on
pub record IsEquivalence {A : Type 0} (R : A → A → Type 0) : Type 0 where
  pub reflexive : (a : A) → R a a
  pub symmetric : (a b : A) → R a b → R b a
  pub transitive : (a b c : A) → R a b → R b c → R a c

abbrev pub layer_is_cap : {A : Type 0} → Ty-F A → Bool
layer_is_cap (Ty-F.Resource resource) = true
layer_is_cap (Ty-F.Op signature) = true
layer_is_cap Ty-F.Vm = true
layer_is_cap Ty-F.NullCap = true
layer_is_cap _ = false

-- the types of capabilities
abbrev pub is_cap_type : Ty → Bool
is_cap_type ty = layer_is_cap (out-Ty ty)

abbrev pub layer_is_null : {A : Type 0} → Ty-F A → Bool
layer_is_null Ty-F.NullCap = true
layer_is_null _ = false

-- the type of `null` and `noop`
abbrev pub is_null_type : Ty → Bool
is_null_type ty = layer_is_null (out-Ty ty)

abbrev pub layer_of_nulls : Ty-F Ty → Bool
layer_of_nulls (Ty-F.Vector item) = is_null_type item
layer_of_nulls (Ty-F.Matrix item) = is_null_type item
layer_of_nulls Ty-F.NullCap = true
layer_of_nulls _ = false

-- the types of `null` and `noop` and of arrays of nothing else: they tell no type of capabilities
abbrev pub is_of_nulls : Ty → Bool
is_of_nulls ty = layer_of_nulls (out-Ty ty)

abbrev pub layer_is_untyped : {A : Type 0} → Ty-F A → Bool
layer_is_untyped Ty-F.Untyped = true
layer_is_untyped _ = false

-- no type
abbrev pub is_no_type : Ty → Bool
is_no_type ty = layer_is_untyped (out-Ty ty)

abbrev pub layer_nulls : Ty-F Ty → Ty-F Ty → Bool
layer_nulls (Ty-F.Vector item) (Ty-F.Vector item') = is_null_type item && is_cap_type item'
layer_nulls (Ty-F.Matrix item) (Ty-F.Matrix item') = is_null_type item && is_cap_type item'
layer_nulls _ _ = false

-- arrays of nothing but `null` and `noop`, and arrays of a capability type
abbrev pub are_nulls : Ty → Ty → Bool
are_nulls value place = layer_nulls (out-Ty value) (out-Ty place)

-- a place takes values of its own type, and one for capabilities also `null` and `noop`, as items of an array too;
-- what has no type fits everywhere and takes everything
abbrev pub FitsType : Ty → Ty → Type 0
FitsType value place = SameType value place ⊎ ((value ≡ NullCap) × IsTrue (is_cap_type place)) ⊎ (value ≡ Untyped) ⊎ (place ≡ Untyped) ⊎ IsTrue (are_nulls value place)

-- the same, as a test that computes
abbrev pub fits_type : Ty → Ty → Bool
fits_type value place = same_type value place || (is_no_type value || (is_no_type place || ((is_null_type value && is_cap_type place) || are_nulls value place)))

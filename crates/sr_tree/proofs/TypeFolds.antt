-- What relates the results of three folds over written types is shown layer by layer.
use Rattle.std.proofs.Common.{◌≡◌, ◌∙◌, ap, sym, subst, List}
use Rattle.sr_value.specs.declared.place.Span.{Span}
use Rattle.sr_tree.specs.declared.name.Name.{Name}
use Rattle.sr_tree.specs.declared.types.Formal.{Formal, roll-Formal}
use Rattle.sr_tree.specs.declared.types.Returned.{Returned, roll-Returned}
use Rattle.sr_tree.specs.declared.types.Signature.{Signature, roll-Signature}
use Rattle.sr_tree.specs.declared.types.TypeTree.{TypeTree, out-TypeTree, out-roll-TypeTree, roll-TypeTree}
use Rattle.sr_tree.specs.declared.types.TypeTree.TheFolds.{fold-TypeTree, fold-Formal, fold-Returned, fold-Signature, fold-roll-TypeTree, fold-roll-Formal, fold-roll-Returned, fold-roll-Signature, ind-TypeTree, ind-Formal, ind-Signature, map-TypeTree, map-Formal, map-Returned, map-Signature}
use Rattle.sr_tree.specs.declared.types.TypeTree.TheOpen.{TypeTree-F, Formal-F, Returned-F, Signature-F}
use Rattle.sr_tree.specs.declared.types.TypeTree.TheVariants as ty

-- the layer of an enumeration and of a record
pub out-enum : (span : Span) (literals : List Name) → out-TypeTree (ty.Enum span literals) ≡ TypeTree-F.Enum span literals
out-enum span literals = ap out-TypeTree (sym (ty.rolls-Enum span literals)) ∙ out-roll-TypeTree (TypeTree-F.Enum span literals)

pub out-record : (span : Span) (fields : List Formal) → out-TypeTree (ty.Rec span fields) ≡ TypeTree-F.Rec span fields
out-record span fields = ap out-TypeTree (sym (ty.rolls-Rec span fields)) ∙ out-roll-TypeTree (TypeTree-F.Rec span fields)

-- what is made of each kind of tree, from what is made of its parts
pub record TypeFold : Type 1 where
  pub OfType : Type 0
  pub OfFormal : Type 0
  pub OfReturned : Type 0
  pub OfSignature : Type 0
  pub type_step : TypeTree-F OfType OfFormal OfReturned OfSignature → OfType
  pub formal_step : Formal-F OfType OfFormal OfReturned OfSignature → OfFormal
  pub returned_step : Returned-F OfType OfFormal OfReturned OfSignature → OfReturned
  pub signature_step : Signature-F OfType OfFormal OfReturned OfSignature → OfSignature

module _ (f : TypeFold) where
  abbrev pub of_type : TypeTree → f.OfType
  of_type = fold-TypeTree f.OfType f.OfFormal f.OfReturned f.OfSignature f.type_step f.formal_step f.returned_step f.signature_step

  abbrev pub of_formal : Formal → f.OfFormal
  of_formal = fold-Formal f.OfType f.OfFormal f.OfReturned f.OfSignature f.type_step f.formal_step f.returned_step f.signature_step

  abbrev pub of_returned : Returned → f.OfReturned
  of_returned = fold-Returned f.OfType f.OfFormal f.OfReturned f.OfSignature f.type_step f.formal_step f.returned_step f.signature_step

  abbrev pub of_signature : Signature → f.OfSignature
  of_signature = fold-Signature f.OfType f.OfFormal f.OfReturned f.OfSignature f.type_step f.formal_step f.returned_step f.signature_step

  -- of one layer
  abbrev pub type_layer : TypeTree-F TypeTree Formal Returned Signature → f.OfType
  type_layer x = f.type_step (map-TypeTree TypeTree Formal Returned Signature f.OfType f.OfFormal f.OfReturned f.OfSignature of_type of_formal of_returned of_signature x)

  abbrev pub formal_layer : Formal-F TypeTree Formal Returned Signature → f.OfFormal
  formal_layer x = f.formal_step (map-Formal TypeTree Formal Returned Signature f.OfType f.OfFormal f.OfReturned f.OfSignature of_type of_formal of_returned of_signature x)

  abbrev pub returned_layer : Returned-F TypeTree Formal Returned Signature → f.OfReturned
  returned_layer x = f.returned_step (map-Returned TypeTree Formal Returned Signature f.OfType f.OfFormal f.OfReturned f.OfSignature of_type of_formal of_returned of_signature x)

  abbrev pub signature_layer : Signature-F TypeTree Formal Returned Signature → f.OfSignature
  signature_layer x = f.signature_step (map-Signature TypeTree Formal Returned Signature f.OfType f.OfFormal f.OfReturned f.OfSignature of_type of_formal of_returned of_signature x)

  pub type_rolls : (x : TypeTree-F TypeTree Formal Returned Signature) → type_layer x ≡ of_type (roll-TypeTree x)
  type_rolls x = sym (fold-roll-TypeTree f.OfType f.OfFormal f.OfReturned f.OfSignature f.type_step f.formal_step f.returned_step f.signature_step x)

  pub formal_rolls : (x : Formal-F TypeTree Formal Returned Signature) → formal_layer x ≡ of_formal (roll-Formal x)
  formal_rolls x = sym (fold-roll-Formal f.OfType f.OfFormal f.OfReturned f.OfSignature f.type_step f.formal_step f.returned_step f.signature_step x)

  pub returned_rolls : (x : Returned-F TypeTree Formal Returned Signature) → returned_layer x ≡ of_returned (roll-Returned x)
  returned_rolls x = sym (fold-roll-Returned f.OfType f.OfFormal f.OfReturned f.OfSignature f.type_step f.formal_step f.returned_step f.signature_step x)

  pub signature_rolls : (x : Signature-F TypeTree Formal Returned Signature) → signature_layer x ≡ of_signature (roll-Signature x)
  signature_rolls x = sym (fold-roll-Signature f.OfType f.OfFormal f.OfReturned f.OfSignature f.type_step f.formal_step f.returned_step f.signature_step x)

-- three folds, and what relates their results
pub record Related : Type 1 where
  pub first : TypeFold
  pub second : TypeFold
  pub third : TypeFold
  pub Types : first.OfType → second.OfType → third.OfType → Type 0
  pub Formals : first.OfFormal → second.OfFormal → third.OfFormal → Type 0
  pub Returns : first.OfReturned → second.OfReturned → third.OfReturned → Type 0
  pub Signatures : first.OfSignature → second.OfSignature → third.OfSignature → Type 0

same_three : {A B C : Type 0} (R : A → B → C → Type 0) {a b : A} {c d : B} {e f : C} → a ≡ b → c ≡ d → e ≡ f → R a c e → R b d f
same_three R {a = a} {b = b} {c = c} {d = d} {e = e} {f = f} first second third related = subst (λ x. R x d f) first (subst (λ x. R a x f) second (subst (λ x. R a c x) third related))

module _ (R : Related) where
  abbrev TypeAt : TypeTree → Type 0
  TypeAt tree = R.Types (of_type R.first tree) (of_type R.second tree) (of_type R.third tree)

  abbrev FormalAt : Formal → Type 0
  FormalAt tree = R.Formals (of_formal R.first tree) (of_formal R.second tree) (of_formal R.third tree)

  abbrev ReturnedAt : Returned → Type 0
  ReturnedAt tree = R.Returns (of_returned R.first tree) (of_returned R.second tree) (of_returned R.third tree)

  abbrev SignatureAt : Signature → Type 0
  SignatureAt tree = R.Signatures (of_signature R.first tree) (of_signature R.second tree) (of_signature R.third tree)

  -- trees of which it is known
  abbrev KnownType : Type 0
  KnownType = (tree : TypeTree) × TypeAt tree

  abbrev pub KnownFormal : Type 0
  KnownFormal = (tree : Formal) × FormalAt tree

  abbrev pub KnownReturned : Type 0
  KnownReturned = (tree : Returned) × ReturnedAt tree

  abbrev KnownSignature : Type 0
  KnownSignature = (tree : Signature) × SignatureAt tree

  -- layers with such parts
  abbrev pub TypeNode : Type 0
  TypeNode = TypeTree-F KnownType KnownFormal KnownReturned KnownSignature

  abbrev pub FormalNode : Type 0
  FormalNode = Formal-F KnownType KnownFormal KnownReturned KnownSignature

  abbrev pub ReturnedNode : Type 0
  ReturnedNode = Returned-F KnownType KnownFormal KnownReturned KnownSignature

  abbrev pub SignatureNode : Type 0
  SignatureNode = Signature-F KnownType KnownFormal KnownReturned KnownSignature

  abbrev bare_type : TypeNode → TypeTree-F TypeTree Formal Returned Signature
  bare_type = map-TypeTree KnownType KnownFormal KnownReturned KnownSignature TypeTree Formal Returned Signature (λ e. e.0) (λ e. e.0) (λ e. e.0) (λ e. e.0)

  abbrev bare_formal : FormalNode → Formal-F TypeTree Formal Returned Signature
  bare_formal = map-Formal KnownType KnownFormal KnownReturned KnownSignature TypeTree Formal Returned Signature (λ e. e.0) (λ e. e.0) (λ e. e.0) (λ e. e.0)

  abbrev bare_returned : ReturnedNode → Returned-F TypeTree Formal Returned Signature
  bare_returned = map-Returned KnownType KnownFormal KnownReturned KnownSignature TypeTree Formal Returned Signature (λ e. e.0) (λ e. e.0) (λ e. e.0) (λ e. e.0)

  abbrev pub bare_signature : SignatureNode → Signature-F TypeTree Formal Returned Signature
  bare_signature = map-Signature KnownType KnownFormal KnownReturned KnownSignature TypeTree Formal Returned Signature (λ e. e.0) (λ e. e.0) (λ e. e.0) (λ e. e.0)

  -- it holds of such a layer
  abbrev pub TypeFits : TypeNode → Type 0
  TypeFits y = R.Types (type_layer R.first (bare_type y)) (type_layer R.second (bare_type y)) (type_layer R.third (bare_type y))

  abbrev pub FormalFits : FormalNode → Type 0
  FormalFits y = R.Formals (formal_layer R.first (bare_formal y)) (formal_layer R.second (bare_formal y)) (formal_layer R.third (bare_formal y))

  abbrev pub ReturnedFits : ReturnedNode → Type 0
  ReturnedFits y = R.Returns (returned_layer R.first (bare_returned y)) (returned_layer R.second (bare_returned y)) (returned_layer R.third (bare_returned y))

  abbrev pub SignatureFits : SignatureNode → Type 0
  SignatureFits y = R.Signatures (signature_layer R.first (bare_signature y)) (signature_layer R.second (bare_signature y)) (signature_layer R.third (bare_signature y))

  pub record Layers : Type 0 where
    pub types : (y : TypeNode) → TypeFits y
    pub formals : (y : FormalNode) → FormalFits y
    pub returns : (y : ReturnedNode) → ReturnedFits y
    pub signatures : (y : SignatureNode) → SignatureFits y

  module _ (layers : Layers) where
    rolled_type : (x : TypeTree-F TypeTree Formal Returned Signature) (y : TypeNode) → bare_type y ≡ x → TypeAt (roll-TypeTree x)
    rolled_type x y is =
        subst (λ z. TypeAt (roll-TypeTree z)) is
        (same_three R.Types (type_rolls R.first (bare_type y)) (type_rolls R.second (bare_type y)) (type_rolls R.third (bare_type y)) (layers.types y))

    rolled_formal : (x : Formal-F TypeTree Formal Returned Signature) (y : FormalNode) → bare_formal y ≡ x → FormalAt (roll-Formal x)
    rolled_formal x y is =
        subst (λ z. FormalAt (roll-Formal z)) is
        (same_three R.Formals (formal_rolls R.first (bare_formal y)) (formal_rolls R.second (bare_formal y)) (formal_rolls R.third (bare_formal y)) (layers.formals y))

    rolled_returned : (x : Returned-F TypeTree Formal Returned Signature) (y : ReturnedNode) → bare_returned y ≡ x → ReturnedAt (roll-Returned x)
    rolled_returned x y is =
        subst (λ z. ReturnedAt (roll-Returned z)) is
        (same_three R.Returns (returned_rolls R.first (bare_returned y)) (returned_rolls R.second (bare_returned y)) (returned_rolls R.third (bare_returned y)) (layers.returns y))

    rolled_signature : (x : Signature-F TypeTree Formal Returned Signature) (y : SignatureNode) → bare_signature y ≡ x → SignatureAt (roll-Signature x)
    rolled_signature x y is =
        subst (λ z. SignatureAt (roll-Signature z)) is
        (same_three R.Signatures (signature_rolls R.first (bare_signature y)) (signature_rolls R.second (bare_signature y)) (signature_rolls R.third (bare_signature y)) (layers.signatures y))

    pub type_related : (tree : TypeTree) → TypeAt tree
    type_related = ind-TypeTree TypeAt FormalAt ReturnedAt SignatureAt rolled_type rolled_formal rolled_returned rolled_signature

    pub formal_related : (tree : Formal) → FormalAt tree
    formal_related = ind-Formal TypeAt FormalAt ReturnedAt SignatureAt rolled_type rolled_formal rolled_returned rolled_signature

    pub signature_related : (tree : Signature) → SignatureAt tree
    signature_related = ind-Signature TypeAt FormalAt ReturnedAt SignatureAt rolled_type rolled_formal rolled_returned rolled_signature

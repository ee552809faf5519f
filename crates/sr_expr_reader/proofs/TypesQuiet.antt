-- When the token after a type continues nothing at its right edge.
use Rattle.std.proofs.Common.{◌≡◌, refl, ap, Bool, true, false, List, [], ◌∷◌, Option}
use Rattle.std.specs.Prelude.{if◌then◌else◌}
use Rattle.sr_reader.specs.Reader.{next_is}
use Rattle.sr_tree.specs.declared.name.QualifiedName.{QualifiedName}
use Rattle.sr_tree.specs.declared.token.Sign.TheVariants as sign
use Rattle.sr_tree.specs.declared.token.Token.{Token}
use Rattle.sr_tree.specs.declared.token.TokenKind.{TokenKind}
use Rattle.sr_tree.specs.declared.token.Word.TheVariants as word
use Rattle.sr_tree.specs.declared.types.InvocationKind.{InvocationKind}
use Rattle.sr_tree.specs.declared.types.Returned.{Returned}
use Rattle.sr_tree.specs.declared.types.Signature.{Signature}
use Rattle.sr_tree.specs.declared.types.TypePlace.{TypePlace}
use Rattle.sr_tree.specs.declared.types.TypeTree.{TypeTree}
use Rattle.sr_tree.specs.Expressions as names
use Rattle.sr_tree.specs.Expressions.{SpellsQualifiedName}
use Rattle.sr_tree.specs.Tables.{IsSign}
use Rattle.sr_tree.specs.Tests.{is_sign, is_word}
use Rattle.sr_tree.specs.Types as g
use Rattle.sr_tree.specs.Types.{SpellsKinds, SpellsPlainTypeIn, SpellsReturnedIn, SpellsSignatureIn, SpellsTypeIn, EndsOpen}
use Rattle.sr_expr_reader.specs.TypeReaders.{ends_open}
use Rattle.sr_expr_reader.proofs.TypesOpen.{no-kinds-open}

unfoldable pub QuietName : {n : QualifiedName} {u : List Token} → SpellsQualifiedName n u → List Token → Type 0
QuietName (names.plain n h) q = next_is (λ t. is_sign sign.Point t.kind) q ≡ false
QuietName (names.qualified n p m h i j) q = Unit {0}

unfoldable mutual
  pub QuietPlainType : {p : TypePlace} {t : TypeTree} {u : List Token} → SpellsPlainTypeIn p t u → List Token → Type 0
  QuietPlainType (g.int t h) q = Unit {0}
  QuietPlainType (g.bool t h) q = Unit {0}
  QuietPlainType (g.char t h) q = Unit {0}
  QuietPlainType (g.string t o k h i d j) q = Unit {0}
  QuietPlainType (g.string_of_any_length t o s k h i j l) q = Unit {0}
  QuietPlainType (g.cap_of t h d) q = QuietName d q
  QuietPlainType (g.cap_machine t v h i) q = Unit {0}
  QuietPlainType (g.cap_operation t h d) q = QuietSignature d q
  QuietPlainType (g.array d i) q = QuietType i q
  QuietPlainType (g.named d) q = QuietName d q

  pub QuietType : {p : TypePlace} {t : TypeTree} {u : List Token} → SpellsTypeIn p t u → List Token → Type 0
  QuietType (g.plain d) q = QuietPlainType d q
  QuietType (g.enum t o k m h i d j) q = Unit {0}
  QuietType (g.record_of t o k m h i d n j) q = Unit {0}

  pub QuietSignature : {p : TypePlace} {s : Signature} {u : List Token} → SpellsSignatureIn p s u → List Token → Type 0
  QuietSignature (g.signature f r k b) q = QuietTail k r q

  pub QuietTail : {p : TypePlace} {ks : List InvocationKind} {x : Option Returned} {v w : List Token} → SpellsKinds ks w → SpellsReturnedIn p x v → List Token → Type 0
  QuietTail (g.kinds o t c w k h i e m j) r q = Unit {0}
  QuietTail g.no_kinds g.returns_nothing q = (next_is (λ t. is_word word.Returns t.kind) q ≡ false) × (next_is (λ t. is_sign sign.OpenBrace t.kind) q ≡ false)
  QuietTail g.no_kinds (g.returned {t = t} w c h d i e) q = QuietType e q × (ends_open t ≡ false → next_is (λ s. is_sign sign.OpenBrace s.kind) q ≡ false)

-- what may end each type
pub record TypeStops (q : List Token) : Type 0 where
  pub point : next_is (λ t. is_sign sign.Point t.kind) q ≡ false
  pub brace : next_is (λ t. is_sign sign.OpenBrace t.kind) q ≡ false
  pub returns : next_is (λ t. is_word word.Returns t.kind) q ≡ false

-- which tokens may continue a type
abbrev pub continues_type : TokenKind → Bool
continues_type k = if is_sign sign.Point k then true else if is_sign sign.OpenBrace k then true else is_word word.Returns k

pub token-stops-type : (t : Token) (q : List Token) → continues_type t.kind ≡ false → TypeStops (t ∷ q)
token-stops-type t q h = go (is_sign sign.Point t.kind) (is_sign sign.OpenBrace t.kind) (is_word word.Returns t.kind) refl refl refl h
  where
    differ : true ≡ false → ⊥
    differ e = cc

    go : (a b c : Bool) → is_sign sign.Point t.kind ≡ a → is_sign sign.OpenBrace t.kind ≡ b → is_word word.Returns t.kind ≡ c
        → (if a then true else if b then true else c) ≡ false → TypeStops (t ∷ q)
    go true b c i j k e = absurd (differ e)
    go false true c i j k e = absurd (differ e)
    go false false true i j k e = absurd (differ e)
    go false false false i j k e = record { point = i; brace = j; returns = k }

pub end-stops-type : TypeStops []
end-stops-type = record { point = refl; brace = refl; returns = refl }

stops_name : {n : QualifiedName} {u : List Token} (d : SpellsQualifiedName n u) (q : List Token) → next_is (λ t. is_sign sign.Point t.kind) q ≡ false → QuietName d q
unfolding QuietName
stops_name (names.plain n h) q e = e
stops_name (names.qualified n p m h i j) q e = tt

mutual
  unfolding QuietPlainType

  pub stops-quiet-plain-type : {p : TypePlace} {t : TypeTree} {u : List Token} (d : SpellsPlainTypeIn p t u) (q : List Token) → TypeStops q → QuietPlainType d q
  stops-quiet-plain-type (g.int t h) q st = tt
  stops-quiet-plain-type (g.bool t h) q st = tt
  stops-quiet-plain-type (g.char t h) q st = tt
  stops-quiet-plain-type (g.string t o k h i d j) q st = tt
  stops-quiet-plain-type (g.string_of_any_length t o s k h i j l) q st = tt
  stops-quiet-plain-type (g.cap_of t h d) q st = stops_name d q st.point
  stops-quiet-plain-type (g.cap_machine t v h i) q st = tt
  stops-quiet-plain-type (g.cap_operation t h d) q st = stops-quiet-signature d q st
  stops-quiet-plain-type (g.array d i) q st = stops-quiet-type i q st
  stops-quiet-plain-type (g.named d) q st = stops_name d q st.point

  pub stops-quiet-type : {p : TypePlace} {t : TypeTree} {u : List Token} (d : SpellsTypeIn p t u) (q : List Token) → TypeStops q → QuietType d q
  stops-quiet-type (g.plain d) q st = stops-quiet-plain-type d q st
  stops-quiet-type (g.enum t o k m h i d j) q st = tt
  stops-quiet-type (g.record_of t o k m h i d n j) q st = tt

  pub stops-quiet-signature : {p : TypePlace} {s : Signature} {u : List Token} (d : SpellsSignatureIn p s u) (q : List Token) → TypeStops q → QuietSignature d q
  stops-quiet-signature (g.signature f r k b) q st = stops_tail k r q st

  stops_tail : {p : TypePlace} {ks : List InvocationKind} {x : Option Returned} {v w : List Token} (k : SpellsKinds ks w) (r : SpellsReturnedIn p x v) (q : List Token) → TypeStops q → QuietTail k r q
  stops_tail (g.kinds o t c w k h i e m j) r q st = tt
  stops_tail g.no_kinds g.returns_nothing q st = (st.returns, st.brace)
  stops_tail g.no_kinds (g.returned w c h d i e) q st = (stops-quiet-type e q st, λ f. st.brace)

kinds_quiet : {p : TypePlace} {ks : List InvocationKind} {x : Option Returned} {v w : List Token} (k : SpellsKinds ks w) (r : SpellsReturnedIn p x v) (q : List Token) → ¬ (ks ≡ []) → QuietTail k r q
unfolding QuietPlainType
kinds_quiet (g.kinds o t c w k h i e m j) r q n = tt
kinds_quiet g.no_kinds r q n = absurd (n refl)

-- braces after a type that doesn't end in a signature without them
mutual
  unfolding QuietPlainType

  pub braces-quiet : {p : TypePlace} {t : TypeTree} {u : List Token} (d : SpellsPlainTypeIn p t u) (o : Token) (q : List Token) → IsSign sign.OpenBrace o → ¬ EndsOpen t → QuietPlainType d (o ∷ q)
  braces-quiet (g.int t h) o q b n = tt
  braces-quiet (g.bool t h) o q b n = tt
  braces-quiet (g.char t h) o q b n = tt
  braces-quiet (g.string t x k h i d j) o q b n = tt
  braces-quiet (g.string_of_any_length t x s k h i j l) o q b n = tt
  braces-quiet (g.cap_of t h d) o q b n = stops_name d (o ∷ q) (ap (is_sign sign.Point) b)
  braces-quiet (g.cap_machine t v h i) o q b n = tt
  braces-quiet (g.cap_operation t h (g.signature {fs = fs} {r = x} {u = u} f r k y)) o q b n = kinds_quiet k r (o ∷ q) (λ e. n (no-kinds-open t.span (g.formal_span u) fs x _ e))
  braces-quiet (g.array {d = d} {item = item} x i) o q b n = braces-quiet-type i o q b (λ e. n (g.array item e))
  braces-quiet (g.named d) o q b n = stops_name d (o ∷ q) (ap (is_sign sign.Point) b)

  pub braces-quiet-type : {p : TypePlace} {t : TypeTree} {u : List Token} (d : SpellsTypeIn p t u) (o : Token) (q : List Token) → IsSign sign.OpenBrace o → ¬ EndsOpen t → QuietType d (o ∷ q)
  braces-quiet-type (g.plain d) o q b n = braces-quiet d o q b n
  braces-quiet-type (g.enum t x k m h i d j) o q b n = tt
  braces-quiet-type (g.record_of t x k m h i d l j) o q b n = tt

-- Which types end in a signature with no braces.
use Rattle.std.proofs.Common.{◌≡◌, refl, sym, ◌∙◌, ap, Bool, true, false, List, [], ◌∷◌, Option, Some, None}
use Rattle.sr_value.specs.declared.place.Span.{Span}
use Rattle.sr_tree.specs.declared.expr.Expr.{Expr}
use Rattle.sr_tree.specs.declared.name.Name.{Name}
use Rattle.sr_tree.specs.declared.name.QualifiedName.{QualifiedName}
use Rattle.sr_tree.specs.declared.token.Token.{Token}
use Rattle.sr_tree.specs.declared.types.DimsTree.{DimsTree}
use Rattle.sr_tree.specs.declared.types.Formal.{Formal}
use Rattle.sr_tree.specs.declared.types.InvocationKind.{InvocationKind}
use Rattle.sr_tree.specs.declared.types.Returned.{Returned}
use Rattle.sr_tree.specs.declared.types.Signature.{Signature, out-Signature, roll-Signature, fold_out-Signature}
use Rattle.sr_tree.specs.declared.types.TypePlace.{TypePlace}
use Rattle.sr_tree.specs.declared.types.TypeTree.{TypeTree, fold-roll-TypeTree}
use Rattle.sr_tree.specs.declared.types.TypeTree.TheOpen.{TypeTree-F}
use Rattle.sr_tree.specs.declared.types.TypeTree.TheVariants as ty
use Rattle.sr_tree.specs.Types as g
use Rattle.sr_tree.specs.Types.{EndsOpen, SpellsPlainTypeIn, SpellsTypeIn}
use Rattle.sr_expr_reader.specs.TypeReaders.{ends_open, has_no_kinds, type_ends_open}

pub operation-open : (s : Span) (x : Signature) → ends_open (ty.CapOperation s x) ≡ has_no_kinds (out-Signature x).kinds
unfolding ends_open
operation-open s x =
    ap ends_open (sym (ty.rolls-CapOperation s x))
    ∙ fold-roll-TypeTree Bool Bool Bool Bool type_ends_open (λ formal. false) (λ returned. false) (λ signature. has_no_kinds signature.kinds) (TypeTree-F.CapOperation s x)
    ∙ fold_out-Signature Bool Bool Bool Bool type_ends_open (λ formal. false) (λ returned. false) (λ signature. has_no_kinds signature.kinds) x

pub array-open : (s : Span) (d : DimsTree) (t : TypeTree) → ends_open (ty.Array s d t) ≡ ends_open t
unfolding ends_open
array-open s d t =
    ap ends_open (sym (ty.rolls-Array s d t))
    ∙ fold-roll-TypeTree Bool Bool Bool Bool type_ends_open (λ formal. false) (λ returned. false) (λ signature. has_no_kinds signature.kinds) (TypeTree-F.Array s d t)

open-is : (t : TypeTree) → EndsOpen t → ends_open t ≡ true
open-is t (g.operation {span = s} x h) = operation-open s x ∙ ap has_no_kinds h
open-is t (g.array {span = s} {dims = d} item o) = array-open s d item ∙ open-is item o

pub closed-type : (t : TypeTree) → ends_open t ≡ false → ¬ EndsOpen t
closed-type t h o = differs (sym (open-is t o) ∙ h)
  where
    differs : true ≡ false → ⊥
    differs e = cc

pub no-kinds-open : (s z : Span) (fs : List Formal) (x : Option Returned) (ks : List InvocationKind) → ks ≡ []
    → EndsOpen (ty.CapOperation s (roll-Signature (record { span = z; formals = fs; returned = x; kinds = ks })))
unfolding out-Signature roll-Signature denote.Hole.Carrier.out denote.Hole.Carrier.roll
no-kinds-open s z fs x ks e = g.operation (roll-Signature (record { span = z; formals = fs; returned = x; kinds = ks })) e

-- the other types end in none
int-closed : (s : Span) → ends_open (ty.Int s) ≡ false
unfolding ends_open
int-closed s = ap ends_open (sym (ty.rolls-Int s)) ∙ fold-roll-TypeTree Bool Bool Bool Bool type_ends_open (λ formal. false) (λ returned. false) (λ signature. has_no_kinds signature.kinds) (TypeTree-F.Int s)

bool-closed : (s : Span) → ends_open (ty.Bool s) ≡ false
unfolding ends_open
bool-closed s = ap ends_open (sym (ty.rolls-Bool s)) ∙ fold-roll-TypeTree Bool Bool Bool Bool type_ends_open (λ formal. false) (λ returned. false) (λ signature. has_no_kinds signature.kinds) (TypeTree-F.Bool s)

char-closed : (s : Span) → ends_open (ty.Char s) ≡ false
unfolding ends_open
char-closed s = ap ends_open (sym (ty.rolls-Char s)) ∙ fold-roll-TypeTree Bool Bool Bool Bool type_ends_open (λ formal. false) (λ returned. false) (λ signature. has_no_kinds signature.kinds) (TypeTree-F.Char s)

string-closed : (s : Span) (l : Option Expr) → ends_open (ty.Str s l) ≡ false
unfolding ends_open
string-closed s l = ap ends_open (sym (ty.rolls-Str s l)) ∙ fold-roll-TypeTree Bool Bool Bool Bool type_ends_open (λ formal. false) (λ returned. false) (λ signature. has_no_kinds signature.kinds) (TypeTree-F.Str s l)

cap-closed : (s : Span) (q : QualifiedName) → ends_open (ty.CapOf s q) ≡ false
unfolding ends_open
cap-closed s q = ap ends_open (sym (ty.rolls-CapOf s q)) ∙ fold-roll-TypeTree Bool Bool Bool Bool type_ends_open (λ formal. false) (λ returned. false) (λ signature. has_no_kinds signature.kinds) (TypeTree-F.CapOf s q)

machine-closed : (s : Span) → ends_open (ty.CapMachine s) ≡ false
unfolding ends_open
machine-closed s = ap ends_open (sym (ty.rolls-CapMachine s)) ∙ fold-roll-TypeTree Bool Bool Bool Bool type_ends_open (λ formal. false) (λ returned. false) (λ signature. has_no_kinds signature.kinds) (TypeTree-F.CapMachine s)

named-closed : (s : Span) (q : QualifiedName) → ends_open (ty.Named s q) ≡ false
unfolding ends_open
named-closed s q = ap ends_open (sym (ty.rolls-Named s q)) ∙ fold-roll-TypeTree Bool Bool Bool Bool type_ends_open (λ formal. false) (λ returned. false) (λ signature. has_no_kinds signature.kinds) (TypeTree-F.Named s q)

enum-closed : (s : Span) (ns : List Name) → ends_open (ty.Enum s ns) ≡ false
unfolding ends_open
enum-closed s ns = ap ends_open (sym (ty.rolls-Enum s ns)) ∙ fold-roll-TypeTree Bool Bool Bool Bool type_ends_open (λ formal. false) (λ returned. false) (λ signature. has_no_kinds signature.kinds) (TypeTree-F.Enum s ns)

record-closed : (s : Span) (fs : List Formal) → ends_open (ty.Rec s fs) ≡ false
unfolding ends_open
record-closed s fs = ap ends_open (sym (ty.rolls-Rec s fs)) ∙ fold-roll-TypeTree Bool Bool Bool Bool type_ends_open (λ formal. false) (λ returned. false) (λ signature. has_no_kinds signature.kinds) (TypeTree-F.Rec s fs)

differ : true ≡ false → ⊥
differ e = cc

empty : {A : Type 0} (ks : List A) → has_no_kinds ks ≡ true → ks ≡ []
empty [] e = refl
empty (k ∷ ks) e = absurd (differ (sym e))

-- a type that is spelled ends in one where the test says so
mutual
  pub spelled-open : {p : TypePlace} {t : TypeTree} {u : List Token} → SpellsPlainTypeIn p t u → ends_open t ≡ true → EndsOpen t
  spelled-open (g.int t h) e = absurd (differ (sym e ∙ int-closed t.span))
  spelled-open (g.bool t h) e = absurd (differ (sym e ∙ bool-closed t.span))
  spelled-open (g.char t h) e = absurd (differ (sym e ∙ char-closed t.span))
  spelled-open (g.string {e = l} t o k h i d j) e = absurd (differ (sym e ∙ string-closed t.span (Some l)))
  spelled-open (g.string_of_any_length t o s k h i j l) e = absurd (differ (sym e ∙ string-closed t.span None))
  spelled-open (g.cap_of {q = q} t h d) e = absurd (differ (sym e ∙ cap-closed t.span q))
  spelled-open (g.cap_machine t v h i) e = absurd (differ (sym e ∙ machine-closed t.span))
  spelled-open (g.cap_operation {s = x} t h d) e = g.operation x (empty (out-Signature x).kinds (sym (operation-open t.span x) ∙ e))
  spelled-open (g.array {d = d} {item = item} x i) e = g.array item (spelled-open-type i (sym (array-open d.span d item) ∙ e))
  spelled-open (g.named {q = q} d) e = absurd (differ (sym e ∙ named-closed q.span q))

  pub spelled-open-type : {p : TypePlace} {t : TypeTree} {u : List Token} → SpellsTypeIn p t u → ends_open t ≡ true → EndsOpen t
  spelled-open-type (g.plain d) e = spelled-open d e
  spelled-open-type (g.enum {ns = ns} t o k m h i d j) e = absurd (differ (sym e ∙ enum-closed t.span ns))
  spelled-open-type (g.record_of {f = f} {fs = fs} t o k m h i d n j) e = absurd (differ (sym e ∙ record-closed t.span (f ∷ fs)))

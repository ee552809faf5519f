-- Where the token after an expression continues its right edge, some longer list spells an expression.
use Rattle.std.proofs.Common.{◌≡◌, refl, sym, ◌∙◌, ap, subst, ℕ, Bool, true, false, List, [], ◌∷◌, ◌++◌, Option, Some, None, ◌⊎◌, inl, inr, append_assoc}
use Rattle.std.specs.Prelude.{nat_lt, nat_le, if◌then◌else◌}
use Rattle.std.proofs.lemmas.Bool.{ltb-true, leb-true}
use Rattle.sr_tree.specs.declared.expr.BasicType.{BasicType}
use Rattle.sr_tree.specs.declared.expr.BasicType.TheVariants as basic
use Rattle.sr_tree.specs.declared.expr.BinaryOperator.{BinaryOperator}
use Rattle.sr_tree.specs.declared.expr.Conversion.{Conversion}
use Rattle.sr_tree.specs.declared.expr.Create.{Create}
use Rattle.sr_tree.specs.declared.expr.Create.TheVariants as create
use Rattle.sr_tree.specs.declared.expr.Expr.{Expr, out-Expr}
use Rattle.sr_tree.specs.declared.expr.Expr.TheVariants as expr
use Rattle.sr_tree.specs.declared.token.Sign.TheVariants as sign
use Rattle.sr_tree.specs.declared.token.Token.{Token}
use Rattle.sr_tree.specs.declared.token.TokenKind.{TokenKind}
use Rattle.sr_tree.specs.declared.token.TokenKind.TheVariants as kind
use Rattle.sr_tree.specs.declared.token.Word.TheVariants as word
use Rattle.sr_tree.specs.Expressions as g
use Rattle.sr_tree.specs.Expressions.{SpellsExpr, SpellsFactor, SpellsCreate, SpellsOn, SpellsPrimary, expr_span, invocation, is_conversion_word}
use Rattle.sr_tree.specs.Tables.{IsSign, name_of, conversion_of, binary_of, right_level, left_level}
use Rattle.sr_tree.specs.Tests.{is_sign, is_word}
use Rattle.sr_expr_reader.specs.Readers.{level_of, may_follow, is_operator}
use Rattle.sr_expr_reader.proofs.ExpressionsSound.{alone, at_level, both}
use Rattle.sr_expr_reader.proofs.Quiet.{QuietExpr, QuietFactor, QuietCreate, QuietOn}
use Rattle.sr_expr_reader.proofs.TokensSound.{kind_of_sign, kind_of_word}
use Rattle.sr_expr_reader.proofs.TokensComplete.{basic_cases, continues}

-- a token of a kind
pub with_kind : Token → TokenKind → Token
with_kind t k = record { kind = k; text = []; span = t.span }

pub has-kind : (t : Token) (k : TokenKind) → (with_kind t k).kind ≡ k
unfolding with_kind
has-kind t k = refl

name-kind : (t : Token) → (with_kind t kind.Name).kind ≡ kind.Name
unfolding with_kind
name-kind t = refl

close-kind : (t : Token) → IsSign sign.CloseParen (with_kind t (kind.Sign sign.CloseParen))
unfolding with_kind
close-kind t = refl

bracket-kind : (t : Token) → IsSign sign.CloseBracket (with_kind t (kind.Sign sign.CloseBracket))
unfolding with_kind
bracket-kind t = refl

abbrev some-tree : Token → Expr
some-tree t = expr.Name (name_of (with_kind t kind.Name))

some-primary : (t : Token) → SpellsPrimary (some-tree t) (with_kind t kind.Name ∷ [])
some-primary t = g.name (with_kind t kind.Name) (name-kind t)

some-expr : (m : ℕ) (t : Token) → SpellsExpr m (some-tree t) (with_kind t kind.Name ∷ [])
some-expr m t = g.factor (g.primary (some-primary t))

-- a list that begins with another and a token spells something
pub record Extends (Spells : Expr → List Token → Type 0) (u : List Token) (t : Token) : Type 0 where
  pub tree : Expr
  pub more : List Token
  pub spelled : Spells tree (u ++ t ∷ more)

-- `int` and `char` alone
conversion-alone : {e : Expr} {u : List Token} → SpellsPrimary e u → is_conversion_word e ≡ true → (t : Token) × (c : Conversion) × (u ≡ t ∷ []) × (conversion_of t.kind ≡ Some c)
unfolding out-Expr denote.Hole.Carrier.out
conversion-alone (g.basic_type t b h) e = by_case (basic_cases t.kind b h)
  where
    not_bool : (b : BasicType) → b ≡ basic.Bool → is_conversion_word (expr.BasicType t.span b) ≡ true → ⊥
    not_bool b i e = differs (ap (λ x. elim x [ basic.Int ↦ true | basic.Char ↦ true | basic.Bool ↦ false ]) (sym i) ∙ e)
      where
        differs : false ≡ true → ⊥
        differs h = cc

    by_case : ((c : Conversion) × (conversion_of t.kind ≡ Some c) × (alone c ≡ Some b)) ⊎ ((t.kind ≡ kind.Word word.Bool) × (b ≡ basic.Bool))
        → (s : Token) × (c : Conversion) × (t ∷ [] ≡ s ∷ []) × (conversion_of s.kind ≡ Some c)
    by_case (inl x) = (t, x.0, refl, x.1)
    by_case (inr x) = absurd (not_bool b x.1 e)
conversion-alone (g.literal t l h) e = cc
conversion-alone (g.name t h) e = cc
conversion-alone (g.conversion t o k c h i d j) e = cc
conversion-alone (g.group o k h d i) e = cc
conversion-alone (g.parts o k h d m a i) e = cc
conversion-alone (g.field p n d h i) e = cc
conversion-alone (g.index o k d h f s i) e = cc
conversion-alone (g.call o k d n h a i) e = cc

-- a primary is continued by a point and by opening brackets
primary-extends : {e : Expr} {u : List Token} (d : SpellsPrimary e u) (t : Token) → continues t ≡ true → Extends SpellsPrimary u t
primary-extends {e = e} {u = u} d t h = by_point (is_sign sign.Point t.kind) refl
  where
    by_conversion : (b : Bool) → is_conversion_word e ≡ b → IsSign sign.OpenParen t → Extends SpellsPrimary u t
    by_conversion false i j = record {
      tree = expr.Call (invocation e []);
      more = with_kind t (kind.Sign sign.CloseParen) ∷ [];
      spelled = g.call t (with_kind t (kind.Sign sign.CloseParen)) d i j g.no_arguments (close-kind t);
    }
    by_conversion true i j =
        let x = conversion-alone d i in
        record {
          tree = expr.Conversion x.0.span x.1 (some-tree t);
          more = with_kind t kind.Name ∷ with_kind t (kind.Sign sign.CloseParen) ∷ [];
          spelled = subst (λ w. SpellsPrimary (expr.Conversion x.0.span x.1 (some-tree t)) (w ++ t ∷ with_kind t kind.Name ∷ with_kind t (kind.Sign sign.CloseParen) ∷ [])) (sym x.2)
              (g.conversion x.0 t (with_kind t (kind.Sign sign.CloseParen)) x.1 x.3 j (some-expr 5 t) (close-kind t));
        }

    by_paren : (b : Bool) → is_sign sign.OpenParen t.kind ≡ b → b ≡ true → Extends SpellsPrimary u t
    by_paren b i j = by_conversion (is_conversion_word e) refl (kind_of_sign sign.OpenParen t.kind (i ∙ j))

    by_bracket : (b : Bool) → is_sign sign.OpenBracket t.kind ≡ b → (if b then true else is_sign sign.OpenParen t.kind) ≡ true → Extends SpellsPrimary u t
    by_bracket true i j = record {
      tree = expr.Index (expr_span e) e (some-tree t) None;
      more = with_kind t kind.Name ∷ with_kind t (kind.Sign sign.CloseBracket) ∷ [];
      spelled = g.index t (with_kind t (kind.Sign sign.CloseBracket)) d (kind_of_sign sign.OpenBracket t.kind i) (some-expr 5 t) g.no_second (bracket-kind t);
    }
    by_bracket false i j = by_paren (is_sign sign.OpenParen t.kind) refl j

    by_point : (b : Bool) → is_sign sign.Point t.kind ≡ b → Extends SpellsPrimary u t
    by_point true i = record {
      tree = expr.Field (expr_span e) e (name_of (with_kind t kind.Name));
      more = with_kind t kind.Name ∷ [];
      spelled = g.field t (with_kind t kind.Name) d (kind_of_sign sign.Point t.kind i) (name-kind t);
    }
    by_point false i = by_bracket (is_sign sign.OpenBracket t.kind) refl
        (sym (ap (λ b. if b then true else if is_sign sign.OpenBracket t.kind then true else is_sign sign.OpenParen t.kind) i) ∙ h)

-- a longer list that spells a making
record ExtendsCreate (u : List Token) (t : Token) : Type 0 where
  tree : Create
  more : List Token
  spelled : SpellsCreate tree (u ++ t ∷ more)

record ExtendsOn (u : List Token) (t : Token) : Type 0 where
  tree : Option Expr
  more : List Token
  spelled : SpellsOn tree (u ++ t ∷ more)

-- one more operator
operator-extends : (m : ℕ) (e : Expr) (u : List Token) (d : SpellsExpr m e u) (t : Token) → is_operator m e t ≡ true → Extends (SpellsExpr m) u t
operator-extends m e u d t h = go (binary_of t.kind) refl h
  where
    go : (x : Option BinaryOperator) → binary_of t.kind ≡ x → may_follow m e x ≡ true → Extends (SpellsExpr m) u t
    go None i j = cc
    go (Some o) i j =
        let fits = both (nat_lt (right_level o) m) (nat_le (level_of e) (left_level o)) j in
        record {
          tree = expr.Binary (expr_span e) e o (some-tree t);
          more = with_kind t kind.Name ∷ [];
          spelled = g.binary t o i (ltb-true _ _ fits.0) (at_level m (left_level o) e u d (leb-true _ _ fits.1)) (some-expr (right_level o) t);
        }

on-extends : {m : Option Expr} {u : List Token} (d : SpellsOn m u) (t : Token) (q : List Token) → QuietOn d (t ∷ q) ⊎ ExtendsOn u t
unfolding QuietExpr
on-extends g.not_on t q = go (is_word word.On t.kind) refl
  where
    go : (b : Bool) → is_word word.On t.kind ≡ b → (is_word word.On t.kind ≡ false) ⊎ ExtendsOn [] t
    go true h = inr (record { tree = Some (some-tree t); more = with_kind t kind.Name ∷ []; spelled = g.on_machine t (kind_of_word word.On t.kind h) (some-primary t) })
    go false h = inl h
on-extends (g.on_machine {e = e} {u = u} s h d) t q = go (continues t) refl
  where
    go : (b : Bool) → continues t ≡ b → (continues t ≡ false) ⊎ ExtendsOn (s ∷ u) t
    go true i = let x = primary-extends d t i in inr (record { tree = Some x.tree; more = x.more; spelled = g.on_machine s h x.spelled })
    go false i = inl i

create-extends : {c : Create} {u : List Token} (d : SpellsCreate c u) (t : Token) (q : List Token) → QuietCreate d (t ∷ q) ⊎ ExtendsCreate u t
unfolding QuietExpr
create-extends (g.machine s v o k h i j l) t q = inl tt
create-extends (g.resource {q = y} {es = z} {u = u} {v = v} {w = w} s o k h n i d j on) t q = go (on-extends on t q)
  where
    go : (QuietOn on (t ∷ q)) ⊎ ExtendsOn w t → (QuietOn on (t ∷ q)) ⊎ ExtendsCreate (s ∷ (u ++ o ∷ (v ++ k ∷ w))) t
    go (inl x) = inl x
    go (inr x) = inr (record {
      tree = create.Resource s.span y z x.tree;
      more = x.more;
      spelled = subst (λ r. SpellsCreate (create.Resource s.span y z x.tree) (s ∷ r))
          (ap (λ r. u ++ o ∷ r) (sym (append_assoc v (k ∷ w) (t ∷ x.more))) ∙ sym (append_assoc u (o ∷ (v ++ k ∷ w)) (t ∷ x.more)))
          (g.resource s o k h n i d j x.spelled);
    })

factor-extends : {e : Expr} {u : List Token} (d : SpellsFactor e u) (t : Token) (q : List Token) → QuietFactor d (t ∷ q) ⊎ Extends SpellsFactor u t
unfolding QuietExpr
factor-extends (g.pending s n h i) t q = inl tt
factor-extends (g.creates {u = u} d) t q = go (create-extends d t q)
  where
    go : QuietCreate d (t ∷ q) ⊎ ExtendsCreate u t → QuietCreate d (t ∷ q) ⊎ Extends SpellsFactor u t
    go (inl x) = inl x
    go (inr x) = inr (record { tree = expr.Create x.tree; more = x.more; spelled = g.creates x.spelled })
factor-extends (g.primary {u = u} d) t q = go (continues t) refl
  where
    go : (b : Bool) → continues t ≡ b → (continues t ≡ false) ⊎ Extends SpellsFactor u t
    go true h = let x = primary-extends d t h in inr (record { tree = x.tree; more = x.more; spelled = g.primary x.spelled })
    go false h = inl h
factor-extends (g.unary {u = u} s o h d) t q = go (factor-extends d t q)
  where
    go : QuietFactor d (t ∷ q) ⊎ Extends SpellsFactor u t → QuietFactor d (t ∷ q) ⊎ Extends SpellsFactor (s ∷ u) t
    go (inl x) = inl x
    go (inr x) = inr (record { tree = expr.Unary s.span o x.tree; more = x.more; spelled = g.unary s o h x.spelled })

by_operator : (m : ℕ) (e : Expr) (u : List Token) (d : SpellsExpr m e u) (t : Token) (Q : Type 0) → Q → (b : Bool) → is_operator m e t ≡ b
    → (Q × (is_operator m e t ≡ false)) ⊎ Extends (SpellsExpr m) u t
by_operator m e u d t Q x true h = inr (operator-extends m e u d t h)
by_operator m e u d t Q x false h = inl (x, h)

-- either the token is quiet at the right edge and no operator of the level, or it begins more
pub expr-extends : {m : ℕ} {e : Expr} {u : List Token} (d : SpellsExpr m e u) (t : Token) (q : List Token)
    → (QuietExpr d (t ∷ q) × (is_operator m e t ≡ false)) ⊎ Extends (SpellsExpr m) u t
unfolding QuietExpr
expr-extends {m = m} (g.factor {e = e} {u = u} d) t q = go (factor-extends d t q)
  where
    go : QuietFactor d (t ∷ q) ⊎ Extends SpellsFactor u t → (QuietFactor d (t ∷ q) × (is_operator m e t ≡ false)) ⊎ Extends (SpellsExpr m) u t
    go (inl x) = by_operator m e u (g.factor d) t (QuietFactor d (t ∷ q)) x (is_operator m e t) refl
    go (inr x) = inr (record { tree = x.tree; more = x.more; spelled = g.factor x.spelled })
expr-extends {m = m} (g.binary {a = a} {b = b} {u = u} {v = v} s o h i c d) t q = go (expr-extends d t q)
  where
    go : (QuietExpr d (t ∷ q) × (is_operator (right_level o) b t ≡ false)) ⊎ Extends (SpellsExpr (right_level o)) v t
        → ((QuietExpr d (t ∷ q) × (is_operator (right_level o) b t ≡ false)) × (is_operator m (expr.Binary (expr_span a) a o b) t ≡ false)) ⊎ Extends (SpellsExpr m) (u ++ s ∷ v) t
    go (inl x) = by_operator m (expr.Binary (expr_span a) a o b) (u ++ s ∷ v) (g.binary s o h i c d) t (QuietExpr d (t ∷ q) × (is_operator (right_level o) b t ≡ false)) x
        (is_operator m (expr.Binary (expr_span a) a o b) t) refl
    go (inr x) = inr (record {
      tree = expr.Binary (expr_span a) a o x.tree;
      more = x.more;
      spelled = subst (SpellsExpr m (expr.Binary (expr_span a) a o x.tree)) (sym (append_assoc u (s ∷ v) (t ∷ x.more))) (g.binary s o h i c x.spelled);
    })

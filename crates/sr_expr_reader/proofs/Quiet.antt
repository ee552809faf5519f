-- When the token after an expression continues nothing at its right edge.
use Rattle.std.proofs.Common.{◌≡◌, refl, ◌∙◌, ap, ℕ, ◌<◌, ◌≤◌, Bool, true, false, List, ◌∷◌, Option, Some, arith}
use Rattle.std.specs.Prelude.{◌&&◌, nat_lt, nat_le}
use Rattle.std.proofs.lemmas.Bool.{ltb-true, lt-ltb, le-leb}
use Rattle.sr_reader.specs.Reader.{next_is}
use Rattle.sr_tree.specs.declared.expr.BinaryOperator.{BinaryOperator}
use Rattle.sr_tree.specs.declared.expr.Create.{Create}
use Rattle.sr_tree.specs.declared.expr.Expr.{Expr, out-Expr}
use Rattle.sr_tree.specs.declared.token.Token.{Token}
use Rattle.sr_tree.specs.declared.token.Word.TheVariants as word
use Rattle.sr_tree.specs.Expressions as g
use Rattle.sr_tree.specs.Expressions.{SpellsExpr, SpellsFactor, SpellsCreate, SpellsOn, SpellsPrimary, expr_span}
use Rattle.sr_tree.specs.Tables.{binary_of, right_level, left_level}
use Rattle.sr_tree.specs.Tests.{is_word}
use Rattle.sr_expr_reader.specs.Readers.{level_of, may_follow, is_operator}
use Rattle.sr_expr_reader.proofs.ExpressionsSound.{level-binary}
use Rattle.sr_expr_reader.proofs.TokensComplete.{Stops, continues, stops-continued, stops-operator, only_operator, operator-continued, left-right}

unfoldable mutual
  pub QuietExpr : {m : ℕ} {e : Expr} {u : List Token} → SpellsExpr m e u → List Token → Type 0
  QuietExpr (g.factor d) q = QuietFactor d q
  QuietExpr (g.binary {b = b} t o h i a d) q = QuietExpr d q × (next_is (is_operator (right_level o) b) q ≡ false)

  pub QuietFactor : {e : Expr} {u : List Token} → SpellsFactor e u → List Token → Type 0
  QuietFactor (g.creates d) q = QuietCreate d q
  QuietFactor (g.primary d) q = next_is continues q ≡ false
  QuietFactor (g.unary t o h d) q = QuietFactor d q
  QuietFactor (g.pending t n h i) q = Unit {0}

  pub QuietCreate : {c : Create} {u : List Token} → SpellsCreate c u → List Token → Type 0
  QuietCreate (g.resource t o k h n i d j on) q = QuietOn on q
  QuietCreate (g.machine t v o k h i j l) q = Unit {0}

  pub QuietOn : {m : Option Expr} {u : List Token} → SpellsOn m u → List Token → Type 0
  QuietOn g.not_on q = next_is (λ t. is_word word.On t.kind) q ≡ false
  QuietOn (g.on_machine t h d) q = next_is continues q ≡ false

mutual
  unfolding QuietExpr

  pub stops-quiet : {m : ℕ} {e : Expr} {u : List Token} (d : SpellsExpr m e u) (q : List Token) → Stops q → QuietExpr d q
  stops-quiet (g.factor d) q st = stops-factor d q st
  stops-quiet (g.binary {b = b} t o h i a d) q st = (stops-quiet d q st, stops-operator (right_level o) b q st)

  stops-factor : {e : Expr} {u : List Token} (d : SpellsFactor e u) (q : List Token) → Stops q → QuietFactor d q
  stops-factor (g.creates d) q st = stops-create d q st
  stops-factor (g.primary d) q st = stops-continued q st
  stops-factor (g.unary t o h d) q st = stops-factor d q st
  stops-factor (g.pending t n h i) q st = tt

  stops-create : {c : Create} {u : List Token} (d : SpellsCreate c u) (q : List Token) → Stops q → QuietCreate d q
  stops-create (g.resource t o k h n i d j on) q st = stops-on on q st
  stops-create (g.machine t v o k h i j l) q st = tt

  stops-on : {m : Option Expr} {u : List Token} (d : SpellsOn m u) (q : List Token) → Stops q → QuietOn d q
  stops-on g.not_on q st = st.on
  stops-on (g.on_machine t h d) q st = stops-continued q st

-- an operator of a level is no operator of a tighter one
tighter : (limit : ℕ) (e : Expr) (o : BinaryOperator) → limit ≤ right_level o → may_follow limit e (Some o) ≡ false
tighter limit e o h = go (nat_lt (right_level o) limit) refl
  where
    go : (b : Bool) → nat_lt (right_level o) limit ≡ b → (b && nat_le (level_of e) (left_level o)) ≡ false
    go true i = absurd (omega (arith, h, ltb-true (right_level o) limit i))
    go false i = refl

-- nothing in an operand to the left of an operator is continued by it
module _ (t : Token) (o : BinaryOperator) (h : binary_of t.kind ≡ Some o) (w : List Token) where
  mutual
    unfolding QuietExpr

    pub operator-quiet : {m : ℕ} {e : Expr} {u : List Token} (d : SpellsExpr m e u) → m ≤ left_level o → QuietExpr d (t ∷ w)
    operator-quiet (g.factor d) i = operator-factor d
    operator-quiet (g.binary {b = b} s p j k a d) i =
        let l = left-right o in
        (operator-quiet d (omega (arith, i, k, l)), ap (may_follow (right_level p) b) h ∙ tighter (right_level p) b o (omega (arith, i, k, l)))

    operator-factor : {e : Expr} {u : List Token} (d : SpellsFactor e u) → QuietFactor d (t ∷ w)
    operator-factor (g.creates d) = operator-create d
    operator-factor (g.primary d) = operator-continued t o h
    operator-factor (g.unary s p j d) = operator-factor d
    operator-factor (g.pending s n j i) = tt

    operator-create : {c : Create} {u : List Token} (d : SpellsCreate c u) → QuietCreate d (t ∷ w)
    operator-create (g.resource s p k j n i d x on) = operator-on on
    operator-create (g.machine s v p k j i x l) = tt

    operator-on : {m : Option Expr} {u : List Token} (d : SpellsOn m u) → QuietOn d (t ∷ w)
    operator-on g.not_on = (only_operator t.kind o h).on
    operator-on (g.on_machine s j d) = operator-continued t o h

-- the level of what is spelled

primary-level : {e : Expr} {u : List Token} → SpellsPrimary e u → level_of e ≡ 0
unfolding out-Expr denote.Hole.Carrier.out
primary-level (g.literal t l h) = refl
primary-level (g.name t h) = refl
primary-level (g.basic_type t b h) = refl
primary-level (g.conversion t o k c h i d j) = refl
primary-level (g.group o k h d i) = refl
primary-level (g.parts o k h d m a i) = refl
primary-level (g.field p n d h i) = refl
primary-level (g.index o k d h f s i) = refl
primary-level (g.call o k d n h a i) = refl

factor-level : {e : Expr} {u : List Token} → SpellsFactor e u → level_of e ≡ 0
unfolding out-Expr denote.Hole.Carrier.out
factor-level (g.creates d) = refl
factor-level (g.primary d) = primary-level d
factor-level (g.unary t o h d) = refl
factor-level (g.pending t n h i) = refl

pub level-at-most : {m : ℕ} {e : Expr} {u : List Token} → SpellsExpr m e u → level_of e ≤ m
level-at-most (g.factor d) = let h = factor-level d in omega (arith, h)
level-at-most (g.binary {a = a} {b = b} t o h i c d) = omega (arith, i, level-binary (expr_span a) a b o)

-- an operator follows its left operand
pub follows : (limit : ℕ) (a : Expr) (u : List Token) (t : Token) (o : BinaryOperator) → binary_of t.kind ≡ Some o → right_level o < limit
    → SpellsExpr (left_level o) a u → is_operator limit a t ≡ true
follows limit a u t o h i d =
    ap (may_follow limit a) h ∙ both-true (nat_lt (right_level o) limit) (nat_le (level_of a) (left_level o)) (lt-ltb (right_level o) limit i) (le-leb (level_of a) (left_level o) (level-at-most d))
  where
    both-true : (x y : Bool) → x ≡ true → y ≡ true → (x && y) ≡ true
    both-true true y e f = f
    both-true false y e f = e

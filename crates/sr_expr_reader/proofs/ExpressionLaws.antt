-- What reading an expression says of the pieces of tokens that spell one.
use Rattle.std.proofs.Common.{◌≡◌, refl, sym, ◌∙◌, ap, ℕ, ◌-◌, ◌<◌, ◌≤◌, suc, false, List, [], ◌∷◌, ◌++◌, length, Ok, Err, ◌⊎◌, inl, inr, arith}
use Rattle.sr_reader.specs.Pieces.{GoesOn, IsLongest, IsDead}
use Rattle.sr_reader.specs.Reader.{Reader}
use Rattle.sr_reader.proofs.Laws as laws
use Rattle.sr_reader.proofs.Soundness.{Sound, append-nil}
use Rattle.sr_tree.specs.declared.expr.Expr.{Expr}
use Rattle.sr_tree.specs.declared.token.Token.{Token}
use Rattle.sr_tree.specs.Expressions.{SpellsExpr}
use Rattle.sr_expr_reader.specs.Readers.{readers, is_operator, operation_at, operand_at}
use Rattle.sr_expr_reader.proofs.ExpressionEdges.{end-stops}
use Rattle.sr_expr_reader.proofs.ExpressionsSound.{operand-sound, readers-sound}
use Rattle.sr_expr_reader.proofs.ExpressionsComplete.{complete-expr}
use Rattle.sr_expr_reader.proofs.Extends.{Extends, expr-extends}
use Rattle.sr_expr_reader.proofs.Quiet.{QuietExpr, stops-quiet}
use Rattle.sr_expr_reader.proofs.Families.{loop_stops}

reading : ℕ → Reader Token Expr
reading k = operand_at (readers k) 5

local : (k : ℕ) → Sound (SpellsExpr 5) (reading k)
unfolding reading
local k = operand-sound (readers k) (readers-sound k) 5

whole : (a : Expr) (u : List Token) → SpellsExpr 5 a u → (k : ℕ) → length u ≤ k → reading k u ≡ Ok (a, [])
unfolding reading
whole a u d k h =
    let n : length (u ++ []) ≡ length u = ap length (append-nil u) in
    ap (operand_at (readers k) 5) (sym (append-nil u))
    ∙ (complete-expr d 5 (omega arith) [] (Ok (a, [])) (stops-quiet d [] end-stops) (loop_stops (is_operator 5) operation_at a [] refl)).gives k (omega (arith, h, n))

decides : (a : Expr) (u : List Token) → SpellsExpr 5 a u → (t : Token) (q : List Token)
    → GoesOn (SpellsExpr 5) u t ⊎ ((k : ℕ) → length (u ++ t ∷ q) ≤ k → reading k (u ++ t ∷ q) ≡ Ok (a, t ∷ q))
unfolding reading
decides a u d t q = go (expr-extends d t q)
  where
    go : (QuietExpr d (t ∷ q) × (is_operator 5 a t ≡ false)) ⊎ Extends (SpellsExpr 5) u t
        → GoesOn (SpellsExpr 5) u t ⊎ ((k : ℕ) → length (u ++ t ∷ q) ≤ k → operand_at (readers k) 5 (u ++ t ∷ q) ≡ Ok (a, t ∷ q))
    go (inl x) = inr (λ k h. (complete-expr d 5 (omega arith) (t ∷ q) (Ok (a, t ∷ q)) x.0 (loop_stops (is_operator 5) operation_at a (t ∷ q) x.1)).gives k h)
    go (inr x) = inl (record { tree = x.tree; more = x.more; spelled = x.spelled })

-- one list of tokens has at most one expression
pub one-tree : (a b : Expr) (u : List Token) → SpellsExpr 5 a u → SpellsExpr 5 b u → a ≡ b
one-tree a b u d e = laws.one-tree (SpellsExpr 5) reading local whole a b u d e

pub longest : (s : List Token) (a : Expr) (q : List Token) → ((k : ℕ) → length s ≤ k → operand_at (readers k) 5 s ≡ Ok (a, q)) → IsLongest (SpellsExpr 5) s a (length s - length q)
unfolding reading
longest s a q reads = laws.longest (SpellsExpr 5) reading local whole s a q reads

pub within : (s : List Token) (left : ℕ) → ((k : ℕ) → length s ≤ k → operand_at (readers k) 5 s ≡ Err left) → left ≤ length s
unfolding reading
within s left reads = laws.within (SpellsExpr 5) reading local whole s left reads

pub dead : (s : List Token) (left : ℕ) → ((k : ℕ) → length s ≤ k → operand_at (readers k) 5 s ≡ Err left) → 0 < left → IsDead (SpellsExpr 5) s (suc (length s - left))
unfolding reading
dead s left reads h = laws.dead (SpellsExpr 5) reading local whole s left reads h

pub none : (s : List Token) (left : ℕ) → ((k : ℕ) → length s ≤ k → operand_at (readers k) 5 s ≡ Err left) → (a : Expr) (count : ℕ) → IsLongest (SpellsExpr 5) s a count → ⊥
unfolding reading
none s left reads a count l = laws.none (SpellsExpr 5) reading local whole decides s left reads a count l

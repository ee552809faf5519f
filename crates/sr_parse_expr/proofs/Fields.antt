-- The fields of the readers of a bound are the readers of the bound below it.
use Rattle.std.proofs.Common.{◌≡◌, sym, subst, ℕ, zero, suc, List, Result, arith}
use Rattle.sr_tree.specs.declared.expr.Expr.{Expr}
use Rattle.sr_tree.specs.declared.token.Token.{Token}
use Rattle.sr_expr_reader.specs.Readers.{readers, operand_at, factor_at, primary_at}
use Rattle.sr_expr_reader.specs.TypeReaders.{nested, plain_type_at, type_at}
use Rattle.sr_tree.specs.declared.types.TypePlace.{TypePlace}
use Rattle.sr_tree.specs.declared.types.TypePlace.TheVariants.{Declaration, Elsewhere}
use Rattle.sr_tree.specs.declared.types.TypeTree.{TypeTree}
use Rattle.sr_parse_expr.specs.Reads.{ReadsBelow, ReadsTypeBelowIn, ReadsTypeIn, ReadsTypeUpTo, ReadsUpTo}
use Rattle.sr_parse_tokens.specs.declared.reading.ReadFail.{ReadFail}

module _ {X : Type 0} (view : X → Expr × List Token) (s : List Token) (result : Result X ReadFail) where
  pub below_operand : (limit : ℕ) → ReadsUpTo view s result (λ r. operand_at r limit) → ReadsBelow view s result (λ r. r.operand limit)
  unfolding readers
  below_operand limit h zero i = absurd (omega (arith, i))
  below_operand limit h (suc k) i = h k (omega (arith, i))

  pub below_factor : ReadsUpTo view s result (λ r. factor_at r) → ReadsBelow view s result (λ r. r.factor)
  unfolding readers
  below_factor h zero i = absurd (omega (arith, i))
  below_factor h (suc k) i = h k (omega (arith, i))

  pub below_primary : ReadsUpTo view s result (λ r. primary_at r) → ReadsBelow view s result (λ r. r.primary)
  unfolding readers
  below_primary h zero i = absurd (omega (arith, i))
  below_primary h (suc k) i = h k (omega (arith, i))

module _ {X : Type 0} (view : X → TypeTree × List Token) (s : List Token) (result : Result X ReadFail) where
  below_elsewhere : ReadsTypeIn Elsewhere view s result (λ r. plain_type_at r) → ReadsTypeBelowIn Elsewhere view s result (λ r. r.nested)
  unfolding nested
  below_elsewhere h zero i = absurd (omega (arith, i))
  below_elsewhere h (suc k) i = h k (omega (arith, i))

  below_declaration : ReadsTypeUpTo view s result (λ r. type_at r) → ReadsTypeBelowIn Declaration view s result (λ r. r.nested)
  unfolding nested
  below_declaration h zero i = absurd (omega (arith, i))
  below_declaration h (suc k) i = h k (omega (arith, i))

  pub below_nested : (place : TypePlace) → place ≡ Elsewhere → ReadsTypeIn place view s result (λ r. plain_type_at r) → ReadsTypeBelowIn place view s result (λ r. r.nested)
  below_nested place e h =
      subst (λ p. ReadsTypeBelowIn p view s result (λ r. r.nested)) (sym e) (below_elsewhere (subst (λ p. ReadsTypeIn p view s result (λ r. plain_type_at r)) e h))

  pub below_declared : (place : TypePlace) → place ≡ Declaration → ReadsTypeUpTo view s result (λ r. type_at r) → ReadsTypeBelowIn place view s result (λ r. r.nested)
  below_declared place e h = subst (λ p. ReadsTypeBelowIn p view s result (λ r. r.nested)) (sym e) (below_declaration h)

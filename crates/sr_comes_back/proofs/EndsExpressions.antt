-- A line may end after expressions.
use Rattle.std.proofs.Common.{ℕ, List, refl, Option}
use Rattle.sr_tree.specs.declared.token.Token.{Token}
use Rattle.sr_tree.specs.declared.name.QualifiedName.{QualifiedName}
use Rattle.sr_tree.specs.declared.expr.Expr.{Expr}
use Rattle.sr_tree.specs.declared.expr.Create.{Create}
use Rattle.sr_tree.specs.Expressions as g
use Rattle.sr_tree.specs.Expressions.{SpellsQualifiedName, SpellsExpr, SpellsFactor, SpellsCreate, SpellsOn, SpellsPrimary, SpellsMoreExprs}
use Rattle.sr_comes_back.proofs.Ending.{Ends, KeepsEnd, keeps_none, ends_skip, ends_with, ends_after, ends_then, keeps_of, may_end_is, literal_ends, basic_ends}

pub ends_qualified_name : {x : QualifiedName} {u : List Token} → SpellsQualifiedName x u → Ends u
ends_qualified_name (g.plain n h0) = ends_with n (may_end_is n h0 refl) keeps_none
ends_qualified_name (g.qualified n p m h0 h1 h2) = ends_skip n (ends_skip p (ends_with m (may_end_is m h2 refl) keeps_none))

mutual
  pub ends_expr : {n : ℕ} {x : Expr} {u : List Token} → SpellsExpr n x u → Ends u
  ends_expr (g.factor h0) = ends_factor h0
  ends_expr (g.binary {u = u} t o h0 h1 h2 h3) = ends_after u (ends_skip t (ends_expr h3))

  pub ends_factor : {x : Expr} {u : List Token} → SpellsFactor x u → Ends u
  ends_factor (g.creates h0) = ends_create h0
  ends_factor (g.primary h0) = ends_primary h0
  ends_factor (g.unary t o h0 h1) = ends_skip t (ends_factor h1)
  ends_factor (g.pending t n h0 h1) = ends_skip t (ends_with n (may_end_is n h1 refl) keeps_none)

  pub ends_create : {x : Create} {u : List Token} → SpellsCreate x u → Ends u
  ends_create (g.resource {u = u} {v = v} t opening closing h0 h1 h2 h3 h4 h5) = ends_skip t (ends_after u (ends_skip opening (ends_after v (ends_with closing (may_end_is closing h4 refl) (keeps_on h5)))))
  ends_create (g.machine t vm opening closing h0 h1 h2 h3) = ends_skip t (ends_skip vm (ends_skip opening (ends_with closing (may_end_is closing h3 refl) keeps_none)))

  pub keeps_on : {x : Option Expr} {u : List Token} → SpellsOn x u → KeepsEnd u
  keeps_on (g.not_on) = keeps_none
  keeps_on (g.on_machine t h0 h1) = keeps_of (ends_skip t (ends_primary h1))

  pub ends_primary : {x : Expr} {u : List Token} → SpellsPrimary x u → Ends u
  ends_primary (g.literal t l h0) = ends_with t (literal_ends t.kind t.text l h0) keeps_none
  ends_primary (g.name t h0) = ends_with t (may_end_is t h0 refl) keeps_none
  ends_primary (g.basic_type t b h0) = ends_with t (basic_ends t.kind b h0) keeps_none
  ends_primary (g.conversion {u = u} t opening closing c h0 h1 h2 h3) = ends_skip t (ends_skip opening (ends_after u (ends_with closing (may_end_is closing h3 refl) keeps_none)))
  ends_primary (g.group {u = u} opening closing h0 h1 h2) = ends_skip opening (ends_after u (ends_with closing (may_end_is closing h2 refl) keeps_none))
  ends_primary (g.parts {u = u} {v = v} opening closing h0 h1 h2 h3 h4) = ends_skip opening (ends_after u (ends_after v (ends_with closing (may_end_is closing h4 refl) keeps_none)))
  ends_primary (g.field {u = u} point n h0 h1 h2) = ends_after u (ends_skip point (ends_with n (may_end_is n h2 refl) keeps_none))
  ends_primary (g.index {u = u} {v = v} {w = w} opening closing h0 h1 h2 h3 h4) = ends_after u (ends_skip opening (ends_after v (ends_after w (ends_with closing (may_end_is closing h4 refl) keeps_none))))
  ends_primary (g.call {u = u} {v = v} opening closing h0 h1 h2 h3 h4) = ends_after u (ends_skip opening (ends_after v (ends_with closing (may_end_is closing h4 refl) keeps_none)))

  pub keeps_more_exprs : {x : List Expr} {u : List Token} → SpellsMoreExprs x u → KeepsEnd u
  keeps_more_exprs (g.no_more_exprs) = keeps_none
  keeps_more_exprs (g.one_more_expr comma h0 h1 h2) = keeps_of (ends_skip comma (ends_then (ends_expr h1) (keeps_more_exprs h2)))

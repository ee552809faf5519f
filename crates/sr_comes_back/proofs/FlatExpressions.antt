-- In expressions no line begins outside of brackets.
use Rattle.std.proofs.Common.{ℕ, List, refl, Option}
use Rattle.sr_tree.specs.declared.token.Token.{Token}
use Rattle.sr_tree.specs.declared.name.QualifiedName.{QualifiedName}
use Rattle.sr_tree.specs.declared.expr.Expr.{Expr}
use Rattle.sr_tree.specs.declared.expr.Part.{Part}
use Rattle.sr_tree.specs.declared.expr.Create.{Create}
use Rattle.sr_tree.specs.Expressions as g
use Rattle.sr_tree.specs.Expressions.{SpellsQualifiedName, SpellsExpr, SpellsFactor, SpellsCreate, SpellsOn, SpellsPrimary, SpellsSecond, SpellsPart, SpellsMoreParts, SpellsArguments, SpellsMoreExprs}
use Rattle.sr_comes_back.proofs.Flat.{Flat, none_flat, flat_token, flat_open, shut_flat, flat_both, shut_both, inner_of, plain_is, literal_plain, basic_plain, conversion_plain, unary_plain, binary_plain}

pub flat_qualified_name : {x : QualifiedName} {u : List Token} → SpellsQualifiedName x u → Flat u
flat_qualified_name (g.plain n h0) = flat_token n (plain_is n h0 refl) none_flat
flat_qualified_name (g.qualified n p m h0 h1 h2) = flat_token n (plain_is n h0 refl) (flat_token p (plain_is p h1 refl) (flat_token m (plain_is m h2 refl) none_flat))

mutual
  pub flat_expr : {n : ℕ} {x : Expr} {u : List Token} → SpellsExpr n x u → Flat u
  flat_expr (g.factor h0) = flat_factor h0
  flat_expr (g.binary t o h0 h1 h2 h3) = flat_both (flat_expr h2) (flat_token t (binary_plain t.kind o h0) (flat_expr h3))

  pub flat_factor : {x : Expr} {u : List Token} → SpellsFactor x u → Flat u
  flat_factor (g.creates h0) = flat_create h0
  flat_factor (g.primary h0) = flat_primary h0
  flat_factor (g.unary t o h0 h1) = flat_token t (unary_plain t.kind o h0) (flat_factor h1)
  flat_factor (g.pending t n h0 h1) = flat_token t (plain_is t h0 refl) (flat_token n (plain_is n h1 refl) none_flat)

  pub flat_create : {x : Create} {u : List Token} → SpellsCreate x u → Flat u
  flat_create (g.resource t opening closing h0 h1 h2 h3 h4 h5) = flat_token t (plain_is t h0 refl) (flat_both (flat_qualified_name h1) (flat_open opening h2 refl (shut_both (inner_of (flat_arguments h3)) (shut_flat closing h4 refl (flat_on h5)))))
  flat_create (g.machine t vm opening closing h0 h1 h2 h3) = flat_token t (plain_is t h0 refl) (flat_token vm (plain_is vm h1 refl) (flat_open opening h2 refl (shut_flat closing h3 refl none_flat)))

  pub flat_on : {x : Option Expr} {u : List Token} → SpellsOn x u → Flat u
  flat_on (g.not_on) = none_flat
  flat_on (g.on_machine t h0 h1) = flat_token t (plain_is t h0 refl) (flat_primary h1)

  pub flat_primary : {x : Expr} {u : List Token} → SpellsPrimary x u → Flat u
  flat_primary (g.literal t l h0) = flat_token t (literal_plain t.kind t.text l h0) none_flat
  flat_primary (g.name t h0) = flat_token t (plain_is t h0 refl) none_flat
  flat_primary (g.basic_type t b h0) = flat_token t (basic_plain t.kind b h0) none_flat
  flat_primary (g.conversion t opening closing c h0 h1 h2 h3) = flat_token t (conversion_plain t.kind c h0) (flat_open opening h1 refl (shut_both (inner_of (flat_expr h2)) (shut_flat closing h3 refl none_flat)))
  flat_primary (g.group opening closing h0 h1 h2) = flat_open opening h0 refl (shut_both (inner_of (flat_expr h1)) (shut_flat closing h2 refl none_flat))
  flat_primary (g.parts opening closing h0 h1 h2 h3 h4) = flat_open opening h0 refl (shut_both (inner_of (flat_part h1)) (shut_both (inner_of (flat_more_parts h2)) (shut_flat closing h4 refl none_flat)))
  flat_primary (g.field point n h0 h1 h2) = flat_both (flat_primary h0) (flat_token point (plain_is point h1 refl) (flat_token n (plain_is n h2 refl) none_flat))
  flat_primary (g.index opening closing h0 h1 h2 h3 h4) = flat_both (flat_primary h0) (flat_open opening h1 refl (shut_both (inner_of (flat_expr h2)) (shut_both (inner_of (flat_second h3)) (shut_flat closing h4 refl none_flat))))
  flat_primary (g.call opening closing h0 h1 h2 h3 h4) = flat_both (flat_primary h0) (flat_open opening h2 refl (shut_both (inner_of (flat_arguments h3)) (shut_flat closing h4 refl none_flat)))

  pub flat_second : {x : Option Expr} {u : List Token} → SpellsSecond x u → Flat u
  flat_second (g.no_second) = none_flat
  flat_second (g.second comma h0 h1) = flat_token comma (plain_is comma h0 refl) (flat_expr h1)

  pub flat_part : {x : Part} {u : List Token} → SpellsPart x u → Flat u
  flat_part (g.once h0) = flat_expr h0
  flat_part (g.repeated opening closing h0 h1 h2 h3) = flat_open opening h0 refl (shut_both (inner_of (flat_expr h1)) (shut_flat closing h2 refl (flat_expr h3)))

  pub flat_more_parts : {x : List Part} {u : List Token} → SpellsMoreParts x u → Flat u
  flat_more_parts (g.no_more_parts) = none_flat
  flat_more_parts (g.one_more_part comma h0 h1 h2) = flat_token comma (plain_is comma h0 refl) (flat_both (flat_part h1) (flat_more_parts h2))

  pub flat_arguments : {x : List Expr} {u : List Token} → SpellsArguments x u → Flat u
  flat_arguments (g.no_arguments) = none_flat
  flat_arguments (g.arguments h0 h1) = flat_both (flat_expr h0) (flat_more_exprs h1)

  pub flat_more_exprs : {x : List Expr} {u : List Token} → SpellsMoreExprs x u → Flat u
  flat_more_exprs (g.no_more_exprs) = none_flat
  flat_more_exprs (g.one_more_expr comma h0 h1 h2) = flat_token comma (plain_is comma h0 refl) (flat_both (flat_expr h1) (flat_more_exprs h2))

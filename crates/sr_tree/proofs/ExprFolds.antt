-- Folds over expressions: what a fold makes of a tree it makes of the tree's parts. What holds of each tree where it holds of its parts holds of all.
use Rattle.std.proofs.Common.{◌≡◌, sym, subst}
use Rattle.sr_tree.specs.declared.expr.Create.{Create, roll-Create}
use Rattle.sr_tree.specs.declared.expr.Create.TheFolds.{fold-Create, fold-Expr, fold-Invocation, fold-Part, fold-roll-Create, fold-roll-Expr, fold-roll-Invocation, fold-roll-Part, ind-Create, ind-Expr, ind-Invocation, ind-Part, map-Create, map-Expr, map-Invocation, map-Part}
use Rattle.sr_tree.specs.declared.expr.Create.TheOpen.{Create-F, Expr-F, Invocation-F, Part-F}
use Rattle.sr_tree.specs.declared.expr.Expr.{Expr, roll-Expr}
use Rattle.sr_tree.specs.declared.expr.Invocation.{Invocation, roll-Invocation}
use Rattle.sr_tree.specs.declared.expr.Part.{Part, roll-Part}

-- what is made of each kind of tree, from what is made of its parts
pub record Fold (C E I P : Type 0) : Type 0 where
  pub create : Create-F C E I P → C
  pub expr : Expr-F C E I P → E
  pub invocation : Invocation-F C E I P → I
  pub part : Part-F C E I P → P

module _ {C E I P : Type 0} (fold : Fold C E I P) where
  -- what is made of a tree
  abbrev pub of_create : Create → C
  of_create = fold-Create C E I P fold.create fold.expr fold.invocation fold.part

  abbrev pub of_expr : Expr → E
  of_expr = fold-Expr C E I P fold.create fold.expr fold.invocation fold.part

  abbrev pub of_invocation : Invocation → I
  of_invocation = fold-Invocation C E I P fold.create fold.expr fold.invocation fold.part

  abbrev pub of_part : Part → P
  of_part = fold-Part C E I P fold.create fold.expr fold.invocation fold.part

  -- from its parts
  abbrev pub from_create : Create-F Create Expr Invocation Part → C
  from_create x = fold.create (map-Create Create Expr Invocation Part C E I P of_create of_expr of_invocation of_part x)

  abbrev pub from_expr : Expr-F Create Expr Invocation Part → E
  from_expr x = fold.expr (map-Expr Create Expr Invocation Part C E I P of_create of_expr of_invocation of_part x)

  abbrev pub from_invocation : Invocation-F Create Expr Invocation Part → I
  from_invocation x = fold.invocation (map-Invocation Create Expr Invocation Part C E I P of_create of_expr of_invocation of_part x)

  abbrev pub from_part : Part-F Create Expr Invocation Part → P
  from_part x = fold.part (map-Part Create Expr Invocation Part C E I P of_create of_expr of_invocation of_part x)

  -- it is the same
  pub create_folds : (x : Create-F Create Expr Invocation Part) → from_create x ≡ of_create (roll-Create x)
  create_folds x = sym (fold-roll-Create C E I P fold.create fold.expr fold.invocation fold.part x)

  pub expr_folds : (x : Expr-F Create Expr Invocation Part) → from_expr x ≡ of_expr (roll-Expr x)
  expr_folds x = sym (fold-roll-Expr C E I P fold.create fold.expr fold.invocation fold.part x)

  pub invocation_folds : (x : Invocation-F Create Expr Invocation Part) → from_invocation x ≡ of_invocation (roll-Invocation x)
  invocation_folds x = sym (fold-roll-Invocation C E I P fold.create fold.expr fold.invocation fold.part x)

  pub part_folds : (x : Part-F Create Expr Invocation Part) → from_part x ≡ of_part (roll-Part x)
  part_folds x = sym (fold-roll-Part C E I P fold.create fold.expr fold.invocation fold.part x)

-- ---- what holds of trees

pub record Claim : Type 1 where
  pub create : Create → Type 0
  pub expr : Expr → Type 0
  pub invocation : Invocation → Type 0
  pub part : Part → Type 0

-- a tree with what is known of it
abbrev pub Known : {X : Type 0} → (X → Type 0) → Type 0
Known {X} P = (x : X) × P x

module _ (claim : Claim) where
  -- trees whose parts are known
  abbrev pub CreateNode : Type 0
  CreateNode = Create-F (Known claim.create) (Known claim.expr) (Known claim.invocation) (Known claim.part)

  abbrev pub ExprNode : Type 0
  ExprNode = Expr-F (Known claim.create) (Known claim.expr) (Known claim.invocation) (Known claim.part)

  abbrev pub InvocationNode : Type 0
  InvocationNode = Invocation-F (Known claim.create) (Known claim.expr) (Known claim.invocation) (Known claim.part)

  abbrev pub PartNode : Type 0
  PartNode = Part-F (Known claim.create) (Known claim.expr) (Known claim.invocation) (Known claim.part)

  -- without what is known
  abbrev pub bare_create : CreateNode → Create-F Create Expr Invocation Part
  bare_create = map-Create (Known claim.create) (Known claim.expr) (Known claim.invocation) (Known claim.part) Create Expr Invocation Part (λ e. e.0) (λ e. e.0) (λ e. e.0) (λ e. e.0)

  abbrev pub bare_expr : ExprNode → Expr-F Create Expr Invocation Part
  bare_expr = map-Expr (Known claim.create) (Known claim.expr) (Known claim.invocation) (Known claim.part) Create Expr Invocation Part (λ e. e.0) (λ e. e.0) (λ e. e.0) (λ e. e.0)

  abbrev pub bare_invocation : InvocationNode → Invocation-F Create Expr Invocation Part
  bare_invocation = map-Invocation (Known claim.create) (Known claim.expr) (Known claim.invocation) (Known claim.part) Create Expr Invocation Part (λ e. e.0) (λ e. e.0) (λ e. e.0) (λ e. e.0)

  abbrev pub bare_part : PartNode → Part-F Create Expr Invocation Part
  bare_part = map-Part (Known claim.create) (Known claim.expr) (Known claim.invocation) (Known claim.part) Create Expr Invocation Part (λ e. e.0) (λ e. e.0) (λ e. e.0) (λ e. e.0)

  pub record ByParts : Type 0 where
    pub create : (y : CreateNode) → claim.create (roll-Create (bare_create y))
    pub expr : (y : ExprNode) → claim.expr (roll-Expr (bare_expr y))
    pub invocation : (y : InvocationNode) → claim.invocation (roll-Invocation (bare_invocation y))
    pub part : (y : PartNode) → claim.part (roll-Part (bare_part y))

  module _ (by : ByParts) where
    step_create : (x : Create-F Create Expr Invocation Part) (y : CreateNode) → bare_create y ≡ x → claim.create (roll-Create x)
    step_create x y is = subst (λ z. claim.create (roll-Create z)) is (by.create y)

    step_expr : (x : Expr-F Create Expr Invocation Part) (y : ExprNode) → bare_expr y ≡ x → claim.expr (roll-Expr x)
    step_expr x y is = subst (λ z. claim.expr (roll-Expr z)) is (by.expr y)

    step_invocation : (x : Invocation-F Create Expr Invocation Part) (y : InvocationNode) → bare_invocation y ≡ x → claim.invocation (roll-Invocation x)
    step_invocation x y is = subst (λ z. claim.invocation (roll-Invocation z)) is (by.invocation y)

    step_part : (x : Part-F Create Expr Invocation Part) (y : PartNode) → bare_part y ≡ x → claim.part (roll-Part x)
    step_part x y is = subst (λ z. claim.part (roll-Part z)) is (by.part y)

    pub each_create : (tree : Create) → claim.create tree
    each_create = ind-Create claim.create claim.expr claim.invocation claim.part step_create step_expr step_invocation step_part

    pub each_expr : (tree : Expr) → claim.expr tree
    each_expr = ind-Expr claim.create claim.expr claim.invocation claim.part step_create step_expr step_invocation step_part

    pub each_invocation : (tree : Invocation) → claim.invocation tree
    each_invocation = ind-Invocation claim.create claim.expr claim.invocation claim.part step_create step_expr step_invocation step_part

    pub each_part : (tree : Part) → claim.part tree
    each_part = ind-Part claim.create claim.expr claim.invocation claim.part step_create step_expr step_invocation step_part

-- Folds over statements: what a fold makes of a tree it makes of the tree's parts. What holds of each tree where it holds of its parts holds of all.
use Rattle.std.proofs.Common.{◌≡◌, sym, subst}
use Rattle.sr_tree.specs.declared.statement.Arm.{Arm, roll-Arm}
use Rattle.sr_tree.specs.declared.statement.BlockItem.{BlockItem, roll-BlockItem}
use Rattle.sr_tree.specs.declared.statement.BlockItem.TheFolds.{fold-Arm, fold-BlockItem, fold-Branch, fold-CoArm, fold-Statement, fold-roll-Arm, fold-roll-BlockItem, fold-roll-Branch, fold-roll-CoArm, fold-roll-Statement, ind-Arm, ind-BlockItem, ind-Branch, ind-CoArm, ind-Statement, map-Arm, map-BlockItem, map-Branch, map-CoArm, map-Statement}
use Rattle.sr_tree.specs.declared.statement.BlockItem.TheOpen.{Arm-F, BlockItem-F, Branch-F, CoArm-F, Statement-F}
use Rattle.sr_tree.specs.declared.statement.Branch.{Branch, roll-Branch}
use Rattle.sr_tree.specs.declared.statement.CoArm.{CoArm, roll-CoArm}
use Rattle.sr_tree.specs.declared.statement.Statement.{Statement, roll-Statement}

-- what is made of each kind of tree, from what is made of its parts
pub record Fold (I S A B C : Type 0) : Type 0 where
  pub item : BlockItem-F I S A B C → I
  pub statement : Statement-F I S A B C → S
  pub arm : Arm-F I S A B C → A
  pub branch : Branch-F I S A B C → B
  pub co_arm : CoArm-F I S A B C → C

module _ {I S A B C : Type 0} (fold : Fold I S A B C) where
  -- what is made of a tree
  abbrev pub of_item : BlockItem → I
  of_item = fold-BlockItem I S A B C fold.item fold.statement fold.arm fold.branch fold.co_arm

  abbrev pub of_statement : Statement → S
  of_statement = fold-Statement I S A B C fold.item fold.statement fold.arm fold.branch fold.co_arm

  abbrev pub of_arm : Arm → A
  of_arm = fold-Arm I S A B C fold.item fold.statement fold.arm fold.branch fold.co_arm

  abbrev pub of_branch : Branch → B
  of_branch = fold-Branch I S A B C fold.item fold.statement fold.arm fold.branch fold.co_arm

  abbrev pub of_co_arm : CoArm → C
  of_co_arm = fold-CoArm I S A B C fold.item fold.statement fold.arm fold.branch fold.co_arm

  -- from its parts
  abbrev pub from_item : BlockItem-F BlockItem Statement Arm Branch CoArm → I
  from_item x = fold.item (map-BlockItem BlockItem Statement Arm Branch CoArm I S A B C of_item of_statement of_arm of_branch of_co_arm x)

  abbrev pub from_statement : Statement-F BlockItem Statement Arm Branch CoArm → S
  from_statement x = fold.statement (map-Statement BlockItem Statement Arm Branch CoArm I S A B C of_item of_statement of_arm of_branch of_co_arm x)

  abbrev pub from_arm : Arm-F BlockItem Statement Arm Branch CoArm → A
  from_arm x = fold.arm (map-Arm BlockItem Statement Arm Branch CoArm I S A B C of_item of_statement of_arm of_branch of_co_arm x)

  abbrev pub from_branch : Branch-F BlockItem Statement Arm Branch CoArm → B
  from_branch x = fold.branch (map-Branch BlockItem Statement Arm Branch CoArm I S A B C of_item of_statement of_arm of_branch of_co_arm x)

  abbrev pub from_co_arm : CoArm-F BlockItem Statement Arm Branch CoArm → C
  from_co_arm x = fold.co_arm (map-CoArm BlockItem Statement Arm Branch CoArm I S A B C of_item of_statement of_arm of_branch of_co_arm x)

  -- it is the same
  pub item_folds : (x : BlockItem-F BlockItem Statement Arm Branch CoArm) → from_item x ≡ of_item (roll-BlockItem x)
  item_folds x = sym (fold-roll-BlockItem I S A B C fold.item fold.statement fold.arm fold.branch fold.co_arm x)

  pub statement_folds : (x : Statement-F BlockItem Statement Arm Branch CoArm) → from_statement x ≡ of_statement (roll-Statement x)
  statement_folds x = sym (fold-roll-Statement I S A B C fold.item fold.statement fold.arm fold.branch fold.co_arm x)

  pub arm_folds : (x : Arm-F BlockItem Statement Arm Branch CoArm) → from_arm x ≡ of_arm (roll-Arm x)
  arm_folds x = sym (fold-roll-Arm I S A B C fold.item fold.statement fold.arm fold.branch fold.co_arm x)

  pub branch_folds : (x : Branch-F BlockItem Statement Arm Branch CoArm) → from_branch x ≡ of_branch (roll-Branch x)
  branch_folds x = sym (fold-roll-Branch I S A B C fold.item fold.statement fold.arm fold.branch fold.co_arm x)

  pub co_arm_folds : (x : CoArm-F BlockItem Statement Arm Branch CoArm) → from_co_arm x ≡ of_co_arm (roll-CoArm x)
  co_arm_folds x = sym (fold-roll-CoArm I S A B C fold.item fold.statement fold.arm fold.branch fold.co_arm x)

-- ---- what holds of trees

pub record Claim : Type 1 where
  pub item : BlockItem → Type 0
  pub statement : Statement → Type 0
  pub arm : Arm → Type 0
  pub branch : Branch → Type 0
  pub co_arm : CoArm → Type 0

-- a tree with what is known of it
abbrev pub Known : {X : Type 0} → (X → Type 0) → Type 0
Known {X} P = (x : X) × P x

module _ (claim : Claim) where
  -- trees whose parts are known
  abbrev pub ItemNode : Type 0
  ItemNode = BlockItem-F (Known claim.item) (Known claim.statement) (Known claim.arm) (Known claim.branch) (Known claim.co_arm)

  abbrev pub StatementNode : Type 0
  StatementNode = Statement-F (Known claim.item) (Known claim.statement) (Known claim.arm) (Known claim.branch) (Known claim.co_arm)

  abbrev pub ArmNode : Type 0
  ArmNode = Arm-F (Known claim.item) (Known claim.statement) (Known claim.arm) (Known claim.branch) (Known claim.co_arm)

  abbrev pub BranchNode : Type 0
  BranchNode = Branch-F (Known claim.item) (Known claim.statement) (Known claim.arm) (Known claim.branch) (Known claim.co_arm)

  abbrev pub CoArmNode : Type 0
  CoArmNode = CoArm-F (Known claim.item) (Known claim.statement) (Known claim.arm) (Known claim.branch) (Known claim.co_arm)

  -- without what is known
  abbrev pub bare_item : ItemNode → BlockItem-F BlockItem Statement Arm Branch CoArm
  bare_item = map-BlockItem (Known claim.item) (Known claim.statement) (Known claim.arm) (Known claim.branch) (Known claim.co_arm) BlockItem Statement Arm Branch CoArm (λ e. e.0) (λ e. e.0) (λ e. e.0) (λ e. e.0) (λ e. e.0)

  abbrev pub bare_statement : StatementNode → Statement-F BlockItem Statement Arm Branch CoArm
  bare_statement = map-Statement (Known claim.item) (Known claim.statement) (Known claim.arm) (Known claim.branch) (Known claim.co_arm) BlockItem Statement Arm Branch CoArm (λ e. e.0) (λ e. e.0) (λ e. e.0) (λ e. e.0) (λ e. e.0)

  abbrev pub bare_arm : ArmNode → Arm-F BlockItem Statement Arm Branch CoArm
  bare_arm = map-Arm (Known claim.item) (Known claim.statement) (Known claim.arm) (Known claim.branch) (Known claim.co_arm) BlockItem Statement Arm Branch CoArm (λ e. e.0) (λ e. e.0) (λ e. e.0) (λ e. e.0) (λ e. e.0)

  abbrev pub bare_branch : BranchNode → Branch-F BlockItem Statement Arm Branch CoArm
  bare_branch = map-Branch (Known claim.item) (Known claim.statement) (Known claim.arm) (Known claim.branch) (Known claim.co_arm) BlockItem Statement Arm Branch CoArm (λ e. e.0) (λ e. e.0) (λ e. e.0) (λ e. e.0) (λ e. e.0)

  abbrev pub bare_co_arm : CoArmNode → CoArm-F BlockItem Statement Arm Branch CoArm
  bare_co_arm = map-CoArm (Known claim.item) (Known claim.statement) (Known claim.arm) (Known claim.branch) (Known claim.co_arm) BlockItem Statement Arm Branch CoArm (λ e. e.0) (λ e. e.0) (λ e. e.0) (λ e. e.0) (λ e. e.0)

  pub record ByParts : Type 0 where
    pub item : (y : ItemNode) → claim.item (roll-BlockItem (bare_item y))
    pub statement : (y : StatementNode) → claim.statement (roll-Statement (bare_statement y))
    pub arm : (y : ArmNode) → claim.arm (roll-Arm (bare_arm y))
    pub branch : (y : BranchNode) → claim.branch (roll-Branch (bare_branch y))
    pub co_arm : (y : CoArmNode) → claim.co_arm (roll-CoArm (bare_co_arm y))

  module _ (by : ByParts) where
    step_item : (x : BlockItem-F BlockItem Statement Arm Branch CoArm) (y : ItemNode) → bare_item y ≡ x → claim.item (roll-BlockItem x)
    step_item x y is = subst (λ z. claim.item (roll-BlockItem z)) is (by.item y)

    step_statement : (x : Statement-F BlockItem Statement Arm Branch CoArm) (y : StatementNode) → bare_statement y ≡ x → claim.statement (roll-Statement x)
    step_statement x y is = subst (λ z. claim.statement (roll-Statement z)) is (by.statement y)

    step_arm : (x : Arm-F BlockItem Statement Arm Branch CoArm) (y : ArmNode) → bare_arm y ≡ x → claim.arm (roll-Arm x)
    step_arm x y is = subst (λ z. claim.arm (roll-Arm z)) is (by.arm y)

    step_branch : (x : Branch-F BlockItem Statement Arm Branch CoArm) (y : BranchNode) → bare_branch y ≡ x → claim.branch (roll-Branch x)
    step_branch x y is = subst (λ z. claim.branch (roll-Branch z)) is (by.branch y)

    step_co_arm : (x : CoArm-F BlockItem Statement Arm Branch CoArm) (y : CoArmNode) → bare_co_arm y ≡ x → claim.co_arm (roll-CoArm x)
    step_co_arm x y is = subst (λ z. claim.co_arm (roll-CoArm z)) is (by.co_arm y)

    pub each_item : (tree : BlockItem) → claim.item tree
    each_item = ind-BlockItem claim.item claim.statement claim.arm claim.branch claim.co_arm step_item step_statement step_arm step_branch step_co_arm

    pub each_statement : (tree : Statement) → claim.statement tree
    each_statement = ind-Statement claim.item claim.statement claim.arm claim.branch claim.co_arm step_item step_statement step_arm step_branch step_co_arm

    pub each_arm : (tree : Arm) → claim.arm tree
    each_arm = ind-Arm claim.item claim.statement claim.arm claim.branch claim.co_arm step_item step_statement step_arm step_branch step_co_arm

    pub each_branch : (tree : Branch) → claim.branch tree
    each_branch = ind-Branch claim.item claim.statement claim.arm claim.branch claim.co_arm step_item step_statement step_arm step_branch step_co_arm

    pub each_co_arm : (tree : CoArm) → claim.co_arm tree
    each_co_arm = ind-CoArm claim.item claim.statement claim.arm claim.branch claim.co_arm step_item step_statement step_arm step_branch step_co_arm

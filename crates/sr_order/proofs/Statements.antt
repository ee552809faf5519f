-- The spans of the statements in a statement or block are picked from its tokens.
use Rattle.std.proofs.Common.{◌≡◌, subst, Bool, true, false, List, [], ◌∷◌, Some, None, map}
use Rattle.sr_tree.specs.declared.expr.Create.{Create, out-Create}
use Rattle.sr_tree.specs.declared.expr.Expr.{Expr, out-Expr}
use Rattle.sr_tree.specs.declared.expr.Expr.TheVariants as expr
use Rattle.sr_tree.specs.declared.statement.Arm.{Arm, roll-Arm}
use Rattle.sr_tree.specs.declared.statement.BlockItem.{BlockItem, roll-BlockItem}
use Rattle.sr_tree.specs.declared.statement.BlockItem.TheOpen.{BlockItem-F, Statement-F, Arm-F, Branch-F, CoArm-F}
use Rattle.sr_tree.specs.declared.statement.BlockItem.TheVariants as item
use Rattle.sr_tree.specs.declared.statement.Branch.{Branch, roll-Branch}
use Rattle.sr_tree.specs.declared.statement.CoArm.{CoArm, roll-CoArm}
use Rattle.sr_tree.specs.declared.statement.Statement.{Statement, roll-Statement}
use Rattle.sr_tree.specs.declared.statement.Statement.TheVariants as statement
use Rattle.sr_tree.specs.declared.token.Token.{Token}
use Rattle.sr_tree.specs.Expressions as g
use Rattle.sr_tree.specs.Expressions.{SpellsPrimary, SpellsCreate, create_span, expr_span}
use Rattle.sr_tree.specs.Statements as s
use Rattle.sr_tree.specs.Statements.{SpellsNamed, SpellsStatement, SpellsBranch, SpellsMoreBranches, SpellsBranches, SpellsArm, SpellsMoreArms, SpellsCoArm, SpellsMoreCoArms, SpellsBlockItem, SpellsItems, SpellsBlock, first_span}
use Rattle.sr_tree.specs.Tables.{name_of}
use Rattle.sr_order.specs.Order.{Picks, nothing, left_out, picked}
use Rattle.sr_order.specs.Spans.{joined, spans_in, block_item_spans, arm_spans, branch_spans, co_arm_spans}
use Rattle.sr_tree.proofs.StatementFolds.{arm_folds, branch_folds, co_arm_folds, from_arm, from_branch, from_co_arm, from_item, from_statement, item_folds, statement_folds}
use Rattle.sr_order.proofs.NameFolds.{spanning}
use Rattle.sr_order.proofs.Picked.{none, both, three, first, second}

-- ---- the first token of an expression

primary-picked : {e : Expr} {u : List Token} → SpellsPrimary e u → Picks (expr_span e ∷ []) u
unfolding out-Expr denote.Hole.Carrier.out
primary-picked (g.literal t l h) = picked t none
primary-picked (g.name t h) = picked t none
primary-picked (g.basic_type t b h) = picked t none
primary-picked (g.conversion t o k c h i d j) = picked t none
primary-picked (g.group o k h d i) = picked o none
primary-picked (g.parts o k h d m a i) = picked o none
primary-picked (g.field p n d h i) = first _ (primary-picked d)
primary-picked (g.index o k d h f s i) = first _ (primary-picked d)
primary-picked (g.call o k d n h a i) = first _ (primary-picked d)

named-picked : {e : Expr} {u : List Token} → SpellsNamed e u → Picks (expr_span e ∷ []) u
named-picked (s.named n h d) = primary-picked d

create-picked : {c : Create} {u : List Token} → SpellsCreate c u → Picks (create_span c ∷ []) u
unfolding out-Create denote.Hole.Carrier.out
create-picked (g.resource t o k h n i a j m) = picked t none
create-picked (g.machine t v o k h i j l) = picked t none

-- ---- what is picked for the parts of a tree is picked for the tree

module _ {u : List Token} where
  of_statement : {tree : Statement} (x : Statement-F BlockItem Statement Arm Branch CoArm) → roll-Statement x ≡ tree → Picks (from_statement spanning x) u → Picks (spans_in tree) u
  of_statement x rolls p = subst (λ tree. Picks (spans_in tree) u) rolls (subst (λ spans. Picks spans u) (statement_folds spanning x) p)

  of_item : {tree : BlockItem} (x : BlockItem-F BlockItem Statement Arm Branch CoArm) → roll-BlockItem x ≡ tree → Picks (from_item spanning x) u → Picks (block_item_spans tree) u
  of_item x rolls p = subst (λ tree. Picks (block_item_spans tree) u) rolls (subst (λ spans. Picks spans u) (item_folds spanning x) p)

  of_arm : (x : Arm-F BlockItem Statement Arm Branch CoArm) → Picks (from_arm spanning x) u → Picks (arm_spans (roll-Arm x)) u
  of_arm x p = subst (λ spans. Picks spans u) (arm_folds spanning x) p

  of_branch : (x : Branch-F BlockItem Statement Arm Branch CoArm) → Picks (from_branch spanning x) u → Picks (branch_spans (roll-Branch x)) u
  of_branch x p = subst (λ spans. Picks spans u) (branch_folds spanning x) p

  of_co_arm : (x : CoArm-F BlockItem Statement Arm Branch CoArm) → Picks (from_co_arm spanning x) u → Picks (co_arm_spans (roll-CoArm x)) u
  of_co_arm x p = subst (λ spans. Picks spans u) (co_arm_folds spanning x) p

-- ---- statements and blocks

mutual
  pub statement-picked : {tree : Statement} {u : List Token} → SpellsStatement tree u → Picks (spans_in tree) u
  statement-picked (s.skip t h) = of_statement (Statement-F.Skip t.span) (statement.rolls-Skip t.span) (picked t none)
  statement-picked (s.exit t h) = of_statement (Statement-F.Exit t.span) (statement.rolls-Exit t.span) (picked t none)
  statement-picked (s.next t h) = of_statement (Statement-F.Next t.span) (statement.rolls-Next t.span) (picked t none)
  statement-picked (s.returns t h) = of_statement (Statement-F.Return t.span) (statement.rolls-Return t.span) (picked t none)
  statement-picked (s.reply t h) = of_statement (Statement-F.Reply t.span) (statement.rolls-Reply t.span) (picked t none)
  statement-picked (s.stop {e = e} t h d) = of_statement (Statement-F.Stop t.span e) (statement.rolls-Stop t.span e) (picked t none)
  statement-picked (s.call {i = i} t h d) = of_statement (Statement-F.Call t.span true i) (statement.rolls-Call t.span true i) (picked t none)
  statement-picked (s.invoke {i = i} d) = of_statement (Statement-F.Call (expr_span (expr.Call i)) false i) (statement.rolls-Call (expr_span (expr.Call i)) false i) (named-picked d)
  statement-picked (s.send {i = i} t h d) = of_statement (Statement-F.Send t.span i) (statement.rolls-Send t.span i) (picked t none)
  statement-picked (s.forward {i = i} t h d) = of_statement (Statement-F.Forward t.span i) (statement.rolls-Forward t.span i) (picked t none)
  statement-picked (s.receive {es = es} t n o k h i j d l) = of_statement (Statement-F.Receive t.span (name_of n) es) (statement.rolls-Receive t.span (name_of n) es) (picked t none)
  statement-picked (s.assign {a = a} {e = e} b d h v) = of_statement (Statement-F.Assign (expr_span a) a e) (statement.rolls-Assign (expr_span a) a e) (first _ (named-picked d))
  statement-picked (s.exchange {a = a} {b = b} t d h v) = of_statement (Statement-F.Exchange (expr_span a) a b) (statement.rolls-Exchange (expr_span a) a b) (first _ (named-picked d))
  statement-picked (s.increment {a = a} t d h) = of_statement (Statement-F.Increment (expr_span a) a) (statement.rolls-Increment (expr_span a) a) (first _ (named-picked d))
  statement-picked (s.decrement {a = a} t d h) = of_statement (Statement-F.Decrement (expr_span a) a) (statement.rolls-Decrement (expr_span a) a) (first _ (named-picked d))
  statement-picked (s.if {bs = bs} t k h d s.no_otherwise i) =
      of_statement (Statement-F.If t.span bs None) (statement.rolls-If t.span bs None) (picked t (both (branches-picked d) none))
  statement-picked (s.if {bs = bs} t k h d (s.otherwise {is = is} a e w i j l b) m) =
      of_statement (Statement-F.If t.span bs (Some is)) (statement.rolls-If t.span bs (Some is))
      (picked t (both (branches-picked d) (left_out a (left_out e (left_out w (first _ (block-picked b)))))))
  statement-picked (s.do_ {bs = bs} t k h d s.no_otherwise i) =
      of_statement (Statement-F.Do t.span bs None) (statement.rolls-Do t.span bs None) (picked t (both (branches-picked d) none))
  statement-picked (s.do_ {bs = bs} t k h d (s.otherwise {is = is} a e w i j l b) m) =
      of_statement (Statement-F.Do t.span bs (Some is)) (statement.rolls-Do t.span bs (Some is))
      (picked t (both (branches-picked d) (left_out a (left_out e (left_out w (first _ (block-picked b)))))))
  statement-picked (s.for_all {qs = qs} {is = is} t w k h d i b j) =
      of_statement (Statement-F.ForAll t.span qs is) (statement.rolls-ForAll t.span qs is) (picked t (second _ (left_out w (first _ (block-picked b)))))
  statement-picked (s.in_ {a = a} {more = more} t k h d m s.no_otherwise i) =
      of_statement (Statement-F.In t.span (a ∷ more) None) (statement.rolls-In t.span (a ∷ more) None)
      (picked t (three (arm-picked d) (arms-picked m) none))
  statement-picked (s.in_ {a = a} {more = more} t k h d m (s.otherwise {is = is} x e w i j l b) n) =
      of_statement (Statement-F.In t.span (a ∷ more) (Some is)) (statement.rolls-In t.span (a ∷ more) (Some is))
      (picked t (three (arm-picked d) (arms-picked m) (left_out x (left_out e (left_out w (first (k ∷ []) (block-picked b)))))))
  statement-picked (s.co {a = a} {more = more} t k h d m i) =
      of_statement (Statement-F.Co t.span (a ∷ more)) (statement.rolls-Co t.span (a ∷ more)) (picked t (both (co_arm-picked d) (first _ (co_arms-picked m))))
  statement-picked (s.destroy {e = e} t h d) = of_statement (Statement-F.Destroy t.span e) (statement.rolls-Destroy t.span e) (picked t none)
  statement-picked (s.create {c = c} d) = of_statement (Statement-F.Create (create_span c) c) (statement.rolls-Create (create_span c) c) (create-picked d)

  branch-picked : {b : Branch} {u : List Token} → SpellsBranch b u → Picks (branch_spans b) u
  branch-picked (s.branch {e = e} {is = is} w d h b) = of_branch (record { span = expr_span e; guard = e; block = is }) (second _ (left_out w (block-picked b)))

  more_branches-picked : {bs : List Branch} {u : List Token} → SpellsMoreBranches bs u → Picks (joined (map branch_spans bs)) u
  more_branches-picked s.no_more_branches = nothing
  more_branches-picked (s.one_more_branch t h d m) = left_out t (both (branch-picked d) (more_branches-picked m))

  branches-picked : {bs : List Branch} {u : List Token} → SpellsBranches bs u → Picks (joined (map branch_spans bs)) u
  branches-picked (s.branches d m) = both (branch-picked d) (more_branches-picked m)

  arm-picked : {a : Arm} {u : List Token} → SpellsArm a u → Picks (arm_spans a) u
  arm-picked (s.arm {ns = ns} {r = r} {c = c} {o = o} {is = is} {u = u} {v = v} {x = f} {y = g} n p k w h i d j e x y l b) =
      of_arm (record { span = n.span; operation = name_of n; formals = ns; returned = r; condition = c; order = o; block = is })
      (left_out n (left_out p (second u (left_out k (second v (second f (second g (left_out w (block-picked b)))))))))

  arms-picked : {more : List Arm} {u : List Token} → SpellsMoreArms more u → Picks (joined (map arm_spans more)) u
  arms-picked s.no_more_arms = nothing
  arms-picked (s.one_more_arm t h d m) = left_out t (both (arm-picked d) (arms-picked m))

  co_arm-picked : {a : CoArm} {u : List Token} → SpellsCoArm a u → Picks (co_arm_spans a) u
  co_arm-picked (s.co_arm {place = place} {with_call = with_call} {i = i} {u = u} d s.no_co_block) =
      of_co_arm (record { span = first_span u; quantifiers = []; target = place; with_call = with_call; invocation = i; block = None }) none
  co_arm-picked (s.co_arm {place = place} {with_call = with_call} {i = i} {u = u} d (s.co_block {is = is} w h b)) =
      of_co_arm (record { span = first_span u; quantifiers = []; target = place; with_call = with_call; invocation = i; block = Some is }) (second _ (left_out w (block-picked b)))
  co_arm-picked (s.quantified {qs = qs} {place = place} {with_call = with_call} {i = i} o k h q j d s.no_co_block) =
      of_co_arm (record { span = o.span; quantifiers = qs; target = place; with_call = with_call; invocation = i; block = None }) none
  co_arm-picked (s.quantified {qs = qs} {place = place} {with_call = with_call} {i = i} o k h q j d (s.co_block {is = is} w l b)) =
      of_co_arm (record { span = o.span; quantifiers = qs; target = place; with_call = with_call; invocation = i; block = Some is })
      (left_out o (second _ (left_out k (second _ (left_out w (block-picked b))))))

  co_arms-picked : {more : List CoArm} {u : List Token} → SpellsMoreCoArms more u → Picks (joined (map co_arm_spans more)) u
  co_arms-picked s.no_more_co_arms = nothing
  co_arms-picked (s.one_more_co_arm t h d m) = left_out t (both (co_arm-picked d) (co_arms-picked m))

  item-picked : {i : BlockItem} {u : List Token} → SpellsBlockItem i u → Picks (block_item_spans i) u
  item-picked (s.a_constant {c = c} d) = of_item (BlockItem-F.Const c) (item.rolls-Const c) none
  item-picked (s.some_variables {d = v} d) = of_item (BlockItem-F.Var v) (item.rolls-Var v) none
  item-picked (s.a_statement {s = tree} d) = of_item (BlockItem-F.Statement tree) (item.rolls-Statement tree) (statement-picked d)

  items-picked : {may_begin : Bool} {is : List BlockItem} {u : List Token} → SpellsItems may_begin is u → Picks (joined (map block_item_spans is)) u
  items-picked s.stop_here = nothing
  items-picked (s.separator t h d) = left_out t (items-picked d)
  items-picked (s.one d more) = both (item-picked d) (items-picked more)

  block-picked : {is : List BlockItem} {u : List Token} → SpellsBlock is u → Picks (joined (map block_item_spans is)) u
  block-picked (s.block d) = items-picked d

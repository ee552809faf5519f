-- The spans of the names in a statement or block are picked from its tokens.
use Rattle.std.proofs.Common.{◌≡◌, sym, subst, append_assoc, Bool, true, false, List, [], ◌∷◌, ◌++◌, Option, Some, None, map, flat_map}
use Rattle.sr_value.specs.declared.place.Span.{Span}
use Rattle.sr_tree.specs.declared.expr.Expr.{Expr}
use Rattle.sr_tree.specs.declared.expr.Expr.TheVariants as expr
use Rattle.sr_tree.specs.declared.expr.Invocation.{Invocation}
use Rattle.sr_tree.specs.declared.name.Name.{Name}
use Rattle.sr_tree.specs.declared.statement.Arm.{Arm, roll-Arm}
use Rattle.sr_tree.specs.declared.statement.ArmCondition.{ArmCondition}
use Rattle.sr_tree.specs.declared.statement.BlockItem.{BlockItem, roll-BlockItem}
use Rattle.sr_tree.specs.declared.statement.BlockItem.TheOpen.{BlockItem-F, Statement-F, Arm-F, Branch-F, CoArm-F}
use Rattle.sr_tree.specs.declared.statement.BlockItem.TheVariants as item
use Rattle.sr_tree.specs.declared.statement.Branch.{Branch, roll-Branch}
use Rattle.sr_tree.specs.declared.statement.CoArm.{CoArm, roll-CoArm}
use Rattle.sr_tree.specs.declared.statement.Quantifier.{Quantifier}
use Rattle.sr_tree.specs.declared.statement.Statement.{Statement, roll-Statement}
use Rattle.sr_tree.specs.declared.statement.Statement.TheVariants as statement
use Rattle.sr_tree.specs.declared.token.Token.{Token}
use Rattle.sr_tree.specs.Expressions.{create_span, expr_span}
use Rattle.sr_tree.specs.Statements as s
use Rattle.sr_tree.specs.Statements.{SpellsNamed, SpellsInvocation, SpellsStatus, SpellsPlaces, SpellsMorePlaces, SpellsBy, SpellsSuchThat, SpellsQuantifier, SpellsMoreQuantifiers, SpellsQuantifiers, SpellsOptionalNames, SpellsReturnedName, SpellsCondition, SpellsOptionalQuantifiers, SpellsCoStart, SpellsCoCall, SpellsStatement, SpellsBranch, SpellsMoreBranches, SpellsBranches, SpellsArm, SpellsMoreArms, SpellsCoArm, SpellsMoreCoArms, SpellsBlockItem, SpellsItems, SpellsBlock, first_span}
use Rattle.sr_tree.specs.Tables.{name_of}
use Rattle.sr_order.specs.Order.{Picks, nothing, left_out, picked}
use Rattle.sr_order.specs.Spans.{joined}
use Rattle.sr_order.specs.Names.{where_some, name_names, names_spans, expr_names, invocation_names, quantifier_names, condition_names, statement_names, block_item_names, arm_names, branch_names, co_arm_names}
use Rattle.sr_tree.proofs.StatementFolds.{arm_folds, branch_folds, co_arm_folds, from_arm, from_branch, from_co_arm, from_item, from_statement, item_folds, statement_folds}
use Rattle.sr_order.proofs.NameFolds.{naming}
use Rattle.sr_order.proofs.Picked.{none, both, three, first, second}
use Rattle.sr_order.proofs.ExprNames.{called, expr-picked, primary-picked, create-picked}
use Rattle.sr_order.proofs.TypeNames.{names-picked}
use Rattle.sr_order.proofs.DeclNames.{const-picked, var-picked}

-- ---- parts of statements

named-picked : {e : Expr} {u : List Token} → SpellsNamed e u → Picks (expr_names e) u
named-picked (s.named n h d) = primary-picked d

invocation-picked : {i : Invocation} {u : List Token} → SpellsInvocation i u → Picks (invocation_names i) u
invocation-picked (s.invocation {i = i} d) = called i (primary-picked d)

status-picked : {e : Option Expr} {u : List Token} → SpellsStatus e u → Picks (where_some expr_names e) u
status-picked s.no_status = nothing
status-picked (s.status o k h d i) = left_out o (first _ (expr-picked d))

more-places : {es : List Expr} {u : List Token} → SpellsMorePlaces es u → Picks (flat_map expr_names es) u
more-places s.no_more_places = nothing
more-places (s.one_more_place t h d m) = left_out t (both (primary-picked d) (more-places m))

places-picked : {es : List Expr} {u : List Token} → SpellsPlaces es u → Picks (flat_map expr_names es) u
places-picked s.no_places = nothing
places-picked (s.places d m) = both (primary-picked d) (more-places m)

by-picked : {e : Option Expr} {u : List Token} → SpellsBy e u → Picks (where_some expr_names e) u
by-picked s.no_by = nothing
by-picked (s.by t h d) = left_out t (expr-picked d)

such-that-picked : {e : Option Expr} {u : List Token} → SpellsSuchThat e u → Picks (where_some expr_names e) u
such-that-picked s.no_such_that = nothing
such-that-picked (s.such_that t h d) = left_out t (expr-picked d)

quantifier-picked : {q : Quantifier} {u : List Token} → SpellsQuantifier q u → Picks (quantifier_names q) u
quantifier-picked (s.quantifier n b t w d h i x j l y m o) =
    picked n (left_out b (both (expr-picked x) (left_out t (both (expr-picked y) (both (by-picked m) (such-that-picked o))))))

more-quantifiers : {qs : List Quantifier} {u : List Token} → SpellsMoreQuantifiers qs u → Picks (flat_map quantifier_names qs) u
more-quantifiers s.no_more_quantifiers = nothing
more-quantifiers (s.one_more_quantifier t h d m) = left_out t (both (quantifier-picked d) (more-quantifiers m))

quantifiers-picked : {qs : List Quantifier} {u : List Token} → SpellsQuantifiers qs u → Picks (flat_map quantifier_names qs) u
quantifiers-picked (s.quantifiers d m) = both (quantifier-picked d) (more-quantifiers m)

pub optional-quantifiers : {qs : List Quantifier} {u : List Token} → SpellsOptionalQuantifiers qs u → Picks (flat_map quantifier_names qs) u
optional-quantifiers s.no_quantifiers = nothing
optional-quantifiers (s.some_quantifiers o k h d i) = left_out o (first _ (quantifiers-picked d))

pub optional-names : {ns : List Name} {u : List Token} → SpellsOptionalNames ns u → Picks (names_spans ns) u
optional-names s.no_names = nothing
optional-names (s.some_names d) = names-picked d

pub returned-name : {n : Option Name} {u : List Token} → SpellsReturnedName n u → Picks (where_some name_names n) u
returned-name s.no_returned_name = nothing
returned-name (s.returned_name t n h i) = left_out t (picked n nothing)

condition-picked : {c : Option ArmCondition} {u : List Token} → SpellsCondition c u → Picks (where_some condition_names c) u
condition-picked s.no_condition = nothing
condition-picked (s.on_condition t w c h i d) = left_out t (expr-picked d)

start-picked : {quantified : Bool} {e : Expr} {u : List Token} → SpellsCoStart quantified e u → Picks (expr_names e) u
start-picked (s.begins_arm d) = named-picked d
start-picked (s.after_quantifiers d) = primary-picked d

-- pieces that stand one after the other, whichever two are taken together
after : {spans : List Span} (u v w : List Token) → Picks spans (u ++ (v ++ w)) → Picks spans ((u ++ v) ++ w)
after {spans = spans} u v w p = subst (Picks spans) (sym (append_assoc u v w)) p

-- what an arm of `co` stores into and invokes, and then its block
co-call-picked : {quantified : Bool} {e : Option Expr} {with_call : Bool} {i : Invocation} {u v : List Token} {block : List Span}
    → SpellsCoCall quantified e with_call i u → Picks block v
    → Picks (where_some expr_names e ++ (invocation_names i ++ block)) (u ++ v)
co-call-picked (s.plain {i = i} d) b = both (called i (start-picked d)) b
co-call-picked (s.called t h d) b = left_out t (both (invocation-picked d) b)
co-call-picked {v = v} (s.stored {u = x} {v = y} {w = z} t d h c i) b =
    after x (t ∷ (y ++ z)) v (both (start-picked d) (left_out t (after y z v (second y (both (invocation-picked i) b)))))

-- ---- what is picked for the parts of a tree is picked for the tree

module _ {u : List Token} where
  of_statement : {tree : Statement} (x : Statement-F BlockItem Statement Arm Branch CoArm) → roll-Statement x ≡ tree → Picks (from_statement naming x) u
      → Picks (statement_names tree) u
  of_statement x rolls p = subst (λ tree. Picks (statement_names tree) u) rolls (subst (λ spans. Picks spans u) (statement_folds naming x) p)

  of_item : {tree : BlockItem} (x : BlockItem-F BlockItem Statement Arm Branch CoArm) → roll-BlockItem x ≡ tree → Picks (from_item naming x) u
      → Picks (block_item_names tree) u
  of_item x rolls p = subst (λ tree. Picks (block_item_names tree) u) rolls (subst (λ spans. Picks spans u) (item_folds naming x) p)

  of_arm : (x : Arm-F BlockItem Statement Arm Branch CoArm) → Picks (from_arm naming x) u → Picks (arm_names (roll-Arm x)) u
  of_arm x p = subst (λ spans. Picks spans u) (arm_folds naming x) p

  of_branch : (x : Branch-F BlockItem Statement Arm Branch CoArm) → Picks (from_branch naming x) u → Picks (branch_names (roll-Branch x)) u
  of_branch x p = subst (λ spans. Picks spans u) (branch_folds naming x) p

  of_co_arm : (x : CoArm-F BlockItem Statement Arm Branch CoArm) → Picks (from_co_arm naming x) u → Picks (co_arm_names (roll-CoArm x)) u
  of_co_arm x p = subst (λ spans. Picks spans u) (co_arm_folds naming x) p

-- ---- statements and blocks

mutual
  pub statement-picked : {tree : Statement} {u : List Token} → SpellsStatement tree u → Picks (statement_names tree) u
  statement-picked (s.skip t h) = of_statement (Statement-F.Skip t.span) (statement.rolls-Skip t.span) none
  statement-picked (s.exit t h) = of_statement (Statement-F.Exit t.span) (statement.rolls-Exit t.span) none
  statement-picked (s.next t h) = of_statement (Statement-F.Next t.span) (statement.rolls-Next t.span) none
  statement-picked (s.returns t h) = of_statement (Statement-F.Return t.span) (statement.rolls-Return t.span) none
  statement-picked (s.reply t h) = of_statement (Statement-F.Reply t.span) (statement.rolls-Reply t.span) none
  statement-picked (s.stop {e = e} t h d) = of_statement (Statement-F.Stop t.span e) (statement.rolls-Stop t.span e) (left_out t (status-picked d))
  statement-picked (s.call {i = i} t h d) =
      of_statement (Statement-F.Call t.span true i) (statement.rolls-Call t.span true i) (left_out t (invocation-picked d))
  statement-picked (s.invoke {i = i} d) =
      of_statement (Statement-F.Call (expr_span (expr.Call i)) false i) (statement.rolls-Call (expr_span (expr.Call i)) false i) (called i (named-picked d))
  statement-picked (s.send {i = i} t h d) = of_statement (Statement-F.Send t.span i) (statement.rolls-Send t.span i) (left_out t (invocation-picked d))
  statement-picked (s.forward {i = i} t h d) =
      of_statement (Statement-F.Forward t.span i) (statement.rolls-Forward t.span i) (left_out t (invocation-picked d))
  statement-picked (s.receive {es = es} t n o k h i j d l) =
      of_statement (Statement-F.Receive t.span (name_of n) es) (statement.rolls-Receive t.span (name_of n) es)
      (left_out t (picked n (left_out o (first _ (places-picked d)))))
  statement-picked (s.assign {a = a} {e = e} b d h v) =
      of_statement (Statement-F.Assign (expr_span a) a e) (statement.rolls-Assign (expr_span a) a e) (both (named-picked d) (left_out b (expr-picked v)))
  statement-picked (s.exchange {a = a} {b = b} t d h v) =
      of_statement (Statement-F.Exchange (expr_span a) a b) (statement.rolls-Exchange (expr_span a) a b) (both (named-picked d) (left_out t (primary-picked v)))
  statement-picked (s.increment {a = a} t d h) =
      of_statement (Statement-F.Increment (expr_span a) a) (statement.rolls-Increment (expr_span a) a) (first _ (named-picked d))
  statement-picked (s.decrement {a = a} t d h) =
      of_statement (Statement-F.Decrement (expr_span a) a) (statement.rolls-Decrement (expr_span a) a) (first _ (named-picked d))
  statement-picked (s.if {bs = bs} t k h d s.no_otherwise i) =
      of_statement (Statement-F.If t.span bs None) (statement.rolls-If t.span bs None) (left_out t (both (branches-picked d) none))
  statement-picked (s.if {bs = bs} t k h d (s.otherwise {is = is} a e w i j l b) m) =
      of_statement (Statement-F.If t.span bs (Some is)) (statement.rolls-If t.span bs (Some is))
      (left_out t (both (branches-picked d) (left_out a (left_out e (left_out w (first _ (block-picked b)))))))
  statement-picked (s.do_ {bs = bs} t k h d s.no_otherwise i) =
      of_statement (Statement-F.Do t.span bs None) (statement.rolls-Do t.span bs None) (left_out t (both (branches-picked d) none))
  statement-picked (s.do_ {bs = bs} t k h d (s.otherwise {is = is} a e w i j l b) m) =
      of_statement (Statement-F.Do t.span bs (Some is)) (statement.rolls-Do t.span bs (Some is))
      (left_out t (both (branches-picked d) (left_out a (left_out e (left_out w (first _ (block-picked b)))))))
  statement-picked (s.for_all {qs = qs} {is = is} t w k h d i b j) =
      of_statement (Statement-F.ForAll t.span qs is) (statement.rolls-ForAll t.span qs is)
      (left_out t (both (quantifiers-picked d) (left_out w (first _ (block-picked b)))))
  statement-picked (s.in_ {a = a} {more = more} t k h d m s.no_otherwise i) =
      of_statement (Statement-F.In t.span (a ∷ more) None) (statement.rolls-In t.span (a ∷ more) None)
      (left_out t (three (arm-picked d) (arms-picked m) none))
  statement-picked (s.in_ {a = a} {more = more} t k h d m (s.otherwise {is = is} x e w i j l b) n) =
      of_statement (Statement-F.In t.span (a ∷ more) (Some is)) (statement.rolls-In t.span (a ∷ more) (Some is))
      (left_out t (three (arm-picked d) (arms-picked m) (left_out x (left_out e (left_out w (first (k ∷ []) (block-picked b)))))))
  statement-picked (s.co {a = a} {more = more} t k h d m i) =
      of_statement (Statement-F.Co t.span (a ∷ more)) (statement.rolls-Co t.span (a ∷ more)) (left_out t (both (co_arm-picked d) (first _ (co_arms-picked m))))
  statement-picked (s.destroy {e = e} t h d) =
      of_statement (Statement-F.Destroy t.span e) (statement.rolls-Destroy t.span e) (left_out t (primary-picked d))
  statement-picked (s.create {c = c} d) = of_statement (Statement-F.Create (create_span c) c) (statement.rolls-Create (create_span c) c) (create-picked d)

  branch-picked : {b : Branch} {u : List Token} → SpellsBranch b u → Picks (branch_names b) u
  branch-picked (s.branch {e = e} {is = is} w d h b) =
      of_branch (record { span = expr_span e; guard = e; block = is }) (both (expr-picked d) (left_out w (block-picked b)))

  more_branches-picked : {bs : List Branch} {u : List Token} → SpellsMoreBranches bs u → Picks (joined (map branch_names bs)) u
  more_branches-picked s.no_more_branches = nothing
  more_branches-picked (s.one_more_branch t h d m) = left_out t (both (branch-picked d) (more_branches-picked m))

  branches-picked : {bs : List Branch} {u : List Token} → SpellsBranches bs u → Picks (joined (map branch_names bs)) u
  branches-picked (s.branches d m) = both (branch-picked d) (more_branches-picked m)

  arm-picked : {a : Arm} {u : List Token} → SpellsArm a u → Picks (arm_names a) u
  arm-picked (s.arm {ns = ns} {r = r} {c = c} {o = o} {is = is} n p k w h i d j e x y l b) =
      of_arm (record { span = n.span; operation = name_of n; formals = ns; returned = r; condition = c; order = o; block = is })
      (picked n (left_out p (both (optional-names d) (left_out k (both (returned-name e)
      (both (condition-picked x) (both (by-picked y) (left_out w (block-picked b)))))))))

  arms-picked : {more : List Arm} {u : List Token} → SpellsMoreArms more u → Picks (joined (map arm_names more)) u
  arms-picked s.no_more_arms = nothing
  arms-picked (s.one_more_arm t h d m) = left_out t (both (arm-picked d) (arms-picked m))

  co_arm-picked : {a : CoArm} {u : List Token} → SpellsCoArm a u → Picks (co_arm_names a) u
  co_arm-picked (s.co_arm {place = place} {with_call = with_call} {i = i} {u = u} d s.no_co_block) =
      of_co_arm (record { span = first_span u; quantifiers = []; target = place; with_call = with_call; invocation = i; block = None }) (co-call-picked d nothing)
  co_arm-picked (s.co_arm {place = place} {with_call = with_call} {i = i} {u = u} d (s.co_block {is = is} w h b)) =
      of_co_arm (record { span = first_span u; quantifiers = []; target = place; with_call = with_call; invocation = i; block = Some is })
      (co-call-picked d (left_out w (block-picked b)))
  co_arm-picked (s.quantified {qs = qs} {place = place} {with_call = with_call} {i = i} o k h q j d s.no_co_block) =
      of_co_arm (record { span = o.span; quantifiers = qs; target = place; with_call = with_call; invocation = i; block = None })
      (left_out o (both (quantifiers-picked q) (left_out k (co-call-picked d nothing))))
  co_arm-picked (s.quantified {qs = qs} {place = place} {with_call = with_call} {i = i} o k h q j d (s.co_block {is = is} w l b)) =
      of_co_arm (record { span = o.span; quantifiers = qs; target = place; with_call = with_call; invocation = i; block = Some is })
      (left_out o (both (quantifiers-picked q) (left_out k (co-call-picked d (left_out w (block-picked b))))))

  co_arms-picked : {more : List CoArm} {u : List Token} → SpellsMoreCoArms more u → Picks (joined (map co_arm_names more)) u
  co_arms-picked s.no_more_co_arms = nothing
  co_arms-picked (s.one_more_co_arm t h d m) = left_out t (both (co_arm-picked d) (co_arms-picked m))

  item-picked : {i : BlockItem} {u : List Token} → SpellsBlockItem i u → Picks (block_item_names i) u
  item-picked (s.a_constant {c = c} d) = of_item (BlockItem-F.Const c) (item.rolls-Const c) (const-picked d)
  item-picked (s.some_variables {d = v} d) = of_item (BlockItem-F.Var v) (item.rolls-Var v) (var-picked d)
  item-picked (s.a_statement {s = tree} d) = of_item (BlockItem-F.Statement tree) (item.rolls-Statement tree) (statement-picked d)

  items-picked : {may_begin : Bool} {is : List BlockItem} {u : List Token} → SpellsItems may_begin is u → Picks (joined (map block_item_names is)) u
  items-picked s.stop_here = nothing
  items-picked (s.separator t h d) = left_out t (items-picked d)
  items-picked (s.one d more) = both (item-picked d) (items-picked more)

  block-picked : {is : List BlockItem} {u : List Token} → SpellsBlock is u → Picks (joined (map block_item_names is)) u
  block-picked (s.block d) = items-picked d

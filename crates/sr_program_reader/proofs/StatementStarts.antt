-- What primaries and statements begin with.
use Rattle.std.specs.Prelude.{if◌then◌else◌}
use Rattle.std.proofs.Common.{◌≡◌, refl, sym, ◌∙◌, ap, Bool, true, false, List, [], ◌∷◌, ◌++◌, Some, None, append_assoc}
use Rattle.sr_reader.specs.Reader.{next_is}
use Rattle.sr_reader.proofs.Soundness.{append-nil}
use Rattle.sr_tree.specs.declared.expr.Create.TheOpen.{Expr-F}
use Rattle.sr_tree.specs.declared.expr.Expr.{Expr, out-Expr, out-roll-Expr}
use Rattle.sr_tree.specs.declared.expr.Expr.TheVariants as expr
use Rattle.sr_tree.specs.declared.expr.Invocation.{Invocation}
use Rattle.sr_tree.specs.declared.statement.BlockItem.{BlockItem}
use Rattle.sr_tree.specs.declared.statement.Statement.{Statement}
use Rattle.sr_tree.specs.declared.token.Token.{Token}
use Rattle.sr_tree.specs.declared.token.Word.TheVariants as word
use Rattle.sr_tree.specs.Tests.{is_word}
use Rattle.sr_tree.specs.Declarations as d
use Rattle.sr_tree.specs.Expressions as g
use Rattle.sr_tree.specs.Expressions.{SpellsPrimary, expr_span}
use Rattle.sr_tree.specs.Statements as s
use Rattle.sr_tree.specs.Statements.{SpellsNamed, SpellsCoStart, SpellsStatement, SpellsBlockItem, first_span}
use Rattle.sr_expr_reader.proofs.TokensSound.{some_some}
use Rattle.sr_program_reader.specs.StatementReaders.{begins_statement, begins_block_item, invocation_of}

-- a primary begins with a token, whose span is the primary's
pub record FirstToken (e : Expr) (u : List Token) : Type 0 where
  pub token : Token
  pub rest : List Token
  pub splits : u ≡ token ∷ rest
  pub span : expr_span e ≡ token.span

more-after : {p e : Expr} {u : List Token} (v : List Token) → expr_span e ≡ expr_span p → FirstToken p u → FirstToken e (u ++ v)
more-after v h f = record { token = f.token; rest = f.rest ++ v; splits = ap (λ x. x ++ v) f.splits; span = h ∙ f.span }

pub primary-first : {e : Expr} {u : List Token} → SpellsPrimary e u → FirstToken e u
unfolding out-Expr denote.Hole.Carrier.out
primary-first (g.literal t l h) = record { token = t; rest = []; splits = refl; span = refl }
primary-first (g.name t h) = record { token = t; rest = []; splits = refl; span = refl }
primary-first (g.basic_type t b h) = record { token = t; rest = []; splits = refl; span = refl }
primary-first (g.conversion {u = u} t o k c h i d j) = record { token = t; rest = o ∷ (u ++ k ∷ []); splits = refl; span = refl }
primary-first (g.group {u = u} o k h d i) = record { token = o; rest = u ++ k ∷ []; splits = refl; span = refl }
primary-first (g.parts {u = u} {v = v} o k h d m a i) = record { token = o; rest = u ++ (v ++ k ∷ []); splits = refl; span = refl }
primary-first (g.field p n d h i) = more-after (p ∷ n ∷ []) refl (primary-first d)
primary-first (g.index {v = v} {w = w} o k d h f s i) = more-after (o ∷ (v ++ (w ++ k ∷ []))) refl (primary-first d)
primary-first (g.call {v = v} o k d n h a i) = more-after (o ∷ (v ++ k ∷ [])) refl (primary-first d)

pub primary-some : (e : Expr) → SpellsPrimary e [] → ⊥
primary-some e d = go (primary-first d).splits
  where
    go : {t : Token} {v : List Token} → [] ≡ t ∷ v → ⊥
    go h = cc

-- the span of a primary is that of the first of its tokens
pub first-span : {e : Expr} {u : List Token} → SpellsPrimary e u → (q : List Token) → expr_span e ≡ first_span (u ++ q)
first-span d q = let f = primary-first d in f.span ∙ ap (λ x. first_span (x ++ q)) (sym f.splits)

-- the span of the first primary of an arm
pub start-span : {quantified : Bool} {e : Expr} {u : List Token} → SpellsCoStart quantified e u → (q : List Token) → expr_span e ≡ first_span (u ++ q)
start-span (s.begins_arm (s.named n h d)) q = first-span d q
start-span (s.after_quantifiers d) q = first-span d q

pub start-alone : {quantified : Bool} {e : Expr} {u : List Token} → SpellsCoStart quantified e u → expr_span e ≡ first_span u
start-alone {u = u} d = start-span d [] ∙ ap first_span (append-nil u)

-- a primary that is an invocation
pub call-is-invocation : (i : Invocation) → invocation_of (expr.Call i) ≡ Some i
call-is-invocation i =
    ap invocation_of (sym (expr.rolls-Call i))
    ∙ ap (λ x. elim x [ Expr-F.Call invocation ↦ Some invocation | _ ↦ None ]) (out-roll-Expr (Expr-F.Call i))

call-same : (j i : Invocation) → invocation_of (expr.Call j) ≡ Some i → expr.Call j ≡ expr.Call i
call-same j i e = ap expr.Call (some_some j i (sym (call-is-invocation j) ∙ e))

pub call-only : {e : Expr} {u : List Token} → SpellsPrimary e u → (i : Invocation) → invocation_of e ≡ Some i → e ≡ expr.Call i
unfolding out-Expr denote.Hole.Carrier.out
call-only (g.literal t l h) i e = cc
call-only (g.name t h) i e = cc
call-only (g.basic_type t b h) i e = cc
call-only (g.conversion t o k c h n d j) i e = cc
call-only (g.group o k h d n) i e = cc
call-only (g.parts o k h d m a n) i e = cc
call-only (g.field p n d h j) i e = cc
call-only (g.index o k d h f s n) i e = cc
call-only (g.call {p = p} {es = es} o k d n h a j) i e = call-same (g.invocation p es) i e

-- ---- statements

named-begins : {e : Expr} {u : List Token} → SpellsNamed e u → (q : List Token) → next_is (λ t. begins_statement t.kind) (u ++ q) ≡ true
named-begins (s.named n h d) q = ap begins_statement h

after-named : {e : Expr} {u : List Token} → SpellsNamed e u → (v q : List Token) → next_is (λ t. begins_statement t.kind) ((u ++ v) ++ q) ≡ true
after-named {u = u} d v q = ap (next_is (λ t. begins_statement t.kind)) (append_assoc u v q) ∙ named-begins d (v ++ q)

pub statement-begins : {a : Statement} {u : List Token} → SpellsStatement a u → (q : List Token) → next_is (λ t. begins_statement t.kind) (u ++ q) ≡ true
statement-begins (s.skip t h) q = ap begins_statement h
statement-begins (s.exit t h) q = ap begins_statement h
statement-begins (s.next t h) q = ap begins_statement h
statement-begins (s.returns t h) q = ap begins_statement h
statement-begins (s.reply t h) q = ap begins_statement h
statement-begins (s.stop t h d) q = ap begins_statement h
statement-begins (s.call t h d) q = ap begins_statement h
statement-begins (s.invoke d) q = named-begins d q
statement-begins (s.send t h d) q = ap begins_statement h
statement-begins (s.forward t h d) q = ap begins_statement h
statement-begins (s.receive t n o k h i j d l) q = ap begins_statement h
statement-begins (s.assign {v = v} becomes d h e) q = after-named d (becomes ∷ v) q
statement-begins (s.exchange {v = v} t d h e) q = after-named d (t ∷ v) q
statement-begins (s.increment t d h) q = after-named d (t ∷ []) q
statement-begins (s.decrement t d h) q = after-named d (t ∷ []) q
statement-begins (s.if t k h d o i) q = ap begins_statement h
statement-begins (s.do_ t k h d o i) q = ap begins_statement h
statement-begins (s.for_all t arrow k h d i b j) q = ap begins_statement h
statement-begins (s.in_ t k h d m o i) q = ap begins_statement h
statement-begins (s.co t k h d m i) q = ap begins_statement h
statement-begins (s.destroy t h d) q = ap begins_statement h
statement-begins (s.create (g.resource t o k h n i a j m)) q = ap begins_statement h
statement-begins (s.create (g.machine t v o k h i j l)) q = ap begins_statement h

item-of : (w : List Token) → next_is (λ t. begins_statement t.kind) w ≡ true → next_is (λ t. begins_block_item t.kind) w ≡ true
item-of [] h = h
item-of (t ∷ w) h = go (is_word word.Const t.kind) (is_word word.Var t.kind) (begins_statement t.kind) h
  where
    go : (a b c : Bool) → c ≡ true → (if a then true else if b then true else c) ≡ true
    go true b c h = refl
    go false true c h = refl
    go false false c h = h

pub item-begins : {i : BlockItem} {u : List Token} → SpellsBlockItem i u → (q : List Token) → next_is (λ t. begins_block_item t.kind) (u ++ q) ≡ true
item-begins (s.a_constant (d.constant t n b h i y j e)) q = ap begins_block_item h
item-begins (s.some_variables (d.variables t h ds y e)) q = ap begins_block_item h
item-begins (s.a_statement {u = u} c) q = item-of (u ++ q) (statement-begins c q)

-- The tokens that the parts of components begin with.
use Rattle.std.proofs.Common.{◌≡◌, refl, sym, ◌∙◌, ap, Bool, true, false, List, [], ◌∷◌, ◌++◌}
use Rattle.std.specs.Prelude.{◌||◌}
use Rattle.sr_reader.specs.Reader.{next_is}
use Rattle.sr_tree.specs.declared.component.Component.{Component}
use Rattle.sr_tree.specs.declared.component.Item.{Item}
use Rattle.sr_tree.specs.declared.component.Item.TheVariants as item
use Rattle.sr_tree.specs.declared.component.ProcItem.{ProcItem}
use Rattle.sr_tree.specs.declared.component.SpecItem.{SpecItem}
use Rattle.sr_tree.specs.declared.token.Token.{Token}
use Rattle.sr_tree.specs.declared.token.TokenKind.{TokenKind}
use Rattle.sr_tree.specs.declared.token.TokenKind.TheVariants as kind
use Rattle.sr_tree.specs.declared.token.Word.TheVariants as word
use Rattle.sr_tree.specs.Components as g
use Rattle.sr_tree.specs.Components.{SpellsSpecItem, SpellsProcItem, SpellsProc, SpellsProcedure, SpellsProcess, SpellsFinal, SpellsItem, SpellsComponent, IsOfResource}
use Rattle.sr_tree.specs.Tests.{is_word}
use Rattle.sr_tree.specs.Tokens.{is_separator}
use Rattle.sr_program_reader.specs.ComponentReaders.{begins_resource_spec, begins_spec, begins_proc_item, begins_item, begins_component}
use Rattle.sr_program_reader.specs.StatementReaders.{begins_statement}
use Rattle.sr_program_reader.proofs.DeclarationStarts.{Begins, begins, begins-test, import-begins, const-begins, type-begins, optype-begins, op-begins, var-begins, sem-begins}
use Rattle.sr_program_reader.proofs.StatementStarts.{statement-begins}

-- what may stand in the spec of a resource
abbrev pub OfResource : SpecItem → List Token → Type 0
OfResource i u = SpellsSpecItem i u × IsOfResource i

-- an item other than final code
abbrev pub IsPlain : Item → Type 0
IsPlain (item.Final f) = ⊥
IsPlain _ = Unit {0}

abbrev pub PlainItem : Item → List Token → Type 0
PlainItem i u = SpellsItem i u × IsPlain i

pub begun-some : (test : Token → Bool) → next_is test [] ≡ true → ⊥
begun-some test h = cc

-- the last of five tests
last-test : (a b c d e : Bool) → e ≡ true → (a || b || c || d || e) ≡ true
last-test true b c d e h = refl
last-test false true c d e h = refl
last-test false false true d e h = refl
last-test false false false true e h = refl
last-test false false false false e h = h

-- the first of five tests
first-test : (a b c d e : Bool) → a ≡ true → (a || b || c || d || e) ≡ true
first-test a b c d e h = ap (λ x. x || b || c || d || e) h

-- what passes a test passes a weaker one
weaker-test : (f h : TokenKind → Bool) → ((k : TokenKind) → f k ≡ true → h k ≡ true) → (s : List Token) → next_is (λ t. f t.kind) s ≡ true
    → next_is (λ t. h t.kind) s ≡ true
weaker-test f h i [] e = e
weaker-test f h i (t ∷ s) e = i t.kind e

statement-proc-item : (k : TokenKind) → begins_statement k ≡ true → begins_proc_item k ≡ true
statement-proc-item k h = last-test (is_word word.Const k) (is_word word.Var k) (is_word word.Op k) (is_word word.Sem k) (begins_statement k) h

statement-item : (k : TokenKind) → begins_statement k ≡ true → begins_item k ≡ true
statement-item k h = last-test (begins_spec k) (is_word word.Proc k) (is_word word.Procedure k) (is_word word.Process k) (begins_statement k) h

spec-item : (k : TokenKind) → begins_spec k ≡ true → begins_item k ≡ true
spec-item k h = first-test (begins_spec k) (is_word word.Proc k) (is_word word.Procedure k) (is_word word.Process k) (begins_statement k) h

-- a test that separators fail
pub begins-other : (test : TokenKind → Bool) → test kind.Separator ≡ false → (k : TokenKind) → test k ≡ true → is_separator k ≡ false
begins-other test e kind.Separator h = sym (sym e ∙ h)
begins-other test e _ h = refl

-- and so does what begins with tokens that pass
pub begins-no-separator : (test : TokenKind → Bool) → test kind.Separator ≡ false → (s : List Token) → next_is (λ t. test t.kind) s ≡ true
    → next_is (λ t. is_separator t.kind) s ≡ false
begins-no-separator test e [] h = refl
begins-no-separator test e (t ∷ s) h = begins-other test e t.kind h

pub resource-spec-begins : {i : SpecItem} {u : List Token} → SpellsSpecItem i u → IsOfResource i → (q : List Token)
    → next_is (λ t. begins_resource_spec t.kind) (u ++ q) ≡ true
resource-spec-begins (g.imports d) r q = begins-test (import-begins d) begins_resource_spec true refl q
resource-spec-begins (g.constant d) r q = begins-test (const-begins d) begins_resource_spec true refl q
resource-spec-begins (g.type_decl d) r q = begins-test (type-begins d) begins_resource_spec true refl q
resource-spec-begins (g.optype d) r q = begins-test (optype-begins d) begins_resource_spec true refl q
resource-spec-begins (g.op d) r q = begins-test (op-begins d) begins_resource_spec true refl q
resource-spec-begins (g.variables d) r q = absurd r
resource-spec-begins (g.semaphores d) r q = absurd r

pub spec-begins : {i : SpecItem} {u : List Token} → SpellsSpecItem i u → (test : TokenKind → Bool)
    → ((k : TokenKind) → begins_spec k ≡ true → test k ≡ true) → (q : List Token) → next_is (λ t. test t.kind) (u ++ q) ≡ true
spec-begins (g.imports d) test f q = begins-test (import-begins d) test true (f (kind.Word word.Import) refl) q
spec-begins (g.constant d) test f q = begins-test (const-begins d) test true (f (kind.Word word.Const) refl) q
spec-begins (g.type_decl d) test f q = begins-test (type-begins d) test true (f (kind.Word word.Type) refl) q
spec-begins (g.optype d) test f q = begins-test (optype-begins d) test true (f (kind.Word word.OpType) refl) q
spec-begins (g.op d) test f q = begins-test (op-begins d) test true (f (kind.Word word.Op) refl) q
spec-begins (g.variables d) test f q = begins-test (var-begins d) test true (f (kind.Word word.Var) refl) q
spec-begins (g.semaphores d) test f q = begins-test (sem-begins d) test true (f (kind.Word word.Sem) refl) q

pub proc-item-begins : {i : ProcItem} {u : List Token} → SpellsProcItem i u → (q : List Token) → next_is (λ t. begins_proc_item t.kind) (u ++ q) ≡ true
proc-item-begins (g.constant d) q = begins-test (const-begins d) begins_proc_item true refl q
proc-item-begins (g.variables d) q = begins-test (var-begins d) begins_proc_item true refl q
proc-item-begins (g.op d) q = begins-test (op-begins d) begins_proc_item true refl q
proc-item-begins (g.semaphores d) q = begins-test (sem-begins d) begins_proc_item true refl q
proc-item-begins (g.a_statement {u = u} d) q = weaker-test begins_statement begins_proc_item statement-proc-item (u ++ q) (statement-begins d q)

pub proc-begins : {p : _} {u : List Token} → SpellsProc p u → Begins word.Proc u
proc-begins (g.proc t n o c h i j ns k r b e) = begins t h

pub procedure-begins : {p : _} {u : List Token} → SpellsProcedure p u → Begins word.Procedure u
procedure-begins (g.procedure t n h i s b e) = begins t h

pub process-begins : {p : _} {u : List Token} → SpellsProcess p u → Begins word.Process u
process-begins (g.process t n h i s b e) = begins t h

pub final-begins : {f : _} {u : List Token} → SpellsFinal f u → Begins word.Final u
final-begins (g.final t c h b e) = begins t h

pub plain-item-begins : {i : Item} {u : List Token} → SpellsItem i u → IsPlain i → (q : List Token) → next_is (λ t. begins_item t.kind) (u ++ q) ≡ true
plain-item-begins (g.spec d) p q = spec-begins d begins_item spec-item q
plain-item-begins (g.proc d) p q = begins-test (proc-begins d) begins_item true refl q
plain-item-begins (g.procedure d) p q = begins-test (procedure-begins d) begins_item true refl q
plain-item-begins (g.process d) p q = begins-test (process-begins d) begins_item true refl q
plain-item-begins (g.final d) p q = absurd p
plain-item-begins (g.a_statement {u = u} d) p q = weaker-test begins_statement begins_item statement-item (u ++ q) (statement-begins d q)

pub component-begins : {c : Component} {u : List Token} → SpellsComponent c u → (q : List Token) → next_is (λ t. begins_component t.kind) (u ++ q) ≡ true
component-begins (g.resource t n h i f b l m e) q = ap begins_component h
component-begins (g.split_resource t n b m h i l a j k e f v x c y) q = ap begins_component h
component-begins (g.global t n h i l b e) q = ap begins_component h

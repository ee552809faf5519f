-- What is spelled as a part of a component is read, where the token after it continues nothing.
use Rattle.std.proofs.Common.{◌≡◌, refl, sym, ◌∙◌, ap, subst, ℕ, Bool, true, false, List, [], ◌∷◌, ◌++◌, length, Some, None, Result, Ok, append_assoc}
use Rattle.std.specs.Prelude.{if◌then◌else◌, ◌&&◌, nat_eq}
use Rattle.std.specs.Cmp.Lexicographic.{pointwise}
use Rattle.std.proofs.lemmas.Bool.Decides.{Decides-eqb}
use Rattle.std.proofs.lemmas.Slice.Eq.{slice_eq-Decides}
use Rattle.sr_reader.specs.Reader.{Reader, returned, ◌>>=◌, given, next_is}
use Rattle.sr_value.specs.declared.place.Span.{Span}
use Rattle.sr_tree.specs.declared.component.FinalCode.{FinalCode}
use Rattle.sr_tree.specs.declared.component.Item.{Item}
use Rattle.sr_tree.specs.declared.component.Proc.{Proc}
use Rattle.sr_tree.specs.declared.component.ProcItem.{ProcItem}
use Rattle.sr_tree.specs.declared.component.Procedure.{Procedure}
use Rattle.sr_tree.specs.declared.component.Process.{Process}
use Rattle.sr_tree.specs.declared.component.SpecItem.{SpecItem}
use Rattle.sr_tree.specs.declared.name.Name.{Name}
use Rattle.sr_tree.specs.declared.token.Sign.{Sign}
use Rattle.sr_tree.specs.declared.token.Sign.TheVariants as sign
use Rattle.sr_tree.specs.declared.token.Token.{Token}
use Rattle.sr_tree.specs.declared.token.TokenKind.{TokenKind}
use Rattle.sr_tree.specs.declared.token.TokenKind.TheVariants as kind
use Rattle.sr_tree.specs.declared.token.Word.{Word}
use Rattle.sr_tree.specs.declared.token.Word.TheVariants as word
use Rattle.sr_tree.specs.Components as g
use Rattle.sr_tree.specs.Components.{SpellsList, SpellsEnd, SpellsSpecItem, SpellsProcItem, SpellsProc, SpellsProcedure, SpellsProcess, SpellsFinal, SpellsItem, IsOfResource, AllOfResource}
use Rattle.sr_tree.specs.Statements.{SpellsStatement}
use Rattle.sr_tree.specs.Tables.{IsName, IsSeparator, name_of}
use Rattle.sr_tree.specs.Tests.{is_sign, is_word, is_name}
use Rattle.sr_tree.specs.Tokens.{word_at, name_at, is_separator}
use Rattle.sr_expr_reader.specs.TypeReaders.{TypeReaders, type_readers, signature_at}
use Rattle.sr_expr_reader.proofs.Families.{YieldsIn, BelowIn, below, token_then, below_token, below_then, below_seq, yields_then, below_returned, yields_returned, yields_met, yields_unmet, below_met, below_unmet, yields_part, below_part}
use Rattle.sr_expr_reader.proofs.TokensSound.{kind_of_sign, kind_of_word}
use Rattle.sr_expr_reader.proofs.TokensComplete.{word-reads, name-reads}
use Rattle.sr_expr_reader.proofs.TypesQuiet.{TypeStops, stops-quiet-signature}
use Rattle.sr_expr_reader.proofs.TypesComplete.{complete-signature}
use Rattle.sr_expr_reader.proofs.Yields.{steps-readers}
use Rattle.sr_program_reader.specs.ComponentReaders.{is_this_name, this_name_at, end_at, begins_resource_spec, begins_spec, resource_spec_item_at, spec_item_at, begins_proc_item, proc_item_at, proc_block_at, proc_at, procedure_at, process_at, final_at, begins_item, item_at, resource_spec_at, global_spec_at}
use Rattle.sr_program_reader.specs.DeclarationReaders.{import_at, const_at, type_decl_at, optype_at, op_at, var_at, sem_at}
use Rattle.sr_program_reader.specs.StatementReaders.{statement_readers, begins_statement, statement_at, enclosed_names_at, returned_name_at, optional_quantifiers_at}
use Rattle.sr_program_reader.proofs.ComponentStarts.{OfResource, PlainItem, IsPlain, resource-spec-begins, spec-begins, proc-item-begins, plain-item-begins, begins-other, proc-begins, procedure-begins, process-begins}
use Rattle.sr_program_reader.proofs.DeclarationStarts.{Begins, begins, begins-test, import-begins, const-begins, type-begins, optype-begins, op-begins, var-begins, sem-begins}
use Rattle.sr_program_reader.proofs.DeclarationsComplete.{Rests, complete-import, complete-const, complete-type-decl, complete-optype, complete-op, complete-var, complete-sem}
use Rattle.sr_program_reader.proofs.Lists.{IsItem, ClosesList, list-complete}
use Rattle.sr_program_reader.proofs.StatementEnds.{Ends, closes, separator-ends, closing-ends}
use Rattle.sr_program_reader.proofs.StatementPartsComplete.{complete-optional-quantifiers, complete-enclosed-names, complete-returned-name}
use Rattle.sr_program_reader.proofs.StatementStarts.{statement-begins}
use Rattle.sr_program_reader.proofs.StatementsComplete.{complete-statement}

-- ---- tests

differ : true ≡ false → ⊥
differ h = cc

-- a test that a word fails isn't passed by it
pub no-word : (f : TokenKind → Bool) (w : Word) → f (kind.Word w) ≡ false → (k : TokenKind) → f k ≡ true → is_word w k ≡ false
no-word f w e k h = go (is_word w k) refl
  where
    go : (b : Bool) → is_word w k ≡ b → b ≡ false
    go true i = absurd (differ (sym h ∙ ap f (kind_of_word w k i) ∙ e))
    go false i = refl

pub no-sign : (f : TokenKind → Bool) (s : Sign) → f (kind.Sign s) ≡ false → (k : TokenKind) → f k ≡ true → is_sign s k ≡ false
no-sign f s e k h = go (is_sign s k) refl
  where
    go : (b : Bool) → is_sign s k ≡ b → b ≡ false
    go true i = absurd (differ (sym h ∙ ap f (kind_of_sign s k i) ∙ e))
    go false i = refl

-- what passes one test fails another
pub refuted : (f h : TokenKind → Bool) → ((k : TokenKind) → f k ≡ true → h k ≡ false) → (s : List Token) → next_is (λ t. f t.kind) s ≡ true
    → next_is (λ t. h t.kind) s ≡ false
refuted f h i [] e = refl
refuted f h i (t ∷ s) e = i t.kind e

-- a test that separators, items and what stands after the list fail
pub list-fails : {A : Type 0} {Spells : A → List Token → Type 0} (test : TokenKind → Bool) → test kind.Separator ≡ false
    → ((i : A) (u : List Token) → Spells i u → (q : List Token) → next_is (λ t. test t.kind) (u ++ q) ≡ false)
    → {b : Bool} {is : List A} {v : List Token} → SpellsList Spells b is v → (q : List Token) → next_is (λ t. test t.kind) q ≡ false
    → next_is (λ t. test t.kind) (v ++ q) ≡ false
list-fails test e f g.stop_here q h = h
list-fails test e f (g.separator t i l) q h = ap test i ∙ e
list-fails test e f (g.one {i = i} {u = u} {v = v} d l) q h = ap (next_is (λ t. test t.kind)) (append_assoc u v q) ∙ f i u d (v ++ q)

pub list-map : {A : Type 0} {P Q : A → List Token → Type 0} → ((i : A) (u : List Token) → P i u → Q i u) → {b : Bool} {is : List A} {u : List Token} → SpellsList P b is u
    → SpellsList Q b is u
list-map f g.stop_here = g.stop_here
list-map f (g.separator t h l) = g.separator t h (list-map f l)
list-map f (g.one {i = i} {u = u} d l) = g.one (f i u d) (list-map f l)

-- what ends statements ends declarations
pub ends-rest : {q : List Token} → Ends q → Rests q
ends-rest e = record {
  stops = e.stops;
  types = record { point = e.stops.point; brace = e.brace; returns = e.returns };
  comma = e.comma;
  colon = e.colon;
  assign = e.assign;
}

-- a word after which no list goes on
pub word-ends : {w : Word} {u : List Token} → Begins w u → closes (kind.Word w) ≡ true → (q : List Token) → Ends (u ++ q)
word-ends (begins {u = u} t h) e q = closing-ends t (u ++ q) (ap closes h ∙ e)

pub word-closes : {w : Word} {u : List Token} (begun : TokenKind → Bool) → Begins w u → closes (kind.Word w) ≡ true → begun (kind.Word w) ≡ false → (q : List Token)
    → ClosesList (λ t. begun t.kind) Ends (u ++ q)
word-closes begun b e n q = record { ends = word-ends b e q; separator = begins-test b is_separator false refl q; item = begins-test b begun false n q }

-- ---- names after `body` and `end`

this-is : (name : Name) (t : Token) → IsName t → t.text ≡ name.text → is_this_name name t ≡ true
this-is name t h e = both (is_name t.kind) (pointwise nat_eq t.text name.text) (ap is_name h) ((slice_eq-Decides Decides-eqb t.text name.text _ refl).1 e)
  where
    both : (a b : Bool) → a ≡ true → b ≡ true → (a && b) ≡ true
    both true b e f = f
    both false b e f = e

pub this-name-reads : (name : Name) (t : Token) (q : List Token) → IsName t → t.text ≡ name.text → this_name_at name (t ∷ q) ≡ Ok (t.span, q)
unfolding this_name_at
this-name-reads name t q h e = ap (λ b. given (if b then Some t.span else None) q (length (t ∷ q))) (this-is name t h e)

-- no name
abbrev pub NoName : List Token → Type 0
NoName q = next_is (λ t. is_name t.kind) q ≡ false

-- `end` and a name are read to some span
pub record EndsAs {R : Type 0} (family : ℕ → R) (name : Name) (u q : List Token) : Type 0 where
  pub span : Span
  pub yields : YieldsIn family (λ r. end_at name) (u ++ q) (Ok (span, q))

pub end-yields : {R : Type 0} (family : ℕ → R) {name : Name} {u : List Token} → SpellsEnd name u → (q : List Token) → NoName q → EndsAs family name u q
unfolding end_at
end-yields family {name = name} (g.end_ t h g.unnamed) q n = record {
  span = t.span;
  yields = token_then (word_at word.End) _ t q t.span _ (word-reads word.End t q h) (below_unmet _ _ _ q _ n (below_returned t.span q));
}
end-yields family {name = name} (g.end_ t h (g.ends m i e)) q n = record {
  span = m.span;
  yields =
      token_then (word_at word.End) _ t (m ∷ q) t.span _ (word-reads word.End t (m ∷ q) h)
      (below_met _ (λ r. this_name_at name) _ (m ∷ q) _ (ap is_name i) (record { gives = λ k l. this-name-reads name m q i e }));
}

pub end-begins : {name : Name} {u : List Token} → SpellsEnd name u → Begins word.End u
end-begins (g.end_ t h e) = begins t h

-- ---- specs

-- a declaration among what may stand there
in-types : {A : Type 0} {f : TypeReaders → Reader Token A} {s : List Token} {z : Result (A × List Token) ℕ} → YieldsIn type_readers f s z
    → YieldsIn statement_readers (λ r. f r.types) s z
in-types {f = f} {s = s} {z = z} y = yields_part (λ r. r.types) (λ k. refl) f s z y

resource-spec-yields : {i : SpecItem} {u : List Token} → SpellsSpecItem i u → IsOfResource i → (q : List Token) → Rests q
    → YieldsIn type_readers resource_spec_item_at (u ++ q) (Ok (i, q))
unfolding resource_spec_item_at
resource-spec-yields (g.imports {d = d} {u = u} x) p q e =
    yields_met _ _ _ (u ++ q) _ (begins-test (import-begins x) (is_word word.Import) true refl q)
    (yields_then (λ r. import_at r.expressions) _ u q d _ (yields_part (λ r. r.expressions) (λ k. refl) import_at (u ++ q) _ (complete-import x q e)) (yields_returned _ q))
resource-spec-yields (g.constant {d = d} {u = u} x) p q e =
    yields_unmet _ _ _ (u ++ q) _ (begins-test (const-begins x) (is_word word.Import) false refl q)
    (yields_met _ _ _ (u ++ q) _ (begins-test (const-begins x) (is_word word.Const) true refl q)
    (yields_then const_at _ u q d _ (complete-const x q e) (yields_returned _ q)))
resource-spec-yields (g.type_decl {d = d} {u = u} x) p q e =
    yields_unmet _ _ _ (u ++ q) _ (begins-test (type-begins x) (is_word word.Import) false refl q)
    (yields_unmet _ _ _ (u ++ q) _ (begins-test (type-begins x) (is_word word.Const) false refl q)
    (yields_met _ _ _ (u ++ q) _ (begins-test (type-begins x) (is_word word.Type) true refl q)
    (yields_then type_decl_at _ u q d _ (complete-type-decl x q e) (yields_returned _ q))))
resource-spec-yields (g.optype {d = d} {u = u} x) p q e =
    yields_unmet _ _ _ (u ++ q) _ (begins-test (optype-begins x) (is_word word.Import) false refl q)
    (yields_unmet _ _ _ (u ++ q) _ (begins-test (optype-begins x) (is_word word.Const) false refl q)
    (yields_unmet _ _ _ (u ++ q) _ (begins-test (optype-begins x) (is_word word.Type) false refl q)
    (yields_met _ _ _ (u ++ q) _ (begins-test (optype-begins x) (is_word word.OpType) true refl q)
    (yields_then optype_at _ u q d _ (complete-optype x q e) (yields_returned _ q)))))
resource-spec-yields (g.op {d = d} {u = u} x) p q e =
    yields_unmet _ _ _ (u ++ q) _ (begins-test (op-begins x) (is_word word.Import) false refl q)
    (yields_unmet _ _ _ (u ++ q) _ (begins-test (op-begins x) (is_word word.Const) false refl q)
    (yields_unmet _ _ _ (u ++ q) _ (begins-test (op-begins x) (is_word word.Type) false refl q)
    (yields_unmet _ _ _ (u ++ q) _ (begins-test (op-begins x) (is_word word.OpType) false refl q)
    (yields_then op_at _ u q d _ (complete-op x q e) (yields_returned _ q)))))
resource-spec-yields (g.variables x) p q e = absurd p
resource-spec-yields (g.semaphores x) p q e = absurd p

-- what may stand in the spec of a resource
also-resource : {i : SpecItem} {u : List Token} → SpellsSpecItem i u → IsOfResource i → (q : List Token) → Rests q → YieldsIn type_readers spec_item_at (u ++ q) (Ok (i, q))
unfolding spec_item_at
also-resource {i = i} {u = u} d p q e =
    yields_unmet _ _ _ (u ++ q) _ (refuted begins_resource_spec (is_word word.Var) (no-word begins_resource_spec word.Var refl) (u ++ q) (resource-spec-begins d p q))
    (yields_unmet _ _ _ (u ++ q) _ (refuted begins_resource_spec (is_word word.Sem) (no-word begins_resource_spec word.Sem refl) (u ++ q) (resource-spec-begins d p q))
    (resource-spec-yields d p q e))

pub spec-yields : {i : SpecItem} {u : List Token} → SpellsSpecItem i u → (q : List Token) → Rests q → YieldsIn type_readers spec_item_at (u ++ q) (Ok (i, q))
unfolding spec_item_at
spec-yields (g.variables {d = d} {u = u} x) q e =
    yields_met _ _ _ (u ++ q) _ (begins-test (var-begins x) (is_word word.Var) true refl q)
    (yields_then var_at _ u q d _ (complete-var x q e) (yields_returned _ q))
spec-yields (g.semaphores {d = d} {u = u} x) q e =
    yields_unmet _ _ _ (u ++ q) _ (begins-test (sem-begins x) (is_word word.Var) false refl q)
    (yields_met _ _ _ (u ++ q) _ (begins-test (sem-begins x) (is_word word.Sem) true refl q)
    (yields_then (λ r. sem_at r.expressions) _ u q d _ (yields_part (λ r. r.expressions) (λ k. refl) sem_at (u ++ q) _ (complete-sem x q e)) (yields_returned _ q)))
spec-yields (g.imports x) q e = also-resource (g.imports x) tt q e
spec-yields (g.constant x) q e = also-resource (g.constant x) tt q e
spec-yields (g.type_decl x) q e = also-resource (g.type_decl x) tt q e
spec-yields (g.optype x) q e = also-resource (g.optype x) tt q e
spec-yields (g.op x) q e = also-resource (g.op x) tt q e

resource-spec-item : (i : SpecItem) (u : List Token) → OfResource i u → IsItem type_readers (λ t. begins_resource_spec t.kind) resource_spec_item_at Ends i u
resource-spec-item i u d = record { starts = resource-spec-begins d.0 d.1; yields = λ q e. resource-spec-yields d.0 d.1 q (ends-rest e) }

spec-item : (i : SpecItem) (u : List Token) → SpellsSpecItem i u → IsItem type_readers (λ t. begins_spec t.kind) spec_item_at Ends i u
spec-item i u d = record { starts = spec-begins d begins_spec (λ k h. h); yields = λ q e. spec-yields d q (ends-rest e) }

all-of-resource : {b : Bool} {is : List SpecItem} {u : List Token} → SpellsList SpellsSpecItem b is u → AllOfResource is → SpellsList OfResource b is u
all-of-resource g.stop_here a = g.stop_here
all-of-resource (g.separator t h l) a = g.separator t h (all-of-resource l a)
all-of-resource (g.one d l) (g.one_more p a) = g.one (d, p) (all-of-resource l a)

pub resource-specs-yield : {is : List SpecItem} {u : List Token} → SpellsList SpellsSpecItem true is u → AllOfResource is → (q : List Token)
    → ClosesList (λ t. begins_resource_spec t.kind) Ends q → YieldsIn type_readers resource_spec_at (u ++ q) (Ok (is, q))
unfolding resource_spec_at
resource-specs-yield l a q c =
    list-complete type_readers (λ t. begins_resource_spec t.kind) resource_spec_item_at Ends separator-ends (λ t h. begins-other begins_resource_spec refl t.kind h)
    (λ r. r.expressions.steps) steps-readers (list-map resource-spec-item (all-of-resource l a)) q c

pub global-specs-yield : {is : List SpecItem} {u : List Token} → SpellsList SpellsSpecItem true is u → (q : List Token) → ClosesList (λ t. begins_spec t.kind) Ends q
    → YieldsIn type_readers global_spec_at (u ++ q) (Ok (is, q))
unfolding global_spec_at
global-specs-yield l q c =
    list-complete type_readers (λ t. begins_spec t.kind) spec_item_at Ends separator-ends (λ t h. begins-other begins_spec refl t.kind h)
    (λ r. r.expressions.steps) steps-readers (list-map spec-item l) q c

-- ---- procs, procedures, processes and final code

-- a word that begins no statement
statement-no-word : {s : _} {u : List Token} → SpellsStatement s u → (w : Word) → begins_statement (kind.Word w) ≡ false → (q : List Token)
    → next_is (λ t. is_word w t.kind) (u ++ q) ≡ false
statement-no-word {u = u} d w e q = refuted begins_statement (is_word w) (no-word begins_statement w e) (u ++ q) (statement-begins d q)

proc-item-yields : {i : ProcItem} {u : List Token} → SpellsProcItem i u → (q : List Token) → Ends q → YieldsIn statement_readers proc_item_at (u ++ q) (Ok (i, q))
unfolding proc_item_at
proc-item-yields (g.constant {d = d} {u = u} x) q e =
    yields_met _ _ _ (u ++ q) _ (begins-test (const-begins x) (is_word word.Const) true refl q)
    (yields_then (λ r. const_at r.types) _ u q d _ (in-types (complete-const x q (ends-rest e))) (yields_returned _ q))
proc-item-yields (g.variables {d = d} {u = u} x) q e =
    yields_unmet _ _ _ (u ++ q) _ (begins-test (var-begins x) (is_word word.Const) false refl q)
    (yields_met _ _ _ (u ++ q) _ (begins-test (var-begins x) (is_word word.Var) true refl q)
    (yields_then (λ r. var_at r.types) _ u q d _ (in-types (complete-var x q (ends-rest e))) (yields_returned _ q)))
proc-item-yields (g.op {d = d} {u = u} x) q e =
    yields_unmet _ _ _ (u ++ q) _ (begins-test (op-begins x) (is_word word.Const) false refl q)
    (yields_unmet _ _ _ (u ++ q) _ (begins-test (op-begins x) (is_word word.Var) false refl q)
    (yields_met _ _ _ (u ++ q) _ (begins-test (op-begins x) (is_word word.Op) true refl q)
    (yields_then (λ r. op_at r.types) _ u q d _ (in-types (complete-op x q (ends-rest e))) (yields_returned _ q))))
proc-item-yields (g.semaphores {d = d} {u = u} x) q e =
    yields_unmet _ _ _ (u ++ q) _ (begins-test (sem-begins x) (is_word word.Const) false refl q)
    (yields_unmet _ _ _ (u ++ q) _ (begins-test (sem-begins x) (is_word word.Var) false refl q)
    (yields_unmet _ _ _ (u ++ q) _ (begins-test (sem-begins x) (is_word word.Op) false refl q)
    (yields_met _ _ _ (u ++ q) _ (begins-test (sem-begins x) (is_word word.Sem) true refl q)
    (yields_then (λ r. sem_at r.types.expressions) _ u q d _ (yields_part (λ r. r.types.expressions) (λ k. refl) sem_at (u ++ q) _ (complete-sem x q (ends-rest e)))
    (yields_returned _ q)))))
proc-item-yields (g.a_statement {s = s} {u = u} x) q e =
    yields_unmet _ _ _ (u ++ q) _ (statement-no-word x word.Const refl q)
    (yields_unmet _ _ _ (u ++ q) _ (statement-no-word x word.Var refl q)
    (yields_unmet _ _ _ (u ++ q) _ (statement-no-word x word.Op refl q)
    (yields_unmet _ _ _ (u ++ q) _ (statement-no-word x word.Sem refl q)
    (yields_then statement_at _ u q s _ (complete-statement x q e) (yields_returned _ q)))))

proc-item : (i : ProcItem) (u : List Token) → SpellsProcItem i u → IsItem statement_readers (λ t. begins_proc_item t.kind) proc_item_at Ends i u
proc-item i u d = record { starts = proc-item-begins d; yields = proc-item-yields d }

proc-block-yields : {is : List ProcItem} {u : List Token} → SpellsList SpellsProcItem true is u → {v : List Token} → Begins word.End v → (q : List Token)
    → YieldsIn statement_readers proc_block_at (u ++ (v ++ q)) (Ok (is, v ++ q))
unfolding proc_block_at
proc-block-yields l {v = v} b q =
    list-complete statement_readers (λ t. begins_proc_item t.kind) proc_item_at Ends separator-ends (λ t h. begins-other begins_proc_item refl t.kind h)
    (λ r. r.types.expressions.steps) steps-readers (list-map proc-item l) (v ++ q) (word-closes begins_proc_item b refl refl q)

-- a sign or word that begins no proc item begins no block with its end
block-no-sign : {is : List ProcItem} {u : List Token} → SpellsList SpellsProcItem true is u → {v : List Token} → Begins word.End v → (s : Sign)
    → begins_proc_item (kind.Sign s) ≡ false → (q : List Token) → next_is (λ t. is_sign s t.kind) (u ++ (v ++ q)) ≡ false
block-no-sign l {v = v} b s e q =
    list-fails (is_sign s) refl (λ i u d z. refuted begins_proc_item (is_sign s) (no-sign begins_proc_item s e) (u ++ z) (proc-item-begins d z)) l (v ++ q)
    (begins-test b (is_sign s) false refl q)

block-no-returns : {is : List ProcItem} {u : List Token} → SpellsList SpellsProcItem true is u → {v : List Token} → Begins word.End v → (q : List Token)
    → next_is (λ t. is_word word.Returns t.kind) (u ++ (v ++ q)) ≡ false
block-no-returns l {v = v} b q =
    list-fails (is_word word.Returns) refl
    (λ i u d z. refuted begins_proc_item (is_word word.Returns) (no-word begins_proc_item word.Returns refl) (u ++ z) (proc-item-begins d z)) l (v ++ q)
    (begins-test b (is_word word.Returns) false refl q)

-- a block, `end` and the name
block-end : {A : Type 0} {is : List ProcItem} {x y : List Token} {name : Name} → SpellsList SpellsProcItem true is x → SpellsEnd name y → (a : List ProcItem → A) (q : List Token)
    → NoName q → BelowIn statement_readers (λ r. proc_block_at r >>= λ b. end_at name >>= λ z. returned (a b)) (x ++ (y ++ q)) (Ok (a is, q))
block-end {is = is} {x = x} {y = y} {name = name} b e a q other =
    let w = end-yields statement_readers e q other in
    below_then proc_block_at (λ r c. end_at name >>= λ z. returned (a c)) x (y ++ q) is _ (below _ _ _ (proc-block-yields b (end-begins e) q))
    (below_then (λ r. end_at name) (λ r z. returned (a is)) y q w.span _ (below _ _ _ w.yields) (below_returned (a is) q))

proc-yields : {p : Proc} {u : List Token} → SpellsProc p u → (q : List Token) → NoName q → YieldsIn statement_readers proc_at (u ++ q) (Ok (p, q))
unfolding proc_at
proc-yields (g.proc {ns = ns} {r = r} {is = is} {u = u} {v = v} {x = x} {y = y} t n o c h i j names k re b e) q other =
    let it : Proc = record { span = t.span; name = name_of n; formals = ns; returned = r; block = is } in
    subst (λ z. YieldsIn statement_readers proc_at (t ∷ n ∷ o ∷ z) (Ok (it, q)))
    (ap (λ z. u ++ c ∷ z) (ap (λ z. v ++ z) (sym (append_assoc x y q)) ∙ sym (append_assoc v (x ++ y) q)) ∙ sym (append_assoc u (c ∷ (v ++ (x ++ y))) q))
    (token_then (word_at word.Proc) _ t (n ∷ o ∷ (u ++ c ∷ (v ++ (x ++ (y ++ q))))) t.span _ (word-reads word.Proc t (n ∷ o ∷ (u ++ c ∷ (v ++ (x ++ (y ++ q))))) h)
    (below_token name_at _ n (o ∷ (u ++ c ∷ (v ++ (x ++ (y ++ q))))) (name_of n) _ (name-reads n (o ∷ (u ++ c ∷ (v ++ (x ++ (y ++ q))))) i)
    (below_seq (λ r. enclosed_names_at r.types.expressions) _ (o ∷ (u ++ c ∷ (v ++ (x ++ (y ++ q))))) (o ∷ (u ++ c ∷ [])) (v ++ (x ++ (y ++ q))) ns _
    (ap (λ z. o ∷ z) (sym (append_assoc u (c ∷ []) (v ++ (x ++ (y ++ q))))))
    (below_part (λ r. r.types.expressions) (λ k. refl) enclosed_names_at (o ∷ (u ++ c ∷ (v ++ (x ++ (y ++ q))))) _
    (below enclosed_names_at _ _ (complete-enclosed-names names o c (v ++ (x ++ (y ++ q))) j k)))
    (below_then (λ r. returned_name_at) _ v (x ++ (y ++ q)) r _ (below (λ r. returned_name_at) _ _ (complete-returned-name re (x ++ (y ++ q)) (block-no-returns b (end-begins e) q)))
    (block-end b e (λ is. record { span = t.span; name = name_of n; formals = ns; returned = r; block = is }) q other)))))

procedure-yields : {p : Procedure} {u : List Token} → SpellsProcedure p u → (q : List Token) → NoName q → YieldsIn statement_readers procedure_at (u ++ q) (Ok (p, q))
unfolding procedure_at
procedure-yields (g.procedure {s = s} {is = is} {u = u} {v = v} {x = x} t n h i d b e) q other =
    let f = end-begins e in
    let it : Procedure = record { span = t.span; name = name_of n; signature = s; block = is } in
    let st : TypeStops (v ++ (x ++ q)) = record { point = block-no-sign b f sign.Point refl q; brace = block-no-sign b f sign.OpenBrace refl q; returns = block-no-returns b f q } in
    subst (λ z. YieldsIn statement_readers procedure_at (t ∷ n ∷ z) (Ok (it, q)))
    (ap (λ z. u ++ z) (sym (append_assoc v x q)) ∙ sym (append_assoc u (v ++ x) q))
    (token_then (word_at word.Procedure) _ t (n ∷ (u ++ (v ++ (x ++ q)))) t.span _ (word-reads word.Procedure t (n ∷ (u ++ (v ++ (x ++ q)))) h)
    (below_token name_at _ n (u ++ (v ++ (x ++ q))) (name_of n) _ (name-reads n (u ++ (v ++ (x ++ q))) i)
    (below_then (λ r. signature_at r.types) _ u (v ++ (x ++ q)) s _
    (below (λ r. signature_at r.types) _ _ (in-types (complete-signature d (v ++ (x ++ q)) (stops-quiet-signature d (v ++ (x ++ q)) st))))
    (block-end b e (λ is. record { span = t.span; name = name_of n; signature = s; block = is }) q other))))

process-yields : {p : Process} {u : List Token} → SpellsProcess p u → (q : List Token) → NoName q → YieldsIn statement_readers process_at (u ++ q) (Ok (p, q))
unfolding process_at
process-yields (g.process {qs = qs} {is = is} {u = u} {v = v} {x = x} t n h i d b e) q other =
    let it : Process = record { span = t.span; name = name_of n; quantifiers = qs; block = is } in
    subst (λ z. YieldsIn statement_readers process_at (t ∷ n ∷ z) (Ok (it, q)))
    (ap (λ z. u ++ z) (sym (append_assoc v x q)) ∙ sym (append_assoc u (v ++ x) q))
    (token_then (word_at word.Process) _ t (n ∷ (u ++ (v ++ (x ++ q)))) t.span _ (word-reads word.Process t (n ∷ (u ++ (v ++ (x ++ q)))) h)
    (below_token name_at _ n (u ++ (v ++ (x ++ q))) (name_of n) _ (name-reads n (u ++ (v ++ (x ++ q))) i)
    (below_then (λ r. optional_quantifiers_at r.types.expressions) _ u (v ++ (x ++ q)) qs _
    (below_part (λ r. r.types.expressions) (λ k. refl) optional_quantifiers_at (u ++ (v ++ (x ++ q))) _
    (below optional_quantifiers_at _ _ (complete-optional-quantifiers d (v ++ (x ++ q)) (block-no-sign b (end-begins e) sign.OpenParen refl q))))
    (block-end b e (λ is. record { span = t.span; name = name_of n; quantifiers = qs; block = is }) q other))))

pub final-yields : {f : FinalCode} {u : List Token} → SpellsFinal f u → (q : List Token) → YieldsIn statement_readers final_at (u ++ q) (Ok (f, q))
unfolding final_at
final-yields (g.final {is = is} {u = u} t c h b e) q =
    let it : FinalCode = record { span = t.span; block = is } in
    subst (λ z. YieldsIn statement_readers final_at (t ∷ z) (Ok (it, q))) (sym (append_assoc u (c ∷ []) q))
    (token_then (word_at word.Final) _ t (u ++ c ∷ q) t.span _ (word-reads word.Final t (u ++ c ∷ q) h)
    (below_then proc_block_at _ u (c ∷ q) is _ (below proc_block_at _ _ (proc-block-yields b {v = c ∷ []} (begins c e) q))
    (below_token (word_at word.End) _ c q c.span _ (word-reads word.End c q e) (below_returned it q))))

-- ---- items

-- what ends an item
pub record ItemEnds (q : List Token) : Type 0 where
  pub ends : Ends q
  pub name : NoName q

pub separator-ends-item : (t : Token) (q : List Token) → IsSeparator t → ItemEnds (t ∷ q)
separator-ends-item t q h = record { ends = separator-ends t q h; name = ap is_name h }

pub word-ends-item : {w : Word} {u : List Token} → Begins w u → closes (kind.Word w) ≡ true → (q : List Token) → ItemEnds (u ++ q)
word-ends-item b e q = record { ends = word-ends b e q; name = begins-test b is_name false refl q }

statement-no-spec : (k : TokenKind) → begins_statement k ≡ true → begins_spec k ≡ false
statement-no-spec (kind.Word w) h = of_word w h
  where
    of_word : (w : Word) → begins_statement (kind.Word w) ≡ true → begins_spec (kind.Word w) ≡ false
    of_word word.Import h = cc
    of_word word.Const h = cc
    of_word word.Type h = cc
    of_word word.OpType h = cc
    of_word word.Op h = cc
    of_word word.Var h = cc
    of_word word.Sem h = cc
    of_word _ h = refl
statement-no-spec _ h = refl

item-yields : {i : Item} {u : List Token} → SpellsItem i u → IsPlain i → (q : List Token) → ItemEnds q → YieldsIn statement_readers item_at (u ++ q) (Ok (i, q))
unfolding item_at
item-yields (g.spec {i = i} {u = u} d) p q e =
    yields_met _ _ _ (u ++ q) _ (spec-begins d begins_spec (λ k h. h) q)
    (yields_then (λ r. spec_item_at r.types) _ u q i _ (in-types (spec-yields d q (ends-rest e.ends))) (yields_returned _ q))
item-yields (g.proc {p = x} {u = u} d) p q e =
    yields_unmet _ _ _ (u ++ q) _ (begins-test (proc-begins d) begins_spec false refl q)
    (yields_met _ _ _ (u ++ q) _ (begins-test (proc-begins d) (is_word word.Proc) true refl q)
    (yields_then proc_at _ u q x _ (proc-yields d q e.name) (yields_returned _ q)))
item-yields (g.procedure {p = x} {u = u} d) p q e =
    yields_unmet _ _ _ (u ++ q) _ (begins-test (procedure-begins d) begins_spec false refl q)
    (yields_unmet _ _ _ (u ++ q) _ (begins-test (procedure-begins d) (is_word word.Proc) false refl q)
    (yields_met _ _ _ (u ++ q) _ (begins-test (procedure-begins d) (is_word word.Procedure) true refl q)
    (yields_then procedure_at _ u q x _ (procedure-yields d q e.name) (yields_returned _ q))))
item-yields (g.process {p = x} {u = u} d) p q e =
    yields_unmet _ _ _ (u ++ q) _ (begins-test (process-begins d) begins_spec false refl q)
    (yields_unmet _ _ _ (u ++ q) _ (begins-test (process-begins d) (is_word word.Proc) false refl q)
    (yields_unmet _ _ _ (u ++ q) _ (begins-test (process-begins d) (is_word word.Procedure) false refl q)
    (yields_met _ _ _ (u ++ q) _ (begins-test (process-begins d) (is_word word.Process) true refl q)
    (yields_then process_at _ u q x _ (process-yields d q e.name) (yields_returned _ q)))))
item-yields (g.final d) p q e = absurd p
item-yields (g.a_statement {s = s} {u = u} d) p q e =
    yields_unmet _ _ _ (u ++ q) _ (refuted begins_statement begins_spec statement-no-spec (u ++ q) (statement-begins d q))
    (yields_unmet _ _ _ (u ++ q) _ (statement-no-word d word.Proc refl q)
    (yields_unmet _ _ _ (u ++ q) _ (statement-no-word d word.Procedure refl q)
    (yields_unmet _ _ _ (u ++ q) _ (statement-no-word d word.Process refl q)
    (yields_then statement_at _ u q s _ (complete-statement d q e.ends) (yields_returned _ q)))))

pub plain-item : (i : Item) (u : List Token) → PlainItem i u → IsItem statement_readers (λ t. begins_item t.kind) item_at ItemEnds i u
plain-item i u d = record { starts = plain-item-begins d.0 d.1; yields = item-yields d.0 d.1 }

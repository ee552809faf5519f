-- What the readers of components read is spelled so by the grammar, and depends on one token after it alone.
use Rattle.std.proofs.Common.{◌≡◌, refl, sym, ◌∙◌, ap, subst, ℕ, ◌+◌, ◌≤◌, Bool, true, false, List, [], ◌∷◌, ◌++◌, length, Option, Some, None, Ok, Err, append_assoc, arith}
use Rattle.std.specs.Prelude.{if◌then◌else◌, nat_eq}
use Rattle.std.specs.Cmp.Lexicographic.{pointwise}
use Rattle.std.proofs.lemmas.Bool.Decides.{Decides-eqb}
use Rattle.std.proofs.lemmas.List.Sums.{sum_by-append}
use Rattle.std.proofs.lemmas.Slice.Eq.{slice_eq-Decides}
use Rattle.sr_reader.specs.Reader.{next_is}
use Rattle.sr_reader.proofs.Soundness.{Sound, Outcome, anywhere, Then, joined, Returns, returns, IsOne, is_one, one-sound, returned-sound, unfit-sound, weaker, weaker-unless, unless-first, then-sound, branch-sound, branch-where, branch-by, ended, first}
use Rattle.sr_value.specs.declared.place.Span.{Span}
use Rattle.sr_tree.specs.declared.component.Component.{Component}
use Rattle.sr_tree.specs.declared.component.Component.TheVariants.{Resource, SplitResource, Global}
use Rattle.sr_tree.specs.declared.component.File.{File}
use Rattle.sr_tree.specs.declared.component.FinalCode.{FinalCode}
use Rattle.sr_tree.specs.declared.component.Item.{Item}
use Rattle.sr_tree.specs.declared.component.Item.TheVariants as item
use Rattle.sr_tree.specs.declared.component.Proc.{Proc}
use Rattle.sr_tree.specs.declared.component.ProcItem.{ProcItem}
use Rattle.sr_tree.specs.declared.component.ProcItem.TheVariants as proc_item
use Rattle.sr_tree.specs.declared.component.Procedure.{Procedure}
use Rattle.sr_tree.specs.declared.component.Process.{Process}
use Rattle.sr_tree.specs.declared.component.SpecItem.{SpecItem}
use Rattle.sr_tree.specs.declared.component.SpecItem.TheVariants as spec_item
use Rattle.sr_tree.specs.declared.name.Name.{Name}
use Rattle.sr_tree.specs.declared.token.Sign.TheVariants as sign
use Rattle.sr_tree.specs.declared.token.Token.{Token}
use Rattle.sr_tree.specs.declared.token.TokenKind.TheVariants as kind
use Rattle.sr_tree.specs.declared.token.Word.{Word}
use Rattle.sr_tree.specs.declared.token.Word.TheVariants as word
use Rattle.sr_tree.specs.declared.types.Formal.{Formal, out-Formal}
use Rattle.sr_tree.specs.declared.types.PassMode.{PassMode}
use Rattle.sr_tree.specs.declared.types.PassMode.TheVariants.{Val}
use Rattle.sr_tree.specs.declared.types.TypePlace.TheVariants.{Elsewhere}
use Rattle.sr_tree.specs.Components as g
use Rattle.sr_tree.specs.Components.{SpellsList, SpellsEndName, SpellsEnd, SpellsSpecItem, SpellsProcItem, SpellsProc, SpellsProcedure, SpellsProcess, SpellsFinal, SpellsItem, final_count, AllOfResource, IsByValue, AllByValue, SpellsOptionalFormals, SpellsGlobalBody, SpellsComponent}
use Rattle.sr_tree.specs.Declarations.{SpellsImport, SpellsConst, SpellsTypeDecl, SpellsOpType, SpellsOp, SpellsVar, SpellsSem}
use Rattle.sr_tree.specs.Statements.{SpellsReturnedName, SpellsOptionalQuantifiers, SpellsStatement}
use Rattle.sr_tree.specs.Tables.{IsSign, IsWord, IsName, name_of}
use Rattle.sr_tree.specs.Tests.{is_word, is_name}
use Rattle.sr_tree.specs.Types as types
use Rattle.sr_tree.specs.Types.{SpellsFormal, SpellsMoreFormals, SpellsFormals, SpellsMode, SpellsSignature, pass_mode_of}
use Rattle.sr_tree.specs.Tokens.{separator_at, is_separator}
use Rattle.sr_expr_reader.specs.TypeReaders.{TypeReaders, is_separated, formal_at}
use Rattle.sr_expr_reader.proofs.ExpressionsSound.{both}
use Rattle.sr_expr_reader.proofs.ListsSound.{Grows, grows, list-sound}
use Rattle.sr_expr_reader.proofs.TokensSound.{ASign, a_sign, AWord, a_word, AName, a_name, ASeparator, a_separator, sign-sound, word-sound, name-sound, separator-sound, kind_of_name, none_some, some_some}
use Rattle.sr_expr_reader.proofs.TypesSound.{SoundTypeReaders, formal-sound, signature-sound}
use Rattle.sr_program_reader.specs.ComponentReaders.{is_this_name, this_name_at, end_at, begins_resource_spec, begins_spec, resource_spec_item_at, spec_item_at, begins_proc_item, proc_item_at, proc_block_at, proc_at, procedure_at, process_at, final_at, begins_item, item_at, plain_items_at, is_final_code, final_and_items_at, resource_items_at, global_items_at, is_mode_by_place, value_formal_at, next_value_formal_at, more_value_formals_at, value_formals_at, optional_value_formals_at, whole_resource_at, resource_spec_at, global_spec_at, split_resource_at, resource_at, global_body_at, global_at, begins_component, component_at, end_of_tokens, file_at}
use Rattle.sr_program_reader.specs.Files.{SpellsFile}
use Rattle.sr_program_reader.specs.StatementReaders.{StatementReaders}
use Rattle.sr_program_reader.proofs.ComponentStarts.{OfResource, PlainItem, IsPlain, resource-spec-begins, spec-begins, proc-item-begins, plain-item-begins, component-begins, begun-some, begins-no-separator}
use Rattle.sr_program_reader.proofs.DeclarationsSound.{finish, import-sound, const-sound, type_decl-sound, optype-sound, op-sound, var-sound, sem-sound}
use Rattle.sr_program_reader.proofs.Fronts.{SpellsFront, empty_front, separator_front, item_front, front-then-list, list-of-front, FrontBetween, fronts-sound, strengthened}
use Rattle.sr_program_reader.proofs.Lists as lists
use Rattle.sr_program_reader.proofs.StatementPartsSound.{EnclosedNames, enclosed_names, enclosed-names-sound, returned-name-sound, optional-quantifiers-sound}
use Rattle.sr_program_reader.proofs.StatementsSound.{SoundStatements, statement-sound}

-- ---- names after `body` and `end`

pub data ThisName (name : Name) : Span → List Token → Type 0 where
  this_name : (t : Token) → IsName t → t.text ≡ name.text → ThisName name t.span (t ∷ [])

same-text : (xs ys : List ℕ) → pointwise nat_eq xs ys ≡ true → xs ≡ ys
same-text xs ys h = (slice_eq-Decides Decides-eqb xs ys (pointwise nat_eq xs ys) refl).0 h

this-name : (name : Name) (t : Token) → is_this_name name t ≡ true → IsName t × (t.text ≡ name.text)
this-name name t h =
    let b = both (is_name t.kind) (pointwise nat_eq t.text name.text) h in
    (kind_of_name t.kind b.0, same-text t.text name.text b.1)

pub this_name-sound : (name : Name) → Sound (ThisName name) (this_name_at name)
unfolding this_name_at
this_name-sound name = weaker found (one-sound _)
  where
    of : (t : Token) (a : Span) (b : Bool) → is_this_name name t ≡ b → (if b then Some t.span else None) ≡ Some a → ThisName name a (t ∷ [])
    of t a true h e = let n = this-name name t h in subst (λ x. ThisName name x (t ∷ [])) (some_some t.span a e) (this_name t n.0 n.1)
    of t a false h e = absurd (none_some a e)

    found : (a : Span) (u : List Token) → IsOne (λ t. if is_this_name name t then Some t.span else None) a u → ThisName name a u
    found a u (is_one t e) = of t a (is_this_name name t) refl e

-- what stands after `end`
data AfterEnd (name : Name) : Span → List Token → Type 0 where
  after_end : {s : Span} {u : List Token} → SpellsEndName name u → AfterEnd name s u

pub data Ending (name : Name) : Span → List Token → Type 0 where
  ending : {s : Span} {u : List Token} → SpellsEnd name u → Ending name s u

named-end : (name : Name) (s : Span) (u : List Token) → ThisName name s u → AfterEnd name s u
named-end name s u (this_name t h e) = after_end (g.ends t h e)

unnamed-end : (name : Name) (x s : Span) (u : List Token) → Returns x s u → AfterEnd name s u
unnamed-end name x s u returns = after_end g.unnamed

end-found : (name : Name) (s : Span) (u : List Token) → Then (AWord word.End) (λ x. AfterEnd name) s u → Ending name s u
end-found name s u (joined (a_word t h) (after_end e)) = ending (g.end_ t h e)

pub end-sound : (name : Name) → Sound (Ending name) (end_at name)
unfolding end_at
end-sound name = weaker (end-found name) (then-sound (word-sound word.End) (λ x. branch-sound
    (weaker (named-end name) (this_name-sound name)) (weaker (unnamed-end name x) (returned-sound x))))

-- ---- specs

import-spec : (i : SpecItem) (u : List Token) → Then SpellsImport (λ d. Returns (spec_item.Import d)) i u → OfResource i u
import-spec i w (joined {a = d} {u = u} x returns) = (ended (SpellsSpecItem (spec_item.Import d)) u (g.imports x), tt)

const-spec : (i : SpecItem) (u : List Token) → Then SpellsConst (λ d. Returns (spec_item.Const d)) i u → OfResource i u
const-spec i w (joined {a = d} {u = u} x returns) = (ended (SpellsSpecItem (spec_item.Const d)) u (g.constant x), tt)

type-spec : (i : SpecItem) (u : List Token) → Then SpellsTypeDecl (λ d. Returns (spec_item.Type d)) i u → OfResource i u
type-spec i w (joined {a = d} {u = u} x returns) = (ended (SpellsSpecItem (spec_item.Type d)) u (g.type_decl x), tt)

optype-spec : (i : SpecItem) (u : List Token) → Then SpellsOpType (λ d. Returns (spec_item.OpType d)) i u → OfResource i u
optype-spec i w (joined {a = d} {u = u} x returns) = (ended (SpellsSpecItem (spec_item.OpType d)) u (g.optype x), tt)

op-spec : (i : SpecItem) (u : List Token) → Then SpellsOp (λ d. Returns (spec_item.Op d)) i u → OfResource i u
op-spec i w (joined {a = d} {u = u} x returns) = (ended (SpellsSpecItem (spec_item.Op d)) u (g.op x), tt)

var-spec : (i : SpecItem) (u : List Token) → Then SpellsVar (λ d. Returns (spec_item.Var d)) i u → SpellsSpecItem i u
var-spec i w (joined {a = d} {u = u} x returns) = ended (SpellsSpecItem (spec_item.Var d)) u (g.variables x)

sem-spec : (i : SpecItem) (u : List Token) → Then SpellsSem (λ d. Returns (spec_item.Sem d)) i u → SpellsSpecItem i u
sem-spec i w (joined {a = d} {u = u} x returns) = ended (SpellsSpecItem (spec_item.Sem d)) u (g.semaphores x)

of-resource-is-spec : (i : SpecItem) (u : List Token) → OfResource i u → SpellsSpecItem i u
of-resource-is-spec i u d = d.0

-- a list of what may stand in the spec of a resource
abbrev pub ResourceSpec : List SpecItem → List Token → Type 0
ResourceSpec is u = SpellsList SpellsSpecItem true is u × AllOfResource is

all-of-resource : {b : Bool} {is : List SpecItem} {u : List Token} → SpellsList OfResource b is u → SpellsList SpellsSpecItem b is u × AllOfResource is
all-of-resource g.stop_here = (g.stop_here, g.none_left)
all-of-resource (g.separator t h l) = let a = all-of-resource l in (g.separator t h a.0, a.1)
all-of-resource (g.one d l) = let a = all-of-resource l in (g.one d.0 a.0, g.one_more d.1 a.1)

some-of-resource : (i : SpecItem) → OfResource i [] → ⊥
some-of-resource i d = begun-some (λ t. begins_resource_spec t.kind) (resource-spec-begins d.0 d.1 [])

some-spec : (i : SpecItem) → SpellsSpecItem i [] → ⊥
some-spec i d = begun-some (λ t. begins_spec t.kind) (spec-begins d begins_spec (λ k h. h) [])

module _ (r : TypeReaders) (l : SoundTypeReaders r) where
  resource_spec_item-sound : Sound OfResource (resource_spec_item_at r)
  unfolding resource_spec_item_at
  resource_spec_item-sound =
      branch-sound (weaker import-spec (then-sound (import-sound r.expressions l.expressions) (λ d. returned-sound (spec_item.Import d))))
      (branch-sound (weaker const-spec (then-sound (const-sound r l) (λ d. returned-sound (spec_item.Const d))))
      (branch-sound (weaker type-spec (then-sound (type_decl-sound r l) (λ d. returned-sound (spec_item.Type d))))
      (branch-sound (weaker optype-spec (then-sound (optype-sound r l) (λ d. returned-sound (spec_item.OpType d))))
      (weaker op-spec (then-sound (op-sound r l) (λ d. returned-sound (spec_item.Op d)))))))

  spec_item-sound : Sound SpellsSpecItem (spec_item_at r)
  unfolding spec_item_at
  spec_item-sound =
      branch-sound (weaker var-spec (then-sound (var-sound r l) (λ d. returned-sound (spec_item.Var d))))
      (branch-sound (weaker sem-spec (then-sound (sem-sound r.expressions l.expressions) (λ d. returned-sound (spec_item.Sem d))))
      (weaker of-resource-is-spec resource_spec_item-sound))

  resource_spec-sound : Sound ResourceSpec (resource_spec_at r)
  unfolding resource_spec_at
  resource_spec-sound = weaker (λ is u d. all-of-resource d)
      (lists.list-sound (λ t. begins_resource_spec t.kind) OfResource some-of-resource (resource_spec_item_at r) resource_spec_item-sound r.expressions.steps)

  global_spec-sound : Sound (SpellsList SpellsSpecItem true) (global_spec_at r)
  unfolding global_spec_at
  global_spec-sound = lists.list-sound (λ t. begins_spec t.kind) SpellsSpecItem some-spec (spec_item_at r) spec_item-sound r.expressions.steps

-- ---- formals that are passed by value

some-formal : (f : Formal) → SpellsFormal f [] → ⊥
some-formal f d = go f [] refl d
  where
    nothing : (u v w : List Token) (c : Token) → u ++ (v ++ c ∷ w) ≡ [] → ⊥
    nothing [] [] w c e = cc
    nothing [] (t ∷ v) w c e = cc
    nothing (t ∷ u) v w c e = cc

    go : (f : Formal) (z : List Token) → z ≡ [] → SpellsFormal f z → ⊥
    go f z e (types.formal {u = u} {v = v} {w = w} colon m ds h t) = nothing u v w colon e

-- a word that passes by value is `val`
by-value-word : (w : Word) (m : PassMode) → is_mode_by_place (kind.Word w) ≡ false → pass_mode_of w ≡ Some m → m ≡ Val
by-value-word word.Val m h e = sym (some_some Val m e)
by-value-word word.Var m h e = cc
by-value-word word.Res m h e = cc
by-value-word _ m h e = absurd (none_some m e)

by-value : {m : Option PassMode} {u : List Token} → SpellsMode m u → (q : List Token) → next_is (λ t. is_mode_by_place t.kind) (u ++ q) ≡ false → IsByValue m
by-value types.no_mode q h = tt
by-value (types.mode t w m i e) q h = by-value-word w m (sym (ap is_mode_by_place i) ∙ h) e

abbrev pub ValueFormal : Formal → List Token → Type 0
ValueFormal f u = SpellsFormal f u × IsByValue (out-Formal f).mode

value-formal : (f : Formal) (u : List Token) → SpellsFormal f u × (next_is (λ t. is_mode_by_place t.kind) u ≡ false) → ValueFormal f u
unfolding denote.Hole.Carrier.out denote.Hole.Carrier.roll
value-formal f z (types.formal {m = m} {ds = ds} {t = t} {u = u} {v = v} {w = w} colon o ds' h ty, e) =
    (types.formal colon o ds' h ty, by-value o (v ++ colon ∷ w) e)

-- {";" formal} of such formals
abbrev pub MoreValueFormals : List Formal → List Token → Type 0
MoreValueFormals fs u = SpellsMoreFormals fs u × AllByValue fs

more-value-formals : (f : Formal) (fs : List Formal) (u v : List Token) → Then ASeparator (λ s. ValueFormal) f u → MoreValueFormals fs v → MoreValueFormals (f ∷ fs) (u ++ v)
more-value-formals f fs w v (joined (a_separator t h) d) m = (types.one_more_formal t h d.0 m.0, g.one_more d.1 m.1)

abbrev pub ValueFormals : List Formal → List Token → Type 0
ValueFormals fs u = SpellsFormals fs u × AllByValue fs

-- what stands after their opening parenthesis
data AfterOpening : List Formal → List Token → Type 0 where
  none_after : (closing : Token) → IsSign sign.CloseParen closing → AfterOpening [] (closing ∷ [])
  some_after : {f : Formal} {fs : List Formal} {u v : List Token} (closing : Token) → ValueFormal f u → MoreValueFormals fs v → IsSign sign.CloseParen closing
      → AfterOpening (f ∷ fs) (u ++ (v ++ closing ∷ []))

closed-at-once : (fs : List Formal) (u : List Token) → Then (ASign sign.CloseParen) (λ c. Returns []) fs u → AfterOpening fs u
closed-at-once fs u (joined (a_sign c h) returns) = none_after c h

closed-later : (fs : List Formal) (u : List Token)
    → Then ValueFormal (λ f. Then (Grows MoreValueFormals (f ∷ [])) (λ fs. Then (ASign sign.CloseParen) (λ c. Returns fs))) fs u → AfterOpening fs u
closed-later fs w (joined {a = f} {u = u} d (joined {u = v} (grows {bs = gs} m) (joined (a_sign c h) returns))) = some_after c d m h

opened : (fs : List Formal) (u : List Token) → Then (ASign sign.OpenParen) (λ o. AfterOpening) fs u → ValueFormals fs u
opened fs u (joined (a_sign o h) (none_after c i)) = (types.no_formals o c h i, g.none_left)
opened fs u (joined (a_sign o h) (some_after c d m i)) = (types.formals o c h d.0 m.0 i, g.one_more d.1 m.1)

abbrev pub OptionalValueFormals : List Formal → List Token → Type 0
OptionalValueFormals fs u = SpellsOptionalFormals fs u × AllByValue fs

some-value-formals : (fs : List Formal) (u : List Token) → ValueFormals fs u → OptionalValueFormals fs u
some-value-formals fs u d = (g.some_formals d.0, d.1)

no-value-formals : (fs : List Formal) (u : List Token) → Returns [] fs u → OptionalValueFormals fs u
no-value-formals fs u returns = (g.no_formals, g.none_left)

module _ (r : TypeReaders) (l : SoundTypeReaders r) where
  value_formal-sound : Sound ValueFormal (value_formal_at r)
  unfolding value_formal_at
  value_formal-sound = branch-by (anywhere (λ t. is_mode_by_place t.kind) (unfit-sound ValueFormal))
      (weaker-unless value-formal (unless-first (λ t. is_mode_by_place t.kind) SpellsFormal (formal_at r) some-formal
      (record { at = λ s e. (formal-sound {p = Elsewhere} r l).at s })))

  more_value_formals-sound : (fs : List Formal) → Sound (Grows MoreValueFormals fs) (more_value_formals_at r fs)
  unfolding more_value_formals_at next_value_formal_at
  more_value_formals-sound fs = list-sound ASeparator ValueFormal MoreValueFormals separator_at (value_formal_at r) is_separated
      (types.no_more_formals, g.none_left) more-value-formals separator-sound value_formal-sound r.expressions.steps fs

  value_formals-sound : Sound ValueFormals (value_formals_at r)
  unfolding value_formals_at
  value_formals-sound = weaker opened (then-sound (sign-sound sign.OpenParen) (λ o. branch-sound
      (weaker closed-at-once (then-sound (sign-sound sign.CloseParen) (λ c. returned-sound [])))
      (weaker closed-later (then-sound value_formal-sound (λ f. then-sound (more_value_formals-sound (f ∷ [])) (λ fs. then-sound (sign-sound sign.CloseParen)
      (λ c. returned-sound fs)))))))

  optional_value_formals-sound : Sound OptionalValueFormals (optional_value_formals_at r)
  unfolding optional_value_formals_at
  optional_value_formals-sound = branch-sound (weaker some-value-formals value_formals-sound) (weaker no-value-formals (returned-sound []))

-- ---- procs, procedures, processes and final code

const-proc-item : (i : ProcItem) (u : List Token) → Then SpellsConst (λ d. Returns (proc_item.Const d)) i u → SpellsProcItem i u
const-proc-item i w (joined {a = d} {u = u} x returns) = ended (SpellsProcItem (proc_item.Const d)) u (g.constant x)

var-proc-item : (i : ProcItem) (u : List Token) → Then SpellsVar (λ d. Returns (proc_item.Var d)) i u → SpellsProcItem i u
var-proc-item i w (joined {a = d} {u = u} x returns) = ended (SpellsProcItem (proc_item.Var d)) u (g.variables x)

op-proc-item : (i : ProcItem) (u : List Token) → Then SpellsOp (λ d. Returns (proc_item.Op d)) i u → SpellsProcItem i u
op-proc-item i w (joined {a = d} {u = u} x returns) = ended (SpellsProcItem (proc_item.Op d)) u (g.op x)

sem-proc-item : (i : ProcItem) (u : List Token) → Then SpellsSem (λ d. Returns (proc_item.Sem d)) i u → SpellsProcItem i u
sem-proc-item i w (joined {a = d} {u = u} x returns) = ended (SpellsProcItem (proc_item.Sem d)) u (g.semaphores x)

statement-proc-item : (i : ProcItem) (u : List Token) → Then SpellsStatement (λ s. Returns (proc_item.Statement s)) i u → SpellsProcItem i u
statement-proc-item i w (joined {a = s} {u = u} x returns) = ended (SpellsProcItem (proc_item.Statement s)) u (g.a_statement x)

some-proc-item : (i : ProcItem) → SpellsProcItem i [] → ⊥
some-proc-item i d = begun-some (λ t. begins_proc_item t.kind) (proc-item-begins d [])

proc-found : (p : Proc) (u : List Token)
    → Then (AWord word.Proc) (λ s. Then AName (λ n. Then EnclosedNames (λ ns. Then SpellsReturnedName (λ x. Then (SpellsList SpellsProcItem true) (λ is. Then (Ending n)
    (λ z. Returns (record { span = s; name = n; formals = ns; returned = x; block = is }))))))) p u → SpellsProc p u
proc-found p w (joined (a_word t h) (joined (a_name n i) (joined (enclosed_names {ns = ns} {u = u} o c j names k)
    (joined {a = x} {u = v} r (joined {a = is} {u = y} b (joined (ending {u = z} e) end)))))) =
    let it : Proc = record { span = t.span; name = name_of n; formals = ns; returned = x; block = is } in
    finish (λ a q. SpellsProc a (t ∷ n ∷ o ∷ ((u ++ c ∷ []) ++ (v ++ (y ++ q))))) it p z _ end
    (subst (λ q. SpellsProc it (t ∷ n ∷ o ∷ q)) (sym (append_assoc u (c ∷ []) (v ++ (y ++ z)))) (g.proc t n o c h i j names k r b e))

procedure-found : (p : Procedure) (u : List Token)
    → Then (AWord word.Procedure) (λ s. Then AName (λ n. Then SpellsSignature (λ x. Then (SpellsList SpellsProcItem true) (λ is. Then (Ending n)
    (λ z. Returns (record { span = s; name = n; signature = x; block = is })))))) p u → SpellsProcedure p u
procedure-found p w (joined (a_word t h) (joined (a_name n i) (joined {a = x} {u = u} s (joined {a = is} {u = v} b (joined (ending {u = z} e) end))))) =
    finish (λ a q. SpellsProcedure a (t ∷ n ∷ (u ++ (v ++ q)))) (record { span = t.span; name = name_of n; signature = x; block = is }) p z _ end
    (g.procedure t n h i s b e)

process-found : (p : Process) (u : List Token)
    → Then (AWord word.Process) (λ s. Then AName (λ n. Then SpellsOptionalQuantifiers (λ qs. Then (SpellsList SpellsProcItem true) (λ is. Then (Ending n)
    (λ z. Returns (record { span = s; name = n; quantifiers = qs; block = is })))))) p u → SpellsProcess p u
process-found p w (joined (a_word t h) (joined (a_name n i) (joined {a = qs} {u = u} s (joined {a = is} {u = v} b (joined (ending {u = z} e) end))))) =
    finish (λ a q. SpellsProcess a (t ∷ n ∷ (u ++ (v ++ q)))) (record { span = t.span; name = name_of n; quantifiers = qs; block = is }) p z _ end
    (g.process t n h i s b e)

final-found : (f : FinalCode) (u : List Token)
    → Then (AWord word.Final) (λ s. Then (SpellsList SpellsProcItem true) (λ is. Then (AWord word.End) (λ e. Returns (record { span = s; block = is })))) f u → SpellsFinal f u
final-found f w (joined (a_word t h) (joined {a = is} {u = u} b (joined (a_word c e) returns))) = g.final t c h b e

module _ (r : StatementReaders) (l : SoundStatements r) where
  proc_item-sound : Sound SpellsProcItem (proc_item_at r)
  unfolding proc_item_at
  proc_item-sound =
      branch-sound (weaker const-proc-item (then-sound (const-sound r.types l.types) (λ d. returned-sound (proc_item.Const d))))
      (branch-sound (weaker var-proc-item (then-sound (var-sound r.types l.types) (λ d. returned-sound (proc_item.Var d))))
      (branch-sound (weaker op-proc-item (then-sound (op-sound r.types l.types) (λ d. returned-sound (proc_item.Op d))))
      (branch-sound (weaker sem-proc-item (then-sound (sem-sound r.types.expressions l.types.expressions) (λ d. returned-sound (proc_item.Sem d))))
      (weaker statement-proc-item (then-sound (statement-sound r l) (λ s. returned-sound (proc_item.Statement s)))))))

  proc_block-sound : Sound (SpellsList SpellsProcItem true) (proc_block_at r)
  unfolding proc_block_at
  proc_block-sound = lists.list-sound (λ t. begins_proc_item t.kind) SpellsProcItem some-proc-item (proc_item_at r) proc_item-sound r.types.expressions.steps

  proc-sound : Sound SpellsProc (proc_at r)
  unfolding proc_at
  proc-sound = weaker proc-found (then-sound (word-sound word.Proc) (λ s. then-sound name-sound (λ n. then-sound (enclosed-names-sound r.types.expressions) (λ ns.
      then-sound returned-name-sound (λ x. then-sound proc_block-sound (λ is. then-sound (end-sound n)
      (λ z. returned-sound (record { span = s; name = n; formals = ns; returned = x; block = is }))))))))

  procedure-sound : Sound SpellsProcedure (procedure_at r)
  unfolding procedure_at
  procedure-sound = weaker procedure-found (then-sound (word-sound word.Procedure) (λ s. then-sound name-sound (λ n. then-sound (signature-sound r.types l.types) (λ x.
      then-sound proc_block-sound (λ is. then-sound (end-sound n) (λ z. returned-sound (record { span = s; name = n; signature = x; block = is })))))))

  process-sound : Sound SpellsProcess (process_at r)
  unfolding process_at
  process-sound = weaker process-found (then-sound (word-sound word.Process) (λ s. then-sound name-sound (λ n.
      then-sound (optional-quantifiers-sound r.types.expressions l.types.expressions) (λ qs.
      then-sound proc_block-sound (λ is. then-sound (end-sound n) (λ z. returned-sound (record { span = s; name = n; quantifiers = qs; block = is })))))))

  final-sound : Sound SpellsFinal (final_at r)
  unfolding final_at
  final-sound = weaker final-found (then-sound (word-sound word.Final) (λ s. then-sound proc_block-sound (λ is. then-sound (word-sound word.End)
      (λ e. returned-sound (record { span = s; block = is })))))

-- ---- items

spec-item : (i : Item) (u : List Token) → Then SpellsSpecItem (λ d. Returns (item.Spec d)) i u → PlainItem i u
spec-item i w (joined {a = d} {u = u} x returns) = (ended (SpellsItem (item.Spec d)) u (g.spec x), tt)

proc-item : (i : Item) (u : List Token) → Then SpellsProc (λ p. Returns (item.Proc p)) i u → PlainItem i u
proc-item i w (joined {a = p} {u = u} x returns) = (ended (SpellsItem (item.Proc p)) u (g.proc x), tt)

procedure-item : (i : Item) (u : List Token) → Then SpellsProcedure (λ p. Returns (item.Procedure p)) i u → PlainItem i u
procedure-item i w (joined {a = p} {u = u} x returns) = (ended (SpellsItem (item.Procedure p)) u (g.procedure x), tt)

process-item : (i : Item) (u : List Token) → Then SpellsProcess (λ p. Returns (item.Process p)) i u → PlainItem i u
process-item i w (joined {a = p} {u = u} x returns) = (ended (SpellsItem (item.Process p)) u (g.process x), tt)

statement-item : (i : Item) (u : List Token) → Then SpellsStatement (λ s. Returns (item.Statement s)) i u → PlainItem i u
statement-item i w (joined {a = s} {u = u} x returns) = (ended (SpellsItem (item.Statement s)) u (g.a_statement x), tt)

plain-other : (i : Item) (u : List Token) → PlainItem i u → (q : List Token) → next_is (λ t. is_separator t.kind) (u ++ q) ≡ false
plain-other i u d q = begins-no-separator begins_item refl (u ++ q) (plain-item-begins d.0 d.1 q)

some-plain : (i : Item) → PlainItem i [] → ⊥
some-plain i d = begun-some (λ t. begins_item t.kind) (plain-item-begins d.0 d.1 [])

-- no final code stands among such items

pub plain-count : (i : Item) → IsPlain i → final_count (i ∷ []) ≡ 0
plain-count (item.Final f) p = absurd p
plain-count _ p = refl

pub count-one : (i : Item) (is : List Item) → final_count (i ∷ is) ≡ final_count (i ∷ []) + final_count is
count-one i is = sum_by-append (λ i. elim i [ item.Final f ↦ 1 | _ ↦ 0 ]) (i ∷ []) is

plain-front : {b c : Bool} {is : List Item} {u : List Token} → SpellsFront PlainItem b is c u → SpellsFront SpellsItem b is c u × (final_count is ≡ 0)
plain-front empty_front = (empty_front, refl)
plain-front (separator_front t h m) = let a = plain-front m in (separator_front t h a.0, a.1)
plain-front (item_front {i = i} {is = is} d m) =
    let a = plain-front m in
    let n = plain-count i d.1 in
    let e = count-one i is in
    (item_front d.0 a.0, omega (arith, a.1, n, e))

plain-list : {b : Bool} {is : List Item} {u : List Token} → SpellsList PlainItem b is u → SpellsList SpellsItem b is u × (final_count is ≡ 0)
plain-list g.stop_here = (g.stop_here, refl)
plain-list (g.separator t h m) = let a = plain-list m in (g.separator t h a.0, a.1)
plain-list (g.one {i = i} {is = is} d m) =
    let a = plain-list m in
    let n = plain-count i d.1 in
    let e = count-one i is in
    (g.one d.0 a.0, omega (arith, a.1, n, e))

-- final code and the items after it
data FinalRest (before : List Item) : List Item → List Token → Type 0 where
  final_rest : {f : FinalCode} {is : List Item} {u v : List Token} → SpellsFinal f u → SpellsList SpellsItem false is v → final_count is ≡ 0
      → FinalRest before (before ++ item.Final f ∷ is) (u ++ v)

final-rest-found : (before is : List Item) (u : List Token)
    → Then SpellsFinal (λ f. Then (FrontBetween PlainItem (before ++ item.Final f ∷ [], false)) (λ state. Returns state.0)) is u → FinalRest before is u
final-rest-found before is w (joined {a = f} {u = u} d (joined {a = state} {u = v} m end)) =
    let p = plain-front m.spelled in
    finish (λ x z. FinalRest before x (u ++ z)) state.0 is v _ end
    (subst (λ x. FinalRest before x (u ++ v)) (sym (m.items ∙ append_assoc before (item.Final f ∷ []) m.added)) (final_rest d (list-of-front p.0) p.1))

-- what stands after the items before final code
data AfterItems (state : List Item × Bool) : List Item → List Token → Type 0 where
  no_final : AfterItems state state.0 []
  some_final : {is : List Item} {u : List Token} → state.1 ≡ true → FinalRest state.0 is u → AfterItems state is u

no-final-found : (state : List Item × Bool) (is : List Item) (u : List Token) → Returns state.0 is u → AfterItems state is u
no-final-found state is u returns = no_final

may-begin : (state : List Item × Bool) (s : List Token) → next_is (is_final_code state) s ≡ true → state.1 ≡ true
may-begin state [] h = cc
may-begin state (t ∷ s) h = (both state.1 (is_word word.Final t.kind) h).0

some-final-found : (state : List Item × Bool) (is : List Item) (u q : List Token) → next_is (is_final_code state) (u ++ q) ≡ true → FinalRest state.0 is u
    → AfterItems state is u
some-final-found state is u q h d = some_final (may-begin state (u ++ q) h) d

-- the items of a resource
abbrev pub ResourceItems : List Item → List Token → Type 0
ResourceItems is u = SpellsList SpellsItem true is u × (final_count is ≤ 1)

resource-items-found : (is : List Item) (u : List Token) → Then (FrontBetween PlainItem ([], true)) AfterItems is u → ResourceItems is u
resource-items-found is w (joined {a = state} {u = u} m no_final) =
    let p = plain-front m.spelled in
    let n : final_count state.0 ≡ 0 = ap final_count m.items ∙ p.1 in
    (subst (λ x. SpellsList SpellsItem true x (u ++ [])) (sym m.items) (ended (SpellsList SpellsItem true m.added) u (list-of-front p.0)), omega (arith, n))
resource-items-found js w (joined {a = state} {u = u} m (some_final h (final_rest {f = f} {is = is} {u = v} {v = x} d rest n))) =
    let p = plain-front m.spelled in
    let c : final_count (m.added ++ item.Final f ∷ is) ≡ final_count m.added + final_count (item.Final f ∷ is) = sum_by-append (λ i. elim i [ item.Final f ↦ 1 | _ ↦ 0 ]) m.added (item.Final f ∷ is) in
    let e : final_count (item.Final f ∷ is) ≡ 1 + final_count is = count-one (item.Final f) is in (
      subst (λ y. SpellsList SpellsItem true (y ++ item.Final f ∷ is) (u ++ (v ++ x))) (sym m.items)
          (front-then-list p.0 (subst (λ b. SpellsList SpellsItem b (item.Final f ∷ is) (v ++ x)) (sym h) (g.one (g.final d) rest))),
      subst (λ y. final_count (y ++ item.Final f ∷ is) ≤ 1) (sym m.items) (omega (arith, c, e, n, p.1)),
    )

-- the items of a global
abbrev pub GlobalItems : List Item → List Token → Type 0
GlobalItems is u = SpellsList SpellsItem true is u × (final_count is ≡ 0)

module _ (r : StatementReaders) (l : SoundStatements r) where
  item-sound : Sound PlainItem (item_at r)
  unfolding item_at
  item-sound =
      branch-sound (weaker spec-item (then-sound (spec_item-sound r.types l.types) (λ i. returned-sound (item.Spec i))))
      (branch-sound (weaker proc-item (then-sound (proc-sound r l) (λ p. returned-sound (item.Proc p))))
      (branch-sound (weaker procedure-item (then-sound (procedure-sound r l) (λ p. returned-sound (item.Procedure p))))
      (branch-sound (weaker process-item (then-sound (process-sound r l) (λ p. returned-sound (item.Process p))))
      (weaker statement-item (then-sound (statement-sound r l) (λ s. returned-sound (item.Statement s)))))))

  plain_items-sound : (state : List Item × Bool) → Sound (FrontBetween PlainItem state) (plain_items_at r state)
  unfolding plain_items_at
  plain_items-sound state = fronts-sound (λ t. begins_item t.kind) PlainItem plain-other (item_at r) item-sound r.types.expressions.steps state

  final_and_items-sound : (before : List Item) → Sound (FinalRest before) (final_and_items_at r before)
  unfolding final_and_items_at
  final_and_items-sound before = weaker (final-rest-found before) (then-sound (final-sound r l) (λ f. then-sound (plain_items-sound (before ++ item.Final f ∷ [], false))
      (λ state. returned-sound state.0)))

  resource_items-sound : Sound ResourceItems (resource_items_at r)
  unfolding resource_items_at
  resource_items-sound = weaker resource-items-found (then-sound (plain_items-sound ([], true)) (λ state. branch-where
      (strengthened (some-final-found state) (final_and_items-sound state.0)) (weaker (no-final-found state) (returned-sound state.0))))

  global_items-sound : Sound GlobalItems (global_items_at r)
  unfolding global_items_at
  global_items-sound = weaker (λ is u d. plain-list d)
      (lists.list-sound (λ t. begins_item t.kind) PlainItem some-plain (item_at r) item-sound r.types.expressions.steps)

-- ---- components

-- what stands after the name of a resource
data AfterResource (s : Span) (name : Name) : Component → List Token → Type 0 where
  complete_after : {fs : List Formal} {is : List Item} {u v x : List Token} → ValueFormals fs u → ResourceItems is v → SpellsEnd name x
      → AfterResource s name (Resource s name fs is) (u ++ (v ++ x))
  split_after : {ss : List SpecItem} {fs : List Formal} {is : List Item} {u v x y : List Token} (b m : Token) → ResourceSpec ss u → IsWord word.Body b
      → IsName m → m.text ≡ name.text → OptionalValueFormals fs v → ResourceItems is x → SpellsEnd name y
      → AfterResource s name (SplitResource s name ss fs is) (u ++ b ∷ m ∷ (v ++ (x ++ y)))

complete-found : (s : Span) (n : Name) (c : Component) (u : List Token)
    → Then ValueFormals (λ fs. Then ResourceItems (λ is. Then (Ending n) (λ z. Returns (Resource s n fs is)))) c u → AfterResource s n c u
complete-found s n c w (joined {a = fs} {u = u} f (joined {a = is} {u = v} i (joined (ending {u = x} e) end))) =
    finish (λ a q. AfterResource s n a (u ++ (v ++ q))) (Resource s n fs is) c x _ end (complete_after f i e)

split-found : (s : Span) (n : Name) (c : Component) (u : List Token)
    → Then ResourceSpec (λ ss. Then (AWord word.Body) (λ b. Then (ThisName n) (λ m. Then OptionalValueFormals (λ fs. Then ResourceItems (λ is. Then (Ending n)
    (λ z. Returns (SplitResource s n ss fs is))))))) c u → AfterResource s n c u
split-found s n c w (joined {a = ss} {u = u} d (joined (a_word b h) (joined (this_name m i e) (joined {a = fs} {u = v} f (joined {a = is} {u = x} k
    (joined (ending {u = y} z) end)))))) =
    finish (λ a q. AfterResource s n a (u ++ b ∷ m ∷ (v ++ (x ++ q)))) (SplitResource s n ss fs is) c y _ end (split_after b m d h i e f k z)

resource-found : (c : Component) (u : List Token) → Then (AWord word.Resource) (λ s. Then AName (λ n. AfterResource s n)) c u → SpellsComponent c u
resource-found c u (joined (a_word t h) (joined (a_name n i) (complete_after f d e))) = g.resource t n h i f.0 f.1 d.0 d.1 e
resource-found c u (joined (a_word t h) (joined (a_name n i) (split_after b m d j k e f x y))) = g.split_resource t n b m h i d.0 d.1 j k e f.0 f.1 x.0 x.1 y

global-body-found : (n : Name) (b : Option (List Item)) (u : List Token)
    → Then (AWord word.Body) (λ w. Then (ThisName n) (λ m. Then GlobalItems (λ is. Returns (Some is)))) b u → SpellsGlobalBody n b u
global-body-found n b w (joined (a_word t h) (joined (this_name m i e) (joined {a = is} {u = u} d returns))) =
    ended (λ x. SpellsGlobalBody n (Some is) (t ∷ m ∷ x)) u (g.body t m h i e d.0 d.1)

no-global-body : (n : Name) (b : Option (List Item)) (u : List Token) → Returns None b u → SpellsGlobalBody n b u
no-global-body n b u returns = g.no_body

global-found : (c : Component) (u : List Token)
    → Then (AWord word.Global) (λ s. Then AName (λ n. Then (SpellsList SpellsSpecItem true) (λ ss. Then (SpellsGlobalBody n) (λ b. Then (Ending n)
    (λ z. Returns (Global s n ss b)))))) c u → SpellsComponent c u
global-found c w (joined (a_word t h) (joined (a_name n i) (joined {a = ss} {u = u} d (joined {a = b} {u = v} x (joined (ending {u = y} e) end))))) =
    finish (λ a q. SpellsComponent a (t ∷ n ∷ (u ++ (v ++ q)))) (Global t.span (name_of n) ss b) c y _ end (g.global t n h i d x e)

module _ (r : StatementReaders) (l : SoundStatements r) where
  complete_resource-sound : (s : Span) (n : Name) → Sound (AfterResource s n) (whole_resource_at r s n)
  unfolding whole_resource_at
  complete_resource-sound s n = weaker (complete-found s n) (then-sound (value_formals-sound r.types l.types) (λ fs. then-sound (resource_items-sound r l) (λ is.
      then-sound (end-sound n) (λ z. returned-sound (Resource s n fs is)))))

  split_resource-sound : (s : Span) (n : Name) → Sound (AfterResource s n) (split_resource_at r s n)
  unfolding split_resource_at
  split_resource-sound s n = weaker (split-found s n) (then-sound (resource_spec-sound r.types l.types) (λ ss. then-sound (word-sound word.Body) (λ b.
      then-sound (this_name-sound n) (λ m. then-sound (optional_value_formals-sound r.types l.types) (λ fs. then-sound (resource_items-sound r l) (λ is.
      then-sound (end-sound n) (λ z. returned-sound (SplitResource s n ss fs is))))))))

  resource-sound : Sound SpellsComponent (resource_at r)
  unfolding resource_at
  resource-sound = weaker resource-found (then-sound (word-sound word.Resource) (λ s. then-sound name-sound (λ n.
      branch-sound (complete_resource-sound s n) (split_resource-sound s n))))

  global_body-sound : (n : Name) → Sound (SpellsGlobalBody n) (global_body_at r n)
  unfolding global_body_at
  global_body-sound n = branch-sound
      (weaker (global-body-found n) (then-sound (word-sound word.Body) (λ w. then-sound (this_name-sound n) (λ m. then-sound (global_items-sound r l)
      (λ is. returned-sound (Some is))))))
      (weaker (no-global-body n) (returned-sound None))

  global-sound : Sound SpellsComponent (global_at r)
  unfolding global_at
  global-sound = weaker global-found (then-sound (word-sound word.Global) (λ s. then-sound name-sound (λ n. then-sound (global_spec-sound r.types l.types) (λ ss.
      then-sound (global_body-sound n) (λ b. then-sound (end-sound n) (λ z. returned-sound (Global s n ss b)))))))

  pub component-sound : Sound SpellsComponent (component_at r)
  unfolding component_at
  component-sound = branch-sound global-sound resource-sound

-- ---- files

some-component : (c : Component) → SpellsComponent c [] → ⊥
some-component c d = begun-some (λ t. begins_component t.kind) (component-begins d [])

-- the end of the tokens
data AtEnd : Unit {0} → List Token → Type 0 where
  at_end : AtEnd tt []

end_of_tokens-sound : Sound AtEnd end_of_tokens
unfolding end_of_tokens
end_of_tokens-sound = record { at = at }
  where
    nothing : (z : List Token) → first z ≡ None → end_of_tokens z ≡ Ok (tt, z)
    nothing [] e = refl
    nothing (t ∷ z) e = cc

    something : (t : Token) (z : List Token) → first z ≡ Some t → end_of_tokens z ≡ Err (length z)
    something t [] e = cc
    something t (x ∷ z) e = refl

    at : (s : List Token) → Outcome AtEnd end_of_tokens s (end_of_tokens s)
    at [] = record { front = []; splits = refl; holds = at_end; again = nothing }
    at (t ∷ s) = record { front = []; rest = t ∷ s; splits = refl; count = refl; again = something t }

file-found : (f : File) (u : List Token)
    → Then (SpellsList SpellsComponent true) (λ cs. Then AtEnd (λ e. Returns (record { components = cs }))) f u → SpellsFile f u
file-found f w (joined {a = cs} {u = u} d (joined at_end returns)) = ended (SpellsFile (record { components = cs })) u (g.file d)

pub file-sound : (r : StatementReaders) → SoundStatements r → Sound SpellsFile (file_at r)
unfolding file_at
file-sound r l = weaker file-found (then-sound
    (lists.list-sound (λ t. begins_component t.kind) SpellsComponent some-component (component_at r) (component-sound r l) r.types.expressions.steps)
    (λ cs. then-sound end_of_tokens-sound (λ e. returned-sound (record { components = cs }))))

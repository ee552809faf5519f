-- What is spelled as a component or a file is read.
use Rattle.std.proofs.Common.{◌≡◌, refl, sym, ◌∙◌, ap, subst, ℕ, ◌+◌, ◌≤◌, Bool, true, false, List, [], ◌∷◌, ◌++◌, Option, Some, None, Result, Ok, ◌⊎◌, inl, inr, append_assoc, arith}
use Rattle.std.specs.Prelude.{if◌then◌else◌}
use Rattle.sr_reader.specs.Reader.{Reader, returned, ◌>>=◌, next_is}
use Rattle.sr_reader.proofs.Soundness.{append-nil}
use Rattle.sr_value.specs.declared.place.Span.{Span}
use Rattle.sr_tree.specs.declared.component.Component.{Component}
use Rattle.sr_tree.specs.declared.component.Component.TheVariants.{Resource, SplitResource, Global}
use Rattle.sr_tree.specs.declared.component.File.{File}
use Rattle.sr_tree.specs.declared.component.FinalCode.{FinalCode}
use Rattle.sr_tree.specs.declared.component.Item.{Item}
use Rattle.sr_tree.specs.declared.component.Item.TheVariants as item
use Rattle.sr_tree.specs.declared.component.SpecItem.{SpecItem}
use Rattle.sr_tree.specs.declared.name.Name.{Name}
use Rattle.sr_tree.specs.declared.token.Sign.TheVariants as sign
use Rattle.sr_tree.specs.declared.token.Token.{Token}
use Rattle.sr_tree.specs.declared.token.TokenKind.TheVariants as kind
use Rattle.sr_tree.specs.declared.token.Word.{Word}
use Rattle.sr_tree.specs.declared.token.Word.TheVariants as word
use Rattle.sr_tree.specs.declared.types.Decl.{Decl}
use Rattle.sr_tree.specs.declared.types.Formal.{Formal, out-Formal, roll-Formal}
use Rattle.sr_tree.specs.declared.types.PassMode.{PassMode}
use Rattle.sr_tree.specs.declared.types.PassMode.TheVariants.{Val}
use Rattle.sr_tree.specs.declared.types.TypeTree.{TypeTree}
use Rattle.sr_tree.specs.Components as g
use Rattle.sr_tree.specs.Components.{SpellsList, SpellsEnd, SpellsSpecItem, SpellsFinal, SpellsItem, final_count, IsByValue, AllByValue, SpellsOptionalFormals, SpellsGlobalBody, SpellsComponent, Spells}
use Rattle.sr_tree.specs.Tables.{IsSign, IsWord, name_of}
use Rattle.sr_tree.specs.Tests.{is_sign, is_word, is_name}
use Rattle.sr_tree.specs.Types as types
use Rattle.sr_tree.specs.Types.{SpellsFormal, SpellsMoreFormals, SpellsFormals, pass_mode_of}
use Rattle.sr_tree.specs.Tokens.{sign_at, word_at, name_at, separator_at, is_separator}
use Rattle.sr_expr_reader.specs.TypeReaders.{TypeReaders, type_readers, is_separated, formal_at}
use Rattle.sr_expr_reader.proofs.DeclsComplete.{decls-first}
use Rattle.sr_expr_reader.proofs.Families.{YieldsIn, BelowIn, LoopsIn, below, token_then, below_token, below_then, yields_then, below_returned, yields_returned, yields_met, yields_unmet, below_met, below_unmet, loop_within, yields_part}
use Rattle.sr_expr_reader.proofs.ListsComplete.{list-stops, list-goes}
use Rattle.sr_expr_reader.proofs.TokensSound.{none_some}
use Rattle.sr_expr_reader.proofs.TokensComplete.{is_that_sign, is_that_word, sign-reads, word-reads, name-reads}
use Rattle.sr_expr_reader.proofs.TypePieces.{separator-reads, formal-opens, more-formals-stop}
use Rattle.sr_expr_reader.proofs.TypesQuiet.{TypeStops}
use Rattle.sr_expr_reader.proofs.TypesComplete.{formals-first, complete-formal}
use Rattle.sr_expr_reader.proofs.Yields.{steps-readers}
use Rattle.sr_program_reader.specs.ComponentReaders.{this_name_at, end_at, begins_resource_spec, begins_spec, begins_item, item_at, final_at, plain_items_at, is_final_code, final_and_items_at, resource_items_at, global_items_at, is_mode_by_place, value_formal_at, next_value_formal_at, more_value_formals_at, value_formals_at, optional_value_formals_at, whole_resource_at, resource_spec_at, global_spec_at, split_resource_at, resource_at, global_body_at, global_at, begins_component, component_at, end_of_tokens, file_at}
use Rattle.sr_program_reader.specs.DeclarationReaders.{may_go_on, next_item_at, items_at}
use Rattle.sr_program_reader.specs.StatementReaders.{statement_readers}
use Rattle.sr_program_reader.proofs.ComponentItems.{no-sign, refuted, list-fails, list-map, word-closes, this-name-reads, NoName, end-yields, end-begins, resource-specs-yield, global-specs-yield, final-yields, ItemEnds, separator-ends-item, word-ends-item, plain-item}
use Rattle.sr_program_reader.proofs.ComponentStarts.{PlainItem, spec-begins, plain-item-begins, component-begins, begins-other, final-begins}
use Rattle.sr_program_reader.proofs.ComponentsSound.{plain-count, count-one}
use Rattle.sr_program_reader.proofs.DeclarationStarts.{Begins, begins, begins-test}
use Rattle.sr_program_reader.proofs.Fronts.{SpellsFront, empty_front, separator_front, item_front, front-complete}
use Rattle.sr_program_reader.proofs.Lists.{IsItem, ClosesList, list-complete}
use Rattle.sr_program_reader.proofs.StatementEnds.{Ends, closes}

-- ---- final code among items

-- an item is final code, or it is none
kind-of-item : {i : Item} {u : List Token} → SpellsItem i u → ((f : FinalCode) × (i ≡ item.Final f) × SpellsFinal f u) ⊎ PlainItem i u
kind-of-item (g.spec d) = inr (g.spec d, tt)
kind-of-item (g.proc d) = inr (g.proc d, tt)
kind-of-item (g.procedure d) = inr (g.procedure d, tt)
kind-of-item (g.process d) = inr (g.process d, tt)
kind-of-item (g.final {f = f} d) = inl (f, refl, d)
kind-of-item (g.a_statement d) = inr (g.a_statement d, tt)

final-counts : (f : FinalCode) (is : List Item) → final_count (item.Final f ∷ is) ≡ 1 + final_count is
final-counts f is = count-one (item.Final f) is

no-final : (f : FinalCode) (i : Item) (is : List Item) → i ≡ item.Final f → final_count (i ∷ is) ≡ 0 → ⊥
no-final f i is e n = let c : final_count (i ∷ is) ≡ 1 + final_count is = ap (λ x. final_count (x ∷ is)) e ∙ final-counts f is in absurd (omega (arith, c, n))

-- items among which no final code stands
no-finals : {b : Bool} {is : List Item} {u : List Token} → SpellsList SpellsItem b is u → final_count is ≡ 0 → SpellsList PlainItem b is u
no-finals g.stop_here n = g.stop_here
no-finals (g.separator t h l) n = g.separator t h (no-finals l n)
no-finals (g.one {i = i} {is = is} {u = u} {v = v} d l) n = go (λ m. no-finals l m) (kind-of-item d)
  where
    go : (final_count is ≡ 0 → SpellsList PlainItem false is v) → ((f : FinalCode) × (i ≡ item.Final f) × SpellsFinal f u) ⊎ PlainItem i u
        → SpellsList PlainItem true (i ∷ is) (u ++ v)
    go more (inl x) = absurd (no-final x.0 i is x.1 n)
    go more (inr p) = let c = plain-count i p.1 in let e = count-one i is in g.one p (more (omega (arith, n, c, e)))

-- items, final code where another may begin, and items
record SplitItems (b : Bool) (is : List Item) (u : List Token) : Type 0 where
  before : List Item
  code : FinalCode
  after : List Item
  x : List Token
  y : List Token
  z : List Token
  items : is ≡ before ++ item.Final code ∷ after
  tokens : u ≡ x ++ (y ++ z)
  front : SpellsFront PlainItem b before true x
  final : SpellsFinal code y
  rest : SpellsList PlainItem false after z

split-items : {b : Bool} {is : List Item} {u : List Token} → SpellsList SpellsItem b is u → final_count is ≤ 1 → SpellsList PlainItem b is u ⊎ SplitItems b is u
split-items g.stop_here n = inl g.stop_here
split-items {b = b} (g.separator {is = is} {u = u} t h l) n = go (split-items l n)
  where
    go : SpellsList PlainItem true is u ⊎ SplitItems true is u → SpellsList PlainItem b is (t ∷ u) ⊎ SplitItems b is (t ∷ u)
    go (inl p) = inl (g.separator t h p)
    go (inr s) = inr (record {
      before = s.before;
      code = s.code;
      after = s.after;
      x = t ∷ s.x;
      y = s.y;
      z = s.z;
      items = s.items;
      tokens = ap (λ w. t ∷ w) s.tokens;
      front = separator_front t h s.front;
      final = s.final;
      rest = s.rest;
    })
split-items (g.one {i = i} {is = is} {u = u} {v = v} d l) n = go (λ m. split-items l m) (kind-of-item d)
  where
    after : (p : PlainItem i u) → SpellsList PlainItem false is v ⊎ SplitItems false is v → SpellsList PlainItem true (i ∷ is) (u ++ v) ⊎ SplitItems true (i ∷ is) (u ++ v)
    after p (inl q) = inl (g.one p q)
    after p (inr s) = inr (record {
      before = i ∷ s.before;
      code = s.code;
      after = s.after;
      x = u ++ s.x;
      y = s.y;
      z = s.z;
      items = ap (λ js. i ∷ js) s.items;
      tokens = ap (λ w. u ++ w) s.tokens ∙ sym (append_assoc u s.x (s.y ++ s.z));
      front = item_front p s.front;
      final = s.final;
      rest = s.rest;
    })

    go : (final_count is ≤ 1 → SpellsList PlainItem false is v ⊎ SplitItems false is v) → ((f : FinalCode) × (i ≡ item.Final f) × SpellsFinal f u) ⊎ PlainItem i u
        → SpellsList PlainItem true (i ∷ is) (u ++ v) ⊎ SplitItems true (i ∷ is) (u ++ v)
    go more (inl c) =
        let e : final_count (i ∷ is) ≡ 1 + final_count is = ap (λ j. final_count (j ∷ is)) c.1 ∙ final-counts c.0 is in
        inr (record {
          before = [];
          code = c.0;
          after = is;
          x = [];
          y = u;
          z = v;
          items = ap (λ j. j ∷ is) c.1;
          tokens = refl;
          front = empty_front;
          final = c.2;
          rest = no-finals l (omega (arith, e, n));
        })
    go more (inr p) = let c = plain-count i p.1 in let e = count-one i is in after p (more (omega (arith, n, c, e)))

-- the same of a front
complete-front : {A : Type 0} {Spells : A → List Token → Type 0} {b : Bool} {is : List A} {u : List Token} → SpellsList Spells b is u → (c : Bool) × SpellsFront Spells b is c u
complete-front {b = b} g.stop_here = (b, empty_front)
complete-front (g.separator t h l) = let f = complete-front l in (f.0, separator_front t h f.1)
complete-front (g.one d l) = let f = complete-front l in (f.0, item_front d f.1)

front-map : {A : Type 0} {P Q : A → List Token → Type 0} → ((i : A) (u : List Token) → P i u → Q i u) → {b c : Bool} {is : List A} {u : List Token} → SpellsFront P b is c u
    → SpellsFront Q b is c u
front-map f empty_front = empty_front
front-map f (separator_front t h m) = separator_front t h (front-map f m)
front-map f (item_front {i = i} {u = u} d m) = item_front (f i u d) (front-map f m)

-- a word after which no item begins
word-stops : {w : Word} {u : List Token} → Begins w u → begins_item (kind.Word w) ≡ false → (before : List Item) (c : Bool) (q : List Token)
    → next_is (may_go_on (λ t. begins_item t.kind) (before, c)) (u ++ q) ≡ false
word-stops {w = w} b e before true q = begins-test b (λ k. if is_separator k then true else begins_item k) false e q
word-stops b e before false q = begins-test b (λ k. if is_separator k then true else false) false refl q

plain-items-yield : {b c : Bool} {is : List Item} {u : List Token} → SpellsFront PlainItem b is c u → (before : List Item) {w : Word} {v : List Token} → Begins w v
    → closes (kind.Word w) ≡ true → begins_item (kind.Word w) ≡ false → (q : List Token)
    → YieldsIn statement_readers (λ r. plain_items_at r (before, b)) (u ++ (v ++ q)) (Ok ((before ++ is, c), v ++ q))
unfolding plain_items_at items_at
plain-items-yield {b = b} {c = c} {is = is} {u = u} f before {v = v} w e n q =
    loop_within (may_go_on (λ t. begins_item t.kind)) (λ r. next_item_at (item_at r)) (λ r. r.types.expressions.steps) steps-readers (before, b) (u ++ (v ++ q)) _
    (front-complete statement_readers (λ t. begins_item t.kind) item_at ItemEnds separator-ends-item (λ t h. begins-other begins_item refl t.kind h)
    (front-map plain-item f) before (v ++ q) (word-ends-item w e q) (word-stops w n before c q))

-- the items of a resource
no-code : (is : List Item) (c : Bool) {v : List Token} → Begins word.End v → (q : List Token) → next_is (is_final_code (is, c)) (v ++ q) ≡ false
no-code is true b q = begins-test b (is_word word.Final) false refl q
no-code is false (begins t h) q = refl

final-and-items-yield : {f : FinalCode} {is : List Item} {y z : List Token} → SpellsFinal f y → SpellsList PlainItem false is z → (before : List Item) {v : List Token} → Begins word.End v
    → (q : List Token) → YieldsIn statement_readers (λ r. final_and_items_at r before) (y ++ (z ++ (v ++ q))) (Ok (before ++ item.Final f ∷ is, v ++ q))
unfolding final_and_items_at
final-and-items-yield {f = f} {is = is} {y = y} {z = z} d l before {v = v} b q =
    let c = complete-front l in
    yields_then final_at _ y (z ++ (v ++ q)) f _ (final-yields d (z ++ (v ++ q)))
    (yields_then (λ r. plain_items_at r (before ++ item.Final f ∷ [], false)) _ z (v ++ q) ((before ++ item.Final f ∷ []) ++ is, c.0) _
    (plain-items-yield c.1 (before ++ item.Final f ∷ []) b refl refl q)
    (subst (λ js. YieldsIn statement_readers (λ r. returned ((before ++ item.Final f ∷ []) ++ is)) (v ++ q) (Ok (js, v ++ q))) (append_assoc before (item.Final f ∷ []) is)
    (yields_returned ((before ++ item.Final f ∷ []) ++ is) (v ++ q))))

resource-items-yield : {is : List Item} {u : List Token} → SpellsList SpellsItem true is u → final_count is ≤ 1 → {v : List Token} → Begins word.End v → (q : List Token)
    → YieldsIn statement_readers resource_items_at (u ++ (v ++ q)) (Ok (is, v ++ q))
unfolding resource_items_at
resource-items-yield {is = is} {u = u} l n {v = v} b q = go (split-items l n)
  where
    go : SpellsList PlainItem true is u ⊎ SplitItems true is u → YieldsIn statement_readers resource_items_at (u ++ (v ++ q)) (Ok (is, v ++ q))
    go (inl p) =
        let c = complete-front p in
        yields_then (λ r. plain_items_at r ([], true)) _ u (v ++ q) (is, c.0) _ (plain-items-yield c.1 [] b refl refl q)
        (yields_unmet _ _ _ (v ++ q) _ (no-code is c.0 b q) (yields_returned is (v ++ q)))
    go (inr s) =
        let rest = v ++ q in
        subst (λ w. YieldsIn statement_readers resource_items_at (w ++ rest) (Ok (is, rest))) (sym s.tokens)
        (subst (λ js. YieldsIn statement_readers resource_items_at ((s.x ++ (s.y ++ s.z)) ++ rest) (Ok (js, rest))) (sym s.items)
        (subst (λ w. YieldsIn statement_readers resource_items_at w (Ok (s.before ++ item.Final s.code ∷ s.after, rest)))
        (ap (λ w. s.x ++ w) (sym (append_assoc s.y s.z rest)) ∙ sym (append_assoc s.x (s.y ++ s.z) rest))
        (yields_then (λ r. plain_items_at r ([], true)) _ s.x (s.y ++ (s.z ++ rest)) (s.before, true) _
        (plain-items-yield s.front [] (final-begins s.final) refl refl (s.z ++ rest))
        (yields_met _ _ _ (s.y ++ (s.z ++ rest)) _ (begins-test (final-begins s.final) (is_word word.Final) true refl (s.z ++ rest))
        (final-and-items-yield s.final s.rest s.before b q)))))

global-items-yield : {is : List Item} {u : List Token} → SpellsList SpellsItem true is u → final_count is ≡ 0 → {v : List Token} → Begins word.End v → (q : List Token)
    → YieldsIn statement_readers global_items_at (u ++ (v ++ q)) (Ok (is, v ++ q))
unfolding global_items_at
global-items-yield l n {v = v} b q =
    list-complete statement_readers (λ t. begins_item t.kind) item_at ItemEnds separator-ends-item (λ t h. begins-other begins_item refl t.kind h)
    (λ r. r.types.expressions.steps) steps-readers (list-map plain-item (no-finals l n)) (v ++ q)
    (record { ends = word-ends-item b refl q; separator = begins-test b is_separator false refl q; item = begins-test b begins_item false refl q })

-- ---- formals that are passed by value

by-value-word : (w : Word) (m : PassMode) → m ≡ Val → pass_mode_of w ≡ Some m → is_mode_by_place (kind.Word w) ≡ false
by-value-word word.Var m h e = cc
by-value-word word.Res m h e = cc
by-value-word word.Val m h e = refl
by-value-word _ m h e = absurd (none_some m e)

mode-of-formal : (m : Option PassMode) (ds : List Decl) (t : TypeTree) (s : Span) → IsByValue (out-Formal (roll-Formal (record { span = s; mode = m; decls = ds; ty = t }))).mode → IsByValue m
unfolding denote.Hole.Carrier.out denote.Hole.Carrier.roll
mode-of-formal m ds t s h = h

by-value-first : {f : Formal} {u : List Token} → SpellsFormal f u → IsByValue (out-Formal f).mode → (q : List Token) → next_is (λ t. is_mode_by_place t.kind) (u ++ q) ≡ false
by-value-first (types.formal {v = v} {w = w} c types.no_mode d h p) b q =
    ap (λ s. next_is (λ t. is_mode_by_place t.kind) s) (append_assoc v (c ∷ w) q) ∙ decls-first d is_mode_by_place (c ∷ (w ++ q))
by-value-first (types.formal {m = x} {ds = ds} {t = ty} c (types.mode t w m i e) d h p) b q =
    ap is_mode_by_place i ∙ by-value-word w m (mode-of-formal (Some m) ds ty t.span b) e

value-formal-yields : {f : Formal} {u : List Token} → SpellsFormal f u → IsByValue (out-Formal f).mode → (q : List Token) → TypeStops q
    → YieldsIn type_readers value_formal_at (u ++ q) (Ok (f, q))
unfolding value_formal_at
value-formal-yields {u = u} d b q st = yields_unmet _ _ formal_at (u ++ q) _ (by-value-first d b q) (complete-formal d q st)

-- {";" formal}
more-value-formals : {gs : List Formal} {v : List Token} → SpellsMoreFormals gs v → AllByValue gs → (fs : List Formal) (k : Token) (q : List Token) → IsSign sign.CloseParen k
    → LoopsIn type_readers is_separated next_value_formal_at fs (v ++ k ∷ q) (Ok (fs ++ gs, k ∷ q))
unfolding next_value_formal_at
more-value-formals types.no_more_formals b fs k q h = list-stops separator_at value_formal_at is_separated fs (k ∷ q) (ap is_separator h)
more-value-formals (types.one_more_formal {f = f} {fs = gs} {u = u} {v = v} t h d m) (g.one_more a b) fs k q i =
    list-goes separator_at value_formal_at is_separated fs t.span f gs t u v (k ∷ q) (separator-reads t (u ++ (v ++ k ∷ q)) h) (ap is_separator h)
    (below value_formal_at (u ++ (v ++ k ∷ q)) _ (value-formal-yields d a (v ++ k ∷ q) (more-formals-stop m k q i)))
    (more-value-formals m b (fs ++ f ∷ []) k q i)

value-formals-yield : {fs : List Formal} {u : List Token} → SpellsFormals fs u → AllByValue fs → (q : List Token) → YieldsIn type_readers value_formals_at (u ++ q) (Ok (fs, q))
unfolding value_formals_at more_value_formals_at
value-formals-yield (types.no_formals o c h i) b q =
    token_then (sign_at sign.OpenParen) _ o (c ∷ q) o.span _ (sign-reads sign.OpenParen o (c ∷ q) h)
    (below_met _ _ _ (c ∷ q) _ (is_that_sign sign.CloseParen c i)
    (below_token (sign_at sign.CloseParen) _ c q c.span _ (sign-reads sign.CloseParen c q i) (below_returned [] q)))
value-formals-yield (types.formals {f = f} {fs = fs} {u = u} {v = v} o c h d m i) (g.one_more a b) q =
    subst (λ w. YieldsIn type_readers value_formals_at (o ∷ w) (Ok (f ∷ fs, q))) (ap (λ w. u ++ w) (sym (append_assoc v (c ∷ []) q)) ∙ sym (append_assoc u (v ++ c ∷ []) q))
    (token_then (sign_at sign.OpenParen) _ o (u ++ (v ++ c ∷ q)) o.span _ (sign-reads sign.OpenParen o (u ++ (v ++ c ∷ q)) h)
    (below_unmet _ _ _ (u ++ (v ++ c ∷ q)) _ (formal-opens d (v ++ c ∷ q))
    (below_then value_formal_at _ u (v ++ c ∷ q) f _ (below value_formal_at _ _ (value-formal-yields d a (v ++ c ∷ q) (more-formals-stop m c q i)))
    (below_then (λ r. more_value_formals_at r (f ∷ [])) _ v (c ∷ q) (f ∷ fs) _
    (below _ (v ++ c ∷ q) _ (loop_within is_separated next_value_formal_at (λ r. r.expressions.steps) steps-readers (f ∷ []) (v ++ c ∷ q) _ (more-value-formals m b (f ∷ []) c q i)))
    (below_token (sign_at sign.CloseParen) _ c q c.span _ (sign-reads sign.CloseParen c q i) (below_returned (f ∷ fs) q))))))

optional-formals-yield : {fs : List Formal} {u : List Token} → SpellsOptionalFormals fs u → AllByValue fs → (q : List Token) → next_is (λ t. is_sign sign.OpenParen t.kind) q ≡ false
    → YieldsIn type_readers optional_value_formals_at (u ++ q) (Ok (fs, q))
unfolding optional_value_formals_at
optional-formals-yield g.no_formals b q n = yields_unmet _ _ _ q _ n (yields_returned [] q)
optional-formals-yield (g.some_formals {u = u} d) b q n =
    yields_met _ value_formals_at _ (u ++ q) _ (formals-first d (is_sign sign.OpenParen) q) (value-formals-yield d b q)

-- ---- components

-- no item begins with a parenthesis
item-no-paren : (i : Item) (u : List Token) → SpellsItem i u → (q : List Token) → next_is (λ t. is_sign sign.OpenParen t.kind) (u ++ q) ≡ false
item-no-paren i u d q = go (kind-of-item d)
  where
    go : ((f : FinalCode) × (i ≡ item.Final f) × SpellsFinal f u) ⊎ PlainItem i u → next_is (λ t. is_sign sign.OpenParen t.kind) (u ++ q) ≡ false
    go (inl c) = begins-test (final-begins c.2) (is_sign sign.OpenParen) false refl q
    go (inr p) = refuted begins_item (is_sign sign.OpenParen) (no-sign begins_item sign.OpenParen refl) (u ++ q) (plain-item-begins p.0 p.1 q)

spec-no-paren : (i : SpecItem) (u : List Token) → SpellsSpecItem i u → (q : List Token) → next_is (λ t. is_sign sign.OpenParen t.kind) (u ++ q) ≡ false
spec-no-paren i u d q = refuted begins_spec (is_sign sign.OpenParen) (no-sign begins_spec sign.OpenParen refl) (u ++ q) (spec-begins d begins_spec (λ k h. h) q)

-- items, `end` and the name
items-end : {A : Type 0} {is : List Item} {x y : List Token} {name : Name} → SpellsList SpellsItem true is x → final_count is ≤ 1 → SpellsEnd name y → (a : List Item → A) (q : List Token)
    → NoName q → BelowIn statement_readers (λ r. resource_items_at r >>= λ b. end_at name >>= λ z. returned (a b)) (x ++ (y ++ q)) (Ok (a is, q))
items-end {is = is} {x = x} {y = y} {name = name} l n e a q other =
    let w = end-yields statement_readers e q other in
    below_then resource_items_at (λ r c. end_at name >>= λ z. returned (a c)) x (y ++ q) is _ (below _ _ _ (resource-items-yield l n (end-begins e) q))
    (below_then (λ r. end_at name) (λ r z. returned (a is)) y q w.span _ (below _ _ _ w.yields) (below_returned (a is) q))

in-types : {A : Type 0} {f : TypeReaders → Reader Token A} {s : List Token} {z : Result (A × List Token) ℕ} → YieldsIn type_readers f s z
    → BelowIn statement_readers (λ r. f r.types) s z
in-types {f = f} {s = s} {z = z} y = below (λ r. f r.types) s z (yields_part (λ r. r.types) (λ k. refl) f s z y)

both-words : (t : Token) → IsWord word.Global t → IsWord word.Resource t → ⊥
both-words t h w = differ (sym (is_that_word word.Resource t w) ∙ ap (is_word word.Resource) h)
  where
    differ : true ≡ false → ⊥
    differ e = cc

resource-yields : {c : Component} {u : List Token} → SpellsComponent c u → Begins word.Resource u → (q : List Token) → NoName q → YieldsIn statement_readers resource_at (u ++ q) (Ok (c, q))
unfolding resource_at whole_resource_at split_resource_at
resource-yields (g.resource {fs = fs} {is = is} {u = u} {v = v} {x = x} t n h i f b l m e) w q other =
    let it : Component = Resource t.span (name_of n) fs is in
    subst (λ z. YieldsIn statement_readers resource_at (t ∷ n ∷ z) (Ok (it, q)))
    (ap (λ z. u ++ z) (sym (append_assoc v x q)) ∙ sym (append_assoc u (v ++ x) q))
    (token_then (word_at word.Resource) _ t (n ∷ (u ++ (v ++ (x ++ q)))) t.span _ (word-reads word.Resource t (n ∷ (u ++ (v ++ (x ++ q)))) h)
    (below_token name_at _ n (u ++ (v ++ (x ++ q))) (name_of n) _ (name-reads n (u ++ (v ++ (x ++ q))) i)
    (below_met _ (λ r. whole_resource_at r t.span (name_of n)) _ (u ++ (v ++ (x ++ q))) _ (formals-first f (is_sign sign.OpenParen) (v ++ (x ++ q)))
    (below_then (λ r. value_formals_at r.types) _ u (v ++ (x ++ q)) fs _ (in-types (value-formals-yield f b (v ++ (x ++ q))))
    (items-end l m e (λ is. Resource t.span (name_of n) fs is) q other)))))
resource-yields (g.split_resource {ss = ss} {fs = fs} {is = is} {u = u} {v = v} {x = x} {y = y} t n b m h i l a j k same f by items count e) w q other =
    let it : Component = SplitResource t.span (name_of n) ss fs is in
    let rest : List Token = v ++ (x ++ (y ++ q)) in
    subst (λ z. YieldsIn statement_readers resource_at (t ∷ n ∷ z) (Ok (it, q)))
    (ap (λ z. u ++ b ∷ m ∷ z) (ap (λ z. v ++ z) (sym (append_assoc x y q)) ∙ sym (append_assoc v (x ++ y) q)) ∙ sym (append_assoc u (b ∷ m ∷ (v ++ (x ++ y))) q))
    (token_then (word_at word.Resource) _ t (n ∷ (u ++ b ∷ m ∷ rest)) t.span _ (word-reads word.Resource t (n ∷ (u ++ b ∷ m ∷ rest)) h)
    (below_token name_at _ n (u ++ b ∷ m ∷ rest) (name_of n) _ (name-reads n (u ++ b ∷ m ∷ rest) i)
    (below_unmet _ (λ r. whole_resource_at r t.span (name_of n)) _ (u ++ b ∷ m ∷ rest) _
    (list-fails (is_sign sign.OpenParen) refl spec-no-paren l (b ∷ m ∷ rest) (ap (is_sign sign.OpenParen) j))
    (below_then (λ r. resource_spec_at r.types) _ u (b ∷ m ∷ rest) ss _
    (in-types (resource-specs-yield l a (b ∷ m ∷ rest) (word-closes {u = b ∷ []} begins_resource_spec (begins b j) refl refl (m ∷ rest))))
    (below_token (word_at word.Body) _ b (m ∷ rest) b.span _ (word-reads word.Body b (m ∷ rest) j)
    (below_token (this_name_at (name_of n)) _ m rest m.span _ (this-name-reads (name_of n) m rest k same)
    (below_then (λ r. optional_value_formals_at r.types) _ v (x ++ (y ++ q)) fs _
    (in-types (optional-formals-yield f by (x ++ (y ++ q)) (list-fails (is_sign sign.OpenParen) refl item-no-paren items (y ++ q)
    (begins-test (end-begins e) (is_sign sign.OpenParen) false refl q))))
    (items-end items count e (λ is. SplitResource t.span (name_of n) ss fs is) q other))))))))
resource-yields (g.global t n h i l b e) (begins t' w) q other = absurd (both-words t h w)

-- what stands after the spec of a global ends it
body-closes : {name : Name} {is : Option (List Item)} {v x : List Token} → SpellsGlobalBody name is v → SpellsEnd name x → (q : List Token)
    → ClosesList (λ t. begins_spec t.kind) Ends (v ++ (x ++ q))
body-closes g.no_body e q = word-closes begins_spec (end-begins e) refl refl q
body-closes {x = x} (g.body {u = u} t m h i s l c) e q = word-closes {u = t ∷ m ∷ u} begins_spec (begins t h) refl refl (x ++ q)

global-body-yields : {name : Name} {is : Option (List Item)} {v x : List Token} → SpellsGlobalBody name is v → SpellsEnd name x → (q : List Token)
    → YieldsIn statement_readers (λ r. global_body_at r name) (v ++ (x ++ q)) (Ok (is, x ++ q))
unfolding global_body_at
global-body-yields {x = x} g.no_body e q = yields_unmet _ _ _ (x ++ q) _ (begins-test (end-begins e) (is_word word.Body) false refl q) (yields_returned None (x ++ q))
global-body-yields {name = name} {x = x} (g.body {is = is} {u = u} t m h i s l c) e q =
    yields_met _ _ _ (t ∷ m ∷ (u ++ (x ++ q))) _ (is_that_word word.Body t h)
    (token_then (word_at word.Body) _ t (m ∷ (u ++ (x ++ q))) t.span _ (word-reads word.Body t (m ∷ (u ++ (x ++ q))) h)
    (below_token (this_name_at name) _ m (u ++ (x ++ q)) m.span _ (this-name-reads name m (u ++ (x ++ q)) i s)
    (below_then global_items_at _ u (x ++ q) is _ (below _ _ _ (global-items-yield l c (end-begins e) q)) (below_returned (Some is) (x ++ q)))))

component-yields : {c : Component} {u : List Token} → SpellsComponent c u → (q : List Token) → NoName q → YieldsIn statement_readers component_at (u ++ q) (Ok (c, q))
unfolding component_at global_at
component-yields (g.resource {u = u} {v = v} {x = x} t n h i f b l m e) q other =
    yields_unmet _ _ resource_at (t ∷ n ∷ ((u ++ (v ++ x)) ++ q)) _ (ap (is_word word.Global) h) (resource-yields (g.resource t n h i f b l m e) (begins t h) q other)
component-yields (g.split_resource {u = u} {v = v} {x = x} {y = y} t n b m h i l a j k same f by items count e) q other =
    yields_unmet _ _ resource_at (t ∷ n ∷ ((u ++ b ∷ m ∷ (v ++ (x ++ y))) ++ q)) _ (ap (is_word word.Global) h)
    (resource-yields (g.split_resource t n b m h i l a j k same f by items count e) (begins t h) q other)
component-yields (g.global {ss = ss} {is = is} {u = u} {v = v} {x = x} t n h i l b e) q other =
    let w = end-yields statement_readers e q other in
    let it : Component = Global t.span (name_of n) ss is in
    subst (λ z. YieldsIn statement_readers component_at (t ∷ n ∷ z) (Ok (it, q)))
    (ap (λ z. u ++ z) (sym (append_assoc v x q)) ∙ sym (append_assoc u (v ++ x) q))
    (yields_met _ _ _ (t ∷ n ∷ (u ++ (v ++ (x ++ q)))) _ (is_that_word word.Global t h)
    (token_then (word_at word.Global) _ t (n ∷ (u ++ (v ++ (x ++ q)))) t.span _ (word-reads word.Global t (n ∷ (u ++ (v ++ (x ++ q)))) h)
    (below_token name_at _ n (u ++ (v ++ (x ++ q))) (name_of n) _ (name-reads n (u ++ (v ++ (x ++ q))) i)
    (below_then (λ r. global_spec_at r.types) _ u (v ++ (x ++ q)) ss _ (in-types (global-specs-yield l (v ++ (x ++ q)) (body-closes b e q)))
    (below_then (λ r. global_body_at r (name_of n)) _ v (x ++ q) is _ (below _ _ _ (global-body-yields b e q))
    (below_then (λ r. end_at (name_of n)) _ x q w.span _ (below _ _ _ w.yields) (below_returned it q)))))))

-- ---- files

component-item : (c : Component) (u : List Token) → SpellsComponent c u → IsItem statement_readers (λ t. begins_component t.kind) component_at NoName c u
component-item c u d = record { starts = component-begins d; yields = component-yields d }

pub complete-file : (f : File) (u : List Token) → Spells u f → YieldsIn statement_readers file_at u (Ok (f, []))
unfolding file_at end_of_tokens
complete-file f u (g.file {cs = cs} l) =
    subst (λ w. YieldsIn statement_readers file_at w (Ok (record { components = cs }, []))) (append-nil u)
    (yields_then _ (λ r cs. end_of_tokens >>= λ e. returned (record { components = cs })) u [] cs _
    (list-complete statement_readers (λ t. begins_component t.kind) component_at NoName (λ t q h. ap is_name h) (λ t h. begins-other begins_component refl t.kind h)
    (λ r. r.types.expressions.steps) steps-readers (list-map component-item l) [] (record { ends = refl; separator = refl; item = refl }))
    (record { gives = λ k h. refl }))

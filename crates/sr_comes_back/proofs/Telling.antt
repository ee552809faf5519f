-- What is spelled by lines is spelled by them told again: items, lists of items and parts.
use Rattle.std.proofs.Common.{◌≡◌, Bool, true, false, cond, not, ◌&&◌, List, [], ◌∷◌, ◌++◌, map, refl, ap, sym, subst, ◌∙◌, append_assoc, Option, Some, ◌⊎◌, inl, inr}
use Rattle.std.proofs.lemmas.List.{map-append}
use Rattle.sr_value.specs.declared.place.Span.{Span}
use Rattle.sr_tree.specs.declared.token.Token.{Token}
use Rattle.sr_tree.specs.declared.token.TokenKind.{TokenKind}
use Rattle.sr_tree.specs.Components as c
use Rattle.sr_tree.specs.Components.{SpellsList}
use Rattle.sr_tree.specs.Statements as s
use Rattle.sr_tree.specs.Statements.{SpellsBlockItem, SpellsItems}
use Rattle.sr_tree.specs.Tables.{IsSeparator}
use Rattle.sr_lexer.specs.Roles.{continues_line}
use Rattle.sr_fmt.specs.Layout.{depth_after, begins_line}
use Rattle.sr_grammar_laws.specs.Retelling.{AllSeparators}
use Rattle.sr_comes_back.proofs.Ending.{Ends}
use Rattle.sr_comes_back.proofs.Flat.{in_plain, Flat, same_depth}
use Rattle.sr_comes_back.proofs.Lines.{Marked, mark, unmarked, tokens_in, last_of, ends_opt, AreLines, lines_none, lines_flat, lines_both, lines_separator, lines_spans, ends_last, tell, tell-append, tell_flat}

both_parts : (a b : Bool) → (a && b) ≡ true → (a ≡ true) × (b ≡ true)
both_parts true b e = (refl, e)
both_parts false b e = absurd (cc)

not_true : (b : Bool) → not b ≡ true → b ≡ false
not_true true e = absurd (cc)
not_true false e = refl

abbrev pub HasSome : List Token → Type 0
HasSome tokens = (first : Token) × (rest : List Token) × (tokens ≡ first ∷ rest)

-- the separators before a token that begins a line: where a line may end and the token doesn't go on with it there are
-- some, and before one that goes on there is none
pub record Breaks (breaks : Option TokenKind → Token → List Token) : Type 0 where
  pub seps : (last : Option TokenKind) (t : Token) → AllSeparators (breaks last t)
  pub some : (last : Option TokenKind) (t : Token) → ends_opt last ≡ true → continues_line t.kind ≡ false → HasSome (breaks last t)
  pub none : (last : Option TokenKind) (t : Token) → continues_line t.kind ≡ true → breaks last t ≡ []

-- ---- lists

pub record IsList {X : Type 0} (Spelling : X → List Token → Type 0) (Listing : Bool → List X → List Token → Type 0) : Type 0 where
  pub stop : (may_begin : Bool) → Listing may_begin [] []
  pub separator : (may_begin : Bool) (xs : List X) (u : List Token) (t : Token) → IsSeparator t → Listing true xs u → Listing may_begin xs (t ∷ u)
  pub one : (x : X) (xs : List X) (u v : List Token) → Spelling x u → Listing false xs v → Listing true (x ∷ xs) (u ++ v)

pub items_list : IsList SpellsBlockItem SpellsItems
items_list = record { stop = λ b. s.stop_here; separator = λ b xs u t h d. s.separator t h d; one = λ x xs u v d more. s.one d more }

pub any_list : {X : Type 0} (Spelling : X → List Token → Type 0) → IsList Spelling (λ b. SpellsList Spelling b)
any_list Spelling = record { stop = λ b. c.stop_here; separator = λ b xs u t h d. c.separator t h d; one = λ x xs u v d more. c.one d more }

module _ {X : Type 0} {Spelling : X → List Token → Type 0} {Listing : Bool → List X → List Token → Type 0} (is : IsList Spelling Listing) where
  lead : (seps : List Token) → AllSeparators seps → (xs : List X) (u : List Token) → Listing true xs u → Listing true xs (seps ++ u)
  lead [] all xs u d = d
  lead (t ∷ seps) all xs u d = is.separator true xs (seps ++ u) t all.0 (lead seps all.1 xs u d)

  none_some : {first : Token} {rest : List Token} → [] ≡ first ∷ rest → ⊥
  none_some e = cc

  pub lead_any : (seps : List Token) → AllSeparators seps → (may_begin : Bool) → ((may_begin ≡ true) ⊎ HasSome seps) → (xs : List X) (u : List Token) → Listing true xs u → Listing may_begin xs (seps ++ u)
  lead_any [] all true why xs u d = d
  lead_any [] all false (inl e) xs u d = absurd (cc)
  lead_any [] all false (inr some) xs u d = absurd (none_some some.2)
  lead_any (t ∷ seps) all may_begin why xs u d = is.separator may_begin xs (seps ++ u) t all.0 (lead seps all.1 xs u d)

-- ---- lines told again

module _ (retell : Token → Token) (breaks : Option TokenKind → Token → List Token) where
  -- outside of brackets
  abbrev pub told : Option TokenKind → List Marked → List Token
  told last ms = tell retell breaks 0 last ms

  pub told_both : {u : List Token} {ms : List Marked} {a : List Span} → AreLines u ms a → (ns : List Marked) (last : Option TokenKind) → told last (ms ++ ns) ≡ told last ms ++ told (last_of last (tokens_in ms)) ns
  told_both {ms = ms} f ns last =
      tell-append retell breaks ms ns 0 last ∙ ap (λ n. tell retell breaks 0 last ms ++ tell retell breaks n (last_of last (tokens_in ms)) ns) f.shown

  -- a token, by whether it begins a line
  told_by : (m : Marked) (ms : List Marked) (last : Option TokenKind) (b : Bool) → begins_line 0 m.begins m.token.kind ≡ b → in_plain m.token.kind ≡ true → told last (m ∷ ms) ≡ cond b (breaks last m.token) [] ++ retell m.token ∷ told (Some m.token.kind) ms
  told_by m ms last b e p =
      ap (λ c. cond c (breaks last m.token) [] ++ retell m.token ∷ tell retell breaks (depth_after 0 m.token.kind) (Some m.token.kind) ms) e
      ∙ ap (λ n. cond b (breaks last m.token) [] ++ retell m.token ∷ tell retell breaks n (Some m.token.kind) ms) (same_depth m.token.kind 0 p)

  pub told_line : (m : Marked) (ms : List Marked) (last : Option TokenKind) → begins_line 0 m.begins m.token.kind ≡ true → in_plain m.token.kind ≡ true → told last (m ∷ ms) ≡ breaks last m.token ++ retell m.token ∷ told (Some m.token.kind) ms
  told_line m ms last e p = told_by m ms last true e p

  -- a token within a line
  pub token_told : {kind : TokenKind} (t : Token) → t.kind ≡ kind → (not (begins_line 0 false kind) && in_plain kind) ≡ true → (ms : List Marked) (last : Option TokenKind) → told last (mark false t ∷ ms) ≡ retell t ∷ told (Some t.kind) ms
  token_told {kind = kind} t h e ms last =
      let both = both_parts (not (begins_line 0 false kind)) (in_plain kind) e in
      told_by (mark false t) ms last false (ap (begins_line 0 false) h ∙ not_true (begins_line 0 false kind) both.0) (ap in_plain h ∙ both.1)

  -- a word or sign that begins a line
  pub line_told : {kind : TokenKind} (t : Token) → t.kind ≡ kind → (begins_line 0 false kind && in_plain kind) ≡ true → (ms : List Marked) (last : Option TokenKind) → told last (mark false t ∷ ms) ≡ breaks last t ++ retell t ∷ told (Some t.kind) ms
  line_told {kind = kind} t h e ms last =
      let both = both_parts (begins_line 0 false kind) (in_plain kind) e in
      told_by (mark false t) ms last true (ap (begins_line 0 false) h ∙ both.0) (ap in_plain h ∙ both.1)

  pub flat_told : {u : List Token} → Flat u → (ms : List Marked) (last : Option TokenKind) → told last (unmarked u ++ ms) ≡ map retell u ++ told (last_of last (tokens_in (unmarked u))) ms
  flat_told {u = u} f ms last =
      told_both (lines_flat f) ms last ∙ ap (λ z. z ++ told (last_of last (tokens_in (unmarked u))) ms) (tell_flat retell breaks last f)

  module _ (law : Breaks breaks) (respan : Span → Span) where
    -- one that begins a line but goes on with the one before
    pub goes_on : {kind : TokenKind} (t : Token) → t.kind ≡ kind → ((begins_line 0 false kind && in_plain kind) && continues_line kind) ≡ true → (ms : List Marked) (last : Option TokenKind) → told last (mark false t ∷ ms) ≡ retell t ∷ told (Some t.kind) ms
    goes_on {kind = kind} t h e ms last =
        let both = both_parts (begins_line 0 false kind && in_plain kind) (continues_line kind) e in
        line_told t h both.0 ms last ∙ ap (λ z. z ++ retell t ∷ told (Some t.kind) ms) (law.none last t (ap continues_line h ∙ both.1))

    -- an item of a list, which begins a line
    pub record ToldItem {X : Type 0} (Spelling : X → List Token → Type 0) (Same : X → X → Type 0) (spans : X → List Span) (x : X) (u : List Token) : Type 0 where
      pub head : Marked
      pub rest : List Marked
      pub lines : AreLines u (head ∷ rest) (spans x)
      pub starts : begins_line 0 head.begins head.token.kind ≡ true
      pub level : in_plain head.token.kind ≡ true
      pub new : continues_line head.token.kind ≡ false
      pub ends : Ends (tokens_in (head ∷ rest))
      pub other : X
      pub spelled : Spelling other (retell head.token ∷ told (Some head.token.kind) rest)
      pub same : Same x other
      pub again : spans other ≡ map respan (spans x)

    -- a part of one
    pub record ToldPart {X : Type 0} (Spelling : X → List Token → Type 0) (Same : X → X → Type 0) (spans : X → List Span) (x : X) (u : List Token) : Type 0 where
      pub marked : List Marked
      pub lines : AreLines u marked (spans x)
      pub other : X
      pub spelled : (last : Option TokenKind) → Spelling other (told last marked)
      pub same : Same x other
      pub again : spans other ≡ map respan (spans x)

    -- a list, after which an item may begin or before which a line may end
    pub record ToldList {X : Type 0} (Listing : Bool → List X → List Token → Type 0) (Same : List X → List X → Type 0) (spans : List X → List Span) (xs : List X) (u : List Token) : Type 0 where
      pub marked : List Marked
      pub lines : AreLines u marked (spans xs)
      pub other : List X
      pub spelled : (last : Option TokenKind) (may_begin : Bool) → ((may_begin ≡ true) ⊎ (ends_opt last ≡ true)) → Listing may_begin other (told last marked)
      pub same : Same xs other
      pub again : spans other ≡ map respan (spans xs)

    module _ {X : Type 0} {Spelling : X → List Token → Type 0} {Listing : Bool → List X → List Token → Type 0} (is : IsList Spelling Listing) (Same : X → X → Type 0) (SameAll : List X → List X → Type 0) (spans : X → List Span) (all_spans : List X → List Span)
        (cons : (x y : X) (xs ys : List X) → Same x y → SameAll xs ys → SameAll (x ∷ xs) (y ∷ ys)) (joins : (x : X) (xs : List X) → all_spans (x ∷ xs) ≡ spans x ++ all_spans xs) where
      pub list_none : SameAll [] [] → all_spans [] ≡ [] → ToldList Listing SameAll all_spans [] []
      list_none same e = record {
        marked = [];
        lines = lines_spans (sym e) lines_none;
        other = [];
        spelled = λ last may_begin why. is.stop may_begin;
        same = same;
        again = e ∙ ap (map respan) (sym e);
      }

      pub list_separator : (xs : List X) (u : List Token) (t : Token) → IsSeparator t → ToldList Listing SameAll all_spans xs u → ToldList Listing SameAll all_spans xs (t ∷ u)
      list_separator xs u t h r = record {
        marked = r.marked;
        lines = lines_separator t h r.lines;
        other = r.other;
        spelled = r.spelled;
        same = r.same;
        again = r.again;
      }

      why_some : (last : Option TokenKind) (may_begin : Bool) (t : Token) → continues_line t.kind ≡ false → ((may_begin ≡ true) ⊎ (ends_opt last ≡ true)) → ((may_begin ≡ true) ⊎ HasSome (breaks last t))
      why_some last may_begin t new (inl e) = inl e
      why_some last may_begin t new (inr e) = inr (law.some last t e new)

      one_spelled : (x : X) (xs : List X) (u v : List Token) (i : ToldItem Spelling Same spans x u) (r : ToldList Listing SameAll all_spans xs v) (last : Option TokenKind) (may_begin : Bool) → ((may_begin ≡ true) ⊎ (ends_opt last ≡ true)) → Listing may_begin (i.other ∷ r.other) (told last ((i.head ∷ i.rest) ++ r.marked))
      one_spelled x xs u v i r last may_begin why =
          let all = i.head ∷ i.rest in
          let next = last_of last (tokens_in all) in
          let t = i.head.token in
          let words = retell t ∷ told (Some t.kind) i.rest in
          let ends : ends_opt next ≡ true = ends_last (tokens_in all) last ∙ i.ends.at (ends_opt last) in
          let base : Listing true (i.other ∷ r.other) (words ++ told next r.marked) = is.one i.other r.other words (told next r.marked) i.spelled (r.spelled next false (inr ends)) in
          let led : Listing may_begin (i.other ∷ r.other) (breaks last t ++ (words ++ told next r.marked)) =
          lead_any is (breaks last t) (law.seps last t) may_begin (why_some last may_begin t i.new why) (i.other ∷ r.other) (words ++ told next r.marked) base in
          let same : told last (all ++ r.marked) ≡ breaks last t ++ (words ++ told next r.marked) =
          told_both i.lines r.marked last ∙ ap (λ z. z ++ told next r.marked) (told_line i.head i.rest last i.starts i.level) ∙ append_assoc (breaks last t) words (told next r.marked) in
          subst (λ z. Listing may_begin (i.other ∷ r.other) z) (sym same) led

      pub list_one : (x : X) (xs : List X) (u v : List Token) → ToldItem Spelling Same spans x u → ToldList Listing SameAll all_spans xs v → ToldList Listing SameAll all_spans (x ∷ xs) (u ++ v)
      list_one x xs u v i r = record {
        marked = (i.head ∷ i.rest) ++ r.marked;
        lines = lines_spans (sym (joins x xs)) (lines_both i.lines r.lines);
        other = i.other ∷ r.other;
        spelled = one_spelled x xs u v i r;
        same = cons x i.other xs r.other i.same r.same;
        again =
            joins i.other r.other
            ∙ ap (λ z. z ++ all_spans r.other) i.again
            ∙ ap (λ z. map respan (spans x) ++ z) r.again
            ∙ sym (map-append respan (spans x) (all_spans xs))
            ∙ ap (map respan) (sym (joins x xs));
      }

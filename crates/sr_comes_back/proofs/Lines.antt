-- The tokens of some lines without the separators between them, each with whether a statement begins with it.
use Rattle.std.proofs.Common.{◌≡◌, ℕ, ◌==◌, Bool, true, false, cond, not, ◌&&◌, ◌||◌, List, [], ◌∷◌, ◌++◌, map, refl, ap, sym, subst, ◌∙◌, append_assoc, Option, Some, None}
use Rattle.sr_value.specs.declared.place.Span.{Span}
use Rattle.sr_tree.specs.declared.token.Token.{Token}
use Rattle.sr_tree.specs.declared.token.TokenKind.{TokenKind}
use Rattle.sr_tree.specs.declared.token.TokenKind.TheVariants as kinds
use Rattle.sr_tree.specs.Tables.{IsSeparator}
use Rattle.sr_tree.specs.Tokens.{is_separator}
use Rattle.sr_lexer.specs.Roles.{may_end_line}
use Rattle.sr_fmt.specs.Layout.{depth_after, begins_line, is_dropped}
use Rattle.sr_fmt.specs.Roles.{always_begins_line}
use Rattle.sr_comes_back.proofs.Ending.{may_end}
use Rattle.sr_comes_back.proofs.Flat.{stays, in_plain, flat_after, Flat, same_depth}

-- ---- tokens with their marks

pub record Marked : Type 0 where
  pub token : Token
  pub begins : Bool

abbrev pub mark : Bool → Token → Marked
mark begins token = record { token = token; begins = begins }

abbrev pub unmarked : List Token → List Marked
unmarked tokens = map (mark false) tokens

abbrev pub tokens_in : List Marked → List Token
tokens_in marked = map (λ m. m.token) marked

-- where the statements among them begin
abbrev pub picked_in : List Marked → List Span
picked_in [] = []
picked_in (m ∷ ms) = cond m.begins (m.token.span ∷ picked_in ms) (picked_in ms)

-- how many brackets are open after tokens
abbrev pub depth_of : ℕ → List Token → ℕ
depth_of depth [] = depth
depth_of depth (t ∷ ts) = depth_of (depth_after depth t.kind) ts

-- without separators outside of brackets
abbrev pub kept_tokens : ℕ → List Token → List Token
kept_tokens depth [] = []
kept_tokens depth (t ∷ ts) = cond (is_dropped depth t.kind) (kept_tokens depth ts) (t ∷ kept_tokens (depth_after depth t.kind) ts)

-- the last of the tokens, if there is one
abbrev pub last_of : Option TokenKind → List Token → Option TokenKind
last_of last [] = last
last_of last (t ∷ ts) = last_of (Some t.kind) ts

abbrev pub ends_opt : Option TokenKind → Bool
ends_opt None = false
ends_opt (Some kind) = may_end_line kind

-- ---- one list after another

pub depth_of-append : (u v : List Token) (depth : ℕ) → depth_of depth (u ++ v) ≡ depth_of (depth_of depth u) v
depth_of-append [] v depth = refl
depth_of-append (t ∷ u) v depth = depth_of-append u v (depth_after depth t.kind)

last_of-append : (u v : List Token) (last : Option TokenKind) → last_of last (u ++ v) ≡ last_of (last_of last u) v
last_of-append [] v last = refl
last_of-append (t ∷ u) v last = last_of-append u v (Some t.kind)

-- a separator changes no depth
pub dropped_depth : (depth : ℕ) (kind : TokenKind) → is_separator kind ≡ true → depth_after depth kind ≡ depth
dropped_depth depth kinds.Separator e = refl
dropped_depth depth kinds.Name e = absurd (cc)
dropped_depth depth kinds.Number e = absurd (cc)
dropped_depth depth kinds.Char e = absurd (cc)
dropped_depth depth kinds.Str e = absurd (cc)
dropped_depth depth (kinds.Word word) e = absurd (cc)
dropped_depth depth (kinds.Sign sign) e = absurd (cc)

pub right_of : (a b : Bool) → (a && b) ≡ true → b ≡ true
right_of true b e = e
right_of false b e = absurd (cc)

pub kept-append : (u v : List Token) (depth : ℕ) → kept_tokens depth (u ++ v) ≡ kept_tokens depth u ++ kept_tokens (depth_of depth u) v
kept-append [] v depth = refl
kept-append (t ∷ u) v depth = by_test (is_dropped depth t.kind) refl (kept-append u v depth) (kept-append u v (depth_after depth t.kind))
  where
    by_test : (b : Bool) → is_dropped depth t.kind ≡ b
        → kept_tokens depth (u ++ v) ≡ kept_tokens depth u ++ kept_tokens (depth_of depth u) v
        → kept_tokens (depth_after depth t.kind) (u ++ v) ≡ kept_tokens (depth_after depth t.kind) u ++ kept_tokens (depth_of (depth_after depth t.kind) u) v
        → cond b (kept_tokens depth (u ++ v)) (t ∷ kept_tokens (depth_after depth t.kind) (u ++ v)) ≡ cond b (kept_tokens depth u) (t ∷ kept_tokens (depth_after depth t.kind) u) ++ kept_tokens (depth_of (depth_after depth t.kind) u) v
    by_test true e f g = f ∙ ap (λ n. kept_tokens depth u ++ kept_tokens (depth_of n u) v) (sym (dropped_depth depth t.kind (right_of (depth == 0) (is_separator t.kind) e)))
    by_test false e f g = ap (λ ts. t ∷ ts) g

pub tokens_in-append : (ms ns : List Marked) → tokens_in (ms ++ ns) ≡ tokens_in ms ++ tokens_in ns
tokens_in-append [] ns = refl
tokens_in-append (m ∷ ms) ns = ap (λ ts. m.token ∷ ts) (tokens_in-append ms ns)

picked_step : (b : Bool) (span : Span) (xs ys : List Span) → cond b (span ∷ (xs ++ ys)) (xs ++ ys) ≡ cond b (span ∷ xs) xs ++ ys
picked_step true span xs ys = refl
picked_step false span xs ys = refl

picked_in-append : (ms ns : List Marked) → picked_in (ms ++ ns) ≡ picked_in ms ++ picked_in ns
picked_in-append [] ns = refl
picked_in-append (m ∷ ms) ns =
    ap (λ more. cond m.begins (m.token.span ∷ more) more) (picked_in-append ms ns) ∙ picked_step m.begins m.token.span (picked_in ms) (picked_in ns)

-- ---- tokens of one line

some_depth : (d e : ℕ) → Some d ≡ Some e → d ≡ e
some_depth d e is = cc

none_is_some : {A : Type 0} {x : A} → None ≡ Some x → ⊥
none_is_some e = cc

pub flat_test : (t : Token) (u : List Token) (d e : ℕ) → flat_after d (t ∷ u) ≡ Some e → (((d == 0) && not (stays t.kind)) ≡ false) × (flat_after (depth_after d t.kind) u ≡ Some e)
flat_test t u d e is = by_test ((d == 0) && not (stays t.kind)) refl is
  where
    by_test : (b : Bool) → ((d == 0) && not (stays t.kind)) ≡ b → cond b None (flat_after (depth_after d t.kind) u) ≡ Some e → (((d == 0) && not (stays t.kind)) ≡ false) × (flat_after (depth_after d t.kind) u ≡ Some e)
    by_test true f g = absurd (none_is_some g)
    by_test false f g = (f, g)

flat_depth : (u : List Token) (d e : ℕ) → flat_after d u ≡ Some e → depth_of d u ≡ e
flat_depth [] d e is = some_depth d e is
flat_depth (t ∷ u) d e is = flat_depth u (depth_after d t.kind) e (flat_test t u d e is).1

no_drop : (zero separator always : Bool) → (zero && not (not (separator || always))) ≡ false → (zero && separator) ≡ false
no_drop true true always e = absurd (cc)
no_drop true false always e = refl
no_drop false separator always e = refl

no_line : (zero separator always : Bool) → (zero && not (not (separator || always))) ≡ false → (zero && (false || always)) ≡ false
no_line true true always e = absurd (cc)
no_line true false true e = absurd (cc)
no_line true false false e = refl
no_line false separator always e = refl

flat_kept : (u : List Token) (d e : ℕ) → flat_after d u ≡ Some e → kept_tokens d u ≡ u
flat_kept [] d e is = refl
flat_kept (t ∷ u) d e is =
    let test = flat_test t u d e is in
    ap (λ b. cond b (kept_tokens d u) (t ∷ kept_tokens (depth_after d t.kind) u)) (no_drop (d == 0) (is_separator t.kind) (always_begins_line t.kind) test.0)
    ∙ ap (λ ts. t ∷ ts) (flat_kept u (depth_after d t.kind) e test.1)

pub tokens_unmarked : (u : List Token) → tokens_in (unmarked u) ≡ u
tokens_unmarked [] = refl
tokens_unmarked (t ∷ u) = ap (λ ts. t ∷ ts) (tokens_unmarked u)

pub picked_unmarked : (u : List Token) → picked_in (unmarked u) ≡ []
picked_unmarked [] = refl
picked_unmarked (t ∷ u) = picked_unmarked u

-- ---- lines

-- these are the tokens of lines without separators, and these statements begin in them; no bracket stays open
pub record AreLines (u : List Token) (marked : List Marked) (spans : List Span) : Type 0 where
  pub kept : kept_tokens 0 u ≡ tokens_in marked
  pub level : depth_of 0 u ≡ 0
  pub shown : depth_of 0 (tokens_in marked) ≡ 0
  pub picks : picked_in marked ≡ spans

pub lines_none : AreLines [] [] []
lines_none = record { kept = refl; level = refl; shown = refl; picks = refl }

pub lines_flat : {u : List Token} → Flat u → AreLines u (unmarked u) []
lines_flat {u = u} f = record {
  kept = flat_kept u 0 0 (f.at 0) ∙ sym (tokens_unmarked u);
  level = flat_depth u 0 0 (f.at 0);
  shown = ap (depth_of 0) (tokens_unmarked u) ∙ flat_depth u 0 0 (f.at 0);
  picks = picked_unmarked u;
}

pub lines_both : {u v : List Token} {ms ns : List Marked} {a b : List Span} → AreLines u ms a → AreLines v ns b → AreLines (u ++ v) (ms ++ ns) (a ++ b)
lines_both {u = u} {v = v} {ms = ms} {ns = ns} {a = a} {b = b} f g = record {
  kept =
      kept-append u v 0
      ∙ ap (λ n. kept_tokens 0 u ++ kept_tokens n v) f.level
      ∙ ap (λ ts. ts ++ kept_tokens 0 v) f.kept
      ∙ ap (λ ts. tokens_in ms ++ ts) g.kept
      ∙ sym (tokens_in-append ms ns);
  level = depth_of-append u v 0 ∙ ap (λ n. depth_of n v) f.level ∙ g.level;
  shown = ap (depth_of 0) (tokens_in-append ms ns) ∙ depth_of-append (tokens_in ms) (tokens_in ns) 0 ∙ ap (λ n. depth_of n (tokens_in ns)) f.shown ∙ g.shown;
  picks = picked_in-append ms ns ∙ ap (λ xs. xs ++ picked_in ns) f.picks ∙ ap (λ xs. a ++ xs) g.picks;
}

-- a separator is left out
pub lines_separator : {u : List Token} {ms : List Marked} {a : List Span} (t : Token) → IsSeparator t → AreLines u ms a → AreLines (t ∷ u) ms a
lines_separator {u = u} t h f = record {
  kept = ap (λ k. cond (is_dropped 0 k) (kept_tokens 0 u) (t ∷ kept_tokens (depth_after 0 k) u)) h ∙ f.kept;
  level = ap (λ k. depth_of (depth_after 0 k) u) h ∙ f.level;
  shown = f.shown;
  picks = f.picks;
}

-- a token that is no bracket
pub lines_token : {u : List Token} {ms : List Marked} {a : List Span} (t : Token) (begins : Bool) → (in_plain t.kind && not (is_separator t.kind)) ≡ true → AreLines u ms a → AreLines (t ∷ u) (mark begins t ∷ ms) (cond begins (t.span ∷ a) a)
lines_token {u = u} {ms = ms} {a = a} t begins e f =
    let no = parts (in_plain t.kind) (is_separator t.kind) e in
    let depth = same_depth t.kind 0 no.0 in
    record {
      kept = ap (λ b. cond ((0 == 0) && b) (kept_tokens 0 u) (t ∷ kept_tokens (depth_after 0 t.kind) u)) no.1 ∙ ap (λ n. t ∷ kept_tokens n u) depth ∙ ap (λ ts. t ∷ ts) f.kept;
      level = ap (λ n. depth_of n u) depth ∙ f.level;
      shown = ap (λ n. depth_of n (tokens_in ms)) depth ∙ f.shown;
      picks = ap (λ xs. cond begins (t.span ∷ xs) xs) f.picks;
    }
  where
    parts : (a b : Bool) → (a && not b) ≡ true → (a ≡ true) × (b ≡ false)
    parts true true e = absurd (cc)
    parts true false e = (refl, refl)
    parts false b e = absurd (cc)

pub lines_spans : {u : List Token} {ms : List Marked} {a b : List Span} → a ≡ b → AreLines u ms a → AreLines u ms b
lines_spans {u = u} {ms = ms} e f = subst (λ spans. AreLines u ms spans) e f

-- a list that ends well does so whatever stands before it
pub ends_last : (u : List Token) (last : Option TokenKind) → ends_opt (last_of last u) ≡ may_end (ends_opt last) u
ends_last [] last = refl
ends_last (t ∷ u) last = ends_last u (Some t.kind)

-- ---- lines told again

module _ (retell : Token → Token) (breaks : Option TokenKind → Token → List Token) where
  -- tokens told again, and before each that begins a line the separators that stand there then
  abbrev pub tell : ℕ → Option TokenKind → List Marked → List Token
  tell depth last [] = []
  tell depth last (m ∷ ms) =
      cond (begins_line depth m.begins m.token.kind) (breaks last m.token) [] ++ retell m.token ∷ tell (depth_after depth m.token.kind) (Some m.token.kind) ms

  pub tell-append : (ms ns : List Marked) (depth : ℕ) (last : Option TokenKind) → tell depth last (ms ++ ns) ≡ tell depth last ms ++ tell (depth_of depth (tokens_in ms)) (last_of last (tokens_in ms)) ns
  tell-append [] ns depth last = refl
  tell-append (m ∷ ms) ns depth last =
      ap (λ ts. cond (begins_line depth m.begins m.token.kind) (breaks last m.token) [] ++ retell m.token ∷ ts) (tell-append ms ns (depth_after depth m.token.kind) (Some m.token.kind))
      ∙ sym (append_assoc (cond (begins_line depth m.begins m.token.kind) (breaks last m.token) []) (retell m.token ∷ tell (depth_after depth m.token.kind) (Some m.token.kind) ms) (tell (depth_of depth (tokens_in (m ∷ ms))) (last_of last (tokens_in (m ∷ ms))) ns))

  pub flat_again : (u : List Token) (d e : ℕ) (last : Option TokenKind) → flat_after d u ≡ Some e → tell d last (unmarked u) ≡ map retell u
  flat_again [] d e last is = refl
  flat_again (t ∷ u) d e last is =
      let test = flat_test t u d e is in
      ap (λ b. cond b (breaks last t) [] ++ retell t ∷ tell (depth_after d t.kind) (Some t.kind) (unmarked u)) (no_line (d == 0) (is_separator t.kind) (always_begins_line t.kind) test.0)
      ∙ ap (λ ts. retell t ∷ ts) (flat_again u (depth_after d t.kind) e (Some t.kind) test.1)

  -- tokens of one line have no separator among them
  pub tell_flat : {u : List Token} (last : Option TokenKind) → Flat u → tell 0 last (unmarked u) ≡ map retell u
  tell_flat {u = u} last f = flat_again u 0 0 last (f.at 0)

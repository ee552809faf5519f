-- What the readers of types read is spelled so by the grammar, and depends on one token after it alone.
use Rattle.std.proofs.Common.{◌≡◌, refl, subst, ℕ, zero, suc, Bool, true, false, List, [], ◌∷◌, ◌++◌, Option, Some, None}
use Rattle.std.specs.Prelude.{if◌then◌else◌, option_map}
use Rattle.sr_reader.specs.Reader.{returned}
use Rattle.sr_reader.proofs.Soundness.{Sound, Then, joined, Returns, returns, IsOne, is_one, one-sound, returned-sound, unfit-sound, weaker, then-sound, branch-sound}
use Rattle.sr_value.specs.declared.place.Span.{Span}
use Rattle.sr_tree.specs.declared.expr.BasicType.{BasicType}
use Rattle.sr_tree.specs.declared.expr.BasicType.TheVariants as basic
use Rattle.sr_tree.specs.declared.expr.Expr.{Expr}
use Rattle.sr_tree.specs.declared.name.Name.{Name}
use Rattle.sr_tree.specs.declared.name.QualifiedName.{QualifiedName}
use Rattle.sr_tree.specs.declared.token.Sign.TheVariants as sign
use Rattle.sr_tree.specs.declared.token.Token.{Token}
use Rattle.sr_tree.specs.declared.token.TokenKind.{TokenKind}
use Rattle.sr_tree.specs.declared.token.TokenKind.TheVariants as kind
use Rattle.sr_tree.specs.declared.token.Word.{Word}
use Rattle.sr_tree.specs.declared.token.Word.TheVariants as word
use Rattle.sr_tree.specs.declared.types.Decl.{Decl}
use Rattle.sr_tree.specs.declared.types.DimsTree.{DimsTree}
use Rattle.sr_tree.specs.declared.types.Formal.{Formal, out-Formal, roll-Formal}
use Rattle.sr_tree.specs.declared.types.InvocationKind.{InvocationKind}
use Rattle.sr_tree.specs.declared.types.PassMode.{PassMode}
use Rattle.sr_tree.specs.declared.types.RangeTree.{RangeTree}
use Rattle.sr_tree.specs.declared.types.RangeTree.TheVariants as range
use Rattle.sr_tree.specs.declared.types.Returned.{Returned, out-Returned, roll-Returned}
use Rattle.sr_tree.specs.declared.types.Signature.{Signature, roll-Signature}
use Rattle.sr_tree.specs.declared.types.TypePlace.{TypePlace}
use Rattle.sr_tree.specs.declared.types.TypePlace.TheVariants.{Declaration, Elsewhere}
use Rattle.sr_tree.specs.declared.types.TypeTree.{TypeTree}
use Rattle.sr_tree.specs.declared.types.TypeTree.TheVariants as ty
use Rattle.sr_tree.specs.Expressions.{SpellsExpr, SpellsQualifiedName, expr_span}
use Rattle.sr_tree.specs.Tables.{IsSign, IsWord, basic_of, word_basic}
use Rattle.sr_tree.specs.Types as g
use Rattle.sr_tree.specs.Types.{SpellsNames, SpellsMoreNames, SpellsRange, SpellsSecondRange, SpellsDims, SpellsDecl, SpellsDecls, SpellsMoreDecls, SpellsKinds, SpellsMoreKinds, SpellsPlainTypeIn, SpellsTypeIn, SpellsFieldIn, SpellsMoreFieldsIn, SpellsFormalIn, SpellsFormalsIn, SpellsMoreFormalsIn, SpellsReturnedIn, SpellsSignatureIn, SpellsType, MayDeclare, BracesBelong, kind_of, pass_mode_of, formal_span}
use Rattle.sr_expr_reader.specs.Readers.{Readers, is_comma}
use Rattle.sr_tree.specs.Tokens.{sign_at, name_at, separator_at}
use Rattle.sr_expr_reader.specs.TypeReaders.{TypeReaders, basic_type, basic_type_at, mode_of, mode_word_at, invocation_kind_of, kind_at, next_name_at, more_names_at, names_at, upper_bound_at, range_at, second_range_at, dims_at, decl_at, next_decl_at, more_decls_at, decls_at, mode_at, formal_start, formal_after_at, formal_at, is_separated, next_formal_at, more_formals_at, formals_after_at, formals_at, returned_at, more_kinds_at, kinds_at, returns_open, own_kinds_at, signature_at, string_at, cap_at, array_type_at, plain_type_at, enum_at, next_field_at, more_fields_at, record_type_at, type_at, nested_in, within, nested, type_readers}
use Rattle.sr_expr_reader.proofs.ExpressionsSound.{SoundReaders, readers-sound, operand-sound, qualified-sound}
use Rattle.sr_expr_reader.proofs.ListsSound.{Grows, grows, list-sound}
use Rattle.sr_expr_reader.proofs.TokensSound.{ASign, a_sign, AWord, a_word, AName, a_name, ASeparator, a_separator, Spanned, spanned, spanned_from, sign-sound, word-sound, name-sound, separator-sound, none_some, some_some, ended, into}
use Rattle.sr_expr_reader.proofs.TypesOpen.{closed-type}

-- the fields of a record of readers read what they should
pub record SoundTypeReaders (r : TypeReaders) : Type 0 where
  pub expressions : SoundReaders r.expressions
  pub nested : Sound (SpellsTypeIn Elsewhere) r.nested
  pub declared : Sound (SpellsTypeIn Declaration) r.declared

-- single tokens

basic_found : {p : TypePlace} (t : Token) (k : TokenKind) → t.kind ≡ k → (b : BasicType) → basic_of k ≡ Some b → SpellsPlainTypeIn p (basic_type t.span b) (t ∷ [])
basic_found {p = p} t (kind.Word w) h b e = of_word w h b e
  where
    of_word : (w : Word) → t.kind ≡ kind.Word w → (b : BasicType) → word_basic w ≡ Some b → SpellsPlainTypeIn p (basic_type t.span b) (t ∷ [])
    of_word word.Int h b e = subst (λ x. SpellsPlainTypeIn p (basic_type t.span x) (t ∷ [])) (some_some basic.Int b e) (g.int t h)
    of_word word.Bool h b e = subst (λ x. SpellsPlainTypeIn p (basic_type t.span x) (t ∷ [])) (some_some basic.Bool b e) (g.bool t h)
    of_word word.Char h b e = subst (λ x. SpellsPlainTypeIn p (basic_type t.span x) (t ∷ [])) (some_some basic.Char b e) (g.char t h)
    of_word _ h b e = absurd (none_some b e)
basic_found t _ h b e = absurd (none_some b e)

basic_type-sound : {p : TypePlace} → Sound (SpellsPlainTypeIn p) basic_type_at
unfolding basic_type_at
basic_type-sound {p = p} = weaker found (one-sound _)
  where
    go : (t : Token) (a : TypeTree) (m : Option BasicType) → basic_of t.kind ≡ m → option_map (basic_type t.span) m ≡ Some a → SpellsPlainTypeIn p a (t ∷ [])
    go t a (Some b) h e = subst (λ x. SpellsPlainTypeIn p x (t ∷ [])) (some_some (basic_type t.span b) a e) (basic_found t t.kind refl b h)
    go t a None h e = absurd (none_some a e)

    found : (a : TypeTree) (u : List Token) → IsOne (λ t. option_map (basic_type t.span) (basic_of t.kind)) a u → SpellsPlainTypeIn p a u
    found a u (is_one t e) = go t a (basic_of t.kind) refl e

mode_word : (k : TokenKind) (m : PassMode) → mode_of k ≡ Some m → (w : Word) × (k ≡ kind.Word w) × (pass_mode_of w ≡ Some m)
mode_word (kind.Word w) m e = (w, refl, e)
mode_word _ m e = absurd (none_some m e)

kind_word : (k : TokenKind) (x : InvocationKind) → invocation_kind_of k ≡ Some x → (w : Word) × (k ≡ kind.Word w) × (kind_of w ≡ Some x)
kind_word (kind.Word w) x e = (w, refl, e)
kind_word _ x e = absurd (none_some x e)

mode_word-sound : Sound (Spanned (λ t. mode_of t.kind)) mode_word_at
unfolding mode_word_at
mode_word-sound = weaker (spanned_from (λ t. mode_of t.kind)) (one-sound _)

kind-sound : Sound (IsOne (λ t. invocation_kind_of t.kind)) kind_at
unfolding kind_at
kind-sound = one-sound (λ t. invocation_kind_of t.kind)

-- names

names_found : (ns : List Name) (u : List Token) → Then AName (λ n. Grows SpellsMoreNames (n ∷ [])) ns u → SpellsNames ns u
names_found ns u (joined (a_name n h) (grows m)) = g.names n h m

one_more_name : (n : Name) (ns : List Name) (u v : List Token) → Then (ASign sign.Comma) (λ c. AName) n u → SpellsMoreNames ns v → SpellsMoreNames (n ∷ ns) (u ++ v)
one_more_name n ns u v (joined (a_sign t h) (a_name m i)) more = g.one_more_name t m h i more

pub names-sound : (r : Readers) → Sound SpellsNames (names_at r)
unfolding names_at more_names_at next_name_at
names-sound r = weaker names_found (then-sound name-sound (λ n. list-sound (ASign sign.Comma) AName SpellsMoreNames (sign_at sign.Comma) name_at is_comma
    g.no_more_names one_more_name (sign-sound sign.Comma) name-sound r.steps (n ∷ [])))

-- dimensions

data AfterLow (low : Expr) (x : RangeTree) (v : List Token) : Type 0 where
  after_low : ((u : List Token) → SpellsExpr 5 low u → SpellsRange x (u ++ v)) → AfterLow low x v

data Upper (low : Expr) : RangeTree → List Token → Type 0 where
  no_upper : (star : Token) → IsSign sign.Star star → Upper low (range.From (expr_span low) low) (star ∷ [])
  upper : {high : Expr} {v : List Token} → SpellsExpr 5 high v → Upper low (range.Bounds (expr_span low) low high) v

any_found : (x : RangeTree) (u : List Token) → Then (ASign sign.Star) (λ s. Returns (range.Any s)) x u → SpellsRange x u
any_found x u (joined (a_sign t h) returns) = g.any t h

no_upper_found : (low : Expr) (x : RangeTree) (u : List Token) → Then (ASign sign.Star) (λ s. Returns (range.From (expr_span low) low)) x u → Upper low x u
no_upper_found low x u (joined (a_sign t h) returns) = no_upper t h

upper_found : (low : Expr) (x : RangeTree) (u : List Token) → Then (SpellsExpr 5) (λ e. Returns (range.Bounds (expr_span low) low e)) x u → Upper low x u
upper_found low x w (joined {a = e} {u = u} d end) =
    into (λ y z. Upper low y (u ++ z)) (range.Bounds (expr_span low) low e) x _ end (ended (Upper low (range.Bounds (expr_span low) low e)) u (upper d))

bounds_found : (low : Expr) (x : RangeTree) (u : List Token) → Then (ASign sign.Colon) (λ c. Upper low) x u → AfterLow low x u
bounds_found low x u (joined (a_sign t h) (no_upper s i)) = after_low (λ w d. g.from t s d h i)
bounds_found low x u (joined (a_sign t h) (upper e)) = after_low (λ w d. g.bounds t d h e)

length_found : (low : Expr) (x : RangeTree) (u : List Token) → Returns (range.Length (expr_span low) low) x u → AfterLow low x u
length_found low x u end =
    into (AfterLow low) (range.Length (expr_span low) low) x u end (after_low (λ w d. ended (SpellsRange (range.Length (expr_span low) low)) w (g.length d)))

low_found : (x : RangeTree) (u : List Token) → Then (SpellsExpr 5) AfterLow x u → SpellsRange x u
low_found x w (joined {u = u} d (after_low f)) = f u d

second_found : (x : Option RangeTree) (u : List Token) → Then (ASign sign.Comma) (λ c. Then SpellsRange (λ y. Returns (Some y))) x u → SpellsSecondRange x u
second_found x w (joined (a_sign t h) (joined {a = y} {u = u} d returns)) = ended (λ z. SpellsSecondRange (Some y) (t ∷ z)) u (g.second_range t h d)

no_second_found : (x : Option RangeTree) (u : List Token) → Returns None x u → SpellsSecondRange x u
no_second_found x u returns = g.no_second_range

dims_found : (d : DimsTree) (u : List Token)
    → Then (ASign sign.OpenBracket) (λ s. Then SpellsRange (λ x. Then SpellsSecondRange (λ y. Then (ASign sign.CloseBracket)
    (λ c. Returns (record { span = s; first = x; second = y }))))) d u → SpellsDims d u
dims_found d w (joined (a_sign t h) (joined x (joined y (joined (a_sign c i) returns)))) = g.dims t c h x y i

-- declared names

data AfterDecl (n : Name) : Decl → List Token → Type 0 where
  no_dims : AfterDecl n (record { span = n.span; name = n; dims = None }) []
  with_dims : {d : DimsTree} {u : List Token} → SpellsDims d u → AfterDecl n (record { span = n.span; name = n; dims = Some d }) u

bare_found : (n : Name) (d : Decl) (u : List Token) → Returns (record { span = n.span; name = n; dims = None }) d u → AfterDecl n d u
bare_found n d u returns = no_dims

sized_found : (n : Name) (d : Decl) (u : List Token) → Then SpellsDims (λ x. Returns (record { span = n.span; name = n; dims = Some x })) d u → AfterDecl n d u
sized_found n d w (joined {a = x} {u = u} y returns) = ended (AfterDecl n (record { span = n.span; name = n; dims = Some x })) u (with_dims y)

decl_found : (d : Decl) (u : List Token) → Then AName AfterDecl d u → SpellsDecl d u
decl_found d u (joined (a_name n h) no_dims) = g.bare n h
decl_found d u (joined (a_name n h) (with_dims y)) = g.sized n h y

decls_found : (ds : List Decl) (u : List Token) → Then SpellsDecl (λ d. Grows SpellsMoreDecls (d ∷ [])) ds u → SpellsDecls ds u
decls_found ds u (joined d (grows m)) = g.decls d m

one_more_decl : (d : Decl) (ds : List Decl) (u v : List Token) → Then (ASign sign.Comma) (λ c. SpellsDecl) d u → SpellsMoreDecls ds v → SpellsMoreDecls (d ∷ ds) (u ++ v)
one_more_decl d ds u v (joined (a_sign t h) x) more = g.one_more_decl t h x more

module _ (r : Readers) (l : SoundReaders r) where
  upper_bound-sound : (low : Expr) → Sound (AfterLow low) (upper_bound_at r low)
  unfolding upper_bound_at
  upper_bound-sound low = weaker (bounds_found low) (then-sound (sign-sound sign.Colon) (λ c. branch-sound
      (weaker (no_upper_found low) (then-sound (sign-sound sign.Star) (λ s. returned-sound (range.From (expr_span low) low))))
      (weaker (upper_found low) (then-sound (l.operand 5) (λ e. returned-sound (range.Bounds (expr_span low) low e))))))

  pub range-sound : Sound SpellsRange (range_at r)
  unfolding range_at
  range-sound = branch-sound
      (weaker any_found (then-sound (sign-sound sign.Star) (λ s. returned-sound (range.Any s))))
      (weaker low_found (then-sound (operand-sound r l 5) (λ e. branch-sound (upper_bound-sound e)
      (weaker (length_found e) (returned-sound (range.Length (expr_span e) e))))))

  second_range-sound : Sound SpellsSecondRange (second_range_at r)
  unfolding second_range_at
  second_range-sound = branch-sound
      (weaker second_found (then-sound (sign-sound sign.Comma) (λ c. then-sound range-sound (λ x. returned-sound (Some x)))))
      (weaker no_second_found (returned-sound None))

  pub dims-sound : Sound SpellsDims (dims_at r)
  unfolding dims_at
  dims-sound = weaker dims_found (then-sound (sign-sound sign.OpenBracket) (λ s. then-sound range-sound (λ x. then-sound second_range-sound (λ y.
      then-sound (sign-sound sign.CloseBracket) (λ c. returned-sound (record { span = s; first = x; second = y }))))))

  pub decl-sound : Sound SpellsDecl (decl_at r)
  unfolding decl_at
  decl-sound = weaker decl_found (then-sound name-sound (λ n. branch-sound
      (weaker (sized_found n) (then-sound dims-sound (λ d. returned-sound (record { span = n.span; name = n; dims = Some d }))))
      (weaker (bare_found n) (returned-sound (record { span = n.span; name = n; dims = None })))))

  pub decls-sound : Sound SpellsDecls (decls_at r)
  unfolding decls_at more_decls_at next_decl_at
  decls-sound = weaker decls_found (then-sound decl-sound (λ d. list-sound (ASign sign.Comma) SpellsDecl SpellsMoreDecls (sign_at sign.Comma) (decl_at r) is_comma
      g.no_more_decls one_more_decl (sign-sound sign.Comma) decl-sound r.steps (d ∷ [])))

-- kinds of invocation

data AfterKind : List InvocationKind → List Token → Type 0 where
  after_kind : {ks : List InvocationKind} {u : List Token} (closing : Token) → SpellsMoreKinds ks u → IsSign sign.CloseBrace closing → AfterKind ks (u ++ closing ∷ [])

more_kinds_found : (ks : List InvocationKind) (u : List Token)
    → Then (ASign sign.Comma) (λ c. Then (IsOne (λ t. invocation_kind_of t.kind)) (λ k. Then (ASign sign.CloseBrace) (λ o. Returns (k ∷ [])))) ks u → AfterKind ks u
more_kinds_found ks u (joined (a_sign t h) (joined {a = k} (is_one s e) (joined (a_sign c i) returns))) =
    let w = kind_word s.kind k e in after_kind c (g.one_more_kind t s w.0 k h w.1 w.2) i

kinds_closed : (ks : List InvocationKind) (u : List Token) → Then (ASign sign.CloseBrace) (λ c. Returns []) ks u → AfterKind ks u
kinds_closed ks u (joined (a_sign c i) returns) = after_kind c g.no_more_kinds i

kinds_found : (ks : List InvocationKind) (u : List Token)
    → Then (ASign sign.OpenBrace) (λ o. Then (IsOne (λ t. invocation_kind_of t.kind)) (λ k. Then AfterKind (λ ls. Returns (k ∷ ls)))) ks u → SpellsKinds ks u
kinds_found ks w (joined (a_sign t h) (joined {a = k} (is_one s e) (joined {a = ls} (after_kind {u = u} c m i) returns))) =
    let x = kind_word s.kind k e in
    ended (λ z. SpellsKinds (k ∷ ls) (t ∷ s ∷ z)) (u ++ c ∷ []) (g.kinds t s c x.0 k h x.1 x.2 m i)

no_kinds_found : (ks : List InvocationKind) (u : List Token) → Returns [] ks u → SpellsKinds ks u
no_kinds_found ks u returns = g.no_kinds

more_kinds-sound : Sound AfterKind more_kinds_at
unfolding more_kinds_at
more_kinds-sound = branch-sound
    (weaker more_kinds_found (then-sound (sign-sound sign.Comma) (λ c. then-sound kind-sound (λ k. then-sound (sign-sound sign.CloseBrace) (λ o. returned-sound (k ∷ []))))))
    (weaker kinds_closed (then-sound (sign-sound sign.CloseBrace) (λ c. returned-sound [])))

pub kinds-sound : Sound SpellsKinds kinds_at
unfolding kinds_at
kinds-sound = branch-sound
    (weaker kinds_found (then-sound (sign-sound sign.OpenBrace) (λ o. then-sound kind-sound (λ k. then-sound more_kinds-sound (λ ks. returned-sound (k ∷ ks))))))
    (weaker no_kinds_found (returned-sound []))

data OwnKinds (x : Option Returned) : List InvocationKind → List Token → Type 0 where
  own_kinds : {ks : List InvocationKind} {u : List Token} → SpellsKinds ks u → BracesBelong x ks → OwnKinds x ks u

own_kinds-sound : (x : Option Returned) → Sound (OwnKinds x) (own_kinds_at x)
unfolding own_kinds_at
own_kinds-sound x = go (returns_open x) refl
  where
    belongs : (y : Option Returned) (ks : List InvocationKind) → returns_open y ≡ false → BracesBelong y ks
    belongs None ks e = g.after_formals
    belongs (Some r) ks e = g.after_type r (closed-type (out-Returned r).ty e)

    none_found : (ks : List InvocationKind) (u : List Token) → Returns [] ks u → OwnKinds x ks u
    none_found ks u returns = own_kinds g.no_kinds g.no_braces

    go : (b : Bool) → returns_open x ≡ b → Sound (OwnKinds x) (if b then returned [] else kinds_at)
    go true e = weaker none_found (returned-sound [])
    go false e = weaker (λ ks u d. own_kinds d (belongs x ks e)) kinds-sound

-- formals

data AMode : Option (Span × PassMode) → List Token → Type 0 where
  no_mode : AMode None []
  a_mode : (t : Token) (m : PassMode) → mode_of t.kind ≡ Some m → AMode (Some (t.span, m)) (t ∷ [])

mode_found : (m : Option (Span × PassMode)) (u : List Token) → Then (Spanned (λ t. mode_of t.kind)) (λ x. Returns (Some x)) m u → AMode m u
mode_found m u (joined (spanned t x h) returns) = a_mode t x h

no_mode_found : (m : Option (Span × PassMode)) (u : List Token) → Returns None m u → AMode m u
no_mode_found m u returns = no_mode

mode-sound : Sound AMode mode_at
unfolding mode_at
mode-sound = branch-sound
    (weaker mode_found (then-sound mode_word-sound (λ m. returned-sound (Some m))))
    (weaker no_mode_found (returned-sound None))

abbrev pub formal_of : Option (Span × PassMode) → List Decl → TypeTree → Formal
formal_of m ds t = roll-Formal (record { span = formal_start m ds; mode = option_map (λ x. x.1) m; decls = ds; ty = t })

pub decls_start : (ds : List Decl) (v : List Token) → SpellsDecls ds v → formal_span v ≡ formal_start None ds
decls_start ds v (g.decls (g.bare n h) m) = refl
decls_start ds v (g.decls (g.sized n h d) m) = refl

pub mode-of-formal : (s : Span) (m : Option PassMode) (ds : List Decl) (t : TypeTree) → (out-Formal (roll-Formal (record { span = s; mode = m; decls = ds; ty = t }))).mode ≡ m
unfolding denote.Hole.Carrier.out denote.Hole.Carrier.roll
mode-of-formal s m ds t = refl

abbrev pub returned_of : Span → Decl → TypeTree → Returned
returned_of s d t = roll-Returned (record { span = s; decl = d; ty = t })

abbrev pub signature_of : Span → List Formal → Option Returned → List InvocationKind → Signature
signature_of s fs x ks = roll-Signature (record { span = s; formals = fs; returned = x; kinds = ks })

-- what stands after the first tokens of formals and types

data AfterMode (p : TypePlace) (m : Option (Span × PassMode)) : Formal → List Token → Type 0 where
  after_mode : {ds : List Decl} {t : TypeTree} {v w : List Token} (colon : Token) → SpellsDecls ds v → IsSign sign.Colon colon → SpellsTypeIn p t w
      → AfterMode p m (formal_of m ds t) (v ++ colon ∷ w)

data AfterOpening (p : TypePlace) : List Formal → List Token → Type 0 where
  no_formals : (closing : Token) → IsSign sign.CloseParen closing → AfterOpening p [] (closing ∷ [])
  some_formals : {f : Formal} {fs : List Formal} {u v : List Token} (closing : Token) → SpellsFormalIn p f u → SpellsMoreFormalsIn p fs v → IsSign sign.CloseParen closing
      → AfterOpening p (f ∷ fs) (u ++ (v ++ closing ∷ []))

data AfterString (p : TypePlace) (s : Span) : TypeTree → List Token → Type 0 where
  after_string : {u : List Token} (l : Option Expr) → ((t o : Token) → t.span ≡ s → IsWord word.String t → IsSign sign.OpenBracket o → SpellsPlainTypeIn p (ty.Str s l) (t ∷ o ∷ u))
      → AfterString p s (ty.Str s l) u

data AfterCap (p : TypePlace) (s : Span) : TypeTree → List Token → Type 0 where
  cap_machine : (vm : Token) → IsWord word.Vm vm → AfterCap p s (ty.CapMachine s) (vm ∷ [])
  cap_operation : {x : Signature} {u : List Token} → SpellsSignatureIn p x u → AfterCap p s (ty.CapOperation s x) u
  cap_of : {q : QualifiedName} {u : List Token} → SpellsQualifiedName q u → AfterCap p s (ty.CapOf s q) u

module _ {p : TypePlace} where
  after_mode_found : (m : Option (Span × PassMode)) (f : Formal) (u : List Token)
      → Then SpellsDecls (λ ds. Then (ASign sign.Colon) (λ c. Then (SpellsTypeIn p) (λ t. Returns (formal_of m ds t)))) f u → AfterMode p m f u
  after_mode_found m f w (joined {a = ds} {u = u} d (joined (a_sign c h) (joined {a = t} {u = v} x end))) =
      into (λ y z. AfterMode p m y (u ++ c ∷ (v ++ z))) (formal_of m ds t) f _ end
      (ended (λ z. AfterMode p m (formal_of m ds t) (u ++ c ∷ z)) v (after_mode c d h x))

  without_mode : (f : Formal) (u : List Token) → AfterMode p None f u → SpellsFormalIn p f u
  without_mode f w (after_mode {ds = ds} {t = t} {v = v} {w = x} c d h y) =
      subst (λ s. SpellsFormalIn p (roll-Formal (record { span = s; mode = None; decls = ds; ty = t })) (v ++ c ∷ x)) (decls_start ds v d)
      (g.formal c g.no_mode d h y)

  formal_found : (f : Formal) (u : List Token) → Then AMode (AfterMode p) f u → SpellsFormalIn p f u
  formal_found f u (joined no_mode d) = without_mode f _ d
  formal_found f u (joined (a_mode t m h) (after_mode c d i y)) = let w = mode_word t.kind m h in g.formal c (g.mode t w.0 m w.1 w.2) d i y

  field_found : (f : Formal) (u : List Token) → AfterMode p None f u → SpellsFieldIn p f u
  field_found f u (after_mode {ds = ds} {t = t} c d h y) = g.field (without_mode _ _ (after_mode c d h y)) (mode-of-formal (formal_start None ds) None ds t)

  one_more_formal : (f : Formal) (fs : List Formal) (u v : List Token) → Then ASeparator (λ s. SpellsFormalIn p) f u → SpellsMoreFormalsIn p fs v → SpellsMoreFormalsIn p (f ∷ fs) (u ++ v)
  one_more_formal f fs u v (joined (a_separator t h) d) more = g.one_more_formal t h d more

  one_more_field : (f : Formal) (fs : List Formal) (u v : List Token) → Then ASeparator (λ s. SpellsFieldIn p) f u → SpellsMoreFieldsIn p fs v → SpellsMoreFieldsIn p (f ∷ fs) (u ++ v)
  one_more_field f fs u v (joined (a_separator t h) d) more = g.one_more_field t h d more

  formals_closed : (fs : List Formal) (u : List Token) → Then (ASign sign.CloseParen) (λ c. Returns []) fs u → AfterOpening p fs u
  formals_closed fs u (joined (a_sign t h) returns) = no_formals t h

  formals_after : (fs : List Formal) (u : List Token)
      → Then (SpellsFormalIn p) (λ f. Then (Grows (SpellsMoreFormalsIn p) (f ∷ [])) (λ gs. Then (ASign sign.CloseParen) (λ c. Returns gs))) fs u → AfterOpening p fs u
  formals_after fs u (joined d (joined (grows m) (joined (a_sign t h) returns))) = some_formals t d m h

  opened : (o : Token) → IsSign sign.OpenParen o → (fs : List Formal) (u : List Token) → AfterOpening p fs u → SpellsFormalsIn p fs (o ∷ u)
  opened o h fs u (no_formals c i) = g.no_formals o c h i
  opened o h fs u (some_formals c d m i) = g.formals o c h d m i

  formals_found : (fs : List Formal) (u : List Token) → Then (ASign sign.OpenParen) (λ o. AfterOpening p) fs u → SpellsFormalsIn p fs u
  formals_found fs u (joined (a_sign t h) d) = opened t h fs _ d

  -- what is returned, and signatures

  returns_found : (x : Option Returned) (u : List Token)
      → Then (AWord word.Returns) (λ s. Then SpellsDecl (λ d. Then (ASign sign.Colon) (λ c. Then (SpellsTypeIn p) (λ t. Returns (Some (returned_of s d t)))))) x u → SpellsReturnedIn p x u
  returns_found x w (joined (a_word t h) (joined {a = d} {u = u} y (joined (a_sign c i) (joined {a = e} {u = v} z end)))) =
      into (λ n m. SpellsReturnedIn p n (t ∷ (u ++ c ∷ (v ++ m)))) (Some (returned_of t.span d e)) x _ end
      (ended (λ m. SpellsReturnedIn p (Some (returned_of t.span d e)) (t ∷ (u ++ c ∷ m))) v (g.returned t c h y i z))

  returns_nothing : (x : Option Returned) (u : List Token) → Returns None x u → SpellsReturnedIn p x u
  returns_nothing x u returns = g.returns_nothing

  signature_found : (s : Signature) (u : List Token)
      → Then (ASign sign.OpenParen) (λ o. Then (AfterOpening p) (λ fs. Then (SpellsReturnedIn p) (λ x. Then (OwnKinds x) (λ ks. Returns (signature_of o fs x ks))))) s u → SpellsSignatureIn p s u
  signature_found s w (joined (a_sign t h) (joined {a = fs} {u = u} d (joined {a = x} {u = v} y (joined {a = ks} (own_kinds {u = k} z b) end)))) =
      into (λ n m. SpellsSignatureIn p n (t ∷ (u ++ (v ++ (k ++ m))))) (signature_of t.span fs x ks) s _ end
      (ended (λ m. SpellsSignatureIn p (signature_of t.span fs x ks) (t ∷ (u ++ (v ++ m)))) k (g.signature (opened t h fs u d) y z b))

  -- types

  any_string_found : (s : Span) (x : TypeTree) (u : List Token)
      → Then (ASign sign.Star) (λ k. Then (ASign sign.CloseBracket) (λ c. Returns (ty.Str s None))) x u → AfterString p s x u
  any_string_found s x w (joined (a_sign k h) (joined (a_sign c i) end)) =
      into (λ y z. AfterString p s y (k ∷ c ∷ z)) (ty.Str s None) x _ end
      (after_string None (λ t o e j l. subst (λ y. SpellsPlainTypeIn p (ty.Str y None) (t ∷ o ∷ k ∷ c ∷ [])) e (g.string_of_any_length t o k c j l h i)))

  string_found : (s : Span) (x : TypeTree) (u : List Token)
      → Then (SpellsExpr 5) (λ e. Then (ASign sign.CloseBracket) (λ c. Returns (ty.Str s (Some e)))) x u → AfterString p s x u
  string_found s x w (joined {a = f} {u = u} d (joined (a_sign c i) end)) =
      into (λ y z. AfterString p s y (u ++ c ∷ z)) (ty.Str s (Some f)) x _ end
      (after_string (Some f) (λ t o e j l. subst (λ y. SpellsPlainTypeIn p (ty.Str y (Some f)) (t ∷ o ∷ (u ++ c ∷ []))) e (g.string t o c j l d i)))

  strings_found : (x : TypeTree) (u : List Token) → Then (AWord word.String) (λ s. Then (ASign sign.OpenBracket) (λ o. AfterString p s)) x u → SpellsPlainTypeIn p x u
  strings_found x u (joined (a_word t h) (joined (a_sign o i) (after_string l f))) = f t o refl h i

  machine_found : (s : Span) (x : TypeTree) (u : List Token) → Then (AWord word.Vm) (λ v. Returns (ty.CapMachine s)) x u → AfterCap p s x u
  machine_found s x u (joined (a_word v h) end) = into (λ y z. AfterCap p s y (v ∷ z)) (ty.CapMachine s) x _ end (cap_machine v h)

  operation_found : (s : Span) (x : TypeTree) (u : List Token) → Then (SpellsSignatureIn p) (λ y. Returns (ty.CapOperation s y)) x u → AfterCap p s x u
  operation_found s x w (joined {a = n} {u = u} d end) =
      into (λ y z. AfterCap p s y (u ++ z)) (ty.CapOperation s n) x _ end (ended (AfterCap p s (ty.CapOperation s n)) u (cap_operation d))

  cap_of_found : (s : Span) (x : TypeTree) (u : List Token) → Then SpellsQualifiedName (λ q. Returns (ty.CapOf s q)) x u → AfterCap p s x u
  cap_of_found s x w (joined {a = q} {u = u} d end) = into (λ y z. AfterCap p s y (u ++ z)) (ty.CapOf s q) x _ end (ended (AfterCap p s (ty.CapOf s q)) u (cap_of d))

  cap_found : (x : TypeTree) (u : List Token) → Then (AWord word.Cap) (AfterCap p) x u → SpellsPlainTypeIn p x u
  cap_found x u (joined (a_word t h) (cap_machine v i)) = g.cap_machine t v h i
  cap_found x u (joined (a_word t h) (cap_operation d)) = g.cap_operation t h d
  cap_found x u (joined (a_word t h) (cap_of d)) = g.cap_of t h d

  array_found : (x : TypeTree) (u : List Token) → Then SpellsDims (λ d. Then (SpellsTypeIn p) (λ t. Returns (ty.Array d.span d t))) x u → SpellsPlainTypeIn p x u
  array_found x w (joined {a = d} {u = u} y (joined {a = t} {u = v} z end)) =
      into (λ n m. SpellsPlainTypeIn p n (u ++ (v ++ m))) (ty.Array d.span d t) x _ end (ended (λ m. SpellsPlainTypeIn p (ty.Array d.span d t) (u ++ m)) v (g.array y z))

  named_found : (x : TypeTree) (u : List Token) → Then SpellsQualifiedName (λ q. Returns (ty.Named q.span q)) x u → SpellsPlainTypeIn p x u
  named_found x w (joined {a = q} {u = u} d end) =
      into (λ y z. SpellsPlainTypeIn p y (u ++ z)) (ty.Named q.span q) x _ end (ended (SpellsPlainTypeIn p (ty.Named q.span q)) u (g.named d))

  enum_found : MayDeclare p → (x : TypeTree) (u : List Token)
      → Then (AWord word.Enum) (λ s. Then (ASign sign.OpenParen) (λ o. Then SpellsNames (λ ns. Then (ASign sign.CloseParen) (λ c. Returns (ty.Enum s ns))))) x u → SpellsTypeIn p x u
  enum_found may x w (joined (a_word t h) (joined (a_sign o i) (joined {a = ns} {u = u} d (joined (a_sign c j) end)))) =
      into (λ y z. SpellsTypeIn p y (t ∷ o ∷ (u ++ c ∷ z))) (ty.Enum t.span ns) x _ end (g.enum t o c may h i d j)

  record_found : MayDeclare p → (x : TypeTree) (u : List Token)
      → Then (AWord word.Rec) (λ s. Then (ASign sign.OpenParen) (λ o. Then (SpellsFieldIn p) (λ f. Then (Grows (SpellsMoreFieldsIn p) (f ∷ []))
      (λ fs. Then (ASign sign.CloseParen) (λ c. Returns (ty.Rec s fs)))))) x u → SpellsTypeIn p x u
  record_found may x w (joined (a_word t h) (joined (a_sign o i) (joined {a = f} {u = u} d (joined {u = v} (grows {bs = fs} m) (joined (a_sign c j) end))))) =
      into (λ y z. SpellsTypeIn p y (t ∷ o ∷ (u ++ (v ++ c ∷ z)))) (ty.Rec t.span (f ∷ fs)) x _ end (g.record_of t o c may h i d m j)

  module _ (r : TypeReaders) (l : SoundTypeReaders r) where
    nested-sound-in : Sound (SpellsTypeIn p) (nested_in p r)
    nested-sound-in = of_place p
      where
        of_place : (q : TypePlace) → Sound (SpellsTypeIn q) (nested_in q r)
        of_place Declaration = l.declared
        of_place Elsewhere = l.nested

    formal_after-sound : (m : Option (Span × PassMode)) → Sound (AfterMode p m) (formal_after_at (within p r) m)
    unfolding formal_after_at
    formal_after-sound m = weaker (after_mode_found m) (then-sound (decls-sound r.expressions l.expressions) (λ ds. then-sound (sign-sound sign.Colon)
        (λ c. then-sound nested-sound-in (λ t. returned-sound (formal_of m ds t)))))

    pub formal-sound : Sound (SpellsFormalIn p) (formal_at (within p r))
    unfolding formal_at
    formal-sound = weaker formal_found (then-sound mode-sound formal_after-sound)

    formals_after-sound : Sound (AfterOpening p) (formals_after_at (within p r))
    unfolding formals_after_at more_formals_at next_formal_at
    formals_after-sound = branch-sound
        (weaker formals_closed (then-sound (sign-sound sign.CloseParen) (λ c. returned-sound [])))
        (weaker formals_after (then-sound formal-sound (λ f. then-sound
        (list-sound ASeparator (SpellsFormalIn p) (SpellsMoreFormalsIn p) separator_at (formal_at (within p r)) is_separated g.no_more_formals one_more_formal separator-sound formal-sound r.expressions.steps (f ∷ []))
        (λ fs. then-sound (sign-sound sign.CloseParen) (λ c. returned-sound fs)))))

    pub formals-sound : Sound (SpellsFormalsIn p) (formals_at (within p r))
    unfolding formals_at
    formals-sound = weaker formals_found (then-sound (sign-sound sign.OpenParen) (λ o. formals_after-sound))

    pub returns-sound : Sound (SpellsReturnedIn p) (returned_at (within p r))
    unfolding returned_at
    returns-sound = branch-sound
        (weaker returns_found (then-sound (word-sound word.Returns) (λ s. then-sound (decl-sound r.expressions l.expressions) (λ d. then-sound (sign-sound sign.Colon)
        (λ c. then-sound nested-sound-in (λ t. returned-sound (Some (returned_of s d t))))))))
        (weaker returns_nothing (returned-sound None))

    pub signature-sound : Sound (SpellsSignatureIn p) (signature_at (within p r))
    unfolding signature_at
    signature-sound = weaker signature_found (then-sound (sign-sound sign.OpenParen) (λ o. then-sound formals_after-sound (λ fs. then-sound returns-sound (λ x.
        then-sound (own_kinds-sound x) (λ ks. returned-sound (signature_of o fs x ks))))))

    string-sound : Sound (SpellsPlainTypeIn p) (string_at r.expressions)
    unfolding string_at
    string-sound = weaker strings_found (then-sound (word-sound word.String) (λ s. then-sound (sign-sound sign.OpenBracket) (λ o. branch-sound
        (weaker (any_string_found s) (then-sound (sign-sound sign.Star) (λ k. then-sound (sign-sound sign.CloseBracket) (λ c. returned-sound (ty.Str s None)))))
        (weaker (string_found s) (then-sound (l.expressions.operand 5) (λ e. then-sound (sign-sound sign.CloseBracket) (λ c. returned-sound (ty.Str s (Some e)))))))))

    cap-sound : Sound (SpellsPlainTypeIn p) (cap_at (within p r))
    unfolding cap_at
    cap-sound = weaker cap_found (then-sound (word-sound word.Cap) (λ s. branch-sound
        (weaker (machine_found s) (then-sound (word-sound word.Vm) (λ v. returned-sound (ty.CapMachine s))))
        (branch-sound (weaker (operation_found s) (then-sound signature-sound (λ y. returned-sound (ty.CapOperation s y))))
        (weaker (cap_of_found s) (then-sound qualified-sound (λ q. returned-sound (ty.CapOf s q)))))))

    array_type-sound : Sound (SpellsPlainTypeIn p) (array_type_at (within p r))
    unfolding array_type_at
    array_type-sound = weaker array_found (then-sound (dims-sound r.expressions l.expressions) (λ d. then-sound nested-sound-in (λ t. returned-sound (ty.Array d.span d t))))

    pub plain-type-sound : Sound (SpellsPlainTypeIn p) (plain_type_at (within p r))
    unfolding plain_type_at
    plain-type-sound = branch-sound basic_type-sound (branch-sound string-sound (branch-sound cap-sound (branch-sound array_type-sound
        (weaker named_found (then-sound qualified-sound (λ q. returned-sound (ty.Named q.span q)))))))

    enum-sound : MayDeclare p → Sound (SpellsTypeIn p) (enum_at r.expressions)
    unfolding enum_at
    enum-sound may = weaker (enum_found may) (then-sound (word-sound word.Enum) (λ s. then-sound (sign-sound sign.OpenParen) (λ o. then-sound (names-sound r.expressions) (λ ns.
        then-sound (sign-sound sign.CloseParen) (λ c. returned-sound (ty.Enum s ns))))))

    record_type-sound : MayDeclare p → Sound (SpellsTypeIn p) (record_type_at (within p r))
    unfolding record_type_at more_fields_at next_field_at
    record_type-sound may = weaker (record_found may) (then-sound (word-sound word.Rec) (λ s. then-sound (sign-sound sign.OpenParen) (λ o. then-sound (weaker field_found (formal_after-sound None))
        (λ f. then-sound
        (list-sound ASeparator (SpellsFieldIn p) (SpellsMoreFieldsIn p) separator_at (formal_after_at (within p r) None) is_separated g.no_more_fields one_more_field separator-sound
        (weaker field_found (formal_after-sound None)) r.expressions.steps (f ∷ []))
        (λ fs. then-sound (sign-sound sign.CloseParen) (λ c. returned-sound (ty.Rec s fs)))))))

module _ (r : TypeReaders) (l : SoundTypeReaders r) where
  pub type-sound : Sound SpellsType (type_at r)
  unfolding type_at
  type-sound = branch-sound (enum-sound {p = Declaration} r l tt) (branch-sound (record_type-sound {p = Declaration} r l tt)
      (weaker (λ t u d. g.plain d) (plain-type-sound {p = Declaration} r l)))

-- so are the readers of every bound
pub type_readers-sound : (k : ℕ) → SoundTypeReaders (type_readers k)
unfolding nested
type_readers-sound zero = record {
  expressions = readers-sound zero;
  nested = unfit-sound (SpellsTypeIn Elsewhere);
  declared = unfit-sound (SpellsTypeIn Declaration);
}
type_readers-sound (suc k) = record {
  expressions = readers-sound (suc k);
  nested = weaker (λ t u d. g.plain d) (plain-type-sound {p = Elsewhere} (type_readers k) (type_readers-sound k));
  declared = type-sound (type_readers k) (type_readers-sound k);
}

-- What the readers of parts of statements read is spelled so, and depends on one token after it alone.
use Rattle.std.proofs.Common.{◌≡◌, refl, subst, Bool, true, false, List, [], ◌∷◌, ◌++◌, Option, Some, None, append_assoc}
use Rattle.std.specs.Prelude.{is_some}
use Rattle.sr_reader.specs.Reader.{next_is}
use Rattle.sr_reader.proofs.Soundness.{Sound, anywhere, Then, joined, Returns, returns, IsOne, is_one, one-sound, returned-sound, unfit-sound, weaker, weaker-where, where-first, then-sound, branch-sound, branch-where, ended, into}
use Rattle.sr_value.specs.declared.place.Span.{Span}
use Rattle.sr_tree.specs.declared.expr.Expr.{Expr}
use Rattle.sr_tree.specs.declared.expr.Expr.TheVariants as expr
use Rattle.sr_tree.specs.declared.expr.Invocation.{Invocation}
use Rattle.sr_tree.specs.declared.name.Name.{Name}
use Rattle.sr_tree.specs.declared.statement.ArmCondition.{ArmCondition}
use Rattle.sr_tree.specs.declared.statement.ConditionWord.{ConditionWord}
use Rattle.sr_tree.specs.declared.statement.Direction.{Direction}
use Rattle.sr_tree.specs.declared.statement.Quantifier.{Quantifier}
use Rattle.sr_tree.specs.declared.token.Sign.TheVariants as sign
use Rattle.sr_tree.specs.declared.token.Token.{Token}
use Rattle.sr_tree.specs.declared.token.TokenKind.{TokenKind}
use Rattle.sr_tree.specs.declared.token.TokenKind.TheVariants as kind
use Rattle.sr_tree.specs.declared.token.Word.{Word}
use Rattle.sr_tree.specs.declared.token.Word.TheVariants as word
use Rattle.sr_tree.specs.Expressions.{SpellsExpr, SpellsPrimary}
use Rattle.sr_tree.specs.Statements as s
use Rattle.sr_tree.specs.Statements.{SpellsNamed, SpellsInvocation, SpellsStatus, SpellsMorePlaces, SpellsPlaces, SpellsBy, SpellsSuchThat, SpellsQuantifier, SpellsMoreQuantifiers, SpellsQuantifiers, SpellsOptionalNames, SpellsReturnedName, SpellsCondition, SpellsOptionalQuantifiers, SpellsCoStart, direction_of, condition_word_of}
use Rattle.sr_tree.specs.Tables.{IsSign, IsWord, name_of}
use Rattle.sr_tree.specs.Tests.{is_name}
use Rattle.sr_tree.specs.Types.{SpellsNames}
use Rattle.sr_expr_reader.specs.Readers.{Readers, is_comma, primary_at}
use Rattle.sr_tree.specs.Tokens.{sign_at}
use Rattle.sr_expr_reader.proofs.ExpressionsSound.{SoundReaders, primary-sound, operand-sound}
use Rattle.sr_expr_reader.proofs.ListsSound.{Grows, grows, list-sound}
use Rattle.sr_expr_reader.proofs.TokensSound.{ASign, a_sign, AWord, a_word, AName, a_name, Spanned, spanned, spanned_from, sign-sound, word-sound, name-sound, kind_of_name, none_some}
use Rattle.sr_expr_reader.proofs.TypesSound.{names-sound}
use Rattle.sr_program_reader.specs.StatementReaders.{token_direction, direction_at, token_condition, condition_word_at, named_at, invocation_of, invoked_at, invocation_at, status_at, next_place_at, more_places_at, places_at, by_at, such_that_at, quantifier_at, next_quantifier_at, more_quantifiers_at, quantifiers_at, enclosed_quantifiers_at, optional_quantifiers_at, optional_names_at, enclosed_names_at, returned_name_at, condition_at, co_start_at}
use Rattle.sr_program_reader.proofs.StatementStarts.{primary-some, call-only}

-- ---- single tokens

data ADirection : Direction → List Token → Type 0 where
  a_direction : (t : Token) (w : Word) (d : Direction) → IsWord w t → direction_of w ≡ Some d → ADirection d (t ∷ [])

direction-sound : Sound ADirection direction_at
unfolding direction_at
direction-sound = weaker found (one-sound _)
  where
    by_kind : (t : Token) (d : Direction) (k : TokenKind) → t.kind ≡ k → token_direction k ≡ Some d → ADirection d (t ∷ [])
    by_kind t d (kind.Word w) h e = a_direction t w d h e
    by_kind t d _ h e = absurd (none_some d e)

    found : (d : Direction) (u : List Token) → IsOne (λ t. token_direction t.kind) d u → ADirection d u
    found d u (is_one t e) = by_kind t d t.kind refl e

condition_word-sound : Sound (Spanned (λ t. token_condition t.kind)) condition_word_at
unfolding condition_word_at
condition_word-sound = weaker (spanned_from (λ t. token_condition t.kind)) (one-sound _)

-- ---- names

some_found : (ns : List Name) (u : List Token) → SpellsNames ns u → SpellsOptionalNames ns u
some_found ns u d = s.some_names d

none_found : (ns : List Name) (u : List Token) → Returns [] ns u → SpellsOptionalNames ns u
none_found ns u returns = s.no_names

pub optional-names-sound : (r : Readers) → Sound SpellsOptionalNames (optional_names_at r)
unfolding optional_names_at
optional-names-sound r = branch-sound (weaker some_found (names-sound r)) (weaker none_found (returned-sound []))

pub data EnclosedNames : List Name → List Token → Type 0 where
  enclosed_names : {ns : List Name} {u : List Token} (opening closing : Token) → IsSign sign.OpenParen opening → SpellsOptionalNames ns u
      → IsSign sign.CloseParen closing → EnclosedNames ns (opening ∷ (u ++ closing ∷ []))

names_enclosed : (ns : List Name) (u : List Token)
    → Then (ASign sign.OpenParen) (λ o. Then SpellsOptionalNames (λ ms. Then (ASign sign.CloseParen) (λ c. Returns ms))) ns u → EnclosedNames ns u
names_enclosed ns u (joined (a_sign o h) (joined d (joined (a_sign c i) returns))) = enclosed_names o c h d i

pub enclosed-names-sound : (r : Readers) → Sound EnclosedNames (enclosed_names_at r)
unfolding enclosed_names_at
enclosed-names-sound r = weaker names_enclosed
    (then-sound (sign-sound sign.OpenParen) (λ o. then-sound (optional-names-sound r) (λ ns. then-sound (sign-sound sign.CloseParen) (λ c. returned-sound ns))))

returned_found : (m : Option Name) (u : List Token) → Then (AWord word.Returns) (λ w. Then AName (λ n. Returns (Some n))) m u → SpellsReturnedName m u
returned_found m u (joined (a_word t h) (joined (a_name n i) returns)) = s.returned_name t n h i

nothing_returned : (m : Option Name) (u : List Token) → Returns None m u → SpellsReturnedName m u
nothing_returned m u returns = s.no_returned_name

pub returned-name-sound : Sound SpellsReturnedName returned_name_at
unfolding returned_name_at
returned-name-sound = branch-sound
    (weaker returned_found (then-sound (word-sound word.Returns) (λ w. then-sound name-sound (λ n. returned-sound (Some n)))))
    (weaker nothing_returned (returned-sound None))

-- ---- invocations

pub data Invoked (m : Option Invocation) : Invocation → List Token → Type 0 where
  invoked : (i : Invocation) → m ≡ Some i → Invoked m i []

pub invoked-sound : (m : Option Invocation) → Sound (Invoked m) (invoked_at m)
unfolding invoked_at
invoked-sound None = unfit-sound (Invoked None)
invoked-sound (Some i) = weaker found (returned-sound i)
  where
    found : (j : Invocation) (u : List Token) → Returns i j u → Invoked (Some i) j u
    found j u returns = invoked i refl

-- a primary that was read, as an invocation
pub invoked-primary : {e : Expr} {u : List Token} → SpellsPrimary e u → (i : Invocation) → invocation_of e ≡ Some i → SpellsPrimary (expr.Call i) u
invoked-primary {u = u} d i f = subst (λ x. SpellsPrimary x u) (call-only d i f) d

pub invoked-start : {quantified : Bool} {e : Expr} {u : List Token} → SpellsCoStart quantified e u → (i : Invocation) → invocation_of e ≡ Some i
    → SpellsCoStart quantified (expr.Call i) u
invoked-start (s.begins_arm (s.named n h d)) i f = s.begins_arm (s.named n h (invoked-primary d i f))
invoked-start (s.after_quantifiers d) i f = s.after_quantifiers (invoked-primary d i f)

-- a primary whose first token was a name
pub named-found : (e : Expr) (u : List Token) → (SpellsPrimary e u × (next_is (λ t. is_name t.kind) u ≡ true)) → SpellsNamed e u
named-found e [] (d, h) = absurd (primary-some e d)
named-found e (t ∷ u) (d, h) = s.named t (kind_of_name t.kind h) d

-- what stands in lists

next_place : (a : Expr) (bs : List Expr) (u v : List Token) → Then (ASign sign.Comma) (λ c. SpellsPrimary) a u → SpellsMorePlaces bs v → SpellsMorePlaces (a ∷ bs) (u ++ v)
next_place a bs u v (joined (a_sign t h) d) m = s.one_more_place t h d m

next_quantifier : (a : Quantifier) (bs : List Quantifier) (u v : List Token) → Then (ASign sign.Comma) (λ c. SpellsQuantifier) a u → SpellsMoreQuantifiers bs v
    → SpellsMoreQuantifiers (a ∷ bs) (u ++ v)
next_quantifier a bs u v (joined (a_sign t h) d) m = s.one_more_quantifier t h d m

pub data EnclosedPlaces : List Expr → List Token → Type 0 where
  enclosed_places : {es : List Expr} {u : List Token} (opening closing : Token) → IsSign sign.OpenParen opening → SpellsPlaces es u
      → IsSign sign.CloseParen closing → EnclosedPlaces es (opening ∷ (u ++ closing ∷ []))

data AfterOpening : List Expr → List Token → Type 0 where
  after_opening : {es : List Expr} {u : List Token} (closing : Token) → SpellsPlaces es u → IsSign sign.CloseParen closing
      → AfterOpening es (u ++ closing ∷ [])

no_places_found : (es : List Expr) (u : List Token) → Then (ASign sign.CloseParen) (λ c. Returns []) es u → AfterOpening es u
no_places_found es u (joined (a_sign c h) returns) = after_opening c s.no_places h

places_found : (es : List Expr) (u : List Token)
    → Then SpellsPrimary (λ e. Then (Grows SpellsMorePlaces (e ∷ [])) (λ fs. Then (ASign sign.CloseParen) (λ c. Returns fs))) es u → AfterOpening es u
places_found es w (joined {a = e} {u = u} d (joined {u = v} (grows {bs = bs} m) (joined (a_sign c h) returns))) =
    subst (AfterOpening (e ∷ bs)) (append_assoc u v (c ∷ [])) (after_opening c (s.places d m) h)

places_enclosed : (es : List Expr) (u : List Token) → Then (ASign sign.OpenParen) (λ o. AfterOpening) es u → EnclosedPlaces es u
places_enclosed es u (joined (a_sign o h) (after_opening c d i)) = enclosed_places o c h d i

pub data EnclosedQuantifiers : Span × List Quantifier → List Token → Type 0 where
  enclosed_quantifiers : {qs : List Quantifier} {u : List Token} (opening closing : Token) → IsSign sign.OpenParen opening → SpellsQuantifiers qs u
      → IsSign sign.CloseParen closing → EnclosedQuantifiers (opening.span, qs) (opening ∷ (u ++ closing ∷ []))

abbrev condition_of : Span × ConditionWord → Expr → ArmCondition
condition_of c e = record { span = c.0; word = c.1; condition = e }

on_words : (k : TokenKind) (c : ConditionWord) → token_condition k ≡ Some c → (w : Word) × (k ≡ kind.Word w) × (condition_word_of w ≡ Some c)
on_words (kind.Word w) c e = (w, refl, e)
on_words _ c e = absurd (none_some c e)

abbrev pub quantifier_of : Name → Expr → Direction → Expr → Option Expr → Option Expr → Quantifier
quantifier_of n first direction last step such_that =
    record { span = n.span; name = n; first = first; direction = direction; last = last; step = step; such_that = such_that }

module _ (r : Readers) (l : SoundReaders r) where
  -- primaries

  named-sound : Sound SpellsNamed (named_at r)
  unfolding named_at
  named-sound = branch-where
      (weaker-where named-found (where-first (λ t. is_name t.kind) SpellsPrimary (primary_at r) primary-some (anywhere (λ t. is_name t.kind) (primary-sound r l))))
      (unfit-sound SpellsNamed)

  began : (e : Expr) (u : List Token) → SpellsNamed e u → SpellsCoStart false e u
  began e u d = s.begins_arm d

  stood_after : (e : Expr) (u : List Token) → SpellsPrimary e u → SpellsCoStart true e u
  stood_after e u d = s.after_quantifiers d

  pub start-sound : (start : Option Span) → Sound (SpellsCoStart (is_some start)) (co_start_at start r)
  unfolding co_start_at
  start-sound None = weaker began named-sound
  start-sound (Some before) = weaker stood_after (primary-sound r l)

  invocation_found : (i : Invocation) (u : List Token) → Then SpellsPrimary (λ e. Invoked (invocation_of e)) i u → SpellsInvocation i u
  invocation_found i w (joined {u = u} d (invoked j h)) = ended (SpellsInvocation j) u (s.invocation (invoked-primary d j h))

  pub invocation-sound : Sound SpellsInvocation (invocation_at r)
  unfolding invocation_at
  invocation-sound = weaker invocation_found (then-sound (primary-sound r l) (λ e. invoked-sound (invocation_of e)))

  status_found : (m : Option Expr) (u : List Token)
      → Then (ASign sign.OpenParen) (λ o. Then (SpellsExpr 5) (λ e. Then (ASign sign.CloseParen) (λ c. Returns (Some e)))) m u → SpellsStatus m u
  status_found m w (joined (a_sign o h) (joined {a = e} {u = u} d (joined (a_sign c i) end))) =
      into (λ y z. SpellsStatus y (o ∷ (u ++ c ∷ z))) (Some e) m _ end (s.status o c h d i)

  no_status_found : (m : Option Expr) (u : List Token) → Returns None m u → SpellsStatus m u
  no_status_found m u returns = s.no_status

  pub status-sound : Sound SpellsStatus (status_at r)
  unfolding status_at
  status-sound = branch-sound
      (weaker status_found (then-sound (sign-sound sign.OpenParen) (λ o. then-sound (operand-sound r l 5) (λ e. then-sound (sign-sound sign.CloseParen) (λ c. returned-sound (Some e))))))
      (weaker no_status_found (returned-sound None))

  more_places-sound : (es : List Expr) → Sound (Grows SpellsMorePlaces es) (more_places_at r es)
  unfolding more_places_at next_place_at
  more_places-sound es = list-sound (ASign sign.Comma) SpellsPrimary SpellsMorePlaces (sign_at sign.Comma) (primary_at r) is_comma
      s.no_more_places next_place (sign-sound sign.Comma) (primary-sound r l) r.steps es

  pub places-sound : Sound EnclosedPlaces (places_at r)
  unfolding places_at
  places-sound = weaker places_enclosed (then-sound (sign-sound sign.OpenParen) (λ o. branch-sound
      (weaker no_places_found (then-sound (sign-sound sign.CloseParen) (λ c. returned-sound [])))
      (weaker places_found (then-sound (primary-sound r l) (λ e. then-sound (more_places-sound (e ∷ [])) (λ es.
      then-sound (sign-sound sign.CloseParen) (λ c. returned-sound es)))))))

  -- quantifiers

  by_found : (m : Option Expr) (u : List Token) → Then (AWord word.By) (λ w. Then (SpellsExpr 5) (λ e. Returns (Some e))) m u → SpellsBy m u
  by_found m w (joined (a_word t h) (joined {a = e} {u = u} d end)) =
      into (λ y z. SpellsBy y (t ∷ (u ++ z))) (Some e) m _ end (ended (λ x. SpellsBy (Some e) (t ∷ x)) u (s.by t h d))

  no_by_found : (m : Option Expr) (u : List Token) → Returns None m u → SpellsBy m u
  no_by_found m u returns = s.no_by

  pub by-sound : Sound SpellsBy (by_at r)
  unfolding by_at
  by-sound = branch-sound
      (weaker by_found (then-sound (word-sound word.By) (λ w. then-sound (operand-sound r l 5) (λ e. returned-sound (Some e)))))
      (weaker no_by_found (returned-sound None))

  such_that_found : (m : Option Expr) (u : List Token) → Then (AWord word.St) (λ w. Then (SpellsExpr 5) (λ e. Returns (Some e))) m u → SpellsSuchThat m u
  such_that_found m w (joined (a_word t h) (joined {a = e} {u = u} d end)) =
      into (λ y z. SpellsSuchThat y (t ∷ (u ++ z))) (Some e) m _ end (ended (λ x. SpellsSuchThat (Some e) (t ∷ x)) u (s.such_that t h d))

  no_such_that_found : (m : Option Expr) (u : List Token) → Returns None m u → SpellsSuchThat m u
  no_such_that_found m u returns = s.no_such_that

  pub such-that-sound : Sound SpellsSuchThat (such_that_at r)
  unfolding such_that_at
  such-that-sound = branch-sound
      (weaker such_that_found (then-sound (word-sound word.St) (λ w. then-sound (operand-sound r l 5) (λ e. returned-sound (Some e)))))
      (weaker no_such_that_found (returned-sound None))

  quantifier_found : (q : Quantifier) (u : List Token)
      → Then AName (λ n. Then (ASign sign.Assign) (λ b. Then (SpellsExpr 5) (λ first. Then ADirection (λ d. Then (SpellsExpr 5) (λ last. Then SpellsBy
      (λ step. Then SpellsSuchThat (λ st. Returns (quantifier_of n first d last step st)))))))) q u → SpellsQuantifier q u
  quantifier_found q w (joined (a_name n h) (joined (a_sign b i) (joined {a = first} {u = u} e (joined (a_direction t x d j k) (joined {a = last} {u = v} f
      (joined {a = step} {u = y} steps (joined {a = st} {u = z} tests end))))))) =
      into (λ c o. SpellsQuantifier c (n ∷ b ∷ (u ++ t ∷ (v ++ (y ++ (z ++ o)))))) (quantifier_of (name_of n) first d last step st) q _ end
      (ended (λ o. SpellsQuantifier (quantifier_of (name_of n) first d last step st) (n ∷ b ∷ (u ++ t ∷ (v ++ (y ++ o))))) z
      (s.quantifier n b t x d h i e j k f steps tests))

  pub quantifier-sound : Sound SpellsQuantifier (quantifier_at r)
  unfolding quantifier_at
  quantifier-sound = weaker quantifier_found (then-sound name-sound (λ n. then-sound (sign-sound sign.Assign) (λ b. then-sound (operand-sound r l 5) (λ first.
      then-sound direction-sound (λ d. then-sound (operand-sound r l 5) (λ last. then-sound by-sound (λ step. then-sound such-that-sound (λ st.
      returned-sound (quantifier_of n first d last step st)))))))))

  quantifiers_found : (qs : List Quantifier) (u : List Token) → Then SpellsQuantifier (λ q. Grows SpellsMoreQuantifiers (q ∷ [])) qs u → SpellsQuantifiers qs u
  quantifiers_found qs u (joined d (grows m)) = s.quantifiers d m

  pub quantifiers-sound : Sound SpellsQuantifiers (quantifiers_at r)
  unfolding quantifiers_at more_quantifiers_at next_quantifier_at
  quantifiers-sound = weaker quantifiers_found (then-sound quantifier-sound (λ q.
      list-sound (ASign sign.Comma) SpellsQuantifier SpellsMoreQuantifiers (sign_at sign.Comma) (quantifier_at r) is_comma
      s.no_more_quantifiers next_quantifier (sign-sound sign.Comma) quantifier-sound r.steps (q ∷ [])))

  quantifiers_enclosed : (x : Span × List Quantifier) (u : List Token)
      → Then (ASign sign.OpenParen) (λ o. Then SpellsQuantifiers (λ qs. Then (ASign sign.CloseParen) (λ c. Returns (o, qs)))) x u → EnclosedQuantifiers x u
  quantifiers_enclosed x w (joined (a_sign o h) (joined {a = qs} {u = u} d (joined (a_sign c i) end))) =
      into (λ y z. EnclosedQuantifiers y (o ∷ (u ++ c ∷ z))) (o.span, qs) x _ end (enclosed_quantifiers o c h d i)

  pub enclosed-quantifiers-sound : Sound EnclosedQuantifiers (enclosed_quantifiers_at r)
  unfolding enclosed_quantifiers_at
  enclosed-quantifiers-sound = weaker quantifiers_enclosed
      (then-sound (sign-sound sign.OpenParen) (λ o. then-sound quantifiers-sound (λ qs. then-sound (sign-sound sign.CloseParen) (λ c. returned-sound (o, qs)))))

  some_quantifiers_found : (qs : List Quantifier) (u : List Token) → Then EnclosedQuantifiers (λ x. Returns x.1) qs u → SpellsOptionalQuantifiers qs u
  some_quantifiers_found qs w (joined (enclosed_quantifiers {qs = ps} {u = u} o c h d i) end) =
      into (λ y z. SpellsOptionalQuantifiers y ((o ∷ (u ++ c ∷ [])) ++ z)) ps qs _ end
      (ended (SpellsOptionalQuantifiers ps) (o ∷ (u ++ c ∷ [])) (s.some_quantifiers o c h d i))

  no_quantifiers_found : (qs : List Quantifier) (u : List Token) → Returns [] qs u → SpellsOptionalQuantifiers qs u
  no_quantifiers_found qs u returns = s.no_quantifiers

  pub optional-quantifiers-sound : Sound SpellsOptionalQuantifiers (optional_quantifiers_at r)
  unfolding optional_quantifiers_at
  optional-quantifiers-sound = branch-sound
      (weaker some_quantifiers_found (then-sound enclosed-quantifiers-sound (λ x. returned-sound x.1)))
      (weaker no_quantifiers_found (returned-sound []))

  -- conditions of arms

  condition_found : (m : Option ArmCondition) (u : List Token)
      → Then (Spanned (λ t. token_condition t.kind)) (λ c. Then (SpellsExpr 5) (λ e. Returns (Some (condition_of c e)))) m u → SpellsCondition m u
  condition_found m w (joined (spanned t c h) (joined {a = e} {u = u} d end)) =
      let x = on_words t.kind c h in
      into (λ y z. SpellsCondition y (t ∷ (u ++ z))) (Some (condition_of (t.span, c) e)) m _ end
      (ended (λ z. SpellsCondition (Some (condition_of (t.span, c) e)) (t ∷ z)) u (s.on_condition t x.0 c x.1 x.2 d))

  no_condition_found : (m : Option ArmCondition) (u : List Token) → Returns None m u → SpellsCondition m u
  no_condition_found m u returns = s.no_condition

  pub condition-sound : Sound SpellsCondition (condition_at r)
  unfolding condition_at
  condition-sound = branch-sound
      (weaker condition_found (then-sound condition_word-sound (λ c. then-sound (operand-sound r l 5) (λ e. returned-sound (Some (condition_of c e))))))
      (weaker no_condition_found (returned-sound None))

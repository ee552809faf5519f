-- What the readers of statements and blocks read is spelled so, and depends on one token after it alone.
use Rattle.std.proofs.Common.{◌≡◌, refl, sym, ◌∙◌, ap, subst, ℕ, zero, suc, Bool, true, false, List, [], ◌∷◌, ◌++◌, Option, Some, None, append_assoc}
use Rattle.std.specs.Prelude.{is_some}
use Rattle.sr_reader.specs.Reader.{Reader, next_is}
use Rattle.sr_reader.proofs.Soundness.{Sound, SoundWhere, anywhere, Then, joined, Returns, returns, returned-sound, unfit-sound, weaker, weaker-where, where-first, then-sound, then-where, branch-sound, branch-where, append-nil, ended, into}
use Rattle.sr_reader.proofs.Loops.{while-sound}
use Rattle.sr_value.specs.declared.place.Span.{Span}
use Rattle.sr_tree.specs.declared.expr.Expr.{Expr}
use Rattle.sr_tree.specs.declared.expr.Invocation.{Invocation}
use Rattle.sr_tree.specs.declared.name.Name.{Name}
use Rattle.sr_tree.specs.declared.statement.Arm.{Arm, roll-Arm}
use Rattle.sr_tree.specs.declared.statement.ArmCondition.{ArmCondition}
use Rattle.sr_tree.specs.declared.statement.BlockItem.{BlockItem}
use Rattle.sr_tree.specs.declared.statement.BlockItem.TheVariants as item
use Rattle.sr_tree.specs.declared.statement.Branch.{Branch, roll-Branch}
use Rattle.sr_tree.specs.declared.statement.CoArm.{CoArm, roll-CoArm}
use Rattle.sr_tree.specs.declared.statement.Quantifier.{Quantifier}
use Rattle.sr_tree.specs.declared.statement.Statement.{Statement}
use Rattle.sr_tree.specs.declared.statement.Statement.TheVariants as statement
use Rattle.sr_tree.specs.declared.token.Sign.TheVariants as sign
use Rattle.sr_tree.specs.declared.token.Token.{Token}
use Rattle.sr_tree.specs.declared.token.Word.{Word}
use Rattle.sr_tree.specs.declared.token.Word.TheVariants as word
use Rattle.sr_tree.specs.Components as c
use Rattle.sr_tree.specs.Components.{SpellsList}
use Rattle.sr_tree.specs.Declarations.{SpellsConst, SpellsVar}
use Rattle.sr_tree.specs.Expressions.{SpellsExpr, SpellsPrimary, SpellsCreate, expr_span, create_span}
use Rattle.sr_tree.specs.Statements as s
use Rattle.sr_tree.specs.Statements.{SpellsNamed, SpellsInvocation, SpellsStatus, SpellsBy, SpellsQuantifiers, SpellsReturnedName, SpellsCondition, SpellsCallWord, SpellsCoStart, SpellsCoCall, SpellsStatement, SpellsBranch, SpellsMoreBranches, SpellsOtherwise, SpellsArm, SpellsMoreArms, SpellsCoBlock, SpellsCoArm, SpellsMoreCoArms, SpellsBlockItem, SpellsItems, SpellsBlock, first_span}
use Rattle.sr_tree.specs.Tables.{IsSign, IsWord, name_of}
use Rattle.sr_tree.specs.Tests.{is_name}
use Rattle.sr_expr_reader.specs.Readers.{primary_at}
use Rattle.sr_tree.specs.Tokens.{sign_at}
use Rattle.sr_expr_reader.proofs.ExpressionsSound.{SoundReaders, create-sound, primary-sound, operand-sound}
use Rattle.sr_expr_reader.proofs.ListsSound.{Grows, grows, list-sound}
use Rattle.sr_expr_reader.proofs.TokensSound.{ASign, a_sign, AWord, a_word, AName, a_name, sign-sound, word-sound, name-sound, none_some}
use Rattle.sr_expr_reader.proofs.TypesSound.{SoundTypeReaders, type_readers-sound}
use Rattle.sr_program_reader.specs.StatementReaders.{StatementReaders, statement_readers, blocks, begins_block_item, invocation_of, arrow_block_at, otherwise_at, is_alternative, next_alternative_at, alternatives_at, branch_at, branches_at, arm_at, arms_at, co_block_at, after_invocation_at, first_of, co_called_at, after_target_at, co_primary_at, after_quantifiers_at, co_arm_at, next_co_arm_at, is_parallel, more_co_arms_at, single_at, stop_at, call_statement_at, send_at, forward_at, receive_at, destroy_at, create_statement_at, if_at, do_at, for_all_at, in_at, co_at, assign_at, exchange_at, increment_at, decrement_at, plain_call_at, after_primary_at, named_statement_at, closed_statement_at, operating_statement_at, worded_statement_at, statement_at, block_item_at, block_at}
use Rattle.sr_program_reader.proofs.DeclarationsSound.{const-sound, var-sound}
use Rattle.sr_program_reader.proofs.Lists as lists
use Rattle.sr_program_reader.proofs.StatementPartsSound.{EnclosedNames, enclosed_names, EnclosedPlaces, enclosed_places, EnclosedQuantifiers, enclosed_quantifiers, Invoked, invoked, invoked-sound, invoked-primary, invoked-start, named-found, enclosed-names-sound, returned-name-sound, start-sound, invocation-sound, status-sound, places-sound, by-sound, quantifiers-sound, enclosed-quantifiers-sound, condition-sound}
use Rattle.sr_program_reader.proofs.StatementStarts.{primary-some, call-only, start-span, start-alone, item-begins}

-- the fields of a record of readers read what they should
pub record SoundStatements (r : StatementReaders) : Type 0 where
  pub types : SoundTypeReaders r.types
  pub block : Sound SpellsBlock r.block

-- ---- blocks after an arrow

data ArrowBlock : List BlockItem → List Token → Type 0 where
  arrow_block : {is : List BlockItem} {u : List Token} (t : Token) → IsSign sign.Arrow t → SpellsBlock is u → ArrowBlock is (t ∷ u)

data ElseBlock : List BlockItem → List Token → Type 0 where
  else_block : {is : List BlockItem} {u : List Token} (t arrow : Token) → IsWord word.Else t → IsSign sign.Arrow arrow → SpellsBlock is u
      → ElseBlock is (t ∷ arrow ∷ u)

arrow_block_found : (is : List BlockItem) (u : List Token) → Then (ASign sign.Arrow) (λ a. SpellsBlock) is u → ArrowBlock is u
arrow_block_found is u (joined (a_sign t h) d) = arrow_block t h d

else_block_found : (is : List BlockItem) (u : List Token) → Then (AWord word.Else) (λ w. ArrowBlock) is u → ElseBlock is u
else_block_found is u (joined (a_word t h) (arrow_block a i d)) = else_block t a h i d

module _ (r : StatementReaders) (l : SoundStatements r) where
  arrow_block-sound : Sound ArrowBlock (arrow_block_at r)
  unfolding arrow_block_at
  arrow_block-sound = weaker arrow_block_found (then-sound (sign-sound sign.Arrow) (λ a. l.block))

  otherwise-sound : Sound ElseBlock (otherwise_at r)
  unfolding otherwise_at
  otherwise-sound = weaker else_block_found (then-sound (word-sound word.Else) (λ w. arrow_block-sound))

-- ---- alternatives

-- one alternative more, or what stands after `else`
data NextAlternative {A : Type 0} (P : A → List Token → Type 0) (before : List A × Option (List BlockItem)) : List A × Option (List BlockItem) → List Token → Type 0 where
  one_more : {a : A} {u : List Token} → before.1 ≡ None → Then (ASign sign.Alternative) (λ t. P) a u → NextAlternative P before (before.0 ++ a ∷ [], None) u
  the_last : {is : List BlockItem} {u : List Token} (t : Token) → before.1 ≡ None → IsSign sign.Alternative t → ElseBlock is u
      → NextAlternative P before (before.0, Some is) (t ∷ u)

-- the alternatives that stand after some, where none stands after `else`
data Follow {A : Type 0} (More : List A → List Token → Type 0) (before : List A × Option (List BlockItem)) : List A × Option (List BlockItem) → List Token → Type 0 where
  none_follow : (is : List BlockItem) → before.1 ≡ Some is → Follow More before before []
  some_follow : {bs : List A} {o : Option (List BlockItem)} {v x : List Token} → before.1 ≡ None → More bs v → SpellsOtherwise o x
      → Follow More before (before.0 ++ bs, o) (v ++ x)

pub data Alternatives {A : Type 0} (P : A → List Token → Type 0) (More : List A → List Token → Type 0) : List A × Option (List BlockItem) → List Token → Type 0 where
  alternatives : {a : A} {bs : List A} {o : Option (List BlockItem)} {u v x : List Token} → P a u → More bs v → SpellsOtherwise o x
      → Alternatives P More (a ∷ bs, o) (u ++ (v ++ x))

else_spells : {is : List BlockItem} {u : List Token} (t : Token) → IsSign sign.Alternative t → ElseBlock is u → SpellsOtherwise (Some is) (t ∷ u)
else_spells t h (else_block w a i j d) = s.otherwise t w a h i j d

module _ {A : Type 0} (P : A → List Token → Type 0) (More : List A → List Token → Type 0) (nil : More [] [])
    (cons : (a : A) (bs : List A) (u v : List Token) → Then (ASign sign.Alternative) (λ t. P) a u → More bs v → More (a ∷ bs) (u ++ v)) where
  nothing_follows : (before : List A × Option (List BlockItem)) → Follow More before before []
  nothing_follows (xs, Some is) = none_follow is refl
  nothing_follows (xs, None) = subst (λ ys. Follow More (xs, None) (ys, None) []) (append-nil xs) (some_follow refl nil s.no_otherwise)

  follows_on : (a b c : List A × Option (List BlockItem)) (u v : List Token) → NextAlternative P a b u → Follow More b c v → Follow More a c (u ++ v)
  follows_on a b c u v (one_more h d) (none_follow is e) = absurd (none_some is e)
  follows_on (xs, m) b c u w (one_more {a = a} h d) (some_follow {bs = bs} {o = o} {v = v} {x = x} e more other) =
      subst (λ ys. Follow More (xs, m) (ys, o) (u ++ (v ++ x))) (sym (append_assoc xs (a ∷ []) bs))
      (subst (Follow More (xs, m) (xs ++ a ∷ bs, o)) (append_assoc u v x) (some_follow h (cons a bs u v d more) other))
  follows_on (xs, m) b c u v (the_last {is = is} {u = w} t h i d) (none_follow js e) =
      ended (Follow More (xs, m) (xs, Some is)) (t ∷ w)
      (subst (λ ys. Follow More (xs, m) (ys, Some is) (t ∷ w)) (append-nil xs) (some_follow h nil (else_spells t i d)))
  follows_on a b c u v (the_last {is = is} t h i d) (some_follow e more other) = absurd (none_some is (sym e))

  module _ (r : StatementReaders) (l : SoundStatements r) (alternative : Reader Token A) (m : Sound P alternative) where
    -- what stands after `[]`
    data AfterBox (before : List A × Option (List BlockItem)) : List A × Option (List BlockItem) → List Token → Type 0 where
      an_alternative : {a : A} {u : List Token} → P a u → AfterBox before (before.0 ++ a ∷ [], None) u
      an_else : {is : List BlockItem} {u : List Token} → ElseBlock is u → AfterBox before (before.0, Some is) u

    else_after : (before after : List A × Option (List BlockItem)) (u : List Token) → Then ElseBlock (λ is. Returns (before.0, Some is)) after u → AfterBox before after u
    else_after before after w (joined {a = is} {u = u} d end) =
        into (λ y z. AfterBox before y (u ++ z)) (before.0, Some is) after _ end (ended (AfterBox before (before.0, Some is)) u (an_else d))

    alternative_after : (before after : List A × Option (List BlockItem)) (u : List Token) → Then P (λ a. Returns (before.0 ++ a ∷ [], None)) after u
        → AfterBox before after u
    alternative_after before after w (joined {a = a} {u = u} d end) =
        into (λ y z. AfterBox before y (u ++ z)) (before.0 ++ a ∷ [], None) after _ end (ended (AfterBox before (before.0 ++ a ∷ [], None)) u (an_alternative d))

    box_found : (before after : List A × Option (List BlockItem)) → before.1 ≡ None → (u : List Token) → Then (ASign sign.Alternative) (λ t. AfterBox before) after u
        → NextAlternative P before after u
    box_found before after h u (joined (a_sign t i) (an_alternative d)) = one_more h (joined (a_sign t i) d)
    box_found before after h u (joined (a_sign t i) (an_else d)) = the_last t h i d

    next-sound : (before : List A × Option (List BlockItem)) → before.1 ≡ None → Sound (NextAlternative P before) (next_alternative_at r alternative before)
    unfolding next_alternative_at
    next-sound before h = weaker (λ after. box_found before after h) (then-sound (sign-sound sign.Alternative) (λ t. branch-sound
        (weaker (else_after before) (then-sound (otherwise-sound r l) (λ is. returned-sound (before.0, Some is))))
        (weaker (alternative_after before) (then-sound m (λ a. returned-sound (before.0 ++ a ∷ [], None))))))

    may_follow : (before : List A × Option (List BlockItem)) (w : List Token) → next_is (is_alternative before) w ≡ true → before.1 ≡ None
    may_follow (xs, o) [] h = cc
    may_follow (xs, None) (t ∷ w) h = refl
    may_follow (xs, Some is) (t ∷ w) h = cc

    alternatives_found : (x : List A × Option (List BlockItem)) (u : List Token) → Then P (λ a. Follow More (a ∷ [], None)) x u → Alternatives P More x u
    alternatives_found x w (joined {a = a} {u = u} {v = v} d f) = go a u d x v f
      where
        go : (a : A) (u : List Token) → P a u → (x : List A × Option (List BlockItem)) (v : List Token) → Follow More (a ∷ [], None) x v → Alternatives P More x (u ++ v)
        go a u d x v (none_follow is e) = absurd (none_some is e)
        go a u d x v (some_follow e more other) = alternatives d more other

    pub alternatives-sound : Sound (Alternatives P More) (alternatives_at r alternative)
    unfolding alternatives_at
    alternatives-sound = weaker alternatives_found (then-sound m (λ a.
        while-sound is_alternative (next_alternative_at r alternative) (NextAlternative P) (Follow More) nothing_follows follows_on
        (λ x. record { at = λ w h. (next-sound x (may_follow x w h)).at w }) r.types.expressions.steps (a ∷ [], None)))

-- the same tokens, grouped to the left and to the right
pub three : (u v x w : List Token) → (u ++ (v ++ x)) ++ w ≡ u ++ (v ++ (x ++ w))
three u v x w = append_assoc u (v ++ x) w ∙ ap (λ y. u ++ y) (append_assoc v x w)

two : (u v x w : List Token) → (u ++ (v ++ x)) ++ w ≡ (u ++ v) ++ (x ++ w)
two u v x w = three u v x w ∙ sym (append_assoc u v (x ++ w))

next_branch : (b : Branch) (bs : List Branch) (u v : List Token) → Then (ASign sign.Alternative) (λ t. SpellsBranch) b u → SpellsMoreBranches bs v
    → SpellsMoreBranches (b ∷ bs) (u ++ v)
next_branch b bs u v (joined (a_sign t h) d) m = s.one_more_branch t h d m

next_arm : (a : Arm) (more : List Arm) (u v : List Token) → Then (ASign sign.Alternative) (λ t. SpellsArm) a u → SpellsMoreArms more v → SpellsMoreArms (a ∷ more) (u ++ v)
next_arm a more u v (joined (a_sign t h) d) m = s.one_more_arm t h d m

next_co_arm : (a : CoArm) (more : List CoArm) (u v : List Token) → Then (ASign sign.Parallel) (λ t. SpellsCoArm) a u → SpellsMoreCoArms more v
    → SpellsMoreCoArms (a ∷ more) (u ++ v)
next_co_arm a more u v (joined (a_sign t h) d) m = s.one_more_co_arm t h d m

abbrev pub branch_of : Expr → List BlockItem → Branch
branch_of e is = roll-Branch (record { span = expr_span e; guard = e; block = is })

abbrev pub arm_of : Name → List Name → Option Name → Option ArmCondition → Option Expr → List BlockItem → Arm
arm_of n ns m c o is = roll-Arm (record { span = n.span; operation = n; formals = ns; returned = m; condition = c; order = o; block = is })

abbrev pub co_arm_of : Span → List Quantifier → Option Expr → Bool → Invocation → Option (List BlockItem) → CoArm
co_arm_of span qs place with_call i block =
    roll-CoArm (record { span = span; quantifiers = qs; target = place; with_call = with_call; invocation = i; block = block })

-- the tokens of a target and an invocation, grouped to the right
pub stored-tokens : (u : List Token) (a : Token) (x y w : List Token) → (u ++ a ∷ (x ++ y)) ++ w ≡ u ++ a ∷ (x ++ (y ++ w))
stored-tokens u a x y w = append_assoc u (a ∷ (x ++ y)) w ∙ ap (λ v. u ++ a ∷ v) (append_assoc x y w)

-- ---- arms of `co`, from their end to their start

data CoRest (span : Span) (qs : List Quantifier) (place : Option Expr) (with_call : Bool) (i : Invocation) : CoArm → List Token → Type 0 where
  co_rest : {block : Option (List BlockItem)} {z : List Token} → SpellsCoBlock block z
      → CoRest span qs place with_call i (co_arm_of span qs place with_call i block) z

data CoCalled (start : Option Span) (qs : List Quantifier) (place : Option Expr) : CoArm → List Token → Type 0 where
  co_called : {i : Invocation} {block : Option (List BlockItem)} {y z : List Token} (t : Token) → IsWord word.Call t → SpellsInvocation i y → SpellsCoBlock block z
      → CoCalled start qs place (co_arm_of (first_of start t.span) qs place true i block) (t ∷ (y ++ z))

data AfterTarget (span : Span) (qs : List Quantifier) (place : Expr) : CoArm → List Token → Type 0 where
  after_target : {with_call : Bool} {i : Invocation} {block : Option (List BlockItem)} {x y z : List Token} → SpellsCallWord with_call x → SpellsInvocation i y
      → SpellsCoBlock block z → AfterTarget span qs place (co_arm_of span qs (Some place) with_call i block) (x ++ (y ++ z))

data AfterQuantifiers (start : Option Span) (qs : List Quantifier) : CoArm → List Token → Type 0 where
  after_quantifiers : {place : Option Expr} {with_call : Bool} {i : Invocation} {block : Option (List BlockItem)} {u z : List Token}
      → SpellsCoCall (is_some start) place with_call i u → SpellsCoBlock block z
      → AfterQuantifiers start qs (co_arm_of (first_of start (first_span u)) qs place with_call i block) (u ++ z)

co_block_found : (m : Option (List BlockItem)) (u : List Token) → Then ArrowBlock (λ is. Returns (Some is)) m u → SpellsCoBlock m u
co_block_found m w (joined (arrow_block {is = is} {u = u} t h d) end) =
    into (λ y z. SpellsCoBlock y (t ∷ (u ++ z))) (Some is) m _ end (ended (λ x. SpellsCoBlock (Some is) (t ∷ x)) u (s.co_block t h d))

no_co_block_found : (m : Option (List BlockItem)) (u : List Token) → Returns None m u → SpellsCoBlock m u
no_co_block_found m u returns = s.no_co_block

co_rest_found : (span : Span) (qs : List Quantifier) (place : Option Expr) (with_call : Bool) (i : Invocation) (a : CoArm) (u : List Token)
    → Then SpellsCoBlock (λ block. Returns (co_arm_of span qs place with_call i block)) a u → CoRest span qs place with_call i a u
co_rest_found span qs place with_call i a w (joined {a = block} {u = u} d end) =
    into (λ y z. CoRest span qs place with_call i y (u ++ z)) (co_arm_of span qs place with_call i block) a _ end
    (ended (CoRest span qs place with_call i (co_arm_of span qs place with_call i block)) u (co_rest d))

co_called_found : (start : Option Span) (qs : List Quantifier) (place : Option Expr) (a : CoArm) (u : List Token)
    → Then (AWord word.Call) (λ w. Then SpellsInvocation (λ i. CoRest (first_of start w) qs place true i)) a u → CoCalled start qs place a u
co_called_found start qs place a u (joined (a_word t h) (joined {a = i} {u = y} d rest)) = go i y d a _ rest
  where
    go : (i : Invocation) (y : List Token) → SpellsInvocation i y → (a : CoArm) (z : List Token) → CoRest (first_of start t.span) qs place true i a z
        → CoCalled start qs place a (t ∷ (y ++ z))
    go i y d a z (co_rest b) = co_called t h d b

called_after_target : (span : Span) (qs : List Quantifier) (place : Expr) (a : CoArm) (u : List Token) → CoCalled (Some span) qs (Some place) a u
    → AfterTarget span qs place a u
called_after_target span qs place a u (co_called t h d b) = after_target (s.call_word t h) d b

invoked_after_target : (span : Span) (qs : List Quantifier) (place : Expr) (a : CoArm) (u : List Token)
    → Then SpellsInvocation (λ i. CoRest span qs (Some place) false i) a u → AfterTarget span qs place a u
invoked_after_target span qs place a u (joined {a = i} {u = y} d rest) = go i y d a _ rest
  where
    go : (i : Invocation) (y : List Token) → SpellsInvocation i y → (a : CoArm) (z : List Token) → CoRest span qs (Some place) false i a z
        → AfterTarget span qs place a (y ++ z)
    go i y d a z (co_rest b) = after_target s.no_call_word d b

-- what stands after the primary that an arm begins with
data AfterStart (start : Option Span) (qs : List Quantifier) (e : Expr) : CoArm → List Token → Type 0 where
  after_start : {a : CoArm} {w : List Token} → ((u : List Token) → SpellsCoStart (is_some start) e u → AfterQuantifiers start qs a (u ++ w)) → AfterStart start qs e a w

target_found : (start : Option Span) (qs : List Quantifier) (e : Expr) (a : CoArm) (u : List Token)
    → Then (ASign sign.Assign) (λ b. AfterTarget (first_of start (expr_span e)) qs e) a u → AfterStart start qs e a u
target_found start qs e a w (joined (a_sign b h) rest) = go a _ rest
  where
    go : (a : CoArm) (w : List Token) → AfterTarget (first_of start (expr_span e)) qs e a w → AfterStart start qs e a (b ∷ w)
    go a w (after_target {with_call = c} {i = i} {block = block} {x = x} {y = y} {z = z} called d rest) = after_start (λ u n.
        subst (λ k. AfterQuantifiers start qs (co_arm_of (first_of start k) qs (Some e) c i block) (u ++ b ∷ (x ++ (y ++ z))))
        (sym (start-span n (b ∷ (x ++ y))))
        (subst (AfterQuantifiers start qs (co_arm_of (first_of start (first_span (u ++ b ∷ (x ++ y)))) qs (Some e) c i block)) (stored-tokens u b x y z)
        (after_quantifiers (s.stored b n h called d) rest)))

plain_found : (start : Option Span) (qs : List Quantifier) (e : Expr) (a : CoArm) (u : List Token)
    → Then (Invoked (invocation_of e)) (λ i. CoRest (first_of start (expr_span e)) qs None false i) a u → AfterStart start qs e a u
plain_found start qs e a w (joined (invoked i h) rest) = go a _ rest
  where
    go : (a : CoArm) (z : List Token) → CoRest (first_of start (expr_span e)) qs None false i a z → AfterStart start qs e a z
    go a z (co_rest {block = block} rest) = after_start (λ u n.
        subst (λ k. AfterQuantifiers start qs (co_arm_of (first_of start k) qs None false i block) (u ++ z)) (sym (start-alone n))
        (after_quantifiers (s.plain (invoked-start n i h)) rest))

start_found : (start : Option Span) (qs : List Quantifier) (a : CoArm) (u : List Token) → Then (SpellsCoStart (is_some start)) (AfterStart start qs) a u
    → AfterQuantifiers start qs a u
start_found start qs a u (joined {u = v} d (after_start f)) = f v d

called_found : (start : Option Span) (qs : List Quantifier) (a : CoArm) (u : List Token) → CoCalled start qs None a u → AfterQuantifiers start qs a u
called_found start qs a u (co_called t h d b) = after_quantifiers (s.called t h d) b

with_quantifiers : (a : CoArm) (u : List Token) → Then EnclosedQuantifiers (λ x. AfterQuantifiers (Some x.0) x.1) a u → SpellsCoArm a u
with_quantifiers a w (joined (enclosed_quantifiers {qs = qs} {u = u} o c h d i) rest) = go a _ rest
  where
    go : (a : CoArm) (z : List Token) → AfterQuantifiers (Some o.span) qs a z → SpellsCoArm a ((o ∷ (u ++ c ∷ [])) ++ z)
    go a z (after_quantifiers {u = v} {z = x} e rest) =
        subst (λ w. SpellsCoArm a (o ∷ w)) (sym (append_assoc u (c ∷ []) (v ++ x))) (s.quantified o c h d i e rest)

without_quantifiers : (a : CoArm) (u : List Token) → AfterQuantifiers None [] a u → SpellsCoArm a u
without_quantifiers a u (after_quantifiers e rest) = s.co_arm e rest

-- ---- statements

data AfterPrimary (a : Expr) : Statement → List Token → Type 0 where
  after_primary : {b : Statement} {v : List Token} → ((u : List Token) → SpellsNamed a u → SpellsStatement b (u ++ v)) → AfterPrimary a b v

single_found : (w : Word) (f : Span → Statement) → ((t : Token) → IsWord w t → SpellsStatement (f t.span) (t ∷ []))
    → (a : Statement) (u : List Token) → Then (AWord w) (λ s. Returns (f s)) a u → SpellsStatement a u
single_found w f g a u (joined (a_word t h) end) = into (λ y z. SpellsStatement y (t ∷ z)) (f t.span) a _ end (g t h)

single-sound : (w : Word) (f : Span → Statement) → ((t : Token) → IsWord w t → SpellsStatement (f t.span) (t ∷ [])) → Sound SpellsStatement (single_at w f)
unfolding single_at
single-sound w f g = weaker (single_found w f g) (then-sound (word-sound w) (λ s. returned-sound (f s)))

stop_found : (a : Statement) (u : List Token) → Then (AWord word.Stop) (λ s. Then SpellsStatus (λ m. Returns (statement.Stop s m))) a u → SpellsStatement a u
stop_found a w (joined (a_word t h) (joined {a = m} {u = u} d end)) =
    into (λ y z. SpellsStatement y (t ∷ (u ++ z))) (statement.Stop t.span m) a _ end (ended (λ x. SpellsStatement (statement.Stop t.span m) (t ∷ x)) u (s.stop t h d))

call_found : (a : Statement) (u : List Token) → Then (AWord word.Call) (λ s. Then SpellsInvocation (λ i. Returns (statement.Call s true i))) a u → SpellsStatement a u
call_found a w (joined (a_word t h) (joined {a = i} {u = u} d end)) =
    into (λ y z. SpellsStatement y (t ∷ (u ++ z))) (statement.Call t.span true i) a _ end
    (ended (λ x. SpellsStatement (statement.Call t.span true i) (t ∷ x)) u (s.call t h d))

send_found : (a : Statement) (u : List Token) → Then (AWord word.Send) (λ s. Then SpellsInvocation (λ i. Returns (statement.Send s i))) a u → SpellsStatement a u
send_found a w (joined (a_word t h) (joined {a = i} {u = u} d end)) =
    into (λ y z. SpellsStatement y (t ∷ (u ++ z))) (statement.Send t.span i) a _ end (ended (λ x. SpellsStatement (statement.Send t.span i) (t ∷ x)) u (s.send t h d))

forward_found : (a : Statement) (u : List Token) → Then (AWord word.Forward) (λ s. Then SpellsInvocation (λ i. Returns (statement.Forward s i))) a u → SpellsStatement a u
forward_found a w (joined (a_word t h) (joined {a = i} {u = u} d end)) =
    into (λ y z. SpellsStatement y (t ∷ (u ++ z))) (statement.Forward t.span i) a _ end
    (ended (λ x. SpellsStatement (statement.Forward t.span i) (t ∷ x)) u (s.forward t h d))

receive_found : (a : Statement) (u : List Token)
    → Then (AWord word.Receive) (λ s. Then AName (λ n. Then EnclosedPlaces (λ es. Returns (statement.Receive s n es)))) a u → SpellsStatement a u
receive_found a w (joined (a_word t h) (joined (a_name n i) (joined (enclosed_places {es = es} {u = u} o c j d k) end))) =
    into (λ y z. SpellsStatement y (t ∷ n ∷ ((o ∷ (u ++ c ∷ [])) ++ z))) (statement.Receive t.span (name_of n) es) a _ end
    (ended (λ x. SpellsStatement (statement.Receive t.span (name_of n) es) (t ∷ n ∷ x)) (o ∷ (u ++ c ∷ [])) (s.receive t n o c h i j d k))

destroy_found : (a : Statement) (u : List Token) → Then (AWord word.Destroy) (λ s. Then SpellsPrimary (λ e. Returns (statement.Destroy s e))) a u → SpellsStatement a u
destroy_found a w (joined (a_word t h) (joined {a = e} {u = u} d end)) =
    into (λ y z. SpellsStatement y (t ∷ (u ++ z))) (statement.Destroy t.span e) a _ end
    (ended (λ x. SpellsStatement (statement.Destroy t.span e) (t ∷ x)) u (s.destroy t h d))

create_found : (a : Statement) (u : List Token) → Then SpellsCreate (λ c. Returns (statement.Create (create_span c) c)) a u → SpellsStatement a u
create_found a w (joined {a = c} {u = u} d end) =
    into (λ y z. SpellsStatement y (u ++ z)) (statement.Create (create_span c) c) a _ end
    (ended (SpellsStatement (statement.Create (create_span c) c)) u (s.create d))

assign_found : (p : Expr) (a : Statement) (u : List Token) → Then (ASign sign.Assign) (λ b. Then (SpellsExpr 5) (λ e. Returns (statement.Assign (expr_span p) p e))) a u
    → AfterPrimary p a u
assign_found p a w (joined (a_sign b h) (joined {a = e} {u = u} d end)) =
    into (λ y z. AfterPrimary p y (b ∷ (u ++ z))) (statement.Assign (expr_span p) p e) a _ end
    (ended (λ x. AfterPrimary p (statement.Assign (expr_span p) p e) (b ∷ x)) u (after_primary (λ v n. s.assign b n h d)))

exchange_found : (p : Expr) (a : Statement) (u : List Token) → Then (ASign sign.Exchange) (λ b. Then SpellsPrimary (λ e. Returns (statement.Exchange (expr_span p) p e))) a u
    → AfterPrimary p a u
exchange_found p a w (joined (a_sign b h) (joined {a = e} {u = u} d end)) =
    into (λ y z. AfterPrimary p y (b ∷ (u ++ z))) (statement.Exchange (expr_span p) p e) a _ end
    (ended (λ x. AfterPrimary p (statement.Exchange (expr_span p) p e) (b ∷ x)) u (after_primary (λ v n. s.exchange b n h d)))

increment_found : (p : Expr) (a : Statement) (u : List Token) → Then (ASign sign.Increment) (λ b. Returns (statement.Increment (expr_span p) p)) a u → AfterPrimary p a u
increment_found p a w (joined (a_sign b h) end) =
    into (λ y z. AfterPrimary p y (b ∷ z)) (statement.Increment (expr_span p) p) a _ end (after_primary (λ v n. s.increment b n h))

decrement_found : (p : Expr) (a : Statement) (u : List Token) → Then (ASign sign.Decrement) (λ b. Returns (statement.Decrement (expr_span p) p)) a u → AfterPrimary p a u
decrement_found p a w (joined (a_sign b h) end) =
    into (λ y z. AfterPrimary p y (b ∷ z)) (statement.Decrement (expr_span p) p) a _ end (after_primary (λ v n. s.decrement b n h))

-- a statement that is an invocation
invoked_here : {p : Expr} {u : List Token} → SpellsNamed p u → (i : Invocation) → invocation_of p ≡ Some i → SpellsStatement (statement.Call (expr_span p) false i) u
invoked_here (s.named {u = u} n h d) i f =
    subst (λ x. SpellsStatement (statement.Call (expr_span x) false i) (n ∷ u)) (sym (call-only d i f)) (s.invoke (s.named n h (invoked-primary d i f)))

plain_call_found : (p : Expr) (a : Statement) (u : List Token) → Then (Invoked (invocation_of p)) (λ i. Returns (statement.Call (expr_span p) false i)) a u → AfterPrimary p a u
plain_call_found p a w (joined (invoked i h) end) =
    into (λ y z. AfterPrimary p y z) (statement.Call (expr_span p) false i) a _ end
    (after_primary (λ u n. ended (SpellsStatement (statement.Call (expr_span p) false i)) u (invoked_here n i h)))

named_statement_found : (a : Statement) (u : List Token) → Then SpellsNamed AfterPrimary a u → SpellsStatement a u
named_statement_found a u (joined {u = v} d (after_primary f)) = f v d

-- ---- items

const_found : (i : BlockItem) (u : List Token) → Then SpellsConst (λ d. Returns (item.Const d)) i u → SpellsBlockItem i u
const_found i w (joined {a = d} {u = u} c end) =
    into (λ y z. SpellsBlockItem y (u ++ z)) (item.Const d) i _ end (ended (SpellsBlockItem (item.Const d)) u (s.a_constant c))

var_found : (i : BlockItem) (u : List Token) → Then SpellsVar (λ d. Returns (item.Var d)) i u → SpellsBlockItem i u
var_found i w (joined {a = d} {u = u} c end) =
    into (λ y z. SpellsBlockItem y (u ++ z)) (item.Var d) i _ end (ended (SpellsBlockItem (item.Var d)) u (s.some_variables c))

statement_found : (i : BlockItem) (u : List Token) → Then SpellsStatement (λ a. Returns (item.Statement a)) i u → SpellsBlockItem i u
statement_found i w (joined {a = a} {u = u} c end) =
    into (λ y z. SpellsBlockItem y (u ++ z)) (item.Statement a) i _ end (ended (SpellsBlockItem (item.Statement a)) u (s.a_statement c))

items_found : {b : Bool} {is : List BlockItem} {u : List Token} → SpellsList SpellsBlockItem b is u → SpellsItems b is u
items_found c.stop_here = s.stop_here
items_found (c.separator t h m) = s.separator t h (items_found m)
items_found (c.one d m) = s.one d (items_found m)

block_found : (is : List BlockItem) (u : List Token) → SpellsList SpellsBlockItem true is u → SpellsBlock is u
block_found is u d = s.block (items_found d)

some_item : (i : BlockItem) → SpellsBlockItem i [] → ⊥
some_item i d = nothing (item-begins d [])
  where
    nothing : false ≡ true → ⊥
    nothing h = cc

module _ (r : StatementReaders) (l : SoundStatements r) where
  expressions : SoundReaders r.types.expressions
  expressions = l.types.expressions

  branch_found : (b : Branch) (u : List Token) → Then (SpellsExpr 5) (λ e. Then ArrowBlock (λ is. Returns (branch_of e is))) b u → SpellsBranch b u
  branch_found b w (joined {a = e} {u = u} d (joined (arrow_block {is = is} {u = v} t h f) end)) =
      into (λ y z. SpellsBranch y (u ++ t ∷ (v ++ z))) (branch_of e is) b _ end (ended (λ x. SpellsBranch (branch_of e is) (u ++ t ∷ x)) v (s.branch t d h f))

  branch-sound-at : Sound SpellsBranch (branch_at r)
  unfolding branch_at
  branch-sound-at = weaker branch_found (then-sound (operand-sound r.types.expressions expressions 5) (λ e.
      then-sound (arrow_block-sound r l) (λ is. returned-sound (branch_of e is))))

  branches-sound : Sound (Alternatives SpellsBranch SpellsMoreBranches) (branches_at r)
  unfolding branches_at
  branches-sound = alternatives-sound SpellsBranch SpellsMoreBranches s.no_more_branches next_branch r l (branch_at r) branch-sound-at

  arm_found : (a : Arm) (u : List Token)
      → Then AName (λ n. Then EnclosedNames (λ ns. Then SpellsReturnedName (λ m. Then SpellsCondition (λ c. Then SpellsBy (λ o. Then ArrowBlock
      (λ is. Returns (arm_of n ns m c o is))))))) a u → SpellsArm a u
  arm_found a w (joined (a_name n h) (joined (enclosed_names {ns = ns} {u = u} o k i d j) (joined {a = m} {u = v} e (joined {a = c} {u = x} f (joined {a = order} {u = y} g
      (joined (arrow_block {is = is} {u = z} t p b) end)))))) =
      into (λ q end. SpellsArm q (n ∷ ((o ∷ (u ++ k ∷ [])) ++ (v ++ (x ++ (y ++ (t ∷ (z ++ end)))))))) (arm_of (name_of n) ns m c order is) a _ end
      (subst (λ q. SpellsArm (arm_of (name_of n) ns m c order is) (n ∷ o ∷ q)) (sym (append_assoc u (k ∷ []) (v ++ (x ++ (y ++ (t ∷ (z ++ [])))))))
      (ended (λ q. SpellsArm (arm_of (name_of n) ns m c order is) (n ∷ o ∷ (u ++ k ∷ (v ++ (x ++ (y ++ (t ∷ q))))))) z
      (s.arm n o k t h i d j e f g p b)))

  arm-sound : Sound SpellsArm (arm_at r)
  unfolding arm_at
  arm-sound = weaker arm_found (then-sound name-sound (λ n. then-sound (enclosed-names-sound r.types.expressions) (λ ns. then-sound returned-name-sound (λ m.
      then-sound (condition-sound r.types.expressions expressions) (λ c. then-sound (by-sound r.types.expressions expressions) (λ o.
      then-sound (arrow_block-sound r l) (λ is. returned-sound (arm_of n ns m c o is))))))))

  arms-sound : Sound (Alternatives SpellsArm SpellsMoreArms) (arms_at r)
  unfolding arms_at
  arms-sound = alternatives-sound SpellsArm SpellsMoreArms s.no_more_arms next_arm r l (arm_at r) arm-sound

  co_block-sound : Sound SpellsCoBlock (co_block_at r)
  unfolding co_block_at
  co_block-sound = branch-sound (weaker co_block_found (then-sound (arrow_block-sound r l) (λ is. returned-sound (Some is)))) (weaker no_co_block_found (returned-sound None))

  co_rest-sound : (span : Span) (qs : List Quantifier) (place : Option Expr) (with_call : Bool) (i : Invocation)
      → Sound (CoRest span qs place with_call i) (after_invocation_at r span qs place with_call i)
  unfolding after_invocation_at
  co_rest-sound span qs place with_call i = weaker (co_rest_found span qs place with_call i)
      (then-sound co_block-sound (λ block. returned-sound (co_arm_of span qs place with_call i block)))

  co_called-sound : (start : Option Span) (qs : List Quantifier) (place : Option Expr) → Sound (CoCalled start qs place) (co_called_at r start qs place)
  unfolding co_called_at
  co_called-sound start qs place = weaker (co_called_found start qs place) (then-sound (word-sound word.Call) (λ w.
      then-sound (invocation-sound r.types.expressions expressions) (λ i. co_rest-sound (first_of start w) qs place true i)))

  after_target-sound : (span : Span) (qs : List Quantifier) (place : Expr) → Sound (AfterTarget span qs place) (after_target_at r span qs place)
  unfolding after_target_at
  after_target-sound span qs place = branch-sound (weaker (called_after_target span qs place) (co_called-sound (Some span) qs (Some place)))
      (weaker (invoked_after_target span qs place) (then-sound (invocation-sound r.types.expressions expressions) (λ i. co_rest-sound span qs (Some place) false i)))

  co_named-sound : (start : Option Span) (qs : List Quantifier) → Sound (AfterQuantifiers start qs) (co_primary_at r start qs)
  unfolding co_primary_at
  co_named-sound start qs = weaker (start_found start qs) (then-sound (start-sound r.types.expressions expressions start) (λ e. branch-sound
      (weaker (target_found start qs e) (then-sound (sign-sound sign.Assign) (λ b. after_target-sound (first_of start (expr_span e)) qs e)))
      (weaker (plain_found start qs e) (then-sound (invoked-sound (invocation_of e)) (λ i. co_rest-sound (first_of start (expr_span e)) qs None false i)))))

  after_quantifiers-sound : (start : Option Span) (qs : List Quantifier) → Sound (AfterQuantifiers start qs) (after_quantifiers_at r start qs)
  unfolding after_quantifiers_at
  after_quantifiers-sound start qs = branch-sound (weaker (called_found start qs) (co_called-sound start qs None)) (co_named-sound start qs)

  co_arm-sound : Sound SpellsCoArm (co_arm_at r)
  unfolding co_arm_at
  co_arm-sound = branch-sound
      (weaker with_quantifiers (then-sound (enclosed-quantifiers-sound r.types.expressions expressions) (λ x. after_quantifiers-sound (Some x.0) x.1)))
      (weaker without_quantifiers (after_quantifiers-sound None []))

  -- statements

  if_found : (a : Statement) (u : List Token)
      → Then (AWord word.If) (λ s. Then (Alternatives SpellsBranch SpellsMoreBranches) (λ x. Then (AWord word.Fi) (λ c. Returns (statement.If s x.0 x.1)))) a u → SpellsStatement a u
  if_found a w (joined (a_word t h) (joined (alternatives {a = b} {bs = bs} {o = o} {u = u} {v = v} {x = x} d m e) (joined (a_word c i) end))) =
      into (λ y z. SpellsStatement y (t ∷ ((u ++ (v ++ x)) ++ c ∷ z))) (statement.If t.span (b ∷ bs) o) a _ end
      (subst (λ q. SpellsStatement (statement.If t.span (b ∷ bs) o) (t ∷ q)) (sym (two u v x (c ∷ []))) (s.if t c h (s.branches d m) e i))

  do_found : (a : Statement) (u : List Token)
      → Then (AWord word.Do) (λ s. Then (Alternatives SpellsBranch SpellsMoreBranches) (λ x. Then (AWord word.Od) (λ c. Returns (statement.Do s x.0 x.1)))) a u → SpellsStatement a u
  do_found a w (joined (a_word t h) (joined (alternatives {a = b} {bs = bs} {o = o} {u = u} {v = v} {x = x} d m e) (joined (a_word c i) end))) =
      into (λ y z. SpellsStatement y (t ∷ ((u ++ (v ++ x)) ++ c ∷ z))) (statement.Do t.span (b ∷ bs) o) a _ end
      (subst (λ q. SpellsStatement (statement.Do t.span (b ∷ bs) o) (t ∷ q)) (sym (two u v x (c ∷ []))) (s.do_ t c h (s.branches d m) e i))

  in_found : (a : Statement) (u : List Token)
      → Then (AWord word.In) (λ s. Then (Alternatives SpellsArm SpellsMoreArms) (λ x. Then (AWord word.Ni) (λ c. Returns (statement.In s x.0 x.1)))) a u → SpellsStatement a u
  in_found a w (joined (a_word t h) (joined (alternatives {a = b} {bs = bs} {o = o} {u = u} {v = v} {x = x} d m e) (joined (a_word c i) end))) =
      into (λ y z. SpellsStatement y (t ∷ ((u ++ (v ++ x)) ++ c ∷ z))) (statement.In t.span (b ∷ bs) o) a _ end
      (subst (λ q. SpellsStatement (statement.In t.span (b ∷ bs) o) (t ∷ q)) (sym (three u v x (c ∷ []))) (s.in_ t c h d m e i))

  for_all_found : (a : Statement) (u : List Token)
      → Then (AWord word.Fa) (λ s. Then SpellsQuantifiers (λ qs. Then ArrowBlock (λ is. Then (AWord word.Af) (λ c. Returns (statement.ForAll s qs is))))) a u → SpellsStatement a u
  for_all_found a w (joined (a_word t h) (joined {a = qs} {u = u} d (joined (arrow_block {is = is} {u = v} b i e) (joined (a_word c j) end)))) =
      into (λ y z. SpellsStatement y (t ∷ (u ++ b ∷ (v ++ c ∷ z)))) (statement.ForAll t.span qs is) a _ end (s.for_all t b c h d i e j)

  co_found : (a : Statement) (u : List Token)
      → Then (AWord word.Co) (λ s. Then SpellsCoArm (λ b. Then (Grows SpellsMoreCoArms (b ∷ [])) (λ arms. Then (AWord word.Oc) (λ c. Returns (statement.Co s arms))))) a u
      → SpellsStatement a u
  co_found a w (joined (a_word t h) (joined {a = b} {u = u} d (joined {u = v} (grows {bs = bs} m) (joined (a_word c i) end)))) =
      into (λ y z. SpellsStatement y (t ∷ (u ++ (v ++ c ∷ z)))) (statement.Co t.span (b ∷ bs)) a _ end (s.co t c h d m i)

  if-sound : Sound SpellsStatement (if_at r)
  unfolding if_at
  if-sound = weaker if_found (then-sound (word-sound word.If) (λ s. then-sound branches-sound (λ x. then-sound (word-sound word.Fi) (λ c. returned-sound (statement.If s x.0 x.1)))))

  do-sound : Sound SpellsStatement (do_at r)
  unfolding do_at
  do-sound = weaker do_found (then-sound (word-sound word.Do) (λ s. then-sound branches-sound (λ x. then-sound (word-sound word.Od) (λ c. returned-sound (statement.Do s x.0 x.1)))))

  in-sound : Sound SpellsStatement (in_at r)
  unfolding in_at
  in-sound = weaker in_found (then-sound (word-sound word.In) (λ s. then-sound arms-sound (λ x. then-sound (word-sound word.Ni) (λ c. returned-sound (statement.In s x.0 x.1)))))

  for_all-sound : Sound SpellsStatement (for_all_at r)
  unfolding for_all_at
  for_all-sound = weaker for_all_found (then-sound (word-sound word.Fa) (λ s. then-sound (quantifiers-sound r.types.expressions expressions) (λ qs.
      then-sound (arrow_block-sound r l) (λ is. then-sound (word-sound word.Af) (λ c. returned-sound (statement.ForAll s qs is))))))

  co-sound : Sound SpellsStatement (co_at r)
  unfolding co_at more_co_arms_at next_co_arm_at
  co-sound = weaker co_found (then-sound (word-sound word.Co) (λ span. then-sound co_arm-sound (λ a.
      then-sound (list-sound (ASign sign.Parallel) SpellsCoArm SpellsMoreCoArms (sign_at sign.Parallel) (co_arm_at r) is_parallel
      s.no_more_co_arms next_co_arm (sign-sound sign.Parallel) co_arm-sound r.types.expressions.steps (a ∷ [])) (λ arms.
      then-sound (word-sound word.Oc) (λ c. returned-sound (statement.Co span arms))))))

  closed-sound : Sound SpellsStatement (closed_statement_at r)
  unfolding closed_statement_at
  closed-sound = branch-sound if-sound (branch-sound do-sound (branch-sound for_all-sound (branch-sound in-sound co-sound)))

  operating-sound : Sound SpellsStatement (operating_statement_at r)
  unfolding operating_statement_at call_statement_at send_at forward_at receive_at destroy_at create_statement_at
  operating-sound = branch-sound
      (weaker call_found (then-sound (word-sound word.Call) (λ s. then-sound (invocation-sound r.types.expressions expressions) (λ i. returned-sound (statement.Call s true i)))))
      (branch-sound
      (weaker send_found (then-sound (word-sound word.Send) (λ s. then-sound (invocation-sound r.types.expressions expressions) (λ i. returned-sound (statement.Send s i)))))
      (branch-sound
      (weaker forward_found (then-sound (word-sound word.Forward) (λ s. then-sound (invocation-sound r.types.expressions expressions) (λ i. returned-sound (statement.Forward s i)))))
      (branch-sound
      (weaker receive_found (then-sound (word-sound word.Receive) (λ s. then-sound name-sound (λ n. then-sound (places-sound r.types.expressions expressions)
      (λ es. returned-sound (statement.Receive s n es))))))
      (branch-sound
      (weaker destroy_found (then-sound (word-sound word.Destroy) (λ s. then-sound (primary-sound r.types.expressions expressions) (λ e. returned-sound (statement.Destroy s e)))))
      (branch-sound
      (weaker create_found (then-sound (create-sound r.types.expressions expressions) (λ c. returned-sound (statement.Create (create_span c) c))))
      closed-sound)))))

  worded-sound : Sound SpellsStatement (worded_statement_at r)
  unfolding worded_statement_at stop_at
  worded-sound = branch-sound (single-sound word.Skip statement.Skip s.skip) (branch-sound (single-sound word.Exit statement.Exit s.exit)
      (branch-sound (single-sound word.Next statement.Next s.next) (branch-sound (single-sound word.Return statement.Return s.returns)
      (branch-sound (single-sound word.Reply statement.Reply s.reply)
      (branch-sound (weaker stop_found (then-sound (word-sound word.Stop) (λ s. then-sound (status-sound r.types.expressions expressions) (λ m. returned-sound (statement.Stop s m)))))
      operating-sound)))))

  after_primary-sound : (p : Expr) → Sound (AfterPrimary p) (after_primary_at r.types.expressions p)
  unfolding after_primary_at assign_at exchange_at increment_at decrement_at plain_call_at
  after_primary-sound p = branch-sound
      (weaker (assign_found p) (then-sound (sign-sound sign.Assign) (λ b. then-sound (operand-sound r.types.expressions expressions 5)
      (λ e. returned-sound (statement.Assign (expr_span p) p e)))))
      (branch-sound
      (weaker (exchange_found p) (then-sound (sign-sound sign.Exchange) (λ b. then-sound (primary-sound r.types.expressions expressions)
      (λ e. returned-sound (statement.Exchange (expr_span p) p e)))))
      (branch-sound (weaker (increment_found p) (then-sound (sign-sound sign.Increment) (λ b. returned-sound (statement.Increment (expr_span p) p))))
      (branch-sound (weaker (decrement_found p) (then-sound (sign-sound sign.Decrement) (λ b. returned-sound (statement.Decrement (expr_span p) p))))
      (weaker (plain_call_found p) (then-sound (invoked-sound (invocation_of p)) (λ i. returned-sound (statement.Call (expr_span p) false i)))))))

  named_statement-sound : SoundWhere (λ t. is_name t.kind) SpellsStatement (named_statement_at r.types.expressions)
  unfolding named_statement_at
  named_statement-sound = weaker-where named_statement_found
      (then-where (weaker-where named-found (where-first (λ t. is_name t.kind) SpellsPrimary (primary_at r.types.expressions) primary-some
      (anywhere (λ t. is_name t.kind) (primary-sound r.types.expressions expressions)))) after_primary-sound)

  pub statement-sound : Sound SpellsStatement (statement_at r)
  unfolding statement_at
  statement-sound = branch-where named_statement-sound worded-sound

  -- blocks

  pub block-item-sound : Sound SpellsBlockItem (block_item_at r)
  unfolding block_item_at
  block-item-sound = branch-sound (weaker const_found (then-sound (const-sound r.types l.types) (λ d. returned-sound (item.Const d))))
      (branch-sound (weaker var_found (then-sound (var-sound r.types l.types) (λ d. returned-sound (item.Var d))))
      (weaker statement_found (then-sound statement-sound (λ a. returned-sound (item.Statement a)))))

  pub block-sound : Sound SpellsBlock (block_at r)
  unfolding block_at
  block-sound = weaker block_found (lists.list-sound (λ t. begins_block_item t.kind) SpellsBlockItem some_item (block_item_at r) block-item-sound r.types.expressions.steps)

-- so are the readers of every bound
pub statement_readers-sound : (k : ℕ) → SoundStatements (statement_readers k)
unfolding blocks
statement_readers-sound zero = record { types = type_readers-sound zero; block = unfit-sound SpellsBlock }
statement_readers-sound (suc k) = record { types = type_readers-sound (suc k); block = block-sound (statement_readers k) (statement_readers-sound k) }

-- Lists of items with separators.
use Rattle.std.proofs.Common.{◌≡◌, refl, sym, ◌∙◌, ap, subst, ℕ, Bool, true, false, List, [], ◌∷◌, ◌++◌, Ok, append_assoc}
use Rattle.std.specs.Prelude.{if◌then◌else◌}
use Rattle.sr_reader.specs.Reader.{Reader, returned, next_is}
use Rattle.sr_reader.proofs.Soundness.{Sound, anywhere, Then, joined, Returns, returns, returned-sound, weaker, weaker-where, weaker-unless, where-first, unless-first, then-sound, branch-by, append-nil, ended, into}
use Rattle.sr_reader.proofs.Loops.{while-sound}
use Rattle.sr_tree.specs.declared.token.Token.{Token}
use Rattle.sr_tree.specs.Components as c
use Rattle.sr_tree.specs.Components.{SpellsList}
use Rattle.sr_tree.specs.Tables.{IsSeparator}
use Rattle.sr_tree.specs.Tokens.{separator_at, is_separator}
use Rattle.sr_expr_reader.proofs.Families.{YieldsIn, LoopsIn, token_then, yields_then, below_returned, yields_returned, yields_met, yields_unmet, loop_stops, loop_goes, loop_within}
use Rattle.sr_expr_reader.proofs.TokensSound.{ASeparator, a_separator, separator-sound}
use Rattle.sr_expr_reader.proofs.TypePieces.{separator-reads}
use Rattle.sr_program_reader.specs.DeclarationReaders.{may_go_on, next_item_at, items_at, list_at}

-- ---- what is read is a list

-- one separator or one item more
data Stepped {A : Type 0} (Spells : A → List Token → Type 0) (before : List A × Bool) : List A × Bool → List Token → Type 0 where
  separated : (t : Token) → IsSeparator t → Stepped Spells before (before.0, true) (t ∷ [])
  an_item : {i : A} {u : List Token} → before.1 ≡ true → Spells i u → Stepped Spells before (before.0 ++ i ∷ [], false) u

-- items that stand after those before
pub data Listed {A : Type 0} (Spells : A → List Token → Type 0) (before : List A × Bool) : List A × Bool → List Token → Type 0 where
  listed : {more : List A} {begins : Bool} {u : List Token} → SpellsList Spells before.1 more u → Listed Spells before (before.0 ++ more, begins) u

module _ {A : Type 0} (begins : Token → Bool) (Spells : A → List Token → Type 0) (some : (i : A) → Spells i [] → ⊥) (item : Reader Token A)
    (l : Sound Spells item) where
  nothing-listed : (before : List A × Bool) → Listed Spells before before []
  nothing-listed (is, b) = subst (λ x. Listed Spells (is, b) (x, b) []) (append-nil is) (listed c.stop_here)

  lists-on : (x y z : List A × Bool) (u v : List Token) → Stepped Spells x y u → Listed Spells y z v → Listed Spells x z (u ++ v)
  lists-on x y z u v (separated t h) (listed m) = listed (c.separator t h m)
  lists-on (is, b) y z u v (an_item {i = i} h d) (listed {more = more} {begins = e} m) =
      subst (λ w. Listed Spells (is, b) (w, e) (u ++ v)) (sym (append_assoc is (i ∷ []) more))
      (listed (subst (λ w. SpellsList Spells w (i ∷ more) (u ++ v)) (sym h) (c.one d m)))

  -- what a step reads, whether an item may begin or not
  data Read (before : List A × Bool) : List A × Bool → List Token → Type 0 where
    read_separator : (t : Token) → IsSeparator t → Read before (before.0, true) (t ∷ [])
    read_item : {i : A} {u : List Token} → Spells i u → next_is (λ t. is_separator t.kind) u ≡ false → Read before (before.0 ++ i ∷ [], false) u

  some-read : (before after : List A × Bool) → Read before after [] → ⊥
  some-read before after (read_item {i = i} d h) = some i d

  separator-read : (before after : List A × Bool) (u : List Token) → Then ASeparator (λ t. Returns (before.0, true)) after u → Read before after u
  separator-read before after u (joined (a_separator t h) returns) = read_separator t h

  item-read : (before after : List A × Bool) (u : List Token)
      → (Then Spells (λ i. Returns (before.0 ++ i ∷ [], false)) after u × (next_is (λ t. is_separator t.kind) u ≡ false)) → Read before after u
  item-read before after w (joined {a = i} {u = u} {v = v} d end, h) =
      into (λ y z. next_is (λ t. is_separator t.kind) (u ++ z) ≡ false → Read before y (u ++ z)) (before.0 ++ i ∷ [], false) after v end
      (ended (λ x. next_is (λ t. is_separator t.kind) x ≡ false → Read before (before.0 ++ i ∷ [], false) x) u (read_item d)) h

  some-item : (before after : List A × Bool) → Then Spells (λ i. Returns (before.0 ++ i ∷ [], false)) after [] → ⊥
  some-item before after d = go after [] refl d
    where
      nothing : (after : List A × Bool) (i : A) (u v : List Token) → u ++ v ≡ [] → Spells i u → ⊥
      nothing after i [] v e d = some i d
      nothing after i (t ∷ u) v e d = cc

      go : (after : List A × Bool) (w : List Token) → w ≡ [] → Then Spells (λ i. Returns (before.0 ++ i ∷ [], false)) after w → ⊥
      go after w e (joined {a = i} {u = u} {v = v} d end) = nothing after i u v e d

  step-sound : (before : List A × Bool) → Sound (Read before) (next_item_at item before)
  unfolding next_item_at
  step-sound before = branch-by
      (anywhere (λ t. is_separator t.kind) (weaker (separator-read before) (then-sound separator-sound (λ t. returned-sound (before.0, true)))))
      (weaker-unless (item-read before) (unless-first (λ t. is_separator t.kind) _ _ (some-item before)
      (record { at = λ s e. (then-sound l (λ i. returned-sound (before.0 ++ i ∷ [], false))).at s })))

  may-begin : (b : Bool) (t : Token) → (if is_separator t.kind then true else if b then begins t else false) ≡ true → is_separator t.kind ≡ false → b ≡ true
  may-begin true t h e = refl
  may-begin false t h e = sym (ap (λ x. if x then true else false) e) ∙ h

  stepped : (before after : List A × Bool) (u : List Token) → (Read before after u × (next_is (may_go_on begins before) u ≡ true)) → Stepped Spells before after u
  stepped before after u (read_separator t h, e) = separated t h
  stepped before after [] (read_item {i = i} d h, e) = absurd (some i d)
  stepped before after (t ∷ u) (read_item d h, e) = an_item (may-begin before.1 t e h) d

  pub items-sound : (n : ℕ) (before : List A × Bool) → Sound (Listed Spells before) (items_at begins item n before)
  unfolding items_at
  items-sound n before = while-sound (may_go_on begins) (next_item_at item) (Stepped Spells) (Listed Spells) nothing-listed lists-on
      (λ x. weaker-where (stepped x) (where-first (may_go_on begins x) (Read x) (next_item_at item x) (some-read x) (anywhere (may_go_on begins x) (step-sound x)))) n before

  list-found : (is : List A) (u : List Token) → Then (Listed Spells ([], true)) (λ x. Returns x.0) is u → SpellsList Spells true is u
  list-found is w (joined {u = u} (listed {more = more} m) returns) = subst (SpellsList Spells true more) (sym (append-nil u)) m

  pub list-sound : (n : ℕ) → Sound (SpellsList Spells true) (list_at begins item n)
  unfolding list_at
  list-sound n = weaker list-found (then-sound (items-sound n ([], true)) (λ x. returned-sound x.0))

-- ---- a list is read

-- an item that begins with one of some tokens, and is read where an end stands after it
pub record IsItem {R A : Type 0} (family : ℕ → R) (begins : Token → Bool) (item : R → Reader Token A) (End : List Token → Type 0) (i : A) (u : List Token) : Type 0 where
  pub starts : (q : List Token) → next_is begins (u ++ q) ≡ true
  pub yields : (q : List Token) → End q → YieldsIn family item (u ++ q) (Ok (i, q))

-- what ends a list: it ends an item, is no separator and begins no item
pub record ClosesList (begins : Token → Bool) (End : List Token → Type 0) (q : List Token) : Type 0 where
  pub ends : End q
  pub separator : next_is (λ t. is_separator t.kind) q ≡ false
  pub item : next_is begins q ≡ false

module _ {R A : Type 0} (family : ℕ → R) (begins : Token → Bool) (item : R → Reader Token A) (End : List Token → Type 0)
    (ends : (t : Token) (q : List Token) → IsSeparator t → End (t ∷ q)) (other : (t : Token) → begins t ≡ true → is_separator t.kind ≡ false) where
  item-end : {is : List A} {v : List Token} → SpellsList (IsItem family begins item End) false is v → (q : List Token) → End q → End (v ++ q)
  item-end c.stop_here q e = e
  item-end (c.separator {u = u} t h m) q e = ends t (u ++ q) h

  stops-here : (before : List A) (b : Bool) (q : List Token) → ClosesList begins End q → next_is (may_go_on begins (before, b)) q ≡ false
  stops-here before b [] e = refl
  stops-here before b (t ∷ q) e = none (is_separator t.kind) b (begins t) e.separator e.item
    where
      none : (x b y : Bool) → x ≡ false → y ≡ false → (if x then true else if b then y else false) ≡ false
      none true b y h i = h
      none false true y h i = i
      none false false y h i = refl

  goes-on : (before : List A) (t : Token) → begins t ≡ true → may_go_on begins (before, true) t ≡ true
  goes-on before t h = ap (λ x. if x then true else begins t) (other t h) ∙ h

  -- whether an item may begin where a list ends
  pub may_end : {b : Bool} {is : List A} {v : List Token} → SpellsList (IsItem family begins item End) b is v → Bool
  may_end {b = b} c.stop_here = b
  may_end (c.separator t h m) = may_end m
  may_end (c.one d m) = may_end m

  pub items-complete : {b : Bool} {is : List A} {v : List Token} (d : SpellsList (IsItem family begins item End) b is v) (before : List A) (q : List Token)
      → ClosesList begins End q
      → LoopsIn family (may_go_on begins) (λ r. next_item_at (item r)) (before, b) (v ++ q) (Ok ((before ++ is, may_end d), q))
  unfolding next_item_at may_end
  items-complete {b = b} c.stop_here before q e =
      subst (λ x. LoopsIn family (may_go_on begins) (λ r. next_item_at (item r)) (before, b) q (Ok ((x, b), q))) (sym (append-nil before))
      (loop_stops (may_go_on begins) (λ r. next_item_at (item r)) (before, b) q (stops-here before b q e))
  items-complete {b = b} (c.separator {u = u} t h m) before q e =
      loop_goes (may_go_on begins) (λ r. next_item_at (item r)) (before, b) (before, true) t (u ++ q) [] (u ++ q) _ refl
      (ap (λ k. if is_separator k then true else if b then begins t else false) h)
      (yields_met _ _ _ (t ∷ (u ++ q)) _ (ap is_separator h)
      (token_then separator_at _ t (u ++ q) t.span _ (separator-reads t (u ++ q) h) (below_returned _ (u ++ q))))
      (items-complete m before q e)
  items-complete (c.one {u = []} d m) before q e = absurd (nothing (d.starts []))
    where
      nothing : false ≡ true → ⊥
      nothing h = cc
  items-complete (c.one {i = i} {is = is} {u = t ∷ u} {v = v} d m) before q e =
      subst (λ w. LoopsIn family (may_go_on begins) (λ r. next_item_at (item r)) (before, true) (t ∷ w) (Ok ((before ++ i ∷ is, may_end m), q))) (sym (append_assoc u v q))
      (loop_goes (may_go_on begins) (λ r. next_item_at (item r)) (before, true) (before ++ i ∷ [], false) t (u ++ (v ++ q)) u (v ++ q) _ refl
      (goes-on before t (d.starts []))
      (yields_unmet _ _ _ (t ∷ (u ++ (v ++ q))) _ (other t (d.starts []))
      (yields_then item _ (t ∷ u) (v ++ q) i _ (d.yields (v ++ q) (item-end m q e.ends)) (yields_returned _ (v ++ q))))
      (subst (λ x. LoopsIn family (may_go_on begins) (λ r. next_item_at (item r)) (before ++ i ∷ [], false) (v ++ q) (Ok ((x, may_end m), q))) (append_assoc before (i ∷ []) is)
      (items-complete m (before ++ i ∷ []) q e)))

  pub list-complete : (steps : R → ℕ) → ((k : ℕ) → steps (family k) ≡ k) → {is : List A} {v : List Token} → SpellsList (IsItem family begins item End) true is v
      → (q : List Token) → ClosesList begins End q → YieldsIn family (λ r. list_at begins (item r) (steps r)) (v ++ q) (Ok (is, q))
  unfolding list_at items_at
  list-complete steps same {is = is} {v = v} d q e =
      yields_then _ (λ r x. returned x.0) v q (is, may_end d) _
      (loop_within (may_go_on begins) (λ r. next_item_at (item r)) steps same ([], true) (v ++ q) _ (items-complete d [] q e)) (yields_returned is q)

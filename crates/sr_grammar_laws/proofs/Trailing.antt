-- Separators may follow the last item of a list, and so what ends with a block.
use Rattle.std.proofs.Common.{◌≡◌, Bool, true, List, [], ◌∷◌, ◌++◌, ap, sym, subst, ◌∙◌, append_assoc, Option}
use Rattle.std.proofs.lemmas.List.{append-nil}
use Rattle.sr_tree.specs.declared.statement.Arm.{Arm, roll-Arm}
use Rattle.sr_tree.specs.declared.statement.BlockItem.{BlockItem}
use Rattle.sr_tree.specs.declared.statement.Branch.{Branch, roll-Branch}
use Rattle.sr_tree.specs.declared.token.Token.{Token}
use Rattle.sr_tree.specs.Components as c
use Rattle.sr_tree.specs.Components.{SpellsList}
use Rattle.sr_tree.specs.Statements as s
use Rattle.sr_tree.specs.Statements.{SpellsItems, SpellsBlock, SpellsBranch, SpellsMoreBranches, SpellsBranches, SpellsOtherwise, SpellsArm, SpellsMoreArms}
use Rattle.sr_tree.specs.Expressions.{expr_span}
use Rattle.sr_tree.specs.Tables.{name_of}
use Rattle.sr_grammar_laws.specs.Retelling.{AllSeparators}

-- ---- lists of items

only_separators : {may_begin : Bool} (seps : List Token) → AllSeparators seps → SpellsItems may_begin [] seps
only_separators [] all = s.stop_here
only_separators (t ∷ seps) all = s.separator t all.0 (only_separators seps all.1)

pub trail_items : {may_begin : Bool} {is : List BlockItem} {u : List Token} (seps : List Token) → AllSeparators seps → SpellsItems may_begin is u → SpellsItems may_begin is (u ++ seps)
trail_items seps all s.stop_here = only_separators seps all
trail_items seps all (s.separator t h d) = s.separator t h (trail_items seps all d)
trail_items seps all (s.one {i = i} {is = is} {u = u} {v = v} d more) =
    subst (λ z. SpellsItems true (i ∷ is) z) (sym (append_assoc u v seps)) (s.one d (trail_items seps all more))

pub lead_items : {is : List BlockItem} {u : List Token} (seps : List Token) → AllSeparators seps → SpellsItems true is u → SpellsItems true is (seps ++ u)
lead_items [] all d = d
lead_items (t ∷ seps) all d = s.separator t all.0 (lead_items seps all.1 d)

only_separators_listed : {A : Type 0} {Spells : A → List Token → Type 0} {may_begin : Bool} (seps : List Token) → AllSeparators seps → SpellsList Spells may_begin [] seps
only_separators_listed [] all = c.stop_here
only_separators_listed (t ∷ seps) all = c.separator t all.0 (only_separators_listed seps all.1)

pub trail_list : {A : Type 0} {Spells : A → List Token → Type 0} {may_begin : Bool} {is : List A} {u : List Token} (seps : List Token) → AllSeparators seps → SpellsList Spells may_begin is u → SpellsList Spells may_begin is (u ++ seps)
trail_list seps all c.stop_here = only_separators_listed seps all
trail_list seps all (c.separator t h d) = c.separator t h (trail_list seps all d)
trail_list {Spells = Spells} seps all (c.one {i = i} {is = is} {u = u} {v = v} d more) =
    subst (λ z. SpellsList Spells true (i ∷ is) z) (sym (append_assoc u v seps)) (c.one d (trail_list seps all more))

pub lead_list : {A : Type 0} {Spells : A → List Token → Type 0} {is : List A} {u : List Token} (seps : List Token) → AllSeparators seps → SpellsList Spells true is u → SpellsList Spells true is (seps ++ u)
lead_list [] all d = d
lead_list (t ∷ seps) all d = c.separator t all.0 (lead_list seps all.1 d)

-- ---- blocks

pub trail_block : {is : List BlockItem} {u : List Token} (seps : List Token) → AllSeparators seps → SpellsBlock is u → SpellsBlock is (u ++ seps)
trail_block seps all (s.block d) = s.block (trail_items seps all d)

pub trail_branch : {b : Branch} {u : List Token} (seps : List Token) → AllSeparators seps → SpellsBranch b u → SpellsBranch b (u ++ seps)
trail_branch seps all (s.branch {e = e} {is = is} {u = u} {v = v} arrow h0 h1 h2) =
    subst (λ z. SpellsBranch (roll-Branch (record { span = expr_span e; guard = e; block = is })) z) (sym (append_assoc u (arrow ∷ v) seps)) (s.branch arrow h0 h1 (trail_block seps all h2))

-- two parts, one after the other, of which the last that there is ends with a block
pub record Both (First Second : List Token → Type 0) (u : List Token) : Type 0 where
  pub first : List Token
  pub second : List Token
  pub one : First first
  pub other : Second second
  pub is : first ++ second ≡ u

without_end : (u seps : List Token) → (u ++ seps) ++ [] ≡ (u ++ []) ++ seps
without_end u seps = append-nil (u ++ seps) ∙ ap (λ z. z ++ seps) (sym (append-nil u))

trail_more : {b : Branch} {bs : List Branch} {u v : List Token} (seps : List Token) → AllSeparators seps → SpellsBranch b u → SpellsMoreBranches bs v → Both (SpellsBranch b) (SpellsMoreBranches bs) ((u ++ v) ++ seps)
trail_more {u = u} seps all d s.no_more_branches = record { first = u ++ seps; second = []; one = trail_branch seps all d; other = s.no_more_branches; is = without_end u seps }
trail_more {u = u} seps all d (s.one_more_branch {u = x} {v = y} t h e more) =
    let r = trail_more seps all e more in
    record { first = u; second = t ∷ (r.first ++ r.second); one = d; other = s.one_more_branch t h r.one r.other; is = ap (λ z. u ++ t ∷ z) r.is ∙ sym (append_assoc u (t ∷ (x ++ y)) seps) }

pub trail_branches : {bs : List Branch} {u : List Token} (seps : List Token) → AllSeparators seps → SpellsBranches bs u → SpellsBranches bs (u ++ seps)
trail_branches seps all (s.branches {b = b} {bs = bs} d more) = let r = trail_more seps all d more in subst (λ z. SpellsBranches (b ∷ bs) z) r.is (s.branches r.one r.other)

pub trail_otherwise : {bs : List Branch} {o : Option (List BlockItem)} {u v : List Token} (seps : List Token) → AllSeparators seps → SpellsBranches bs u → SpellsOtherwise o v → Both (SpellsBranches bs) (SpellsOtherwise o) ((u ++ v) ++ seps)
trail_otherwise {u = u} seps all d s.no_otherwise = record { first = u ++ seps; second = []; one = trail_branches seps all d; other = s.no_otherwise; is = without_end u seps }
trail_otherwise {u = u} seps all d (s.otherwise {u = x} t o arrow h0 h1 h2 e) =
    record { first = u; second = t ∷ o ∷ arrow ∷ (x ++ seps); one = d; other = s.otherwise t o arrow h0 h1 h2 (trail_block seps all e); is = sym (append_assoc u (t ∷ o ∷ arrow ∷ x) seps) }

-- the end of four parts
four_more : (u v x y seps : List Token) (closing arrow : Token) → (z : List Token) → (u ++ closing ∷ (v ++ (x ++ (y ++ arrow ∷ z)))) ++ seps ≡ u ++ closing ∷ (v ++ (x ++ (y ++ arrow ∷ (z ++ seps))))
four_more u v x y seps closing arrow z =
    append_assoc u (closing ∷ (v ++ (x ++ (y ++ arrow ∷ z)))) seps
    ∙ ap (λ r. u ++ closing ∷ r) (append_assoc v (x ++ (y ++ arrow ∷ z)) seps ∙ ap (λ r. v ++ r) (append_assoc x (y ++ arrow ∷ z) seps ∙ ap (λ r. x ++ r) (append_assoc y (arrow ∷ z) seps)))

pub trail_arm : {a : Arm} {u : List Token} (seps : List Token) → AllSeparators seps → SpellsArm a u → SpellsArm a (u ++ seps)
trail_arm seps all (s.arm {ns = ns} {r = result} {c = condition} {o = order} {is = is} {u = u} {v = v} {x = x} {y = y} {z = z} n opening closing arrow h0 h1 h2 h3 h4 h5 h6 h7 h8) =
    subst (λ r. SpellsArm (roll-Arm (record { span = n.span; operation = name_of n; formals = ns; returned = result; condition = condition; order = order; block = is })) (n ∷ opening ∷ r)) (sym (four_more u v x y seps closing arrow z)) (s.arm n opening closing arrow h0 h1 h2 h3 h4 h5 h6 h7 (trail_block seps all h8))

pub trail_arms : {a : Arm} {others : List Arm} {u v : List Token} (seps : List Token) → AllSeparators seps → SpellsArm a u → SpellsMoreArms others v → Both (SpellsArm a) (SpellsMoreArms others) ((u ++ v) ++ seps)
trail_arms {u = u} seps all d s.no_more_arms = record { first = u ++ seps; second = []; one = trail_arm seps all d; other = s.no_more_arms; is = without_end u seps }
trail_arms {u = u} seps all d (s.one_more_arm {u = x} {v = y} t h e more) =
    let r = trail_arms seps all e more in
    record { first = u; second = t ∷ (r.first ++ r.second); one = d; other = s.one_more_arm t h r.one r.other; is = ap (λ z. u ++ t ∷ z) r.is ∙ sym (append_assoc u (t ∷ (x ++ y)) seps) }

-- arms and what is done otherwise
pub record InParts (a : Arm) (others : List Arm) (o : Option (List BlockItem)) (u seps : List Token) : Type 0 where
  pub first : List Token
  pub second : List Token
  pub third : List Token
  pub arm : SpellsArm a first
  pub more : SpellsMoreArms others second
  pub otherwise : SpellsOtherwise o third
  pub is : (rest : List Token) → first ++ (second ++ (third ++ rest)) ≡ u ++ (seps ++ rest)

pub trail_in : {a : Arm} {others : List Arm} {o : Option (List BlockItem)} {u v x : List Token} (seps : List Token) → AllSeparators seps → SpellsArm a u → SpellsMoreArms others v → SpellsOtherwise o x → InParts a others o ((u ++ v) ++ x) seps
trail_in {u = u} {v = v} seps all d more s.no_otherwise =
    let r = trail_arms seps all d more in
    record {
      first = r.first;
      second = r.second;
      third = [];
      arm = r.one;
      more = r.other;
      otherwise = s.no_otherwise;
      is = λ rest. sym (append_assoc r.first r.second rest) ∙ ap (λ z. z ++ rest) r.is ∙ append_assoc (u ++ v) seps rest ∙ ap (λ z. z ++ (seps ++ rest)) (sym (append-nil (u ++ v)));
    }
trail_in {u = u} {v = v} seps all d more (s.otherwise {u = x} t o arrow h0 h1 h2 e) =
    record {
      first = u;
      second = v;
      third = t ∷ o ∷ arrow ∷ (x ++ seps);
      arm = d;
      more = more;
      otherwise = s.otherwise t o arrow h0 h1 h2 (trail_block seps all e);
      is = λ rest.
          sym (append_assoc u v (t ∷ o ∷ arrow ∷ ((x ++ seps) ++ rest)))
          ∙ ap (λ z. (u ++ v) ++ t ∷ o ∷ arrow ∷ z) (append_assoc x seps rest)
          ∙ sym (append_assoc (u ++ v) (t ∷ o ∷ arrow ∷ x) (seps ++ rest));
    }

-- What a reader that is local and whole says of the pieces that have a tree.
use Rattle.std.proofs.Common.{◌≡◌, refl, sym, ◌∙◌, ap, subst, ℕ, zero, suc, ◌+◌, ◌-◌, ◌<◌, ◌≤◌, List, [], ◌∷◌, ◌++◌, length, take, drop, Result, Ok, Err, ◌⊎◌, inl, inr, append_assoc, length-append, arith}
use Rattle.sr_reader.specs.Pieces.{GoesOn, IsLongest, IsDead}
use Rattle.sr_reader.specs.Reader.{Reader}
use Rattle.sr_reader.proofs.Soundness.{Sound, Outcome, IsRead, IsStopped, first, append-nil}

-- the front of a list, by the length of its rest
take-front : {T : Type 0} (u q : List T) → take (length u) (u ++ q) ≡ u
take-front [] q = refl
take-front (t ∷ u) q = ap (λ w. t ∷ w) (take-front u q)

drop-front : {T : Type 0} (u q : List T) → drop (length u) (u ++ q) ≡ q
drop-front [] q = refl
drop-front (t ∷ u) q = drop-front u q

take-next : {T : Type 0} (u : List T) (t : T) (r : List T) → take (suc (length u)) (u ++ t ∷ r) ≡ u ++ t ∷ []
take-next [] t r = refl
take-next (x ∷ u) t r = ap (λ w. x ∷ w) (take-next u t r)

rejoined : {T : Type 0} (n : ℕ) (s : List T) → s ≡ take n s ++ drop n s
rejoined zero s = refl
rejoined (suc n) [] = refl
rejoined (suc n) (t ∷ s) = ap (λ w. t ∷ w) (rejoined n s)

front-count : {T : Type 0} (s u q : List T) → s ≡ u ++ q → length s - length q ≡ length u
front-count s u q e = let h : length s ≡ length u + length q = ap length e ∙ length-append u q in omega arith

front-is : {T : Type 0} (s u q : List T) → s ≡ u ++ q → take (length s - length q) s ≡ u
front-is s u q e = ap (λ n. take n s) (front-count s u q e) ∙ ap (take (length u)) e ∙ take-front u q

rest-is : {T : Type 0} (s u q : List T) → s ≡ u ++ q → drop (length s - length q) s ≡ q
rest-is s u q e = ap (λ n. drop n s) (front-count s u q e) ∙ ap (drop (length u)) e ∙ drop-front u q

-- how many symbols an answer leaves
left-of : {T A : Type 0} → Result (A × List T) ℕ → ℕ
left-of (Ok x) = length x.1
left-of (Err n) = 0

is-ok : {T A : Type 0} → Result (A × List T) ℕ → ℕ
is-ok (Ok x) = 1
is-ok (Err n) = 0

tree-of : {T A : Type 0} → A → Result (A × List T) ℕ → A
tree-of a (Ok x) = x.0
tree-of a (Err n) = a

differ-in-rest : {T A : Type 0} (a b : A) (t : T) (r : List T) → ◌≡◌ {A = Result (A × List T) ℕ} (Ok (a, [])) (Ok (b, t ∷ r)) → ⊥
unfolding left-of
differ-in-rest {T = T} {A = A} a b t r e = let h : 0 ≡ length (t ∷ r) = ap (left-of {T = T} {A = A}) e in absurd (omega (arith, h))

differ-in-kind : {T A : Type 0} (x : A × List T) (n : ℕ) → ◌≡◌ {A = Result (A × List T) ℕ} (Ok x) (Err n) → ⊥
unfolding is-ok
differ-in-kind {T = T} {A = A} x n e = let h : 1 ≡ 0 = ap (is-ok {T = T} {A = A}) e in absurd (omega (arith, h))

same-tree : {T A : Type 0} (a b : A) (q r : List T) → ◌≡◌ {A = Result (A × List T) ℕ} (Ok (a, q)) (Ok (b, r)) → a ≡ b
unfolding tree-of
same-tree {T = T} a b q r e = ap (tree-of {T = T} a) e

module _ {T A : Type 0} (Spells : A → List T → Type 0) (f : ℕ → Reader T A) (local : (k : ℕ) → Sound Spells (f k))
    (whole : (a : A) (u : List T) → Spells a u → (k : ℕ) → length u ≤ k → f k u ≡ Ok (a, [])) where
  read-at : (s : List T) (a : A) (q : List T) (k : ℕ) → f k s ≡ Ok (a, q) → IsRead Spells (f k) s a q
  read-at s a q k e = subst (Outcome Spells (f k) s) e ((local k).at s)

  stopped-at : (s : List T) (n k : ℕ) → f k s ≡ Err n → IsStopped (f k) s n
  stopped-at s n k e = subst (Outcome Spells (f k) s) e ((local k).at s)

  -- one list has at most one tree
  pub one-tree : (a b : A) (u : List T) → Spells a u → Spells b u → a ≡ b
  one-tree a b u d e = same-tree a b [] [] (sym (whole a u d (length u) (omega arith)) ∙ whole b u e (length u) (omega arith))

  -- what is read is the longest piece
  pub longest : (s : List T) (a : A) (q : List T) → ((k : ℕ) → length s ≤ k → f k s ≡ Ok (a, q)) → IsLongest Spells s a (length s - length q)
  longest s a q reads =
      let o = read-at s a q (length s) (reads (length s) (omega arith)) in
      record {
        within = omega arith;
        spelled = subst (Spells a) (sym (front-is s o.front q o.splits)) o.holds;
        ends = λ t rest e g. ends t rest (sym (rest-is s o.front q o.splits) ∙ e) g;
      }
    where
      ends : (t : T) (rest : List T) → q ≡ t ∷ rest → GoesOn Spells (take (length s - length q) s) t → ⊥
      ends t rest e g =
          let u = take (length s - length q) s in
          let w = u ++ t ∷ g.more in
          let k = length s + length w in
          let o = read-at s a q k (reads k (omega arith)) in
          let again : f k w ≡ Ok (a, t ∷ g.more) = ap (λ x. f k (x ++ t ∷ g.more)) (front-is s o.front q o.splits) ∙ o.again (t ∷ g.more) (sym (ap first e)) in
          differ-in-rest g.tree a t g.more (sym (whole g.tree w g.spelled k (omega arith)) ∙ again)

  -- it stops within the list
  pub within : (s : List T) (left : ℕ) → ((k : ℕ) → length s ≤ k → f k s ≡ Err left) → left ≤ length s
  within s left reads =
      let o = stopped-at s left (length s) (reads (length s) (omega arith)) in
      let c : length s ≡ length o.front + length o.rest = ap length o.splits ∙ length-append o.front o.rest in
      omega (arith, c, o.count)

  -- where it stops, nothing that has a tree goes on
  pub dead : (s : List T) (left : ℕ) → ((k : ℕ) → length s ≤ k → f k s ≡ Err left) → 0 < left → IsDead Spells s (suc (length s - left))
  dead s left reads h tree more d = go (o.rest) refl
    where
      o : IsStopped (f (length s)) s left
      o = stopped-at s left (length s) (reads (length s) (omega arith))

      go : (r : List T) → o.rest ≡ r → ⊥
      go [] e = let c : 0 ≡ left = sym (ap length e) ∙ o.count in absurd (omega (arith, c, h))
      go (t ∷ r) e =
          let u = o.front in
          let splits : s ≡ u ++ t ∷ r = o.splits ∙ ap (λ x. u ++ x) e in
          let c : length s ≡ length u + length o.rest = ap length o.splits ∙ length-append u o.rest in
          let n : suc (length s - left) ≡ suc (length u) = omega (arith, c, o.count) in
          let piece : take (suc (length s - left)) s ++ more ≡ u ++ t ∷ more =
          ap (λ x. x ++ more) (ap (λ m. take m s) n ∙ ap (take (suc (length u))) splits ∙ take-next u t r) ∙ append_assoc u (t ∷ []) more in
          let w = u ++ t ∷ more in
          let k = length s + length w in
          let p = stopped-at s left k (reads k (omega arith)) in
          let same : u ≡ p.front = sym (front-is s u o.rest o.splits) ∙ ap (λ m. take (length s - m) s) (o.count ∙ sym p.count) ∙ front-is s p.front p.rest p.splits in
          let rests : p.rest ≡ o.rest = sym (rest-is s p.front p.rest p.splits) ∙ ap (λ m. drop (length s - m) s) (p.count ∙ sym o.count) ∙ rest-is s u o.rest o.splits in
          let again : f k w ≡ Err (length (t ∷ more)) = ap (λ x. f k (x ++ t ∷ more)) same ∙ p.again (t ∷ more) (sym (ap first (rests ∙ e))) in
          differ-in-kind (tree, []) (length (t ∷ more)) (sym (whole tree w (subst (Spells tree) piece d) k (omega arith)) ∙ again)

  -- where nothing is read, no piece is the longest
  pub none : ((a : A) (u : List T) → Spells a u → (t : T) (q : List T) → GoesOn Spells u t ⊎ ((k : ℕ) → length (u ++ t ∷ q) ≤ k → f k (u ++ t ∷ q) ≡ Ok (a, t ∷ q)))
      → (s : List T) (left : ℕ) → ((k : ℕ) → length s ≤ k → f k s ≡ Err left) → (a : A) (count : ℕ) → IsLongest Spells s a count → ⊥
  none decides s left reads a count l = go (drop count s) refl
    where
      u : List T
      u = take count s

      go : (q : List T) → drop count s ≡ q → ⊥
      go [] e =
          let i : s ≡ take count s = rejoined count s ∙ ap (λ x. take count s ++ x) e ∙ append-nil (take count s) in
          let n : length s ≡ length (take count s) = ap length i in
          differ-in-kind (a, []) left (sym (whole a (take count s) l.spelled (length s) (omega (arith, n))) ∙ ap (f (length s)) (sym i) ∙ reads (length s) (omega arith))
      go (t ∷ q) e =
          let i : s ≡ take count s ++ t ∷ q = rejoined count s ∙ ap (λ x. take count s ++ x) e in
          by_case t q e i (decides a (take count s) l.spelled t q)
        where
          by_case : (t : T) (q : List T) → drop count s ≡ t ∷ q → s ≡ take count s ++ t ∷ q
              → GoesOn Spells (take count s) t ⊎ ((k : ℕ) → length (take count s ++ t ∷ q) ≤ k → f k (take count s ++ t ∷ q) ≡ Ok (a, t ∷ q)) → ⊥
          by_case t q e i (inl g) = l.ends t q e g
          by_case t q e i (inr y) =
              let n : length s ≡ length (take count s ++ t ∷ q) = ap length i in
              differ-in-kind (a, t ∷ q) left (sym (y (length s) (omega (arith, n))) ∙ ap (f (length s)) (sym i) ∙ reads (length s) (omega arith))

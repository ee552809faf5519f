-- Where a run stands after each of its items.
use Rattle.std.proofs.Common.{◌≡◌, ◌≢◌, ◌==◌, ◌<◌, ◌≤◌, ◌+◌, ◌⊎◌, inl, inr, ⊎_elim, ℕ, zero, suc, Bool, true, false, List, [], ◌∷◌, ◌++◌, length, map, take, refl, ap, sym, ◌∙◌, subst, arith, add-one, eq-eqb, eqb-true, true≢false}
use Rattle.std.proofs.lemmas.Bool.{cases_eq}
use Rattle.std.specs.Prelude.{Option, Some, None, count_by, slice_get, slice_index}
use Rattle.sr_ask.specs.Items.{number_of}
use Rattle.sr_ask.specs.declared.item.Item.{Item}
use Rattle.sr_ask.specs.declared.item.Item.TheVariants.{Step, Quiesce, Tick}
use Rattle.sr_ask.specs.declared.start.Start.{Start}
use Rattle.sr_core.specs.declared.component.Core.{Core}
use Rattle.sr_world.specs.Does.{Does, Did, Makes, Cannot, Ends, Undecided}
use Rattle.sr_world.specs.Endings.{quiesce}
use Rattle.sr_world.specs.Runs.{Goes, Illegal, Next, Over, State, and_then, asks_for, asks_next, begun, is_legal, is_new, next, no_step, rested, run, step_of, stepped, where_true, with_answer}
use Rattle.sr_world.specs.Sound.{HasSoundNumbers, IsSound, name_in, names_in, times_used}
use Rattle.sr_world.specs.Worlds.{World, started}
use Rattle.sr_world.proofs.CountLemmas.{count-cons, one}
use Rattle.sr_world.proofs.LawProofs.{run-append, sound-run}
use Rattle.sr_world.proofs.RunLemmas.{new-number}
use Rattle.sr_races.specs.Items.{Run, Since, number_at, passes_at, stands_after}

-- ---- lists

pub taken-more : {A : Type 0} (xs : List A) (k : ℕ) (x : A) → slice_get xs k ≡ Some x → take (suc k) xs ≡ take k xs ++ x ∷ []
taken-more [] k x is = absurd (cc)
taken-more (y ∷ ys) zero x is = let same : y ≡ x = cc in ap (λ z. z ∷ []) same
taken-more (y ∷ ys) (suc k) x is = ap (λ zs. y ∷ zs) (taken-more ys k x is)

pub got-within : {A : Type 0} (xs : List A) (k : ℕ) → k < length xs → (x : A) × (slice_get xs k ≡ Some x)
got-within [] k less = absurd (omega arith)
got-within (x ∷ xs) zero less = (x, refl)
got-within (x ∷ xs) (suc k) less = got-within xs k (omega arith)

pub got-map : {A : Type 0} (f : A → ℕ) (xs : List A) (k : ℕ) (x : A) → slice_get xs k ≡ Some x → slice_index (map f xs) k ≡ f x
got-map f [] k x is = absurd (cc)
got-map f (y ∷ ys) zero x is = let same : y ≡ x = cc in ap f same
got-map f (y ∷ ys) (suc k) x is = got-map f ys k x is

-- ---- one item

module _ (r : Run) where
  -- one item more
  pub stands-next : (k : ℕ) (item : Item) → slice_get r.items k ≡ Some item → stands_after r (k + 1) ≡ and_then (stands_after r k) (λ state. next r.core r.limit state item)
  stands-next k item is =
      ap (λ n. stands_after r n) (add-one k) ∙ ap (λ items. run r.core r.limit r.input items) (taken-more r.items k item is)
      ∙ run-append r.core r.limit (Goes (begun r.input)) (take k r.items) (item ∷ [])

  pub next-at : (k : ℕ) (item : Item) (state : State) → slice_get r.items k ≡ Some item → stands_after r k ≡ Goes state → stands_after r (k + 1) ≡ next r.core r.limit state item
  next-at k item state is at = stands-next k item is ∙ ap (λ now. and_then now (λ s. next r.core r.limit s item)) at

  before-goes : (now : Next) (item : Item) → is_legal (and_then now (λ state. next r.core r.limit state item)) ≡ true → (state : State) × (now ≡ Goes state)
  before-goes (Goes state) item legal = (state, refl)
  before-goes (Over ending state) item legal = absurd (true≢false (sym legal))
  before-goes Illegal item legal = absurd (true≢false (sym legal))

  -- where a run goes on after an item, it went on before
  pub one-before : (k : ℕ) → k < length r.items → is_legal (stands_after r (k + 1)) ≡ true → (state : State) × (stands_after r k ≡ Goes state)
  one-before k within legal =
      let item = got-within r.items k within in
      before-goes (stands_after r k) item.0 (sym (ap is_legal (stands-next k item.0 item.1)) ∙ legal)

  legal-goes : (now : Next) (state : State) → now ≡ Goes state → is_legal now ≡ true
  legal-goes now state is = ap is_legal is

  abbrev GoesAt : ℕ → Type 0
  GoesAt k = (state : State) × (stands_after r k ≡ Goes state)

  pub all-before : (count k : ℕ) → k ≤ count → count ≤ length r.items → is_legal (stands_after r count) ≡ true → (k ≡ count) ⊎ GoesAt k
  all-before zero k less within legal = inl (omega arith)
  all-before (suc count) k less within legal =
      let last : is_legal (stands_after r (count + 1)) ≡ true = ap (λ n. is_legal (stands_after r n)) (add-one count) ∙ legal in
      let here = one-before count (omega arith) last in
      let at-count : k ≡ count → GoesAt k = λ e. subst (λ n. GoesAt n) (sym e) here in
      let earlier : k ≢ suc count → GoesAt k = λ ne. ⊎_elim at-count (λ goes. goes) (all-before count k (omega arith) (omega arith) (legal-goes (stands_after r count) here.0 here.1)) in
      ⊎_elim (λ e. inl e) (λ ne. inr (earlier ne)) (cases_eq k (suc count))

  -- ---- what comes to stand and stays

  pub since-last : (test : World → Bool) (j n : ℕ) → n ≤ j → ((k : ℕ) → n ≤ k → k ≤ j → passes_at r k test ≡ true) → passes_at r 0 test ≡ false
      → (i : ℕ) × (i < n) × Since r i j test
  since-last test j zero less stays none = absurd (true≢false (sym (stays 0 (omega arith) (omega arith)) ∙ none))
  since-last test j (suc n) less stays none-first = by (since-last test j n (omega arith)) (passes_at r n test) refl
    where
      by : (((k : ℕ) → n ≤ k → k ≤ j → passes_at r k test ≡ true) → passes_at r 0 test ≡ false → (i : ℕ) × (i < n) × Since r i j test) → (b : Bool) → passes_at r n test ≡ b
          → (i : ℕ) × (i < suc n) × Since r i j test
      by earlier false none = (n, omega arith, record { before = none; after = λ k more short. stays k (omega arith) short })
      by earlier true is =
          let here : (k : ℕ) → k ≡ n → passes_at r k test ≡ true = λ k e. subst (λ m. passes_at r m test ≡ true) (sym e) is in
          let found = earlier (λ k more short. ⊎_elim (here k) (λ ne. stays k (omega arith) short) (cases_eq k n)) none-first in
          (found.0, omega (arith, found.1), found.2)

-- ---- numbers

-- the number of a step that is one was never given out, unless it is 0
unused-does : (state : State) (p name : ℕ) (d : Does) → HasSoundNumbers state.world → is_legal (stepped state p name d) ≡ true → times_used state.world name ≡ 0
unused-does state p name (Did w a) sound legal = by (name == 0) refl legal
  where
    by : (b : Bool) → (name == 0) ≡ b → is_legal (where_true b (Goes (record { world = w; given = with_answer p a state.given }))) ≡ true → times_used state.world name ≡ 0
    by true is legal = subst (λ n. times_used state.world n ≡ 0) (sym (eqb-true name 0 is)) sound.zero_never
    by false is legal = absurd (true≢false (sym legal))
unused-does state p name (Makes w a) sound legal = by (is_new state.world name) refl legal
  where
    by : (b : Bool) → is_new state.world name ≡ b → is_legal (where_true b (Goes (record { world = w; given = with_answer p a state.given }))) ≡ true → times_used state.world name ≡ 0
    by true is legal = (new-number state.world name is).1
    by false is legal = absurd (true≢false (sym legal))
unused-does state p name Cannot sound legal = absurd (true≢false (sym legal))
unused-does state p name (Ends ending) sound legal = by (name == 0) refl legal
  where
    by : (b : Bool) → (name == 0) ≡ b → is_legal (where_true b (Over ending state)) ≡ true → times_used state.world name ≡ 0
    by true is legal = subst (λ n. times_used state.world n ≡ 0) (sym (eqb-true name 0 is)) sound.zero_never
    by false is legal = absurd (true≢false (sym legal))
unused-does state p name Undecided sound legal = absurd (true≢false (sym legal))

unused-rest : (state : State) (name : ℕ) (d : Does) → HasSoundNumbers state.world → is_legal (rested state name d) ≡ true → times_used state.world name ≡ 0
unused-rest state name (Did w a) sound legal = absurd (true≢false (sym legal))
unused-rest state name (Makes w a) sound legal = by (is_new state.world name) refl legal
  where
    by : (b : Bool) → is_new state.world name ≡ b → is_legal (where_true b (Goes (record state { world = w }))) ≡ true → times_used state.world name ≡ 0
    by true is legal = (new-number state.world name is).1
    by false is legal = absurd (true≢false (sym legal))
unused-rest state name Cannot sound legal = absurd (true≢false (sym legal))
unused-rest state name (Ends ending) sound legal = by (name == 0) refl legal
  where
    by : (b : Bool) → (name == 0) ≡ b → is_legal (where_true b (Over ending state)) ≡ true → times_used state.world name ≡ 0
    by true is legal = subst (λ n. times_used state.world n ≡ 0) (sym (eqb-true name 0 is)) sound.zero_never
    by false is legal = absurd (true≢false (sym legal))
unused-rest state name Undecided sound legal = absurd (true≢false (sym legal))

pub unused-item : (core : Core) (limit : ℕ) (state : State) (item : Item) → HasSoundNumbers state.world → is_legal (next core limit state item) ≡ true → times_used state.world (number_of item) ≡ 0
unused-item core limit state (Step p name) sound legal = by (started state.world p) legal
  where
    by : (o : Option Start) → is_legal (step_of core limit state p name o) ≡ true → times_used state.world name ≡ 0
    by None legal = absurd (true≢false (sym legal))
    by (Some start) legal = unused-does state p name (asks_for core state.world p name (asks_next core limit state start)) sound legal
unused-item core limit state (Quiesce name) sound legal = by (no_step core limit state) legal
  where
    by : (b : Bool) → is_legal (where_true b (rested state name (quiesce core name state.world))) ≡ true → times_used state.world name ≡ 0
    by true legal = unused-rest state name (quiesce core name state.world) sound legal
    by false legal = absurd (true≢false (sym legal))
unused-item core limit state (Tick to) sound legal = sound.zero_never

count-join : (n : ℕ) (xs ys : List ℕ) → count_by (λ u. u == n) (xs ++ ys) ≡ count_by (λ u. u == n) xs + count_by (λ u. u == n) ys
count-join n [] ys = omega arith
count-join n (x ∷ xs) ys =
    omega (arith, count-cons (λ u. u == n) x (xs ++ ys), count-cons (λ u. u == n) x xs, count-join n xs ys)

own-counts : (item : Item) (n : ℕ) → 0 < n → number_of item ≡ n → 1 ≤ count_by (λ u. u == n) (name_in item)
own-counts (Step p zero) n some is = absurd (omega arith)
own-counts (Step p (suc m)) n some is = let same = ap one (eq-eqb (suc m) n is) in omega (arith, count-cons (λ u. u == n) (suc m) [], same)
own-counts (Quiesce zero) n some is = absurd (omega arith)
own-counts (Quiesce (suc m)) n some is = let same = ap one (eq-eqb (suc m) n is) in omega (arith, count-cons (λ u. u == n) (suc m) [], same)
own-counts (Tick to) n some is = absurd (omega arith)

-- a number of one of the first items, so many, is among theirs
given-counts : (items : List Item) (i k n : ℕ) → 0 < n → slice_index (map number_of items) i ≡ n → i < k → 1 ≤ count_by (λ u. u == n) (names_in (take k items))
given-counts [] i k n some is less = absurd (omega arith)
given-counts (item ∷ items) i zero n some is less = absurd (omega arith)
given-counts (item ∷ items) zero (suc k) n some is less = omega (arith, count-join n (name_in item) (names_in (take k items)), own-counts item n some is)
given-counts (item ∷ items) (suc i) (suc k) n some is less =
    omega (arith, count-join n (name_in item) (names_in (take k items)), given-counts items i k n some is (omega arith))

module _ (r : Run) where
  pub sound-at : (k : ℕ) (state : State) → stands_after r k ≡ Goes state → IsSound (take k r.items) state
  sound-at k state at = sound-run r.core r.limit r.input (take k r.items) state at

  -- a number that was given out is used from then on
  pub used-after : (i k n : ℕ) (state : State) → 0 < n → number_at r i ≡ n → i < k → stands_after r k ≡ Goes state → 1 ≤ times_used state.world n
  used-after i k n state some is less at =
      let used = (sound-at k state at).used in
      let counted : times_used state.world n ≡ count_by (λ u. u == n) (1 ∷ names_in (take k r.items)) = ap (count_by (λ u. u == n)) used in
      omega (arith, counted, count-cons (λ u. u == n) 1 (names_in (take k r.items)), given-counts r.items i k n some is less)

  -- no later item has the number
  pub number-once : (i k n : ℕ) → 0 < n → number_at r i ≡ n → i < k → k < length r.items → is_legal (stands_after r (k + 1)) ≡ true → number_at r k ≢ n
  number-once i k n some is less within legal same =
      let here = one-before r k within legal in
      let item = got-within r.items k within in
      let step : is_legal (next r.core r.limit here.0 item.0) ≡ true = sym (ap is_legal (next-at r k item.0 here.0 item.1 here.1)) ∙ legal in
      let number : number_of item.0 ≡ n = sym (got-map number_of r.items k item.0 item.1) ∙ same in
      let unused : times_used here.0.world n ≡ 0 = subst (λ m. times_used here.0.world m ≡ 0) number (unused-item r.core r.limit here.0 item.0 (sound-at k here.0 here.1).numbers step) in
      omega (arith, unused, used-after i k n here.0 some is less here.1)

-- What a call on one bucket means for all variables.
use Rattle.std.proofs.Common.{◌≡◌, ℕ, ◌<◌, List, get_or, Option, Some, unwrap_or, Result, Ok, Err, refl, ap, sym, ◌∙◌, subst}
use Rattle.std.specs.FinMap as map
use Rattle.std.specs.Prelude.{slice_get, slice_set}
use Rattle.sr_buckets.specs.Parts.{gathered, home}
use Rattle.sr_buckets.proofs.PartLemmas.{IsSet, Sets, at-home, gathered-same, gathered-set, kept-at, look-at, placed-same, placed-set, set-home}
use Rattle.sr_in_place.specs.Puts.{Wrote}
use Rattle.sr_value.specs.declared.fault.Fault.{Fault}
use Rattle.sr_value.specs.declared.fault.ValueFail.{ValueFail}
use Rattle.sr_value.specs.declared.fault.ValueFail.TheVariants.{Fault as a_fault, NoMemory as out_of_memory}
use Rattle.sr_value.specs.declared.shape.Sel.{Sel}
use Rattle.sr_value.specs.declared.shape.Shape.{Shape}
use Rattle.sr_value.specs.declared.value.Value.{Value}
use Rattle.sr_value.specs.Parts.{with_ok}
use Rattle.sr_value.specs.Shapes.{default_value}
use Rattle.sr_store.specs.Buckets.{AreBuckets, all_in}
use Rattle.sr_store.specs.Variables.{ByNumber, CanPlace, Made, Stored, Variables, block_of, block_stored, declared_in, room_of, stored_in, with_block, with_variable}
use Rattle.sr_store.specs.declared.variable.Variable.{Variable}
use Rattle.sr_store.proofs.KeptLemmas.{get-with_block, listed}

-- the bucket of a block is another now
pub record Turns (old new : List Stored) (stored : Stored) (p : ℕ) (was bucket : Stored) : Type 0 where
  pub seen : all_in old ≡ stored
  pub placed : AreBuckets old
  pub at : slice_get old (home p) ≡ Some was
  pub set : IsSet old new (home p) bucket

pub turned : (old : List Stored) (stored : Stored) (p i : ℕ) (other bucket : Stored) → all_in old ≡ stored → AreBuckets old → i ≡ home p
    → Turns old (slice_set old i bucket) stored p (get_or old i other) bucket
turned old stored p i other bucket seen placed is = record {
  seen = seen;
  placed = placed;
  at = at-home old p i placed.all is other;
  set = set-home old p i placed.all is bucket;
}

-- the variables of a block are those in its bucket
pub block-at : (old : List Stored) (stored : Stored) (p : ℕ) (was : Stored) → all_in old ≡ stored → slice_get old (home p) ≡ Some was → block_of was.variables p ≡ block_of stored.variables p
block-at old stored p was seen at = ap (λ o. unwrap_or o map.empty) (sym (look-at (λ s. s.variables) old p was at)) ∙ ap (λ s. block_of s.variables p) seen

-- the room of a block is that in its bucket
pub room-look : (buckets : List Stored) (q : ℕ) (b : Stored) → slice_get buckets (home q) ≡ Some b → room_of (all_in buckets) q ≡ room_of b q
room-look buckets q b at = ap (λ o. unwrap_or o 0) (look-at (λ s. s.room) buckets q b at)

module _ (old new : List Stored) (stored : Stored) (p : ℕ) (was bucket : Stored) (t : Turns old new stored p was bucket) where
  pub block-was : block_of was.variables p ≡ block_of stored.variables p
  block-was = block-at old stored p was t.seen t.at

  -- ---- the variables

  sets : (block : ByNumber Variable) → bucket.variables ≡ with_block was.variables p block → Sets p (listed block) was.variables bucket.variables
  sets block is q = ap (λ (m : Variables). map.get m q) is ∙ get-with_block was.variables p block q

  pub block-set : (block : ByNumber Variable) → bucket.variables ≡ with_block was.variables p block → (all_in new).variables ≡ with_block stored.variables p block
  block-set block is =
      gathered-set (λ s. s.variables) old new (home p) was bucket t.at t.set p refl (listed block) (sets block is) (with_block stored.variables p block)
      (λ q. ap (λ s. map.get (with_block s.variables p block) q) (sym t.seen) ∙ get-with_block (all_in old).variables p block q)

  pub block-placed : (block : ByNumber Variable) → bucket.variables ≡ with_block was.variables p block → AreBuckets new
  block-placed block is = record {
    all = t.set.long ∙ t.placed.all;
    variables = placed-set (λ s. s.variables) old new (home p) was bucket t.at t.set p refl (listed block) (sets block is) t.placed.variables;
  }

  pub variables-same : bucket.variables ≡ was.variables → (all_in new).variables ≡ stored.variables
  variables-same same = gathered-same (λ s. s.variables) old new (home p) was bucket t.at t.set same ∙ ap (λ s. s.variables) t.seen

  pub same-placed : bucket.variables ≡ was.variables → AreBuckets new
  same-placed same = record {
    all = t.set.long ∙ t.placed.all;
    variables = placed-same (λ s. s.variables) old new (home p) was bucket t.at t.set same t.placed.variables;
  }

  -- a bucket that is as it was
  pub all-same : bucket ≡ was → all_in new ≡ stored
  all-same same =
      let variables : gathered (λ s. s.variables) new ≡ gathered (λ s. s.variables) old = gathered-same (λ s. s.variables) old new (home p) was bucket t.at t.set (ap (λ s. s.variables) same) in
      let room : gathered (λ s. s.room) new ≡ gathered (λ s. s.room) old = gathered-same (λ s. s.room) old new (home p) was bucket t.at t.set (ap (λ s. s.room) same) in
      let made : Variables → ByNumber ℕ → Stored = λ v r. record { variables = v; room = r } in
      ap (λ v. made v (gathered (λ s. s.room) new)) variables ∙ ap (λ r. made (gathered (λ s. s.variables) old) r) room ∙ t.seen

  -- ---- what is meant of the bucket is meant of all

  module _ {X : Type 0} (given : Result X Fault) (block : X → ByNumber Variable) where
    meant : Variables → Result Variables Fault
    meant all = with_ok given (λ x. Ok (with_block all p (block x)))

    made-ok : with_ok given (λ x. Ok (with_block was.variables p (block x))) ≡ Ok bucket.variables
        → (with_ok given (λ x. Ok (with_block stored.variables p (block x))) ≡ Ok (all_in new).variables) × AreBuckets new
    made-ok is = by given is
      where
        by : (g : Result X Fault) → with_ok g (λ x. Ok (with_block was.variables p (block x))) ≡ Ok bucket.variables
            → (with_ok g (λ x. Ok (with_block stored.variables p (block x))) ≡ Ok (all_in new).variables) × AreBuckets new
        by (Ok x) h =
            let same : bucket.variables ≡ with_block was.variables p (block x) = cc in
            (ap (λ all. Ok all) (sym (block-set (block x) same)), block-placed (block x) same)
        by (Err fault) h = absurd (cc)

    made-err : (fault : Fault) → with_ok given (λ x. Ok (with_block was.variables p (block x))) ≡ Err fault → with_ok given (λ x. Ok (with_block stored.variables p (block x))) ≡ Err fault
    made-err fault is = by given is
      where
        by : (g : Result X Fault) → with_ok g (λ x. Ok (with_block was.variables p (block x))) ≡ Err fault → with_ok g (λ x. Ok (with_block stored.variables p (block x))) ≡ Err fault
        by (Ok x) h = absurd (cc)
        by (Err other) h = h

  -- ---- a declaration

  module _ (var : ℕ) (shape : Shape) where
    abbrev variable_of : Value → Variable
    variable_of value = record { shape = shape; value = value }

    declared-all : declared_in stored.variables p var shape ≡ with_ok (default_value shape) (λ value. Ok (with_block stored.variables p (map.insert (block_of was.variables p) var (variable_of value))))
    declared-all = ap (λ b. with_ok (default_value shape) (λ value. Ok (with_block stored.variables p (map.insert b var (variable_of value))))) (sym block-was)

    pub declared : (result : Result (Unit {0}) ValueFail) → Made result was.variables bucket.variables (declared_in was.variables p var shape)
        → Made result stored.variables (all_in new).variables (declared_in stored.variables p var shape)
    declared (Ok done) is = declared-all ∙ (made-ok (default_value shape) (λ value. map.insert (block_of was.variables p) var (variable_of value)) is).0
    declared (Err (a_fault fault)) is =
        (declared-all ∙ made-err (default_value shape) (λ value. map.insert (block_of was.variables p) var (variable_of value)) fault is.0, variables-same is.1)
    declared (Err out_of_memory) is = variables-same is

    pub declared-placed : (result : Result (Unit {0}) ValueFail) → Made result was.variables bucket.variables (declared_in was.variables p var shape) → AreBuckets new
    declared-placed (Ok done) is = (made-ok (default_value shape) (λ value. map.insert (block_of was.variables p) var (variable_of value)) is).1
    declared-placed (Err (a_fault fault)) is = same-placed is.1
    declared-placed (Err out_of_memory) is = same-placed is

  -- ---- a store

  module _ (var : ℕ) (path : List Sel) (value : Value) where
    stored-all : stored_in stored.variables p var path value ≡ with_ok (block_stored (block_of was.variables p) var path value) (λ changed. Ok (with_block stored.variables p changed))
    stored-all = ap (λ b. with_ok (block_stored b var path value) (λ changed. Ok (with_block stored.variables p changed))) (sym block-was)

    pub wrote-all : (result : Result (Unit {0}) Fault) → Wrote result was.variables bucket.variables (stored_in was.variables p var path value)
        → Wrote result stored.variables (all_in new).variables (stored_in stored.variables p var path value)
    wrote-all (Ok done) is = stored-all ∙ (made-ok (block_stored (block_of was.variables p) var path value) (λ changed. changed) is).0
    wrote-all (Err fault) is = (stored-all ∙ made-err (block_stored (block_of was.variables p) var path value) (λ changed. changed) fault is.0, variables-same is.1)

    pub wrote-placed : (result : Result (Unit {0}) Fault) → Wrote result was.variables bucket.variables (stored_in was.variables p var path value) → AreBuckets new
    wrote-placed (Ok done) is = (made-ok (block_stored (block_of was.variables p) var path value) (λ changed. changed) is).1
    wrote-placed (Err fault) is = same-placed is.1

  -- ---- a variable that is put in its place

  pub variable-set : (var : ℕ) (variable : Variable) → bucket.variables ≡ with_variable was.variables p var variable → (all_in new).variables ≡ with_variable stored.variables p var variable
  variable-set var variable is = block-set (map.insert (block_of was.variables p) var variable) is ∙ ap (λ b. with_block stored.variables p (map.insert b var variable)) block-was

  -- ---- room

  pub room-was : room_of stored p ≡ room_of was p
  room-was = ap (λ s. room_of s p) (sym t.seen) ∙ room-look old p was t.at

  pub room-is : room_of (all_in new) p ≡ room_of bucket p
  room-is = room-look new p bucket t.set.here

  -- a block that has room in its bucket has it
  pub keeps : (q : ℕ) → (CanPlace was q → CanPlace bucket q) → CanPlace stored q → CanPlace (all_in new) q
  keeps q kept can =
      kept-at (λ s. s.room) old new (home p) was bucket t.at t.set (λ (o : Option ℕ). 0 < unwrap_or o 0) q kept (subst (λ s. CanPlace s q) (sym t.seen) can)

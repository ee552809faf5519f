-- What one block that changes means for the variables and the room of all.
use Rattle.std.proofs.Common.{◌≡◌, ◌≢◌, ℕ, ◌<◌, ◌≤◌, Bool, true, false, cond, ◌==◌, List, [], ◌∷◌, Option, None, Some, is_some, unwrap_or, Result, Ok, Err, OnOk, OnErr, refl, ap, sym, ◌∙◌, subst, arith}
use Rattle.std.specs.Prelude.{map as each}
use Rattle.std.proofs.lemmas.Bool.{eqb-true}
use Rattle.std.proofs.lemmas.Map.Steps.{set_value_same}
use Rattle.std.specs.Cmp.{nat_cmp_total}
use Rattle.std.specs.FinMap as map
use Rattle.std.specs.Map.{lookup, set_value}
use Rattle.std.specs.BTreeMap.{BTreeMap, Updates, WritesThrough, get_by, is_at}
use Rattle.std.specs.Option.{option_map}
use Rattle.std.specs.Ordering.{nat_cmp, is_eq}
use Rattle.sr_value.specs.declared.fault.Fault.{Fault}
use Rattle.sr_value.specs.declared.fault.Fault.TheVariants.{Early}
use Rattle.sr_value.specs.declared.shape.Sel.{Sel}
use Rattle.sr_value.specs.declared.value.Value.{Value}
use Rattle.sr_value.specs.Parts.{loaded_at, or_fault, stored_at, with_ok}
use Rattle.sr_store.specs.Kept.{Kept, stored_on, variables_on}
use Rattle.sr_in_place.specs.Puts.{Wrote}
use Rattle.sr_store.specs.Variables.{ByNumber, CanPlace, KeepsOtherRoom, KeepsRoom, Stored, Variables, block_loaded, block_of, block_stored, loaded_in, room_of, stored_in, with_block, with_variable}
use Rattle.sr_store.specs.declared.variable.Variable.{Variable}
use Rattle.sr_buckets.proofs.NumberLemmas.{apart, by_number, itself, turned}

pub on_ok : {T E : Type 0} {P Q : Type 0} (r : Result T E) → OnOk r P → (P → Q) → OnOk r Q
on_ok (Ok x) h f = f h
on_ok (Err e) h f = h

pub on_err : {T E : Type 0} {P Q : Type 0} (r : Result T E) → OnErr r P → (P → Q) → OnErr r Q
on_err (Ok x) h f = h
on_err (Err e) h f = f h

pub at_err : {T E : Type 0} {P : Type 0} (r : Result T E) → P → OnErr r P
at_err (Ok x) h = tt
at_err (Err e) h = h

pub same-room : (stored next : Stored) → next ≡ stored → KeepsRoom stored next
same-room stored next same q can = subst (λ s. CanPlace s q) (sym same) can

-- ---- the variables of blocks

abbrev pub listed : ByNumber Variable → Option (ByNumber Variable)
listed block = cond (map.len block == 0) None (Some block)

pub unwrap_or-listed : (block : ByNumber Variable) → unwrap_or (listed block) map.empty ≡ block
unwrap_or-listed block = by (map.len block == 0) refl
  where
    by : (b : Bool) → (map.len block == 0) ≡ b → unwrap_or (cond b None (Some block)) map.empty ≡ block
    by true none = sym (map.empty_of_len block (eqb-true (map.len block) 0 none))
    by false some = refl

pub get-with_block : (all : Variables) (p : ℕ) (block : ByNumber Variable) (q : ℕ) → map.get (with_block all p block) q ≡ cond (is_eq (nat_cmp q p)) (listed block) (map.get all q)
get-with_block all p block q = by (map.len block == 0)
  where
    by : (b : Bool) → map.get (cond b (map.remove all p) (map.insert all p block)) q ≡ cond (is_eq (nat_cmp q p)) (cond b None (Some block)) (map.get all q)
    by true = map.get-remove nat_cmp_total all p q
    by false = map.get-insert nat_cmp_total all p block q

pub block-with_block : (all : Variables) (p : ℕ) (block : ByNumber Variable) → block_of (with_block all p block) p ≡ block
block-with_block all p block =
    ap (λ o. unwrap_or o map.empty) (get-with_block all p block p ∙ ap (λ b. cond b (listed block) (map.get all p)) (itself p)) ∙ unwrap_or-listed block

pub block-with_block_other : (all : Variables) (p q : ℕ) (block : ByNumber Variable) → q ≢ p → block_of (with_block all p block) q ≡ block_of all q
block-with_block_other all p q block ne =
    ap (λ o. unwrap_or o map.empty) (get-with_block all p block q ∙ ap (λ b. cond b (listed block) (map.get all q)) (turned q p ∙ apart p q ne))

-- ---- blocks as they are kept

abbrev pub no_block : Kept
no_block = record { variables = map.empty; room = 0 }

abbrev pub kept_of : List (ℕ × Kept) → ℕ → Kept
kept_of blocks p = unwrap_or (lookup (is_at (nat_cmp p)) blocks) no_block

pub listed-empty : None ≡ listed map.empty
listed-empty = sym (ap (λ n. cond (n == 0) None (Some map.empty)) (map.len-empty nat_cmp Variable))

-- the block is this now, and all others are as before
pub record Changes (old new : List (ℕ × Kept)) (p : ℕ) (block : Kept) : Type 0 where
  pub here : kept_of new p ≡ block
  pub others : (q : ℕ) → is_eq (nat_cmp p q) ≡ false → kept_of new q ≡ kept_of old q

pub changes : (old new : List (ℕ × Kept)) (p : ℕ) (w : Option Kept)
    → ((q : ℕ) → lookup (is_at (nat_cmp q)) new ≡ cond (is_at (nat_cmp p) q) w (lookup (is_at (nat_cmp q)) old)) → Changes old new p (unwrap_or w no_block)
changes old new p w updates = record {
  here = ap (λ o. unwrap_or o no_block) (updates p ∙ ap (λ b. cond b w (lookup (is_at (nat_cmp p)) old)) (itself p));
  others = λ q there. ap (λ o. unwrap_or o no_block) (updates q ∙ ap (λ b. cond b w (lookup (is_at (nat_cmp q)) old)) there);
}

pub get-variables_on : (blocks : List (ℕ × Kept)) (q : ℕ) → map.get (variables_on blocks) q ≡ listed (kept_of blocks q).variables
get-variables_on [] q = map.get-empty nat_cmp q ∙ listed-empty
get-variables_on (e ∷ es) q =
    get-with_block (variables_on es) e.0 e.1.variables q
    ∙ ap (cond (is_eq (nat_cmp q e.0)) (listed e.1.variables)) (get-variables_on es q)
    ∙ step (is_eq (nat_cmp q e.0)) e.1 (lookup (is_at (nat_cmp q)) es)
  where
    step : (b : Bool) (d : Kept) (o : Option Kept) → cond b (listed d.variables) (listed (unwrap_or o no_block).variables) ≡ listed (unwrap_or (cond b (Some d) o) no_block).variables
    step true d o = refl
    step false d o = refl

pub block-variables_on : (blocks : List (ℕ × Kept)) (p : ℕ) → block_of (variables_on blocks) p ≡ (kept_of blocks p).variables
block-variables_on blocks p = ap (λ o. unwrap_or o map.empty) (get-variables_on blocks p) ∙ unwrap_or-listed (kept_of blocks p).variables

pub variables-changed : (old new : List (ℕ × Kept)) (p : ℕ) (block : Kept) → Changes old new p block → variables_on new ≡ with_block (variables_on old) p block.variables
variables-changed old new p block change =
    map.same_map nat_cmp_total map.nat_cmp-IsAntisymmetric (variables_on new) (with_block (variables_on old) p block.variables)
    (λ q. get-variables_on new q ∙ at q
    ∙ ap (λ b. cond b (listed block.variables) (listed (kept_of old q).variables)) (turned p q)
    ∙ ap (cond (is_eq (nat_cmp q p)) (listed block.variables)) (sym (get-variables_on old q))
    ∙ sym (get-with_block (variables_on old) p block.variables q))
  where
    at : (q : ℕ) → listed (kept_of new q).variables ≡ cond (is_eq (nat_cmp p q)) (listed block.variables) (listed (kept_of old q).variables)
    at q = by_number p q (λ b. listed (kept_of new q).variables ≡ cond b (listed block.variables) (listed (kept_of old q).variables))
        (λ e. ap (λ n. listed (kept_of new n).variables) (sym e) ∙ ap (λ d. listed d.variables) change.here)
        (λ there. ap (λ d. listed d.variables) (change.others q there))

variables-kept : (old new : List (ℕ × Kept)) (p : ℕ) (block : Kept) → Changes old new p block → block.variables ≡ (kept_of old p).variables → variables_on new ≡ variables_on old
variables-kept old new p block change kept =
    map.same_map nat_cmp_total map.nat_cmp-IsAntisymmetric (variables_on new) (variables_on old) (λ q. get-variables_on new q ∙ at q ∙ sym (get-variables_on old q))
  where
    at : (q : ℕ) → listed (kept_of new q).variables ≡ listed (kept_of old q).variables
    at q = by_number p q (λ b. listed (kept_of new q).variables ≡ listed (kept_of old q).variables)
        (λ e. ap (λ n. listed (kept_of new n).variables) (sym e) ∙ ap listed (ap (λ d. d.variables) change.here ∙ kept) ∙ ap (λ n. listed (kept_of old n).variables) e)
        (λ there. ap (λ d. listed d.variables) (change.others q there))

-- ---- room

find-rooms : (blocks : List (ℕ × Kept)) (q : ℕ) → map.find nat_cmp q (each (λ e. (e.0, e.1.room)) blocks) ≡ option_map (λ d. d.room) (lookup (is_at (nat_cmp q)) blocks)
find-rooms [] q = refl
find-rooms (e ∷ es) q =
    ap (cond (is_eq (nat_cmp q e.0)) (Some e.1.room)) (find-rooms es q) ∙ out (is_eq (nat_cmp q e.0)) e.1 (lookup (is_at (nat_cmp q)) es)
  where
    out : (b : Bool) (d : Kept) (o : Option Kept) → cond b (Some d.room) (option_map (λ x. x.room) o) ≡ option_map (λ x. x.room) (cond b (Some d) o)
    out true d o = refl
    out false d o = refl

room-unwrapped : (o : Option Kept) → unwrap_or (option_map (λ d. d.room) o) 0 ≡ (unwrap_or o no_block).room
room-unwrapped None = refl
room-unwrapped (Some d) = refl

room-stored_on : (blocks : List (ℕ × Kept)) (q : ℕ) → room_of (stored_on blocks) q ≡ (kept_of blocks q).room
room-stored_on blocks q =
    ap (λ o. unwrap_or o 0) (map.get-from_entries nat_cmp_total (each (λ e. (e.0, e.1.room)) blocks) q ∙ find-rooms blocks q)
    ∙ room-unwrapped (lookup (is_at (nat_cmp q)) blocks)

-- ---- a call changes one block

-- the block was one, and is another
pub record Step (old new : List (ℕ × Kept)) (stored : Stored) (p : ℕ) (was block : Kept) : Type 0 where
  pub seen : stored_on old ≡ stored
  pub before : kept_of old p ≡ was
  pub change : Changes old new p block

pub lent : (m n : BTreeMap ℕ Kept) (stored : Stored) (p : ℕ) (was block : Kept) → stored_on m.entries ≡ stored → Some was ≡ get_by (nat_cmp p) m
    → WritesThrough nat_cmp (nat_cmp p) m block n → Step m.entries n.entries stored p was block
lent m n stored p was block seen value written = record {
  seen = seen;
  before = ap (λ o. unwrap_or o no_block) (sym value);
  change = changes m.entries n.entries p (Some block) (written.3 (sym (ap is_some value))).0;
}

-- a block that is written back as it was
pub lent-same : (m n : BTreeMap ℕ Kept) (stored : Stored) (p : ℕ) (was block : Kept) → stored_on m.entries ≡ stored → Some was ≡ get_by (nat_cmp p) m
    → WritesThrough nat_cmp (nat_cmp p) m block n → block ≡ was → stored_on n.entries ≡ stored
lent-same m n stored p was block seen value written same =
    ap stored_on (written.0 ∙ ap (set_value (is_at (nat_cmp p)) m.entries) same ∙ set_value_same (is_at (nat_cmp p)) m.entries was (sym value)) ∙ seen

pub made : (m k n : BTreeMap ℕ Kept) (stored : Stored) (p : ℕ) (block : Kept) → stored_on m.entries ≡ stored → None ≡ get_by (nat_cmp p) m → k ≡ m
    → Updates nat_cmp k n p (Some block) → Step m.entries n.entries stored p no_block block
made m k n stored p block seen value same updates = record {
  seen = seen;
  before = ap (λ o. unwrap_or o no_block) (sym value);
  change = subst (λ x. Changes x.entries n.entries p block) same (changes k.entries n.entries p (Some block) updates.0);
}

module _ (blocks : List (ℕ × Kept)) (stored : Stored) (seen : stored_on blocks ≡ stored) (p : ℕ) where
  pub block-here : (found : Option Kept) → found ≡ lookup (is_at (nat_cmp p)) blocks → block_of stored.variables p ≡ (unwrap_or found no_block).variables
  block-here found at = ap (λ s. block_of s.variables p) (sym seen) ∙ block-variables_on blocks p ∙ ap (λ o. (unwrap_or o no_block).variables) (sym at)

  pub room-here : (found : Option Kept) → found ≡ lookup (is_at (nat_cmp p)) blocks → room_of stored p ≡ (unwrap_or found no_block).room
  room-here found at = ap (λ s. room_of s p) (sym seen) ∙ room-stored_on blocks p ∙ ap (λ o. (unwrap_or o no_block).room) (sym at)

  -- a block that isn't there has no variables
  pub none-loaded : None ≡ lookup (is_at (nat_cmp p)) blocks → (var : ℕ) (path : List Sel) → loaded_in stored.variables p var path ≡ Err Early
  none-loaded none var path =
      ap (λ b. block_loaded b var path) (block-here None none)
      ∙ ap (λ f. with_ok (or_fault Early f) (λ (v : Variable). loaded_at v.value path)) (map.get-empty nat_cmp var)

  pub none-stored : None ≡ lookup (is_at (nat_cmp p)) blocks → (var : ℕ) (path : List Sel) (value : Value) → stored_in stored.variables p var path value ≡ Err Early
  none-stored none var path value =
      ap (λ b. with_ok (block_stored b var path value) (λ changed. Ok (with_block stored.variables p changed))) (block-here None none)
      ∙ ap (λ f. with_ok (with_ok (or_fault Early f) (λ variable. with_ok (stored_at variable.shape variable.value path value) (λ held. Ok (map.insert map.empty var (record variable { value = held })))))
      (λ changed. Ok (with_block stored.variables p changed))) (map.get-empty nat_cmp var)

  pub no-room : None ≡ lookup (is_at (nat_cmp p)) blocks → CanPlace stored p → 0 < 0
  no-room none can = subst (λ n. 0 < n) (room-here None none) can

module _ (old new : List (ℕ × Kept)) (stored : Stored) (p : ℕ) (was block : Kept) (s : Step old new stored p was block) where
  was-here : block_of stored.variables p ≡ was.variables
  was-here = ap (λ x. block_of x.variables p) (sym s.seen) ∙ block-variables_on old p ∙ ap (λ d. d.variables) s.before

  all-changed : variables_on new ≡ with_block stored.variables p block.variables
  all-changed = variables-changed old new p block s.change ∙ ap (λ x. with_block x.variables p block.variables) s.seen

  pub stays : block.variables ≡ was.variables → variables_on new ≡ stored.variables
  stays same = variables-kept old new p block s.change (same ∙ ap (λ d. d.variables) (sym s.before)) ∙ ap (λ x. x.variables) s.seen

  pub placed : (var : ℕ) (variable : Variable) → block.variables ≡ map.insert was.variables var variable → variables_on new ≡ with_variable stored.variables p var variable
  placed var variable set = all-changed ∙ ap (with_block stored.variables p) (set ∙ ap (λ b. map.insert b var variable) (sym was-here))

  pub wrote : (var : ℕ) (path : List Sel) (value : Value) (result : Result (Unit {0}) Fault) → Wrote result was.variables block.variables (block_stored was.variables var path value)
      → Wrote result stored.variables (variables_on new) (stored_in stored.variables p var path value)
  wrote var path value (Ok done) is =
      ap (λ b. with_ok (block_stored b var path value) (λ changed. Ok (with_block stored.variables p changed))) was-here
      ∙ ap (λ r. with_ok r (λ changed. Ok (with_block stored.variables p changed))) is ∙ ap (λ all. Ok all) (sym all-changed)
  wrote var path value (Err fault) is = (
    ap (λ b. with_ok (block_stored b var path value) (λ changed. Ok (with_block stored.variables p changed))) was-here
        ∙ ap (λ r. with_ok r (λ changed. Ok (with_block stored.variables p changed))) is.0,
    stays is.1,
  )

  -- ---- room

  pub could-place : CanPlace stored p → 0 < was.room
  could-place can = subst (λ n. 0 < n) (ap (λ x. room_of x p) (sym s.seen) ∙ room-stored_on old p ∙ ap (λ d. d.room) s.before) can

  pub can-place : 0 < block.room → CanPlace (stored_on new) p
  can-place has = subst (λ n. 0 < n) (sym (room-stored_on new p ∙ ap (λ d. d.room) s.change.here)) has

  room-other : (q : ℕ) → is_eq (nat_cmp p q) ≡ false → CanPlace stored q → CanPlace (stored_on new) q
  room-other q there can =
      subst (λ n. 0 < n) (sym (room-stored_on new q ∙ ap (λ d. d.room) (s.change.others q there) ∙ sym (room-stored_on old q) ∙ ap (λ x. room_of x q) s.seen)) can

  pub keeps-other : KeepsOtherRoom stored (stored_on new) p
  keeps-other q ne can = room-other q (apart p q ne) can

  pub keeps : was.room ≤ block.room → KeepsRoom stored (stored_on new)
  keeps more q can =
      by_number p q (λ b. CanPlace (stored_on new) q)
      (λ e. subst (λ n. CanPlace (stored_on new) n) e (can-place (let had = could-place (subst (λ n. CanPlace stored n) (sym e) can) in omega arith)))
      (λ there. room-other q there can)

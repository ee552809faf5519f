-- What a store leaves to be loaded.
use Rattle.std.proofs.Common.{◌≡◌, ◌≢◌, ℕ, cond, List, ◌++◌, Some, Ok, ap, sym, subst, ◌∙◌, true≢false}
use Rattle.std.specs.Option.{option_map}
use Rattle.std.specs.Cmp.{nat_cmp_total}
use Rattle.std.specs.FinMap as map
use Rattle.std.specs.Ordering.{nat_cmp, is_eq}
use Rattle.sr_value.specs.declared.fault.Fault.TheVariants.{Early}
use Rattle.sr_value.specs.declared.shape.Sel.{Sel}
use Rattle.sr_value.specs.declared.value.Value.{Value}
use Rattle.sr_value.specs.Parts.{fitted_in, loaded_at, or_fault, stored_at, with_ok}
use Rattle.sr_in_place.specs.Places.{shape_at}
use Rattle.sr_in_place.proofs.PlaceLemmas.{others-stay as places-stay, stored-loaded}
use Rattle.sr_in_place.proofs.ResultLemmas.{found-back, same-ok, step-back}
use Rattle.sr_store.specs.Variables.{ByNumber, Variables, block_of, block_stored, loaded_in, stored_in, variable_at, with_block, with_variable}
use Rattle.sr_store.specs.declared.variable.Variable.{Variable}
use Rattle.sr_buckets.proofs.NumberLemmas.{apart, by_number, itself, turned}
use Rattle.sr_store.proofs.KeptLemmas.{block-with_block, block-with_block_other}

-- ---- a store to a variable

record Change (all new : Variables) (block var : ℕ) (path : List Sel) (value : Value) : Type 0 where
  variable : Variable
  held : Value
  there : variable_at all block var ≡ Some variable
  stored : stored_at variable.shape variable.value path value ≡ Ok held
  changed : new ≡ with_block all block (map.insert (block_of all block) var (record variable { value = held }))

change : (all new : Variables) (block var : ℕ) (path : List Sel) (value : Value) → stored_in all block var path value ≡ Ok new → Change all new block var path value
change all new block var path value is =
    let outer = step-back (block_stored (block_of all block) var path value) (λ changed. Ok (with_block all block changed)) new is in
    let middle = step-back (or_fault Early (variable_at all block var))
    (λ variable. with_ok (stored_at variable.shape variable.value path value) (λ held. Ok (map.insert (block_of all block) var (record variable { value = held })))) outer.0 outer.1.0 in
    let inner = step-back (stored_at middle.0.shape middle.0.value path value) (λ held. Ok (map.insert (block_of all block) var (record middle.0 { value = held }))) outer.0 middle.1.1 in
    let table : map.insert (block_of all block) var (record middle.0 { value = inner.0 }) ≡ outer.0 = same-ok _ _ inner.1.1 in
    let whole : with_block all block outer.0 ≡ new = same-ok _ _ outer.1.1 in
    record {
      variable = middle.0;
      held = inner.0;
      there = found-back Early (variable_at all block var) middle.0 middle.1.0;
      stored = inner.1.0;
      changed = sym whole ∙ ap (with_block all block) (sym table);
    }

-- the variable that a store changes, and what it holds then
pub store-named : (all new : Variables) (block var : ℕ) (path : List Sel) (value : Value) → stored_in all block var path value ≡ Ok new
    → (variable : Variable) × (held : Value) × (variable_at all block var ≡ Some variable) × (stored_at variable.shape variable.value path value ≡ Ok held)
    × (new ≡ with_variable all block var (record variable { value = held }))
store-named all new block var path value is = let c = change all new block var path value is in (c.variable, c.held, c.there, c.stored, c.changed)

here-after : (all new : Variables) (block var : ℕ) (path : List Sel) (value : Value) (c : Change all new block var path value) → variable_at new block var ≡ Some (record c.variable { value = c.held })
here-after all new block var path value c =
    let after : Variable = record c.variable { value = c.held } in
    ap (λ n. variable_at n block var) c.changed
    ∙ ap (λ b. map.get b var) (block-with_block all block (map.insert (block_of all block) var after))
    ∙ map.get-insert nat_cmp_total (block_of all block) var after var
    ∙ ap (λ b. cond b (Some after) (map.get (block_of all block) var)) (itself var)

pub shape-stays : (all new : Variables) (block var : ℕ) (path : List Sel) (value : Value) → stored_in all block var path value ≡ Ok new
    → option_map (λ v. v.shape) (variable_at new block var) ≡ option_map (λ v. v.shape) (variable_at all block var)
shape-stays all new block var path value is =
    let c = change all new block var path value is in
    ap (option_map (λ v. v.shape)) (here-after all new block var path value c) ∙ ap (option_map (λ v. v.shape)) (sym c.there)

pub others-stay : (all new : Variables) (block var other_block other : ℕ) (path : List Sel) (value : Value) → stored_in all block var path value ≡ Ok new
    → (other_block ≡ block → other ≢ var) → variable_at new other_block other ≡ variable_at all other_block other
others-stay all new block var other_block other path value is ne =
    let c = change all new block var path value is in
    let after : Variable = record c.variable { value = c.held } in
    let table : ByNumber Variable = map.insert (block_of all block) var after in
    ap (λ n. variable_at n other_block other) c.changed
    ∙ by_number block other_block (λ b. variable_at (with_block all block table) other_block other ≡ variable_at all other_block other)
    (λ e. subst (λ n. variable_at (with_block all block table) n other ≡ variable_at all n other) e
    (ap (λ b. map.get b other) (block-with_block all block table)
    ∙ map.get-insert nat_cmp_total (block_of all block) var after other
    ∙ ap (λ b. cond b (Some after) (map.get (block_of all block) other)) (turned other var ∙ apart var other (ne (sym e)))))
    (λ there. ap (λ b. map.get b other) (block-with_block_other all block other_block table (λ e. true≢false (sym (ap (λ n. is_eq (nat_cmp block n)) e ∙ itself block) ∙ there))))

-- ---- a load after it

load-after : (all new : Variables) (block var : ℕ) (path : List Sel) (value : Value) (c : Change all new block var path value) (other : List Sel) → loaded_in new block var other ≡ loaded_at c.held other
load-after all new block var path value c other = ap (λ o. with_ok (or_fault Early o) (λ (v : Variable). loaded_at v.value other)) (here-after all new block var path value c)

load-before : (all new : Variables) (block var : ℕ) (path : List Sel) (value : Value) (c : Change all new block var path value) (other : List Sel) → loaded_in all block var other ≡ loaded_at c.variable.value other
load-before all new block var path value c other = ap (λ o. with_ok (or_fault Early o) (λ (v : Variable). loaded_at v.value other)) c.there

pub loaded-after : (all new : Variables) (block var : ℕ) (variable : Variable) (path : List Sel) (value : Value) → variable_at all block var ≡ Some variable → stored_in all block var path value ≡ Ok new
    → loaded_in new block var path ≡ with_ok (shape_at variable.shape variable.value path) (λ place. fitted_in place value)
loaded-after all new block var variable path value there is =
    let c = change all new block var path value is in
    let found : Some c.variable ≡ Some variable = sym c.there ∙ there in
    let same : c.variable ≡ variable = cc in
    load-after all new block var path value c path
    ∙ stored-loaded c.variable.shape c.variable.value c.held value path c.stored
    ∙ ap (λ v. with_ok (shape_at v.shape v.value path) (λ place. fitted_in place value)) same

pub other-places-stay : (all new : Variables) (block var : ℕ) (path other : List Sel) (value : Value) → stored_in all block var path value ≡ Ok new
    → ((rest : List Sel) → other ≢ path ++ rest) → ((rest : List Sel) → path ≢ other ++ rest) → loaded_in new block var other ≡ loaded_in all block var other
other-places-stay all new block var path other value is after before =
    let c = change all new block var path value is in
    load-after all new block var path value c other
    ∙ places-stay c.variable.shape c.variable.value c.held value path other c.stored after before
    ∙ sym (load-before all new block var path value c other)

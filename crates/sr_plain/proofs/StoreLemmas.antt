-- What a declaration and a store leave of all other variables.
use Rattle.std.proofs.Common.{◌≡◌, ◌≢◌, ℕ, cond, List, Some, Result, Ok, Err, ap, sym, subst, ◌∙◌, true≢false}
use Rattle.std.specs.Cmp.{nat_cmp_total}
use Rattle.std.specs.FinMap as map
use Rattle.std.specs.Ordering.{nat_cmp, is_eq}
use Rattle.sr_buckets.proofs.NumberLemmas.{apart, by_number, itself, turned}
use Rattle.sr_store.proofs.KeptLemmas.{block-with_block, block-with_block_other}
use Rattle.sr_store.proofs.LawLemmas.{others-stay}
use Rattle.sr_store.specs.Variables.{ByNumber, Variables, block_of, declared_in, loaded_in, stored_in, variable_at, with_block, with_variable}
use Rattle.sr_store.specs.declared.variable.Variable.{Variable}
use Rattle.sr_value.specs.declared.fault.Fault.{Fault}
use Rattle.sr_value.specs.declared.fault.Fault.TheVariants.{Early}
use Rattle.sr_value.specs.declared.shape.Sel.{Sel}
use Rattle.sr_value.specs.declared.shape.Shape.{Shape}
use Rattle.sr_value.specs.declared.value.Value.{Value}
use Rattle.sr_value.specs.Parts.{loaded_at, or_fault, with_ok}
use Rattle.sr_value.specs.Shapes.{default_value}

loads-as : (all new : Variables) (block var : ℕ) → variable_at new block var ≡ variable_at all block var → (path : List Sel) → loaded_in all block var path ≡ loaded_in new block var path
loads-as all new block var same path = ap (λ o. with_ok (or_fault Early o) (λ (v : Variable). loaded_at v.value path)) (sym same)

others-apart : (all : Variables) (block var : ℕ) (variable : Variable) (other_block other : ℕ) → (other_block ≡ block → other ≢ var)
    → variable_at (with_variable all block var variable) other_block other ≡ variable_at all other_block other
others-apart all block var variable other_block other ne =
    let table : ByNumber Variable = map.insert (block_of all block) var variable in
    by_number block other_block (λ b. variable_at (with_block all block table) other_block other ≡ variable_at all other_block other)
    (λ e. subst (λ n. variable_at (with_block all block table) n other ≡ variable_at all n other) e
    (ap (λ b. map.get b other) (block-with_block all block table)
    ∙ map.get-insert nat_cmp_total (block_of all block) var variable other
    ∙ ap (λ b. cond b (Some variable) (map.get (block_of all block) other)) (turned other var ∙ apart var other (ne (sym e)))))
    (λ there. ap (λ b. map.get b other) (block-with_block_other all block other_block table (λ e. true≢false (sym (ap (λ n. is_eq (nat_cmp block n)) e ∙ itself block) ∙ there))))

pub declared-apart : (all new : Variables) (block var : ℕ) (shape : Shape) → declared_in all block var shape ≡ Ok new → (other_block other : ℕ) → (other_block ≡ block → other ≢ var)
    → (path : List Sel) → loaded_in all other_block other path ≡ loaded_in new other_block other path
declared-apart all new block var shape is other_block other ne path = by (default_value shape) is
  where
    by : (r : Result Value Fault) → with_ok r (λ value. Ok (with_variable all block var (record { shape = shape; value = value }))) ≡ Ok new → loaded_in all other_block other path ≡ loaded_in new other_block other path
    by (Ok value) h =
        let variable : Variable = record { shape = shape; value = value } in
        let same : with_variable all block var variable ≡ new = cc in
        loads-as all new other_block other (ap (λ n. variable_at n other_block other) (sym same) ∙ others-apart all block var variable other_block other ne) path
    by (Err fault) h = absurd (cc)

pub stored-apart : (all new : Variables) (block var : ℕ) (at : List Sel) (value : Value) → stored_in all block var at value ≡ Ok new → (other_block other : ℕ) → (other_block ≡ block → other ≢ var)
    → (path : List Sel) → loaded_in all other_block other path ≡ loaded_in new other_block other path
stored-apart all new block var at value is other_block other ne path = loads-as all new other_block other (others-stay all new block var other_block other at value is ne) path

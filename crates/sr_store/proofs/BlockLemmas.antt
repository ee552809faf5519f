-- The table of a block's variables, seen as a map.
use Rattle.std.proofs.Common.{◌≡◌, ℕ, cond, nat_eq, List, [], ◌∷◌, Option, Some, None, Result, Ok, Err, OnErr, refl, ap, sym, ◌∙◌}
use Rattle.std.proofs.lemmas.Map.Steps.{set_value_same}
use Rattle.std.specs.Cmp.{nat_cmp_total}
use Rattle.std.specs.FinMap as map
use Rattle.std.specs.Map.{lookup, set_value}
use Rattle.std.specs.Ordering.{nat_cmp, is_eq}
use Rattle.sr_buckets.proofs.NumberLemmas.{same_test, turned}
use Rattle.sr_value.specs.declared.fault.Fault.{Fault}
use Rattle.sr_value.specs.declared.fault.Fault.TheVariants.{Early}
use Rattle.sr_value.specs.declared.shape.Sel.{Sel}
use Rattle.sr_value.specs.declared.value.Value.{Value}
use Rattle.sr_value.specs.Parts.{loaded_at, or_fault, stored_at, with_ok}
use Rattle.sr_store.specs.Kept.{Kept}
use Rattle.sr_in_place.specs.Puts.{Wrote, outcome}
use Rattle.sr_in_place.proofs.CheckingLemmas.{outcome-made}
use Rattle.sr_store.specs.Variables.{ByNumber, block_loaded, block_stored}
use Rattle.sr_store.specs.declared.variable.Variable.{Variable}

-- ---- a table, as a map

find-lookup : (es : List (ℕ × Variable)) (q : ℕ) → map.find nat_cmp q es ≡ lookup (nat_eq q) es
find-lookup [] q = refl
find-lookup (e ∷ es) q = ap (cond (is_eq (nat_cmp q e.0)) (Some e.1)) (find-lookup es q) ∙ ap (λ b. cond b (Some e.1) (lookup (nat_eq q) es)) (sym (same_test q e.0))

pub get-table : (es : List (ℕ × Variable)) (q : ℕ) → map.get (map.from_entries {R = nat_cmp} es) q ≡ lookup (nat_eq q) es
get-table es q = map.get-from_entries nat_cmp_total es q ∙ find-lookup es q

pub same-table : (old new : List (ℕ × Variable)) → ((q : ℕ) → lookup (nat_eq q) new ≡ lookup (nat_eq q) old) → map.from_entries {R = nat_cmp} new ≡ map.from_entries old
same-table old new same =
    map.same_map nat_cmp_total map.nat_cmp-IsAntisymmetric (map.from_entries new) (map.from_entries old) (λ q. get-table new q ∙ same q ∙ sym (get-table old q))

pub set-table : (old new : List (ℕ × Variable)) (k : ℕ) (v : Variable) → ((q : ℕ) → lookup (nat_eq q) new ≡ cond (nat_eq k q) (Some v) (lookup (nat_eq q) old))
    → map.from_entries {R = nat_cmp} new ≡ map.insert (map.from_entries old) k v
set-table old new k v updates =
    map.same_map nat_cmp_total map.nat_cmp-IsAntisymmetric (map.from_entries new) (map.insert (map.from_entries old) k v)
    (λ q. get-table new q ∙ updates q
    ∙ ap (λ b. cond b (Some v) (lookup (nat_eq q) old)) (same_test k q ∙ turned k q)
    ∙ ap (cond (is_eq (nat_cmp q k)) (Some v)) (sym (get-table old q))
    ∙ sym (map.get-insert nat_cmp_total (map.from_entries old) k v q))

-- ---- loads and stores

module _ (es : List (ℕ × Variable)) (block : ByNumber Variable) (is : map.from_entries es ≡ block) (var : ℕ) (path : List Sel) where
  here : (found : Option Variable) → found ≡ lookup (nat_eq var) es → map.get block var ≡ found
  here found at = ap (λ b. map.get b var) (sym is) ∙ get-table es var ∙ sym at

  pub loaded-here : (variable : Variable) → Some variable ≡ lookup (nat_eq var) es → block_loaded block var path ≡ loaded_at variable.value path
  loaded-here variable at = ap (λ f. with_ok (or_fault Early f) (λ (v : Variable). loaded_at v.value path)) (here (Some variable) at)

  pub loaded-early : None ≡ lookup (nat_eq var) es → block_loaded block var path ≡ Err Early
  loaded-early none = ap (λ f. with_ok (or_fault Early f) (λ (v : Variable). loaded_at v.value path)) (here None none)

  module _ (value : Value) where
    stored-by : (found : Option Variable) → found ≡ lookup (nat_eq var) es
        → block_stored block var path value ≡ with_ok (or_fault Early found) (λ variable. with_ok (stored_at variable.shape variable.value path value) (λ held. Ok (map.insert block var (record variable { value = held }))))
    stored-by found at = ap (λ f. with_ok (or_fault Early f) (λ variable. with_ok (stored_at variable.shape variable.value path value) (λ held. Ok (map.insert block var (record variable { value = held }))))) (here found at)

    pub stored-early : None ≡ lookup (nat_eq var) es → block_stored block var path value ≡ Err Early
    stored-early none = stored-by None none

    pub checked-here : (variable : Variable) → Some variable ≡ lookup (nat_eq var) es → outcome (block_stored block var path value) ≡ outcome (stored_at variable.shape variable.value path value)
    checked-here variable at =
        ap outcome (stored-by (Some variable) at) ∙ outcome-made (stored_at variable.shape variable.value path value) (λ held. map.insert block var (record variable { value = held }))

    pub stored-here : (new : List (ℕ × Variable)) (variable : Variable) (held : Value) (result : Result (Unit {0}) Fault) → Some variable ≡ lookup (nat_eq var) es
        → ((q : ℕ) → lookup (nat_eq q) new ≡ cond (nat_eq var q) (Some (record variable { value = held })) (lookup (nat_eq q) es))
        → (held ≡ variable.value → new ≡ es)
        → Wrote result variable.value held (stored_at variable.shape variable.value path value) → Wrote result block (map.from_entries new) (block_stored block var path value)
    stored-here new variable held (Ok done) at updates same wrote =
        stored-by (Some variable) at
        ∙ ap (λ r. with_ok r (λ h. Ok (map.insert block var (record variable { value = h })))) wrote
        ∙ ap (λ b. Ok (map.insert b var (record variable { value = held }))) (sym is)
        ∙ ap (λ b. Ok b) (sym (set-table es new var (record variable { value = held }) updates))
    stored-here new variable held (Err fault) at updates same wrote = (
      stored-by (Some variable) at ∙ ap (λ r. with_ok r (λ h. Ok (map.insert block var (record variable { value = h })))) wrote.0,
      ap map.from_entries (same wrote.1) ∙ is,
    )

-- a variable that is written back as it was
pub written-same : (es new : List (ℕ × Variable)) (var : ℕ) (variable : Variable) (held : Value) → Some variable ≡ lookup (nat_eq var) es
    → new ≡ set_value (nat_eq var) es (record variable { value = held }) → held ≡ variable.value → new ≡ es
written-same es new var variable held at written same =
    written ∙ ap (λ h. set_value (nat_eq var) es (record variable { value = h })) same ∙ set_value_same (nat_eq var) es variable (sym at)

pub on_fault : {A : Type 0} (result : Result (Unit {0}) Fault) (old new : A) (meant : Result A Fault) (P : Type 0) → Wrote result old new meant → (new ≡ old → P) → OnErr result P
on_fault (Ok done) old new meant P wrote then = tt
on_fault (Err fault) old new meant P wrote then = then wrote.1

pub kept-same : (old new : List (ℕ × Variable)) (was room : ℕ) (kept : Kept) → (record { variables = map.from_entries old; room = was }) ≡ kept → new ≡ old → room ≡ was
    → (record { variables = map.from_entries new; room = room }) ≡ kept
kept-same old new was room kept seen same same_room =
    let made : List (ℕ × Variable) → ℕ → Kept = λ es r. record { variables = map.from_entries es; room = r } in
    ap (λ es. made es room) same ∙ ap (made old) same_room ∙ seen

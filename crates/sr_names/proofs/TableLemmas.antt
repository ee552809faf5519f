-- Tables as their maps have them.
use Rattle.std.proofs.Common.{◌≡◌, ℕ, Bool, true, false, cond, List, [], ◌∷◌, ◌++◌, None, Some, Vec, Global, map, refl, ap, sym, ◌∙◌, is_some, if◌then◌else◌, true≢false}
use Rattle.std.specs.Map.{lookup}
use Rattle.std.specs.Str.{bytes_eq}
use Rattle.indexmap.specs.IndexMap.{insert_entry}

-- a look-up by bytes among named entries is the map's own
pub lookup-named : {V : Type 0} (q : List ℕ) (es : List (Vec ℕ Global × V)) → lookup (bytes_eq q) (map (λ entry. (entry.0.items, entry.1)) es) ≡ lookup (λ k. bytes_eq q k.items) es
lookup-named q [] = refl
lookup-named q (e ∷ es) = ap (cond (bytes_eq q e.0.items) (Some e.1)) (lookup-named q es)

module _ {V : Type 0} where
  abbrev named : List (Vec ℕ Global × V) → List (List ℕ × V)
  named entries = map (λ entry. (entry.0.items, entry.1)) entries

  -- a name that isn't there goes last
  pub named-insert : (k : Vec ℕ Global) (d : V) (es : List (Vec ℕ Global × V)) → lookup (λ x. bytes_eq k.items x.items) es ≡ None
      → named (insert_entry (λ a b. bytes_eq a.items b.items) es k d) ≡ named es ++ (k.items, d) ∷ []
  named-insert k d [] none = refl
  named-insert k d (e ∷ es) none = by (bytes_eq k.items e.0.items) refl (named-insert k d es)
    where
      by : (b : Bool) → bytes_eq k.items e.0.items ≡ b
          → (lookup (λ x. bytes_eq k.items x.items) es ≡ None → named (insert_entry (λ a b. bytes_eq a.items b.items) es k d) ≡ named es ++ (k.items, d) ∷ [])
          → named (if bytes_eq k.items e.0.items then (e.0, d) ∷ es else e ∷ insert_entry (λ a b. bytes_eq a.items b.items) es k d) ≡ (e.0.items, e.1) ∷ (named es ++ (k.items, d) ∷ [])
      by true is more = absurd (true≢false (ap is_some (sym (ap (λ b. cond b (Some e.1) (lookup (λ x. bytes_eq k.items x.items) es)) is) ∙ none)))
      by false is more = ap (λ b. named (if b then (e.0, d) ∷ es else e ∷ insert_entry (λ a b. bytes_eq a.items b.items) es k d)) is ∙ ap (λ t. (e.0.items, e.1) ∷ t) (more (sym (ap (λ b. cond b (Some e.1) (lookup (λ x. bytes_eq k.items x.items) es)) is) ∙ none))

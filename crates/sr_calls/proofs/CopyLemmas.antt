-- Lists that are filled with copies of another's, one process after another: those that are left and those that were
-- copied are all.
use Rattle.std.proofs.Common.{◌≡◌, ℕ, Bool, true, false, cond, nat_eq, List, [], ◌∷◌, Option, Some, None, unwrap_or, refl, ap, sym, ◌∙◌, subst}
use Rattle.std.proofs.lemmas.Map.{lookup-none}
use Rattle.std.proofs.lemmas.Map.Entries.{none_past_head}
use Rattle.std.proofs.lemmas.Map.Keys.{IsDistinct-tail}
use Rattle.std.specs.BTreeMap.{is_at}
use Rattle.std.specs.Cmp.{nat_cmp_total, nat_eq_equiv}
use Rattle.std.specs.FinMap as map
use Rattle.std.specs.HashMap.{HashMap, Updates}
use Rattle.std.specs.List.{IsDistinct}
use Rattle.std.specs.Map.{keys_of, lookup}
use Rattle.std.specs.Option.{option_map}
use Rattle.std.specs.Ordering.{is_eq, nat_cmp}
use Rattle.sr_buckets.proofs.NumberLemmas.{same_test}
use Rattle.sr_calls.specs.Calls.{ByProcess, Called, items_of, with_items}
use Rattle.sr_calls.specs.PerProcess.{ProcessCalled, called_on, lists_on}
use Rattle.sr_calls.proofs.ProcessCallsLemmas.{changes, get-lists_on, get-with_items, held-changed, items-lists_on, listed, no_process_calls, replies-changed, same_look}

abbrev pub Left : {A : Type 0} → (ProcessCalled → List A) → List (ℕ × ProcessCalled) → ByProcess (List A) → ByProcess (List A) → Type 0
Left list rest now all = (q : ℕ) → unwrap_or (option_map list (lookup (nat_eq q) rest)) (items_of now q) ≡ items_of all q

-- a process without items has no entry
abbrev pub NoneEmpty : {A : Type 0} → ByProcess (List A) → Type 0
NoneEmpty all = (q : ℕ) → map.get all q ≡ listed (items_of all q)

pub distinct-more : (rest more : List (ℕ × ProcessCalled)) (k : ℕ) (d : ProcessCalled) → rest ≡ (k, d) ∷ more → IsDistinct nat_eq (keys_of rest) → IsDistinct nat_eq (keys_of more)
distinct-more rest more k d is distinct = IsDistinct-tail nat_eq k (keys_of more) (subst (λ r. IsDistinct nat_eq (keys_of r)) is distinct)

module _ {A : Type 0} where
  none-there : (q : ℕ) → items_of {A = A} map.empty q ≡ []
  none-there q = ap (λ o. unwrap_or o []) (map.get-empty nat_cmp q)

  pub none-empty-first : (now : ByProcess (List A)) → now ≡ map.empty → NoneEmpty now
  none-empty-first now empty q = subst (λ a. map.get a q ≡ listed (items_of a q)) (sym empty) (map.get-empty nat_cmp q ∙ ap listed (sym (none-there q)))

  items-of-with : (all : ByProcess (List A)) (p : ℕ) (xs : List A) (q : ℕ) → items_of (with_items all p xs) q ≡ cond (is_eq (nat_cmp q p)) xs (items_of all q)
  items-of-with all p xs q = ap (λ o. unwrap_or o []) (get-with_items all p xs q) ∙ out (is_eq (nat_cmp q p)) xs
    where
      out : (b : Bool) (ys : List A) → unwrap_or (cond b (listed ys) (map.get all q)) [] ≡ cond b ys (items_of all q)
      out true [] = refl
      out true (y ∷ ys) = refl
      out false ys = refl

  pub none-empty-more : (now next : ByProcess (List A)) (k : ℕ) (copy : List A) → NoneEmpty now → next ≡ with_items now k copy → NoneEmpty next
  none-empty-more now next k copy none added q =
      subst (λ a. map.get a q ≡ listed (items_of a q)) (sym added)
      (get-with_items now k copy q
      ∙ ap (cond (is_eq (nat_cmp q k)) (listed copy)) (none q)
      ∙ out (is_eq (nat_cmp q k)) (items_of now q)
      ∙ ap listed (sym (items-of-with now k copy q)))
    where
      out : (b : Bool) (before : List A) → cond b (listed copy) (listed before) ≡ listed (cond b copy before)
      out true before = refl
      out false before = refl

module _ {A : Type 0} (list : ProcessCalled → List A) (is-empty : list no_process_calls ≡ []) where
  pub left-first : (rest es : List (ℕ × ProcessCalled)) (now all : ByProcess (List A)) → rest ≡ es → lists_on list es ≡ all → now ≡ map.empty → Left list rest now all
  left-first rest es now all same seen empty q =
      ap (λ r. unwrap_or (option_map list (lookup (nat_eq q) r)) (items_of now q)) same
      ∙ ap (unwrap_or (option_map list (lookup (nat_eq q) es))) (ap (λ a. items_of a q) empty ∙ none-there q)
      ∙ ap (λ o. unwrap_or (option_map list o) []) (same_look es q)
      ∙ alone (lookup (is_at (nat_cmp q)) es)
      ∙ sym (items-lists_on list is-empty es q)
      ∙ ap (λ a. items_of a q) seen
    where
      alone : (o : Option ProcessCalled) → unwrap_or (option_map list o) [] ≡ list (unwrap_or o no_process_calls)
      alone None = sym is-empty
      alone (Some d) = refl

  pub left-more : (rest more : List (ℕ × ProcessCalled)) (k : ℕ) (d : ProcessCalled) → rest ≡ (k, d) ∷ more → IsDistinct nat_eq (keys_of rest)
      → (now next all : ByProcess (List A)) (copy : List A) → Left list rest now all → next ≡ with_items now k copy → copy ≡ list d → Left list more next all
  left-more rest more k d is distinct now next all copy left added same q =
      ap (λ a. unwrap_or (option_map list (lookup (nat_eq q) more)) (items_of a q)) (added ∙ ap (with_items now k) same)
      ∙ ap (unwrap_or (option_map list (lookup (nat_eq q) more))) (items-of-with now k (list d) q ∙ ap (λ b. cond b (list d) (items_of now q)) (sym (same_test q k)))
      ∙ choose (nat_eq q k) (lookup (nat_eq q) more) (items_of now q) later-none
      ∙ ap (λ r. unwrap_or (option_map list (lookup (nat_eq q) r)) (items_of now q)) (sym is)
      ∙ left q
    where
      here : IsDistinct nat_eq (keys_of ((k, d) ∷ more))
      here = subst (λ r. IsDistinct nat_eq (keys_of r)) is distinct

      later-none : nat_eq q k ≡ true → lookup (nat_eq q) more ≡ None
      later-none there = lookup-none (nat_eq q) more (none_past_head nat_eq_equiv q (k, d) more here there)

      choose : (b : Bool) (later : Option ProcessCalled) (before : List A) → (b ≡ true → later ≡ None)
          → unwrap_or (option_map list later) (cond b (list d) before) ≡ unwrap_or (option_map list (cond b (Some d) later)) before
      choose true later before none = ap (λ (o : Option ProcessCalled). unwrap_or (option_map list o) (list d)) (none refl)
      choose false later before none = refl

  none-empty-on : (es : List (ℕ × ProcessCalled)) → NoneEmpty (lists_on list es)
  none-empty-on es q = get-lists_on list is-empty es q ∙ ap listed (sym (items-lists_on list is-empty es q))

  pub left-none : (rest es : List (ℕ × ProcessCalled)) (now all : ByProcess (List A)) → rest ≡ [] → lists_on list es ≡ all → NoneEmpty now → Left list rest now all → now ≡ all
  left-none rest es now all none seen filled left =
      map.same_map nat_cmp_total map.nat_cmp-IsAntisymmetric now all
      (λ q. filled q
      ∙ ap listed (ap (λ r. unwrap_or (option_map list (lookup (nat_eq q) r)) (items_of now q)) (sym none) ∙ left q)
      ∙ sym (subst (λ a. map.get a q ≡ listed (items_of a q)) seen (none-empty-on es q)))

-- a process was given calls in place of what it had
module _ {S : Type 0} (m n : HashMap ℕ ProcessCalled S) (calls : Called) (p : ℕ) (d : ProcessCalled) (seen : called_on m.entries ≡ calls) (updates : Updates nat_eq m n p (Some d)) where
  pub held-added : (called_on n.entries).held ≡ with_items calls.held p d.held
  held-added = held-changed m.entries n.entries calls seen p d (changes m.entries n.entries p (Some d) updates.0)

  pub replies-added : (called_on n.entries).replies ≡ with_items calls.replies p d.replies
  replies-added = replies-changed m.entries n.entries calls seen p d (changes m.entries n.entries p (Some d) updates.0)

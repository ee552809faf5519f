-- A table that is filled with copies of another's entries, one after another: those that are left and those that were
-- copied are all.
use Rattle.std.proofs.Common.{◌≡◌, ℕ, Bool, true, false, cond, nat_eq, List, [], ◌∷◌, Option, Some, None, unwrap_or, option_map, refl, ap, sym, ◌∙◌, subst}
use Rattle.std.proofs.lemmas.Map.{lookup-none}
use Rattle.std.proofs.lemmas.Map.Entries.{none_past_head}
use Rattle.std.proofs.lemmas.Map.Keys.{IsDistinct-from_sorted, IsDistinct-tail}
use Rattle.std.specs.BTreeMap.{BTreeMap, Updates, is_at}
use Rattle.std.specs.Cmp.{IsEquivalence, eq_by_cmp_equiv, nat_cmp_total, nat_eq_equiv}
use Rattle.std.specs.FinMap as map
use Rattle.std.specs.List.{IsDistinct}
use Rattle.std.specs.List.Sorted.{IsStrictlySortedBy}
use Rattle.std.specs.Map.{keys_of, lookup}
use Rattle.std.specs.Option.{option_or}
use Rattle.std.specs.Ordering.{eq_by_cmp, is_eq, nat_cmp}
use Rattle.sr_buckets.proofs.NumberLemmas.{same_test}
use Rattle.sr_store.specs.Kept.{Kept, stored_on, variables_on}
use Rattle.sr_store.specs.Variables.{ByNumber, Stored, Variables, block_of, with_block}
use Rattle.sr_store.specs.declared.variable.Variable.{Variable}
use Rattle.sr_store.proofs.BlockLemmas.{get-table}
use Rattle.sr_store.proofs.KeptLemmas.{block-variables_on, changes, get-variables_on, get-with_block, listed, listed-empty, no_block, unwrap_or-listed, variables-changed}

-- a key isn't there a second time
later-none : {X : Type 0} (eq : ℕ → ℕ → Bool) → IsEquivalence eq → (q k : ℕ) (x : X) (more : List (ℕ × X)) → IsDistinct eq (keys_of ((k, x) ∷ more)) → eq q k ≡ true → lookup (eq q) more ≡ None
later-none eq laws q k x more distinct same = lookup-none (eq q) more (none_past_head laws q (k, x) more distinct same)

-- ---- the variables of a block

abbrev pub Left : List (ℕ × Variable) → ByNumber Variable → ByNumber Variable → Type 0
Left rest now all = (q : ℕ) → option_or (lookup (nat_eq q) rest) (map.get now q) ≡ map.get all q

pub left-first : (rest es : List (ℕ × Variable)) (now all : ByNumber Variable) → rest ≡ es → map.from_entries es ≡ all → now ≡ map.empty → Left rest now all
left-first rest es now all same seen empty q =
    ap (λ r. option_or (lookup (nat_eq q) r) (map.get now q)) same
    ∙ ap (λ b. option_or (lookup (nat_eq q) es) (map.get b q)) empty
    ∙ ap (option_or (lookup (nat_eq q) es)) (map.get-empty nat_cmp q)
    ∙ alone (lookup (nat_eq q) es)
    ∙ sym (get-table es q)
    ∙ ap (λ b. map.get b q) seen
  where
    alone : (o : Option Variable) → option_or o None ≡ o
    alone None = refl
    alone (Some v) = refl

module _ (rest more : List (ℕ × Variable)) (k : ℕ) (variable : Variable) (is : rest ≡ (k, variable) ∷ more) (distinct : IsDistinct nat_eq (keys_of rest)) where
  distinct-here : IsDistinct nat_eq (keys_of ((k, variable) ∷ more))
  distinct-here = subst (λ r. IsDistinct nat_eq (keys_of r)) is distinct

  pub distinct-more : IsDistinct nat_eq (keys_of more)
  distinct-more = IsDistinct-tail nat_eq k (keys_of more) distinct-here

  pub left-more : (now next all : ByNumber Variable) (copy : Variable) → Left rest now all → next ≡ map.insert now k copy → copy ≡ variable → Left more next all
  left-more now next all copy left inserted same q =
      ap (λ b. option_or (lookup (nat_eq q) more) (map.get b q)) (inserted ∙ ap (map.insert now k) same)
      ∙ ap (option_or (lookup (nat_eq q) more)) (map.get-insert nat_cmp_total now k variable q ∙ ap (λ b. cond b (Some variable) (map.get now q)) (sym (same_test q k)))
      ∙ choose (nat_eq q k) (lookup (nat_eq q) more) (map.get now q) (later-none nat_eq nat_eq_equiv q k variable more distinct-here)
      ∙ ap (λ r. option_or (lookup (nat_eq q) r) (map.get now q)) (sym is)
      ∙ left q
    where
      choose : (b : Bool) (later before : Option Variable) → (b ≡ true → later ≡ None) → option_or later (cond b (Some variable) before) ≡ option_or (cond b (Some variable) later) before
      choose true later before none = ap (λ o. option_or o (Some variable)) (none refl)
      choose false later before none = refl

pub left-none : (rest : List (ℕ × Variable)) (now all : ByNumber Variable) → rest ≡ [] → Left rest now all → now ≡ all
left-none rest now all none left =
    map.same_map nat_cmp_total map.nat_cmp-IsAntisymmetric now all (λ q. ap (λ r. option_or (lookup (nat_eq q) r) (map.get now q)) (sym none) ∙ left q)

-- ---- blocks

abbrev pub BlocksLeft : List (ℕ × Kept) → Variables → Variables → Type 0
BlocksLeft rest now all = (q : ℕ) → unwrap_or (option_map (λ d. d.variables) (lookup (is_at (nat_cmp q)) rest)) (block_of now q) ≡ block_of all q

-- a block without variables has no entry
abbrev pub NoneEmpty : Variables → Type 0
NoneEmpty all = (q : ℕ) → map.get all q ≡ listed (block_of all q)

pub distinct-blocks : (rest es : List (ℕ × Kept)) → rest ≡ es → IsStrictlySortedBy nat_cmp (keys_of es) → IsDistinct (eq_by_cmp nat_cmp) (keys_of rest)
distinct-blocks rest es same ordered = IsDistinct-from_sorted nat_cmp (keys_of rest) (subst (λ r. IsStrictlySortedBy nat_cmp (keys_of r)) (sym same) ordered)

empty-block : (q : ℕ) → block_of map.empty q ≡ map.empty
empty-block q = ap (λ o. unwrap_or o map.empty) (map.get-empty nat_cmp q)

pub none-empty-first : (now : Variables) → now ≡ map.empty → NoneEmpty now
none-empty-first now empty q = subst (λ a. map.get a q ≡ listed (block_of a q)) (sym empty) (map.get-empty nat_cmp q ∙ listed-empty ∙ ap listed (sym (empty-block q)))

none-empty-on : (es : List (ℕ × Kept)) → NoneEmpty (variables_on es)
none-empty-on es q = get-variables_on es q ∙ ap listed (sym (block-variables_on es q))

pub blocks-left-first : (rest es : List (ℕ × Kept)) (now : Variables) (all : Stored) → rest ≡ es → stored_on es ≡ all → now ≡ map.empty → BlocksLeft rest now all.variables
blocks-left-first rest es now all same seen empty q =
    ap (λ r. unwrap_or (option_map (λ d. d.variables) (lookup (is_at (nat_cmp q)) r)) (block_of now q)) same
    ∙ ap (unwrap_or (option_map (λ d. d.variables) (lookup (is_at (nat_cmp q)) es))) (ap (λ a. block_of a q) empty ∙ empty-block q)
    ∙ alone (lookup (is_at (nat_cmp q)) es)
    ∙ sym (block-variables_on es q)
    ∙ ap (λ s. block_of s.variables q) seen
  where
    alone : (o : Option Kept) → unwrap_or (option_map (λ d. d.variables) o) map.empty ≡ (unwrap_or o no_block).variables
    alone None = refl
    alone (Some d) = refl

block-of-with : (all : Variables) (p : ℕ) (block : ByNumber Variable) (q : ℕ) → block_of (with_block all p block) q ≡ cond (is_eq (nat_cmp q p)) block (block_of all q)
block-of-with all p block q = ap (λ o. unwrap_or o map.empty) (get-with_block all p block q) ∙ out (is_eq (nat_cmp q p))
  where
    out : (b : Bool) → unwrap_or (cond b (listed block) (map.get all q)) map.empty ≡ cond b block (block_of all q)
    out true = unwrap_or-listed block
    out false = refl

module _ (rest more : List (ℕ × Kept)) (k : ℕ) (kept : Kept) (is : rest ≡ (k, kept) ∷ more) (distinct : IsDistinct (eq_by_cmp nat_cmp) (keys_of rest)) where
  blocks-here : IsDistinct (eq_by_cmp nat_cmp) (keys_of ((k, kept) ∷ more))
  blocks-here = subst (λ r. IsDistinct (eq_by_cmp nat_cmp) (keys_of r)) is distinct

  pub blocks-more : IsDistinct (eq_by_cmp nat_cmp) (keys_of more)
  blocks-more = IsDistinct-tail (eq_by_cmp nat_cmp) k (keys_of more) blocks-here

  pub blocks-left-more : (now next all : Variables) (copy : ByNumber Variable) → BlocksLeft rest now all → next ≡ with_block now k copy → copy ≡ kept.variables → BlocksLeft more next all
  blocks-left-more now next all copy left added same q =
      ap (λ a. unwrap_or (option_map (λ d. d.variables) (lookup (is_at (nat_cmp q)) more)) (block_of a q)) (added ∙ ap (with_block now k) same)
      ∙ ap (unwrap_or (option_map (λ d. d.variables) (lookup (is_at (nat_cmp q)) more))) (block-of-with now k kept.variables q)
      ∙ choose (is_eq (nat_cmp q k)) (lookup (is_at (nat_cmp q)) more) (block_of now q) (later-none (eq_by_cmp nat_cmp) (eq_by_cmp_equiv nat_cmp_total) q k kept more blocks-here)
      ∙ ap (λ r. unwrap_or (option_map (λ d. d.variables) (lookup (is_at (nat_cmp q)) r)) (block_of now q)) (sym is)
      ∙ left q
    where
      choose : (b : Bool) (later : Option Kept) (before : ByNumber Variable) → (b ≡ true → later ≡ None)
          → unwrap_or (option_map (λ d. d.variables) later) (cond b kept.variables before) ≡ unwrap_or (option_map (λ d. d.variables) (cond b (Some kept) later)) before
      choose true later before none = ap (λ (o : Option Kept). unwrap_or (option_map (λ d. d.variables) o) kept.variables) (none refl)
      choose false later before none = refl

pub none-empty-more : (now next : Variables) (k : ℕ) (copy : ByNumber Variable) → NoneEmpty now → next ≡ with_block now k copy → NoneEmpty next
none-empty-more now next k copy none added q =
    subst (λ a. map.get a q ≡ listed (block_of a q)) (sym added)
    (get-with_block now k copy q
    ∙ ap (cond (is_eq (nat_cmp q k)) (listed copy)) (none q)
    ∙ out (is_eq (nat_cmp q k)) (block_of now q)
    ∙ ap listed (sym (block-of-with now k copy q)))
  where
    out : (b : Bool) (before : ByNumber Variable) → cond b (listed copy) (listed before) ≡ listed (cond b copy before)
    out true before = refl
    out false before = refl

pub blocks-left-none : (rest es : List (ℕ × Kept)) (now : Variables) (all : Stored) → rest ≡ [] → stored_on es ≡ all → NoneEmpty now → BlocksLeft rest now all.variables → now ≡ all.variables
blocks-left-none rest es now all none seen filled left =
    map.same_map nat_cmp_total map.nat_cmp-IsAntisymmetric now all.variables
    (λ q. filled q
    ∙ ap listed (ap (λ r. unwrap_or (option_map (λ d. d.variables) (lookup (is_at (nat_cmp q)) r)) (block_of now q)) (sym none) ∙ left q)
    ∙ sym (subst (λ s. map.get s.variables q ≡ listed (block_of s.variables q)) seen (none-empty-on es q)))

-- a block was put in place of what it had
pub added : (m n : BTreeMap ℕ Kept) (stored : Stored) (p : ℕ) (block : Kept) → stored_on m.entries ≡ stored → Updates nat_cmp m n p (Some block) → variables_on n.entries ≡ with_block stored.variables p block.variables
added m n stored p block seen updates =
    variables-changed m.entries n.entries p block (changes m.entries n.entries p (Some block) updates.0) ∙ ap (λ s. with_block s.variables p block.variables) seen

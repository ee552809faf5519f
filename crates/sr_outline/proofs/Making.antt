-- The search for the globals that are needed comes to an end, and finds them in an order in which they can be made.
use Rattle.std.proofs.Common.{◌≡◌, ℕ, zero, suc, ◌+◌, ◌<◌, ◌≤◌, ◌⊎◌, Bool, true, false, not, ◌&&◌, ◌||◌, eqb, List, [], ◌∷◌, ◌++◌, length, refl, sym, ap, ◌∙◌, subst, inl, inr, arith, unwrap_or, Option}
use Rattle.std.specs.List.{list_all, IsDistinct, AllByRecursion}
use Rattle.std.proofs.lemmas.Bool.{false≢true, eqb-true, eq-eqb, cases_Bool, cases_lt, false_from_ne_true, and_parts, and_from, or_cases, or_parts, or_from, or_left, or_right, cond-true, cond-false, not_from_false}
use Rattle.std.proofs.lemmas.List.Folds.{list_any-append}
use Rattle.std.proofs.lemmas.Option.{slice_get_past}
use Rattle.std.proofs.lemmas.Map.Keys.{IsDistinct-cons}
use Rattle.std.proofs.lemmas.Map.Steps.{length-le_from_distinct_below}
use Rattle.sr_outline.specs.Needs.{Leads, at_once, through, NoCycle, among, in_order, NeedsInOrder}
use Rattle.sr_outline.specs.Outline.{imports_at, member, needs_of, with_needed, with_number}

-- ---- members

-- a member of `n :: ns` is `n` or a member of `ns`
member_first : (n : ℕ) (ns : List ℕ) → member n (n ∷ ns) ≡ true
member_first n ns = or_left (eqb n n) _ (eq-eqb n n refl)

member_after : (m n : ℕ) (ns : List ℕ) → member m ns ≡ true → member m (n ∷ ns) ≡ true
member_after m n ns h = or_right (eqb m n) _ h

member-append : (m : ℕ) (xs ys : List ℕ) → member m (xs ++ ys) ≡ (member m xs || member m ys)
member-append m xs ys = list_any-append (λ n. eqb m n) xs ys

member_left : (m : ℕ) (xs ys : List ℕ) → member m xs ≡ true → member m (xs ++ ys) ≡ true
member_left m xs ys h = member-append m xs ys ∙ or_left _ _ h

member_last : (m : ℕ) (xs : List ℕ) → member m (xs ++ m ∷ []) ≡ true
member_last m xs = member-append m xs (m ∷ []) ∙ or_right (member m xs) _ (member_first m [])

-- all are among others where each of them is
among_from : (xs ys : List ℕ) → ((m : ℕ) → member m xs ≡ true → member m ys ≡ true) → among xs ys ≡ true
among_from [] ys h = refl
among_from (x ∷ xs) ys h = and_from (member x ys) (among xs ys) (h x (member_first x xs)) (among_from xs ys (λ m k. h m (member_after m x xs k)))

-- ---- globals in order

-- one more after those that it imports
order-last : (imports : List (List ℕ)) (earlier made : List ℕ) (global : ℕ)
    → in_order imports earlier made ≡ true
    → member global earlier ≡ false
    → member global made ≡ false
    → ((m : ℕ) → member m (imports_at imports global) ≡ true → (member m earlier || member m made) ≡ true)
    → in_order imports earlier (made ++ global ∷ []) ≡ true
order-last imports earlier [] global o e n h =
    and_from _ true (and_from _ _ (not_from_false _ e) (among_from (imports_at imports global) earlier (λ m k. by m (or_cases _ _ (h m k))))) refl
  where
    by : (m : ℕ) → (member m earlier ≡ true) ⊎ (false ≡ true) → member m earlier ≡ true
    by m (inl k) = k
    by m (inr k) = absurd (false≢true k)
order-last imports earlier (x ∷ made) global o e n h =
    and_from _ _ (and_parts (not (member x earlier) && among (imports_at imports x) earlier) _ o).0
    (order-last imports (x ∷ earlier) made global (and_parts (not (member x earlier) && among (imports_at imports x) earlier) _ o).1
    (or_from _ _ (or_parts (eqb global x) (member global made) n).0 e)
    (or_parts (eqb global x) (member global made) n).1
    (λ m k. by m (eqb m x) (member m earlier) (member m made) (h m k)))
  where
    by : (m : ℕ) (here before after : Bool) → (before || (here || after)) ≡ true → ((here || before) || after) ≡ true
    by m true before after h = refl
    by m false before after h = h

-- ---- the search comes to an end

-- what is wanted is found at this depth
settles : ℕ → List (List ℕ) → List ℕ → Bool
settles zero imports [] = true
settles zero imports (global ∷ globals) = false
settles (suc depth) imports wanted = list_all (λ global. settles depth imports (imports_at imports global)) wanted

settles_all : (depth : ℕ) (imports : List (List ℕ)) (wanted : List ℕ)
    → ((g : ℕ) → member g wanted ≡ true → settles depth imports (imports_at imports g) ≡ true)
    → settles (suc depth) imports wanted ≡ true
unfolding settles
settles_all depth imports [] h = refl
settles_all depth imports (g ∷ wanted) h = and_from _ _ (h g (member_first g wanted)) (settles_all depth imports wanted (λ m k. h m (member_after m g wanted k)))

settles_none : (depth : ℕ) (imports : List (List ℕ)) → settles depth imports [] ≡ true
unfolding settles
settles_none zero imports = refl
settles_none (suc depth) imports = refl

-- after the last component nothing is imported
imports_past : (imports : List (List ℕ)) (g : ℕ) → length imports ≤ g → imports_at imports g ≡ []
imports_past imports g h = ap (λ (found : Option (List ℕ)). unwrap_or found []) (slice_get_past imports g h)

-- to what is led to is led, and on to what that imports
leads_on : (imports : List (List ℕ)) (a b c : ℕ) → Leads imports a b → member c (imports_at imports b) ≡ true → Leads imports a c
leads_on imports a b c (at_once from to h) k = through from to c h (at_once to c k)
leads_on imports a b c (through from next to h l) k = through from next c h (leads_on imports next to c l k)

apart_from_others : (g : ℕ) (ns : List ℕ) → member g ns ≡ false → AllByRecursion (λ n. eqb g n ≡ false) ns
apart_from_others g [] h = tt
apart_from_others g (n ∷ ns) h = ((or_parts (eqb g n) (member g ns) h).0, apart_from_others g ns (or_parts (eqb g n) (member g ns) h).1)

-- Those that lead to all that is wanted are each one, so they are at most as many as there are components.
settles-after : (depth : ℕ) (imports : List (List ℕ)) (after wanted : List ℕ)
    → NoCycle imports
    → IsDistinct eqb after
    → ((g : ℕ) → member g after ≡ true → g < length imports)
    → ((g m : ℕ) → member g after ≡ true → member m wanted ≡ true → Leads imports g m)
    → length imports < length after + depth
    → settles depth imports wanted ≡ true
settles-after zero imports after wanted c d below leads n = absurd (omega (arith, length-le_from_distinct_below after (length imports) d below))
settles-after (suc depth) imports after wanted c d below leads n =
    settles_all depth imports wanted (λ g k. by g k (λ l. settles-after depth imports (g ∷ after) (imports_at imports g) c (distinct g k) (under g l) (longer g k) (omega (arith, n))) (cases_lt g (length imports)))
  where
    new : (g : ℕ) → member g wanted ≡ true → member g after ≡ true → ⊥
    new g k e = c g (leads g g e k)

    distinct : (g : ℕ) → member g wanted ≡ true → IsDistinct eqb (g ∷ after)
    distinct g k = IsDistinct-cons eqb g after (apart_from_others g after (false_from_ne_true (member g after) (new g k))) d

    under : (g : ℕ) → g < length imports → (m : ℕ) → member m (g ∷ after) ≡ true → m < length imports
    under g l m k = by (or_cases (eqb m g) (member m after) k)
      where
        by : (eqb m g ≡ true) ⊎ (member m after ≡ true) → m < length imports
        by (inl e) = subst (λ n. n < length imports) (sym (eqb-true m g e)) l
        by (inr k) = below m k

    longer : (g : ℕ) → member g wanted ≡ true → (m x : ℕ) → member m (g ∷ after) ≡ true → member x (imports_at imports g) ≡ true → Leads imports m x
    longer g k m x e h = by (or_cases (eqb m g) (member m after) e)
      where
        by : (eqb m g ≡ true) ⊎ (member m after ≡ true) → Leads imports m x
        by (inl e) = subst (λ n. Leads imports n x) (sym (eqb-true m g e)) (at_once g x h)
        by (inr e) = leads_on imports m g x (leads m g e k) h

    by : (g : ℕ) → member g wanted ≡ true → (g < length imports → settles depth imports (imports_at imports g) ≡ true)
        → (g < length imports) ⊎ (length imports ≤ g) → settles depth imports (imports_at imports g) ≡ true
    by g k more (inl l) = more l
    by g k more (inr l) = subst (λ ws. settles depth imports ws ≡ true) (sym (imports_past imports g l)) (settles_none depth imports)

distinct_none : IsDistinct eqb []
unfolding IsDistinct
distinct_none = tt

settles-needs : (imports : List (List ℕ)) (component : ℕ) → NoCycle imports → settles (length imports) imports (imports_at imports component) ≡ true
settles-needs imports component c = by (cases_lt component (length imports))
  where
    alone : (m : ℕ) → member m (component ∷ []) ≡ true → m ≡ component
    alone m e = eqb-true m component (or_first (eqb m component) e)
      where
        or_first : (b : Bool) → (b || false) ≡ true → b ≡ true
        or_first true e = refl
        or_first false e = e

    by : (component < length imports) ⊎ (length imports ≤ component) → settles (length imports) imports (imports_at imports component) ≡ true
    by (inl l) =
        settles-after (length imports) imports (component ∷ []) (imports_at imports component) c
        (IsDistinct-cons eqb component [] tt distinct_none) (λ g e. subst (λ n. n < length imports) (sym (alone g e)) l)
        (λ g m e k. subst (λ n. Leads imports n m) (sym (alone g e)) (at_once component m k)) (omega arith)
    by (inr l) = subst (λ ws. settles (length imports) imports ws ≡ true) (sym (imports_past imports component l)) (settles_none (length imports) imports)

-- ---- what the search finds

-- what there is after a search
record Grown (imports : List (List ℕ)) (there wanted made : List ℕ) : Type 0 where
  ordered : in_order imports [] made ≡ true
  keeps : (m : ℕ) → member m there ≡ true → member m made ≡ true
  holds : (m : ℕ) → member m wanted ≡ true → member m made ≡ true
  from : (m : ℕ) → member m made ≡ true
      → (member m there ≡ true) ⊎ ((member m wanted ≡ true) ⊎ ((importer : ℕ) × (member m (imports_at imports importer) ≡ true)))

-- what a search puts
Search : List (List ℕ) → (List ℕ → List ℕ → List ℕ) → (List ℕ → Bool) → Type 0
Search imports search ends = (there wanted : List ℕ) → ends wanted ≡ true → in_order imports [] there ≡ true → Grown imports there wanted (search there wanted)

only : (m n : ℕ) → member m (n ∷ []) ≡ true → m ≡ n
only m n e = by (or_cases (eqb m n) false e)
  where
    by : (eqb m n ≡ true) ⊎ (false ≡ true) → m ≡ n
    by (inl e) = eqb-true m n e
    by (inr e) = absurd (false≢true e)

-- a global after those that it imports
put : (imports : List (List ℕ)) (there made : List ℕ) (global : ℕ)
    → Grown imports there (imports_at imports global) made
    → Grown imports there (global ∷ []) (with_number made global)
put imports there made global g = by (cases_Bool (member global made))
  where
    is_there : (made : List ℕ) → member global made ≡ true → (m : ℕ) → member m (global ∷ []) ≡ true → member m made ≡ true
    is_there made h m e = subst (λ n. member n made ≡ true) (sym (only m global e)) h

    from : (m : ℕ) → (member m there ≡ true) ⊎ ((member m (imports_at imports global) ≡ true) ⊎ ((importer : ℕ) × (member m (imports_at imports importer) ≡ true)))
        → (member m there ≡ true) ⊎ ((member m (global ∷ []) ≡ true) ⊎ ((importer : ℕ) × (member m (imports_at imports importer) ≡ true)))
    from m (inl h) = inl h
    from m (inr (inl h)) = inr (inr (global, h))
    from m (inr (inr h)) = inr (inr h)

    last : (m : ℕ) → (member m made ≡ true) ⊎ (member m (global ∷ []) ≡ true)
        → (member m there ≡ true) ⊎ ((member m (global ∷ []) ≡ true) ⊎ ((importer : ℕ) × (member m (imports_at imports importer) ≡ true)))
    last m (inl h) = from m (g.from m h)
    last m (inr h) = inr (inl h)

    left : member global made ≡ true → Grown imports there (global ∷ []) made
    left h = record { ordered = g.ordered; keeps = g.keeps; holds = is_there made h; from = λ m k. from m (g.from m k) }

    more : member global made ≡ false → Grown imports there (global ∷ []) (made ++ global ∷ [])
    more h = record {
      ordered = order-last imports [] made global g.ordered refl h (λ m k. or_right (member m []) (member m made) (g.holds m k));
      keeps = λ m k. member_left m made (global ∷ []) (g.keeps m k);
      holds = is_there (made ++ global ∷ []) (member_last global made);
      from = λ m k. last m (or_cases (member m made) (member m (global ∷ [])) (sym (member-append m made (global ∷ [])) ∙ k));
    }

    by : (member global made ≡ true) ⊎ (member global made ≡ false) → Grown imports there (global ∷ []) (with_number made global)
    by (inl h) = subst (Grown imports there (global ∷ [])) (sym (cond-true (member global made) made (made ++ global ∷ []) h)) (left h)
    by (inr h) = subst (Grown imports there (global ∷ [])) (sym (cond-false (member global made) made (made ++ global ∷ []) h)) (more h)

-- one global that is wanted
turn : (depth : ℕ) (imports : List (List ℕ)) → Search imports (with_needed depth imports) (settles depth imports)
    → (there : List ℕ) (global : ℕ) → settles depth imports (imports_at imports global) ≡ true → in_order imports [] there ≡ true
    → Grown imports there (global ∷ []) (with_needed (suc depth) imports there (global ∷ []))
unfolding Search
turn depth imports search there global s o = by (cases_Bool (member global there))
  where
    made : List ℕ
    made = with_number (with_needed depth imports there (imports_at imports global)) global

    left : member global there ≡ true → Grown imports there (global ∷ []) there
    left h = record { ordered = o; keeps = λ m k. k; holds = λ m e. subst (λ n. member n there ≡ true) (sym (only m global e)) h; from = λ m k. inl k }

    more : Grown imports there (global ∷ []) made
    more = put imports there (with_needed depth imports there (imports_at imports global)) global (search there (imports_at imports global) s o)

    by : (member global there ≡ true) ⊎ (member global there ≡ false) → Grown imports there (global ∷ []) (with_needed (suc depth) imports there (global ∷ []))
    by (inl h) = subst (Grown imports there (global ∷ [])) (sym (cond-true (member global there) there made h)) (left h)
    by (inr h) = subst (Grown imports there (global ∷ [])) (sym (cond-false (member global there) there made h)) more

-- one after another
on : (imports : List (List ℕ)) (there : List ℕ) (global : ℕ) (made wanted all : List ℕ)
    → Grown imports there (global ∷ []) made → Grown imports made wanted all → Grown imports there (global ∷ wanted) all
on imports there global made wanted all g h = record {
  ordered = h.ordered;
  keeps = λ m k. h.keeps m (g.keeps m k);
  holds = λ m k. holds m (or_cases (eqb m global) (member m wanted) k);
  from = λ m k. from m (h.from m k);
}
  where
    holds : (m : ℕ) → (eqb m global ≡ true) ⊎ (member m wanted ≡ true) → member m all ≡ true
    holds m (inl e) = h.keeps m (g.holds m (or_left (eqb m global) false e))
    holds m (inr k) = h.holds m k

    Wanted : ℕ → List ℕ → Type 0
    Wanted m wanted = (member m there ≡ true) ⊎ ((member m wanted ≡ true) ⊎ ((importer : ℕ) × (member m (imports_at imports importer) ≡ true)))

    first : (m : ℕ) → Wanted m (global ∷ []) → Wanted m (global ∷ wanted)
    first m (inl k) = inl k
    first m (inr (inl k)) = inr (inl (or_left (eqb m global) (member m wanted) (eq-eqb m global (only m global k))))
    first m (inr (inr k)) = inr (inr k)

    from : (m : ℕ) → (member m made ≡ true) ⊎ ((member m wanted ≡ true) ⊎ ((importer : ℕ) × (member m (imports_at imports importer) ≡ true))) → Wanted m (global ∷ wanted)
    from m (inl k) = first m (g.from m k)
    from m (inr (inl k)) = inr (inl (or_right (eqb m global) (member m wanted) k))
    from m (inr (inr k)) = inr (inr k)

nothing : (imports : List (List ℕ)) (there : List ℕ) → in_order imports [] there ≡ true → Grown imports there [] there
nothing imports there o = record { ordered = o; keeps = λ m k. k; holds = λ m k. absurd (false≢true k); from = λ m k. inl k }

turns : (depth : ℕ) (imports : List (List ℕ)) → Search imports (with_needed depth imports) (settles depth imports)
    → Search imports (with_needed (suc depth) imports) (settles (suc depth) imports)
unfolding Search settles
turns depth imports search there [] s o = nothing imports there o
turns depth imports search there (global ∷ wanted) s o =
    let first = turn depth imports search there global (and_parts (settles depth imports (imports_at imports global)) _ s).0 o in
    on imports there global (with_needed (suc depth) imports there (global ∷ [])) wanted (with_needed (suc depth) imports there (global ∷ wanted))
    first
    (turns depth imports search (with_needed (suc depth) imports there (global ∷ [])) wanted (and_parts (settles depth imports (imports_at imports global)) _ s).1 first.ordered)

needed : (depth : ℕ) (imports : List (List ℕ)) → Search imports (with_needed depth imports) (settles depth imports)
unfolding Search settles
needed zero imports there [] s o = nothing imports there o
needed zero imports there (global ∷ wanted) s o = absurd (false≢true s)
needed (suc depth) imports there wanted s o = turns depth imports (needed depth imports) there wanted s o

pub needs-in_order : NeedsInOrder
unfolding Search
needs-in_order imports c component = record {
  ordered = all.ordered;
  imported = among_from (imports_at imports component) (needs_of imports component) all.holds;
  wanted = λ global k. by global (all.from global k);
}
  where
    all : Grown imports [] (imports_at imports component) (needs_of imports component)
    all = needed (length imports) imports [] (imports_at imports component) (settles-needs imports component c) refl

    by : (m : ℕ) → (false ≡ true) ⊎ ((member m (imports_at imports component) ≡ true) ⊎ ((importer : ℕ) × (member m (imports_at imports importer) ≡ true)))
        → (importer : ℕ) × (member m (imports_at imports importer) ≡ true)
    by m (inl h) = absurd (false≢true h)
    by m (inr (inl h)) = (component, h)
    by m (inr (inr h)) = h

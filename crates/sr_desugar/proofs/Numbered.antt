-- Statements that wait and the sites that they make, in one order: each finds its own site by its number.
use Rattle.std.proofs.Common.{◌≡◌, refl, sym, ap, subst, ◌∙◌, ℕ, suc, Bool, true, false, true≢false, cond, not, List, [], ◌∷◌, ◌++◌, length, Some, None, nat_lt, position, slice_get, is_some, arith, one-add, ◌+◌}
use Rattle.std.specs.Option.{option_map}
use Rattle.std.specs.Cmp.{IsEquivalence}
use Rattle.std.specs.Prelude.{IsTrue}
use Rattle.std.specs.List.{AllByRecursion, IsDistinct, list_all, position_or_len}
use Rattle.std.proofs.lemmas.Bool.{and_parts, ltb-true, lt-ltb}
use Rattle.std.proofs.lemmas.Cmp.{and_equiv, nat_eq_equiv, on_equiv}
use Rattle.std.proofs.lemmas.Map.Keys.{IsDistinct-head, IsDistinct-tail}
use Rattle.indexmap.proofs.SetLemmas.{set_all_distinct}
use Rattle.sr_core.specs.declared.site.Site.{Site}
use Rattle.sr_names.specs.declared.spot.Spot.{Spot}
use Rattle.sr_names.specs.Spots.{same_spot}
use Rattle.sr_tables.specs.Tables.{each_once}

-- ---- sites by the numbers of their spots

-- as many sites as spots
abbrev pub AsMany : List Spot → List Site → Type 0
AsMany [] [] = Unit {0}
AsMany [] (site ∷ sites) = ⊥
AsMany (spot ∷ spots) [] = ⊥
AsMany (spot ∷ spots) (site ∷ sites) = AsMany spots sites

-- the site of a spot has the number that the spot has in a table, and passes a test
abbrev pub At : (Site → Bool) → List Spot → List Site → Spot → Site → Type 0
At okay table sites spot site = (number : ℕ) × (position (same_spot spot) table ≡ Some number) × (slice_get sites number ≡ Some site) × IsTrue (okay site)

-- each of these sites is so, one for each spot
abbrev pub Numbered : (Site → Bool) → List Spot → List Site → List Spot → List Site → Type 0
Numbered okay table sites [] [] = Unit {0}
Numbered okay table sites [] (site ∷ made) = ⊥
Numbered okay table sites (spot ∷ spots) [] = ⊥
Numbered okay table sites (spot ∷ spots) (site ∷ made) = At okay table sites spot site × Numbered okay table sites spots made

-- one list after another
as_many_appended : (spots : List Spot) (made : List Site) (more : List Spot) (rest : List Site) → AsMany spots made → AsMany more rest → AsMany (spots ++ more) (made ++ rest)
as_many_appended [] [] more rest first second = second
as_many_appended [] (site ∷ made) more rest first second = absurd first
as_many_appended (spot ∷ spots) [] more rest first second = absurd first
as_many_appended (spot ∷ spots) (site ∷ made) more rest first second = as_many_appended spots made more rest first second

-- and apart again
split : (okay : Site → Bool) (table : List Spot) (sites : List Site) (spots : List Spot) (made : List Site) (more : List Spot) (rest : List Site)
    → AsMany spots made → Numbered okay table sites (spots ++ more) (made ++ rest) → Numbered okay table sites spots made × Numbered okay table sites more rest
split okay table sites [] [] more rest many all = (tt, all)
split okay table sites [] (site ∷ made) more rest many all = absurd many
split okay table sites (spot ∷ spots) [] more rest many all = absurd many
split okay table sites (spot ∷ spots) (site ∷ made) more rest many all =
    let parts = split okay table sites spots made more rest many all.1 in
    ((all.0, parts.0), parts.1)

-- ---- what is made of statements that wait at these spots

-- it makes a site for each spot, and fits where these sites have the numbers of their spots
pub record Waits (okay : Site → Bool) (table : List Spot) (Fits : List Site → Type 0) (spots : List Spot) (made : List Site) : Type 0 where
  pub as_many : AsMany spots made
  pub fits : (sites : List Site) → Numbered okay table sites spots made → Fits sites

-- what doesn't wait
pub none_waits : {okay : Site → Bool} {table : List Spot} {Fits : List Site → Type 0} → ((sites : List Site) → Fits sites) → Waits okay table Fits [] []
none_waits all = record { as_many = tt; fits = λ sites numbered. all sites }

-- what follows from what fits fits
pub waits_by : {okay : Site → Bool} {table : List Spot} {Fits Also : List Site → Type 0} {spots : List Spot} {made : List Site}
    → ((sites : List Site) → Fits sites → Also sites) → Waits okay table Fits spots made → Waits okay table Also spots made
waits_by change waits = record { as_many = waits.as_many; fits = λ sites numbered. change sites (waits.fits sites numbered) }

-- one after another
pub waits_both : {okay : Site → Bool} {table : List Spot} {Fits Also : List Site → Type 0} {spots : List Spot} {made : List Site} {more : List Spot} {rest : List Site}
    → Waits okay table Fits spots made → Waits okay table Also more rest → Waits okay table (λ sites. Fits sites × Also sites) (spots ++ more) (made ++ rest)
waits_both {okay} {table} {Fits} {Also} {spots} {made} {more} {rest} first second = record {
  as_many = as_many_appended spots made more rest first.as_many second.as_many;
  fits = λ sites numbered.
      let parts = split okay table sites spots made more rest first.as_many numbered in
      (first.fits sites parts.0, second.fits sites parts.1);
}

-- ---- sites that pass

abbrev pub any_site : Site → Bool
any_site site = true

all_okay : (okay : Site → Bool) (table : List Spot) (sites : List Site) (spots : List Spot) (made : List Site)
    → IsTrue (list_all okay made) → Numbered any_site table sites spots made → Numbered okay table sites spots made
all_okay okay table sites [] [] all numbered = tt
all_okay okay table sites [] (site ∷ made) all numbered = absurd numbered
all_okay okay table sites (spot ∷ spots) [] all numbered = absurd numbered
all_okay okay table sites (spot ∷ spots) (site ∷ made) all numbered =
    let parts = and_parts (okay site) (list_all okay made) all in
    ((numbered.0.0, numbered.0.1, numbered.0.2, parts.0), all_okay okay table sites spots made parts.1 numbered.1)

-- where all that is made passes
pub waits_okay : {okay : Site → Bool} {table : List Spot} {Fits : List Site → Type 0} {spots : List Spot} {made : List Site}
    → IsTrue (list_all okay made) → Waits okay table Fits spots made → Waits any_site table Fits spots made
waits_okay {okay} {table} {Fits} {spots} {made} all waits = record {
  as_many = waits.as_many;
  fits = λ sites numbered. waits.fits sites (all_okay okay table sites spots made all numbered);
}

-- ---- the whole list

-- spots are the same where their file and their byte are
spots_equal : IsEquivalence same_spot
spots_equal = and_equiv (on_equiv (λ (spot : Spot). spot.file) nat_eq_equiv) (on_equiv (λ (spot : Spot). spot.from) nat_eq_equiv)

-- a place in a list is one later where something stands before the list
placed_later : (count place number : ℕ) → cond (nat_lt place count) (Some place) None ≡ Some number → cond (nat_lt (suc place) (suc count)) (Some (suc place)) None ≡ Some (suc number)
placed_later count place number is = by (nat_lt place count) refl is
  where
    by : (below : Bool) → nat_lt place count ≡ below → cond below (Some place) None ≡ Some number → cond (nat_lt (suc place) (suc count)) (Some (suc place)) None ≡ Some (suc number)
    by true below same = ap (λ test. cond test (Some (suc place)) None) (lt-ltb (suc place) (suc count) (omega (arith, ltb-true place count below))) ∙ ap (option_map suc) same
    by false below same = absurd (true≢false (sym (ap is_some same)))

-- what is found after a spot that doesn't pass
skipped : (test : Spot → Bool) (spot : Spot) (table : List Spot) (number : ℕ) → test spot ≡ false → position test table ≡ Some number → position test (spot ∷ table) ≡ Some (suc number)
skipped test spot table number apart is =
    let place = position_or_len test table in
    let next : cond (not (test spot)) (1 + place) 0 ≡ suc place = ap (λ passes. cond (not passes) (1 + place) 0) apart ∙ one-add place in
    ap (λ found. cond (nat_lt found (suc (length table))) (Some found) None) next ∙ placed_later (length table) place number is

-- a spot that passes is found first
first_found : (test : Spot → Bool) (spot : Spot) (table : List Spot) → test spot ≡ true → position test (spot ∷ table) ≡ Some 0
first_found test spot table is =
    ap (λ passes. cond (nat_lt (cond (not passes) (1 + position_or_len test table) 0) (suc (length table))) (Some (cond (not passes) (1 + position_or_len test table) 0)) None) is
    ∙ ap (λ test. cond test (Some 0) None) (lt-ltb 0 (suc (length table)) (omega arith))

-- a spot before others, and its site before theirs
after : (first : Spot) (site : Site) (table : List Spot) (sites : List Site) (spots : List Spot) (made : List Site)
    → AllByRecursion (λ spot. same_spot first spot ≡ false) spots → Numbered any_site table sites spots made → Numbered any_site (first ∷ table) (site ∷ sites) spots made
after first site table sites [] [] apart numbered = tt
after first site table sites [] (one ∷ made) apart numbered = absurd numbered
after first site table sites (spot ∷ spots) [] apart numbered = absurd numbered
after first site table sites (spot ∷ spots) (one ∷ made) apart numbered = (
  (suc numbered.0.0, skipped (same_spot spot) first table numbered.0.0 (spots_equal.symm spot first ∙ apart.0) numbered.0.1, numbered.0.2, refl),
  after first site table sites spots made apart.1 numbered.1,
)

-- in the list of all spots each has its own place
all_numbered : (spots : List Spot) (made : List Site) → AsMany spots made → IsDistinct same_spot spots → Numbered any_site spots made spots made
all_numbered [] [] many distinct = tt
all_numbered [] (site ∷ made) many distinct = absurd many
all_numbered (spot ∷ spots) [] many distinct = absurd many
all_numbered (spot ∷ spots) (site ∷ made) many distinct = (
  (0, first_found (same_spot spot) spot spots (spots_equal.refl spot), refl, refl),
  after spot site spots made spots made (IsDistinct-head same_spot spot spots distinct) (all_numbered spots made many (IsDistinct-tail same_spot spot spots distinct)),
)

-- where all spots differ, what is made fits all sites that it makes
pub all_fit : (Fits : List Site → Type 0) (spots : List Spot) (made : List Site) → Waits any_site (each_once spots) Fits spots made → IsDistinct same_spot spots → Fits made
all_fit Fits spots made waits distinct =
    waits.fits made (subst (λ table. Numbered any_site table made spots made) (sym (set_all_distinct spots_equal [] spots distinct)) (all_numbered spots made waits.as_many distinct))

-- The names of a program stand in the order of the text: what stands before one of them stands elsewhere than all names after it.
use Rattle.std.proofs.Common.{◌≡◌, ◌⊎◌, inl, inr, ℕ, suc, ◌<◌, Bool, true, false, ◌&&◌, ◌||◌, List, [], ◌∷◌, ◌++◌, flat_map, refl, sym, subst, ◌∙◌, arith}
use Rattle.std.specs.Prelude.{◌==◌, nat_lt}
use Rattle.std.proofs.lemmas.Bool.{and_left, and_right, eqb-true, false≢true, ltb-true, ne_eqb}
use Rattle.sr_check.proofs.Each.{Each, each-append, each-left}
use Rattle.sr_front.proofs.Known.Lasting.{Away}
use Rattle.sr_front.specs.Phases.{AllPass, none_left, one_more}
use Rattle.sr_front.specs.Reading.{AreRead, HasTree}
use Rattle.sr_lexer.proofs.OrderLemmas.{tokens-ascend}
use Rattle.sr_lexer.specs.Tokens.{Lexes}
use Rattle.sr_names.specs.declared.spot.Spot.{Spot}
use Rattle.sr_names.specs.Spots.{same_spot, spot_before, spot_of}
use Rattle.sr_order.proofs.FileNames.{names-picked}
use Rattle.sr_order.proofs.Ordered.{After, ascend-after, ascend-lower, picked-ascend}
use Rattle.sr_order.specs.Names.{file_names}
use Rattle.sr_order.specs.Order.{Ascend, none_left as none_ascend, one_more as one_ascends}
use Rattle.sr_tree.specs.declared.component.File.{File}
use Rattle.sr_tree.specs.declared.token.Token.{Token}
use Rattle.sr_value.specs.declared.place.Span.{Span}

-- in an earlier file, or in the same at an earlier byte
abbrev pub IsBefore : Spot → Spot → Type 0
IsBefore a b = (a.file < b.file) ⊎ ((a.file ≡ b.file) × (a.from < b.from))

pub before_is : (a b : Spot) → spot_before a b ≡ true → IsBefore a b
before_is a b = by (nat_lt a.file b.file) (a.file == b.file) refl refl
  where
    by : (earlier same : Bool) → nat_lt a.file b.file ≡ earlier → (a.file == b.file) ≡ same → (earlier || (same && nat_lt a.from b.from)) ≡ true → IsBefore a b
    by true same e f h = inl (ltb-true a.file b.file e)
    by false true e f h = inr (eqb-true a.file b.file f, ltb-true a.from b.from h)
    by false false e f h = absurd (false≢true h)

before_through : (a b c : Spot) → IsBefore a b → IsBefore b c → IsBefore a c
before_through a b c (inl f) (inl g) = inl (omega (arith, f, g))
before_through a b c (inl f) (inr g) = let same = g.0 in inl (omega (arith, f, same))
before_through a b c (inr f) (inl g) = let same = f.0 in inl (omega (arith, same, g))
before_through a b c (inr f) (inr g) = let later = f.1 in let more = g.1 in inr (f.0 ∙ g.0, omega (arith, later, more))

pub before_other : (a b : Spot) → IsBefore a b → same_spot a b ≡ false
before_other a b (inl f) = and_left (a.file == b.file) (a.from == b.from) (ne_eqb a.file b.file (λ same. omega (arith, f, same)))
before_other a b (inr f) = let later = f.1 in and_right (a.file == b.file) (a.from == b.from) (ne_eqb a.from b.from (λ same. omega (arith, later, same)))

-- it stands before all of these
abbrev pub BeforeAll : Spot → List Span → Type 0
BeforeAll spot = Each (λ span. IsBefore spot (spot_of span))

-- each stands before all that follow
abbrev pub Rises : List Span → Type 0
Rises [] = Unit {0}
Rises (span ∷ spans) = BeforeAll (spot_of span) spans × Rises spans

-- ---- what rises

before_in_file : (file : ℕ) (span : Span) (spans : List Span) → span.file ≡ file → Ascend file (suc span.from) spans → BeforeAll (spot_of span) spans
before_in_file file span [] same none_ascend = tt
before_in_file file span (other ∷ spans) same (one_ascends s f b more) = (inr (same ∙ sym f, omega (arith, b)), before_in_file file span spans same (ascend-lower (omega (arith, b)) more))

before_later : (span : Span) (spans : List Span) → After span.file spans → BeforeAll (spot_of span) spans
before_later span [] after = tt
before_later span (other ∷ spans) after = (inl after.0, before_later span spans after.1)

ascends_rise : (file from : ℕ) (spans others : List Span) → Ascend file from spans → After file others → Rises others → Rises (spans ++ others)
ascends_rise file from [] others none_ascend after rises = rises
ascends_rise file from (span ∷ spans) others (one_ascends s f b more) after rises = (
  each-append (λ one. IsBefore (spot_of span) (spot_of one)) spans others (before_in_file file span spans f more) (before_later span others (subst (λ n. After n others) (sym f) after)),
  ascends_rise file (suc span.from) spans others more after rises,
)

-- files that are numbered on from a number rise, and stand after all files before
record RisesFrom (number : ℕ) (spans : List Span) : Type 0 where
  after : (before : ℕ) → before < number → After before spans
  rises : Rises spans

rises_from : {number : ℕ} {contents : List (List ℕ)} {tokens : List (List Token)} {trees : List File} → AllPass Lexes number contents tokens → AllPass HasTree number tokens trees
    → RisesFrom number (flat_map file_names trees)
rises_from none_left none_left = record { after = λ before h. tt; rises = tt }
rises_from (one_more {number = number} {file = bytes} {made = tokens} lexed others) (one_more {made = tree} {mades = trees} parsed rest) =
    let later = rises_from others rest in
    let here : Ascend number 0 (file_names tree) = picked-ascend number 0 (file_names tree) tokens (tokens-ascend number bytes tokens lexed) (names-picked tokens tree parsed) in
    record {
      after = λ before h. ascend-after number before 0 (file_names tree) (flat_map file_names trees) h here (later.after before (omega (arith, h)));
      rises = ascends_rise number 0 (file_names tree) (flat_map file_names trees) here (later.after number (omega arith)) later.rises;
    }

-- the names of all files rise
pub names_rise : (contents : List (List ℕ)) (trees : List File) → AreRead contents trees → Rises (flat_map file_names trees)
names_rise contents trees read = (rises_from read.lexed read.parsed).rises

-- ---- what stands before

before_more : (spot at : Spot) (spans : List Span) → IsBefore spot at → BeforeAll at spans → BeforeAll spot spans
before_more spot at [] first rest = tt
before_more spot at (span ∷ spans) first rest = (before_through spot at (spot_of span) first rest.0, before_more spot at spans first rest.1)

pub before_away : (spot : Spot) (spans : List Span) → BeforeAll spot spans → Away spot spans
before_away spot [] before = tt
before_away spot (span ∷ spans) before = (before_other spot (spot_of span) before.0, before_away spot spans before.1)

pub rises_left : (xs ys : List Span) → Rises (xs ++ ys) → Rises xs
rises_left [] ys rising = tt
rises_left (x ∷ xs) ys rising = (each-left _ xs ys rising.0, rises_left xs ys rising.1)

pub rises_right : (xs ys : List Span) → Rises (xs ++ ys) → Rises ys
rises_right [] ys rises = rises
rises_right (x ∷ xs) ys rises = rises_right xs ys rises.1

-- one of the first stands before all of the others
before_second : (xs ys : List Span) (P : Spot → Type 0) → Rises (xs ++ ys) → ((spot : Spot) → BeforeAll spot ys → P spot) → Each (λ span. P (spot_of span)) xs
before_second [] ys P rises each = tt
before_second (x ∷ xs) ys P rises each = (each (spot_of x) (right xs rises.0), before_second xs ys P rises.1 each)
  where
    right : (some : List Span) → BeforeAll (spot_of x) (some ++ ys) → BeforeAll (spot_of x) ys
    right [] before = before
    right (one ∷ some) before = right some before.1

-- what stands before one of the middle is away from all of the last
pub away_after : (before names after : List Span) → Rises (before ++ (names ++ after)) → Each (λ used. (spot : Spot) → spot_before spot (spot_of used) ≡ true → Away spot after) names
away_after before names after rises =
    before_second names after (λ at. (spot : Spot) → spot_before spot at ≡ true → Away spot after) (rises_right before (names ++ after) rises)
    (λ at rest spot is. before_away spot after (before_more spot at after (before_is spot at is) rest))

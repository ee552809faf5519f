-- The statements, operations and components of all files of a program stand at different spots.
use Rattle.std.proofs.Common.{◌≡◌, ℕ, ◌<◌, false, List, [], ◌∷◌, map, flat_map, arith}
use Rattle.std.specs.List.{IsDistinct, AllByRecursion}
use Rattle.sr_value.specs.declared.place.Span.{Span}
use Rattle.sr_tree.specs.declared.component.File.{File}
use Rattle.sr_tree.specs.declared.token.Token.{Token}
use Rattle.sr_tree.specs.Components.{Spells}
use Rattle.sr_order.specs.Order.{Picks, Ascend, same_place}
use Rattle.sr_order.proofs.Ordered.{After, picked-ascend, ascend-after, files-distinct}
use Rattle.sr_lexer.specs.Tokens.{Lexes}
use Rattle.sr_lexer.proofs.OrderLemmas.{tokens-ascend}
use Rattle.sr_names.specs.Spots.{spot_of, same_spot}
use Rattle.sr_front.specs.Phases.{AllPass, none_left, one_more}
use Rattle.sr_front.specs.Reading.{AreRead, HasTree}

-- the spans of files that are numbered on from `number`: at different places, and in none of the files before
record FromFile (number : ℕ) (spans : List Span) : Type 0 where
  after : (before : ℕ) → before < number → After before spans
  distinct : IsDistinct same_place spans

-- the spots of spans at different places differ
other-spots : (span : Span) (spans : List Span) → AllByRecursion (λ other. same_place span other ≡ false) spans
    → AllByRecursion (λ other. same_spot (spot_of span) other ≡ false) (map spot_of spans)
other-spots span [] apart = tt
other-spots span (other ∷ spans) apart = (apart.0, other-spots span spans apart.1)

distinct-spots : (spans : List Span) → IsDistinct same_place spans → IsDistinct same_spot (map spot_of spans)
unfolding IsDistinct
distinct-spots [] distinct = tt
distinct-spots (span ∷ spans) distinct = (other-spots span spans distinct.0, distinct-spots spans distinct.1)

-- spans that are picked from the tokens of each file
module _ (spans : File → List Span) (pick : (tokens : List Token) (file : File) → Spells tokens file → Picks (spans file) tokens) where
  from-file : {number : ℕ} {contents : List (List ℕ)} {tokens : List (List Token)} {trees : List File} → AllPass Lexes number contents tokens
      → AllPass HasTree number tokens trees → FromFile number (flat_map spans trees)
  unfolding IsDistinct
  from-file none_left none_left = record { after = λ before h. tt; distinct = tt }
  from-file (one_more {number = number} {file = bytes} {made = tokens} lexed others) (one_more {made = tree} {mades = trees} parsed rest) =
      let later = from-file others rest in
      let here : Ascend number 0 (spans tree) = picked-ascend number 0 (spans tree) tokens (tokens-ascend number bytes tokens lexed) (pick tokens tree parsed) in
      record {
        after = λ before h. ascend-after number before 0 (spans tree) (flat_map spans trees) h here (later.after before (omega (arith, h)));
        distinct = files-distinct number 0 (spans tree) (flat_map spans trees) here (later.after number (omega arith)) later.distinct;
      }

  pub spots-apart : (contents : List (List ℕ)) (trees : List File) → AreRead contents trees → IsDistinct same_spot (map spot_of (flat_map spans trees))
  spots-apart contents trees read = distinct-spots (flat_map spans trees) (from-file read.lexed read.parsed).distinct

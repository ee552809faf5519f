-- One list more.
use Rattle.std.proofs.Common.{◌+◌, ◌++◌, [], ◌∷◌, List, ℕ, map, drop, ap, sym, ◌∙◌, subst, append_assoc}
use Rattle.std.proofs.lemmas.List.{at_drop_more}
use Rattle.sr_names.specs.declared.spot.Spot.{Spot}
use Rattle.sr_check_decl.specs.declared.waiting.Waits.{Waits}
use Rattle.sr_check_decl.specs.Needs.{needs_in, FirstAreKnown}
use Rattle.sr_check_decl.specs.Waits.{seen}
use Rattle.sr_check_decl.proofs.Known.{first_known-push}
use Rattle.sr_check_decl.proofs.needs.needs_of_all.Goals as goal

pub loop-waiting-preserved : goal.loop-waiting-preserved
loop-waiting-preserved c =
    let all = c.args.all.now in
    let uses = c.args.facts.now.uses in
    let i = c.loop-waiting.waiting-index in
    let spots = c.loop-waiting.needs.spots in
    let rest : List (List Spot) = map (needs_in uses) (map seen (drop (i + 1) all)) in
    record {
      spots =
          ap (λ rows. rows ++ rest) c.in_ok-push.ensures.ok
          ∙ append_assoc spots (c.in_ok-needs_in.field-0 ∷ []) rest
          ∙ ap (λ row. spots ++ row ∷ rest) (c.in_ok-needs_in.ensures ∙ ap (λ (w : Waits). needs_in uses (seen w)) c.waiting-item.is)
          ∙ ap (λ rows. spots ++ rows) (sym (at_drop_more (λ (ws : List Waits). map (needs_in uses) (map seen ws)) all i c.waiting-item.result c.loop-waiting-test.true))
          ∙ c.loop-waiting.invariant.spots;
      known =
          subst (λ (rows : List (List Spot)). FirstAreKnown c.args.facts.now rows c.push-in-loop-waiting.new.self) (sym c.in_ok-push.ensures.ok)
          (subst (λ (counts : List ℕ). FirstAreKnown c.args.facts.now (spots ++ c.in_ok-needs_in.field-0 ∷ []) counts) (sym c.in_ok-push-2.ensures.ok)
          (first_known-push c.args.facts.now spots c.loop-waiting.needs.known c.in_ok-needs_in.field-0 c.loop-waiting.invariant.known));
    }

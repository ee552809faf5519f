-- Results that are stored in their places: the operands that a process holds meanwhile change nothing.
use Rattle.std.proofs.Common.{◌≡◌, ℕ, List, [], ◌∷◌, Option, Result, Ok, Err, refl, ap, subst, ◌∙◌}
use Rattle.sr_value.specs.declared.fault.Fault.{Fault}
use Rattle.sr_value.specs.declared.memory.NoMemory.{NoMemory}
use Rattle.sr_value.specs.declared.shape.Sel.{Sel}
use Rattle.sr_value.specs.declared.value.Value.{Value}
use Rattle.sr_ask.specs.declared.environment.Located.{Located}
use Rattle.sr_ask.specs.declared.environment.Own.{Own}
use Rattle.sr_ask.specs.declared.environment.Spot.{Spot}
use Rattle.sr_ask.specs.declared.environment.Spot.TheVariants.{Own as an_own, Shared as a_shared}
use Rattle.sr_code.specs.Operands.{drop_list, drop_targets, list_on, put_list, put_targets, targets_on}
use Rattle.sr_code.specs.Stacks.{below}
use Rattle.sr_code.specs.declared.operands.Operands.{Operands}
use Rattle.sr_frame.specs.Variables.{own_stored}
use Rattle.sr_execute.specs.Executes.{Began, Does, holding, settled, storing, storing_one, with_own}
use Rattle.sr_execute.specs.declared.frame.Frame.{Frame}
use Rattle.sr_execute.specs.declared.step.Step.{Step}

settled_same : (found : Result (List (Option Own)) Fault) (others : Frame → Began) (held : Operands) (frame : Frame)
    → ((own : List (Option Own)) → others (with_own own (holding held frame)) ≡ others (with_own own frame))
    → settled found (λ own. others (with_own own (holding held frame))) ≡ settled found (λ own. others (with_own own frame))
settled_same (Ok own) others held frame same = same own
settled_same (Err fault) others held frame same = refl

one_same : (spot : Spot) (path : List Sel) (value : Value) (others : Frame → Began) (left held : Operands) (frame : Frame)
    → ((own : List (Option Own)) → others (with_own own (holding held frame)) ≡ others (with_own own frame))
    → storing_one spot path value others left (holding held frame) ≡ storing_one spot path value others left frame
one_same (an_own var) path value others left held frame same = settled_same (own_stored frame.own var path value) others held frame same
one_same (a_shared block var) path value others left held frame same = refl

storing_same : (places : List Located) (values : List Value) (to next : ℕ) (on held : Operands) (frame : Frame)
    → storing places values to next on (holding held frame) ≡ storing places values to next on frame
storing_same [] values to next on held frame = refl
storing_same (place ∷ places) [] to next on held frame = refl
storing_same (place ∷ places) (value ∷ values) to next on held frame =
    one_same place.spot place.path value (storing places values to next on) (put_targets places (put_list values on)) held frame
    (λ own. storing_same places values to next on held (with_own own frame))

-- after places and results were taken from the operands
pub stored_from : (result : Result Step NoMemory) (new frame : Frame) (places : List Located) (values : List Value) (targets : List (List Located)) (lists : List (List Value)) (to next : ℕ)
    → places ≡ targets_on frame.operands → values ≡ list_on frame.operands → targets ≡ below frame.operands.targets → lists ≡ below frame.operands.lists
    → Does result new (storing places values to next (record frame.operands { targets = targets; lists = lists }) (holding (record frame.operands { targets = targets; lists = lists }) frame))
    → Does result new (storing (targets_on frame.operands) (list_on frame.operands) to next (drop_list (drop_targets frame.operands)) frame)
stored_from result new frame places values targets lists to next e1 e2 e3 e4 did =
    let taken : List Located → List Value → List (List Located) → List (List Value) → Began =
    λ p v t l. storing p v to next (record frame.operands { targets = t; lists = l }) (holding (record frame.operands { targets = t; lists = l }) frame) in
    let same = ap (λ (p : List Located). taken p values targets lists) e1
    ∙ ap (λ (v : List Value). taken (targets_on frame.operands) v targets lists) e2
    ∙ ap (λ (t : List (List Located)). taken (targets_on frame.operands) (list_on frame.operands) t lists) e3
    ∙ ap (λ (l : List (List Value)). taken (targets_on frame.operands) (list_on frame.operands) (below frame.operands.targets) l) e4
    ∙ storing_same (targets_on frame.operands) (list_on frame.operands) to next (drop_list (drop_targets frame.operands)) (drop_list (drop_targets frame.operands)) frame in
    subst (λ (began : Began). Does result new began) same did

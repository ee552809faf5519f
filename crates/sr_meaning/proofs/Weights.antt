-- How much a statement holds, so that each piece of it has less: the measure of what goes over statements.
use Rattle.std.proofs.Common.{◌≡◌, ℕ, ◌+◌, ◌*◌, ◌<◌, ◌≤◌, List, Option, Some, None, length, get_or, map, slice_get, sum, sym, ap, subst, ◌∙◌, option_map, arith}
use Rattle.std.proofs.lemmas.Option.{get_or_from_slice_get, slice_get-map, slice_get_within}
use Rattle.std.proofs.lemmas.List.Sums.{get_or-le-sum_by, sum-map}
use Rattle.sr_value.specs.declared.place.Place.{Place}
use Rattle.sr_core.specs.declared.statement.CoArm.{CoArm, out-CoArm}
use Rattle.sr_core.specs.declared.statement.Guarded.{Guarded, out-Guarded}
use Rattle.sr_core.specs.declared.statement.Quantifier.{Quantifier}
use Rattle.sr_core.specs.declared.statement.Statement.{Statement}
use Rattle.sr_core.specs.declared.statement.Statement.TheFolds.{fold-CoArm, fold-Guarded, fold-Statement, fold-roll-Statement, fold_out-CoArm, fold_out-Guarded}
use Rattle.sr_core.specs.declared.statement.Statement.TheOpen.{CoArm-F, Guarded-F, Statement-F}
use Rattle.sr_core.specs.declared.statement.Statement.TheVariants.{If, Do, Fa, In, Co, rolls-If, rolls-Do, rolls-Fa, rolls-In, rolls-Co}

abbrev pub block_of_weights : List ℕ → ℕ
block_of_weights weights = 1 + sum weights

abbrev pub optional_of_weights : Option (List ℕ) → ℕ
optional_of_weights None = 0
optional_of_weights (Some weights) = block_of_weights weights

abbrev pub statement_weight : Statement-F ℕ ℕ ℕ → ℕ
statement_weight (Statement-F.Declare place declaration) = 1
statement_weight (Statement-F.Act place action) = 1
statement_weight (Statement-F.If place guards otherwise) = 4 + (sum guards + block_of_weights otherwise)
statement_weight (Statement-F.Do place guards otherwise) = 6 + (sum guards + optional_of_weights otherwise)
statement_weight (Statement-F.Fa place quantifiers body) = 4 + (3 * length quantifiers + block_of_weights body)
statement_weight (Statement-F.In place site arms otherwise) = 5 + (sum (map block_of_weights arms) + block_of_weights otherwise)
statement_weight (Statement-F.Co place arms) = 6 + sum arms
statement_weight (Statement-F.Sends place target count) = 1

abbrev pub co_arm_weight : CoArm-F ℕ ℕ ℕ → ℕ
co_arm_weight arm = 3 + (3 * length arm.quantifiers + block_of_weights arm.body)

abbrev pub guarded_weight : Guarded-F ℕ ℕ ℕ → ℕ
guarded_weight guarded = 1 + block_of_weights guarded.body

abbrev pub weight_of : Statement → ℕ
weight_of = fold-Statement ℕ ℕ ℕ statement_weight co_arm_weight guarded_weight

abbrev pub weight_of_arm : CoArm → ℕ
weight_of_arm = fold-CoArm ℕ ℕ ℕ statement_weight co_arm_weight guarded_weight

abbrev pub weight_of_guarded : Guarded → ℕ
weight_of_guarded = fold-Guarded ℕ ℕ ℕ statement_weight co_arm_weight guarded_weight

abbrev pub weight_of_block : List Statement → ℕ
weight_of_block statements = block_of_weights (map weight_of statements)

abbrev pub weight_of_optional : Option (List Statement) → ℕ
weight_of_optional block = optional_of_weights (option_map (map weight_of) block)

abbrev pub weight_of_guards : List Guarded → ℕ
weight_of_guards guards = sum (map weight_of_guarded guards)

abbrev pub weight_of_blocks : List (List Statement) → ℕ
weight_of_blocks blocks = sum (map block_of_weights (map (map weight_of) blocks))

abbrev pub weight_of_arms : List CoArm → ℕ
weight_of_arms arms = sum (map weight_of_arm arms)

pub weight_if : (place : Place) (guards : List Guarded) (otherwise : List Statement)
    → weight_of (If place guards otherwise) ≡ 4 + (weight_of_guards guards + weight_of_block otherwise)
weight_if place guards otherwise =
    ap weight_of (sym (rolls-If place guards otherwise))
    ∙ fold-roll-Statement ℕ ℕ ℕ statement_weight co_arm_weight guarded_weight (Statement-F.If place guards otherwise)

pub weight_do : (place : Place) (guards : List Guarded) (otherwise : Option (List Statement))
    → weight_of (Do place guards otherwise) ≡ 6 + (weight_of_guards guards + weight_of_optional otherwise)
weight_do place guards None =
    ap weight_of (sym (rolls-Do place guards None))
    ∙ fold-roll-Statement ℕ ℕ ℕ statement_weight co_arm_weight guarded_weight (Statement-F.Do place guards None)
weight_do place guards (Some block) =
    ap weight_of (sym (rolls-Do place guards (Some block)))
    ∙ fold-roll-Statement ℕ ℕ ℕ statement_weight co_arm_weight guarded_weight (Statement-F.Do place guards (Some block))

pub weight_fa : (place : Place) (quantifiers : List Quantifier) (body : List Statement)
    → weight_of (Fa place quantifiers body) ≡ 4 + (3 * length quantifiers + weight_of_block body)
weight_fa place quantifiers body =
    ap weight_of (sym (rolls-Fa place quantifiers body))
    ∙ fold-roll-Statement ℕ ℕ ℕ statement_weight co_arm_weight guarded_weight (Statement-F.Fa place quantifiers body)

pub weight_in : (place : Place) (site : ℕ) (arms : List (List Statement)) (otherwise : List Statement)
    → weight_of (In place site arms otherwise) ≡ 5 + (weight_of_blocks arms + weight_of_block otherwise)
weight_in place site arms otherwise =
    ap weight_of (sym (rolls-In place site arms otherwise))
    ∙ fold-roll-Statement ℕ ℕ ℕ statement_weight co_arm_weight guarded_weight (Statement-F.In place site arms otherwise)

pub weight_co : (place : Place) (arms : List CoArm) → weight_of (Co place arms) ≡ 6 + weight_of_arms arms
weight_co place arms =
    ap weight_of (sym (rolls-Co place arms))
    ∙ fold-roll-Statement ℕ ℕ ℕ statement_weight co_arm_weight guarded_weight (Statement-F.Co place arms)

pub weight_guarded : (guarded : Guarded) → weight_of_guarded guarded ≡ 1 + weight_of_block (out-Guarded guarded).body
weight_guarded guarded = fold_out-Guarded ℕ ℕ ℕ statement_weight co_arm_weight guarded_weight guarded

pub weight_arm : (arm : CoArm) → weight_of_arm arm ≡ 3 + (3 * length (out-CoArm arm).quantifiers + weight_of_block (out-CoArm arm).body)
weight_arm arm = fold_out-CoArm ℕ ℕ ℕ statement_weight co_arm_weight guarded_weight arm

-- an item is no heavier than all
pub item_within : {X : Type 0} (f : X → ℕ) (xs : List X) (i : ℕ) (d : X) → i < length xs → f (get_or xs i d) ≤ sum (map f xs)
item_within f xs i d h = omega (arith, sum-map f xs, get_or-le-sum_by f xs i d h)

-- a block is no heavier than all blocks
pub block_within : (blocks : List (List Statement)) (at : ℕ) (block : List Statement) → Some block ≡ slice_get blocks at → weight_of_block block ≤ weight_of_blocks blocks
block_within blocks at block is =
    let weights : List (List ℕ) = map (map weight_of) blocks in
    let found : slice_get weights at ≡ Some (map weight_of block) = slice_get-map (map weight_of) blocks at ∙ ap (option_map (map weight_of)) (sym is) in
    let read : get_or weights at (map weight_of block) ≡ map weight_of block = get_or_from_slice_get weights at (map weight_of block) (map weight_of block) found in
    let P : List ℕ → Type 0 = λ w. block_of_weights w ≤ weight_of_blocks blocks in
    subst P read (item_within block_of_weights weights at (map weight_of block) (slice_get_within weights at (map weight_of block) found))

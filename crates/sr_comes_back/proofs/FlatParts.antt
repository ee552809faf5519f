-- In parts of statements no line begins outside of brackets.
use Rattle.std.proofs.Common.{Bool, List, refl, Option}
use Rattle.sr_tree.specs.declared.token.Token.{Token}
use Rattle.sr_tree.specs.declared.name.Name.{Name}
use Rattle.sr_tree.specs.declared.expr.Expr.{Expr}
use Rattle.sr_tree.specs.declared.expr.Invocation.{Invocation}
use Rattle.sr_tree.specs.declared.statement.Quantifier.{Quantifier}
use Rattle.sr_tree.specs.declared.statement.ArmCondition.{ArmCondition}
use Rattle.sr_tree.specs.Statements as s
use Rattle.sr_tree.specs.Statements.{SpellsNamed, SpellsInvocation, SpellsStatus, SpellsMorePlaces, SpellsPlaces, SpellsBy, SpellsSuchThat, SpellsQuantifier, SpellsMoreQuantifiers, SpellsQuantifiers, SpellsOptionalNames, SpellsReturnedName, SpellsCondition, SpellsCallWord, SpellsOptionalQuantifiers, SpellsCoStart, SpellsCoCall}
use Rattle.sr_comes_back.proofs.Flat.{Flat, none_flat, flat_token, flat_open, shut_flat, flat_both, shut_both, inner_of, plain_is, direction_plain, condition_plain}
use Rattle.sr_comes_back.proofs.FlatExpressions.{flat_expr, flat_primary}
use Rattle.sr_comes_back.proofs.FlatTypes.{flat_names}

pub flat_named : {x : Expr} {u : List Token} → SpellsNamed x u → Flat u
flat_named (s.named n h0 h1) = flat_primary h1

pub flat_invocation : {x : Invocation} {u : List Token} → SpellsInvocation x u → Flat u
flat_invocation (s.invocation h0) = flat_primary h0

pub flat_status : {x : Option Expr} {u : List Token} → SpellsStatus x u → Flat u
flat_status (s.no_status) = none_flat
flat_status (s.status opening closing h0 h1 h2) = flat_open opening h0 refl (shut_both (inner_of (flat_expr h1)) (shut_flat closing h2 refl none_flat))

pub flat_more_places : {x : List Expr} {u : List Token} → SpellsMorePlaces x u → Flat u
flat_more_places (s.no_more_places) = none_flat
flat_more_places (s.one_more_place comma h0 h1 h2) = flat_token comma (plain_is comma h0 refl) (flat_both (flat_primary h1) (flat_more_places h2))

pub flat_places : {x : List Expr} {u : List Token} → SpellsPlaces x u → Flat u
flat_places (s.no_places) = none_flat
flat_places (s.places h0 h1) = flat_both (flat_primary h0) (flat_more_places h1)

pub flat_by : {x : Option Expr} {u : List Token} → SpellsBy x u → Flat u
flat_by (s.no_by) = none_flat
flat_by (s.by t h0 h1) = flat_token t (plain_is t h0 refl) (flat_expr h1)

pub flat_such_that : {x : Option Expr} {u : List Token} → SpellsSuchThat x u → Flat u
flat_such_that (s.no_such_that) = none_flat
flat_such_that (s.such_that t h0 h1) = flat_token t (plain_is t h0 refl) (flat_expr h1)

pub flat_quantifier : {x : Quantifier} {u : List Token} → SpellsQuantifier x u → Flat u
flat_quantifier (s.quantifier n becomes t w d h0 h1 h2 h3 h4 h5 h6 h7) = flat_token n (plain_is n h0 refl) (flat_token becomes (plain_is becomes h1 refl) (flat_both (flat_expr h2) (flat_token t (plain_is t h3 (direction_plain w d h4)) (flat_both (flat_expr h5) (flat_both (flat_by h6) (flat_such_that h7))))))

pub flat_more_quantifiers : {x : List Quantifier} {u : List Token} → SpellsMoreQuantifiers x u → Flat u
flat_more_quantifiers (s.no_more_quantifiers) = none_flat
flat_more_quantifiers (s.one_more_quantifier comma h0 h1 h2) = flat_token comma (plain_is comma h0 refl) (flat_both (flat_quantifier h1) (flat_more_quantifiers h2))

pub flat_quantifiers : {x : List Quantifier} {u : List Token} → SpellsQuantifiers x u → Flat u
flat_quantifiers (s.quantifiers h0 h1) = flat_both (flat_quantifier h0) (flat_more_quantifiers h1)

pub flat_optional_names : {x : List Name} {u : List Token} → SpellsOptionalNames x u → Flat u
flat_optional_names (s.no_names) = none_flat
flat_optional_names (s.some_names h0) = flat_names h0

pub flat_returned_name : {x : Option Name} {u : List Token} → SpellsReturnedName x u → Flat u
flat_returned_name (s.no_returned_name) = none_flat
flat_returned_name (s.returned_name t n h0 h1) = flat_token t (plain_is t h0 refl) (flat_token n (plain_is n h1 refl) none_flat)

pub flat_condition : {x : Option ArmCondition} {u : List Token} → SpellsCondition x u → Flat u
flat_condition (s.no_condition) = none_flat
flat_condition (s.on_condition t w c h0 h1 h2) = flat_token t (plain_is t h0 (condition_plain w c h1)) (flat_expr h2)

pub flat_call_word : {b : Bool} {u : List Token} → SpellsCallWord b u → Flat u
flat_call_word (s.no_call_word) = none_flat
flat_call_word (s.call_word t h0) = flat_token t (plain_is t h0 refl) none_flat

pub flat_optional_quantifiers : {x : List Quantifier} {u : List Token} → SpellsOptionalQuantifiers x u → Flat u
flat_optional_quantifiers (s.no_quantifiers) = none_flat
flat_optional_quantifiers (s.some_quantifiers opening closing h0 h1 h2) = flat_open opening h0 refl (shut_both (inner_of (flat_quantifiers h1)) (shut_flat closing h2 refl none_flat))

pub flat_co_start : {b : Bool} {x : Expr} {u : List Token} → SpellsCoStart b x u → Flat u
flat_co_start (s.begins_arm h0) = flat_named h0
flat_co_start (s.after_quantifiers h0) = flat_primary h0

pub flat_co_call : {quantified : Bool} {x : Option Expr} {b : Bool} {x1 : Invocation} {u : List Token} → SpellsCoCall quantified x b x1 u → Flat u
flat_co_call (s.plain h0) = flat_co_start h0
flat_co_call (s.called t h0 h1) = flat_token t (plain_is t h0 refl) (flat_invocation h1)
flat_co_call (s.stored becomes h0 h1 h2 h3) = flat_both (flat_co_start h0) (flat_token becomes (plain_is becomes h1 refl) (flat_both (flat_call_word h2) (flat_invocation h3)))

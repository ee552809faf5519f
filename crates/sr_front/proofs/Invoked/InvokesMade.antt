-- Tests of what is invoked in what is made of code, and their rules.
use Rattle.std.proofs.Common.{true, refl}
use Rattle.std.proofs.lemmas.Bool.{and_from}
use Rattle.sr_front.specs.Invocations.{InvocationTest, action_invokes, block_invokes, co_invokes, expr_invokes, place_invokes, quantifier_invokes}
use Rattle.sr_front.proofs.Invoked.InvokesRules.{act_rule, arm_invokes, arm_rule, block_rule, branch_invokes, branch_rule, co_rule, do_else_rule, do_rule, fa_rule, if_rule, in_rule, one_invokes}
use Rattle.sr_front.proofs.Made.MadeTests.{MadeRules, MadeTests}

abbrev pub invocation_tests : InvocationTest → MadeTests
invocation_tests test = record {
  expr = expr_invokes test;
  place = place_invokes test;
  action = action_invokes test;
  quantifier = quantifier_invokes test;
  call = co_invokes test;
  one = one_invokes test;
  branch = branch_invokes test;
  co_arm = arm_invokes test;
  block = block_invokes test;
  -- the guards and orders of arms stand in sites, in which nothing is invoked
  arm = λ arm. true;
  site = λ site. true;
}

pub invocation_rules : (test : InvocationTest) → MadeRules (invocation_tests test)
invocation_rules test = record {
  actions = record {
    skips = refl;
    exits = refl;
    nexts = refl;
    returns = refl;
    replies = refl;
    stops = λ status ok. ok;
    assigns = λ place value first second. and_from _ _ first second;
    swaps = λ left right first second. and_from _ _ first second;
    bumps = λ place bump ok. ok;
    destroys = λ target ok. ok;
    evaluates = λ expr ok. ok;
  };
  block_rule = block_rule test;
  act_rule = act_rule test;
  if_rule = if_rule test;
  do_rule = do_rule test;
  do_else_rule = do_else_rule test;
  fa_rule = fa_rule test;
  in_rule = in_rule test;
  co_rule = co_rule test;
  branch_rule = branch_rule test;
  arm_rule = arm_rule test;
  quantifier_rule = λ one from to by condition. and_from _ _ (and_from _ _ from to) (and_from _ _ by condition);
  site_rule = λ scope arms has_else ok. refl;
}

-- Tests of what is mentioned by what is made of code, and their rules.
use Rattle.std.proofs.Common.{Bool, List, [], ◌∷◌, ◌++◌, Option, Some, None, flat_map, IsTrue, refl}
use Rattle.std.proofs.lemmas.Bool.{and_from, and_parts}
use Rattle.std.specs.List.{list_all}
use Rattle.sr_core.specs.declared.expression.Expr.{Expr}
use Rattle.sr_core.specs.declared.site.Arm.{Arm}
use Rattle.sr_core.specs.Tests.{if_some}
use Rattle.sr_lower_expr.proofs.Each.{both_pass}
use Rattle.sr_tables.specs.declared.sites.Mention.{Mention}
use Rattle.sr_tables.specs.Lists.{maybe}
use Rattle.sr_tables.specs.Sites.{arm_mentions, mentions_at, mentions_in}
use Rattle.sr_front.specs.Imports.{co_call_mentions}
use Rattle.sr_front.proofs.Mentioned.CodeRules.{act_rule, action_passes, arm_passes, arm_rule, block_passes, block_rule, branch_passes, branch_rule, co_rule, do_else_rule, do_rule, fa_rule, if_rule, in_rule, one_passes, quantifier_passes}
use Rattle.sr_front.proofs.Made.MadeTests.{ActionRules, MadeRules, MadeTests}
use Rattle.sr_front.proofs.Mentioned.MentionRules.{all_pass, expr_passes, place_passes}
use Rattle.sr_front.proofs.Mentioned.VariablesReads.{reads_pass, site_passes}

abbrev pub mention_tests : (Mention → Bool) → MadeTests
mention_tests test = record {
  expr = expr_passes test;
  place = place_passes test;
  action = action_passes test;
  quantifier = quantifier_passes test;
  call = λ call. all_pass test (co_call_mentions call);
  one = one_passes test;
  branch = branch_passes test;
  co_arm = arm_passes test;
  block = block_passes test;
  arm = λ arm. all_pass test (arm_mentions arm);
  site = site_passes test;
}

module _ (test : Mention → Bool) where
  both : (xs ys : List Mention) → IsTrue (all_pass test xs) → IsTrue (all_pass test ys) → IsTrue (all_pass test (xs ++ ys))
  both = both_pass test

  pub maybe_pass : (expr : Option Expr) → IsTrue (if_some (expr_passes test) expr) → IsTrue (all_pass test (maybe mentions_in expr))
  maybe_pass None ok = refl
  maybe_pass (Some expr) ok = ok

  action_rules : ActionRules (mention_tests test)
  action_rules = record {
    skips = refl;
    exits = refl;
    nexts = refl;
    returns = refl;
    replies = refl;
    stops = maybe_pass;
    assigns = λ place value first second. both (mentions_at place) (mentions_in value) first second;
    swaps = λ left right first second. both (mentions_at left) (mentions_at right) first second;
    bumps = λ place bump ok. ok;
    destroys = λ target ok. ok;
    evaluates = λ expr ok. ok;
  }

  arms_pass : (arms : List Arm) → IsTrue (list_all (λ arm. all_pass test (arm_mentions arm)) arms) → IsTrue (all_pass test (flat_map arm_mentions arms))
  arms_pass [] all = refl
  arms_pass (arm ∷ arms) all =
      let parts = and_parts (all_pass test (arm_mentions arm)) _ all in
      both (arm_mentions arm) (flat_map arm_mentions arms) parts.0 (arms_pass arms parts.1)

  pub mention_rules : MadeRules (mention_tests test)
  mention_rules = record {
    actions = action_rules;
    block_rule = block_rule test;
    act_rule = act_rule test;
    if_rule = λ place guards otherwise first second. if_rule test place guards otherwise first (block_rule test otherwise second);
    do_rule = do_rule test;
    do_else_rule = λ place guards otherwise first second. do_else_rule test place guards otherwise first (block_rule test otherwise second);
    fa_rule = λ place quantifiers body first second. fa_rule test place quantifiers body first (block_rule test body second);
    in_rule = λ place site arms otherwise first second. in_rule test place site arms otherwise first (block_rule test otherwise second);
    co_rule = co_rule test;
    branch_rule = λ condition body first second. branch_rule test condition body first (block_rule test body second);
    arm_rule = λ quantifiers call body first second third. arm_rule test quantifiers call body first second (block_rule test body third);
    quantifier_rule = λ one from to by condition.
        both (mentions_in one.from ++ mentions_in one.to) (mentions_in one.by ++ maybe mentions_in one.condition) (both (mentions_in one.from) (mentions_in one.to) from to)
        (both (mentions_in one.by) (maybe mentions_in one.condition) by (maybe_pass one.condition condition));
    site_rule = λ scope arms has_else ok. let passes = arms_pass arms ok in and_from _ _ passes (reads_pass test arms passes);
  }

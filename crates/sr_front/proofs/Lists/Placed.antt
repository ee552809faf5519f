-- Where code stands: nothing is known where its names stand, and what is known before it and after it is known in the end.
use Rattle.std.proofs.Common.{List, [], ◌∷◌, ◌++◌, flat_map, map, Option, sym, subst, append_assoc}
use Rattle.sr_value.specs.declared.place.Span.{Span}
use Rattle.sr_names.specs.declared.spot.Spot.{Spot}
use Rattle.sr_names.specs.Spots.{spot_of}
use Rattle.sr_order.specs.Names.{arm_names, co_arm_names, const_names, decl_names, quantifier_names, signature_names, var_names}
use Rattle.sr_order.specs.Spans.{joined}
use Rattle.sr_tree.specs.declared.declaration.ConstDecl.{ConstDecl}
use Rattle.sr_tree.specs.declared.declaration.VarDecl.{VarDecl}
use Rattle.sr_tree.specs.declared.statement.Arm.{Arm}
use Rattle.sr_tree.specs.declared.statement.CoArm.{CoArm}
use Rattle.sr_tree.specs.declared.statement.Quantifier.{Quantifier}
use Rattle.sr_tree.specs.declared.types.Signature.{Signature}
use Rattle.sr_tree.specs.declared.types.TypeTree.{TypeTree}
use Rattle.sr_check_expr.specs.declared.facts.Facts.{Facts}
use Rattle.sr_check_decl.specs.TypeTrees.{signature_read}
use Rattle.sr_check.specs.Components.{signed_declared}
use Rattle.sr_check.specs.Contexts.{Context, in_order, with_facts}
use Rattle.sr_check.specs.Quantifying.{quantified}
use Rattle.sr_check.specs.Statements.{arm_read, arms_at, co_arm_read, co_arms_at, const_read, var_read}
use Rattle.sr_check.proofs.Each.{each-left, each-parts, each-right}
use Rattle.sr_check.proofs.Entered.{keeps_written}
use Rattle.sr_check_decl.specs.Entering.{written_entered}
use Rattle.sr_front.proofs.Known.InfosStay.{Reads, Settled, Stays, reads_both, reads_nothing, settled_first, settled_here, settled_second}
use Rattle.sr_front.proofs.Known.KeptBy.{Names}
use Rattle.sr_front.proofs.Known.KeptNames.{Anywhere, keeps_signed, keeps_vars}
use Rattle.sr_front.proofs.Known.Leading.{Leads, leads_on, leads_through}
use Rattle.sr_front.proofs.Mentioned.ReadsCode.{reads_arm, reads_co_arm}

-- what is known is known in the end
pub record Ending (final now : Facts) : Type 0 where
  pub stays : Stays now final
  pub leads : Leads now final

module _ (Free : Spot → Type 0) (final : Facts) where
  pub record Placed (names : List Span) (before after : Facts) : Type 0 where
    pub free : Names Free names
    pub settled : Settled final names before after
    pub start : Ending final before
    pub end : Ending final after

  module _ (xs ys : List Span) (before between after : Facts) (first : Reads xs before between) (second : Reads ys between after) (placed : Placed (xs ++ ys) before after) where
    abbrev rest : Settled final ys between after
    rest = settled_second final xs ys before between after first second placed.settled

    abbrev middle : Ending final between
    middle = record {
      stays = settled_here final ys between after second rest;
      leads = leads_through between after final (leads_on ys between after second) placed.end.leads;
    }

    pub placed_first : Placed xs before between
    placed_first = record {
      free = each-left (λ span. Free (spot_of span)) xs ys placed.free;
      settled = settled_first final xs ys before between after first second placed.settled;
      start = placed.start;
      end = middle;
    }

    pub placed_second : Placed ys between after
    placed_second = record {
      free = each-right (λ span. Free (spot_of span)) xs ys placed.free;
      settled = rest;
      start = middle;
      end = placed.end;
    }

    pub placed_both : Placed xs before between × Placed ys between after
    placed_both = (placed_first, placed_second)

  -- what reads with the first two of three rows of names
  pub placed_third : (xs ys zs : List Span) (before between after : Facts) → Reads (xs ++ ys) before between → Reads zs between after → Placed (xs ++ (ys ++ zs)) before after → Placed zs between after
  placed_third xs ys zs before between after first second placed =
      placed_second (xs ++ ys) zs before between after first second (subst (λ names. Placed names before after) (sym (append_assoc xs ys zs)) placed)

-- where code stands, its names may stand where values may be declared
pub placed_free : (Free : Spot → Type 0) (final : Facts) (names : List Span) (before after : Facts) → Names Free names → Placed Anywhere final names before after → Placed Free final names before after
placed_free Free final names before after free placed = record { free = free; settled = placed.settled; start = placed.start; end = placed.end }

-- ---- what declares nothing

pub reads_same : (names : List Span) (facts : Facts) → Reads names facts facts
reads_same names facts Q Free steady free h = h

-- ---- declarations

reads_written : (ty : Option TypeTree) (facts : Facts) → Reads [] facts (written_entered ty facts)
reads_written ty facts Q Free steady free h = keeps_written Q steady.closed.entered ty facts h

reads_const : (constant : ConstDecl) (facts : Facts) → Reads (const_names constant) (written_entered constant.ty facts) (const_read constant facts).facts
reads_const constant facts Q Free steady free h = steady.closed.put (written_entered constant.ty facts) (spot_of constant.name.span) _ free.0 h

reads_var : (variables : VarDecl) (facts : Facts) → Reads (var_names variables) (written_entered variables.ty facts) (var_read variables facts).facts
reads_var variables facts Q Free steady free h =
    keeps_vars Q Free Free steady.closed _ variables.decls (written_entered variables.ty facts)
    (each-parts (λ span. Free (spot_of span)) decl_names variables.decls (each-left (λ span. Free (spot_of span)) (flat_map decl_names variables.decls) _ free)) h

pub reads_signed : (signature : Signature) (facts : Facts) → Reads (signature_names signature) facts (signed_declared (signature_read signature facts).signed facts)
reads_signed signature facts Q Free steady free h = keeps_signed Q Free Free steady.closed signature facts free h

-- where the values of a declaration are read, its type is entered
module _ (Free : Spot → Type 0) (final : Facts) where
  pub const_start : (constant : ConstDecl) (facts : Facts) → Placed Free final (const_names constant) facts (const_read constant facts).facts → Ending final (written_entered constant.ty facts)
  const_start constant facts placed =
      (placed_second Free final [] (const_names constant) facts (written_entered constant.ty facts) (const_read constant facts).facts (reads_written constant.ty facts) (reads_const constant facts) placed).start

  pub var_start : (variables : VarDecl) (facts : Facts) → Placed Free final (var_names variables) facts (var_read variables facts).facts → Ending final (written_entered variables.ty facts)
  var_start variables facts placed =
      (placed_second Free final [] (var_names variables) facts (written_entered variables.ty facts) (var_read variables facts).facts (reads_written variables.ty facts) (reads_var variables facts) placed).start

-- ---- quantifiers and rows of arms

pub reads_quantifier : (quantifier : Quantifier) (facts : Facts) → Reads (quantifier_names quantifier) facts (quantified facts quantifier.name)
reads_quantifier quantifier facts Q Free steady free h = steady.closed.put facts (spot_of quantifier.name.span) _ free.0 h

pub reads_arms : (span : Span) (arms : List Arm) (context : Context) → Reads (joined (map arm_names arms)) context.facts (in_order (arms_at span (map arm_read arms)) context).facts
reads_arms span [] context = reads_nothing context.facts
reads_arms span (arm ∷ arms) context =
    let next = with_facts context ((arm_read arm).steps span context).facts in
    reads_both (arm_names arm) (joined (map arm_names arms)) context.facts next.facts (in_order (arms_at span (map arm_read arms)) next).facts (reads_arm arm span context) (reads_arms span arms next)

pub reads_co_arms : (span : Span) (arms : List CoArm) (context : Context) → Reads (joined (map co_arm_names arms)) context.facts (in_order (co_arms_at span (map co_arm_read arms)) context).facts
reads_co_arms span [] context = reads_nothing context.facts
reads_co_arms span (arm ∷ arms) context =
    let next = with_facts context (co_arm_read arm span context).facts in
    reads_both (co_arm_names arm) (joined (map co_arm_names arms)) context.facts next.facts (in_order (co_arms_at span (map co_arm_read arms)) next).facts (reads_co_arm arm span context) (reads_co_arms span arms next)

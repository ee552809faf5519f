-- A request that isn't wide touches at most three parts.
use Rattle.std.proofs.Common.{◌≡◌, ℕ, zero, suc, ◌≤◌, ◌&&◌, Bool, true, false, not, List, [], ◌∷◌, length, refl, ap, ◌∙◌, cond, arith, true≢false}
use Rattle.std.specs.Prelude.{Option, Some, None, nat_le, slice_get}
use Rattle.sr_value.specs.declared.capability.Cap.{Cap}
use Rattle.sr_value.specs.declared.capability.Cap.TheVariants as cap
use Rattle.sr_value.specs.declared.capability.Owner.{Owner}
use Rattle.sr_value.specs.declared.capability.Owner.TheVariants.{Inst, Proc}
use Rattle.sr_value.specs.declared.value.Value.{Value}
use Rattle.sr_ask.specs.declared.ask.Role.{Role}
use Rattle.sr_ask.specs.declared.request.Request.{Request}
use Rattle.sr_ask.specs.declared.request.Request.TheVariants as request
use Rattle.sr_core.specs.declared.component.Core.{Core}
use Rattle.sr_core.specs.declared.component.Operation.{Operation}
use Rattle.sr_core.specs.declared.owner.Me.{Me}
use Rattle.sr_core.specs.declared.site.Site.{Site}
use Rattle.sr_select.specs.Worlds.{listed, reads_only}
use Rattle.sr_buckets.specs.Parts.{home}
use Rattle.sr_touch.specs.Orders.{all_added, in_order}
use Rattle.sr_touch.specs.Touched.{answer_parts, caller_parts, count_part, has_one_class, invoked_parts, is_wide_request, is_wide_site, one_part, operation_parts, parts_beside, parts_of, select_parts, site_parts}
use Rattle.sr_touch.proofs.OrderLemmas.{added_all, added_few}

few-caller : (back : ℕ) → length (caller_parts back) ≤ 2
few-caller zero = omega arith
few-caller (suc back) = omega arith

few-one : (part : Option ℕ) → length (one_part part) ≤ 2
few-one None = omega arith
few-one (Some part) = omega arith

few-answer : (answered : Bool) (back : ℕ) → length (answer_parts answered back) ≤ 2
few-answer true back = omega arith
few-answer false back = few-caller back

few-operation : (class : ℕ → ℕ) (name : ℕ) (owner : Owner) (op : ℕ) (operation : Option Operation) → length (operation_parts class name owner op operation) ≤ 2
few-operation class name owner op None = omega arith
few-operation class name (Inst instance) op (Some operation) = omega arith
few-operation class name (Proc process) op (Some operation) = omega arith

few-invoked : (core : Core) (class : ℕ → ℕ) (name back : ℕ) (target : Cap) → length (invoked_parts core class name back target) ≤ 2
few-invoked core class name back cap.Null = omega arith
few-invoked core class name back cap.Noop = few-caller back
few-invoked core class name back (cap.Op owner op) = few-operation class name owner op (slice_get core.operations op)
few-invoked core class name back (cap.Res instance) = omega arith
few-invoked core class name back (cap.Vm machine) = omega arith

-- ---- selection

last-and : (a b c : Bool) → not (a && (b && c)) ≡ false → c ≡ true
last-and true true true h = refl
last-and true true false h = absurd (true≢false h)
last-and true false c h = absurd (true≢false h)
last-and false b c h = absurd (true≢false h)

select_added : (core : Core) (class : ℕ → ℕ) (me : Me) (env : List Value) (site : Option Site) → is_wide_site core class me env site ≡ false
    → all_added (Some (home me.process ∷ [])) (select_parts core class me env site) ≡ Some (in_order (home me.process ∷ select_parts core class me env site))
select_added core class me env None narrow = refl
select_added core class me env (Some site) narrow =
    let parts : List ℕ = site_parts core class me env site in
    added_all (home me.process ∷ []) parts (omega arith)
    ∙ ap (λ b. cond b (Some (in_order (home me.process ∷ parts))) None)
    (last-and (has_one_class class site.arms) (reads_only (listed site) site) (nat_le (length (in_order (home me.process ∷ parts))) 3) narrow)

-- ---- requests

pub narrow_added : (core : Core) (class : ℕ → ℕ) (me : Me) (name : ℕ) (role : Role) (asked : Request) → is_wide_request core class me role asked ≡ false
    → all_added (Some (home me.process ∷ [])) (parts_beside core class me name asked) ≡ Some (parts_of core class me name asked)
narrow_added core class me name role (request.Declare block var shape) narrow = added_few (home me.process) (home block ∷ []) (omega arith)
narrow_added core class me name role (request.Load block var path) narrow = added_few (home me.process) (home block ∷ []) (omega arith)
narrow_added core class me name role (request.Store block var path value) narrow = added_few (home me.process) (home block ∷ []) (omega arith)
narrow_added core class me name role (request.Invoke target args wants) narrow =
    added_few (home me.process) (invoked_parts core class name me.process target) (few-invoked core class name me.process target)
narrow_added core class me name role (request.Select site env) narrow = select_added core class me env (slice_get core.sites site) narrow
narrow_added core class me name role (request.Reply held back results) narrow = added_few (home me.process) (caller_parts back) (few-caller back)
narrow_added core class me name role (request.Forward held back target args) narrow =
    added_few (home me.process) (invoked_parts core class name back target) (few-invoked core class name back target)
narrow_added core class me name role (request.Count op) narrow = added_few (home me.process) (one_part (count_part core class me op)) (few-one (count_part core class me op))
narrow_added core class me name role (request.Finish answered back results) narrow = added_few (home me.process) (answer_parts answered back) (few-answer answered back)
narrow_added core class me name role _ narrow = refl

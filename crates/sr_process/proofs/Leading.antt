-- What single instructions lead to, and one after another.
use Rattle.std.specs.Ordering.{int_cmp}
use Rattle.std.specs.declared.cmp.Ordering.{Ordering}
use Rattle.std.proofs.Common.{◌≡◌, ◌<◌, ◌-◌, ◌∙◌, ℕ, ℤ, Bool, true, false, min, List, [], Option, Some, Result, Ok, ◌+ℤ◌, ◌-ℤ◌, option_map, suc, ap, refl, sym, arith}
use Rattle.sr_value.specs.declared.fault.Fault.{Fault}
use Rattle.sr_value.specs.declared.operator.Operator.{Operator}
use Rattle.sr_value.specs.declared.operator.Operator.TheVariants.{Add, Sub}
use Rattle.sr_value.specs.declared.value.Value.{Value, out-Value, out-roll-Value}
use Rattle.sr_value.specs.declared.value.Value.TheOpen.{Value-F}
use Rattle.sr_value.specs.declared.value.Value.TheVariants.{Int, Bool as truth_value, rolls-Int, rolls-Bool}
use Rattle.sr_value.specs.declared.fault.Fault.TheVariants.{Range}
use Rattle.sr_value.specs.Operands.{int_in, layer_bool, layer_int}
use Rattle.sr_value.specs.Operators.{compared, int_result, layer_order, on_two, order_of, truth_result, value_of}
use Rattle.sr_value.specs.Parts.{or_fault}
use Rattle.sr_core.specs.Values.{truth_of}
use Rattle.sr_ask.specs.Here.{Here}
use Rattle.sr_ask.specs.Places.{whole}
use Rattle.sr_ask.specs.declared.environment.Own.{Own}
use Rattle.sr_ask.specs.declared.environment.Spot.TheVariants.{Own as an_own}
use Rattle.sr_core.specs.declared.owner.Root.TheVariants.{Own as own_root}
use Rattle.sr_code.specs.Operands.{put_number, put_place, put_value}
use Rattle.sr_code.specs.declared.code.Code.{Code}
use Rattle.sr_code.specs.declared.code.Coded.{Coded}
use Rattle.sr_code.specs.declared.code.Program.{Program}
use Rattle.sr_code.specs.declared.instruction.Instruction.{Instruction}
use Rattle.sr_code.specs.declared.instruction.Instruction.TheVariants.{At, Constant, Jump, JumpUnless, Load, LoadAgain, Operate, Spot as spot_instruction, Store, ToNumber}
use Rattle.sr_code.specs.declared.operands.Operands.{Operands}
use Rattle.sr_execute.specs.Executes.{Went, begun, settled, ticking, went, went_to, with_own}
use Rattle.sr_code.specs.Acts.{unless}
use Rattle.sr_execute.specs.declared.frame.Frame.{Frame}
use Rattle.sr_execute.specs.declared.step.Step.TheVariants.{Goes}
use Rattle.sr_frame.specs.Variables.{own_stored, own_value}
use Rattle.sr_process.specs.Processes.{Carries, Runs, coded_at, here_in, left}
use Rattle.sr_process.specs.Together.{Decides, Does, Follows, Indexes, Jumps, LeadsTo, Loads, Puts, Replaces, Standing, TicksTo, frame_in, path_of, place_in, placed, stand, whole_of}
use Rattle.sr_process.specs.declared.process.Process.{Process}
use Rattle.sr_process.specs.declared.together.Found.{Found}
use Rattle.sr_process.specs.declared.together.Part.{Part}
use Rattle.sr_process.specs.declared.together.Stretch.{Stretch}
use Rattle.sr_process.specs.declared.together.Stretch.TheVariants.{Puts as puts_number, Stores as stores_number}
use Rattle.sr_process.proofs.Moves.{carried_by, same_then}

less_then : (a b c : ℕ) → b < a → c < b → c < a
less_then a b c first next = omega arith

-- one move and then another
pub carries_then : (program : Program) (a b c : Process) → Carries program (Ok true) a b → Carries program (Ok true) b c → Carries program (Ok true) a c
carries_then program a b c first next =
    (same_then program a b c first.0 next.0, (next.1.0, less_then (left program a) (left program b) (left program c) first.1.1 next.1.1))

pub leads_then : (code : Code) (a b c : Standing) → LeadsTo code a b → LeadsTo code b c → LeadsTo code a c
leads_then code a b c first next =
    record { carries = λ program p is runs. carries_then program (placed a p) (placed b p) (placed c p) (first.carries program p is runs) (next.carries program p is runs) }

-- one instruction that goes on
one : (code : Code) (coded : Coded) (a b : Standing) → coded_at code.items a.address ≡ Some coded
    → ((names : List (List (List ℕ))) (here : Here) (frame : Frame) → begun names coded.instruction here (a.address - 1) a.operands (frame_in a frame) ≡ Went b.address (frame_in b frame))
    → LeadsTo code a b
one code coded a b found does =
    record {
      carries = λ program p is runs.
          carried_by program (placed a p) (placed b p) coded (frame_in b p.frame) (Goes b.address) (record { phase = runs.phase; unfed = runs.unfed })
          (ap (λ (c : Code). coded_at c.items a.address) is ∙ found) (does program.core.names (here_in p coded.place) p.frame) refl;
    }

-- ---- operators on numbers

out_int : (x : ℤ) → out-Value (Int x) ≡ Value-F.Int x
out_int x = ap out-Value (sym (rolls-Int x)) ∙ out-roll-Value (Value-F.Int x)

out_truth : (t : Bool) → out-Value (truth_value t) ≡ Value-F.Bool t
out_truth t = ap out-Value (sym (rolls-Bool t)) ∙ out-roll-Value (Value-F.Bool t)

truth_is : (t : Bool) → truth_of (truth_value t) ≡ Ok t
truth_is t = ap (λ (v : Value-F Value). or_fault Range (layer_bool v)) (out_truth t)

int_is : (x : ℤ) → int_in (Int x) ≡ Some x
int_is x = ap (λ (v : Value-F Value). layer_int v) (out_int x)

on_ints_is : (f : ℤ → ℤ → Result Value Fault) (x y : ℤ) → on_two f (int_in (Int x)) (int_in (Int y)) ≡ f x y
on_ints_is f x y = ap (λ (a : Option ℤ). on_two f a (int_in (Int y))) (int_is x) ∙ ap (λ (b : Option ℤ). on_two f (Some x) b) (int_is y)

pub sum_is : (x y : ℤ) → value_of Add (Int x) (Int y) ≡ int_result (x +ℤ y)
sum_is x y = on_ints_is (λ a b. int_result (a +ℤ b)) x y

pub difference_is : (x y : ℤ) → value_of Sub (Int x) (Int y) ≡ int_result (x -ℤ y)
difference_is x y = on_ints_is (λ a b. int_result (a -ℤ b)) x y

order_is : (x y : ℤ) → order_of (Int x) (Int y) ≡ Some (int_cmp x y)
order_is x y = ap (λ (v : Value-F Value). layer_order v (Int y)) (out_int x) ∙ ap (λ (b : Option ℤ). option_map (int_cmp x) b) (int_is y)

pub compared_is : (test : Ordering → Bool) (x y : ℤ) (order : Ordering) → order ≡ int_cmp x y → compared test (Int x) (Int y) ≡ Ok (truth_value (test order))
compared_is test x y order is =
    ap (λ (o : Option Ordering). truth_result (option_map test o)) (order_is x y) ∙ ap (λ (o : Ordering). Ok (truth_value (test o))) (sym is)

-- ---- instructions

pub constant_leads : (code : Code) (own : List (Option Own)) (coded : Coded) (address : ℕ) (n : ℤ) → coded_at code.items address ≡ Some coded → coded.instruction ≡ Constant (Int n)
    → Puts code own address (record { number = n; after = address - 1 })
constant_leads code own coded address n at is = λ on.
    one code coded (stand own address on) (stand own (address - 1) (put_value (Int n) on)) at (λ names here frame.
    ap (λ (i : Instruction). begun names i here (address - 1) on (frame_in (stand own address on) frame)) is)

spot_leads : (code : Code) (own : List (Option Own)) (coded : Coded) (address var : ℕ) (on : Operands) → coded_at code.items address ≡ Some coded → coded.instruction ≡ spot_instruction (own_root var)
    → LeadsTo code (stand own address on) (stand own (address - 1) (put_place (whole (an_own var)) on))
spot_leads code own coded address var on at is =
    one code coded (stand own address on) (stand own (address - 1) (put_place (whole (an_own var)) on)) at (λ names here frame.
    ap (λ (i : Instruction). begun names i here (address - 1) on (frame_in (stand own address on) frame)) is)

pub load_leads : (code : Code) (own : List (Option Own)) (coded : Coded) (part : Part) (address : ℕ) (n : ℤ) → coded_at code.items address ≡ Some coded → coded.instruction ≡ Load → own_value own part.var (path_of part.index) ≡ Ok (Int n)
    → Loads code own part address (record { number = n; after = address - 1 })
load_leads code own coded part address n at is holds = λ on.
    let before : Standing = stand own address (put_place (place_in part) on) in
    one code coded before (stand own (address - 1) (put_value (Int n) on)) at (λ names here frame.
    ap (λ (i : Instruction). begun names i here (address - 1) before.operands (frame_in before frame)) is
    ∙ ap (λ (r : Result Value Fault). settled r (λ value. went (address - 1) (put_value value on) (frame_in before frame))) holds)

pub load_again_leads : (code : Code) (own : List (Option Own)) (coded : Coded) (part : Part) (address : ℕ) (n : ℤ) → coded_at code.items address ≡ Some coded → coded.instruction ≡ LoadAgain → own_value own part.var (path_of part.index) ≡ Ok (Int n)
    → Follows code own part address (record { number = n; after = address - 1 })
load_again_leads code own coded part address n at is holds = λ on.
    let before : Standing = stand own address (put_place (place_in part) on) in
    one code coded before (stand own (address - 1) (put_value (Int n) before.operands)) at (λ names here frame.
    ap (λ (i : Instruction). begun names i here (address - 1) before.operands (frame_in before frame)) is
    ∙ ap (λ (r : Result Value Fault). settled r (λ value. went (address - 1) (put_value value before.operands) (frame_in before frame))) holds)

to_number_leads : (code : Code) (own : List (Option Own)) (coded : Coded) (address : ℕ) (n : ℤ) (on : Operands) → coded_at code.items address ≡ Some coded → coded.instruction ≡ ToNumber
    → LeadsTo code (stand own address (put_value (Int n) on)) (stand own (address - 1) (put_number n on))
to_number_leads code own coded address n on at is =
    let before : Standing = stand own address (put_value (Int n) on) in
    one code coded before (stand own (address - 1) (put_number n on)) at (λ names here frame.
    ap (λ (i : Instruction). begun names i here (address - 1) before.operands (frame_in before frame)) is
    ∙ ap (λ (r : Result ℤ Fault). settled r (λ number. went (address - 1) (put_number number on) (frame_in before frame))) (ap (or_fault Range) (int_is n)))

at_leads : (code : Code) (own : List (Option Own)) (coded : Coded) (var address : ℕ) (n : ℤ) (on : Operands) → coded_at code.items address ≡ Some coded → coded.instruction ≡ At
    → LeadsTo code (stand own address (put_number n (put_place (place_in (whole_of var)) on))) (stand own (address - 1) (put_place (place_in (record { var = var; index = Some n })) on))
at_leads code own coded var address n on at is =
    let before : Standing = stand own address (put_number n (put_place (place_in (whole_of var)) on)) in
    one code coded before (stand own (address - 1) (put_place (place_in (record { var = var; index = Some n })) on)) at (λ names here frame.
    ap (λ (i : Instruction). begun names i here (address - 1) before.operands (frame_in before frame)) is)

operate_leads : (code : Code) (own : List (Option Own)) (coded : Coded) (op : Operator) (x y : ℤ) (z : Value) (address : ℕ) (on : Operands) → coded_at code.items address ≡ Some coded → coded.instruction ≡ Operate op → value_of op (Int x) (Int y) ≡ Ok z
    → LeadsTo code (stand own address (put_value (Int y) (put_value (Int x) on))) (stand own (address - 1) (put_value z on))
operate_leads code own coded op x y z address on at is gives =
    let before : Standing = stand own address (put_value (Int y) (put_value (Int x) on)) in
    one code coded before (stand own (address - 1) (put_value z on)) at (λ names here frame.
    ap (λ (i : Instruction). begun names i here (address - 1) before.operands (frame_in before frame)) is
    ∙ ap (λ (r : Result Value Fault). settled r (λ value. went (address - 1) (put_value value on) (frame_in before frame))) gives)

pub jump_past : (code : Code) (own : List (Option Own)) (coded : Coded) (address to : ℕ) → coded_at code.items address ≡ Some coded → coded.instruction ≡ JumpUnless to
    → Jumps code own true address (address - 1)
jump_past code own coded address to at is = λ on.
    let before : Standing = stand own address (put_value (truth_value true) on) in
    one code coded before (stand own (address - 1) on) at (λ names here frame.
    ap (λ (i : Instruction). begun names i here (address - 1) before.operands (frame_in before frame)) is
    ∙ ap (λ (r : Result Bool Fault). settled r (λ truth. went_to (unless truth to (address - 1) on) (frame_in before frame))) (truth_is true))

pub jump_to : (code : Code) (own : List (Option Own)) (coded : Coded) (address to : ℕ) → coded_at code.items address ≡ Some coded → coded.instruction ≡ JumpUnless to
    → Jumps code own false address (min to (address - 1))
jump_to code own coded address to at is = λ on.
    let before : Standing = stand own address (put_value (truth_value false) on) in
    one code coded before (stand own (min to (address - 1)) on) at (λ names here frame.
    ap (λ (i : Instruction). begun names i here (address - 1) before.operands (frame_in before frame)) is
    ∙ ap (λ (r : Result Bool Fault). settled r (λ truth. went_to (unless truth to (address - 1) on) (frame_in before frame))) (truth_is false))

store_leads : (code : Code) (own stored : List (Option Own)) (coded : Coded) (part : Part) (address : ℕ) (n : ℤ) (on : Operands) → coded_at code.items address ≡ Some coded → coded.instruction ≡ Store → own_stored own part.var (path_of part.index) (Int n) ≡ Ok stored
    → LeadsTo code (stand own address (put_value (Int n) (put_place (place_in part) on))) (stand stored (address - 1) on)
store_leads code own stored coded part address n on at is fits =
    let before : Standing = stand own address (put_value (Int n) (put_place (place_in part) on)) in
    one code coded before (stand stored (address - 1) on) at (λ names here frame.
    ap (λ (i : Instruction). begun names i here (address - 1) before.operands (frame_in before frame)) is
    ∙ ap (λ (r : Result (List (Option Own)) Fault). settled r (λ held. went (address - 1) on (with_own held (frame_in before frame)))) fits)

-- ---- several instructions

pub spot_then_loads : (code : Code) (own : List (Option Own)) (coded : Coded) (address var : ℕ) (found : Found) → coded_at code.items address ≡ Some coded → coded.instruction ≡ spot_instruction (own_root var)
    → Loads code own (whole_of var) (address - 1) found → Puts code own address found
spot_then_loads code own coded address var found at is loads = λ on.
    leads_then code (stand own address on) (stand own (address - 1) (put_place (whole (an_own var)) on)) (stand own found.after (put_value (Int found.number) on))
    (spot_leads code own coded address var on at is) (loads on)

pub number_follows : (code : Code) (own : List (Option Own)) (part : Part) (address : ℕ) (found : Found) → Puts code own address found → Follows code own part address found
number_follows code own part address found puts = λ on. puts (put_place (place_in part) on)

-- an index of a variable that was put
pub then_indexes : (code : Code) (to_number item : Coded) (first : Found) → coded_at code.items first.after ≡ Some to_number → to_number.instruction ≡ ToNumber
    → coded_at code.items (first.after - 1) ≡ Some item → item.instruction ≡ At → Indexes code first (record { number = first.number; after = first.after - 1 - 1 })
then_indexes code to_number item first at_first is_first at_item is_item = λ own var on.
    let placed_on : Operands = put_place (place_in (whole_of var)) on in
    leads_then code (stand own first.after (put_value (Int first.number) placed_on)) (stand own (first.after - 1) (put_number first.number placed_on))
    (stand own (first.after - 1 - 1) (put_place (place_in (record { var = var; index = Some first.number })) on))
    (to_number_leads code own to_number first.after first.number placed_on at_first is_first) (at_leads code own item var (first.after - 1) first.number on at_item is_item)

-- a number after a variable that becomes the index of its item
follows_indexes : (code : Code) (own : List (Option Own)) (var address : ℕ) (first index : Found) → Follows code own (whole_of var) address first → Indexes code first index → (on : Operands)
    → LeadsTo code (stand own address (put_place (place_in (whole_of var)) on)) (stand own index.after (put_place (place_in (record { var = var; index = Some index.number })) on))
follows_indexes code own var address first index follows indexes = λ on.
    leads_then code (stand own address (put_place (place_in (whole_of var)) on)) (stand own first.after (put_value (Int first.number) (put_place (place_in (whole_of var)) on)))
    (stand own index.after (put_place (place_in (record { var = var; index = Some index.number })) on)) (follows on) (indexes own var on)

pub item_loads : (code : Code) (own : List (Option Own)) (var address : ℕ) (first index found : Found) → Puts code own address first → Indexes code first index
    → Loads code own (record { var = var; index = Some index.number }) index.after found → Loads code own (whole_of var) address found
item_loads code own var address first index found puts indexes loads = λ on.
    leads_then code (stand own address (put_place (place_in (whole_of var)) on)) (stand own index.after (put_place (place_in (record { var = var; index = Some index.number })) on))
    (stand own found.after (put_value (Int found.number) on)) (follows_indexes code own var address first index (number_follows code own (whole_of var) address first puts) indexes on) (loads on)

pub two_replace : (code : Code) (own : List (Option Own)) (first second : Found) (coded : Coded) (op : Operator) (n : ℤ) → Puts code own first.after second
    → coded_at code.items second.after ≡ Some coded → coded.instruction ≡ Operate op → value_of op (Int first.number) (Int second.number) ≡ Ok (Int n)
    → Replaces code own first (record { number = n; after = second.after - 1 })
two_replace code own first second coded op n puts at is gives = λ on.
    leads_then code (stand own first.after (put_value (Int first.number) on)) (stand own second.after (put_value (Int second.number) (put_value (Int first.number) on))) (stand own (second.after - 1) (put_value (Int n) on))
    (puts (put_value (Int first.number) on)) (operate_leads code own coded op first.number second.number (Int n) second.after on at is gives)

pub two_decide : (code : Code) (own : List (Option Own)) (first second : Found) (coded : Coded) (op : Operator) (truth : Bool) (to : ℕ) → Puts code own first.after second
    → coded_at code.items second.after ≡ Some coded → coded.instruction ≡ Operate op → value_of op (Int first.number) (Int second.number) ≡ Ok (truth_value truth)
    → Jumps code own truth (second.after - 1) to → Decides code own first to
two_decide code own first second coded op truth to puts at is gives jumps = λ on.
    leads_then code (stand own first.after (put_value (Int first.number) on)) (stand own second.after (put_value (Int second.number) (put_value (Int first.number) on))) (stand own to on)
    (puts (put_value (Int first.number) on))
    (leads_then code (stand own second.after (put_value (Int second.number) (put_value (Int first.number) on))) (stand own (second.after - 1) (put_value (truth_value truth) on)) (stand own to on)
    (operate_leads code own coded op first.number second.number (truth_value truth) second.after on at is gives) (jumps on))

pub replaced_follows : (code : Code) (own : List (Option Own)) (part : Part) (address : ℕ) (first found : Found) → Follows code own part address first → Replaces code own first found → Follows code own part address found
replaced_follows code own part address first found follows replaces = λ on.
    leads_then code (stand own address (put_place (place_in part) on)) (stand own first.after (put_value (Int first.number) (put_place (place_in part) on)))
    (stand own found.after (put_value (Int found.number) (put_place (place_in part) on))) (follows on) (replaces (put_place (place_in part) on))

-- ---- whole stretches

pub then_stores : (code : Code) (own : List (Option Own)) (store : Coded) (part : Part) (address : ℕ) (found : Found) → Follows code own part address found → coded_at code.items found.after ≡ Some store → store.instruction ≡ Store
    → Does code own (put_place (place_in part)) address (stores_number (record { part = part; found = record { number = found.number; after = found.after - 1 } }))
then_stores code own store part address found follows at is = λ stored fits on.
    leads_then code (stand own address (put_place (place_in part) on)) (stand own found.after (put_value (Int found.number) (put_place (place_in part) on))) (stand stored (found.after - 1) on)
    (follows on) (store_leads code own stored store part found.after found.number on at is fits)

-- what leads to the beginning of a stretch, and the stretch
pub then_does : (code : Code) (own : List (Option Own)) (before after : Operands → Operands) (from to : ℕ) (stretch : Stretch) → ((on : Operands) → LeadsTo code (stand own from (before on)) (stand own to (after on)))
    → Does code own after to stretch → Does code own before from stretch
then_does code own before after from to (puts_number found) leads does = λ on.
    leads_then code (stand own from (before on)) (stand own to (after on)) (stand own found.after (put_value (Int found.number) on)) (leads on) (does on)
then_does code own before after from to (stores_number assigned) leads does = λ stored fits on.
    leads_then code (stand own from (before on)) (stand own to (after on)) (stand stored assigned.found.after on) (leads on) (does stored fits on)

pub item_does : (code : Code) (own : List (Option Own)) (var address : ℕ) (number index : Found) (stretch : Stretch) → Follows code own (whole_of var) address number → Indexes code number index
    → Does code own (put_place (place_in (record { var = var; index = Some index.number }))) index.after stretch → Does code own (put_place (place_in (whole_of var))) address stretch
item_does code own var address number index stretch follows indexes does =
    then_does code own (put_place (place_in (whole_of var))) (put_place (place_in (record { var = var; index = Some index.number }))) address index.after stretch
    (follows_indexes code own var address number index follows indexes) does

pub spot_does : (code : Code) (own : List (Option Own)) (coded : Coded) (address var : ℕ) (stretch : Stretch) → coded_at code.items address ≡ Some coded → coded.instruction ≡ spot_instruction (own_root var)
    → Does code own (put_place (place_in (whole_of var))) (address - 1) stretch → Does code own (λ on. on) address stretch
spot_does code own coded address var stretch at is does =
    then_does code own (λ on. on) (put_place (place_in (whole_of var))) address (address - 1) stretch (λ on. spot_leads code own coded address var on at is) does

-- ---- single instructions that go on

pub jump_carries : (program : Program) (p : Process) (coded : Coded) (to : ℕ) → Runs p → coded_at program.code.items p.address ≡ Some coded → coded.instruction ≡ Jump to
    → Carries program (Ok true) p (record p { address = min to (p.address - 1) })
jump_carries program p coded to runs at is =
    carried_by program p (record p { address = min to (p.address - 1) }) coded p.frame (Goes (min to (p.address - 1))) runs at
    (ap (λ (i : Instruction). begun program.core.names i (here_in p coded.place) (p.address - 1) p.frame.operands p.frame) is) refl

ticking_left : (ticks left to : ℕ) (frame : Frame) → ticks ≡ suc left → ticking ticks (λ f. went to frame.operands f) frame ≡ Went to (record frame { ticks = left })
ticking_left ticks left to frame is = ap (λ (n : ℕ). ticking n (λ f. went to frame.operands f) frame) is

pub tick_carries : (program : Program) (p : Process) (coded : Coded) (left to : ℕ) → Runs p → coded_at program.code.items p.address ≡ Some coded → TicksTo coded.instruction (p.address - 1) to
    → p.frame.ticks ≡ suc left → Carries program (Ok true) p (record p { address = to; frame = record p.frame { ticks = left } })
tick_carries program p coded left to runs at ticks is =
    carried_by program p (record p { address = to; frame = record p.frame { ticks = left } }) coded (record p.frame { ticks = left }) (Goes to) runs at
    (ticks program.core.names (here_in p coded.place) p.frame ∙ ticking_left p.frame.ticks left to p.frame is) refl

-- Whole processes are regular; the laws that follow.
use Rattle.std.proofs.Common.{◌≡◌, ℕ, ◌+◌, List, [], ◌++◌, Option, Some, None, inl, inr, refl, ap, ◌∙◌, subst, map, arith}
use Rattle.std.proofs.lemmas.List.{append-nil}
use Rattle.sr_value.specs.declared.capability.Cap.TheVariants.{Vm}
use Rattle.sr_ask.specs.Asking.{none_takes, made as made_answer}
use Rattle.sr_ask.specs.Behaviors.{Outcome, Came, Stops, asked}
use Rattle.sr_ask.specs.declared.answer.Answer.{Answer}
use Rattle.sr_ask.specs.declared.ask.Ask.{Ask}
use Rattle.sr_ask.specs.declared.ask.Asks.TheVariants.{Asked, OverTicks}
use Rattle.sr_ask.specs.declared.ask.Role.{Role}
use Rattle.sr_ask.specs.declared.ask.Role.TheVariants.{Boot, Initial, Proc as proc_role, Final}
use Rattle.sr_ask.specs.declared.request.Request.TheVariants.{Create, Finish}
use Rattle.sr_ask.specs.declared.start.Start.{Start}
use Rattle.sr_core.specs.declared.component.Body.{Body}
use Rattle.sr_core.specs.declared.component.Component.{Component}
use Rattle.sr_core.specs.declared.component.Core.{Core}
use Rattle.sr_core.specs.declared.component.Proc.{Proc}
use Rattle.sr_core.specs.declared.statement.Scope.TheVariants.{Own as own_scope, Shared as shared_scope}
use Rattle.sr_core.specs.declared.statement.Statement.{Statement}
use Rattle.sr_meaning.specs.Expressions.{needs_of}
use Rattle.sr_meaning.specs.Here.{Here, at_line, request}
use Rattle.sr_meaning.specs.Laws.{GainsNothing}
use Rattle.sr_meaning.specs.Pieces.{guarded_of, optional_block}
use Rattle.sr_meaning.specs.Processes.{ask, beginning, body_for, boot_meaning, component_of, final_meaning, finish, here_for, initial_meaning, main_of, proc_at, proc_meaning, process_meaning, role_meaning}
use Rattle.sr_meaning.specs.Statements.{gives_now, block_of, do_turn, meaning_of}
use Rattle.sr_meaning.specs.WholeLaws.{DoIsATurnAndTheDo, LastAskForGood, MoreTicksAskTheSame, NoRoomGained, OverTicksForGood}
use Rattle.sr_meaning.proofs.LawProofs.{one_turn_then_the_loop}
use Rattle.sr_meaning.proofs.Regular.{Follows, Regular, Stays, came_leaves, with_limit, regular_then, regular_give, regular_equal, regular_by, regular_request, regular_last}
use Rattle.sr_meaning.proofs.RegularExpressions.{regular_ensured, regular_taken}
use Rattle.sr_meaning.proofs.RegularStatements.{regular_block, regular_do_turn, regular_formals, regular_returned, same_gives}
use Rattle.sr_meaning.proofs.RegularWhole.{regular_guards, regular_optional, regular_statement, regular_statements}

regular_finish : (here : Here) → Regular (λ limit. finish (with_limit limit here))
regular_finish here =
    regular_by (λ own service out limit. request none_takes (Finish service.answered service.back (gives_now service.gives own (with_limit limit here))) (with_limit limit here))
    (λ own service out.
    regular_equal _ (λ limit. request none_takes (Finish service.answered service.back (gives_now service.gives own here)) (with_limit limit here))
    (λ limit. ap (λ results. request none_takes (Finish service.answered service.back results) (with_limit limit here)) (same_gives service.gives own here limit))
    (regular_last here (Finish service.answered service.back (gives_now service.gives own here))))

regular_boot : (here : Here) → Regular (λ limit. boot_meaning (with_limit limit here))
regular_boot here =
    regular_then (regular_ensured (needs_of here.core (main_of here.core)) (Vm here.start.vm) here) (λ _.
    regular_then (regular_request here made_answer (Create (main_of here.core) [] (Vm here.start.vm)) refl) (λ name.
    regular_then (regular_taken name here) (λ _. regular_give tt)))

regular_body : (block : List Statement) (here : Here) → Regular (λ limit. block_of block (with_limit limit here))
regular_body block here = regular_block (map meaning_of block) here (regular_statements block)

regular_initial : (component : Option Component) (here : Here) → Regular (λ limit. initial_meaning component (with_limit limit here))
regular_initial None here = regular_give tt
regular_initial (Some component) here =
    regular_then (regular_formals shared_scope component.formals here.start.args here) (λ _. regular_then (regular_body component.initial.block here) (λ _. regular_give tt))

regular_proc : (proc : Option Proc) (here : Here) → Regular (λ limit. proc_meaning proc (with_limit limit here))
regular_proc None here = regular_give tt
regular_proc (Some proc) here =
    regular_then (regular_formals own_scope proc.formals here.start.args (at_line proc.place here)) (λ _.
    regular_then (regular_returned proc.returned (at_line proc.place here)) (λ _.
    regular_then (regular_body proc.body.block (at_line proc.place here)) (λ _. regular_give tt)))

regular_final : (body : Option Body) (here : Here) → Regular (λ limit. final_meaning body (with_limit limit here))
regular_final None here = regular_give tt
regular_final (Some body) here = regular_then (regular_body body.block here) (λ _. regular_give tt)

regular_role : (role : Role) (here : Here) → Regular (λ limit. role_meaning role (with_limit limit here))
regular_role Boot here = regular_boot here
regular_role Initial here = regular_initial (component_of here.core here.start) here
regular_role proc_role here = regular_proc (proc_at here.core here.start.code) here
regular_role Final here = regular_final (body_for Final here.core here.start) here

regular_process : (here : Here) → Regular (λ limit. process_meaning (with_limit limit here))
regular_process here = regular_then (regular_role here.start.role here) (λ _. regular_finish here)

-- ---- laws

follows_whole : (core : Core) (start : Start) (limit extra : ℕ) (answers more : List Answer)
    → Follows extra more (process_meaning (here_for core start limit) (beginning core start limit answers))
    (process_meaning (here_for core start (limit + extra)) (beginning core start (limit + extra) (answers ++ more)))
follows_whole core start limit extra answers more = (regular_process (here_for core start limit)).follows extra limit more (beginning core start limit answers)

over_stays : {A : Type 0} (more : List Answer) (o o' : Outcome A) → Follows 0 more o o' → asked o ≡ OverTicks → asked o' ≡ OverTicks
over_stays more (Came a after) o' h e = ap asked h
over_stays more (Stops OverTicks) o' h e = ap asked (h refl)
over_stays more (Stops (Asked made)) o' h e = cc

ask_stays : {A : Type 0} (extra : ℕ) (more : List Answer) (made : Ask) (o o' : Outcome A) → Follows extra more o o' → Stays more made → asked o ≡ Asked made → asked o' ≡ Asked made
ask_stays extra more made (Came a after) o' h stays e = cc
ask_stays extra more made (Stops OverTicks) o' h stays e = cc
ask_stays extra more made (Stops (Asked made')) o' h stays e =
    let same : made ≡ made' = cc in
    let P : Ask → Type 0 = λ m. Stays more m in
    ap asked (h (subst P same stays)) ∙ e

pub over_ticks_for_good : OverTicksForGood
over_ticks_for_good core start limit answers more e =
    let P : ℕ → Type 0 = λ n. ask core start n (answers ++ more) ≡ OverTicks in
    let none : limit + 0 ≡ limit = omega arith in
    subst P none (over_stays more _ _ (follows_whole core start limit 0 answers more) e)

pub more_ticks_ask_the_same : MoreTicksAskTheSame
more_ticks_ask_the_same core start limit extra answers made e =
    let P : List Answer → Type 0 = λ a. ask core start (limit + extra) a ≡ Asked made in
    subst P (append-nil answers) (ask_stays extra [] made _ _ (follows_whole core start limit extra answers []) (inl refl) e)

pub last_ask_for_good : LastAskForGood
last_ask_for_good core start limit answers more made last e =
    let P : ℕ → Type 0 = λ n. ask core start n (answers ++ more) ≡ Asked made in
    let none : limit + 0 ≡ limit = omega arith in
    subst P none (ask_stays 0 more made _ _ (follows_whole core start limit 0 answers more) (inr last) e)

pub no_room_gained : NoRoomGained
no_room_gained statement here = record {
  gains = λ stage after a e. came_leaves here.limit (meaning_of statement here stage) a after _ e (((regular_statement statement).at here).leaves here.limit stage);
}

pub do_is_a_turn_and_the_do : DoIsATurnAndTheDo
do_is_a_turn_and_the_do guards otherwise here stage =
    let turn = do_turn (map guarded_of guards) (optional_block otherwise) here in
    let steady : GainsNothing here.limit turn = record {
      gains = λ begun after a e. came_leaves here.limit (turn begun) a after _ e
          ((regular_do_turn (map guarded_of guards) (optional_block otherwise) here (regular_guards guards) (regular_optional otherwise)).leaves here.limit begun);
    } in
    one_turn_then_the_loop here.limit turn stage steady

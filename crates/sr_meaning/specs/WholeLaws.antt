-- Laws of whole statements and whole processes: their ticks, and their last requests.
use Rattle.std.specs.Prelude.{◌≡◌, ℕ, ◌+◌, Bool, true, false, List, ◌++◌, Option, map}
use Rattle.sr_ask.specs.Behaviors.{Stage, and_then, looped, tick, turned}
use Rattle.sr_ask.specs.declared.answer.Answer.{Answer}
use Rattle.sr_ask.specs.declared.ask.Ask.{Ask}
use Rattle.sr_ask.specs.declared.ask.Asks.TheVariants.{Asked, OverTicks}
use Rattle.sr_ask.specs.declared.request.Request.{Request}
use Rattle.sr_ask.specs.declared.request.Request.TheVariants.{Finish, Stop, Fail}
use Rattle.sr_ask.specs.declared.start.Start.{Start}
use Rattle.sr_core.specs.declared.component.Core.{Core}
use Rattle.sr_core.specs.declared.statement.Guarded.{Guarded}
use Rattle.sr_core.specs.declared.statement.Statement.{Statement}
use Rattle.sr_meaning.specs.Here.{Here}
use Rattle.sr_meaning.specs.Laws.{GainsNothing}
use Rattle.sr_meaning.specs.Pieces.{guarded_of, optional_block}
use Rattle.sr_meaning.specs.Processes.{ask}
use Rattle.sr_meaning.specs.Statements.{do_turn, meaning_of}

-- ---- loops

-- A `do` is one turn, with its tick, and then the `do` again, without a premise.
abbrev pub DoIsATurnAndTheDo : Type 0
DoIsATurnAndTheDo = (guards : List Guarded) (otherwise : Option (List Statement)) (here : Here) (stage : Stage)
    → looped here.limit (do_turn (map guarded_of guards) (optional_block otherwise) here) stage
    ≡ and_then (tick stage) (λ _ begun. and_then (do_turn (map guarded_of guards) (optional_block otherwise) here begun) (λ end.
    turned end (looped here.limit (do_turn (map guarded_of guards) (optional_block otherwise) here))))

-- ---- ticks

-- No statement leaves more room for ticks than it had.
abbrev pub NoRoomGained : Type 0
NoRoomGained = (statement : Statement) (here : Here) → GainsNothing here.limit (meaning_of statement here)

-- A process that has begun more statements than it may asks nothing more, whatever more it is answered.
abbrev pub OverTicksForGood : Type 0
OverTicksForGood = (core : Core) (start : Start) (limit : ℕ) (answers more : List Answer)
    → ask core start limit answers ≡ OverTicks → ask core start limit (answers ++ more) ≡ OverTicks

-- A process that asks asks the same where it may begin more statements.
abbrev pub MoreTicksAskTheSame : Type 0
MoreTicksAskTheSame = (core : Core) (start : Start) (limit extra : ℕ) (answers : List Answer) (made : Ask)
    → ask core start limit answers ≡ Asked made → ask core start (limit + extra) answers ≡ Asked made

-- ---- the end of a whole process

-- the requests that end a process or its run
abbrev pub is_last : Request → Bool
is_last (Finish answered back results) = true
is_last (Stop status) = true
is_last (Fail fault) = true
is_last other = false

-- Once a process has asked `Finish`, `Stop` or `Fail`, it asks the same after any further answers.
abbrev pub LastAskForGood : Type 0
LastAskForGood = (core : Core) (start : Start) (limit : ℕ) (answers more : List Answer) (made : Ask) → is_last made.request ≡ true
    → ask core start limit answers ≡ Asked made → ask core start limit (answers ++ more) ≡ Asked made

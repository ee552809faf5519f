-- A look at a process that may have to begin.
use Rattle.std.proofs.Common.{◌≡◌, ◌<◌, inl, inr, ℕ, List, Option, Some, None, IsSome, is_some, false, refl, sym, ◌∙◌, subst, true≢false, arith}
use Rattle.std.specs.HashMap.{HashMap}
pub use Rattle.std.proofs.lemmas.Result.{on_ok_weaker as on_ok}
use Rattle.sr_ask.specs.declared.answer.Answer.{Answer}
use Rattle.sr_ask.specs.declared.ask.Asks.{Asks}
use Rattle.sr_ask.specs.declared.start.Start.{Start}
use Rattle.sr_core.specs.declared.component.Core.{Core}
use Rattle.sr_meaning.specs.Processes.{ask}
use Rattle.sr_plain.specs.Crew.{Begins, LooksAt, Looks, Plays, member_of}
use Rattle.sr_actor.specs.declared.member.Member.{Member}
use Rattle.sr_plain.proofs.CrewLemmas.{looks-begun, looks-same}

module _ {A : Type 0} (after : A → List Answer → Asks) (can_feed : A → Type 0) (meant : List Answer → Asks) where
  at-then : (a b c : Option (Member A)) → LooksAt after meant a b → LooksAt after meant b c → LooksAt after meant a c
  at-then None None c first second = second
  at-then None (Some m) None first second = absurd second
  at-then None (Some m) (Some m') first second = record { actor = λ more. second.actor more ∙ first.actor more }
  at-then (Some m) None c first second = absurd first
  at-then (Some m) (Some m') None first second = absurd second
  at-then (Some m) (Some m') (Some m'') first second =
      record { instance = second.instance ∙ first.instance; actor = λ more. second.actor more ∙ first.actor more }

  pub looks-then : {S : Type 0} (p : ℕ) (a b c : HashMap ℕ (Member A) S) → Looks after meant p a b → Looks after meant p b c → Looks after meant p a c
  looks-then p a b c first second = record {
    itself = at-then (member_of a p) (member_of b p) (member_of c p) first.itself second.itself;
    others = λ q off. second.others q off ∙ first.others q off;
  }

module _ {A P : Type 0} (after : P → A → List Answer → Asks) (can_feed : A → Type 0) (core_of : P → Core) (start : Start) (limit : ℕ) (program : P) where
  pub begins-looks : {S : Type 0} (old new : HashMap ℕ (Member A) S) → Begins after core_of start limit old new → Looks (after program) (ask (core_of program) start limit) start.process old new
  begins-looks old new (inl same) = subst (λ xs. Looks (after program) (ask (core_of program) start limit) start.process old xs) (sym same) (looks-same start.process (after program) can_feed (ask (core_of program) start limit) old)
  begins-looks old new (inr (none, begun)) =
      let plays : Plays (after program) (ask (core_of program) start limit) begun.member = record { actor = λ more. begun.actor program more } in
      looks-begun start.process (after program) can_feed (ask (core_of program) start limit) old new begun.member none begun.itself begun.others plays

-- ---- what a call that may fail leaves

pub absent-here : {A : Type 0} (o : Option A) → is_some o ≡ false → o ≡ None
absent-here None none = refl
absent-here (Some a) none = absurd (true≢false none)

-- ---- how many have still to begin

abbrev pub to_begin : {A : Type 0} → Option A → ℕ
to_begin None = 1
to_begin (Some a) = 0

pub begins-less : {A : Type 0} (new old : Option A) → IsSome new → old ≡ None → to_begin new < to_begin old
begins-less None old begun unbegun = absurd (true≢false (sym begun))
begins-less (Some a) None begun unbegun = omega arith
begins-less (Some a) (Some b) begun unbegun = absurd (cc)

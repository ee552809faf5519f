-- Room for changes that are made one after another.
use Rattle.std.proofs.Common.{◌≡◌, ℕ, zero, suc, ◌+◌, ◌<◌, ◌≤◌, ◌==◌, ◌||◌, Bool, true, false, IsTrue, IsOk, IfOk, OnOk, List, [], ◌∷◌, ◌++◌, length, get_or, take, Option, Some, Result, Ok, Err, refl, ap, sym, ◌∙◌, subst, cond, arith, true≢false}
use Rattle.std.proofs.lemmas.List.{take_all, take_more}
use Rattle.std.specs.List.{list_any}
use Rattle.std.specs.Prelude.{is_some, remove, slice_get, ◌↔◌}
use Rattle.sr_ask.specs.declared.start.Start.{Start}
use Rattle.sr_processes.specs.Living.{start_of}
use Rattle.sr_world.specs.Worlds.{World}
use Rattle.sr_shard.specs.Changes.{all_changed}
use Rattle.sr_shard.specs.Presents.{AreApart, AreNewcomers, AreReady, IsApart, IsBase, IsNewcomer, IsReady, IsSame, KeepsAllReady, KeepsOtherKinds, Makes, live_in, present_in}
use Rattle.sr_shard.specs.declared.change.Change.{Change}
use Rattle.sr_shard.specs.declared.change.Change.TheVariants as change
use Rattle.sr_shard.specs.declared.present.Present.{Present}
use Rattle.sr_shard.proofs.LiveLemmas.{lives_either}

-- ---- results

pub on_ok : {T E P : Type 0} (result : Result T E) → IsOk result → OnOk result P → P
on_ok (Ok value) ok h = h
on_ok (Err error) ok h = absurd (true≢false (sym ok))

pub if_ok : {T E P : Type 0} (result : Result T E) → IsOk result → IfOk result (λ value. P) → P
if_ok (Ok value) ok h = h
if_ok (Err error) ok h = absurd (true≢false (sym ok))

pub test_of : (test : Bool) (found : Option Start) → IsTrue test ↔ (is_some found ≡ true) → test ≡ is_some found
test_of test found both = by test (is_some found) both.0 both.1
  where
    by : (a b : Bool) → (IsTrue a → b ≡ true) → (b ≡ true → IsTrue a) → a ≡ b
    by true true to back = refl
    by true false to back = sym (to refl)
    by false true to back = back refl
    by false false to back = refl

pub ready_as : (base : World) (present : Present) (one other : Change) → one ≡ other → IsReady base present one → IsReady base present other
ready_as base present one other same ready = subst (IsReady base present) same ready

pub made_as : (standing : World) (one other : Change) (old new : Present) → one ≡ other → Makes standing other old new → Makes standing one old new
made_as standing one other old new same made = subst (λ made. Makes standing made old new) (sym same) made

-- ---- room is made for one change after another

module _ (old new : Present) (kept : KeepsAllReady old new) where
  pub ready_kept : (base : World) (changes : List Change) → AreReady base old changes → AreReady base new changes
  ready_kept base [] ready = tt
  ready_kept base (one ∷ others) ready = (kept base one ready.0, ready_kept base others ready.1)

ready_append : (base : World) (present : Present) (changes : List Change) (one : Change) → AreReady base present changes → IsReady base present one → AreReady base present (changes ++ one ∷ [])
ready_append base present [] one ready last = (last, tt)
ready_append base present (other ∷ others) one ready last = (ready.0, ready_append base present others one ready.1 last)

pub ready_more : (base : World) (old new : Present) (changes : List Change) (i : ℕ) (one : Change) → i < length changes → one ≡ get_or changes i one → KeepsAllReady old new → AreReady base old (take i changes) → IsReady base new one
    → AreReady base new (take (i + 1) changes)
ready_more base old new changes i one less is kept ready last =
    subst (AreReady base new) (sym (take_more changes i one less)) (ready_append base new (take i changes) (get_or changes i one) (ready_kept old new kept base (take i changes) ready) (subst (IsReady base new) is last))

pub newcomer_at : (live : List Start) (changes : List Change) (i : ℕ) (d : Change) → i < length changes → AreNewcomers live changes → IsNewcomer live (get_or changes i d)
newcomer_at live [] i d less new = absurd (omega arith)
newcomer_at live (x ∷ xs) zero d less new = new.0
newcomer_at live (x ∷ xs) (suc i) d less new = newcomer_at live xs i d (omega arith) new.1

pub all_ready : (base : World) (present : Present) (changes : List Change) (i : ℕ) → length changes ≤ i → AreReady base present (take i changes) → AreReady base present changes
all_ready base present changes i long ready = subst (AreReady base present) (take_all i changes long) ready

pub same_then : (first then last : Present) → IsSame first then → IsSame then last → IsSame first last
same_then first then last one other = record {
  number = other.number ∙ one.number;
  born = other.born ∙ one.born;
  present = λ base. other.present base ∙ one.present base;
}

pub newcomers_kept : (one other : List Start) (changes : List Change) → one ≡ other → AreNewcomers one changes → AreNewcomers other changes
newcomers_kept one other changes same new = subst (λ live. AreNewcomers live changes) same new

or_true : (b : Bool) → (b || true) ≡ true
or_true true = refl
or_true false = refl

-- who doesn't live in a part hasn't begun there
newcomer_born : (live : List Start) (ended : List ℕ) (born : List Start) (one : Change) → IsNewcomer (live_in live ended born) one → IsNewcomer born one
newcomer_born live ended born (change.Declare block var shape value) new = tt
newcomer_born live ended born (change.Store block var path value) new = tt
newcomer_born live ended born (change.Arrive invocation) new = tt
newcomer_born live ended born (change.Depart owner op id) new = tt
newcomer_born live ended born (change.Hold process held) new = tt
newcomer_born live ended born (change.Free process id) new = tt
newcomer_born live ended born (change.Answer process id results) new = tt
newcomer_born live ended born (change.Take process ids) new = tt
newcomer_born live ended born (change.Begin start) new =
    let stayed : Bool = cond (list_any (λ n. n == start.process) ended) false (is_some (start_of live start.process)) in
    λ lives. new (lives_either live ended born start.process ∙ ap (λ b. stayed || b) lives ∙ or_true stayed)
newcomer_born live ended born (change.End process) new = tt

pub newcomers_born : (live : List Start) (ended : List ℕ) (born : List Start) (changes : List Change) → AreNewcomers (live_in live ended born) changes → AreNewcomers born changes
newcomers_born live ended born [] new = tt
newcomers_born live ended born (one ∷ others) new = (newcomer_born live ended born one new.0, newcomers_born live ended born others new.1)

-- ---- changes are made one after another

pub first_at : (changes : List Change) (one : Change) → slice_get changes 0 ≡ Some one → changes ≡ one ∷ remove changes 0
first_at [] one at = absurd (cc at)
first_at (x ∷ xs) one at = let same : x ≡ one = cc at in ap (λ y. y ∷ xs) same

pub shorter : (changes rest : List Change) (one : Change) → slice_get changes 0 ≡ Some one → rest ≡ remove changes 0 → length rest < length changes
shorter changes rest one at more =
    let whole : length changes ≡ length (one ∷ rest) = ap length (first_at changes one at ∙ ap (λ (l : List Change). one ∷ l) (sym more)) in
    omega arith

apart_kept : (made : Change) (old new : Present) (base : World) (others : List Change) → KeepsOtherKinds made old new → IsApart made others → AreReady base old others → AreReady base new others
apart_kept made old new base [] kept apart ready = tt
apart_kept made old new base (other ∷ others) kept apart ready = (kept base other apart.0 ready.0, apart_kept made old new base others kept apart.1 ready.1)

-- what holds before each change of a list: there is room for those that are left, and they lead where all do
pub record IsMaking (standing : World) (first : Present) (all : List Change) (now : Present) (left : List Change) : Type 0 where
  pub number : now.portion.number ≡ first.portion.number
  pub apart : AreApart left
  pub ready : (base : World) → IsBase first.portion.number standing base → AreReady base now left
  pub leads : (base : World) → IsBase first.portion.number standing base → all_changed left (present_in base now) ≡ all_changed all (present_in base first)

module _ (standing : World) (first : Present) (all : List Change) where
  pub making_all : AreApart all → ((base : World) → IsBase first.portion.number standing base → AreReady base first all) → IsMaking standing first all first all
  making_all apart ready = record { number = refl; apart = apart; ready = ready; leads = λ base is. refl }

  base_now : (now : Present) (base : World) → now.portion.number ≡ first.portion.number → IsBase first.portion.number standing base → IsBase now.portion.number standing base
  base_now now base number is = subst (λ n. IsBase n standing base) (sym number) is

  base_first : (now : Present) (base : World) → now.portion.number ≡ first.portion.number → IsBase now.portion.number standing base → IsBase first.portion.number standing base
  base_first now base number is = subst (λ n. IsBase n standing base) number is

  pub ready_first : (now : Present) (left : List Change) (one : Change) → IsMaking standing first all now left → slice_get left 0 ≡ Some one
      → (base : World) → IsBase now.portion.number standing base → IsReady base now one
  ready_first now left one making at base is = (subst (AreReady base now) (first_at left one at) (making.ready base (base_first now base making.number is))).0

  pub making_more : (now then : Present) (left rest : List Change) (one : Change) → IsMaking standing first all now left → slice_get left 0 ≡ Some one → rest ≡ remove left 0 → Makes standing one now then
      → IsMaking standing first all then rest
  making_more now then left rest one making at more made =
      let whole : left ≡ one ∷ rest = first_at left one at ∙ ap (λ (l : List Change). one ∷ l) (sym more) in
      let apart : AreApart (one ∷ rest) = subst AreApart whole making.apart in
      record {
        number = made.number ∙ making.number;
        apart = apart.1;
        ready = λ base is. apart_kept one now then base rest made.kept apart.0 (subst (AreReady base now) whole (making.ready base is)).1;
        leads = λ base is.
            ap (all_changed rest) (made.present base (base_now now base making.number is))
            ∙ ap (λ l. all_changed l (present_in base now)) (sym whole)
            ∙ making.leads base is;
      }

  pub made_all : (now : Present) (left : List Change) → IsMaking standing first all now left → left ≡ []
      → (base : World) → IsBase first.portion.number standing base → present_in base now ≡ all_changed all (present_in base first)
  made_all now left making none base is = sym (ap (λ l. all_changed l (present_in base now)) none) ∙ making.leads base is

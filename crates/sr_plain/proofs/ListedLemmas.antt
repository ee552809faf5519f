-- Who waits for all that a statement lists waits for all that its guards name.
use Rattle.std.proofs.Common.{◌≡◌, ◌⊎◌, ◌<◌, ◌+◌, inl, inr, suc, ◌||◌, ◌==◌, ℕ, Bool, true, false, List, [], ◌∷◌, Some, refl, ap, sym, ◌∙◌, eqb-true, true≢false, arith}
use Rattle.std.specs.List.{list_any}
use Rattle.std.specs.Prelude.{Result, Ok, slice_get}
use Rattle.std.proofs.lemmas.Bool.{and_parts as both-true}
use Rattle.sr_ask.specs.declared.request.Request.{Request}
use Rattle.sr_ask.specs.declared.request.Request.TheVariants as request
use Rattle.sr_core.specs.declared.component.Core.{Core}
use Rattle.sr_core.specs.declared.component.Operation.{Operation}
use Rattle.sr_core.specs.declared.owner.Home.{Home}
use Rattle.sr_core.specs.declared.owner.Home.TheVariants.{Mine, Imported}
use Rattle.sr_core.specs.declared.owner.Me.{Me}
use Rattle.sr_core.specs.declared.site.Arm.{Arm}
use Rattle.sr_core.specs.declared.site.SharedRead.{SharedRead}
use Rattle.sr_core.specs.declared.site.Site.{Site}
use Rattle.sr_queue.specs.Classes.{class_of}
use Rattle.sr_queue.specs.declared.class.Class.{Class}
use Rattle.sr_select.proofs.MoreLemmas.{reads-more}
use Rattle.sr_select.specs.Guards.{guard_block, home_seen}
use Rattle.sr_select.specs.Worlds.{is_read, listed, reads_only, same_home}
use Rattle.sr_value.specs.declared.capability.Owner.{Owner}
use Rattle.sr_value.specs.declared.fault.Fault.{Fault}
use Rattle.sr_value.specs.declared.value.Value.{Value}
use Rattle.sr_plain.specs.Changes.{owner_at}
use Rattle.sr_plain.specs.Noting.{IdlesAtArms, StillWait, WaitsAt, WaitsAtArms, WaitsForCount, WaitsForCounts, WaitsForRead, WaitsForReads}
use Rattle.sr_plain.specs.Waiting.{IsWaiting, Selects, WaitsThere, at_block, at_operation, is_closed, is_simple, key_of, variable_of, waits, watching}
use Rattle.sr_plain.specs.declared.variable.Variable.{Variable}
use Rattle.sr_plain.specs.declared.waiters.Place.{Place}
use Rattle.sr_plain.specs.declared.waiters.Place.TheVariants.{Served, Stored, Idle}
use Rattle.sr_plain.specs.declared.waiters.Waiters.{Waiters}
use Rattle.sr_plain.proofs.AsideLemmas.{block-more, operation-more}
use Rattle.sr_plain.proofs.JoinLemmas.{one-more}

same-home : (a b : Home) → same_home a b ≡ true → a ≡ b
same-home Mine Mine is = refl
same-home Mine (Imported b) is = absurd (true≢false (sym is))
same-home (Imported a) Mine is = absurd (true≢false (sym is))
same-home (Imported a) (Imported b) is = ap Imported (eqb-true a b is)

-- what holds of each item holds of one that passes
any-passed : {X : Type 0} (test : X → Bool) (P : Type 0) (xs : List X) → ((number : ℕ) (x : X) → slice_get xs number ≡ Some x → test x ≡ true → P) → list_any test xs ≡ true → P
any-passed test P [] each any = absurd (true≢false (sym any))
any-passed test P (x ∷ xs) each any = by (test x) refl any (any-passed test P xs (λ number y is. each (suc number) y is))
  where
    by : (b : Bool) → test x ≡ b → (b || list_any test xs) ≡ true → (list_any test xs ≡ true → P) → P
    by true passes h more = each 0 x refl passes
    by false fails h more = more h

module _ (core : Core) (me : Me) (at : Place → Bool) (env : List Value) (site : Site)
    (reads : (number : ℕ) (read : SharedRead) → slice_get site.reads number ≡ Some read → at_block at read.var (guard_block me (home_seen site.names env) read.home) ≡ true)
    (counts : (number op : ℕ) → slice_get site.counts number ≡ Some op → at_operation at me op (slice_get core.operations op) ≡ true) where
  variable-listed : (home : Home) (var : ℕ) → list_any (is_read home var) site.reads ≡ true → at_block at var (guard_block me (home_seen site.names env) home) ≡ true
  variable-listed home var = any-passed (is_read home var) (at_block at var (guard_block me (home_seen site.names env) home) ≡ true) site.reads one
    where
      one : (number : ℕ) (read : SharedRead) → slice_get site.reads number ≡ Some read → is_read home var read ≡ true → at_block at var (guard_block me (home_seen site.names env) home) ≡ true
      one number read is same =
          let parts = both-true (same_home home read.home) (var == read.var) same in
          ap (λ h. at_block at var (guard_block me (home_seen site.names env) h)) (same-home home read.home parts.0)
          ∙ ap (λ v. at_block at v (guard_block me (home_seen site.names env) read.home)) (eqb-true var read.var parts.1)
          ∙ reads number read is

  operation-listed : (op : ℕ) → list_any (λ other. op == other) site.counts ≡ true → at_operation at me op (slice_get core.operations op) ≡ true
  operation-listed op =
      any-passed (λ other. op == other) (at_operation at me op (slice_get core.operations op) ≡ true) site.counts
      (λ number other is same. ap (λ n. at_operation at me n (slice_get core.operations n)) (eqb-true op other same) ∙ counts number other is)

  names-waited : reads_only (listed site) site ≡ true → reads_only (watching core me at site.names env) site ≡ true
  names-waited = reads-more (listed site) (watching core me at site.names env) variable-listed operation-listed site

pub still-then : (old mid new : Waiters) → StillWait old mid → StillWait mid new → StillWait old new
still-then old mid new first second = record {
  ready = second.ready ∙ first.ready;
  others = λ k other here. second.others k other (first.others k other here);
  closed = λ class other here. first.closed class other (second.closed class other here);
  less = let one = first.less in let two = second.less in omega arith;
}

-- whoever waits elsewhere than for invocations alone
pub still-one : (key : Place) (process : ℕ) (old new : Waiters) → ((class : Class) → key ≡ Idle class → ⊥) → WaitsThere key process old new → StillWait old new
still-one key process old new elsewhere there = record { ready = there.ready; others = there.others; closed = λ class other here. by class other (there.closed class other here); less = there.less }
  where
    by : (class : Class) (other : ℕ) → (is_closed old class other ≡ true) ⊎ (key ≡ Idle class) → is_closed old class other ≡ true
    by class other (inl was) = was
    by class other (inr same) = absurd (elsewhere class same)

pub still-same : (waiters : Waiters) → StillWait waiters waiters
still-same waiters = record { ready = refl; others = λ k other here. here; closed = λ class other here. here; less = omega arith }

pub served-elsewhere : (class other : Class) → Served class ≡ Idle other → ⊥
served-elsewhere class other is = absurd (cc)

pub stored-elsewhere : (variable : Variable) (other : Class) → Stored variable ≡ Idle other → ⊥
stored-elsewhere variable other is = absurd (cc)

pub reads-there : (me : Me) (var block : ℕ) (old new : Waiters) → WaitsThere (variable_of block var) me.process old new → WaitsForRead me var (Ok block) old new
reads-there me var block old new there = record { still = still-one (variable_of block var) me.process old new (stored-elsewhere (record { block = block; var = var })) there; itself = there.itself }

pub counts-there : (core : Core) (me : Me) (op : ℕ) (operation : Operation) (key : Class) (old new : Waiters) → slice_get core.operations op ≡ Some operation → key ≡ class_of (owner_at operation.scope me) op
    → WaitsThere (Served key) me.process old new → WaitsForCount core me op old new
counts-there core me op operation key old new found is there = record {
  still = still-one (Served key) me.process old new (served-elsewhere key) there;
  itself = ap (at_operation (λ k. waits new k me.process) me op) found ∙ ap (λ c. waits new (Served c) me.process) (sym is) ∙ there.itself;
}

-- ---- one more that waits for invocations alone

abbrev pub ClosedAt : Owner → List Arm → Waiters → Waiters → Type 0
ClosedAt owner arms old new = (class : Class) (other : ℕ) → is_closed new class other ≡ true
    → (is_closed old class other ≡ true) ⊎ ((number : ℕ) × (arm : Arm) × (slice_get arms number ≡ Some arm) × (class ≡ class_of owner arm.op))

pub closed-more : (owner : Owner) (arms : List Arm) (index : ℕ) (arm : Arm) (key : Class) (process : ℕ) (old mid new : Waiters) → slice_get arms index ≡ Some arm → key ≡ class_of owner arm.op
    → ClosedAt owner arms old mid → WaitsThere (Idle key) process mid new → ClosedAt owner arms old new
closed-more owner arms index arm key process old mid new found is before there class other here = by (there.closed class other here)
  where
    by : (is_closed mid class other ≡ true) ⊎ (Idle key ≡ Idle class) → (is_closed old class other ≡ true) ⊎ ((number : ℕ) × (a : Arm) × (slice_get arms number ≡ Some a) × (class ≡ class_of owner a.op))
    by (inl was) = before class other was
    by (inr same) = let one : key ≡ class = cc in inr (index, arm, found, sym one ∙ is)

-- ---- what a process waits for

pub waits-idle : (core : Core) (me : Me) (asked : Request) (number : ℕ) (env : List Value) (site : Site) (old new : Waiters) → asked ≡ request.Select number env → slice_get core.sites number ≡ Some site
    → is_simple site ≡ true → IdlesAtArms me site old new → IsWaiting core me asked old new
waits-idle core me asked number env site old new is found simple idles =
    let selects : Selects core asked = record { number = number; env = env; site = site; is = is; found = found; simple = simple } in
    record {
      ready = idles.ready;
      itself = inr (record { selects = selects; arms = idles.itself });
      others = idles.others;
      closed = λ class other here. elim (idles.closed class other here) [
        | inl was ↦ inl was
        | inr arm ↦ inr (record { selects = selects; number = arm.0; arm = arm.1; is_arm = arm.2; is_class = arm.3 })
      ];
      less = idles.less;
    }

-- ---- one more that a process waits for

pub read-more : (me : Me) (env : List Value) (site : Site) (index : ℕ) (read : SharedRead) (block : Result ℕ Fault) (old mid new : Waiters) → slice_get site.reads index ≡ Some read
    → block ≡ guard_block me (home_seen site.names env) read.home → WaitsForRead me read.var block mid new
    → StillWait old mid × ((number : ℕ) (one : SharedRead) → slice_get site.reads number ≡ Some one → number < index → at_block (λ key. waits mid key me.process) one.var (guard_block me (home_seen site.names env) one.home) ≡ true)
    → StillWait old new × ((number : ℕ) (one : SharedRead) → slice_get site.reads number ≡ Some one → number < index + 1 → at_block (λ key. waits new key me.process) one.var (guard_block me (home_seen site.names env) one.home) ≡ true)
read-more me env site index read block old mid new is same there before =
    let at : Waiters → SharedRead → Bool = λ w one. at_block (λ key. waits w key me.process) one.var (guard_block me (home_seen site.names env) one.home) in (
      still-then old mid new before.0 there.still,
      one-more (at mid) (at new) site.reads index read is
          (λ one. block-more me (λ key. waits mid key me.process) (λ key. waits new key me.process) (λ k. there.still.others k me.process) one.var (guard_block me (home_seen site.names env) one.home))
          (ap (at_block (λ key. waits new key me.process) read.var) (sym same) ∙ there.itself) before.1,
    )

pub count-more : (core : Core) (me : Me) (site : Site) (index op : ℕ) (old mid new : Waiters) → slice_get site.counts index ≡ Some op → WaitsForCount core me op mid new
    → StillWait old mid × ((number one : ℕ) → slice_get site.counts number ≡ Some one → number < index → at_operation (λ key. waits mid key me.process) me one (slice_get core.operations one) ≡ true)
    → StillWait old new × ((number one : ℕ) → slice_get site.counts number ≡ Some one → number < index + 1 → at_operation (λ key. waits new key me.process) me one (slice_get core.operations one) ≡ true)
count-more core me site index op old mid new is there before =
    let at : Waiters → ℕ → Bool = λ w one. at_operation (λ key. waits w key me.process) me one (slice_get core.operations one) in (
      still-then old mid new before.0 there.still,
      one-more (at mid) (at new) site.counts index op is
          (λ one. operation-more me (λ key. waits mid key me.process) (λ key. waits new key me.process) (λ k. there.still.others k me.process) one (slice_get core.operations one)) there.itself before.1,
    )

-- ---- what is listed is all that the guards name

pub waits-listed : (core : Core) (me : Me) (env : List Value) (site : Site) (old armed read new : Waiters) → reads_only (listed site) site ≡ true
    → WaitsAtArms me site old armed → WaitsForReads me env site armed read → WaitsForCounts core me site read new → WaitsAt core me env site old new
waits-listed core me env site old armed read new names arms reads counts = record {
  still = still-then old armed new arms.still (still-then armed read new reads.still counts.still);
  itself = inr (record {
    arms = λ number arm is. counts.still.others (key_of (owner_at site.scope me) arm.op) me.process (reads.still.others (key_of (owner_at site.scope me) arm.op) me.process (arms.itself number arm is));
    names = names-waited core me (λ key. waits new key me.process) env site
        (λ number one is. block-more me (λ key. waits read key me.process) (λ key. waits new key me.process) (λ k here. counts.still.others k me.process here) one.var (guard_block me (home_seen site.names env) one.home) (reads.itself number one is))
        counts.itself names;
  });
}

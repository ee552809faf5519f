-- How a search for groups of spots that lead to each other stands, and its steps.
use Rattle.std.specs.Prelude.{◌≡◌, ◌⊎◌, ℕ, zero, suc, ◌<◌, ◌≤◌, ◌+◌, ◌*◌, IsTrue, List, [], ◌∷◌, ◌++◌, drop, take, length, map, Option, Some, None, is_some, if◌then◌else◌}
use Rattle.sr_names.specs.declared.links.Link.{Link}
use Rattle.sr_names.specs.declared.marks.Mark.{Mark}
use Rattle.sr_names.specs.declared.marks.Mark.TheVariants.{OnPath, Settled}
use Rattle.sr_names.specs.declared.search.Group.{Group}
use Rattle.sr_names.specs.declared.search.Search.{Search}
use Rattle.sr_names.specs.declared.spot.Spot.{Spot}
use Rattle.sr_names.specs.Links.{connects, Among}
use Rattle.sr_names.specs.Marks.{mark_of, with_mark, with_settled}
use Rattle.sr_names.specs.Targets.{targets_of, AreTargets}

-- an item stands at a place of a list
abbrev pub At : {A : Type 0} → List A → ℕ → A → Type 0
At [] place item = ⊥
At (first ∷ items) zero item = first ≡ item
At (first ∷ items) (suc place) item = At items place item

-- the beginning of a search
abbrev pub begun : List Link → Search
begun links = record { marks = []; path = []; groups = []; pending = map (λ link. link.from) links; settled = [] }

-- a spot goes after the path, as a group of its own
abbrev pub entered : List (Spot × List Spot) → Spot → Search → Search
entered targets spot search = record search {
  marks = with_mark search.marks spot (OnPath (length search.path));
  path = search.path ++ spot ∷ [];
  groups = search.groups ++ (record { path = length search.path; pending = length search.pending }) ∷ [];
  pending = search.pending ++ targets_of targets spot;
}

-- the spots of a group, which is no longer among the groups, are settled
abbrev pub closed : Group → Search → Search
closed group search = record search {
  marks = with_settled search.marks (drop group.path search.path) (length search.settled);
  path = take group.path search.path;
  settled = search.settled ++ drop group.path search.path;
}

-- what a spot is marked as, where it is settled or isn't before a place of the path
abbrev pub IsPassed : ℕ → Option Mark → Type 0
IsPassed place None = ⊥
IsPassed place (Some (OnPath at)) = place ≤ at
IsPassed place (Some (Settled number)) = Unit {0}

-- the last group, which is no longer among the groups, is closed where nothing is pending that it leads to; otherwise
-- the last pending spot is visited
pub data WentOn (targets : List (Spot × List Spot)) (group : Group) (old new : Search) : Type 0 where
  closes : length old.pending ≤ group.pending → new ≡ closed group old → WentOn targets group old new
  merges : (front : List Spot) (spot : Spot) (place : ℕ) → group.pending < length old.pending → old.pending ≡ front ++ spot ∷ []
      → mark_of old.marks spot ≡ Some (OnPath place) → place < group.path → new ≡ record old { pending = front ++ spot ∷ [] } → WentOn targets group old new
  passes : (front : List Spot) (spot : Spot) → group.pending < length old.pending → old.pending ≡ front ++ spot ∷ []
      → IsPassed group.path (mark_of old.marks spot) → new ≡ record old { groups = old.groups ++ group ∷ []; pending = front } → WentOn targets group old new
  enters : (front : List Spot) (spot : Spot) → group.pending < length old.pending → old.pending ≡ front ++ spot ∷ []
      → mark_of old.marks spot ≡ None → new ≡ entered targets spot (record old { groups = old.groups ++ group ∷ []; pending = front }) → WentOn targets group old new

-- where no group is open the last pending spot is visited
pub data WentToNext (targets : List (Spot × List Spot)) (old new : Search) : Type 0 where
  passes_by : (front : List Spot) (spot : Spot) → old.pending ≡ front ++ spot ∷ [] → IsTrue (is_some (mark_of old.marks spot))
      → new ≡ record old { pending = front } → WentToNext targets old new
  enters_next : (front : List Spot) (spot : Spot) → old.pending ≡ front ++ spot ∷ [] → mark_of old.marks spot ≡ None
      → new ≡ entered targets spot (record old { pending = front }) → WentToNext targets old new

-- no group begins after the one place and not after the other
abbrev pub Reaches : List Group → ℕ → ℕ → Type 0
Reaches groups from to = (at : ℕ) (group : Group) → At groups at group → group.path ≤ from → group.path ≤ to

-- what becomes of the end of a link that begins at a place of the path: it is settled, or stands on the path in the
-- same group or after it, or is pending for that group or one after it
pub data Led (search : Search) (from : ℕ) (end : Spot) : Type 0 where
  to_settled : (number : ℕ) → mark_of search.marks end ≡ Some (Settled number) → Led search from end
  to_path : (place : ℕ) → At search.path place end → Reaches search.groups from place → Led search from end
  to_pending : (place : ℕ) → At search.pending place end
      → ((at : ℕ) (group : Group) → At search.groups at group → group.path ≤ from → group.pending ≤ place) → Led search from end

-- a spot that is met, or is still to be
pub data Known (marks : List (Spot × Mark)) (pending : List Spot) (spot : Spot) : Type 0 where
  met : (mark : Mark) → mark_of marks spot ≡ Some mark → Known marks pending spot
  awaited : (place : ℕ) → At pending place spot → Known marks pending spot

-- the end of a link from a settled spot: it is settled too, not later, and where in one group it leads back
pub record IsClosed (links : List Link) (marks : List (Spot × Mark)) (link : Link) (number : ℕ) : Type 0 where
  pub last : ℕ
  pub is_settled : mark_of marks link.to ≡ Some (Settled last)
  pub not_later : last ≤ number
  pub leads_back : last ≡ number → IsTrue (connects links link.to link.from)

abbrev pub Ends : List Link → Spot → Type 0
Ends [] spot = ⊥
Ends (link ∷ links) spot = (link.from ≡ spot) ⊎ ((link.to ≡ spot) ⊎ Ends links spot)

pub record IsSearch (links : List Link) (search : Search) : Type 0 where
  pub on_path : (place : ℕ) (spot : Spot) → At search.path place spot → mark_of search.marks spot ≡ Some (OnPath place)
  pub in_path : (place : ℕ) (spot : Spot) → mark_of search.marks spot ≡ Some (OnPath place) → At search.path place spot
  pub joined : (from to : ℕ) (a b : Spot) → At search.path from a → At search.path to b → Reaches search.groups from to → IsTrue (connects links a b)
  pub waiting : (at : ℕ) (group : Group) (a : Spot) (place : ℕ) (b : Spot) → At search.groups at group → At search.path group.path a → group.pending ≤ place → At search.pending place b
      → IsTrue (connects links a b)
  pub led : (link : Link) → Among links link → (place : ℕ) → At search.path place link.from → Led search place link.to
  pub done : (link : Link) → Among links link → (number : ℕ) → mark_of search.marks link.from ≡ Some (Settled number) → IsClosed links search.marks link number
  pub numbered : (spot : Spot) (number : ℕ) → mark_of search.marks spot ≡ Some (Settled number) → number < length search.settled
  pub rising : (before after : ℕ) (a b : Group) → At search.groups before a → At search.groups after b → before < after → (a.path < b.path) × (a.pending ≤ b.pending)
  pub within : (at : ℕ) (group : Group) → At search.groups at group → (group.path < length search.path) × (group.pending ≤ length search.pending)
  pub bottom : (group : Group) → At search.groups 0 group → group.path ≡ 0
  pub empty : search.groups ≡ [] → search.path ≡ []
  pub known : (link : Link) → Among links link → Known search.marks search.pending link.from
  pub ends : (place : ℕ) (spot : Spot) → At search.pending place spot → Ends links spot

-- the spots that are still to be met
abbrev pub unmet : List (Spot × Mark) → List Link → ℕ
unmet marks [] = 0
unmet marks (link ∷ links) = (if is_some (mark_of marks link.from) then 0 else 1) + ((if is_some (mark_of marks link.to) then 0 else 1) + unmet marks links)

-- what is left to do
abbrev pub work : List Link → Search → ℕ
work links search = unmet search.marks links * (length links + 1) + (length search.pending + length search.groups)

abbrev pub Steps : List (Spot × List Spot) → Search → Search → Type 0
Steps targets old new = (links : List Link) → AreTargets links targets → IsSearch links old → IsSearch links new

abbrev pub Shrinks : List (Spot × List Spot) → Search → Search → Type 0
Shrinks targets old new = (links : List Link) → AreTargets links targets → IsSearch links old → work links new < work links old

abbrev pub HasEnded : Search → Type 0
HasEnded search = (search.groups ≡ []) × (search.pending ≡ [])

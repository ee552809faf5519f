-- Accesses that conflict meet at a spot.
use Rattle.std.proofs.Common.{◌≡◌, ◌<◌, ◌+◌, ◌⊎◌, ⊎_elim, ℕ, zero, suc, Bool, true, false, List, [], ◌∷◌, ◌++◌, get_or, map, length, take, refl, ap, sym, ◌∙◌, subst, arith}
use Rattle.std.proofs.lemmas.List.{take_more}
use Rattle.std.proofs.lemmas.List.Elements.{All-append, All-map, Contains-append_left, Contains-append_right}
use Rattle.std.specs.Prelude.{◌||◌, All, Contains}
use Rattle.sr_value.specs.declared.shape.Sel.{Sel}
use Rattle.sr_value.specs.declared.shape.Sel.TheVariants.{Field}
use Rattle.sr_races.specs.Accesses.{Conflict}
use Rattle.sr_races.specs.Spots.{first_key, key_after, keys_on, last_key, looked_at, looked_with, mixed, noted_at, read_at, spot_of}
use Rattle.sr_races.specs.declared.access.Access.{Access}

-- ---- lists

at-place : {A : Type 0} (xs : List A) (y : A) (k : ℕ) → k < length xs → get_or xs k y ≡ y → Contains xs y
at-place xs y k less is = (k, less, is)

cons-in : {A : Type 0} (x : A) (xs : List A) (y : A) → Contains xs y → Contains (x ∷ xs) y
cons-in x xs y (k, less, is) = at-place (x ∷ xs) y (suc k) (omega arith) is

itself : {A : Type 0} (x : A) → Contains (x ∷ []) x
itself x = (0, omega arith, refl)

map-at : (f : ℕ → ℕ) (xs : List ℕ) (y k : ℕ) → k < length xs → get_or xs k y ≡ y → Contains (map f xs) (f y)
map-at f [] y k less is = absurd (omega arith)
map-at f (x ∷ xs) y zero less is = at-place (f x ∷ map f xs) (f y) 0 (omega arith) (ap f is)
map-at f (x ∷ xs) y (suc k) less is = cons-in (f x) (map f xs) (f y) (map-at f xs y k (omega arith) is)

map-in : (f : ℕ → ℕ) (xs : List ℕ) (y : ℕ) → Contains xs y → Contains (map f xs) (f y)
map-in f xs y (k, less, is) = map-at f xs y k less is

pub map-push : (f : ℕ → ℕ) (xs : List ℕ) (x : ℕ) → map f (xs ++ x ∷ []) ≡ map f xs ++ f x ∷ []
map-push f [] x = refl
map-push f (y ∷ xs) x = ap (λ zs. f y ∷ zs) (map-push f xs x)

nil-right : (path : List Sel) → path ++ [] ≡ path
nil-right [] = refl
nil-right (sel ∷ path) = ap (λ more. sel ∷ more) (nil-right path)

-- ---- keys

pub keys-more : (key : ℕ) (path : List Sel) (sel : Sel) → keys_on key (path ++ sel ∷ []) ≡ keys_on key path ++ last_key key path ∷ []
keys-more key [] sel = refl
keys-more key (one ∷ path) sel = ap (λ keys. key ∷ keys) (keys-more (key_after key one) path sel)

pub last-more : (key : ℕ) (path : List Sel) (sel : Sel) → last_key key (path ++ sel ∷ []) ≡ key_after (last_key key path) sel
last-more key [] sel = refl
last-more key (one ∷ path) sel = last-more (key_after key one) path sel

-- a way leads through the end of one from which it goes on
on-way : (key : ℕ) (path : List Sel) (sel : Sel) (rest : List Sel) → Contains (keys_on key (path ++ sel ∷ rest)) (last_key key path)
on-way key [] sel rest = at-place (key ∷ keys_on (key_after key sel) rest) key 0 (omega arith) refl
on-way key (one ∷ path) sel rest = cons-in key (keys_on (key_after key one) (path ++ sel ∷ rest)) (last_key (key_after key one) path) (on-way (key_after key one) path sel rest)

-- ---- spots

spot-within : (n : ℕ) (below writes : Bool) (key : ℕ) → 0 < n → spot_of n below writes key < n
unfolding spot_of
spot-within n below writes key some = omega arith

one-within : (n x : ℕ) → x < n → All (λ spot. spot < n) (x ∷ [])
one-within n x less zero d short = less
one-within n x less (suc k) d short = absurd (omega arith)

pub noted-within : (n : ℕ) (access : Access) → 0 < n → All (λ spot. spot < n) (noted_at n access)
noted-within n access some =
    let w = access.writes in
    let keys = keys_on (first_key access) access.path in
    let end = last_key (first_key access) access.path in
    All-append (λ spot. spot < n) (map (spot_of n true w) keys ++ spot_of n true w end ∷ []) (spot_of n false w end ∷ [])
    (All-append (λ spot. spot < n) (map (spot_of n true w) keys) (spot_of n true w end ∷ [])
    (All-map (λ spot. spot < n) (spot_of n true w) keys (λ k d less. spot-within n true w (get_or keys k d) some)) (one-within n (spot_of n true w end) (spot-within n true w end some)))
    (one-within n (spot_of n false w end) (spot-within n false w end some))

module _ (n : ℕ) (access : Access) where
  abbrev keys : List ℕ
  keys = keys_on (first_key access) access.path

  abbrev end : ℕ
  end = last_key (first_key access) access.path

  noted-below-way : (key : ℕ) → Contains keys key → Contains (noted_at n access) (spot_of n true access.writes key)
  noted-below-way key here =
      Contains-append_left (map (spot_of n true access.writes) keys ++ spot_of n true access.writes end ∷ []) (spot_of n false access.writes end ∷ []) (spot_of n true access.writes key)
      (Contains-append_left (map (spot_of n true access.writes) keys) (spot_of n true access.writes end ∷ []) (spot_of n true access.writes key) (map-in (spot_of n true access.writes) keys key here))

  noted-below-end : Contains (noted_at n access) (spot_of n true access.writes end)
  noted-below-end =
      Contains-append_left (map (spot_of n true access.writes) keys ++ spot_of n true access.writes end ∷ []) (spot_of n false access.writes end ∷ []) (spot_of n true access.writes end)
      (Contains-append_right (map (spot_of n true access.writes) keys) (spot_of n true access.writes end ∷ []) (spot_of n true access.writes end) (itself (spot_of n true access.writes end)))

  noted-here : Contains (noted_at n access) (spot_of n false access.writes end)
  noted-here =
      Contains-append_right (map (spot_of n true access.writes) keys ++ spot_of n true access.writes end ∷ []) (spot_of n false access.writes end ∷ []) (spot_of n false access.writes end)
      (itself (spot_of n false access.writes end))

  looked-way : (writes : Bool) (key : ℕ) → Contains keys key → Contains (looked_with n writes access) (spot_of n false writes key)
  looked-way writes key here = Contains-append_left (map (spot_of n false writes) keys) (spot_of n true writes end ∷ []) (spot_of n false writes key) (map-in (spot_of n false writes) keys key here)

  looked-end : (writes : Bool) → Contains (looked_with n writes access) (spot_of n true writes end)
  looked-end writes = Contains-append_right (map (spot_of n false writes) keys) (spot_of n true writes end ∷ []) (spot_of n true writes end) (itself (spot_of n true writes end))

  -- what reads looks for what writes, and what writes for both
  with-in : (writes : Bool) → (writes || access.writes) ≡ true → (spot : ℕ) → Contains (looked_with n writes access) spot → Contains (looked_at n access) spot
  with-in true some spot here = Contains-append_left (looked_with n true access) (read_at n access.writes access) spot here
  with-in false some spot here = Contains-append_right (looked_with n true access) (read_at n access.writes access) spot (subst (λ t. Contains (read_at n t access) spot) (sym some) here)

-- a spot at which one is noted and the other looks
pub record Meet (n : ℕ) (one other : Access) : Type 0 where
  pub spot : ℕ
  pub noted : Contains (noted_at n one) spot
  pub looked : Contains (looked_at n other) spot

module _ (n : ℕ) (one other : Access) (conflict : Conflict one other) where
  same-key : first_key one ≡ first_key other
  same-key = ap (λ block. mixed block one.var) conflict.block ∙ ap (λ var. mixed other.block var) conflict.var

  -- the other leads to one, or ends where it ends
  noted-so : (rest : List Sel) → other.path ++ rest ≡ one.path → Contains (noted_at n one) (spot_of n true one.writes (last_key (first_key other) other.path))
  noted-so [] is =
      let path : other.path ≡ one.path = sym (nil-right other.path) ∙ is in
      let same : last_key (first_key one) one.path ≡ last_key (first_key other) other.path = ap (λ key. last_key key one.path) same-key ∙ ap (last_key (first_key other)) (sym path) in
      subst (λ key. Contains (noted_at n one) (spot_of n true one.writes key)) same (noted-below-end n one)
  noted-so (sel ∷ rest) is =
      noted-below-way n one (last_key (first_key other) other.path)
      (subst (λ path. Contains (keys_on (first_key one) path) (last_key (first_key other) other.path)) is
      (subst (λ key. Contains (keys_on key (other.path ++ sel ∷ rest)) (last_key (first_key other) other.path)) (sym same-key) (on-way (first_key other) other.path sel rest)))

  back : (rest : List Sel) → other.path ++ rest ≡ one.path → Meet n one other
  back rest is = record {
    spot = spot_of n true one.writes (last_key (first_key other) other.path);
    noted = noted-so rest is;
    looked = with-in n other one.writes conflict.writes (spot_of n true one.writes (last_key (first_key other) other.path)) (looked-end n other one.writes);
  }

  -- one leads to the other
  onward : (rest : List Sel) → one.path ++ rest ≡ other.path → Meet n one other
  onward [] is = back [] (nil-right other.path ∙ sym is ∙ nil-right one.path)
  onward (sel ∷ rest) is = record {
    spot = spot_of n false one.writes (last_key (first_key one) one.path);
    noted = noted-here n one;
    looked = with-in n other one.writes conflict.writes (spot_of n false one.writes (last_key (first_key one) one.path))
        (looked-way n other one.writes (last_key (first_key one) one.path)
        (subst (λ path. Contains (keys_on (first_key other) path) (last_key (first_key one) one.path)) is
        (subst (λ key. Contains (keys_on key (one.path ++ sel ∷ rest)) (last_key (first_key one) one.path)) same-key (on-way (first_key one) one.path sel rest))));
  }

  pub meets : Meet n one other
  meets = ⊎_elim (λ leads. onward leads.rest leads.is) (λ leads. back leads.rest leads.is) conflict.within

-- ---- the spots of an access, as they are added

pub noted-built : (n : ℕ) (access : Access) (start way below all : List ℕ) (last x y : ℕ) → start ≡ [] → way ≡ start ++ map (spot_of n true access.writes) (keys_on (first_key access) access.path)
    → last ≡ last_key (first_key access) access.path → x ≡ spot_of n true access.writes last → below ≡ way ++ x ∷ [] → y ≡ spot_of n false access.writes last → all ≡ below ++ y ∷ [] → all ≡ noted_at n access
noted-built n access start way below all last x y none way-is last-is x-is below-is y-is all-is =
    let way' : way ≡ map (spot_of n true access.writes) (keys_on (first_key access) access.path) = way-is ∙ ap (λ xs. xs ++ map (spot_of n true access.writes) (keys_on (first_key access) access.path)) none in
    let x' : x ≡ spot_of n true access.writes (last_key (first_key access) access.path) = x-is ∙ ap (spot_of n true access.writes) last-is in
    let y' : y ≡ spot_of n false access.writes (last_key (first_key access) access.path) = y-is ∙ ap (spot_of n false access.writes) last-is in
    all-is ∙ ap (λ xs. xs ++ y ∷ []) (below-is ∙ ap (λ xs. xs ++ x ∷ []) way' ∙ ap (λ k. map (spot_of n true access.writes) (keys_on (first_key access) access.path) ++ k ∷ []) x')
    ∙ ap (λ k. (map (spot_of n true access.writes) (keys_on (first_key access) access.path) ++ spot_of n true access.writes (last_key (first_key access) access.path) ∷ []) ++ k ∷ []) y'

numbers-regroup : (xs ys zs : List ℕ) → (xs ++ ys) ++ zs ≡ xs ++ (ys ++ zs)
numbers-regroup [] ys zs = refl
numbers-regroup (x ∷ xs) ys zs = ap (λ more. x ∷ more) (numbers-regroup xs ys zs)

pub looked-built : (n : ℕ) (writes : Bool) (access : Access) (start way all : List ℕ) (last x : ℕ) → way ≡ start ++ map (spot_of n false writes) (keys_on (first_key access) access.path)
    → last ≡ last_key (first_key access) access.path → x ≡ spot_of n true writes last → all ≡ way ++ x ∷ [] → all ≡ start ++ looked_with n writes access
looked-built n writes access start way all last x way-is last-is x-is all-is =
    all-is ∙ ap (λ xs. xs ++ x ∷ []) way-is ∙ ap (λ k. (start ++ map (spot_of n false writes) (keys_on (first_key access) access.path)) ++ k ∷ []) (x-is ∙ ap (spot_of n true writes) last-is)
    ∙ numbers-regroup start (map (spot_of n false writes) (keys_on (first_key access) access.path)) (spot_of n true writes (last_key (first_key access) access.path) ∷ [])

numbers-nil : (xs : List ℕ) → xs ++ [] ≡ xs
numbers-nil [] = refl
numbers-nil (x ∷ xs) = ap (λ more. x ∷ more) (numbers-nil xs)

-- of what only reads
pub looked-reading : (n : ℕ) (access : Access) (start all : List ℕ) → access.writes ≡ false → start ≡ [] → all ≡ start ++ looked_with n true access → all ≡ looked_at n access
looked-reading n access start all reads none is =
    is ∙ ap (λ xs. xs ++ looked_with n true access) none ∙ sym (numbers-nil (looked_with n true access)) ∙ ap (λ t. looked_with n true access ++ read_at n t access) (sym reads)

-- of what writes
pub looked-writing : (n : ℕ) (access : Access) (start between all : List ℕ) → access.writes ≡ true → start ≡ [] → between ≡ start ++ looked_with n true access → all ≡ between ++ looked_with n false access
    → all ≡ looked_at n access
looked-writing n access start between all writes none is all-is =
    all-is ∙ ap (λ xs. xs ++ looked_with n false access) (is ∙ ap (λ xs. xs ++ looked_with n true access) none) ∙ ap (λ t. looked_with n true access ++ read_at n t access) (sym writes)

pub nothing-more : (start : List ℕ) → start ≡ start ++ []
nothing-more start = sym (numbers-nil start)

-- one part more
part-next : (path : List Sel) (k : ℕ) (d : Sel) → k < length path → take (k + 1) path ≡ take k path ++ get_or path k d ∷ []
part-next path k d within = take_more path k d within

pub last-next : (key : ℕ) (path : List Sel) (k : ℕ) (d : Sel) (last more : ℕ) → k < length path → last ≡ last_key key (take k path) → more ≡ key_after last (get_or path k d) → more ≡ last_key key (take (k + 1) path)
last-next key path k d last more within last-is more-is =
    more-is ∙ ap (λ n. key_after n (get_or path k d)) last-is ∙ sym (last-more key (take k path) (get_or path k d)) ∙ ap (last_key key) (sym (part-next path k d within))

pub spots-next : (n : ℕ) (below writes : Bool) (key : ℕ) (path : List Sel) (k : ℕ) (start spots more : List ℕ) (last x : ℕ) → k < length path → spots ≡ start ++ map (spot_of n below writes) (keys_on key (take k path)) → last ≡ last_key key (take k path)
    → x ≡ spot_of n below writes last → more ≡ spots ++ x ∷ [] → more ≡ start ++ map (spot_of n below writes) (keys_on key (take (k + 1) path))
spots-next n below writes key path k start spots more last x within spots-is last-is x-is more-is =
    more-is ∙ ap (λ xs. xs ++ x ∷ []) spots-is ∙ ap (λ y. (start ++ map (spot_of n below writes) (keys_on key (take k path))) ++ y ∷ []) (x-is ∙ ap (spot_of n below writes) last-is)
    ∙ numbers-regroup start (map (spot_of n below writes) (keys_on key (take k path))) (spot_of n below writes (last_key key (take k path)) ∷ [])
    ∙ ap (λ xs. start ++ xs)
    (sym (ap (λ p. map (spot_of n below writes) (keys_on key p)) (part-next path k (Field 0) within)
    ∙ ap (map (spot_of n below writes)) (keys-more key (take k path) (get_or path k (Field 0))) ∙ map-push (spot_of n below writes) (keys_on key (take k path)) (last_key key (take k path))))

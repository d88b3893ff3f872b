-- Hold counts, and what dropping and taking holds does to them. A description past the end has no holds: `get_or` reads 0 there and `set` stores nothing.
use Rattle.std.specs.Prelude.{ℕ, suc, ◌-◌, Bool, false, cond, ◌||◌, List, [], ◌∷◌, ltb, eqb, get_or, set}

-- one more, and 65,535 stays
abbrev pub upto : ℕ → ℕ
upto n = cond (ltb n 65535) (suc n) n

-- one hold less, one hold more
abbrev pub less : List ℕ → ℕ → List ℕ
less a d = set a d (get_or a d 0 - 1)

abbrev pub more : List ℕ → ℕ → List ℕ
more a d = set a d (upto (get_or a d 0))

abbrev pub less_all : List ℕ → List ℕ → List ℕ
less_all a [] = a
less_all a (d ∷ ds) = less_all (less a d) ds

abbrev pub more_all : List ℕ → List ℕ → List ℕ
more_all a [] = a
more_all a (d ∷ ds) = more_all (more a d) ds

abbrev pub last : List ℕ → ℕ → Bool
last a d = eqb (get_or a d 0) 1

-- of the descriptions dropped in turn, those whose last hold went, in list order
abbrev pub lasts : List ℕ → List ℕ → List ℕ
lasts a [] = []
lasts a (d ∷ ds) = cond (last a d) (d ∷ lasts (less a d) ds) (lasts (less a d) ds)

-- how often a description is listed
abbrev pub times : ℕ → List ℕ → ℕ
times m [] = 0
times m (d ∷ ds) = cond (eqb d m) (suc (times m ds)) (times m ds)

-- whether an entry of the list passes the test
abbrev pub any : (ℕ → Bool) → List ℕ → Bool
any p [] = false
any p (d ∷ ds) = p d || any p ds

-- 1 where x is d, else 0
abbrev pub one : ℕ → ℕ → ℕ
one x d = cond (eqb x d) 1 0

-- What the walks from the nodes below u have found: each loop once, and every loop with an id of u or below.
use Rattle.std.specs.Prelude.{Bool, true, false, cond, List, [], ◌∷◌, ◌≢◌, ◌≡◌, refl, ℕ, zero, suc, ◌+◌, ◌<◌, ◌≤◌, eqb, ltb, leb, length}
use Rattle.std.proofs.Common.{sym, ◌∙◌, ap, arith, eqb-true, ltb-false, le-leb}
use Rattle.std.proofs.Math.Path.{fun_ext}
use Rattle.std.proofs.lemmas.Bool.{eqb-false}
use Rattle.laws.specs.Loop.{for_up}
use Rattle.topology.specs.Sums.{All, total, path_sum, loop_sum}
use Rattle.topology.specs.Links.{off, delta, delta_same}
use Rattle.topology.specs.Front.{Loops}
use Rattle.topology.specs.Walk.{walk_by, count, least, least_from, turn_to, loop_from, Cycle}
use Rattle.topology.specs.Walk.{least_le, turn_sum, turn_to_length}
use Rattle.topology.proofs.Walk.{cycles, once, nodes, outside, walk_loop}
use Rattle.topology.specs.Listing.{long_loops, walks, if_listed, total_one, total_add}
use Rattle.topology.proofs.Listing.{total_listing}
use Rattle.front_loop_list.specs.Walked.{walk_last, walk_more}

-- ---- counts

path_count : (v x : ℕ) (xs : List ℕ) (z : ℕ) → path_sum (λ a b. delta a v) x xs z ≡ count v (x ∷ xs)
unfolding path_sum count
path_count v x [] z = omega arith
path_count v x (y ∷ xs) z = omega (arith, path_count v y xs z)

loop_count_lem : (v : ℕ) (l : List ℕ) → loop_sum (λ a b. delta a v) l ≡ count v l
unfolding loop_sum count
loop_count_lem v [] = refl
loop_count_lem v (x ∷ xs) = path_count v x xs x

-- a loop turned has the same ids
pub count_turn : (v u : ℕ) (l : List ℕ) → count v (turn_to u l) ≡ count v l
count_turn v u l = sym (loop_count_lem v (turn_to u l)) ∙ (turn_sum (λ a b. delta a v) u l ∙ loop_count_lem v l)

total_le : (p q : List ℕ → ℕ) → ((l : List ℕ) → p l ≤ q l) → (ls : List (List ℕ)) → total p ls ≤ total q ls
unfolding total
total_le p q h [] = omega arith
total_le p q h (l ∷ ls) = omega (arith, h l, total_le p q h ls)

-- ---- of a loop that is listed

if_le : (b : Bool) (x y : ℕ) → x ≤ y → cond b x 0 ≤ y
if_le true x y h = h
if_le false x y h = omega arith

listed_le : (k : ℕ) (r : List ℕ → ℕ) (l : List ℕ) → if_listed k r l ≤ r l
unfolding if_listed
listed_le k r l = if_le (leb k (length l)) (r l) (r l) (omega arith)

listed_long : (r : List ℕ → ℕ) (l : List ℕ) → 3 ≤ length l → if_listed 3 r l ≡ r l
unfolding if_listed
listed_long r l h = rw (le-leb 3 (length l) h)

-- every id is that of a loop of one or more
pub listed_count : (v : ℕ) (l : List ℕ) → if_listed 1 (count v) l ≡ count v l
unfolding if_listed count
listed_count v [] = refl
listed_count v (x ∷ l) = rw (le-leb 1 (suc (length l)) (omega arith))

-- the smallest id of u's loop is u or below
least_reached : (f : ℕ → ℕ) (u : ℕ) (l : List ℕ) → Cycle f l → cond (ltb (least l) (suc u)) (count u l) 0 ≡ count u l
unfolding least
least_reached f u [] c = absurd c
least_reached f u (x ∷ xs) c = by (ltb (least_from x xs) (suc u)) refl (count u (x ∷ xs)) refl
  where
    by : (b : Bool) → ltb (least_from x xs) (suc u) ≡ b → (k : ℕ) → count u (x ∷ xs) ≡ k → cond b (count u (x ∷ xs)) 0 ≡ count u (x ∷ xs)
    by true e k q = refl
    by false e zero q = sym q
    by false e (suc k) q = absurd (omega (arith, ltb-false (least_from x xs) (suc u) e, least_le u x xs (omega (arith, q))))

all_reached : (f : ℕ → ℕ) (u : ℕ) (ls : List (List ℕ)) → All (Cycle f) ls
    → total (λ l. cond (ltb (least l) (suc u)) (if_listed 1 (count u) l) 0) ls ≡ total (count u) ls
unfolding total
all_reached f u [] c = refl
all_reached f u (l ∷ ls) c =
    rw (listed_count u l) (omega (arith, least_reached f u l c.0, all_reached f u ls c.1))

-- ---- a walk begins where it starts

pub walk_starts : (f : ℕ → ℕ) (k z u : ℕ) → 0 < length (walk_by f k z u) → 0 < count u (walk_by f k z u)
unfolding count
walk_starts f k z u h = by (eqb (f u) z) refl
  where
    by : (b : Bool) → eqb (f u) z ≡ b → 0 < count u (walk_by f k z u)
    by true e = rw (walk_last f k z u h (eqb-true (f u) z e)) (omega (arith, delta_same u u refl))
    by false e = let s = walk_more f k z u h (eqb-false (f u) z e) in rw s.rest (omega (arith, delta_same u u refl))

pub counts_some : (u : ℕ) (l : List ℕ) → 0 < count u l → 0 < length l
unfolding count
counts_some u [] h = absurd (omega arith)
counts_some u (x ∷ l) h = omega arith

-- ---- the walks

-- ls are the loops of the links f, and have m ids at most
module _ (n : ℕ) (f : ℕ → ℕ) (ls : List (List ℕ)) (L : Loops n f ls) (m : ℕ) (few : total length ls ≤ m) where
  -- the walks from the nodes below u find the loops whose smallest ids are below u
  pub found_from : (k u : ℕ) → walks k u m f ≡ long_loops k u (λ v. loop_from v ls)
  found_from k u = ap (long_loops k u) (fun_ext (λ v. walk_loop n f ls L m v few))

  found_total : (k : ℕ) (r : List ℕ → ℕ) → ((u : ℕ) (l : List ℕ) → r (turn_to u l) ≡ r l) → (u : ℕ)
      → total r (walks (suc k) u m f) ≡ total (λ l. cond (ltb (least l) u) (if_listed (suc k) r l) 0) ls
  found_total k r turn u =
      ap (total r) (found_from (suc k) u) ∙ total_listing f k r turn ls (cycles n f ls L) (once n f ls L) u

  found_le : (k : ℕ) (r q : List ℕ → ℕ) → ((u : ℕ) (l : List ℕ) → r (turn_to u l) ≡ r l) → ((l : List ℕ) → if_listed (suc k) r l ≤ q l)
      → (u : ℕ) → total r (walks (suc k) u m f) ≤ total q ls
  found_le k r q turn le u =
      omega (
        arith,
        found_total k r turn u,
        total_le (λ l. cond (ltb (least l) u) (if_listed (suc k) r l) 0) q
            (λ l. if_le (ltb (least l) u) (if_listed (suc k) r l) (q l) (le l)) ls,
      )

  -- their ids are no more than m
  pub found_ids : (k u : ℕ) → total length (walks (suc k) u m f) ≤ m
  found_ids k u = omega (arith, found_le k length length turn_to_length (listed_le (suc k) length) u)

  -- and they no more than the loops
  pub found_number : (k u : ℕ) → length (walks (suc k) u m f) ≤ length ls
  found_number k u =
      omega (
        arith,
        total_one (walks (suc k) u m f),
        total_one ls,
        found_le k (λ l. 1) (λ l. 1) (λ v l. refl) (listed_le (suc k) (λ l. 1)) u,
      )

  -- an id found is one of the loops
  pub found_count : (v u : ℕ) → total (count v) (walks 1 u m f) ≤ total (count v) ls
  found_count v u = found_le 0 (count v) (count v) (count_turn v) (listed_le 1 (count v)) u

  -- the ids of one walk more
  pub found_more : (v u : ℕ) → total (count v) (walks 1 (suc u) m f) ≡ total (count v) (walks 1 u m f) + count v (walk_by f m u u)
  unfolding long_loops for_up
  found_more v u = omega (arith, total_add (count v) 1 (walk_by f m u u) (walks 1 u m f), listed_count v (walk_by f m u u))

  -- what is listed of one walk more
  pub found_long : (r : List ℕ → ℕ) (u : ℕ) → 3 ≤ length (walk_by f m u u)
      → total r (walks 3 (suc u) m f) ≡ total r (walks 3 u m f) + r (walk_by f m u u)
  unfolding long_loops for_up
  found_long r u h = omega (arith, total_add r 3 (walk_by f m u u) (walks 3 u m f), listed_long r (walk_by f m u u) h)

  -- u itself is found from the nodes up to it, if it is on a loop
  pub found_reached : (u : ℕ) → total (count u) (walks 1 (suc u) m f) ≡ total (count u) ls
  found_reached u = found_total 0 (count u) (count_turn u) (suc u) ∙ all_reached f u ls (cycles n f ls L)

  -- the ids of a walk are nodes
  pub walk_nodes : (v u : ℕ) → 0 < count v (walk_by f m u u) → v < n
  walk_nodes v u h = nodes n f ls L v (omega (arith, found_more v u, found_count v (suc u)))

  -- a node is on a loop where it has a link
  pub on_loop : (u : ℕ) → f u ≢ off → total (count u) ls ≡ 1
  on_loop u on = by (total (count u) ls) refl
    where
      by : (k : ℕ) → total (count u) ls ≡ k → total (count u) ls ≡ 1
      by zero e = absurd (on (outside n f ls L u e))
      by (suc k) e = omega (arith, e, once n f ls L u)

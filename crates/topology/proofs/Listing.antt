-- What holds of the definitions of specs/Listing.antt.
use Prim.Native.Nat.{ℕ, zero, suc, ◌+◌, ◌<◌, ◌≤◌, ◌%◌}
use Rattle.std.specs.Prelude.{List, [], ◌∷◌, ◌++◌, ◌≡◌, refl, Bool, true, false, length, eqb, ltb, leb}
use Rattle.std.proofs.Math.Path.{sym, fun_ext}
use Rattle.std.proofs.Common.{◌∙◌, ap, eqb-true, ltb-true, ltb-false, lt-ltb, le-ltb, leb-true, le-leb}
use Rattle.std.proofs.Math.Bool.{cond}
use native.Mathlib.Omega.{arith}
use Rattle.std.proofs.lemmas.Bool.{eqb-false, lt-leb}
use Rattle.laws.specs.Loop.{for_up}
use Rattle.topology.specs.Sums.{All, total, loop_sum, front_sum, Even, total_ext}
use Rattle.topology.specs.Links.{at}
use Rattle.topology.specs.Front.{Loops, loops_same}
use Rattle.topology.specs.Walk.{count, least, turn_to, loop_from, Cycle}
use Rattle.topology.specs.Walk.{least_counts, turn_sum, turn_to_length, from_none}
use Rattle.topology.proofs.Walk.{cycles, once, nodes, walk_loop}
use Rattle.topology.specs.Listing.{add_loop, long_loops, walks, if_listed, total_one, total_add, all_snoc, ListsLoops}

-- ---- sums over what is listed

total_sum : (p q : List ℕ → ℕ) (ls : List (List ℕ)) → total (λ l. p l + q l) ls ≡ total p ls + total q ls
unfolding total
total_sum p q [] = refl
total_sum p q (l ∷ ls) = omega (arith, total_sum p q ls)

total_zero : (p : List ℕ → ℕ) → ((l : List ℕ) → p l ≡ 0) → (ls : List (List ℕ)) → total p ls ≡ 0
unfolding total
total_zero p e [] = refl
total_zero p e (l ∷ ls) = omega (arith, e l, total_zero p e ls)

-- below n + 1 means below n or at n
below_suc : (x n a : ℕ) → cond (ltb x (suc n)) a 0 ≡ cond (ltb x n) a 0 + cond (eqb x n) a 0
below_suc x n a = by (ltb x n) refl (eqb x n) refl
  where
    by : (b : Bool) → ltb x n ≡ b → (c : Bool) → eqb x n ≡ c → cond (ltb x (suc n)) a 0 ≡ cond b a 0 + cond c a 0
    by true p true q = absurd (omega (arith, ltb-true x n p, eqb-true x n q))
    by true p false q = rw (lt-ltb x (suc n) (omega (arith, ltb-true x n p))) (omega arith)
    by false p true q = rw (lt-ltb x (suc n) (omega (arith, eqb-true x n q))) (omega arith)
    by false p false q =
        let other = eqb-false x n q in
        rw (le-ltb x (suc n) (omega (arith, ltb-false x n p))) (omega arith)

-- p of the loop from u is p of the loops whose smallest id is u: there is one at most
total_from : (f : ℕ → ℕ) (p : List ℕ → ℕ) → p [] ≡ 0 → ((u : ℕ) (l : List ℕ) → p (turn_to u l) ≡ p l) → (u : ℕ) (ls : List (List ℕ))
    → All (Cycle f) ls → total (count u) ls ≤ 1 → p (loop_from u ls) ≡ total (λ l. cond (eqb (least l) u) (p l) 0) ls
unfolding loop_from total
total_from f p z turn u [] r c = z
total_from f p z turn u (l ∷ ls) r c = by (eqb (least l) u) refl (total_from f p z turn u ls r.1 (omega arith))
  where
    by : (b : Bool) → eqb (least l) u ≡ b → p (loop_from u ls) ≡ total (λ l. cond (eqb (least l) u) (p l) 0) ls
        → p (cond b (turn_to u l) (loop_from u ls)) ≡ cond b (p l) 0 + total (λ l. cond (eqb (least l) u) (p l) 0) ls
    by true e later =
        let here = least_counts f u l r.0 (eqb-true (least l) u e) in
        let none : p (loop_from u ls) ≡ 0 = ap p (from_none f u ls r.1 (omega arith)) ∙ z in
        omega (arith, turn u l, later, none)
    by false e later = omega (arith, later)

module _ (f : ℕ → ℕ) (k : ℕ) (r : List ℕ → ℕ) (turn : (u : ℕ) (l : List ℕ) → r (turn_to u l) ≡ r l)
    (ls : List (List ℕ)) (R : All (Cycle f) ls) where
  listed_turn : (u : ℕ) (l : List ℕ) → if_listed (suc k) r (turn_to u l) ≡ if_listed (suc k) r l
  unfolding if_listed
  listed_turn u l = rw (turn_to_length u l, turn u l)

  listed_nil : if_listed (suc k) r [] ≡ 0
  unfolding if_listed
  listed_nil = rw (lt-leb (suc k) 0 (omega arith))

  -- the loops whose smallest id is below n are listed from the first n nodes
  pub total_listing : ((u : ℕ) → total (count u) ls ≤ 1) → (n : ℕ)
      → total r (long_loops (suc k) n (λ u. loop_from u ls)) ≡ total (λ l. cond (ltb (least l) n) (if_listed (suc k) r l) 0) ls
  unfolding long_loops for_up total
  total_listing once zero =
      sym (total_zero (λ l. cond (ltb (least l) 0) (if_listed (suc k) r l) 0) (λ l. rw (le-ltb (least l) 0 (omega arith))) ls)
  total_listing once (suc n) =
      let p = if_listed (suc k) r in
      omega (
        arith,
        total_add r (suc k) (loop_from n ls) (long_loops (suc k) n (λ u. loop_from u ls)),
        total_from f p listed_nil listed_turn n ls R (once n),
        total_ext _ _ (λ l. below_suc (least l) n (p l)) ls,
        total_sum (λ l. cond (ltb (least l) n) (p l) 0) (λ l. cond (eqb (least l) n) (p l) 0) ls,
        total_listing once n,
      )

-- and that is every loop, where all ids are below n
total_within : (f : ℕ → ℕ) (n : ℕ) (p : List ℕ → ℕ) (ls : List (List ℕ)) → All (Cycle f) ls → ((v : ℕ) → 0 < total (count v) ls → v < n)
    → total (λ l. cond (ltb (least l) n) (p l) 0) ls ≡ total p ls
unfolding total
total_within f n p [] R nodes = refl
total_within f n p (l ∷ ls) R nodes =
    let lt = nodes (least l) (omega (arith, least_counts f (least l) l R.0 refl)) in
    rw (lt-ltb (least l) n lt, total_within f n p ls R.1 (λ v q. nodes v (omega (arith, q))))

-- ---- what is listed

-- every cycle has a node, so none is too short to be listed among those of one or more
listed_all : (f : ℕ → ℕ) (r : List ℕ → ℕ) (ls : List (List ℕ)) → All (Cycle f) ls → total (if_listed 1 r) ls ≡ total r ls
unfolding total if_listed
listed_all f r [] R = refl
listed_all f r ([] ∷ ls) R = absurd R.0
listed_all f r ((x ∷ xs) ∷ ls) R = rw (le-leb 1 (suc (length xs)) (omega arith), listed_all f r ls R.1)

-- an even loop, turned or not there, has an even number of nodes
even_from : (u : ℕ) (ls : List (List ℕ)) → All Even ls → length (loop_from u ls) % 2 ≡ 0
unfolding loop_from
even_from u [] e = refl
even_from u (l ∷ ls) e = by (eqb (least l) u) (even_from u ls e.1)
  where
    by : (b : Bool) → length (loop_from u ls) % 2 ≡ 0 → length (cond b (turn_to u l) (loop_from u ls)) % 2 ≡ 0
    by true h = rw (turn_to_length u l) e.0.even
    by false h = h

listing_even : (k n : ℕ) (L : ℕ → List ℕ) → ((u : ℕ) → length (L u) % 2 ≡ 0) → All Even (long_loops (suc k) n L)
unfolding long_loops for_up add_loop
listing_even k zero L h = tt
listing_even k (suc n) L h = by (leb (suc k) (length (L n))) refl (listing_even k n L h)
  where
    by : (b : Bool) → leb (suc k) (length (L n)) ≡ b → All Even (long_loops (suc k) n L)
        → All Even (cond b (long_loops (suc k) n L ++ L n ∷ []) (long_loops (suc k) n L))
    by true e a =
        let long = leb-true (suc k) (length (L n)) e in
        all_snoc Even (long_loops (suc k) n L) (L n) a (record { even = h n; two = omega (arith, h n) })
    by false e a = a

-- ---- the theorems

-- ls are the loops of the links f, and have m edges at most
module _ (n : ℕ) (f : ℕ → ℕ) (ls : List (List ℕ)) (L : Loops n f ls) (m : ℕ) (few : total length ls ≤ m) where
  -- the walks list the loops, each from its smallest id, in the order of these ids
  pub walks_list : (k : ℕ) → walks k n m f ≡ long_loops k n (λ u. loop_from u ls)
  walks_list k = ap (long_loops k n) (fun_ext (λ u. walk_loop n f ls L m u few))

  -- what does not change when a loop is turned sums up over the list to the sum over the loops of k + 1 nodes or more
  pub walks_total : (k : ℕ) (r : List ℕ → ℕ) → ((u : ℕ) (l : List ℕ) → r (turn_to u l) ≡ r l)
      → total r (walks (suc k) n m f) ≡ total (if_listed (suc k) r) ls
  walks_total k r turn =
      let C = cycles n f ls L in
      ap (total r) (walks_list (suc k))
      ∙ (total_listing f k r turn ls C (once n f ls L) n ∙ total_within f n (if_listed (suc k) r) ls C (nodes n f ls L))

  -- each loop listed is even
  pub walks_even : (k : ℕ) → All Even (walks (suc k) n m f)
  walks_even k = rw (walks_list (suc k)) (listing_even k n (λ u. loop_from u ls) (λ u. even_from u ls L.evens))

  walks_sums : (w : ℕ → ℕ → ℕ) → front_sum w (walks 1 n m f) ≡ front_sum w ls
  walks_sums w = walks_total 0 (loop_sum w) (turn_sum w) ∙ listed_all f (loop_sum w) ls (cycles n f ls L)

  -- those of one node or more are all loops
  pub walks_all : ListsLoops n f ls (walks 1 n m f)
  walks_all =
      record {
        number =
            sym (total_one (walks 1 n m f))
            ∙ (walks_total 0 (λ l. 1) (λ u l. refl) ∙ (listed_all f (λ l. 1) ls (cycles n f ls L) ∙ total_one ls));
        sums = walks_sums;
        loops = loops_same n f ls (walks 1 n m f) (λ u v. sym (walks_sums (at u v))) (walks_even 0) L;
      }

-- What holds of the definitions of specs/Walk.antt.
use Rattle.std.specs.Prelude.{ℕ, zero, suc, ◌+◌, ◌<◌, ◌≤◌, List, [], ◌∷◌, ◌++◌, ◌≡◌, refl, Bool, true, false, cond, ◌||◌, length, eqb, ltb}
use Rattle.std.proofs.Common.{append-nil, sym, ◌∙◌, ap, subst, arith, length-append, eqb-true, eq-eqb, ne_eqb, lt-ltb, le-ltb}
use Rattle.std.proofs.lemmas.Bool.{eqb-false}
use Rattle.topology.specs.Sums.{All, total, path_sum, loop_sum, front_sum, Even}
use Rattle.topology.specs.Links.{off, delta, at, delta_same, delta_other, at_self}
use Rattle.topology.specs.Front.{Loops}
use Rattle.topology.proofs.Front.{source, target, edge_next, edge_once, next_edge}
use Rattle.topology.specs.Walk.{prepend, walk_by, count, least_from, least, before, from_on, turn_to, loop_from, Linked, Cycle, count_append, delta_no, least_in, least_le, least_counts, place_in, walk_off, link_count_lem, from_none}

-- ---- a loop turned

linked_split : (f : ℕ → ℕ) (u : ℕ) (xs : List ℕ) (v : ℕ) (ys : List ℕ) (z : ℕ)
    → Linked f u (xs ++ v ∷ ys) z → Linked f u xs v × Linked f v ys z
linked_split f u [] v ys z h = h
linked_split f u (x ∷ xs) v ys z h = let s = linked_split f x xs v ys z h.1 in ((h.0, s.0), s.1)

linked_join : (f : ℕ → ℕ) (u : ℕ) (xs : List ℕ) (v : ℕ) (ys : List ℕ) (z : ℕ)
    → Linked f u xs v → Linked f v ys z → Linked f u (xs ++ v ∷ ys) z
linked_join f u [] v ys z h k = (h, k)
linked_join f u (x ∷ xs) v ys z h k = (h.0, linked_join f x xs v ys z h.1 k)

cycle_turn : (f : ℕ → ℕ) (u : ℕ) (P Q : List ℕ) → Cycle f (P ++ u ∷ Q) → Linked f u (Q ++ P) u
cycle_turn f u [] Q h = rw append-nil h
cycle_turn f u (x ∷ P) Q h = let s = linked_split f x P u Q x h in linked_join f u Q x P u s.1 s.0

-- ---- one walk

-- the walk from u along vs to z, where z comes only at the end and all nodes are z or above
walk_finds : (f : ℕ → ℕ) (k z u : ℕ) (vs : List ℕ) → Linked f u vs z → count z vs ≡ 0 → z ≤ u → z < off
    → ((v : ℕ) → 0 < count v vs → (z ≤ v) × (v < off)) → length vs < k → walk_by f k z u ≡ u ∷ vs
unfolding walk_by prepend count
walk_finds f zero z u vs l none hu hz all h = absurd (omega arith)
walk_finds f (suc k) z u [] l none hu hz all h = rw (l, le-ltb u z hu, ne_eqb z off (λ q. omega arith), eq-eqb z z refl)
walk_finds f (suc k) z u (v ∷ vs) l none hu hz all h =
    let here = all v (omega (arith, delta_same v v refl)) in
    let later = walk_finds f k z v vs l.1 (omega arith) here.0 hz (λ w q. all w (omega (arith, q))) (omega arith) in
    rw (l.0, le-ltb u z hu, ne_eqb v off (λ q. omega (arith, here.1)), ne_eqb v z (delta_no v z (omega arith)), later)

cond_nil : (b : Bool) → ◌≡◌ {A = List ℕ} (cond b [] []) []
cond_nil true = refl
cond_nil false = refl

-- a walk that comes below its start before it is back
walk_below : (f : ℕ → ℕ) (k z u : ℕ) → u < z → walk_by f k z u ≡ []
unfolding walk_by
walk_below f zero z u h = refl
walk_below f (suc k) z u h = rw (lt-ltb u z h)

walk_fails : (f : ℕ → ℕ) (k z u : ℕ) (vs : List ℕ) (m : ℕ) → Linked f u vs m → count z vs ≡ 0 → m < z → walk_by f k z u ≡ []
unfolding walk_by prepend count
walk_fails f zero z u vs m l none h = refl
walk_fails f (suc k) z u [] m l none h =
    rw (l, ne_eqb m z (λ q. omega arith), walk_below f k z m h) (cond_nil (ltb u z || eqb m off))
walk_fails f (suc k) z u (v ∷ vs) m l none h =
    rw (l.0, ne_eqb v z (delta_no v z (omega arith)), walk_fails f k z v vs m l.1 (omega arith) h)
    (cond_nil (ltb u z || eqb v off))

-- ---- the walk round one loop

split_count : (v u : ℕ) (l P Q : List ℕ) → l ≡ P ++ u ∷ Q → count v l ≡ count v (Q ++ P) + delta u v
unfolding count
split_count v u l P Q e = omega (arith, ap (count v) e, count_append v P (u ∷ Q), count_append v Q P)

-- u stands once in the loop: the walk from u is the loop, where u is its smallest id, and [] where it is not
walk_cycle : (f : ℕ → ℕ) (n : ℕ) → n ≤ off → (u k : ℕ) (l : List ℕ) → Cycle f l → count u l ≡ 1
    → ((v : ℕ) → 0 < count v l → v < n) → length l ≤ k → walk_by f k u u ≡ cond (eqb (least l) u) (turn_to u l) []
unfolding least turn_to count
walk_cycle f n few u k [] r c nodes h = absurd r
walk_cycle f n few u k (x ∷ xs) r c nodes h =
    let s = place_in u (x ∷ xs) (omega arith) in
    let vs = s.Q ++ s.P in
    let whole = ap length s.whole in
    let parts = length-append s.P (u ∷ s.Q) in
    let long : length vs < k = omega (arith, length-append s.Q s.P) in
    let linked = cycle_turn f u s.P s.Q (subst (Cycle f) s.whole r) in
    let once : count u vs ≡ 0 = omega (arith, split_count u u (x ∷ xs) s.P s.Q s.whole, delta_same u u refl) in
    let turned : from_on u (x ∷ xs) ++ before u (x ∷ xs) ≡ u ∷ vs = rw (s.from, s.up) in
    by (eqb (least_from x xs) u) refl vs long (λ v. split_count v u (x ∷ xs) s.P s.Q s.whole) linked once turned
  where
    by : (b : Bool) → eqb (least_from x xs) u ≡ b → (vs : List ℕ) → length vs < k → ((v : ℕ) → count v (x ∷ xs) ≡ count v vs + delta u v)
        → Linked f u vs u → count u vs ≡ 0 → from_on u (x ∷ xs) ++ before u (x ∷ xs) ≡ u ∷ vs
        → walk_by f k u u ≡ cond b (from_on u (x ∷ xs) ++ before u (x ∷ xs)) []
    by true e vs long counts linked once turned =
        let q = eqb-true (least_from x xs) u e in
        let un = nodes u (omega (arith, c)) in
        rw turned
        (walk_finds f k u u vs linked once (omega arith) (omega arith)
        (λ v p. (omega (arith, least_le v x xs (omega (arith, counts v))), omega (arith, nodes v (omega (arith, counts v))))) long)
    by false e vs long counts linked once turned =
        let m = least_from x xs in
        let other = eqb-false m u e in
        let s = place_in m vs (omega (arith, least_in x xs, counts m, delta_other u m (λ q. other (sym q)))) in
        let split = linked_split f u s.P m s.Q u (rw s.whole at linked) in
        walk_fails f k u u s.P m split.0 (omega (arith, once, count_append u s.P (m ∷ s.Q), ap (count u) s.whole))
        (omega (arith, least_le u x xs (omega (arith, c))))

-- ---- the loops of links

linked : (f : ℕ → ℕ) (u : ℕ) (vs : List ℕ) (z : ℕ) → ((x y : ℕ) → 0 < path_sum (at x y) u vs z → f x ≡ y) → Linked f u vs z
unfolding path_sum
linked f u [] z h = h u z (omega (arith, at_self u z))
linked f u (v ∷ vs) z h = (h u v (omega (arith, at_self u v)), linked f v vs z (λ x y q. h x y (omega (arith, q))))

all_cycles : (f : ℕ → ℕ) (ls : List (List ℕ)) → All Even ls → ((x y : ℕ) → 0 < front_sum (at x y) ls → f x ≡ y) → All (Cycle f) ls
unfolding total loop_sum
all_cycles f [] E h = tt
all_cycles f ([] ∷ ls) E h = absurd (omega (arith, E.0.two))
all_cycles f ((x ∷ xs) ∷ ls) E h =
    (linked f x xs x (λ u v q. h u v (omega (arith, q))), all_cycles f ls E.1 (λ u v q. h u v (omega (arith, q))))

module _ (n : ℕ) (f : ℕ → ℕ) (ls : List (List ℕ)) (L : Loops n f ls) where
  -- the links go round each loop
  pub cycles : All (Cycle f) ls
  cycles = all_cycles f ls L.evens (edge_next n f ls L)

  -- no node stands in the loops twice
  pub once : (u : ℕ) → total (count u) ls ≤ 1
  once u = by (front_sum (at u (f u)) ls) refl
    where
      by : (k : ℕ) → front_sum (at u (f u)) ls ≡ k → total (count u) ls ≤ 1
      by zero e = omega (arith, e, link_count_lem f u ls cycles)
      by (suc k) e =
          let v = target n f ls L u (f u) (omega (arith, e)) in
          omega (arith, link_count_lem f u ls cycles, edge_once n f ls L u (f u) (omega (arith, L.few)))

  -- what stands in them is a node
  pub nodes : (u : ℕ) → 0 < total (count u) ls → u < n
  nodes u h = source n f ls L u (f u) (omega (arith, link_count_lem f u ls cycles))

  -- a node that does not has no link
  pub outside : (u : ℕ) → total (count u) ls ≡ 0 → f u ≡ off
  outside u h = by (eqb (f u) off) refl
    where
      by : (b : Bool) → eqb (f u) off ≡ b → f u ≡ off
      by true e = eqb-true (f u) off e
      by false e =
          absurd (omega (arith, link_count_lem f u ls cycles, next_edge n f ls L u (f u) (eqb-false (f u) off e) refl))

-- ---- what the walk finds

walks_in : (f : ℕ → ℕ) (n : ℕ) → n ≤ off → (u k : ℕ) (ls : List (List ℕ)) → All (Cycle f) ls → total (count u) ls ≡ 1
    → ((v : ℕ) → 0 < total (count v) ls → v < n) → total length ls ≤ k → walk_by f k u u ≡ loop_from u ls
unfolding loop_from total
walks_in f n few u k [] r c nodes h = absurd (omega (arith, c))
walks_in f n few u k (l ∷ ls) r c nodes h =
    by (count u l) refl (λ e. walk_cycle f n few u k l r.0 e (λ v q. nodes v (omega (arith, q))) (omega (arith, h)))
    (λ e. walks_in f n few u k ls r.1 e (λ v q. nodes v (omega (arith, q))) (omega (arith, h)))
  where
    by : (j : ℕ) → count u l ≡ j → (count u l ≡ 1 → walk_by f k u u ≡ cond (eqb (least l) u) (turn_to u l) [])
        → (total (count u) ls ≡ 1 → walk_by f k u u ≡ loop_from u ls)
        → walk_by f k u u ≡ cond (eqb (least l) u) (turn_to u l) (loop_from u ls)
    by zero e here later =
        rw (ne_eqb (least l) u (λ q. omega (arith, e, least_counts f u l r.0 q))) (later (omega (arith, c, e)))
    by (suc j) e here later = rw (from_none f u ls r.1 (omega (arith, c, e))) (here (omega (arith, c, e)))

-- where the loops have k edges at most, the walk from u finds the loop whose smallest id is u, from u on, and [] where there is none
pub walk_loop : (n : ℕ) (f : ℕ → ℕ) (ls : List (List ℕ)) → Loops n f ls
    → (k u : ℕ) → total length ls ≤ k → walk_by f k u u ≡ loop_from u ls
walk_loop n f ls L k u h = by (total (count u) ls) refl
  where
    by : (j : ℕ) → total (count u) ls ≡ j → walk_by f k u u ≡ loop_from u ls
    by zero e = walk_off f k u u (outside n f ls L u e) ∙ sym (from_none f u ls (cycles n f ls L) e)
    by (suc j) e = walks_in f n L.few u k ls (cycles n f ls L) (omega (arith, once n f ls L u)) (nodes n f ls L) h

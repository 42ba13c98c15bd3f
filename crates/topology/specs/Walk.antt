-- The walk along links from a node back to it, and what it finds: from the smallest id of a loop the loop, and from any other node
-- nothing. One walk serves the links that are stored and those that a list of edges gives.
use Rattle.std.specs.Prelude.{ℕ, zero, suc, ◌+◌, ◌<◌, ◌≤◌, min, List, [], ◌∷◌, ◌++◌, ◌≡◌, refl, Bool, true, false, cond, ◌||◌, ◌≢◌, length, eqb, ltb}
use Rattle.std.proofs.Common.{sym, ◌∙◌, ap, subst, arith, eqb-true, eq-eqb, ne_eqb, ltb-true, ltb-false}
use Rattle.std.proofs.lemmas.Bool.{eqb-false}
use Rattle.topology.specs.Sums.{All, total, path_sum, loop_sum, front_sum, one, rotate, loop_one}
use Rattle.topology.specs.Links.{off, delta, at, delta_same, delta_other, delta_is}
use Rattle.topology.specs.Front.{head_or}

-- ---- definitions

-- u in front of what is left of a walk, if that came to its end
unfoldable pub prepend : ℕ → List ℕ → List ℕ
prepend u [] = []
prepend u (x ∷ xs) = u ∷ x ∷ xs

-- The walk along f from u until the next node is start: its nodes, k at most. [] where it comes to a node below start or to one
-- without a link, or takes more than k nodes: so from start itself it finds the loop whose smallest id is start, or nothing.
unfoldable pub walk_by : (ℕ → ℕ) → ℕ → ℕ → ℕ → List ℕ
walk_by f zero start u = []
walk_by f (suc k) start u =
    let v = f u in
    let onward = prepend u (walk_by f k start v) in
    let nodes = cond (eqb v start) (u ∷ []) onward in
    cond (ltb u start || eqb v off) [] nodes

-- how often u stands in a list
unfoldable pub count : ℕ → List ℕ → ℕ
count u [] = 0
count u (x ∷ xs) = delta x u + count u xs

-- the smallest of x and xs; the smallest id of a loop
unfoldable pub least_from : ℕ → List ℕ → ℕ
least_from x [] = x
least_from x (y ∷ ys) = min x (least_from y ys)

unfoldable pub least : List ℕ → ℕ
least [] = 0
least (x ∷ xs) = least_from x xs

-- a loop turned to start from u: what stands from u on, and then what stands before u
unfoldable pub before : ℕ → List ℕ → List ℕ
before u [] = []
before u (x ∷ xs) = cond (eqb x u) [] (x ∷ before u xs)

unfoldable pub from_on : ℕ → List ℕ → List ℕ
from_on u [] = []
from_on u (x ∷ xs) = cond (eqb x u) (x ∷ xs) (from_on u xs)

unfoldable pub turn_to : ℕ → List ℕ → List ℕ
turn_to u l = from_on u l ++ before u l

-- the loop of ls whose smallest id is u, from u on; [] where there is none
unfoldable pub loop_from : ℕ → List (List ℕ) → List ℕ
loop_from u [] = []
loop_from u (l ∷ ls) = cond (eqb (least l) u) (turn_to u l) (loop_from u ls)

-- m is the loop l, from its smallest id on
pub record FromSmallest (l m : List ℕ) : Type 0 where
  pub start : List ℕ
  pub rest : List ℕ
  pub loop : l ≡ start ++ rest
  pub turned : m ≡ rest ++ start
  pub smallest : All (λ u. head_or 0 m ≤ u) m

-- f goes from u along vs to z
abbrev pub Linked : (ℕ → ℕ) → ℕ → List ℕ → ℕ → Type 0
Linked f u [] z = f u ≡ z
Linked f u (v ∷ vs) z = (f u ≡ v) × Linked f v vs z

-- the loop is a cycle of f
abbrev pub Cycle : (ℕ → ℕ) → List ℕ → Type 0
Cycle f [] = ⊥
Cycle f (x ∷ xs) = Linked f x xs x

-- ---- counts

pub count_append : (u : ℕ) (xs ys : List ℕ) → count u (xs ++ ys) ≡ count u xs + count u ys
unfolding count
count_append u [] ys = omega arith
count_append u (x ∷ xs) ys = omega (arith, count_append u xs ys)

-- a node that is not counted is not there
pub delta_no : (x u : ℕ) → delta x u ≡ 0 → x ≢ u
delta_no x u h e = omega (arith, delta_same x u e)

-- ---- the smallest id

pub least_in : (x : ℕ) (xs : List ℕ) → 0 < count (least_from x xs) (x ∷ xs)
unfolding count least_from
least_in x [] = omega (arith, delta_same x x refl)
least_in x (y ∷ ys) = by (ltb (least_from y ys) x) refl (least_in y ys)
  where
    by : (b : Bool) → ltb (least_from y ys) x ≡ b → 0 < count (least_from y ys) (y ∷ ys)
        → 0 < delta x (min x (least_from y ys)) + count (min x (least_from y ys)) (y ∷ ys)
    by true e h =
        let lt = ltb-true (least_from y ys) x e in
        let q : min x (least_from y ys) ≡ least_from y ys = omega arith in
        subst (λ (m : ℕ). 0 < delta x m + count m (y ∷ ys)) (sym q) (omega arith)
    by false e h =
        let le = ltb-false (least_from y ys) x e in
        let q : min x (least_from y ys) ≡ x = omega arith in
        subst (λ (m : ℕ). 0 < delta x m + count m (y ∷ ys)) (sym q) (omega (arith, delta_same x x refl))

pub least_le : (v x : ℕ) (xs : List ℕ) → 0 < count v (x ∷ xs) → least_from x xs ≤ v
unfolding count least_from
least_le v x [] h = let e = delta_is x v (omega arith) in omega arith
least_le v x (y ∷ ys) h = by (delta x v) refl (least_le v y ys)
  where
    by : (k : ℕ) → delta x v ≡ k → (0 < count v (y ∷ ys) → least_from y ys ≤ v) → min x (least_from y ys) ≤ v
    by zero e later = omega (arith, later (omega (arith, e)))
    by (suc k) e later = let q = delta_is x v (omega (arith, e)) in omega arith

-- the smallest id of a loop stands in it
pub least_counts : (f : ℕ → ℕ) (u : ℕ) (l : List ℕ) → Cycle f l → least l ≡ u → 0 < count u l
unfolding least
least_counts f u [] r e = absurd r
least_counts f u (x ∷ xs) r e = rw e at (least_in x xs)

-- ---- a loop turned

-- u splits l where it first stands
pub record Place (u : ℕ) (l : List ℕ) : Type 0 where
  pub P : List ℕ
  pub Q : List ℕ
  pub whole : l ≡ P ++ u ∷ Q
  pub up : before u l ≡ P
  pub from : from_on u l ≡ u ∷ Q

pub place_in : (u : ℕ) (l : List ℕ) → 0 < count u l → Place u l
unfolding count before from_on
place_in u [] h = absurd (omega arith)
place_in u (x ∷ xs) h = by (eqb x u) refl (place_in u xs)
  where
    by : (b : Bool) → eqb x u ≡ b → (0 < count u xs → Place u xs) → Place u (x ∷ xs)
    by true e later =
        let q = ap (λ (k : ℕ). k ∷ xs) (eqb-true x u e) in
        record { P = []; Q = xs; whole = q; up = rw e; from = rw e q }
    by false e later =
        let s = later (omega (arith, delta_other x u (eqb-false x u e))) in
        record {
          P = x ∷ s.P;
          Q = s.Q;
          whole = ap (λ (l : List ℕ). x ∷ l) s.whole;
          up = rw e (ap (λ (l : List ℕ). x ∷ l) s.up);
          from = rw e s.from;
        }

-- where u is not there, the loop is as it was
turn_none : (u : ℕ) (l : List ℕ) → count u l ≡ 0 → (from_on u l ≡ []) × (before u l ≡ l)
unfolding count from_on before
turn_none u [] h = (refl, refl)
turn_none u (x ∷ xs) h =
    let s = turn_none u xs (omega arith) in
    let e = ne_eqb x u (delta_no x u (omega arith)) in
    (rw e s.0, rw e (ap (λ (l : List ℕ). x ∷ l) s.1))

-- a loop turned has the same edges
pub turn_sum : (w : ℕ → ℕ → ℕ) (u : ℕ) (l : List ℕ) → loop_sum w (turn_to u l) ≡ loop_sum w l
unfolding turn_to
turn_sum w u l = by (count u l) refl
  where
    by : (k : ℕ) → count u l ≡ k → loop_sum w (from_on u l ++ before u l) ≡ loop_sum w l
    by zero e = let s = turn_none u l e in rw (s.0, s.1)
    by (suc k) e =
        let s = place_in u l (omega (arith, e)) in
        rw (s.from, s.up) (sym (rotate w s.P u s.Q) ∙ ap (loop_sum w) (sym s.whole))

pub turn_to_length : (u : ℕ) (l : List ℕ) → length (turn_to u l) ≡ length l
turn_to_length u l = sym (loop_one (turn_to u l)) ∙ (turn_sum one u l ∙ loop_one l)

-- it begins with u, where u is there
pub turn_head : (u : ℕ) (l : List ℕ) → 0 < count u l → head_or 0 (turn_to u l) ≡ u
unfolding turn_to
turn_head u l h = let s = place_in u l h in rw s.from

all_least : (k : ℕ) (l : List ℕ) → ((v : ℕ) → 0 < count v l → k ≤ v) → All (λ v. k ≤ v) l
unfolding count
all_least k [] h = tt
all_least k (x ∷ xs) h = (h x (omega (arith, delta_same x x refl)), all_least k xs (λ v p. h v (omega (arith, p))))

-- a loop turned to its smallest id
pub turn_smallest : (f : ℕ → ℕ) (u : ℕ) (l : List ℕ) → Cycle f l → least l ≡ u → FromSmallest l (turn_to u l)
unfolding turn_to least count
turn_smallest f u [] r e = absurd r
turn_smallest f u (x ∷ xs) r e =
    let l = x ∷ xs in
    let here = least_counts f u l r e in
    let s = place_in u l here in
    let parts : turn_to u l ≡ (u ∷ s.Q) ++ s.P = rw (s.from, s.up) in
    record {
      start = s.P;
      rest = u ∷ s.Q;
      loop = s.whole;
      turned = parts;
      smallest =
          rw (turn_head u l here)
          (all_least u (turn_to u l) (λ v p.
          omega (
            arith,
            e,
            least_le v x xs
                (omega (arith, p, ap (count v) parts, ap (count v) s.whole, count_append v s.P (u ∷ s.Q), count_append v (u ∷ s.Q) s.P)),
          )));
    }

-- ---- one walk

-- a walk from a node without a link
pub walk_off : (f : ℕ → ℕ) (k z u : ℕ) → f u ≡ off → walk_by f k z u ≡ []
unfolding walk_by
walk_off f zero z u e = refl
walk_off f (suc k) z u e = rw (e, eq-eqb off off refl) (by (ltb u z))
  where
    by : (b : Bool) → cond (b || true) [] (cond (eqb off z) (u ∷ []) (prepend u (walk_by f k z off))) ≡ []
    by true = refl
    by false = refl

-- ---- the loops of links

-- a node stands in the loops as often as its link does
at_link : (f : ℕ → ℕ) (u x y : ℕ) → f x ≡ y → at u (f u) x y ≡ delta x u
unfolding at delta
at_link f u x y e = by (eqb x u) refl
  where
    by : (b : Bool) → eqb x u ≡ b → cond b (cond {A = ℕ} (eqb y (f u)) 1 0) 0 ≡ cond b 1 0
    by true q = rw (eq-eqb y (f u) (sym e ∙ ap f (eqb-true x u q)))
    by false q = refl

path_count : (f : ℕ → ℕ) (w u : ℕ) (vs : List ℕ) (z : ℕ) → Linked f u vs z → path_sum (at w (f w)) u vs z ≡ count w (u ∷ vs)
unfolding path_sum count
path_count f w u [] z l = omega (arith, at_link f w u z l)
path_count f w u (v ∷ vs) z l = omega (arith, at_link f w u v l.0, path_count f w v vs z l.1)

pub link_count_lem : (f : ℕ → ℕ) (w : ℕ) (ls : List (List ℕ)) → All (Cycle f) ls → front_sum (at w (f w)) ls ≡ total (count w) ls
unfolding total loop_sum
link_count_lem f w [] r = refl
link_count_lem f w ([] ∷ ls) r = absurd r.0
link_count_lem f w ((x ∷ xs) ∷ ls) r = omega (arith, path_count f w x xs x r.0, link_count_lem f w ls r.1)

-- ---- what the walk finds

-- a node that is on no loop is the smallest of none
pub from_none : (f : ℕ → ℕ) (u : ℕ) (ls : List (List ℕ)) → All (Cycle f) ls → total (count u) ls ≡ 0 → loop_from u ls ≡ []
unfolding loop_from total
from_none f u [] r c = refl
from_none f u (l ∷ ls) r c =
    rw (ne_eqb (least l) u (λ e. omega (arith, c, least_counts f u l r.0 e))) (from_none f u ls r.1 (omega (arith, c)))

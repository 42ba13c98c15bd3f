-- The front as it is laid, loop by loop: nodes that are off the front are joined into a new loop, edge by edge, as `from_boundary`
-- does with each ring of sampled points.
use Rattle.std.specs.Prelude.{ℕ, ◌<◌, ◌≤◌, List, [], ◌∷◌, ◌≡◌, refl, ◌≢◌, length}
use Rattle.std.proofs.Common.{sym, ◌∙◌, arith}
use Rattle.topology.specs.Sums.{All, total, path_sum, loop_sum, Even}
use Rattle.topology.specs.Links.{off, link_of, update, delta_other, update_other, link_out}
use Rattle.topology.specs.Front.{FrontOf}
use Rattle.topology.proofs.Changes.{Change, add, reversed, removed_sum, added_sum, Valid, AmongNodes, OffFront, Changed, changed}

-- ---- definitions

-- the edges from u along vs to z go on
abbrev pub joins : ℕ → List ℕ → ℕ → List Change
joins u [] z = add u z ∷ []
joins u (v ∷ vs) z = add u v ∷ joins v vs z

-- no entry stands twice
abbrev pub Distinct : List ℕ → Type 0
Distinct [] = Unit {0}
Distinct (v ∷ vs) = All (λ u. u ≢ v) vs × Distinct vs

-- ---- laws

joins_removed : (w : ℕ → ℕ → ℕ) (u : ℕ) (vs : List ℕ) (z : ℕ) → removed_sum w (joins u vs z) ≡ 0
joins_removed w u [] z = refl
joins_removed w u (v ∷ vs) z = joins_removed w v vs z

joins_added : (w : ℕ → ℕ → ℕ) (u : ℕ) (vs : List ℕ) (z : ℕ) → added_sum w (joins u vs z) ≡ path_sum w u vs z
unfolding path_sum
joins_added w u [] z = omega arith
joins_added w u (v ∷ vs) z = omega (arith, joins_added w v vs z)

joins_within : (n u : ℕ) (vs : List ℕ) (z : ℕ) → u < n → All (λ v. v < n) vs → z < n → All (AmongNodes n) (joins u vs z)
joins_within n u [] z hu h hz = ((hu, hz), tt)
joins_within n u (v ∷ vs) z hu h hz = ((hu, h.0), joins_within n v vs z h.0 h.1 hz)

abbrev Offs : (ℕ → ℕ) → List ℕ → Type 0
Offs f vs = All (λ v. f v ≡ off) vs

offs_update : (f : ℕ → ℕ) (u y : ℕ) (vs : List ℕ) → All (λ v. v ≢ u) vs → Offs f vs → Offs (update f u y) vs
offs_update f u y [] n o = tt
offs_update f u y (v ∷ vs) n o = (update_other f u y v (λ e. n.0 (sym e)) ∙ o.0, offs_update f u y vs n.1 o.1)

joins_valid : (f : ℕ → ℕ) (u : ℕ) (vs : List ℕ) (z : ℕ) → Offs f (u ∷ vs) → Distinct (u ∷ vs) → Valid f (joins u vs z)
joins_valid f u [] z o d = (o.0, tt)
joins_valid f u (v ∷ vs) z o d = (o.0, joins_valid (update f u v) v vs z (offs_update f u v (v ∷ vs) d.0 o.1) d.1)

-- the links back that are set are those of vs and z
joins_back : (g : ℕ → ℕ) (u : ℕ) (vs : List ℕ) (z : ℕ) → Offs g (z ∷ vs) → Distinct (z ∷ vs) → Valid g (reversed (joins u vs z))
joins_back g u [] z o d = (o.0, tt)
joins_back g u (v ∷ vs) z o d = (
  o.1.0,
  joins_back (update g v u) v vs z
      (update_other g v u z d.0.0 ∙ o.0, offs_update g v u vs d.1.0 o.1.1) (d.0.1, d.1.1),
)

-- ---- the theorems

-- no node, no loop
pub empty_front : (next prev : List ℕ) → FrontOf 0 next prev []
unfolding total
empty_front next prev =
    record {
      loops = record {
        few = omega arith;
        evens = tt;
        inside = λ u v h. refl;
        nexts = λ u v h. rw (link_out 0 next u (omega arith)) (sym (delta_other off v (λ e. h (sym e))));
      };
      prevs = λ u v h. rw (link_out 0 prev v (omega arith)) (sym (delta_other off u (λ e. h (sym e))));
    }

-- nodes off the front, an even number of them, are joined into one loop
pub joined : (n : ℕ) (next prev : List ℕ) (ls : List (List ℕ)) (x : ℕ) (xs : List ℕ) → FrontOf n next prev ls
    → n ≤ length next → n ≤ length prev → Even (x ∷ xs) → Distinct (x ∷ xs)
    → All (OffFront n (link_of n next) (link_of n prev)) (x ∷ xs) → Changed n next prev ls ((x ∷ xs) ∷ ls) (joins x xs x)
unfolding total loop_sum
joined n next prev ls x xs F hn hp even distinct o =
    changed n next prev ls ((x ∷ xs) ∷ ls) (joins x xs x) F hn hp
    (joins_within n x xs x o.0.node (each (λ v. v < n) (λ v h. h.node) xs o.1) o.0.node)
    (joins_valid (link_of n next) x xs x (each (λ v. link_of n next v ≡ off) (λ v h. h.next) (x ∷ xs) o) distinct)
    (joins_back (link_of n prev) x xs x (each (λ v. link_of n prev v ≡ off) (λ v h. h.prev) (x ∷ xs) o) distinct)
    (even, F.loops.evens) (λ w. omega (arith, joins_removed w x xs x, joins_added w x xs x))
  where
    each : (P : ℕ → Type 0) → ((v : ℕ) → OffFront n (link_of n next) (link_of n prev) v → P v) → (vs : List ℕ)
        → All (OffFront n (link_of n next) (link_of n prev)) vs → All P vs
    each P h [] o = tt
    each P h (v ∷ vs) o = (h v o.0, each P h vs o.1)

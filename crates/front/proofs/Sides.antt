-- The ids and the sides of a quad that was answered for a sound state: which sides are on the front, which are not, and that topology's
-- placing applies.
use Rattle.std.specs.Prelude.{ℕ, zero, suc, ◌+◌, ◌<◌, ◌≤◌, List, ◌≡◌, refl, ◌≢◌}
use Rattle.std.proofs.Common.{sym, ◌∙◌, ap, arith}
use Rattle.topology.specs.Sums.{front_sum}
use Rattle.topology.specs.Links.{off, at, link_of, link_out}
use Rattle.topology.specs.Front.{Loops}
use Rattle.topology.proofs.Front.{source, target, next_edge, next_in, no_self, next_of_prev, prev_in}
use Rattle.topology.proofs.Changes.{OffFront}
use Rattle.topology.proofs.PlacingBase.{ByKind, Placeable, new_nodes}
use Rattle.front.specs.declared.Corner.{Corner}
use Rattle.front.specs.declared.Corner.TheVariants.{Reused, Fresh}
use Rattle.front.specs.State.{State, next_of, prev_of}
use Rattle.front.specs.Place.{added, id_c, id_d}
use Rattle.front.specs.Sound.{Sound}
use Rattle.front.proofs.Moved.{kind_of}
use Rattle.front.specs.Ready.{Chosen, Choice}
use Rattle.front.proofs.Pushed.{Cornered, IsNode}

-- a fresh corner adds a node
pub new_added : (c : Corner) → new_nodes (kind_of c) ≡ added c
new_added (Reused id) = refl
new_added (Fresh x y) = refl

-- The sides of the quad a, b, d, c on the front's loops: a to b is there; c to a and b to d are there where the corner is reused, and
-- not where it is fresh.
pub record Sides (s : State) (ls : List (List ℕ)) (a b : ℕ) (c d : Corner) : Type 0 where
  pub node_a : a < s.counts.nodes
  pub node_b : b < s.counts.nodes
  pub node_c : IsNode s.counts.nodes c
  pub node_d : IsNode s.counts.nodes d
  pub ab : a ≢ b
  pub ac : a ≢ id_c s c
  pub bc : b ≢ id_c s c
  pub ad : a ≢ id_d s c d
  pub bd : b ≢ id_d s c d
  pub cd : id_c s c ≢ id_d s c d
  pub side_ab : 0 < front_sum (at a b) ls
  pub side_ca : ByKind (kind_of c) (0 < front_sum (at (id_c s c) a) ls) (front_sum (at (id_c s c) a) ls ≡ 0)
  pub side_bd : ByKind (kind_of d) (0 < front_sum (at b (id_d s c d)) ls) (front_sum (at b (id_d s c d)) ls ≡ 0)

-- an edge to no node is none
no_target : (n : ℕ) (f : ℕ → ℕ) (ls : List (List ℕ)) → Loops n f ls → (u v : ℕ) → n ≤ v → front_sum (at u v) ls ≡ 0
no_target n f ls L u v h = by (front_sum (at u v) ls) refl
  where
    by : (k : ℕ) → front_sum (at u v) ls ≡ k → k ≡ 0
    by zero e = refl
    by (suc k) e = absurd (omega (arith, target n f ls L u v (omega (arith, e))))

-- what is said of c
record SideC (s : State) (ls : List (List ℕ)) (a b : ℕ) (c : Corner) : Type 0 where
  node : IsNode s.counts.nodes c
  ac : a ≢ id_c s c
  bc : b ≢ id_c s c
  side : ByKind (kind_of c) (0 < front_sum (at (id_c s c) a) ls) (front_sum (at (id_c s c) a) ls ≡ 0)

side_c : (n : ℕ) (s : State) (ls : List (List ℕ)) → Sound n s ls → (a b : ℕ) → a < s.counts.nodes → b < s.counts.nodes
    → (c : Corner) → Chosen c b (prev_of s a) → SideC s ls a b c
side_c n s ls S a b an bn (Reused id) h =
    let F = S.front in
    let L = F.loops in
    let few = L.few in
    let m = s.counts.nodes in
    let on : prev_of s a ≢ off = λ e. h.1 (sym h.0 ∙ e) in
    let node = (prev_in m (next_of s) (prev_of s) ls F a on).0 in
    let next = next_of_prev m (next_of s) (prev_of s) ls F id a h.1 h.0 in
    record {
      node = omega (arith, h.0);
      ac = λ e. no_self m (next_of s) ls L a an (ap (next_of s) e ∙ next);
      bc = λ e. h.2 (sym e);
      side = omega (arith, next_edge m (next_of s) ls L id a (omega arith) next);
    }
side_c n s ls S a b an bn (Fresh x y) h =
    record { node = tt; ac = omega arith; bc = omega arith; side = S.front.loops.inside s.counts.nodes a (omega arith) }

-- and of d
record SideD (s : State) (ls : List (List ℕ)) (a b : ℕ) (c d : Corner) : Type 0 where
  node : IsNode s.counts.nodes d
  ad : a ≢ id_d s c d
  bd : b ≢ id_d s c d
  side : ByKind (kind_of d) (0 < front_sum (at b (id_d s c d)) ls) (front_sum (at b (id_d s c d)) ls ≡ 0)

side_d : (n : ℕ) (s : State) (ls : List (List ℕ)) → Sound n s ls → (a b : ℕ) → a < s.counts.nodes → b < s.counts.nodes
    → (c d : Corner) → Chosen d a (next_of s b) → SideD s ls a b c d
side_d n s ls S a b an bn c (Reused id) h =
    let L = S.front.loops in
    let m = s.counts.nodes in
    let on : next_of s b ≢ off = λ e. h.1 (sym h.0 ∙ e) in
    record {
      node = omega (arith, h.0, next_in m (next_of s) ls L b on);
      ad = λ e. h.2 (sym e);
      bd = λ e. no_self m (next_of s) ls L b bn (h.0 ∙ sym e);
      side = omega (arith, next_edge m (next_of s) ls L b id h.1 h.0);
    }
side_d n s ls S a b an bn c (Fresh x y) h =
    record {
      node = tt;
      ad = omega arith;
      bd = omega arith;
      side = no_target s.counts.nodes (next_of s) ls S.front.loops b (s.counts.nodes + added c) (omega arith);
    }

pub sides : (n : ℕ) (s : State) (ls : List (List ℕ)) → Sound n s ls → (a b : ℕ) (c d : Corner)
    → Choice s a b c d → Sides s ls a b c d
sides n s ls S a b c d A =
    let L = S.front.loops in
    let m = s.counts.nodes in
    let there : 0 < front_sum (at a b) ls = omega (arith, next_edge m (next_of s) ls L a b A.node A.edge) in
    let an = source m (next_of s) ls L a b there in
    let bn = target m (next_of s) ls L a b there in
    let C = side_c n s ls S a b an bn c A.chosen_c in
    let D = side_d n s ls S a b an bn c d A.chosen_d in
    record {
      node_a = an;
      node_b = bn;
      node_c = C.node;
      node_d = D.node;
      ab = λ e. no_self m (next_of s) ls L a an (A.edge ∙ sym e);
      ac = C.ac;
      bc = C.bc;
      ad = D.ad;
      bd = D.bd;
      cd = A.apart;
      side_ab = there;
      side_ca = C.side;
      side_bd = D.side;
    }

-- ---- topology's placing, in the state with the new nodes

module _ (s t : State) where
  -- a node that s does not have is off the front
  off_front : (x : ℕ) → s.counts.nodes ≤ x → x < t.counts.nodes
      → OffFront t.counts.nodes (link_of s.counts.nodes s.next) (link_of s.counts.nodes s.prev) x
  off_front x h k = record { node = k; next = link_out _ s.next x h; prev = link_out _ s.prev x h }

  corner_c_lem : (a b : ℕ) (c : Corner) → id_c s c < t.counts.nodes → Chosen c b (prev_of s a)
      → ByKind (kind_of c) ((prev_of s a ≡ id_c s c) × (id_c s c ≢ b))
      (OffFront t.counts.nodes (link_of s.counts.nodes s.next) (link_of s.counts.nodes s.prev) (id_c s c))
  corner_c_lem a b (Reused id) k h = (h.0, h.2)
  corner_c_lem a b (Fresh x y) k h = off_front s.counts.nodes (omega arith) k

  corner_d_lem : (a b : ℕ) (c d : Corner) → id_d s c d < t.counts.nodes → Chosen d a (next_of s b)
      → ByKind (kind_of d) ((next_of s b ≡ id_d s c d) × (id_d s c d ≢ a))
      (OffFront t.counts.nodes (link_of s.counts.nodes s.next) (link_of s.counts.nodes s.prev) (id_d s c d))
  corner_d_lem a b c (Reused id) k h = (h.0, h.2)
  corner_d_lem a b c (Fresh x y) k h = off_front (s.counts.nodes + added c) (omega arith) k

pub placeable : (ls : List (List ℕ)) (a b : ℕ) (c d : Corner) (s t : State) → Choice s a b c d
    → Cornered ls c d s t
    → Placeable (kind_of c) (kind_of d) t.counts.nodes (link_of t.counts.nodes t.next) (link_of t.counts.nodes t.prev)
    a b (id_c s c) (id_d s c d)
placeable ls a b c d s t A G =
    let P = G.pushed in
    rw (P.next, P.prev)
    (record {
      edge = A.edge;
      node = A.node;
      corner_c_lem = corner_c_lem s t a b c G.id_c_lem A.chosen_c;
      corner_d_lem = corner_d_lem s t a b c d G.id_d_lem A.chosen_d;
      apart = A.apart;
    })

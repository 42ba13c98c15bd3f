-- What holds of the definitions of specs/Alike.antt.
use Rattle.std.specs.Prelude.{ℕ, ◌+◌, ◌*◌, ◌<◌, ◌≤◌, min, max, List, ◌≡◌, Bool, true, false, cond, ◌≢◌, eqb, length, get_or, set}
use Rattle.std.proofs.Math.Path.{refl, ap}
use Rattle.std.proofs.Common.{sym, ◌∙◌, arith, length-set, get_or-set_same, get_or-set_other, eqb-true}
use Rattle.std.proofs.lemmas.Bool.{eqb-false}
use Rattle.laws.specs.Loop.{any_up}
use Rattle.laws.proofs.Sums.{any_same}
use Rattle.topology.specs.Sums.{front_sum}
use Rattle.topology.specs.Links.{off, at, delta_same}
use Rattle.topology.specs.Front.{Front}
use Rattle.topology.proofs.Front.{edge_next, next_edge, edge_prev}
use Rattle.front.specs.State.{State, node, next_of, prev_of, edge_is, has_edge, push_edge, add_edge}
use Rattle.front.specs.Sound.{Sound}
use Rattle.books.specs.Book.{quad_at}

-- ---- definitions

-- the mesh edges of s and t are the same, between ids below n
pub record EdgesAlike (n : ℕ) (s t : State) : Type 0 where
  pub number : t.counts.edges ≡ s.counts.edges
  pub ends : (i : ℕ) → i < 2 * s.counts.edges → get_or t.edges i 0 ≡ get_or s.edges i 0
  pub below : (i : ℕ) → i < 2 * s.counts.edges → get_or s.edges i 0 < n

-- s, whose front has the loops ls, and t, whose front has the loops ms, are alike
pub record Alike (s t : State) (ls ms : List (List ℕ)) : Type 0 where
  pub nodes : t.counts.nodes ≡ s.counts.nodes
  pub quads : t.counts.quads ≡ s.counts.quads
  pub points : (id : ℕ) → id < s.counts.nodes → node t id ≡ node s id
  pub answered : (k : ℕ) → k < s.counts.quads → quad_at t k ≡ quad_at s k
  pub sums : (w : ℕ → ℕ → ℕ) → front_sum w ms ≡ front_sum w ls
  pub edges : EdgesAlike s.counts.nodes s t

-- ---- links

-- loops of the same edges have the same links
module _ (n m : ℕ) (f g h k : ℕ → ℕ) (ls ms : List (List ℕ)) (F : Front n f g ls) (H : Front m h k ms)
    (same : (w : ℕ → ℕ → ℕ) → front_sum w ms ≡ front_sum w ls) where
  next_where : (u : ℕ) → f u ≢ off → h u ≡ f u
  next_where u on = edge_next m h ms H.loops u (f u) (omega (arith, same (at u (f u)), next_edge n f ls F.loops u (f u) on refl))

  prev_where : (v : ℕ) → g v ≢ off → k v ≡ g v
  prev_where v on =
      edge_prev m h k ms H (g v) v (omega (arith, same (at (g v) v), F.prevs (g v) v on, delta_same (g v) (g v) refl))

-- two links that agree wherever one of them is one
either_off : (x y : ℕ) → (x ≢ off → y ≡ x) → (y ≢ off → x ≡ y) → y ≡ x
either_off x y to back = by (eqb x off) refl (eqb y off) refl
  where
    by : (s : Bool) → eqb x off ≡ s → (t : Bool) → eqb y off ≡ t → y ≡ x
    by false p t q = to (eqb-false x off p)
    by true p false q = sym (back (eqb-false y off q))
    by true p true q = eqb-true y off q ∙ sym (eqb-true x off p)

module _ (n : ℕ) (s t : State) (ls ms : List (List ℕ)) (S : Sound n s ls) (T : Sound n t ms) (A : Alike s t ls ms) where
  pub next_alike : (u : ℕ) → next_of t u ≡ next_of s u
  next_alike u =
      either_off (next_of s u) (next_of t u) (next_where _ _ _ _ _ _ ls ms S.front T.front A.sums u)
      (next_where _ _ _ _ _ _ ms ls T.front S.front (λ w. sym (A.sums w)) u)

  pub prev_alike : (u : ℕ) → prev_of t u ≡ prev_of s u
  prev_alike u =
      either_off (prev_of s u) (prev_of t u) (prev_where _ _ _ _ _ _ ls ms S.front T.front A.sums u)
      (prev_where _ _ _ _ _ _ ms ls T.front S.front (λ w. sym (A.sums w)) u)

-- ---- mesh edges

pub edges_has : (n : ℕ) (s t : State) → EdgesAlike n s t → (u v : ℕ) → has_edge t u v ≡ has_edge s u v
unfolding has_edge
edges_has n s t E u v =
    ap (λ (k : ℕ). any_up k (edge_is t.edges (min u v) (max u v))) E.number
    ∙ any_same (edge_is t.edges (min u v) (max u v)) (edge_is s.edges (min u v) (max u v)) s.counts.edges
    (λ k h. rw (E.ends (2 * k) (omega arith), E.ends (2 * k + 1) (omega arith)))

-- a list with two entries more, from place 2k on
abbrev two : List ℕ → ℕ → ℕ → ℕ → List ℕ
two l k x y = set (set l (2 * k) x) (2 * k + 1) y

-- what holds of x, of y and of every entry before holds of the first 2k + 2
two_at : (P : ℕ → ℕ → Type 0) (l m : List ℕ) (k x y : ℕ) → 2 * k + 1 < length l → 2 * k + 1 < length m → P x x → P y y
    → ((i : ℕ) → i < 2 * k → P (get_or m i 0) (get_or l i 0)) → (i : ℕ) → i < 2 * (k + 1) → P (get_or (two m k x y) i 0) (get_or (two l k x y) i 0)
two_at P l m k x y long wide px py old i h = by (eqb i (2 * k)) refl (eqb i (2 * k + 1)) refl
  where
    at_x : (z : List ℕ) → 2 * k + 1 < length z → get_or (two z k x y) (2 * k) 0 ≡ x
    at_x z g = get_or-set_other (set z (2 * k) x) (2 * k + 1) (2 * k) y 0 (λ e. omega arith) ∙ get_or-set_same z (2 * k) x 0 (omega arith)

    at_y : (z : List ℕ) → 2 * k + 1 < length z → get_or (two z k x y) (2 * k + 1) 0 ≡ y
    at_y z g = get_or-set_same (set z (2 * k) x) (2 * k + 1) y 0 (rw length-set g)

    at_old : (z : List ℕ) → i ≢ 2 * k → i ≢ 2 * k + 1 → get_or (two z k x y) i 0 ≡ get_or z i 0
    at_old z p q = get_or-set_other (set z (2 * k) x) (2 * k + 1) i y 0 q ∙ get_or-set_other z (2 * k) i x 0 p

    by : (p : Bool) → eqb i (2 * k) ≡ p → (q : Bool) → eqb i (2 * k + 1) ≡ q → P (get_or (two m k x y) i 0) (get_or (two l k x y) i 0)
    by true p q e = rw (eqb-true i (2 * k) p, at_x m wide, at_x l long) px
    by false p true e = rw (eqb-true i (2 * k + 1) e, at_y m wide, at_y l long) py
    by false p false e =
        let a = eqb-false i (2 * k) p in
        let b = eqb-false i (2 * k + 1) e in
        rw (at_old m a b, at_old l a b) (old i (omega arith))

module _ (n : ℕ) (s t : State) (x y : ℕ) (hx : x < n) (hy : y < n) where
  push_alike : 2 * s.counts.edges + 1 < length s.edges → 2 * s.counts.edges + 1 < length t.edges → EdgesAlike n s t
      → EdgesAlike n (push_edge x y s) (push_edge x y t)
  unfolding push_edge
  push_alike long wide E =
      record {
        number = ap (λ (k : ℕ). k + 1) E.number;
        ends = rw E.number
            (two_at (λ p q. p ≡ q) s.edges t.edges s.counts.edges x y long wide refl refl E.ends);
        below = two_at (λ p q. q < n) s.edges t.edges s.counts.edges x y long wide hx hy E.below;
      }

-- an edge is added to both, or to neither
pub add_alike : (n : ℕ) (s t : State) (u v : ℕ) → u < n → v < n → 2 * (add_edge u v s).counts.edges ≤ length s.edges
    → 2 * (add_edge u v t).counts.edges ≤ length t.edges → EdgesAlike n s t → EdgesAlike n (add_edge u v s) (add_edge u v t)
unfolding add_edge push_edge
add_alike n s t u v hu hv long wide E = by (has_edge s u v) (has_edge t u v) (edges_has n s t E u v) long wide
  where
    by : (p q : Bool) → q ≡ p → 2 * (cond p s (push_edge (min u v) (max u v) s)).counts.edges ≤ length s.edges
        → 2 * (cond q t (push_edge (min u v) (max u v) t)).counts.edges ≤ length t.edges
        → EdgesAlike n (cond p s (push_edge (min u v) (max u v) s)) (cond q t (push_edge (min u v) (max u v) t))
    by true true e long wide = E
    by false false e long wide =
        push_alike n s t (min u v) (max u v) (omega arith) (omega arith) (omega arith) (omega (arith, E.number)) E
    by true false e long wide = absurd (let z : ◌≡◌ {A = ℕ} 0 1 = cc in omega arith)
    by false true e long wide = absurd (let z : ◌≡◌ {A = ℕ} 0 1 = cc in omega arith)

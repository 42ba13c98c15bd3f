-- The mesh edges of a quad: adding them changes nothing but their list and its count, which grows by the edges that were missing at most.
use Rattle.std.specs.Prelude.{ℕ, ◌+◌, ◌*◌, ◌<◌, ◌≤◌, min, max, List, ◌≡◌, refl, Bool, true, false, ◌&&◌, ◌||◌, cond, ◌≢◌, eqb, length, set}
use Rattle.std.proofs.Common.{sym, ◌∙◌, ap, ap₂, add-one, arith, eqb-true, eq-eqb}
use Rattle.std.proofs.Math.ListN.{length-set}
use Rattle.std.proofs.Math.Seq.{get_or-set_same, get_or-set_other}
use Rattle.std.proofs.lemmas.Bool.{eqb-false}
use Rattle.laws.specs.Loop.{for_up, any_turn, any_up, for_up_same}
use Rattle.front.specs.State.{State, counted, edge_from, edge_to, edge_is, has_edge, push_edge, add_edge}
use Rattle.front.specs.Place.{add_edges, missing, edges_added}
use Rattle.front.specs.Sound.{Extends}
use Rattle.front.proofs.FrameLaws.{extends_same, extends_trans, extends_at, frame_edge}

-- the same state with other mesh edges
abbrev pub with_edges : State → List ℕ → ℕ → State
with_edges s edges n =
    record {
      xs = s.xs;
      ys = s.ys;
      next = s.next;
      prev = s.prev;
      snapshot = s.snapshot;
      quads = s.quads;
      edges = edges;
      counts = counted s.counts.nodes s.counts.quads n s.counts.front;
    }

-- t is s with mesh edges added
pub record Edged (s t : State) : Type 0 where
  pub rest : t ≡ with_edges s t.edges t.counts.edges
  pub more : s.counts.edges ≤ t.counts.edges
  pub list : Extends (2 * s.counts.edges) (2 * t.counts.edges) s.edges t.edges

-- ---- one edge

pub pushed : (u v : ℕ) (s : State) → Edged s (push_edge u v s)
unfolding push_edge
pushed u v s = record { rest = refl; more = omega arith; list = (frame_edge u v s).edge_list }

pub edged : (u v : ℕ) (s : State) → Edged s (add_edge u v s)
unfolding add_edge
edged u v s = by (has_edge s u v)
  where
    by : (t : Bool) → Edged s (cond t s (push_edge (min u v) (max u v) s))
    by true = record { rest = refl; more = omega arith; list = extends_same _ _ _ }
    by false = pushed (min u v) (max u v) s

edged_trans : (s t r : State) → Edged s t → Edged t r → Edged s r
edged_trans s t r P Q =
    record {
      rest = Q.rest ∙ ap (λ (x : State). with_edges x r.edges r.counts.edges) P.rest;
      more = omega (arith, P.more, Q.more);
      list = extends_trans _ _ _ _ _ _ _ (omega (arith, P.more)) (omega (arith, Q.more)) P.list Q.list;
    }

pub quad_edged : (a b d c : ℕ) (s : State) → Edged s (add_edges a b d c s)
unfolding add_edges
quad_edged a b d c s =
    let s1 = add_edge a b s in
    let s2 = add_edge b d s1 in
    let s3 = add_edge d c s2 in
    edged_trans s s1 _ (edged a b s) (edged_trans s1 s2 _ (edged b d s1) (edged_trans s2 s3 _ (edged d c s2) (edged c a s3)))

-- ---- how many

-- an edge is there after another is stored, if it was there before or is the one stored
push_has : (x y u v : ℕ) (s : State)
    → has_edge (push_edge x y s) u v ≡ (has_edge s u v || edge_is (push_edge x y s).edges (min u v) (max u v) s.counts.edges)
unfolding has_edge any_up for_up push_edge
push_has x y u v s =
    let n = s.counts.edges in
    let E = (pushed x y s).list in
    let same : (i : ℕ) → i < n → edge_is s.edges (min u v) (max u v) i ≡ edge_is (push_edge x y s).edges (min u v) (max u v) i =
    λ i l. rw (extends_at _ _ _ _ E (2 * i) 0 (omega arith), extends_at _ _ _ _ E (2 * i + 1) 0 (omega arith)) in
    let e = for_up_same n (any_turn (edge_is s.edges (min u v) (max u v))) (any_turn (edge_is (push_edge x y s).edges (min u v) (max u v))) false
    (λ i f l. rw (same i l)) in
    rw (add-one n, ← e)

-- an edge that is there stays there
has_pushed : (x y u v : ℕ) (s : State) → has_edge s u v ≡ true → has_edge (push_edge x y s) u v ≡ true
has_pushed x y u v s h = rw (push_has x y u v s, h)

pub has_added : (x y u v : ℕ) (s : State) → has_edge s u v ≡ true → has_edge (add_edge x y s) u v ≡ true
unfolding add_edge
has_added x y u v s h = by (has_edge s x y)
  where
    by : (t : Bool) → has_edge (cond t s (push_edge (min x y) (max x y) s)) u v ≡ true
    by true = h
    by false = has_pushed (min x y) (max x y) u v s h

missing_added : (x y u v : ℕ) (s : State) → missing (add_edge x y s) u v ≤ missing s u v
missing_added x y u v s = by (has_edge s u v) refl (has_edge (add_edge x y s) u v) refl
  where
    by : (t : Bool) → has_edge s u v ≡ t → (r : Bool) → has_edge (add_edge x y s) u v ≡ r → cond {A = ℕ} r 0 1 ≤ cond t 0 1
    by true e r f = rw (sym f ∙ has_added x y u v s e) (omega arith)
    by false e true f = omega arith
    by false e false f = omega arith

pub added_count : (u v : ℕ) (s : State) → (add_edge u v s).counts.edges ≡ s.counts.edges + missing s u v
unfolding add_edge push_edge
added_count u v s = by (has_edge s u v)
  where
    by : (t : Bool) → (cond t s (push_edge (min u v) (max u v) s)).counts.edges ≡ s.counts.edges + cond t 0 1
    by true = omega arith
    by false = omega arith

pub edges_few : (a b d c : ℕ) (s : State) → (add_edges a b d c s).counts.edges ≤ s.counts.edges + edges_added s a b d c
unfolding add_edges edges_added
edges_few a b d c s =
    let s1 = add_edge a b s in
    let s2 = add_edge b d s1 in
    let s3 = add_edge d c s2 in
    omega (
      arith,
      added_count a b s,
      added_count b d s1,
      added_count d c s2,
      added_count c a s3,
      missing_added a b b d s,
      missing_added a b d c s,
      missing_added a b c a s,
      missing_added b d d c s1,
      missing_added b d c a s1,
      missing_added d c c a s2,
    )

-- ---- which, where there is room for them

-- in which order an edge's ends are named
pub has_flip : (s : State) (u v : ℕ) → has_edge s u v ≡ has_edge s v u
unfolding has_edge
has_flip s u v =
    let lo : min u v ≡ min v u = omega arith in
    let hi : max u v ≡ max v u = omega arith in
    rw (lo, hi)

-- what is read where an edge is stored
module _ (x y : ℕ) (s : State) (room : 2 * (s.counts.edges + 1) ≤ length s.edges) where
  pub from_pushed : edge_from (push_edge x y s) s.counts.edges ≡ x
  unfolding push_edge
  from_pushed =
      let n = s.counts.edges in
      get_or-set_other (set s.edges (2 * n) x) (2 * n + 1) (2 * n) y 0 (omega arith) ∙ get_or-set_same s.edges (2 * n) x 0 (omega arith)

  pub to_pushed : edge_to (push_edge x y s) s.counts.edges ≡ y
  unfolding push_edge
  to_pushed =
      let n = s.counts.edges in
      get_or-set_same (set s.edges (2 * n) x) (2 * n + 1) y 0 (rw length-set (omega arith))

-- the edges after one is pushed are those before and that one
pub edge_pushed : (s : State) (u v a b : ℕ) → 2 * (s.counts.edges + 1) ≤ length s.edges
    → has_edge (push_edge u v s) a b ≡ (has_edge s a b || (eqb u (min a b) && eqb v (max a b)))
edge_pushed s u v a b room =
    push_has u v a b s
    ∙ ap₂ (λ (x y : ℕ). has_edge s a b || (eqb x (min a b) && eqb y (max a b))) (from_pushed u v s room) (to_pushed u v s room)

-- an edge is no other's
pub edge_other : (a b u v : ℕ) → (a ≡ u → b ≢ v) → (b ≡ u → a ≢ v) → (eqb (min u v) (min a b) && eqb (max u v) (max a b)) ≡ false
edge_other a b u v ne en = by (eqb (min u v) (min a b)) refl (eqb (max u v) (max a b)) refl
  where
    same : min u v ≡ min a b → max u v ≡ max a b → ⊥
    same p q = which (eqb a u) refl
      where
        which : (t : Bool) → eqb a u ≡ t → ⊥
        which true e = let d = eqb-true a u e in ne d (omega arith)
        which false e = let d = eqb-false a u e in en (omega arith) (omega arith)

    by : (s : Bool) → eqb (min u v) (min a b) ≡ s → (t : Bool) → eqb (max u v) (max a b) ≡ t → (s && t) ≡ false
    by false p t q = refl
    by true p false q = refl
    by true p true q = absurd (same (eqb-true (min u v) (min a b) p) (eqb-true (max u v) (max a b) q))

-- the edge that is added is there
pub has_self : (x y : ℕ) (s : State) → 2 * (add_edge x y s).counts.edges ≤ length s.edges → has_edge (add_edge x y s) x y ≡ true
unfolding add_edge push_edge
has_self x y s = by (has_edge s x y) refl
  where
    by : (t : Bool) → has_edge s x y ≡ t → 2 * (cond t s (push_edge (min x y) (max x y) s)).counts.edges ≤ length s.edges
        → has_edge (cond t s (push_edge (min x y) (max x y) s)) x y ≡ true
    by true e room = e
    by false e room =
        edge_pushed s (min x y) (max x y) x y room ∙ rw (e, eq-eqb (min x y) (min x y) refl, eq-eqb (max x y) (max x y) refl)

-- an edge that ends elsewhere is there as before
pub has_other : (x y u v : ℕ) (s : State) → 2 * (add_edge x y s).counts.edges ≤ length s.edges → v ≢ x → v ≢ y
    → has_edge (add_edge x y s) u v ≡ has_edge s u v
unfolding add_edge push_edge
has_other x y u v s = by (has_edge s x y)
  where
    or_false : (t : Bool) → t || false ≡ t
    or_false true = refl
    or_false false = refl

    by : (t : Bool) → 2 * (cond t s (push_edge (min x y) (max x y) s)).counts.edges ≤ length s.edges → v ≢ x → v ≢ y
        → has_edge (cond t s (push_edge (min x y) (max x y) s)) u v ≡ has_edge s u v
    by true room vx vy = refl
    by false room vx vy =
        edge_pushed s (min x y) (max x y) u v room ∙ rw (edge_other u v x y (λ p q. vy q) (λ p q. vx p), or_false)

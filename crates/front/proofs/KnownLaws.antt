-- The mesh edges stay known: where nodes are pushed, where two are joined, and where a quad is placed, every front edge is still a mesh edge, and
-- every mesh edge joins nodes, the smaller stored first. The theorem, `known_placed`, and what the answer of `place` says to its caller.
use Rattle.std.specs.Prelude.{ℕ, zero, suc, ◌+◌, ◌*◌, ◌<◌, ◌≤◌, min, max, List, [], ◌∷◌, Bool, ◌≢◌, length, Result, Ok, Err}
use Rattle.std.proofs.Math.Path.{◌≡◌, refl, ap}
use Rattle.std.proofs.Common.{sym, ◌∙◌, subst, ⊎_elim, eq-or-lt_of_le, arith}
use Rattle.std.proofs.Math.Bool.{true, false, cond}
use Rattle.std.proofs.Math.Dec.{eqb}
use borrow.Author.Tests.{eqb-true}
use Rattle.topology.specs.Sums.{front_sum}
use Rattle.topology.specs.Links.{off, update, at, at_is, link_set}
use Rattle.topology.proofs.Front.{edge_next, next_edge}
use Rattle.topology.proofs.Changes.{Change, remove, add, added_sum}
use Rattle.topology.proofs.PlacingBase.{placing}
use Rattle.front.specs.declared.Counts.{Counts}
use Rattle.front.specs.declared.Corner.{Corner}
use Rattle.front.specs.declared.Corner.TheVariants.{Reused, Fresh}
use Rattle.front.specs.declared.Full.{Full}
use Rattle.front.specs.State.{State, next_of, edge_from, edge_to, has_edge, add_front, push_edge, push_quad, add_edge, edge_places}
use Rattle.front.specs.Place.{id_c, id_d, add_edges, is_full, place}
use Rattle.front.specs.Sound.{Sound}
use Rattle.front.proofs.FrameLaws.{extends_at}
use Rattle.front.specs.Ready.{Joined, Known, Choice}
use Rattle.front.proofs.Pushed.{with_corners}
use Rattle.front.proofs.MeshEdges.{pushed, edged, has_flip, has_added, has_self, from_pushed, to_pushed}
use Rattle.front.proofs.Moved.{kind_of, changes_of}
use Rattle.front.proofs.StateAfter.{state_after}
use Rattle.front.proofs.Step.{Grounds, grounds}
use Rattle.front.specs.Stores.{place_answer, place_if_room, PlacesQuad}

-- ---- the ends of mesh edges

-- one edge more
joined_added : (n x y : ℕ) (s : State) → x < n → y < n → x ≢ y → 2 * (add_edge x y s).counts.edges ≤ length s.edges → Joined n s
    → Joined n (add_edge x y s)
unfolding add_edge push_edge
joined_added n x y s hx hy xy = by (has_edge s x y)
  where
    by : (t : Bool) → 2 * (cond t s (push_edge (min x y) (max x y) s)).counts.edges ≤ length s.edges → Joined n s
        → Joined n (cond t s (push_edge (min x y) (max x y) s))
    by true room old = old
    by false room old =
        let p = push_edge (min x y) (max x y) s in
        let E = (pushed (min x y) (max x y) s).list in
        λ k h.
        let below : k ≤ s.counts.edges = omega arith in
        ⊎_elim
        (λ e.
        let from = ap (λ (i : ℕ). edge_from p i) e ∙ from_pushed (min x y) (max x y) s room in
        let to = ap (λ (i : ℕ). edge_to p i) e ∙ to_pushed (min x y) (max x y) s room in
        (omega (arith, from, to, xy), omega (arith, to)))
        (λ l.
        let from = extends_at _ _ _ _ E (2 * k) 0 (omega arith) in
        let to = extends_at _ _ _ _ E (2 * k + 1) 0 (omega arith) in
        let here = old k l in
        (omega (arith, from, to, here.0), omega (arith, to, here.1)))
        (eq-or-lt_of_le below)

-- ---- sampling

-- the same edges and links, and no fewer nodes
pub known_same : (s t : State) → t.edges ≡ s.edges → t.counts.edges ≡ s.counts.edges → s.counts.nodes ≤ t.counts.nodes
    → next_of t ≡ next_of s → Known s → Known t
unfolding has_edge
known_same s t e n more next K =
    record {
      fronts = λ u v h q. rw (e, n) (K.fronts u v h (rw next at q));
      joined = λ k h. let j = K.joined k (rw n at h) in rw e (j.0, omega (arith, j.1));
    }

-- two nodes are joined
module _ (u v : ℕ) (s : State) (hu : u < s.counts.nodes) (hv : v < s.counts.nodes) (uv : u ≢ v) (long : s.counts.nodes ≤ length s.next)
    (room : 2 * (add_edge u v (add_front u v s)).counts.edges ≤ length s.edges) (K : Known s) where
  abbrev linked : State
  linked = add_front u v s

  next_joined : next_of (add_edge u v linked) ≡ update (next_of s) u v
  unfolding add_front
  next_joined = ap (λ (x : State). next_of x) (edged u v linked).rest ∙ link_set s.counts.nodes s.next u v hu long

  has_joined : (x y : ℕ) → y ≢ off → update (next_of s) u v x ≡ y → has_edge (add_edge u v linked) x y ≡ true
  unfolding add_front has_edge
  has_joined x y h = by (eqb u x) refl
    where
      by : (t : Bool) → eqb u x ≡ t → cond t v (next_of s x) ≡ y → has_edge (add_edge u v linked) x y ≡ true
      by true p q = rw (← eqb-true u x p, ← q) (has_self u v linked room)
      by false p q = has_added u v x y linked (K.fronts x y h q)

  pub known_joined : Known (add_edge u v linked)
  unfolding add_front
  known_joined =
      let nodes = ap (λ (x : State). x.counts.nodes) (edged u v linked).rest in
      record {
        fronts = λ x y h q. has_joined x y h (rw next_joined at q);
        joined = rw nodes (joined_added s.counts.nodes u v linked hu hv uv room K.joined);
      }

-- ---- the edges of the front

-- e has the edges that the changes add
abbrev Has : State → List Change → Type 0
Has e [] = Unit {0}
Has e (remove x y ∷ cs) = Has e cs
Has e (add x y ∷ cs) = (has_edge e x y ≡ true) × Has e cs

has_some : (e : State) (cs : List Change) → Has e cs → (u v : ℕ) → 0 < added_sum (at u v) cs → has_edge e u v ≡ true
has_some e [] H u v h = absurd (omega arith)
has_some e (remove x y ∷ cs) H u v h = has_some e cs H u v h
has_some e (add x y ∷ cs) H u v h = by (at u v x y) refl (has_some e cs H.1 u v)
  where
    by : (k : ℕ) → at u v x y ≡ k → (0 < added_sum (at u v) cs → has_edge e u v ≡ true) → has_edge e u v ≡ true
    by zero q later = later (omega (arith, q))
    by (suc k) q later = let i = at_is u v x y (omega (arith, q)) in rw (← i.0, ← i.1) H.0

has_placing : (e : State) (c d : Corner) (a b C D : ℕ) → has_edge e a C ≡ true → has_edge e C D ≡ true → has_edge e D b ≡ true
    → Has e (placing (kind_of c) (kind_of d) a b C D)
has_placing e (Reused c) (Reused d) a b C D ac cd db = (cd, tt)
has_placing e (Reused c) (Fresh x y) a b C D ac cd db = (cd, (db, tt))
has_placing e (Fresh x y) (Reused d) a b C D ac cd db = (ac, (cd, tt))
has_placing e (Fresh x y) (Fresh z w) a b C D ac cd db = (ac, (cd, (db, tt)))

-- ---- the four edges of a quad are added

module _ (u : State) (n a b C D : ℕ) (room : 2 * (add_edges a b D C u).counts.edges ≤ length u.edges) where
  abbrev s1 : State
  s1 = add_edge a b u

  abbrev s2 : State
  s2 = add_edge b D s1

  abbrev s3 : State
  s3 = add_edge D C s2

  abbrev s4 : State
  s4 = add_edge C a s3

  room4 : 2 * s4.counts.edges ≤ length s3.edges
  unfolding add_edges
  room4 = omega (arith, room, (edged a b u).list.long, (edged b D s1).list.long, (edged D C s2).list.long)

  room3 : 2 * s3.counts.edges ≤ length s2.edges
  room3 = omega (arith, room4, (edged C a s3).more, (edged D C s2).list.long)

  room2 : 2 * s2.counts.edges ≤ length s1.edges
  room2 = omega (arith, room3, (edged D C s2).more, (edged b D s1).list.long)

  room1 : 2 * s1.counts.edges ≤ length u.edges
  room1 = omega (arith, room2, (edged b D s1).more, (edged a b u).list.long)

  -- an edge that was there stays
  has_kept : (x y : ℕ) → has_edge u x y ≡ true → has_edge (add_edges a b D C u) x y ≡ true
  unfolding add_edges
  has_kept x y h = has_added C a x y s3 (has_added D C x y s2 (has_added b D x y s1 (has_added a b x y u h)))

  has_ac : has_edge (add_edges a b D C u) a C ≡ true
  unfolding add_edges
  has_ac = has_flip s4 a C ∙ has_self C a s3 room4

  has_cd : has_edge (add_edges a b D C u) C D ≡ true
  unfolding add_edges
  has_cd = has_flip s4 C D ∙ has_added C a D C s3 (has_self D C s2 room3)

  has_db : has_edge (add_edges a b D C u) D b ≡ true
  unfolding add_edges
  has_db = has_flip s4 D b ∙ has_added C a b D s3 (has_added D C b D s2 (has_self b D s1 room2))

  joined_quad : a < n → b < n → C < n → D < n → a ≢ b → b ≢ D → D ≢ C → C ≢ a → Joined n u → Joined n (add_edges a b D C u)
  unfolding add_edges
  joined_quad ha hb hc hd ab bd dc ca old =
      joined_added n C a s3 hc ha ca room4
      (joined_added n D C s2 hd hc dc room3 (joined_added n b D s1 hb hd bd room2 (joined_added n a b u ha hb ab room1 old)))

-- ---- the theorem

-- the mesh edges of the state that a placing leaves
known_after : (n : ℕ) (s : State) (ls : List (List ℕ)) (a b : ℕ) (c d : Corner) → Sound n s ls → Known s → Grounds s ls a b c d
    → Known (state_after (with_corners c d s) (add_edges a b (id_d s c d) (id_c s c) (with_corners c d s))
    (record { a = a; b = b; d = id_d s c d; c = id_c s c }) (changes_of s a b c d))
unfolding push_quad has_edge edge_places
known_after n s ls a b c d S K H =
    let u = with_corners c d s in
    let C = id_c s c in
    let D = id_d s c d in
    let e = add_edges a b D C u in
    let X = H.sides in
    let L = H.after in
    let P = H.cornered.pushed in
    let m = u.counts.nodes in
    let room : 2 * e.counts.edges ≤ length u.edges = omega (arith, H.few_edges, P.frame.edge_list.long) in
    let old : Joined m u =
    λ k h.
    let i : k < s.counts.edges = omega (arith, P.edges) in
    let at_from = extends_at _ _ _ _ P.frame.edge_list (2 * k) 0 (omega (arith, i)) in
    let at_to = extends_at _ _ _ _ P.frame.edge_list (2 * k + 1) 0 (omega (arith, i)) in
    let j = K.joined k i in
    rw (at_from, at_to) (j.0, omega (arith, j.1, P.nodes)) in
    record {
      joined =
          joined_quad u m a b C D room (omega (arith, X.node_a, P.nodes)) (omega (arith, X.node_b, P.nodes)) H.cornered.id_c_lem
          H.cornered.id_d_lem X.ab X.bd (λ q. X.cd (sym q)) (λ q. X.ac (sym q)) old;
      fronts = λ x y h q.
          let there = next_edge m _ L.loops L.changes.front.loops x y h q in
          let before : 0 < front_sum (at x y) ls → has_edge e x y ≡ true =
          λ z. has_kept u m a b C D room x y (P.has x y ∙ K.fronts x y h (edge_next _ (next_of s) ls S.front.loops x y z)) in
          let more : 0 < added_sum (at x y) (changes_of s a b c d) → has_edge e x y ≡ true =
          has_some e (changes_of s a b c d)
          (has_placing e c d a b C D (has_ac u m a b C D room) (has_cd u m a b C D room) (has_db u m a b C D room)) x y in
          either (front_sum (at x y) ls) (added_sum (at x y) (changes_of s a b c d)) (omega (arith, there, L.changes.sums (at x y))) before more;
    }
  where
    either : {Z : Type 0} (i j : ℕ) → 0 < i + j → (0 < i → Z) → (0 < j → Z) → Z
    either zero j h p q = q (omega arith)
    either (suc i) j h p q = p (omega arith)

-- a placing keeps the mesh edges known
pub known_placed : (n : ℕ) (s : State) (ls : List (List ℕ)) (a b : ℕ) (c d : Corner) → Sound n s ls → Known s → Choice s a b c d
    → is_full s a b c d ≡ false → Known (place a b c d s)
known_placed n s ls a b c d S K H full =
    let G = grounds n s ls a b c d S H full in
    subst Known (sym G.is) (known_after n s ls a b c d S K G)

-- ---- the answer of `place`, taken apart

module _ (a b : ℕ) (c d : Corner) (s t : State) where
  -- full: the lists are as they were
  pub placed_full : (e : Full) → PlacesQuad a b c d s (Err e) t → (is_full s a b c d ≡ true) × (t ≡ s)
  unfolding place_answer place_if_room
  placed_full e P = by (is_full s a b c d) refl P.answer P.state
    where
      by : (f : Bool) → is_full s a b c d ≡ f → ◌≡◌ {A = Result (Unit {0}) Full} (Err e) (cond f (Err (record {})) (Ok tt)) → t ≡ cond f s (place a b c d s)
          → (is_full s a b c d ≡ true) × (t ≡ s)
      by true h e same = (h, same)
      by false h e same = absurd (let z : ◌≡◌ {A = ℕ} 0 1 = cc in omega arith)

  -- done: they are those of the state after the quad
  pub placed_done : (u : Unit {0}) → PlacesQuad a b c d s (Ok u) t → (is_full s a b c d ≡ false) × (t ≡ place a b c d s)
  unfolding place_answer place_if_room
  placed_done u P = by (is_full s a b c d) refl P.answer P.state
    where
      by : (f : Bool) → is_full s a b c d ≡ f → ◌≡◌ {A = Result (Unit {0}) Full} (Ok u) (cond f (Err (record {})) (Ok tt)) → t ≡ cond f s (place a b c d s)
          → (is_full s a b c d ≡ false) × (t ≡ place a b c d s)
      by true h e same = absurd (let z : ◌≡◌ {A = ℕ} 0 1 = cc in omega arith)
      by false h e same = (h, same)

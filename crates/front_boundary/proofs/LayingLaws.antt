-- Laws of the loops that write nodes and edges, over plain lists: what a call leaves is one turn more of the definition's loop.
use Rattle.std.specs.Prelude.{Bool, true, false, List, ◌≡◌, refl, ℕ, suc, ◌+◌, ◌-◌, ◌%◌, ◌≤◌, ◌<◌, eqb, Float, length}
use Rattle.std.proofs.Math.Bool.{cond}
use Rattle.std.proofs.Common.{sym, ◌∙◌, le_antisymm, arith}
use Rattle.std.proofs.Math.Path.{ap, ap₂}
use borrow.Author.Tests.{lt-ltb, le-ltb, eq-eqb, ne_eqb, eqb-true, eqb-false}
use Rattle.std.specs.Float.Ieee.{lt}
use Rattle.laws.specs.Loop.{for_up, Loop, loop_start_lem, loop_next, loop_end, sum_up}
use Rattle.laws.proofs.Sums.{sum_zero, sum_suc, sum_term}
use Rattle.outline.specs.declared.Point.{Point}
use Rattle.outline.specs.Outline.{points, point_at, point_after}
use Rattle.geometry.specs.Plane.{distance}
use Rattle.front.specs.declared.Ring.{Ring}
use Rattle.front.specs.State.{State, state_of, counted, push_node}
use Rattle.front.specs.Sampling.{parts_of, parts, loop_parts, sample_loop}
use Rattle.front.specs.Sampling.{edge_length, longest_turn, longest_edge, ring_of, ring_count, sampled_at, ring_at, RingFits, midpoint, split_longest, ring_in}
use Rattle.front_sampled.proofs.Cuts.{cuts_least}
use Rattle.front_sampled.proofs.Rings.{longest_in}
use Rattle.front_boundary.specs.Counting.{even_up}
use Rattle.front_boundary.specs.Laying.{between_loops, NodeRoom, NodesFrom, LoopRoom, link_ring, lay_loop}

-- ---- room

-- lists of the same lengths have room for fewer nodes
pub room_fewer : {n : ℕ} {xs ys : List Float} {next prev : List ℕ} (m : ℕ) (xs' ys' : List Float) (next' prev' : List ℕ)
    → NodeRoom n xs ys next prev → m ≤ n → length xs' ≡ length xs → length ys' ≡ length ys → length next' ≡ length next → length prev' ≡ length prev
    → NodeRoom m xs' ys' next' prev'
room_fewer m xs' ys' next' prev' R h a b c d =
    record {
      in_xs = omega (arith, R.in_xs, a);
      in_ys = omega (arith, R.in_ys, b);
      in_next = omega (arith, R.in_next, c);
      in_prev = omega (arith, R.in_prev, d);
      few = omega (arith, R.few);
    }

-- ---- points

-- what a turn leaves, by another name
pub loop_as : {A : Type 0} (turn : ℕ → A → A) (a : A) {n i : ℕ} {s : A} (t : A) → Loop turn a n i s → i < n → t ≡ turn i s → Loop turn a n (i + 1) t
loop_as turn a t l h e = rw e (loop_next turn a l h)

-- the last turn leaves what f says of the number of turns
pub loop_last : {A : Type 0} (turn : ℕ → A → A) (a : A) {n i : ℕ} (f : ℕ → A) → Loop turn a n i (f i) → n ≤ i → f n ≡ for_up n turn a
loop_last turn a f l h = ap f (le_antisymm h l.within) ∙ loop_end turn a l h

pub plus_none : (a : ℕ) → a + 0 ≡ a
plus_none a = omega arith

pub plus_one : (a b : ℕ) → a + (b + 1) ≡ a + b + 1
plus_one a b = omega arith

module _ (size : Float) (s : List Float) where
  -- the parts of segment i, as the code takes them
  pub parts_are : (i : ℕ) {a b : Point} {length : Float} {n : ℕ} → n ≡ parts_of size length → length ≡ distance a b → a ≡ point_at s i
      → b ≡ point_after s i → n ≡ parts size s i
  unfolding parts
  parts_are i e d p q = e ∙ ap (parts_of size) (d ∙ ap₂ distance p q)

  -- i segments are sampled, and there are `nodes` nodes
  pub record Sampling (from i nodes : ℕ) : Type 0 where
    pub within : i ≤ points s
    pub count : nodes ≡ from + sum_up i (parts size s)

  pub sampling_none : (from : ℕ) → Sampling from 0 from
  sampling_none from = record { within = omega arith; count = omega (arith, sum_zero (parts size s)) }

  module _ {from i nodes n : ℕ} (S : Sampling from i nodes) (h : i < points s) (e : n ≡ parts size s i) where
    pub sampling_next : Sampling from (i + 1) (nodes + n)
    sampling_next =
        let one : i + 1 ≡ suc i = omega arith in
        record { within = omega arith; count = rw one (omega (arith, S.count, sum_suc (parts size s) i)) }

    pub sampling_fits : nodes + n ≤ from + loop_parts size s
    unfolding loop_parts
    sampling_fits = omega (arith, S.count, sum_term (parts size s) i (points s) h)

  pub sampling_all : {from i nodes : ℕ} → Sampling from i nodes → points s ≤ i → nodes ≡ from + loop_parts size s
  unfolding loop_parts
  sampling_all {from} {i} {nodes} S h = let e : i ≡ points s = omega (arith, S.within) in S.count ∙ ap (λ (k : ℕ). from + sum_up k (parts size s)) e

-- ---- the longest edge

module _ (xs ys : List Float) (base n : ℕ) (turned : Bool) where
  abbrev edge_at : ℕ → Float
  edge_at k = edge_length xs ys base n turned k

  -- i edges are compared; `best` is the longest so far, of length `long`
  pub record Longest (i best : ℕ) (long : Float) : Type 0 where
    pub turns : Loop (longest_turn xs ys base n turned) 0 n i best
    pub length : long ≡ edge_length xs ys base n turned best

  pub longest_start : {long : Float} → long ≡ edge_at 0 → Longest 0 0 long
  longest_start e = record { turns = loop_start_lem _ _ _; length = e }

  module _ {i best : ℕ} {long new : Float} (L : Longest i best long) (h : i < n) (e : new ≡ edge_at i) where
    pub longest_stays : lt new long ≡ true → Longest (i + 1) best long
    longest_stays s =
        record { turns = rw (rw (e, L.length) at s) at (loop_next _ _ L.turns h); length = L.length }

    pub longest_moves : lt new long ≡ false → Longest (i + 1) i new
    longest_moves s =
        record { turns = rw (rw (e, L.length) at s) at (loop_next _ _ L.turns h); length = e }

  pub longest_all : {i best : ℕ} {long : Float} → Longest i best long → n ≤ i → best ≡ longest_edge xs ys base n turned
  unfolding longest_edge
  longest_all L h = loop_end _ _ L.turns h

-- ---- ids

module _ (r : Ring) (k : ℕ) where
  pub ring_plain : r.split ≡ false → ring_at r k ≡ sampled_at r k
  unfolding ring_at
  ring_plain e = rw e

  pub ring_before : r.split ≡ true → k < r.longest + 1 → ring_at r k ≡ sampled_at r k
  unfolding ring_at
  ring_before e h = rw (e, le-ltb r.longest k (omega arith))

  pub ring_middle : r.split ≡ true → k ≡ r.longest + 1 → ring_at r k ≡ r.base + r.count
  unfolding ring_at
  ring_middle e h = rw (e, lt-ltb r.longest k (omega arith), eq-eqb k (r.longest + 1) h)

  pub ring_behind : r.split ≡ true → r.longest + 1 ≤ k → (k ≡ r.longest + 1 → ⊥) → ring_at r k ≡ sampled_at r (k - 1)
  unfolding ring_at
  ring_behind e h ne = rw (e, lt-ltb r.longest k (omega arith), ne_eqb k (r.longest + 1) ne)

-- how many ids there are
pub count_plain : (r : Ring) → r.split ≡ false → ring_count r ≡ r.count
count_plain r e = rw e (omega arith)

pub count_split : (r : Ring) → r.split ≡ true → ring_count r ≡ r.count + 1
count_split r e = rw e

-- ---- the midpoint

module _ (r : Ring) (t : State) where
  pub split_none : r.split ≡ false → t ≡ split_longest r t
  unfolding split_longest
  split_none e = rw e

  pub split_one : {t' : State} {p : Point} → r.split ≡ true → p ≡ midpoint t.xs t.ys r → t' ≡ push_node p t → t' ≡ split_longest r t
  unfolding split_longest
  split_one e m q =
      q ∙ ap (λ (p : Point). push_node p t) m ∙ ap (λ (b : Bool). cond b (push_node (midpoint t.xs t.ys r) t) t) (sym e)

-- ---- a loop

-- n and n made even
even_up_lem : (n : ℕ) → n + cond (eqb (n % 2) 1) 1 0 ≡ even_up n
even_up_lem n = by (eqb (n % 2) 1) refl
  where
    by : (b : Bool) → eqb (n % 2) 1 ≡ b → n + cond b 1 0 ≡ even_up n
    by true e = omega (arith, eqb-true (n % 2) 1 e)
    by false e = omega (arith, eqb-false (n % 2) 1 e)

-- r is the ring of n nodes from base on
pub record RingOf (r : Ring) (base n : ℕ) : Type 0 where
  pub base_is : r.base ≡ base
  pub count_is : r.count ≡ n
  pub longest : r.longest < r.count
  pub ids : ring_count r ≡ even_up n

pub ring_of_lem : (k : ℕ) (xs ys : List Float) (base n : ℕ) {r : Ring} → 0 < n → r ≡ ring_of k xs ys base n → RingOf r base n
unfolding ring_of
ring_of_lem k xs ys base n h e =
    rw e (record { base_is = refl; count_is = refl; longest = longest_in xs ys base n _ h; ids = even_up_lem n })

module _ {s : List Float} {size : Float} {base nodes : ℕ} {xs ys : List Float} {next prev edges : List ℕ} (R : LoopRoom s size base xs ys next prev edges)
    (count : nodes ≡ base + loop_parts size s) where
  pub nodes_some : 0 < nodes - base
  nodes_some = omega (arith, R.some, cuts_least size s)

  pub nodes_from : NodesFrom base (nodes - base)
  nodes_from = record { some = nodes_some; few = omega (arith, R.nodes.few) }

  pub ring_nodes : {r : Ring} → RingOf r base (nodes - base) → NodesFrom r.base r.count × (r.longest < r.count) × (nodes ≡ r.base + r.count)
  ring_nodes {r} O = (
    rw (O.base_is, O.count_is) nodes_from,
    O.longest,
    omega (arith, O.base_is, O.count_is),
  )

  module _ {r : Ring} (O : RingOf r base (nodes - base)) where
    pub ring_end : r.base + ring_count r ≡ base + even_up (loop_parts size s)
    ring_end = let e : nodes - base ≡ loop_parts size s = omega arith in omega (arith, O.base_is, O.ids ∙ ap even_up e)

    pub ring_fits : RingFits r
    ring_fits = record { longest = O.longest; few = omega (arith, ring_end, R.nodes.few) }

-- sampling, the midpoint and the edges, one after the other
pub laid : (k : ℕ) (s : List Float) (size : Float) (st t t' t'' : State) (r : Ring) → t ≡ sample_loop size s st → r ≡ ring_in k st.counts.nodes t
    → t' ≡ split_longest r t → t'' ≡ link_ring r t' → t'' ≡ lay_loop k s size st
unfolding lay_loop
laid k s size st t t' t'' r a b c d =
    d ∙ ap (link_ring r) c ∙ ap (λ (q : Ring). link_ring q (split_longest q t)) b
    ∙ ap (λ (u : State). link_ring (ring_in k st.counts.nodes u) (split_longest (ring_in k st.counts.nodes u) u)) a

-- as many edges as nodes
pub as_many : (snapshot quads : List ℕ) (xs ys : List Float) (next prev edges : List ℕ) {n m : ℕ} → n ≡ m
    → between_loops snapshot quads xs ys next prev edges n ≡ state_of xs ys next prev snapshot quads edges (counted n 0 m m)
as_many snapshot quads xs ys next prev edges {n} e = ap (λ (k : ℕ). state_of xs ys next prev snapshot quads edges (counted n 0 k k)) e

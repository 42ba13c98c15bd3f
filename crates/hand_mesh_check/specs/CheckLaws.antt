-- What each test of the code says of the clauses of 23 and of 24. Assumes nothing.
use Rattle.std.specs.Prelude.{Bool, true, false, not, cond, List, ◌≡◌, ◌≢◌, ℕ, ◌+◌, ◌*◌, ◌<◌, ◌≤◌, ltb, leb, eqb, length, get_or, replicate, Float}
use Rattle.std.proofs.Common.{sym, ap, ◌∙◌, subst, arith}
use Rattle.std.proofs.lemmas.List.{length-replicate}
use Rattle.std.specs.Float.Ieee.{le}
use borrow.Author.Tests.{lt-ltb, le-ltb, le-leb, lt-leb, eq-eqb, ne_eqb, not-true, not-false}
use Rattle.laws.specs.Loop.{Loop, loop_next, any_up, sum_turn}
use Rattle.numbers.specs.Float.{is_finite, abs_f}
use Rattle.topology.specs.Links.{off, link_of, link_read, link_out}
use Rattle.field_direction.specs.Direction.{within}
use Rattle.front.specs.State.{State, node_places, quad_places, edge_places}
use Rattle.hand_mesh_check.specs.Check.{all_off, beyond_places, counts_beyond, beyond_nodes, ids_beyond, link_unsound, is_linked, link_count, front_unsound}
use Rattle.hand_mesh_check.specs.Check.{farthest_node, coordinate_unsound, node_unsound, mesh_unsound, mesh_refusal, links_of, edge_refusal}

pub length_off : (l : List ℕ) → length (all_off l) ≡ length l
unfolding all_off
length_off l = length-replicate (length l) off

-- it depends on the length alone
pub off_same : (l m : List ℕ) → length l ≡ length m → all_off l ≡ all_off m
unfolding all_off
off_same l m e = ap (λ (n : ℕ). replicate n off) e

-- ---- the places

module _ (s : State) (n q e : ℕ) where
  pub nodes_beyond_places : node_places s < n → true ≡ beyond_places s n q e
  unfolding beyond_places
  nodes_beyond_places h = rw (lt-ltb _ _ h)

  pub quads_beyond_places : n ≤ node_places s → quad_places s < q → true ≡ beyond_places s n q e
  unfolding beyond_places
  quads_beyond_places h k = rw (le-ltb _ _ h, lt-ltb _ _ k)

  pub edges_beyond_places : n ≤ node_places s → q ≤ quad_places s → ltb (edge_places s) e ≡ beyond_places s n q e
  unfolding beyond_places
  edges_beyond_places h k = rw (le-ltb _ _ h, le-ltb _ _ k)

-- ---- the ids

module _ (n : ℕ) (quads : List ℕ) (q : ℕ) (edges : List ℕ) (e : ℕ) {x : Bool} (a : x ≡ any_up (4 * q) (beyond_nodes n quads)) where
  pub ids_quads : x ≡ true → true ≡ ids_beyond n quads q edges e
  unfolding ids_beyond
  ids_quads h = rw (← a, h)

  pub ids_edges : x ≡ false → {y : Bool} → y ≡ any_up (2 * e) (beyond_nodes n edges) → y ≡ ids_beyond n quads q edges e
  unfolding ids_beyond
  ids_edges h b = rw (← a, h) b

-- ---- the links

module _ (n : ℕ) (links back : List ℕ) (u : ℕ) (h : u < n) (long : n ≤ length links) where
  read : get_or links u 0 ≡ link_of n links u
  read = link_read n links u h long

  pub link_off : get_or links u 0 ≡ off → false ≡ link_unsound n links back u
  unfolding link_unsound
  link_off e = rw (← read, eq-eqb _ off e)

  pub link_beyond : get_or links u 0 ≢ off → n ≤ get_or links u 0 → true ≡ link_unsound n links back u
  unfolding link_unsound
  link_beyond ne l = rw (← read, ne_eqb _ off ne, le-leb n _ l)

  pub link_back : get_or links u 0 ≢ off → get_or links u 0 < n → n ≤ length back
      → not (eqb (get_or back (get_or links u 0) 0) u) ≡ link_unsound n links back u
  unfolding link_unsound
  link_back ne l longer = rw (← read, ne_eqb _ off ne, lt-leb n _ l, ← link_read n back (get_or links u 0) l longer)

-- ---- the count of links

abbrev pub Counting : ℕ → List ℕ → ℕ → ℕ → Type 0
Counting n links u sum = Loop (sum_turn (is_linked n links)) 0 n u sum

module _ (n : ℕ) (links : List ℕ) {u sum : ℕ} (l : Counting n links u sum) (h : u < n) (long : n ≤ length links) where
  counted_next : (d : ℕ) → is_linked n links u ≡ d → Counting n links (u + 1) (sum + d)
  counted_next d e = subst (λ (x : ℕ). Counting n links (u + 1) (sum + x)) e (loop_next (sum_turn (is_linked n links)) 0 l h)

  pub count_on : get_or links u 0 ≢ off → Counting n links (u + 1) (sum + 1)
  count_on ne = counted_next 1 (rw (ne_eqb (link_of n links u) off (λ e. ne (link_read n links u h long ∙ e))))

  pub count_off : get_or links u 0 ≡ off → Counting n links (u + 1) sum
  count_off e =
      subst (Counting n links (u + 1)) (plain sum) (counted_next 0 (rw (eq-eqb (link_of n links u) off (sym (link_read n links u h long) ∙ e))))
    where
      plain : (x : ℕ) → x + 0 ≡ x
      plain x = omega arith

-- ---- the front

module _ (n : ℕ) (next prev : List ℕ) (f : ℕ) {x : Bool} (a : x ≡ any_up n (link_unsound n next prev)) where
  pub front_links : x ≡ true → true ≡ front_unsound n next prev f
  unfolding front_unsound
  front_links h = rw (← a, h)

  module _ (g : x ≡ false) {y : Bool} (b : y ≡ any_up n (link_unsound n prev next)) where
    pub front_back : y ≡ true → true ≡ front_unsound n next prev f
    unfolding front_unsound
    front_back h = rw (← a, g, ← b, h)

    pub front_count_lem : y ≡ false → {m : ℕ} → m ≡ link_count n next → not (eqb m f) ≡ front_unsound n next prev f
    unfolding front_unsound
    front_count_lem h c = rw (← a, g, ← b, h, c)

-- ---- coordinates

module _ (x : Float) {f : Bool} (a : f ≡ is_finite x) where
  pub endless_unsound : not f ≡ true → true ≡ coordinate_unsound x
  unfolding coordinate_unsound within
  endless_unsound h = rw (← a, not-true f h)

  pub size_unsound : not f ≡ false → {y : Float} → y ≡ abs_f x → not (le y farthest_node) ≡ coordinate_unsound x
  unfolding coordinate_unsound within
  size_unsound h b = rw (← a, not-false f h, b)

-- ---- 23 whole

module _ (s : State) {x : Bool} (a : x ≡ counts_beyond s) where
  pub mesh_counts : x ≡ true → 23 ≡ mesh_refusal s
  unfolding mesh_refusal mesh_unsound
  mesh_counts h = rw (← a, h)

  module _ (f : x ≡ false) {y : Bool} (b : y ≡ ids_beyond s.counts.nodes s.quads s.counts.quads s.edges s.counts.edges) where
    pub mesh_ids : y ≡ true → 23 ≡ mesh_refusal s
    unfolding mesh_refusal mesh_unsound
    mesh_ids h = rw (← a, f, ← b, h)

    module _ (g : y ≡ false) {z : Bool} (c : z ≡ front_unsound s.counts.nodes s.next s.prev s.counts.front) where
      pub mesh_front : z ≡ true → 23 ≡ mesh_refusal s
      unfolding mesh_refusal mesh_unsound
      mesh_front h = rw (← a, f, ← b, g, ← c, h)

      module _ (i : z ≡ false) {w : Bool} (d : w ≡ any_up s.counts.nodes (node_unsound s.xs s.ys)) where
        pub mesh_far : w ≡ true → 23 ≡ mesh_refusal s
        unfolding mesh_refusal mesh_unsound
        mesh_far h = rw (← a, f, ← b, g, ← c, i, ← d, h)

        pub mesh_sound : w ≡ false → 0 ≡ mesh_refusal s
        unfolding mesh_refusal mesh_unsound
        mesh_sound h = rw (← a, f, ← b, g, ← c, i, ← d, h)

-- ---- 24

module _ (next : List ℕ) (n a b : ℕ) where
  pub edge_off : b ≡ off → 24 ≡ edge_refusal (links_of next n) a b
  unfolding edge_refusal
  edge_off h = rw (eq-eqb b off h)

  module _ (on : b ≢ off) where
    pub edge_out : n ≤ a → 24 ≡ edge_refusal (links_of next n) a b
    unfolding edge_refusal
    edge_out h = rw (ne_eqb b off on, link_out n next a h, ne_eqb off b (λ e. on (sym e)))

    module _ (h : a < n) (long : n ≤ length next) where
      pub edge_gone : get_or next a 0 ≢ b → 24 ≡ edge_refusal (links_of next n) a b
      unfolding edge_refusal
      edge_gone ne = rw (ne_eqb b off on, ← link_read n next a h long, ne_eqb _ b ne)

      pub edge_there : get_or next a 0 ≡ b → 0 ≡ edge_refusal (links_of next n) a b
      unfolding edge_refusal
      edge_there e = rw (ne_eqb b off on, ← link_read n next a h long, eq-eqb _ b e)

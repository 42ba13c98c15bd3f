-- What every node of a state has, and that a placing adds no nodes but its new corners: `place_nodes`. Assumes nothing.
use Rattle.std.specs.Prelude.{◌≡◌, Bool, true, false, cond, List, eqb, length, get_or, set, Float}
use Rattle.std.proofs.Common.{sym, ap, ap₂, eq-or-lt_of_le, arith, get_or-set_same, get_or-set_other}
use Rattle.std.proofs.Math.Path.{subst}
use Rattle.std.proofs.Math.Logic.{inl, inr}
use Prim.Native.Nat.{ℕ, ◌+◌, ◌≤◌, ◌<◌}
use Rattle.std.proofs.Math.ListN.{length-set}
use Rattle.std.specs.Float.{nan}
use Rattle.outline.specs.declared.Point.{Point}
use Rattle.outline.specs.Outline.{point}
use Rattle.front.specs.declared.Corner.{Corner}
use Rattle.front.specs.declared.Corner.TheVariants.{Reused, Fresh}
use Rattle.front.specs.State.{State, node_in, node, next_of, has_edge, push_node, add_front, remove_front, push_edge, add_edge, push_quad}
use Rattle.front.specs.Place.{added, id_c, id_d, push_corner, add_edges, take_off, put_on, move_front, place}

-- every node has the property
abbrev pub AllNodes : (Point → Type 0) → State → Type 0
AllNodes P s = (id : ℕ) → id < s.counts.nodes → P (node s id)

-- a corner that is new has the property
abbrev pub IfNew : (Point → Type 0) → Corner → Type 0
IfNew P (Reused id) = Unit {0}
IfNew P (Fresh x y) = P (point x y)

-- and there is room for k nodes more
pub record Roomy (P : Point → Type 0) (k : ℕ) (s : State) : Type 0 where
  pub nodes : AllNodes P s
  pub xs : s.counts.nodes + k ≤ length s.xs
  pub ys : s.counts.nodes + k ≤ length s.ys

module _ (P : Point → Type 0) where
  either : (b : Bool) (s t : State) → AllNodes P s → AllNodes P t → AllNodes P (cond b s t)
  either true s t h k = h
  either false s t h k = k

  -- ---- new nodes

  less_room : {k m : ℕ} {s : State} → k ≤ m → Roomy P m s → Roomy P k s
  less_room h r = record { nodes = r.nodes; xs = omega (arith, r.xs); ys = omega (arith, r.ys) }

  push_nodes : (p : Point) (k : ℕ) (s : State) → Roomy P (1 + k) s → P p → Roomy P k (push_node p s)
  unfolding push_node node_in
  push_nodes p k s r h = record {
    nodes = λ id l. elim (eq-or-lt_of_le (below l)) [
      | inl e ↦ subst P (ap₂ point (last s.xs p.x e (omega (arith, r.xs))) (last s.ys p.y e (omega (arith, r.ys)))) h
      | inr m ↦ subst P (ap₂ point (before s.xs p.x m) (before s.ys p.y m)) (r.nodes id m)
    ];
    xs = omega (arith, r.xs, length-set s.xs n p.x);
    ys = omega (arith, r.ys, length-set s.ys n p.y);
  }
    where
      n : ℕ
      n = s.counts.nodes

      below : {id : ℕ} → id < n + 1 → id ≤ n
      below l = omega arith

      last : (xs : List Float) (x : Float) {id : ℕ} → id ≡ n → n < length xs → x ≡ get_or (set xs n x) id nan
      last xs x {id} e l = rw e (sym (get_or-set_same xs n x nan l))

      before : (xs : List Float) (x : Float) {id : ℕ} → id < n → get_or xs id nan ≡ get_or (set xs n x) id nan
      before xs x {id} l = sym (get_or-set_other xs n id x nan (λ e. omega arith))

  push_corner_lem : (c : Corner) (k : ℕ) (s : State) → Roomy P (added c + k) s → IfNew P c → Roomy P k (push_corner c s)
  push_corner_lem (Reused id) k s r h = less_room (omega arith) r
  push_corner_lem (Fresh x y) k s r h = push_nodes (point x y) k s r h

  -- ---- what changes no node

  add_edge_lem : (u v : ℕ) (s : State) → AllNodes P s → AllNodes P (add_edge u v s)
  unfolding add_edge push_edge
  add_edge_lem u v s h = either (has_edge s u v) s _ h h

  add_edges_lem : (a b d c : ℕ) (s : State) → AllNodes P s → AllNodes P (add_edges a b d c s)
  unfolding add_edges
  add_edges_lem a b d c s h = add_edge_lem c a _ (add_edge_lem d c _ (add_edge_lem b d _ (add_edge_lem a b s h)))

  push_quad_lem : (a b d c : ℕ) (s : State) → AllNodes P s → AllNodes P (push_quad a b d c s)
  unfolding push_quad
  push_quad_lem a b d c s h = h

  add_front_lem : (u v : ℕ) (s : State) → AllNodes P s → AllNodes P (add_front u v s)
  unfolding add_front
  add_front_lem u v s h = h

  remove_front_lem : (u v : ℕ) (s : State) → AllNodes P s → AllNodes P (remove_front u v s)
  unfolding remove_front
  remove_front_lem u v s h = either (eqb (next_of s u) v) _ s h h

  take_off_lem : (c : Corner) (u v : ℕ) (s : State) → AllNodes P s → AllNodes P (take_off c u v s)
  take_off_lem (Reused id) u v s h = remove_front_lem u v s h
  take_off_lem (Fresh x y) u v s h = h

  put_on_lem : (c : Corner) (u v : ℕ) (s : State) → AllNodes P s → AllNodes P (put_on c u v s)
  put_on_lem (Reused id) u v s h = h
  put_on_lem (Fresh x y) u v s h = add_front_lem u v s h

  move_front_lem : (c d : Corner) (a b id_d id_c : ℕ) (s : State) → AllNodes P s → AllNodes P (move_front c d a b id_d id_c s)
  unfolding move_front
  move_front_lem c d a b id_d id_c s h =
      put_on_lem d id_d b _ (add_front_lem id_c id_d _ (put_on_lem c a id_c _ (take_off_lem d b id_d _ (take_off_lem c id_c a _ (remove_front_lem a b s h)))))

  -- ---- a placing

  pub place_nodes : (a b : ℕ) (c d : Corner) (s : State) → Roomy P (added c + added d) s → IfNew P c → IfNew P d → AllNodes P (place a b c d s)
  unfolding place
  place_nodes a b c d s r p q =
      let room = push_corner_lem c (added d + 0) s (less_room (omega arith) r) p in
      move_front_lem c d a b _ _ _ (push_quad_lem a b _ _ _ (add_edges_lem a b _ _ _ (push_corner_lem d 0 (push_corner c s) room q).nodes))

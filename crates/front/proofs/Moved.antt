-- The front edges of a placing: removed and added one by one they are the stores of topology's changes, and the count of front edges follows.
use Rattle.std.specs.Prelude.{ℕ, ◌+◌, ◌-◌, ◌≤◌, List, [], ◌∷◌, ◌≡◌, refl, length, set}
use Rattle.std.proofs.Common.{arith, length-set, eq-eqb}
use Rattle.topology.specs.Sums.{All, one}
use Rattle.topology.specs.Links.{off, link_of, link_set}
use Rattle.topology.proofs.Changes.{Change, remove, add, stored, reversed, removed_sum, added_sum, Valid, AmongNodes}
use Rattle.topology.proofs.PlacingBase.{Kind, reused, fresh, placing}
use Rattle.front.specs.declared.Corner.{Corner}
use Rattle.front.specs.declared.Corner.TheVariants.{Reused, Fresh}
use Rattle.front.specs.State.{State, next_of, with_front, add_front, remove_front}
use Rattle.front.specs.Place.{id_c, id_d, move_front}

-- ---- definitions

abbrev pub kind_of : Corner → Kind
kind_of (Reused id) = reused
kind_of (Fresh x y) = fresh

-- what the placing of a, b, d, c in s does to the front
abbrev pub changes_of : State → ℕ → ℕ → Corner → Corner → List Change
changes_of s a b c d = placing (kind_of c) (kind_of d) a b (id_c s c) (id_d s c d)

-- the changes, by `remove_front` and `add_front`
abbrev pub change_front : List Change → State → State
change_front [] s = s
change_front (remove u v ∷ cs) s = change_front cs (remove_front u v s)
change_front (add u v ∷ cs) s = change_front cs (add_front u v s)

-- how many front edges there are after the changes, of n before
abbrev pub edges_after : List Change → ℕ → ℕ
edges_after [] n = n
edges_after (remove u v ∷ cs) n = edges_after cs (n - 1)
edges_after (add u v ∷ cs) n = edges_after cs (n + 1)

-- ---- laws

pub edges_after_lem : (cs : List Change) (n : ℕ) → removed_sum one cs ≤ n → edges_after cs n + removed_sum one cs ≡ n + added_sum one cs
edges_after_lem [] n h = refl
edges_after_lem (remove u v ∷ cs) n h = omega (arith, edges_after_lem cs (n - 1) (omega arith))
edges_after_lem (add u v ∷ cs) n h = omega (arith, edges_after_lem cs (n + 1) (omega arith))

-- changes that can be made, one by one, are their stores
pub changes_stored : (cs : List Change) (s : State) → All (AmongNodes s.counts.nodes) cs → Valid (link_of s.counts.nodes s.next) cs
    → s.counts.nodes ≤ length s.next
    → change_front cs s ≡ with_front s (stored set cs s.next) (stored set (reversed cs) s.prev) (edges_after cs s.counts.front)
unfolding remove_front add_front
changes_stored [] s i v h = refl
changes_stored (remove x y ∷ cs) s i v h =
    let n = s.counts.nodes in
    let t = with_front s (set s.next x off) (set s.prev y off) (s.counts.front - 1) in
    rw (eq-eqb (next_of s x) y v.0)
    (changes_stored cs t i.1 (rw (link_set n s.next x off i.0.0 h) v.1) (rw length-set h))
changes_stored (add x y ∷ cs) s i v h =
    let n = s.counts.nodes in
    let t = with_front s (set s.next x y) (set s.prev y x) (s.counts.front + 1) in
    rw (eq-eqb (next_of s x) off v.0)
    (changes_stored cs t i.1 (rw (link_set n s.next x y i.0.0 h) v.1) (rw length-set h))

-- a placing moves the front by topology's changes
pub move_is : (c d : Corner) (a b D C : ℕ) (s : State)
    → move_front c d a b D C s ≡ change_front (placing (kind_of c) (kind_of d) a b C D) s
unfolding move_front
move_is (Reused c) (Reused d) a b D C s = refl
move_is (Reused c) (Fresh x y) a b D C s = refl
move_is (Fresh x y) (Reused d) a b D C s = refl
move_is (Fresh x y) (Fresh z w) a b D C s = refl

-- Four rows of a sweep as a wavefront, each a column behind the one below: it leaves what one row after the other leaves. Assumes nothing.
use Rattle.std.specs.Prelude.{◌≡◌, ◌≢◌, Bool, not, ◌&&◌, List, ℕ, zero, suc, ◌+◌, ◌-◌, ◌*◌, ◌<◌, ◌≤◌, ltb, eqb, get_or, set, Float}
use Rattle.std.proofs.Math.Path.{refl, ap}
use Rattle.std.proofs.Common.{sym, ap₂, ◌∙◌, subst, add-one, mul-le-mul_right, arith, ltb-true, get_or-set_other}
use Rattle.std.proofs.Math.Bool.{true, false, cond}
use Rattle.std.proofs.lemmas.List.{set_comm}
use Rattle.std.specs.Float.{nan}
use Rattle.std.specs.Float.Ieee.{le}
use Rattle.laws.specs.Loop.{for_up, for_up_keeps}
use Rattle.outline.specs.declared.Point.{Point}
use Rattle.outline.specs.Outline.{point, point_at}
use Rattle.field_direction.specs.declared.Grid.{Grid}
use Rattle.field_direction.specs.Record.{node_at}
use Rattle.field_averages.specs.Average.{plus_if, neighbour_sum, average}
use Rattle.field_sweeps.specs.Sweeps.{steady, SweptField, swept, change, set_value, relaxed, sweep_node, sweep_row, sweep_part, four_rows}

-- ---- one node's value set, seen at another node

other_point : (l : List Float) (p q : ℕ) (v : Point) → q ≢ p → point_at (set_value l p v) q ≡ point_at l q
unfolding point_at set_value
other_point l p q v h = ap₂ point (kept (2 * q) (λ e. h (omega arith)) (λ e. omega arith)) (kept (2 * q + 1) (λ e. omega arith) (λ e. h (omega arith)))
  where
    kept : (k : ℕ) → k ≢ 2 * p → k ≢ 2 * p + 1 → get_or (set (set l (2 * p) v.x) (2 * p + 1) v.y) k nan ≡ get_or l k nan
    kept k first second = get_or-set_other (set l (2 * p) v.x) (2 * p + 1) k v.y nan second ∙ get_or-set_other l (2 * p) k v.x nan first

values_swap : (l : List Float) (p q : ℕ) (u v : Point) → p ≢ q → set_value (set_value l p u) q v ≡ set_value (set_value l q v) p u
unfolding set_value
values_swap l p q u v h =
    rw (
      set_comm (set l (2 * p) u.x) (2 * p + 1) (2 * q) u.y v.x (λ e. omega arith),
      set_comm l (2 * p) (2 * q) u.x v.x (λ e. h (omega arith)),
      set_comm (set (set l (2 * q) v.x) (2 * p) u.x) (2 * p + 1) (2 * q + 1) u.y v.y (λ e. h (omega arith)),
      set_comm (set l (2 * q) v.x) (2 * p) (2 * q + 1) u.x v.y (λ e. omega arith),
    )

-- ---- two visits commute where neither reads what the other writes

-- the visit of a node that is not fixed, by its number and by what it takes from the values
abbrev visit : ℕ → (List Float → Point) → SweptField → SweptField
visit p take s =
    let v = take s.values in
    swept (set_value s.values p v) (s.quiet && not (le steady (change (point_at s.values p) v)))

-- what is taken doesn't depend on node p's value
abbrev Unread : ℕ → (List Float → Point) → Type 0
Unread p take = (l : List Float) (v : Point) → take (set_value l p v) ≡ take l

and_swap : (a b c : Bool) → (a && b) && c ≡ (a && c) && b
and_swap false b c = refl
and_swap true true true = refl
and_swap true true false = refl
and_swap true false true = refl
and_swap true false false = refl

visits_commute : (p q : ℕ) (f h : List Float → Point) → p ≢ q → Unread q f → Unread p h → (s : SweptField)
    → visit p f (visit q h s) ≡ visit q h (visit p f s)
visits_commute p q f h apart unread_q unread_p s =
    let l = s.values in
    rw (
      unread_q l (h l),
      unread_p l (f l),
      other_point l q p (h l) apart,
      other_point l p q (f l) (λ e. apart (sym e)),
    ) (ap₂ swept (values_swap l q p (h l) (f l) (λ e. apart (sym e))) (and_swap s.quiet _ _))

-- ---- which nodes a visit doesn't read

plus_other : (there : Bool) (l : List Float) (p q : ℕ) (v sum : Point) → (there ≡ true → q ≢ p)
    → plus_if there (point_at (set_value l p v) q) sum ≡ plus_if there (point_at l q) sum
unfolding plus_if
plus_other true l p q v sum h = rw (other_point l p q v (h refl))
plus_other false l p q v sum h = refl

-- node p is no neighbour of node (i, j)
record NoNeighbour (g : Grid) (j i p : ℕ) : Type 0 where
  left : 0 < i → node_at g i j - 1 ≢ p
  right : i + 1 < g.nx → node_at g i j + 1 ≢ p
  under : 0 < j → node_at g i j - g.nx ≢ p
  over : j + 1 < g.ny → node_at g i j + g.nx ≢ p

average_unread : (g : Grid) (j i p : ℕ) → NoNeighbour g j i p → Unread p (λ l. average g l j i)
unfolding average neighbour_sum
average_unread g j i p h l v =
    rw (
      plus_other (ltb 0 i) l p (node_at g i j - 1) v _ (λ t. h.left (ltb-true 0 i t)),
      plus_other (ltb (i + 1) g.nx) l p (node_at g i j + 1) v _ (λ t. h.right (ltb-true (i + 1) g.nx t)),
      plus_other (ltb 0 j) l p (node_at g i j - g.nx) v _ (λ t. h.under (ltb-true 0 j t)),
      plus_other (ltb (j + 1) g.ny) l p (node_at g i j + g.nx) v _ (λ t. h.over (ltb-true (j + 1) g.ny t)),
    )

-- ---- node (b, j) and node (a, r) above it: in the next row more than a column behind, or in a row farther up

module _ (g : Grid) (marks : List ℕ) (j r a b : ℕ) where
  free_commute : node_at g b j ≢ node_at g a r → NoNeighbour g j b (node_at g a r) → NoNeighbour g r a (node_at g b j)
      → (s : SweptField) → relaxed g j b (relaxed g r a s) ≡ relaxed g r a (relaxed g j b s)
  unfolding relaxed
  free_commute apart lower upper s =
      visits_commute (node_at g b j) (node_at g a r) (λ l. average g l j b) (λ l. average g l r a) apart
      (average_unread g j b (node_at g a r) lower) (average_unread g r a (node_at g b j) upper) s

  nodes_commute : node_at g b j ≢ node_at g a r → NoNeighbour g j b (node_at g a r) → NoNeighbour g r a (node_at g b j)
      → (s : SweptField) → sweep_node g marks j b (sweep_node g marks r a s) ≡ sweep_node g marks r a (sweep_node g marks j b s)
  unfolding sweep_node
  nodes_commute apart lower upper s = pick (eqb (get_or marks (node_at g b j) 0) 0) (eqb (get_or marks (node_at g a r) 0) 0)
    where
      pick : (x y : Bool) → cond x (relaxed g j b (cond y (relaxed g r a s) s)) (cond y (relaxed g r a s) s)
          ≡ cond y (relaxed g r a (cond x (relaxed g j b s) s)) (cond x (relaxed g j b s) s)
      pick true true = free_commute apart lower upper s
      pick true false = refl
      pick false true = refl
      pick false false = refl

-- visits of a lower and of a higher row commute where the higher one is more than a column behind
abbrev pub Near : ℕ → (ℕ → SweptField → SweptField) → (ℕ → SweptField → SweptField) → Type 0
Near n lower upper = (a b : ℕ) → a + 1 < b → b < n → (s : SweptField) → lower b (upper a s) ≡ upper a (lower b s)

-- and wherever the higher row is two or more above
abbrev Far : ℕ → (ℕ → SweptField → SweptField) → (ℕ → SweptField → SweptField) → Type 0
Far n lower upper = (a b : ℕ) → b < n → (s : SweptField) → lower b (upper a s) ≡ upper a (lower b s)

pub near_rows : (g : Grid) (marks : List ℕ) (j : ℕ) → Near g.nx (sweep_node g marks j) (sweep_node g marks (j + 1))
near_rows g marks j a b behind column =
    nodes_commute g marks j (j + 1) a b (λ e. omega arith)
    (record { left = λ t e. omega arith; right = λ t e. omega arith; under = λ t e. omega arith; over = λ t e. omega arith })
    (record { left = λ t e. omega arith; right = λ t e. omega arith; under = λ t e. omega arith; over = λ t e. omega arith })

far_rows : (g : Grid) (marks : List ℕ) (j r : ℕ) → j + 2 ≤ r → Far g.nx (sweep_node g marks j) (sweep_node g marks r)
far_rows g marks j r far a b column =
    let gap = mul-le-mul_right g.nx far in
    nodes_commute g marks j r a b (λ e. omega (arith, gap))
    (record { left = λ t e. omega (arith, gap); right = λ t e. omega (arith, gap); under = λ t e. omega (arith, gap); over = λ t e. omega (arith, gap) })
    (record { left = λ t e. omega (arith, gap); right = λ t e. omega (arith, gap); under = λ t e. omega (arith, gap); over = λ t e. omega (arith, gap) })

-- ---- four loops as one wavefront

-- a visit goes past the first m turns of a loop with which it commutes
pub past : (visit : SweptField → SweptField) (upper : ℕ → SweptField → SweptField) (m : ℕ) (t : SweptField)
    → ((k : ℕ) → k < m → (u : SweptField) → visit (upper k u) ≡ upper k (visit u)) → visit (for_up m upper t) ≡ for_up m upper (visit t)
unfolding for_up
past visit upper zero t commute = refl
past visit upper (suc m) t commute =
    commute m (omega arith) (for_up m upper t) ∙ ap (upper m) (past visit upper m t (λ k h u. commute k (omega arith) u))

grown : (turn : ℕ → SweptField → SweptField) (m : ℕ) (t : SweptField) → turn m (for_up m turn t) ≡ for_up (m + 1) turn t
unfolding for_up
grown turn m t = rw add-one refl

module _ (n : ℕ) (A B C D : ℕ → SweptField → SweptField)
    (ab : Near n A B) (bc : Near n B C) (cd : Near n C D) (ac : Far n A C) (ad : Far n A D) (bd : Far n B D) (s : SweptField) where
  -- the first t turns of the lowest row, r of the next, q of the third and p of the highest
  abbrev wave : ℕ → ℕ → ℕ → ℕ → SweptField
  wave p q r t = for_up p D (for_up q C (for_up r B (for_up t A s)))

  more_a : (p q r t : ℕ) → t < n → r < t → A t (wave p q r t) ≡ wave p q r (t + 1)
  more_a p q r t h k =
      past (A t) D p _ (λ i l u. ad i t h u)
      ∙ ap (for_up p D) (past (A t) C q _ (λ i l u. ac i t h u)
      ∙ ap (for_up q C) (past (A t) B r _ (λ i l u. ab i t (omega arith) h u)
      ∙ ap (for_up r B) (grown A t s)))

  more_b : (p q r t : ℕ) → r < n → q < r → B r (wave p q r t) ≡ wave p q (r + 1) t
  more_b p q r t h k =
      past (B r) D p _ (λ i l u. bd i r h u)
      ∙ ap (for_up p D) (past (B r) C q _ (λ i l u. bc i r (omega arith) h u)
      ∙ ap (for_up q C) (grown B r (for_up t A s)))

  more_c : (p q r t : ℕ) → q < n → p < q → C q (wave p q r t) ≡ wave p (q + 1) r t
  more_c p q r t h k =
      past (C q) D p _ (λ i l u. cd i q (omega arith) h u)
      ∙ ap (for_up p D) (grown C q (for_up r B (for_up t A s)))

  more_d : (p q r t : ℕ) → D p (wave p q r t) ≡ wave (p + 1) q r t
  more_d p q r t = grown D p (for_up q C (for_up r B (for_up t A s)))

  -- a turn of the code: the next node of the lowest row, and of each row above the one that is a column behind
  abbrev wave_turn : ℕ → SweptField → SweptField
  wave_turn i u = D i (C (i + 1) (B (i + 2) (A (i + 3) u)))

  wave_step : (i : ℕ) → i + 3 < n → wave_turn i (wave i (i + 1) (i + 2) (i + 3)) ≡ wave (i + 1) (i + 1 + 1) (i + 2 + 1) (i + 3 + 1)
  wave_step i h =
      ap (λ (u : SweptField). D i (C (i + 1) (B (i + 2) u))) (more_a i (i + 1) (i + 2) (i + 3) h (omega arith))
      ∙ ap (λ (u : SweptField). D i (C (i + 1) u)) (more_b i (i + 1) (i + 2) (i + 3 + 1) (omega arith) (omega arith))
      ∙ ap (D i) (more_c i (i + 1) (i + 2 + 1) (i + 3 + 1) (omega arith) (omega arith))
      ∙ more_d i (i + 1 + 1) (i + 2 + 1) (i + 3 + 1)

  same_wave : (p q r t p' q' r' t' : ℕ) → p ≡ p' → q ≡ q' → r ≡ r' → t ≡ t' → wave p q r t ≡ wave p' q' r' t'
  same_wave p q r t p' q' r' t' a b c d = rw (a, b, c, d) refl

  wave_turns : (m : ℕ) → m + 3 ≤ n → for_up m wave_turn (wave 0 1 2 3) ≡ wave m (m + 1) (m + 2) (m + 3)
  wave_turns m h =
      for_up_keeps (λ (i : ℕ) (u : SweptField). u ≡ wave i (i + 1) (i + 2) (i + 3)) m wave_turn (wave 0 1 2 3) refl
      (λ i u l e. ap (wave_turn i) e ∙ wave_step i (omega arith)
      ∙ same_wave (i + 1) (i + 1 + 1) (i + 2 + 1) (i + 3 + 1) (suc i) (suc i + 1) (suc i + 2) (suc i + 3) (omega arith) (omega arith) (omega arith) (omega arith))

  -- the rest of a row, where the rows above it are behind
  rest_b : (p q r : ℕ) → r ≤ n → q < r → for_up (n - r) (λ i. B (r + i)) (wave p q r n) ≡ wave p q n n
  rest_b p q r h k =
      for_up_keeps (λ (i : ℕ) (u : SweptField). u ≡ wave p q (r + i) n) (n - r) (λ i. B (r + i)) (wave p q r n)
      (same_wave p q r n p q (r + 0) n refl refl (omega arith) refl)
      (λ i u l e. ap (B (r + i)) e ∙ more_b p q (r + i) n (omega arith) (omega arith) ∙ same_wave p q (r + i + 1) n p q (r + suc i) n refl refl (omega arith) refl)
      ∙ same_wave p q (r + (n - r)) n p q n n refl refl (omega arith) refl

  rest_c : (p q : ℕ) → q ≤ n → p < q → for_up (n - q) (λ i. C (q + i)) (wave p q n n) ≡ wave p n n n
  rest_c p q h k =
      for_up_keeps (λ (i : ℕ) (u : SweptField). u ≡ wave p (q + i) n n) (n - q) (λ i. C (q + i)) (wave p q n n)
      (same_wave p q n n p (q + 0) n n refl (omega arith) refl refl)
      (λ i u l e. ap (C (q + i)) e ∙ more_c p (q + i) n n (omega arith) (omega arith) ∙ same_wave p (q + i + 1) n n p (q + suc i) n n refl (omega arith) refl refl)
      ∙ same_wave p (q + (n - q)) n n p n n n refl (omega arith) refl refl

  rest_d : (p : ℕ) → p ≤ n → for_up (n - p) (λ i. D (p + i)) (wave p n n n) ≡ wave n n n n
  rest_d p h =
      for_up_keeps (λ (i : ℕ) (u : SweptField). u ≡ wave (p + i) n n n) (n - p) (λ i. D (p + i)) (wave p n n n)
      (same_wave p n n n (p + 0) n n n (omega arith) refl refl refl)
      (λ i u l e. ap (D (p + i)) e ∙ more_d (p + i) n n n ∙ same_wave (p + i + 1) n n n (p + suc i) n n n (omega arith) refl refl refl)
      ∙ same_wave (p + (n - p)) n n n n n n n (omega arith) refl refl refl

  -- the turns, and then what is left of the three higher rows
  whole_wave : 3 ≤ n
      → for_up (n - (n - 3)) (λ i. D (n - 3 + i)) (for_up (n - (n - 2)) (λ i. C (n - 2 + i)) (for_up (n - (n - 1)) (λ i. B (n - 1 + i))
      (for_up (n - 3) wave_turn (wave 0 1 2 3)))) ≡ wave n n n n
  whole_wave h =
      ap (λ (u : SweptField). for_up (n - (n - 3)) (λ i. D (n - 3 + i)) (for_up (n - (n - 2)) (λ i. C (n - 2 + i)) (for_up (n - (n - 1)) (λ i. B (n - 1 + i)) u)))
      (wave_turns (n - 3) (omega arith)
      ∙ same_wave (n - 3) (n - 3 + 1) (n - 3 + 2) (n - 3 + 3) (n - 3) (n - 2) (n - 1) n refl (omega arith) (omega arith) (omega arith))
      ∙ ap (λ (u : SweptField). for_up (n - (n - 3)) (λ i. D (n - 3 + i)) (for_up (n - (n - 2)) (λ i. C (n - 2 + i)) u))
      (rest_b (n - 3) (n - 2) (n - 1) (omega arith) (omega arith))
      ∙ ap (for_up (n - (n - 3)) (λ i. D (n - 3 + i))) (rest_c (n - 3) (n - 2) (omega arith) (omega arith))
      ∙ rest_d (n - 3) (omega arith)

-- ---- four rows

-- a turn of the code: the next node of row j, and of each row above it the one that is a column behind
abbrev pub rows_turn : Grid → List ℕ → ℕ → ℕ → SweptField → SweptField
rows_turn g marks j i s =
    sweep_node g marks (j + 3) i (sweep_node g marks (j + 2) (i + 1) (sweep_node g marks (j + 1) (i + 2) (sweep_node g marks j (i + 3) s)))

-- what is swept before the turns
abbrev pub rows_begun : Grid → List ℕ → ℕ → SweptField → SweptField
rows_begun g marks j s = sweep_part g marks (j + 2) 0 1 (sweep_part g marks (j + 1) 0 2 (sweep_part g marks j 0 3 s))

-- the first nodes, the turns, and the last nodes: the four rows one after the other
pub four_rows_swept : (g : Grid) (marks : List ℕ) (j : ℕ) (s : SweptField) → 3 ≤ g.nx
    → sweep_part g marks (j + 3) (g.nx - 3) g.nx (sweep_part g marks (j + 2) (g.nx - 2) g.nx (sweep_part g marks (j + 1) (g.nx - 1) g.nx
    (for_up (g.nx - 3) (rows_turn g marks j) (rows_begun g marks j s)))) ≡ four_rows g marks j s
unfolding sweep_row sweep_part for_up
four_rows_swept g marks j s h =
    whole_wave g.nx (sweep_node g marks j) (sweep_node g marks (j + 1)) (sweep_node g marks (j + 2)) (sweep_node g marks (j + 3))
    (near_rows g marks j)
    (subst (λ (r : ℕ). Near g.nx (sweep_node g marks (j + 1)) (sweep_node g marks r)) (omega arith) (near_rows g marks (j + 1)))
    (subst (λ (r : ℕ). Near g.nx (sweep_node g marks (j + 2)) (sweep_node g marks r)) (omega arith) (near_rows g marks (j + 2)))
    (far_rows g marks j (j + 2) (omega arith)) (far_rows g marks j (j + 3) (omega arith)) (far_rows g marks (j + 1) (j + 3) (omega arith)) s h

-- The loop that writes the front edges by their first node. Assumes nothing.
use Rattle.std.specs.Prelude.{Bool, true, false, cond, List, ◌≡◌, refl, ℕ, ◌+◌, ◌*◌, ◌<◌, ◌≤◌, eqb, length, set}
use Rattle.std.proofs.Common.{sym, ap, ◌∙◌, subst, add-one, arith, length-set, eq-eqb, ne_eqb}
use Rattle.laws.specs.Loop.{Loop, loop_start_lem, loop_next, loop_end, sum_up}
use Rattle.laws.proofs.Sums.{sum_zero, sum_suc, sum_term}
use Rattle.topology.specs.Links.{off}
use Rattle.hand_previews.specs.Preview.{is_on, edge_list, edge_turn, front_listed}

-- the edges from the first u of m nodes are written, j of them
pub record Written (g : ℕ → ℕ) (m : ℕ) (before : List ℕ) (u : ℕ) (list : List ℕ) (j : ℕ) : Type 0 where
  pub loop : Loop (edge_turn g) (edge_list before 0) m u (edge_list list j)
  pub count : j ≡ sum_up u (is_on g)
  pub long : length list ≡ length before

pub written_start : (g : ℕ → ℕ) (m : ℕ) (l : List ℕ) → Written g m l 0 l 0
written_start g m l = record { loop = loop_start_lem (edge_turn g) (edge_list l 0) m; count = sym (sum_zero (is_on g)); long = refl }

module _ (g : ℕ → ℕ) (m : ℕ) (before : List ℕ) {u j : ℕ} {list : List ℕ} (w : Written g m before u list j) where
  next_count : u < m → sum_up (u + 1) (is_on g) ≡ j + is_on g u
  next_count h = rw add-one (omega (arith, sum_suc (is_on g) u, w.count))

  pub written_off : u < m → {v : ℕ} → v ≡ g u → v ≡ off → Written g m before (u + 1) list j
  written_off h e z =
      let q : eqb (g u) off ≡ true = eq-eqb (g u) off (sym e ∙ z) in
      record {
        loop =
            subst (Loop (edge_turn g) (edge_list before 0) m (u + 1))
            (ap (λ (b : Bool). cond b (edge_list list j) (edge_list (set (set list (2 * j) u) (2 * j + 1) (g u)) (j + 1))) q)
            (loop_next (edge_turn g) (edge_list before 0) w.loop h);
        count = omega (arith, next_count h, ap (λ (b : Bool). cond {A = ℕ} b 0 1) q);
        long = w.long;
      }

  pub written_on : u < m → {v : ℕ} → v ≡ g u → (v ≡ off → ⊥) → Written g m before (u + 1) (set (set list (2 * j) u) (2 * j + 1) v) (j + 1)
  written_on h {v} e z =
      let q : eqb (g u) off ≡ false = ne_eqb (g u) off (λ x. z (e ∙ x)) in
      record {
        loop =
            rw e
            (subst (Loop (edge_turn g) (edge_list before 0) m (u + 1))
            (ap (λ (b : Bool). cond b (edge_list list j) (edge_list (set (set list (2 * j) u) (2 * j + 1) (g u)) (j + 1))) q)
            (loop_next (edge_turn g) (edge_list before 0) w.loop h));
        count = omega (arith, next_count h, ap (λ (b : Bool). cond {A = ℕ} b 0 1) q);
        long = simp length-set w.long;
      }

  -- there is a place for it
  pub written_room : u < m → 2 * sum_up m (is_on g) ≤ length before → {v : ℕ} → v ≡ g u → (v ≡ off → ⊥) → 2 * (j + 1) ≤ length list
  written_room h long e z =
      let q : eqb (g u) off ≡ false = ne_eqb (g u) off (λ x. z (e ∙ x)) in
      omega (arith, sum_term (is_on g) u m h, ap (λ (b : Bool). cond {A = ℕ} b 0 1) q, w.count, w.long)

  pub written_end : m ≤ u → edge_list list j ≡ front_listed m g before
  unfolding front_listed
  written_end h = loop_end (edge_turn g) (edge_list before 0) w.loop h

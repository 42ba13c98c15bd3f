-- What a list reads at a place, when a threshold stands or a node is missing, what blanking has written, and what entering and withdrawing leave.
use Rattle.std.specs.Prelude.{◌≡◌, ℕ, zero, suc, ◌+◌, ◌<◌, ◌≤◌, Bool, true, false, ◌||◌, List, [], ◌∷◌, ◌++◌, length, drop, set, replicate, ◌==◌, ◌≢◌, nat_le, slice_index_or, slice_set}
use Rattle.std.proofs.Math.Path.{refl, ap}
use Rattle.std.proofs.Common.{sym, ◌∙◌, arith, length-append, length-drop, drop_of_length-le, append-nil, ne_eqb, le-leb, le-ltb, lt-ltb}
use Rattle.std.proofs.Math.Nat.{le_antisymm}
use Rattle.std.proofs.lemmas.List.{length-replicate}
use Rattle.std.proofs.lemmas.Bool.{lt-leb}
use Rattle.std.proofs.lemmas.List.Edits.{fill_none, fill_more}
use Rattle.outline.proofs.RefusalLaws.{answer_refused}
use Rattle.front_lent_mesh.specs.declared.QuadIds.{QuadIds}
use Rattle.front_lent_mesh.specs.Mesh.{Mesh, mesh, quad_count_of}
use Rattle.exam_thresholds.specs.Figures.{no_threshold, most_threshold, threshold_at, stands, count_at, sum_at, names, share_of, moved}
use Rattle.exam_thresholds.specs.Figures.{Results, results, outcome, unless_refused, is_missing, refusal_at, with_threshold, enter_answer, withdraw_answer}

-- ---- reading

-- a place within the list reads the same, whatever is read past it
pub within_same : (l : List ℕ) (i d e : ℕ) → i < length l → slice_index_or l i d ≡ slice_index_or l i e
within_same [] i d e h = absurd (omega arith)
within_same (x ∷ l) zero d e h = refl
within_same (x ∷ l) (suc i) d e h = within_same l i d e (omega arith)

-- a test that is made twice
pub or_twice : (a b : Bool) → a || (a || b) ≡ (a || b)
or_twice true b = refl
or_twice false b = refl

pub or_thrice : (a : Bool) → a || (a || a) ≡ a
or_thrice true = refl
or_thrice false = refl

-- the fourth decides
pub names_last : (q : QuadIds) (id : ℕ) → (q.a ≢ id) → (q.b ≢ id) → (q.d ≢ id) → (q.c == id) ≡ names q id
unfolding names
names_last q id ha hb hd = rw (ne_eqb q.a id ha, ne_eqb q.b id hb, ne_eqb q.d id hd)

-- at no node none stands; at a node the list decides
pub no_node_stands : (n : ℕ) (t : List ℕ) (id : ℕ) → n ≤ id → false ≡ stands n t id
unfolding stands
no_node_stands n t id h = rw (le-ltb id n h)

pub node_stands : (n : ℕ) (t : List ℕ) (id v : ℕ) → id < n → v ≡ threshold_at t id → nat_le v most_threshold ≡ stands n t id
unfolding stands
node_stands n t id v h e = rw (lt-ltb id n h, e)

-- an id that is no node is missing; of a node the list decides
pub missing_node : (n : ℕ) (t : List ℕ) (id : ℕ) → n ≤ id → true ≡ is_missing n t id
unfolding is_missing
missing_node n t id h = rw (le-leb n id h)

pub missing_place : (n : ℕ) (t : List ℕ) (id : ℕ) → id < n → nat_le (length t) id ≡ is_missing n t id
unfolding is_missing
missing_place n t id h = rw (lt-leb n id h)

-- ---- none in every place

-- the first i places are written, the others as they were
pub record Blanking (t₀ t : List ℕ) (i : ℕ) : Type 0 where
  pub within : i ≤ length t₀
  pub same : t ≡ replicate i no_threshold ++ drop i t₀

pub blank_start : (t : List ℕ) → Blanking t t 0
blank_start t = record { within = omega arith; same = fill_none t no_threshold }

module _ {t₀ t : List ℕ} {i : ℕ} (b : Blanking t₀ t i) where
  pub blank_length : length t ≡ length t₀
  blank_length =
      ap length b.same
      ∙ omega (arith, b.within, length-append (replicate i no_threshold) (drop i t₀), length-replicate {A = ℕ} i no_threshold, length-drop i t₀)

  pub blank_next : i < length t → Blanking t₀ (slice_set t i no_threshold) (i + 1)
  blank_next h =
      let g : i < length t₀ = omega (arith, h, blank_length) in
      record { within = omega arith; same = ap (λ (s : List ℕ). set s i no_threshold) b.same ∙ fill_more i no_threshold t₀ g }

  pub blank_end : length t ≤ i → t ≡ replicate (length t₀) no_threshold
  blank_end h =
      let e : i ≡ length t₀ = le_antisymm b.within (omega (arith, h, blank_length)) in
      b.same ∙ ap (λ (l : List ℕ). replicate i no_threshold ++ l) (drop_of_length-le t₀ {i = i} (omega (arith, e)))
      ∙ append-nil (replicate i no_threshold) ∙ ap (λ (k : ℕ). replicate k no_threshold) e

-- ---- what the calls leave

pub change_same : (m : Mesh) (t : List ℕ) (count sum id v lc ls wc ws c s : ℕ)
    → lc ≡ share_of m id (count_at m t) → ls ≡ share_of m id (sum_at m t)
    → wc ≡ share_of m id (count_at m (slice_set t id v)) → ws ≡ share_of m id (sum_at m (slice_set t id v))
    → c ≡ moved count lc wc → s ≡ moved sum ls ws → results (slice_set t id v) c s ≡ with_threshold m (results t count sum) id v
unfolding with_threshold
change_same m t count sum id v lc ls wc ws c s elc els ewc ews ec es = cc

module _ (nodes count : ℕ) (quads : List ℕ) (x : Results) (id : ℕ) where
  refused : (r : ℕ) (y : Results) → (r ≢ 0) → outcome r x ≡ unless_refused r x y
  refused r y h = sym (answer_refused (λ number. outcome number x) (outcome 0 y) r h)

  pub enter_refused : (v r : ℕ) → r ≡ refusal_at nodes x.thresholds id v 16 → (r ≢ 0)
      → outcome r x ≡ enter_answer (mesh nodes (quad_count_of count quads) quads) x id v
  unfolding enter_answer
  enter_refused v r e h = rw (← e) (refused r (with_threshold (mesh nodes (quad_count_of count quads) quads) x id v) h)

  pub enter_done : (v r m : ℕ) (y : Results) → r ≡ refusal_at nodes x.thresholds id v 16 → r ≡ 0 → m ≡ quad_count_of count quads
      → y ≡ with_threshold (mesh nodes m quads) x id v → outcome 0 y ≡ enter_answer (mesh nodes (quad_count_of count quads) quads) x id v
  unfolding enter_answer
  enter_done v r m y e z em ey = rw (← e, z, ← em, ← ey)

  pub withdraw_refused : (v r : ℕ) → v ≡ threshold_at x.thresholds id → r ≡ refusal_at nodes x.thresholds id v 17 → (r ≢ 0)
      → outcome r x ≡ withdraw_answer (mesh nodes (quad_count_of count quads) quads) x id
  unfolding withdraw_answer
  withdraw_refused v r ev e h = rw (← ev, ← e) (refused r (with_threshold (mesh nodes (quad_count_of count quads) quads) x id no_threshold) h)

  pub withdraw_done : (v r m : ℕ) (y : Results) → v ≡ threshold_at x.thresholds id → r ≡ refusal_at nodes x.thresholds id v 17 → r ≡ 0
      → m ≡ quad_count_of count quads → y ≡ with_threshold (mesh nodes m quads) x id no_threshold
      → outcome 0 y ≡ withdraw_answer (mesh nodes (quad_count_of count quads) quads) x id
  unfolding withdraw_answer
  withdraw_done v r m y ev e z em ey = rw (← ev, ← e, z, ← em, ← ey)

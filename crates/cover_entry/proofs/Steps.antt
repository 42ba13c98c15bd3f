-- For the entry: what it answers, step by step.
use Rattle.std.specs.Prelude.{◌≡◌, ◌≢◌, refl, Bool, true, false, cond, ℕ, zero, suc, ◌<◌, ◌≤◌, ◌/◌, [], min, ltb, length, take, Float}
use Rattle.std.proofs.Common.{sym, ap, ◌∙◌, subst, arith, lt-ltb, le-ltb}
use Rattle.outline.specs.Outline.{Outline, first_of, outline_refusal, misshapen}
use Rattle.outline.specs.Accepted.{OutlineFits, first_zero}
use Rattle.outline.proofs.Accepted.{accepted}
use Rattle.outline.specs.Queries.{answer_by}
use Rattle.field_cross.specs.Field.{drawn_refusal}
use Rattle.front.specs.declared.Paving.{Paving}
use Rattle.front.specs.State.{State, counted, most_nodes, node_places, edge_places}
use Rattle.front.specs.Sampling.{sampled_refusal, front_refusal, from_boundary}
use Rattle.front_boundary.specs.Laying.{lent_with}
use Rattle.books_hold.specs.Runs.{AcceptedRun}
use Rattle.books.specs.Book.{start_book}
use Rattle.cover_check.specs.declared.CoversAnswer.{CoversAnswer}
use Rattle.cover_check.specs.declared.Room.{Room}
use Rattle.cover_check.specs.Lowest.{lowest}
use Rattle.cover_check.specs.Start.{StartLent, SampledIn}
use Rattle.cover_check.proofs.Sampled.{in_xs, in_ys, in_next, start_lent}
use Rattle.cover_check.specs.Check.{unfit, fit_refusal, room_refusal, covers_answered, or_at, mesh_answer, lent_refusal, covers_answer}

-- one of n is found
pub found : (number n : ℕ) (test : ℕ → Bool) (rest : CoversAnswer) {k m : ℕ} → k ≡ lowest n test → m ≡ n → k < m
    → {r : CoversAnswer} → r ≡ covers_answered number k false → r ≡ or_at number n test rest
found number n test rest {k} {m} e f h g =
    g ∙ rw (lt-ltb (lowest n test) n (omega (arith, e, f))) (ap (λ (i : ℕ). covers_answered number i false) e)

-- none is
pub not_found : (number n : ℕ) (test : ℕ → Bool) (rest : CoversAnswer) {k m : ℕ} → k ≡ lowest n test → m ≡ n → m ≤ k
    → {r : CoversAnswer} → r ≡ rest → r ≡ or_at number n test rest
not_found number n test rest {k} {m} e f h g = g ∙ rw (le-ltb (lowest n test) n (omega (arith, e, f))) refl

module _ (o : Outline) (size : Float) (s : State) (room : Room) where
  pub answer_refused : {number : ℕ} → number ≡ lent_refusal o size s room → (number ≡ 0 → ⊥) → covers_answered number 0 false ≡ covers_answer o size s room
  unfolding covers_answer
  answer_refused {number} e some =
      ap (λ (r : ℕ). covers_answered r 0 false) e ∙ by (lent_refusal o size s room) (λ z. some (e ∙ z))
    where
      by : (r : ℕ) → (r ≡ 0 → ⊥) → covers_answered r 0 false ≡ answer_by (λ number. covers_answered number 0 false) (mesh_answer o (start_book o size) s) r
      by zero h = absurd (h refl)
      by (suc r) h = refl

  pub answer_taken : 0 ≡ lent_refusal o size s room → {r : CoversAnswer} → r ≡ mesh_answer o (start_book o size) s → r ≡ covers_answer o size s room
  unfolding covers_answer
  answer_taken e {r} f = f ∙ ap (answer_by (λ number. covers_answered number 0 false) (mesh_answer o (start_book o size) s)) e

  -- what is let pass
  pub taken : 0 ≡ lent_refusal o size s room → outline_refusal o ≡ 0
  unfolding drawn_refusal
  taken e =
      let before = first_zero (first_of (drawn_refusal o size) (room_refusal o size room)) (fit_refusal s room.keys) (sym e) in
      let drawn = first_zero (drawn_refusal o size) (room_refusal o size room) before.0 in
      (first_zero (outline_refusal o) _ drawn.0).0

  pub roomy : 0 ≡ lent_refusal o size s room → room_refusal o size room ≡ 0
  roomy e = (first_zero (drawn_refusal o size) (room_refusal o size room) (first_zero (first_of (drawn_refusal o size) (room_refusal o size room)) (fit_refusal s room.keys) (sym e)).0).1

  pub fitting : 0 ≡ lent_refusal o size s room → unfit s room.keys ≡ false
  fitting e = by (unfit s room.keys) (first_zero (first_of (drawn_refusal o size) (room_refusal o size room)) (fit_refusal s room.keys) (sym e)).1
    where
      by : (b : Bool) → ◌≡◌ {A = ℕ} (cond b 23 0) 0 → b ≡ false
      by true z = absurd (omega arith)
      by false z = refl

-- ---- the outline, sampled

pub drawn_shape : (o : Outline) (size : Float) → drawn_refusal o size ≡ 0 → misshapen o ≡ false
unfolding drawn_refusal
drawn_shape o size e = (accepted o (first_zero (outline_refusal o) _ e).0).shape

module _ (o : Outline) (size : Float) (doubles : OutlineFits o) (fine : outline_refusal o ≡ 0) (p q : Paving)
    (room : sampled_refusal o size (min (min (min (length p.xs.now) (length p.ys.now)) (min (length p.next.now) (length p.prev.now))) most_nodes) (length p.edges.now / 2) ≡ 0) where
  -- the lists as they were lent, with no quads and any snapshot
  abbrev lent : State
  lent = lent_with p p.next.now [] (counted 0 0 0 0)

  pub front_room : front_refusal o size lent ≡ 0
  unfolding front_refusal node_places edge_places
  front_room = ap (λ (m : ℕ). sampled_refusal o size m (length p.edges.now / 2)) same ∙ room
    where
      same : min (min (min (min (length p.xs.now) (length p.ys.now)) (min (length p.next.now) (length p.prev.now))) (length p.next.now)) most_nodes
          ≡ min (min (min (length p.xs.now) (length p.ys.now)) (min (length p.next.now) (length p.prev.now))) most_nodes
      same = omega arith

  abbrev A : AcceptedRun o size lent
  A = record { doubles = doubles; outline = fine; front = front_room }

  pub sampled_in : lent_with q p.next.now [] q.counts ≡ from_boundary o size lent → SampledIn o size q
  sampled_in e =
      record {
        in_xs = subst (λ (t : State). t.counts.nodes ≤ length t.xs) (sym e) (in_xs o size lent A);
        in_ys = subst (λ (t : State). t.counts.nodes ≤ length t.ys) (sym e) (in_ys o size lent A);
        in_next = subst (λ (t : State). t.counts.nodes ≤ length t.next) (sym e) (in_next o size lent A);
        lent =
            subst (λ (t : State). StartLent o size (take t.counts.nodes t.xs) (take t.counts.nodes t.ys) (take t.counts.nodes t.next)) (sym e)
            (start_lent o size lent A);
      }

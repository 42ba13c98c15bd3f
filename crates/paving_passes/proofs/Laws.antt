-- The turns of a pass in the code. Assumes nothing.
use Rattle.std.specs.Prelude.{◌≡◌, refl, Bool, true, false, List, ℕ, ◌≤◌, ◌<◌, get_or, Float, ◌||◌}
use Rattle.std.proofs.Common.{sym, ◌∙◌, subst, arith}
use Rattle.laws.specs.Loop.{Loop, Turn, go, out, onwards, for_up_keeps, Run, run_go, run_end, Kept, run}
use Rattle.topology.specs.Links.{off}
use Rattle.outline.specs.Outline.{Outline}
use Rattle.field_direction.specs.declared.Grid.{Grid}
use Rattle.field_direction.specs.Record.{FieldRecord}
use Rattle.front.specs.State.{State, state_of}
use Rattle.paving.specs.declared.End.{End}
use Rattle.paving.specs.Advance.{paved, Passing, passing, Passed, pass_turn}
use Rattle.paving.specs.Advance.{copied, with_snapshot, after_pass, pass}
use Rattle.paving.specs.ReachLaws.{Reached, AtPassing, AtPassed, turn_kept}
use Rattle.paving.specs.Reach.{begin}
use Rattle.paving_snapshots.specs.Stretches.{node_after, Stretches}
use Rattle.paving_snapshots.proofs.StretchLaws.{after_more, after_few, after_off}
use Rattle.paving_snapshots.proofs.TakingBase.{loop_over}
use Rattle.paving_ends.specs.Answers.{settled, passed, pass_answer}
use Rattle.std.specs.declared.ops.ControlFlow.{ControlFlow}
use Rattle.std.specs.declared.ops.ControlFlow.TheVariants.{Continue, Break}
use Rattle.paving_settling.specs.Paveable.{Paveable, Later, snapshot_paveable, reached_later}

-- what an answer says, once it is known which
module _ {s : State} (some : Bool) (r : ControlFlow End Bool) {T : Turn Passing Passed} (E : settled r some s ≡ T) where
  pub went_on : (placed : Bool) → r ≡ Continue placed → T ≡ go (passing s (some || placed))
  went_on placed q = rw (swapped some placed) (sym (rw q at E))
    where
      swapped : (a b : Bool) → (a || b) ≡ (b || a)
      swapped true true = refl
      swapped true false = refl
      swapped false true = refl
      swapped false false = refl

  pub went_over : {e : End} → r ≡ Break e → T ≡ out (out (paved s e))
  went_over q = sym (rw q at E)

-- ---- a pass

-- a node that had no edge when the pass began
turn_gone : (o : Outline) (size : Float) (field : FieldRecord) (t : State) (some : Bool) (j : ℕ) → get_or t.snapshot j 0 ≡ off
    → pass_turn o size field j (passing t some) ≡ go (passing t some)
unfolding pass_turn
turn_gone o size field t some j e = rw e

-- the nodes after i and before a, one of n, had none
pub record GoneOver (snapshot : List ℕ) (i n a : ℕ) : Type 0 where
  pub low : i < a
  pub high : a ≤ n
  pub gone : (j : ℕ) → i < j → j < a → get_or snapshot j 0 ≡ off

pub gone_over : (tried next snapshot : List ℕ) {i n m a : ℕ} → a ≡ node_after tried i n → i < n → n ≤ m → Stretches tried m next snapshot
    → GoneOver snapshot i n a
gone_over tried next snapshot {i} {n} {m} e less more S =
    rw e
    (record {
      low = after_more tried i n;
      high = after_few tried i n less;
      gone = λ j low high. (after_off tried i n m next snapshot more S less j low high).2;
    })

-- the edge from i is tried, and the nodes up to a are gone over
pub pass_goes : (o : Outline) (size : Float) (field : FieldRecord) {p q : Passing} {n i a : ℕ} (t : State) (some : Bool)
    → Run (pass_turn o size field) after_pass p n i q → i < n → pass_turn o size field i q ≡ go (passing t some) → GoneOver t.snapshot i n a
    → Run (pass_turn o size field) after_pass p n a (passing t some)
pass_goes o size field {p} {a = a} t some L less e G =
    loop_over (onwards (pass_turn o size field)) (go p) a (run_go (pass_turn o size field) after_pass p (passing t some) L less e) (omega (arith, G.low))
    G.high (λ j low high. turn_gone o size field t some j (G.gone j (omega arith) high))

-- after the last edge
pub pass_ends : (turn : ℕ → Passing → Turn Passing Passed) {p : Passing} {n i : ℕ} {s : State} {some : Bool} → Run turn after_pass p n i (passing s some)
    → n ≤ i → {r : ControlFlow End (Unit {0})} → r ≡ pass_answer some → passed r s ≡ run n turn after_pass p
pass_ends turn {p} {n} {i} {s} {some} L h e = rw e (by some ∙ run_end turn after_pass p L h)
  where
    by : (some : Bool) → passed (pass_answer some) s ≡ after_pass (passing s some)
    by true = refl
    by false = refl

-- the snapshot is taken
pub pass_begun : (g : Grid) (values : List Float) (s : State) → Paveable g values s
    → {snapshot : List ℕ} → snapshot ≡ copied s.counts.nodes s.next s.snapshot
    → Paveable g values (state_of s.xs s.ys s.next s.prev snapshot s.quads s.edges s.counts)
unfolding with_snapshot
pass_begun g values s P e = rw e (snapshot_paveable g values s P)

-- and its edges are tried
pub pass_whole : (o : Outline) (size : Float) (field : FieldRecord) (s : State) (snapshot : List ℕ) (w : Passed)
    → snapshot ≡ copied s.counts.nodes s.next s.snapshot
    → w ≡ run s.counts.nodes (pass_turn o size field) after_pass
    (passing (state_of s.xs s.ys s.next s.prev snapshot s.quads s.edges s.counts) false)
    → w ≡ pass o size field s
unfolding pass with_snapshot
pass_whole o size field s snapshot w e E = rw (← e) E

-- ---- what holds in the loops

-- P of the state in a loop that hasn't been left
pub run_has : {S R : Type 0} (P : S → Type 0) (Q : R → Type 0) (turn : ℕ → S → Turn S R) {a : S} {n i : ℕ} {s : S} → P a
    → ((j : ℕ) (t : S) → P t → Kept P Q (turn j t)) → Loop (onwards turn) (go a) n i (go s) → P s
run_has {S} {R} P Q turn {a} {n} {i} {s} start keeps L =
    subst (λ (t : Turn S R). Kept P Q t) (sym L.same) (for_up_keeps (λ j t. Kept P Q t) i (onwards turn) (go a) start (λ j t h. next j t))
  where
    next : (j : ℕ) (t : Turn S R) → Kept P Q t → Kept P Q (onwards turn j t)
    next j (go t) p = keeps j t p
    next j (out r) q = q

module _ (o : Outline) (size : Float) (g : Grid) (values : List Float) (field : FieldRecord) (s : State)
    (P : Paveable g values s) where
  pub later : {t : State} → Reached o size s t → Later g values s t
  later {t} r = reached_later g values o size s t r.quads P r.by

  pub in_pass : {n i : ℕ} {t : State} {some : Bool} → Run (pass_turn o size field) after_pass (passing s false) n i (passing t some)
      → Later g values s t
  in_pass L =
      later (run_has (AtPassing o size s) (AtPassed o size s) (pass_turn o size field) (record { quads = 0; by = begin }) (turn_kept o size s field) L)

-- in a pass, after its snapshot was taken
pub in_begun : (o : Outline) (size : Float) (g : Grid) (values : List Float) (field : FieldRecord) (s : State)
    → Paveable g values s → {snapshot : List ℕ} → snapshot ≡ copied s.counts.nodes s.next s.snapshot
    → {n i : ℕ} {t : State} {some : Bool}
    → Run (pass_turn o size field) after_pass (passing (state_of s.xs s.ys s.next s.prev snapshot s.quads s.edges s.counts) false) n i
    (passing t some)
    → Later g values (state_of s.xs s.ys s.next s.prev snapshot s.quads s.edges s.counts) t
in_begun o size g values field s P e L = in_pass o size g values field _ (pass_begun g values s P e) L

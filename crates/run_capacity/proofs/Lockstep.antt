-- What holds of the definitions of proofs/Lockstep.antt.
use Rattle.std.specs.Prelude.{ℕ, zero, suc, min, ◌<◌, Bool, cond, leb, Float, Option, Some, None}
use Rattle.std.proofs.Math.Path.{◌≡◌, refl, subst}
use Rattle.std.proofs.Common.{sym, ap, arith}
use Rattle.std.proofs.Math.Bool.{true, false}
use Rattle.std.proofs.Math.ListN.{get_or}
use Rattle.laws.specs.Loop.{for_up, Turn, go, out, onwards, answer, run, Kept}
use Rattle.outline.specs.Outline.{Outline}
use Rattle.field_direction.specs.Record.{FieldRecord}
use Rattle.front.specs.State.{State}
use Rattle.front.specs.Place.{place, is_full}
use Rattle.front.specs.declared.FarCorners.{FarCorners}
use Rattle.paving.specs.declared.End.TheVariants.{Still, Cap, Full}
use Rattle.paving.specs.Attempt.{try_edge}
use Rattle.paving.specs.Advance.{EndedPaving, paved, Passing, passing, Passed, most_quads, after_quad, settle, is_there, pass_turn, after_pass, pass}
use Rattle.paving.specs.Advance.{with_snapshot, most_passes, passes_turn, all_used, advance}
use Rattle.paving.specs.Reach.{Placement, begin, placed}
use Rattle.paving.specs.ReachLaws.{Reached, AtPassing, AtPassed, turn_kept, pass_kept, tried}
use Rattle.run_capacity.proofs.Placings.{place_snapshot}
use Rattle.run_capacity.proofs.Twins.{Twins, SnapshotsAgree, there_same, try_same, fits_too, place_twins, snapshot_twins, snapshots_agree}
use Rattle.run_capacity.proofs.SideBySide.{passed_state}
use Rattle.run_capacity.proofs.SideBySide as lockstep

-- two loops whose turns keep their states related
both_up : {A B : Type 0} (R : A → B → Type 0) (n : ℕ) (turn : ℕ → A → A) (other : ℕ → B → B) (a : A) (b : B) → R a b
    → ((i : ℕ) (s : A) (t : B) → i < n → R s t → R (turn i s) (other i t)) → R (for_up n turn a) (for_up n other b)
unfolding for_up
both_up R zero turn other a b start keeps = start
both_up R (suc n) turn other a b start keeps =
    keeps n (for_up n turn a) (for_up n other b) (omega arith) (both_up R n turn other a b start (λ i s t h. keeps i s t (omega arith)))

abbrev state_in : Turn Passing Passed → State
state_in (go p) = p.state
state_in (out x) = passed_state x

module _ (o : Outline) (size : Float) (field : FieldRecord) (n : ℕ) where
  -- ---- definitions

  abbrev Behind : State → State → Type 0
  Behind = lockstep.Behind o size field n

  abbrev Agree : Passed → Passed → Type 0
  Agree = lockstep.Agree o size field n

  abbrev RunsAgree : EndedPaving → EndedPaving → Type 0
  RunsAgree = lockstep.RunsAgree o size field n

  -- in a pass over m nodes
  data InStep (m : ℕ) : Turn Passing Passed → Turn Passing Passed → Type 0 where
    both : {p q : Passing} → q.placed ≡ p.placed → Twins n p.state q.state → SnapshotsAgree m p.state q.state
        → InStep m (go p) (go q)
    ended : {r e : EndedPaving} → e.end ≡ r.end → Twins n r.state e.state → InStep m (out (out r)) (out (out e))
    full : {r : EndedPaving} {y : Turn Passing Passed} → r.end ≡ Full → Behind r.state (state_in y) → InStep m (out (out r)) y

  -- ---- the second run alone

  kept_state : (v : State) (x : Turn Passing Passed) → Kept (AtPassing o size v) (AtPassed o size v) x → Reached o size v (state_in x)
  kept_state v (go p) r = r
  kept_state v (out (go u)) r = r
  kept_state v (out (out e)) r = r

  passed_state_lem : (v : State) (x : Passed) → AtPassed o size v x → Reached o size v (passed_state x)
  passed_state_lem v (go u) r = r
  passed_state_lem v (out e) r = r

  turn_on : (v : State) (i : ℕ) (y : Turn Passing Passed) → Reached o size v (state_in y)
      → Reached o size v (state_in (onwards (pass_turn o size field) i y))
  turn_on v i (go q) r = kept_state v (pass_turn o size field i q) (turn_kept o size v field i q r)
  turn_on v i (out x) r = r

  pass_on : (v : State) (i : ℕ) (y : Passed) → Reached o size v (passed_state y) → Reached o size v (passed_state (onwards (passes_turn o size field) i y))
  pass_on v i (go u) r = passed_state_lem v (pass o size field u) (pass_kept o size v field u r)
  pass_on v i (out e) r = r

  -- ---- one turn of a pass

  quad_step : (m : ℕ) (u v : State) → Twins n u v → SnapshotsAgree m u v → InStep m (after_quad u) (after_quad v)
  unfolding after_quad
  quad_step m u v W N = by (leb most_quads u.counts.quads) (leb most_quads v.counts.quads) (ap (leb most_quads) W.alike.quads)
    where
      by : (b c : Bool) → c ≡ b
          → InStep m (cond b (out (out (paved u Cap))) (go (passing u true))) (cond c (out (out (paved v Cap))) (go (passing v true)))
      by true true e = ended refl W
      by false false e = both refl W N
      by true false e = absurd (let z : ◌≡◌ {A = ℕ} 0 1 = cc in omega arith)
      by false true e = absurd (let z : ◌≡◌ {A = ℕ} 0 1 = cc in omega arith)

  -- what the second run comes to by one try
  settle_on : (a b : ℕ) (q : Passing) → is_there q.state a b ≡ true → (x : Option FarCorners) → try_edge o size field q.state a b ≡ x
      → Reached o size q.state (state_in (settle a b x q))
  unfolding after_quad
  settle_on a b q th None e = record { quads = 0; by = begin }
  settle_on a b q th (Some w) e = by (is_full q.state a b w.c w.d) refl (leb most_quads (place a b w.c w.d q.state).counts.quads)
    where
      one : is_full q.state a b w.c w.d ≡ false → Reached o size q.state (place a b w.c w.d q.state)
      one k =
          let A = tried o size field q.state a b w.c w.d e in
          record { quads = 1; by = placed begin (record { there = th; da = A.da; db = A.db; answered = A.answered; fits = k }) }

      by : (k : Bool) → is_full q.state a b w.c w.d ≡ k → (l : Bool) → Reached o size q.state
          (state_in (cond k (out (out (paved q.state Full)))
          (cond l (out (out (paved (place a b w.c w.d q.state) Cap))) (go (passing (place a b w.c w.d q.state) true)))))
      by true k l = record { quads = 0; by = begin }
      by false k true = one k
      by false k false = one k

  module _ (m a : ℕ) (p q : Passing) (same : q.placed ≡ p.placed) (W : Twins n p.state q.state)
      (N : SnapshotsAgree m p.state q.state) where
    settle_step : (b : ℕ) → is_there p.state a b ≡ true → is_there q.state a b ≡ true → (x : Option FarCorners) → try_edge o size field p.state a b ≡ x
        → try_edge o size field q.state a b ≡ x → Reached o size q.state (state_in (settle a b x q)) → InStep m (settle a b x p) (settle a b x q)
    settle_step b th th' None e f r = both same W N
    settle_step b th th' (Some w) e f r = by (is_full p.state a b w.c w.d) refl
      where
        by : (k : Bool) → is_full p.state a b w.c w.d ≡ k
            → InStep m (cond k (out (out (paved p.state Full))) (after_quad (place a b w.c w.d p.state))) (settle a b (Some w) q)
        by true k = full refl (record { there = q.state; twins = W; onward = r })
        by false k =
            let A = tried o size field p.state a b w.c w.d e in
            let B = tried o size field q.state a b w.c w.d f in
            let fits = fits_too n p.state q.state W a b w.c w.d k in
            let P : Placement o size p.state a b w.c w.d = record { there = th; da = A.da; db = A.db; answered = A.answered; fits = k } in
            let Q : Placement o size q.state a b w.c w.d = record { there = th'; da = B.da; db = B.db; answered = B.answered; fits = fits } in
            rw fits
            (quad_step m (place a b w.c w.d p.state) (place a b w.c w.d q.state) (place_twins n p.state q.state W o size a b w.c w.d P Q)
            (λ i h. rw (place_snapshot a b w.c w.d p.state, place_snapshot a b w.c w.d q.state) (N i h)))

    try_step : (b : ℕ) (th th' : Bool) → is_there p.state a b ≡ th → is_there q.state a b ≡ th' → th' ≡ th
        → InStep m (cond th (settle a b (try_edge o size field p.state a b) p) (go p))
        (cond th' (settle a b (try_edge o size field q.state a b) q) (go q))
    try_step b true true e f g =
        let x = try_edge o size field p.state a b in
        let s = try_same n p.state q.state W o size field a b e in
        subst (λ (y : Option FarCorners). InStep m (settle a b x p) (settle a b y q)) (sym s)
        (settle_step b e f x refl s (settle_on a b q f x s))
    try_step b false false e f g = both same W N
    try_step b true false e f g = absurd (let z : ◌≡◌ {A = ℕ} 0 1 = cc in omega arith)
    try_step b false true e f g = absurd (let z : ◌≡◌ {A = ℕ} 0 1 = cc in omega arith)

    turn_step : a < m → InStep m (pass_turn o size field a p) (pass_turn o size field a q)
    unfolding pass_turn
    turn_step h =
        let b = get_or p.state.snapshot a 0 in
        subst
        (λ (d : ℕ). InStep m (cond (is_there p.state a b) (settle a b (try_edge o size field p.state a b) p) (go p))
        (cond (is_there q.state a d) (settle a d (try_edge o size field q.state a d) q) (go q)))
        (sym (N a h))
        (try_step b (is_there p.state a b) (is_there q.state a b) refl refl (there_same n p.state q.state W a b))

  step : (m i : ℕ) (x y : Turn Passing Passed) → i < m → InStep m x y
      → InStep m (onwards (pass_turn o size field) i x) (onwards (pass_turn o size field) i y)
  step m i x y h (both {p = p} {q = q} e W N) = turn_step m i p q e W N h
  step m i x y h (ended e W) = ended e W
  step m i x y h (full e B) =
      full e (record { there = B.there; twins = B.twins; onward = turn_on B.there i y B.onward })

  -- ---- a pass

  after_step : (m : ℕ) (x y : Turn Passing Passed) → InStep m x y → Agree (answer after_pass x) (answer after_pass y)
  after_step m x y (both {p = p} {q = q} e W N) = by p.placed q.placed e
    where
      by : (b c : Bool) → c ≡ b
          → Agree (cond b (go p.state) (out (paved p.state Still))) (cond c (go q.state) (out (paved q.state Still)))
      by true true e = lockstep.both W
      by false false e = lockstep.ended refl W
      by true false e = absurd (let z : ◌≡◌ {A = ℕ} 0 1 = cc in omega arith)
      by false true e = absurd (let z : ◌≡◌ {A = ℕ} 0 1 = cc in omega arith)
  after_step m x y (ended e W) = lockstep.ended e W
  after_step m x y (full e B) = lockstep.full e (record { there = B.there; twins = B.twins; onward = end y B.onward })
    where
      end : (y : Turn Passing Passed) → Reached o size B.there (state_in y) → Reached o size B.there (passed_state (answer after_pass y))
      end (go q) r = by q.placed
        where
          by : (c : Bool) → Reached o size B.there (passed_state (cond c (go q.state) (out (paved q.state Still))))
          by true = r
          by false = r
      end (out z) r = r

  pass_agree : (s t : State) → Twins n s t → Agree (pass o size field s) (pass o size field t)
  unfolding pass run
  pass_agree s t W =
      let m = s.counts.nodes in
      after_step m _ _
      (subst (λ (k : ℕ). InStep m (for_up m (onwards (pass_turn o size field)) (go (passing (with_snapshot s) false)))
      (for_up k (onwards (pass_turn o size field)) (go (passing (with_snapshot t) false)))) (sym W.alike.nodes)
      (both_up (InStep m) m (onwards (pass_turn o size field)) (onwards (pass_turn o size field)) (go (passing (with_snapshot s) false))
      (go (passing (with_snapshot t) false)) (both refl (snapshot_twins n s t W) (snapshots_agree n s t W)) (step m)))

  -- ---- a run

  passes_step : (i : ℕ) (x y : Passed) → Agree x y → Agree (onwards (passes_turn o size field) i x) (onwards (passes_turn o size field) i y)
  passes_step i x y (lockstep.both {u = u} {v = v} W) = pass_agree u v W
  passes_step i x y (lockstep.ended e W) = lockstep.ended e W
  passes_step i x y (lockstep.full e B) =
      lockstep.full e (record { there = B.there; twins = B.twins; onward = pass_on B.there i y B.onward })

  used_up : (x y : Passed) → Agree x y → RunsAgree (answer all_used x) (answer all_used y)
  used_up x y (lockstep.both W) = lockstep.same refl W
  used_up x y (lockstep.ended e W) = lockstep.same e W
  used_up x y (lockstep.full e B) = lockstep.full e (record { there = B.there; twins = B.twins; onward = end y B.onward })
    where
      end : (y : Passed) → Reached o size B.there (passed_state y) → Reached o size B.there (answer all_used y).state
      end (go u) r = r
      end (out z) r = r

  pub advances_agree : (k : ℕ) (s t : State) → Twins n s t → RunsAgree (advance o size field k s) (advance o size field k t)
  unfolding advance run
  advances_agree k s t W =
      used_up _ _
      (both_up Agree (min k most_passes) (onwards (passes_turn o size field)) (onwards (passes_turn o size field)) (go s) (go t) (lockstep.both W)
      (λ i x y h. passes_step i x y))

-- What holds of the definitions of proofs/VainBase.antt.
use Prim.Native.Nat.{ℕ, ◌+◌, ◌*◌, ◌/◌, ◌<◌, ◌≤◌}
use mathlib.Core.List.{List}
use Rattle.std.specs.Prelude.{◌≡◌, Bool, true, false, cond, ◌≢◌, eqb, ltb, get_or, set, Float, None}
use Rattle.std.proofs.Math.Path.{refl, sym, ap}
use Rattle.std.proofs.Common.{◌∙◌, ap₂, subst, length-set, get_or-set_same, get_or-set_other}
use native.Mathlib.Omega.{arith}
use Rattle.std.proofs.Math.ListN.{length}
use borrow.Author.Tests.{ltb-true, ltb-false, eqb-true, eqb-false}
use Rattle.laws.specs.Tests.{both}
use Rattle.outline.specs.Outline.{Outline}
use Rattle.field_direction.specs.Record.{FieldRecord}
use Rattle.topology.specs.Links.{off}
use Rattle.front.specs.declared.Counts.{Counts}
use Rattle.front.specs.State.{State, node_in, next_of, prev_of}
use Rattle.front.specs.Sound.{Sound, Frame}
use Rattle.front.proofs.FrameLaws.{frame_same}
use Rattle.front.specs.Ready.{Known}
use Rattle.paving.specs.Attempt.{try_edge}
use Rattle.paving.specs.Advance.{is_there}
use Rattle.paving_snapshots.specs.Stretches.{has_places, FewerTries}
use Rattle.paving_retries.proofs.Attempts.{try_fails}
use Rattle.paving_retries.proofs.Lasting.{grows, grows_on, sound_few}
use Rattle.paving_retries.specs.Vain.{is_vain, noted, forgotten, Failed, Remembers}
use Rattle.paving_retries.proofs.VainBase.{Forgets, forgets, three, three_long, three_other, three_first, there_is}

-- ---- what the code compares and notes

module _ (l : List ℕ) (a x y z : ℕ) where
  module _ (room : 3 * a + 2 < length l) where
    three_second : get_or (three l a x y z) (3 * a + 1) 0 ≡ y
    three_second =
        get_or-set_other (set (set l (3 * a) x) (3 * a + 1) y) (3 * a + 2) (3 * a + 1) z 0 (λ e. omega arith)
        ∙ get_or-set_same (set l (3 * a) x) (3 * a + 1) y 0 (rw length-set (omega arith))

    three_third : get_or (three l a x y z) (3 * a + 2) 0 ≡ z
    three_third = get_or-set_same (set (set l (3 * a) x) (3 * a + 1) y) (3 * a + 2) z 0 (simp length-set room)

-- ---- what is remembered

module _ (o : Outline) (size : Float) (field : FieldRecord) where
  -- at first nothing is
  pub forgotten_remembers : (l : List ℕ) (t : State) → Remembers o size field (forgotten 0 t.counts.nodes l) t
  forgotten_remembers l t a room node on =
      let F = forgets 0 l t.counts.nodes in
      absurd (on (F.none a (omega arith) node (omega (arith, F.long))).0)

  -- what failed before t failed before every later state
  failed_later : {t u : State} {a b p q : ℕ} → Frame t u → u.counts.nodes ≤ 4294967294 → Failed o size field t a b p q → Failed o size field u a b p q
  failed_later {t} {u} F few B =
      record {
        earlier = B.earlier;
        sampled = B.sampled;
        loops = B.loops;
        sound = B.sound;
        later = grows_on B.earlier t u B.later F few;
        edge = B.edge;
        before = B.before;
        after = B.after;
        nothing = B.nothing;
      }

  module _ (l m : List ℕ) (t u : State) (G : Forgets t.counts.nodes u.counts.nodes l m) (a : ℕ) (room : a < length m / 3)
      (on : get_or m (3 * a) 0 ≢ off) where
    had_room : a < length l / 3
    had_room = subst (λ (n : ℕ). a < n / 3) G.long room

    remembers_old : Frame t u → u.counts.nodes ≤ 4294967294 → a < t.counts.nodes → Remembers o size field l t
        → Failed o size field u a (get_or m (3 * a) 0) (get_or m (3 * a + 1) 0) (get_or m (3 * a + 2) 0)
    remembers_old F few old R =
        let k = G.kept a old in
        rw (k.0, k.1.0, k.1.1) (failed_later F few (R a had_room old (λ q. on (k.0 ∙ q))))

    none_new : t.counts.nodes ≤ a → a < u.counts.nodes → ⊥
    none_new new node = on (G.none a new node had_room).0

  -- so the list goes on being true where the new nodes have nothing in it
  pub remembers_later : (l : List ℕ) (t u : State) → Frame t u → u.counts.nodes ≤ 4294967294 → Remembers o size field l t
      → Remembers o size field (forgotten t.counts.nodes u.counts.nodes l) u
  remembers_later l t u F few R a room node on = by (ltb a t.counts.nodes) refl
    where
      m : List ℕ
      m = forgotten t.counts.nodes u.counts.nodes l

      G : Forgets t.counts.nodes u.counts.nodes l m
      G = forgets t.counts.nodes l u.counts.nodes

      by : (b : Bool) → ltb a t.counts.nodes ≡ b → Failed o size field u a (get_or m (3 * a) 0) (get_or m (3 * a + 1) 0) (get_or m (3 * a + 2) 0)
      by true e = remembers_old l m t u G a room on F few (ltb-true a t.counts.nodes e) R
      by false e = absurd (none_new l m t u G a room on (ltb-false a t.counts.nodes e) node)

  -- of a state only nodes and mesh edges matter
  failed_same : (t u : State) {a b p q : ℕ} → t.xs ≡ u.xs → t.ys ≡ u.ys → t.edges ≡ u.edges → t.counts ≡ u.counts
      → Failed o size field t a b p q → Failed o size field u a b p q
  failed_same t u exs eys eedges ecounts B =
      let G = B.later in
      let s = B.earlier in
      record {
        earlier = s;
        sampled = B.sampled;
        loops = B.loops;
        sound = B.sound;
        later = record {
          nodes = subst (λ (k : Counts). s.counts.nodes ≤ k.nodes) ecounts G.nodes;
          few = subst (λ (k : Counts). k.nodes ≤ 4294967294) ecounts G.few;
          points = λ id h. ap₂ (λ (xs ys : List Float). node_in xs ys id) (sym exs) (sym eys) ∙ G.points id h;
          edges = subst (λ (k : Counts). s.counts.edges ≤ k.edges) ecounts G.edges;
          ends = λ k h. (
            ap (λ (l : List ℕ). get_or l (2 * k) 0) (sym eedges) ∙ (G.ends k h).0,
            ap (λ (l : List ℕ). get_or l (2 * k + 1) 0) (sym eedges) ∙ (G.ends k h).1,
          );
          joined = G.joined;
        };
        edge = B.edge;
        before = B.before;
        after = B.after;
        nothing = B.nothing;
      }

  pub remembers_same : (l : List ℕ) (t u : State) → t.xs ≡ u.xs → t.ys ≡ u.ys → t.edges ≡ u.edges → t.counts ≡ u.counts
      → Remembers o size field l t → Remembers o size field l u
  remembers_same l t u exs eys eedges ecounts R a room node on =
      failed_same t u exs eys eedges ecounts (R a room (subst (λ (k : Counts). a < k.nodes) (sym ecounts) node) on)

  -- an edge that is remembered needs no try
  pub vain_fails : (l : List ℕ) (t : State) → Remembers o size field l t → (a b : ℕ) → a < t.counts.nodes → is_there t a b ≡ true
      → is_vain l a b (prev_of t a) (next_of t b) ≡ true → try_edge o size field t a b ≡ None
  unfolding is_vain
  vain_fails l t R a b node there vain =
      let on = (there_is t a b there).0 in
      let p = both (has_places l a) _ vain in
      let q = both (eqb (get_or l (3 * a) 0) b) _ p.1 in
      let r = both (eqb (get_or l (3 * a + 1) 0) (prev_of t a)) _ q.1 in
      let first = eqb-true (get_or l (3 * a) 0) b q.0 in
      let second = eqb-true (get_or l (3 * a + 1) 0) (prev_of t a) r.0 in
      let third = eqb-true (get_or l (3 * a + 2) 0) (next_of t b) r.1 in
      let F = R a (ltb-true a (length l / 3) p.0) node (λ e. on (sym first ∙ e)) in
      let s = F.earlier in
      try_fails F.sampled s t F.loops F.sound F.later o size a b on (F.edge ∙ first) (sym second ∙ sym F.before)
      (sym third ∙ (sym F.after ∙ ap (next_of s) first)) field (subst (λ (v : ℕ). try_edge o size field s a v ≡ None) first F.nothing)

  -- an edge that is tried in vain in a state that a run can be in
  pub failed_now : (t : State) (n : ℕ) (ls : List (List ℕ)) → Sound n t ls → Known t → (a b : ℕ) → next_of t a ≡ b → try_edge o size field t a b ≡ None
      → Failed o size field t a b (prev_of t a) (next_of t b)
  failed_now t n ls S K a b edge nothing =
      record {
        earlier = t;
        sampled = n;
        loops = ls;
        sound = S;
        later = grows t t K (frame_same t) (sound_few n t ls S);
        edge = edge;
        before = refl;
        after = refl;
        nothing = nothing;
      }

  -- may be noted
  pub noted_remembers : (l : List ℕ) (t : State) (a b p q : ℕ) → Failed o size field t a b p q → Remembers o size field l t
      → Remembers o size field (noted l a b p q) t
  unfolding noted
  noted_remembers l t a b p q now R = by (has_places l a) refl
    where
      new : List ℕ
      new = three l a b p q

      here : a < length l / 3 → (i : ℕ) → a ≡ i
          → Failed o size field t i (get_or new (3 * i) 0) (get_or new (3 * i + 1) 0) (get_or new (3 * i + 2) 0)
      here room i e =
          rw (
            ← e,
            three_first l a b p q (omega arith),
            three_second l a b p q (omega arith),
            three_third l a b p q (omega arith),
          ) now

      each : a < length l / 3 → Remembers o size field new t
      each room i h node on = which (eqb a i) refl
        where
          kept : (j : ℕ) → a ≢ i → 3 * i ≤ j → j ≤ 3 * i + 2 → get_or new j 0 ≡ get_or l j 0
          kept j ne low high =
              three_other l a b p q j (λ e. ne (omega arith)) (λ e. ne (omega arith)) (λ e. ne (omega arith))

          which : (s : Bool) → eqb a i ≡ s
              → Failed o size field t i (get_or new (3 * i) 0) (get_or new (3 * i + 1) 0) (get_or new (3 * i + 2) 0)
          which true e = here room i (eqb-true a i e)
          which false e =
              let ne = eqb-false a i e in
              let first = kept (3 * i) ne (omega arith) (omega arith) in
              let second = kept (3 * i + 1) ne (omega arith) (omega arith) in
              let third = kept (3 * i + 2) ne (omega arith) (omega arith) in
              rw (first, second, third)
              (R i (omega (arith, three_long l a b p q)) node (λ q. on (first ∙ q)))

      by : (s : Bool) → has_places l a ≡ s → Remembers o size field (cond s new l) t
      by true e = each (ltb-true a (length l / 3) e)
      by false e = R

  -- and what has fewer tries is true too
  pub remembers_fewer : (l m : List ℕ) (t : State) → FewerTries l m → Remembers o size field l t → Remembers o size field m t
  remembers_fewer l m t F R a room node on =
      let had : a < length l / 3 = omega (arith, F.long) in
      let K = F.kept a had on in
      rw (K.0, K.1.0, K.1.1) (R a had node (λ q. on (K.0 ∙ q)))

-- What holds of the definitions of proofs/EndBase.antt.
use Rattle.std.specs.Prelude.{◌≡◌, Bool, cond, List, ◌≢◌, ℕ, suc, min, ◌<◌, ◌≤◌, get_or, Float, Option, Some, None}
use Rattle.std.proofs.Math.Path.{refl, sym}
use Rattle.std.proofs.Common.{◌∙◌, ap, subst, true≢false, arith}
use Rattle.std.proofs.Math.Bool.{true, false}
use Rattle.std.proofs.Math.Dec.{leb, ltb}
use borrow.Author.Tests.{leb-true, leb-false, eq-eqb, ne_eqb, ltb-true, ltb-false}
use Rattle.laws.specs.Loop.{go, out, Kept, run_keeps_at}
use Rattle.outline.specs.Outline.{Outline}
use Rattle.topology.specs.Links.{off, link_in_lem, link_out}
use Rattle.field_direction.specs.Record.{FieldRecord}
use Rattle.front.specs.State.{State, next_of, node_places}
use Rattle.front.specs.Place.{place, is_full}
use Rattle.front.specs.Sampling.{sampled_count}
use Rattle.front.specs.declared.FarCorners.{FarCorners}
use Rattle.paving.specs.declared.End.{End}
use Rattle.paving.specs.declared.End.TheVariants.{Still, Passes, Cap, Full}
use Rattle.paving.specs.Attempt.{try_edge}
use Rattle.paving.specs.Advance.{paved, Passing, passing, Passed, most_quads, after_quad, settle, is_there, pass_turn, after_pass, pass}
use Rattle.paving.specs.Advance.{with_snapshot, most_passes, passes_turn, all_used, advance}
use Rattle.paving.specs.Reach.{Placement, begin, snapshot, placed}
use Rattle.paving.specs.ReachLaws.{Reached, tried}
use Rattle.books.proofs.Step.{answered_step}
use Rattle.books_hold.proofs.StagesBase.{Start, standing}
use Rattle.books_hold.specs.Ends.{StillAt, FullAt, PassesLead, LastPass, Ended}
use Rattle.books_hold.specs.Ends as ends
use Rattle.books_hold.proofs.EndBase.{last_or_less, copied_at}

-- ---- the snapshot holds the links

module _ (o : Outline) (size : Float) (field : FieldRecord) (s : State) (ls : List (List ℕ)) (S : Start o size s ls) where
  -- a state of the run from which it goes on
  record GoesOn (t : State) : Type 0 where
    reached : Reached o size s t
    below : t.counts.quads < most_quads

  -- a pass ended the run so
  abbrev EndedIn : State → End → Type 0
  EndedIn t Still = StillAt o size field t
  EndedIn t Passes = ⊥
  EndedIn t Cap = t.counts.quads ≡ most_quads
  EndedIn t Full = FullAt o size field t

  -- ---- a pass that begins with t

  module _ (t : State) (B : GoesOn t) where
    abbrev first : State
    first = with_snapshot t

    abbrev follower : State → ℕ → ℕ
    follower u a = get_or u.snapshot a 0

    -- the edges from the first i nodes, tried in `first`, answered nothing
    abbrev Tried : ℕ → Type 0
    Tried i =
        (a : ℕ) → a < i → is_there first a (follower first a) ≡ true → try_edge o size field first a (follower first a) ≡ None

    -- what the pass has done before turn i: it has placed something, or the state is still the first
    abbrev PassProgress : ℕ → State → Bool → Type 0
    PassProgress i u true = t.counts.quads < u.counts.quads
    PassProgress i u false = (u ≡ first) × Tried i

    record InPass (i : ℕ) (p : Passing) : Type 0 where
      between : GoesOn p.state
      progress : PassProgress i p.state p.placed

    -- what the pass leaves
    abbrev Leaves : Passed → Type 0
    Leaves (go u) = GoesOn u × (t.counts.quads < u.counts.quads)
    Leaves (out r) = EndedIn r.state r.end

    first_quads : first.counts.quads ≡ t.counts.quads
    unfolding with_snapshot
    first_quads = refl

    no_fewer : (i : ℕ) (u : State) (some : Bool) → PassProgress i u some → t.counts.quads ≤ u.counts.quads
    no_fewer i u true g = omega arith
    no_fewer i u false g = omega (arith, first_quads, ap (λ (v : State). v.counts.quads) g.0)

    -- one turn more that placed nothing
    one_more : (a : ℕ) (u : State) (some : Bool) → PassProgress a u some
        → (is_there u a (follower u a) ≡ true → try_edge o size field u a (follower u a) ≡ None) → PassProgress (suc a) u some
    one_more a u true g nothing = g
    one_more a u false g nothing = (
      g.0,
      λ i h there.
          last_or_less i a h
          (λ e. rw e (subst (λ (v : State). try_edge o size field v a (follower v a) ≡ None) g.0
          (nothing (subst (λ (v : State). is_there v a (follower v a) ≡ true) (sym g.0) (rw e at there)))))
          (λ l. g.1 i l there),
    )

    -- a quad was placed: at the cap, or on
    quad_placed : (a : ℕ) (u : State) → Reached o size s u → t.counts.quads < u.counts.quads → u.counts.quads ≤ most_quads
        → Kept (InPass (suc a)) Leaves (after_quad u)
    unfolding after_quad
    quad_placed a u r more few = choose (leb most_quads u.counts.quads) refl
      where
        choose : (b : Bool) → leb most_quads u.counts.quads ≡ b
            → Kept (InPass (suc a)) Leaves (cond b (out (out (paved u Cap))) (go (passing u true)))
        choose true e = omega (arith, leb-true most_quads u.counts.quads e)
        choose false e =
            record { between = record { reached = r; below = leb-false most_quads u.counts.quads e }; progress = more }

    -- the front edge a to b was tried
    settled : (a b : ℕ) (p : Passing) → InPass a p → is_there p.state a b ≡ true → (t : Option FarCorners) → try_edge o size field p.state a b ≡ t
        → (t ≡ None → PassProgress (suc a) p.state p.placed) → Kept (InPass (suc a)) Leaves (settle a b t p)
    settled a b p I there None e on = record { between = I.between; progress = on refl }
    settled a b p I there (Some q) e on = choose (is_full p.state a b q.c q.d) refl
      where
        choose : (full : Bool) → is_full p.state a b q.c q.d ≡ full
            → Kept (InPass (suc a)) Leaves (cond full (out (out (paved p.state Full))) (after_quad (place a b q.c q.d p.state)))
        choose true f =
            record { below = I.between.below; a = a; b = b; c = q.c; d = q.d; there = there; answered = e; full = f }
        choose false f =
            let A = tried o size field p.state a b q.c q.d e in
            let r = I.between.reached in
            let P : Placement o size p.state a b q.c q.d = record { there = there; da = A.da; db = A.db; answered = A.answered; fits = f } in
            let Y = standing S.sound r.by in
            let X = answered_step (sampled_count o size) p.state Y.loops o size a b q.c q.d Y.sound P in
            let more = no_fewer a p.state p.placed I.progress in
            quad_placed a (place a b q.c q.d p.state) (record { quads = suc r.quads; by = placed r.by P })
            (omega (arith, X.quads)) (omega (arith, X.quads, I.between.below))

    turn_kept : (a : ℕ) (p : Passing) → a < t.counts.nodes → InPass a p → Kept (InPass (suc a)) Leaves (pass_turn o size field a p)
    unfolding pass_turn
    turn_kept a p h I = choose (is_there p.state a (follower p.state a)) refl
      where
        choose : (there : Bool) → is_there p.state a (follower p.state a) ≡ there
            → Kept (InPass (suc a)) Leaves
            (cond there (settle a (follower p.state a) (try_edge o size field p.state a (follower p.state a)) p) (go p))
        choose true e =
            settled a (follower p.state a) p I e (try_edge o size field p.state a (follower p.state a)) refl
            (λ n. one_more a p.state p.placed I.progress (λ q. n))
        choose false e =
            record {
              between = I.between;
              progress = one_more a p.state p.placed I.progress (λ q. absurd (true≢false (sym q ∙ e)));
            }

    -- where a front edge goes, the snapshot says
    follower_next : (a : ℕ) → next_of first a ≢ off → (a < t.counts.nodes) × (follower first a ≡ next_of first a)
    unfolding with_snapshot node_places
    follower_next a on = by (ltb a t.counts.nodes) refl
      where
        by : (b : Bool) → ltb a t.counts.nodes ≡ b → (a < t.counts.nodes) × (follower first a ≡ next_of first a)
        by true e =
            let h = ltb-true a t.counts.nodes e in
            let room = (standing S.sound B.reached.by).sound.nodes_fit in
            (h, copied_at t.counts.nodes t.next t.snapshot (omega (arith, room)) a h ∙ sym (link_in_lem t.counts.nodes t.next a h))
        by false e = absurd (on (link_out t.counts.nodes t.next a (ltb-false a t.counts.nodes e)))

    still : Tried t.counts.nodes → first.counts.quads < most_quads → StillAt o size field first
    still nothing below = record { below = below; nothing = each }
      where
        each : (a : ℕ) → next_of first a ≢ off → try_edge o size field first a (next_of first a) ≡ None
        each a on =
            let f = follower_next a on in
            rw (← f.1) (nothing a f.0 (rw (f.1, ne_eqb (next_of first a) off on, eq-eqb (next_of first a) (next_of first a) refl)))

    ended : (u : State) (some : Bool) → GoesOn u → PassProgress t.counts.nodes u some → Leaves (after_pass (passing u some))
    ended u true W g = (W, g)
    ended u false W g =
        subst (StillAt o size field) (sym g.0)
        (still g.1 (rw g.0 at W.below))

    -- what a pass leaves
    pass_leaves : Leaves (pass o size field t)
    unfolding pass
    pass_leaves =
        run_keeps_at InPass Leaves t.counts.nodes (pass_turn o size field) after_pass (passing first false)
        (record {
          between = record {
            reached = record { quads = B.reached.quads; by = snapshot B.reached.by };
            below = omega (arith, first_quads, B.below);
          };
          progress = (refl, λ a h. absurd (omega arith));
        })
        turn_kept (λ p I. ended p.state p.placed I.between I.progress)

  -- ---- pass by pass

  record Lead (n : ℕ) (t : State) : Type 0 where
    between : GoesOn t
    passes : PassesLead o size field s n t

  ended_in : (n : ℕ) (t : State) (e : End) → EndedIn t e → LastPass o size field n s t e → Ended o size field n s t e
  ended_in n t Still h L = (h, L)
  ended_in n t Passes h L = absurd h
  ended_in n t Cap h L = (h, L)
  ended_in n t Full h L = (h, L)

  passed_on : (n i : ℕ) (t : State) → i < min n most_passes → (L : Lead i t) (x : Passed) → pass o size field t ≡ x → Leaves t L.between x
      → Kept (Lead (suc i)) (λ r. Ended o size field n s r.state r.end) x
  passed_on n i t h L (go u) e g = record { between = g.0; passes = ends.onward L.passes e g.1 }
  passed_on n i t h L (out r) e g =
      ended_in n r.state r.end g (record { before = i; allowed = h; began = t; passes = L.passes; left = e })

  -- how `advance` ends
  pub advance_ends : (n : ℕ) → Ended o size field n s (advance o size field n s).state (advance o size field n s).end
  unfolding advance
  advance_ends n =
      run_keeps_at Lead (λ r. Ended o size field n s r.state r.end) (min n most_passes) (passes_turn o size field) all_used s
      (record { between = record { reached = record { quads = 0; by = begin }; below = omega (arith, S.none) }; passes = ends.begin })
      (λ i t h L. passed_on n i t h L (pass o size field t) refl (pass_leaves t L.between))
      (λ t L. record { below = L.between.below; passes = L.passes })

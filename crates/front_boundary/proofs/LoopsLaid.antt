-- The loops of an outline are laid one after another: what the next one asks.
use Rattle.std.specs.Prelude.{List, ◌≡◌, ℕ, ◌≤◌, Float, length}
use Rattle.std.proofs.Common.{refl, sym, ◌∙◌, ap}
use Rattle.outline.specs.Outline.{Outline, loop_at}
use Rattle.front.specs.declared.Counts.{Counts}
use Rattle.front.specs.declared.Paving.{Paving}
use Rattle.front.specs.State.{counted}
use Rattle.front_boundary.specs.Laying.{CanSample, CanLay, SameRoom}
use Rattle.front_boundary.proofs.Progress.{Progress, progress_room}

-- p with other counts
abbrev pub recounted : Paving → Counts → Paving
recounted p k = record { xs = p.xs; ys = p.ys; next = p.next; prev = p.prev; quads = p.quads; edges = p.edges; counts = k }

pub recounted_room : (p : Paving) (k : Counts) → SameRoom p (recounted p k)
recounted_room p k =
    record {
      lists = record { xs = refl; ys = refl; next = refl; prev = refl; quads = refl; edges = refl };
      xs = refl;
      ys = refl;
      next = refl;
      prev = refl;
      edges = refl;
      quads = refl;
    }

pub nothing_counted : {k : Counts} → k.nodes ≡ 0 × (k.quads ≡ 0 × (k.edges ≡ 0 × k.front ≡ 0)) → k ≡ counted 0 0 0 0
nothing_counted e = rw (e.0, e.1.0, e.1.1.0, e.1.1.1) refl

-- counts between two loops
pub between_counts : {n : ℕ} {k : Counts} → k ≡ counted n 0 n n → k ≡ counted k.nodes 0 k.nodes k.nodes
between_counts e = e ∙ ap (λ (n : ℕ). counted n 0 n n) (sym (ap (λ (c : Counts). c.nodes) e))

-- loop k, which is s, has room after those before it
pub can_lay : (o : Outline) (size : Float) {k start : ℕ} {s : List Float} {p q : Paving} → Progress o size k start q.counts.nodes → k ≤ length o.lens
    → s ≡ loop_at o k → CanSample o size p.xs.now p.ys.now p.next.now p.prev.now p.edges.now → SameRoom p q
    → q.counts ≡ counted q.counts.nodes 0 q.counts.nodes q.counts.nodes → CanLay s size q
can_lay o size P h e C R counts =
    record { room = progress_room o size P h e _ _ _ _ _ C R.xs R.ys R.next R.prev R.edges; counts = counts }

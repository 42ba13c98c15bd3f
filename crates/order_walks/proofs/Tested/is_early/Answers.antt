-- `order_walks::Tested::is_early` meets its contract: the three walks answer for the quads whose steps are all filed, and a scan for the others.
use Rattle.std.specs.Prelude.{Bool, ◌||◌, ◌≡◌, ℕ, ◌*◌, ◌/◌, ◌≤◌}
use Rattle.std.specs.Coded.{le_prop}
use Rattle.std.proofs.Common.{sym, ap, ◌∙◌}
use Rattle.std.proofs.Math.Logic.{∥∥₁_elim}
use Rattle.laws.specs.Loop.{any_up}
use Rattle.index_pools.specs.Pool.{filed}
use Rattle.order_walks.specs.Steps.{keeps_back}
use Rattle.order_walks.proofs.StepLaws.{walks_some, walks_nothing}
use Rattle.order_walks.proofs.Tested.is_early.Goals as goal
use Rattle.order_walks.proofs.Tested.is_early.Goals.{Joined-any_back-2, then-any_back, else-any_back, then-any_back-2, else-any_back-2}

-- what the walk of the key (u, v) answers
abbrev walk : Joined-any_back-2 → ℕ → ℕ → Bool
walk c u v =
    any_up (filed c.args.self.now.pool.now) (keeps_back c.args.self.now.quads.now c.args.self.now.presentation.order.now c.args.p c.entry_at-j.result u v)

two : (c : Joined-any_back-2) → let q = c.quad_at-q.result in c.if-any_back.value ≡ walk c q.a q.b || walk c q.b q.d
two c =
    elim c.if-any_back.branch [
      | then-any_back w ↦ rw (sym c.any_back.ensures ∙ w.if-any_back.true) (w.value-is ∙ w.if-any_back.true)
      | else-any_back w ↦ rw (sym c.any_back.ensures ∙ w.if-any_back.false) (w.value-is ∙ w.any_back-else-any_back.ensures)
    ]

three : (c : Joined-any_back-2) → let q = c.quad_at-q.result in c.if-any_back-2.value ≡ (walk c q.a q.b || walk c q.b q.d) || walk c q.c q.a
three c =
    elim c.if-any_back-2.branch [
      | then-any_back-2 w ↦ rw (sym (two c) ∙ w.if-any_back-2.true) (w.value-is ∙ w.if-any_back-2.true)
      | else-any_back-2 w ↦ rw (sym (two c) ∙ w.if-any_back-2.false) (w.value-is ∙ w.any_back-else-any_back-2.ensures)
    ]

-- the items filed are the quads' steps
few : (c : Joined-any_back-2) → filed c.args.self.now.pool.now ≤ 3 * c.args.self.now.n
few c = ∥∥₁_elim c.args.self.now.indexed le_prop (λ I. I.within)

pub early_from-requires : goal.early_from-requires
early_from-requires c =
    let joined = (goal.at.early_from-requires c).Joined-any_back-2 in
    walks_nothing _ _ _ c.entry_at-j.ensures c.quad_at-q.ensures _ (few joined) (ap (λ (k : ℕ). k / 3) c.filed.ensures)
    (sym (three joined) ∙ c.if-any_back-3.false)

pub returns-then-any_back-3 : goal.returns-then-any_back-3
returns-then-any_back-3 c =
    let joined = (goal.at.returns-then-any_back-3 c).Joined-any_back-2 in
    c.if-any_back-3.true
    ∙ walks_some _ _ _ c.entry_at-j.ensures c.quad_at-q.ensures _ (few joined) (sym (three joined) ∙ c.if-any_back-3.true)

-- `order_walks::sitjorbe_order` meets its contract: the answer of its definition, on every input and whatever the scratch holds.
use Rattle.std.specs.Prelude.{ℕ, ◌≡◌, refl, List, true, false}
use Rattle.std.proofs.Common.{sym, ap₂, ◌∙◌}
use Rattle.front_lent_mesh.specs.Mesh.{quad_count_of, quads_few}
use Rattle.order.specs.declared.OrderAnswer.{OrderAnswer}
use Rattle.order.specs.Order.{names_each_once, first_early, order_of, order_answer}
use Rattle.order_walks.proofs.sitjorbe_order.Goals as goal

abbrev answer_of : ℕ → ℕ → OrderAnswer
answer_of r p = record { refusal = r; place = p }

-- the presentation's list l is the one lent
module _ (count : ℕ) (quads order : List ℕ) {n : ℕ} {l : List ℕ} where
  refuses : n ≡ quad_count_of count quads → l ≡ order → names_each_once n l ≡ false → {r : ℕ} → r ≡ 21
      → ◌≡◌ {A = OrderAnswer} (record { refusal = r; place = 0 }) (order_answer count quads order)
  unfolding order_answer order_of
  refuses counted lent e f = rw (← counted, ← lent, e, f) refl

  -- and so are the quads that were tested
  passes : n ≡ quad_count_of count quads → l ≡ order → names_each_once n l ≡ true → {seen presented : List ℕ} {m : ℕ} → seen ≡ quads → m ≡ n → presented ≡ l
      → {a : OrderAnswer} → a ≡ first_early seen m presented → a ≡ order_answer count quads order
  unfolding order_answer order_of
  passes counted lent e s m p f = rw (← counted, ← lent, e) (f ∙ rw (s, m, p) refl)

pub new-requires : goal.new-requires
new-requires c = rw c.quad_count-n.ensures (quads_few _ _)

pub returns-then-not-names_each_once-clause-answer : goal.returns-then-not-names_each_once-clause-answer
returns-then-not-names_each_once-clause-answer c =
    rw c.default.ensures.1
    (refuses _ _ _ c.quad_count-n.ensures c.new-presentation.ensures (sym c.names_each_once.ensures ∙ c.if-not-names_each_once.true) c.from.ensures)

pub returns-in-Some-clause-answer : goal.returns-in-Some-clause-answer
returns-in-Some-clause-answer c =
    let made = c.new.ensures in
    passes _ _ _ c.quad_count-n.ensures c.new-presentation.ensures (sym c.names_each_once.ensures ∙ c.if-not-names_each_once.false) made.0 made.1 made.2
    (rw c.from-in-Some.ensures c.in-Some.ensures)

pub returns-in-None-clause-answer : goal.returns-in-None-clause-answer
returns-in-None-clause-answer c =
    let made = c.new.ensures in
    let none = c.default-in-None.ensures in
    ap₂ answer_of none.0 none.1
    ∙ passes _ _ _ c.quad_count-n.ensures c.new-presentation.ensures (sym c.names_each_once.ensures ∙ c.if-not-names_each_once.false) made.0 made.1 made.2
    c.in-None.ensures

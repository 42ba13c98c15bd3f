-- What holds of the definitions of specs/LaidEdges.antt.
use Prim.Native.Nat.{ℕ, zero, suc, ◌+◌, ◌<◌, ◌≤◌}
use Rattle.std.specs.Prelude.{◌≡◌, Bool, true, false, cond, [], ◌∷◌, ◌++◌, ◌⊎◌, eqb, Float, length, get_or, List, ltb}
use Rattle.std.proofs.Math.Path.{refl}
use Rattle.std.proofs.Common.{sym, ◌∙◌, ap, subst, inr, ⊎_elim, arith, ltb-true, ltb-false}
use Rattle.std.proofs.Math.Logic.{inl}
use Rattle.std.proofs.Math.Option.{Option, none, some}
use Rattle.std.specs.Float.{nan}
use Rattle.laws.specs.Loop.{for_up}
use Rattle.outline.specs.Outline.{Outline}
use Rattle.topology.specs.Links.{at, at_is}
use Rattle.front.specs.State.{State}
use Rattle.books.specs.Book.{edge, Book, book, Quad, quad_at, has, without, and_then, comes_off, goes_on, new_node, side, book_quad, book_after, start_book}
use Rattle.books.proofs.Matches.{edges_sum}
use Rattle.books.proofs.BookBase.{count_sum, without_sum, Gives, gives_then}
use Rattle.front_lent_mesh.specs.Mesh.{quad_in}
use Rattle.front_lent_mesh.proofs.Answered.{quad_same}
use Rattle.order.specs.Accepted.{Lays, laid_bd, laid_dc, laid_ca, Uses, used_ab, used_bd, used_ca}
use Rattle.books_order.specs.LaidEdges.{AtQuad, LaidInBook, UsedInBook, on_front}
use Rattle.order.specs.Order.{needs, order_accepted, order_answer}
use Rattle.order.proofs.Accepted.{says_needs, accepted_iff}

-- ---- a quad's step: what it takes off and lays, counted by any weight

abbrev sum_of : (ℕ → ℕ → ℕ) → Book → ℕ
sum_of w b = edges_sum w b.front

-- the edge x to y comes off
abbrev Off : ℕ → ℕ → Book → Book → Type 0
Off x y b c = (w : ℕ → ℕ → ℕ) → sum_of w c + w x y ≡ sum_of w b

comes_off_lem : (x y : ℕ) (b : Book) → Gives (Off x y b) (comes_off (edge x y) b)
unfolding comes_off
comes_off_lem x y b = by (has (edge x y) b.front) refl
  where
    by : (t : Bool) → has (edge x y) b.front ≡ t
        → Gives (Off x y b) (cond t (some (book b.xs b.ys (without (edge x y) b.front))) none)
    by true h = λ w. without_sum w x y b.front h
    by false h = tt

-- a side: at most y to x goes on, and at most x to y comes off
record SideChange (x y : ℕ) (b c : Book) : Type 0 where
  up : (w : ℕ → ℕ → ℕ) → sum_of w c ≤ w y x + sum_of w b
  down : (w : ℕ → ℕ → ℕ) → sum_of w b ≤ sum_of w c + w x y

off_side : (x y : ℕ) (b : Book) (m : Option Book) → Gives (Off x y b) m → Gives (SideChange x y b) m
off_side x y b none g = tt
off_side x y b (some c) g = record { up = λ w. omega (arith, g w); down = λ w. omega (arith, g w) }

at_side : (s : State) (id x y : ℕ) (b : Book) → Gives (SideChange x y b) (side s id (edge x y) (edge y x) b)
unfolding side new_node edges_sum
at_side s id x y b = by (has (edge x y) b.front)
  where
    new : (t : Bool)
        → Gives (SideChange x y b)
        (and_then (cond t (some (book (b.xs ++ get_or s.xs id nan ∷ []) (b.ys ++ get_or s.ys id nan ∷ []) b.front)) none)
        (λ c. some (goes_on (edge y x) c)))
    new true = record { up = λ w. omega arith; down = λ w. omega arith }
    new false = tt

    by : (t : Bool)
        → Gives (SideChange x y b) (cond t (comes_off (edge x y) b) (and_then (new_node s id b) (λ c. some (goes_on (edge y x) c))))
    by true = off_side x y b (comes_off (edge x y) b) (comes_off_lem x y b)
    by false = new (eqb id (length b.xs))

-- the whole step: at most three edges go on, and at most three come off
record QuadChange (q : Quad) (b c : Book) : Type 0 where
  up : (w : ℕ → ℕ → ℕ) → sum_of w c ≤ w q.c q.d + w q.a q.c + w q.d q.b + sum_of w b
  down : (w : ℕ → ℕ → ℕ) → sum_of w b ≤ sum_of w c + w q.a q.b + w q.c q.a + w q.b q.d

step_change : (s : State) (q : Quad) (b : Book) → Gives (QuadChange q b) (book_quad s q b)
unfolding book_quad edges_sum
step_change s q b0 =
    gives_then _ (QuadChange q b0) _ (comes_off (edge q.a q.b) b0) (comes_off_lem q.a q.b b0) λ b1 ab.
    gives_then _ (QuadChange q b0) _ (side s q.c (edge q.c q.a) (edge q.a q.c) b1) (at_side s q.c q.c q.a b1) λ b2 ca.
    gives_then _ (QuadChange q b0) _ (side s q.d (edge q.b q.d) (edge q.d q.b) b2) (at_side s q.d q.b q.d b2) λ b3 bd.
    record {
      up = λ w. omega (arith, ab w, ca.up w, bd.up w);
      down = λ w. omega (arith, ab w, ca.down w, bd.down w);
    }

-- the step of quad k
quad_change : {o : Outline} {size : Float} {s : State} {k : ℕ} (t : AtQuad o size s k) → QuadChange (quad_at s k) t.before t.after
unfolding book_after for_up
quad_change {o} {size} {s} {k} t =
    subst (Gives (QuadChange q t.before)) (sym (ap (λ (m : Option Book). and_then m (book_quad s q)) t.from) ∙ t.to) (step_change s q t.before)
  where
    q : Quad
    q = quad_at s k

-- ---- what it laid and used up

some_of : (x y z : ℕ) → 0 < x + y + z → (0 < x) ⊎ ((0 < y) ⊎ (0 < z))
some_of (suc x) y z h = inl (omega arith)
some_of zero (suc y) z h = inr (inl (omega arith))
some_of zero zero z h = inr (inr (omega arith))

module _ {o : Outline} {size : Float} {s : State} {k u v : ℕ} where
  -- whoever laid it in the book has the step v to u, and that isn't its a to b
  pub laid_lays : LaidInBook o size s k u v → Lays (quad_in s.quads k) u v
  laid_lays L =
      let q = quad_at s k in
      let b = L.step.before in
      let c = L.step.after in
      let w = at u v in
      let up = (quad_change L.step).up w in
      rw (quad_same s k)
      (⊎_elim (λ h. let e = at_is u v _ _ h in laid_dc (record { from = sym e.1; to = sym e.0 }))
      (λ r.
      ⊎_elim (λ h. let e = at_is u v _ _ h in laid_ca (record { from = sym e.1; to = sym e.0 }))
      (λ h. let e = at_is u v _ _ h in laid_bd (record { from = sym e.1; to = sym e.0 })) r)
      (some_of (w q.c q.d) (w q.a q.c) (w q.d q.b)
      (omega (arith, up, L.more, count_sum u v b.front, count_sum u v c.front))))

  -- whoever used it up has the step u to v, and that isn't its d to c
  pub used_uses : UsedInBook o size s k u v → Uses (quad_in s.quads k) u v
  used_uses U =
      let q = quad_at s k in
      let b = U.step.before in
      let c = U.step.after in
      let w = at u v in
      let down = (quad_change U.step).down w in
      rw (quad_same s k)
      (⊎_elim (λ h. let e = at_is u v _ _ h in used_ab (record { from = sym e.0; to = sym e.1 }))
      (λ r.
      ⊎_elim (λ h. let e = at_is u v _ _ h in used_ca (record { from = sym e.0; to = sym e.1 }))
      (λ h. let e = at_is u v _ _ h in used_bd (record { from = sym e.0; to = sym e.1 })) r)
      (some_of (w q.a q.b) (w q.c q.a) (w q.b q.d)
      (omega (arith, down, U.fewer, count_sum u v b.front, count_sum u v c.front))))

-- ---- THE STATEMENTS

module _ (o : Outline) (size : Float) (s : State) where
  -- whoever laid the edge that quad j uses up is among those that quad j must come after
  pub laid_needed : (i j u v : ℕ) → i < j → LaidInBook o size s i u v → UsedInBook o size s j u v → needs s.quads j i ≡ true
  laid_needed i j u v h L U =
      says_needs s.quads j i (record { u = u; v = v; before = h; laid = laid_lays L; used = used_uses U })

  -- an edge on the front after j quads was on the starting front, or one of them laid it
  laid_before : (j u v : ℕ) (b : Book) → book_after o size s j ≡ some b → 0 < on_front u v b
      → (0 < on_front u v (start_book o size)) ⊎ ((i : ℕ) × (i < j) × LaidInBook o size s i u v)
  unfolding book_after for_up
  laid_before zero u v b e h = inl (subst (Gives (λ c. 0 < on_front u v c)) (sym e) h)
  laid_before (suc j) u v b e h = by (book_after o size s j) refl (laid_before j u v)
    where
      Found : ℕ → Type 0
      Found n = (0 < on_front u v (start_book o size)) ⊎ ((i : ℕ) × (i < n) × LaidInBook o size s i u v)

      by : (m : Option Book) → book_after o size s j ≡ m → ((a : Book) → book_after o size s j ≡ some a → 0 < on_front u v a → Found j) → Found (suc j)
      by none f before =
          let never : ◌≡◌ {A = Option Book} none (some b) = sym (ap (λ (m : Option Book). and_then m (book_quad s (quad_at s j))) f) ∙ e in
          let z : ◌≡◌ {A = ℕ} 0 1 = cc in
          absurd (omega arith)
      by (some a) f before = compare (ltb (on_front u v a) (on_front u v b)) refl
        where
          compare : (t : Bool) → ltb (on_front u v a) (on_front u v b) ≡ t → Found (suc j)
          compare true g =
              inr
              (j, omega arith, record { step = record { before = a; after = b; from = f; to = e }; more = ltb-true (on_front u v a) (on_front u v b) g })
          compare false g =
              ⊎_elim inl (λ r. inr (r.0, omega (arith, r.1), r.2)) (before a f (omega (arith, ltb-false (on_front u v a) (on_front u v b) g)))

  -- of an edge used up that wasn't on the starting front, there is one who laid it, and he is among them
  pub used_was_laid : (j u v : ℕ) → UsedInBook o size s j u v
      → (0 < on_front u v (start_book o size)) ⊎ ((i : ℕ) × (i < j) × LaidInBook o size s i u v × (needs s.quads j i ≡ true))
  used_was_laid j u v U =
      ⊎_elim inl (λ r. inr (r.0, r.1, r.2, laid_needed r.0 j u v r.1 r.2 U))
      (laid_before j u v U.step.before U.step.from (omega (arith, U.fewer)))

  -- so in an accepted order the quad that used it up, at p, stands after the one that laid it, at q
  pub accepted_follows : (count : ℕ) (order : List ℕ) (p q u v : ℕ) → order_answer count s.quads order ≡ order_accepted
      → p < length order → q < length order → get_or order q 0 < get_or order p 0
      → LaidInBook o size s (get_or order q 0) u v → UsedInBook o size s (get_or order p 0) u v → q < p
  accepted_follows count order p q u v e hp hq h L U =
      ((accepted_iff count s.quads order).0 e).after p q hp hq
      (record { u = u; v = v; before = h; laid = laid_lays L; used = used_uses U })

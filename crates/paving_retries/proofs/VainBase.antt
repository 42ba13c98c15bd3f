-- What the list has of an edge spares the try: `vain_fails`. And what makes and keeps it true: nothing noted, a note of an edge that was tried in vain, and
-- any later state.
use Prim.Native.Nat.{ℕ, zero, suc, ◌+◌, ◌-◌, ◌*◌, ◌/◌, ◌<◌, ◌≤◌}
use mathlib.Core.List.{List}
use Rattle.std.specs.Prelude.{◌≡◌, Bool, true, false, not, cond, ◌≢◌, eqb, get_or, set, Option, Some, None}
use Rattle.std.proofs.Math.Path.{refl, sym, ap}
use Rattle.std.proofs.Common.{◌∙◌, ap₂, eq-or-lt_of_le, length-set, get_or-set_same, get_or-set_other}
use Rattle.std.proofs.Math.Logic.{⊎_elim}
use native.Mathlib.Omega.{arith}
use Rattle.std.proofs.Math.ListN.{length}
use Rattle.std.proofs.Math.Seq.{set-get_or}
use borrow.Author.Tests.{ltb-true, lt-ltb, le-ltb, eqb-true, eqb-false, eq-eqb, ne_eqb, not-true}
use Rattle.laws.specs.Loop.{for_up}
use Rattle.laws.specs.Tests.{both}
use Rattle.topology.specs.Links.{off}
use Rattle.front.specs.State.{State, next_of}
use Rattle.front.specs.declared.FarCorners.{FarCorners}
use Rattle.paving.specs.Advance.{is_there}
use Rattle.paving_snapshots.specs.Stretches.{has_places, stretched, OffBoth, Stretches, SamePlaces}
use Rattle.paving_snapshots.proofs.StretchLaws.{stretch_written}
use Rattle.paving_retries.specs.Vain.{is_vain, noted, tried_after, forget_turn, forgotten}

-- ---- the list

-- what `forgotten` leaves: as long a list, in which the nodes have no try and no stretch, and the nodes before them what they had
pub record Forgets (from to : ℕ) (l m : List ℕ) : Type 0 where
  pub long : length m ≡ length l
  pub none : (a : ℕ) → from ≤ a → a < to → a < length l / 3 → (get_or m (3 * a) 0 ≡ off) × (get_or m (3 * a + 1) 0 ≡ 0)
  pub kept : (a : ℕ) → a < from → SamePlaces l m a

module _ (from : ℕ) (l : List ℕ) where
  -- after n turns
  forgets_after : (n : ℕ) → Forgets from (from + n) l (for_up n (forget_turn from) l)
  unfolding for_up
  forgets_after zero = record { long = refl; none = λ a low high room. absurd (omega arith); kept = λ a below. (refl, (refl, refl)) }
  forgets_after (suc n) =
      let F = forgets_after n in
      let m = for_up n (forget_turn from) l in
      let W = stretch_written m (from + n) 0 in
      record {
        long = W.long ∙ F.long;
        none = λ a low high room.
            ⊎_elim
            (λ e.
            let q : a ≡ from + n = omega arith in
            let h : from + n < length m / 3 = omega (arith, F.long) in
            rw q (W.first h, W.second h))
            (λ less.
            let P = W.others a (λ q. omega arith) in
            let N = F.none a low less room in
            (P.0 ∙ N.0, P.1.0 ∙ N.1)) (eq-or-lt_of_le (before high));
        kept = λ a below.
            let P = W.others a (λ q. omega arith) in
            let K = F.kept a below in
            (P.0 ∙ K.0, (P.1.0 ∙ K.1.0, P.1.1 ∙ K.1.1));
      }
    where
      before : {a : ℕ} → a < from + suc n → a ≤ from + n
      before h = omega arith

  pub forgets : (to : ℕ) → Forgets from to l (forgotten from to l)
  unfolding forgotten
  forgets to =
      let F = forgets_after (to - from) in
      record { long = F.long; none = λ a low high room. F.none a low (omega arith) room; kept = F.kept }

-- the code's loop: the nodes from, .., a - 1 have been forgotten
pub record Forgetting (from to a : ℕ) (l m : List ℕ) : Type 0 where
  pub low : from ≤ a
  pub high : a - from ≤ to - from
  pub is : m ≡ for_up (a - from) (forget_turn from) l
  pub long : length m ≡ length l

pub forgetting_starts : (from to : ℕ) (l : List ℕ) → Forgetting from to from l l
unfolding for_up
forgetting_starts from to l =
    let none : from - from ≡ 0 = omega arith in
    record { low = omega arith; high = omega arith; is = sym (ap (λ (j : ℕ). for_up j (forget_turn from) l) none); long = refl }

pub forgetting_goes : {from to a : ℕ} {l m k : List ℕ} → Forgetting from to a l m → a < to → k ≡ stretched m a 0 → Forgetting from to (a + 1) l k
unfolding for_up
forgetting_goes {from} {to} {a} {l} {m} F less e =
    let low = F.low in
    let more : a + 1 - from ≡ suc (a - from) = omega arith in
    let at : from + (a - from) ≡ a = omega arith in
    record {
      low = omega arith;
      high = omega arith;
      is = e ∙ (ap₂ (λ (k : List ℕ) (i : ℕ). stretched k i 0) F.is (sym at) ∙ sym (ap (λ (j : ℕ). for_up j (forget_turn from) l) more));
      long = rw e (stretch_written m a 0).long ∙ F.long;
    }

pub forgetting_ends : {from to a : ℕ} {l m : List ℕ} → Forgetting from to a l m → to ≤ a → m ≡ forgotten from to l
unfolding forgotten
forgetting_ends {from} {to} {a} {l} {m} F done =
    let high = F.high in
    let all : a - from ≡ to - from = omega arith in
    F.is ∙ ap (λ (j : ℕ). for_up j (forget_turn from) l) all

-- ---- what the code compares and notes

module _ (l : List ℕ) (a b p q : ℕ) where
  pub vain_without : length l / 3 ≤ a → false ≡ is_vain l a b p q
  unfolding is_vain
  vain_without h = rw (le-ltb a (length l / 3) h)

  pub noted_without : length l / 3 ≤ a → l ≡ noted l a b p q
  unfolding noted
  noted_without h = rw (le-ltb a (length l / 3) h)

  module _ (room : a < length l / 3) where
    pub vain_elsewhere : get_or l (3 * a) 0 ≢ b → false ≡ is_vain l a b p q
    unfolding is_vain
    vain_elsewhere h = rw (lt-ltb a (length l / 3) room, ne_eqb (get_or l (3 * a) 0) b h)

    pub vain_other : get_or l (3 * a) 0 ≡ b → get_or l (3 * a + 1) 0 ≢ p → false ≡ is_vain l a b p q
    unfolding is_vain
    vain_other e h = rw (lt-ltb a (length l / 3) room, eq-eqb (get_or l (3 * a) 0) b e, ne_eqb (get_or l (3 * a + 1) 0) p h)

    pub vain_last : get_or l (3 * a) 0 ≡ b → get_or l (3 * a + 1) 0 ≡ p → eqb (get_or l (3 * a + 2) 0) q ≡ is_vain l a b p q
    unfolding is_vain
    vain_last e f = rw (lt-ltb a (length l / 3) room, eq-eqb (get_or l (3 * a) 0) b e, eq-eqb (get_or l (3 * a + 1) 0) p f)

    pub noted_within : set (set (set l (3 * a) b) (3 * a + 1) p) (3 * a + 2) q ≡ noted l a b p q
    unfolding noted
    noted_within = rw (lt-ltb a (length l / 3) room)

  -- noting what it has changes nothing
  pub noted_again : is_vain l a b p q ≡ true → l ≡ noted l a b p q
  unfolding is_vain noted
  noted_again e =
      let h = both (has_places l a) _ e in
      let k = both (eqb (get_or l (3 * a) 0) b) _ h.1 in
      let m = both (eqb (get_or l (3 * a + 1) 0) p) _ k.1 in
      rw (h.0, ← eqb-true _ b k.0, ← eqb-true _ p m.0, ← eqb-true _ q m.1, set-get_or l (3 * a) 0, set-get_or l (3 * a + 1) 0) (sym (set-get_or l (3 * a + 2) 0))

-- three entries more, at the places of node a
abbrev pub three : List ℕ → ℕ → ℕ → ℕ → ℕ → List ℕ
three l a x y z = set (set (set l (3 * a) x) (3 * a + 1) y) (3 * a + 2) z

module _ (l : List ℕ) (a x y z : ℕ) where
  pub three_long : length (three l a x y z) ≡ length l
  three_long = simp length-set

  pub three_other : (i : ℕ) → i ≢ 3 * a → i ≢ 3 * a + 1 → i ≢ 3 * a + 2 → get_or (three l a x y z) i 0 ≡ get_or l i 0
  three_other i p q r =
      get_or-set_other (set (set l (3 * a) x) (3 * a + 1) y) (3 * a + 2) i z 0 r
      ∙ (get_or-set_other (set l (3 * a) x) (3 * a + 1) i y 0 q ∙ get_or-set_other l (3 * a) i x 0 p)

  module _ (room : 3 * a + 2 < length l) where
    pub three_first : get_or (three l a x y z) (3 * a) 0 ≡ x
    three_first =
        get_or-set_other (set (set l (3 * a) x) (3 * a + 1) y) (3 * a + 2) (3 * a) z 0 (λ e. omega arith)
        ∙ (get_or-set_other (set l (3 * a) x) (3 * a + 1) (3 * a) y 0 (λ e. omega arith) ∙ get_or-set_same l (3 * a) x 0 (omega arith))

-- a note keeps the stretches: its node has none
pub stretches_tried : (r : Option FarCorners) (l : List ℕ) (a b p q n : ℕ) (next snapshot : List ℕ) → b ≢ off → {m : List ℕ} → m ≡ tried_after r l a b p q
    → Stretches l n next snapshot → Stretches m n next snapshot
unfolding noted
stretches_tried (Some w) l a b p q n next snapshot on e S = rw e S
stretches_tried None l a b p q n next snapshot on e S = rw e (by (has_places l a) refl)
  where
    new : List ℕ
    new = three l a b p q

    within : a < length l / 3 → Stretches new n next snapshot
    within room i h node none = which (eqb a i) refl
      where
        which : (t : Bool) → eqb a i ≡ t → (j : ℕ) → i ≤ j → j < get_or new (3 * i + 1) 0 → OffBoth n next snapshot j
        which true f =
            let is = eqb-true a i f in
            let first : get_or new (3 * a) 0 ≡ get_or new (3 * i) 0 = ap (λ (j : ℕ). get_or new (3 * j) 0) is in
            absurd (on (sym (three_first l a b p q (omega arith)) ∙ (first ∙ none)))
        which false f =
            let ne = eqb-false a i f in
            let first = three_other l a b p q (3 * i) (λ g. ne (omega arith)) (λ g. omega arith) (λ g. omega arith) in
            let second = three_other l a b p q (3 * i + 1) (λ g. omega arith) (λ g. ne (omega arith)) (λ g. omega arith) in
            rw second (S i (omega (arith, three_long l a b p q)) node (sym first ∙ none))

    by : (t : Bool) → has_places l a ≡ t → Stretches (cond t new l) n next snapshot
    by true f = within (ltb-true a (length l / 3) f)
    by false f = S

-- ---- what is remembered

-- an edge that is there ends at a node
pub there_is : (s : State) (a b : ℕ) → is_there s a b ≡ true → (b ≢ off) × (next_of s a ≡ b)
there_is s a b e =
    let h = both (not (eqb b off)) (eqb (next_of s a) b) e in
    (eqb-false b off (not-true (eqb b off) h.0), eqb-true (next_of s a) b h.1)

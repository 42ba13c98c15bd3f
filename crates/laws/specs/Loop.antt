-- Counted loops. Every loop of ours is `for_up`, which a definition names by its turn; a loop that can be left early is a `for_up` whose state is
-- a `Turn`, and a search is one whose state is whether it has found anything. So one record, `Loop`, can be the invariant of every loop in the
-- code. Assumes nothing.
use Prim.Native.Nat.{ℕ, zero, suc, ◌+◌, ◌-◌, ◌≤◌, ◌<◌, zero-le}
use Rattle.std.specs.Prelude.{◌≡◌, Bool, ◌||◌, ◌⊎◌}
use Rattle.std.proofs.Math.Path.{refl, sym, ap, ap₂}
use Rattle.std.proofs.Common.{◌∙◌, subst, true≢false, le_antisymm, le_of_suc-le-suc}
use Rattle.std.proofs.Math.Bool.{true, false}
use Rattle.std.proofs.Math.Logic.{⊎_elim}
use Rattle.std.proofs.Math.Numerals.{add-one}
use Rattle.std.proofs.Math.Nat.{eq-or-lt_of_le}
use native.Mathlib.Omega.{arith}
use Rattle.laws.specs.Tests.{neither}

-- ---- the loop

-- `for i in 0..n`: the turns 0, 1, .., n - 1, each on what the one before it left
unfoldable pub for_up {ℓ} : {A : Type ℓ} → ℕ → (ℕ → A → A) → A → A
for_up zero turn a = a
for_up (suc n) turn a = turn n (for_up n turn a)

-- The invariant: i turns of at most n have been taken from a, and left s.
pub record Loop {A : Type 0} (turn : ℕ → A → A) (a : A) (n i : ℕ) (s : A) : Type 0 where
  pub within : i ≤ n
  pub same : s ≡ for_up i turn a

module _ {A : Type 0} (turn : ℕ → A → A) (a : A) where
  pub loop_start_lem : (n : ℕ) → Loop turn a n 0 a
  unfolding for_up
  loop_start_lem n = record { within = omega arith; same = refl }

  pub loop_next : {n i : ℕ} {s : A} → Loop turn a n i s → i < n → Loop turn a n (i + 1) (turn i s)
  unfolding for_up
  loop_next {n} {i} {s} l h = record { within = omega arith; same = rw add-one (ap (turn i) l.same) }

  -- the counter has reached n: so it is n
  pub loop_end : {n i : ℕ} {s : A} → Loop turn a n i s → n ≤ i → s ≡ for_up n turn a
  loop_end {n} {i} l h = l.same ∙ ap (λ (k : ℕ). for_up k turn a) (le_antisymm l.within h)

-- what the first turns keep, the whole loop has: `keeps` shows it of one turn more
pub for_up_keeps {ℓ m} : {A : Type ℓ} (P : ℕ → A → Type m) (n : ℕ) (turn : ℕ → A → A) (a : A)
    → P 0 a → ((i : ℕ) (s : A) → i < n → P i s → P (suc i) (turn i s)) → P n (for_up n turn a)
unfolding for_up
for_up_keeps P zero turn a start keeps = start
for_up_keeps P (suc n) turn a start keeps =
    keeps n (for_up n turn a) (omega arith) (for_up_keeps P n turn a start (λ i s h. keeps i s (omega arith)))

-- two turns that do the same to every state give the same loop
pub for_up_same {ℓ} : {A : Type ℓ} (n : ℕ) (turn other : ℕ → A → A) (a : A)
    → ((i : ℕ) (s : A) → i < n → turn i s ≡ other i s) → for_up n turn a ≡ for_up n other a
unfolding for_up
for_up_same zero turn other a same = refl
for_up_same (suc n) turn other a same =
    same n (for_up n turn a) (omega arith) ∙ ap (other n) (for_up_same n turn other a (λ i s h. same i s (omega arith)))

-- two loops whose turns keep their states related, each turn of one with the same turn of the other
pub for_up_related {ℓ m} : {A B : Type ℓ} (R : A → B → Type m) (n : ℕ) (turn : ℕ → A → A) (other : ℕ → B → B) (a : A) (b : B)
    → R a b → ((i : ℕ) (s : A) (t : B) → R s t → R (turn i s) (other i t)) → R (for_up n turn a) (for_up n other b)
unfolding for_up
for_up_related R zero turn other a b start keeps = start
for_up_related R (suc n) turn other a b start keeps =
    keeps n (for_up n turn a) (for_up n other b) (for_up_related R n turn other a b start keeps)

-- a state that no later turn changes is the loop's answer
pub for_up_stays {ℓ} : {A : Type ℓ} (n i : ℕ) (turn : ℕ → A → A) (a s : A) → i ≤ n
    → for_up i turn a ≡ s → ((j : ℕ) → turn j s ≡ s) → for_up n turn a ≡ s
unfolding for_up
for_up_stays zero i turn a s h e fixed = ap (λ (k : ℕ). for_up k turn a) (le_antisymm zero-le h) ∙ e
for_up_stays (suc n) i turn a s h e fixed =
    ⊎_elim (λ same. ap (λ (k : ℕ). for_up k turn a) (sym same) ∙ e)
    (λ less. ap (turn n) (for_up_stays n i turn a s (le_of_suc-le-suc less) e fixed) ∙ fixed n) (eq-or-lt_of_le h)

-- ---- a loop that can be left: its turn goes on with a state, or is out with the answer

pub data Turn (S R : Type 0) : Type 0 where
  go : S → Turn S R
  out : R → Turn S R

-- what has left the loop stays as it is
abbrev pub onwards : {S R : Type 0} → (ℕ → S → Turn S R) → ℕ → Turn S R → Turn S R
onwards turn i (go s) = turn i s
onwards turn i (out r) = out r

-- the answer of a loop that has ended: of one that was never left, what its last state gives
abbrev pub answer : {S R : Type 0} → (S → R) → Turn S R → R
answer end (go s) = end s
answer end (out r) = r

-- at most n turns from s
unfoldable pub run : {S R : Type 0} → ℕ → (ℕ → S → Turn S R) → (S → R) → S → R
run n turn end s = answer end (for_up n (onwards turn) (go s))

module _ {S R : Type 0} (turn : ℕ → S → Turn S R) (end : S → R) (a : S) where
  -- the invariant of the code, which is still in the loop
  abbrev pub Run : ℕ → ℕ → S → Type 0
  Run n i s = Loop (onwards turn) (go a) n i (go s)

  pub run_start : (n : ℕ) → Run n 0 a
  run_start n = loop_start_lem (onwards turn) (go a) n

  pub run_go : {n i : ℕ} {s : S} (t : S) → Run n i s → i < n → turn i s ≡ go t → Run n (i + 1) t
  run_go {n} {i} {s} t l h e = subst (Loop (onwards turn) (go a) n (i + 1)) e (loop_next (onwards turn) (go a) l h)

  pub run_out : {n i : ℕ} {s : S} (r : R) → Run n i s → i < n → turn i s ≡ out r → r ≡ run n turn end a
  unfolding run
  run_out {n} {i} {s} r l h e =
      let next = loop_next (onwards turn) (go a) l h in
      ap (answer end) (sym (for_up_stays n (i + 1) (onwards turn) (go a) (out r) next.within (sym next.same ∙ e) (λ j. refl)))

  pub run_end : {n i : ℕ} {s : S} → Run n i s → n ≤ i → end s ≡ run n turn end a
  unfolding run
  run_end l h = ap (answer end) (loop_end (onwards turn) (go a) l h)

-- what the turns keep: P of every state that goes on, and Q of every answer
abbrev pub Kept : {S R : Type 0} → (S → Type 0) → (R → Type 0) → Turn S R → Type 0
Kept P Q (go s) = P s
Kept P Q (out r) = Q r

-- where P also says how many turns were taken
pub run_keeps_at : {S R : Type 0} (P : ℕ → S → Type 0) (Q : R → Type 0) (n : ℕ) (turn : ℕ → S → Turn S R) (end : S → R) (s : S)
    → P 0 s → ((i : ℕ) (t : S) → i < n → P i t → Kept (P (suc i)) Q (turn i t)) → ((t : S) → P n t → Q (end t)) → Q (run n turn end s)
unfolding run
run_keeps_at {S} {R} P Q n turn end s start keeps ends =
    last (for_up n (onwards turn) (go s)) (for_up_keeps (λ i t. Kept (P i) Q t) n (onwards turn) (go s) start next)
  where
    next : (i : ℕ) (t : Turn S R) → i < n → Kept (P i) Q t → Kept (P (suc i)) Q (onwards turn i t)
    next i (go t) h p = keeps i t h p
    next i (out r) h q = q

    last : (t : Turn S R) → Kept (P n) Q t → Q (answer end t)
    last (go t) p = ends t p
    last (out r) q = q

pub run_keeps : {S R : Type 0} (P : S → Type 0) (Q : R → Type 0) (n : ℕ) (turn : ℕ → S → Turn S R) (end : S → R) (s : S)
    → P s → ((i : ℕ) (t : S) → i < n → P t → Kept P Q (turn i t)) → ((t : S) → P t → Q (end t)) → Q (run n turn end s)
run_keeps P Q n turn end s start keeps ends = run_keeps_at (λ i. P) Q n turn end s start keeps ends

-- ---- a search: whether the test holds at some index below n

abbrev pub any_turn : (ℕ → Bool) → ℕ → Bool → Bool
any_turn test i found = found || test i

unfoldable pub any_up : ℕ → (ℕ → Bool) → Bool
any_up n test = for_up n (any_turn test) false

module _ (test : ℕ → Bool) where
  -- the invariant of the code, which has found nothing yet
  abbrev pub Scan : ℕ → ℕ → Type 0
  Scan n i = Loop (any_turn test) false n i false

  pub scan_start : (n : ℕ) → Scan n 0
  scan_start n = loop_start_lem (any_turn test) false n

  pub scan_next : {n i : ℕ} → Scan n i → i < n → test i ≡ false → Scan n (i + 1)
  scan_next {n} {i} l h e = subst (Loop (any_turn test) false n (i + 1)) e (loop_next (any_turn test) false l h)

  pub scan_hit : {n i : ℕ} → Scan n i → i < n → test i ≡ true → true ≡ any_up n test
  unfolding any_up
  scan_hit {n} {i} l h e =
      let next = loop_next (any_turn test) false l h in
      sym (for_up_stays n (i + 1) (any_turn test) false true next.within (sym next.same ∙ e) (λ j. refl))

  pub scan_none : {n i : ℕ} → Scan n i → n ≤ i → false ≡ any_up n test
  unfolding any_up
  scan_none l h = loop_end (any_turn test) false l h

  -- where the search found something, the test holds at some index; where it found nothing, at none
  pub any_found : (n : ℕ) → any_up n test ≡ true → (i : ℕ) × (i < n) × (test i ≡ true)
  unfolding any_up for_up
  any_found zero e = absurd (true≢false (sym e))
  any_found (suc n) e = choose (any_up n test) refl (any_found n) (test n) refl
    where
      choose : (b : Bool) → any_up n test ≡ b → (any_up n test ≡ true → (i : ℕ) × (i < n) × (test i ≡ true))
          → (t : Bool) → test n ≡ t → (i : ℕ) × (i < suc n) × (test i ≡ true)
      choose true f below t g = let r = below f in (r.0, omega (arith, r.1), r.2)
      choose false f below true g = (n, omega arith, g)
      choose false f below false g = absurd (true≢false (sym e ∙ ap₂ (λ (b c : Bool). b || c) f g))

  pub none_found : (n : ℕ) → ((i : ℕ) → i < n → test i ≡ false) → any_up n test ≡ false
  unfolding any_up
  none_found n none = for_up_keeps (λ i found. found ≡ false) n (any_turn test) false refl (λ i found h e. ap₂ (λ (b c : Bool). b || c) e (none i h))

  pub any_none : (n : ℕ) → any_up n test ≡ false → (i : ℕ) → i < n → test i ≡ false
  unfolding any_up for_up
  any_none zero e i h = absurd (omega arith)
  any_none (suc n) e i h =
      let halves = neither (any_up n test) (test n) e in
      ⊎_elim (λ last. ap test last ∙ halves.1) (any_none n halves.0 i) (last_or_less i n h)
    where
      last_or_less : (i n : ℕ) → i < suc n → (i ≡ n) ⊎ (i < n)
      last_or_less i n h = eq-or-lt_of_le (le_of_suc-le-suc h)

  -- and the other way
  pub any_true : (n i : ℕ) → i < n → test i ≡ true → any_up n test ≡ true
  any_true n i h e = by (any_up n test) refl
    where
      by : (b : Bool) → any_up n test ≡ b → b ≡ true
      by true f = refl
      by false f = absurd (true≢false (sym e ∙ any_none n f i h))

  pub any_false : (n : ℕ) → ((i : ℕ) → i < n → test i ≡ false) → any_up n test ≡ false
  any_false n none = by (any_up n test) refl
    where
      by : (b : Bool) → any_up n test ≡ b → b ≡ false
      by false f = refl
      by true f = let found = any_found n f in absurd (true≢false (sym found.2 ∙ none found.0 found.1))

-- of `count` items none before `from` passes the test, so a scan may begin there
pub record Unfound (test : ℕ → Bool) (from count : ℕ) : Type 0 where
  pub within : from ≤ count
  pub none : any_up from test ≡ false

pub unfound_none : (test : ℕ → Bool) (count : ℕ) → Unfound test 0 count
unfolding any_up for_up
unfound_none test count = record { within = omega arith; none = refl }

module _ {from count : ℕ} where
  pub scan_from : {test : ℕ → Bool} → Unfound test from count → Scan test count from
  unfolding any_up
  scan_from u = record { within = u.within; same = sym u.none }

  -- what is found before `from` is found
  pub found_before : (test : ℕ → Bool) → from ≤ count → true ≡ any_up from test → true ≡ any_up count test
  found_before test le e = let f = any_found test from (sym e) in sym (any_true test count f.0 (omega (arith, f.1)) f.2)

-- ---- a sum: f 0 + f 1 + .. + f (n - 1)

abbrev pub sum_turn : (ℕ → ℕ) → ℕ → ℕ → ℕ
sum_turn f i sum = sum + f i

unfoldable pub sum_up : ℕ → (ℕ → ℕ) → ℕ
sum_up n f = for_up n (sum_turn f) 0

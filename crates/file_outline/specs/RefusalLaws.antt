-- Laws of the refusals: each way out of the code is a case of a definition. Assumes nothing.
use Rattle.std.proofs.Math.Path.{◌≡◌, refl, sym, ap}
use Rattle.std.proofs.Common.{ap₂, ◌∙◌, subst, arith}
use Rattle.std.specs.Prelude.{Bool, List, leb, eqb}
use Rattle.std.proofs.Math.Bool.{true, false, cond}
use Prim.Native.Nat.{ℕ, ◌+◌, ◌-◌, ◌*◌, ◌≤◌, ◌<◌, min}
use borrow.Author.Tests.{lt-ltb, le-ltb, le-leb, lt-leb, eq-eqb, ne_eqb, ltb-false, leb-true}
use Rattle.std.proofs.Math.Dec.{ltb}
use Rattle.std.proofs.Math.ListN.{length}
use Rattle.laws.specs.Loop.{Loop, loop_start_lem, loop_end, loop_next, sum_up, sum_turn, for_up_stays}
use Rattle.laws.specs.Tests.{both}
use Rattle.outline.specs.Outline.{first_of}
use Rattle.outline.proofs.RefusalLaws.{first_stays}
use Rattle.outline.specs.Accepted.{first_zero}
use Rattle.file_outline.specs.File.{number_at, block_at, check_of, block_refusal, zero_from, head_loops, head_length, head_points, head_sound, head_refusal}
use Rattle.file_outline.specs.File.{point_blocks, points_refusal, points_turn, blocks_refusal, file_points, file_length, end_refusal, file_refusal}
use Rattle.file_outline.specs.ByteLaws.{NumberOf}

-- ---- a block

module _ (b : List ℕ) where
  pub block_refused_short : length b < 512 → 13 ≡ block_refusal b
  unfolding block_refusal
  block_refused_short h = rw (lt-ltb (length b) 512 h)

  module _ (long : 512 ≤ length b) {sum check : ℕ} (s : sum ≡ check_of b) (n : NumberOf 2 b 510 check) where
    pub block_unrefused : sum ≡ check → 0 ≡ block_refusal b
    unfolding block_refusal
    block_unrefused e = rw (le-ltb (length b) 512 long, eq-eqb (check_of b) (number_at 2 b 510) (sym s ∙ e ∙ n.same))

    pub block_refused_check : (sum ≡ check → ⊥) → 12 ≡ block_refusal b
    unfolding block_refusal
    block_refused_check e =
        rw (le-ltb (length b) 512 long, ne_eqb (check_of b) (number_at 2 b 510) (λ (f : check_of b ≡ number_at 2 b 510). e (s ∙ f ∙ sym n.same)))

  -- a block that isn't refused is whole
  pub block_long : 0 ≡ block_refusal b → 512 ≤ length b
  unfolding block_refusal
  block_long e = go (ltb (length b) 512) refl e
    where
      go : (t : Bool) → ltb (length b) 512 ≡ t → ◌≡◌ {A = ℕ} 0 (cond t 13 (cond (eqb (check_of b) (number_at 2 b 510)) 0 12)) → 512 ≤ length b
      go true f e = absurd (omega arith)
      go false f e = ltb-false (length b) 512 f

-- ---- the first of two refusals

module _ {r a : ℕ} (next : ℕ) (e : r ≡ a) where
  pub first_refused : (r ≡ 0 → ⊥) → r ≡ first_of a next
  first_refused h = e ∙ sym (first_stays a next (λ z. h (e ∙ z)))

  pub first_unrefused : r ≡ 0 → first_of a next ≡ next
  first_unrefused h = ap (λ (k : ℕ). first_of k next) (sym e ∙ h)

-- ---- the head

-- the loop that adds up the lengths
pub record HeadCounting (h : List ℕ) (n k sum : ℕ) : Type 0 where
  pub same : Loop (sum_turn (head_length h)) 0 n k sum
  pub small : sum ≤ 65535 * k

module _ {h : List ℕ} {n k sum : ℕ} (l : HeadCounting h n k sum) where
  pub counting_next : {x : ℕ} → k < n → NumberOf 2 h (14 + 2 * k) x → HeadCounting h n (k + 1) (sum + x)
  counting_next {x} lt e = record {
    same = subst (λ (y : ℕ). Loop (sum_turn (head_length h)) 0 n (k + 1) (sum + y)) (sym e.same) (loop_next (sum_turn (head_length h)) 0 l.same lt);
    small = omega (arith, l.small, e.small);
  }

  pub counting_end : n ≤ k → sum ≡ head_points h n
  unfolding head_points sum_up
  counting_end le = loop_end (sum_turn (head_length h)) 0 l.same le

pub counting_start : (h : List ℕ) (n : ℕ) → HeadCounting h n 0 0
counting_start h n = record { same = loop_start_lem (sum_turn (head_length h)) 0 n; small = omega arith }

module _ (h : List ℕ) {n : ℕ} (l : NumberOf 2 h 12 n) where
  pub no_loops : n < 1 → false ≡ head_sound h
  unfolding head_sound
  no_loops lt = rw (← l.same, lt-leb 1 n lt)

  module _ (some : 1 ≤ n) where
    pub many_loops : 8 < n → false ≡ head_sound h
    unfolding head_sound
    many_loops lt = rw (← l.same, le-leb 1 n some, lt-leb n 8 lt)

    module _ (few : n ≤ 8) {p : ℕ} (e : p ≡ head_points h n) where
      pub many_points : 248 < p → false ≡ head_sound h
      unfolding head_sound
      many_points lt = rw (← l.same, le-leb 1 n some, le-leb n 8 few, ← e, lt-leb p 248 lt)

      pub head_zeros : {z : Bool} → p ≤ 248 → z ≡ zero_from h (14 + 2 * n) → z ≡ head_sound h
      unfolding head_sound
      head_zeros le f = rw (← l.same, le-leb 1 n some, le-leb n 8 few, ← e, le-leb p 248 le) f

-- what a sound head says
pub record HeadSound (h : List ℕ) : Type 0 where
  pub some : 1 ≤ head_loops h
  pub few : head_loops h ≤ 8
  pub points : head_points h (head_loops h) ≤ 248
  pub zeros : zero_from h (14 + 2 * head_loops h) ≡ true

pub head_sound_lem : (h : List ℕ) → head_sound h ≡ true → HeadSound h
unfolding head_sound
head_sound_lem h e =
    let a = both (leb 1 (head_loops h)) _ e in
    let b = both (leb (head_loops h) 8) _ a.1 in
    let c = both (leb (head_points h (head_loops h)) 248) _ b.1 in
    record { some = leb-true _ _ a.0; few = leb-true _ _ b.0; points = leb-true _ _ c.0; zeros = c.1 }

sound_by : (s : Bool) → ◌≡◌ {A = ℕ} (cond s 0 13) 0 → s ≡ true
sound_by true e = refl
sound_by false e = absurd (omega arith)

-- what a head says that isn't refused
pub record Headed (h : List ℕ) : Type 0 where
  pub long : 512 ≤ length h
  pub sound : HeadSound h

pub headed : (h : List ℕ) → head_refusal h ≡ 0 → Headed h
unfolding head_refusal
headed h e =
    let z = first_zero (block_refusal h) (cond (head_sound h) 0 13) e in
    record { long = block_long h (sym z.0); sound = head_sound_lem h (sound_by (head_sound h) z.1) }

-- its points, as counted
pub head_count : {h : List ℕ} {loops n : ℕ} → Headed h → NumberOf 2 h 12 loops → n ≡ head_points h loops → n ≤ 248
head_count {h} d l p = rw (p, l.same) d.sound.points

module _ (h : List ℕ) {r : ℕ} (e : r ≡ block_refusal h) where
  pub head_block_lem : (r ≡ 0 → ⊥) → r ≡ head_refusal h
  unfolding head_refusal
  head_block_lem n = first_refused (cond (head_sound h) 0 13) e n

  module _ (z : r ≡ 0) {s : Bool} (f : s ≡ head_sound h) where
    pub head_accepted : s ≡ true → 0 ≡ head_refusal h
    unfolding head_refusal
    head_accepted t = sym (first_unrefused (cond (head_sound h) 0 13) e z ∙ ap (λ (b : Bool). cond b 0 13) (sym f ∙ t))

    pub head_refused : s ≡ false → 13 ≡ head_refusal h
    unfolding head_refusal
    head_refused t = sym (first_unrefused (cond (head_sound h) 0 13) e z ∙ ap (λ (b : Bool). cond b 0 13) (sym f ∙ t))

-- ---- a block of points

module _ (file : List ℕ) (n k : ℕ) {b : List ℕ} (at : b ≡ block_at file (k + 1)) {r : ℕ} (e : r ≡ block_refusal b) where
  fill : Bool → ℕ
  fill z = cond z 0 13

  by : List ℕ → ℕ
  by b = first_of (block_refusal b) (fill (zero_from b (16 * min (n - 31 * k) 31)))

  pub points_block : (r ≡ 0 → ⊥) → r ≡ points_refusal file n k
  unfolding points_refusal by fill
  points_block h = first_refused (fill (zero_from b (16 * min (n - 31 * k) 31))) e h ∙ ap by at

  module _ (z : r ≡ 0) {s : Bool} {here : ℕ} (m : here ≡ min (n - 31 * k) 31) (f : s ≡ zero_from b (16 * here)) where
    filled_by : first_of (block_refusal b) (fill (zero_from b (16 * min (n - 31 * k) 31))) ≡ fill s
    filled_by = first_unrefused _ e z ∙ ap fill (ap (λ (j : ℕ). zero_from b (16 * j)) (sym m) ∙ sym f)

    pub points_accepted : s ≡ true → 0 ≡ points_refusal file n k
    unfolding points_refusal by fill
    points_accepted t = sym (ap by (sym at) ∙ filled_by ∙ ap fill t)

    pub points_refused : s ≡ false → 13 ≡ points_refusal file n k
    unfolding points_refusal by fill
    points_refused t = sym (ap by (sym at) ∙ filled_by ∙ ap fill t)

-- ---- all blocks of points: the loop's invariant is that none so far is refused

module _ (file : List ℕ) (n : ℕ) where
  abbrev pub BlocksUnrefused : ℕ → Type 0
  BlocksUnrefused k = Loop (points_turn file n) 0 (point_blocks n) k 0

  module _ {k r : ℕ} (l : BlocksUnrefused k) (h : 31 * k < n) (e : r ≡ points_refusal file n k) where
    within : k < point_blocks n
    within = omega arith

    pub blocks_unrefused_next : r ≡ 0 → BlocksUnrefused (k + 1)
    blocks_unrefused_next z = subst (Loop (points_turn file n) 0 (point_blocks n) (k + 1)) (sym e ∙ z) (loop_next (points_turn file n) 0 l within)

    pub blocks_unrefused_out : (r ≡ 0 → ⊥) → r ≡ blocks_refusal file n
    unfolding blocks_refusal
    blocks_unrefused_out z =
        let next = loop_next (points_turn file n) 0 l within in
        sym (for_up_stays (point_blocks n) (k + 1) (points_turn file n) 0 r next.within (sym next.same ∙ sym e)
        (λ j. first_stays r (points_refusal file n j) z))

  pub blocks_unrefused_end : {k : ℕ} → BlocksUnrefused k → n ≤ 31 * k → 0 ≡ blocks_refusal file n
  unfolding blocks_refusal
  blocks_unrefused_end {k} l h = loop_end (points_turn file n) 0 l (omega arith)

-- ---- the file

module _ (file : List ℕ) {h : List ℕ} (at : h ≡ block_at file 0) {r : ℕ} (e : r ≡ head_refusal h) where
  after : ℕ
  after = first_of (blocks_refusal file (file_points file)) (end_refusal file (file_points file))

  pub file_head : (r ≡ 0 → ⊥) → r ≡ file_refusal file
  unfolding file_refusal after
  file_head n = first_refused after (e ∙ ap head_refusal at) n

  module _ (z : r ≡ 0) {loops n q : ℕ} (l : NumberOf 2 h 12 loops) (p : n ≡ head_points h loops) (f : q ≡ blocks_refusal file n) where
    count : n ≡ file_points file
    count = p ∙ ap₂ (λ (g : List ℕ) (k : ℕ). head_points g k) at (l.same ∙ ap head_loops at)

    rest : file_refusal file ≡ after
    unfolding file_refusal after
    rest = first_unrefused after (e ∙ ap head_refusal at) z

    blocks : q ≡ blocks_refusal file (file_points file)
    blocks = f ∙ ap (blocks_refusal file) count

    pub file_blocks : (q ≡ 0 → ⊥) → q ≡ file_refusal file
    unfolding after
    file_blocks m = first_refused (end_refusal file (file_points file)) blocks m ∙ sym rest

    module _ (y : q ≡ 0) where
      last : file_refusal file ≡ end_refusal file n
      unfolding after
      last = rest ∙ first_unrefused (end_refusal file (file_points file)) blocks y ∙ ap (end_refusal file) (sym count)

      pub file_longer : file_length n < length file → 13 ≡ file_refusal file
      unfolding end_refusal
      file_longer lt = sym (last ∙ ap (λ (b : Bool). cond b 13 0) (lt-ltb (file_length n) (length file) lt))

      pub file_accepted : length file ≤ file_length n → 0 ≡ file_refusal file
      unfolding end_refusal
      file_accepted le = sym (last ∙ ap (λ (b : Bool). cond b 13 0) (le-ltb (file_length n) (length file) le))

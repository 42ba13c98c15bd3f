-- What holds of the definitions of specs/FileLaws.antt.
use Rattle.std.specs.Prelude.{Bool, cond, ◌⊎◌, ◌≡◌, length, set}
use Rattle.std.proofs.Math.Bool.{true, false}
use mathlib.Core.List.{List, []}
use Rattle.std.proofs.Math.Logic.{inl, ⊎_elim}
use Rattle.std.proofs.Common.{inr, ◌∙◌, subst, mul-zero, mul-suc, mul-le-mul_left, eq-or-lt_of_le, arith, add-one, length-set, get_or-set_same, get_or-set_other}
use Rattle.std.proofs.Math.Path.{refl, sym, ap, ap₂, fun_ext}
use Prim.Native.Nat.{ℕ, suc, ◌+◌, ◌-◌, ◌*◌, ◌<◌, ◌≤◌}
use borrow.Author.Tests.{leb-false}
use Rattle.laws.specs.Loop.{Loop, loop_start_lem, loop_next, for_up, for_up_keeps}
use Rattle.index_pools.specs.declared.Rect.{Rect}
use Rattle.laws.proofs.Sums.{sum_suc}
use Rattle.index_pools.specs.Pool.{cells, capacity, own_place, link_place, used, filed, head_at, own_at, link_at, chain, cell_of}
use Rattle.index_pools.specs.Pool.{InRect, span, file_row, file_line, key_count, takes, file}
use Rattle.index_pools.specs.Pool.{Holds, Under, key_sum, Filed, Indexed}
use Rattle.index_pools.specs.ChainLaws.{same_or_not, less_other}
use Rattle.index_pools.specs.FileLaws.{filed_some, with_row, PoolKept, holds_less, row_kept, with_rows, row_length, row_used, takes_next, takes_some, RectFiling}

-- ---- one item under a row, and under a rectangle

pub rect_kept : {S : ℕ → ℕ → Type 0} (n count u : ℕ) (r : Rect) (own h : ℕ) (pool : List ℕ) → 4 ≤ n → own < count
    → u + span r.left r.right * h ≤ capacity n → PoolKept n count u S pool
    → PoolKept n count (u + span r.left r.right * h) (with_rows S (cells n) r own h) (for_up h (file_line r own) pool)
rect_kept {S} n count u r own h pool some small room K =
    for_up_keeps (λ k p. PoolKept n count (u + w * k) (with_rows S (cells n) r own k) p) h (file_line r own) pool start more
  where
    w : ℕ
    w = span r.left r.right

    start : PoolKept n count (u + w * 0) (with_rows S (cells n) r own 0) pool
    start =
        record {
          long = K.long;
          places = omega (arith, K.places, mul-zero w);
          holds = holds_less (λ c x. ⊎_elim (λ s. s) (λ q. absurd (omega (arith, q.2)))) K.holds;
        }

    more : (k : ℕ) (p : List ℕ) → k < h → PoolKept n count (u + w * k) (with_rows S (cells n) r own k) p
        → PoolKept n count (u + w * suc k) (with_rows S (cells n) r own (suc k)) (file_row r.left r.right (r.low + k) own p)
    more k p less Kp =
        let next : u + w * suc k ≡ u + w * k + w = omega (arith, mul-suc w k) in
        let R = row_kept n count (u + w * k) r.left r.right (r.low + k) own p some small
        (omega (arith, mul-suc w k, mul-le-mul_left w less)) Kp in
        record {
          long = R.long;
          places = R.places ∙ sym next;
          holds = holds_less (λ c x. ⊎_elim (λ s. inl (inl s)) (λ q. last c x q (same_or_not q.0 k))) R.holds;
        }
      where
        last : (c x : ℕ)
            (q : (l i : ℕ) × (l < suc k) × (i < w) × (c ≡ cell_of (cells n) (r.left + i) (r.low + l)) × (x ≡ own))
            → (q.0 ≡ k) ⊎ (q.0 ≡ k → ⊥)
            → with_row (with_rows S (cells n) r own k) (cells n) r.left (r.low + k) own w c x
        last c x q =
            ⊎_elim (λ e. inr (q.1, q.3, q.4 ∙ ap (λ (l : ℕ). cell_of (cells n) (r.left + q.1) (r.low + l)) e, q.5))
            (λ other. inl (inr (q.0, q.1, less_other q.2 other, q.3, q.4, q.5)))

-- ---- lengths and places

lines_length : (r : Rect) (own h : ℕ) (pool : List ℕ) → length (for_up h (file_line r own) pool) ≡ length pool
lines_length r own h pool =
    for_up_keeps (λ k q. length q ≡ length pool) h (file_line r own) pool refl
    (λ k q less e. row_length r.left r.right (r.low + k) own q ∙ e)

pub filed_length : (r : Rect) (own : ℕ) (pool : List ℕ) → length (file r own pool) ≡ length pool
unfolding file
filed_length r own pool = by (takes r own pool)
  where
    by : (b : Bool) → length (cond b (set (for_up (span r.low r.high) (file_line r own) pool) 1 (own + 1)) pool) ≡ length pool
    by true = length-set (for_up (span r.low r.high) (file_line r own) pool) 1 (own + 1) ∙ lines_length r own (span r.low r.high) pool
    by false = refl

-- ---- the second number, how many items are filed, is read for nothing else

module _ (pool : List ℕ) (v : ℕ) where
  abbrev noted : List ℕ
  noted = set pool 1 v

  first_kept : used noted ≡ used pool
  first_kept = get_or-set_other pool 1 0 v 0 (λ e. omega arith)

  head_kept : (c : ℕ) → head_at noted c ≡ head_at pool c
  head_kept c = get_or-set_other pool 1 (2 + c) v 0 (λ e. omega arith)

  own_kept : (n : ℕ) → own_at n noted ≡ own_at n pool
  own_kept n = fun_ext (λ t. get_or-set_other pool 1 (own_place n t) v 0 (λ e. omega arith))

  link_kept : (n : ℕ) → link_at n noted ≡ link_at n pool
  link_kept n = fun_ext (λ t. get_or-set_other pool 1 (link_place n t) v 0 (λ e. omega arith))

  noted_holds : {S : ℕ → ℕ → Type 0} {n count : ℕ} → Holds n pool count S → Holds n noted count S
  unfolding chain
  noted_holds {S} {n} {count} H =
      record {
        fits = rw first_kept H.fits;
        heads = λ c h. rw (first_kept, head_kept c) (H.heads c h);
        owners = λ t h. rw (ap (λ (f : ℕ → ℕ). f t) (own_kept n)) (H.owners t (rw first_kept at h));
        has = λ c x h s. rw (head_kept c, own_kept n, link_kept n) (H.has c x h s);
      }

-- ---- the next item

module _ (pool : List ℕ) (rects : ℕ → Rect) (id : ℕ) (r : Rect) (e : rects id ≡ r) where
  -- an item's keys are those of the items before it, or its own
  part : (c x : ℕ) → Under (cells (length pool)) rects (id + 1) c x
      → with_rows (Under (cells (length pool)) rects id) (cells (length pool)) r id (span r.low r.high) c x
  part c x U =
      ⊎_elim
      (λ same.
      let w : InRect r U.i U.j = subst (λ (q : Rect). InRect q U.i U.j) (ap rects same ∙ e) U.within in
      let first : U.i ≡ r.left + (U.i - r.left) = omega (arith, w.left) in
      let second : U.j ≡ r.low + (U.j - r.low) = omega (arith, w.low) in
      inr (
        U.j - r.low,
        U.i - r.left,
        omega (arith, w.low, w.high),
        omega (arith, w.left, w.right),
        U.cell ∙ ap₂ (cell_of (cells (length pool))) first second,
        same,
      ))
      (λ other. inl (record { i = U.i; j = U.j; counted = less_other (omega (arith, U.counted)) other; within = U.within; cell = U.cell }))
      (same_or_not x id)

  next_sum : key_sum rects (id + 1) ≡ key_sum rects id + key_count r
  next_sum = rw (add-one, sum_suc, e) refl

  abbrev lines : List ℕ
  lines = for_up (span r.low r.high) (file_line r id) pool

  lines_filed : 4 ≤ length pool → used pool + key_count r ≤ capacity (length pool) → Filed pool rects id → Filed (set lines 1 (id + 1)) rects (id + 1)
  lines_filed some room F =
      let H = F.holds in
      let K = rect_kept (length pool) (id + 1) (used pool) r id (span r.low r.high) pool some (omega arith) room
      (record {
        long = refl;
        places = refl;
        holds = record { fits = H.fits; heads = H.heads; owners = λ t h. omega (arith, H.owners t h); has = H.has };
      }) in
      record {
        exact = first_kept lines (id + 1) ∙ K.places ∙ ap (λ (u : ℕ). u + key_count r) F.exact ∙ sym next_sum;
        holds =
            subst (λ (k : ℕ). Holds k (set lines 1 (id + 1)) (id + 1) (Under (cells k) rects (id + 1)))
            (sym (length-set lines 1 (id + 1) ∙ K.long)) (noted_holds lines (id + 1) (holds_less part K.holds));
      }

  -- it is filed, where the pool takes it
  taken_indexed : takes r id pool ≡ true → Indexed pool rects id → Indexed (set lines 1 (id + 1)) rects (id + 1)
  taken_indexed f I =
      let t = takes_some r id pool f in
      let long : length (set lines 1 (id + 1)) ≡ length pool = length-set lines 1 (id + 1) ∙ lines_length r id (span r.low r.high) pool in
      let all : filed (set lines 1 (id + 1)) ≡ id + 1 =
      filed_some _ (omega (arith, long, t.0)) ∙ get_or-set_same lines 1 (id + 1) 0 (omega (arith, lines_length r id (span r.low r.high) pool, t.0)) in
      record {
        within = omega (arith, all);
        first = λ some. subst (λ (k : ℕ). Filed (set lines 1 (id + 1)) rects k) (sym all)
            (lines_filed t.0 t.2 (subst (λ (k : ℕ). Filed pool rects k) t.1 (I.first t.0)));
        full = λ some less. absurd (omega (arith, all));
      }

  -- otherwise the pool is full, now or before, or has no cell
  left_indexed : takes r id pool ≡ false → id < 4294967295 → Indexed pool rects id → Indexed pool rects (id + 1)
  left_indexed f small I =
      record {
        within = omega (arith, I.within);
        first = I.first;
        full = λ some less. ⊎_elim (last some) (λ before. I.full some (omega arith)) (eq-or-lt_of_le I.within);
      }
    where
      last : 4 ≤ length pool → filed pool ≡ id → capacity (length pool) < key_sum rects (filed pool + 1)
      last some same =
          rw (same, next_sum, ← (subst (λ (k : ℕ). Filed pool rects k) same (I.first some)).exact)
          (leb-false (used pool + key_count r) (capacity (length pool)) (sym (takes_next r id pool some same) ∙ f))

  pub indexed_file : id < 4294967295 → Indexed pool rects id → Indexed (file r id pool) rects (id + 1)
  unfolding file
  indexed_file small I = by (takes r id pool) refl
    where
      by : (b : Bool) → takes r id pool ≡ b → Indexed (cond b (set lines 1 (id + 1)) pool) rects (id + 1)
      by true f = taken_indexed f I
      by false f = left_indexed f small I

-- ---- the loops of the code

module _ {r : Rect} {own : ℕ} {pool₀ : List ℕ} {h : ℕ} where
  pub rect_start : RectFiling r own pool₀ h pool₀ 0
  rect_start =
      record {
        loop = loop_start_lem (file_line r own) pool₀ h;
        size = refl;
        places = omega (arith, mul-zero (span r.left r.right));
      }

  module _ {pool : List ℕ} {k : ℕ} (f : RectFiling r own pool₀ h pool k) where
    -- the next row finds places
    pub rect_room : k < h → used pool₀ + span r.left r.right * h ≤ capacity (length pool₀)
        → used pool + span r.left r.right ≤ capacity (length pool)
    rect_room less room =
        let w = span r.left r.right in
        rw f.size (omega (arith, f.places, mul-suc w k, mul-le-mul_left w less))

    pub rect_next : {next : List ℕ} → 4 ≤ length pool₀ → k < h → next ≡ file_line r own k pool → RectFiling r own pool₀ h next (k + 1)
    rect_next {next} some less e =
        let w = span r.left r.right in
        record {
          loop = subst (λ (p : List ℕ). Loop (file_line r own) pool₀ h (k + 1) p) (sym e) (loop_next (file_line r own) pool₀ f.loop less);
          size = ap length e ∙ row_length r.left r.right (r.low + k) own pool ∙ f.size;
          places =
              ap used e ∙ row_used r.left r.right (r.low + k) own pool (omega (arith, f.size)) ∙ ap (λ (u : ℕ). u + w) f.places
              ∙ omega (arith, mul-suc w k, ap (λ (i : ℕ). w * i) (add-one k));
        }

-- Laws of filing: the segment that reaches farthest, the four numbers of a block, the blocks of a loop, and those of all loops. Assumes nothing.
use Rattle.std.specs.Prelude.{true, false, List, ◌⊎◌, ◌≡◌, refl, ℕ, zero, suc, ◌+◌, ◌*◌, ◌≤◌, ◌<◌, length, get_or, set, Float}
use Rattle.std.proofs.Common.{inl, inr, sym, ap, ◌∙◌, subst, zero-le, le_antisymm, eq-or-lt_of_le, arith, length-set, get_or-set_same, get_or-set_other}
use Rattle.outline.specs.Outline.{Outline, loop_at, points, misshapen, outline_refusal}
use Rattle.outline.proofs.OutlineBase.{HolesPassed}
use Rattle.outline.specs.Accepted.{OutlineFits}
use Rattle.outline_blocks.specs.Blocks.{reach, is_farther, Farthest, block_size, block_end, side_at, BlockFiled, LoopFiled, BlockFiles, LoopFiles}
use Rattle.outline_blocks.specs.Blocks.{first_block, first_block_at, Drawn}
use Rattle.outline_blocks.proofs.BetweenLaws.{BlockPlace}
use Rattle.outline_blocks.proofs.BlockLaws.{first_over, outer_first, hole_first}
use Rattle.outline_blocks.proofs.OrderLaws.{farther_self, farther_through}

-- a number up to n is n or below it
last_or_less : (i n : ℕ) → i < n + 1 → (i ≡ n) ⊎ (i < n)
last_or_less i n h = eq-or-lt_of_le (le i n h)
  where
    le : (i n : ℕ) → i < n + 1 → i ≤ n
    le i n h = omega arith

-- ---- the segment that reaches farthest

module _ {s : List Float} {d from : ℕ} where
  pub far_start : from < points s → Farthest s d from (from + 1) from
  far_start h = record {
    there = h;
    most = λ i g l. subst (λ (j : ℕ). is_farther d (reach d s j) (reach d s from) ≡ false) (own i g l) (farther_self d (reach d s from));
  }
    where
      own : (i : ℕ) → from ≤ i → i < from + 1 → from ≡ i
      own i g l = omega arith

  module _ {i far : ℕ} (f : Farthest s d from i far) where
    -- the next segment reaches no farther
    pub far_stays : is_farther d (reach d s i) (reach d s far) ≡ false → Farthest s d from (i + 1) far
    far_stays e = record {
      there = f.there;
      most = λ j g l. elim (last_or_less j i l) [
        | inl last ↦ subst (λ (k : ℕ). is_farther d (reach d s k) (reach d s far) ≡ false) (sym last) e
        | inr less ↦ f.most j g less
      ];
    }

    -- the next segment reaches farther
    pub far_moves : i < points s → is_farther d (reach d s i) (reach d s far) ≡ true → Farthest s d from (i + 1) i
    far_moves h e = record {
      there = h;
      most = λ j g l. elim (last_or_less j i l) [
        | inl last ↦ subst (λ (k : ℕ). is_farther d (reach d s k) (reach d s i) ≡ false) (sym last) (farther_self d (reach d s i))
        | inr less ↦ farther_through d (reach d s i) (reach d s far) (reach d s j) e (f.most j g less)
      ];
    }

    pub far_end : {to : ℕ} → i ≤ to → to ≤ i → Farthest s d from to far
    far_end h g = subst (λ (n : ℕ). Farthest s d from n far) (le_antisymm h g) f

-- ---- a block

-- the list with four numbers put from `at` on
abbrev put1 : List ℕ → ℕ → ℕ → List ℕ
put1 l at p = set l at p

abbrev put2 : List ℕ → ℕ → ℕ → ℕ → List ℕ
put2 l at p q = set (put1 l at p) (at + 1) q

abbrev put3 : List ℕ → ℕ → ℕ → ℕ → ℕ → List ℕ
put3 l at p q r = set (put2 l at p q) (at + 2) r

abbrev pub put_four : List ℕ → ℕ → ℕ → ℕ → ℕ → ℕ → List ℕ
put_four l at p q r t = set (put3 l at p q r) (at + 3) t

module _ (l : List ℕ) (at p q r t : ℕ) where
  put_long : length (put_four l at p q r t) ≡ length l
  put_long = simp length-set

  put_rest : (i : ℕ) → (i < at) ⊎ (at + 4 ≤ i) → get_or (put_four l at p q r t) i 0 ≡ get_or l i 0
  put_rest i h =
      get_or-set_other (put3 l at p q r) (at + 3) i t 0 (away 3 (omega arith)) ∙ get_or-set_other (put2 l at p q) (at + 2) i r 0 (away 2 (omega arith))
      ∙ get_or-set_other (put1 l at p) (at + 1) i q 0 (away 1 (omega arith)) ∙ get_or-set_other l at i p 0 own
    where
      own : i ≡ at → ⊥
      own e = elim h [ inl g ↦ omega arith | inr g ↦ omega arith ]

      away : (d : ℕ) → d < 4 → i ≡ at + d → ⊥
      away d g e = elim h [ inl l ↦ omega arith | inr l ↦ omega arith ]

  module _ (h : at + 3 < length l) where
    put_0 : get_or (put_four l at p q r t) at 0 ≡ p
    put_0 =
        get_or-set_other (put3 l at p q r) (at + 3) at t 0 (λ e. omega arith) ∙ get_or-set_other (put2 l at p q) (at + 2) at r 0 (λ e. omega arith)
        ∙ get_or-set_other (put1 l at p) (at + 1) at q 0 (λ e. omega arith) ∙ get_or-set_same l at p 0 (omega arith)

    put_1 : get_or (put_four l at p q r t) (at + 1) 0 ≡ q
    put_1 =
        get_or-set_other (put3 l at p q r) (at + 3) (at + 1) t 0 (λ e. omega arith)
        ∙ get_or-set_other (put2 l at p q) (at + 2) (at + 1) r 0 (λ e. omega arith)
        ∙ get_or-set_same (put1 l at p) (at + 1) q 0 (simp length-set (omega arith))

    put_2 : get_or (put_four l at p q r t) (at + 2) 0 ≡ r
    put_2 =
        get_or-set_other (put3 l at p q r) (at + 3) (at + 2) t 0 (λ e. omega arith)
        ∙ get_or-set_same (put2 l at p q) (at + 2) r 0 (simp length-set (omega arith))

    put_3 : get_or (put_four l at p q r t) (at + 3) 0 ≡ t
    put_3 = get_or-set_same (put3 l at p q r) (at + 3) t 0 (simp length-set (omega arith))

pub block_files : {s : List Float} {from b p q r t : ℕ} (before : List ℕ) → 4 * b + 3 < length before
    → Farthest s 0 from (block_end (points s) from) p → Farthest s 1 from (block_end (points s) from) q
    → Farthest s 2 from (block_end (points s) from) r → Farthest s 3 from (block_end (points s) from) t
    → BlockFiles s before (put_four before (4 * b) p q r t) b from
block_files {s} {from} {b} {p} {q} {r} {t} before h f g i j = record {
  filed = record { side = side };
  long = put_long before (4 * b) p q r t;
  rest = put_rest before (4 * b) p q r t;
}
  where
    after : List ℕ
    after = put_four before (4 * b) p q r t

    Side : ℕ → ℕ → Type 0
    Side d far = Farthest s d from (block_end (points s) from) far

    plus_zero : (n : ℕ) → n ≡ n + 0
    plus_zero n = omega arith

    side : (d : ℕ) → d < 4 → Side d (side_at after b d)
    side zero l = subst (Side 0) (sym (put_0 before (4 * b) p q r t h) ∙ ap (λ (n : ℕ). get_or after n 0) (plus_zero (4 * b))) f
    side (suc zero) l = subst (Side 1) (sym (put_1 before (4 * b) p q r t h)) g
    side (suc (suc zero)) l = subst (Side 2) (sym (put_2 before (4 * b) p q r t h)) i
    side (suc (suc (suc zero))) l = subst (Side 3) (sym (put_3 before (4 * b) p q r t h)) j
    side (suc (suc (suc (suc d)))) l = absurd (omega arith)

-- a block whose numbers stay is filed still
block_kept : {s : List Float} {before after : List ℕ} {b from : ℕ} → ((d : ℕ) → d < 4 → side_at after b d ≡ side_at before b d)
    → BlockFiled s before b from → BlockFiled s after b from
block_kept {s} {before} {after} {b} {from} same f = record {
  side = λ d l. subst (Farthest s d from (block_end (points s) from)) (sym (same d l)) (f.side d l);
}

-- ---- the blocks of a loop

-- those before block b are filed, and what stands before the first is as it was
pub record FiledTo (s : List Float) (before after : List ℕ) (first b : ℕ) : Type 0 where
  pub filed : (c : ℕ) → first + c < b → block_size * c < points s → 4 * (first + c) + 3 < length after → BlockFiled s after (first + c) (block_size * c)
  pub long : length after ≡ length before
  pub rest : (i : ℕ) → i < 4 * first → get_or after i 0 ≡ get_or before i 0

pub filed_none : (s : List Float) (blocks : List ℕ) (first : ℕ) → FiledTo s blocks blocks first first
filed_none s blocks first = record { filed = λ c h l g. absurd (omega arith); long = refl; rest = λ i h. refl }

module _ {s : List Float} {before after : List ℕ} {first b from : ℕ} (f : FiledTo s before after first b) (p : BlockPlace (points s) first from b) where
  -- block b is filed
  pub filed_next : {next : List ℕ} → BlockFiles s after next b from → FiledTo s before next first (b + 1)
  filed_next {next} n = record {
    filed = λ c h l g. elim (last_or_less (first + c) b h) [
      | inl last ↦ subst (λ (k : ℕ). BlockFiled s next (first + c) k) (start c last) (subst (λ (k : ℕ). BlockFiled s next k from) (sym last) n.filed)
      | inr less ↦ block_kept (λ d m. n.rest (4 * (first + c) + d) (inl (omega arith))) (f.filed c less l (omega (arith, n.long)))
    ];
    long = n.long ∙ f.long;
    rest = λ i h. n.rest i (inl (omega (arith, p.begun))) ∙ f.rest i h;
  }
    where
      start : (c : ℕ) → first + c ≡ b → from ≡ block_size * c
      start c e = omega (arith, p.at)

  -- block b isn't listed
  pub filed_over : length after ≤ 4 * b + 3 → FiledTo s before after first (b + 1)
  filed_over u = record { filed = λ c h l g. f.filed c (omega arith) l g; long = f.long; rest = f.rest }

  pub filed_end : points s ≤ from → LoopFiles s before after first
  filed_end h = record { filed = λ c l g. f.filed c (omega (arith, p.at, p.begun)) l g; long = f.long; rest = f.rest }

-- ---- the blocks of an outline

-- those of the first k loops are filed
pub record LoopsFiled (o : Outline) (blocks : List ℕ) (k : ℕ) : Type 0 where
  pub filed : (j : ℕ) → j < k → LoopFiled (loop_at o j) blocks (first_block o j)

pub loops_none : (o : Outline) (blocks : List ℕ) → LoopsFiled o blocks 0
loops_none o blocks = record { filed = λ j h. absurd (omega arith) }

pub loops_next : {o : Outline} {before after : List ℕ} {k : ℕ} → misshapen o ≡ false → k ≤ length o.lens → LoopsFiled o before k
    → LoopFiles (loop_at o k) before after (first_block o k) → LoopsFiled o after (k + 1)
loops_next {o} {before} {after} {k} e h f n = record {
  filed = λ j l. elim (last_or_less j k l) [
    | inl last ↦ subst (λ (i : ℕ). LoopFiled (loop_at o i) after (first_block o i)) (sym last) n.filed
    | inr less ↦ earlier j less
  ];
}
  where
    earlier : (j : ℕ) → j < k → LoopFiled (loop_at o j) after (first_block o j)
    earlier j less c m g =
        let over = first_over o e j k c less h m in
        block_kept (λ d l. n.rest (4 * (first_block o j + c) + d) (omega arith)) (f.filed j less c m (omega (arith, n.long)))

pub outer_filed : {o : Outline} {before after : List ℕ} {s : List Float} → misshapen o ≡ false → s ≡ loop_at o 0 → LoopFiles s before after 0
    → LoopsFiled o after 1
outer_filed {o} {before} {after} {s} e same f =
    loops_next e zero-le (loops_none o before)
    (subst (LoopFiles (loop_at o 0) before after) (sym (outer_first o)) (subst (λ (l : List Float). LoopFiles l before after 0) same f))

module _ {o : Outline} {k start : ℕ} (p : HolesPassed o k start) (h : k < length o.lens) where
  pub hole_filed : {before after : List ℕ} {s : List Float} {first : ℕ} → LoopsFiled o before (k + 1) → s ≡ loop_at o (k + 1)
      → first ≡ first_block_at o.outer (k + 1) start → LoopFiles s before after first → LoopsFiled o after (k + 1 + 1)
  hole_filed {before} {after} {s} {first} l e f n =
      loops_next p.shape (omega arith) l
      (subst (LoopFiles (loop_at o (k + 1)) before after) (hole_first p h f) (subst (λ (x : List Float). LoopFiles x before after first) e n))

pub drawn : {o : Outline} {blocks : List ℕ} {k : ℕ} → outline_refusal o ≡ 0 → OutlineFits o → LoopsFiled o blocks (k + 1) → length o.lens ≤ k
    → Drawn o blocks
drawn e f l h = record { taken = e; fits = f; filed = λ j g. l.filed j (omega arith) }

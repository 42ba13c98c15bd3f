-- Laws of filing: what `push` does to every reading of a pool, and that what is filed stays filed.
use Rattle.std.specs.Prelude.{Bool, cond, ◌||◌, ◌⊎◌, ◌≡◌, eqb, leb, length, get_or, set}
use Rattle.std.proofs.Math.Bool.{true, false}
use mathlib.Core.List.{List, [], ◌∷◌}
use Rattle.std.proofs.Math.Logic.{inl, ⊎_elim}
use Rattle.std.proofs.Common.{inr, ◌∙◌, subst, mod-lt, arith, length-set, get_or-set_same, get_or-set_other}
use Rattle.std.proofs.Math.Path.{refl, sym, ap, ap₂}
use Prim.Native.Nat.{ℕ, suc, ◌+◌, ◌-◌, ◌*◌, ◌%◌, ◌<◌, ◌≤◌, min}
use Rattle.std.proofs.Math.Nat.{mod-add-mod}
use borrow.Author.Tests.{eq-eqb, ne_eqb, eqb-true, leb-true, leb-false, le-leb, lt-leb}
use Rattle.laws.specs.Loop.{Loop, loop_start_lem, loop_next, loop_end, for_up, for_up_keeps, for_up_same, sum_up, sum_turn}
use Rattle.laws.specs.Tests.{both, or_right}
use Rattle.index_pools.specs.declared.Rect.{Rect}
use Rattle.laws.proofs.Sums.{sum_zero}
use Rattle.index_pools.specs.Pool.{none, stride, cells, capacity, own_place, link_place, used, filed, head_at, own_at, link_at, falling, chain, any_of, cell_of}
use Rattle.index_pools.specs.Pool.{InRect, span, clear_cell, cleared_pool, item_placed, push, file_column, file_row, file_line, key_count, takes}
use Rattle.index_pools.specs.Pool.{Holds, key_sum, Filed, Indexed}
use Rattle.index_pools.specs.ChainLaws.{falling_high, falling_step, falling_same, below_or_not, same_or_not, less_other}

-- ---- the layout

-- a place's pair stands in the list, after the heads
pub place_fits : (n t : ℕ) → t < capacity n → link_place n t < n
unfolding capacity cells
place_fits n t h = omega arith

pub place_small : (n t : ℕ) → t < capacity n → t < 4294967294
unfolding capacity
place_small n t h = omega arith

pub some_cell : (n : ℕ) → 4 ≤ n → 0 < cells n
unfolding cells
some_cell n h = omega arith

pub cells_fit : (n : ℕ) → 4 ≤ n → 1 + cells n < n
unfolding cells
cells_fit n h = omega arith

pub cell_in : (n i j : ℕ) → 4 ≤ n → cell_of (cells n) i j < cells n
unfolding cell_of
cell_in n i j h = mod-lt _ (some_cell n h)

-- the cell of the next column
pub next_column : (m i j : ℕ) → cell_of m (i + 1) j ≡ (cell_of m i j + 1) % m
unfolding cell_of
next_column m i j =
    let e : i + 1 + j * stride ≡ i + j * stride + 1 = omega arith in
    ap (λ (x : ℕ). x % m) e ∙ sym (mod-add-mod (i + j * stride) m 1)

-- ---- how many items are filed

module _ (pool : List ℕ) where
  pub filed_some : 4 ≤ length pool → filed pool ≡ get_or pool 1 0
  unfolding filed
  filed_some h = rw (le-leb 4 (length pool) h)

  pub filed_short : length pool < 4 → filed pool ≡ 0
  unfolding filed
  filed_short h = rw (lt-leb 4 (length pool) h)

-- ---- one place more

-- what stands in a list after four stores, at a place that is none of theirs, or one of them and none of the later
module _ (l : List ℕ) (a b c x y z w : ℕ) where
  abbrev one : List ℕ
  one = set l a x

  abbrev two : List ℕ
  two = set one b y

  abbrev three : List ℕ
  three = set two c z

  abbrev four : List ℕ
  four = set three 0 w

  four_other : (k : ℕ) → (k ≡ a → ⊥) → (k ≡ b → ⊥) → (k ≡ c → ⊥) → (k ≡ 0 → ⊥) → get_or four k 0 ≡ get_or l k 0
  four_other k p q r s =
      get_or-set_other three 0 k w 0 s ∙ get_or-set_other two c k z 0 r ∙ get_or-set_other one b k y 0 q ∙ get_or-set_other l a k x 0 p

  four_first : a < length l → (a ≡ b → ⊥) → (a ≡ c → ⊥) → (a ≡ 0 → ⊥) → get_or four a 0 ≡ x
  four_first h q r s =
      get_or-set_other three 0 a w 0 s ∙ get_or-set_other two c a z 0 r ∙ get_or-set_other one b a y 0 q ∙ get_or-set_same l a x 0 h

  four_second : b < length l → (b ≡ c → ⊥) → (b ≡ 0 → ⊥) → get_or four b 0 ≡ y
  four_second h r s = get_or-set_other three 0 b w 0 s ∙ get_or-set_other two c b z 0 r ∙ get_or-set_same one b y 0 (simp length-set h)

  four_third : c < length l → (c ≡ 0 → ⊥) → get_or four c 0 ≡ z
  four_third h s = get_or-set_other three 0 c w 0 s ∙ get_or-set_same two c z 0 (simp length-set h)

  four_last : 0 < length l → get_or four 0 0 ≡ w
  four_last h = get_or-set_same three 0 w 0 (simp length-set h)

  four_length : length four ≡ length l
  four_length = simp length-set

-- S, and x under c
abbrev pub with : (ℕ → ℕ → Type 0) → ℕ → ℕ → ℕ → ℕ → Type 0
with S c own d x = S d x ⊎ ((d ≡ c) × (x ≡ own))

module _ (pool : List ℕ) (c own count : ℕ) (inside : c < cells (length pool)) (room : used pool < capacity (length pool)) where
  abbrev n : ℕ
  n = length pool

  abbrev u : ℕ
  u = used pool

  abbrev next : List ℕ
  next = item_placed u c own pool

  fits_next : link_place n u < n
  fits_next = place_fits n u room

  used_next : used next ≡ u + 1
  used_next = four_last pool (own_place n u) (link_place n u) (2 + c) own (head_at pool c) u (u + 1) (omega (arith, fits_next))

  head_here : head_at next c ≡ u
  head_here =
      let far = fits_next in
      four_third pool (own_place n u) (link_place n u) (2 + c) own (head_at pool c) u (u + 1) (omega arith) (λ e. omega arith)

  head_other : (d : ℕ) → d < cells n → (d ≡ c → ⊥) → head_at next d ≡ head_at pool d
  head_other d small other =
      four_other pool (own_place n u) (link_place n u) (2 + c) own (head_at pool c) u (u + 1) (2 + d) (λ e. omega arith) (λ e. omega arith)
      (λ e. other (omega arith)) (λ e. omega arith)

  own_here : own_at n next u ≡ own
  own_here =
      let far = fits_next in
      four_first pool (own_place n u) (link_place n u) (2 + c) own (head_at pool c) u (u + 1) (omega arith) (λ e. omega arith) (λ e. omega arith)
      (λ e. omega arith)

  link_here : link_at n next u ≡ head_at pool c
  link_here =
      four_second pool (own_place n u) (link_place n u) (2 + c) own (head_at pool c) u (u + 1) fits_next (λ e. omega arith) (λ e. omega arith)

  own_before : (t : ℕ) → t < u → own_at n next t ≡ own_at n pool t
  own_before t less =
      four_other pool (own_place n u) (link_place n u) (2 + c) own (head_at pool c) u (u + 1) (own_place n t) (λ e. omega arith) (λ e. omega arith)
      (λ e. omega arith) (λ e. omega arith)

  link_before : (t : ℕ) → t < u → link_at n next t ≡ link_at n pool t
  link_before t less =
      four_other pool (own_place n u) (link_place n u) (2 + c) own (head_at pool c) u (u + 1) (link_place n t) (λ e. omega arith) (λ e. omega arith)
      (λ e. omega arith) (λ e. omega arith)

  -- a chain of places before u is as it was
  chain_before : (k h : ℕ) → h < u → falling (own_at n next) (link_at n next) k h ≡ falling (own_at n pool) (link_at n pool) k h
  chain_before = falling_same (own_at n pool) (link_at n pool) (own_at n next) (link_at n next) u own_before link_before

  chain_kept : (h : ℕ) → (h < u) ⊎ (capacity n ≤ h) → chain n next h ≡ chain n pool h
  unfolding chain
  chain_kept h =
      ⊎_elim (λ less. chain_before (capacity n) h less)
      (λ past. falling_high (own_at n next) (link_at n next) (capacity n) h past ∙ sym (falling_high (own_at n pool) (link_at n pool) (capacity n) h past))

  -- the chain of cell c has the owner, and then what it had
  chain_here : (head_at pool c < u) ⊎ (capacity n ≤ head_at pool c) → chain n next u ≡ own ∷ chain n pool (head_at pool c)
  unfolding chain
  chain_here ways =
      falling_step (own_at n next) (link_at n next) (capacity n) u room
      ∙ ap₂ (λ (x : ℕ) (l : List ℕ). x ∷ l) own_here (ap (falling (own_at n next) (link_at n next) u) link_here ∙ rest ways)
    where
      rest : (head_at pool c < u) ⊎ (capacity n ≤ head_at pool c)
          → falling (own_at n next) (link_at n next) u (head_at pool c) ≡ falling (own_at n pool) (link_at n pool) (capacity n) (head_at pool c)
      rest =
          ⊎_elim
          (λ less. chain_before u (head_at pool c) less ∙ falling_step (own_at n pool) (link_at n pool) u (head_at pool c) less
          ∙ sym (falling_step (own_at n pool) (link_at n pool) (capacity n) (head_at pool c) (omega arith)))
          (λ past. falling_high (own_at n next) (link_at n next) u (head_at pool c) (omega arith)
          ∙ sym (falling_high (own_at n pool) (link_at n pool) (capacity n) (head_at pool c) past))

  placed_holds : {S : ℕ → ℕ → Type 0} → own < count → Holds n pool count S → Holds n next count (with S c own)
  unfolding any_of
  placed_holds {S} small H =
      record {
        fits = omega (arith, used_next);
        heads = λ d h. ⊎_elim (heads_here d) (heads_other d h) (same_or_not d c);
        owners = λ t h. ⊎_elim (λ e. omega (arith, own_here, ap (own_at n next) e)) (owners_before t h) (same_or_not t u);
        has = λ d x h s. ⊎_elim (has_here d x h s) (has_other d x h s) (same_or_not d c);
      }
    where
      heads_here : (d : ℕ) → d ≡ c → (head_at next d < used next) ⊎ (capacity n ≤ head_at next d)
      heads_here d e = inl (omega (arith, head_here, used_next, ap (head_at next) e))

      heads_other : (d : ℕ) → d < cells n → (d ≡ c → ⊥) → (head_at next d < used next) ⊎ (capacity n ≤ head_at next d)
      heads_other d h other =
          ⊎_elim (λ less. inl (omega (arith, head_other d h other, used_next))) (λ past. inr (omega (arith, head_other d h other)))
          (H.heads d h)

      owners_before : (t : ℕ) → t < used next → (t ≡ u → ⊥) → own_at n next t < count
      owners_before t h other =
          let less : t < u = less_other (omega (arith, used_next)) other in
          omega (arith, own_before t less, H.owners t less)

      has_other : (d x : ℕ) → d < cells n → with S c own d x → (d ≡ c → ⊥) → any_of (eqb x) (chain n next (head_at next d)) ≡ true
      has_other d x h s other =
          ap (λ (t : ℕ). any_of (eqb x) (chain n next t)) (head_other d h other)
          ∙ ap (any_of (eqb x)) (chain_kept (head_at pool d) (H.heads d h))
          ∙ ⊎_elim (λ old. H.has d x h old) (λ new. absurd (other new.0)) s

      has_here : (d x : ℕ) → d < cells n → with S c own d x → d ≡ c → any_of (eqb x) (chain n next (head_at next d)) ≡ true
      has_here d x h s e =
          ap (λ (t : ℕ). any_of (eqb x) (chain n next t)) (ap (head_at next) e ∙ head_here)
          ∙ ap (any_of (eqb x)) (chain_here (H.heads c inside))
          ∙ ⊎_elim (λ old. or_right (eqb x own) (ap (λ (t : ℕ). any_of (eqb x) (chain n pool (head_at pool t))) (sym e) ∙ H.has d x h old))
          (λ new. ap (λ (b : Bool). b || any_of (eqb x) (chain n pool (head_at pool c))) (eq-eqb x own new.1)) s

-- ---- one item under one cell

pub pool_push_length : (c own : ℕ) (pool : List ℕ) → length (push c own pool) ≡ length pool
unfolding push
pool_push_length c own pool = four_length pool _ _ _ _ _ _ _

pub push_used : (c own : ℕ) (pool : List ℕ) → 0 < length pool → used (push c own pool) ≡ used pool + 1
unfolding push
push_used c own pool h = four_last pool _ _ _ _ _ _ _ h

pub push_holds : {S : ℕ → ℕ → Type 0} (n c own count : ℕ) (pool : List ℕ) → length pool ≡ n → c < cells n → used pool < capacity n → own < count
    → Holds n pool count S → Holds n (push c own pool) count (with S c own)
unfolding push
push_holds {S} n c own count pool e inside room small H =
    subst (λ (k : ℕ). Holds k (item_placed (used pool) c own pool) count (with S c own)) e
    (placed_holds pool c own count (subst (λ (k : ℕ). c < cells k) (sym e) inside) (subst (λ (k : ℕ). used pool < capacity k) (sym e) room) small
    (subst (λ (k : ℕ). Holds k pool count S) (sym e) H))

-- ---- one item under a row, and under a rectangle

-- S, and x under the cells of the first k columns of row j
abbrev pub with_row : (ℕ → ℕ → Type 0) → ℕ → ℕ → ℕ → ℕ → ℕ → ℕ → ℕ → Type 0
with_row S m left j own k d x = S d x ⊎ ((i : ℕ) × (i < k) × (d ≡ cell_of m (left + i) j) × (x ≡ own))

-- a list of n numbers with u places in use, that holds S
pub record PoolKept (n count u : ℕ) (S : ℕ → ℕ → Type 0) (pool : List ℕ) : Type 0 where
  pub long : length pool ≡ n
  pub places : used pool ≡ u
  pub holds : Holds n pool count S

pub holds_less : {S R : ℕ → ℕ → Type 0} {n count : ℕ} {pool : List ℕ} → ((c x : ℕ) → R c x → S c x) → Holds n pool count S → Holds n pool count R
holds_less less H = record { fits = H.fits; heads = H.heads; owners = H.owners; has = λ c x h r. H.has c x h (less c x r) }

pub row_kept : {S : ℕ → ℕ → Type 0} (n count u left right j own : ℕ) (pool : List ℕ) → 4 ≤ n → own < count → u + span left right ≤ capacity n
    → PoolKept n count u S pool
    → PoolKept n count (u + span left right) (with_row S (cells n) left j own (span left right)) (file_row left right j own pool)
unfolding file_row
row_kept {S} n count u left right j own pool some small room K =
    subst (λ (m : ℕ). PoolKept n count (u + span left right) (with_row S (cells n) left j own (span left right))
    (for_up (span left right) (file_column (cells m) left j own) pool)) (sym K.long)
    (for_up_keeps (λ k p. PoolKept n count (u + k) (with_row S (cells n) left j own k) p) (span left right)
    (file_column (cells n) left j own) pool start more)
  where
    start : PoolKept n count (u + 0) (with_row S (cells n) left j own 0) pool
    start =
        record {
          long = K.long;
          places = omega (arith, K.places);
          holds = holds_less (λ c x. ⊎_elim (λ s. s) (λ r. absurd (omega (arith, r.1)))) K.holds;
        }

    more : (k : ℕ) (p : List ℕ) → k < span left right → PoolKept n count (u + k) (with_row S (cells n) left j own k) p
        → PoolKept n count (u + suc k) (with_row S (cells n) left j own (suc k)) (push (cell_of (cells n) (left + k) j) own p)
    more k p h Kp =
        record {
          long = pool_push_length _ own p ∙ Kp.long;
          places = omega (arith, push_used (cell_of (cells n) (left + k) j) own p (omega (arith, Kp.long)), Kp.places);
          holds =
              holds_less (λ c x. ⊎_elim (λ s. inl (inl s)) (λ r. last c x r (same_or_not r.0 k)))
              (push_holds n (cell_of (cells n) (left + k) j) own count p Kp.long (cell_in n (left + k) j some) (omega (arith, Kp.places)) small Kp.holds);
        }
      where
        last : (c x : ℕ) (r : (i : ℕ) × (i < suc k) × (c ≡ cell_of (cells n) (left + i) j) × (x ≡ own)) → (r.0 ≡ k) ⊎ (r.0 ≡ k → ⊥)
            → with (with_row S (cells n) left j own k) (cell_of (cells n) (left + k) j) own c x
        last c x r =
            ⊎_elim (λ e. inr (r.2 ∙ ap (λ (i : ℕ). cell_of (cells n) (left + i) j) e, r.3))
            (λ other. inl (inr (r.0, less_other r.1 other, r.2, r.3)))

-- S, and x under the cells of the first h rows of the rectangle
abbrev pub with_rows : (ℕ → ℕ → Type 0) → ℕ → Rect → ℕ → ℕ → ℕ → ℕ → Type 0
with_rows S m r own h d x =
    S d x ⊎ ((k i : ℕ) × (k < h) × (i < span r.left r.right) × (d ≡ cell_of m (r.left + i) (r.low + k)) × (x ≡ own))

-- ---- lengths and places

pub row_length : (left right j own : ℕ) (pool : List ℕ) → length (file_row left right j own pool) ≡ length pool
unfolding file_row
row_length left right j own pool =
    for_up_keeps (λ k q. length q ≡ length pool) (span left right) (file_column (cells (length pool)) left j own) pool refl
    (λ k q h e. pool_push_length (cell_of (cells (length pool)) (left + k) j) own q ∙ e)

pub row_used : (left right j own : ℕ) (pool : List ℕ) → 0 < length pool → used (file_row left right j own pool) ≡ used pool + span left right
unfolding file_row
row_used left right j own pool some =
    (for_up_keeps (λ k q. (length q ≡ length pool) × (used q ≡ used pool + k)) (span left right) (file_column (cells (length pool)) left j own) pool
    (refl, omega arith)
    (λ k q h e.
    let c = cell_of (cells (length pool)) (left + k) j in
    (pool_push_length c own q ∙ e.0, omega (arith, push_used c own q (omega (arith, e.0)), e.1)))).1

-- ---- which items a pool takes

-- two orders that hold together
pub same_leb : (a b c d : ℕ) → (a ≤ b → c ≤ d) → (c ≤ d → a ≤ b) → leb a b ≡ leb c d
same_leb a b c d to from = by (leb a b) refl
  where
    by : (t : Bool) → leb a b ≡ t → t ≡ leb c d
    by true e = sym (le-leb c d (to (leb-true a b e)))
    by false e = ⊎_elim (λ less. sym (lt-leb c d less)) (λ le. absurd (let l = leb-false a b e in let m = from le in omega arith)) (below_or_not d c)

module _ (r : Rect) (own : ℕ) (pool : List ℕ) where
  -- the three tests of `takes`
  pub takes_short : length pool < 4 → takes r own pool ≡ false
  unfolding takes
  takes_short h = rw (lt-leb 4 (length pool) h)

  pub takes_other : 4 ≤ length pool → (filed pool ≡ own → ⊥) → takes r own pool ≡ false
  unfolding takes
  takes_other h other = rw (le-leb 4 (length pool) h, ne_eqb (filed pool) own other)

  module _ (some : 4 ≤ length pool) (same : filed pool ≡ own) where
    pub takes_next : takes r own pool ≡ leb (used pool + key_count r) (capacity (length pool))
    unfolding takes
    takes_next = rw (le-leb 4 (length pool) some, eq-eqb (filed pool) own same)

    -- the third as the code has it, where `limit` is the capacity
    pub takes_over : {limit : ℕ} → limit ≡ capacity (length pool) → limit < used pool → takes r own pool ≡ false
    takes_over e over = takes_next ∙ lt-leb (used pool + key_count r) (capacity (length pool)) (omega arith)

    pub takes_room : {limit w h : ℕ} → limit ≡ capacity (length pool) → used pool ≤ limit → w ≡ span r.left r.right → h ≡ span r.low r.high
        → takes r own pool ≡ leb (w * h) (limit - used pool)
    takes_room {limit} {w} {h} e le ew eh =
        let area : w * h ≡ key_count r = rw (ew, eh) refl in
        takes_next ∙ same_leb (used pool + key_count r) (capacity (length pool)) (w * h) (limit - used pool)
        (λ l. omega (arith, area)) (λ l. omega (arith, area))

  -- what is known of a pool that takes an item
  pub takes_some : takes r own pool ≡ true → (4 ≤ length pool) × (filed pool ≡ own) × (used pool + key_count r ≤ capacity (length pool))
  unfolding takes
  takes_some e =
      let first = both (leb 4 (length pool)) _ e in
      let rest = both (eqb (filed pool) own) _ first.1 in
      (leb-true 4 (length pool) first.0, eqb-true (filed pool) own rest.0, leb-true _ _ rest.1)

-- ---- the laws of an index

-- items beyond those that a pool can number
pub indexed_past : {pool : List ℕ} {rects : ℕ → Rect} {count more : ℕ} → min more 4294967295 ≤ count → count ≤ more → Indexed pool rects count
    → Indexed pool rects more
indexed_past past le I =
    record {
      within = omega (arith, I.within);
      first = I.first;
      full = λ some less. I.full some (omega arith);
    }

sum_same : (rects rects' : ℕ → Rect) (n : ℕ) → ((id : ℕ) → id < n → rects id ≡ rects' id) → key_sum rects n ≡ key_sum rects' n
unfolding sum_up
sum_same rects rects' n same =
    for_up_same n (sum_turn (λ id. key_count (rects id))) (sum_turn (λ id. key_count (rects' id))) 0
    (λ i sum less. ap (λ (q : Rect). sum + key_count q) (same i less))

-- it depends on the rectangles below the count alone
pub indexed_same : (pool : List ℕ) (rects rects' : ℕ → Rect) (count : ℕ) → ((id : ℕ) → id < count → rects id ≡ rects' id) → Indexed pool rects count
    → Indexed pool rects' count
indexed_same pool rects rects' count same I =
    record {
      within = I.within;
      first = λ some.
          let F = I.first some in
          record {
            exact = F.exact ∙ sum_same rects rects' (filed pool) (λ id h. same id (omega (arith, I.within)));
            holds = holds_less
                (λ c x U.
                record {
                  i = U.i;
                  j = U.j;
                  counted = U.counted;
                  within = subst (λ (q : Rect). InRect q U.i U.j) (sym (same x (omega (arith, U.counted, I.within)))) U.within;
                  cell = U.cell;
                })
                F.holds;
          };
      full = λ some less. rw (← sum_same rects rects' (filed pool + 1) (λ id h. same id (omega arith))) (I.full some less);
    }

-- a pool with no place in use and no head
empty_filed : (pool : List ℕ) (rects : ℕ → Rect) → used pool ≡ 0 → ((c : ℕ) → c < cells (length pool) → head_at pool c ≡ none) → Filed pool rects 0
unfolding capacity
empty_filed pool rects e heads =
    record {
      exact = e ∙ sym (sum_zero (λ id. key_count (rects id)));
      holds =
          record {
            fits = omega arith;
            heads = λ c h. inr (omega (arith, heads c h));
            owners = λ t h. absurd (omega arith);
            has = λ c x h U. absurd (omega (arith, U.counted));
          };
    }

-- a pool that has been emptied
pub indexed_none : (pool : List ℕ) (rects : ℕ → Rect) → Indexed (cleared_pool pool) rects 0
unfolding cleared_pool
indexed_none pool rects = by (leb 4 (length pool)) refl
  where
    p : List ℕ
    p = for_up (cells (length pool)) clear_cell (set (set pool 0 0) 1 0)

    Empty : ℕ → List ℕ → Type 0
    Empty k p = (length p ≡ length pool) × (used p ≡ 0) × (get_or p 1 0 ≡ 0) × ((c : ℕ) → c < k → head_at p c ≡ none)

    emptied : 4 ≤ length pool → Empty (cells (length pool)) p
    emptied some =
        for_up_keeps Empty (cells (length pool)) clear_cell (set (set pool 0 0) 1 0) (
          length-set (set pool 0 0) 1 0 ∙ length-set pool 0 0,
          get_or-set_other (set pool 0 0) 1 0 0 0 (λ e. omega arith) ∙ get_or-set_same pool 0 0 0 (omega arith),
          get_or-set_same (set pool 0 0) 1 0 0 (simp length-set (omega arith)),
          λ c h. absurd (omega arith),
        ) more
      where
        more : (k : ℕ) (q : List ℕ) → k < cells (length pool) → Empty k q → Empty (suc k) (set q (2 + k) none)
        more k q h E = (
          length-set q (2 + k) none ∙ E.0,
          get_or-set_other q (2 + k) 0 none 0 (λ e. omega arith) ∙ E.1,
          get_or-set_other q (2 + k) 1 none 0 (λ e. omega arith) ∙ E.2,
          λ c less. ⊎_elim (λ same. ap (head_at (set q (2 + k) none)) same
              ∙ get_or-set_same q (2 + k) none 0 (omega (arith, E.0, cells_fit (length pool) some)))
              (λ other. get_or-set_other q (2 + k) (2 + c) none 0 (λ e. other (omega arith)) ∙ E.3 c (less_other less other)) (same_or_not c k),
        )

    none_filed : (q : List ℕ) → filed q ≡ 0 → (4 ≤ length q → Filed q rects 0) → Indexed q rects 0
    none_filed q e F =
        record {
          within = omega (arith, e);
          first = λ some. subst (λ (k : ℕ). Filed q rects k) (sym e) (F some);
          full = λ some less. absurd (omega arith);
        }

    by : (b : Bool) → leb 4 (length pool) ≡ b → Indexed (cond b p pool) rects 0
    by true f =
        let E = emptied (leb-true 4 (length pool) f) in
        none_filed p (filed_some p (omega (arith, E.0, leb-true 4 (length pool) f)) ∙ E.2)
        (λ some. empty_filed p rects E.1 (subst (λ (n : ℕ). (c : ℕ) → c < cells n → head_at p c ≡ none) (sym E.0) E.3))
    by false f =
        let short = leb-false 4 (length pool) f in
        none_filed pool (filed_short pool short) (λ some. absurd (omega arith))

-- ---- the loops of the code

-- of a row: k columns are filed, and the next one's cell is `cell`
pub record RowFiling (left j own : ℕ) (pool₀ : List ℕ) (w : ℕ) (pool : List ℕ) (cell k : ℕ) : Type 0 where
  pub loop : Loop (file_column (cells (length pool₀)) left j own) pool₀ w k pool
  pub size : length pool ≡ length pool₀
  pub places : used pool ≡ used pool₀ + k
  pub here : cell ≡ cell_of (cells (length pool₀)) (left + k) j

module _ {left j own : ℕ} {pool₀ : List ℕ} {w : ℕ} where
  pub row_start : {cell : ℕ} → cell ≡ cell_of (cells (length pool₀)) left j → RowFiling left j own pool₀ w pool₀ cell 0
  row_start e =
      let same : left ≡ left + 0 = omega arith in
      record {
        loop = loop_start_lem (file_column (cells (length pool₀)) left j own) pool₀ w;
        size = refl;
        places = omega arith;
        here = e ∙ ap (λ (i : ℕ). cell_of (cells (length pool₀)) i j) same;
      }

  module _ {pool : List ℕ} {cell k : ℕ} (f : RowFiling left j own pool₀ w pool cell k) where
    pub row_inside : 4 ≤ length pool₀ → cell < cells (length pool)
    row_inside some = rw (f.here, f.size) (cell_in (length pool₀) (left + k) j some)

    pub row_next : {next : List ℕ} {after : ℕ} → 4 ≤ length pool₀ → k < w → next ≡ push cell own pool → after ≡ (cell + 1) % cells (length pool₀)
        → RowFiling left j own pool₀ w next after (k + 1)
    row_next {next} {after} some less e step =
        let m = cells (length pool₀) in
        let same : left + k + 1 ≡ left + (k + 1) = omega arith in
        record {
          loop =
              subst (λ (p : List ℕ). Loop (file_column m left j own) pool₀ w (k + 1) p) (sym (e ∙ ap (λ (c : ℕ). push c own pool) f.here))
              (loop_next (file_column m left j own) pool₀ f.loop less);
          size = ap length e ∙ pool_push_length cell own pool ∙ f.size;
          places = omega (arith, ap used e, push_used cell own pool (omega (arith, f.size)), f.places);
          here = step ∙ ap (λ (c : ℕ). (c + 1) % m) f.here ∙ sym (next_column m (left + k) j) ∙ ap (λ (i : ℕ). cell_of m i j) same;
        }

    pub row_end : (right : ℕ) → w ≤ k → w ≡ span left right → pool ≡ file_row left right j own pool₀
    unfolding file_row
    row_end right past e =
        let turn = file_column (cells (length pool₀)) left j own in
        loop_end turn pool₀ f.loop past ∙ ap (λ (w : ℕ). for_up w turn pool₀) e

-- of a rectangle: k rows are filed
pub record RectFiling (r : Rect) (own : ℕ) (pool₀ : List ℕ) (h : ℕ) (pool : List ℕ) (k : ℕ) : Type 0 where
  pub loop : Loop (file_line r own) pool₀ h k pool
  pub size : length pool ≡ length pool₀
  pub places : used pool ≡ used pool₀ + span r.left r.right * k

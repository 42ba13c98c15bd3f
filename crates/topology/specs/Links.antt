-- Links: from each node the id of the next one on its loop, or `off`. Links are stored in a list and read as a function; these are
-- the laws of reading them, of setting one, and of what that does to the count of an edge.
use Rattle.std.specs.Prelude.{ℕ, zero, suc, ◌+◌, ◌<◌, ◌≤◌, List, [], ◌∷◌, ◌≡◌, refl, Bool, true, false, cond, ◌≢◌, length, get_or, set, eqb, ltb}
use Rattle.std.proofs.Common.{sym, ◌∙◌, arith, get_or-set_same, get_or-set_other, eqb-true, eq-eqb, ne_eqb, ltb-true, ltb-false, lt-ltb, le-ltb}
use Rattle.std.proofs.Math.Path.{fun_ext}
use Rattle.std.proofs.lemmas.Bool.{eqb-false}
use Rattle.topology.specs.Sums.{All}

-- ---- definitions

-- the link of a node off the front
abbrev pub off : ℕ
off = 4294967295

-- the link of node u in the list l, of which the first n entries are nodes
unfoldable pub link_of : ℕ → List ℕ → ℕ → ℕ
link_of n l u = cond (ltb u n) (get_or l u off) off

-- f but for y at x
abbrev pub update : (ℕ → ℕ) → ℕ → ℕ → ℕ → ℕ
update f x y u = cond (eqb x u) y (f u)

-- Kronecker's delta: 1 where x is y, else 0
unfoldable pub delta : ℕ → ℕ → ℕ
delta x y = cond (eqb x y) 1 0

-- the weight that counts the edge u to v: 1 there, 0 at every other edge x to y
unfoldable pub at : ℕ → ℕ → ℕ → ℕ → ℕ
at u v x y = cond (eqb x u) (delta y v) 0

-- ---- counts

pub delta_same : (x y : ℕ) → x ≡ y → delta x y ≡ 1
unfolding delta
delta_same x y e = rw (eq-eqb x y e)

pub delta_other : (x y : ℕ) → x ≢ y → delta x y ≡ 0
unfolding delta
delta_other x y h = rw (ne_eqb x y h)

pub delta_is : (x y : ℕ) → 0 < delta x y → x ≡ y
unfolding delta
delta_is x y = by (eqb x y) refl
  where
    by : (s : Bool) → eqb x y ≡ s → 0 < cond s 1 0 → x ≡ y
    by true e h = eqb-true x y e
    by false e h = omega arith

pub delta_le : (x y : ℕ) → delta x y ≤ 1
unfolding delta
delta_le x y = by (eqb x y)
  where
    by : (s : Bool) → cond {A = ℕ} s 1 0 ≤ 1
    by true = omega arith
    by false = omega arith

pub at_self : (u v : ℕ) → at u v u v ≡ 1
unfolding at
at_self u v = rw (eq-eqb u u refl) (delta_same v v refl)

pub at_is : (u v x y : ℕ) → 0 < at u v x y → (x ≡ u) × (y ≡ v)
unfolding at
at_is u v x y = by (eqb x u) refl
  where
    by : (s : Bool) → eqb x u ≡ s → 0 < cond s (delta y v) 0 → (x ≡ u) × (y ≡ v)
    by true e h = (eqb-true x u e, delta_is y v h)
    by false e h = (omega arith, omega arith)

-- an edge out of x is no edge out of another node
pub at_other : (u v x y : ℕ) → x ≢ u → at u v x y ≡ 0
unfolding at
at_other u v x y h = rw (ne_eqb x u h)

-- the count of an edge is that of the edge reversed
pub at_flip : (u v x y : ℕ) → at u v x y ≡ at v u y x
unfolding at delta
at_flip u v x y = by (eqb x u) (eqb y v)
  where
    by : (s t : Bool) → cond {A = ℕ} s (cond t 1 0) 0 ≡ cond t (cond s 1 0) 0
    by true true = refl
    by true false = refl
    by false true = refl
    by false false = refl

pub at_off : (u v x : ℕ) → v ≢ off → at u v x off ≡ 0
at_off u v x h = at_flip u v x off ∙ at_other v u off x (λ e. h (sym e))

-- ---- setting a link

pub update_other : (f : ℕ → ℕ) (x y u : ℕ) → x ≢ u → update f x y u ≡ f u
update_other f x y u h = rw (ne_eqb x u h)

-- a link that is set counts for what it is, and no more for what it was
pub update_law : (f : ℕ → ℕ) (x y u v : ℕ) → delta (update f x y u) v + at u v x (f x) ≡ delta (f u) v + at u v x y
unfolding at
update_law f x y u v = by (eqb x u) refl
  where
    by : (s : Bool) → eqb x u ≡ s → delta (cond s y (f u)) v + cond s (delta (f x) v) 0 ≡ delta (f u) v + cond s (delta y v) 0
    by true e = rw (eqb-true x u e) (omega arith)
    by false e = refl

-- ---- reading a list of links

pub link_in_lem : (n : ℕ) (l : List ℕ) (u : ℕ) → u < n → link_of n l u ≡ get_or l u off
unfolding link_of
link_in_lem n l u h = rw (lt-ltb u n h)

-- the entry of a node is its link, whatever is read past the list's end
pub link_read : (n : ℕ) (l : List ℕ) (u : ℕ) → u < n → n ≤ length l → get_or l u 0 ≡ link_of n l u
link_read n l u h few = any l u (omega arith) ∙ sym (link_in_lem n l u h)
  where
    any : (l : List ℕ) (u : ℕ) → u < length l → get_or l u 0 ≡ get_or l u off
    any [] u h = absurd (omega arith)
    any (x ∷ l) zero h = refl
    any (x ∷ l) (suc u) h = any l u (omega arith)

pub link_out : (n : ℕ) (l : List ℕ) (u : ℕ) → n ≤ u → link_of n l u ≡ off
unfolding link_of
link_out n l u h = rw (le-ltb u n h)

-- links are ids or `off` where the entries of the list are
pub link_le : (n : ℕ) (l : List ℕ) → All (λ v. v ≤ off) l → (u : ℕ) → link_of n l u ≤ off
unfolding link_of
link_le n l h u = by (ltb u n)
  where
    entry : (l : List ℕ) → All (λ v. v ≤ off) l → (u : ℕ) → get_or l u off ≤ off
    entry [] h u = omega arith
    entry (x ∷ l) h zero = h.0
    entry (x ∷ l) h (suc u) = entry l h.1 u

    by : (b : Bool) → cond b (get_or l u off) off ≤ off
    by true = entry l h u
    by false = omega arith

-- storing at a node sets its link
pub link_set : (n : ℕ) (l : List ℕ) (x y : ℕ) → x < n → n ≤ length l → link_of n (set l x y) ≡ update (link_of n l) x y
link_set n l x y hx hl = fun_ext (λ u. by u (eqb x u) refl (ltb u n) refl)
  where
    by : (u : ℕ) (s : Bool) → eqb x u ≡ s → (t : Bool) → ltb u n ≡ t → link_of n (set l x y) u ≡ cond s y (link_of n l u)
    by u true e t k = rw (← eqb-true x u e, link_in_lem n (set l x y) x hx) (get_or-set_same l x y off (omega arith))
    by u false e true k =
        rw (link_in_lem n (set l x y) u (ltb-true u n k), link_in_lem n l u (ltb-true u n k))
        (get_or-set_other l x u y off (λ q. eqb-false x u e (sym q)))
    by u false e false k = rw (link_out n (set l x y) u (ltb-false u n k), link_out n l u (ltb-false u n k))

-- one node more, off the front: no link changes
pub link_more : (n : ℕ) (l : List ℕ) → n < length l → link_of (n + 1) (set l n off) ≡ link_of n l
link_more n l hl = fun_ext (λ u. by u (eqb n u) refl (ltb u n) refl)
  where
    by : (u : ℕ) (s : Bool) → eqb n u ≡ s → (t : Bool) → ltb u n ≡ t → link_of (n + 1) (set l n off) u ≡ link_of n l u
    by u true e t k =
        let q = eqb-true n u e in
        link_in_lem (n + 1) (set l n off) u (omega arith)
        ∙ (rw (← q) (get_or-set_same l n off off hl) ∙ sym (link_out n l u (omega arith)))
    by u false e true k =
        let h = ltb-true u n k in
        link_in_lem (n + 1) (set l n off) u (omega arith)
        ∙ (get_or-set_other l n u off off (λ q. eqb-false n u e (sym q)) ∙ sym (link_in_lem n l u h))
    by u false e false k =
        let ne = eqb-false n u e in
        link_out (n + 1) (set l n off) u (omega (arith, ltb-false u n k)) ∙ sym (link_out n l u (ltb-false u n k))

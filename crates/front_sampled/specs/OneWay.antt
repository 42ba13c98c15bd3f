-- A ring of three ids or more is joined one way: no edge is added whose edge back is there, and none from a node to itself.
use Rattle.std.specs.Prelude.{◌≡◌, refl, ◌≢◌, List, [], ◌∷◌, ℕ, ◌<◌, ◌≤◌}
use Rattle.std.proofs.Common.{sym, ◌∙◌, arith, eq-eqb}
use Rattle.topology.specs.Sums.{All}
use Rattle.topology.specs.Links.{off, update, update_other}
use Rattle.topology.proofs.Changes.{Change, add, remove, Valid}
use Rattle.topology.proofs.Laying.{joins, Distinct}

-- where u to v is added, v is not u, nor linked to u
abbrev pub OneWay : (ℕ → ℕ) → List Change → Type 0
OneWay f [] = Unit {0}
OneWay f (remove u v ∷ cs) = OneWay (update f u off) cs
OneWay f (add u v ∷ cs) = ((f v ≢ u) × (v ≢ u)) × OneWay (update f u v) cs

-- the last of u ∷ vs
abbrev end_of : ℕ → List ℕ → ℕ
end_of u [] = u
end_of u (v ∷ vs) = end_of v vs

end_all : (P : ℕ → Type 0) (u : ℕ) (vs : List ℕ) → All P (u ∷ vs) → P (end_of u vs)
end_all P u [] h = h.0
end_all P u (v ∷ vs) h = end_all P v vs h.1

-- the first node of a path has no link
valid_first : (f : ℕ → ℕ) (u : ℕ) (vs : List ℕ) (z : ℕ) → Valid f (joins u vs z) → f u ≡ off
valid_first f u [] z h = h.0
valid_first f u (v ∷ vs) z h = h.0

module _ (n : ℕ) (few : n ≤ off) where
  -- the node after u has none either
  unlinked : (f : ℕ → ℕ) (u v : ℕ) (vs : List ℕ) (z : ℕ) → u < n → v ≢ u → Valid (update f u v) (joins v vs z) → f v ≢ u
  unlinked f u v vs z hu ne h e =
      omega (arith, sym (update_other f u v v (λ q. ne (sym q))) ∙ valid_first (update f u v) v vs z h, e)

  one_way_path : (f : ℕ → ℕ) (u : ℕ) (vs : List ℕ) (z : ℕ) → All (λ v. v < n) (u ∷ vs) → Distinct (u ∷ vs) → All (λ v. v ≢ z) (u ∷ vs)
      → f z ≢ end_of u vs → Valid f (joins u vs z) → OneWay f (joins u vs z)
  one_way_path f u [] z b d nz ne h = ((ne, λ e. nz.0 (sym e)), tt)
  one_way_path f u (v ∷ vs) z b d nz ne h = (
    (unlinked f u v vs z b.0 d.0.0 h.1, d.0.0),
    one_way_path (update f u v) v vs z b.1 d.1 nz.1 (λ e. ne (sym (update_other f u v z nz.0) ∙ e)) h.1,
  )

  pub one_way : (f : ℕ → ℕ) (x v w : ℕ) (vs : List ℕ) → All (λ u. u < n) (x ∷ v ∷ w ∷ vs) → Distinct (x ∷ v ∷ w ∷ vs)
      → Valid f (joins x (v ∷ w ∷ vs) x) → OneWay f (joins x (v ∷ w ∷ vs) x)
  one_way f x v w vs b d h = (
    (unlinked f x v (w ∷ vs) x b.0 d.0.0 h.1, d.0.0),
    one_way_path (update f x v) v (w ∷ vs) x b.1 d.1 d.0 (rw (eq-eqb x x refl) (λ e. end_all (λ u. u ≢ v) w vs d.1.0 (sym e))) h.1,
  )

-- A node's neighbour along the front, by case: `next.get(&u)` and `prev.get(&v)` of src/alt_crossfield.rs. Its number in the lists of links is
-- SCOPE's; laws that join the two, and computed examples.
use Rattle.std.specs.Prelude.{◌≡◌, refl, Bool, true, false, cond, ◌≢◌, ℕ, eqb, Option, Some, None}
use Rattle.std.proofs.Common.{sym, ap, ◌∙◌, eqb-true, eq-eqb, ne_eqb}
use Rattle.topology.specs.Links.{off}
use Rattle.front.specs.State.{State, next_of, prev_of}

-- ---- definitions

-- a neighbour's number in a list of links: 4,294,967,295 marks a node off the front
abbrev pub link_to : Option ℕ → ℕ
link_to (Some id) = id
link_to None = off

-- the neighbour that has the number v
unfoldable pub neighbour_of : ℕ → Option ℕ
neighbour_of v = cond (eqb v off) None (Some v)

-- `next.get(&u)`
abbrev pub next_at : State → ℕ → Option ℕ
next_at s u = neighbour_of (next_of s u)

-- `prev.get(&v)`
abbrev pub prev_at : State → ℕ → Option ℕ
prev_at s v = neighbour_of (prev_of s v)

-- `== Some(&v)`
abbrev pub is_at : Option ℕ → ℕ → Bool
is_at (Some id) v = eqb id v
is_at None v = false

-- ---- laws

pub neighbour_off : (v : ℕ) → v ≡ off → neighbour_of v ≡ None
unfolding neighbour_of
neighbour_off v e = rw (eq-eqb v off e)

pub neighbour_at : (v : ℕ) → v ≢ off → neighbour_of v ≡ Some v
unfolding neighbour_of
neighbour_at v h = rw (ne_eqb v off h)

-- its number is v
pub number_is : (v : ℕ) → link_to (neighbour_of v) ≡ v
unfolding neighbour_of
number_is v = by (eqb v off) refl
  where
    by : (b : Bool) → eqb v off ≡ b → link_to (cond b None (Some v)) ≡ v
    by true e = sym (eqb-true v off e)
    by false e = refl

-- an answer that is the neighbour of number v, taken apart
pub link_is : (v : ℕ) {r n : Option ℕ} → r ≡ neighbour_of v → r ≡ n → link_to n ≡ v
link_is v e q = ap link_to (sym q ∙ e) ∙ number_is v

-- ---- examples

pub of_a_node : neighbour_of 7 ≡ Some 7
unfolding neighbour_of
of_a_node = refl

pub of_none : neighbour_of 4294967295 ≡ None
unfolding neighbour_of
of_none = refl

-- none is no node's number, not even that of the mark
pub none_is_not : is_at (neighbour_of 4294967295) 4294967295 ≡ false
unfolding neighbour_of
none_is_not = refl

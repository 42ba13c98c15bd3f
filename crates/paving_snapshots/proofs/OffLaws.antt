-- A node that is off the front stays off it. Assumes nothing.
use Rattle.std.specs.Prelude.{Bool, true, false, List, ◌≡◌, refl, ◌≢◌, ℕ, ◌+◌, ◌<◌, eqb}
use Rattle.std.proofs.Common.{sym, ◌∙◌, arith, eqb-true}
use Rattle.std.proofs.lemmas.Bool.{eqb-false}
use Rattle.topology.specs.Sums.{front_sum}
use Rattle.topology.specs.Links.{off, at, at_other}
use Rattle.topology.proofs.Front.{next_edge, edge_next, next_of_prev}
use Rattle.topology.proofs.Changes.{added_sum}
use Rattle.front.specs.declared.Corner.{Corner}
use Rattle.front.specs.declared.Corner.TheVariants.{Reused, Fresh}
use Rattle.front.specs.State.{State, next_of, prev_of}
use Rattle.front.specs.Place.{id_c, is_full, place}
use Rattle.front.specs.Sound.{Sound}
use Rattle.front.specs.Ready.{Choice, Chosen}
use Rattle.front.proofs.Moved.{changes_of}
use Rattle.front.proofs.Step.{step}

module _ (n : ℕ) (s : State) (ls : List (List ℕ)) (a b : ℕ) (c d : Corner) (S : Sound n s ls) (H : Choice s a b c d) (few : a < s.counts.nodes) where
  abbrev N : ℕ
  N = s.counts.nodes

  module _ (x : ℕ) (node : x < N) (gone : next_of s x ≡ off) where
    not_a : a ≢ x
    not_a e = H.node (sym H.edge ∙ rw e gone)

    not_c : (c : Corner) → Chosen c b (prev_of s a) → id_c s c ≢ x
    not_c (Reused id) h e =
        let back = next_of_prev N (next_of s) (prev_of s) ls S.front id a h.1 h.0 in
        let is : a ≡ off = sym back ∙ rw e gone in
        omega (arith, S.front.loops.few)
    not_c (Fresh y z) h e = omega arith

    -- what goes on leaves from a, from c or from a new d: from no node that was off the front
    none_added : (v : ℕ) (c d : Corner) → id_c s c ≢ x → added_sum (at x v) (changes_of s a b c d) ≡ 0
    none_added v (Reused c) (Reused d) h = omega (arith, at_other x v c d h)
    none_added v (Reused c) (Fresh y z) h = omega (arith, at_other x v c (N + 0) h, at_other x v (N + 0) b (λ e. omega arith))
    none_added v (Fresh y z) (Reused d) h = omega (arith, at_other x v a N not_a, at_other x v N d h)
    none_added v (Fresh y z) (Fresh w u) h =
        omega (arith, at_other x v a N not_a, at_other x v N (N + 1) h, at_other x v (N + 1) b (λ e. omega arith))

-- a node off the front is off it after a placing
pub off_stays : (n : ℕ) (s : State) (ls : List (List ℕ)) (a b : ℕ) (c d : Corner) → Sound n s ls → Choice s a b c d → is_full s a b c d ≡ false
    → (x : ℕ) → x < s.counts.nodes → next_of s x ≡ off → next_of (place a b c d s) x ≡ off
off_stays n s ls a b c d S H full x node gone = by (eqb v off) refl
  where
    v : ℕ
    v = next_of (place a b c d s) x

    by : (t : Bool) → eqb v off ≡ t → v ≡ off
    by true e = eqb-true v off e
    by false e =
        let ne = eqb-false v off e in
        let P = step n s ls a b c d S H full in
        let there = next_edge _ (next_of (place a b c d s)) P.loops P.sound.front.loops x v ne refl in
        let none = none_added n s ls a b c d S H P.node_a x node gone v c d (not_c n s ls a b c d S H P.node_a x node gone c H.chosen_c) in
        let was : 0 < front_sum (at x v) ls = omega (arith, there, none, P.sums (at x v)) in
        sym (edge_next _ (next_of s) ls S.front.loops x v was) ∙ gone

-- The quad that would take the last numbers (docs/DECISIONS.md, 16), computed from the definitions: with 4,294,967,294 nodes its second new corner
-- gets the number that marks a node off the front. The attempt answers it, and the paving is full.
use Rattle.std.specs.Prelude.{◌≡◌, refl, Bool, true, false, not, [], ◌∷◌, ℕ, zero, suc, Some}
use Rattle.std.proofs.Common.{sym, ap}
use Rattle.laws.proofs.Chain.{passes}
use Rattle.laws.specs.Loop.{for_up, any_up}
use Rattle.numbers.specs.Float.{to_float, one_f, is_finite}
use Rattle.outline.specs.Outline.{Outline, outline}
use Rattle.outline.specs.Queries.{contains}
use Rattle.geometry.specs.declared.Corners.{Corners}
use Rattle.geometry.specs.Plane.{convex_ccw, centroid}
use Rattle.topology.specs.Links.{off}
use Rattle.front.specs.declared.Corner.{Corner}
use Rattle.front.specs.declared.Corner.TheVariants.{Fresh}
use Rattle.front.specs.State.{State, state_of, counted}
use Rattle.front.specs.Neighbours.{next_at, is_at}
use Rattle.front.specs.Place.{id_c, id_d, is_full}
use Rattle.paving.specs.Checks.{close_node, too_close, node_ok, corner_free, corners_apart, blocks, node_inside, edges_free, corners_of, quad_ok, quad_fits}
use Rattle.paving.specs.Attempt.{corner_c, corner_d, attempt_quad, far}
use Rattle.examples_table.proofs.Opened.{opened}
use Rattle.examples_table.proofs.Unreached.{whole_point, up}

-- 4,294,967,294 nodes, of which 0 and 1 are on the front at (1,1) and (2,1); the others are past the lists' ends, where a NaN is read
abbrev most : State
most = state_of (to_float 1 ∷ to_float 2 ∷ []) (to_float 1 ∷ to_float 1 ∷ []) (1 ∷ off ∷ []) (off ∷ 0 ∷ []) [] [] [] (counted 4294967294 0 0 2)

abbrev wide : Outline
wide = outline (to_float 0 ∷ to_float 0 ∷ to_float 4 ∷ to_float 0 ∷ to_float 4 ∷ to_float 4 ∷ to_float 0 ∷ to_float 4 ∷ []) [] []

-- the new corners get the numbers 4,294,967,294 and 4,294,967,295, of which the last marks a node off the front
abbrev new_c : Corner
new_c = Fresh (to_float 1) (to_float 2)

abbrev new_d : Corner
new_d = Fresh (to_float 2) (to_float 2)

abbrev new_quad : Corners
new_quad = record { a = whole_point 1 1; b = whole_point 2 1; d = whole_point 2 2; c = whole_point 1 2 }

chosen_c : corner_c one_f most 0 1 up ≡ new_c
unfolding opened
chosen_c = refl

chosen_d : corner_d one_f most 0 1 up ≡ new_d
unfolding opened
chosen_d = refl

pub last_number : id_d most new_c new_d ≡ off
unfolding opened
last_number = refl

-- c has no successor, and isn't taken for a node that d follows
pub not_next : not (is_at (next_at most (id_c most new_c)) (id_d most new_c new_d)) ≡ true
unfolding opened
not_next = refl

-- a test that fails for each node: so many can't be counted through
no_node : (test : ℕ → Bool) → ((id : ℕ) → test id ≡ false) → (n : ℕ) → any_up n test ≡ false
unfolding any_up for_up
no_node test h zero = refl
no_node test h (suc n) = rw (no_node test h n, h n) refl

clear_c : (id : ℕ) → close_node one_f most (whole_point 1 2) id ≡ false
unfolding opened
clear_c zero = refl
clear_c (suc zero) = refl
clear_c (suc (suc id)) = refl

clear_d : (id : ℕ) → close_node one_f most (whole_point 2 2) id ≡ false
unfolding opened
clear_d zero = refl
clear_d (suc zero) = refl
clear_d (suc (suc id)) = refl

outside : (id : ℕ) → blocks one_f most new_quad 0 1 4294967295 4294967294 id ≡ false
unfolding opened
outside zero = refl
outside (suc zero) = refl
outside (suc (suc id)) = refl

finite_1 : is_finite (to_float 1) ≡ true
unfolding opened
finite_1 = refl

finite_2 : is_finite (to_float 2) ≡ true
unfolding opened
finite_2 = refl

inside_c : contains wide (whole_point 1 2) ≡ true
unfolding opened
inside_c = refl

inside_d : contains wide (whole_point 2 2) ≡ true
unfolding opened
inside_d = refl

free_c : corner_free wide one_f most new_c ≡ true
unfolding corner_free node_ok too_close
free_c = sym (passes finite_1 (passes finite_2 (passes inside_c (ap not (sym (no_node (close_node one_f most (whole_point 1 2)) clear_c 4294967294))))))

free_d : corner_free wide one_f most new_d ≡ true
unfolding corner_free node_ok too_close
free_d = sym (passes finite_2 (passes finite_2 (passes inside_d (ap not (sym (no_node (close_node one_f most (whole_point 2 2)) clear_d 4294967294))))))

apart : corners_apart one_f new_c new_d ≡ true
unfolding opened
apart = refl

corners_are : corners_of most 0 1 new_c new_d ≡ new_quad
unfolding opened
corners_are = refl

convex : convex_ccw new_quad ≡ true
unfolding opened
convex = refl

centre : contains wide (centroid new_quad) ≡ true
unfolding opened
centre = refl

no_edges : true ≡ edges_free one_f most 0 1 new_c new_d
unfolding opened
no_edges = refl

ok : true ≡ quad_ok wide one_f most 0 1 new_c new_d
unfolding quad_ok node_inside
ok = rw corners_are (passes convex (passes centre (passes (ap not (no_node (blocks one_f most new_quad 0 1 4294967295 4294967294) outside 4294967294)) no_edges)))

fits : true ≡ quad_fits wide one_f most 0 1 new_c new_d
unfolding quad_fits
fits = passes refl (passes free_c (passes free_d (passes apart (passes not_next ok))))

-- the attempt answers the quad
pub last_quad : attempt_quad wide one_f most 0 1 up up ≡ Some (far new_c new_d)
unfolding attempt_quad
last_quad = rw (chosen_c, chosen_d, ← fits)

-- and the paving is full
pub most_full : is_full most 0 1 new_c new_d ≡ true
unfolding opened
most_full = refl

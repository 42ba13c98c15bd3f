-- The walk along a loop step by step, with its ids marked and written: the invariant of `list_loop`.
use Rattle.std.specs.Prelude.{Bool, true, false, cond, ◌||◌, List, [], ◌∷◌, ◌++◌, ◌≢◌, ◌≡◌, ℕ, zero, suc, ◌+◌, ◌<◌, ◌≤◌, eqb, ltb, get_or, set}
use Rattle.std.proofs.Common.{append_assoc, sym, ◌∙◌, ap, subst, arith, length-append, length-set, ltb-true, ltb-false, eq-eqb, ne_eqb}
use Rattle.std.proofs.Math.Path.{refl}
use Rattle.std.proofs.Math.ListN.{length}
use Rattle.std.proofs.lemmas.List.Edits.{sets}
use Rattle.std.proofs.Math.Seq.{length-sets}
use Rattle.topology.specs.Links.{off, link_of, link_read, link_out}
use Rattle.topology.specs.Walk.{walk_by, prepend, walk_off}

-- ---- definitions

-- the links of all nodes, where the list has a place for each and no more
abbrev pub links_in : List ℕ → ℕ → ℕ
links_in next u = link_of (length next) next u

-- the loop whose smallest id is u, from u on; [] where there is none
abbrev pub walk_in : List ℕ → ℕ → List ℕ
walk_in next u = walk_by (links_in next) (length next) u u

-- 1 at each place that l names
unfoldable pub mark_all : List ℕ → List ℕ → List ℕ
mark_all [] s = s
mark_all (x ∷ l) s = mark_all l (set s x 1)

-- what `list_loop` asks: there is a loop from start, with places for its marks and for its ids from `at` on
pub record Walkable (next marks loops : List ℕ) (start at : ℕ) : Type 0 where
  pub some : 0 < length (walk_in next start)
  pub marks_fit : length next ≤ length marks
  pub room : at + length (walk_in next start) ≤ length loops

-- what it does: the loop is marked, its ids are written, and the answer is the place after them
pub record Walked (next marks₀ loops₀ : List ℕ) (start at : ℕ) (marks loops : List ℕ) (end : ℕ) : Type 0 where
  pub marked : marks ≡ mark_all (walk_in next start) marks₀
  pub ids : loops ≡ sets loops₀ at (walk_in next start)
  pub after : end ≡ at + length (walk_in next start)

-- ---- one step of a walk

-- a walk that finds something goes along a link
pub walk_on : (f : ℕ → ℕ) (k z u : ℕ) → 0 < length (walk_by f k z u) → f u ≢ off
walk_on f k z u h e = omega (arith, ap length (walk_off f k z u e))

-- it ends where the link is its start
pub walk_last : (f : ℕ → ℕ) (k z u : ℕ) → 0 < length (walk_by f k z u) → f u ≡ z → walk_by f k z u ≡ u ∷ []
unfolding walk_by
walk_last f zero z u h e = absurd (omega arith)
walk_last f (suc k) z u h e = let q = eq-eqb (f u) z e in rw q (by (ltb u z || eqb (f u) off) (rw q at h))
  where
    by : (b : Bool) → 0 < length (cond b [] (u ∷ [])) → cond b [] (u ∷ []) ≡ u ∷ []
    by true h = absurd (omega arith)
    by false h = refl

-- and goes on where it is not
pub record Onward (f : ℕ → ℕ) (k z u : ℕ) : Type 0 where
  pub most : ℕ
  pub rest : walk_by f k z u ≡ u ∷ walk_by f most z (f u)
  pub some : 0 < length (walk_by f most z (f u))

pub walk_more : (f : ℕ → ℕ) (k z u : ℕ) → 0 < length (walk_by f k z u) → f u ≢ z → Onward f k z u
unfolding walk_by prepend
walk_more f zero z u h other = absurd (omega arith)
walk_more f (suc k) z u h other =
    let q = ne_eqb (f u) z other in
    let s = by (ltb u z || eqb (f u) off) (walk_by f k z (f u)) (rw q at h) in
    record { most = k; rest = rw q s.0; some = s.1 }
  where
    by : (b : Bool) (w : List ℕ) → 0 < length (cond b [] (prepend u w)) → (cond b [] (prepend u w) ≡ u ∷ w) × (0 < length w)
    by true w h = absurd (omega arith)
    by false [] h = absurd (omega arith)
    by false (x ∷ w) h = (refl, omega arith)

-- it has k nodes at most
pub walk_length_lem : (f : ℕ → ℕ) (k z u : ℕ) → length (walk_by f k z u) ≤ k
unfolding walk_by prepend
walk_length_lem f zero z u = omega arith
walk_length_lem f (suc k) z u = by (ltb u z || eqb (f u) off) (eqb (f u) z) (walk_by f k z (f u)) (walk_length_lem f k z (f u))
  where
    by : (b c : Bool) (w : List ℕ) → length w ≤ k → length (cond b [] (cond c (u ∷ []) (prepend u w))) ≤ suc k
    by true c w h = omega arith
    by false true w h = omega arith
    by false false [] h = omega arith
    by false false (x ∷ w) h = omega arith

-- ---- reading a link

-- the entry of a node is its link
pub entry_read : (next : List ℕ) (u : ℕ) → u < length next → get_or next u 0 ≡ links_in next u
entry_read next u h = link_read (length next) next u h (omega arith)

-- only a node has a link
pub link_node : (n : ℕ) (next : List ℕ) (u : ℕ) → link_of n next u ≢ off → u < n
link_node n next u on = by (ltb u n) refl
  where
    by : (b : Bool) → ltb u n ≡ b → u < n
    by true e = ltb-true u n e
    by false e = absurd (on (link_out n next u (ltb-false u n e)))

-- ---- marks and ids, one more

pub mark_length : (l s : List ℕ) → length (mark_all l s) ≡ length s
unfolding mark_all
mark_length [] s = refl
mark_length (x ∷ l) s = mark_length l (set s x 1) ∙ length-set s x 1

mark_more : (l : List ℕ) (u : ℕ) (s : List ℕ) → set (mark_all l s) u 1 ≡ mark_all (l ++ u ∷ []) s
unfolding mark_all
mark_more [] u s = refl
mark_more (x ∷ l) u s = mark_more l u (set s x 1)

pub sets_more : (l : List ℕ) (u : ℕ) (s : List ℕ) (at i : ℕ) → i ≡ at + length l → set (sets s at l) i u ≡ sets s at (l ++ u ∷ [])
sets_more [] u s at i e = let q : i ≡ at = omega arith in rw q
sets_more (x ∷ l) u s at i e = sets_more l u (set s at x) (suc at) i (omega arith)

-- ---- the invariant: `done` is marked and written, and the walk goes on from u

pub record Walking (next marks₀ loops₀ : List ℕ) (start at : ℕ) (marks loops : List ℕ) (u i : ℕ) : Type 0 where
  pub done : List ℕ
  pub most : ℕ
  pub whole : walk_in next start ≡ done ++ walk_by (links_in next) most start u
  pub some : 0 < length (walk_by (links_in next) most start u)
  pub place : i ≡ at + length done
  pub marked : marks ≡ mark_all done marks₀
  pub ids : loops ≡ sets loops₀ at done

module _ {next marks₀ loops₀ : List ℕ} {start at : ℕ} where
  pub walking_start : Walkable next marks₀ loops₀ start at → Walking next marks₀ loops₀ start at marks₀ loops₀ start at
  unfolding mark_all
  walking_start w =
      record { done = []; most = length next; whole = refl; some = w.some; place = omega arith; marked = refl; ids = refl }

  module _ {marks loops : List ℕ} {u i : ℕ} (w : Walking next marks₀ loops₀ start at marks loops u i) where
    pub walking_in : u < length next
    walking_in = link_node (length next) next u (walk_on (links_in next) w.most start u w.some)

    pub walking_marks : length marks ≡ length marks₀
    walking_marks = ap length w.marked ∙ mark_length w.done marks₀

    pub walking_loops : length loops ≡ length loops₀
    walking_loops = ap length w.ids ∙ length-sets loops₀ at w.done

    -- the walk is not over
    pub walking_room : i < at + length (walk_in next start)
    walking_room =
        omega (arith, w.some, w.place, ap length w.whole, length-append w.done (walk_by (links_in next) w.most start u))

    -- u is marked and written, and is the last
    pub walking_end : get_or next u 0 ≡ start → Walked next marks₀ loops₀ start at (set marks u 1) (set loops i u) (i + 1)
    walking_end e =
        let last = walk_last (links_in next) w.most start u w.some (sym (entry_read next u walking_in) ∙ e) in
        let whole : walk_in next start ≡ w.done ++ u ∷ [] = w.whole ∙ ap (λ (l : List ℕ). w.done ++ l) last in
        record {
          marked = ap (λ (s : List ℕ). set s u 1) w.marked ∙ (mark_more w.done u marks₀ ∙ ap (λ (l : List ℕ). mark_all l marks₀) (sym whole));
          ids =
              ap (λ (s : List ℕ). set s i u) w.ids
              ∙ (sets_more w.done u loops₀ at i w.place ∙ ap (λ (l : List ℕ). sets loops₀ at l) (sym whole));
          after = omega (arith, w.place, ap length whole, length-append w.done (u ∷ []));
        }

    -- or the walk goes on
    pub walking_next : get_or next u 0 ≢ start → Walking next marks₀ loops₀ start at (set marks u 1) (set loops i u) (get_or next u 0) (i + 1)
    walking_next other =
        let f = links_in next in
        let read = entry_read next u walking_in in
        let s = walk_more f w.most start u w.some (λ e. other (read ∙ e)) in
        let rest : w.done ++ walk_by f w.most start u ≡ (w.done ++ u ∷ []) ++ walk_by f s.most start (f u) =
        ap (λ (l : List ℕ). w.done ++ l) s.rest ∙ sym (append_assoc w.done (u ∷ []) (walk_by f s.most start (f u))) in
        record {
          done = w.done ++ u ∷ [];
          most = s.most;
          whole = w.whole ∙ (rest ∙ ap (λ (v : ℕ). (w.done ++ u ∷ []) ++ walk_by f s.most start v) (sym read));
          some = subst (λ (v : ℕ). 0 < length (walk_by f s.most start v)) (sym read) s.some;
          place = omega (arith, w.place, length-append w.done (u ∷ []));
          marked = ap (λ (s : List ℕ). set s u 1) w.marked ∙ mark_more w.done u marks₀;
          ids = ap (λ (s : List ℕ). set s i u) w.ids ∙ sets_more w.done u loops₀ at i w.place;
        }

-- What the code's loops and branches go by.
use Rattle.std.specs.Prelude.{◌≢◌, ◌≡◌, refl, ℕ, zero, suc, ◌+◌, ◌-◌, ◌<◌, ◌≤◌, leb, length, get_or, set, take, Option, Some, None, MatchOption, Ok, Err}
use Rattle.std.proofs.Math.Bool.{true, false, cond}
use mathlib.Core.List.{List, [], ◌∷◌, ◌++◌}
use Rattle.std.proofs.Common.{sym, ◌∙◌, add-one, length-append}
use Rattle.std.proofs.Math.Path.{ap}
use native.Mathlib.Omega.{arith}
use Rattle.std.proofs.Math.ListN.{drop}
use Rattle.std.proofs.Math.Seq.{take-length}
use borrow.Author.Tests.{lt-ltb, le-ltb}
use Rattle.laws.specs.Loop.{for_up}
use Rattle.topology.specs.Links.{off, link_of}
use Rattle.topology.specs.Walk.{walk_by, prepend, walk_off}
use Rattle.topology.specs.Listing.{long_loops, walks}
use Rattle.laws.specs.Overlay.{overlay}
use Rattle.exam_loop_reads.specs.declared.FoundLoop.{FoundLoop}
use Rattle.exam_loops.specs.Loops.{links_sound, linked_loops, loop_numbered, loop_reading, read_into, read_loop}
use Rattle.exam_loops.proofs.WalksBase.{walk_under, walk_closed, walk_onward, walk_first, walk_along}
use Rattle.exam_loops.proofs.Walks.{starts_none}
use Rattle.exam_loops.proofs.WalksBase.{numbered_last, numbered_past, listing_long, listing_short, listing_stays}

-- ---- how many nodes a walk takes

-- what is left of a walk, after c nodes: none where it doesn't come to its end
unfoldable pub walk_after : ℕ → ℕ → ℕ
walk_after c zero = zero
walk_after c (suc m) = c + suc m

prepend_length : (u : ℕ) (l : List ℕ) → length (prepend u l) ≡ walk_after 1 (length l)
unfolding prepend walk_after
prepend_length u [] = refl
prepend_length u (x ∷ l) = omega arith

-- how many nodes a walk takes; none where it takes none
abbrev pub some_length : List ℕ → Option ℕ
some_length [] = None
some_length (x ∷ w) = Some (length (x ∷ w))

pub length_none : (w : List ℕ) → 0 ≡ length w → None ≡ some_length w
length_none [] e = refl
length_none (x ∷ w) e = absurd (omega (arith, e))

pub length_some : (w : List ℕ) (m : ℕ) → m ≡ length w → 0 < m → Some m ≡ some_length w
length_some [] m e h = absurd (omega (arith, e))
length_some (x ∷ w) m e h = ap Some e

pub none_length : (w : List ℕ) → None ≡ some_length w → length w ≡ 0
none_length [] e = refl
none_length (x ∷ w) e = cc

pub some_length_lem : (w : List ℕ) {m : ℕ} → Some m ≡ some_length w → m ≡ length w
some_length_lem [] e = cc
some_length_lem (x ∷ w) e = cc

after_none : (m : ℕ) → walk_after 0 m ≡ m
unfolding walk_after
after_none zero = refl
after_none (suc m) = omega arith

after_one : (c m : ℕ) → walk_after c (walk_after 1 m) ≡ walk_after (c + 1) m
unfolding walk_after
after_one c zero = refl
after_one c (suc m) = let two : 1 + suc m ≡ suc (suc m) = omega arith in rw two (omega arith)

module _ (f : ℕ → ℕ) (n z : ℕ) where
  -- the invariant of `walk_length`: c nodes are taken, and the walk goes on from u
  pub record Stepping (u c : ℕ) : Type 0 where
    pub within : c ≤ n
    pub same : length (walk_by f n z z) ≡ walk_after c (length (walk_by f (n - c) z u))

  pub stepping_start : Stepping z 0
  stepping_start =
      let all : n - 0 ≡ n = omega arith in
      record { within = omega arith; same = rw all (sym (after_none (length (walk_by f n z z)))) }

  module _ {u c : ℕ} (s : Stepping u c) where
    -- the walk from u is l
    ends_as : (l : List ℕ) → walk_by f (n - c) z u ≡ l → walk_after c (length l) ≡ length (walk_by f n z z)
    ends_as l e = ap (λ (m : List ℕ). walk_after c (length m)) (sym e) ∙ sym s.same

    pub stepping_out : n ≤ c → 0 ≡ length (walk_by f n z z)
    unfolding walk_by walk_after
    stepping_out h = let none : n - c ≡ 0 = omega arith in ends_as [] (ap (λ (k : ℕ). walk_by f k z u) none)

    module _ (h : c < n) where
      -- as many may be taken, and one more
      fuel : n - c ≡ suc (n - (c + 1))
      fuel = omega arith

      pub stepping_under : u < z → 0 ≡ length (walk_by f n z z)
      unfolding walk_after
      stepping_under low = ends_as [] (ap (λ (k : ℕ). walk_by f k z u) fuel ∙ walk_under f (n - (c + 1)) z u low)

      pub stepping_off : (v : ℕ) → v ≡ f u → v ≡ off → 0 ≡ length (walk_by f n z z)
      unfolding walk_after
      stepping_off v e o = ends_as [] (walk_off f (n - c) z u (sym e ∙ o))

      module _ (v : ℕ) (e : v ≡ f u) (high : z ≤ u) (on : v ≢ off) where
        pub stepping_end : v ≡ z → c + 1 ≡ length (walk_by f n z z)
        unfolding walk_after
        stepping_end back =
            ends_as (u ∷ []) (ap (λ (k : ℕ). walk_by f k z u) fuel ∙ walk_closed f (n - (c + 1)) z u high (λ q. on (e ∙ q)) (sym e ∙ back))

        pub stepping_next : v ≢ z → Stepping v (c + 1)
        stepping_next other =
            let rest = walk_by f (n - (c + 1)) z v in
            let on_to : walk_by f (n - c) z u ≡ prepend u rest =
            ap (λ (k : ℕ). walk_by f k z u) fuel
            ∙ (walk_onward f (n - (c + 1)) z u high (λ q. on (e ∙ q)) (λ q. other (e ∙ q)) ∙ ap (λ (w : ℕ). prepend u (walk_by f (n - (c + 1)) z w)) (sym e)) in
            record {
              within = omega arith;
              same = sym (ends_as (prepend u rest) on_to) ∙ (ap (walk_after c) (prepend_length u rest) ∙ after_one c (length rest));
            }

-- where the link back is to a node below u, no loop starts at u
pub low_none : (n : ℕ) (next prev : List ℕ) → links_sound n next prev ≡ true → (u : ℕ) → n ≤ off → (v : ℕ) → v ≡ link_of n prev u → v < u
    → 0 ≡ length (walk_by (link_of n next) n u u)
low_none n next prev sound u few v e low = sym (starts_none n next prev sound u few (omega (arith, e)))

-- ---- loop k

-- loop k of the walks along f: where it starts, and how many ids it has
pub record FoundAt (f : ℕ → ℕ) (n k : ℕ) (r : FoundLoop) : Type 0 where
  pub long : r.length ≡ length (walk_by f n r.start r.start)
  pub walk : walk_by f n r.start r.start ≡ loop_numbered (walks 3 n n f) k

-- the loop from u, where it has three nodes or more
abbrev pub long_from : (ℕ → ℕ) → ℕ → ℕ → Option FoundLoop
long_from f n u = cond (leb 3 (length (walk_by f n u u))) (Some (record { start = u; length = length (walk_by f n u u) })) None

-- none where it has no id
abbrev pub Found : (ℕ → ℕ) → ℕ → ℕ → Option FoundLoop → Type 0
Found f n k r = MatchOption r (loop_numbered (walks 3 n n f) k ≡ []) (FoundAt f n k)

module _ (f : ℕ → ℕ) (n k : ℕ) where
  -- the invariant of `find_loop`: the nodes below u are passed, and so many of the loops up to k are left
  pub record Finding (left u : ℕ) : Type 0 where
    pub within : u ≤ n
    pub seen : length (walks 3 u n f) + left ≡ k

  pub finding_start : Finding k 0
  unfolding long_loops for_up
  finding_start = record { within = omega arith; seen = omega arith }

  -- the walk from u
  abbrev from : ℕ → List ℕ
  from u = walk_by f n u u

  module _ {left u : ℕ} (s : Finding left u) where
    pub finding_end : n ≤ u → loop_numbered (walks 3 n n f) k ≡ []
    finding_end h =
        let all : u ≡ n = omega (arith, s.within) in
        numbered_past (walks 3 n n f) k (omega (arith, s.seen, ap (λ (j : ℕ). length (walks 3 j n f)) all))

    module _ (h : u < n) (m : ℕ) (e : m ≡ length (walk_by f n u u)) where
      pub finding_skip : m < 3 → {l : ℕ} → l ≡ left → Finding l (u + 1)
      finding_skip short {l} same =
          record {
            within = omega arith;
            seen = omega (arith, s.seen, ap length (ap (λ (j : ℕ). walks 3 j n f) (add-one u) ∙ listing_short from u (omega (arith, e))));
          }

      pub finding_pass : 3 ≤ m → left ≢ 0 → {l : ℕ} → l ≡ left - 1 → Finding l (u + 1)
      finding_pass long some {l} same =
          record {
            within = omega arith;
            seen =
                omega (
                  arith,
                  s.seen,
                  some,
                  ap length (ap (λ (j : ℕ). walks 3 j n f) (add-one u) ∙ listing_long from u (omega (arith, e))),
                  length-append (walks 3 u n f) (from u ∷ []),
                );
          }

      pub finding_hit : 3 ≤ m → left ≡ 0 → FoundAt f n k (record { start = u; length = m })
      finding_hit long none =
          let more = listing_long from u (omega (arith, e)) in
          let stays =
          listing_stays from k (suc u) n (omega arith) (omega (arith, s.seen, none, ap length more, length-append (walks 3 u n f) (from u ∷ []))) in
          let is : loop_numbered (walks 3 n n f) k ≡ from u =
          stays.same ∙ (ap (λ (ls : List (List ℕ)). loop_numbered ls k) more ∙ numbered_last (walks 3 u n f) (from u) k (omega (arith, s.seen, none))) in
          record { long = e; walk = sym is }

-- ---- the ids written

-- so many of the ids w are to be written, and there are places for them
pub record Writable (w : List ℕ) (count : ℕ) (reply : List ℕ) : Type 0 where
  pub ids : count ≤ length w
  pub places : count ≤ length reply

-- the next of w on the next place
write_more : (w s : List ℕ) (i : ℕ) → i < length w → i < length s → set (take i w ++ drop i s) i (get_or w i 0) ≡ take (suc i) w ++ drop (suc i) s
write_more [] s i h g = absurd (omega arith)
write_more (x ∷ w) [] i h g = absurd (omega arith)
write_more (x ∷ w) (y ∷ s) zero h g = refl
write_more (x ∷ w) (y ∷ s) (suc i) h g = ap (λ (l : List ℕ). x ∷ l) (write_more w s i (omega arith) (omega arith))

-- the invariant of `write_ids`: i of the ids w are written, and u is the next
pub record Writing (w : List ℕ) (count : ℕ) (reply₀ reply : List ℕ) (u i : ℕ) : Type 0 where
  pub within : i ≤ count
  pub same : reply ≡ take i w ++ drop i reply₀
  pub node : i < length w → u ≡ get_or w i 0

module _ (f : ℕ → ℕ) (n start count : ℕ) (reply₀ : List ℕ) where
  abbrev w : List ℕ
  w = walk_by f n start start

  pub writing_start : Writing (walk_by f n start start) count reply₀ reply₀ start 0
  writing_start = record { within = omega arith; same = refl; node = λ h. sym (walk_first f n start start h) }

  module _ (can : Writable (walk_by f n start start) count reply₀) {reply : List ℕ} {u i : ℕ}
      (s : Writing (walk_by f n start start) count reply₀ reply u i) where
    pub writing_next : i < count → (v : ℕ) → v ≡ f u → Writing (walk_by f n start start) count reply₀ (set reply i u) v (i + 1)
    writing_next h v e =
        let here : u ≡ get_or w i 0 = s.node (omega (arith, can.ids)) in
        record {
          within = omega arith;
          same =
              ap (λ (l : List ℕ). set l i u) s.same
              ∙ (ap (set (take i w ++ drop i reply₀) i) here
              ∙ rw (add-one i) (write_more w reply₀ i (omega (arith, can.ids)) (omega (arith, can.places))));
          node = λ g. e ∙ (ap f here ∙ (walk_along f i n start start (omega (arith, g)) ∙ ap (λ (j : ℕ). get_or w j 0) (sym (add-one i))));
        }

    pub writing_end : count ≤ i → reply ≡ take count (walk_by f n start start) ++ drop count reply₀
    writing_end h =
        let all : i ≡ count = omega (arith, s.within) in
        s.same ∙ ap (λ (j : ℕ). take j w ++ drop j reply₀) all

-- ---- the reading

module _ (n : ℕ) (next prev : List ℕ) (k : ℕ) (reply : List ℕ) where
  -- of links that aren't sound every loop is empty
  pub read_unsound : links_sound n next prev ≡ false → loop_reading (Ok 0) reply ≡ read_loop n next prev k reply
  unfolding read_loop linked_loops loop_numbered read_into overlay
  read_unsound e = rw (e, le-ltb (length reply) 0 (omega arith))

  module _ (sound : links_sound n next prev ≡ true) where
    -- past the last loop too
    pub read_none : loop_numbered (walks 3 n n (link_of n next)) k ≡ [] → loop_reading (Ok 0) reply ≡ read_loop n next prev k reply
    unfolding read_loop linked_loops read_into overlay
    read_none e = rw (sound, e, le-ltb (length reply) 0 (omega arith))

    module _ (r : FoundLoop) (found : FoundAt (link_of n next) n k r) where
      pub read_short : length reply < r.length → loop_reading (Err 14) reply ≡ read_loop n next prev k reply
      unfolding read_loop linked_loops read_into
      read_short h = rw (sound, ← found.walk, ← found.long, lt-ltb (length reply) r.length h)

      module _ (h : r.length ≤ length reply) where
        -- what is written has ids and places
        pub can_write : Writable (walk_by (link_of n next) n r.start r.start) r.length reply
        can_write = record { ids = omega (arith, found.long); places = h }

        -- all ids of the walk are written
        pub read_written : (list : List ℕ) → list ≡ take r.length (walk_by (link_of n next) n r.start r.start) ++ drop r.length reply
            → loop_reading (Ok r.length) list ≡ read_loop n next prev k reply
        unfolding read_loop linked_loops read_into overlay
        read_written list e =
            let w = walk_by (link_of n next) n r.start r.start in
            let all : take r.length w ≡ w = ap (λ (j : ℕ). take j w) found.long ∙ take-length w in
            rw (sound, ← found.walk, ← found.long, le-ltb (length reply) r.length h) (ap (loop_reading (Ok r.length)) (e ∙ ap (λ (l : List ℕ). l ++ drop r.length reply) all))

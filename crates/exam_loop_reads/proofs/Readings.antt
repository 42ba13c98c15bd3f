-- What a link reads, when two nodes are linked to each other, what is found as loop k, and what reading it answers with its refusal and its length.
use Rattle.std.specs.Prelude.{Bool, not, ◌≢◌, ◌≡◌, refl, ℕ, zero, suc, ◌+◌, ◌<◌, ◌≤◌, eqb, ltb, length, get_or, take}
use Rattle.std.proofs.Math.Bool.{true, false, cond}
use mathlib.Core.List.{List, [], ◌∷◌, ◌++◌}
use Rattle.std.proofs.Common.{sym, ◌∙◌, length-append, length-drop, length-take-le}
use Rattle.std.proofs.Math.Path.{ap}
use native.Mathlib.Omega.{arith}
use Rattle.std.proofs.Math.ListN.{drop, get_or-eq_default}
use Rattle.std.proofs.Math.Seq.{take-length}
use borrow.Author.Tests.{ltb-false, lt-ltb, le-ltb, ne_eqb, eq-eqb}
use Rattle.topology.specs.Links.{off, link_of, link_in_lem, link_read}
use Rattle.topology.specs.Walk.{walk_by}
use Rattle.topology.specs.Listing.{walks}
use Rattle.laws.specs.Overlay.{overlay}
use Rattle.exam_loop_reads.specs.declared.FoundLoop.{FoundLoop}
use Rattle.exam_loop_reads.specs.Code.{FoundAt, Finding, finding_end, finding_hit, Writable, Writing}
use Rattle.laws.specs.Loop.{Scan, scan_hit, scan_next, scan_none}
use Rattle.exam_loops.specs.Loops.{links_back, are_paired, links_sound, linked_loops, loop_numbered, loop_reading, loop_read, read_into, read_loop}

-- ---- links

module _ (n : ℕ) (l : List ℕ) (u : ℕ) (node : u < n) where
  pub link_there : u < length l → get_or l u 0 ≡ link_of n l u
  link_there h = link_read (length l) l u h (omega arith) ∙ (link_in_lem (length l) l u h ∙ sym (link_in_lem n l u node))

  pub link_missing : length l ≤ u → off ≡ link_of n l u
  link_missing h = sym (get_or-eq_default l off h) ∙ sym (link_in_lem n l u node)

module _ (n : ℕ) (back : List ℕ) (u v : ℕ) where
  pub back_off : v ≡ off → true ≡ links_back n back u v
  unfolding links_back
  back_off e = rw (eq-eqb v off e)

  module _ (on : v ≢ off) where
    pub back_far : n ≤ v → false ≡ links_back n back u v
    unfolding links_back
    back_far h = rw (ne_eqb v off on, le-ltb v n h)

    pub back_node : v < n → (w : ℕ) → w ≡ link_of n back v → eqb w u ≡ links_back n back u v
    unfolding links_back
    back_node h w e = rw (ne_eqb v off on, lt-ltb v n h, e)

module _ (n : ℕ) (next prev : List ℕ) where
  module _ (u v : ℕ) (e : v ≡ link_of n next u) (r : Bool) (back : r ≡ links_back n prev u v) where
    pub pair_not : r ≡ false → false ≡ are_paired n next prev u
    unfolding are_paired
    pair_not f = rw (← e, ← back, f)

    pub pair_if : r ≡ true → (w : ℕ) → w ≡ link_of n prev u → (s : Bool) → s ≡ links_back n next u w → s ≡ are_paired n next prev u
    unfolding are_paired
    pair_if t w g s forth = rw (← e, ← back, t, ← g) forth

module _ (n : ℕ) (next prev : List ℕ) where
  -- the links of the nodes below u are answered
  abbrev pub Paired : ℕ → Type 0
  Paired u = Scan (λ v. not (are_paired n next prev v)) n u

  module _ {u : ℕ} (s : Paired u) where
    pub paired_not : u < n → (r : Bool) → r ≡ are_paired n next prev u → r ≡ false → false ≡ links_sound n next prev
    unfolding links_sound
    paired_not h r e f = ap not (scan_hit (λ v. not (are_paired n next prev v)) s h (ap not (sym e ∙ f)))

    pub paired_next : u < n → (r : Bool) → r ≡ are_paired n next prev u → r ≡ true → Paired (u + 1)
    paired_next h r e t = scan_next (λ v. not (are_paired n next prev v)) s h (ap not (sym e ∙ t))

    pub paired_all : n ≤ u → true ≡ links_sound n next prev
    unfolding links_sound
    paired_all h = ap not (scan_none (λ v. not (are_paired n next prev v)) s h)

-- ---- loop k

-- loop k of the walks along f, where it starts and how many ids it has; no ids where there is none
pub record IsLoop (f : ℕ → ℕ) (n k : ℕ) (r : FoundLoop) : Type 0 where
  pub long : r.length ≡ length (loop_numbered (walks 3 n n f) k)
  pub walk : 0 < r.length → walk_by f n r.start r.start ≡ loop_numbered (walks 3 n n f) k

abbrev pub found_loop : ℕ → ℕ → FoundLoop
found_loop start length = record { start = start; length = length }

module _ (f : ℕ → ℕ) (n k : ℕ) where
  -- what is found is loop k
  pub found_is_loop : {r : FoundLoop} → FoundAt f n k r → IsLoop f n k r
  found_is_loop found = record { long = found.long ∙ ap length found.walk; walk = λ p. found.walk }

  module _ {left u : ℕ} (s : Finding f n k left u) where
    pub end_is_loop : n ≤ u → IsLoop f n k (found_loop 0 0)
    end_is_loop h = record { long = sym (ap length (finding_end f n k s h)); walk = λ p. absurd (omega arith) }

    pub hit_is_loop : u < n → (m : ℕ) → m ≡ length (walk_by f n u u) → 3 ≤ m → left ≡ 0 → IsLoop f n k (found_loop u m)
    hit_is_loop h m e long none = found_is_loop (finding_hit f n k s h m e long none)

-- ---- the ids written

-- as many places as there were
module _ (f : ℕ → ℕ) (n start count : ℕ) (reply₀ : List ℕ) where
  abbrev w : List ℕ
  w = walk_by f n start start

  module _ (can : Writable (walk_by f n start start) count reply₀) {reply : List ℕ} {u i : ℕ}
      (s : Writing (walk_by f n start start) count reply₀ reply u i) where
    pub writing_length : length reply ≡ length reply₀
    writing_length =
        omega (
          arith,
          ap length s.same,
          length-append (take i w) (drop i reply₀),
          length-take-le i w (omega (arith, s.within, can.ids)),
          length-drop i reply₀,
          s.within,
          can.places,
        )

-- ---- the reading

no_ids : (l : List ℕ) → length l ≡ 0 → l ≡ []
no_ids [] h = refl
no_ids (x ∷ l) h = absurd (omega arith)

module _ (n : ℕ) (next prev : List ℕ) (k : ℕ) (reply : List ℕ) (sound : links_sound n next prev ≡ true) (r : FoundLoop)
    (found : IsLoop (link_of n next) n k r) where
  abbrev f : ℕ → ℕ
  f = link_of n next

  -- loop k
  abbrev loop_k : List ℕ
  loop_k = loop_numbered (walks 3 n n (link_of n next)) k

  -- what is written has ids and places
  pub can_write : (count : ℕ) → count ≡ cond (ltb (length reply) r.length) 0 r.length → Writable (walk_by (link_of n next) n r.start r.start) count reply
  can_write count e = by (ltb (length reply) r.length) refl r.length refl e
    where
      by : (b : Bool) → ltb (length reply) r.length ≡ b → (m : ℕ) → r.length ≡ m → count ≡ cond b 0 r.length
          → Writable (walk_by f n r.start r.start) count reply
      by true q m l c = record { ids = omega arith; places = omega arith }
      by false q zero l c = record { ids = omega (arith, l); places = omega (arith, l) }
      by false q (suc m) l c =
          record {
            ids = omega (arith, found.long, ap length (found.walk (omega (arith, l))));
            places = omega (arith, ltb-false (length reply) r.length q);
          }

  -- all ids of the walk are the loop's
  all_taken : take r.length (walk_by (link_of n next) n r.start r.start) ≡ loop_numbered (walks 3 n n (link_of n next)) k
  all_taken = by r.length refl
    where
      by : (m : ℕ) → r.length ≡ m → take r.length (walk_by f n r.start r.start) ≡ loop_k
      by zero l = rw l (sym (no_ids loop_k (omega (arith, l, found.long))))
      by (suc m) l = ap (take r.length) (found.walk (omega (arith, l))) ∙ (ap (λ (j : ℕ). take j loop_k) found.long ∙ take-length loop_k)

  pub read_sound : (count refusal : ℕ) (list : List ℕ) → count ≡ cond (ltb (length reply) r.length) 0 r.length
      → refusal ≡ cond (ltb (length reply) r.length) 14 0
      → list ≡ take count (walk_by (link_of n next) n r.start r.start) ++ drop count reply
      → loop_reading (loop_read refusal count) list ≡ read_loop n next prev k reply
  unfolding read_loop linked_loops read_into overlay
  read_sound count refusal list ec er el = rw (sound, ← found.long) (by (ltb (length reply) r.length) ec er)
    where
      by : (b : Bool) → count ≡ cond b 0 r.length → refusal ≡ cond b 14 0
          → loop_reading (loop_read refusal count) list
          ≡ cond b (loop_reading (loop_read 14 0) reply) (loop_reading (loop_read 0 r.length) (loop_k ++ drop r.length reply))
      by true c q = rw (el, c, q)
      by false c q = rw (el, c, q, all_taken)

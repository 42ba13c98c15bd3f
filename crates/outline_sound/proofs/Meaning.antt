-- What holds of the definitions of specs/Meaning.antt.
use Rattle.std.specs.Prelude.{◌≡◌, ◌&&◌, ◌||◌, ◌↔◌, List, T, length, Float}
use Rattle.std.proofs.Math.Path.{refl}
use Rattle.std.proofs.Common.{sym, subst, true≢false, arith, eqb→eq}
use Rattle.std.proofs.Math.Bool.{Bool, true, false, not}
use Prim.Native.Nat.{ℕ, suc, ◌≤◌, ◌<◌}
use Rattle.std.proofs.Math.Dec.{eqb, T_not, not_T}
use Rattle.std.specs.Float.Ieee.Bits.{is_true, is_false}
use Rattle.std.specs.Float.Ieee.Fits.{and_i, and_l, and_r, eq→eqb}
use Rattle.laws.specs.Loop.{any_up, any_found, any_none}
use Rattle.outline.specs.Outline.{Outline, hole_at, loop_at, points, after}
use Rattle.outline_sound.specs.Sound.{segment_start, segment_end, meets, folds_back, neighbours, folds_at, clash, crosses_itself, touch, is_inside, strays_out, lies_in, outline_sound}
use Rattle.outline_sound.specs.MeetsLaws.{four}
use Rattle.outline_sound.proofs.MeetsLaws.{meets_shares}
use Rattle.outline_sound.proofs.FoldsLaws.{folds_shares}
use Rattle.outline_sound.specs.Meaning.{Touching, Folding, Simple, SoundOutline}

-- ---- searches that find nothing

module _ (n : ℕ) (test : ℕ → Bool) where
  none : T (not (any_up n test)) ↔ ((i : ℕ) → i < n → T (test i) → ⊥)
  none = (
    λ h i l t. T_not (test i) (subst (λ (b : Bool). T (not b)) (sym (any_none test n (is_false (any_up n test) h) i l)) tt) t,
    λ f. not_T (any_up n test) (λ t. let r = any_found test n (is_true (any_up n test) t) in f r.0 r.1 (subst T (sym r.2) tt)),
  )

  -- the same as a refusal of the search
  quiet : (T (any_up n test) → ⊥) ↔ ((i : ℕ) → i < n → T (test i) → ⊥)
  quiet = (λ h. none.0 (not_T (any_up n test) h), λ f. T_not (any_up n test) (none.1 f))

-- of two searches, one in the other
quiet₂ : (n : ℕ) (m : ℕ → ℕ) (test : ℕ → ℕ → Bool)
    → (T (any_up n (λ i. any_up (m i) (λ j. test i j))) → ⊥) ↔ ((i j : ℕ) → i < n → j < m i → T (test i j) → ⊥)
quiet₂ n m test =
    let outer = quiet n (λ i. any_up (m i) (λ j. test i j)) in (
      λ h i j l k. (quiet (m i) (λ j. test i j)).0 (outer.0 h i l) j k,
      λ f. outer.1 (λ i l. (quiet (m i) (λ j. test i j)).1 (λ j k. f i j l k)),
    )

-- ---- one loop

-- the three parts of `clash`
clash_parts : (p q r m : Bool) → (T (p || (q || (not r && m))) → ⊥) ↔ ((T p → ⊥) × (T q → ⊥) × (r ≡ false → T m → ⊥))
clash_parts true q r m = (λ h. absurd (h tt), λ h. h.0)
clash_parts false true r m = (λ h. absurd (h tt), λ h. h.1)
clash_parts false false true m = (λ h. (λ t. t, λ t. t, λ e t. absurd (true≢false e)), λ h t. t)
clash_parts false false false m = (λ h. (λ t. t, λ t. t, λ e t. h t), λ h. h.2 refl)

module _ (s : List Float) where
  folds_at_lem : (i j : ℕ) → (T (folds_at s i j) → ⊥) ↔ (j ≡ after (points s) i → Folding s i j → ⊥)
  unfolding folds_at
  folds_at_lem i j =
      let n = eqb j (after (points s) i) in
      let f = folds_back (segment_start s i) (segment_start s j) (segment_end s j) in
      let m = folds_shares (segment_start s i) (segment_start s j) (segment_end s j) in (
        λ h e t. h (and_i n f (eq→eqb e) (m.1 t)),
        λ h t. h (eqb→eq j (after (points s) i) (and_l n f t)) (m.0 (and_r n f t)),
      )

  clashes : (i j : ℕ) → (T (clash s j i) → ⊥)
      ↔ ((i ≡ after (points s) j → Folding s j i → ⊥) × (j ≡ after (points s) i → Folding s i j → ⊥)
      × (neighbours (points s) j i ≡ false → Touching s j s i → ⊥))
  unfolding clash
  clashes i j =
      let c = clash_parts (folds_at s j i) (folds_at s i j) (neighbours (points s) j i) (meets (segment_start s j) (segment_end s j) (segment_start s i) (segment_end s i)) in
      let m = meets_shares (segment_start s j) (segment_end s j) (segment_start s i) (segment_end s i) in (
        λ h. let p = c.0 h in ((folds_at_lem j i).0 p.0, (folds_at_lem i j).0 p.1, λ e t. p.2 e (m.1 t)),
        λ h. c.1 ((folds_at_lem j i).1 h.0, (folds_at_lem i j).1 h.1, λ e t. h.2 e (m.0 t)),
      )

  simple_means : (T (crosses_itself s) → ⊥) ↔ Simple s
  unfolding crosses_itself
  simple_means =
      let q = quiet₂ (points s) (λ i. i) (λ i j. clash s j i) in (
        λ h. record {
          apart = λ i j l m. ((clashes i j).0 (q.0 h i j l m)).2;
          next = λ i j l m. ((clashes i j).0 (q.0 h i j l m)).0;
          last = λ i j l m. ((clashes i j).0 (q.0 h i j l m)).1;
        },
        λ h. q.1 (λ i j l m. (clashes i j).1 (h.next i j l m, h.last i j l m, h.apart i j l m)),
      )

-- ---- two loops

touch_means : (s t : List Float) → (T (touch s t) → ⊥) ↔ ((i j : ℕ) → i < points s → j < points t → Touching s i t j → ⊥)
unfolding touch
touch_means s t =
    let q = quiet₂ (points s) (λ i. points t) (λ i j. meets (segment_start s i) (segment_end s i) (segment_start t j) (segment_end t j)) in (
      λ h i j l m e. q.0 h i j l m ((meets_shares (segment_start s i) (segment_end s i) (segment_start t j) (segment_end t j)).1 e),
      λ f. q.1 (λ i j l m e. f i j l m ((meets_shares (segment_start s i) (segment_end s i) (segment_start t j) (segment_end t j)).0 e)),
    )

-- ---- holes

module _ (o : Outline) where
  strays_means : (k : ℕ) → (T (strays_out o k) → ⊥) ↔ ((i : ℕ) → i < points (hole_at o k) → is_inside (segment_start (hole_at o k) i) o.outer ≡ true)
  unfolding strays_out
  strays_means k =
      let q = quiet (points (hole_at o k)) (λ i. not (is_inside (segment_start (hole_at o k) i) o.outer)) in (
        λ h i l. (yes_of (is_inside (segment_start (hole_at o k) i) o.outer)).0 (q.0 h i l),
        λ f. q.1 (λ i l. (yes_of (is_inside (segment_start (hole_at o k) i) o.outer)).1 (f i l)),
      )
    where
      yes_of : (b : Bool) → (T (not b) → ⊥) ↔ (b ≡ true)
      yes_of true = (λ h. refl, λ e t. t)
      yes_of false = (λ h. absurd (h tt), λ e. absurd (true≢false (sym e)))

  lies_means : (k l : ℕ) → (T (lies_in o k l) → ⊥)
      ↔ ((k ≡ l → ⊥) → (i : ℕ) → i < points (hole_at o k) → is_inside (segment_start (hole_at o k) i) (hole_at o l) ≡ false)
  unfolding lies_in
  lies_means k l =
      let test : ℕ → Bool = λ i. is_inside (segment_start (hole_at o k) i) (hole_at o l) in
      let found = any_up (points (hole_at o k)) test in
      let q = quiet (points (hole_at o k)) test in (
        λ h f i m. (no_of (test i)).0 (q.0 (λ t. h (and_i (not (eqb k l)) found (not_T (eqb k l) (λ e. f (eqb→eq k l e))) t)) i m),
        λ f t. q.1 (λ i m. (no_of (test i)).1 (f (λ e. T_not (eqb k l) (and_l (not (eqb k l)) found t) (eq→eqb e)) i m))
            (and_r (not (eqb k l)) found t),
      )
    where
      no_of : (b : Bool) → (T b → ⊥) ↔ (b ≡ false)
      no_of true = (λ h. absurd (h tt), λ e. absurd (true≢false e))
      no_of false = (λ h. refl, λ e t. t)

-- ---- the law

-- the four searches of `outline_sound`
module _ (o : Outline) where
  abbrev holes : ℕ
  holes = length o.lens

  abbrev crossings : Bool
  crossings = any_up (suc holes) (λ k. crosses_itself (loop_at o k))

  abbrev touches : Bool
  touches = any_up (suc holes) (λ k. any_up k (λ l. touch (loop_at o k) (loop_at o l)))

  abbrev strays : Bool
  strays = any_up holes (λ k. strays_out o k)

  abbrev nests : Bool
  nests = any_up holes (λ k. any_up holes (λ l. lies_in o k l))

-- AN OUTLINE IS JUDGED SOUND EXACTLY IF IT IS SOUND IN WORDS.
pub sound_means : (o : Outline) → T (outline_sound o) ↔ SoundOutline o
unfolding outline_sound
sound_means o =
    let parts = four (not (crossings o)) (not (touches o)) (not (strays o)) (not (nests o)) in
    let crossing = none (suc (holes o)) (λ k. crosses_itself (loop_at o k)) in
    let touching = quiet₂ (suc (holes o)) (λ k. k) (λ k l. touch (loop_at o k) (loop_at o l)) in
    let straying = none (holes o) (λ k. strays_out o k) in
    let nesting = quiet₂ (holes o) (λ k. holes o) (λ k l. lies_in o k l) in (
      λ t.
          let p = parts.0 t in
          record {
            simple = λ k l. (simple_means (loop_at o k)).0 (crossing.0 p.0 k (up l));
            clear = λ k l m n. (touch_means (loop_at o k) (loop_at o l)).0 (touching.0 (T_not (touches o) p.1) k l (up m) n);
            within = λ k i l. (strays_means o k).0 (straying.0 p.2 k l) i;
            outside = λ k l m n. (lies_means o k l).0 (nesting.0 (T_not (nests o) p.3) k l m n);
          },
      λ h. parts.1 (
        crossing.1 (λ k l. (simple_means (loop_at o k)).1 (h.simple k (down l))),
        not_T (touches o) (touching.1 (λ k l m n. (touch_means (loop_at o k) (loop_at o l)).1 (h.clear k l (down m) n))),
        straying.1 (λ k l. (strays_means o k).1 (λ i. h.within k i l)),
        not_T (nests o) (nesting.1 (λ k l m n. (lies_means o k l).1 (h.outside k l m n))),
      ),
    )
  where
    up : {k n : ℕ} → k ≤ n → k < suc n
    up h = omega arith

    down : {k n : ℕ} → k < suc n → k ≤ n
    down h = omega arith

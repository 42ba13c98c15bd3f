-- What holds of the definitions of proofs/PlacingBase.antt.
use Rattle.std.specs.Prelude.{ℕ, ◌+◌, ◌<◌, ◌≤◌, ◌≡◌, refl, true, ◌≢◌, length, eqb}
use mathlib.Core.List.{List, [], ◌∷◌, ◌++◌}
use Rattle.std.proofs.Math.Path.{sym, ap}
use Rattle.std.proofs.Common.{◌∙◌, arith, length-append, eq-eqb, ne_eqb}
use Rattle.topology.specs.Sums.{All, total, path_sum, loop_sum, front_sum, Even, path_append}
use Rattle.topology.specs.Links.{off, at, link_of, at_self}
use Rattle.topology.specs.Front.{Front, FrontOf, front_same}
use Rattle.topology.proofs.Front.{edge_first, source, target, edge_next, next_edge, no_self}
use Rattle.topology.specs.Front.{in_edge, Last, empty, last, last_of}
use Rattle.topology.proofs.Front.{edge_prev, prev_of_next}
use Rattle.topology.proofs.Changes.{reversed, removed_sum, added_sum, Valid, AmongNodes, OffFront, changed}
use Rattle.topology.proofs.PlacingBase.{Kind, reused, fresh, placing, ByKind, Placeable, After}

-- ---- the loop after

-- the loop l after the placing
record Reshaped (kc kd : Kind) (a b c d : ℕ) (l : List ℕ) : Type 0 where
  loop : List ℕ
  even : Even loop
  sums : (w : ℕ → ℕ → ℕ) → loop_sum w loop + removed_sum w (placing kc kd a b c d) ≡ loop_sum w l + added_sum w (placing kc kd a b c d)

-- the rest R of the loop a b R: a reused c is its last node, a reused d its first
reshaped : (kc kd : Kind) (a b c d : ℕ) (R : List ℕ) → Even (a ∷ b ∷ R) → c ≢ d
    → ByKind kc ((M : List ℕ) × (R ≡ M ++ c ∷ [])) (Unit {0}) → ByKind kd ((Q : List ℕ) × (R ≡ d ∷ Q)) (Unit {0})
    → Reshaped kc kd a b c d (a ∷ b ∷ R)
unfolding loop_sum path_sum
reshaped fresh fresh a b c d R E cd hc hd =
    record { loop = a ∷ c ∷ d ∷ b ∷ R; even = record { even = omega (arith, E.even); two = omega arith }; sums = λ w. omega arith }
reshaped reused fresh a b c d R E cd hc hd =
    let M = hc.0 in
    let whole = ap length hc.1 in
    let short = length-append M (c ∷ []) in
    let long = length-append M (c ∷ d ∷ []) in
    record {
      loop = b ∷ (M ++ c ∷ d ∷ []);
      even = record { even = omega (arith, E.even); two = omega arith };
      sums = λ w.
          omega (
            arith,
            ap (λ (l : List ℕ). path_sum w b l a) hc.1,
            path_append w b M c [] a,
            path_append w b M c (d ∷ []) b,
          );
    }
reshaped fresh reused a b c d R E cd hc hd =
    let Q = hd.0 in
    record {
      loop = a ∷ c ∷ d ∷ Q;
      even = record { even = omega (arith, E.even, ap length hd.1); two = omega arith };
      sums = λ w. omega (arith, ap (λ (l : List ℕ). path_sum w b l a) hd.1);
    }
reshaped reused reused a b c d R E cd hc hd = by hc.0 hd.0 hc.1 hd.1
  where
    by : (M Q : List ℕ) → R ≡ M ++ c ∷ [] → R ≡ d ∷ Q → Reshaped reused reused a b c d (a ∷ b ∷ R)
    by [] Q p q = let e : c ≡ d = cc in absurd (cd e)
    by (x ∷ M) Q p q =
        let e : Q ≡ M ++ c ∷ [] = cc in
        let long = length-append M (c ∷ []) in
        record {
          loop = d ∷ Q;
          even = record { even = omega (arith, E.even, ap length q); two = omega (arith, ap length e, long) };
          sums = λ w.
              omega (
                arith,
                ap (λ (l : List ℕ). path_sum w b l a) q,
                ap (λ (l : List ℕ). path_sum w d l a) e,
                ap (λ (l : List ℕ). path_sum w d l d) e,
                path_append w d M c [] a,
                path_append w d M c [] d,
              );
        }

-- ---- the changes can be made, one by one

ids_within : (kc kd : Kind) (n a b c d : ℕ) → a < n → b < n → c < n → d < n → All (AmongNodes n) (placing kc kd a b c d)
ids_within reused reused n a b c d ha hb hc hd = ((ha, hb), ((hc, ha), ((hb, hd), ((hc, hd), tt))))
ids_within reused fresh n a b c d ha hb hc hd = ((ha, hb), ((hc, ha), ((hc, hd), ((hd, hb), tt))))
ids_within fresh reused n a b c d ha hb hc hd = ((ha, hb), ((hb, hd), ((ha, hc), ((hc, hd), tt))))
ids_within fresh fresh n a b c d ha hb hc hd = ((ha, hb), ((ha, hc), ((hc, hd), ((hd, hb), tt))))

eqb_self : (x : ℕ) → eqb x x ≡ true
eqb_self x = eq-eqb x x refl

module _ (a b c d : ℕ) (ab : a ≢ b) (ac : a ≢ c) (ad : a ≢ d) (bc : b ≢ c) (bd : b ≢ d) (cd : c ≢ d) where
  valid_next : (kc kd : Kind) (f : ℕ → ℕ) → f a ≡ b → ByKind kc (f c ≡ a) (f c ≡ off) → ByKind kd (f b ≡ d) (f d ≡ off)
      → Valid f (placing kc kd a b c d)
  valid_next reused reused f e hc hd =
      (e, (simp ne_eqb hc, (simp (ne_eqb, ne_eqb c b (λ q. bc (sym q))) hd, (simp (ne_eqb, eqb_self), tt))))
  valid_next reused fresh f e hc hd = (e, (simp ne_eqb hc, (simp (ne_eqb, eqb_self), (simp ne_eqb hd, tt))))
  valid_next fresh reused f e hc hd = (e, (simp ne_eqb hd, (simp (ne_eqb b a (λ q. ab (sym q)), eqb_self), (simp ne_eqb hc, tt))))
  valid_next fresh fresh f e hc hd = (e, (simp eqb_self, (simp ne_eqb hc, (simp ne_eqb hd, tt))))

  valid_prev : (kc kd : Kind) (g : ℕ → ℕ) → g b ≡ a → ByKind kc (g a ≡ c) (g c ≡ off) → ByKind kd (g d ≡ b) (g d ≡ off)
      → Valid g (reversed (placing kc kd a b c d))
  valid_prev reused reused g e hc hd = (e, (simp (ne_eqb b a (λ q. ab (sym q))) hc, (simp ne_eqb hd, (simp eqb_self, tt))))
  valid_prev reused fresh g e hc hd =
      (e, (simp (ne_eqb b a (λ q. ab (sym q))) hc, (simp ne_eqb hd, (simp (ne_eqb, ne_eqb d b (λ q. bd (sym q)), eqb_self), tt))))
  valid_prev fresh reused g e hc hd =
      (e, (simp ne_eqb hd, (simp (ne_eqb, ne_eqb d c (λ q. cd (sym q))) hc, (simp (ne_eqb, eqb_self), tt))))
  valid_prev fresh fresh g e hc hd =
      (e, (simp ne_eqb hc, (simp ne_eqb hd, (simp (ne_eqb c b (λ q. bc (sym q)), ne_eqb d b (λ q. bd (sym q)), eqb_self), tt))))

-- ---- the corners

-- What is known of the far corner x on the loop a b R: N and P are its links where it is reused, and S its place in R.
record FarCorner (k : Kind) (n : ℕ) (f g : ℕ → ℕ) (a b x : ℕ) (N P S : Type 0) : Type 0 where
  node : x < n
  other_a : a ≢ x
  other_b : b ≢ x
  next : ByKind k N (f x ≡ off)
  prev : ByKind k P (g x ≡ off)
  place : ByKind k S (Unit {0})

module _ (n : ℕ) (f g : ℕ → ℕ) (a b : ℕ) (LS : List (List ℕ)) (fa : f a ≡ b) (node : b ≢ off) where
  fresh_corner : (x : ℕ) (R : List ℕ) (N P S : Type 0) → Front n f g ((a ∷ b ∷ R) ∷ LS) → OffFront n f g x
      → FarCorner fresh n f g a b x N P S
  unfolding total loop_sum path_sum
  fresh_corner x R N P S F h =
      let gb = prev_of_next n f g _ F a b node fa in
      let an = source n f _ F.loops a b (omega (arith, at_self a b)) in
      record {
        node = h.node;
        other_a = λ e. node (sym fa ∙ (ap f e ∙ h.next));
        other_b = λ e. omega (arith, sym gb ∙ (ap g e ∙ h.prev), F.loops.few);
        next = h.next;
        prev = h.prev;
        place = tt;
      }

  corner_c_lem : (k : Kind) (c : ℕ) (R : List ℕ) → Front n f g ((a ∷ b ∷ R) ∷ LS) → ByKind k ((g a ≡ c) × (c ≢ b)) (OffFront n f g c)
      → FarCorner k n f g a b c (f c ≡ a) (g a ≡ c) ((M : List ℕ) × (R ≡ M ++ c ∷ []))
  unfolding total loop_sum path_sum
  corner_c_lem fresh c R F h = fresh_corner c R _ _ _ F h
  corner_c_lem reused c R F h = by (last_of R) F
    where
      by : {R : List ℕ} → Last R → Front n f g ((a ∷ b ∷ R) ∷ LS)
          → FarCorner reused n f g a b c (f c ≡ a) (g a ≡ c) ((M : List ℕ) × (R ≡ M ++ c ∷ []))
      by empty F = absurd (h.1 (sym h.0 ∙ edge_prev n f g _ F b a (omega (arith, at_self b a))))
      by (last M m) F =
          let there : 0 < front_sum (at m a) ((a ∷ b ∷ (M ++ m ∷ [])) ∷ LS) = omega (arith, in_edge b M m a) in
          let mn = source n f _ F.loops m a there in
          let e : c ≡ m = sym h.0 ∙ edge_prev n f g _ F m a there in
          let fc : f c ≡ a = ap f e ∙ edge_next n f _ F.loops m a there in
          record {
            node = omega arith;
            other_a = λ q. no_self n f _ F.loops c (omega arith) (fc ∙ q);
            other_b = λ q. h.1 (sym q);
            next = fc;
            prev = h.0;
            place = (M, ap (λ (k : ℕ). M ++ k ∷ []) (sym e));
          }

  corner_d_lem : (k : Kind) (d : ℕ) (R : List ℕ) → Front n f g ((a ∷ b ∷ R) ∷ LS) → ByKind k ((f b ≡ d) × (d ≢ a)) (OffFront n f g d)
      → FarCorner k n f g a b d (f b ≡ d) (g d ≡ b) ((Q : List ℕ) × (R ≡ d ∷ Q))
  unfolding total loop_sum path_sum
  corner_d_lem fresh d R F h = fresh_corner d R _ _ _ F h
  corner_d_lem reused d [] F h = absurd (h.1 (sym h.0 ∙ edge_next n f _ F.loops b a (omega (arith, at_self b a))))
  corner_d_lem reused d (r ∷ R) F h =
      let there : 0 < front_sum (at b r) ((a ∷ b ∷ r ∷ R) ∷ LS) = omega (arith, at_self b r) in
      let rn = target n f _ F.loops b r there in
      let e : d ≡ r = sym h.0 ∙ edge_next n f _ F.loops b r there in
      record {
        node = omega arith;
        other_a = λ q. h.1 (sym q);
        other_b = λ q. no_self n f _ F.loops b (source n f _ F.loops b r there) (h.0 ∙ sym q);
        next = h.0;
        prev = rw e (edge_prev n f g _ F b r there);
        place = (R, ap (λ (k : ℕ). k ∷ R) (sym e));
      }

-- ---- the theorem

-- on the loops turned so that the edge a to b comes first
placed_first : (kc kd : Kind) (n : ℕ) (next prev : List ℕ) (R : List ℕ) (LS : List (List ℕ)) (a b c d : ℕ)
    → FrontOf n next prev ((a ∷ b ∷ R) ∷ LS) → n ≤ length next → n ≤ length prev
    → Placeable kc kd n (link_of n next) (link_of n prev) a b c d → After n next prev ((a ∷ b ∷ R) ∷ LS) (placing kc kd a b c d)
unfolding total loop_sum path_sum
placed_first kc kd n next prev R LS a b c d F hn hp p =
    let f = link_of n next in
    let g = link_of n prev in
    let L = F.loops in
    let there : 0 < front_sum (at a b) ((a ∷ b ∷ R) ∷ LS) = omega (arith, at_self a b) in
    let an = source n f _ L a b there in
    let bn = target n f _ L a b there in
    let ab : a ≢ b = λ e. no_self n f _ L a an (p.edge ∙ sym e) in
    let C = corner_c_lem n f g a b LS p.edge p.node kc c R F p.corner_c_lem in
    let D = corner_d_lem n f g a b LS p.edge p.node kd d R F p.corner_d_lem in
    let r = reshaped kc kd a b c d R L.evens.0 p.apart C.place D.place in
    record {
      loops = r.loop ∷ LS;
      count = refl;
      changes =
          changed n next prev _ (r.loop ∷ LS) (placing kc kd a b c d) F hn hp
          (ids_within kc kd n a b c d an bn C.node D.node)
          (valid_next a b c d ab C.other_a D.other_a C.other_b D.other_b p.apart
          kc kd f p.edge C.next D.next)
          (valid_prev a b c d ab C.other_a D.other_a C.other_b D.other_b p.apart
          kc kd g (edge_prev n f g _ F a b there) C.prev D.prev)
          (r.even, L.evens.1) (λ w. omega (arith, r.sums w));
    }

-- a quad is placed: the loops stay closed and even, and there are as many
pub placed : (kc kd : Kind) (n : ℕ) (next prev : List ℕ) (ls : List (List ℕ)) (a b c d : ℕ) → FrontOf n next prev ls
    → n ≤ length next → n ≤ length prev → Placeable kc kd n (link_of n next) (link_of n prev) a b c d
    → After n next prev ls (placing kc kd a b c d)
placed kc kd n next prev ls a b c d F hn hp p =
    let f = link_of n next in
    let g = link_of n prev in
    let s = edge_first a b ls F.loops.evens (omega (arith, next_edge n f ls F.loops a b p.node p.edge)) in
    let ts = (a ∷ b ∷ s.rest) ∷ s.others in
    let A = placed_first kc kd n next prev s.rest s.others a b c d (front_same n f g ls ts s.same s.evens F) hn hp p in
    let H = A.changes in
    record {
      loops = A.loops;
      count = A.count ∙ sym s.count;
      changes =
          record { within = H.within; steps = H.steps; sums = λ w. omega (arith, s.same w, H.sums w); front = H.front };
    }

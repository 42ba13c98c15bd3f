-- A step of the book keeps every front edge between nodes of one number, and numbers once written stay.
use Prim.Native.Nat.{ℕ, zero, suc, ◌+◌, ◌<◌, ◌≤◌}
use mathlib.Core.List.{List, [], ◌∷◌, ◌++◌}
use Rattle.std.specs.Prelude.{◌≡◌, Bool, cond, ◌||◌, leb, Float}
use Rattle.std.proofs.Math.Path.{refl}
use Rattle.std.proofs.Common.{sym, ◌∙◌, subst, true≢false, arith, length-append, eqb-true, eq-eqb, ne_eqb, leb-true, leb-false}
use Rattle.std.proofs.Math.Bool.{true, false}
use Rattle.std.proofs.Math.Option.{Option, none, some}
use Rattle.std.proofs.Math.Dec.{eqb}
use Rattle.std.proofs.Math.ListN.{length, get_or, get_or-append}
use Rattle.std.proofs.lemmas.List.{get_or_at}
use Rattle.std.specs.Float.Ieee.{nan}
use Rattle.laws.specs.Loop.{for_up}
use Rattle.outline.specs.Outline.{Outline}
use Rattle.topology.specs.Sums.{All}
use Rattle.front.specs.State.{State}
use Rattle.front_lent_mesh.specs.declared.QuadIds.{QuadIds}
use Rattle.front_lent_mesh.specs.Mesh.{quad_in}
use Rattle.front_lent_mesh.proofs.Answered.{ids_of}
use Rattle.books.specs.Book.{Edge, edge, Book, book, Quad, quad_at, is_edge, has, without, and_then, comes_off, goes_on, new_node, side, book_quad}
use Rattle.books.specs.Book.{book_after, start_book}
use Rattle.books.proofs.BookBase.{is_edge_lem, Gives, gives_then}
use Rattle.front_sampled.proofs.Lists.{all_append, all_at}
use Rattle.run_origins.specs.Origins.{origin_of, push_origin, quad_origins, origins_after, sampled_origins, SameOrigin, SameAlong, SameInQuad}

-- ---- definitions

-- the numbers l belong to a book, and are below n
pub record Numbered (n : ℕ) (l : List ℕ) (b : Book) : Type 0 where
  pub long : length l ≡ length b.xs
  pub known : All (λ number. number < n) l
  pub fronts : SameAlong l b.front

-- m has the numbers of l, and perhaps more
pub record ExtendsOrigins (l m : List ℕ) : Type 0 where
  pub more : length l ≤ length m
  pub kept : (u : ℕ) → u < length l → origin_of m u ≡ origin_of l u

-- ---- numbers that are the same

pub same_self : {l : List ℕ} {u : ℕ} → u < length l → SameOrigin l u u
same_self h = record { left = h; right = h; equal = refl }

pub same_back : {l : List ℕ} {u v : ℕ} → SameOrigin l u v → SameOrigin l v u
same_back S = record { left = S.right; right = S.left; equal = sym S.equal }

pub same_join : {l : List ℕ} {u v w : ℕ} → SameOrigin l u v → SameOrigin l v w → SameOrigin l u w
same_join S T = record { left = S.left; right = T.right; equal = S.equal ∙ T.equal }

same_kept : {l m : List ℕ} {u v : ℕ} → ExtendsOrigins l m → SameOrigin l u v → SameOrigin m u v
same_kept {l} {m} {u} {v} E S =
    record {
      left = omega (arith, E.more, S.left);
      right = omega (arith, E.more, S.right);
      equal = E.kept u S.left ∙ S.equal ∙ sym (E.kept v S.right);
    }

along_kept : {l m : List ℕ} → ExtendsOrigins l m → (es : List Edge) → SameAlong l es → SameAlong m es
along_kept E [] A = tt
along_kept E (e ∷ es) A = (same_kept E A.0, along_kept E es A.1)

quad_kept : {l m : List ℕ} {q : QuadIds} → ExtendsOrigins l m → SameInQuad l q → SameInQuad m q
quad_kept E Q = record { b = same_kept E Q.b; d = same_kept E Q.d; c = same_kept E Q.c }

extended_same : (l : List ℕ) → ExtendsOrigins l l
extended_same l = record { more = omega arith; kept = λ u h. refl }

extended_trans : {l m r : List ℕ} → ExtendsOrigins l m → ExtendsOrigins m r → ExtendsOrigins l r
extended_trans E F =
    record { more = omega (arith, E.more, F.more); kept = λ u h. F.kept u (omega (arith, E.more)) ∙ E.kept u h }

extended_append : (l m : List ℕ) → ExtendsOrigins l (l ++ m)
extended_append l m = record { more = omega (arith, length-append l m); kept = λ u h. get_or-append l m 0 u h }

-- ---- edges of a front

module _ (l : List ℕ) where
  -- what comes off leaves edges that were there
  along_without : (e : Edge) (es : List Edge) → SameAlong l es → SameAlong l (without e es)
  unfolding without
  along_without e [] A = tt
  along_without e (f ∷ es) A = by (is_edge e f) (along_without e es A.1)
    where
      by : (t : Bool) → SameAlong l (without e es) → SameAlong l (cond t es (f ∷ without e es))
      by true later = A.1
      by false later = (A.0, later)

  -- an edge that is there joins nodes of one number
  pub along_has : (u v : ℕ) (es : List Edge) → SameAlong l es → has (edge u v) es ≡ true → SameOrigin l u v
  unfolding has
  along_has u v [] A h = absurd (true≢false (sym h))
  along_has u v (e ∷ es) A h = by (is_edge (edge u v) e) refl h (along_has u v es A.1)
    where
      by : (t : Bool) → is_edge (edge u v) e ≡ t → t || has (edge u v) es ≡ true → (has (edge u v) es ≡ true → SameOrigin l u v) → SameOrigin l u v
      by true q h later = let p = is_edge_lem u v e q in rw (p.0, p.1) A.0
      by false q h later = later h

-- ---- the edge that comes off first

record FirstOff (n : ℕ) (l : List ℕ) (u v : ℕ) (b : Book) : Type 0 where
  numbered : Numbered n l b
  same : SameOrigin l u v

first_off : (n u v : ℕ) (b : Book) (l : List ℕ) → Numbered n l b → Gives (FirstOff n l u v) (comes_off (edge u v) b)
unfolding comes_off
first_off n u v b l N = by (has (edge u v) b.front) refl
  where
    by : (t : Bool) → has (edge u v) b.front ≡ t
        → Gives (FirstOff n l u v) (cond t (some (book b.xs b.ys (without (edge u v) b.front))) none)
    by true h =
        record {
          numbered = record { long = N.long; known = N.known; fronts = along_without l (edge u v) b.front N.fronts };
          same = along_has l u v b.front N.fronts h;
        }
    by false h = tt

-- ---- a side of a quad

push_old : (a id : ℕ) (l : List ℕ) → id < length l → push_origin a id l ≡ l
unfolding push_origin
push_old a id l h = rw (ne_eqb id (length l) (λ e. omega arith))

push_new : (a id : ℕ) (l : List ℕ) → id ≡ length l → push_origin a id l ≡ l ++ origin_of l a ∷ []
unfolding push_origin
push_new a id l h = rw (eq-eqb id (length l) h)

-- what a side leaves: node id has the number of a
record SideNumbered (n a id : ℕ) (l m : List ℕ) (b : Book) : Type 0 where
  numbered : Numbered n m b
  extends : ExtendsOrigins l m
  same : SameOrigin m a id

-- the side from u to v, between id and the node w, which has a's number
module _ (n a id w u v : ℕ) (s : State) (b : Book) (l : List ℕ) (N : Numbered n l b) (A : SameOrigin l a w)
    (there : SameOrigin l u v → SameOrigin l w id) (back : (m : List ℕ) → SameOrigin m w id → SameOrigin m v u) where
  side_old : FirstOff n l u v (book b.xs b.ys (without (edge u v) b.front))
      → SideNumbered n a id l (push_origin a id l) (book b.xs b.ys (without (edge u v) b.front))
  side_old F =
      let S = same_join A (there F.same) in
      rw (push_old a id l S.right) (record { numbered = F.numbered; extends = extended_same l; same = S })

  side_new : (x y : Float) → id ≡ length b.xs
      → SideNumbered n a id l (push_origin a id l) (goes_on (edge v u) (book (b.xs ++ x ∷ []) (b.ys ++ y ∷ []) b.front))
  side_new x y new =
      rw (push_new a id l (new ∙ sym N.long))
      (record {
        numbered = record {
          long = omega (arith, longer, N.long, length-append b.xs (x ∷ []));
          known = all_append _ l (origin_of l a ∷ []) N.known (all_at _ l N.known a 0 A.left, tt);
          fronts = (back m (same_join (same_back (same_kept E A)) same), along_kept E b.front N.fronts);
        };
        extends = E;
        same = same;
      })
    where
      m : List ℕ
      m = l ++ origin_of l a ∷ []

      E : ExtendsOrigins l m
      E = extended_append l (origin_of l a ∷ [])

      longer : length m ≡ length l + 1
      longer = length-append l (origin_of l a ∷ [])

      same : SameOrigin m a id
      same =
          record {
            left = omega (arith, longer, A.left);
            right = omega (arith, longer, N.long, new);
            equal = E.kept a A.left ∙ sym (get_or_at l (origin_of l a) [] 0 id (N.long ∙ sym new));
          }

  at_side : Gives (SideNumbered n a id l (push_origin a id l)) (side s id (edge u v) (edge v u) b)
  unfolding side new_node comes_off
  at_side = by (has (edge u v) b.front) refl (first_off n u v b l N)
    where
      new : (t : Bool) → eqb id (length b.xs) ≡ t
          → Gives (SideNumbered n a id l (push_origin a id l))
          (and_then (cond t (some (book (b.xs ++ get_or s.xs id nan ∷ []) (b.ys ++ get_or s.ys id nan ∷ []) b.front)) none)
          (λ c. some (goes_on (edge v u) c)))
      new true q = side_new (get_or s.xs id nan) (get_or s.ys id nan) (eqb-true id (length b.xs) q)
      new false q = tt

      by : (t : Bool) → has (edge u v) b.front ≡ t
          → Gives (FirstOff n l u v) (cond t (some (book b.xs b.ys (without (edge u v) b.front))) none)
          → Gives (SideNumbered n a id l (push_origin a id l))
          (cond t (cond t (some (book b.xs b.ys (without (edge u v) b.front))) none)
          (and_then (new_node s id b) (λ c. some (goes_on (edge v u) c))))
      by true h F = side_old F
      by false h F = new (eqb id (length b.xs)) refl

-- ---- a quad

-- what it leaves
pub record QuadNumbered (n : ℕ) (q : Quad) (l : List ℕ) (b : Book) : Type 0 where
  pub numbered : Numbered n (quad_origins (ids_of q) l) b
  pub extends : ExtendsOrigins l (quad_origins (ids_of q) l)
  pub quad : SameInQuad (quad_origins (ids_of q) l) (ids_of q)
  -- its first node had a number before
  pub old : q.a < length l

pub quad_step : (n : ℕ) (s : State) (q : Quad) (b : Book) (l : List ℕ) → Numbered n l b → Gives (QuadNumbered n q l) (book_quad s q b)
unfolding book_quad
quad_step n s q b0 l N =
    gives_then _ (QuadNumbered n q l) _ (comes_off (edge q.a q.b) b0) (first_off n q.a q.b b0 l N) λ b1 F.
    gives_then _ (QuadNumbered n q l) _ (side s q.c (edge q.c q.a) (edge q.a q.c) b1)
    (at_side n q.a q.c q.a q.c q.a s b1 l F.numbered (same_self F.same.left) (λ S. same_back S) (λ m S. S)) λ b2 C.
    gives_then _ (QuadNumbered n q l) _ (side s q.d (edge q.b q.d) (edge q.d q.b) b2)
    (at_side n q.a q.d q.b q.b q.d s b2 _ C.numbered (same_kept C.extends F.same) (λ S. S) (λ m S. same_back S)) λ b3 D.
    let E = extended_trans C.extends D.extends in
    let with_c = same_kept D.extends C.same in
    record {
      numbered = record {
        long = D.numbered.long;
        known = D.numbered.known;
        fronts = (same_join (same_back with_c) D.same, D.numbered.fronts);
      };
      extends = E;
      quad = record { b = same_kept E F.same; d = D.same; c = with_c };
      old = F.same.left;
    }

-- ---- all quads

-- after k quads
pub record NumberedAfter (n : ℕ) (o : Outline) (size : Float) (quads : List ℕ) (k : ℕ) (b : Book) : Type 0 where
  pub numbered : Numbered n (origins_after o size quads k) b
  pub each : (i : ℕ) → i < k → SameInQuad (origins_after o size quads k) (quad_in quads i)
  pub old : (i : ℕ) → i < k → (quad_in quads i).a < length (origins_after o size quads i)

-- what holds below k and at k holds below k + 1
below_next : (P : ℕ → Type 0) (k : ℕ) → ((i : ℕ) → i < k → P i) → P k → (i : ℕ) → i < suc k → P i
below_next P k before here i h = by (leb (suc i) k) refl
  where
    by : (t : Bool) → leb (suc i) k ≡ t → P i
    by true e = before i (leb-true (suc i) k e)
    by false e = let same : k ≡ i = omega (arith, leb-false (suc i) k e) in subst P same here

module _ (n : ℕ) (o : Outline) (size : Float) (s : State) where
  next_after : (k : ℕ) (c : Book) {b : Book} → NumberedAfter n o size s.quads k b → QuadNumbered n (quad_at s k) (origins_after o size s.quads k) c
      → NumberedAfter n o size s.quads (suc k) c
  unfolding origins_after for_up quad_at quad_in
  next_after k c A Q =
      let l = origins_after o size s.quads k in
      record {
        numbered = Q.numbered;
        each =
            below_next (λ i. SameInQuad (quad_origins (quad_in s.quads k) l) (quad_in s.quads i)) k
            (λ i h. quad_kept Q.extends (A.each i h)) Q.quad;
        old = below_next (λ i. (quad_in s.quads i).a < length (origins_after o size s.quads i)) k A.old Q.old;
      }

  gives_next : (k : ℕ) {b : Book} → NumberedAfter n o size s.quads k b → (m : Option Book)
      → Gives (QuadNumbered n (quad_at s k) (origins_after o size s.quads k)) m → Gives (NumberedAfter n o size s.quads (suc k)) m
  gives_next k A none Q = tt
  gives_next k A (some c) Q = next_after k c A Q

  -- wherever the book has gone through
  pub numbered_after : Numbered n (sampled_origins o size) (start_book o size) → (k : ℕ) → Gives (NumberedAfter n o size s.quads k) (book_after o size s k)
  unfolding book_after origins_after for_up
  numbered_after N zero = record { numbered = N; each = λ i h. absurd (omega arith); old = λ i h. absurd (omega arith) }
  numbered_after N (suc k) =
      gives_then _ (NumberedAfter n o size s.quads (suc k)) (book_quad s (quad_at s k)) (book_after o size s k) (numbered_after N k)
      (λ b A. gives_next k A (book_quad s (quad_at s k) b) (quad_step n s (quad_at s k) b (origins_after o size s.quads k) A.numbered))

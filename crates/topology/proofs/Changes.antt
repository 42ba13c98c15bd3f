-- Changes of the front: edges are removed and added one by one, as `remove_front` and `add_front` do, and links that matched the
-- loops before match other loops after, where the sums over the edges say so.
use Rattle.std.specs.Prelude.{ℕ, ◌+◌, ◌<◌, ◌≤◌, List, [], ◌∷◌, ◌≡◌, refl, ◌≢◌, length, set, drop}
use Rattle.std.proofs.Common.{◌∙◌, ap, arith, length-set, drop-set-lt}
use Rattle.topology.specs.Sums.{All, front_sum, Even}
use Rattle.topology.specs.Links.{off, delta, at, link_of, update, at_other, at_off, at_flip, update_law, link_set, link_more, link_out}
use Rattle.topology.specs.Front.{Front, FrontOf}

-- ---- definitions

-- the edge from one node to another comes off the front, or goes on
pub data Change : Type 0 where
  remove : ℕ → ℕ → Change
  add : ℕ → ℕ → Change

-- what the changes store in the links to the next node, by the function `store`: `set` for a list, `update` for a function
abbrev pub stored : {S : Type 0} → (S → ℕ → ℕ → S) → List Change → S → S
stored store [] s = s
stored store (remove u v ∷ cs) s = stored store cs (store s u off)
stored store (add u v ∷ cs) s = stored store cs (store s u v)

-- the same changes of the edges reversed: what they store in the links to the node before
abbrev pub reversed : List Change → List Change
reversed [] = []
reversed (remove u v ∷ cs) = remove v u ∷ reversed cs
reversed (add u v ∷ cs) = add v u ∷ reversed cs

-- a weight over the edges removed, and over those added
abbrev pub removed_sum : (ℕ → ℕ → ℕ) → List Change → ℕ
removed_sum w [] = 0
removed_sum w (remove u v ∷ cs) = w u v + removed_sum w cs
removed_sum w (add u v ∷ cs) = removed_sum w cs

abbrev pub added_sum : (ℕ → ℕ → ℕ) → List Change → ℕ
added_sum w [] = 0
added_sum w (remove u v ∷ cs) = added_sum w cs
added_sum w (add u v ∷ cs) = w u v + added_sum w cs

-- each edge removed is there at its turn, and each edge added goes out of a node that has no link then
abbrev pub Valid : (ℕ → ℕ) → List Change → Type 0
Valid f [] = Unit {0}
Valid f (remove u v ∷ cs) = (f u ≡ v) × Valid (update f u off) cs
Valid f (add u v ∷ cs) = (f u ≡ off) × Valid (update f u v) cs

-- the nodes of an edge are among the first n
abbrev pub AmongNodes : ℕ → Change → Type 0
AmongNodes n (remove u v) = (u < n) × (v < n)
AmongNodes n (add u v) = (u < n) × (v < n)

-- ---- laws

-- a link counts for the edges added, and no more for those removed
stored_law : (f : ℕ → ℕ) (cs : List Change) → Valid f cs → (u v : ℕ) → v ≢ off
    → delta (stored update cs f u) v + removed_sum (at u v) cs ≡ delta (f u) v + added_sum (at u v) cs
stored_law f [] ok u v h = refl
stored_law f (remove x y ∷ cs) ok u v h =
    omega (arith, stored_law (update f x off) cs ok.1 u v h, rw ok.0 at (update_law f x off u v), at_off u v x h)
stored_law f (add x y ∷ cs) ok u v h =
    omega (arith, stored_law (update f x y) cs ok.1 u v h, rw ok.0 at (update_law f x y u v), at_off u v x h)

removed_reversed : (u v : ℕ) (cs : List Change) → removed_sum (at u v) cs ≡ removed_sum (at v u) (reversed cs)
removed_reversed u v [] = refl
removed_reversed u v (remove x y ∷ cs) = omega (arith, at_flip u v x y, removed_reversed u v cs)
removed_reversed u v (add x y ∷ cs) = removed_reversed u v cs

added_reversed : (u v : ℕ) (cs : List Change) → added_sum (at u v) cs ≡ added_sum (at v u) (reversed cs)
added_reversed u v [] = refl
added_reversed u v (remove x y ∷ cs) = added_reversed u v cs
added_reversed u v (add x y ∷ cs) = omega (arith, at_flip u v x y, added_reversed u v cs)

-- an edge added goes out of one of the first n nodes
added_within : (n : ℕ) (cs : List Change) → All (AmongNodes n) cs → (u v : ℕ) → n ≤ u → added_sum (at u v) cs ≡ 0
added_within n [] i u v h = refl
added_within n (remove x y ∷ cs) i u v h = added_within n cs i.1 u v h
added_within n (add x y ∷ cs) i u v h = omega (arith, added_within n cs i.1 u v h, at_other u v x y (omega (arith, i.0.0)))

pub within_reversed : (n : ℕ) (cs : List Change) → All (AmongNodes n) cs → All (AmongNodes n) (reversed cs)
within_reversed n [] i = tt
within_reversed n (remove u v ∷ cs) i = ((i.0.1, i.0.0), within_reversed n cs i.1)
within_reversed n (add u v ∷ cs) i = ((i.0.1, i.0.0), within_reversed n cs i.1)

-- stores in a list of links set the links
pub stored_links : (n : ℕ) (l : List ℕ) (cs : List Change) → All (AmongNodes n) cs → n ≤ length l
    → link_of n (stored set cs l) ≡ stored update cs (link_of n l)
stored_links n l [] i h = refl
stored_links n l (remove u v ∷ cs) i h =
    stored_links n (set l u off) cs i.1 (rw length-set h) ∙ ap (stored update cs) (link_set n l u off i.0.0 h)
stored_links n l (add u v ∷ cs) i h =
    stored_links n (set l u v) cs i.1 (rw length-set h) ∙ ap (stored update cs) (link_set n l u v i.0.0 h)

pub stored_length : (cs : List Change) (l : List ℕ) → length (stored set cs l) ≡ length l
stored_length [] l = refl
stored_length (remove u v ∷ cs) l = stored_length cs (set l u off) ∙ length-set l u off
stored_length (add u v ∷ cs) l = stored_length cs (set l u v) ∙ length-set l u v

-- places past the first n keep their contents
pub stored_past : (n : ℕ) (cs : List Change) (l : List ℕ) → All (AmongNodes n) cs → drop n (stored set cs l) ≡ drop n l
stored_past n [] l i = refl
stored_past n (remove u v ∷ cs) l i = stored_past n cs (set l u off) i.1 ∙ drop-set-lt n l u off i.0.0
stored_past n (add u v ∷ cs) l i = stored_past n cs (set l u v) i.1 ∙ drop-set-lt n l u v i.0.0

-- ---- nodes off the front

-- a node of the first n that has no link, to it or from it
pub record OffFront (n : ℕ) (f g : ℕ → ℕ) (u : ℕ) : Type 0 where
  pub node : u < n
  pub next : f u ≡ off
  pub prev : g u ≡ off

-- one node more: the front stays as it is
pub grown : (n : ℕ) (next prev : List ℕ) (ls : List (List ℕ)) → FrontOf n next prev ls → n < off → n < length next → n < length prev
    → FrontOf (n + 1) (set next n off) (set prev n off) ls
grown n next prev ls F few hn hp =
    let L = F.loops in
    rw (link_more n next hn, link_more n prev hp)
    (record {
      loops = record { few = omega arith; evens = L.evens; inside = λ u v h. L.inside u v (omega arith); nexts = L.nexts };
      prevs = F.prevs;
    })

-- and that node is off it
pub grown_off : (n : ℕ) (next prev : List ℕ) → n < length next → n < length prev
    → OffFront (n + 1) (link_of (n + 1) (set next n off)) (link_of (n + 1) (set prev n off)) n
grown_off n next prev hn hp =
    rw (link_more n next hn, link_more n prev hp)
    (record { node = omega arith; next = link_out n next n (omega arith); prev = link_out n prev n (omega arith) })

-- as any other that was off it
pub off_kept : (n : ℕ) (next prev : List ℕ) (u : ℕ) → n < length next → n < length prev
    → OffFront n (link_of n next) (link_of n prev) u
    → OffFront (n + 1) (link_of (n + 1) (set next n off)) (link_of (n + 1) (set prev n off)) u
off_kept n next prev u hn hp o =
    rw (link_more n next hn, link_more n prev hp) (record { node = omega (arith, o.node); next = o.next; prev = o.prev })

-- ---- the theorem

-- What changes leave: the loops ms where ls were.
pub record Changed (n : ℕ) (next prev : List ℕ) (ls ms : List (List ℕ)) (cs : List Change) : Type 0 where
  -- each change is of nodes, and can be made at its turn
  pub within : All (AmongNodes n) cs
  pub steps : Valid (link_of n next) cs
  -- whatever is summed over the edges: the loops after and what came off are the loops before and what went on
  pub sums : (w : ℕ → ℕ → ℕ) → front_sum w ms + removed_sum w cs ≡ front_sum w ls + added_sum w cs
  -- the links after are inverse to each other, and are those of the loops after, which are even
  pub front : FrontOf n (stored set cs next) (stored set (reversed cs) prev) ms

links_changed : (n : ℕ) (f g : ℕ → ℕ) (ls ms : List (List ℕ)) (cs : List Change) → Front n f g ls
    → All (AmongNodes n) cs → Valid f cs → Valid g (reversed cs) → All Even ms
    → ((w : ℕ → ℕ → ℕ) → front_sum w ms + removed_sum w cs ≡ front_sum w ls + added_sum w cs)
    → Front n (stored update cs f) (stored update (reversed cs) g) ms
links_changed n f g ls ms cs F i vf vg evens sums =
    let L = F.loops in
    record {
      loops = record {
        few = L.few;
        evens = evens;
        inside = λ u v h. omega (arith, sums (at u v), L.inside u v h, added_within n cs i u v h);
        nexts = λ u v h. omega (arith, sums (at u v), L.nexts u v h, stored_law f cs vf u v h);
      };
      prevs = λ u v h.
          omega (
            arith,
            sums (at u v),
            F.prevs u v h,
            stored_law g (reversed cs) vg v u h,
            removed_reversed u v cs,
            added_reversed u v cs,
          );
    }

-- even loops whose edges are those of ls but for the changes are the loops of the changed links
pub changed : (n : ℕ) (next prev : List ℕ) (ls ms : List (List ℕ)) (cs : List Change) → FrontOf n next prev ls
    → n ≤ length next → n ≤ length prev
    → All (AmongNodes n) cs → Valid (link_of n next) cs → Valid (link_of n prev) (reversed cs) → All Even ms
    → ((w : ℕ → ℕ → ℕ) → front_sum w ms + removed_sum w cs ≡ front_sum w ls + added_sum w cs)
    → Changed n next prev ls ms cs
changed n next prev ls ms cs F hn hp i vf vg evens sums =
    record {
      within = i;
      steps = vf;
      sums = sums;
      front =
          rw (stored_links n next cs i hn, stored_links n prev (reversed cs) (within_reversed n cs i) hp)
          (links_changed n (link_of n next) (link_of n prev) ls ms cs F i vf vg evens sums);
    }

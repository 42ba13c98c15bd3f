-- The turn of the code at an edge of a pass. Assumes nothing.
use Rattle.std.proofs.Math.Path.{◌≡◌, refl}
use Rattle.std.proofs.Common.{sym, ◌∙◌, ap, ap₂, arith}
use Rattle.std.specs.Prelude.{Bool, not, ◌&&◌, List, [], ◌≢◌, ℕ, ◌<◌, eqb, get_or, Float, Option, Some, None, Ok, Err}
use Rattle.std.specs.declared.ops.ControlFlow.{ControlFlow}
use Rattle.std.specs.declared.ops.ControlFlow.TheVariants.{Continue, Break}
use Rattle.paving.specs.declared.End.{End}
use Rattle.std.proofs.Math.Bool.{true, false, cond}
use Rattle.std.proofs.Math.Dec.{leb}
use Rattle.laws.specs.Loop.{go, out}
use Rattle.topology.specs.Links.{off, link_read}
use Rattle.outline.specs.Outline.{Outline}
use Rattle.field_direction.specs.declared.Grid.{Grid}
use Rattle.field_direction.specs.Record.{FieldRecord, field_record}
use Rattle.front.specs.declared.Corner.{Corner}
use Rattle.front.specs.declared.Full.{Full as NoPlaces}
use Rattle.front.specs.State.{State, next_of}
use Rattle.front.specs.Place.{place}
use Rattle.front.specs.Stores.{PlacesQuad}
use Rattle.front.proofs.KnownLaws.{placed_full, placed_done}
use Rattle.front.specs.Ready.{Ready}
use Rattle.front.specs.declared.FarCorners.{FarCorners}
use Rattle.paving.specs.declared.End.TheVariants.{Cap, Full}
use Rattle.paving.specs.Attempt.{try_edge, far}
use Rattle.paving.specs.Advance.{paved, passing, most_quads, after_quad, settle, is_there, pass_turn}
use Rattle.paving.specs.ReachLaws.{tried}
use Rattle.books.proofs.Answered.{choice}
use Rattle.paving_attempts.specs.Seen.{seen_of}
use Rattle.paving_attempts.proofs.SeenLaws.{try_seen}
use Rattle.paving_retries.specs.Vain.{Remembers}
use Rattle.paving_retries.proofs.VainBase.{there_is}
use Rattle.paving_retries.specs.Untried.{seen_mesh, Untried}
use Rattle.paving_ends.specs.Answers.{snapshot_edge, settled, quad_settled}
use Rattle.paving_settling.specs.Paveable.{Paveable, Held, ready}

-- ---- an edge of the snapshot

module _ (next b : ℕ) where
  abbrev there : Bool
  there = not (eqb b off) && eqb next b

  -- what the code's answer says
  pub snapshot_edge_gone : {e : Option ℕ} → e ≡ snapshot_edge next b → e ≡ None → there ≡ false
  unfolding snapshot_edge
  snapshot_edge_gone {e} f g = by there (sym g ∙ f)
    where
      by : (t : Bool) → None ≡ cond t (Some b) None → t ≡ false
      by true q = absurd (let z : ◌≡◌ {A = ℕ} 0 1 = cc in omega arith)
      by false q = refl

  pub snapshot_edge_there : {e : Option ℕ} {v : ℕ} → e ≡ snapshot_edge next b → e ≡ Some v → (there ≡ true) × (b ≡ v)
  unfolding snapshot_edge
  snapshot_edge_there {e} {v} f g = by there (sym g ∙ f)
    where
      by : (t : Bool) → Some v ≡ cond t (Some b) None → (t ≡ true) × (b ≡ v)
      by true q = (refl, cc)
      by false q = absurd (let z : ◌≡◌ {A = ℕ} 0 1 = cc in omega arith)

-- ---- one edge of a pass

module _ (o : Outline) (size : Float) (g : Grid) (values : List Float) (s : State) (a : ℕ) (less : a < s.counts.nodes) (L : Held s)
    {edge : Option ℕ} (e : edge ≡ snapshot_edge (get_or s.next a 0) (get_or s.snapshot a 0)) where
  abbrev field : FieldRecord
  field = field_record g values []

  abbrev b : ℕ
  b = get_or s.snapshot a 0

  link_now : get_or s.next a 0 ≡ next_of s a
  link_now = link_read s.counts.nodes s.next a less L.next

  pub settle_gone : edge ≡ None → (some : Bool) → go (passing s some) ≡ pass_turn o size field a (passing s some)
  unfolding pass_turn
  settle_gone q some = rw (ap (λ (n : ℕ). there n b) (sym link_now) ∙ snapshot_edge_gone (get_or s.next a 0) b e q)

  module _ {to : ℕ} (f : edge ≡ Some to) where
    on : is_there s a to ≡ true
    on =
        let h = snapshot_edge_there (get_or s.next a 0) b e f in
        ap₂ there (sym link_now) (sym h.1) ∙ h.0

    pub settle_node : to ≢ off
    settle_node = (there_is s a to on).0

    pub settle_untried : Paveable g values s → {l : List ℕ} → Remembers o size field l (seen_mesh s)
        → Untried o size field (seen_of s) l a to
    settle_untried P R =
        record {
          state = s;
          same = refl;
          sampled = P.sampled;
          loops = P.loops;
          sound = P.sound;
          known = P.known;
          node = less;
          there = on;
          remembers = R;
        }

    module _ (t : Option FarCorners) (u : t ≡ try_edge o size field (seen_of s) a to) where
      is_try : try_edge o size field s a to ≡ t
      is_try = sym (try_seen s field o size a to) ∙ sym u

      turned : (some : Bool) → settle a to t (passing s some) ≡ pass_turn o size field a (passing s some)
      unfolding pass_turn
      turned some =
          rw ((snapshot_edge_there (get_or s.next a 0) b e f).1, on) (ap (λ (x : Option FarCorners). settle a to x (passing s some)) (sym is_try))

      pub settle_same : t ≡ None → (some : Bool) → go (passing s some) ≡ pass_turn o size field a (passing s some)
      settle_same q some = rw q at (turned some)

      module _ (c d : Corner) (q : t ≡ Some (far c d)) where
        pub settle_ready : Paveable g values s → Ready s a to c d
        settle_ready P =
            let A = tried o size field s a to c d (is_try ∙ q) in
            ready g values s P a to c d (choice o size s a to A.da A.db c d on A.answered)

        quad_turned : (some : Bool) → settle a to (Some (far c d)) (passing s some) ≡ pass_turn o size field a (passing s some)
        quad_turned some = rw q at (turned some)

        pub settle_full : (e : NoPlaces) (t : State) → PlacesQuad a to c d s (Err e) t → (some : Bool)
            → out (out (paved t Full)) ≡ pass_turn o size field a (passing s some)
        settle_full e t P some =
            let f = placed_full a to c d s t e P in
            rw f.1 (rw f.0 at (quad_turned some))

        pub settle_done : (u : Unit {0}) (t : State) → PlacesQuad a to c d s (Ok u) t → {w : ControlFlow End Bool} → w ≡ quad_settled t.counts.quads
            → (some : Bool) → settled w some t ≡ pass_turn o size field a (passing s some)
        unfolding after_quad quad_settled
        settle_done u t P {w} v some =
            let f = placed_done a to c d s t u P in
            let turn : after_quad (place a to c d s) ≡ pass_turn o size field a (passing s some) = rw f.0 at (quad_turned some) in
            rw v (by (leb most_quads t.counts.quads) refl ∙ (ap after_quad f.1 ∙ turn))
          where
            by : (cap : Bool) → leb most_quads t.counts.quads ≡ cap → settled (cond cap (Break Cap) (Continue true)) some t ≡ after_quad t
            by true e = rw e
            by false e = rw e

-- The laws of a placing's stores (StoreLaws) over the quad as the code has it. Assumes nothing.
use Rattle.std.specs.Prelude.{Bool, true, false, List, ◌≡◌, ℕ, ◌+◌, Float, Err, Ok}
use Rattle.std.proofs.Common.{refl, sym, ap, subst, ◌∙◌}
use Rattle.front.specs.declared.Counts.{Counts}
use Rattle.front.specs.declared.Corner.{Corner}
use Rattle.front.specs.declared.NewQuad.{NewQuad}
use Rattle.front.specs.State.{State, state_of}
use Rattle.front.specs.Place.{added, corner_id, new_quad}
use Rattle.front.specs.Ready.{Ready}
use Rattle.front.specs.Stores.{PlacesQuad, counts_with_quad, is_beyond, known_across, new_edges, store_x, store_y, store_edges, store_quad, store_next, store_prev}
use Rattle.front.proofs.StoreLaws.{Fitting, when_full, when_fits, when_stored}

module _ (s : State) (a b : ℕ) (c d : Corner) (R : Ready s a b c d) (more : ℕ) (across : Bool) (w : ℕ) (pm : more ≡ added c + added d)
    (pk : across ≡ known_across s.edges s.counts.edges c d) (pw : w ≡ new_edges across c d) where
  abbrev C : ℕ
  C = corner_id s.counts.nodes c

  abbrev D : ℕ
  D = corner_id (s.counts.nodes + added c) d

  beyond : {b : Bool} → is_beyond s more w ≡ b → is_beyond s (added c + added d) w ≡ b
  beyond e = ap (λ (m : ℕ). is_beyond s m w) (sym pm) ∙ e

  pub quad_full : is_beyond s more w ≡ true → PlacesQuad a b c d s (Err (record {})) s
  quad_full e = when_full s a b c d R (added c) (added d) C D across w refl refl refl refl pk pw (beyond e)

  pub quad_fits : is_beyond s more w ≡ false → Fitting s a b c d C D across w
  quad_fits e = when_fits s a b c d R (added c) (added d) C D across w refl refl refl refl pk pw (beyond e)

  pub quad_stored : is_beyond s more w ≡ false → (q : NewQuad) → q ≡ new_quad s.counts.nodes a b c d
      → {xs ys : List Float} {next prev quads edges : List ℕ} {k : Counts}
      → (xs ≡ store_x d (s.counts.nodes + added c) (store_x c s.counts.nodes s.xs))
      × (ys ≡ store_y d (s.counts.nodes + added c) (store_y c s.counts.nodes s.ys))
      → edges ≡ store_edges across q.c q.d q.a q.b q.id_c q.id_d s.counts.edges s.edges
      → quads ≡ store_quad s.counts.quads a b q.id_d q.id_c s.quads
      → (next ≡ store_next q.c q.d q.a q.b q.id_c q.id_d s.next) × (prev ≡ store_prev q.c q.d q.a q.b q.id_c q.id_d s.prev)
      → k ≡ counts_with_quad s.counts c d w
      → PlacesQuad a b c d s (Ok tt) (state_of xs ys next prev s.snapshot quads edges k)
  quad_stored fits q is {xs} {ys} {next} {prev} {quads} {edges} {k} px =
      subst
      (λ (q : NewQuad).
      edges ≡ store_edges across q.c q.d q.a q.b q.id_c q.id_d s.counts.edges s.edges → quads ≡ store_quad s.counts.quads a b q.id_d q.id_c s.quads
      → (next ≡ store_next q.c q.d q.a q.b q.id_c q.id_d s.next) × (prev ≡ store_prev q.c q.d q.a q.b q.id_c q.id_d s.prev)
      → k ≡ counts_with_quad s.counts c d w → PlacesQuad a b c d s (Ok tt) (state_of xs ys next prev s.snapshot quads edges k)) (sym is)
      (when_stored s a b c d C D across w (quad_fits fits) px)

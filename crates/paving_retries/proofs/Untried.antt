-- What holds of the definitions of specs/Untried.antt.
use Rattle.std.specs.Prelude.{List, [], ◌≡◌, refl, Bool, true, false, ℕ, Float, Option, Some, None, is_some}
use Rattle.std.proofs.Common.{sym, ◌∙◌, subst, true≢false}
use Rattle.outline.specs.Outline.{Outline}
use Rattle.field_direction.specs.declared.Grid.{Grid}
use Rattle.field_direction.specs.Record.{FieldRecord, field_record}
use Rattle.front.specs.State.{State, next_of, prev_of}
use Rattle.front.specs.Sound.{Sound}
use Rattle.front.specs.Ready.{Known}
use Rattle.front.specs.declared.FarCorners.{FarCorners}
use Rattle.paving.specs.Attempt.{try_edge}
use Rattle.paving_attempts.specs.Seen.{seen_of}
use Rattle.paving_attempts.proofs.SeenLaws.{try_seen}
use Rattle.paving_retries.specs.Vain.{is_vain, noted, Remembers}
use Rattle.paving_retries.proofs.VainBase.{there_is, noted_again}
use Rattle.paving_retries.proofs.VainLaws.{remembers_same, vain_fails, failed_now, noted_remembers}
use Rattle.paving_retries.specs.Untried.{seen_mesh, Untried}

-- ---- laws

-- an option without a value
pub none_is : {A : Type 0} (r : Option A) → is_some r ≡ false → r ≡ None
none_is None e = refl
none_is (Some x) e = absurd (true≢false e)

module _ (o : Outline) (size : Float) (g : Grid) (values : List Float) where
  abbrev field : FieldRecord
  field = field_record g values []

  -- a note of what was tried in vain in s
  noted_in : (s : State) (l : List ℕ) (a b n : ℕ) (ls : List (List ℕ)) → Sound n s ls → Known s → next_of s a ≡ b
      → try_edge o size field (seen_of s) a b ≡ None → Remembers o size field l (seen_mesh s)
      → Remembers o size field (noted l a b (prev_of s a) (next_of s b)) (seen_mesh s)
  noted_in s l a b n ls S K edge nothing R =
      let F = failed_now o size field s n ls S K a b edge (sym (try_seen s field o size a b) ∙ nothing) in
      let A = remembers_same o size field l (seen_mesh s) s refl refl refl refl R in
      remembers_same o size field (noted l a b (prev_of s a) (next_of s b)) s (seen_mesh s) refl refl refl refl
      (noted_remembers o size field l s a b (prev_of s a) (next_of s b) F A)

  module _ (t : State) (l : List ℕ) (a b : ℕ) (U : Untried o size field t l a b) {p q : ℕ} (before : p ≡ prev_of t a) (after : q ≡ next_of t b) where
    -- an edge that the list has
    pub untried_vain : {v : Bool} → v ≡ is_vain l a b p q → v ≡ true → None ≡ try_edge o size field t a b
    untried_vain e taken =
        let R = remembers_same o size field l (seen_mesh t) t refl refl refl refl U.remembers in
        sym (vain_fails o size field l t R a b U.node U.there (rw (before, after) at (sym e ∙ taken)))

    pub untried_kept : {v : Bool} → v ≡ is_vain l a b p q → v ≡ true → l ≡ noted l a b (prev_of t a) (next_of t b)
    untried_kept e taken = noted_again l a b (prev_of t a) (next_of t b) (rw (before, after) at (sym e ∙ taken))

    pub untried_left : {m : List ℕ} → m ≡ noted l a b p q → m ≡ noted l a b (prev_of t a) (next_of t b)
    untried_left left = rw (before, after) at left

    -- one that was tried in vain, and is noted
    pub untried_noted : {r : Option FarCorners} {m : List ℕ} → r ≡ try_edge o size field t a b → r ≡ None → m ≡ noted l a b p q
        → Remembers o size field m (seen_mesh t)
    untried_noted {r} {m} e nothing left =
        subst (λ (k : List ℕ). Remembers o size field k (seen_mesh t)) (sym (rw (before, after) at left))
        (by U.state t U.same U.sound U.known (there_is t a b U.there).1 (sym e ∙ nothing) U.remembers)
      where
        by : (s u : State) → seen_of s ≡ u → Sound U.sampled s U.loops → Known s → next_of u a ≡ b → try_edge o size field u a b ≡ None
            → Remembers o size field l (seen_mesh u) → Remembers o size field (noted l a b (prev_of u a) (next_of u b)) (seen_mesh u)
        by s u h S K edge vain R =
            subst
            (λ (u : State). next_of u a ≡ b → try_edge o size field u a b ≡ None → Remembers o size field l (seen_mesh u)
            → Remembers o size field (noted l a b (prev_of u a) (next_of u b)) (seen_mesh u)) h
            (noted_in s l a b U.sampled U.loops S K) edge vain R

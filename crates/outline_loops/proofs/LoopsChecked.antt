-- Refusals 2 and 3, loop by loop.
use Rattle.std.specs.Prelude.{List, ◌≡◌, ℕ, suc, ◌+◌, ◌<◌, length, Float}
use Rattle.std.proofs.Common.{sym, ◌∙◌, subst, arith}
use Rattle.laws.specs.Loop.{Loop, loop_start_lem, loop_next, loop_end, for_up_stays}
use Rattle.outline.specs.Outline.{Outline, loop_at, first_of, loop_refusal, loops_refusal}
use Rattle.outline.proofs.RefusalLaws.{first_stays}
use Rattle.outline_loops.proofs.LoopList.{loop_turn, over_loops}

abbrev first_refusal : ℕ → List Float → ℕ → ℕ
first_refusal k s r = first_of r (loop_refusal s)

module _ (o : Outline) where
  abbrev turn : ℕ → ℕ → ℕ
  turn = loop_turn o first_refusal

  -- none of the first k loops is refused
  abbrev pub NoneRefused : ℕ → Type 0
  NoneRefused k = Loop turn 0 (suc (length o.lens)) k 0

  pub none_start : NoneRefused 0
  none_start = loop_start_lem turn 0 (suc (length o.lens))

  pub none_next : {k : ℕ} → NoneRefused k → k < suc (length o.lens) → loop_refusal (loop_at o k) ≡ 0 → NoneRefused (k + 1)
  none_next {k} l h e = subst (Loop turn 0 (suc (length o.lens)) (k + 1)) e (loop_next turn 0 l h)

  pub none_end : {k : ℕ} → NoneRefused k → suc (length o.lens) ≡ k → 0 ≡ loops_refusal o
  unfolding loops_refusal
  none_end l h = loop_end turn 0 l (omega (arith, h)) ∙ over_loops o first_refusal 0

  pub one_refused : {k : ℕ} (r : ℕ) → NoneRefused k → k < suc (length o.lens) → loop_refusal (loop_at o k) ≡ r → (r ≡ 0 → ⊥) → r ≡ loops_refusal o
  unfolding loops_refusal
  one_refused {k} r l i e h =
      let next = loop_next turn 0 l i in
      sym (for_up_stays (suc (length o.lens)) (k + 1) turn 0 r next.within (sym next.same ∙ e) (λ j. first_stays r (loop_refusal (loop_at o j)) h))
      ∙ over_loops o first_refusal 0

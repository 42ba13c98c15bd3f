-- What holds of the definitions of proofs/TakingBase.antt.
use Rattle.std.specs.Prelude.{Bool, true, false, List, ◌≡◌, refl, ◌≢◌, ℕ, suc, ◌+◌, ◌-◌, ◌≤◌, ◌<◌, ltb, eqb, length, get_or, set}
use Rattle.std.proofs.Math.Path.{sym}
use Rattle.std.proofs.Common.{◌∙◌, ap, subst, arith, length-set, get_or-set_same, get_or-set_other, ltb-true, ltb-false, lt-ltb, le-ltb, eqb-true, eq-eqb, ne_eqb}
use Rattle.std.proofs.lemmas.List.{set-get_or}
use Rattle.std.proofs.lemmas.Bool.{eqb-false}
use Rattle.laws.specs.Loop.{Loop, loop_start_lem, loop_next, loop_end, for_up, for_up_stays}
use Rattle.topology.specs.Links.{off, link_in_lem, link_read}
use Rattle.paving.specs.Advance.{copy_turn, copied}
use Rattle.paving_snapshots.specs.Stretches.{stretched, node_after, Joining, joining, join_node, joining_turn, stretches_joined, OffBoth, Stretches}
use Rattle.paving_snapshots.proofs.StretchLaws.{fewer_same, fewer_stretched, stretches_stretched, stretches_copied, after_more, after_few, after_off}
use Rattle.paving_snapshots.proofs.TakingBase.{loop_over, Taking}

module _ (next snapshot₀ tried₀ : List ℕ) (n : ℕ) (few : n ≤ length next) where
  pub taking_starts : Stretches tried₀ n next snapshot₀ → Taking next snapshot₀ tried₀ n 0 0 snapshot₀ tried₀
  unfolding for_up
  taking_starts S =
      record {
        loop = loop_start_lem (copy_turn next) snapshot₀ n;
        long = refl;
        gone = λ j low high. absurd (omega arith);
        stretches = S;
        fewer = fewer_same tried₀;
        turns = 0;
        few = omega arith;
        joined = refl;
      }

  module _ {from i : ℕ} {snapshot tried : List ℕ} (T : Taking next snapshot₀ tried₀ n from i snapshot tried) where
    pub taking_ends : n ≤ i → snapshot ≡ copied n next snapshot₀
    unfolding copied
    taking_ends h = loop_end (copy_turn next) snapshot₀ T.loop h

    pub taking_joined : n ≤ i → tried ≡ stretches_joined next n tried₀
    unfolding stretches_joined
    taking_joined h =
        let within = T.loop.within in
        sym
        (ap (λ (s : Joining). s.tried)
        (for_up_stays n T.turns (joining_turn next n) (joining 0 0 tried₀) (joining from i tried) (omega (arith, T.few)) (sym T.joined)
        (λ k. rw (le-ltb i n h))))

    -- a turn of the definition
    joined_next : i < n → {s : Joining} → join_node next n (joining from i tried) ≡ s → s ≡ for_up (suc T.turns) (joining_turn next n) (joining 0 0 tried₀)
    unfolding for_up
    joined_next less e =
        sym e ∙ (rw (lt-ltb i n less) at (ap (joining_turn next n T.turns) T.joined))

    module _ (less : i < n) (fits : n ≤ length snapshot₀) where
      abbrev after : List ℕ
      after = set snapshot i (get_or next i 0)

      room : i < length snapshot
      room = omega (arith, T.long)

      turned : Loop (copy_turn next) snapshot₀ n (i + 1) after
      turned =
          subst (λ (x : ℕ). Loop (copy_turn next) snapshot₀ n (i + 1) (set snapshot i x))
          (sym (link_read n next i less few ∙ link_in_lem n next i less)) (loop_next (copy_turn next) snapshot₀ T.loop less)

      long_after : length after ≡ length snapshot₀
      long_after = length-set snapshot i (get_or next i 0) ∙ T.long

      copies : Stretches tried n next after
      copies = stretches_copied tried n next snapshot i room T.stretches

      -- a node on the front
      pub taking_on : get_or next i 0 ≢ off → Taking next snapshot₀ tried₀ n (i + 1) (i + 1) after tried
      taking_on on =
          record {
            loop = turned;
            long = long_after;
            gone = λ j low high. absurd (omega arith);
            stretches = copies;
            fewer = T.fewer;
            turns = suc T.turns;
            few = omega (arith, T.few);
            joined = joined_next less (rw (ne_eqb (get_or next i 0) off on));
          }

      -- a node off it: on to the end of the stretch
      module _ (none : get_or next i 0 ≡ off) where
        abbrev last : ℕ
        last = node_after tried i n

        here : OffBoth n next after i
        here = (less, none, get_or-set_same snapshot i (get_or next i 0) 0 room ∙ none)

        over : (j : ℕ) → i < j → j < last → OffBoth n next after j
        over j low high = after_off tried i n n next after (omega arith) copies less j low high

        is_copied : (j : ℕ) → OffBoth n next after j → copy_turn next j after ≡ after
        is_copied j O =
            let is : get_or next j off ≡ get_or after j 0 = sym (link_read n next j O.0 few ∙ link_in_lem n next j O.0) ∙ (O.1 ∙ sym O.2) in
            ap (λ (x : ℕ). set after j x) is ∙ set-get_or after j 0

        all_gone : (j : ℕ) → from ≤ j → j < last → OffBoth n next after j
        all_gone j low high = by (ltb j i) refl (eqb j i) refl
          where
            by : (t : Bool) → ltb j i ≡ t → (u : Bool) → eqb j i ≡ u → OffBoth n next after j
            by true h u e =
                let O = T.gone j low (ltb-true j i h) in
                (O.0, O.1, get_or-set_other snapshot i j (get_or next i 0) 0 (λ q. omega (arith, ltb-true j i h)) ∙ O.2)
            by false h true e = rw (eqb-true j i e) here
            by false h false e =
                let less_not = ltb-false j i h in
                let ne = eqb-false j i e in
                over j (omega arith) high

        over_all : Taking next snapshot₀ tried₀ n from last after (stretched tried from last)
        over_all =
            record {
              loop = loop_over (copy_turn next) snapshot₀ last turned (omega (arith, after_more tried i n)) (after_few tried i n less)
                  (λ j low high. is_copied j (over j (omega arith) high));
              long = long_after;
              gone = all_gone;
              stretches = stretches_stretched tried n next after from last all_gone copies;
              fewer = fewer_stretched tried₀ tried from last T.fewer;
              turns = suc T.turns;
              few = omega (arith, T.few, after_more tried i n);
              joined = joined_next less (rw (eq-eqb (get_or next i 0) off none));
            }

        pub taking_over : {end : ℕ} {left : List ℕ} → end ≡ last → left ≡ stretched tried from end → Taking next snapshot₀ tried₀ n from end after left
        taking_over e f = rw (f, e) over_all
